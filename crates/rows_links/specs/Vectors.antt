-- Request 2026-01, part 10: "a server with link 1 active", its seven lines and what each shows; and document 01's classes of first bytes.
-- Assumes nothing.
use Rattle.std.specs.Prelude.{ℕ, ◌-◌, ◌≡◌, Bool, true, false, List, [], ◌∷◌, ◌++◌, map, length, replicate}
use Rattle.link_message.specs.declared.Kind.{Kind}
use Rattle.link_message.specs.declared.Kind.TheVariants.{ConfirmLink, AddLink, DeleteLink, ConfirmRkey}
use Rattle.link_exchange.specs.declared.Role.TheVariants.{Client, Server}
use Rattle.link_exchange.specs.declared.Exchange.{Exchange}
use Rattle.link_exchange.specs.declared.Fate.{Fate}
use Rattle.link_exchange.specs.declared.Fate.TheVariants.{Taken, Queued, Denied, Dropped}
use Rattle.link_exchange.specs.Exchange.{no_exchange, empty_queue}
use Rattle.gauge.specs.Gauge.{cleared_of}
use Rattle.group_table.specs.declared.Links.{Links}
use Rattle.link_calls.specs.declared.Fields.{Fields}
use Rattle.link_calls.specs.declared.TakenUp.{TakenUp}
use Rattle.link_calls.specs.declared.Settled.{Settled}
use Rattle.link_calls.specs.declared.Heard.{Heard}
use Rattle.link_calls.specs.declared.Sent.{Sent}
use Rattle.link_calls.specs.Calls.{no_fields, none_up, heard_of, sent_of}

pub data Line : Type 0 where
  linksend : ℕ → Kind → List ℕ → Line
  linkmsg : ℕ → List ℕ → Line

-- refusal, fields, fate, reply or message, what was taken up; then exchange, count and links
pub record Shown : Type 0 where
  pub refusal : ℕ
  pub fields : Fields
  pub fate : Fate
  pub bytes : List ℕ
  pub up : TakenUp
  pub exchange : Exchange
  pub count : ℕ
  pub links : List Bool

abbrev shown : ℕ → Fields → Fate → List ℕ → Settled → Shown
shown j f t b s =
    record {
      refusal = j;
      fields = f;
      fate = t;
      bytes = b;
      up = s.up;
      exchange = s.after.exchange;
      count = s.after.queue.count;
      links = s.after.active;
    }

abbrev show_heard : Heard → Shown
show_heard h = shown h.refusal h.fields h.fate h.reply h.settled

abbrev show_sent : Sent → Shown
show_sent s = shown s.refusal no_fields Dropped s.message s.settled

unfoldable pub played : Links → List Line → List Shown
played g [] = []
played g (linksend l k vs ∷ rest) = let r = sent_of g l k vs in show_sent r ∷ played r.settled.after rest
played g (linkmsg l b ∷ rest) = let r = heard_of g l b in show_heard r ∷ played r.settled.after rest

-- zeros to byte 43, and zeros to the twelfth value
abbrev msg : List ℕ → List ℕ
msg b = b ++ replicate (44 - length b) 0

abbrev vals : List ℕ → List ℕ
vals v = v ++ replicate (12 - length v) 0

abbrev fields : Kind → List ℕ → Fields
fields k v = record { named = true; kind = k; values = vals v }

abbrev at : ℕ → ℕ → ℕ → Exchange
at s v w = record { stage = s; v = v; w = w }

abbrev one : List Bool
one = true ∷ false ∷ false ∷ false ∷ []

unfoldable pub server : Links
server = record { active = one; gauges = replicate 4 cleared_of; role = Server; exchange = no_exchange; queue = empty_queue }

abbrev asked : List ℕ
asked = 0 ∷ 0 ∷ 1 ∷ 2 ∷ 131072 ∷ []

unfoldable pub example : List Line
example =
    linksend 1 AddLink (0 ∷ 0 ∷ 0 ∷ 2199023255553 ∷ 18338657682652659712 ∷ 1 ∷ 9 ∷ 2 ∷ 5 ∷ 77 ∷ [])
    ∷ linksend 1 AddLink (0 ∷ 0 ∷ 0 ∷ 0 ∷ 0 ∷ 0 ∷ 0 ∷ 3 ∷ 5 ∷ 0 ∷ [])
    ∷ linkmsg 1 (msg (0x04 ∷ 0x2C ∷ 0x00 ∷ 0x20 ∷ 0x02 ∷ 0x00 ∷ 0x02 ∷ []))
    ∷ linkmsg 1 (msg (0x06 ∷ 0x2C ∷ 0x00 ∷ 0x00 ∷ 0x01 ∷ 0x00 ∷ 0x00 ∷ 0x00 ∷ 0x05 ∷ []))
    ∷ linkmsg 1 (msg (0x02 ∷ 0x2C ∷ 0x00 ∷ 0x80 ∷ (replicate 22 0 ++ (0x00 ∷ 0x00 ∷ 0x41 ∷ 0x02 ∷ 0x05 ∷ []))))
    ∷ linksend 2 ConfirmLink (0 ∷ 0 ∷ 0 ∷ 0 ∷ 0 ∷ 2 ∷ 0 ∷ 4 ∷ [])
    ∷ linkmsg 2 (msg (0x01 ∷ 0x2C ∷ 0x00 ∷ 0x80 ∷ (replicate 25 0 ++ (0x02 ∷ 0x00 ∷ 0x00 ∷ 0x00 ∷ 0x00 ∷ 0x04 ∷ []))))
    ∷ []

abbrev none : List ℕ
none = replicate 44 0

abbrev sends : ℕ → List ℕ → Exchange → ℕ → Shown
sends j b x n = record { refusal = j; fields = no_fields; fate = Dropped; bytes = b; up = none_up; exchange = x; count = n; links = one }

abbrev hears : Fields → Fate → List ℕ → Exchange → ℕ → Shown
hears f t b x n = record { refusal = 0; fields = f; fate = t; bytes = b; up = none_up; exchange = x; count = n; links = one }

unfoldable pub expected : List Shown
expected =
    sends 0
    (msg (
    0x02 ∷ 0x2C ∷ 0x00 ∷ 0x00 ∷ 0x02 ∷ 0x00 ∷ 0x00 ∷ 0x00 ∷ 0x00 ∷ 0x01 ∷ 0xFE ∷ 0x80 ∷ 0x00 ∷ 0x00 ∷ 0x00 ∷ 0x00 ∷ 0x00 ∷ 0x00
    ∷ 0x00 ∷ 0x00 ∷ 0x00 ∷ 0x00 ∷ 0x00 ∷ 0x00 ∷ 0x00 ∷ 0x01 ∷ 0x00 ∷ 0x00 ∷ 0x09 ∷ 0x02 ∷ 0x05 ∷ 0x00 ∷ 0x00 ∷ 0x4D ∷ []
    ))
    (at 1 1 2) 0
    ∷ sends 15 none (at 1 1 2) 0
    ∷ hears (fields DeleteLink asked) Queued none (at 1 1 2) 1
    ∷ hears (fields ConfirmRkey (0 ∷ 0 ∷ 0 ∷ 1 ∷ 5 ∷ [])) Denied
    (msg (0x06 ∷ 0x2C ∷ 0x00 ∷ 0xB0 ∷ 0x01 ∷ 0x00 ∷ 0x00 ∷ 0x00 ∷ 0x05 ∷ [])) (at 1 1 2) 1
    ∷ hears (fields AddLink (1 ∷ 0 ∷ 0 ∷ 0 ∷ 0 ∷ 0 ∷ 65 ∷ 2 ∷ 5 ∷ 0 ∷ [])) Taken none (at 2 1 2) 1
    ∷ sends 0 (msg (0x01 ∷ 0x2C ∷ 0x00 ∷ 0x00 ∷ (replicate 25 0 ++ (0x02 ∷ 0x00 ∷ 0x00 ∷ 0x00 ∷ 0x00 ∷ 0x04 ∷ [])))) (at 4 1 2) 1
    ∷ record {
      refusal = 0;
      fields = fields ConfirmLink (1 ∷ 0 ∷ 0 ∷ 0 ∷ 0 ∷ 2 ∷ 0 ∷ 4 ∷ []);
      fate = Taken;
      bytes = none;
      up = record { some = true; link = 1; fields = fields DeleteLink asked; fate = Taken };
      exchange = no_exchange;
      count = 0;
      links = true ∷ true ∷ false ∷ false ∷ [];
    }
    ∷ []

abbrev pub ExampleRight : Type 0
ExampleRight = played server example ≡ expected

-- THE EDGES OF THE CLASSES, of a client with link 1 active: the first two bytes, with zeros behind them; the refusal, and the fate
pub record Edge : Type 0 where
  pub first : ℕ
  pub second : ℕ
  pub refusal : ℕ
  pub fate : Fate

unfoldable pub client : Links
client = record { active = one; gauges = replicate 4 cleared_of; role = Client; exchange = no_exchange; queue = empty_queue }

abbrev edge : ℕ → ℕ → ℕ → Fate → Edge
edge first second refusal fate = record { first = first; second = second; refusal = refusal; fate = fate }

unfoldable pub edges : List Edge
edges =
    edge 0x00 0x2C 4 Dropped
    ∷ edge 0x01 0x2C 0 Dropped
    ∷ edge 0x02 0x2C 0 Denied
    ∷ edge 0x03 0x2C 0 Dropped
    ∷ edge 0x04 0x2C 14 Dropped
    ∷ edge 0x05 0x2C 4 Dropped
    ∷ edge 0x06 0x2C 0 Taken
    ∷ edge 0x09 0x2C 0 Taken
    ∷ edge 0x0A 0x2C 4 Dropped
    ∷ edge 0x7F 0x2C 4 Dropped
    ∷ edge 0x80 0x2C 0 Dropped
    ∷ edge 0xBF 0x2C 0 Dropped
    ∷ edge 0xC0 0x2C 4 Dropped
    ∷ edge 0xFE 0x2C 4 Dropped
    -- byte 1 is not 2C (optional aside)
    ∷ edge 0x04 0x2B 4 Dropped
    ∷ edge 0x80 0x2B 0 Dropped
    ∷ []

abbrev found : Edge → Edge
found e =
    let h = heard_of client 1 (msg (e.first ∷ e.second ∷ [])) in
    edge e.first e.second h.refusal h.fate

abbrev pub EdgesRight : Type 0
EdgesRight = map found edges ≡ edges

-- TEST LINK is answered with the same 16 bytes; what stands behind them is not looked at
abbrev user : List ℕ
user = 1 ∷ 2 ∷ 3 ∷ 4 ∷ 5 ∷ 6 ∷ 7 ∷ 8 ∷ 9 ∷ 10 ∷ 11 ∷ 12 ∷ 13 ∷ 14 ∷ 15 ∷ 16 ∷ []

abbrev pub TestLinkRight : Type 0
TestLinkRight =
    (heard_of client 1 (0x07 ∷ 0x2C ∷ 0x00 ∷ 0x00 ∷ (user ++ replicate 24 0xFF))).reply ≡ 0x07 ∷ 0x2C ∷ 0x00 ∷ 0x80 ∷ (user ++ replicate 24 0)
