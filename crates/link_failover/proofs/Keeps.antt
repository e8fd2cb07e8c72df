-- What a move leaves alone: all of a record but its link, the table's length, and every closed slot. Assumes nothing.
use Prim.Native.Nat.{ℕ, zero, suc}
use mathlib.Core.Path.{◌≡◌, refl, sym, ap, ◌∙◌}
use mathlib.Core.Bool.{Bool, true, false, ◌&&◌, cond}
use mathlib.Core.List.{List, [], ◌∷◌}
use lib.Dec.{ltb}
use lib.ListN.{length, get_or}
use Rattle.conn_record.specs.declared.Record.{Record}
use Rattle.conn_record.specs.Connection.{zero_record, coherent_b}
use Rattle.group_table.specs.Table.{record_at}
use Rattle.link_failover.specs.declared.Plan.{Plan}
use Rattle.link_failover.specs.Failover.{gone_b, moves_b, link_to, moved_of, moved_all}

zero_closed : zero_record.id.opened ≡ false
unfolding zero_record
zero_closed = refl

pub record ButLink (c d : Record) : Type 0 where
  pub opened : d.id.opened ≡ c.id.opened
  pub own : d.id.own ≡ c.id.own
  pub peer : d.id.peer ≡ c.id.peer
  pub remote : d.remote ≡ c.remote
  pub inbound : d.inbound ≡ c.inbound
  pub outbound : d.outbound ≡ c.outbound
  pub marks : d.marks ≡ c.marks

module _ (n : ℕ) (p : Plan) where
  pub moved_keeps : (c : Record) → ButLink c (moved_of n p c)
  unfolding moved_of
  moved_keeps c = go (moves_b n p c)
    where
      go : (b : Bool) → ButLink c (cond b (link_to c p.target) c)
      go true = record { opened = refl; own = refl; peer = refl; remote = refl; inbound = refl; outbound = refl; marks = refl }
      go false = record { opened = refl; own = refl; peer = refl; remote = refl; inbound = refl; outbound = refl; marks = refl }

  -- a closed record stays whole
  pub closed_stays : (c : Record) → c.id.opened ≡ false → moved_of n p c ≡ c
  unfolding moved_of moves_b
  closed_stays c e = go (ltb 0 p.target) c.id.opened e
    where
      go : (b o : Bool) → o ≡ false → cond ((b && (o && gone_b p c.id.link)) && coherent_b n c) (link_to c p.target) c ≡ c
      go false o f = refl
      go true o f = rw f

  zero_stays : moved_of n p zero_record ≡ zero_record
  zero_stays = closed_stays zero_record zero_closed

  pub moved_long : (t : List Record) → length (moved_all n p t) ≡ length t
  unfolding moved_all
  moved_long [] = refl
  moved_long (c ∷ t) = ap suc (moved_long t)

  moved_get : (t : List Record) (i : ℕ) → get_or (moved_all n p t) i zero_record ≡ moved_of n p (get_or t i zero_record)
  unfolding moved_all
  moved_get [] i = sym zero_stays
  moved_get (c ∷ t) zero = refl
  moved_get (c ∷ t) (suc i) = moved_get t i

  -- each slot by itself
  pub moved_at : (t : List Record) (k : ℕ) → record_at (moved_all n p t) k ≡ moved_of n p (record_at t k)
  unfolding record_at
  moved_at t zero = sym zero_stays
  moved_at t (suc i) = moved_get t i
