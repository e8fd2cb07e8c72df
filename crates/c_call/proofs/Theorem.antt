-- Every call has a number; links and flat links undo each other. Assumes nothing.
use Prim.Native.Nat.{ℕ}
use mathlib.Core.Path.{◌≡◌, refl}
use mathlib.Core.Bool.{Bool, true, false, not}
use Rattle.link_exchange.specs.declared.Role.{Role}
use Rattle.link_exchange.specs.declared.Role.TheVariants.{Client, Server}
use Rattle.link_exchange.specs.Exchange.{client_b}
use Rattle.conn_record.specs.declared.Opening.{Opening}
use Rattle.conn_record.specs.declared.RToken.{RToken}
use Rattle.group_calls.specs.declared.Request.TheVariants as Ons
use Rattle.group_desk.specs.declared.Management.TheVariants as Desk
use Rattle.group_make.specs.declared.Command.TheVariants.{On, Hear, Manage}
use Rattle.c_call.specs.declared.FlatCommand.{FlatCommand}
use Rattle.c_call.specs.Flat.{known_b, named_of, role_of}
use Rattle.c_call.specs.Statement.{EveryCallNumbered, LinksBack, FlatBack}

-- what a number does not name is not looked at
abbrev zero : RToken
zero = record { key = 0; base = 0 }

abbrev none : Opening
none =
    record {
      own = 0;
      peer = 0;
      link = 0;
      remote = record { size = 0; index = 0; link1 = zero; link2 = zero; link3 = zero; link4 = zero };
    }

abbrev on_slot : ℕ → ℕ → ℕ → FlatCommand
on_slot number slot offset = record { number = number; slot = slot; offset = offset; ms = 0; link = 0; opening = none }

abbrev on_link_lem : ℕ → ℕ → ℕ → FlatCommand
on_link_lem number link ms = record { number = number; slot = 0; offset = 0; ms = ms; link = link; opening = none }

pub every_call_numbered : EveryCallNumbered
unfolding known_b named_of
every_call_numbered (On k Ons.Send) = record { by = on_slot 5 k 0; known = refl; names = refl }
every_call_numbered (On k Ons.Urgent) = record { by = on_slot 6 k 0; known = refl; names = refl }
every_call_numbered (On k (Ons.Place at)) = record { by = on_slot 7 k at; known = refl; names = refl }
every_call_numbered (On k Ons.Read) = record { by = on_slot 8 k 0; known = refl; names = refl }
every_call_numbered (On k Ons.Shutdown) = record { by = on_slot 9 k 0; known = refl; names = refl }
every_call_numbered (On k Ons.Close) = record { by = on_slot 10 k 0; known = refl; names = refl }
every_call_numbered (On k Ons.Abort) = record { by = on_slot 11 k 0; known = refl; names = refl }
every_call_numbered Hear = record { by = on_slot 12 0 0; known = refl; names = refl }
every_call_numbered (Manage (Desk.Open k given)) =
    record {
      by = record { number = 1; slot = k; offset = 0; ms = 0; link = 0; opening = given };
      known = refl;
      names = refl;
    }
every_call_numbered (Manage (Desk.Free k)) = record { by = on_slot 2 k 0; known = refl; names = refl }
every_call_numbered (Manage (Desk.Sample l ms)) = record { by = on_link_lem 4 l ms; known = refl; names = refl }

role_back : (r : Role) → role_of (not (client_b r)) ≡ r
unfolding role_of
role_back Client = refl
role_back Server = refl

pub server_back : (server : Bool) → not (client_b (role_of server)) ≡ server
unfolding role_of
server_back true = refl
server_back false = refl

pub links_back : LinksBack
links_back l =
    λ i. record { active = l.active; gauges = l.gauges; role = role_back l.role i; exchange = l.exchange; queue = l.queue }

pub flat_back : FlatBack
flat_back f =
    λ i. record { active = f.active; gauges = f.gauges; server = server_back f.server i; exchange = f.exchange; queue = f.queue }
