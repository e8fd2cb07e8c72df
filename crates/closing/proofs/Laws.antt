-- What callers need of the states.
-- Assumes nothing.
use mathlib.Core.Path.{◌≡◌, refl, ap}
use mathlib.Core.Bool.{Bool, true, false, ◌&&◌, ◌||◌, cond, or-true, false≢true}
use Rattle.closing.specs.declared.Marks.{Marks}
use Rattle.closing.specs.declared.State.{State}
use Rattle.closing.specs.declared.State.TheVariants.{Active, PeerCloseWait1, PeerCloseWait2, AppCloseWait1, AppCloseWait2, PeerAbortWait, Closed}
use Rattle.closing.specs.Closing.{close_state_of, state_of, number_of, state_at}

-- a state's number names it
pub state_back : (s : State) → state_at (number_of s) ≡ s
unfolding state_at
state_back Active = refl
state_back PeerCloseWait1 = refl
state_back PeerCloseWait2 = refl
state_back AppCloseWait1 = refl
state_back AppCloseWait2 = refl
state_back PeerAbortWait = refl
state_back Closed = refl

-- A sent or not
pub state_aborted : (m : Marks) → m.abort ≡ true → state_of m ≡ PeerAbortWait
unfolding state_of
state_aborted m e = ap (λ (a : Bool). cond a PeerAbortWait (close_state_of m)) e

pub state_unaborted : (m : Marks) → m.abort ≡ false → state_of m ≡ close_state_of m
unfolding state_of
state_unaborted m e = ap (λ (a : Bool). cond a PeerAbortWait (close_state_of m)) e

closed_tests : (ds cs dh ch : Bool) (x y z : State) → cs && ch ≡ true
    → cond (ds || cs) (cond (dh || ch) (cond (cs && ch) Closed x) y) z ≡ Closed
closed_tests ds true dh true x y z e = simp or-true
closed_tests ds true dh false x y z e = absurd (false≢true e)
closed_tests ds false dh ch x y z e = absurd (false≢true e)

-- C sent and heard
pub closed_both : (m : Marks) → m.sent.closed && m.heard.closed ≡ true → close_state_of m ≡ Closed
unfolding close_state_of
closed_both m e = closed_tests m.sent.done m.sent.closed m.heard.done m.heard.closed _ _ _ e
