-- `conn_send::placings_of` meets its contract. Assumes nothing.
use mathlib.Core.Path.{sym, ap}
use Rattle.conn_send.specs.Transmit.{placings_of}
use Rattle.conn_send.proofs.Laws.{one_in, two_in, one_is, two_is}
use Rattle.conn_send.proofs.placings_of.Goals as goal

pub placing_of-requires : goal.placing_of-requires
placing_of-requires c =
    let v = c in
    let s = v in
    (s.requires.0, one_in s.args.rec s.args.s s.requires.1 _ v.in-One.is)

pub placing_of-requires-in-Two : goal.placing_of-requires-in-Two
placing_of-requires-in-Two c =
    let v = c in
    let s = v in
    (s.requires.0, (two_in s.args.rec s.args.s s.requires.1 _ _ v.in-Two.is).0)

pub placing_of-requires-in-Two-2 : goal.placing_of-requires-in-Two-2
placing_of-requires-in-Two-2 c =
    let v = c in
    let s = v in
    (s.requires.0, (two_in s.args.rec s.args.s s.requires.1 _ _ v.in-Two.is).1)

pub returns-in-Nowhere : goal.returns-in-Nowhere
returns-in-Nowhere c = sym (ap (placings_of c.args.rec) c.in-Nowhere.is)

pub returns-in-One : goal.returns-in-One
returns-in-One c =
    let v = c in
    let a = v.args in
    one_is a.rec a.s _ _ v.in-One.is c.placing_of.ensures

pub returns-in-Two : goal.returns-in-Two
returns-in-Two c =
    let v = c in
    let a = v.args in
    two_is a.rec a.s _ _ _ _ v.in-Two.is c.placing_of-in-Two.ensures c.placing_of-in-Two-2.ensures
