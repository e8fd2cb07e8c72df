-- What a walk, a proof by hand over the program logic, stands on: the names of that logic that it brings in, all from here, and the steps that
-- it takes again and again. A walk names those of them that it has. Assumes nothing.
pub use mathlib.Core.Path.{◌≡◌, refl, sym, ap, ◌∙◌, subst}
pub use mathlib.Core.Bool.{Bool}
pub use Prim.Native.Nat.{ℕ, ◌<◌, ◌^◌, ◌*◌, ◌+◌, ◌-◌, ◌≤◌}
pub use mathlib.Core.List.{List, [], ◌∷◌, ◌++◌}
pub use lib.Dec.{T as Holds, ltb, ltb→lt, lit<}
pub use lib.ListN.{length, set, get_or, length-set, take, drop as drop-list, take-append-drop}
pub use native.Mathlib.Omega.{arith}
pub use seplogic.Ra.Ura.{Ura}
pub use base.Fraction.{full_share}
pub use mir.Syntax.{Body, loop, named, erased, imm, mut, ty_ref, w8, w16, w32, w64, ty_ptr, ty_int, ty_bool, ty_unit, ty_array}
pub use mir.Val.{Val, vunit, vbool, vint, vptr}
pub use base.Logic.{SProp, ent, emp, via, id⊢, fst∗}
pub use base.Fml.{Lft, GName, Share, Fml, ftrue, fat, froom, fdies, flft, flent, fobs, fres, fbor, fsep}
pub use prog.Memory.{Memory}
pub use prog.Routine.{Routine}
pub use prog.Wp.{Heap, Env, Calls, Loops, WpFn, Tables, Out, Wp, after_seq, after_block, at_return}
unfoldable pub use prog.Wp.{after_turn}
pub use ghost.Atoms.{Atoms}
pub use types.Logic.{Logic}
pub use contract.Lifetimes.{Lfts, Shares}
pub use contract.Monad.{Fun}
pub use contract.Running.{tables}
unfoldable pub use contract.Running.{tables_of}
pub use types.Kit.{Item, mean, ‵, later, some, runs, at_ret, Sq, ◌⊛◌, ⋆, ◌$◌, ◌∵◌, !, qed, by, move, keep, drop, use1, use3, split}
pub use types.Kit.{join, await, pick, rewrite, fsplit, fjoin, feq_i, feq_l, suffices, frame, done, any_q, fpick, fpack, use2}
pub use types.Part.{agg, whole, sub, look_in}
pub use types.Tokens.{lft_new, lft_end}
pub use types.SemTy.{cells, Arr}
pub use types.Share.{arr_parts}
pub use types.Run.{look, look_raw, store, store_raw, init, forget, stop, hop, fld, from, load, addr, lit, unit_lit, of_opd, un, bin}
pub use types.Run.{and_then, no_more, assigns, land, first, branches, returns, returns_within, enter, alloc1, alloc0, params1, pass1}
pub use types.Run.{pass0, free1, free0, assigns_last, skips, jumps, blocks, exec, Below, again, loops}
pub use sound.WpLaws.{FmC, fm_of, WpFn-mono}
pub use denote.RattleType.{owns}
pub use denote.Memory.{mem as cell_of, pointee, shares, cell_at, part_at}
unfoldable pub use denote.Memory.{part_of}
pub use denote.Laws.{Is, shows}
pub use denote.Plain.{uint_vals, uint_Tells, uint_Makes, uint_Lawful, bool_vals, bool_Tells, bool_Makes, bool_Lawful}
pub use denote.Builtin.{u8, u16, u32, u64, usize, bool, unit}
pub use denote.Ref.{Bor, MutBor, MutRef, shr_vals, mut_vals, mut_Tells}
pub use denote.Slice.{slice_ty, slice_val, MutSlice, ShrSlice, Room, shr_slice_vals, mut_slice_vals, mut_slice_Tells, shr_slice_Tells, shr_slice_copy, heres}
pub use denote.Slice.{coded_holeys, finally}
pub use denote.Lend.{Held, lends_slice, slice_back}
pub use denote.Index.{row, whole_in, whole_out, place_is, elem_out, elem_back, elem_put, opens_slice, closes_slice, looks_slice}
pub use denote.Index.{shuts_slice}
pub use denote.Signature.{plain, shr_slice_of}
pub use denote.Steps.{only, owned, peeks, nothing}
pub use denote.Triple.Entry.{Vals, on_entry}
pub use denote.Triple.Spec.{Meets, triple_of}
pub use denote.Triple.Statement.{Contract, Triple}
pub use denote.Triple.Clauses.{lasts}
pub use denote.Triple.Table.{entered, cited}
pub use denote.Triple.Walked.{says, Stays, stay_dropped, gave_slice, walk_of, Goes-dropped, Goes-gave_slice, Walks, ends_at, walked}
pub use denote.Triple.Walked.{walk_Meets, gave_ref, Goes-gave_ref}
pub use denote.Exit.{yes}
pub use native.Mathlib.Numerals.{add-one-dec}
pub use mathlib.Core.WellFounded.InvImage.{wf as InvImage·wf}
pub use mathlib.Core.WellFounded.{WellFounded}
pub use lib.WfN.{lt-wf_rel as Nat·lt-wfRel}
pub use denote.Array.{Array, array_vals, Array-Tells, Array-Typed, Array-Makes}
pub use denote.ArrayMemory.{Array-apart, Array-whole}
pub use denote.Signature.Array.{array_of}
pub use borrow.Table.Elements.{at as place_of, length-take-le, cut_app, join_app, same_len}
use Prim.Native.Nat.{zero, suc}
use mir.Syntax.{skip, seq, assign, block, cond as condᴹ, switch, exit, return, call as callᴹ, unreachable, call_v, lend_static, Lifetime, Callee, Opd as Operand, Place}
use mir.Val.{has_ty, WT}
use contract.Monad.{fact}
use types.Kit.{raw, use0, Goal, Post, Soaks, Seq, Step, step, lands}
use types.Tokens.{lent_back}
use denote.RattleType.{RattleType}
use denote.Slice.{res-finally, mut_slice_at}
use denote.Lend.{lends_shr_slice}
use denote.Steps.{heard}
use denote.Triple.Call.{calls_from}
use base.Fml.{fobor, fauth}
use types.Run.{Opds}
use denote.Shadow.{pure_i}
use denote.Shares.{Shares as Shared}
use base.Fml.{Incl, Incl-refl}
use base.Logic.{sep}
use ghost.Rules.{Toks, span}
use types.Logic.{lfts}
use contract.BorrowLft.{meet_⊑_left}

-- what is left of a body after its first statement, and after its first k
abbrev pub later_part : Body → Body
later_part skip = skip
later_part (seq a b) = b
later_part (assign p r) = skip
later_part (block b) = skip
later_part (loop b) = skip
later_part (condᴹ c a b) = skip
later_part (switch c a) = skip
later_part (exit n) = skip
later_part return = skip
later_part (callᴹ f xs d) = skip
later_part unreachable = skip
later_part (call_v f s xs d) = skip
later_part (lend_static d τ c) = skip

abbrev pub after : ℕ → Body → Body
after zero b = b
after (suc k) b = after k (later_part b)

-- numbers and units in their locals
pub wider : (k : ℕ) → k < 2 ^ 32 → k < 2 ^ 64
wider k h = omega (arith, h)

pub counts : (i m : ℕ) → m < 2 ^ 64 → Holds (ltb i m) → i + 1 < 2 ^ 64
counts i m g h = omega (arith, g, ltb→lt i m h)

pub unit_typed : (w : Val) → (w ∷ []) ≡ (vunit ∷ []) → Holds (has_ty ty_unit w) × WT w
unit_typed w e = subst (λ (u : Val). Holds (has_ty ty_unit u) × WT u) (sym (ap only e)) (tt, tt)

-- a slice as the call sees it that it is lent to, and what its holder keeps of a `&mut` meanwhile
abbrev pub lent_as : {X : Type 0} → ℕ → ℕ → GName → List X → MutBor (List X)
lent_as b o δ ys = record { ref_ptr = (b, o); ghost_name = δ; now = ys }

abbrev pub shared_as : {X : Type 0} → ℕ → ℕ → List X → Bor (List X)
shared_as b o ys = record { ref_ptr = (b, o); now = ys }

abbrev Away : (R : RattleType) → Lft → Share → List R.Denot → ℕ → ℕ → GName → Fml
Away R κ q ys b o γ = fsep (fobor κ q (Held R (length ys) b o γ))
    (fsep (fobs γ ((coded_holeys R).code (heres R ys))) (fauth γ ((coded_holeys R).code (heres R ys))))

abbrev AllOf : (R : RattleType) → List R.Denot → ℕ → ℕ → Fml
AllOf R ys b o = (arr_parts (shares R) (length ys)).part full_share ys b o

-- a token beside others
within_first : (x : Lft × Share) (ts : Toks) → Incl (span (x ∷ ts)) x.0
within_first x [] = Incl-refl x.0
within_first x (y ∷ ts) = meet_⊑_left x.0 (span (y ∷ ts))

one_more : {M : Type 1} {𝓤 : Ura M} (𝓛 : Logic 𝓤) (κ : Lft) (q : Share) (ts : Toks)
    → ent 𝓤 (sep 𝓤 (𝓛.A.lft κ q) (lfts 𝓛 ts)) (lfts 𝓛 ((κ, q) ∷ ts))
one_more {𝓤 = 𝓤} 𝓛 κ q [] = fst∗ 𝓤 (𝓛.A.lft κ q) (emp 𝓤)
one_more {𝓤 = 𝓤} 𝓛 κ q (x ∷ ts) = id⊢ 𝓤 (sep 𝓤 (𝓛.A.lft κ q) (lfts 𝓛 (x ∷ ts)))

module _ {M : Type 1} {𝓤 : Ura M} {𝓛 : Logic 𝓤} {K : Type 0} {Γ : List (Item 𝓤)} where
  open 𝓛 use {H}

  module _ {G : Goal 𝓤 H} where
    -- a `&mut` slice is lent as `&mut`, for a lifetime ν of the call
    pub relends : K → Soaks G → (R : RattleType) (ℓ : Lifetime) {κ : Lft} {q : Share} (ys : List R.Denot) {γ : GName} (b o : ℕ)
        → Room R (length ys)
        → ((ν : ℕ) (δ : GName) → Seq K 𝓛 (‵ ((MutSlice ℓ (ν ∷ []) R).own_val (lent_as b o δ ys) (slice_val (b, o) (length ys) ∷ []))
        ∷ ‵ (flent (ν ∷ []) (Held R (length ys) b o δ)) ∷ ‵ (flft (ν ∷ []) full_share) ∷ ‵ (Away R κ q ys b o γ) ∷ Γ) G)
        → Seq K 𝓛 (‵ (fobs γ ((coded_holeys R).code (heres R ys))) ∷ ‵ (fbor κ (Held R (length ys) b o γ)) ∷ ‵ (flft κ q) ∷ Γ) G
    relends t z R ℓ ys b o g k =
        opens_slice t z R ys b o $ use1 𝓛 (‵ (cells (cell_of R) ys b o)) (whole_in 𝓛 R ys b o) $ lft_new t z (λ ν. move t (1 ∷ []) $
        use1 𝓛 (later (some (λ (δ : GName). ‵ ((MutSlice ℓ (ν ∷ []) R).own_val (lent_as b o δ ys) (slice_val (b, o) (length ys) ∷ []))
        ⊛ ‵ (flent (ν ∷ []) (Held R (length ys) b o δ))))) (lends_slice 𝓛 R ℓ (ν ∷ []) ys b o g) $
        await t z $ pick t (λ δ. split t $
        move t (4 ∷ 5 ∷ []) $ fjoin t $ move t (4 ∷ 0 ∷ []) $ fjoin t $ move t (1 ∷ 2 ∷ 3 ∷ []) $ k ν δ))

    -- the call is over, and ys' comes back
    pub comes_back : K → Soaks G → (R : RattleType) {κ : Lft} {q : Share} (ys ys' : List R.Denot) → length ys' ≡ length ys
        → {ν : ℕ} {δ γ : GName} (b o : ℕ)
        → Step K 𝓛 (‵ (fobs γ ((coded_holeys R).code (heres R ys'))) ∷ ‵ (fbor κ (Held R (length ys') b o γ)) ∷ ‵ (flft κ q) ∷ Γ) G
        (‵ (flft (ν ∷ []) full_share) ∷ ‵ (flent (ν ∷ []) (Held R (length ys) b o δ)) ∷ ‵ (finally R δ ys') ∷ ‵ (Away R κ q ys b o γ) ∷ Γ) G
    comes_back t z R ys ys' e {ν} {δ} b o = step (λ s. lft_end t z $
        use3 𝓛 (later (‵ ((Arr (cell_of R) (length ys)).own_at ys' b o))) (slice_back 𝓛 R (ν ∷ []) δ ys' (length ys) b o) $
        await t z $ fsplit t $ drop t $ use1 𝓛 (‵ (row R full_share ys' b o)) (whole_out 𝓛 R ys' b o) $
        move t (1 ∷ []) $ fsplit t $ move t (1 ∷ []) $ fsplit t $ move t (3 ∷ 2 ∷ 0 ∷ 1 ∷ []) $ closes_slice t z R ys ys' e b o $ s)

    -- a `&mut` slice is lent as `&`. Each type says what a `&` to it holds, so the type's law by which that is made is asked for
    -- (`denote.Shares`): it takes the call's token and, where an element holds a `&mut`, tokens ts of that one's lifetime
    pub lends_shared_by : K → Soaks G → (R : RattleType) (ℓ : Lifetime) {κ : Lft} {q : Share} (ys : List R.Denot) {γ : GName} (b o : ℕ)
        → Room R (length ys) → (ts : Toks) → ((ν : ℕ) → Shared 𝓛 R (span ((ν ∷ [], full_share) ∷ ts)))
        → ((ν : ℕ) → Seq K 𝓛 (‵ ((ShrSlice ℓ (ν ∷ []) R).own_val (shared_as b o ys) (slice_val (b, o) (length ys) ∷ []))
        ∷ ‵ (flent (ν ∷ []) (AllOf R ys b o)) ∷ raw (lfts 𝓛 ((ν ∷ [], full_share) ∷ ts)) ∷ ‵ (Away R κ q ys b o γ) ∷ Γ) G)
        → Seq K 𝓛 (‵ ((MutSlice ℓ κ R).own_val (lent_as b o γ ys) (slice_val (b, o) (length ys) ∷ [])) ∷ ‵ (flft κ q) ∷ raw (lfts 𝓛 ts) ∷ Γ) G
    lends_shared_by t z R ℓ ys b o g ts sh k =
        fsplit t $ drop t $ fsplit t $ opens_slice t z R ys b o $ feq_i t ℕ (length ys) (length ys) refl $ fjoin t $
        lft_new t z (λ ν. move t (0 ∷ 5 ∷ []) $ use2 𝓛 (raw (lfts 𝓛 ((ν ∷ [], full_share) ∷ ts))) (one_more 𝓛 (ν ∷ []) full_share ts) $
        move t (1 ∷ 0 ∷ []) $
        use2 𝓛 (later ((‵ ((ShrSlice ℓ (ν ∷ []) R).own_val (shared_as b o ys) (slice_val (b, o) (length ys) ∷ []))
        ⊛ ‵ (flent (ν ∷ []) (AllOf R ys b o))) ⊛ raw (lfts 𝓛 ((ν ∷ [], full_share) ∷ ts))))
        (lends_shr_slice 𝓛 R ℓ (ν ∷ []) full_share ys b o g (span ((ν ∷ [], full_share) ∷ ts)) (sh ν) ((ν ∷ [], full_share) ∷ ts)
        (Incl-refl (span ((ν ∷ [], full_share) ∷ ts))) (within_first (ν ∷ [], full_share) ts)) $
        await t z $ split t $ split t $
        move t (4 ∷ 5 ∷ []) $ fjoin t $ move t (4 ∷ 0 ∷ []) $ fjoin t $ move t (1 ∷ 2 ∷ 3 ∷ []) $ k ν)

    -- the same with no token but the call's
    pub lends_shared : K → Soaks G → (R : RattleType) (ℓ : Lifetime) {κ : Lft} {q : Share} (ys : List R.Denot) {γ : GName} (b o : ℕ)
        → Room R (length ys) → ((ν : ℕ) → Shared 𝓛 R (ν ∷ []))
        → ((ν : ℕ) → Seq K 𝓛 (‵ ((ShrSlice ℓ (ν ∷ []) R).own_val (shared_as b o ys) (slice_val (b, o) (length ys) ∷ []))
        ∷ ‵ (flent (ν ∷ []) (AllOf R ys b o)) ∷ ‵ (flft (ν ∷ []) full_share) ∷ ‵ (Away R κ q ys b o γ) ∷ Γ) G)
        → Seq K 𝓛 (‵ ((MutSlice ℓ κ R).own_val (lent_as b o γ ys) (slice_val (b, o) (length ys) ∷ [])) ∷ ‵ (flft κ q) ∷ Γ) G
    lends_shared t z R ℓ {κ} {q} ys {γ} b o g sh k =
        use0 𝓛 (raw (lfts 𝓛 [])) (id⊢ 𝓤 (emp 𝓤)) $ move t (1 ∷ 2 ∷ 0 ∷ []) $ lends_shared_by t z R ℓ ys b o g [] sh (λ ν.
        move t (2 ∷ []) $ use1 𝓛 (‵ (flft (ν ∷ []) full_share)) (id⊢ 𝓤 (lfts 𝓛 ((ν ∷ [], full_share) ∷ []))) $ move t (1 ∷ 2 ∷ 0 ∷ 3 ∷ []) $ k ν)

    pub shared_back : K → Soaks G → (R : RattleType) (ℓ : Lifetime) {κ : Lft} {q : Share} (ys : List R.Denot) {ν : ℕ}
        → {γ : GName} (b o : ℕ) → Room R (length ys)
        → Step K 𝓛 (‵ ((MutSlice ℓ κ R).own_val (lent_as b o γ ys) (slice_val (b, o) (length ys) ∷ [])) ∷ ‵ (flft κ q) ∷ Γ) G
        (‵ (flft (ν ∷ []) full_share) ∷ ‵ (flent (ν ∷ []) (AllOf R ys b o)) ∷ ‵ (Away R κ q ys b o γ) ∷ Γ) G
    shared_back t z R ℓ ys {γ = γ} b o g = step (λ s. lft_end t z $ lent_back t z $ fsplit t $ drop t $
        move t (1 ∷ []) $ fsplit t $ move t (1 ∷ []) $ fsplit t $ move t (3 ∷ 2 ∷ 0 ∷ 1 ∷ []) $
        closes_slice t z R ys ys refl b o $ fjoin t $
        pure_i t (mut_slice_at R (lent_as b o γ ys) (slice_val (b, o) (length ys) ∷ [])) (tt, (tt, tt)) (refl, g) $ fjoin t $ s)

    -- what a `&mut` slice holds when the function returns is its last value
    pub says_last : K → (R : RattleType) (ℓ : Lifetime) (κ : Lft) (ys : List R.Denot) {γ : GName}
        → Step K 𝓛 (‵ (finally R γ ys) ∷ Γ) G (‵ (fobs γ ((coded_holeys R).code (heres R ys))) ∷ Γ) G
    says_last t R ℓ κ ys {γ} = step (λ s.
        use1 𝓛 (‵ (fres γ ((coded_holeys R).code (heres R ys)))) (𝓛.names.obs-res γ ((coded_holeys R).code (heres R ys))) $
        use1 𝓛 (‵ (finally R γ ys)) (res-finally 𝓛 ℓ κ R γ ys) $ s)

    -- what a call has answered: the tokens T, its result r, the last values ws of what was lent to it, and the fact that it ensures
    pub answered : K → Soaks G → {X Y : Type 0} (T : Item 𝓤) (own : X → Fml) (lasting : Y → Fml) (φ : X → Y → Type 0) {P : SProp 𝓤}
        → ent 𝓤 P (mean 𝓛 (later (some (λ (r : X). (T ⊛ ‵ (own r)) ⊛ some (λ (ws : Y). ‵ (lasting ws) ⊛ raw (fact 𝓤 (φ r ws)))))))
        → ((r : X) (ws : Y) → φ r ws → Seq K 𝓛 (‵ (lasting ws) ∷ T ∷ ‵ (own r) ∷ Γ) G) → Seq K 𝓛 (raw P ∷ Γ) G
    answered t z T own lasting φ h k =
        use1 𝓛 (later (some (λ r. (T ⊛ ‵ (own r)) ⊛ some (λ ws. ‵ (lasting ws) ⊛ raw (fact 𝓤 (φ r ws)))))) h $
        await t z $ pick t (λ r. split t $ move t (1 ∷ []) $ pick t (λ ws. split t $ move t (1 ∷ []) $
        heard t (φ r ws) (λ e. move t (1 ∷ []) $ split t $ move t (2 ∷ []) $ k r ws e)))

  module _ {E : Env 𝓤 H} {C : Calls 𝓤 H} {f : Callee} {xs : List Operand} {Λ : Loops 𝓤 H} {q : Post 𝓤 H} {d : Place} where
    -- a call, of a contract that is met, where what it asks is at hand
    pub calls_by : K → FmC 𝓤 H 𝓛.laws C → {rest : Body} {i : Item 𝓤} (c : Contract 𝓤) → Triple 𝓤 (C f) c → (x : c.Ghost)
        → ent 𝓤 (mean 𝓛 i) (c.pre x) → Opds K 𝓛 (i ∷ Γ) E xs (c.args x)
        → ((r : Val) → Seq K 𝓛 (raw (c.post x r) ∷ Γ) (lands C Λ E d r rest q))
        → Seq K 𝓛 (i ∷ Γ) (runs C Λ E (seq (callᴹ f xs d) rest) q)
    calls_by t fm {rest} {i} c met x h = calls_from t fm i (c.args x) (c.post x) (via 𝓤 (c.pre x) h (met x))
