-- What a slot with a value owns goes to `from_raw`, which makes the box of it.
use Rattle.std.proofs.Common.{◌≡◌, List, [], ◌∷◌, ◌++◌, refl, sym, ap, ◌∙◌, subst}
use Rattle.std.specs.Prelude.{Option, Some, IsSome}
use mir.Raw.{raw as bare}
use mir.MapTy.{inst_fn}
use mir.Val.{Val, vptr}
use base.Logic.{emp, never, id⊢, fst∗}
use base.Fml.{ftrue, flft}
use prog.Wp.{WpFn}
use types.Logic.{sem}
use types.Kit.{‵, raw, ◌⊛◌, some, later, prop, at_ret, ◌$◌, ◌∵◌, !, qed, by, move, drop, keep, use0, use1, split, split3, join, regoal, rewrite, fsplit, fjoin, feq_i, pick, await}
use types.Part.{sub, whole}
use types.Run.{of_opd, stop, fld, no_more, and_then, first, blocks, exec, returns, enter}
use types.ByLocal.{alloc_all, pass_all, free_all, look_at, get, get_in, sets, lands_last, env}
use contract.BorrowLft.{◌⊑◌}
use contract.Monad.{fact, fact_i}
use contract.Running.{tables}
use denote.Exit.{no}
use denote.RattleType.{owns}
use denote.RawPtr.{Ptr, block_ptr, null_ptr, in_a_block}
use denote.Signature.{types_at, plain}
use denote.Steps.{nothing, heard, only}
use denote.Triple.Call.{calls_at_last}
use denote.Triple.Clauses.{Lasts, lasts}
use denote.Triple.Spec.{triple_of}
use denote.Triple.Table.{framed}
use denote.Triple.Walked.{Stays, stay_dropped, walk_of}
use Rattle.std.specs.Box.Ownership.{box_owns}
use Rattle.std.proofs.alloc.Calls.{Goes-blank, token}
use Rattle.std.proofs.VecSteps.Shapes.{after}
use Rattle.std.proofs.raw_atomic.Walks.{proved_at, leaves}
use Rattle.std.proofs.BoxSteps.Form.{Bx, X, B, R, τ, word, box_typed}
use Rattle.std.proofs.BoxSteps.Steps.{box_out, box_in}
use Rattle.heap_slot.specs.Ownership.{slot_owns}
use Rattle.heap_slot.proofs.SlotSteps.{S, Typed, given, word_of, held_is, slot_out}
use Rattle.std.specs.contracts.boxed.Box.from_raw as closes
use Rattle.std.proofs.boxed.Box.from_raw.Met.{met}
use Rattle.heap_slot.specs.contracts.Slot.into_box as f
use Rattle.heap_slot.specs.contracts.Slot.into_box.Key.{name as #self}
use Rattle.heap_slot.proofs.Slot.into_box.Statement.{statement}
use Rattle.heap_slot.proofs.Slot.into_box.Code as code

pub into_box_spec : {M : Type 1} → statement M
into_box_spec 𝓤 𝓛 𝓜 𝓡 wired T A LT LA g d dx dd allocator let_T let_A =
    let E : Bx = record {
      row = T;
      laws = LT;
      al = record {
        row = A;
        laws = LA;
        g = g;
        d = d;
        drops = dd;
      };
    } in
    let 𝓣 = tables 𝓤 𝓛.H 𝓜 𝓡 𝓡.env in let ended = f.ended T A g d dx dd in
    let c = f.clauses T A g d dx dd 𝓛 𝓜.mem 𝓡.returns in
    let fn = inst_fn (given E dx) code.function in
    let stayed : Stays ended.signature.params ended.kept =
    (stay_dropped (plain (λ _. S E)) no, tt) in
    proved_at 𝓛 ended stayed c 𝓜 𝓡 (Goes-blank 𝓛 2 (plain (λ _. S E)) no (λ κs x w. tt), tt)
    (#self (given E dx)) fn (code.unfolded 𝓤 𝓛.H 𝓜 𝓡 wired (T, (A, tt)) d dx dd) (λ y are.
    let slot = y.0.3.0 in let a = slot.alloc in
    let Post = (walk_of 𝓛 ended stayed c).post y in
    let Run = λ (us : List Val). prop (WpFn 𝓤 𝓛.H 𝓣.C 𝓣.Λ fn us Post) in
    let Closes = triple_of 𝓛 (closes.signature T A g d dd)
    (closes.spec T A g d dd 𝓛 𝓜.mem 𝓡.returns) in
    let tokens = ‵ (flft y.0.0.0 y.0.1.0) ⊛ ‵ (flft y.0.0.1.0 y.0.1.1.0) ⊛ ‵ ftrue in
    qed 𝓛 ((tokens ⊛ ‵ (owns (types_at ended.signature.params y.0.0) y.0.3 y.0.4))
    ∷ raw ((c y.0.0 y.0.3).requires y.1) ∷ []) ∵ move ! (1 ∷ []) $
    use1 𝓛 (raw (fact 𝓤 (y.0.0.0 ⊑ T.lives)) ⊛ raw (fact 𝓤 (y.0.0.1.0 ⊑ A.lives))
    ⊛ raw (fact 𝓤 (IsSome slot.value))) (id⊢ 𝓤 _) $
    split3 ! $ move ! (2 ∷ []) $ heard ! (IsSome slot.value) (λ there.
    let x = (held_is slot.value there).0 in let held = (held_is slot.value there).1 in
    let Owned = λ (p : Ptr). box_owns (token E.al a) (R E) p x in
    -- [that the value lives; that the handle lives; the tokens with the slot]
    move ! (2 ∷ []) $ split ! $ move ! (1 ∷ []) $ fsplit ! $
    slot_out E ! slot y.0.4.0 (λ hv is fits.
    rewrite ! 0 (λ (h : Option (X E)). ‵ (slot_owns (token E.al a) (R E) slot.at h)) held refl $
    in_a_block ! slot.at Owned (fst∗ 𝓤 (never 𝓤) (sem 𝓛 (token E.al a (bare (τ E)) null_ptr)))
    (λ b o at_b.
    let w = word E hv b o in
    let z : Closes.Ghost =
    ((y.0.0, y.0.1, tt, (a, (block_ptr b o, tt)), (hv ∷ [], (vptr b o ∷ [], tt))), x) in
    -- [the value with its right; the handle; nothing; the tokens; the two facts]
    move ! (5 ∷ 0 ∷ []) $ join ! $ move ! (4 ∷ 0 ∷ []) $ join ! $ move ! (2 ∷ []) $
    feq_i ! (List Val) (vptr b o ∷ []) (vptr b o ∷ []) refl $ fjoin ! $
    move ! (2 ∷ 0 ∷ []) $ fjoin ! $ move ! (2 ∷ 0 ∷ []) $ join ! $ join ! $
    use1 𝓛 (raw (Closes.pre z)) (id⊢ 𝓤 _) $
    regoal ! Run (λ i. (is ∙ ap (λ (p : Ptr). word_of E p hv ∷ []) at_b) i ++ []) refl $
    enter ! 𝓣.C 𝓣.Λ fn (w ∷ []) Post $
    alloc_all ! (λ l. pass_all ! refl (box_typed E hv b o fits, tt) $
    let En = env fn.locals l in
    sets ! (of_opd ! (get_in ! (fld ! refl (stop !)) (sub ! 0 refl (whole !)))) refl (tt, tt) $
    sets ! (of_opd ! (get_in ! (fld ! refl (stop !)) (sub ! 1 refl (whole !)))) refl fits $
    first ! $ blocks ! $ sets ! (of_opd ! (get ! refl)) refl fits $
    calls_at_last ! (framed 𝓤 𝓛.H 𝓜 𝓣) Closes (met 𝓤 𝓛 𝓜 𝓡
    (code.calls-std_alloc::boxed::Box::from_raw 𝓡.env wired) T A LT LA g d dd allocator let_A) z
    (and_then ! (get ! refl) (and_then ! (get ! refl) (no_more !))) (λ v.
    use1 𝓛 (later (some (λ (r : (B E).Denot). (tokens ⊛ ‵ ((B E).own_val r (v ∷ [])))
    ⊛ some (λ (ls : Lasts (closes.ended T A g d dd) y.0.0 z.0.3).
    ‵ (lasts (closes.ended T A g d dd) y.0.0 z.0.3 ls)
    ⊛ (raw (fact 𝓤 (r.value ≡ x)) ⊛ raw (fact 𝓤 (r.alloc ≡ a))))))) (id⊢ 𝓤 _) $
    await ! tt $ pick ! (λ r. split ! $ move ! (1 ∷ []) $ pick ! (λ _. split3 ! $ drop ! $
    heard ! (r.value ≡ x) (λ same. drop ! $
    -- [the tokens with the box]
    split ! $ move ! (1 ∷ []) $ box_out E ! r (v ∷ []) (λ b' o' hv' at_b' one fits'.
    box_in E ! r b' o' r.value at_b' refl $
    rewrite ! 0 (λ (us : List Val). ‵ ((B E).own_val r us)) (sym one) refl $
    let typed = subst (λ (u : Val). Typed E u) (sym (ap only one))
    (box_typed E hv' b' o' fits') in
    lands_last ! refl typed $ exec ! 𝓣.C 𝓣.Λ En (after 3 fn.body) (at_ret En Post) $
    sets ! (of_opd ! (get ! refl)) refl typed $
    use0 𝓛 (raw (fact 𝓤 (slot.value ≡ Some r.value)))
    (fact_i 𝓤 (slot.value ≡ Some r.value) (emp 𝓤) (held ∙ ap Some (sym same))) $
    nothing ! $ nothing ! $ fjoin ! $
    returns ! (look_at ! 0 refl) $ free_all ! refl $ keep ! (3 ∷ 0 ∷ 2 ∷ 1 ∷ []) $
    by ! (leaves 𝓛 ended stayed c y v r ((tt, (tt, tt)), tt) (tt, tt))))))))))))
