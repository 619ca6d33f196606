-- A slot of a box's value owns what `into_raw_with_allocator` takes out of the box.
use Rattle.std.proofs.Common.{◌≡◌, List, [], ◌∷◌, ◌++◌, refl, ap, ◌∙◌}
use Rattle.std.specs.Prelude.{Some}
use mir.Raw.{raw as bare}
use mir.MapTy.{inst_fn}
use mir.Val.{Val, vstruct, of_list}
use base.Logic.{emp, never, id⊢, fst∗}
use base.Fml.{ftrue, fsep, flft}
use prog.Wp.{WpFn}
use types.Logic.{sem}
use types.Kit.{‵, raw, ◌⊛◌, some, later, prop, ◌$◌, ◌∵◌, !, qed, by, move, drop, keep, use0, use1, split, split3, join, regoal, rewrite, fsplit, fjoin, fpick, feq_l, pick, await}
use types.Part.{agg, sub, whole}
use types.Run.{of_opd, stop, fld, no_more, and_then, returns, enter}
use types.ByLocal.{alloc_all, pass_all, free_all, look_at, get, get_in, sets, lands_as}
use contract.Monad.{fact, fact_i}
use contract.Running.{tables}
use denote.Exit.{no}
use denote.RattleType.{owns}
use denote.RawPtr.{Ptr, RawPtr, block_ptr, null_ptr, ptr_val, in_a_block}
use denote.Signature.{types_at, plain}
use denote.Steps.{nothing, heard, only}
use denote.Struct.Tuple.{Tuple}
use denote.Triple.Call.{calls_at}
use denote.Triple.Spec.{triple_of}
use denote.Triple.Table.{framed}
use denote.Triple.Walked.{Stays, stay_dropped, walk_of}
use Rattle.std.specs.Box.Ownership.{box_owns}
use Rattle.std.proofs.alloc.Calls.{Goes-blank, handle_tells, token}
use Rattle.std.proofs.raw_atomic.Walks.{proved_at, leaves}
use Rattle.std.proofs.BoxSteps.Form.{Bx, B, P, R, τ, word, box_typed}
use Rattle.std.proofs.BoxSteps.Steps.{box_out, box_in}
use Rattle.heap_slot.proofs.SlotSteps.{given, slot_in}
use Rattle.std.specs.contracts.boxed.Box.into_raw_with_allocator as opens
use Rattle.std.proofs.boxed.Box.into_raw_with_allocator.Met.{met}
use Rattle.heap_slot.specs.contracts.Slot.of as f
use Rattle.heap_slot.specs.contracts.Slot.of.Key.{name as #self}
use Rattle.heap_slot.proofs.Slot.of.Statement.{statement}
use Rattle.heap_slot.proofs.Slot.of.Code as code

pub of_spec : {M : Type 1} → statement M
of_spec 𝓤 𝓛 𝓜 𝓡 wired T A LT LA g d dx dd allocator let_T let_A =
    let E : Bx = record {
      row = T;
      laws = LT;
      al = record {
        row = A;
        laws = LA;
        g = g;
        d = d;
        drops = dd;
      };
    } in
    let 𝓣 = tables 𝓤 𝓛.H 𝓜 𝓡 𝓡.env in let ended = f.ended T A g d dx dd in
    let c = f.clauses T A g d dx dd 𝓛 𝓜.mem 𝓡.returns in
    let fn = inst_fn (given E dx) code.function in
    let stayed : Stays ended.signature.params ended.kept =
    (stay_dropped (plain (λ _. B E)) no, tt) in
    proved_at 𝓛 ended stayed c 𝓜 𝓡 (Goes-blank 𝓛 2 (plain (λ _. B E)) no (λ κs x w. tt), tt)
    (#self (given E dx)) fn (code.unfolded 𝓤 𝓛.H 𝓜 𝓡 wired (T, (A, tt)) d dx dd) (λ y are.
    let box = y.0.3.0 in let a = box.alloc in
    let Post = (walk_of 𝓛 ended stayed c).post y in
    let Run = λ (us : List Val). prop (WpFn 𝓤 𝓛.H 𝓣.C 𝓣.Λ fn us Post) in
    let Opens = triple_of 𝓛 (opens.signature T A g d dd dx)
    (opens.spec T A g d dd dx 𝓛 𝓜.mem 𝓡.returns) in
    let Owned = λ (p : Ptr). box_owns (token E.al a) (R E) p box.value in
    let tokens = ‵ (flft y.0.0.0 y.0.1.0) ⊛ ‵ (flft y.0.0.1.0 y.0.1.1.0) ⊛ ‵ ftrue in
    qed 𝓛 ((tokens ⊛ ‵ (owns (types_at ended.signature.params y.0.0) y.0.3 y.0.4))
    ∷ raw ((c y.0.0 y.0.3).requires y.1) ∷ []) ∵ split ! $ move ! (1 ∷ []) $ fsplit ! $
    -- the box is one machine value
    box_out E ! box y.0.4.0 (λ b o hv at_b is fits. box_in E ! box b o box.value at_b refl $
    let w = word E hv b o in
    let z : Opens.Ghost = ((y.0.0, y.0.1, tt, (box, tt), (w ∷ [], tt)), tt) in
    fjoin ! $ move ! (1 ∷ 0 ∷ []) $ join ! $ join ! $ use1 𝓛 (raw (Opens.pre z)) (id⊢ 𝓤 _) $
    regoal ! Run (λ i. is i ++ []) refl $
    enter ! 𝓣.C 𝓣.Λ fn (w ∷ []) Post $
    alloc_all ! (λ l. pass_all ! refl (box_typed E hv b o fits, tt) $
    sets ! (of_opd ! (get ! refl)) refl (box_typed E hv b o fits) $
    calls_at ! (framed 𝓤 𝓛.H 𝓜 𝓣) Opens (met 𝓤 𝓛 𝓜 𝓡
    (code.calls-std_alloc::boxed::Box::into_raw_with_allocator 𝓡.env wired)
    T A LT LA g d dd dx allocator let_A let_T) z
    (and_then ! (get ! refl) (no_more !)) (λ v.
    use1 𝓛 (later (some (λ (r : Ptr × A.Denot).
    (tokens ⊛ ‵ ((Tuple (RawPtr ∷ P E ∷ [])).own_val r (v ∷ [])))
    ⊛ some (λ (_ : (Unit {0} × (Unit {0} × Unit {0})) × Unit {0}).
    ‵ (fsep (fsep ftrue (fsep ftrue ftrue)) ftrue)
    ⊛ (raw (fact 𝓤 (r.1 ≡ a)) ⊛ ‵ (Owned r.0)))))) (id⊢ 𝓤 _) $
    await ! tt $ pick ! (λ r. split ! $ move ! (1 ∷ []) $ pick ! (λ _. split3 ! $ drop ! $
    heard ! (r.1 ≡ a) (λ same.
    -- [the value with its right; the tokens with the pair]
    in_a_block ! r.0 Owned (fst∗ 𝓤 (never 𝓤) (sem 𝓛 (token E.al a (bare (τ E)) null_ptr)))
    (λ b' o' at_b'. move ! (1 ∷ []) $ split ! $ move ! (1 ∷ []) $
    fpick ! (λ vss. fsplit ! $ feq_l ! (λ pair. fsplit ! $ feq_l ! (λ first. fsplit ! $
    rewrite ! 0 (λ (s : A.Denot). ‵ (A.own_val s vss.1.0)) same refl $
    handle_tells E.al ! a vss.1.0 (λ hv' second fits'.
    let made = box_typed E hv' b' o' fits' in
    let at_block = first ∙ ap (λ (p : Ptr). ptr_val p ∷ []) at_b' in
    lands_as ! (ap only (pair ∙ (λ i. vstruct (of_list (at_block i ++ (second i ++ []))) ∷ [])))
    refl made $
    sets ! (of_opd ! (get_in ! (fld ! refl (stop !)) (sub ! 0 refl (whole !)))) refl (tt, tt) $
    sets ! (of_opd ! (get_in ! (fld ! refl (stop !)) (sub ! 1 refl (whole !)))) refl fits' $
    sets ! (of_opd ! (get ! refl)) refl fits' $
    sets ! (agg ! (and_then ! (get ! refl) (and_then ! (get ! refl) (no_more !)))) refl made $
    move ! (3 ∷ 0 ∷ []) $ slot_in E ! (block_ptr b' o') a (Some box.value) hv' $
    use0 𝓛 (raw (fact 𝓤 (Some box.value ≡ Some box.value)))
    (fact_i 𝓤 (Some box.value ≡ Some box.value) (emp 𝓤) refl) $
    nothing ! $ nothing ! $ fjoin ! $
    returns ! (look_at ! 0 refl) $ free_all ! refl $ keep ! (4 ∷ 0 ∷ 2 ∷ 1 ∷ []) $
    by ! (leaves 𝓛 ended stayed c y (word E hv' b' o')
    (record { at = block_ptr b' o'; alloc = a; value = Some box.value })
    ((tt, (tt, tt)), tt) (tt, tt))))))))))))))
