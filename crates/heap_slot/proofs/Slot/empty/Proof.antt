-- A slot with no value owns its handle alone.
use Rattle.std.proofs.Common.{◌≡◌, List, [], ◌∷◌, ◌++◌, refl}
use Rattle.std.specs.Prelude.{Option, None}
use mir.MapTy.{inst_fn}
use mir.Val.{Val}
use base.Logic.{emp}
use prog.Wp.{WpFn}
use types.Kit.{‵, raw, ◌⊛◌, prop, ◌$◌, ◌∵◌, !, qed, by, move, drop, keep, use0, split, regoal, fsplit, fjoin}
use types.Part.{agg}
use types.Run.{of_opd, lit, no_more, and_then, returns, enter}
use types.ByLocal.{alloc_all, pass_all, free_all, look_at, get, sets}
use contract.Monad.{fact, fact_i}
use contract.Running.{tables}
use denote.Exit.{no}
use denote.RattleType.{owns}
use denote.RawPtr.{null_ptr}
use denote.Signature.{types_at, plain}
use denote.Steps.{nothing}
use denote.Triple.Entry.{alive}
use denote.Triple.Walked.{Stays, stay_dropped, walk_of}
use Rattle.std.proofs.alloc.Calls.{Goes-blank, handle_tells}
use Rattle.std.proofs.raw_atomic.Walks.{proved_at, leaves}
use Rattle.std.proofs.BoxSteps.Form.{Bx, P}
use Rattle.heap_slot.proofs.SlotSteps.{given, word_of, words_typed, slot_in}
use Rattle.heap_slot.specs.contracts.Slot.empty as f
use Rattle.heap_slot.specs.contracts.Slot.empty.Key.{name as #self}
use Rattle.heap_slot.proofs.Slot.empty.Statement.{statement}
use Rattle.heap_slot.proofs.Slot.empty.Code as code

pub empty_spec : {M : Type 1} → statement M
empty_spec 𝓤 𝓛 𝓜 𝓡 wired T A LT LA g d dx dd allocator let_T let_A =
    let E : Bx = record {
      row = T;
      laws = LT;
      al = record {
        row = A;
        laws = LA;
        g = g;
        d = d;
        drops = dd;
      };
    } in
    let 𝓣 = tables 𝓤 𝓛.H 𝓜 𝓡 𝓡.env in let ended = f.ended T A g d dx dd in
    let c = f.clauses T A g d dx dd 𝓛 𝓜.mem 𝓡.returns in
    let fn = inst_fn (given E dx) code.function in
    let stayed : Stays ended.signature.params ended.kept =
    (stay_dropped (plain (λ _. P E)) no, tt) in
    proved_at 𝓛 ended stayed c 𝓜 𝓡 (Goes-blank 𝓛 2 (plain (λ _. P E)) no (λ κs x w. tt), tt)
    (#self (given E dx)) fn (code.unfolded 𝓤 𝓛.H 𝓜 𝓡 wired (T, (A, tt)) d dx dd) (λ y are.
    let a = y.0.3.0 in let none : Option T.Denot = None in
    let Post = (walk_of 𝓛 ended stayed c).post y in
    let Run = λ (us : List Val). prop (WpFn 𝓤 𝓛.H 𝓣.C 𝓣.Λ fn us Post) in
    qed 𝓛 ((raw (alive 𝓛 ended.signature y.0.0 y.0.1)
    ⊛ ‵ (owns (types_at ended.signature.params y.0.0) y.0.3 y.0.4))
    ∷ raw ((c y.0.0 y.0.3).requires y.1) ∷ []) ∵
    move ! (1 ∷ []) $ drop ! $ split ! $ move ! (1 ∷ []) $ fsplit ! $
    handle_tells E.al ! a y.0.4.0 (λ hv is fits.
    -- [the handle; nothing; the tokens]
    regoal ! Run (λ i. is i ++ []) refl $
    enter ! 𝓣.C 𝓣.Λ fn (hv ∷ []) Post $ alloc_all ! (λ l. pass_all ! refl (fits, tt) $
    sets ! (of_opd ! (get ! refl)) refl fits $
    sets ! (agg ! (and_then ! (lit ! tt) (and_then ! (get ! refl) (no_more !)))) refl
    (words_typed E null_ptr hv fits) $
    nothing ! $ slot_in E ! null_ptr a none hv $
    use0 𝓛 (raw (fact 𝓤 (none ≡ None))) (fact_i 𝓤 (none ≡ None) (emp 𝓤) refl) $
    nothing ! $ nothing ! $ fjoin ! $
    returns ! (look_at ! 0 refl) $ free_all ! refl $ keep ! (4 ∷ 0 ∷ 2 ∷ 1 ∷ []) $
    by ! (leaves 𝓛 ended stayed c y (word_of E null_ptr hv)
    (record { at = null_ptr; alloc = a; value = none }) (tt, tt) (tt, tt)))))
