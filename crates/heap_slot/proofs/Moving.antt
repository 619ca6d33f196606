-- A struct that owns what a slot owns, of a slot's pointer and handle, is made of a slot, and a slot
-- of it: the two fields move, and what they own goes with them. Assumes `Logic`.
use Rattle.std.proofs.Common.{◌≡◌, ℕ, List, [], ◌∷◌, ◌++◌, refl, sym}
use seplogic.Ra.Ura.{Ura}
use mir.Syntax.{impl, dnil, Fn, Callee, Ty, local, value_local, ty_ptr, ty_struct, tcons, tnil, seq, assign, place, rv_opd, copy, field, aggregate, return}
use mir.Val.{Val}
use base.Fml.{Fml, ftrue}
use base.Logic.{ent, emp}
use prog.Model.{Model}
use prog.Wp.{WpFn, Closed}
use types.Logic.{Logic}
use types.Kit.{‵, raw, ◌⊛◌, prop, ◌$◌, ◌∵◌, !, qed, by, move, drop, keep, use0, split, regoal, rewrite, fsplit, fjoin}
use types.Part.{agg, sub, whole}
use types.Run.{of_opd, stop, fld, no_more, and_then, returns, enter}
use types.ByLocal.{alloc_all, pass_all, free_all, look_at, get, get_in, sets}
use contract.Lifetimes.{Lfts}
use contract.Running.{Running, tables}
use denote.Exit.{yes, Last, left as left_behind}
use denote.Param.Laws.{Laws}
use denote.RattleType.{RattleType, owns}
use denote.Signature.{Signature, types_at, plain}
use denote.Steps.{nothing}
use denote.Triple.Clauses.{Ended, Clauses, closing, at_exit}
use denote.Triple.Entry.{Args, alive}
use denote.Triple.Spec.{Meets}
use denote.Triple.Walked.{Stays, stay_dropped, Goes-dropped, walk_of}
use Rattle.std.proofs.alloc.Calls.{α}
use Rattle.std.proofs.alloc.Global.TheLaws as heap_laws
use Rattle.std.specs.contracts.alloc.Global as heap
use Rattle.std.specs.contracts.impls.GlobalAllocator.TheImpl.{ghosts, dict}
use Rattle.std.proofs.BoxSteps.Form.{Bx}
use Rattle.std.proofs.raw_atomic.Walks.{proved_at, leaves}
use Rattle.heap_slot.proofs.SlotSteps.{S, ptr_typed, word_of, words_typed, slot_in, slot_out}

-- a type whose values are slots' by another name, and own what these own
pub record IsSlotLike (E : Bx) (row : RattleType) : Type 1 where
  -- the name of its struct
  pub name : List ℕ
  pub slot_of : row.Denot → (S E).Denot
  pub of_slot : (S E).Denot → row.Denot
  pub is_owned : (d : row.Denot) (vs : List Val) → row.own_val d vs ≡ (S E).own_val (slot_of d) vs
  pub is_back : (s : (S E).Denot) → slot_of (of_slot s) ≡ s
  -- nothing is left behind where one is taken apart
  pub last : (d : row.Denot) → Last (row.exit yes) d
  pub is_quiet : (d : row.Denot) (left : Last (row.exit yes) d)
      → left_behind (row.exit yes) d left ≡ ftrue

-- a box of the heap's memory, of such values
abbrev pub on_heap : (row : RattleType) → Laws row → Bx
on_heap row laws = record {
  row = row;
  laws = laws;
  al = record {
    row = heap.the_row;
    laws = heap_laws.the_row_laws;
    g = ghosts;
    d = dict;
    drops = impl [] tnil dnil;
  };
}

module _ (E : Bx) {From To : RattleType} (from : IsSlotLike E From) (to : IsSlotLike E To) where
  -- the words of such a type
  abbrev words : List ℕ → Ty
  words name = ty_struct name (tcons ty_ptr (tcons (α E.al) tnil))

  -- the function that takes the fields out of one, and makes the other of them
  abbrev moving : Fn
  moving = record {
    lifetimes = 0;
    outlives = [];
    ty_params = [];
    givens = 0;
    params = 1;
    locals = local (words to.name) value_local ∷ local (words from.name) value_local
        ∷ local ty_ptr value_local ∷ local (α E.al) value_local ∷ local ty_ptr value_local ∷ [];
    body =
        seq (assign (place 2 []) (rv_opd (copy (place 1 (field 0 ∷ [])))))
        (seq (assign (place 3 []) (rv_opd (copy (place 1 (field 1 ∷ [])))))
        (seq (assign (place 4 []) (rv_opd (copy (place 2 []))))
        (seq (assign (place 0 []) (aggregate (copy (place 4 []) ∷ copy (place 3 []) ∷ [])))
        return)));
  }

  abbrev moves : Signature
  moves = record {
    lifetimes = 0;
    outlives = [];
    params = plain (λ κs. From) ∷ [];
    result = plain (λ κs. To);
  }

  abbrev ended : Ended
  ended = record { signature = moves; kept = (yes, tt) }

  abbrev stayed : Stays moves.params ended.kept
  stayed = (stay_dropped (plain (λ _. From)) yes, tt)

  module _ {M : Type 1} {𝓤 : Ura M} (𝓛 : Logic 𝓤) (𝓜 : Model 𝓤 𝓛.H) (𝓡 : Running 𝓤 𝓛.H 𝓜)
      (c : Clauses 𝓤 ended) where
    pub moved : ((κs : Lfts 0) (a : Args moves κs) (g : (c κs a).ghost)
        → ent 𝓤 (emp 𝓤) ((c κs a).ensures g (to.of_slot (from.slot_of a.0)) (at_exit ended κs a (from.last a.0, tt))))
        → (k : Callee)
        → Closed 𝓤 𝓛.H (tables 𝓤 𝓛.H 𝓜 𝓡 𝓡.env).C (tables 𝓤 𝓛.H 𝓜 𝓡 𝓡.env).Λ k moving
        → Meets 𝓛 moves ((tables 𝓤 𝓛.H 𝓜 𝓡 𝓡.env).C k) (closing 𝓛 ended c)
    moved told k closed =
        let 𝓣 = tables 𝓤 𝓛.H 𝓜 𝓡 𝓡.env in
        proved_at 𝓛 ended stayed c 𝓜 𝓡
        (Goes-dropped 𝓛 0 (plain (λ _. From)) yes (λ κs x w. from.is_quiet x w), tt) k moving closed (λ y are.
        let d = y.0.3.0 in let same = from.slot_of d in let made = to.of_slot same in
        let Post = (walk_of 𝓛 ended stayed c).post y in
        let Run = λ (us : List Val). prop (WpFn 𝓤 𝓛.H 𝓣.C 𝓣.Λ moving us Post) in
        qed 𝓛 ((raw (alive 𝓛 moves y.0.0 y.0.1)
        ⊛ ‵ (owns (types_at moves.params y.0.0) y.0.3 y.0.4))
        ∷ raw ((c y.0.0 y.0.3).requires y.1) ∷ []) ∵
        move ! (1 ∷ []) $ drop ! $ split ! $ move ! (1 ∷ []) $ fsplit ! $
        rewrite ! 0 (λ (P : Fml). ‵ P) (from.is_owned d y.0.4.0) refl $
        slot_out E ! same y.0.4.0 (λ hv is fits.
        let word = word_of E same.at hv in let typed = words_typed E same.at hv fits in
        slot_in E ! same.at same.alloc same.value hv $
        rewrite ! 0 (λ (s : (S E).Denot). ‵ ((S E).own_val s (word ∷ []))) (sym (to.is_back same)) refl $
        rewrite ! 0 (λ (P : Fml). ‵ P) (sym (to.is_owned made (word ∷ []))) refl $
        -- [what is made; nothing; the tokens]
        regoal ! Run (λ i. is i ++ []) refl $
        enter ! 𝓣.C 𝓣.Λ moving (word ∷ []) Post $ alloc_all ! (λ l. pass_all ! refl (typed, tt) $
        sets ! (of_opd ! (get_in ! (fld ! refl (stop !)) (sub ! 0 refl (whole !)))) refl
        (ptr_typed same.at) $
        sets ! (of_opd ! (get_in ! (fld ! refl (stop !)) (sub ! 1 refl (whole !)))) refl fits $
        sets ! (of_opd ! (get ! refl)) refl (ptr_typed same.at) $
        sets ! (agg ! (and_then ! (get ! refl) (and_then ! (get ! refl) (no_more !)))) refl typed $
        use0 𝓛 (raw ((c y.0.0 y.0.3).ensures y.1 made (at_exit ended y.0.0 y.0.3 (from.last d, tt))))
        (told y.0.0 y.0.3 y.1) $
        nothing ! $ nothing ! $ fjoin ! $
        returns ! (look_at ! 0 refl) $ free_all ! refl $ keep ! (4 ∷ 0 ∷ 2 ∷ 1 ∷ []) $
        by ! (leaves 𝓛 ended stayed c y word made (from.last d, tt) (tt, tt)))))
