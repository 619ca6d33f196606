-- A slot by value is what it owns beside the handle of its memory. Assumes `Logic`.
use Rattle.std.proofs.Common.{◌≡◌, List, [], ◌∷◌, ◌++◌, refl, ◌∙◌}
use Rattle.std.specs.Prelude.{Option, Some, None, IsSome}
use Rattle.std.proofs.lemmas.Bool.{false≢true}
use seplogic.Ra.Ura.{Ura}
use mir.Syntax.{Args, Dict, a_type, ty_ptr, dcons, dnil}
use lib.Dec.{T, lit<}
use mir.Val.{Val, vstruct, of_list, has_ty, WT}
use types.Logic.{Logic}
use types.Kit.{Item, Goal, Seq, Step, step, ‵, ◌$◌, move, drop, fsplit, fjoin, fpick, fpack, feq_i, feq_l}
use denote.RattleType.{RattleType, Valss}
use denote.RawPtr.{Ptr, RawPtr, block_ptr, null_ptr, ptr_val}
use denote.Param.{bounded}
use denote.Steps.{nothing}
use denote.Struct.Struct.{within}
use denote.Struct.Owning.{shape}
use Rattle.std.proofs.alloc.Calls.{token, Fits, handle_tells, α}
use Rattle.std.proofs.BoxSteps.Form.{Bx, X, R, P, handle, box_ty, box_typed}
use Rattle.std.proofs.ResultValues.{and_tt}
use Rattle.heap_slot.specs.Ownership.{slot_owns}
use Rattle.heap_slot.specs.contracts.Slot as slot

-- the value that there is
pub held_is : {T : Type 0} (held : Option T) → IsSome held → (x : T) × (held ≡ Some x)
held_is None there = absurd (false≢true there)
held_is (Some x) there = (x, refl)

pub ptr_typed : (p : Ptr) → T (has_ty ty_ptr (ptr_val p)) × WT (ptr_val p)
ptr_typed (block_ptr b o) = (tt, tt)
ptr_typed null_ptr = (tt, record { fits = lit< tt })

module _ (E : Bx) where
  -- the type of a slot
  abbrev pub S : RattleType
  S = slot.the_row (R E) (P E) E.al.g

  -- what a call is given for the two type parameters, and for how their values are let go
  abbrev pub given : Dict → Args
  given drops =
      bounded (a_type ∷ a_type ∷ []) (E.row, (E.al.row, tt))
      (dcons E.al.d (dcons drops (dcons E.al.drops dnil)))

  -- the machine value of a slot, by its pointer and the handle's
  abbrev pub word_of : Ptr → Val → Val
  word_of p hv = vstruct (of_list (ptr_val p ∷ hv ∷ []))

  -- it is of a slot's type
  abbrev pub Typed : Val → Type 0
  Typed v = T (has_ty (box_ty E) v) × WT v

  pub words_typed : (p : Ptr) (hv : Val) → Fits E.al hv → Typed (word_of p hv)
  words_typed (block_ptr b o) hv fits = box_typed E hv b o fits
  words_typed null_ptr hv fits =
      (and_tt (has_ty (α E.al) hv) fits.0, (record { fits = lit< tt }, (fits.1, tt)))

  module _ {M : Type 1} {𝓤 : Ura M} {𝓛 : Logic 𝓤} {K : Type 0} {Γ : List (Item 𝓤)}
      {G : Goal 𝓤 𝓛.H} where
    pub slot_in : K → (p : Ptr) (a : E.al.row.Denot) (held : Option (X E)) (hv : Val)
        → Step K 𝓛
        (‵ (S.own_val (record { at = p; alloc = a; value = held }) (word_of p hv ∷ [])) ∷ Γ) G
        (‵ (slot_owns (token E.al a) (R E) p held) ∷ ‵ (handle E a hv) ∷ Γ) G
    slot_in t p a held hv = step (λ s.
        let fields = within (shape (slot.the_type (R E) (P E) E.al.g)) (p, (a, tt)) in
        nothing t $ move t (2 ∷ 0 ∷ []) $ fjoin t $
        feq_i t (List Val) (ptr_val p ∷ []) (ptr_val p ∷ []) refl $ fjoin t $
        feq_i t (List Val) (word_of p hv ∷ []) (word_of p hv ∷ []) refl $ fjoin t $
        fpack t (Valss (RawPtr ∷ P E ∷ [])) (fields (word_of p hv ∷ []))
        (ptr_val p ∷ [], (hv ∷ [], tt)) $ fjoin t $ s)

    pub slot_out : K → (s : S.Denot) (vs : List Val)
        → ((hv : Val) → vs ≡ word_of s.at hv ∷ [] → Fits E.al hv
        → Seq K 𝓛 (‵ (slot_owns (token E.al s.alloc) (R E) s.at s.value)
        ∷ ‵ (handle E s.alloc hv) ∷ Γ) G)
        → Seq K 𝓛 (‵ (S.own_val s vs) ∷ Γ) G
    slot_out t s vs next =
        fsplit t $ fpick t (λ vss. fsplit t $ feq_l t (λ whole. fsplit t $ feq_l t (λ first.
        fsplit t $ handle_tells E.al t s.alloc vss.1.0 (λ hv second fits.
        move t (1 ∷ []) $ drop t $ move t (1 ∷ []) $
        next hv (whole ∙ (λ i. vstruct (of_list (first i ++ (second i ++ []))) ∷ [])) fits))))
