-- A turn that looks for a lane stays as it is.
use Rattle.std.proofs.Common.{◌≡◌, ℕ, refl, subst, sym, ◌∙◌}
use Rattle.turn_lock.specs.declared.seat.Turn.{Turn}
use Rattle.turn_lock.specs.Seats.{turn_number, turn_view, turn_value, turn_told}
use Rattle.phase_shared.specs.declared.seats.view.View.{View}
use Rattle.phase_shared.specs.Lodgings.{IsSameTurn, KnowsOfTurn}
use Rattle.phase_shared.specs.WordTells.{KnowsNoLane}
use Rattle.phase_shared.specs.Phasers.{Operation, CoreState}
use Rattle.phase_shared.specs.Rule.{Allows, HasOneHistory}
use Rattle.phase_shared.specs.Steps.{GivesNoAnswer}
use Rattle.phase_shared.specs.declared.rule.Terms.{Terms}

pub still_none : (v w : View) → w ≡ v → KnowsNoLane v → KnowsNoLane w
still_none v w same n = subst (λ (u : View). KnowsNoLane u) (sym same) n

module _ {T N V : Type 0} where
  pub same_turn : (t : Turn T N V) → IsSameTurn t t (KnowsOfTurn t)
  same_turn t = record { place = refl; number = refl; value = refl; told = refl; knows = refl }

  pub same_on : (s t u : Turn T N V) → IsSameTurn s t (KnowsOfTurn s) → IsSameTurn t u (KnowsOfTurn t) → IsSameTurn s u (KnowsOfTurn s)
  same_on s t u a b = record {
    place = b.place ∙ a.place;
    number = b.number ∙ a.number;
    value = b.value ∙ a.value;
    told = b.told ∙ a.told;
    knows = b.knows ∙ a.knows;
  }

-- what a give of it owes, it owes as before
pub as_before : {A K : Type 0} (op : Operation A) (allows : K → Allows) (terms : Terms K) (goes : View → View → Type 0)
    (old new : Turn (CoreState A) (Terms K) View) → IsSameTurn old new (KnowsOfTurn old)
    → GivesNoAnswer (HasOneHistory op allows) terms (turn_number old) (turn_view old) (turn_value old) (turn_told old) (λ v y w. goes v w)
    → GivesNoAnswer (HasOneHistory op allows) terms (turn_number new) (turn_view new) (turn_value new) (turn_told new) (λ v y w. goes v w)
as_before {A} op allows terms goes old new same give =
    let Gives : ℕ → View → CoreState A → ℕ → Type 0 = λ n v y t. GivesNoAnswer (HasOneHistory op allows) terms n v y t (λ v y w. goes v w) in
    subst (λ (n : ℕ). Gives n (turn_view new) (turn_value new) (turn_told new)) (sym same.number)
    (subst (λ (v : View). Gives (turn_number old) v (turn_value new) (turn_told new)) (sym same.knows)
    (subst (λ (y : CoreState A). Gives (turn_number old) (turn_view old) y (turn_told new)) (sym same.value)
    (subst (λ (t : ℕ). Gives (turn_number old) (turn_view old) (turn_value old) t) (sym same.told) give)))
