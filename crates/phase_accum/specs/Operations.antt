-- What an accumulator computes, as functions of its parts, and what it owes.
use Rattle.std.specs.Prelude.{◌≡◌, ◌+◌, ◌≤◌, ℤ, List, [], ◌∷◌, length}
use Rattle.phase_base.specs.declared.limits.TheConstants.{SENDS_MAX}
use Rattle.phase_accum.specs.declared.outcome.Outcome.{Outcome}
use Rattle.phase_accum.specs.Sends.{IsSend, AreSends}
use Rattle.phase_accum.specs.Values.{IsInRange}

-- the four calls as functions, and the definition of the value of a list of sends
pub record Operation (A : Type 0) : Type 0 where
  pub unit : A
  pub of : ℤ → A
  pub join : A → A → A
  pub finish : A → Outcome
  pub value : List ℤ → Outcome

-- the part of a list of sends: the join of the parts of the sends, in order
abbrev pub part : {A : Type 0} → Operation A → List ℤ → A
part op [] = op.unit
part op (v ∷ vs) = op.join (op.of v) (part op vs)

-- x is the part of these sends, which are at most as many as a phase may have
pub record IsPartOf {A : Type 0} (op : Operation A) (x : A) (sends : List ℤ) : Type 0 where
  pub is : x ≡ part op sends
  pub are_sends : AreSends sends
  pub few : length sends ≤ SENDS_MAX

-- x and y are parts of some lists of sends that are together not too many
pub record MayJoin {A : Type 0} (op : Operation A) (x y : A) : Type 0 where
  pub first : List ℤ
  pub second : List ℤ
  pub first_part : IsPartOf op x first
  pub second_part : IsPartOf op y second
  pub few : length first + length second ≤ SENDS_MAX

-- what an accumulator owes, at parts of lists of sends that are together not too many
pub record AccumulateLaws {A : Type 0} (op : Operation A) : Type 0 where
  pub left_unit : (x : A) (xs : List ℤ) → IsPartOf op x xs → op.join op.unit x ≡ x
  pub right_unit : (x : A) (xs : List ℤ) → IsPartOf op x xs → op.join x op.unit ≡ x
  pub of_is : (v : ℤ) → AreSends (v ∷ []) → op.join (op.of v) op.unit ≡ op.of v
  pub assoc : (x y z : A) (xs ys zs : List ℤ)
      → IsPartOf op x xs → IsPartOf op y ys → IsPartOf op z zs
      → length xs + length ys + length zs ≤ SENDS_MAX
      → op.join (op.join x y) z ≡ op.join x (op.join y z)
  pub finishes : (x : A) (xs : List ℤ) → IsPartOf op x xs → op.finish x ≡ op.value xs
  pub in_range : (xs : List ℤ) → AreSends xs → IsInRange (op.value xs)
  pub of_tells : (v w : ℤ) → IsSend v → IsSend w → op.of v ≡ op.of w → v ≡ w

-- the order of two parts makes no difference
pub record Commutes {A : Type 0} (op : Operation A) : Type 0 where
  pub swaps : (x y : A) (xs ys : List ℤ) → IsPartOf op x xs → IsPartOf op y ys
      → length xs + length ys ≤ SENDS_MAX → op.join x y ≡ op.join y x
