-- The rule of a shared phaser: there is one legal history, which keeps the phaser's rule.
use Rattle.std.specs.Prelude.{◌≡◌, ℕ, ◌+◌, List, [], ◌∷◌, Option, Some, true, false}
use Rattle.phase_shared.specs.Phasers.{Limits, Operation, Entry, entry_of, History, members_of, CoreState, StandsFor, OthersCame, IsUsed, is_distinct, is_in, Outcome}
use Rattle.phase_history.specs.declared.event.Event.TheVariants.{Made}
use Rattle.phase_shared.specs.declared.seats.view.View.{View}
use Rattle.phase_shared.specs.declared.rule.Terms.{Terms}
use Rattle.phase_shared.specs.Views.{Unknown, resting, turning, speaks_of, known_of, second_of, Fits}
use Rattle.phase_shared.specs.declared.seats.view.Ask.{Ask}
use Rattle.phase_shared.specs.Asks.{IsAtPhases, IsOneOf}
pub use Rattle.phase_shared.specs.Goods.{Allows, Keeps, IsGood, IsGoodAt}
pub use Rattle.phase_shared.specs.Desks.{Kept}
pub use Rattle.phase_shared.specs.Tells.{Took}

-- the core stands for the history, and has the phaser's limits
pub record StandsWithin {A : Type 0} (op : Operation A) (limits : Limits) (core : CoreState A)
    (h : History) : Type 0 where
  pub stands : StandsFor op core h
  pub limits_are : core.limits ≡ limits

-- the rule of a phaser's lock, by its limits and the signals that are allowed
abbrev pub IsOneHistory : {A : Type 0} → Operation A → Limits → Allows → Unit {0}
    → Option (CoreState A) → ℕ → List ℕ → List View → Type 0
IsOneHistory op limits allows name home told words views =
    Kept op.value limits allows (StandsWithin op limits) home told words views

-- the same at a phaser's terms
abbrev pub HasOneHistory : {A K : Type 0} → Operation A → (K → Allows) → Terms K
    → Option (CoreState A) → ℕ → List ℕ → List View → Type 0
HasOneHistory op allows terms = IsOneHistory op terms.limits (allows terms.rule) tt

-- the view of the first seat: its task 0 made the phaser
abbrev pub founding : View
founding = resting (Made 0 ∷ []) (0 ∷ [])

-- the look after a join
pub record Learned (limits : Limits) (allows : Allows) (v : View) (w : View) : Type 0 where
  pub now : History
  pub first : Fits (known_of v) now
  pub second : Fits (second_of v) now
  pub distinct : is_distinct (speaks_of v) ≡ true
  pub good : IsGood limits allows now
  pub is : w ≡ resting now (speaks_of v)

-- a take, at a phaser's terms
abbrev pub TookAt : {A K : Type 0} → Operation A → (K → Allows) → Terms K → View → CoreState A
    → View → Type 0
TookAt op allows terms v x w =
    Took terms.limits (allows terms.rule) (StandsWithin op terms.limits) v x w

-- a seat at rest that speaks for one registered task
pub record IsSeatOfTask {K : Type 0} (allows : K → Allows) (terms : Terms K) (me : ℕ)
    (entry : Entry) (v : View) : Type 0 where
  pub rests : v ≡ resting (known_of v).seen (me ∷ [])
  pub member : entry_of (members_of (known_of v).seen) me ≡ Some entry
  pub good : IsGoodAt allows terms (known_of v).seen

-- what a take leads to, for such a seat: others' events came, and its task stands where it stood
pub record AfterTake {A K : Type 0} (op : Operation A) (allows : K → Allows) (terms : Terms K)
    (me : ℕ) (entry : Entry) (v : View) (x : CoreState A) (w : View) : Type 0 where
  pub now : History
  pub claims : List Ask
  pub said : Outcome
  pub others : OthersCame (me ∷ []) (known_of v).seen now
  pub good : IsGoodAt allows terms now
  pub stands : StandsWithin op terms.limits x now
  pub read : (a : Ask) → IsOneOf claims a → IsAtPhases now a.task (a.phase + 1) a.phase
      × (is_in a.task (me ∷ []) ≡ false)
  pub is : w ≡ turning now (me ∷ []) claims said Unknown
  pub member : entry_of (members_of now) me ≡ Some entry
  pub used : IsUsed now me

-- a look, at a phaser's terms
abbrev pub LearnedAt : {K : Type 0} → (K → Allows) → Terms K → View → View → Type 0
LearnedAt allows terms v w = Learned terms.limits (allows terms.rule) v w
