-- Which signals a phaser allows, and the histories that keep its rule.
use Rattle.std.specs.Prelude.{ℕ, ℤ, List, [], ◌∷◌, Option, Some, None}
use Rattle.phase_shared.specs.Phasers.{Limits, Single, History, IsLegal}
use Rattle.phase_history.specs.declared.event.Event.TheVariants.{Signalled}
use Rattle.phase_shared.specs.declared.rule.Terms.{Terms}

-- which signals are allowed after a history
abbrev pub Allows : Type 1
Allows = History → ℕ → List (List ℤ) → Option Single → Type 0

-- what a rule allows, and everything where there is none
abbrev pub allows_or : {K : Type 0} → (K → Allows) → Option K → Allows
allows_or allows None = λ h task lists single. Unit {0}
allows_or allows (Some rule) = allows rule

-- each signal was allowed after the history before it
abbrev pub Keeps : Allows → History → Type 0
Keeps allows [] = Unit {0}
Keeps allows (Signalled task lists single ∷ before) =
    allows before task lists single × Keeps allows before
Keeps allows (event ∷ before) = Keeps allows before

-- a legal history that keeps the rule
pub record IsGood (limits : Limits) (allows : Allows) (h : History) : Type 0 where
  pub legal : IsLegal limits h
  pub keeps : Keeps allows h

-- a good history, at a phaser's terms
abbrev pub IsGoodAt : {K : Type 0} → (K → Allows) → Terms K → History → Type 0
IsGoodAt allows terms h = IsGood terms.limits (allows terms.rule) h
