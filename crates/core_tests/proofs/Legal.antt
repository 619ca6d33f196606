-- The worked histories are legal, and whose events they are.
use Rattle.std.proofs.Common.{◌≡◌, ◌≢◌, ℕ, ◌+◌, Bool, true, false, cond, eqb, [], ◌∷◌, ◌++◌, ◌||◌, Some, None, pos, refl, sym, subst, ◌∙◌, arith}
use Rattle.std.proofs.lemmas.Bool.{eqb-true}
use Rattle.std.specs.Prelude.{IsSome}
use Rattle.phase_base.specs.Limits.{AreLimits}
use Rattle.phase_base.specs.declared.mode.Mode.TheVariants.{Sig, Wait}
use Rattle.phase_history.specs.declared.event.Event.TheVariants.{Registered, Signalled, Waited, Dropped}
use Rattle.phase_history.specs.Histories.{IsBeginning, founder, entry_at, has_dropped}
use Rattle.phase_history.specs.Phases.{list_in_phase}
use Rattle.phase_history.specs.Legal.{IsLegal}
use Rattle.phase_history.specs.Others.{is_by, IsUsed, OnlyUsed, OthersCame, children_in, events_of}
use Rattle.phase_base.specs.Lists.{is_in}
use Rattle.phase_history.specs.Sent.{sent_in, OnlySignalled, OneHasSent}
use Rattle.core_tests.specs.Worked.{worked_limits, founded, one_child, one_signal, two_signals, one_wait, all_left, all_got, everyone_left, half_turn, late_child}

limits_are : AreLimits worked_limits
limits_are = record { bound_least = omega arith; bound_most = omega arith; phases_least = omega arith; phases_most = omega arith }

pub founded_is_legal : IsLegal worked_limits founded
founded_is_legal = (limits_are, refl)

pub one_child_is_legal : IsLegal worked_limits one_child
one_child_is_legal = (founded_is_legal, refl)

pub one_signal_is_legal : IsLegal worked_limits one_signal
one_signal_is_legal =
    (((one_child_is_legal, refl), refl), (refl, ((record { small = omega arith }, tt), omega arith, tt), tt))

pub two_signals_is_legal : IsLegal worked_limits two_signals
two_signals_is_legal = (one_signal_is_legal, (refl, (tt, omega arith, tt), tt))

pub one_wait_is_legal : IsLegal worked_limits one_wait
one_wait_is_legal = (two_signals_is_legal, (refl, omega arith))

pub all_left_is_legal : IsLegal worked_limits all_left
all_left_is_legal = (one_wait_is_legal, refl)

pub all_got_is_legal : IsLegal worked_limits all_got
all_got_is_legal = (all_left_is_legal, (refl, omega arith))

pub everyone_left_is_legal : IsLegal worked_limits everyone_left
everyone_left_is_legal = (all_got_is_legal, refl)

pub half_turn_is_legal : IsLegal worked_limits half_turn
half_turn_is_legal = (founded_is_legal, (refl, (tt, omega arith, tt), tt))

pub late_child_is_legal : IsLegal worked_limits late_child
late_child_is_legal = (one_signal_is_legal, refl)

-- ---- beginnings

pub one_wait_begins : IsBeginning one_signal one_wait
one_wait_begins = record { later = Waited 2 1 ∷ Signalled 1 ([] ∷ []) None ∷ []; is = refl }

pub all_left_begins : IsBeginning one_wait all_left
all_left_begins = record { later = Dropped 1 ∷ []; is = refl }

pub all_got_begins : IsBeginning all_left all_got
all_got_begins = record { later = Waited 2 1 ∷ []; is = refl }

-- ---- whose events they are

-- a number in a list of one is that one
only : (one task : ℕ) → is_in task (one ∷ []) ≡ true → one ≡ task
only one task stands = elim (eqb one task) as (λ b. (eqb one task ≡ b) → (b || false ≡ true) → one ≡ task) [
  | true ↦ λ e s. eqb-true _ _ e
  | false ↦ λ e s. absurd (cc)
] refl stands

-- that task 2 waited is no event of task 1
pub no_wait_of_1 : (task : ℕ) → is_in task (1 ∷ []) ≡ true → is_by task (Waited 2 1) ≡ false
no_wait_of_1 task stands =
    let P : ℕ → Type 0 = λ t. is_by t (Waited 2 1) ≡ false in subst P (only 1 task stands) refl

-- nobody used a number but the founder
pub only_the_founder : OnlyUsed (0 ∷ []) founded
only_the_founder task used = elim (eqb 0 task) as (λ b. IsSome (cond b (Some founder) None) → b || false ≡ true) [
  | true ↦ λ u. refl
  | false ↦ λ u. absurd (cc)
] used

-- the founder's children stand in the list
pub children_stand : (task child : ℕ) → is_in task (0 ∷ 1 ∷ []) ≡ true
    → is_in child (children_in (events_of task one_child)) ≡ true → is_in child (0 ∷ 1 ∷ []) ≡ true
children_stand task child stands is = elim (eqb 0 task) as (λ b.
    (is_in child (children_in (cond b (Registered 0 1 Sig ∷ []) [])) ≡ true) → is_in child (0 ∷ 1 ∷ []) ≡ true) [
      | true ↦ λ i. or_true (eqb 0 child) (is_in child (1 ∷ [])) i
      | false ↦ λ i. absurd (cc)
    ] is
  where
    or_true : (a b : Bool) → b ≡ true → a || b ≡ true
    or_true true b is = refl
    or_true false b is = is

-- task 1 alone has signalled
pub only_1_signalled : OnlySignalled (1 ∷ []) one_wait
only_1_signalled task apart = elim (eqb 1 task) as (λ b. (b || false ≡ false)
    → cond b (cond b (0 + 1) 0 + 1) (cond b (0 + 1) 0) ≡ 0) [
      | true ↦ λ a. absurd (cc)
      | false ↦ λ a. refl
    ] apart

-- no other has sent
pub only_1_sent : (other : ℕ) → other ≢ 1 → sent_in one_wait other 0 ≡ []
only_1_sent other apart = elim (eqb 1 other) as (λ b. (eqb 1 other ≡ b)
    → cond b (cond b (pos 7 ∷ []) [] ++ list_in_phase ([] ∷ []) 1 0) (cond b (pos 7 ∷ []) []) ≡ []) [
      | true ↦ λ e. absurd (apart (sym (eqb-true _ _ e)))
      | false ↦ λ e. refl
    ] refl

-- and no two tasks have sent in a phase
pub one_has_sent : OneHasSent one_wait (1 ∷ []) 0
one_has_sent a b a_stands b_stands a_sent b_sent = sym (only 1 a a_stands) ∙ only 1 b b_stands

-- tasks 0, 1 and 2 were used, and have dropped
pub everyone_gone : (task : ℕ) → IsUsed everyone_left task → has_dropped everyone_left task ≡ true
everyone_gone task used = by (eqb 2 task) (eqb 1 task) (eqb 0 task) used
  where
    by : (a b c : Bool) → IsSome (cond a (Some (entry_at Wait 0 0))
        (cond b (Some (entry_at Sig 0 0)) (cond c (Some founder) None)))
        → cond a true (cond b true (cond c true false)) ≡ true
    by true b c used = refl
    by false true c used = refl
    by false false true used = refl
    by false false false used = absurd (cc)

pub not_empty : one_signal ≢ []
not_empty e = absurd (cc)

pub not_empty_founded : founded ≢ []
not_empty_founded e = absurd (cc)

pub one_child_begins : IsBeginning founded one_child
one_child_begins = record { later = Registered 0 1 Sig ∷ []; is = refl }

pub one_wait_begins_itself : IsBeginning one_wait one_wait
one_wait_begins_itself = record { later = []; is = refl }

-- that task 2 waited came, and is no event of task 1
pub others_came : OthersCame (1 ∷ []) two_signals one_wait
others_came = record { later = Waited 2 1 ∷ []; is = refl; others = none }
  where
    none : (task : ℕ) → is_in task (1 ∷ []) ≡ true → events_of task (Waited 2 1 ∷ []) ≡ []
    none task stands = let P : ℕ → Type 0 = λ t. events_of t (Waited 2 1 ∷ []) ≡ [] in subst P (only 1 task stands) refl

pub nobody_came : OthersCame (0 ∷ []) founded founded
nobody_came = record { later = []; is = refl; others = λ task stands. refl }
