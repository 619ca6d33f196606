-- The numbers of the tasks on a phaser.
use Rattle.std.proofs.Common.{◌≡◌, ℕ, zero, suc, ◌+◌, ◌<◌, ◌≤◌, Bool, true, false, not, ◌&&◌, ◌||◌, eqb, List, Option, Some, None, length, refl, ap, ◌∙◌, arith, ◌⊎◌, inl, inr}
use Rattle.std.specs.List.{filter_map, cons_option, range_with_len}
use Rattle.std.proofs.lemmas.Bool.{eqb-true, eq-eqb, cases_lt}
use Rattle.std.proofs.Math.Bool.{or-true}
use Rattle.phase_base.specs.Lists.{is_distinct, is_in}
use Rattle.stream_lists.specs.Jobs.{Job}
use Rattle.graph_runs.specs.Moments.{Moment, numbers_on, PhaserRan}

-- a task's number stands among them
pub in_numbers : (f : ℕ → Option ℕ) (from many t a : ℕ) → from ≤ t → t < from + many → f t ≡ Some a
    → is_in a (filter_map f (range_with_len from many)) ≡ true
in_numbers f from zero t a low high e = absurd (omega arith)
in_numbers f from (suc many) t a low high e =
    by (cases_lt from t) (λ more. in_numbers f (from + 1) many t a (omega arith) (omega arith) e)
  where
    rest : List ℕ
    rest = filter_map f (range_with_len (from + 1) many)

    by : (from < t) ⊎ (t ≤ from)
        → (from < t → is_in a (filter_map f (range_with_len (from + 1) many)) ≡ true)
        → is_in a (cons_option (f from) (filter_map f (range_with_len (from + 1) many))) ≡ true
    by (inl more) later = skip (f from) (later more)
      where
        skip : (o : Option ℕ) → is_in a (filter_map f (range_with_len (from + 1) many)) ≡ true
            → is_in a (cons_option o (filter_map f (range_with_len (from + 1) many))) ≡ true
        skip None g = g
        skip (Some b) g = ap (λ c. eqb b a || c) g ∙ or-true (eqb b a)
    by (inr here) later =
        let same : from ≡ t = omega arith in
        let is : f from ≡ Some a = ap f same ∙ e in
        let front : eqb a a ≡ true = eq-eqb a a refl in
        ap (λ o. is_in a (cons_option o (filter_map f (range_with_len (from + 1) many)))) is
        ∙ ap (λ b. b || is_in a (filter_map f (range_with_len (from + 1) many))) front

-- and each number that does is a task's
pub from_numbers : (f : ℕ → Option ℕ) (from many a : ℕ)
    → is_in a (filter_map f (range_with_len from many)) ≡ true
    → (t : ℕ) × (from ≤ t) × (t < from + many) × (f t ≡ Some a)
from_numbers f from zero a e = absurd (cc)
from_numbers f from (suc many) a e = by (f from) refl e (λ g. from_numbers f (from + 1) many a g)
  where
    later : (t : ℕ) × (from + 1 ≤ t) × (t < from + 1 + many) × (f t ≡ Some a)
        → (t : ℕ) × (from ≤ t) × (t < from + suc many) × (f t ≡ Some a)
    later r =
        let low : from + 1 ≤ r.0 = r.1 in let high : r.0 < from + 1 + many = r.2 in
        (r.0, omega arith, omega arith, r.3)

    by : (o : Option ℕ) → f from ≡ o
        → is_in a (cons_option o (filter_map f (range_with_len (from + 1) many))) ≡ true
        → (is_in a (filter_map f (range_with_len (from + 1) many)) ≡ true
        → (t : ℕ) × (from + 1 ≤ t) × (t < from + 1 + many) × (f t ≡ Some a))
        → (t : ℕ) × (from ≤ t) × (t < from + suc many) × (f t ≡ Some a)
    by None is g rec = later (rec g)
    by (Some b) is g rec = here (eqb b a) refl g
      where
        here : (c : Bool) → eqb b a ≡ c
            → (c || is_in a (filter_map f (range_with_len (from + 1) many))) ≡ true
            → (t : ℕ) × (from ≤ t) × (t < from + suc many) × (f t ≡ Some a)
        here true e g = (from, omega arith, omega arith, is ∙ ap (λ x. Some x) (eqb-true b a e))
        here false e g = later (rec g)

-- where no two tasks have one number, none stands twice among them
pub distinct_from : (f : ℕ → Option ℕ) (from many : ℕ)
    → ((t u a : ℕ) → t < from + many → u < from + many → f t ≡ Some a → f u ≡ Some a → t ≡ u)
    → is_distinct (filter_map f (range_with_len from many)) ≡ true
distinct_from f from zero one = refl
distinct_from f from (suc many) one =
    by (f from) refl
    (distinct_from f (from + 1) many
    (λ t u a lt lu et eu. one t u a (omega arith) (omega arith) et eu))
  where
    by : (o : Option ℕ) → f from ≡ o
        → is_distinct (filter_map f (range_with_len (from + 1) many)) ≡ true
        → is_distinct (cons_option o (filter_map f (range_with_len (from + 1) many))) ≡ true
    by None e d = d
    by (Some a) e d = free (is_in a (filter_map f (range_with_len (from + 1) many))) refl
      where
        free : (b : Bool) → is_in a (filter_map f (range_with_len (from + 1) many)) ≡ b
            → (not b && is_distinct (filter_map f (range_with_len (from + 1) many))) ≡ true
        free false g = d
        free true g =
            let r = from_numbers f (from + 1) many a g in
            let low : from + 1 ≤ r.0 = r.1 in
            let high : r.0 < from + 1 + many = r.2 in
            let same : from ≡ r.0 = one from r.0 a (omega arith) (omega arith) e r.3 in
            absurd (omega arith)

pub numbers_distinct : (job : Job) (m : Moment) (p : ℕ) → PhaserRan job m p
    → is_distinct (numbers_on job m p) ≡ true
numbers_distinct job m p ran =
    distinct_from (m.number p) 0 (length job.graph.tasks)
    (λ t u a lt lu et eu. ran.distinct t u a (omega arith) (omega arith) et eu)
