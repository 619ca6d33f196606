-- Every number that a task takes, and so every one that it hands on, is in range.
use Rattle.std.proofs.Common.{◌≡◌, ℕ, zero, suc, ◌+◌, ◌-◌, ◌<◌, true, false, not, List, [], ◌∷◌, Option, Some, None, length, map, take, drop, get_or, ℤ, pos, refl, sym, ap, subst, ◌∙◌, arith}
use Rattle.std.specs.Prelude.{unsigned_abs}
use Rattle.std.specs.List.{range_with_len}
use Rattle.std.proofs.lemmas.Bool.{le-leb}
use Rattle.phase_base.specs.Limits.{Limits}
use Rattle.phase_base.specs.declared.operation.Op.{Op}
use Rattle.phase_base.specs.declared.operation.Op.TheVariants.{Sum, Product, Least, Greatest, Any}
use Rattle.phase_accum.specs.declared.outcome.Outcome.{Outcome}
use Rattle.phase_accum.specs.declared.outcome.Outcome.TheVariants.{Value, Empty, TooBig}
use Rattle.phase_accum.specs.Sends.{AreSends, value_max}
use Rattle.phase_accum.specs.Values.{IsInRange}
use Rattle.phase_accum.specs.Sums.{sum_operation, sum_laws}
use Rattle.phase_accum.specs.Products.{product_operation, product_laws}
use Rattle.phase_accum.specs.Leasts.{least_operation, least_laws}
use Rattle.phase_accum.specs.Greatests.{greatest_operation, greatest_laws}
use Rattle.phase_accum.specs.Anys.{any_operation, any_laws}
use Rattle.phase_history.specs.Histories.{History, done_of, phases_waited}
use Rattle.phase_history.specs.Phases.{value_of_phase, stream_of}
use Rattle.phase_history.specs.Legal.{IsLegal}
use Rattle.phase_history.proofs.InRange.{value_of_phase-in_range}
use Rattle.phase_history.proofs.Left.{received_law}
use Rattle.graph_base.specs.declared.line.Kind.{Kind}
use Rattle.graph_base.specs.declared.line.Kind.TheVariants.{Source, Fir, Split, Decimate, Join, Peer, Sink}
use Rattle.graph_base.specs.Graphs.{Task, task_at, phaser_at}
use Rattle.graph_base.specs.TaskLines.{IsGraph}
use Rattle.stream_lists.specs.Jobs.{Job, samples_at}
use Rattle.stream_lists.specs.Lists.{value_by, number, every, in_turn}
use Rattle.stream_lists.specs.Ranges.{are_made, is_out_of_range}
use Rattle.graph_runs.specs.Moments.{Moment, HasRun, TaskRan, TakenOn, input_at, taken_now, made_now, limits_at}

-- ---- lists of numbers in range

-- each number of the list is in range
pub record AreRanged (xs : List ℤ) : Type 0 where
  pub at : (i : ℕ) → is_out_of_range (get_or xs i (pos 0)) ≡ false

none_ranged : AreRanged []
none_ranged = record { at = λ i. refl }

-- a function with values in range gives a list of numbers in range
map_ranged : {X : Type 0} (f : X → ℤ) (xs : List X) → ((x : X) → is_out_of_range (f x) ≡ false)
    → AreRanged (map f xs)
map_ranged {X = X} f xs each = record { at = λ i. at xs i }
  where
    at : (xs : List X) (i : ℕ) → is_out_of_range (get_or (map f xs) i (pos 0)) ≡ false
    at [] i = refl
    at (x ∷ xs) zero = each x
    at (x ∷ xs) (suc i) = at xs i

pub take_ranged : (n : ℕ) (xs : List ℤ) → AreRanged xs → AreRanged (take n xs)
take_ranged n xs are = record { at = λ i. at n xs i (are.at i) }
  where
    at : (n : ℕ) (xs : List ℤ) (i : ℕ) → is_out_of_range (get_or xs i (pos 0)) ≡ false
        → is_out_of_range (get_or (take n xs) i (pos 0)) ≡ false
    at zero xs i e = refl
    at (suc n) [] i e = refl
    at (suc n) (x ∷ xs) zero e = e
    at (suc n) (x ∷ xs) (suc i) e = at n xs i e

pub drop_ranged : (n : ℕ) (xs : List ℤ) → AreRanged xs → AreRanged (drop n xs)
drop_ranged zero xs are = are
drop_ranged (suc n) [] are = are
drop_ranged (suc n) (x ∷ xs) are = drop_ranged n xs (record { at = λ i. are.at (suc i) })

pub sends_ranged : (xs : List ℤ) → AreSends xs → AreRanged xs
sends_ranged xs are = record { at = λ i. at xs are i }
  where
    at : (xs : List ℤ) → AreSends xs → (i : ℕ) → is_out_of_range (get_or xs i (pos 0)) ≡ false
    at [] are i = refl
    at (x ∷ xs) are zero = ap not (le-leb (unsigned_abs x) value_max are.0.small)
    at (x ∷ xs) are (suc i) = at xs are.1 i

-- ---- what is taken

number_ranged : (o : Outcome) → IsInRange o → is_out_of_range (number o) ≡ false
number_ranged (Value v) range = ap not (le-leb (unsigned_abs v) value_max range)
number_ranged Empty range = refl
number_ranged TooBig range = refl

-- the value of a phase, by each operation
phase_ranged : (op : Op) (limits : Limits) (h : History) (p : ℕ) → IsLegal limits h
    → IsInRange (value_of_phase (value_by op) h p)
phase_ranged Sum limits h p legal = value_of_phase-in_range sum_operation sum_laws limits h p legal
phase_ranged Product limits h p legal =
    value_of_phase-in_range product_operation product_laws limits h p legal
phase_ranged Least limits h p legal =
    value_of_phase-in_range least_operation least_laws limits h p legal
phase_ranged Greatest limits h p legal =
    value_of_phase-in_range greatest_operation greatest_laws limits h p legal
phase_ranged Any limits h p legal = value_of_phase-in_range any_operation any_laws limits h p legal

map_take : (n : ℕ) (os : List Outcome) → map number (take n os) ≡ take n (map number os)
map_take zero os = refl
map_take (suc n) [] = refl
map_take (suc n) (o ∷ os) = ap (λ l. number o ∷ l) (map_take n os)

map_drop : (n : ℕ) (os : List Outcome) → map number (drop n os) ≡ drop n (map number os)
map_drop zero os = refl
map_drop (suc n) [] = refl
map_drop (suc n) (o ∷ os) = map_drop n os

-- the numbers of some phases
numbers_ranged : (op : Op) (limits : Limits) (h : History) (ns : List ℕ) → IsLegal limits h
    → AreRanged (map number (map (value_of_phase (value_by op) h) ns))
numbers_ranged op limits h ns legal = record { at = λ i. at ns i }
  where
    at : (ns : List ℕ) (i : ℕ)
        → is_out_of_range (get_or (map number (map (value_of_phase (value_by op) h) ns)) i (pos 0))
        ≡ false
    at [] i = refl
    at (n ∷ ns) zero =
        number_ranged (value_of_phase (value_by op) h n) (phase_ranged op limits h n legal)
    at (n ∷ ns) (suc i) = at ns i

pub taken_ranged : (job : Job) (m : Moment) (t k : ℕ) → TaskRan job m t
    → IsLegal (limits_at job (input_at (task_at job.graph t) k))
    (m.history (input_at (task_at job.graph t) k))
    → k < length (task_at job.graph t).inputs → AreRanged (m.taken t k)
taken_ranged job m t k ran legal lt =
    by (m.number (input_at (task_at job.graph t) k) t) (ran.inputs k lt)
  where
    by : (o : Option ℕ) → TakenOn job m t k (input_at (task_at job.graph t) k) o
        → AreRanged (m.taken t k)
    by None on =
        rw on.0 none_ranged
    by (Some n) on =
        let p = input_at (task_at job.graph t) k in
        let op = (phaser_at job.graph p).op in
        let h = m.history p in
        let got = received_law (value_by op) (limits_at job p) h n on.start legal on.start_is
        on.waits in
        let a = on.start.wait_phase in
        let many = a + phases_waited h n - a in
        rw (on.taken ∙ ap (λ l. map number l) got.received
        ∙ map_take many (drop a (stream_of (value_by op) h))
        ∙ ap (λ l. take many l) (map_drop a (stream_of (value_by op) h)))
        (take_ranged many (drop a (map number (stream_of (value_by op) h)))
        (drop_ranged a (map number (stream_of (value_by op) h))
        (numbers_ranged op (limits_at job p) h (range_with_len 0 (done_of h)) legal)))

-- ---- what is handed on

-- each of these lists
pub record AllRanged (lists : List (List ℤ)) : Type 0 where
  pub at : (k : ℕ) → AreRanged (get_or lists k [])

inputs_ranged : (job : Job) (m : Moment) (t : ℕ) → IsGraph job.graph → HasRun job m
    → t < length job.graph.tasks → AllRanged (taken_now m (task_at job.graph t) t)
inputs_ranged job m t is ran there = record {
  at = λ k. at 0 (length (task_at job.graph t).inputs) k (λ i lt.
      (let below : i < length (task_at job.graph t).inputs =
      (let from_0 : i < 0 + length (task_at job.graph t).inputs = lt in omega arith) in
      taken_ranged job m t i (ran.tasks t there)
      (ran.phasers (input_at (task_at job.graph t) i) ((is.tasks t there).inputs i 0 below)).legal
      below));
}
  where
    at : (from many k : ℕ) → ((i : ℕ) → i < from + many → AreRanged (m.taken t i))
        → AreRanged (get_or (map (m.taken t) (range_with_len from many)) k [])
    at from zero k each = none_ranged
    at from (suc many) zero each = each from (omega arith)
    at from (suc many) (suc k) each = at (from + 1) many k (λ i lt. each i (omega arith))

-- a value that no filter and no peer made
pub made_ranged : (job : Job) (m : Moment) (t j : ℕ) → IsGraph job.graph → HasRun job m
    → t < length job.graph.tasks → AreSends (samples_at job t)
    → are_made (task_at job.graph t).kind j ≡ false → AreRanged (made_now job m t j)
made_ranged job m t j is ran there samples plain = by (task_at job.graph t).kind refl
  where
    task : Task
    task = task_at job.graph t

    taken : AllRanged (taken_now m (task_at job.graph t) t)
    taken = inputs_ranged job m t is ran there

    Are : List ℤ → Type 0
    Are l = AreRanged l

    clash : (kind : Kind) → (task_at job.graph t).kind ≡ kind → are_made kind j ≡ true → ⊥
    clash kind e made =
        (let no : true ≡ false = sym made ∙ ap (λ k. are_made k j) (sym e) ∙ plain in cc)

    turns : (n i : ℕ)
        → made_now job m t j ≡ every n i (get_or (taken_now m (task_at job.graph t) t) 0 [])
        → AreRanged (made_now job m t j)
    turns n i same = subst Are (sym same) (map_ranged _ _ (λ k. (taken.at 0).at _))

    by : (kind : Kind) → (task_at job.graph t).kind ≡ kind → AreRanged (made_now job m t j)
    by Source e =
        let same : made_now job m t j ≡ take (m.begun t) (samples_at job t) = rw e refl in
        subst Are (sym same)
        (take_ranged (m.begun t) (samples_at job t) (sends_ranged (samples_at job t) samples))
    by Fir e = absurd (clash Fir e refl)
    by Split e = turns (length (task_at job.graph t).outputs) j (rw e refl)
    by Decimate e = turns (task_at job.graph t).every 0 (rw e refl)
    by Join e =
        let same : made_now job m t j
        ≡ in_turn (taken_now m (task_at job.graph t) t) (m.begun t) = rw e refl in
        subst Are (sym same) (map_ranged _ _ (λ k. (taken.at _).at _))
    by Sink e =
        let same : made_now job m t j ≡ [] = rw e refl in
        subst Are (sym same) none_ranged
    by Peer e = peer j refl
      where
        peer : (i : ℕ) → j ≡ i → AreRanged (made_now job m t j)
        peer zero at =
            let output : ℕ → List ℤ = λ i. made_now job m t i in
            let first : output 0 ≡ get_or (taken_now m (task_at job.graph t) t) 0 [] =
            rw e refl in
            subst Are (sym (ap output at ∙ first)) (taken.at 0)
        peer (suc i) at =
            absurd (clash Peer e (ap (λ x. are_made Peer x) at ∙ le-leb 1 (suc i) (omega arith)))
