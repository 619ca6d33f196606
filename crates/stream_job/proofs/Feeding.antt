-- Samples that come behind those that a source has: its input keeps them, and the run goes on.
use Rattle.std.proofs.Common.{◌≡◌, ◌≢◌, ℕ, ℤ, zero, suc, ◌+◌, ◌<◌, ◌≤◌, Bool, true, false, eqb, ltb, List, [], ◌∷◌, ◌++◌, Some, length, get_or, slice_get, set, take, drop, refl, sym, ap, subst, ◌∙◌, arith}
use Rattle.std.specs.Prelude.{◌||◌}
use Rattle.std.specs.List.{count_by}
use mathlib.Core.List.{IsPrefix}
use Rattle.std.proofs.lemmas.Bool.{eqb-true, eq-eqb, ltb-true, ltb-false}
use Rattle.std.proofs.lemmas.List.{length-append, length-set, append-nil, set-get_or, get_or-set_same, get_or-set_other, drop-append-le, take-take}
use Rattle.std.proofs.lemmas.List.Sums.{count_by_more_yes}
use Rattle.std.proofs.lemmas.Option.{same_Some, slice_get_within, slice_get-get_or}
use Rattle.phase_accum.specs.Sends.{AreSends}
use Rattle.phase_accum.proofs.Parts.{AreSends-append}
use Rattle.graph_base.specs.Graphs.{Graph, Task, no_task, task_at, is_source, source_number, sources_of}
use Rattle.graph_base.specs.declared.line.Kind.TheVariants.{Source}
use Rattle.stream_lists.specs.Jobs.{Job, samples_in, with_samples}
use Rattle.graph_runs.specs.Feeds.{IsFed}
use Rattle.graph_runs.proofs.Entries.{IsPrefix-refl}
use Rattle.stream_job.specs.Streams.{InputKeeps, fed, has_ended, ended_with}
use Rattle.stream_job.specs.declared.input.Input.{Input}
use Rattle.stream_lists.specs.declared.sample_counts.TheConstants.{COUNT_MAX}
use Rattle.stream_lists.proofs.Basics.{count_by-take}

-- ---- inputs

pub keeps_more : (input new : Input) (begun : ℕ) (xs vs : List ℤ) → InputKeeps input begun xs
    → AreSends vs → length xs + length vs ≤ COUNT_MAX → new.from ≡ input.from
    → new.values.items ≡ input.values.items ++ vs → InputKeeps new begun (xs ++ vs)
keeps_more input new begun xs vs keeps sends few from items =
    let early = keeps.early in
    let begun_few = keeps.begun_few in
    let within : input.from ≤ length xs = omega arith in
    let long = length-append xs vs in
    record {
      early = omega arith;
      kept = items ∙ ap (λ l. l ++ vs) keeps.kept ∙ sym (drop-append-le input.from xs vs within)
          ∙ ap (λ n. drop n (xs ++ vs)) (sym from);
      sends = AreSends-append xs vs keeps.sends sends;
      few = omega arith;
      begun_few = omega arith;
    }

pub ended_found : (inputs : List Input) (k : ℕ) (input : Input) → slice_get inputs k ≡ Some input
    → has_ended inputs k ≡ input.ended
ended_found [] k input found = absurd (cc)
ended_found (x ∷ xs) zero input found =
    ap (λ (one : Input). one.ended) (same_Some x input found)
ended_found (x ∷ xs) (suc k) input found = ended_found xs k input found

-- another input for a source that has ended just where the one before had
pub ended_stays : (inputs : List Input) (i k : ℕ) (input new : Input)
    → slice_get inputs i ≡ Some input → new.ended ≡ input.ended
    → has_ended (set inputs i new) k ≡ has_ended inputs k
ended_stays [] i k input new found same = absurd (cc)
ended_stays (x ∷ xs) zero zero input new found same =
    same ∙ ap (λ (one : Input). one.ended) (sym (same_Some x input found))
ended_stays (x ∷ xs) zero (suc k) input new found same = refl
ended_stays (x ∷ xs) (suc i) zero input new found same = refl
ended_stays (x ∷ xs) (suc i) (suc k) input new found same = ended_stays xs i k input new found same

-- another input for a source leaves the others
ended_other : (inputs : List Input) (i k : ℕ) (new : Input) → k ≢ i
    → has_ended (set inputs i new) k ≡ has_ended inputs k
ended_other [] i k new not = refl
ended_other (x ∷ xs) zero zero new not = absurd (not refl)
ended_other (x ∷ xs) zero (suc k) new not = refl
ended_other (x ∷ xs) (suc i) zero new not = refl
ended_other (x ∷ xs) (suc i) (suc k) new not = ended_other xs i k new (λ e. not (ap suc e))

-- another input for a source, which has ended
pub ended_then : (inputs : List Input) (i k : ℕ) (input new : Input)
    → slice_get inputs i ≡ Some input → new.ended ≡ true
    → has_ended (set inputs i new) k ≡ ended_with inputs i k
ended_then inputs i k input new found is = by (eqb k i) refl
  where
    there : slice_get (set inputs i new) i ≡ Some new
    there =
        let lt = slice_get_within inputs i input found in
        let long = length-set inputs i new in
        slice_get-get_or (set inputs i new) i new (omega arith)
        ∙ ap (λ x. Some x) (get_or-set_same inputs i new new lt)

    by : (b : Bool) → eqb k i ≡ b → has_ended (set inputs i new) k ≡ ended_with inputs i k
    by true e =
        ap (has_ended (set inputs i new)) (eqb-true k i e)
        ∙ ended_found (set inputs i new) i new there ∙ is
        ∙ sym (ap (λ b. b || has_ended inputs k) e)
    by false e =
        ended_other inputs i k new (λ same. (let no = sym (eq-eqb k i same) ∙ e in cc))
        ∙ sym (ap (λ b. b || has_ended inputs k) e)

-- ---- the numbers of the sources

abbrev is_source_task : Task → Bool
is_source_task task = is_source task.kind

-- a source is one of the sources
pub source-within : (graph : Graph) (t : ℕ) → t < length graph.tasks
    → (task_at graph t).kind ≡ Source → source_number graph.tasks t < sources_of graph
source-within graph t within is =
    let one = count_by_more_yes is_source_task graph.tasks t no_task within (ap is_source is) in
    let most = count_by-take is_source_task (t + 1) graph.tasks in
    omega (arith, one, most)

-- a source above another has a lower number
source-below : (graph : Graph) (t u : ℕ) → t < length graph.tasks
    → (task_at graph t).kind ≡ Source → t < u
    → source_number graph.tasks t < source_number graph.tasks u
source-below graph t u within is lt =
    let one = count_by_more_yes is_source_task graph.tasks t no_task within (ap is_source is) in
    let most = count_by-take is_source_task (t + 1) (take u graph.tasks) in
    let same = ap (count_by is_source_task) (take-take (t + 1) u graph.tasks (omega arith)) in
    omega (arith, one, most, same)

-- two sources of one number are one task
pub one_source : (graph : Graph) (t u : ℕ) → t < length graph.tasks → u < length graph.tasks
    → (task_at graph t).kind ≡ Source → (task_at graph u).kind ≡ Source
    → source_number graph.tasks t ≡ source_number graph.tasks u → t ≡ u
one_source graph t u there also is so same = by (ltb t u) (ltb u t) refl refl
  where
    by : (a b : Bool) → ltb t u ≡ a → ltb u t ≡ b → t ≡ u
    by true b e f =
        let no = source-below graph t u there is (ltb-true t u e) in omega arith
    by false true e f =
        let no = source-below graph u t also so (ltb-true u t f) in omega arith
    by false false e f =
        let one = ltb-false t u e in let other = ltb-false u t f in omega arith

-- ---- all samples

pub samples_fed : (job : Job) (s : List (List ℤ)) (source t : ℕ) (xs : List ℤ)
    → source < length s → source_number job.graph.tasks t ≡ source
    → samples_in job (fed s source xs) t ≡ samples_in job s t ++ xs
samples_fed job s source t xs lt is =
    let A : ℕ → Type 0 = λ k. get_or (fed s source xs) k [] ≡ get_or s k [] ++ xs in
    subst A (sym is) (get_or-set_same s source (get_or s source [] ++ xs) [] lt)

pub samples_others : (job : Job) (s : List (List ℤ)) (source t : ℕ) (xs : List ℤ)
    → source_number job.graph.tasks t ≢ source
    → samples_in job (fed s source xs) t ≡ samples_in job s t
samples_others job s source t xs not =
    get_or-set_other s source (source_number job.graph.tasks t) (get_or s source [] ++ xs) [] not

-- nothing more
pub fed-nil : (s : List (List ℤ)) (source : ℕ) → fed s source [] ≡ s
fed-nil s source =
    ap (set s source) (append-nil (get_or s source [])) ∙ set-get_or s source []

-- a source that has not ended is fed
pub is_fed : (job : Job) (s : List (List ℤ)) (ended : ℕ → Bool) (source : ℕ) (xs : List ℤ)
    → source < length s
    → ((t : ℕ) → source_number job.graph.tasks t ≡ source → ended t ≡ false)
    → IsFed (with_samples s job) ended (fed s source xs)
is_fed job s ended source xs lt opens = record {
  begins = λ t there is. by_begins t (eqb (source_number job.graph.tasks t) source) refl;
  stays = λ t there is over. samples_others job s source t xs (λ same.
      (let no = sym over ∙ opens t same in cc));
}
  where
    by_begins : (t : ℕ) (b : Bool) → eqb (source_number job.graph.tasks t) source ≡ b
        → IsPrefix (samples_in job s t) (samples_in job (fed s source xs) t)
    by_begins t true e = (
      xs,
      sym (samples_fed job s source t xs lt
          (eqb-true (source_number job.graph.tasks t) source e)),
    )
    by_begins t false e =
        let not : source_number job.graph.tasks t ≢ source =
        λ same. (let no = sym (eq-eqb (source_number job.graph.tasks t) source same) ∙ e in cc) in
        subst (IsPrefix (samples_in job s t)) (sym (samples_others job s source t xs not))
        (IsPrefix-refl (samples_in job s t))
