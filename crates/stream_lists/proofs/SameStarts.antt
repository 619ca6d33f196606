-- The definitions read the starts by the schedule alone: jobs that differ in starts that nobody
-- reads have the same answer.
use Rattle.std.proofs.Common.{◌≡◌, ℕ, List, [], ◌∷◌, ◌++◌, length, map, Option, Some, None, refl, ap, ◌∙◌}
use Rattle.std.specs.Prelude.{Result, Ok, Err, ℤ}
use Rattle.std.specs.List.{range_with_len}
use Rattle.graph_base.specs.Graphs.{task_at}
use Rattle.stream_lists.specs.declared.span.Span.{Span}
use Rattle.stream_lists.specs.Jobs.{Job, samples_at, start_at, with_starts}
use Rattle.stream_lists.specs.Spans.{offset_of, span_at, span_of, spans_over, spans_of, lengths_of, length_on, Schedule, schedule_of}
use Rattle.stream_lists.specs.Lists.{list_over, numbers_up_to, list_of_phaser, sink_over, sinks_of, lines_of}
use Rattle.stream_lists.specs.Ranges.{Where, first_some, fault_over, first_too_big, answer_of}
use Rattle.stream_lists.proofs.Starts.{fold-same}

-- each task may begin as early
abbrev pub AreSameStarts : Job → List ℕ → Type 0
AreSameStarts job starts = (t : ℕ) → start_at (with_starts starts job) t ≡ start_at job t

same_spans : (job : Job) (starts xs : List ℕ) → AreSameStarts job starts
    → spans_over (with_starts starts job) xs ≡ spans_over job xs
same_spans job starts xs same =
    fold-same (λ above t. above ++ span_of (with_starts starts job) xs above t ∷ [])
    (λ above t. above ++ span_of job xs above t ∷ [])
    (range_with_len 0 (length job.graph.tasks)) []
    (λ above t. ap (λ n. above ++ span_at (task_at job.graph t) (length (samples_at job t)) xs
    (offset_of above n (task_at job.graph t).parent) ∷ []) (same t))

same_lengths : (job : Job) (starts : List ℕ) → AreSameStarts job starts
    → lengths_of (with_starts starts job) ≡ lengths_of job
same_lengths job starts same =
    fold-same (λ above p. above ++ length_on job.graph (spans_over (with_starts starts job) above) p
    ∷ [])
    (λ above p. above ++ length_on job.graph (spans_over job above) p ∷ [])
    (range_with_len 0 (length job.graph.phasers)) []
    (λ above p. ap (λ spans. above ++ length_on job.graph spans p ∷ [])
    (same_spans job starts above same))

-- the jobs have one schedule
abbrev pub HasSameSchedule : Job → List ℕ → Type 0
HasSameSchedule job starts = schedule_of (with_starts starts job) ≡ schedule_of job

pub same_schedule : (job : Job) (starts : List ℕ) → AreSameStarts job starts
    → HasSameSchedule job starts
same_schedule job starts same =
    let both : List Span → List ℕ → Schedule = λ spans lengths. record {
      spans = spans;
      lengths = lengths;
    } in
    let lengths = same_lengths job starts same in
    let spans : spans_of (with_starts starts job) ≡ spans_of job =
    ap (spans_over (with_starts starts job)) lengths
    ∙ same_spans job starts (lengths_of job) same in
    ap (λ s. both s (lengths_of (with_starts starts job))) spans ∙ ap (both (spans_of job)) lengths

pub same_list : (job : Job) (starts : List ℕ) (p : ℕ) → HasSameSchedule job starts
    → list_of_phaser (with_starts starts job) p ≡ list_of_phaser job p
same_list job starts p same = ap (λ s. list_over job s (numbers_up_to job s p) p) same

pub same_too_big : (job : Job) (starts : List ℕ) → HasSameSchedule job starts
    → first_too_big (with_starts starts job) ≡ first_too_big job
same_too_big job starts same =
    ap (λ s. first_some (map (λ p. fault_over job s (numbers_up_to job s p) p)
    (range_with_len 0 (length job.graph.phasers)))) same

pub same_lines : (job : Job) (starts : List ℕ) → HasSameSchedule job starts
    → lines_of (with_starts starts job) ≡ lines_of job
same_lines job starts same =
    ap (λ s. map (sink_over job s (numbers_up_to job s (length job.graph.phasers))) (sinks_of job))
    same

pub same_answer : (job : Job) (starts : List ℕ) → HasSameSchedule job starts
    → answer_of (with_starts starts job) ≡ answer_of job
same_answer job starts same =
    by (first_too_big (with_starts starts job)) (first_too_big job) refl refl
    (same_too_big job starts same)
  where
    by : (a b : Option Where) → first_too_big (with_starts starts job) ≡ a → first_too_big job ≡ b
        → a ≡ b → answer_of (with_starts starts job) ≡ answer_of job
    by None None one two e = rw (one, two) (ap (λ lines. Ok lines) (same_lines job starts same))
    by (Some x) (Some y) one two e = rw (one, two) (ap (λ o. found o) e)
      where
        found : Option Where → Result (List (ℕ × List ℤ)) Where
        found None = Err x
        found (Some z) = Err z
    by None (Some y) one two e = absurd (cc)
    by (Some x) None one two e = absurd (cc)
