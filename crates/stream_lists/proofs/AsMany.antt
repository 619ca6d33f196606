-- Spans, lengths and meetings depend on the numbers of the samples alone.
use Rattle.std.proofs.Common.{◌≡◌, ℕ, zero, suc, ℤ, pos, List, [], ◌∷◌, ◌++◌, length, map, get_or, refl, sym, ap, ◌∙◌}
use Rattle.std.specs.Prelude.{Vec}
use Rattle.std.specs.Global.{Global}
use Rattle.std.specs.List.{range_with_len}
use Rattle.std.proofs.lemmas.List.{length-replicate}
use Rattle.graph_base.specs.Graphs.{Graph, source_number, task_at}
use Rattle.stream_lists.specs.JobFields.{given, items_of}
use Rattle.stream_lists.specs.Jobs.{Job, samples_at, samples_in, start_at, with_samples, zeros, counted, count_at}
use Rattle.stream_lists.specs.Spans.{offset_of, span_at, span_of, spans_over, spans_of, lengths_of, length_on}
use Rattle.stream_lists.proofs.Starts.{fold-same}

-- ---- jobs with samples as many

-- each task has as many samples
abbrev pub AreAsMany : Job → List (List ℤ) → Type 0
AreAsMany job samples = (t : ℕ) → length (samples_in job samples t) ≡ length (samples_at job t)

spans_same : (job : Job) (samples : List (List ℤ)) (xs : List ℕ) → AreAsMany job samples
    → spans_over (with_samples samples job) xs ≡ spans_over job xs
spans_same job samples xs same =
    fold-same (λ above t. above ++ span_of (with_samples samples job) xs above t ∷ [])
    (λ above t. above ++ span_of job xs above t ∷ [])
    (range_with_len 0 (length job.graph.tasks)) []
    (λ above t. ap (λ n. above ++ span_at (task_at job.graph t) n xs
    (offset_of above (start_at job t) (task_at job.graph t).parent) ∷ []) (same t))

pub lengths_same : (job : Job) (samples : List (List ℤ)) → AreAsMany job samples
    → lengths_of (with_samples samples job) ≡ lengths_of job
lengths_same job samples same =
    fold-same (λ above p. above ++ length_on job.graph
    (spans_over (with_samples samples job) above) p ∷ [])
    (λ above p. above ++ length_on job.graph (spans_over job above) p ∷ [])
    (range_with_len 0 (length job.graph.phasers)) []
    (λ above p. ap (λ spans. above ++ length_on job.graph spans p ∷ [])
    (spans_same job samples above same))

pub all_spans_same : (job : Job) (samples : List (List ℤ)) → AreAsMany job samples
    → spans_of (with_samples samples job) ≡ spans_of job
all_spans_same job samples same =
    ap (spans_over (with_samples samples job)) (lengths_same job samples same)
    ∙ spans_same job samples (lengths_of job) same

-- ---- a job that has the numbers alone

length-zeros : (counts : List ℕ) (k : ℕ) → length (get_or (zeros counts) k []) ≡ get_or counts k 0
length-zeros [] k = refl
length-zeros (n ∷ ns) zero = length-replicate n (pos 0)
length-zeros (n ∷ ns) (suc k) = length-zeros ns k

pub length-counted : (graph : Graph) (counts : List ℕ) (t : ℕ)
    → length (samples_at (counted graph counts) t) ≡ count_at graph counts t
length-counted graph counts t = length-zeros counts (source_number graph.tasks t)

length-items : (samples : List (Vec ℤ Global)) (k : ℕ)
    → length (get_or (items_of samples) k []) ≡ get_or (map (λ list. length list.items) samples) k 0
length-items [] k = refl
length-items (list ∷ lists) zero = refl
length-items (list ∷ lists) (suc k) = length-items lists k

-- the samples that a job keeps are as many as their numbers
pub as_many : (graph : Graph) (samples : List (Vec ℤ Global))
    → AreAsMany (counted graph (map (λ list. length list.items) samples)) (items_of samples)
as_many graph samples t =
    length-items samples (source_number graph.tasks t)
    ∙ sym (length-counted graph (map (λ list. length list.items) samples) t)

pub lengths-counted : (graph : Graph) (samples : List (Vec ℤ Global)) (counts : List ℕ)
    → counts ≡ map (λ list. length list.items) samples
    → lengths_of (counted graph counts) ≡ lengths_of (given graph samples)
lengths-counted graph samples counts are =
    ap (λ ns. lengths_of (counted graph ns)) are
    ∙ sym (lengths_same (counted graph (map (λ list. length list.items) samples))
    (items_of samples) (as_many graph samples))

pub spans-counted : (graph : Graph) (samples : List (Vec ℤ Global)) (counts : List ℕ)
    → counts ≡ map (λ list. length list.items) samples
    → spans_of (counted graph counts) ≡ spans_of (given graph samples)
spans-counted graph samples counts are =
    ap (λ ns. spans_of (counted graph ns)) are
    ∙ sym (all_spans_same (counted graph (map (λ list. length list.items) samples))
    (items_of samples) (as_many graph samples))
