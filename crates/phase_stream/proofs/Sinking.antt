-- The sinks of a job, and their numbers.
use Rattle.std.proofs.Common.{◌≡◌, ◌<◌, ◌≤◌, ◌+◌, ◌-◌, ℕ, zero, suc, true, false, cond, List, [], ◌∷◌, ◌++◌, Option, Some, None, IfSome, length, get_or, refl, sym, ap, ◌∙◌, append-nil, arith}
use Rattle.std.specs.Prelude.{slice_get, is_some}
use Rattle.std.specs.List.{filter, range_with_len}
use Rattle.std.proofs.lemmas.List.Elements.{filter-append}
use Rattle.std.proofs.lemmas.List.FromFn.{length-range_with_len}
use Rattle.std.proofs.lemmas.List.Sums.{count_by-le-length, length-filter}
use Rattle.std.proofs.lemmas.Option.{get_or_from_slice_get, slice_get_within}
use Rattle.stream_lists.specs.Jobs.{Job}
use Rattle.stream_lists.specs.Lists.{is_sink_at, sinks_of}
use Rattle.stream_lists.proofs.Basics.{passes-at}
use Rattle.phase_stream.specs.Sessions.{IsSinkNumber}
use Rattle.phase_stream.specs.declared.sink.Sink.{Sink}

-- the sinks among the first n tasks
abbrev pub sinks_before : Job → ℕ → List ℕ
sinks_before job n = filter (is_sink_at job) (range_with_len 0 n)

pub sinks_few : (job : Job) (n : ℕ) → length (sinks_before job n) ≤ n
sinks_few job n =
    let count = length-filter (is_sink_at job) (range_with_len 0 n) in
    let few = count_by-le-length (is_sink_at job) (range_with_len 0 n) in
    let all = length-range_with_len 0 n in
    omega arith

-- ---- one more task

range_last : (from n at : ℕ) → from + n ≡ at
    → range_with_len from (suc n) ≡ range_with_len from n ++ at ∷ []
range_last from zero at e =
    let same : from ≡ at = omega arith in
    ap (λ k. k ∷ []) same
range_last from (suc n) at e = ap (λ l. from ∷ l) (range_last (from + 1) n at (omega arith))

sinks_more : (job : Job) (n : ℕ)
    → sinks_before job (n + 1) ≡ sinks_before job n ++ filter (is_sink_at job) (n ∷ [])
sinks_more job n =
    let next : n + 1 ≡ suc n = omega arith in
    ap (sinks_before job) next
    ∙ ap (filter (is_sink_at job)) (range_last 0 n n (omega arith))
    ∙ filter-append (is_sink_at job) (range_with_len 0 n) (n ∷ [])

pub sinks_yes : (job : Job) (n : ℕ) → is_sink_at job n ≡ true
    → sinks_before job (n + 1) ≡ sinks_before job n ++ n ∷ []
sinks_yes job n e =
    sinks_more job n ∙ ap (λ b. sinks_before job n ++ cond b (n ∷ []) []) e

pub sinks_no : (job : Job) (n : ℕ) → is_sink_at job n ≡ false
    → sinks_before job (n + 1) ≡ sinks_before job n
sinks_no job n e =
    sinks_more job n ∙ ap (λ b. sinks_before job n ++ cond b (n ∷ []) []) e
    ∙ append-nil (sinks_before job n)

-- ---- the place of a sink

sink_is : (job : Job) (t : ℕ) → t < length job.graph.tasks → is_sink_at job t ≡ true
    → slice_get (sinks_of job) (length (sinks_before job t)) ≡ Some t
sink_is job t there e =
    let all : length job.graph.tasks ≡ t + suc (length job.graph.tasks - t - 1) = omega arith in
    let here : 0 + t ≡ t = omega arith in
    ap (λ n. slice_get (filter (is_sink_at job) (range_with_len 0 n))
    (length (filter (is_sink_at job) (range_with_len 0 t)))) all
    ∙ passes-at (is_sink_at job) 0 t (length job.graph.tasks - t - 1)
    (ap (is_sink_at job) here ∙ e)
    ∙ ap (λ n. Some n) here

-- the number of a sink is how many stand before it
pub numbered : (job : Job) (t : ℕ) → t < length job.graph.tasks → is_sink_at job t ≡ true
    → IsSinkNumber job t (length (sinks_before job t))
numbered job t there e =
    let at = sink_is job t there e in
    record {
      there = slice_get_within (sinks_of job) (length (sinks_before job t)) t at;
      task = get_or_from_slice_get (sinks_of job) (length (sinks_before job t)) t 0 at;
    }

-- ---- the only sink

-- it is the only sink among the first n tasks, or there is none among them
abbrev pub IsOnlyBefore : Job → ℕ → Option Sink → Type 0
IsOnlyBefore job n None = sinks_before job n ≡ []
IsOnlyBefore job n (Some sink) = (sinks_before job n ≡ sink.task ∷ []) × (sink.number ≡ 0)

pub only_first : (job : Job) (n : ℕ) (only : Option Sink) → IsOnlyBefore job n only
    → is_some only ≡ false → is_sink_at job n ≡ true
    → IsOnlyBefore job (n + 1) (Some (record { task = n; number = 0 }))
only_first job n None before none e =
    (sinks_yes job n e ∙ ap (λ l. l ++ n ∷ []) before, refl)
only_first job n (Some sink) before none e = absurd (cc)

pub only_same : (job : Job) (n : ℕ) (only : Option Sink) → IsOnlyBefore job n only
    → is_sink_at job n ≡ false → IsOnlyBefore job (n + 1) only
only_same job n None before e = sinks_no job n e ∙ before
only_same job n (Some sink) before e = (sinks_no job n e ∙ before.0, before.1)

-- with one more there is no only sink
pub only_two : (job : Job) (n : ℕ) (only : Option Sink) → IsOnlyBefore job n only
    → is_some only ≡ true → n < length job.graph.tasks → is_sink_at job n ≡ true
    → (t : ℕ) → sinks_of job ≡ t ∷ [] → ⊥
only_two job n None before some there e t is = absurd (cc)
only_two job n (Some sink) before some there e t is =
    let within = slice_get_within (sinks_of job) (length (sinks_before job n)) n
    (sink_is job n there e) in
    let many = ap length before.0 in
    let one = ap length is in
    omega arith

pub only_some : (job : Job) (n : ℕ) (only : Option Sink) → IsOnlyBefore job n only
    → n ≡ length job.graph.tasks → IfSome only (λ sink. (sinks_of job ≡ sink.task ∷ [])
    × IsSinkNumber job sink.task sink.number)
only_some job n None before all = tt
only_some job n (Some sink) before all =
    let list : sinks_of job ≡ sink.task ∷ [] = ap (sinks_before job) (sym all) ∙ before.0 in
    let first = before.1 in
    let one = ap length list in
    let number : IsSinkNumber job sink.task sink.number =
    record {
      there = omega arith;
      task = ap (λ l. get_or l sink.number 0) list
          ∙ ap (λ k. get_or (sink.task ∷ []) k 0) first;
    } in
    (list, number)

pub only_none : (job : Job) (n : ℕ) (only : Option Sink) → IsOnlyBefore job n only
    → n ≡ length job.graph.tasks → only ≡ None → (t : ℕ) → sinks_of job ≡ t ∷ [] → ⊥
only_none job n None before all none t is =
    let many = ap length before in
    let one = ap length (ap (sinks_before job) all ∙ is) in
    omega arith
only_none job n (Some sink) before all none t is = absurd (cc)
