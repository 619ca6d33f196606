-- One sink after another that goes to a file.
use Rattle.std.proofs.Common.{◌≡◌, ◌⊎◌, inl, inr, ◌<◌, ◌≤◌, ◌+◌, ◌++◌, ℕ, zero, suc, Bool, true, false, List, [], ◌∷◌, Option, Some, None, length, map, get_or, slice_get, refl, sym, ap, subst, ◌∙◌, arith}
use Rattle.std.specs.Prelude.{is_some, nat_lt}
use Rattle.std.proofs.lemmas.Bool.{cases_lt, ltb-false, ltb-true}
use Rattle.std.proofs.lemmas.List.{length_push}
use Rattle.std.proofs.lemmas.Option.{same_Some}
use Rattle.graph_commands.specs.GraphRuns.{sink_named}
use Rattle.phase_words.specs.Outputs.{Pair, pair_as}
use Rattle.phase_words.specs.declared.call.SinkFile.{SinkFile}
use Rattle.phase_words.specs.StreamLine.{Stream}
use Rattle.stream_lists.specs.Jobs.{Job}
use Rattle.phase_stream.specs.Outputs.{AreTargetsOf, IsOutputTarget, LacksSink, is_asked, task_to}
use Rattle.phase_stream.specs.Sessions.{AreTargets, IsSinkNumber, sink_for, task_for}
use Rattle.phase_stream.specs.declared.sink.Sink.{Sink}
use Rattle.phase_stream.proofs.Targets.{beyond}

-- the sinks of the output and of the first n files go where they are asked for
pub record AreFirst (job : Job) (what : Stream) (n : ℕ) (targets : List (Option Sink)) : Type 0 where
  pub many : length targets ≡ n + 1
  pub goes : (k : ℕ) → k < n + 1 → task_for targets k ≡ task_to job what.sink what.files k
  pub numbers : AreTargets job targets
  pub sinks : (k : ℕ) → k < n + 1 → is_asked what.sink what.files k ≡ true
      → is_some (task_to job what.sink what.files k) ≡ true

-- ---- one file more

pub first_output : (job : Job) (what : Stream) (target : Option Sink) → IsOutputTarget job what target
    → AreFirst job what 0 (target ∷ [])
first_output job what target output = record {
  many = refl;
  goes = goes;
  numbers = numbers;
  sinks = sinks;
}
  where
    goes : (k : ℕ) → k < 0 + 1 → task_for (target ∷ []) k ≡ task_to job what.sink what.files k
    goes zero lt = output.task
    goes (suc k) lt = absurd (omega (arith, lt))

    numbers : AreTargets job (target ∷ [])
    numbers zero sink is = output.number sink is
    numbers (suc k) sink is = absurd (cc)

    sinks : (k : ℕ) → k < 0 + 1 → is_asked what.sink what.files k ≡ true
        → is_some (task_to job what.sink what.files k) ≡ true
    sinks zero lt asked = output.there asked
    sinks (suc k) lt asked = absurd (omega (arith, lt))

-- the places of a list with one more item
push_before : (targets : List (Option Sink)) (target : Option Sink) (k : ℕ) → k < length targets
    → slice_get (targets ++ target ∷ []) k ≡ slice_get targets k
push_before [] target k lt = absurd (omega (arith, lt))
push_before (x ∷ xs) target zero lt = refl
push_before (x ∷ xs) target (suc k) lt = push_before xs target k (omega (arith, lt))

push_at : (targets : List (Option Sink)) (target : Option Sink) (k : ℕ) → k ≡ length targets
    → slice_get (targets ++ target ∷ []) k ≡ Some target
push_at [] target zero e = refl
push_at [] target (suc k) e = absurd (omega (arith, e))
push_at (x ∷ xs) target zero e = absurd (omega (arith, e))
push_at (x ∷ xs) target (suc k) e = push_at xs target k (omega (arith, e))

push_past : (targets : List (Option Sink)) (target : Option Sink) (k : ℕ) → length targets < k
    → slice_get (targets ++ target ∷ []) k ≡ None
push_past [] target zero lt = absurd (omega (arith, lt))
push_past [] target (suc k) lt = refl
push_past (x ∷ xs) target zero lt = absurd (omega (arith, lt))
push_past (x ∷ xs) target (suc k) lt = push_past xs target k (omega (arith, lt))

pub first_more : (job : Job) (what : Stream) (n : ℕ) (targets : List (Option Sink)) (file : Pair)
    (sink : Sink) → AreFirst job what n targets → slice_get what.files n ≡ Some file
    → sink_named job file.0 ≡ Some sink.task → IsSinkNumber job sink.task sink.number
    → AreFirst job what (n + 1) (targets ++ Some sink ∷ [])
first_more job what n targets file sink first there named number = record {
  many =
      let many = first.many in
      length_push targets (Some sink) ∙ omega (arith, many);
  goes = λ k lt. goes k lt (cases_lt k (n + 1));
  numbers = λ k other is. numbers k other is (cases_lt k (length targets));
  sinks = λ k lt asked. sinks k lt asked (cases_lt k (n + 1));
}
  where
    task_here : (k : ℕ) → k ≡ n + 1 → task_to job what.sink what.files k ≡ Some sink.task
    task_here zero e = absurd (omega (arith, e))
    task_here (suc k) e =
        let same : k ≡ n = omega (arith, e) in
        let got : slice_get what.files k ≡ Some file = ap (slice_get what.files) same ∙ there in
        rw got named

    goes : (k : ℕ) → k < n + 1 + 1 → (k < n + 1) ⊎ (n + 1 ≤ k)
        → task_for (targets ++ Some sink ∷ []) k ≡ task_to job what.sink what.files k
    goes k lt (inl less) =
        let many = first.many in
        let here = push_before targets (Some sink) k (omega (arith, less, many)) in
        rw here (first.goes k less)
    goes k lt (inr past) =
        let many = first.many in
        let last : k ≡ n + 1 = omega (arith, lt, past) in
        let here = push_at targets (Some sink) k (omega (arith, last, many)) in
        rw here (sym (task_here k last))

    numbers : (k : ℕ) (other : Sink) → sink_for (targets ++ Some sink ∷ []) k ≡ Some other
        → (k < length targets) ⊎ (length targets ≤ k) → IsSinkNumber job other.task other.number
    numbers k other is (inl less) =
        let here = push_before targets (Some sink) k less in
        first.numbers k other (rw here at is)
    numbers k other is (inr past) = elim (cases_lt (length targets) k) [
      | inl more ↦
          let here = push_past targets (Some sink) k more in
          let bad : None ≡ Some other = rw here at is in absurd (cc)
      | inr few ↦
          let here = push_at targets (Some sink) k (omega (arith, past, few)) in
          let same : Some sink ≡ Some other = rw here at is in
          subst (λ (s : Sink). IsSinkNumber job s.task s.number) (same_Some sink other same) number
    ]

    sinks : (k : ℕ) → k < n + 1 + 1 → is_asked what.sink what.files k ≡ true
        → (k < n + 1) ⊎ (n + 1 ≤ k)
        → is_some (task_to job what.sink what.files k) ≡ true
    sinks k lt asked (inl less) = first.sinks k less asked
    sinks k lt asked (inr past) = ap is_some (task_here k (omega (arith, lt, past)))

-- behind the last file goes none
past_none : (files : List Pair) (k : ℕ) → length files ≤ k → slice_get files k ≡ None
past_none [] k le = refl
past_none (x ∷ xs) zero le = absurd (omega (arith, le))
past_none (x ∷ xs) (suc k) le = past_none xs k (omega (arith, le))

task_past : (job : Job) (what : Stream) (k : ℕ) → length what.files + 1 ≤ k
    → task_to job what.sink what.files k ≡ None
task_past job what zero le = absurd (omega (arith, le))
task_past job what (suc k) le =
    let none = past_none what.files k (omega (arith, le)) in rw none refl

asked_few : (sink : Option (List ℕ)) (files : List Pair) (k : ℕ) → is_asked sink files k ≡ true
    → k < length files + 1
asked_few sink files zero asked = omega arith
asked_few sink files (suc k) asked =
    let lt = ltb-true k (length files) asked in omega (arith, lt)

pub first_all : (job : Job) (what : Stream) (n : ℕ) (targets : List (Option Sink))
    → n ≡ length what.files → AreFirst job what n targets → AreTargetsOf job what targets
first_all job what n targets all first = record {
  goes = λ k. goes k (cases_lt k (n + 1));
  many = first.many ∙ ap (λ n. n + 1) all;
  numbers = first.numbers;
  sinks = λ k asked.
      (let few = asked_few what.sink what.files k asked in
      first.sinks k (omega (arith, few, all)) asked);
}
  where
    goes : (k : ℕ) → (k < n + 1) ⊎ (n + 1 ≤ k)
        → task_for targets k ≡ task_to job what.sink what.files k
    goes k (inl less) = first.goes k less
    goes k (inr past) =
        let many = first.many in
        beyond targets k (omega (arith, past, many))
        ∙ sym (task_past job what k (omega (arith, past, all)))

-- a file in its place, as a pair
pub got_pair : (items : List SinkFile) (k : ℕ) (d : SinkFile) → k < length items
    → slice_get (map pair_as items) k ≡ Some (pair_as (get_or items k d))
got_pair [] k d lt = absurd (omega (arith, lt))
got_pair (x ∷ xs) zero d lt = refl
got_pair (x ∷ xs) (suc k) d lt = got_pair xs k d (omega (arith, lt))

lt_true : (a b : ℕ) (t : Bool) → a < b → nat_lt a b ≡ t → t ≡ true
lt_true a b true lt e = refl
lt_true a b false lt e = let ge = ltb-false a b e in absurd (omega (arith, lt, ge))

-- a file whose sink is not there
pub file_lacks : (job : Job) (what : Stream) (n : ℕ) (file : Pair) → n < length what.files
    → slice_get what.files n ≡ Some file → sink_named job file.0 ≡ None
    → LacksSink job what.sink what.files
file_lacks job what n file lt there none = record {
  number = suc n;
  asked = lt_true n (length what.files) (nat_lt n (length what.files)) lt refl;
  none = rw there none;
}
