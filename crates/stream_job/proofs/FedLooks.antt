-- What is known of the tasks that were looked at.
use Rattle.std.proofs.Common.{◌≡◌, ℕ, ℤ, List, zero, suc, ◌+◌, ◌<◌, ◌≤◌, ◌||◌, Bool, true, false, Option, Some, None, sym, ap, subst, ◌∙◌, arith, ◌⊎◌, inl, inr}
use Rattle.std.specs.Prelude.{is_some, nat_lt}
use Rattle.std.proofs.lemmas.Bool.{cases_lt}
use Rattle.stream_lists.specs.Jobs.{with_samples}
use Rattle.stream_lists.specs.Ranges.{Where}
use Rattle.graph_runs.specs.Moments.{Moment}
use Rattle.stream_job.specs.InRange.{stands_before}
use Rattle.stream_job.specs.Rounds.{FirstOrRest, LooksSo, first_met, of_moved}
use Rattle.stream_job.specs.Streams.{EachStands, FirstStands, IsStreamAt, StreamState, ended_at, rests}

-- ---- one more task

first_more : (rest : ℕ → Bool) (before : ℕ → Option Where) (n : ℕ) (at : Where)
    → FirstStands rest before n at → FirstStands rest before (n + 1) at
first_more rest before n at first = record {
  task = first.task;
  there = (let lt : first.task < n = first.there in omega arith);
  first = first.first;
  is = first.is;
}

each_more : (rest : ℕ → Bool) (before : ℕ → Option Where) (n : ℕ) → EachStands rest before n
    → (rest n ≡ false → is_some (before n) ≡ true) → EachStands rest before (n + 1)
each_more rest before n each last t lt not = by (cases_lt t n)
  where
    by : (t < n) ⊎ (n ≤ t) → is_some (before t) ≡ true
    by (inl less) = each t less not
    by (inr past) =
        let same : n ≡ t = omega arith in
        subst (λ k. is_some (before k) ≡ true) same
        (last (subst (λ k. rest k ≡ false) (sym same) not))

-- it rests
first_rest : (rest : ℕ → Bool) (before : ℕ → Option Where) (n : ℕ) (o : Option Where)
    → FirstOrRest rest before n o → rest n ≡ true → FirstOrRest rest before (n + 1) o
first_rest rest before n None all last = λ t lt. by t lt (cases_lt t n)
  where
    by : (t : ℕ) → t < n + 1 → (t < n) ⊎ (n ≤ t) → rest t ≡ true
    by t lt (inl less) = all t less
    by t lt (inr past) =
        let same : n ≡ t = omega arith in subst (λ k. rest k ≡ true) same last
first_rest rest before n (Some at) first last = first_more rest before n at first

-- it stands before a value out of range
first_stands : (rest : ℕ → Bool) (before : ℕ → Option Where) (n : ℕ) (o : Option Where)
    (at : Where) → FirstOrRest rest before n o → before n ≡ Some at
    → FirstOrRest rest before (n + 1) (first_met o at)
first_stands rest before n None at all stands =
    record { task = n; there = omega arith; first = all; is = stands }
first_stands rest before n (Some there) at first stands = first_more rest before n there first

pub looked_rest : (stream : StreamState) (n : ℕ) (o : Option Where) → LooksSo stream n o
    → ((s : List (List ℤ)) (m : Moment) (given : ℕ → List ℤ) → IsStreamAt stream s m given
    → rests (with_samples s stream.job) (ended_at stream) m given n ≡ true)
    → LooksSo stream (n + 1) o
looked_rest stream n o looked rest s m given at =
    let job = with_samples s stream.job in
    let was = looked s m given at in
    let last = rest s m given at in
    record {
      each = each_more (rests job (ended_at stream) m given) (stands_before job m) n was.each
          (λ not. absurd (let wrong : true ≡ false = sym last ∙ not in cc));
      first = first_rest (rests job (ended_at stream) m given) (stands_before job m) n o was.first
          last;
    }

pub looked_stands : (stream : StreamState) (n : ℕ) (o : Option Where) (at : Where)
    → LooksSo stream n o
    → ((s : List (List ℤ)) (m : Moment) (given : ℕ → List ℤ) → IsStreamAt stream s m given
    → stands_before (with_samples s stream.job) m n ≡ Some at)
    → LooksSo stream (n + 1) (first_met o at)
looked_stands stream n o at looked stands s m given it =
    let job = with_samples s stream.job in
    let was = looked s m given it in
    let last = stands s m given it in
    record {
      each = each_more (rests job (ended_at stream) m given) (stands_before job m) n was.each
          (λ not. ap is_some last);
      first = first_stands (rests job (ended_at stream) m given) (stands_before job m) n o at
          was.first last;
    }

-- before any task was looked at
pub looked_none : (stream : StreamState) → LooksSo stream 0 None
looked_none stream s m given at = record {
  each = λ t lt not. absurd (omega arith);
  first = λ t lt. absurd (omega arith);
}

-- ---- how many events there are

pub moved_few : (made : ℕ) → of_moved (nat_lt 0 made) ≤ made
moved_few zero = omega arith
moved_few (suc n) = by (nat_lt 0 (suc n))
  where
    by : (b : Bool) → of_moved b ≤ suc n
    by true = omega arith
    by false = omega arith

pub moved_either : (a b : Bool) → of_moved (a || b) ≤ of_moved a + of_moved b
moved_either true b = omega arith
moved_either false b = omega arith
