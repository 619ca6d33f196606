-- Whether the signal of what a task owes before a value out of range would be blocked.
use Rattle.std.proofs.Common.{◌≡◌, ℕ, ℤ, List, zero, suc, ◌+◌, ◌<◌, Bool, true, false, cond, [], ◌∷◌, Option, Some, None, length, map, take, drop, refl, sym, ap, ◌∙◌, arith}
use Rattle.std.specs.Prelude.{Result, Ok, Err}
use Rattle.std.specs.List.{position_from}
use Rattle.std.proofs.lemmas.List.{length-take-le}
use Rattle.std.proofs.lemmas.Option.{same_Some}
use Rattle.phase_accum.specs.Sends.{AreSends}
use Rattle.stream_filters.specs.Range.{ranged}
use Rattle.stream_filters.specs.declared.fault.TooBigValue.{TooBigValue}
use Rattle.graph_base.specs.TaskLines.{IsGraph}
use Rattle.stream_lists.specs.Jobs.{Job, samples_at}
use Rattle.stream_lists.specs.Ranges.{is_out_of_range}
use Rattle.graph_runs.specs.Answers.{output_at, values_up_to}
use Rattle.graph_runs.specs.Moments.{Moment, limits_at, made_now}
use Rattle.graph_runs.specs.NextBlocks.{MaySize}
use Rattle.graph_runs.specs.Nexts.{next_of, number_on, signals}
use Rattle.graph_runs.specs.Reached.{IsReachable}
use Rattle.graph_runs.specs.TaskEvents.{signal}
use Rattle.graph_runs.specs.TaskPlaces.{StandsUpTo, TaskPlace}
use Rattle.stream_job.specs.InRange.{are_blocked, blocks_before, good_many, is_blocked_before}
use Rattle.stream_job.specs.Places.{MaySignal}
use Rattle.stream_job.specs.Stepping.{blocks_signal, good_in, is_value_out}
use Rattle.stream_job.proofs.GoodSizes.{smaller_block}
use Rattle.stream_job.proofs.SentValues.{in_range, out_of_range}
use Rattle.stream_job.proofs.Signals.{owes_values}
use Rattle.stream_job.proofs.Stalling.{never_refused, rest_few, signal_turn_blocked, take_all}

-- the first value out of range stands where the first range that is out does
good_same : (a : ℕ) (zs : List ℤ)
    → position_from is_out_of_range a zs ≡ position_from is_value_out a (map ranged zs)
good_same a [] = refl
good_same a (z ∷ zs) = by (ranged z) refl (good_same (a + 1) zs)
  where
    by : (r : Result ℤ TooBigValue) → ranged z ≡ r
        → position_from is_out_of_range (a + 1) zs
        ≡ position_from is_value_out (a + 1) (map ranged zs)
        → position_from is_out_of_range a (z ∷ zs)
        ≡ position_from is_value_out a (ranged z ∷ map ranged zs)
    by (Ok x) e rest =
        let i = in_range z x e in
        let fits : is_out_of_range z ≡ false = ap is_out_of_range i.0 ∙ i.1 in
        ap (λ b. cond b (Some a) (position_from is_out_of_range (a + 1) zs)) fits ∙ rest
        ∙ sym (ap (λ r. position_from is_value_out a (r ∷ map ranged zs)) e)
    by (Err o) e rest =
        ap (λ b. cond b (Some a) (position_from is_out_of_range (a + 1) zs)) (out_of_range z o e)
        ∙ sym (ap (λ r. position_from is_value_out a (r ∷ map ranged zs)) e)

-- none of those before it is
none_before : (a b k : ℕ) (zs : List ℤ) → position_from is_out_of_range a zs ≡ Some (a + k)
    → (position_from is_out_of_range b (take k zs) ≡ None) × (k < length zs)
none_before a b k [] e = absurd (cc)
none_before a b zero (z ∷ zs) e = (refl, omega arith)
none_before a b (suc k) (z ∷ zs) e =
    by (is_out_of_range z) refl e (λ rest. none_before (a + 1) (b + 1) k zs rest)
  where
    by : (c : Bool) → is_out_of_range z ≡ c
        → cond c (Some a) (position_from is_out_of_range (a + 1) zs) ≡ Some (a + suc k)
        → (position_from is_out_of_range (a + 1) zs ≡ Some (a + 1 + k)
        → (position_from is_out_of_range (b + 1) (take k zs) ≡ None) × (k < length zs))
        → (cond (is_out_of_range z) (Some b) (position_from is_out_of_range (b + 1) (take k zs))
        ≡ None) × (suc k < suc (length zs))
    by true is e next = absurd (let same : a ≡ a + suc k = same_Some a (a + suc k) e in omega arith)
    by false is e next =
        let off : a + suc k ≡ a + 1 + k = omega arith in
        let rest = next (e ∙ ap (λ n. Some n) off) in
        let few : k < length zs = rest.1 in (
          ap (λ c. cond c (Some b) (position_from is_out_of_range (b + 1) (take k zs))) is ∙ rest.0,
          omega arith,
        )

-- how many stand before it, by what the place of the task owes
pub good_is : (most : ℕ) (job : Job) (m : Moment) (t j : ℕ) (at : TaskPlace)
    → StandsUpTo most job m t at → next_of job m t ≡ signals j
    → good_many job m t j ≡ good_in at.owed
good_is most job m t j at stands next =
    let d = drop (length (m.put t j)) (made_now job m t j) in
    let o = owes_values most job m t j at.owed stands.owes next in
    let all = take_all most d (rest_few most job m t j at stands next) in
    good_same 0 d ∙ ap (λ l. position_from is_value_out 0 (map ranged l)) (sym all)
    ∙ ap (position_from is_value_out 0) o.2 ∙ sym (ap good_in o.1)

-- by the phaser
pub good_blocks : (most : ℕ) (job : Job) (m : Moment) (t j n : ℕ) (at : TaskPlace)
    → t < length job.graph.tasks → MaySignal job t most → IsGraph job.graph
    → AreSends (samples_at job t) → IsReachable job m → next_of job m t ≡ signals j
    → StandsUpTo most job m t at → good_in at.owed ≡ Some (suc n)
    → is_blocked_before job m t
    ≡ blocks_signal (limits_at job (output_at job t j)) (m.history (output_at job t j))
    (number_on m t (output_at job t j)) (suc n)
good_blocks most job m t j n at there may is sends reached next stands good =
    let d = drop (length (m.put t j)) (made_now job m t j) in
    let p = output_at job t j in
    let vs = values_up_to (suc n) job m t j in
    let found : good_many job m t j ≡ Some (suc n) = good_is most job m t j at stands next ∙ good in
    let here : suc n ≡ 0 + suc n = omega arith in
    let before = none_before 0 (length (m.put t j)) (suc n) d (found ∙ ap (λ k. Some k) here) in
    let few : suc n < length d = before.1 in
    let small = rest_few most job m t j at stands next in
    let long : length vs ≡ suc n = length-take-le (suc n) d (omega arith) in
    let sized : MaySize job.graph t 1 (suc n) = λ there. record {
      block = smaller_block job.graph t most 1 (omega arith) may.block.some may.block;
      owed = smaller_block job.graph t most (suc n) (omega arith) (omega arith) may.block;
      few = λ fir. omega arith;
    } in
    ap (blocks_before job m t) next ∙ ap (are_blocked job m t j) found
    ∙ signal_turn_blocked job m t j vs (signal t j p (number_on m t p) vs) (omega arith) before.0
    (never_refused job m t (signals j) sized is sends reached next)
    ∙ ap (blocks_signal (limits_at job p) (m.history p) (number_on m t p)) long

-- where there are none it is not
pub none_blocks : (most : ℕ) (job : Job) (m : Moment) (t j : ℕ) (at : TaskPlace) (good : Option ℕ)
    → next_of job m t ≡ signals j → StandsUpTo most job m t at → good_in at.owed ≡ good
    → are_blocked job m t j good ≡ false → is_blocked_before job m t ≡ false
none_blocks most job m t j at good next stands is none =
    ap (blocks_before job m t) next
    ∙ ap (are_blocked job m t j) (good_is most job m t j at stands next ∙ is) ∙ none

-- so many, which are some
pub some_blocks : (most : ℕ) (job : Job) (m : Moment) (t j many : ℕ) (at : TaskPlace)
    → t < length job.graph.tasks → MaySignal job t most → IsGraph job.graph
    → AreSends (samples_at job t) → IsReachable job m → next_of job m t ≡ signals j
    → StandsUpTo most job m t at → 0 < many → good_in at.owed ≡ Some many
    → is_blocked_before job m t
    ≡ blocks_signal (limits_at job (output_at job t j)) (m.history (output_at job t j))
    (number_on m t (output_at job t j)) many
some_blocks most job m t j zero at there may is sends reached next stands some good =
    absurd (omega arith)
some_blocks most job m t j (suc n) at there may is sends reached next stands some good =
    good_blocks most job m t j n at there may is sends reached next stands good
