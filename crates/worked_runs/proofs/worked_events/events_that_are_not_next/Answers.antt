-- One fact of each premise does not hold.
use Rattle.std.proofs.Common.{◌≡◌, ◌<◌, ◌≤◌, ℕ, List, length, [], ◌∷◌, Option, Some, None, refl, arith, inr}
use Rattle.graph_base.specs.Graphs.{task_at}
use Rattle.stream_lists.specs.Jobs.{samples_at}
use Rattle.graph_runs.specs.Moments.{MayStop, at_until, no_sample, no_input}
use Rattle.worked_runs.specs.Worked.{worked, after_peer, by_out}
use Rattle.worked_runs.proofs.worked_events.events_that_are_not_next.Goals as goal

pub returns-clause-leaves_before_its_child : goal.returns-clause-leaves_before_its_child
returns-clause-leaves_before_its_child c = λ e.
    (let late : 1 < 1 =
    e.children 5 2 by_out (omega arith) refl refl refl refl (inr (0, omega arith, refl)) in
    omega (arith, late))

pub returns-clause-steps_past_until : goal.returns-clause-steps_past_until
returns-clause-steps_past_until c = λ outcome e.
    (let cut : 2 ≤ 1 = e.may_begin.cut in omega (arith, cut))

pub returns-clause-waits_before_it_comes : goal.returns-clause-waits_before_it_comes
returns-clause-waits_before_it_comes c = λ outcome e.
    (let number : Option ℕ = None in let absent : number ≡ Some 3 = e.wait.numbered in cc)

pub returns-clause-mixes_before_its_exchange : goal.returns-clause-mixes_before_its_exchange
returns-clause-mixes_before_its_exchange c = λ v e.
    (let few : 1 ≤ 0 = e.exchanged in omega (arith, few))

pub returns-clause-samples_past_the_last : goal.returns-clause-samples_past_the_last
returns-clause-samples_past_the_last c = λ v e.
    (let few : 3 ≤ 2 = e.may_begin.samples in omega (arith, few))

pub returns-clause-splits_out_of_turn : goal.returns-clause-splits_out_of_turn
returns-clause-splits_out_of_turn c = λ v e.
    (let few : 1 < 1 = e.few in omega (arith, few))

pub returns-clause-joins_out_of_turn : goal.returns-clause-joins_out_of_turn
returns-clause-joins_out_of_turn c = λ outcome e.
    (let first : 0 ≡ 1 = e.first in omega (arith, first))

pub returns-clause-leaves_before_its_input_ends : goal.returns-clause-leaves_before_its_input_ends
returns-clause-leaves_before_its_input_ends c = λ e. by e.ended.may_end
  where
    by : MayStop after_peer (task_at worked.graph 2) 2 (length (samples_at worked 2)) → ⊥
    by (at_until u) = absurd (cc)
    by (no_sample s few) = absurd (cc)
    by (no_input s out) = (let phases : List ℕ = 2 ∷ [] in let none : phases ≡ [] = out.0 in cc)
