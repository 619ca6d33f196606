-- Each at its own moment of the run.
use Rattle.std.proofs.Common.{[], ◌∷◌, pos, refl, arith}
use Rattle.phase_accum.specs.declared.outcome.Outcome.TheVariants.{Value}
use Rattle.graph_runs.specs.Moments.{Moment}
use Rattle.graph_runs.specs.Stops.{HasStoppedAt}
use Rattle.worked_runs.specs.WorkedStops.{a_saw, as_a_knows, as_b_knows, as_out_knows, b_saw, came, out_saw, stopped}
use Rattle.worked_runs.proofs.Stopped.{Knows, agree, each, none_too_big, ran_a, ran_b, ran_out, stands, stopped-is, value_in_range}
use Rattle.worked_runs.proofs.worked_stops.a_run_is_stopped.Goals as goal

pub returns-clause-stop : goal.returns-clause-stop
returns-clause-stop c =
    let a = ran_a c.runs_begin.ensures.reached c.turns_stay_reached.ensures.turns stopped stopped-is in
    let b = ran_b c.runs_begin.ensures.reached c.turns_stay_reached.ensures.turns stopped stopped-is in
    let out = ran_out c.runs_begin.ensures.reached c.turns_stay_reached.ensures.turns stopped stopped-is in
    let of_a : Knows came (as_a_knows stopped) 0 1 a_saw = record {
      ran = a.ran;
      few = omega arith;
      number = refl;
      saw = refl;
      named = (refl, (refl, tt));
      got = [];
      received = refl;
      met_none = none_too_big;
      childless = refl;
      offset = refl;
      place = refl;
      one = refl;
    } in
    let of_b : Knows came (as_b_knows stopped) 1 2 b_saw = record {
      ran = b.ran;
      few = omega arith;
      number = refl;
      saw = refl;
      named = (refl, tt);
      got = [];
      received = refl;
      met_none = none_too_big;
      childless = refl;
      offset = refl;
      place = refl;
      one = refl;
    } in
    let of_out : Knows came (as_out_knows stopped) 2 3 out_saw = record {
      ran = out.ran;
      few = omega arith;
      number = refl;
      saw = refl;
      named = tt;
      got = Value (pos 11) ∷ [];
      received = refl;
      met_none = value_in_range (pos 11);
      childless = refl;
      offset = refl;
      place = refl;
      one = refl;
    } in
    record {
      tasks = each (λ t end. (m : Moment) × HasStoppedAt stopped m end) (
        as_a_knows stopped,
        stands came (as_a_knows stopped) 0 1 2 a_saw [] of_a refl (λ kind. absurd (cc)) refl,
      ) (
        as_b_knows stopped,
        stands came (as_b_knows stopped) 1 2 1 b_saw [] of_b refl (λ kind. absurd (cc)) refl,
      ) (
        as_out_knows stopped,
        stands came (as_out_knows stopped) 2 3 1 out_saw (pos 11 ∷ []) of_out refl (λ kind. refl) refl,
      );
      agree = agree came (a.ran.phasers 0 (omega arith)).legal;
    }

pub returns-clause-ran : goal.returns-clause-ran
returns-clause-ran c =
    c.stops_have_run.ensures stopped _ stopped-is (returns-clause-stop c)
