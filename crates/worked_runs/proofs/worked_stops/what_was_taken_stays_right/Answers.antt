-- Each at a moment of its own, of a run with samples of its own.
use Rattle.std.proofs.Common.{[], ◌∷◌, pos, refl, arith}
use Rattle.phase_accum.specs.declared.outcome.Outcome.TheVariants.{Value}
use Rattle.graph_runs.specs.Stops.{StandsFed}
use Rattle.stream_lists.specs.Jobs.{with_samples}
use Rattle.worked_runs.specs.WorkedStops.{a_saw, as_a_knows, as_b_knows, as_out_knows, b_saw, came, for_a, for_b, for_out, out_saw, unfed}
use Rattle.worked_runs.proofs.Stopped.{Knows, agree, each, none_too_big, ran_a, ran_b, ran_out, stands, still_open, stopped-is, value_in_range}
use Rattle.worked_runs.proofs.worked_stops.what_was_taken_stays_right.Goals as goal

pub returns-clause-stop : goal.returns-clause-stop
returns-clause-stop c =
    let by_a = with_samples for_a unfed in
    let by_b = with_samples for_b unfed in
    let by_out = with_samples for_out unfed in
    let a = ran_a c.runs_begin.ensures.reached c.turns_stay_reached.ensures.turns by_a stopped-is in
    let b = ran_b c.runs_begin.ensures.reached c.turns_stay_reached.ensures.turns by_b stopped-is in
    let out = ran_out c.runs_begin.ensures.reached c.turns_stay_reached.ensures.turns by_out stopped-is in
    let of_a : Knows for_a (as_a_knows by_a) 0 1 a_saw = record {
      ran = a.ran;
      few = omega arith;
      number = refl;
      saw = refl;
      named = (refl, (refl, tt));
      got = [];
      received = refl;
      met_none = none_too_big;
      childless = refl;
      offset = refl;
      place = refl;
      one = refl;
    } in
    let of_b : Knows for_b (as_b_knows by_b) 1 2 b_saw = record {
      ran = b.ran;
      few = omega arith;
      number = refl;
      saw = refl;
      named = (refl, tt);
      got = [];
      received = refl;
      met_none = none_too_big;
      childless = refl;
      offset = refl;
      place = refl;
      one = refl;
    } in
    let of_out : Knows for_out (as_out_knows by_out) 2 3 out_saw = record {
      ran = out.ran;
      few = omega arith;
      number = refl;
      saw = refl;
      named = tt;
      got = Value (pos 11) ∷ [];
      received = refl;
      met_none = value_in_range (pos 11);
      childless = refl;
      offset = refl;
      place = refl;
      one = refl;
    } in
    record {
      tasks = each (λ t end. StandsFed unfed came end)
          (record {
            own = for_a;
            same = refl;
            moment = as_a_knows by_a;
            stands = stands for_a (as_a_knows by_a) 0 1 2 a_saw [] of_a refl (λ kind. absurd (cc)) refl;
          })
          (record {
            own = for_b;
            same = refl;
            moment = as_b_knows by_b;
            stands = stands for_b (as_b_knows by_b) 1 2 1 b_saw [] of_b refl (λ kind. absurd (cc)) refl;
          })
          (record {
            own = for_out;
            same = refl;
            moment = as_out_knows by_out;
            stands = stands for_out (as_out_knows by_out) 2 3 1 out_saw (pos 11 ∷ []) of_out refl
                (λ kind. refl) refl;
          });
      agree = agree [] (a.ran.phasers 0 (omega arith)).legal;
      open_is = still_open;
    }

pub returns-clause-right : goal.returns-clause-right
returns-clause-right c = λ more ready fed.
    c.stops_are_right.ensures unfed _ more _ _ ready (returns-clause-stop c) fed
