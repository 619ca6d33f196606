-- The values before this place are in range, and stand in place of those that were there.
use Rattle.std.proofs.Common.{◌≡◌, map, take, drop, vec_capacity}
use Rattle.std.specs.Prelude.{Ok}
use Rattle.std.specs.List.{position_from}
use Rattle.stream_job.specs.Stepping.{is_value_out}
use Rattle.stream_job.proofs.turns.put_values.Given as goal

abbrev pub invariant-loop-place : goal.invariant-loop-place
invariant-loop-place l = record {
  values : map (λ x. Ok x) l.values.items ≡ take l.place l.made;
  none_yet : position_from is_value_out 0 l.made ≡ position_from is_value_out l.place (drop l.place l.made);
  room : vec_capacity l.values ≡ vec_capacity l.fn.values;
}
