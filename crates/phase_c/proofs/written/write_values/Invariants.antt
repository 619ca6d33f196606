use Rattle.std.proofs.Common.{◌≡◌, ◌++◌, length, take, drop}
use Rattle.std.specs.List.{flat_map}
use Rattle.phase_c.specs.SinkValues.{items_in}
use Rattle.phase_c.proofs.written.write_values.Given as goal

-- the values of the sinks before this one were written
abbrev pub invariant-loop-line : goal.invariant-loop-line
invariant-loop-line l = record {
  place : l.at ≡ length (flat_map items_in (take l.line-index l.lines));
  written : l.out ≡ flat_map items_in (take l.line-index l.lines) ++ drop l.at l.fn.out;
}
