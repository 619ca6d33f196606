use Rattle.std.proofs.Common.{◌≡◌, ◌++◌, take, vec_capacity}
use Rattle.stream_job.proofs.input.Input.take.Given as goal

-- the first ones stand behind those that waited, and there is as much room
abbrev pub invariant-loop-sample : goal.invariant-loop-sample
invariant-loop-sample l = record {
  pushed : l.self.values.items
      ≡ l.initial.self.values.items ++ take l.sample-index l.sample-items;
  room : vec_capacity l.self.values ≡ vec_capacity l.initial.self.values;
  from : l.self.from ≡ l.initial.self.from;
  ended : l.self.ended ≡ l.initial.self.ended;
  task : l.self.task ≡ l.initial.self.task;
}
