use Rattle.std.proofs.Common.{◌≤◌, [], length, take, inl, inr, refl}
use Rattle.std.proofs.KnownBytes.{Appends-nil}
use Rattle.watched_io.specs.declared.fault.IoFault.TheVariants.{OutOfMemory}
use Rattle.phase_replay.specs.Replies.{replies_of}
use Rattle.phase_replay.specs.Stops.{ScriptStopsAt}
use Rattle.phase_replay.proofs.strict.replay_strictly.Goals as goal

-- A line is refused.
pub returns-in-Ok-Some-clause-ends : goal.returns-in-Ok-Some-clause-ends
returns-in-Ok-Some-clause-ends g c =
    let script = c.args.script.now in
    let end = c.in-Ok-Some.stop.end in
    let number = c.in-Ok-Some.stop.number in
    let found : (end ≤ length script) × ScriptStopsAt script (take end script) number =
    rw c.in-Ok-Some.field-0-is at c.in-Ok-Some.ensures.some in
    let stops = found.1 in
    record {
      done = λ done. absurd (elim c.replay_front.ensures.status [
        | inl refused ↦ cc (done, refused)
        | inr failed ↦ cc (done, failed)
      ]);
      refused = λ refused. record {
        front = take end script;
        number = number;
        stops = stops;
        written = c.replay_front.ensures.written refused;
        says = c.replay_front.ensures.says refused;
      };
      stops = λ failed. record {
        front = take end script;
        number = number;
        through = inr (inl stops);
        stops = c.replay_front.ensures.stops failed;
      };
    }

-- Memory ran out over the search.
pub returns-in-Err-clause-ends : goal.returns-in-Err-clause-ends
returns-in-Err-clause-ends g c = record {
  done = λ done. absurd (cc (done, c.report.ensures.status));
  refused = λ refused. absurd (cc (refused, c.report.ensures.status));
  stops = λ failed. record {
    front = [];
    number = 0;
    through = inr (inr refl);
    stops = record {
      fault = OutOfMemory;
      noted = refl;
      prefix = ([], replies_of [], refl, Appends-nil _);
      says = c.report.ensures.line;
    };
  };
}
