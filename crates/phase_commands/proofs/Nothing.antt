-- Where nothing was read and nothing was written, for memory ran out over the words.
use Rattle.std.proofs.Common.{◌≡◌, Bool, List, [], ℕ, Option, Some, None, refl}
use Rattle.std.proofs.KnownBytes.{Appends-nil}
use Rattle.watched_io.specs.States.{ReaderState, WriterState}
use Rattle.watched_io.proofs.Giving.{reads_nothing}
use Rattle.phase_replay.specs.Replay.{RepliesPrefix}
use Rattle.phase_replay.specs.Replies.{replies_of}
use Rattle.watched_io.specs.declared.fault.IoFault.TheVariants.{OutOfMemory}
use Rattle.watched_io.specs.declared.status.Status.{Status}
use Rattle.watched_io.specs.declared.status.Status.TheVariants.{Failed}
use Rattle.phase_replay.specs.declared.whole.TheConstants.{SCRIPT_MAX}
use Rattle.phase_replay.proofs.Reading.{replays_nothing}
use Rattle.watched_io.specs.Statuses.{Reports}
use Rattle.phase_replay.specs.Replays.{ReplayEnds}

-- nothing is a prefix of the replies
known_none : (unread : Option (List ℕ)) (old : WriterState) (count : ℕ) (failed : Bool)
    → RepliesPrefix (record { unread = unread; count = count; failed = failed }) old old
known_none None old count failed = tt
known_none (Some script) old count failed = ([], replies_of script, refl, Appends-nil old.written)

pub replay-unbegun : (status : Status) (input : ReaderState) (output before after : WriterState)
    → status ≡ Failed → Reports OutOfMemory before after
    → ReplayEnds status input input output output before after
replay-unbegun status input output before after failed says = record {
  done = λ done. absurd (cc (failed, done));
  stops = λ _. record {
    fault = OutOfMemory;
    cause = (reads_nothing SCRIPT_MAX input, refl, refl);
    known = known_none input.unread output input.count input.failed;
    prefix = replays_nothing input output;
    says = says;
  };
}
