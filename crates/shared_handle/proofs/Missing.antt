-- How a phaser stands, and who is missing, as one answer.
use Rattle.std.proofs.Common.{◌≡◌, ℕ, List}
use Rattle.std.specs.Prelude.{Result, Ok, Err, OnOk, OnErr}
use Rattle.phase_history.specs.declared.refusal.NoTask.{NoTask}
use Rattle.phase_history.specs.Histories.{History}
use Rattle.phase_core.specs.Standings.{missing_of, put_over}
use Rattle.phase_core.specs.declared.standing.Standing.{Standing}
use Rattle.phase_shared.specs.declared.rule.Terms.{Terms}
use Rattle.phase_shared.specs.declared.tried.Tried.{Tried}
use Rattle.phase_shared.specs.declared.tried.Tried.TheVariants.{Busy, Refused}
use Rattle.phase_shared.specs.Calls.{IsTry, Tries}
use Rattle.phase_shared.specs.Entries.{entry_stays}
use Rattle.phase_shared.specs.Regs.{RegState}
use Rattle.phase_shared.specs.Rule.{Allows}
use Rattle.phase_shared.specs.Standings.{AnswersStanding, unregistered}
use Rattle.shared_handle.specs.Calls.{AnswersMissing}

-- where it is told, the numbers are written; where the turn was another's, nothing is
tries_missing : (same : Type 0) (me : ℕ) (old new : History) (old_places new_places : List ℕ)
    (answer : Result Standing (Tried NoTask)) → Tries same (AnswersStanding me old new) answer
    → OnOk answer (new_places ≡ put_over (missing_of new) old_places)
    → OnErr answer (new_places ≡ old_places)
    → Tries (same × (new_places ≡ old_places)) (AnswersMissing me old new old_places new_places)
    answer
tries_missing same me old new old_places new_places (Ok standing) call written none =
    record { stands = call; places_are = written }
tries_missing same me old new old_places new_places (Err Busy) call written none = (call, none)
tries_missing same me old new old_places new_places (Err (Refused refusal)) call written none =
    call

-- the same of a try of a registration
pub missing_try : {A K : Type 0} (allows : K → Allows) (terms : Terms K) (old new : RegState A K)
    (old_places new_places : List ℕ) (answer : Result Standing (Tried NoTask))
    → IsTry allows terms unregistered entry_stays
    (Tries (new ≡ old) (AnswersStanding old.number old.seen new.seen) answer) old new answer
    → OnOk answer (new_places ≡ put_over (missing_of new.seen) old_places)
    → OnErr answer (new_places ≡ old_places)
    → IsTry allows terms unregistered entry_stays (Tries ((new ≡ old) × (new_places ≡ old_places))
    (AnswersMissing old.number old.seen new.seen old_places new_places) answer) old new answer
missing_try allows terms old new old_places new_places answer t written none = record {
  call = tries_missing (new ≡ old) old.number old.seen new.seen old_places new_places answer
      t.call written none;
  entry = t.entry;
  mode = t.mode;
  at = t.at;
  good = t.good;
  known = t.known;
  alone = t.alone;
}
