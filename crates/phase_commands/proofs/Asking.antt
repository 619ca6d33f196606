-- What words ask for, and which statuses may come.
use Rattle.std.proofs.Common.{◌≡◌, ◌≢◌, ◌⊎◌, inl, inr, ℕ, List, Some, refl, sym, ◌∙◌, subst}
use Rattle.phase_commands.specs.Ends.{LeavesAlone, MayEndAs, MayEndAsked}
use Rattle.phase_commands.specs.Leaving.{LeavesBy}
use Rattle.phase_words.proofs.Answering.{may-end-taken, untaken-not-stalled}
use Rattle.phase_words.proofs.NoCalls.{taken-or-not}
use Rattle.phase_words.specs.Answers.{MayEnd}
use Rattle.phase_words.specs.CommandLine.{AreTaken, Asked, Asks, AskFile, asked_in, asked_of, check, columns, draw, eval, file_asked, kinds_of, replay, replay_file}
use Rattle.phase_words.specs.declared.call.Call.{Call}
use Rattle.phase_words.specs.declared.call.Strict.TheVariants as strictly
use Rattle.phase_words.specs.declared.call.Call.TheVariants as call
use Rattle.watched_io.specs.declared.status.Status.{Status}
use Rattle.watched_io.specs.declared.status.Status.TheVariants.{Done, Failed, GraphRefused, Refused, Stalled, TooBig}
use Rattle.watched_io.specs.declared.watched.Watched.{Watched}

-- ---- what words ask for

-- words ask for one thing
pub asks-one : (words : List (List ℕ)) (one other : Asked) → Asks words one → Asks words other → one ≡ other
asks-one words one other p q = sym p.command ∙ q.command

-- a replay with no file alone reads the input, and what goes by a file alone opens files
pub leaves-asked : {R F : Type 0} (words : List (List ℕ)) (asked : Call) (input rest : Watched R) (closed files : F)
    → Asks words (asked_of asked) → LeavesBy asked input rest closed files → LeavesAlone words input rest closed files
leaves-asked words asked input rest closed files asks leaves = record {
  unread = λ other. unread-by asked asks leaves other;
  unopened = λ other. unopened-by asked asks leaves other;
}
  where
    unread-by : (asked : Call) → Asks words (asked_of asked) → LeavesBy asked input rest closed files
        → (Asks words replay → ⊥) → rest ≡ input
    unread-by call.Replay asks leaves other = absurd (other asks)
    unread-by (call.ReplayFile script strict) asks leaves other = leaves
    unread-by (call.Check graph explain beside) asks leaves other = leaves
    unread-by (call.Eval graph sink explain beside) asks leaves other = leaves
    unread-by (call.Columns graph explain beside) asks leaves other = leaves
    unread-by (call.Draw graph explain) asks leaves other = leaves

    opens : (what : Asked) (name : List ℕ) → Asks words what → file_asked what ≡ Some name
        → ((name : List ℕ) → AskFile words name → ⊥) → files ≡ closed
    opens what name asks named other = absurd (other name (record { what = what; asks = asks; named = named }))

    unopened-by : (asked : Call) → Asks words (asked_of asked) → LeavesBy asked input rest closed files
        → ((name : List ℕ) → AskFile words name → ⊥) → files ≡ closed
    unopened-by call.Replay asks leaves other = leaves
    unopened-by (call.ReplayFile script strict) asks leaves other = opens _ script.now asks refl other
    unopened-by (call.Check graph explain beside) asks leaves other = opens _ graph.now asks refl other
    unopened-by (call.Eval graph sink explain beside) asks leaves other = opens _ graph.now asks refl other
    unopened-by (call.Columns graph explain beside) asks leaves other = opens _ graph.now asks refl other
    unopened-by (call.Draw graph explain) asks leaves other = opens _ graph.now asks refl other

-- ---- statuses

-- what taken words ask for was done, or stopped
pub may-end-asked : (words : List (List ℕ)) (what : Asked) (status : Status) → Asks words what → MayEndAs what status
    → MayEnd (kinds_of words) (MayEndAsked words) status
may-end-asked words what status asks ends =
    may-end-taken (kinds_of words) (MayEndAsked words) status asks.taken
    (λ other again. subst (λ (w : Asked). MayEndAs w status) (asks-one words what other asks again) ends)

-- whatever is asked for may fail
pub failed-as : (words : List (List ℕ)) (status : Status) → status ≡ Failed → MayEndAsked words status
failed-as words status failed what asks = by what
  where
    by : (what : Asked) → MayEndAs what status
    by replay = inr failed
    by (replay_file strictly.No name) = inr failed
    by (replay_file strictly.Yes name) = inr (inr failed)
    by (check beside explain name) = inr (inr failed)
    by (eval beside explain name sink) = inr (inr (inr failed))
    by (columns beside explain name) = inr (inr (inr failed))
    by (draw explain name) = inr (inr failed)

-- ---- no other status comes

read-not : (status : Status) (other : Status) → status ≡ other → other ≢ Done → other ≢ GraphRefused → other ≢ Failed
    → (status ≡ Done) ⊎ ((status ≡ GraphRefused) ⊎ (status ≡ Failed)) → ⊥
read-not status other is done refused failed (inl e) = done (sym is ∙ e)
read-not status other is done refused failed (inr (inl e)) = refused (sym is ∙ e)
read-not status other is done refused failed (inr (inr e)) = failed (sym is ∙ e)

evaluated-not : (status : Status) (other : Status) → status ≡ other → other ≢ Done → other ≢ GraphRefused → other ≢ TooBig → other ≢ Failed
    → (status ≡ Done) ⊎ ((status ≡ GraphRefused) ⊎ ((status ≡ TooBig) ⊎ (status ≡ Failed))) → ⊥
evaluated-not status other is done refused big failed (inl e) = done (sym is ∙ e)
evaluated-not status other is done refused big failed (inr (inl e)) = refused (sym is ∙ e)
evaluated-not status other is done refused big failed (inr (inr (inl e))) = big (sym is ∙ e)
evaluated-not status other is done refused big failed (inr (inr (inr e))) = failed (sym is ∙ e)

-- what words ask for ends with no status but these
as-not : (what : Asked) (status other : Status) → status ≡ other → other ≢ Done → other ≢ GraphRefused → other ≢ TooBig → other ≢ Failed
    → MayEndAs what status → ⊥
as-not replay status other is done refused big failed (inl e) = done (sym is ∙ e)
as-not replay status other is done refused big failed (inr e) = failed (sym is ∙ e)
as-not (replay_file strictly.No name) status other is done refused big failed (inl e) = done (sym is ∙ e)
as-not (replay_file strictly.No name) status other is done refused big failed (inr e) = failed (sym is ∙ e)
as-not (replay_file strictly.Yes name) status other is done refused big failed ends = read-not status other is done refused failed ends
as-not (check beside explain name) status other is done refused big failed ends = read-not status other is done refused failed ends
as-not (eval beside explain name sink) status other is done refused big failed ends = evaluated-not status other is done refused big failed ends
as-not (columns beside explain name) status other is done refused big failed ends = evaluated-not status other is done refused big failed ends
as-not (draw explain name) status other is done refused big failed ends = read-not status other is done refused failed ends

asked-not : (words : List (List ℕ)) (status other : Status) → status ≡ other → other ≢ Done → other ≢ GraphRefused → other ≢ TooBig → other ≢ Failed
    → MayEnd (kinds_of words) (MayEndAsked words) status → AreTaken words → ⊥
asked-not words status other is done refused big failed ends taken =
    as-not (asked_in words) status other is done refused big failed
    (ends.taken taken (asked_in words) (record { taken = taken; command = refl }))

pub taken-not-refused : (words : List (List ℕ)) (status : Status) → MayEnd (kinds_of words) (MayEndAsked words) status
    → AreTaken words → status ≢ Refused
taken-not-refused words status ends taken = λ is.
    asked-not words status Refused is (λ e. cc e) (λ e. cc e) (λ e. cc e) (λ e. cc e) ends taken

pub none-stalled : (words : List (List ℕ)) (status : Status) → MayEnd (kinds_of words) (MayEndAsked words) status
    → status ≢ Stalled
none-stalled words status ends = λ is. elim (taken-or-not words) [
  | inl taken ↦ asked-not words status Stalled is (λ e. cc e) (λ e. cc e) (λ e. cc e) (λ e. cc e) ends taken
  | inr untaken ↦ untaken-not-stalled status is (ends.untaken untaken)
]
