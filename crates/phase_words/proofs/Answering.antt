-- Which statuses may come, of words that are taken and of those that give no call.
use Rattle.std.proofs.Common.{◌≡◌, ◌⊎◌, inl, inr, [], ◌∷◌, refl}
use Rattle.clap.specs.Words.{Kinds}
use Rattle.clap.specs.declared.error.kind.ErrorKind.TheVariants.{DisplayHelp, DisplayVersion}
use Rattle.phase_words.proofs.NoCalls.{none-or-some, one-some, refusal-none-shown, refusal-some, shown-some}
use Rattle.phase_words.specs.Answers.{IsAnswer, IsUnbegun, MayEnd}
use Rattle.phase_words.specs.CommandLine.{ExplainsNone, Refuse}
use Rattle.phase_words.specs.declared.call.NoCall.{NoCall}
use Rattle.phase_words.specs.declared.call.NoCall.TheVariants as no_call
use Rattle.watched_io.specs.States.{WriterState}
use Rattle.watched_io.specs.Statuses.{Reports}
use Rattle.watched_io.specs.declared.fault.IoFault.TheVariants.{OutOfMemory}
use Rattle.watched_io.specs.declared.status.Status.{Status}
use Rattle.watched_io.specs.declared.status.Status.TheVariants.{Done, Failed, Refused, Stalled}
use Rattle.watched_io.specs.declared.watched.Watched.{Watched}

-- ---- words that are taken

-- what they ask for was done, or stopped
pub may-end-taken : (kinds : Kinds) (Taken : Status → Type 0) (status : Status) → kinds ≡ []
    → Taken status → MayEnd kinds Taken status
may-end-taken kinds Taken status taken ends = record {
  taken = λ _. ends;
  help = λ help. absurd (one-some kinds _ help taken);
  version = λ version. absurd (one-some kinds _ version taken);
  refused = λ refused. absurd (refused.0 taken);
  untaken = λ none. absurd (none taken);
}

-- they give no call for memory alone
taken-memory : {W : Type 0} (kinds : Kinds) (none : NoCall) (status : Status) (old new : Watched W)
    (before after : WriterState) → kinds ≡ [] → ExplainsNone kinds none
    → IsAnswer none status old new before after
    → (status ≡ Failed) × ((new ≡ old) × Reports OutOfMemory before after)
taken-memory kinds (no_call.Shown text) status old new before after taken why answer = absurd (shown-some kinds why taken)
taken-memory kinds (no_call.Refused text) status old new before after taken why answer = absurd (refusal-some kinds why taken)
taken-memory kinds no_call.OutOfMemory status old new before after taken why answer = answer

pub unbegun : {F W : Type 0} (kinds : Kinds) (none : NoCall) (status : Status) (files : F)
    (old new : Watched W) (before after : WriterState) → kinds ≡ [] → ExplainsNone kinds none
    → IsAnswer none status old new before after → IsUnbegun status files files old new before after
unbegun kinds none status files old new before after taken why answer =
    let memory = taken-memory kinds none status old new before after taken why answer in
    record { status_is = memory.0; unopened = refl; silent = memory.1.0; says = memory.1.1 }

-- ---- words that give no call

help-ends : {W : Type 0} (kinds : Kinds) (none : NoCall) (status : Status) (old new : Watched W) (before after : WriterState)
    → ExplainsNone kinds none → IsAnswer none status old new before after
    → kinds ≡ DisplayHelp ∷ [] → (status ≡ Done) ⊎ (status ≡ Failed)
help-ends kinds (no_call.Shown text) status old new before after why answer help = answer
help-ends kinds (no_call.Refused text) status old new before after why answer help =
    absurd (refusal-none-shown kinds _ (inl refl) why help)
help-ends kinds no_call.OutOfMemory status old new before after why answer help = inr answer.0

version-ends : {W : Type 0} (kinds : Kinds) (none : NoCall) (status : Status) (old new : Watched W) (before after : WriterState)
    → ExplainsNone kinds none → IsAnswer none status old new before after
    → kinds ≡ DisplayVersion ∷ [] → (status ≡ Done) ⊎ (status ≡ Failed)
version-ends kinds (no_call.Shown text) status old new before after why answer version = answer
version-ends kinds (no_call.Refused text) status old new before after why answer version =
    absurd (refusal-none-shown kinds _ (inr refl) why version)
version-ends kinds no_call.OutOfMemory status old new before after why answer version = inr answer.0

refused-ends : {W : Type 0} (kinds : Kinds) (none : NoCall) (status : Status) (old new : Watched W) (before after : WriterState)
    → ExplainsNone kinds none → IsAnswer none status old new before after
    → Refuse kinds → (status ≡ Refused) ⊎ (status ≡ Failed)
refused-ends kinds (no_call.Shown text) status old new before after why answer refused = absurd (refused.1 why.kind why.shown why.among)
refused-ends kinds (no_call.Refused text) status old new before after why answer refused = inl answer.0
refused-ends kinds no_call.OutOfMemory status old new before after why answer refused = inr answer.0

untaken-ends : {W : Type 0} (none : NoCall) (status : Status) (old new : Watched W) (before after : WriterState)
    → IsAnswer none status old new before after → (status ≡ Done) ⊎ ((status ≡ Refused) ⊎ (status ≡ Failed))
untaken-ends (no_call.Shown text) status old new before after (inl done) = inl done
untaken-ends (no_call.Shown text) status old new before after (inr failed) = inr (inr failed)
untaken-ends (no_call.Refused text) status old new before after answer = inr (inl answer.0)
untaken-ends no_call.OutOfMemory status old new before after answer = inr (inr answer.0)

pub may-end-answered : {W : Type 0} (kinds : Kinds) (Taken : Status → Type 0) (none : NoCall) (status : Status)
    (old new : Watched W) (before after : WriterState) → (status ≡ Failed → Taken status)
    → ExplainsNone kinds none → IsAnswer none status old new before after → MayEnd kinds Taken status
may-end-answered kinds Taken none status old new before after fails why answer = record {
  taken = λ taken. fails (taken-memory kinds none status old new before after taken why answer).0;
  help = help-ends kinds none status old new before after why answer;
  version = version-ends kinds none status old new before after why answer;
  refused = refused-ends kinds none status old new before after why answer;
  untaken = λ _. untaken-ends none status old new before after answer;
}

-- a refusal leaves the output as it was
pub refused-silent : {W : Type 0} (kinds : Kinds) (none : NoCall) (status : Status) (old new : Watched W) (before after : WriterState)
    → ExplainsNone kinds none → IsAnswer none status old new before after → Refuse kinds ⊎ (status ≡ Refused) → new ≡ old
refused-silent kinds (no_call.Shown text) status old new before after why answer (inl refused) = absurd (refused.1 why.kind why.shown why.among)
refused-silent kinds (no_call.Shown text) status old new before after why (inl done) (inr refused) = absurd (cc (refused, done))
refused-silent kinds (no_call.Shown text) status old new before after why (inr failed) (inr refused) = absurd (cc (refused, failed))
refused-silent kinds (no_call.Refused text) status old new before after why answer which = answer.1
refused-silent kinds no_call.OutOfMemory status old new before after why answer which = answer.1.0

-- ---- which statuses never come

pub untaken-not-stalled : (status : Status) → status ≡ Stalled → (status ≡ Done) ⊎ ((status ≡ Refused) ⊎ (status ≡ Failed)) → ⊥
untaken-not-stalled status stalled (inl done) = cc (stalled, done)
untaken-not-stalled status stalled (inr (inl refused)) = cc (stalled, refused)
untaken-not-stalled status stalled (inr (inr failed)) = cc (stalled, failed)

-- only words that are taken stall
pub stalled-taken : (kinds : Kinds) (Taken : Status → Type 0) (status : Status) → MayEnd kinds Taken status
    → status ≡ Stalled → kinds ≡ []
stalled-taken kinds Taken status ends stalled = elim (none-or-some kinds) [
  | inl taken ↦ taken
  | inr some ↦ absurd (untaken-not-stalled status stalled (ends.untaken some))
]
