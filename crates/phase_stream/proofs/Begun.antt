-- A session before its first read.
use Rattle.std.proofs.Common.{◌≡◌, ℕ, ℤ, zero, suc, List, [], ◌∷◌, Option, false, get_or, map, refl, sym, subst}
use Rattle.std.specs.Io.KnownBytes.{Appends}
use Rattle.std.specs.List.{flat_map, range_with_len}
use Rattle.graph_commands.specs.FileJobs.{Known}
use Rattle.graph_commands.specs.OutputTexts.{value_text}
use Rattle.stream_job.specs.Machines.{none_given}
use Rattle.stream_job.specs.Streams.{IsSourceAt, none_came}
use Rattle.graph_base.specs.Graphs.{file_at, sources_of}
use Rattle.graph_runs.specs.Beginnings.{opening}
use Rattle.stream_lists.specs.Jobs.{Job}
use Rattle.phase_stream.specs.Sessions.{IsStreamAtOpening, StandsFresh, task_for}
use Rattle.phase_stream.specs.Sources.{AreUnopened, HasComeOf, IsSource}
use Rattle.phase_stream.specs.declared.session.Session.{Session}
use Rattle.phase_stream.proofs.Reading.{nothing_came}
use Rattle.phase_stream.proofs.Targets.{none_values}

-- no source has samples
none_of : (xs : List ℕ) (k : ℕ) → get_or (map {B = List ℤ} (λ x. []) xs) k [] ≡ []
none_of [] k = refl
none_of (x ∷ xs) zero = refl
none_of (x ∷ xs) (suc k) = none_of xs k

pub stands_first : {R : Type 0} (remaining : R → Option (List ℕ)) (held : Known)
    (old now : ℕ → Option (List ℕ)) (session : Session R) (job : Job)
    → IsStreamAtOpening session.stream
    → job ≡ session.stream.job → AreUnopened remaining held job session.sources.items
    → ((k : ℕ) → Appends (old k) (now k) []) → StandsFresh remaining held old now session
stands_first {R} remaining held old now session job opened same sources bare = (
  record {
    samples = none_came session.stream.job;
    moment = opening session.stream.job;
    given = none_given;
    reaches = record {
      at = opened.opening_is;
      came = λ k lt.
          subst (λ b. HasComeOf b (held (file_at session.stream.job.graph k))
          (get_or (none_came session.stream.job) k [])) (sym (opened.open_is k lt))
          (subst (λ values. HasComeOf false (held (file_at session.stream.job.graph k)) values)
          (sym (none_of (range_with_len 0 (sources_of session.stream.job.graph)) k))
          (nothing_came (held (file_at session.stream.job.graph k))));
    };
    sources = λ k source there.
        let it = sources k source there in (
          subst (λ j. IsSourceAt j source.task k) same it.0,
          subst (λ values. IsSource remaining (held (file_at session.stream.job.graph k)) values source)
              (sym (none_of (range_with_len 0 (sources_of session.stream.job.graph)) k))
              (subst (λ (j : Job). IsSource remaining (held (file_at j.graph k)) [] source) same it.1),
        );
    written = λ k. subst (λ l. Appends (old k) (now k) (flat_map value_text l))
        (sym (none_values (task_for session.targets.items k))) (bare k);
  },
  refl,
)
