-- How a session ends, by the one that it began as.
use Rattle.std.proofs.Common.{◌≡◌, ℕ, ℤ, Bool, List, [], Option, Some, length, append-nil, refl, sym, subst, ◌∙◌, true}
use Rattle.std.specs.Prelude.{⊤}
use Rattle.graph_commands.specs.FileJobs.{Known}
use Rattle.graph_commands.specs.declared.failure.Failure.{Failure}
use Rattle.graph_commands.specs.declared.failure.Failure.TheVariants as failure
use Rattle.watched_io.specs.States.{WriterState}
use Rattle.stream_job.specs.Gone.{has_gone}
use Rattle.stream_job.specs.Streams.{IsStreamAt, ended_at}
use Rattle.stream_job.specs.declared.stopped.Stopped.{Stopped}
use Rattle.stream_job.specs.declared.stopped.Stopped.TheVariants as stopped
use Rattle.graph_base.specs.Graphs.{IsPlace}
use Rattle.graph_base.specs.declared.place.Place.{Place}
use Rattle.graph_base.specs.declared.place.Place.TheVariants as place
use Rattle.graph_runs.specs.Feeds.{IsFed}
use Rattle.graph_runs.specs.Moments.{Moment, started}
use Rattle.graph_runs.specs.Settled.{IsFaultAt, IsPlaceThere}
use Rattle.stream_lists.specs.Jobs.{Job, samples_in, with_samples}
use Rattle.stream_lists.specs.Ranges.{Where}
use Rattle.phase_stream.specs.Outputs.{StopBehind, StopKept, StopOf, WriteKept, WriteWhole}
use Rattle.phase_stream.specs.Sessions.{AreKeptRight, AreTargets, HasFailed, IsKnownAs, IsKeptWhole, IsSameSession, StandsPart, StandsStopped, task_for}
use Rattle.phase_stream.specs.Streams.{IsStandstill}
use Rattle.phase_stream.specs.declared.session.Session.{Session}
use Rattle.phase_stream.specs.declared.sink.Sink.{Sink}
use Rattle.stream_job.proofs.StillStays.{all_still}
use Rattle.phase_stream.proofs.Writing.{kept_of, left_of, part_of, whole_of}

pub targets_same : {R : Type 0} (old new : Session R) → IsSameSession old new
    → AreTargets old.stream.job old.targets.items → AreTargets new.stream.job new.targets.items
targets_same old new same are =
    subst (λ j. AreTargets j new.targets.items) (sym same.job)
    (subst (AreTargets old.stream.job) (sym same.targets) are)

-- by the job and the sinks that it began with
moved : {R : Type 0} (P : Job → List (Option Sink) → Type 0) (old new : Session R)
    → IsSameSession old new
    → P new.stream.job new.targets.items → P old.stream.job old.targets.items
moved P old new same is =
    subst (λ j. P j old.targets.items) same.job (subst (P new.stream.job) same.targets is)

-- one of as many writers has failed
pub failed_same : {R : Type 0} (old new : Session R) (now : ℕ → WriterState) → IsSameSession old new
    → HasFailed (length new.targets.items) now → HasFailed (length old.targets.items) now
failed_same old new now same failed =
    subst (λ ts. HasFailed (length ts) now) same.targets failed

pub io_stops : {R : Type 0} (held : Known) (old now : ℕ → Option (List ℕ))
    (first session : Session R) → IsSameSession first session
    → AreKeptRight session.stream session.targets.items → StandsPart held old now session
    → StopBehind held first.stream.job (task_for first.targets.items) old now
    (λ samples ended starts. ⊤)
io_stops held old now first session same right st =
    moved (λ j ts. StopBehind held j (task_for ts) old now (λ samples ended starts. ⊤)) first session
    same (record {
      part = part_of held session.stream session.targets.items old now st.samples st.moment st.given
          st.values st.reaches st.begins st.none right st.written;
      cause = tt;
    })

pub done_writes : {R : Type 0} (remaining : R → Option (List ℕ)) (held : Known)
    (old now : ℕ → Option (List ℕ)) (first session : Session R) → IsSameSession first session
    → AreTargets session.stream.job session.targets.items
    → StandsStopped remaining held old now session stopped.Done
    → WriteWhole held first.stream.job (task_for first.targets.items) old now
done_writes remaining held old now first session same are st =
    moved (λ j ts. WriteWhole held j (task_for ts) old now) first session same
    (whole_of remaining held old now session are st)

pub left_writes : {R : Type 0} (remaining : R → Option (List ℕ)) (held : Known)
    (old now : ℕ → Option (List ℕ)) (first session : Session R) (stop : Stopped)
    → IsSameSession first session
    → AreTargets session.stream.job session.targets.items
    → ((k t : ℕ) → task_for session.targets.items k ≡ Some t → (s : List (List ℤ)) (m : Moment)
    (given : ℕ → List ℤ) → IsStreamAt session.stream s m given
    → has_gone session.stream.job m t ≡ true)
    → ((k t : ℕ) → task_for session.targets.items k ≡ Some t → IsKeptWhole session.stream t)
    → StandsStopped remaining held old now session stop
    → WriteWhole held first.stream.job (task_for first.targets.items) old now
left_writes remaining held old now first session stop same are gone whole st =
    moved (λ j ts. WriteWhole held j (task_for ts) old now) first session same
    (left_of remaining held old now session stop are gone whole st)

-- what a session that stopped has written
abbrev stopped_kept : {R : Type 0} (remaining : R → Option (List ℕ)) (held : Known)
    (old now : ℕ → Option (List ℕ)) (session : Session R) (stop : Stopped)
    → AreKeptRight session.stream session.targets.items
    → StandsStopped remaining held old now session stop
    → WriteKept held session.stream.job (task_for session.targets.items) old now
stopped_kept remaining held old now session stop right st =
    kept_of held session.stream session.targets.items old now st.stands.samples st.stands.moment
    st.stands.given st.stands.reaches st.whole right st.stands.written

pub stall_stops : {R : Type 0} (remaining : R → Option (List ℕ)) (held : Known)
    (old now : ℕ → Option (List ℕ)) (first session : Session R) → IsSameSession first session
    → AreKeptRight session.stream session.targets.items
    → StandsStopped remaining held old now session stopped.Stalled
    → StopKept held first.stream.job (task_for first.targets.items) old now
    (λ samples ended m. IsStandstill first.stream.job samples ended m)
stall_stops remaining held old now first session same right st =
    moved (λ j ts. StopKept held j (task_for ts) old now
    (λ samples ended m. IsStandstill j samples ended m)) first
    session same (record {
      kept = stopped_kept remaining held old now session stopped.Stalled right st;
      cause = record {
        live = st.stopped_is.0;
        rest = st.stopped_is.1;
        stays = λ more goes sends. all_still session.stream st.stands.samples st.stands.moment
            st.stands.given more st.stands.reaches.at goes.feeds sends st.stopped_is.1;
      };
    })

pub too_big_stops : {R : Type 0} (remaining : R → Option (List ℕ)) (held : Known)
    (old : ℕ → Option (List ℕ)) (new : ℕ → WriterState) (first session : Session R) (at : Place)
    (n : ℕ) → IsSameSession first session
    → AreKeptRight session.stream session.targets.items
    → StandsStopped remaining held old (λ k. (new k).written) session (stopped.TooBig at n)
    → StopOf held first.stream.job (task_for first.targets.items) (length first.targets.items) old
    new (failure.TooBig session.stream.job at n)
too_big_stops remaining held old new first session at n same right st =
    moved (λ j ts. StopOf held j (task_for ts) (length ts) old new
    (failure.TooBig session.stream.job at n)) first session
    same (
      refl,
      record {
        kept = stopped_kept remaining held old (λ k. (new k).written) session (stopped.TooBig at n)
            right st;
        cause = record {
          fault = λ more goes. st.stopped_is.0 more goes.feeds goes.ready;
          before = st.stopped_is.1;
        };
      },
    )

-- and it stands on a line of the graph
pub too_big_there : {R : Type 0} (remaining : R → Option (List ℕ)) (held : Known)
    (old now : ℕ → Option (List ℕ)) (session : Session R) (at : Place) (n : ℕ)
    → ((job : Job) (where_is : Where) → IsFaultAt job where_is → IsPlaceThere job where_is)
    → StandsStopped remaining held old now session (stopped.TooBig at n)
    → IsPlace session.stream.job.graph at
too_big_there remaining held old now session at n there st =
    let stands = st.stands in
    let machine = stands.reaches.at.machine in
    let job = started (with_samples stands.samples session.stream.job) stands.moment in
    of job at
    (there job (at, n) (st.stopped_is.0 stands.samples
    (fed_self session.stream.job (ended_at session.stream) stands.samples)
    (record { graph = machine.graph; apart = machine.apart })))
  where
    fed_self : (job : Job) (ended : ℕ → Bool) (s : List (List ℤ)) → IsFed (with_samples s job) ended s
    fed_self job ended s = record {
      begins = λ t lt source. ([], append-nil (samples_in job s t));
      stays = λ t lt source over. refl;
    }

    of : (job : Job) (at : Place) → IsPlaceThere job (at, n) → IsPlace job.graph at
    of job (place.Phaser p) is = is
    of job (place.Task t) is = is

pub lack_stops : {R : Type 0} (held : Known) (old : ℕ → Option (List ℕ)) (new : ℕ → WriterState)
    (first session : Session R) (found : Failure) → IsSameSession first session
    → StopOf held session.stream.job (task_for session.targets.items)
    (length session.targets.items) old new found
    → StopOf held first.stream.job (task_for first.targets.items) (length first.targets.items) old
    new found
lack_stops held old new first session found same is =
    moved (λ j ts. StopOf held j (task_for ts) (length ts) old new found) first session same is

-- the files are known as before
pub held_later : (held first now : Known) → ((other : List ℕ) → now other ≡ first other)
    → IsKnownAs held first → IsKnownAs held now
held_later held first now same is name = same name ∙ is name
