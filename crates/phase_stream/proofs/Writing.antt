-- What was written, by what the sink has kept.
use Rattle.std.proofs.Common.{◌≡◌, ◌<◌, ◌++◌, ℕ, ℤ, Bool, true, false, eqb, List, [], ◌∷◌, Option, Some, None, Ok, length, get_or, map, zero, suc, refl, sym, ap, subst, ◌∙◌, rules, arith, inl, inr, String, Vec}
use Rattle.std.proofs.lemmas.Bool.{eq-eqb, eqb-true}
use Rattle.std.specs.List.{flat_map}
use Rattle.std.specs.Io.KnownBytes.{Appends}
use mathlib.Core.List.{IsPrefix}
use Rattle.graph_commands.specs.FileJobs.{Known}
use Rattle.graph_commands.specs.GraphRuns.{sinks_text}
use Rattle.graph_commands.specs.OutputTexts.{value_text, values_of_sink}
use Rattle.graph_commands.specs.declared.failure.Failure.{Failure}
use Rattle.graph_commands.specs.declared.failure.Failure.TheVariants as failure
use Rattle.graph_commands.specs.declared.fault.JobFault.{JobFault}
use Rattle.graph_commands.specs.declared.fault.JobFault.TheVariants as faults
use Rattle.watched_io.specs.Prefix.{AppendsPrefix}
use Rattle.watched_io.specs.States.{WriterState}
use Rattle.stream_job.specs.Gone.{has_gone}
use Rattle.stream_job.specs.SinkLines.{kept_by}
use Rattle.std.specs.Prelude.{◌⊎◌, string_bytes}
use Rattle.std.specs.Global.{Global}
use Rattle.phase_stream.proofs.Handing.{whole_part}
use Rattle.stream_job.proofs.GivenLines.{sink_there}
use Rattle.phase_stream.specs.declared.source.Lack.{Lack}
use Rattle.phase_stream.specs.declared.source.Lack.TheVariants as lack
use Rattle.graph_base.specs.declared.place.Place.TheVariants as place
use Rattle.stream_job.specs.Streams.{IsSourceAt, IsStreamAt, StreamState, has_ended}
use Rattle.stream_job.specs.declared.stopped.Stopped.{Stopped}
use Rattle.stream_job.specs.declared.stopped.Stopped.TheVariants as stopped
use Rattle.graph_base.specs.Graphs.{name_at, task_at}
use Rattle.graph_runs.specs.Moments.{Moment, started}
use Rattle.stream_lists.specs.Jobs.{Job, with_samples}
use Rattle.stream_lists.specs.Lists.{lines_of, numbers_of, sinks_of, start_in, taken_from, with_start}
use Rattle.stream_lists.specs.Ranges.{Fits, answer_of}
use Rattle.stream_lists.specs.Spans.{span_in}
use Rattle.phase_history.proofs.Streams.{IsPrefix-trans}
use Rattle.stream_lists.proofs.Basics.{answer_fits}
use Rattle.phase_stream.specs.Outputs.{StopOf, WriteKept, WriteParts, WriteWhole}
use Rattle.phase_stream.specs.Sessions.{AllHanded, AreKeptRight, AreTargets, AreWritten, IsKeptWhole, IsFaultWithoutText, Reaches, StandsLacking, StandsStopped, sink_list, task_for, values_for}
use Rattle.phase_stream.specs.Streams.{GoesOnBehind}
use Rattle.phase_stream.specs.declared.session.Session.{Session}
use Rattle.phase_stream.specs.declared.sink.Sink.{Sink}
use Rattle.phase_stream.proofs.Targets.{number_of_task}

-- ---- a part

pub right_by : (stream : StreamState) (t sink : ℕ) (values : List ℤ) (s : List (List ℤ))
    (m : Moment) (given : ℕ → List ℤ) (more : List (List ℤ)) → get_or (sinks_of stream.job) sink 0 ≡ t
    → let u = get_or (sinks_of stream.job) sink 0 in
    let job = started (with_samples more stream.job) m in
    given u ++ values ≡ kept_by stream.job m u
    → IsPrefix (given u ++ values) (taken_from (numbers_of job) (task_at job.graph u) (span_in job u) 0)
    → IsPrefix (kept_by stream.job m t) (sink_list job t)
right_by stream t sink values s m given more is kept right =
    let job = started (with_samples more stream.job) m in
    subst (λ u. IsPrefix (kept_by stream.job m u) (sink_list job u)) is
    (subst (λ l. IsPrefix l (sink_list job (get_or (sinks_of stream.job) sink 0))) kept right)

abbrev pub part_of : (held : Known) (stream : StreamState) (targets : List (Option Sink))
    (old now : ℕ → Option (List ℕ)) (s : List (List ℤ)) (m : Moment) (given values : ℕ → List ℤ)
    → Reaches held stream s m given
    → ((k t : ℕ) → task_for targets k ≡ Some t → IsPrefix (values k) (kept_by stream.job m t))
    → ((k : ℕ) → task_for targets k ≡ None → values k ≡ [])
    → AreKeptRight stream targets
    → ((k : ℕ) → AppendsPrefix (old k) (now k) (flat_map value_text (values k)))
    → WriteParts held stream.job (task_for targets) old now
part_of held stream targets old now s m given values reaches begins none right written = record {
  samples = s;
  ended = has_ended stream.inputs;
  came = reaches.came;
  starts = (started stream.job m).starts;
  values = values;
  right = λ k t goes more behind. IsPrefix-trans (values k) (kept_by stream.job m t)
      (sink_list (started (with_samples more stream.job) m) t) (begins k t goes)
      (right k t goes s m given more reaches.at behind.feeds behind.ready);
  none = none;
  written = written;
}

-- all that the sinks have kept
abbrev pub kept_of : (held : Known) (stream : StreamState) (targets : List (Option Sink))
    (old now : ℕ → Option (List ℕ)) (s : List (List ℤ)) (m : Moment) (given : ℕ → List ℤ)
    → Reaches held stream s m given
    → AllHanded stream.job targets m given → AreKeptRight stream targets
    → AreWritten targets given old now
    → WriteKept held stream.job (task_for targets) old now
kept_of held stream targets old now s m given reaches whole right written = record {
  samples = s;
  ended = has_ended stream.inputs;
  came = reaches.came;
  moment = m;
  reached = reaches.at.machine.reached;
  right = λ k t goes more behind. right k t goes s m given more reaches.at behind.feeds behind.ready;
  written = λ k t goes. subst (λ l. Appends (old k) (now k) (flat_map value_text l))
      (whole k t goes) (subst (λ o. Appends (old k) (now k) (flat_map value_text (values_for o given)))
      goes (written k));
  none = λ k free. subst (λ o. Appends (old k) (now k) (flat_map value_text (values_for o given)))
      free (written k);
}

-- ---- all

-- and it is the lines of its sinks
pub answer_lines : (job : Job) (lines : List (ℕ × List ℤ)) → answer_of job ≡ Ok lines
    → lines_of job ≡ lines
answer_lines job lines is =
    let fits = answer_fits job lines is in
    let both : Ok (lines_of job) ≡ Ok lines = rw fits at is in
    search rules

-- the values of a sink among those of all
found_values : (f : ℕ → List ℤ) (start : ℕ → Option ℕ) (ts : List ℕ) (i t : ℕ) → i < length ts
    → get_or ts i 0 ≡ t → values_of_sink t (map {B = ℕ × Option ℕ × List ℤ} (λ u. (u, start u, f u)) ts) ≡ f t
found_values f start [] i t lt is = absurd (omega (arith, lt))
found_values f start (u ∷ ts) i t lt is = by (eqb u t) refl i lt is (found_values f start ts)
  where
    by : (b : Bool) → eqb u t ≡ b → (i : ℕ) → i < length (u ∷ ts) → get_or (u ∷ ts) i 0 ≡ t
        → ((i t : ℕ) → i < length ts → get_or ts i 0 ≡ t
        → values_of_sink t (map {B = ℕ × Option ℕ × List ℤ} (λ u. (u, start u, f u)) ts) ≡ f t)
        → values_of_sink t (map {B = ℕ × Option ℕ × List ℤ} (λ u. (u, start u, f u)) (u ∷ ts)) ≡ f t
    by true e i lt is rest = rw e (ap f (eqb-true u t e))
    by false e zero lt is rest =
        let bad : true ≡ false = sym (eq-eqb u t is) ∙ e in
        search rules
    by false e (suc i) lt is rest = rw e (rest i t (omega arith) is)

-- a list of all sinks, each with where it begins
map_map : (start : ℕ → Option ℕ) (f : ℕ → List ℤ) (ts : List ℕ)
    → map {B = ℕ × Option ℕ × List ℤ} (λ (line : ℕ × List ℤ). (line.0, start line.0, line.1))
    (map {B = ℕ × List ℤ} (λ u. (u, f u)) ts)
    ≡ map {B = ℕ × Option ℕ × List ℤ} (λ u. (u, start u, f u)) ts
map_map start f [] = refl
map_map start f (u ∷ ts) = cc (map_map start f ts)

-- the text of a sink is of its list
text_of_list : (job : Job) (sink t : ℕ) → sink < length (sinks_of job)
    → get_or (sinks_of job) sink 0 ≡ t
    → sinks_text job (Some t) ≡ flat_map value_text (sink_list job t)
text_of_list job sink t there is =
    ap (flat_map value_text) (ap (values_of_sink t) (map_map (start_in job) (sink_list job) (sinks_of job))
    ∙ found_values (sink_list job) (start_in job) (sinks_of job) sink t there is)

-- where a job's answer is what its sinks kept, its values fit, and the text of a sink is of those
whole_by : (job : Job) (kept : ℕ → List ℤ) (sink t : ℕ) → sink < length (sinks_of job)
    → get_or (sinks_of job) sink 0 ≡ t
    → answer_of job ≡ Ok (map {B = ℕ × List ℤ} (λ u. (u, kept u)) (sinks_of job))
    → Fits job × (sinks_text job (Some t) ≡ flat_map value_text (kept t))
whole_by job kept sink t there is answer =
    let lines = map {B = ℕ × List ℤ} (λ u. (u, kept u)) (sinks_of job) in (
      answer_fits job lines answer,
      ap (flat_map value_text) (ap (λ l. values_of_sink t (map (with_start job) l))
          (answer_lines job lines answer)
          ∙ ap (values_of_sink t) (map_map (start_in job) kept (sinks_of job))
          ∙ found_values kept (start_in job) (sinks_of job) sink t there is),
    )

pub whole_of : {R : Type 0} (remaining : R → Option (List ℕ)) (held : Known)
    (old now : ℕ → Option (List ℕ)) (session : Session R)
    → AreTargets session.stream.job session.targets.items
    → StandsStopped remaining held old now session stopped.Done
    → WriteWhole held session.stream.job (task_for session.targets.items) old now
whole_of remaining held old now session are st =
    let stands = st.stands in
    let stream = session.stream in
    let m = stands.moment in
    let machine = stands.reaches.at.machine in
    let ts = session.targets.items in
    record {
      samples = stands.samples;
      ended = has_ended stream.inputs;
      came = stands.reaches.came;
      ready = record { graph = machine.graph; apart = machine.apart };
      starts = (started stream.job m).starts;
      values = λ k. values_for (task_for ts k) stands.given;
      whole = λ k t goes more behind. (by k t goes more behind).1
          ∙ ap (flat_map value_text) (sym (ap (λ o. values_for o stands.given) goes
          ∙ st.whole k t goes));
      in_time = λ k t goes more behind.
          (let number = number_of_task stream.job ts k t are goes in
          (st.stopped_is more behind.feeds behind.ready).1 t
          (subst (λ u. u < length stream.job.graph.tasks) number.2
          (sink_there stream.job number.0 number.1).1));
      ends = inl (λ more behind. answer_fits (started (with_samples more stream.job) m) _
          (st.stopped_is more behind.feeds behind.ready).0);
      none = λ k free. ap (λ o. values_for o stands.given) free;
      written = stands.written;
    }
  where
    by : (k t : ℕ) → task_for session.targets.items k ≡ Some t → (more : List (List ℤ))
        → GoesOnBehind session.stream.job (has_ended session.stream.inputs) st.stands.samples more
        → Fits (started (with_samples more session.stream.job) st.stands.moment)
        × (sinks_text (started (with_samples more session.stream.job) st.stands.moment) (Some t)
        ≡ flat_map value_text (kept_by session.stream.job st.stands.moment t))
    by k t goes more behind =
        let number = number_of_task session.stream.job session.targets.items k t are goes in
        whole_by (started (with_samples more session.stream.job) st.stands.moment)
        (kept_by session.stream.job st.stands.moment) number.0 t number.1 number.2
        (st.stopped_is more behind.feeds behind.ready).0

-- where the sinks have left, whatever the others do
pub left_of : {R : Type 0} (remaining : R → Option (List ℕ)) (held : Known)
    (old now : ℕ → Option (List ℕ)) (session : Session R) (stop : Stopped)
    → AreTargets session.stream.job session.targets.items
    → ((k t : ℕ) → task_for session.targets.items k ≡ Some t → (s : List (List ℤ)) (m : Moment)
    (given : ℕ → List ℤ) → IsStreamAt session.stream s m given
    → has_gone session.stream.job m t ≡ true)
    → ((k t : ℕ) → task_for session.targets.items k ≡ Some t → IsKeptWhole session.stream t)
    → StandsStopped remaining held old now session stop
    → WriteWhole held session.stream.job (task_for session.targets.items) old now
left_of remaining held old now session stop are gone whole st =
    let stands = st.stands in
    let stream = session.stream in
    let m = stands.moment in
    let machine = stands.reaches.at.machine in
    let ts = session.targets.items in
    record {
      samples = stands.samples;
      ended = has_ended stream.inputs;
      came = stands.reaches.came;
      ready = record { graph = machine.graph; apart = machine.apart };
      starts = (started stream.job m).starts;
      values = λ k. values_for (task_for ts k) stands.given;
      whole = λ k t goes more behind.
          (let number = number_of_task stream.job ts k t are goes in
          text_of_list (started (with_samples more stream.job) m) number.0 t number.1 number.2
          ∙ ap (flat_map value_text) (sym (ap (λ o. values_for o stands.given) goes
          ∙ (st.whole k t goes ∙ (whole k t goes stands.samples m stands.given more
          stands.reaches.at behind.feeds behind.ready).0))));
      in_time = λ k t goes more behind.
          (whole k t goes stands.samples m stands.given more stands.reaches.at behind.feeds
          behind.ready).1;
      ends = inr (λ k t goes. record {
        moment = m;
        reached = machine.reached;
        starts_are = refl;
        gone = gone k t goes stands.samples m stands.given stands.reaches.at;
        kept = ap (λ o. values_for o stands.given) goes ∙ st.whole k t goes;
      });
      none = λ k free. ap (λ o. values_for o stands.given) free;
      written = stands.written;
    }

-- ---- failures

-- a fault of the files with no text
pub unread_stops : (fault : JobFault) (found : Failure) (P : Failure → Type 0)
    → IsFaultWithoutText fault found → ((text : _) → P (failure.Graph fault text)) → P found
unread_stops fault (failure.Graph other text) P is at =
    subst (λ f. P (failure.Graph f text)) (sym is) (at text)
unread_stops fault (failure.NoSink job name) P is at = absurd is
unread_stops fault (failure.TooBig job place phase) P is at = absurd is
unread_stops fault (failure.Stalled further) P is at = absurd is
unread_stops fault (failure.Io other) P is at = absurd is

-- no more samples came, and nothing is said of why
pub lacking_stops : {R : Type 0} (held : Known) (old : ℕ → Option (List ℕ)) (new : ℕ → WriterState)
    (session : Session R) (k : ℕ) (lack : Lack) (fault : JobFault) (found : Failure)
    → ((k t : ℕ) → task_for session.targets.items k ≡ Some t → (s : List (List ℤ)) (m : Moment)
    (given : ℕ → List ℤ) → IsStreamAt session.stream s m given
    → IsPrefix (given t) (kept_by session.stream.job m t))
    → AreKeptRight session.stream session.targets.items
    → (st : StandsLacking held old (λ k. (new k).written) session k lack)
    → IsFaultWithoutText fault found
    → ((fault ≡ faults.ReadFault) ⊎ (fault ≡ faults.OutOfMemory))
    → StopOf held session.stream.job (task_for session.targets.items)
    (length session.targets.items) old new found
lacking_stops {R} held old new session k lack fault found begins right st is which =
    unread_stops fault found (StopOf held session.stream.job (task_for session.targets.items)
    (length session.targets.items) old new) is
    (λ text. by fault which text)
  where
    part : WriteParts held session.stream.job (task_for session.targets.items) old
        (λ k. (new k).written)
    part =
        let ts = session.targets.items in
        part_of held session.stream ts old (λ k. (new k).written) st.samples st.moment
        st.given (λ k. values_for (task_for ts k) st.given) st.reaches
        (λ k t goes. subst (λ o. IsPrefix (values_for o st.given)
        (kept_by session.stream.job st.moment t)) (sym goes)
        (begins k t goes st.samples st.moment st.given st.reaches.at))
        (λ k free. ap (λ o. values_for o st.given) free) right
        (λ k. whole_part (old k) (new k).written
        (flat_map value_text (values_for (task_for ts k) st.given)) (st.written k))

    by : (fault : JobFault) → ((fault ≡ faults.ReadFault) ⊎ (fault ≡ faults.OutOfMemory))
        → (text : _) → StopOf held session.stream.job (task_for session.targets.items)
        (length session.targets.items) old new (failure.Graph fault text)
    by fault (inl e) text =
        subst (λ f. StopOf held session.stream.job (task_for session.targets.items)
        (length session.targets.items) old new (failure.Graph f text)) (sym e)
        (record { part = part; cause = tt })
    by fault (inr e) text =
        subst (λ f. StopOf held session.stream.job (task_for session.targets.items)
        (length session.targets.items) old new (failure.Graph f text)) (sym e)
        (record { part = part; cause = tt })

-- a record is none
pub bad_stops : {R : Type 0} (held : Known) (old : ℕ → Option (List ℕ)) (new : ℕ → WriterState)
    (session : Session R) (k number task : ℕ) (name : String Global)
    (told : Option (Vec ℕ Global)) (found : Failure)
    → AreKeptRight session.stream session.targets.items
    → (st : StandsLacking held old (λ k. (new k).written) session k (lack.BadRecord number told))
    → IsFaultWithoutText (faults.BadSample name number told) found
    → IsSourceAt session.stream.job task k
    → string_bytes name ≡ name_at session.stream.job.graph (place.Task task)
    → StopOf held session.stream.job (task_for session.targets.items)
    (length session.targets.items) old new found
bad_stops held old new session k number task name told found right st is there named =
    unread_stops (faults.BadSample name number told) found
    (StopOf held session.stream.job (task_for session.targets.items)
    (length session.targets.items) old new) is
    (λ text. record {
      kept = kept_of held session.stream session.targets.items old (λ k. (new k).written) st.samples
          st.moment st.given st.reaches (st.still number told refl).whole right st.written;
      cause = record {
        task = task;
        source = k;
        there = there;
        named_is = named;
        number_is = st.lacks.0;
        bad = st.lacks.1;
        tells = st.lacks.2;
        rest = (st.still number told refl).rest;
      };
    })
