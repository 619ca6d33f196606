-- Where no value was out of range the sinks keep all, and where no task is live they have it all.
use Rattle.std.proofs.Common.{◌≡◌, ℕ, ℤ, ◌<◌, List, None, true, false, length, map, sym, ap, subst, ◌∙◌}
use Rattle.std.specs.Prelude.{Ok}
use Rattle.phase_history.proofs.Streams.{IsPrefix-trans}
use mathlib.Core.List.{IsPrefix}
use Rattle.graph_base.specs.Graphs.{task_at}
use Rattle.stream_lists.specs.Spans.{span_in}
use Rattle.stream_eval.specs.Results.{sink_values}
use Rattle.stream_lists.specs.Lists.{is_sink_at, numbers_of, sinks_of, taken_from}
use Rattle.stream_lists.specs.Ranges.{answer_of}
use Rattle.graph_runs.specs.Moments.{Moment, started}
use Rattle.graph_runs.specs.Nexts.{is_live}
use Rattle.stream_job.specs.SinkLines.{kept_by, sink_begins_at}
use Rattle.stream_job.specs.Worlds.{WorldState, HasMet, IsWorldAt}
use Rattle.stream_job.proofs.LinesBegin.{met_begins}
use Rattle.stream_job.proofs.SinksKeep.{lines_taken, sink_reads}
use Rattle.stream_job.proofs.world.World.lines.Goals as goal

pub returns-clause-kept : goal.returns-clause-kept
returns-clause-kept c =
    let P : WorldState → Type 0 = λ w. (m : Moment) → IsWorldAt w m
    → map sink_values c.deref.result.now
    ≡ map {B = ℕ × List ℤ} (λ t. (t, kept_by w.job m t)) (sinks_of w.job) in
    subst P c.self.view_is (λ m at. ap (map sink_values) c.deref.ensures.value ∙ at.lines.values)

pub returns-clause-taken : goal.returns-clause-taken
returns-clause-taken c =
    let P : WorldState → Type 0 = λ w. (m : Moment) → IsWorldAt w m → w.met ≡ None
    → map sink_values c.deref.result.now
    ≡ map {B = ℕ × List ℤ} (λ t. (t, m.taken t 0)) (sinks_of w.job) in
    subst P c.self.view_is (λ m at none.
    (let job = c.self.inside.job.now in
    ap (map sink_values) c.deref.ensures.value ∙ at.lines.values
    ∙ lines_taken job m at.machine.graph at.machine.reached.ran (subst (HasMet job m) none at.met)))

pub returns-clause-begin : goal.returns-clause-begin
returns-clause-begin c =
    let P : WorldState → Type 0 = λ w. (m : Moment) (t : ℕ) → IsWorldAt w m
    → t < length w.job.graph.tasks → is_sink_at w.job t ≡ true
    → IsPrefix (kept_by w.job m t)
    (taken_from (numbers_of (started w.job m)) (task_at w.job.graph t)
    (span_in (started w.job m) t) 0) in
    subst P c.self.view_is (λ m t at there sink.
    (let job = c.self.inside.job.now in
    IsPrefix-trans (kept_by job m t) (m.taken t 0)
    (taken_from (numbers_of (started job m)) (task_at job.graph t) (span_in (started job m) t) 0)
    (met_begins job m c.self.inside.machine c.self.inside.met at.machine at.met t there sink)
    (c.takes.ensures job m t 0
    (record { graph = at.machine.graph; apart = at.machine.apart }) at.machine.reached.ran there
    (sink_reads job t at.machine.graph there sink))))

pub returns-clause-all : goal.returns-clause-all
returns-clause-all c =
    let P : WorldState → Type 0 = λ w. (m : Moment) → IsWorldAt w m → w.met ≡ None
    → ((t : ℕ) → is_live w.job m t ≡ false)
    → answer_of (started w.job m) ≡ Ok (map sink_values c.deref.result.now) in
    subst P c.self.view_is (λ m at none dead.
    (let job = c.self.inside.job.now in
    let met = subst (HasMet job m) none at.met in
    c.all_gone.ensures.answer job m
    (record { graph = at.machine.graph; apart = at.machine.apart }) at.machine.reached dead met
    ∙ ap (λ l. Ok l)
    (sym (ap (map sink_values) c.deref.ensures.value ∙ at.lines.values
    ∙ lines_taken job m at.machine.graph at.machine.reached.ran met))))

-- at each moment the lines have their starts
pub returns-clause-starts : goal.returns-clause-starts
returns-clause-starts c =
    let P : WorldState → Type 0 = λ w. (m : Moment) → IsWorldAt w m
    → map (λ line. line.start) c.deref.result.now ≡ map (sink_begins_at w.job m) (sinks_of w.job) in
    subst P c.self.view_is (λ m at.
    ap (map (λ line. line.start)) c.deref.ensures.value ∙ at.lines.starts)
