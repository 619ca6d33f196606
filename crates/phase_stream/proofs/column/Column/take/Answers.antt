-- What its sink has, behind what it had.
use Rattle.std.proofs.Common.{◌≡◌, ◌<◌, ◌+◌, ◌++◌, ◌∙◌, true, false, length, get_or, min, sym, ap, subst}
use Rattle.stream_job.specs.SinkLines.{kept_by, sink_begins_at}
use Rattle.stream_job.specs.Streams.{ended_at}
use Rattle.graph_runs.specs.InTime.{BeginsInTime}
use Rattle.stream_lists.specs.Lists.{sinks_of}
use Rattle.stream_job.proofs.GivenLines.{sink_there}
use Rattle.phase_stream.specs.Columns.{InRuns, started_column}
use Rattle.phase_stream.specs.Sessions.{sink_list}
use Rattle.phase_stream.specs.declared.column.Column.{Column}
use Rattle.phase_stream.proofs.TakenColumns.{found_or_not, has_more, left_over, stays_over, with_count, with_items, with_least, with_task}
use Rattle.phase_stream.proofs.column.Column.take.Goals as goal
use Rattle.phase_stream.proofs.column.Column.take.Goals.{else-not-self, else-self-2, then-not-self, then-self-2}

pub returns-then-self-clause-ok : goal.returns-then-self-clause-ok
returns-then-self-clause-ok c = λ s m given step start list at stands.
    left_over c.args.stream.now s m (given c.args.self.now.task) c.args.self.now step start list
    c.if-self.true stands

pub returns-clause-ok : goal.returns-clause-ok
returns-clause-ok c = λ s m given step start list at stands.
    (let stream = c.args.stream.now in
    let old = c.args.self.now in
    let mid = c.if-not-self.self in
    let new : Column = record c.keep.new.self { has_left = c.if-self-2.self } in
    let t = get_or (sinks_of stream.job) c.args.number 0 in
    let there : old.task < length stream.job.graph.tasks =
    subst (λ u. u < length stream.job.graph.tasks) c.requires.task
    (sink_there stream.job c.args.number c.requires.there).1 in
    let here = (sink_there stream.job c.args.number c.requires.there).1 in
    let whole : new.has_left ≡ true → InRuns stream.job (ended_at stream) s m (λ job.
    (kept_by stream.job m t ≡ sink_list job t) × BeginsInTime job t) =
    λ left more fed ready. elim c.if-self-2.branch [
      | then-self-2 w ↦
          let yes = sym w.self-is ∙ left in (
            w.has_left-self.ensures.whole yes s m given more at fed ready,
            c.starts_are_in_time.ensures.left stream s m given more t at fed ready here
                (w.has_left-self.ensures.left s m given at ∙ yes),
          )
      | else-self-2 w ↦
          absurd (let wrong : false ≡ true = sym w.if-self-2.false ∙ (sym w.self-is ∙ left) in cc)
    ] in
    let values = c.values.result.now in
    let same = c.in_ok-keep.ensures.same in
    elim c.if-not-self.branch [
      | then-not-self w ↦
          let found = w.start.result in
          let is : mid ≡ started_column found old = w.self-is ∙ w.find_start.ensures.found in
          let more = has_more stream s m given old new values t c.if-self.false c.requires.task
          (same.task ∙ ap (λ (x : Column). x.task) is ∙ with_task found old)
          (same.least ∙ ap (λ (x : Column). x.least) is ∙ with_least found old)
          (c.in_ok-keep.ensures.ok ∙ ap (λ (x : Column). x.values.items ++ values) is
          ∙ ap (λ l. l ++ values) (with_items found old))
          (c.in_ok-keep.ensures.counted
          ∙ ap (λ (x : Column). min 18446744073709551615 (x.count + length values)) is
          ∙ ap (λ n. min 18446744073709551615 (n + length values)) (with_count found old))
          (c.values.ensures.kept s m given at)
          (λ later fed ready. c.values.ensures.right s m given later at fed ready) whole in
          found_or_not stream s m given old new values step start list found at there more stands
          w.if-not-self.true
          (ap (sink_begins_at stream.job m) (sym c.requires.task) ∙ w.start.ensures s m given at)
          w.find_start.ensures.few
          (c.in_ok-keep.ensures.late ∙ ap (λ (x : Column). x.late) is)
          (same.has_start ∙ ap (λ (x : Column). x.has_start) is)
      | else-not-self w ↦
          let is : mid ≡ old = w.self-is in
          let more = has_more stream s m given old new values t c.if-self.false c.requires.task
          (same.task ∙ ap (λ (x : Column). x.task) is)
          (same.least ∙ ap (λ (x : Column). x.least) is)
          (c.in_ok-keep.ensures.ok ∙ ap (λ (x : Column). x.values.items ++ values) is)
          (c.in_ok-keep.ensures.counted
          ∙ ap (λ (x : Column). min 18446744073709551615 (x.count + length values)) is)
          (c.values.ensures.kept s m given at)
          (λ later fed ready. c.values.ensures.right s m given later at fed ready) whole in
          stays_over stream s m (given old.task) old new values step start list more stands
          (c.in_ok-keep.ensures.late ∙ ap (λ (x : Column). x.late) is)
          (same.has_start ∙ ap (λ (x : Column). x.has_start) is)
          (λ no. absurd (let wrong : true ≡ false = sym w.if-not-self.false ∙ no in cc))
    ])
