-- What one sink more has was taken over.
use Rattle.std.proofs.Common.{◌≡◌, ◌+◌, ◌∙◌, ℕ, Some, length, get_or, set, slice_get, refl, sym, ap, subst, arith}
use Rattle.std.proofs.lemmas.List.{length-map}
use Rattle.std.proofs.lemmas.Option.{slice_get_read}
use Rattle.stream_job.specs.SinkLines.{kept_by}
use Rattle.stream_job.specs.Streams.{ended_at}
use Rattle.stream_lists.specs.Jobs.{Job as JobValue}
use Rattle.stream_lists.specs.Lists.{sinks_of}
use Rattle.phase_stream.specs.Columns.{ColumnStands}
use Rattle.phase_stream.specs.TableLines.{Shows, by_number}
use Rattle.phase_stream.proofs.NextLines.{shows_first}
use Rattle.phase_stream.proofs.RightTables.{column_there}
use Rattle.phase_stream.proofs.TakenLines.{columns_tasks, shows_behind, shows_given, takes_more, taken_all, taken_apart, taken_here, taken_none, taken_not, taken_of}
use Rattle.phase_stream.proofs.table.Table.take.Goals as goal

pub loop-number-init : goal.loop-number-init
loop-number-init c = (
  refl,
  λ going s m given view at shows.
      shows_first c.args.stream.now.job (ended_at c.args.stream.now) going s m _ view
      c.args.self.now.columns.items
      (shows_given c.args.stream.now.job (ended_at c.args.stream.now) going s m _ _
      c.args.self.now.columns.items view (λ k lt. taken_none c.args.stream.now.job m given k) shows),
)

pub returns-in_err-take-clause-tasks : goal.returns-in_err-take-clause-tasks
returns-in_err-take-clause-tasks c =
    let items = c.loop-number.self.columns.items in
    let n : ℕ = c.loop-number.number in
    let old = c.index_mut.result.now in
    let lt = c.loop-number-test.true in
    let end = c.len-number-end.ensures in
    let near = c.loop-number.auto.number-end in
    let okay = c.args.self.now.columns.ok.0 in
    let long : length items ≡ length c.args.self.now.columns.items =
    sym (length-map items (λ column. column.task)) ∙ ap length c.loop-number.invariant.0
    ∙ length-map c.args.self.now.columns.items (λ column. column.task) in
    let got : slice_get items n ≡ Some old =
    slice_get_read items (length items) n old refl (omega arith) c.index_mut.ensures.value in
    columns_tasks items n old c.take.new.self got c.take.ensures.task ∙ c.loop-number.invariant.0

pub loop-number-preserved : goal.loop-number-preserved
loop-number-preserved c =
    let stream = c.args.stream.now in
    let job = stream.job in
    let items = c.loop-number.self.columns.items in
    let n : ℕ = c.loop-number.number in
    let old = c.index_mut.result.now in
    let new = c.take.new.self in
    let lt = c.loop-number-test.true in
    let end = c.len-number-end.ensures in
    let near = c.loop-number.auto.number-end in
    let okay = c.args.self.now.columns.ok.0 in
    let long : length items ≡ length c.args.self.now.columns.items =
    sym (length-map items (λ column. column.task)) ∙ ap length c.loop-number.invariant.0
    ∙ length-map c.args.self.now.columns.items (λ column. column.task) in
    let got : slice_get items n ≡ Some old =
    slice_get_read items (length items) n old refl (omega arith) c.index_mut.ensures.value in
    let task : old.task ≡ get_or (sinks_of job) n 0 =
    (column_there job items n old (c.loop-number.invariant.0 ∙ c.requires) got).1 in (
      columns_tasks items n old new got c.take.ensures.task ∙ c.loop-number.invariant.0,
      λ going s m given view at shows.
          (let first = c.loop-number.invariant.1 going s m given view at shows in
          let stands = first.shows.stand n old got in
          let here : taken_of job m given n n ≡ given old.task =
          taken_not job m given n n (λ less. omega (arith, less)) ∙ ap given (sym task) in
          let over = c.in_ok-take.ensures.ok s m given first.later.step (first.later.starts n)
          (first.later.lists n) at
          (subst (λ l. ColumnStands job (ended_at stream) s m l old first.later.step
          (first.later.starts n) (first.later.lists n)) here stands) in
          shows_behind job (ended_at stream) going s m (taken_of job m given n)
          (taken_of job m given (n + 1)) view items (set items n new) first
          (takes_more job (ended_at stream) going s m (taken_of job m given n)
          (taken_of job m given (n + 1)) items first.later n old new first.shows over got
          c.take.ensures.left (c.take.ensures.task ∙ task)
          (taken_here job m given (n + 1) n (omega arith)
          ∙ ap (kept_by job m) (sym (c.take.ensures.task ∙ task)))
          (λ k apart. taken_apart job m given n k apart))),
    )

pub leave_absent-requires : goal.leave_absent-requires
leave_absent-requires c =
    c.loop-number.invariant.0 ∙ c.requires ∙ ap (λ j. sinks_of j) (sym c.job.ensures)

pub returns-clause-tasks : goal.returns-clause-tasks
returns-clause-tasks c = c.leave_absent.ensures.tasks ∙ c.loop-number.invariant.0

pub returns-clause-ok : goal.returns-clause-ok
returns-clause-ok c = λ going s m given view at shows.
    (let stream = c.args.stream.now in
    let job = stream.job in
    let first = c.loop-number.invariant.1 going s m given view at shows in
    let far = c.loop-number-test.false in
    let end = c.len-number-end.ensures in
    let near = c.loop-number.auto.number-end in
    let okay = c.args.self.now.columns.ok.0 in
    let long : length c.args.self.now.columns.items ≡ length (sinks_of job) =
    sym (length-map c.args.self.now.columns.items (λ column. column.task)) ∙ ap length c.requires in
    record {
      later = first.later;
      shows = subst (λ (j : JobValue). Shows j (ended_at stream) going s m
          (by_number job (kept_by job m)) c.leave_absent.new.self.columns.items first.later)
          c.job.ensures
          (c.leave_absent.ensures.shows (ended_at stream) going s m (by_number job (kept_by job m))
          first.later (subst (λ (j : JobValue). Shows j (ended_at stream) going s m
          (by_number job (kept_by job m)) c.loop-number.self.columns.items first.later)
          (sym c.job.ensures)
          (taken_all job (ended_at stream) going s m given c.loop-number.self.columns.items
          first.later c.loop-number.number (omega arith) first.shows)));
      text = first.text;
    })
