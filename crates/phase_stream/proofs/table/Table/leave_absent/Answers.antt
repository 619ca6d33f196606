-- The column of a sink that never comes has left.
use Rattle.std.proofs.Common.{◌≡◌, ◌∙◌, ℕ, true, Some, length, slice_get, refl, sym, ap, arith}
use Rattle.std.proofs.lemmas.List.{length-map}
use Rattle.std.proofs.lemmas.Option.{slice_get_read}
use Rattle.phase_stream.specs.declared.column.Column.{Column}
use Rattle.phase_stream.proofs.Absent.{shows_absent}
use Rattle.phase_stream.proofs.TakenLines.{columns_tasks}
use Rattle.phase_stream.proofs.table.Table.leave_absent.Goals as goal
use Rattle.phase_stream.proofs.table.Table.leave_absent.Goals.{then-never_comes, else-never_comes}

pub loop-number-init : goal.loop-number-init
loop-number-init c = (refl, λ ended going s m given view shows. shows)

pub loop-number-preserved : goal.loop-number-preserved
loop-number-preserved c =
    let items = c.loop-number.self.columns.items in
    let n : ℕ = c.loop-number.number in
    let lt = c.loop-number-test.true in
    let end = c.len-number-end.ensures in
    let near = c.loop-number.auto.number-end in
    let okay = c.args.self.now.columns.ok.0 in
    let long : length items ≡ length c.args.self.now.columns.items =
    sym (length-map items (λ column. column.task)) ∙ ap length c.loop-number.invariant.0
    ∙ length-map c.args.self.now.columns.items (λ column. column.task) in
    elim c.if-never_comes.branch [
      | then-never_comes w ↦
          let old = w.index_mut.result.now in
          let new : Column = record old { has_left = true } in
          let got : slice_get items n ≡ Some old =
          slice_get_read items (length items) n old refl (omega arith) w.index_mut.ensures.value in
          rw w.self-is (
            columns_tasks items n old new got refl ∙ c.loop-number.invariant.0,
            λ ended going s m given view shows.
                shows_absent c.args.job.now ended going s m given items view n old new got
                (c.never_comes.ensures w.if-never_comes.true old got) refl
                (c.loop-number.invariant.1 ended going s m given view shows),
          )
      | else-never_comes w ↦ rw w.self-is c.loop-number.invariant
    ]
