-- A phase that refuses is the first that does.
use Rattle.std.proofs.Common.{◌≤◌, List, length, refl, sym, ap, ◌∙◌, arith}
use Rattle.phase_ring.proofs.Blocks.{drop-all}
use Rattle.phase_accum.specs.Parcels.{Parcel}
use Rattle.phase_base.specs.Lists.{first_row}
use Rattle.phase_core.specs.Blocks.{block_rows}
use Rattle.phase_core.proofs.SignalRows.{rows_at, first_or-some, none-of, first_or-past, rows_of_new}
use Rattle.phase_core.proofs.list_refusals.lists_refusal.Goals as goal

pub loop-pending-init : goal.loop-pending-init
loop-pending-init g c = record { phase_is = omega arith; left = refl }

pub list_refusal-refusal-requires : goal.list_refusal-refusal-requires
list_refusal-refusal-requires g c some =
    let opened = c.requires.opened some in
    let low = opened.low in
    let is = c.loop-pending.invariant.phase_is in
    record { kept = opened.kept; slowest_is = opened.slowest_is; low = omega arith }

pub returns-then-are_open-clause-rows : goal.returns-then-are_open-clause-rows
returns-then-are_open-clause-rows g c =
    let b = c.args.board.now in
    let held = c.are_held.ensures.held in
    rows_of_new g.A.Accumulate.operation b.limits c.args.slowest b.ring b.done b.top c.args.lists.now held.0 c.args.single.now c.args.entry c.are_open.result
    c.requires.opened held.1 c.are_open.ensures c.if-are_open.true

pub returns-then-is_some-clause-rows : goal.returns-then-is_some-clause-rows
returns-then-is_some-clause-rows g c =
    let b = c.args.board.now in
    let w = first_row (block_rows b.limits c.args.slowest b.ring c.args.lists.now c.args.single.now c.args.entry) in
    let all = rows_at b.limits c.args.slowest b.ring c.args.lists.now c.pending-item.result c.args.single.now c.loop-pending.at c.loop-pending.pending-index
    c.list_refusal-refusal.result w c.loop-pending.invariant.left c.loop-pending-test.true c.pending-item.is c.list_refusal-refusal.ensures in
    ◌∙◌ {c = w} (sym (first_or-some c.list_refusal-refusal.result _ (sym c.is_some.ensures ∙ c.if-is_some.true))) all

pub loop-pending-preserved : goal.loop-pending-preserved
loop-pending-preserved g c =
    let b = c.args.board.now in
    let i = c.loop-pending.invariant in
    let is = i.phase_is in
    let none = none-of c.list_refusal-refusal.result (sym c.is_some.ensures ∙ c.if-is_some.false) in
    let w = first_row (block_rows b.limits c.args.slowest b.ring c.args.lists.now c.args.single.now c.args.entry) in
    let all = rows_at b.limits c.args.slowest b.ring c.args.lists.now c.pending-item.result c.args.single.now c.loop-pending.at c.loop-pending.pending-index
    c.list_refusal-refusal.result w i.left c.loop-pending-test.true c.pending-item.is c.list_refusal-refusal.ensures in
    record {
      phase_is = omega arith;
      left = first_or-past c.list_refusal-refusal.result _ w none all;
    }

pub returns-clause-rows : goal.returns-clause-rows
returns-clause-rows g c =
    let b = c.args.board.now in
    let past : length c.args.lists.now ≤ c.loop-pending.pending-index = c.loop-pending-test.false in
    let w = first_row (block_rows b.limits c.args.slowest b.ring c.args.lists.now c.args.single.now c.args.entry) in
    ◌∙◌ {c = w} (ap (λ (xs : List (Parcel g.row.A.Denot)). first_row (block_rows b.limits c.args.slowest b.ring xs c.args.single.now c.loop-pending.at)) (sym (drop-all c.args.lists.now c.loop-pending.pending-index past)))
    c.loop-pending.invariant.left
