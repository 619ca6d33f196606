use Rattle.std.proofs.Common.{arith, ◌≡◌, ◌-◌, length, map, get_or, ap, sym, ◌∙◌}
use Rattle.std.specs.Prelude.{min}
use Rattle.std.specs.List.{fold, range_with_len}
use Rattle.std.proofs.lemmas.List.{length-map}
use Rattle.graph_base.specs.GraphFields.{task_of}
use Rattle.stream_lists.specs.Spans.{run_out, values_from}
use Rattle.stream_lists.proofs.Firsts.{fold-map_more}
use Rattle.stream_lists.proofs.task_spans.first_end.Goals as goal

-- this input's end too
pub loop-k-preserved : goal.loop-k-preserved
loop-k-preserved c =
    let values = values_from (task_of c.args.task.now) c.args.lengths.now c.args.offset in
    let before = fold min (run_out values 0) (map (run_out values) (range_with_len 0 c.loop-k.k)) in
    c.min-first.ensures
    ∙ (ap (λ n. min n c.run_out_of.result) c.loop-k.invariant
    ∙ (ap (λ n. min before n) c.run_out_of.ensures
    ∙ sym (fold-map_more min (run_out values 0) (run_out values) c.loop-k.k)))

-- all inputs are looked at
pub returns : goal.returns
returns c =
    let values = values_from (task_of c.args.task.now) c.args.lengths.now c.args.offset in
    let as_many = length-map c.args.task.now.inputs.items
    (λ p. get_or c.args.lengths.now p 0 - c.args.offset) in
    let many : c.loop-k.k ≡ length values =
    omega (arith, as_many, c.len-k-end.ensures, c.loop-k-test.false, c.loop-k.auto.k-end) in
    c.loop-k.invariant
    ∙ ap (λ n. fold min (run_out values 0) (map (run_out values) (range_with_len 0 n))) many
