use Rattle.std.proofs.Common.{◌+◌, ◌++◌, ◌∙◌, [], take, drop, get_or, pos, rules, w64, FitsSigned, ap}
use Rattle.std.proofs.lemmas.Int.{to_z-of_z}
use Rattle.std.specs.List.{flat_map}
use Rattle.std.proofs.lemmas.List.{take_more}
use Rattle.std.proofs.lemmas.Result.{err_from_is_err_and}
use Rattle.graph_commands.specs.OutputTexts.{value_text}
use Rattle.watched_io.proofs.Items.{flat_map-push, flat_map-rest}
use Rattle.graph_commands.proofs.Putting.{Puts-append, prefix_behind, prefix_within}
use Rattle.graph_commands.proofs.output_buffer.OutputBuffer.put_values.Goals as goal

-- of a value a prefix was put
pub returns-in_err-put_value-clause-err : goal.returns-in_err-put_value-clause-err
returns-in_err-put_value-clause-err g c =
    let p = err_from_is_err_and c.from_residual.result c.from_residual.ensures.1 in
    let values = c.args.values.now in
    let i = c.loop-value.value-index in
    let before = c.args.self.now in
    let fits : FitsSigned w64 (get_or values i (pos 0)) = search rules in
    let same = to_z-of_z w64 (get_or values i (pos 0)) fits in
    let more = ap (λ xs. flat_map value_text xs) (take_more values i (pos 0) c.loop-value-test.true)
    ∙ flat_map-push value_text [] (take i values) (get_or values i (pos 0)) in
    let whole = flat_map-rest value_text [] values (i + 1)
    ∙ ap (λ l. l ++ flat_map value_text (drop (i + 1) values)) more in
    rw p.1 (prefix_within _ _ before
    (flat_map value_text (take i values) ++ value_text (get_or values i (pos 0)))
    (flat_map value_text (drop (i + 1) values)) _ whole
    (prefix_behind _ _ _ before c.loop-value.self (flat_map value_text (take i values))
    (value_text (get_or values i (pos 0))) c.loop-value.invariant.0 (rw same at c.in_err-put_value.ensures.err)))

-- one more value was put
pub loop-value-preserved : goal.loop-value-preserved
loop-value-preserved g c =
    let values = c.args.values.now in
    let i = c.loop-value.value-index in
    let before = c.args.self.now in
    let fits : FitsSigned w64 (get_or values i (pos 0)) = search rules in
    let same = to_z-of_z w64 (get_or values i (pos 0)) fits in
    let more = ap (λ xs. flat_map value_text xs) (take_more values i (pos 0) c.loop-value-test.true)
    ∙ flat_map-push value_text [] (take i values) (get_or values i (pos 0)) in (
      rw more (Puts-append _ _ _ before c.loop-value.self c.put_value.new.self
          (flat_map value_text (take i values)) (value_text (get_or values i (pos 0)))
          c.loop-value.invariant.0 (rw same at c.in_ok-put_value.ensures.ok)),
      c.in_ok-put_value.ensures.same ∙ c.loop-value.invariant.1,
    )
