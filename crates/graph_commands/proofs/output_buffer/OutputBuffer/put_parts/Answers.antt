use Rattle.std.proofs.Common.{◌≡◌, ◌+◌, ◌++◌, ◌∷◌, ◌∙◌, [], take, drop, rules, ap}
use Rattle.std.specs.List.{flat_map}
use Rattle.std.proofs.lemmas.List.{take_more}
use Rattle.std.proofs.lemmas.Result.{err_from_is_err_and}
use Rattle.graph_commands.specs.Puts.{bytes_of}
use Rattle.watched_io.proofs.Items.{flat_map-push, flat_map-rest}
use Rattle.graph_commands.proofs.Putting.{Puts-append, prefix_behind, prefix_within}
use Rattle.graph_commands.proofs.output_buffer.OutputBuffer.put_parts.Goals as goal

-- of a part a prefix was put
pub returns-in_err-put-clause-err : goal.returns-in_err-put-clause-err
returns-in_err-put-clause-err g c =
    let p = err_from_is_err_and c.from_residual.result c.from_residual.ensures.1 in
    let parts = c.args.parts.now in
    let i = c.loop-part.part-index in
    let part = c.part-item.result in
    let before = c.args.self.now in
    let item : take (i + 1) parts ≡ take i parts ++ part ∷ [] =
    take_more parts i part c.loop-part-test.true
    ∙ ap (λ x. take i parts ++ x ∷ []) (search rules) in
    let same : c.deref.result.now ≡ bytes_of part = search rules in
    let more = ap (λ xs. flat_map bytes_of xs) item ∙ flat_map-push bytes_of [] (take i parts) part in
    let whole = flat_map-rest bytes_of [] parts (i + 1)
    ∙ ap (λ l. l ++ flat_map bytes_of (drop (i + 1) parts)) more in
    rw p.1 (prefix_within _ _ before (flat_map bytes_of (take i parts) ++ bytes_of part)
    (flat_map bytes_of (drop (i + 1) parts)) _ whole
    (prefix_behind _ _ _ before c.loop-part.self (flat_map bytes_of (take i parts)) (bytes_of part)
    c.loop-part.invariant.0 (rw same at c.in_err-put.ensures.err)))

-- one more part was put
pub loop-part-preserved : goal.loop-part-preserved
loop-part-preserved g c =
    let parts = c.args.parts.now in
    let i = c.loop-part.part-index in
    let part = c.part-item.result in
    let before = c.args.self.now in
    let item : take (i + 1) parts ≡ take i parts ++ part ∷ [] =
    take_more parts i part c.loop-part-test.true
    ∙ ap (λ x. take i parts ++ x ∷ []) (search rules) in
    let same : c.deref.result.now ≡ bytes_of part = search rules in
    let more = ap (λ xs. flat_map bytes_of xs) item
    ∙ flat_map-push bytes_of [] (take i parts) part in (
      rw more (Puts-append _ _ _ before c.loop-part.self c.put.new.self
          (flat_map bytes_of (take i parts)) (bytes_of part) c.loop-part.invariant.0
          (rw same at c.in_ok-put.ensures.ok)),
      c.in_ok-put.ensures.same ∙ c.loop-part.invariant.1,
    )
