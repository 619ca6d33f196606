use Rattle.std.proofs.Common.{◌≡◌, ◌+◌, ◌-◌, ◌≤◌, ◌++◌, ◌∙◌, [], ℕ, ℤ, List, length, take, drop, rules, ap, arith}
use Rattle.std.specs.List.{flat_map}
use Rattle.std.proofs.lemmas.Grind.{flat_map-append}
use Rattle.std.proofs.lemmas.Result.{err_from_is_err_and}
use Rattle.graph_commands.specs.OutputTexts.{value_text}
use Rattle.watched_io.proofs.Items.{flat_map-rest}
use Rattle.graph_commands.proofs.Putting.{Puts-append, prefix_behind, prefix_within, take_on}
use Rattle.graph_commands.proofs.output_buffer.OutputBuffer.put_all.Goals as goal

-- the values of the round, behind those before it
more : (values : List ℤ) (at k : ℕ) → flat_map value_text (take (at + k) values)
    ≡ flat_map value_text (take at values) ++ flat_map value_text (take (at + k - at) (drop at values))
more values at k =
    let many : at + k - at ≡ k = omega arith in
    rw many (ap (flat_map value_text) (take_on at k values)
    ∙ flat_map-append value_text (take at values) (take k (drop at values)))

-- of the round a prefix was put
pub returns-in_err-put_round-clause-err : goal.returns-in_err-put_round-clause-err
returns-in_err-put_round-clause-err g c =
    let p = err_from_is_err_and c.from_residual.result c.from_residual.ensures.1 in
    let values = c.args.values.now in
    let at = c.loop-at.at in
    let before = c.args.self.now in
    let whole = flat_map-rest value_text [] values (at + c.min.result)
    ∙ ap (λ l. l ++ flat_map value_text (drop (at + c.min.result) values)) (more values at c.min.result) in
    rw p.1 (prefix_within _ _ before (flat_map value_text (take at values)
    ++ flat_map value_text (take (at + c.min.result - at) (drop at values)))
    (flat_map value_text (drop (at + c.min.result) values)) _ whole
    (prefix_behind _ _ _ before c.loop-at.self (flat_map value_text (take at values))
    (flat_map value_text (take (at + c.min.result - at) (drop at values)))
    c.loop-at.invariant.put c.in_err-put_round.ensures.err))

-- one more round was put
pub loop-at-preserved : goal.loop-at-preserved
loop-at-preserved g c =
    let values = c.args.values.now in
    let at = c.loop-at.at in
    let inside : c.min.result ≤ length values - at = search rules in
    let within = c.loop-at.invariant.within in
    record {
      within = omega arith;
      put = rw (more values at c.min.result) (Puts-append _ _ _ c.args.self.now c.loop-at.self
          c.put_round.new.self (flat_map value_text (take at values))
          (flat_map value_text (take (at + c.min.result - at) (drop at values)))
          c.loop-at.invariant.put c.in_ok-put_round.ensures.ok);
      same = c.in_ok-put_round.ensures.same ∙ c.loop-at.invariant.same;
    }
