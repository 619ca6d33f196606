-- One file more is read by nobody.
use Rattle.std.proofs.Common.{◌≡◌, ◌<◌, ◌∙◌, ℕ, Some, length, map, slice_get, sym, ap, arith}
use Rattle.std.proofs.lemmas.List.{length-map}
use Rattle.phase_words.specs.Outputs.{pair_as}
use Rattle.phase_words.specs.StreamLine.{stream_asked}
use Rattle.phase_stream.proofs.Making.{apart_all, apart_more}
use Rattle.phase_stream.proofs.Targeting.{got_pair}
use Rattle.phase_stream.proofs.writers.are_apart.Goals as goal

pub loop-k-preserved : goal.loop-k-preserved
loop-k-preserved g c =
    let what = stream_asked c.args.call.now in
    let items = c.args.call.now.files.items in
    let n : ℕ = c.loop-k.k in
    let lt = c.loop-k-test.true in
    let end = c.len-k-end.ensures in
    let within : n < length items = omega (arith, lt, end) in
    let one = c.index.result.now in
    let there : slice_get (map pair_as items) n ≡ Some (pair_as one) =
    got_pair items n one within ∙ ap (λ f. Some (pair_as f)) (sym c.index.ensures) in (
      apart_more what.beside what.graph c.args.graph.now (map pair_as items) n (pair_as one)
          c.loop-k.invariant.0 there (c.in_ok-is_read.ensures.apart c.if-is_read.false),
      λ other. c.is_written.ensures other ∙ c.is_read.ensures.same other ∙ c.loop-k.invariant.1 other,
    )

pub returns-clause-apart : goal.returns-clause-apart
returns-clause-apart g c = λ e.
    (let what = stream_asked c.args.call.now in
    let items = c.args.call.now.files.items in
    let far = c.loop-k-test.false in
    let near = c.loop-k.auto.k-end in
    let end = c.len-k-end.ensures in
    let many = length-map items pair_as in
    apart_all what.beside what.graph c.args.graph.now (map pair_as items) c.loop-k.k
    (omega (arith, far, near, end, many)) c.loop-k.invariant.0)
