-- It is the file of no source more, and so neither the graph's nor that of a source.
use Rattle.std.proofs.Common.{◌≡◌, ◌∙◌, ℕ, List, Bool, false, sym, ap, subst, arith}
use Rattle.std.specs.List.{list_any, range_with_len}
use Rattle.std.specs.Str.{bytes_eq}
use Rattle.phase_words.specs.StreamLine.{stream_asked}
use Rattle.graph_base.specs.Graphs.{file_at, sources_of}
use Rattle.phase_stream.specs.Outputs.{opened_as}
use Rattle.phase_stream.proofs.Making.{apart_named, neither, none_in_range}
use Rattle.phase_stream.proofs.writers.is_read.Goals as goal

pub loop-k-preserved : goal.loop-k-preserved
loop-k-preserved g c =
    let what = stream_asked c.args.call.now in
    let graph = c.args.graph.now in
    let same : List ℕ → Bool = λ name. bytes_eq c.args.file.now (opened_as what.beside what.graph name) in
    let is : same (file_at graph c.loop-k.k) ≡ false =
    ap same (sym c.file.ensures.file) ∙ c.in_ok-is_opened_as.ensures.apart c.if-branch.false in (
      none_in_range (λ k. same (file_at graph k)) c.loop-k.k c.loop-k.invariant.0 is,
      λ other. c.is_opened_as.ensures.same other ∙ c.loop-k.invariant.1 other,
    )

pub returns-clause-apart : goal.returns-clause-apart
returns-clause-apart g c = λ e.
    (let what = stream_asked c.args.call.now in
    let graph = c.args.graph.now in
    let near = c.loop-k.auto.k-end in
    let far = c.loop-k-test.false in
    let count = c.sources-k-end.ensures.count in
    let all : c.loop-k.k ≡ sources_of graph = omega (arith, near, far, count) in
    neither (bytes_eq c.args.file.now what.graph) _
    (apart_named c.is_one.result c.args.file.now what.graph c.is_one.ensures.named c.if-is_one.false)
    (subst (λ n. list_any (λ k. bytes_eq c.args.file.now (opened_as what.beside what.graph
    (file_at graph k))) (range_with_len 0 n) ≡ false) all c.loop-k.invariant.0))
