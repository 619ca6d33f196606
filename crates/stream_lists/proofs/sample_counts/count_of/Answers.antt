use Rattle.std.proofs.Common.{rules, ◌≡◌, sym, ◌∙◌}
use Rattle.stream_lists.specs.Jobs.{count_at}
use Rattle.stream_lists.proofs.AsMany.{length-counted}
use Rattle.stream_lists.proofs.sample_counts.count_of.Goals as goal

-- as many zeros as its number says
pub returns : goal.returns
returns c =
    let is : c.unwrap_or.result ≡ count_at c.args.graph.now c.args.counts.now c.args.t =
    search rules in
    is ∙ sym (length-counted c.args.graph.now c.args.counts.now c.args.t)
