use Rattle.stream_eval.proofs.Parts.{part-none, part-two, part-whole}
use Rattle.stream_eval.proofs.filter_lists.parts_follow.Goals as goal

-- values are taken behind those before them
pub returns : goal.returns
returns c = record { none = part-none; two = part-two; whole = part-whole }
