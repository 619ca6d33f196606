use Rattle.std.proofs.Common.{sym}
use Rattle.stream_filters.specs.Filter.{outputs_of_block}
use Rattle.stream_filters.proofs.Outputs.{length-outputs_of_block, outputs-block, outputs_of_block-append}
use Rattle.stream_filters.proofs.laws.outputs_go_on.Goals as goal

-- the outputs at more samples are those of a block behind these
pub returns : goal.returns
returns c = record {
  behind = outputs_of_block-append;
  prefix = λ taps form xs ys. (outputs_of_block taps form xs ys, sym (outputs-block taps form xs ys));
  many = length-outputs_of_block;
}
