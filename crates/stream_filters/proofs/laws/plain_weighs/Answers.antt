use Rattle.std.proofs.Common.{sym}
use Rattle.stream_filters.specs.Filter.{puts_of}
use Rattle.stream_filters.proofs.Outputs.{plain-behind}
use Rattle.stream_filters.proofs.PlainLists.{plain-list}
use Rattle.stream_filters.proofs.laws.plain_weighs.Goals as goal

-- its sums have nothing of what it put
pub returns : goal.returns
returns c = record {
  outputs = λ taps form samples plain. sym (plain-list taps form samples plain);
  block = λ taps form taken xs plain. plain-behind taps form taken (puts_of taps form taken) xs plain;
}
