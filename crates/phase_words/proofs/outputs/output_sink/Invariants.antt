use Rattle.std.proofs.Common.{◌≡◌, drop, map}
use Rattle.phase_words.specs.Outputs.{pair_as, sink_in}
use Rattle.phase_words.proofs.outputs.output_sink.Given as goal

-- those that are left decide
abbrev pub invariant-loop-pair : goal.invariant-loop-pair
invariant-loop-pair l = sink_in (map pair_as l.pairs)
    ≡ sink_in (map pair_as (drop l.pair-index l.pairs))
