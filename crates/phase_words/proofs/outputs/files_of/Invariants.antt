use Rattle.std.proofs.Common.{◌≡◌, ◌++◌, drop, map}
use Rattle.phase_words.specs.Outputs.{others_in, pair_as}
use Rattle.phase_words.proofs.outputs.files_of.Given as goal

-- those that were found, and then those of what is left
abbrev pub invariant-loop-pair : goal.invariant-loop-pair
invariant-loop-pair l = others_in (map pair_as l.pairs)
    ≡ map pair_as l.files.items ++ others_in (map pair_as (drop l.pair-index l.pairs))
