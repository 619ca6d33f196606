use Rattle.std.proofs.Common.{◌≡◌, drop, map}
use Rattle.std.specs.List.{list_any}
use Rattle.phase_words.specs.Outputs.{clash, pair_as}
use Rattle.phase_words.proofs.outputs.clashes_with.Given as goal

-- those that are left decide
abbrev pub invariant-loop-other : goal.invariant-loop-other
invariant-loop-other l = list_any (clash (pair_as l.pair)) (map pair_as l.others)
    ≡ list_any (clash (pair_as l.pair)) (map pair_as (drop l.other-index l.others))
