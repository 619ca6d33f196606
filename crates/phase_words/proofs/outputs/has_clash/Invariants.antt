use Rattle.std.proofs.Common.{◌≡◌, drop, map}
use Rattle.phase_words.specs.Outputs.{clashes_in, pair_as}
use Rattle.phase_words.proofs.outputs.has_clash.Given as goal

-- those that are left decide
abbrev pub invariant-loop-k : goal.invariant-loop-k
invariant-loop-k l = clashes_in (map pair_as l.pairs) ≡ clashes_in (map pair_as (drop l.k l.pairs))
