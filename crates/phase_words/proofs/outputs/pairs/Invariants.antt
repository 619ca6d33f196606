use Rattle.std.proofs.Common.{◌≡◌, ◌++◌, drop, map, option_map}
use Rattle.phase_words.specs.Outputs.{pair_as, pair_of, pairs_by}
use Rattle.phase_words.proofs.outputs.pairs.Given as goal

-- those that were made, and then those of the words that are left
abbrev pub invariant-loop-word : goal.invariant-loop-word
invariant-loop-word l = pairs_by (option_map (λ s. s.now) l.sink) (map (λ s. s.now) l.words)
    ≡ map pair_as l.pairs.items ++ map pair_of (map (λ s. s.now) (drop l.word-index l.words))
