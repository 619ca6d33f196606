use Rattle.std.proofs.Common.{◌≡◌, drop, map}
use Rattle.phase_words.specs.Outputs.{lack_file}
use Rattle.phase_words.proofs.outputs.lack_file.Given as goal

-- the words that are left decide
abbrev pub invariant-loop-word : goal.invariant-loop-word
invariant-loop-word l = lack_file (map (λ s. s.now) l.words)
    ≡ lack_file (map (λ s. s.now) (drop l.word-index l.words))
