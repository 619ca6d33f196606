use Rattle.std.proofs.Common.{◌≡◌, drop}
use Rattle.std.specs.List.{list_any}
use Rattle.phase.specs.Ways.{names_workers}
use Rattle.phase_words.specs.CommandLine.{texts}
use Rattle.phase.proofs.way.name_workers.Given as goal

-- none of the words before this one does
abbrev pub invariant-loop-word : goal.invariant-loop-word
invariant-loop-word l =
    list_any names_workers (texts l.words)
    ≡ list_any names_workers (drop l.word-index (texts l.words))
