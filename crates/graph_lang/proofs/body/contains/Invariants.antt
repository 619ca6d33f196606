use Rattle.std.proofs.Common.{◌≡◌, drop}
use Rattle.std.specs.List.{list_any}
use Rattle.std.specs.Str.{bytes_eq}
use Rattle.graph_text.specs.Plain.{plain}
use Rattle.graph_lang.proofs.body.contains.Given as goal

-- the words that are left decide
abbrev pub invariant-loop-other : goal.invariant-loop-other
invariant-loop-other l = list_any (bytes_eq l.word) (plain l.words)
    ≡ list_any (bytes_eq l.word) (plain (drop l.other-index l.words))
