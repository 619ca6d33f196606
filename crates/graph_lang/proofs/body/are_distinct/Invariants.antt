use Rattle.std.proofs.Common.{◌≡◌, drop}
use Rattle.graph_text.specs.Plain.{plain}
use Rattle.graph_lang.specs.Faults.{are_distinct}
use Rattle.graph_lang.proofs.body.are_distinct.Given as goal

-- the words that are left decide
abbrev pub invariant-loop-i : goal.invariant-loop-i
invariant-loop-i l = are_distinct (plain l.words) ≡ are_distinct (plain (drop l.i l.words))
