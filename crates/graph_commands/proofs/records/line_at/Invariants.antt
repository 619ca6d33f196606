use Rattle.std.proofs.Common.{◌≡◌, ◌==◌, ◌+◌, take}
use Rattle.std.specs.List.{count_by}
use Rattle.graph_commands.proofs.records.line_at.Given as goal

-- the lines that end before this byte were counted
abbrev pub invariant-loop-b : goal.invariant-loop-b
invariant-loop-b l = l.line ≡ count_by (λ b. b == 10) (take l.b-index (take l.at l.text)) + 1
