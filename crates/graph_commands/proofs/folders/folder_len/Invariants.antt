use Rattle.std.proofs.Common.{◌≡◌, ◌≤◌, take}
use Rattle.graph_commands.specs.Folders.{folder_of}
use Rattle.graph_commands.proofs.folders.folder_len.Given as goal

-- the folder of the bytes before this one
abbrev pub invariant-loop-i : goal.invariant-loop-i
invariant-loop-i l = (l.end ≤ l.i) × (take l.end l.file ≡ folder_of (take l.i l.file))
