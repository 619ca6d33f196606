-- Where memory may run out: over a graph's file that is not too long.
use Rattle.std.proofs.Common.{ℕ, ◌≤◌, List, length, None, Some, subst}
use Rattle.std.specs.declared.option.Option.{Option}
use Rattle.watched_io.specs.Files.{HasBytes, MayNeedMemory}
use Rattle.graph_base.specs.Graphs.{Graph}
use Rattle.graph_commands.specs.FileJobs.{IsGraphOf, Known}
use Rattle.graph_commands.specs.declared.graph_file.TheConstants.{GRAPH_MAX}

-- a text that was read is not too long, and where the file is known it is the file's
pub needed-text : (limit : ℕ) (known : Option (List ℕ)) (text : List ℕ) → HasBytes known text
    → length text ≤ limit → MayNeedMemory limit known
needed-text limit None text bytes short = tt
needed-text limit (Some all) text bytes short = subst (λ l. length l ≤ limit) bytes short

-- a graph that was read has such a text
pub needed-graph : (known : Known) (name : List ℕ) (graph : Graph) → IsGraphOf known name graph
    → MayNeedMemory GRAPH_MAX (known name)
needed-graph known name graph of = needed-text GRAPH_MAX (known name) of.text of.bytes of.short
