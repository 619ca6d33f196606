-- What a check writes: the line of its counts, and then its notes.
use Rattle.std.proofs.Common.{List, ℕ, ◌++◌, refl}
use Rattle.std.specs.Io.KnownBytes.{Appends}
use Rattle.std.proofs.KnownBytes.{Appends-trans}
use Rattle.std.specs.declared.option.Option.{Option}
use Rattle.watched_io.proofs.Writing.{prefix_after, prefix_of_prefix}
use Rattle.graph_base.specs.Graphs.{Graph}
use Rattle.watched_io.specs.Prefix.{AppendsPrefix}
use Rattle.watched_io.specs.declared.explain.Explain.{Explain}
use Rattle.graph_commands.specs.Ends.{AreNotes, WritesCheck, WritesCheckPrefix}
use Rattle.graph_commands.specs.GraphRuns.{check_line}

-- both were written
pub check-both : (explain : Explain) (graph : Graph) (old mid new : Option (List ℕ)) (more : List ℕ)
    → AreNotes explain more → Appends old mid (check_line graph) → Appends mid new more
    → WritesCheck explain graph old new
check-both explain graph old mid new more are counts lines = record {
  more = more;
  notes = are;
  written = Appends-trans old mid new (check_line graph) more counts lines;
}

-- a prefix of the first line was
pub check-first : (explain : Explain) (graph : Graph) (old new : Option (List ℕ)) (more : List ℕ) → AreNotes explain more
    → AppendsPrefix old new (check_line graph) → WritesCheckPrefix explain graph old new
check-first explain graph old new more are prefix = record {
  more = more;
  notes = are;
  written = prefix_of_prefix old new (check_line graph) more (check_line graph ++ more) refl prefix;
}

-- a prefix of the lines behind it was
pub check-part : (explain : Explain) (graph : Graph) (old mid new : Option (List ℕ)) (more : List ℕ)
    → AreNotes explain more → Appends old mid (check_line graph) → AppendsPrefix mid new more
    → WritesCheckPrefix explain graph old new
check-part explain graph old mid new more are counts prefix = record {
  more = more;
  notes = are;
  written = prefix_after old mid new (check_line graph) more counts prefix;
}
