use Rattle.std.proofs.Common.{◌≡◌, drop, map}
use Rattle.graph_lang.specs.Reads.{version_of}
use Rattle.graph_text.specs.Plain.{plain}
use Rattle.phase_base.specs.Lists.{without_cr}
use Rattle.graph_show.proofs.version.version_of.Given as goal

-- the lines that are left tell the version
abbrev pub invariant-loop-line : goal.invariant-loop-line
invariant-loop-line l = version_of (map without_cr (plain l.lines))
    ≡ version_of (map without_cr (plain (drop l.line-index l.lines)))
