-- What the reading of a line answers.
use Rattle.std.proofs.Common.{◌≡◌, List, ap, sym, ◌∙◌, Option, Some, None, IfSome, IfNone, option_map}
use Rattle.phase_base.specs.Words.{Word}
use Rattle.graph_text.specs.Decls.{Decl, Spells}
use Rattle.graph_text.specs.declared.version.Version.{Version}
use Rattle.graph_text.specs.Lines.{decl_of}
use Rattle.graph_text.specs.Versions.{may_declare}
use Rattle.graph_text.specs.WordReading.{decl_at}
use Rattle.graph_text.specs.declared.line.Line.{Line}
use Rattle.graph_text.proofs.Spelled.{line_again}
use Rattle.graph_text.proofs.Taken.{line_takes}

pub found : (version : Version) (o : Option Line) (ws : List Word)
    → option_map decl_of o ≡ decl_at version ws
    → IfSome o (λ line. Spells version ws (decl_of line))
found version None ws e = tt
found version (Some line) ws e = line_takes version ws (decl_of line) (sym e)

pub none : (version : Version) (o : Option Line) (ws : List Word)
    → option_map decl_of o ≡ decl_at version ws → IfNone o ((d : Decl) → ¬ (Spells version ws d))
none version None ws e = λ d spells.
    let clash : None ≡ Some d =
    e ∙ ap (decl_at version) spells.spelled ∙ line_again (may_declare version) version d spells.well_formed in
    absurd (cc)
none version (Some line) ws e = tt
