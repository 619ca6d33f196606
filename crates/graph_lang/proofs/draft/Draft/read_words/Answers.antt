use Rattle.std.proofs.Common.{IfSome, subst}
use Rattle.graph_text.specs.Decls.{Spells}
use Rattle.graph_text.specs.Lines.{decl_of}
use Rattle.graph_text.specs.Plain.{plain}
use Rattle.graph_text.proofs.Spelled.{well_formed_later}
use Rattle.graph_lang.proofs.draft.Draft.read_words.Goals as goal

-- a line of any version is one of the third, where that may declare any name
pub declare-requires : goal.declare-requires
declare-requires c =
    let spells = subst (λ o. IfSome o (λ line.
    Spells c.args.version (plain c.args.words.now) (decl_of line))) c.in-Some.is
    c.line_at.ensures.found in
    well_formed_later c.args.version (decl_of c.in-Some.declared) spells.well_formed
