use Rattle.graph_text.specs.Lines.{single_of}
use Rattle.graph_lang.proofs.Sound.{phaser-new}
use Rattle.graph_lang.proofs.draft.Draft.declare_phaser.Goals as goal

-- the line has no fault, so its name is new
pub add_phaser-requires-clause-new : goal.add_phaser-requires-clause-new
add_phaser-requires-clause-new c =
    phaser-new c.args.version c.args.self.now c.args.words.name.now c.args.words.operation
    c.args.words.bound.now (single_of c.args.words.single)
    c.in-Ok.ensures.none
