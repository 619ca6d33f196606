use Rattle.graph_lang.proofs.Known.{added}
use Rattle.graph_lang.proofs.draft.add_name.Goals as goal

-- a new name goes last
pub returns : goal.returns
returns c = added c.args.name.now c.in_ok-name.name c.args.place c.args.names.now.entries
    c.insert.new.self.entries c.in_ok-name.ensures.ok c.requires c.in_ok-insert.ensures.entries
