use Rattle.std.proofs.Common.{◌∙◌}
use Rattle.graph_lang.proofs.Known.{lookup_is}
use Rattle.graph_lang.proofs.draft.place_of.Goals as goal

-- the map is looked up by the bytes of its names
pub returns : goal.returns
returns c = c.copied.ensures ∙ c.get.ensures.value
    ∙ lookup_is c.args.name.now c.args.names.now.entries
