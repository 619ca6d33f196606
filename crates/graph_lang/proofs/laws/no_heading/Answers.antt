use Rattle.graph_lang.proofs.Headings.{no_heading}
use Rattle.graph_lang.proofs.laws.no_heading.Goals as goal

-- the first line that is not ignored is no heading
pub returns : goal.returns
returns c = no_heading
