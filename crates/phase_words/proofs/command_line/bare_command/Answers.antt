-- The texts of help are no part of what a parse reads.
use Rattle.std.proofs.Common.{◌∙◌, ap}
use Rattle.std.proofs.lemmas.Result.{IfOk-weaker}
use Rattle.clap.specs.Simple.{app_of_fields}
use Rattle.phase_words.specs.CommandLine.{without_own_name}
use Rattle.phase_words.proofs.command_line.bare_command.Goals as goal

pub returns : goal.returns
returns c =
    IfOk-weaker c.bin_name.result _ _
    (λ r named. ap app_of_fields named.0 ∙ (ap app_of_fields c.after_help.ensures
    ∙ (ap app_of_fields c.about.ensures ∙ (ap app_of_fields c.no_binary_name.ensures
    ∙ ap without_own_name c.new.ensures.app)))) c.bin_name.ensures
