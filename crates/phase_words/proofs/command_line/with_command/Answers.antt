-- The one more stands for itself alone.
use Rattle.std.proofs.Common.{◌≡◌, ◌∙◌, IfOk, ap, false, subst}
use Rattle.std.proofs.lemmas.Result.{IfOk-weaker}
use Rattle.clap.specs.Words.{app_of, shape_of, with_subcommand}
use Rattle.clap.specs.declared.builder.command.Command.{out-Command}
use Rattle.phase_words.proofs.command_line.with_command.Goals as goal

pub returns : goal.returns
returns c =
    λ shape has_shape is_local.
    let has = subst (λ command. IfOk command (λ c. shape_of c ≡ shape)) c.in_ok-command.was has_shape in
    let local = subst (λ command. IfOk command (λ c. (out-Command c).has_globals ≡ false)) c.in_ok-command.was is_local in
    IfOk-weaker c.subcommand.result _ _
    (λ r adds. adds.shape local ∙ ap (with_subcommand (app_of c.args.top)) has) c.subcommand.ensures
