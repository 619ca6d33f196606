-- The commands stand one behind the other.
use Rattle.std.proofs.Common.{◌∙◌, ap}
use Rattle.std.proofs.lemmas.Result.{IfOk-weaker}
use Rattle.clap.specs.Simple.{app_of_fields}
use Rattle.clap.specs.Words.{with_subcommand}
use Rattle.phase_words.specs.CommandLine.{check_shape, draw_shape, eval_shape, phase_app}
use Rattle.phase_words.specs.CommandLine.{replay_shape, with_version}
use Rattle.phase_words.proofs.command_line.command.Goals as goal

pub returns : goal.returns
unfolding phase_app
returns c =
    let replay = c.replay_command.ensures in
    let check = c.check_command.ensures in
    let eval = c.eval_command.ensures in
    let draw = c.draw_command.ensures in
    let top = ap app_of_fields c.override_help-top.ensures
    ∙ (ap app_of_fields c.version.ensures ∙ ap with_version c.in_ok-top.ensures) in
    let one = c.in_ok-top-2.ensures replay_shape replay.shape replay.local
    ∙ ap (λ a. with_subcommand a replay_shape) top in
    let two = c.in_ok-top-3.ensures check_shape check.shape check.local
    ∙ ap (λ a. with_subcommand a check_shape) one in
    let three = c.in_ok-top-4.ensures eval_shape eval.shape eval.local
    ∙ ap (λ a. with_subcommand a eval_shape) two in
    IfOk-weaker c.with_command-4.result _ _
    (λ r four. four ∙ ap (λ a. with_subcommand a draw_shape) three)
    (c.with_command-4.ensures draw_shape draw.shape draw.local)
