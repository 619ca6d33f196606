-- Each command is obeyed by its own call.
use Rattle.std.proofs.Common.{◌≡◌, ◌≤◌, w64, to_z, of_z, nat_abs, subst, arith}
use Rattle.std.proofs.lemmas.Int.{ints}
use Rattle.phase_script.specs.declared.command.Command.{Command}
use Rattle.phase_script.specs.Commands.{whole_command, IsCommand}
use Rattle.phase_script.specs.ReplyLines.{whole_reply}
use Rattle.phase_script.specs.Numbers.{most}
use Rattle.phase_replay.proofs.Obeying.{asks_as, tells_if_ok, stands_on_ok, ok_on_err, replies, tells, stands_then}
use Rattle.phase_replay.proofs.script_phaser.ScriptPhaser.obey.Goals as goal

pub returns-in-Add-clause-reply : goal.returns-in-Add-clause-reply
returns-in-Add-clause-reply g c =
    tells_if_ok g.A.Accumulate.operation c.args.self.now c.add.result c.args.outcomes.now c.args.values.now c.args.command _ c.in-Add.is c.add.ensures.reply

pub returns-in-Add-clause-after : goal.returns-in-Add-clause-after
returns-in-Add-clause-after g c =
    stands_on_ok g.A.Accumulate.operation c.args.self.now c.add.new.self c.add.result c.args.values.now c.args.command _ c.in-Add.is c.add.ensures.after

pub returns-in-Add-clause-memory : goal.returns-in-Add-clause-memory
returns-in-Add-clause-memory g c =
    ok_on_err g.A.Accumulate.operation c.args.self.now c.add.result c.args.values.now c.args.command _ c.in-Add.is c.add.ensures.memory

pub returns-in-Now-clause-reply : goal.returns-in-Now-clause-reply
returns-in-Now-clause-reply g c =
    tells_if_ok g.A.Accumulate.operation c.args.self.now c.add_now.result c.args.outcomes.now c.args.values.now c.args.command _ c.in-Now.is c.add_now.ensures.reply

pub returns-in-Now-clause-after : goal.returns-in-Now-clause-after
returns-in-Now-clause-after g c =
    stands_on_ok g.A.Accumulate.operation c.args.self.now c.add_now.new.self c.add_now.result c.args.values.now c.args.command _ c.in-Now.is c.add_now.ensures.after

pub returns-in-Now-clause-memory : goal.returns-in-Now-clause-memory
returns-in-Now-clause-memory g c =
    ok_on_err g.A.Accumulate.operation c.args.self.now c.add_now.result c.args.values.now c.args.command _ c.in-Now.is c.add_now.ensures.memory

pub returns-in-Send-clause-reply : goal.returns-in-Send-clause-reply
returns-in-Send-clause-reply g c =
    tells_if_ok g.A.Accumulate.operation c.args.self.now c.send.result c.args.outcomes.now c.args.values.now c.args.command _ c.in-Send.is c.send.ensures.reply

pub returns-in-Send-clause-after : goal.returns-in-Send-clause-after
returns-in-Send-clause-after g c =
    let is_command = rw c.in-Send.is at c.requires in
    let small : nat_abs c.in-Send.value ≤ most = is_command.1 in
    let same : to_z w64 (of_z w64 c.in-Send.value) ≡ c.in-Send.value = omega (arith, ints, small) in
    stands_on_ok g.A.Accumulate.operation c.args.self.now c.send.new.self c.send.result c.args.values.now c.args.command _ c.in-Send.is (simp same at c.send.ensures.after)

pub returns-in-Wait-clause-reply : goal.returns-in-Wait-clause-reply
returns-in-Wait-clause-reply g c =
    tells g.A.Accumulate.operation c.args.self.now c.wait.result c.args.outcomes.now c.args.values.now c.args.command _ c.in-Wait.is c.wait.ensures.reply

pub returns-in-Wait-clause-after : goal.returns-in-Wait-clause-after
returns-in-Wait-clause-after g c =
    stands_then g.A.Accumulate.operation c.args.self.now c.wait.new.self c.args.values.now c.args.command _ c.in-Wait.is c.wait.ensures.after

pub returns-in-Drop-clause-reply : goal.returns-in-Drop-clause-reply
returns-in-Drop-clause-reply g c =
    tells g.A.Accumulate.operation c.args.self.now c.drop_task.result c.args.outcomes.now c.args.values.now c.args.command _ c.in-Drop.is c.drop_task.ensures.reply

pub returns-in-Drop-clause-after : goal.returns-in-Drop-clause-after
returns-in-Drop-clause-after g c =
    stands_then g.A.Accumulate.operation c.args.self.now c.drop_task.new.self c.args.values.now c.args.command _ c.in-Drop.is c.drop_task.ensures.after

pub returns-in-Add-clause-asks : goal.returns-in-Add-clause-asks
returns-in-Add-clause-asks g c = asks_as c.add.result c.args.values.now c.args.command _ c.in-Add.is tt

pub returns-in-Send-clause-asks : goal.returns-in-Send-clause-asks
returns-in-Send-clause-asks g c = asks_as c.send.result c.args.values.now c.args.command _ c.in-Send.is tt

pub returns-in-Now-clause-asks : goal.returns-in-Now-clause-asks
returns-in-Now-clause-asks g c = asks_as c.add_now.result c.args.values.now c.args.command _ c.in-Now.is tt

pub block-requires : goal.block-requires
block-requires g c =
    let is_command = rw c.in-Block.is at c.requires in
    is_command.1

pub returns-in-Block-clause-reply : goal.returns-in-Block-clause-reply
returns-in-Block-clause-reply g c =
    tells g.A.Accumulate.operation c.args.self.now c.block.result c.args.outcomes.now c.args.values.now c.args.command _ c.in-Block.is c.block.ensures.reply

pub returns-in-Block-clause-after : goal.returns-in-Block-clause-after
returns-in-Block-clause-after g c =
    stands_then g.A.Accumulate.operation c.args.self.now c.block.new.self c.args.values.now c.args.command _ c.in-Block.is c.block.ensures.after

pub take-requires : goal.take-requires
take-requires g c =
    let is_command = rw c.in-Take.is at c.requires in
    is_command.2

pub returns-in-Take-clause-reply : goal.returns-in-Take-clause-reply
returns-in-Take-clause-reply g c =
    replies g.A.Accumulate.operation c.args.self.now (whole_reply c.take.new.outcomes c.take.result) c.args.values.now c.args.command _ c.in-Take.is c.take.ensures.reply

pub returns-in-Take-clause-after : goal.returns-in-Take-clause-after
returns-in-Take-clause-after g c =
    stands_then g.A.Accumulate.operation c.args.self.now c.take.new.self c.args.values.now c.args.command _ c.in-Take.is c.take.ensures.after
