-- The reply of a command is one of a script, and it is one short line.
use Rattle.std.proofs.Common.{◌≤◌, ℕ, List, length, sym, subst}
use Rattle.phase_script.specs.Commands.{whole_command}
use Rattle.phase_script.specs.ReplyLines.{WholeReply, BadLine, IsReply, IsOneLine}
use Rattle.phase_script.proofs.ReplyLines.{reply_is_one_line, reply_short}
use Rattle.phase_replay.proofs.Scripted.{session_stands, session_goes_on}
use Rattle.phase_replay.proofs.Short.{state_is_reply}
use Rattle.phase_replay.proofs.session.Session.answer.Goals as goal

pub returns-in_default-clause-one_line : goal.returns-in_default-clause-one_line
returns-in_default-clause-one_line c =
    rw c.write.ensures (reply_is_one_line BadLine tt, reply_short BadLine tt)

pub returns-in_default-clause-stands : goal.returns-in_default-clause-stands
returns-in_default-clause-stands c = session_stands c.self.inside.alloc c.self.inside.phaser c.args.self.now c.self.view_is c.self.invariant

pub returns-in_err-answer-clause-stands : goal.returns-in_err-answer-clause-stands
returns-in_err-answer-clause-stands c = session_stands c.self.inside.alloc c.self.inside.phaser c.args.self.now c.self.view_is c.self.invariant

pub returns-clause-stands : goal.returns-clause-stands
returns-clause-stands c = session_stands c.self.inside.alloc c.self.inside.phaser c.args.self.now c.self.view_is c.self.invariant

pub returns-clause-one_line : goal.returns-clause-one_line
returns-clause-one_line c =
    let some = c.self.invariant in
    let R : WholeReply → Type 0 = λ r. IsReply r in
    let is_reply = subst R (sym (c.in_ok-answer.ensures.reply some.0 some.1))
    (state_is_reply c.self.inside.phaser some.0 (whole_command c.read.new.values c.in-Some.command) some.1 c.in-Some.ensures.found.0) in
    let L : List ℕ → Type 0 = λ l. IsOneLine l × (length l ≤ 363) in
    subst L (sym c.write-2.ensures) (reply_is_one_line _ is_reply, reply_short _ is_reply)

pub invariant_of-self-2 : goal.invariant_of-self-2
invariant_of-self-2 c =
    session_goes_on c.self.inside.phaser c.obey.new.phaser c.obey.result (whole_command c.read.new.values c.in-Some.command)
    c.obey.ensures.after c.obey.ensures.err c.self.invariant
