use Rattle.std.proofs.Common.{◌∙◌, ap, refl, rules}
use Rattle.std.proofs.lemmas.List.{nil_from_length}
use Rattle.phase_base.specs.Lists.{without_cr}
use Rattle.phase_replay.specs.declared.replayer.Replayer.{Replayer}
use Rattle.phase_replay.proofs.Owing.{owes_more, owes_answered, owes_answered_whole}
use Rattle.phase_replay.proofs.replayer.Replayer.answer.Goals as goal

-- The line stands whole in the piece.
pub returns-then-is_empty-clause-ok : goal.returns-then-is_empty-clause-ok
returns-then-is_empty-clause-ok c = λ later owed. owes_answered_whole c.args.self.now _ c.without_cr.result.now c.args.end.now later owed
    (search rules) c.requires c.without_cr.ensures
    (record { reply = c.in_ok-answer_line.ensures.reply; after = c.in_ok-answer_line.ensures.after; begun = nil_from_length c.args.self.now.kept (search rules) })

-- Its prefix was kept before.
pub returns-clause-ok : goal.returns-clause-ok
returns-clause-ok c = λ later owed owes.
    let mid : Replayer = record { session = c.args.self.now.session; kept = c.extend.new.self; reply = c.args.self.now.reply; out = c.args.self.now.out } in
    owes_answered mid _ c.without_cr-2.result.now later owed (c.without_cr-2.ensures ∙ ap without_cr c.bytes.ensures)
    (record { reply = c.in_ok-answer_line-2.ensures.reply; after = c.in_ok-answer_line-2.ensures.after; begun = c.clear.ensures })
    (owes_more c.args.self.now mid c.args.end.now _ owed c.requires refl refl c.extend.ensures owes)
