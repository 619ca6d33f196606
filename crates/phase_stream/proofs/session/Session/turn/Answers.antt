-- What the run has kept was handed over.
use Rattle.phase_stream.specs.Outputs.{writers_at}
use Rattle.phase_stream.proofs.Handing.{handed, handed_part, held_part}
use Rattle.phase_stream.proofs.Stopping.{targets_same}
use Rattle.phase_stream.proofs.session.Session.turn.Goals as goal

pub kept_is_right-requires : goal.kept_is_right-requires
kept_is_right-requires g c =
    targets_same c.args.self.now c.run.new.self c.run.ensures.same c.requires

pub hand_over-requires : goal.hand_over-requires
hand_over-requires g c = targets_same c.args.self.now c.run.new.self c.run.ensures.same c.requires

pub kept_is_right-requires-in-Err-hand_over : goal.kept_is_right-requires-in-Err-hand_over
kept_is_right-requires-in-Err-hand_over g c =
    targets_same c.run.new.self c.hand_over.new.self c.hand_over.ensures.same
    (targets_same c.args.self.now c.run.new.self c.run.ensures.same c.requires)

pub returns-in-Ok-hand_over-clause-ok : goal.returns-in-Ok-hand_over-clause-ok
returns-in-Ok-hand_over-clause-ok g c = λ held old st.
    handed g.R.Read.remaining held old
    (writers_at g.W.Write.contents g.V.Write.contents c.args.output.now c.args.made.now.items)
    (writers_at g.W.Write.contents g.V.Write.contents c.hand_over.new.output c.hand_over.new.made.items)
    c.run.new.self c.hand_over.new.self c.in-Ok.stop
    (targets_same c.args.self.now c.run.new.self c.run.ensures.same c.requires)
    (c.run.ensures.stands held old _ st) c.in-Ok.ensures.stops c.in-Ok-hand_over.ensures.ok
    c.hand_over.ensures.same

pub returns-in-Err-hand_over-clause-err : goal.returns-in-Err-hand_over-clause-err
returns-in-Err-hand_over-clause-err g c = λ held old st.
    handed_part g.R.Read.remaining held old
    (writers_at g.W.Write.contents g.V.Write.contents c.args.output.now c.args.made.now.items)
    (writers_at g.W.Write.contents g.V.Write.contents c.hand_over.new.output c.hand_over.new.made.items)
    c.run.new.self c.hand_over.new.self
    (c.run.ensures.stands held old _ st) c.in-Err-hand_over.ensures.err c.hand_over.ensures.same
    c.kept_is_right-in-Err-hand_over.ensures.given

pub returns-in-Err-clause-err : goal.returns-in-Err-clause-err
returns-in-Err-clause-err g c = λ held old st.
    let later = c.run.ensures.stands held old _ st in
    held_part g.R.Read.remaining held old _ c.run.new.self later
    (λ k t goes. c.kept_is_right.ensures.given k t goes later.samples later.moment later.given
    later.reaches.at)
