-- A turn more, and what stops it.
use Rattle.std.proofs.Common.{Err, length, refl, ap, subst, sym, ◌∙◌}
use Rattle.graph_commands.specs.Failures.{HasPlace}
use Rattle.graph_commands.specs.declared.failure.Failure.TheVariants as failure
use Rattle.graph_base.specs.Graphs.{IsPlace}
use Rattle.stream_lists.specs.Jobs.{Job}
use Rattle.phase_stream.specs.Outputs.{StopOf, writers_at}
use Rattle.phase_stream.specs.Sessions.{StandsStopped, task_for}
use Rattle.phase_stream.proofs.Refilling.{lacks_none}
use Rattle.phase_stream.proofs.Standing.{same_session}
use Rattle.phase_stream.proofs.Stopping.{done_writes, failed_same, held_later, io_stops, lack_stops, left_writes, targets_same, stall_stops, too_big_stops, too_big_there}
use Rattle.phase_stream.proofs.streamed.go.Goals as goal
use Rattle.phase_stream.proofs.streamed.go.Goals.{in-Full, in-Hungry+in_default}

pub loop-init : goal.loop-init
loop-init g c = (
  record { job = refl; targets = refl },
  λ other. refl,
  λ held old is st. st,
)

pub turn-requires : goal.turn-requires
turn-requires g c = targets_same c.args.session c.loop.session c.loop.invariant.0 c.requires.targets

pub returns-in-Err-clause-failed : goal.returns-in-Err-clause-failed
returns-in-Err-clause-failed g c = λ held old is st. (
  (λ e. failed_same c.args.session c.loop.session _ c.loop.invariant.0
      (c.turn.ensures.failed (c.in-Err.is ∙ ap Err e))),
  io_stops held old _ c.args.session c.turn.new.self
      (same_session c.args.session c.loop.session c.turn.new.self c.loop.invariant.0
      c.turn.ensures.same)
      c.in-Err.ensures.right
      (c.in-Err.ensures.err held old (c.loop.invariant.2 held old is st)),
)

pub have_left-requires : goal.have_left-requires
have_left-requires g c =
    targets_same c.args.session c.turn.new.self
    (same_session c.args.session c.loop.session c.turn.new.self c.loop.invariant.0 c.turn.ensures.same)
    c.requires.targets

pub returns-then-have_left-clause-done : goal.returns-then-have_left-clause-done
returns-then-have_left-clause-done g c = λ held old is st.
    (let same = same_session c.args.session c.loop.session c.turn.new.self c.loop.invariant.0
    c.turn.ensures.same in
    left_writes g.F.Reader.Read.remaining held old _ c.args.session c.turn.new.self _ same
    (targets_same c.args.session c.turn.new.self same c.requires.targets)
    (c.have_left.ensures.gone c.if-have_left.true)
    (c.have_left.ensures.whole c.if-have_left.true)
    (c.in-Ok.ensures.ok held old (c.loop.invariant.2 held old is st)))

pub returns-in-Done-clause-done : goal.returns-in-Done-clause-done
returns-in-Done-clause-done g c = λ held old is st.
    (let same = same_session c.args.session c.loop.session c.turn.new.self c.loop.invariant.0
    c.turn.ensures.same in
    let stopped = c.in-Ok.ensures.ok held old (c.loop.invariant.2 held old is st) in
    done_writes g.F.Reader.Read.remaining held old _ c.args.session c.turn.new.self same
    (targets_same c.args.session c.turn.new.self same c.requires.targets)
    (subst (StandsStopped g.F.Reader.Read.remaining held old _ c.turn.new.self) c.in-Done.is stopped))

pub refill-requires : goal.refill-requires
refill-requires g c =
    let (held, old, is, st) = c.requires.stands in
    let stopped = c.in-Ok.ensures.ok held old (c.loop.invariant.2 held old is st) in (
      held,
      old,
      _,
      held_later held (g.F.Files.file c.args.files.now) (g.F.Files.file c.loop.files)
          c.loop.invariant.1 is,
      (c.close_left.ensures.stands held old _ _ stopped).stands,
    )

pub lacking-requires : goal.lacking-requires
lacking-requires g c =
    targets_same c.args.session c.refill.new.self
    (same_session c.args.session c.close_left.new.self c.refill.new.self
    (same_session c.args.session c.turn.new.self c.close_left.new.self
    (same_session c.args.session c.loop.session c.turn.new.self c.loop.invariant.0 c.turn.ensures.same)
    c.close_left.ensures.same) c.refill.ensures.same)
    c.requires.targets

pub returns-in-Err-refill-clause-failed : goal.returns-in-Err-refill-clause-failed
returns-in-Err-refill-clause-failed g c = λ held old is st.
    (let stopped = c.in-Ok.ensures.ok held old (c.loop.invariant.2 held old is st) in
    lack_stops held old _ c.args.session c.refill.new.self c.lacking.result
    (same_session c.args.session c.close_left.new.self c.refill.new.self
    (same_session c.args.session c.turn.new.self c.close_left.new.self
    (same_session c.args.session c.loop.session c.turn.new.self c.loop.invariant.0 c.turn.ensures.same)
    c.close_left.ensures.same) c.refill.ensures.same)
    (c.lacking.ensures.stops held old _
    (c.in-Err-refill.ensures.err held old _ c.in-Hungry.source
    (held_later held (g.F.Files.file c.args.files.now) (g.F.Files.file c.loop.files)
    c.loop.invariant.1 is) (c.close_left.ensures.stands held old _ _
    (subst (StandsStopped g.F.Reader.Read.remaining held old _ c.turn.new.self) c.in-Hungry.is
    stopped)))))

pub loop-preserved : goal.loop-preserved
loop-preserved g c = elim c.match-stop.branch [
  | in-Hungry+in_default w ↦
      rw (w.files-is, w.session-is) (
        same_session c.args.session w.close_left.new.self w.refill.new.self
            (same_session c.args.session c.turn.new.self w.close_left.new.self
            (same_session c.args.session c.loop.session c.turn.new.self c.loop.invariant.0
            c.turn.ensures.same) w.close_left.ensures.same) w.refill.ensures.same,
        λ other. w.refill.ensures.files other ∙ c.loop.invariant.1 other,
        λ held old is st.
            (let stopped = c.in-Ok.ensures.ok held old (c.loop.invariant.2 held old is st) in
            (w.in_default.ensures.ok held old _
            (held_later held (g.F.Files.file c.args.files.now) (g.F.Files.file c.loop.files)
            c.loop.invariant.1 is) (w.close_left.ensures.stands held old _ _ stopped).stands).later),
      )
  | in-Full w ↦
      rw (w.files-is, w.session-is) (
        same_session c.args.session c.loop.session c.turn.new.self c.loop.invariant.0
            c.turn.ensures.same,
        c.loop.invariant.1,
        λ held old is st.
            (c.in-Ok.ensures.ok held old (c.loop.invariant.2 held old is st)).stands,
      )
]

pub kept_is_right-requires : goal.kept_is_right-requires
kept_is_right-requires g c =
    targets_same c.args.session c.turn.new.self
    (same_session c.args.session c.loop.session c.turn.new.self c.loop.invariant.0 c.turn.ensures.same)
    c.requires.targets

pub returns-in-Stalled-clause-failed : goal.returns-in-Stalled-clause-failed
returns-in-Stalled-clause-failed g c = λ held old is st. (
  c.stall_told-further.ensures,
  stall_stops g.F.Reader.Read.remaining held old _ c.args.session c.turn.new.self
      (same_session c.args.session c.loop.session c.turn.new.self c.loop.invariant.0
      c.turn.ensures.same)
      c.kept_is_right.ensures.right
      (subst (StandsStopped g.F.Reader.Read.remaining held old _ c.turn.new.self)
      c.in-Stalled.is
      (c.in-Ok.ensures.ok held old (c.loop.invariant.2 held old is st))),
)

pub returns-in-TooBig-clause-failed : goal.returns-in-TooBig-clause-failed
returns-in-TooBig-clause-failed g c = λ held old is st.
    let told = c.too_big.ensures ∙ ap (λ j. failure.TooBig j c.in-TooBig.place c.in-TooBig.phase)
    c.into_job.ensures in
    subst (StopOf held c.args.session.stream.job (task_for c.args.session.targets.items)
    (length c.args.session.targets.items) old _) (sym told)
    (too_big_stops g.F.Reader.Read.remaining held old
    (writers_at g.W.Write.contents g.F.Writer.Write.contents c.turn.new.output c.turn.new.made.items)
    c.args.session c.turn.new.self
    c.in-TooBig.place c.in-TooBig.phase
    (same_session c.args.session c.loop.session c.turn.new.self c.loop.invariant.0 c.turn.ensures.same)
    c.kept_is_right.ensures.right
    (subst (StandsStopped g.F.Reader.Read.remaining held old _ c.turn.new.self) c.in-TooBig.is
    (c.in-Ok.ensures.ok held old (c.loop.invariant.2 held old is st))))

pub returns-in-Err-refill-clause-same : goal.returns-in-Err-refill-clause-same
returns-in-Err-refill-clause-same g c = λ other.
    c.refill.ensures.files other ∙ c.loop.invariant.1 other

pub returns-in-TooBig-clause-place : goal.returns-in-TooBig-clause-place
returns-in-TooBig-clause-place g c =
    let (held, old, is, st) = c.requires.stands in
    let there = too_big_there g.F.Reader.Read.remaining held old _ c.turn.new.self c.in-TooBig.place
    c.in-TooBig.phase c.faults_are_there.ensures
    (subst (StandsStopped g.F.Reader.Read.remaining held old _ c.turn.new.self) c.in-TooBig.is
    (c.in-Ok.ensures.ok held old (c.loop.invariant.2 held old is st))) in
    subst HasPlace (sym c.too_big.ensures)
    (subst (λ (j : Job). IsPlace j.graph c.in-TooBig.place) (sym c.into_job.ensures) there)

-- So many rounds: more samples than a stream may have.
pub lacking-requires-2 : goal.lacking-requires-2
lacking-requires-2 g c = targets_same c.args.session c.loop.session c.loop.invariant.0 c.requires.targets

pub returns-clause-failed : goal.returns-clause-failed
returns-clause-failed g c = λ held old is st.
    lack_stops held old _ c.args.session c.loop.session c.lacking-2.result c.loop.invariant.0
    (c.lacking-2.ensures.stops held old _
    (lacks_none g.F.Reader.Read.remaining held old _ c.loop.session 0
    (c.loop.invariant.2 held old is st)))
