-- A turn more, and what stops it.
use Rattle.std.proofs.Common.{◌∙◌, Err, true, refl, sym, ap, subst}
use Rattle.graph_commands.specs.Failures.{HasPlace}
use Rattle.graph_commands.specs.declared.failure.Failure.TheVariants as failure
use Rattle.watched_io.specs.States.{writer_state}
use Rattle.graph_base.specs.Graphs.{IsPlace}
use Rattle.stream_lists.specs.Jobs.{Job}
use Rattle.phase_stream.specs.Sessions.{StandsStopped}
use Rattle.phase_stream.specs.TableLines.{goes_on}
use Rattle.phase_stream.specs.Tables.{StopsAtTable, unknown}
use Rattle.phase_stream.proofs.Refilling.{lacks_none}
use Rattle.phase_stream.proofs.Standing.{same_session}
use Rattle.phase_stream.proofs.Stopping.{held_later, lack_stops, stall_stops, too_big_stops, too_big_there}
use Rattle.phase_stream.proofs.TableStops.{closed_table, going_on, io_table, no_targets, none_right, part_first, refilled_table, stopped_as, stops_first, whole_first, written_as}
use Rattle.phase_stream.proofs.TurnedTables.{part_now, whole_of_table}
use Rattle.phase_stream.proofs.streamed_table.go.Goals as goal
use Rattle.phase_stream.proofs.streamed_table.go.Goals.{in-Full, in-Hungry+in_default}

pub loop-init : goal.loop-init
loop-init g c = (
  record { job = refl; targets = refl },
  λ other. refl,
  λ held old is st. st,
)

pub turn-requires : goal.turn-requires
turn-requires g c =
    let (held, old, is, st) = c.requires.stands in
    (c.loop.invariant.2 held old is st).shows.tasks

pub returns-in-Err-clause-failed : goal.returns-in-Err-clause-failed
returns-in-Err-clause-failed g c = λ held old is st.
    io_table held c.args.session.stream.job old
    (writer_state g.W.Write.contents c.turn.new.output) c.in-Err.fault
    (part_first held c.args.session.stream.job c.loop.session.stream.job old _
    c.loop.invariant.0.job (c.in-Err.ensures.err held old (c.loop.invariant.2 held old is st)))
    (λ e. c.turn.ensures.failed (c.in-Err.is ∙ ap Err e))

pub returns-then-have_left-clause-done : goal.returns-then-have_left-clause-done
returns-then-have_left-clause-done g c = λ held old is st.
    (let same = same_session c.args.session c.loop.session c.turn.new.session c.loop.invariant.0
    c.turn.ensures.same in
    let stopped = c.in-Ok.ensures.ok held old (c.loop.invariant.2 held old is st) in
    whole_first held c.args.session.stream.job c.turn.new.session.stream.job old _ same.job
    (whole_of_table g.F.Reader.Read.remaining held old _ c.turn.new.session c.turn.new.table
    (goes_on c.in-Ok.stop) stopped.table_stands (sym c.have_left.ensures ∙ c.if-have_left.true)
    stopped.no_line))

pub returns-in-Done-clause-done : goal.returns-in-Done-clause-done
returns-in-Done-clause-done g c = λ held old is st.
    (let same = same_session c.args.session c.loop.session c.turn.new.session c.loop.invariant.0
    c.turn.ensures.same in
    let stopped = c.in-Ok.ensures.ok held old (c.loop.invariant.2 held old is st) in
    whole_first held c.args.session.stream.job c.turn.new.session.stream.job old _ same.job
    (whole_of_table g.F.Reader.Read.remaining held old _ c.turn.new.session c.turn.new.table
    (goes_on c.in-Ok.stop) stopped.table_stands (stopped.done (ap goes_on c.in-Done.is))
    stopped.no_line))

pub refill-requires : goal.refill-requires
refill-requires g c =
    let (held, old, is, st) = c.requires.stands in
    let stopped = c.in-Ok.ensures.ok held old (c.loop.invariant.2 held old is st) in
    let closed = closed_table g.F.Reader.Read.remaining held old _ c.turn.new.session
    c.close_left.new.self c.turn.new.table (goes_on c.in-Ok.stop) c.close_left.ensures.stream
    c.close_left.ensures.sources stopped.table_stands in (
      held,
      unknown,
      unknown,
      held_later held (g.F.Files.file c.args.files.now) (g.F.Files.file c.loop.files)
          c.loop.invariant.1 is,
      closed.stands,
    )

pub lacking-requires : goal.lacking-requires
lacking-requires g c =
    let same = same_session c.args.session c.close_left.new.self c.refill.new.self
    (same_session c.args.session c.turn.new.session c.close_left.new.self
    (same_session c.args.session c.loop.session c.turn.new.session c.loop.invariant.0
    c.turn.ensures.same) c.close_left.ensures.same) c.refill.ensures.same in
    no_targets c.refill.new.self.stream.job c.refill.new.self.targets.items
    (same.targets ∙ c.requires.targets)

pub returns-in-Err-refill-clause-failed : goal.returns-in-Err-refill-clause-failed
returns-in-Err-refill-clause-failed g c = λ held old is st.
    (let new = writer_state g.W.Write.contents c.turn.new.output in
    let stopped = c.in-Ok.ensures.ok held old (c.loop.invariant.2 held old is st) in
    let turned = same_session c.args.session c.loop.session c.turn.new.session c.loop.invariant.0
    c.turn.ensures.same in
    let same = same_session c.args.session c.close_left.new.self c.refill.new.self
    (same_session c.args.session c.turn.new.session c.close_left.new.self turned
    c.close_left.ensures.same) c.refill.ensures.same in
    let stands = stopped_as g.F.Reader.Read.remaining held old _ (λ k. new.written)
    c.turn.new.session c.turn.new.table c.in-Ok.stop (turned.targets ∙ c.requires.targets) stopped in
    stops_first held c.args.session.stream.job c.args.session.targets.items old new c.lacking.result
    c.requires.targets
    (part_first held c.args.session.stream.job c.turn.new.session.stream.job old new.written
    turned.job (part_now g.F.Reader.Read.remaining held old new.written c.turn.new.session
    c.turn.new.table (goes_on c.in-Ok.stop) stopped.table_stands))
    (lack_stops held unknown (λ k. new) c.args.session c.refill.new.self c.lacking.result same
    (c.lacking.ensures.stops held unknown (λ k. new)
    (c.in-Err-refill.ensures.err held unknown (λ k. new.written) c.in-Hungry.source
    (held_later held (g.F.Files.file c.args.files.now) (g.F.Files.file c.loop.files)
    c.loop.invariant.1 is)
    (c.close_left.ensures.stands held unknown (λ k. new.written) _
    (subst (StandsStopped g.F.Reader.Read.remaining held unknown (λ k. new.written)
    c.turn.new.session) c.in-Hungry.is stands))))))

pub loop-preserved : goal.loop-preserved
loop-preserved g c = elim c.match-stop.branch [
  | in-Hungry+in_default w ↦
      rw (w.files-is, w.session-is) (
        same_session c.args.session w.close_left.new.self w.refill.new.self
            (same_session c.args.session c.turn.new.session w.close_left.new.self
            (same_session c.args.session c.loop.session c.turn.new.session c.loop.invariant.0
            c.turn.ensures.same) w.close_left.ensures.same) w.refill.ensures.same,
        λ other. w.refill.ensures.files other ∙ c.loop.invariant.1 other,
        λ held old is st.
            (let stopped = c.in-Ok.ensures.ok held old (c.loop.invariant.2 held old is st) in
            let goes = going_on g.F.Reader.Read.remaining held old _ c.turn.new.session
            c.turn.new.table c.in-Ok.stop stopped
            (sym c.have_left.ensures ∙ c.if-have_left.false) in
            let closed = closed_table g.F.Reader.Read.remaining held old _ c.turn.new.session
            w.close_left.new.self c.turn.new.table true w.close_left.ensures.stream
            w.close_left.ensures.sources goes in
            refilled_table g.F.Reader.Read.remaining held old _ w.close_left.new.self
            w.refill.new.self c.turn.new.table closed w.refill.ensures.same.job
            (w.in_default.ensures.ok held unknown unknown
            (held_later held (g.F.Files.file c.args.files.now) (g.F.Files.file c.loop.files)
            c.loop.invariant.1 is) closed.stands)),
      )
  | in-Full w ↦
      rw (w.files-is, w.session-is) (
        same_session c.args.session c.loop.session c.turn.new.session c.loop.invariant.0
            c.turn.ensures.same,
        c.loop.invariant.1,
        λ held old is st.
            going_on g.F.Reader.Read.remaining held old _ c.turn.new.session c.turn.new.table
            c.in-Ok.stop (c.in-Ok.ensures.ok held old (c.loop.invariant.2 held old is st))
            (sym c.have_left.ensures ∙ c.if-have_left.false),
      )
]

pub returns-in-Stalled-clause-failed : goal.returns-in-Stalled-clause-failed
returns-in-Stalled-clause-failed g c = λ held old is st.
    (let new = writer_state g.W.Write.contents c.turn.new.output in
    let stopped = c.in-Ok.ensures.ok held old (c.loop.invariant.2 held old is st) in
    let turned = same_session c.args.session c.loop.session c.turn.new.session c.loop.invariant.0
    c.turn.ensures.same in
    let none = turned.targets ∙ c.requires.targets in
    let stands = stopped_as g.F.Reader.Read.remaining held old _ (λ k. new.written)
    c.turn.new.session c.turn.new.table c.in-Ok.stop none stopped in
    stops_first held c.args.session.stream.job c.args.session.targets.items old new
    (failure.Stalled c.stall_told-further.result) c.requires.targets
    (part_first held c.args.session.stream.job c.turn.new.session.stream.job old new.written
    turned.job (part_now g.F.Reader.Read.remaining held old new.written c.turn.new.session
    c.turn.new.table (goes_on c.in-Ok.stop) stopped.table_stands)) (
      c.stall_told-further.ensures,
      stall_stops g.F.Reader.Read.remaining held unknown (λ k. new.written) c.args.session
          c.turn.new.session turned
          (none_right c.turn.new.session.stream c.turn.new.session.targets.items none)
          (subst (StandsStopped g.F.Reader.Read.remaining held unknown (λ k. new.written)
          c.turn.new.session) c.in-Stalled.is stands),
    ))

pub returns-in-TooBig-clause-failed : goal.returns-in-TooBig-clause-failed
returns-in-TooBig-clause-failed g c = λ held old is st.
    (let new = writer_state g.W.Write.contents c.turn.new.output in
    let told = c.too_big.ensures ∙ ap (λ j. failure.TooBig j c.in-TooBig.place c.in-TooBig.phase)
    c.into_job.ensures in
    let stopped = c.in-Ok.ensures.ok held old (c.loop.invariant.2 held old is st) in
    let turned = same_session c.args.session c.loop.session c.turn.new.session c.loop.invariant.0
    c.turn.ensures.same in
    let none = turned.targets ∙ c.requires.targets in
    let stands = stopped_as g.F.Reader.Read.remaining held old _ (λ k. new.written)
    c.turn.new.session c.turn.new.table c.in-Ok.stop none stopped in
    subst (StopsAtTable held c.args.session.stream.job old new) (sym told)
    (stops_first held c.args.session.stream.job c.args.session.targets.items old new _
    c.requires.targets
    (part_first held c.args.session.stream.job c.turn.new.session.stream.job old new.written
    turned.job (part_now g.F.Reader.Read.remaining held old new.written c.turn.new.session
    c.turn.new.table (goes_on c.in-Ok.stop) stopped.table_stands))
    (too_big_stops g.F.Reader.Read.remaining held unknown (λ k. new) c.args.session
    c.turn.new.session c.in-TooBig.place c.in-TooBig.phase turned
    (none_right c.turn.new.session.stream c.turn.new.session.targets.items none)
    (subst (StandsStopped g.F.Reader.Read.remaining held unknown (λ k. new.written)
    c.turn.new.session) c.in-TooBig.is stands))))

pub returns-in-Err-refill-clause-same : goal.returns-in-Err-refill-clause-same
returns-in-Err-refill-clause-same g c = λ other.
    c.tell_awaited.ensures other ∙ c.refill.ensures.files other ∙ c.loop.invariant.1 other

pub returns-in-TooBig-clause-place : goal.returns-in-TooBig-clause-place
returns-in-TooBig-clause-place g c =
    let (held, old, is, st) = c.requires.stands in
    let stopped = c.in-Ok.ensures.ok held old (c.loop.invariant.2 held old is st) in
    let turned = same_session c.args.session c.loop.session c.turn.new.session c.loop.invariant.0
    c.turn.ensures.same in
    let stands = stopped_as g.F.Reader.Read.remaining held old _ unknown
    c.turn.new.session c.turn.new.table c.in-Ok.stop (turned.targets ∙ c.requires.targets) stopped in
    let there = too_big_there g.F.Reader.Read.remaining held unknown unknown c.turn.new.session
    c.in-TooBig.place c.in-TooBig.phase c.faults_are_there.ensures
    (subst (StandsStopped g.F.Reader.Read.remaining held unknown unknown c.turn.new.session)
    c.in-TooBig.is stands) in
    subst HasPlace (sym c.too_big.ensures)
    (subst (λ (j : Job). IsPlace j.graph c.in-TooBig.place) (sym c.into_job.ensures) there)

-- So many rounds: more samples than a stream may have.
pub lacking-requires-2 : goal.lacking-requires-2
lacking-requires-2 g c =
    no_targets c.loop.session.stream.job c.loop.session.targets.items
    (c.loop.invariant.0.targets ∙ c.requires.targets)

pub returns-clause-failed : goal.returns-clause-failed
returns-clause-failed g c = λ held old is st.
    (let new = writer_state g.W.Write.contents c.loop.output in
    let stands = c.loop.invariant.2 held old is st in
    stops_first held c.args.session.stream.job c.args.session.targets.items old new
    c.lacking-2.result c.requires.targets
    (part_first held c.args.session.stream.job c.loop.session.stream.job old new.written
    c.loop.invariant.0.job (part_now g.F.Reader.Read.remaining held old new.written c.loop.session
    c.loop.table true stands))
    (lack_stops held unknown (λ k. new) c.args.session c.loop.session c.lacking-2.result
    c.loop.invariant.0
    (c.lacking-2.ensures.stops held unknown (λ k. new)
    (lacks_none g.F.Reader.Read.remaining held unknown (λ k. new.written) c.loop.session 0
    (written_as g.F.Reader.Read.remaining held (λ k. new.written) c.loop.session stands.stands)))))
