-- The registration is an event of out alone; the splitter and the joiner are not the source.
use Rattle.std.proofs.Common.{◌≡◌, ℕ, [], ◌∷◌, refl, arith, subst}
use Rattle.phase_base.specs.declared.mode.Mode.TheVariants.{Wait}
use Rattle.phase_history.specs.declared.event.Event.TheVariants.{Registered}
use Rattle.phase_history.specs.Others.{events_of}
use Rattle.graph_runs.proofs.Registering.{others_register}
use Rattle.worked_runs.specs.Worked.{worked, after_peer, before_late, with_late, late_registers, lane_turns, by_out}
use Rattle.worked_runs.proofs.Histories.{turn_begins, turns_begin, grown, only_one}
use Rattle.worked_runs.proofs.WorkedRun.{worked-is}
use Rattle.worked_runs.proofs.worked_events.events_of_others.Goals as goal

pub returns-clause-part : goal.returns-clause-part
returns-clause-part c =
    c.others_leave.ensures.part 1 (before_late.history 5) (with_late.history 5) (record {
      later = Registered 2 3 Wait ∷ [];
      is = refl;
      others = λ task e.
          (let None : ℕ → Type 0 = λ x. events_of x (Registered 2 3 Wait ∷ []) ≡ [] in
          subst None (only_one 1 task e) refl);
    })

pub returns-clause-task : goal.returns-clause-task
returns-clause-task c =
    let was = c.a_run_from_its_opening_to_its_end.ensures.before_late in
    let ran = c.a_run_from_its_opening_to_its_end.ensures.with_late in
    c.others_leave.ensures.task worked before_late with_late 3 worked-is (omega arith)
    (grown worked before_late with_late 3 worked-is (omega arith) was ran
    (turn_begins worked late_registers before_late))
    (others_register worked before_late with_late 4 5 2 5 3 Wait by_out
    c.events_as_moves.ensures.child 3 (λ same. absurd (omega arith)))
    (was.tasks 3 (omega arith))

pub returns-clause-ended : goal.returns-clause-ended
returns-clause-ended c =
    let was = c.a_run_from_its_opening_to_its_end.ensures.after_peer in
    let ran = c.a_run_from_its_opening_to_its_end.ensures.before_late in
    c.others_leave.ensures.ended worked after_peer before_late 0 worked-is (omega arith)
    (grown worked after_peer before_late 0 worked-is (omega arith) was ran
    (turns_begin worked lane_turns after_peer))
    (record { offset = refl; begun = refl; taken = λ k. refl; put = λ j. refl })
    (((was.tasks 0 (omega arith)).outputs 0 (omega arith)).left refl)
