-- A turn tells, and keeps of blocked tasks, what its call did.
use Rattle.std.proofs.Common.{◌≡◌, ◌≤◌, Some, length, sym, ap, subst, ◌∙◌, arith}
use Rattle.graph_runs.specs.Moments.{Moment}
use Rattle.graph_runs.specs.Answers.{after_answer, turn_tells}
use Rattle.graph_runs.specs.Reached.{IsReachable}
use Rattle.graph_runs.specs.Nexts.{next_of}
use Rattle.stream_job.specs.Buffers.{HasPlaces, most_steps}
use Rattle.stream_job.specs.Tellings.{IsOnPhaser}
use Rattle.stream_job.specs.Turning.{HadTurn, IsRegistration, after_turn_of, told_of, parked_by}
use Rattle.stream_job.specs.Worlds.{WorldState, IsWorldAt}
use Rattle.stream_job.proofs.Tellings.{HadLine, had_line, turn_of_line, made_there, turn_tells_so, turn_parks_so, turn_stands_so, parked_many}
use Rattle.stream_job.proofs.Rooms.{sink_room}
use Rattle.stream_job.proofs.Setting.{err_of}
use Rattle.stream_job.proofs.world.World.turn.Goals.{In_ok-made}
use Rattle.stream_job.proofs.world.World.turn.Goals as goal
use Rattle.stream_job.specs.Stepping.{HasRoomNext, MayStep}
use Rattle.stream_job.proofs.Mosts.{line_may}
use Rattle.graph_base.specs.Graphs.{task_at}

-- the machine had a turn with the job's samples
had : (c : In_ok-made) → HadLine c.self.inside.job.now c.self.inside.machine c.make.new.self
    c.args.task c.in_ok-made.made
had c =
    had_line c.self.inside.job.now c.self.inside.machine c.make.new.self c.args.task
    c.in_ok-made.made c.self.invariant.4
    (subst (λ n. HadTurn n c.self.inside.job.now c.self.inside.machine c.make.new.self c.args.task
    c.in_ok-made.made) c.line_block-block.ensures
    (c.in_ok-made.ensures.made c.self.inside.job.now.samples c.awaits-awaits.ensures))

pub make-requires-clause-came : goal.make-requires-clause-came
make-requires-clause-came c =
    let job = c.self.inside.job.now in
    let m = c.self.invariant.0.0 in
    let at = c.self.invariant.0.1 in (
      job.samples,
      c.awaits-awaits.ensures,
      subst (λ n. HasRoomNext n job c.self.inside.machine c.args.task)
          (sym c.line_block-block.ensures) (
            m,
            at.machine,
            sink_room (task_at job.graph c.args.task).block job c.self.inside.machine m c.args.task
                at.lines at.own
                (subst (λ a. IsReachable job (after_answer job a m))
                (sym (turn_of_line job c.self.inside.machine m c.args.task c.self.invariant.4))
                (c.turns_stay_reached.ensures.turn job m c.args.task at.machine.graph at.machine.reached))
                at.machine,
          ),
    )

pub make-requires-clause-most : goal.make-requires-clause-most
make-requires-clause-most c =
    let job = c.self.inside.job.now in
    let at = c.self.invariant.0.1 in
    subst (λ n. MayStep job c.self.inside.machine c.args.task n
    × (n ≤ most_steps job c.args.task)) (sym c.line_block-block.ensures) (
      line_may job c.self.inside.machine c.self.invariant.0.0 c.args.task at.machine,
      omega arith,
    )

pub make-requires-clause-step : goal.make-requires-clause-step
make-requires-clause-step c = λ s m may at. c.next.ensures s m at (may.awaits m at)

pub note-requires : goal.note-requires
note-requires c =
    let m = c.self.invariant.0.0 in
    let at = c.self.invariant.0.1.machine in
    let had = had (goal.at.note-requires c).In_ok-made in
    subst (IsOnPhaser c.in_ok-made.made c.args.task) (sym c.self.invariant.1)
    (made_there c.self.inside.job.now m c.args.task c.in_ok-made.made at.graph at.reached
    (had.shows m at))

pub invariant_of-self-2 : goal.invariant_of-self-2
invariant_of-self-2 c =
    let job = c.self.inside.job.now in
    let m = c.self.invariant.0.0 in
    let at = c.self.invariant.0.1 in
    let here = (goal.at.invariant_of-self-2 c).In_ok-made in
    let world : WorldState = record {
      job = job;
      machine = c.self.inside.machine;
      met = c.self.inside.met;
      parked = c.self.inside.parked;
    } in (
      (
        after_turn_of world m c.args.task,
        turn_stands_so world c.make.new.self c.note.new.self c.too_big-self-inside.result m
            c.args.task c.in_ok-made.made c.told-told.result c.in_default.is (had here)
            c.note.ensures c.told-told.ensures c.too_big-self-inside.ensures at,
      ),
      ap length c.note.ensures
          ∙ parked_many c.in_ok-made.made c.args.task c.self.inside.parked
          ∙ c.self.invariant.1,
      c.pass.ensures,
      subst (HasPlaces job) (sym c.make.ensures.places) c.self.invariant.3,
      (had here).sizes,
    )

pub returns-clause-table : goal.returns-clause-table
returns-clause-table c =
    let P : WorldState → Type 0 = λ w. (m : Moment) → IsWorldAt w m
    → turn_tells w.job w.met m c.args.task ≡ Some (told_of c.told-told.result) in
    subst P c.self.view_is (λ m at.
    turn_tells_so c.self.inside.job.now c.self.inside.met m c.args.task c.in_ok-made.made
    c.told-told.result c.in_default.is ((had (goal.at.returns-clause-table c).In_ok-made).shows m at.machine) c.told-told.ensures)

pub returns-clause-parked : goal.returns-clause-parked
returns-clause-parked c =
    let P : WorldState → Type 0 = λ w. (m : Moment) → IsWorldAt w m
    → c.note.new.self ≡ parked_by w m c.args.task in
    subst P c.self.view_is (λ m at.
    turn_parks_so record {
      job = c.self.inside.job.now;
      machine = c.self.inside.machine;
      met = c.self.inside.met;
      parked = c.self.inside.parked;
    } m c.args.task c.in_ok-made.made c.note.new.self c.in_default.is
    ((had (goal.at.returns-clause-parked c).In_ok-made).shows m at.machine) c.note.ensures)

pub returns-clause-after : goal.returns-clause-after
returns-clause-after c =
    let P : WorldState → Type 0 = λ w. (m : Moment) → IsWorldAt w m
    → IsWorldAt record {
      job = c.self.inside.job.now;
      machine = c.make.new.self;
      met = c.too_big-self-inside.result;
      parked = c.note.new.self;
    } (after_turn_of w m c.args.task) in
    subst P c.self.view_is (λ m at.
    turn_stands_so record {
      job = c.self.inside.job.now;
      machine = c.self.inside.machine;
      met = c.self.inside.met;
      parked = c.self.inside.parked;
    } c.make.new.self c.note.new.self c.too_big-self-inside.result m c.args.task c.in_ok-made.made
    c.told-told.result c.in_default.is (had (goal.at.returns-clause-after c).In_ok-made) c.note.ensures c.told-told.ensures
    c.too_big-self-inside.ensures at)

-- What is next at one moment registers a child.
pub returns-in_err-made-clause-memory : goal.returns-in_err-made-clause-memory
returns-in_err-made-clause-memory c =
    let P : WorldState → Type 0 = λ w. (m : Moment) → IsWorldAt w m
    → IsRegistration (next_of w.job m c.args.task) in
    err_of c.from_residual.result (subst P c.self.view_is (λ m at.
    c.in_err-made.ensures.memory c.self.inside.job.now.samples m c.awaits-awaits.ensures at.machine))
