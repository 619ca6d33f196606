-- What a turn of a task does to a machine and to the lists of blocked tasks.
use Rattle.std.specs.Prelude.{◌≡◌, ℕ, ℤ, List, [], Option, Some, None, set, get_or}
use Rattle.std.specs.List.{All}
use Rattle.graph_base.specs.declared.place.Place.TheVariants as place
use Rattle.stream_lists.specs.Jobs.{Job}
use Rattle.stream_lists.specs.Ranges.{Where}
use Rattle.graph_runs.specs.Moments.{Moment, HasAnsweredNone}
use Rattle.graph_runs.specs.TaskEvents as events
use Rattle.graph_runs.specs.TaskEvents.{TaskEvent}
use Rattle.graph_runs.specs.Nexts as turns
use Rattle.graph_runs.specs.Answers as answers
use Rattle.graph_runs.specs.Answers.{Answer, Told, answer_of_turn, turn_up_to, after_answer}
use Rattle.stream_job.specs.Blocking.{called_on}
use Rattle.stream_job.specs.Parking.{with_task}
use Rattle.stream_job.specs.Machines.{IsMachineAt, KeepsLines, HasRoom, most_in}
use Rattle.stream_job.specs.Worlds.{WorldState}
use Rattle.stream_job.specs.declared.machine.Machine.{Machine}
use Rattle.stream_job.specs.declared.made.Made.{Made}
use Rattle.stream_job.specs.declared.made.Made.TheVariants as made
use Rattle.stream_job.specs.declared.turned.Turned.{Turned}
use Rattle.stream_job.specs.declared.turned.Turned.TheVariants as turned

-- what a turn tells, by the definitions
abbrev pub told_of : Turned → Told
told_of turned.Moved = answers.Moved
told_of turned.Blocked = answers.Blocked
told_of turned.Ended = answers.Ended
told_of turned.Gone = answers.Gone
told_of (turned.TooBig at phase) = answers.TooBig (at, phase)

-- the phaser of an event
abbrev pub phaser_of : TaskEvent → ℕ
phaser_of (events.sample t j p n vs) = p
phaser_of (events.signal t j p n vs) = p
phaser_of (events.first_wait t k p n outcomes) = p
phaser_of (events.exchange_wait t p n outcome) = p
phaser_of (events.leave t p n) = p
phaser_of (events.child t p n c a mode) = p
phaser_of (events.child_now t p n c a) = p

-- the lists of blocked tasks after an answer: a task that was blocked stands in the list of the
-- phaser of its call, and an event on a phaser empties that one's list
abbrev pub parked_after : Job → ℕ → turns.Next → Answer → List (List ℕ) → List (List ℕ)
parked_after job t next (answers.makes event) parked = set parked (phaser_of event) []
parked_after job t next answers.is_blocked parked =
    let p = called_on job t next in set parked p (with_task t (get_or parked p []))
parked_after job t next answer parked = parked

-- ---- a machine

-- what a task does next registers a child
abbrev pub IsRegistration : turns.Next → Type 0
IsRegistration next = (c : ℕ) × (next ≡ turns.registers c)

-- the code tells of this answer so
abbrev pub MadeShows : Job → Moment → ℕ → Answer → Made → Type 0
MadeShows job m t (answers.makes event) (made.Event phaser told) =
    (phaser_of event ≡ phaser) × (answers.told_event job m event ≡ told_of told)
MadeShows job m t answers.is_blocked (made.Blocked phaser) =
    called_on job t (turns.next_of job m t) ≡ phaser
MadeShows job m t (answers.has_made at) (made.OutOfRange step) = at ≡ (place.Task t, step)
MadeShows job m t answers.is_gone made.Nothing = Unit {0}
MadeShows job m t answer it = ⊥

-- what a turn of task t makes of at most so many steps, or of as much of what it owes as one event
-- of it signals
abbrev pub turn_in : ℕ → Job → Machine → Moment → ℕ → Answer
turn_in steps job machine m t = turn_up_to steps (most_in machine t) job m t

-- the machine had a turn of task t of at most so many steps, or of so many of the values that it
-- owes, of which the code tells so: at each moment that the machine stood for it tells the answer
-- of the table, and the machine stands for the moment after, where no wait was answered a value too
-- big before. The lines have kept what the sinks received, and have the room that they had, and
-- each task signals as much in one event
pub record HadTurnBy (steps most : ℕ) (job : Job) (old new : Machine) (t : ℕ) (it : Made) : Type 0
  where
    pub shows : (m : Moment) → IsMachineAt job m old
        → MadeShows job m t (turn_up_to steps most job m t) it
    pub after : (m : Moment) → IsMachineAt job m old → HasAnsweredNone job m
        → IsMachineAt job (after_answer job (turn_up_to steps most job m t) m) new
    pub lines : (given : ℕ → List ℤ) (m : Moment) → IsMachineAt job m old
        → HasAnsweredNone job m → KeepsLines job given m old.lines.items
        → KeepsLines job given (after_answer job (turn_up_to steps most job m t) m) new.lines.items
    pub own : (room : ℕ → ℕ) → All (HasRoom room) old.lines.items
        → All (HasRoom room) new.lines.items
    pub mosts : (u : ℕ) → most_in new u ≡ most_in old u

-- of as much as one event of the task signals
abbrev pub HadTurn : ℕ → Job → Machine → Machine → ℕ → Made → Type 0
HadTurn steps job old new t it = HadTurnBy steps (most_in old t) job old new t it

-- ---- a world

-- where a value was out of range, after a turn that told this
abbrev pub met_by : Option Where → Turned → Option Where
met_by (Some at) told = Some at
met_by None (turned.TooBig at phase) = Some (at, phase)
met_by None told = None

-- the moment after a turn of task t. Once a value was out of range, nothing more is done
abbrev pub after_turn_of : WorldState → Moment → ℕ → Moment
after_turn_of world m t = of world.met
  where
    of : Option Where → Moment
    of None = after_answer world.job (answer_of_turn world.job m t) m
    of (Some at) = m

-- the lists of blocked tasks after it
abbrev pub parked_by : WorldState → Moment → ℕ → List (List ℕ)
parked_by world m t = of world.met
  where
    of : Option Where → List (List ℕ)
    of None =
        parked_after world.job t (turns.next_of world.job m t) (answer_of_turn world.job m t)
        world.parked
    of (Some at) = world.parked
