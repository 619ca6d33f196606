-- A worked run: a source, a peer alone on its exchange, a splitter, a joiner, a sink with `until`,
-- and its child, from the opening to the end.
use Rattle.std.specs.Prelude.{ℕ, List, [], ◌∷◌, ◌++◌, take, Option, Some, None, pos, codes}
use Rattle.phase_base.specs.declared.mode.Mode.TheVariants.{Sig, Wait, SigWait}
use Rattle.phase_accum.specs.declared.outcome.Outcome.TheVariants.{Value}
use Rattle.phase_history.specs.declared.event.Event.TheVariants.{Made, Registered, Dropped}
use Rattle.phase_history.specs.Histories.{History}
use Rattle.phase_base.specs.declared.operation.Op.TheVariants.{Sum}
use Rattle.graph_base.specs.declared.line.Kind.TheVariants.{Source, Split, Join, Peer}
use Rattle.graph_base.specs.declared.line.Parent.{Parent}
use Rattle.graph_base.specs.declared.line.PhaserLine.{PhaserLine}
use Rattle.graph_base.specs.declared.place.Place.TheVariants as place
use Rattle.graph_base.specs.Graphs.{Graph, no_task}
use Rattle.stream_lists.specs.Jobs.{Job}
use Rattle.graph_runs.specs.Moments.{Moment}
use Rattle.worked_runs.specs.Runs.{TaskEvent, sample, signal, first_wait, exchange_wait, leave, child, opened, after_turn, after_all}

-- phaser NAME sum 4
abbrev pub bus : PhaserLine
bus = record { op = Sum; bound = 4; single = None }

-- phaser X sum 4 / phaser E sum 4 / phaser Y sum 4 / phaser A sum 4 / phaser B sum 4 / phaser Z sum
-- 4 source s s.csv -> X / peer p X E -> Y mul 3 / split d Y -> A B / join j A B -> Z sink out Z
-- until 1 / sink late Z by out at 1
abbrev pub worked_graph : Graph
worked_graph = record {
  names = (codes "X", place.Phaser 0) ∷ (codes "E", place.Phaser 1) ∷ (codes "Y", place.Phaser 2)
      ∷ (codes "A", place.Phaser 3) ∷ (codes "B", place.Phaser 4) ∷ (codes "Z", place.Phaser 5)
      ∷ (codes "s", place.Task 0) ∷ (codes "p", place.Task 1) ∷ (codes "d", place.Task 2)
      ∷ (codes "j", place.Task 3) ∷ (codes "out", place.Task 4) ∷ (codes "late", place.Task 5) ∷ [];
  phasers = bus ∷ bus ∷ bus ∷ bus ∷ bus ∷ bus ∷ [];
  tasks = record no_task { line = 7; kind = Source; outputs = 0 ∷ [] }
      ∷ record no_task { line = 8; kind = Peer; inputs = 0 ∷ 1 ∷ []; outputs = 2 ∷ []; mul = pos 3 }
      ∷ record no_task { line = 9; kind = Split; inputs = 2 ∷ []; outputs = 3 ∷ 4 ∷ [] }
      ∷ record no_task { line = 10; kind = Join; inputs = 3 ∷ 4 ∷ []; outputs = 5 ∷ [] }
      ∷ record no_task { line = 11; inputs = 5 ∷ []; until = Some 1 }
      ∷ record no_task { line = 12; inputs = 5 ∷ []; parent = Some (record { task = 4; at = 1 }) }
      ∷ [];
  files = codes "s.csv" ∷ [];
}

-- the source has the samples 5 and 7
abbrev pub worked : Job
worked = record { graph = worked_graph; samples = (pos 5 ∷ pos 7 ∷ []) ∷ []; starts = [] }

-- the founder has registered a task that signals as 1 and a task that waits as 2, and has left
abbrev pub founded : History
founded = Dropped 0 ∷ Registered 0 2 Wait ∷ Registered 0 1 Sig ∷ Made 0 ∷ []

-- on E the peer does both
abbrev pub founded_exchange : History
founded_exchange = Dropped 0 ∷ Registered 0 1 SigWait ∷ Made 0 ∷ []

-- of X, E, Y, A, B and Z
abbrev pub worked_histories : List History
worked_histories =
    founded ∷ founded_exchange ∷ founded ∷ founded ∷ founded ∷ founded ∷ []

-- the numbers on them of s, p, d, j, out and late
abbrev pub worked_numbers : List (List (Option ℕ))
worked_numbers =
    (Some 1 ∷ Some 2 ∷ None ∷ None ∷ None ∷ None ∷ [])
    ∷ (None ∷ Some 1 ∷ None ∷ None ∷ None ∷ None ∷ [])
    ∷ (None ∷ Some 1 ∷ Some 2 ∷ None ∷ None ∷ None ∷ [])
    ∷ (None ∷ None ∷ Some 1 ∷ Some 2 ∷ None ∷ None ∷ [])
    ∷ (None ∷ None ∷ Some 1 ∷ Some 2 ∷ None ∷ None ∷ [])
    ∷ (None ∷ None ∷ None ∷ Some 1 ∷ Some 2 ∷ None ∷ [])
    ∷ []

-- late begins one step after out
abbrev pub worked_offsets : List ℕ
worked_offsets = 0 ∷ 0 ∷ 0 ∷ 0 ∷ 0 ∷ 1 ∷ []

-- its opening
abbrev pub worked_opening : Moment
worked_opening = opened worked_histories worked_numbers worked_offsets

-- the source's samples go through the peer, which puts 3 * 5 - 5 and 3 * 7 - 7 on Y
abbrev pub peer_turns : List TaskEvent
peer_turns =
    sample 0 0 0 1 (pos 5 ∷ [])
    ∷ first_wait 1 0 0 2 (Value (pos 5) ∷ [])
    ∷ signal 1 0 1 1 (pos 5 ∷ [])
    ∷ exchange_wait 1 1 1 (Value (pos 5))
    ∷ signal 1 1 2 1 (pos 10 ∷ [])
    ∷ sample 0 0 0 1 (pos 7 ∷ [])
    ∷ first_wait 1 0 0 2 (Value (pos 7) ∷ [])
    ∷ signal 1 0 1 1 (pos 7 ∷ [])
    ∷ leave 0 0 1
    ∷ exchange_wait 1 1 1 (Value (pos 7))
    ∷ signal 1 1 2 1 (pos 14 ∷ [])
    ∷ []

-- the splitter puts 10 on A, and the joiner puts it on Z, where out takes it; the splitter puts 14
-- on B
abbrev pub lane_turns : List TaskEvent
lane_turns =
    first_wait 2 0 2 2 (Value (pos 10) ∷ [])
    ∷ signal 2 0 3 1 (pos 10 ∷ [])
    ∷ first_wait 3 0 3 2 (Value (pos 10) ∷ [])
    ∷ first_wait 2 0 2 2 (Value (pos 14) ∷ [])
    ∷ signal 3 0 5 1 (pos 10 ∷ [])
    ∷ first_wait 4 0 5 2 (Value (pos 10) ∷ [])
    ∷ signal 2 1 4 1 (pos 14 ∷ [])
    ∷ []

-- out registers late on Z
abbrev pub late_registers : TaskEvent
late_registers = child 4 5 2 5 3 Wait

-- out leaves, the joiner puts 14 on Z, and late takes it
abbrev pub late_turns : List TaskEvent
late_turns =
    leave 4 5 2
    ∷ first_wait 3 1 4 2 (Value (pos 14) ∷ [])
    ∷ signal 3 0 5 1 (pos 14 ∷ [])
    ∷ first_wait 5 0 5 3 (Value (pos 14) ∷ [])
    ∷ []

-- the peer, the splitter and the joiner leave, each when its input has ended
abbrev pub last_turns : List TaskEvent
last_turns =
    leave 1 0 2 ∷ leave 1 1 1 ∷ leave 1 2 1
    ∷ leave 2 2 2 ∷ leave 2 3 1 ∷ leave 2 4 1
    ∷ leave 3 3 2 ∷ leave 3 4 2 ∷ leave 3 5 1
    ∷ []

-- and so does late
abbrev pub late_leaves : TaskEvent
late_leaves = leave 5 5 3

-- all events of the run
abbrev pub worked_turns : List TaskEvent
worked_turns =
    peer_turns ++ lane_turns ++ late_registers ∷ late_turns ++ last_turns ++ late_leaves ∷ []

-- whose turns they are
abbrev pub worked_order : List ℕ
worked_order =
    0 ∷ 1 ∷ 1 ∷ 1 ∷ 1 ∷ 0 ∷ 1 ∷ 1 ∷ 0 ∷ 1 ∷ 1 ∷ 2 ∷ 2 ∷ 3 ∷ 2 ∷ 3 ∷ 4 ∷ 2 ∷ 4 ∷ 4 ∷ 3 ∷ 3 ∷ 5 ∷ 1
    ∷ 1 ∷ 1 ∷ 2 ∷ 2 ∷ 2 ∷ 3 ∷ 3 ∷ 3 ∷ 5 ∷ []

-- the peer has put its last value, 14, on Y
abbrev pub after_peer : Moment
after_peer = after_all worked worked_opening peer_turns

-- out has taken 10, and late is not registered yet
abbrev pub before_late : Moment
before_late = after_all worked after_peer lane_turns

-- late is registered on Z
abbrev pub with_late : Moment
with_late = after_turn worked late_registers before_late

-- late alone has still to leave
abbrev pub before_end : Moment
before_end = after_all worked with_late (late_turns ++ last_turns)

-- all have left
abbrev pub worked_end : Moment
worked_end = after_turn worked late_leaves before_end

-- the first moment after the opening: the source has signalled 5
abbrev pub worked_sample : Moment
worked_sample = after_turn worked (sample 0 0 0 1 (pos 5 ∷ [])) worked_opening

-- the peer has taken it from X
abbrev pub after_first_wait : Moment
after_first_wait = after_turn worked (first_wait 1 0 0 2 (Value (pos 5) ∷ [])) worked_sample

-- the peer has put it on E
abbrev pub after_signal_on_e : Moment
after_signal_on_e = after_turn worked (signal 1 0 1 1 (pos 5 ∷ [])) after_first_wait

-- and has taken it there
abbrev pub after_exchange : Moment
after_exchange = after_turn worked (exchange_wait 1 1 1 (Value (pos 5))) after_signal_on_e

-- late comes by out, after one step of it
abbrev pub by_out : Parent
by_out = record { task = 4; at = 1 }

-- both samples are sent, and the source has still to leave
abbrev pub after_samples : Moment
after_samples = after_all worked worked_opening (take 8 peer_turns)
