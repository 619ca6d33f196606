-- A worked run in blocks: a source, a filter and a sink that make up to three steps in one event,
-- and a child of the sink that joins now, from the opening to the end.
use Rattle.std.specs.Prelude.{ℕ, List, [], ◌∷◌, Option, Some, None, pos, codes, true}
use Rattle.phase_accum.specs.declared.outcome.Outcome.TheVariants.{Value}
use Rattle.graph_base.specs.declared.line.Kind.TheVariants.{Source, Fir}
use Rattle.graph_base.specs.declared.line.Parent.{Parent}
use Rattle.graph_base.specs.declared.place.Place.TheVariants as place
use Rattle.graph_base.specs.Graphs.{Graph, no_task}
use Rattle.stream_lists.specs.Jobs.{Job}
use Rattle.graph_runs.specs.Moments.{Moment}
use Rattle.worked_runs.specs.Runs.{TaskEvent, sample, signal, first_wait, leave, child_now, opened, after_turn, after_all}
use Rattle.worked_runs.specs.Worked.{bus, founded}

-- phaser X sum 4 / phaser Y sum 4 / source s s.csv -> X block=3
-- / fir f X -> Y shift 0 taps 1 1 block=3 / sink out Y block=3
-- / sink late Y by out at 3 now block=3
abbrev pub block_graph : Graph
block_graph = record {
  names = (codes "X", place.Phaser 0) ∷ (codes "Y", place.Phaser 1) ∷ (codes "s", place.Task 0)
      ∷ (codes "f", place.Task 1) ∷ (codes "out", place.Task 2) ∷ (codes "late", place.Task 3) ∷ [];
  phasers = bus ∷ bus ∷ [];
  tasks = record no_task { line = 3; kind = Source; outputs = 0 ∷ []; block = 3 }
      ∷ record no_task {
        line = 4;
        kind = Fir;
        inputs = 0 ∷ [];
        outputs = 1 ∷ [];
        taps = pos 1 ∷ pos 1 ∷ [];
        block = 3;
      }
      ∷ record no_task { line = 5; inputs = 1 ∷ []; block = 3 }
      ∷ record no_task {
        line = 6;
        inputs = 1 ∷ [];
        parent = Some (record { task = 2; at = 3 });
        block = 3;
        joins_now = true;
      }
      ∷ [];
  files = codes "s.csv" ∷ [];
}

-- the source has the samples 1 to 5
abbrev pub in_blocks : Job
in_blocks = record {
  graph = block_graph;
  samples = (pos 1 ∷ pos 2 ∷ pos 3 ∷ pos 4 ∷ pos 5 ∷ []) ∷ [];
  starts = [];
}

-- the numbers on X and Y of s, f, out and late
abbrev pub block_numbers : List (List (Option ℕ))
block_numbers =
    (Some 1 ∷ Some 2 ∷ None ∷ None ∷ []) ∷ (None ∷ Some 1 ∷ Some 2 ∷ None ∷ []) ∷ []

-- its opening: late may begin three steps after out at the earliest
abbrev pub block_opening : Moment
block_opening = opened (founded ∷ founded ∷ []) block_numbers (0 ∷ 0 ∷ 0 ∷ 3 ∷ [])

-- the source's first three samples
abbrev pub three_samples : TaskEvent
three_samples = sample 0 0 0 1 (pos 1 ∷ pos 2 ∷ pos 3 ∷ [])

-- they go through the filter, which puts 1, 1 + 2 and 2 + 3 on Y, to out
abbrev pub three_waits : TaskEvent
three_waits = first_wait 1 0 0 2 (Value (pos 1) ∷ Value (pos 2) ∷ Value (pos 3) ∷ [])

-- what the filter makes of them
abbrev pub three_signals : TaskEvent
three_signals = signal 1 0 1 1 (pos 1 ∷ pos 3 ∷ pos 5 ∷ [])

-- what out gets
abbrev pub three_taken : TaskEvent
three_taken = first_wait 2 0 1 2 (Value (pos 1) ∷ Value (pos 3) ∷ Value (pos 5) ∷ [])

-- the fourth sample, as a block of one
abbrev pub one_sample : TaskEvent
one_sample = sample 0 0 0 1 (pos 4 ∷ [])

-- and the filter's value of it, 3 + 4
abbrev pub one_value : List TaskEvent
one_value = first_wait 1 0 0 2 (Value (pos 4) ∷ []) ∷ signal 1 0 1 1 (pos 7 ∷ []) ∷ []

-- the filter puts 4 + 5, which out takes with 7, and late alone; and all leave
abbrev pub last_blocks : List TaskEvent
last_blocks =
    sample 0 0 0 1 (pos 5 ∷ [])
    ∷ first_wait 1 0 0 2 (Value (pos 5) ∷ [])
    ∷ signal 1 0 1 1 (pos 9 ∷ [])
    ∷ first_wait 2 0 1 2 (Value (pos 7) ∷ Value (pos 9) ∷ [])
    ∷ first_wait 3 0 1 3 (Value (pos 9) ∷ [])
    ∷ leave 0 0 1
    ∷ leave 1 0 2
    ∷ leave 1 1 1
    ∷ leave 2 1 2
    ∷ leave 3 1 3
    ∷ []

-- the source has signalled three samples
abbrev pub after_three_samples : Moment
after_three_samples = after_turn in_blocks three_samples block_opening

-- the filter has got them
abbrev pub after_three_waits : Moment
after_three_waits = after_turn in_blocks three_waits after_three_samples

-- and has put three values
abbrev pub after_three_signals : Moment
after_three_signals = after_turn in_blocks three_signals after_three_waits

-- which out has got
abbrev pub after_three_taken : Moment
after_three_taken = after_turn in_blocks three_taken after_three_signals

-- the source has signalled the fourth
abbrev pub after_one_sample : Moment
after_one_sample = after_turn in_blocks one_sample after_three_taken

-- Y has four values, of which out has taken three, and late is not registered
abbrev pub before_join : Moment
before_join = after_all in_blocks after_one_sample one_value

-- late comes by out, after three steps of it
abbrev pub by_out_at_3 : Parent
by_out_at_3 = record { task = 2; at = 3 }

-- out registers late, which joins now
abbrev pub late_joins : TaskEvent
late_joins = child_now 2 1 2 3 3

-- out has registered late, which begins behind the fourth value
abbrev pub after_join : Moment
after_join = after_turn in_blocks late_joins before_join

-- all have left
abbrev pub block_end : Moment
block_end = after_all in_blocks after_join last_blocks
