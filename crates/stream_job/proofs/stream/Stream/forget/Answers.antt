-- The sink has handed over all that it has kept, and its line is empty.
use Rattle.std.proofs.Common.{◌<◌, ℕ, ℤ, List, length, refl, sym, subst, ◌∙◌}
use Rattle.std.specs.Vec.{with_item}
use Rattle.std.proofs.lemmas.List.{length-set}
use Rattle.stream_lists.specs.Lists.{sinks_of}
use Rattle.graph_runs.specs.Moments.{Moment}
use Rattle.graph_runs.specs.Turned.{with_at}
use Rattle.stream_job.specs.SinkLines.{kept_by}
use Rattle.stream_job.specs.Streams.{StreamState, IsStreamAt, line_room}
use Rattle.stream_job.proofs.GivenLines.{line_room_stays, lines_forget, sink_at}
use Rattle.stream_job.proofs.stream.Stream.forget.Goals as goal

-- the stream after it stands at the same moment
stands : (c : goal.After-self-1) → (s : List (List ℤ)) (m : Moment) (given : ℕ → List ℤ)
    → IsStreamAt record {
      job = c.self.inside.job;
      machine = c.self.inside.machine;
      inputs = c.self.inside.inputs.items;
      met = c.self.inside.met;
    } s m given
    → IsStreamAt record {
      job = c.self.inside.job;
      machine = record {
        cores = c.self.inside.machine.cores;
        tasks = c.self.inside.machine.tasks;
        lines = with_item c.self.inside.machine.lines c.args.sink record {
          task = c.index_mut.result.now.task;
          start = c.index_mut.result.now.start;
          values = c.clear.new.self;
        };
      };
      inputs = c.self.inside.inputs.items;
      met = c.self.inside.met;
    } s m (with_at (sink_at c.self.inside.job c.args.sink)
    (kept_by c.self.inside.job m (sink_at c.self.inside.job c.args.sink)) given)
stands c s m given at =
    let R : StreamState → Type 0 = λ w. c.args.sink < length (sinks_of w.job) in
    let sink = c.args.sink in
    let line = c.index_mut.result.now in
    record {
      each = at.each;
      machine = record {
        graph = at.machine.graph;
        apart = at.machine.apart;
        reached = at.machine.reached;
        few = at.machine.few;
        cores = at.machine.cores;
        tasks_many = at.machine.tasks_many;
        lines_many = length-set c.self.inside.machine.lines.items sink record {
          task = line.task;
          start = line.start;
          values = c.clear.new.self;
        } ∙ at.machine.lines_many;
        tasks = at.machine.tasks;
      };
      lines = lines_forget c.self.inside.job given m c.self.inside.machine.lines.items sink line
          record { task = line.task; start = line.start; values = c.clear.new.self } at.lines
          (subst R (sym c.self.view_is) c.requires) c.index_mut.ensures.value refl refl
          c.clear.ensures.items;
      kept = at.kept;
      stays_open = at.stays_open;
      faults = at.faults;
      none = at.none;
    }

pub invariant_of-self : goal.invariant_of-self
invariant_of-self c =
    let i = c.self.invariant in
    let R : StreamState → Type 0 = λ w. c.args.sink < length (sinks_of w.job) in
    let job = c.self.inside.job in
    let sink = c.args.sink in
    let t = sink_at job sink in
    let line = c.index_mut.result.now in (
      (i.0.0, i.0.1, with_at t (kept_by job i.0.1 t) i.0.2, stands c i.0.0 i.0.1 i.0.2 i.0.3),
      i.1,
      i.2,
      i.3,
      i.4,
      line_room_stays job i.0.2 i.0.1 c.self.inside.machine.lines.items (line_room job) sink line
          record { task = line.task; start = line.start; values = c.clear.new.self } i.0.3.lines
          (subst R (sym c.self.view_is) c.requires) c.index_mut.ensures.value refl
          c.clear.ensures.capacity i.5,
    )

pub returns-clause-stands : goal.returns-clause-stands
returns-clause-stands c =
    let line = c.index_mut.result.now in
    let P : StreamState → Type 0 = λ w. (s : List (List ℤ)) (m : Moment) (given : ℕ → List ℤ)
    → IsStreamAt w s m given → IsStreamAt record {
      job = c.self.inside.job;
      machine = record {
        cores = c.self.inside.machine.cores;
        tasks = c.self.inside.machine.tasks;
        lines = with_item c.self.inside.machine.lines c.args.sink record {
          task = line.task;
          start = line.start;
          values = c.clear.new.self;
        };
      };
      inputs = c.self.inside.inputs.items;
      met = c.self.inside.met;
    } s m (with_at (sink_at w.job c.args.sink) (kept_by w.job m (sink_at w.job c.args.sink))
    given) in
    subst P c.self.view_is (stands c)
