-- The input of the source names its task, and the machine has how that stands.
use Rattle.std.proofs.Common.{◌≡◌, ℕ, ℤ, List, ◌<◌, sym, subst, arith}
use Rattle.graph_base.specs.Graphs.{sources_of}
use Rattle.stream_lists.specs.Jobs.{with_samples}
use Rattle.graph_runs.specs.Moments.{Moment}
use Rattle.graph_runs.specs.Nexts.{is_live}
use Rattle.stream_job.specs.Streams.{StreamState, IsInputOf, IsSourceAt, IsStreamAt}
use Rattle.stream_job.proofs.FedStreams.{input_there}
use Rattle.stream_job.proofs.Stopping.{state_at}
use Rattle.stream_job.proofs.stream.Stream.has_live.Goals as goal
use Rattle.stream_job.proofs.stream.Stream.has_live.Goals.{After-index}

-- the input is that of the source
is : (c : After-index) → IsInputOf c.self.inside.job c.args.source c.index.result.now
is c =
    let R : StreamState → Type 0 = λ w. c.args.source < sources_of w.job.graph in
    let lt = subst R (sym c.self.view_is) c.requires in
    let found = input_there c.self.inside.job c.self.inside.inputs.items c.args.source
    c.index.result.now c.self.invariant.4 lt c.index.ensures in
    c.self.invariant.4.each c.args.source c.index.result.now found

pub index-requires-2 : goal.index-requires-2
index-requires-2 c =
    let lt = (is (goal.at.index-requires-2 c).After-index).there in
    let many = c.self.invariant.0.3.machine.tasks_many in
    let len = c.self.inside.machine.tasks.ok.0 in
    omega arith

pub is_live-requires : goal.is_live-requires
is_live-requires c = (is (goal.at.is_live-requires c).After-index).there

pub returns : goal.returns
returns c =
    let it = is (goal.at.returns c).After-index in
    let t = c.index.result.now.task in
    let P : StreamState → Type 0 = λ w. (t : ℕ) × IsSourceAt w.job t c.args.source
    × ((s : List (List ℤ)) (m : Moment) (given : ℕ → List ℤ) → IsStreamAt w s m given
    → is_live w.job m t ≡ c.is_live.result) in
    subst P c.self.view_is (
      t,
      record { there = it.there; kind = it.kind; number = it.number },
      λ s m given at.
          (let job = with_samples s c.self.inside.job in
          let state = c.index-2.result.now in
          c.is_live.ensures s m (at.machine.tasks t state (state_at job c.self.inside.machine m t
          state at.machine it.there c.index-2.ensures)).stands),
    )
