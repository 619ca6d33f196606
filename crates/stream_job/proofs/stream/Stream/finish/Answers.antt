-- The input of the source has ended, and all else stays.
use Rattle.std.proofs.Common.{◌≡◌, ◌<◌, ℕ, ℤ, List, Some, slice_get, set, refl, sym, subst}
use Rattle.graph_base.specs.Graphs.{sources_of}
use Rattle.graph_runs.specs.Moments.{Moment}
use Rattle.stream_job.specs.Streams.{StreamState, IsStreamAt, has_ended, ended_with}
use Rattle.stream_job.proofs.Feeding.{ended_then}
use Rattle.stream_job.proofs.FedStreams.{input_there, inputs_set, stream_ends, that_ended, with_input}
use Rattle.stream_job.proofs.stream.Stream.finish.Goals as goal

-- the input of the source
found : (c : goal.After-self-1)
    → slice_get c.self.inside.inputs.items c.args.source ≡ Some c.index_mut.result.now
found c =
    let P : StreamState → Type 0 = λ w. c.args.source < sources_of w.job.graph in
    input_there c.self.inside.job c.self.inside.inputs.items c.args.source c.index_mut.result.now
    c.self.invariant.4 (subst P (sym c.self.view_is) c.requires) c.index_mut.ensures.value

pub invariant_of-self : goal.invariant_of-self
invariant_of-self c =
    let i = c.self.invariant in
    let input = c.index_mut.result.now in
    let job = c.self.inside.job in
    let inputs = c.self.inside.inputs.items in (
      (
        i.0.0,
        i.0.1,
        i.0.2,
        stream_ends (record {
          job = c.self.inside.job;
          machine = c.self.inside.machine;
          inputs = c.self.inside.inputs.items;
          met = c.self.inside.met;
        }) i.0.0 i.0.1 i.0.2 c.args.source input i.0.3 (found c),
      ),
      i.1,
      i.2,
      i.3,
      inputs_set job inputs c.args.source input (that_ended input) i.4 (found c) refl
          (i.4.each c.args.source input (found c)).room,
      i.5,
    )

pub returns-clause-stands : goal.returns-clause-stands
returns-clause-stands c =
    let P : StreamState → Type 0 = λ w. (s : List (List ℤ)) (m : Moment) (given : ℕ → List ℤ)
    → IsStreamAt w s m given → IsStreamAt (with_input (record {
      job = c.self.inside.job;
      machine = c.self.inside.machine;
      inputs = c.self.inside.inputs.items;
      met = c.self.inside.met;
    }) c.args.source (that_ended c.index_mut.result.now)) s m given in
    subst P c.self.view_is (λ s m given at. stream_ends (record {
      job = c.self.inside.job;
      machine = c.self.inside.machine;
      inputs = c.self.inside.inputs.items;
      met = c.self.inside.met;
    }) s m given c.args.source c.index_mut.result.now at (found c))

pub returns-clause-ended : goal.returns-clause-ended
returns-clause-ended c =
    let input = c.index_mut.result.now in
    let P : StreamState → Type 0 = λ w. (k : ℕ)
    → has_ended (set c.self.inside.inputs.items c.args.source (that_ended input)) k
    ≡ ended_with w.inputs c.args.source k in
    subst P c.self.view_is (λ k.
    ended_then c.self.inside.inputs.items c.args.source k input (that_ended input) (found c) refl)
