-- The next samples are signalled as the number that stands at the registration of the output.
use Rattle.std.proofs.Common.{◌≡◌, ◌+◌, ℕ, ℤ, List, Some, length, take, drop, get_or, slice_get, sym, ap, ◌∙◌, arith}
use Rattle.std.specs.Prelude.{min}
use Rattle.graph_base.specs.Graphs.{task_at}
use Rattle.stream_lists.specs.Jobs.{Job, samples_at, with_samples}
use Rattle.graph_runs.specs.Moments.{Moment}
use Rattle.graph_runs.specs.NextBlocks.{block_up_to}
use Rattle.graph_runs.specs.Nexts.{samples}
use Rattle.graph_runs.specs.TaskEvents.{sample}
use Rattle.graph_runs.specs.TaskPlaces.{registration_of_output}
use Rattle.stream_job.specs.Stepping.{IsNextIn}
use Rattle.stream_job.specs.Machines.{MayHaveCome}
use Rattle.stream_job.specs.declared.machine.Machine.{Machine}
use Rattle.stream_job.specs.declared.task_state.TaskState.{TaskState}
use Rattle.stream_job.proofs.Begun.{samples_few}
use Rattle.stream_job.proofs.Lively.{state_read, state_there}
use Rattle.stream_job.proofs.Setting.{bare_cores, full_cores, set_read}
use Rattle.stream_job.proofs.SampleTurns.{sample_few, samples_at_place, samples_so, ReadSamples, read_samples, sampled_turn, with_begun}
use Rattle.stream_job.proofs.SignalCalls.{refused_turn}
use Rattle.stream_job.proofs.machine.Machine.signal_samples.Goals.{After-min-many}
use Rattle.stream_job.proofs.machine.Machine.signal_samples.Goals as goal

-- the samples that are next, of those that it has still to signal
awaited : {most : ℕ} (job : Job) (machine : Machine) (t block many : ℕ) (rest : List ℤ)
    (s : List (List ℤ)) (state : TaskState) → MayHaveCome job machine t rest s
    → IsNextIn most (with_samples s job) machine t samples
    → slice_get machine.tasks.items t ≡ Some state
    → ((m : Moment) → m.begun t ≡ state.begun → block_up_to most job m t ≡ block)
    → many ≡ min block (length rest)
    → ReadSamples most (with_samples s job) machine t state.begun many (take many rest)
awaited job machine t block many rest s state may next found blocks is_many =
    let j = with_samples s job in
    let m = next.some.0 in
    let at = next.some.1 in
    let place = samples_at_place j machine m t state next at found in
    let begun : m.begun t ≡ state.begun = (at.tasks t state found).stands.begun in
    read_samples j machine t block many rest state next found
    (ap (λ b. drop b (samples_at j t)) (sym begun) ∙ may.awaits m at place.there place.source)
    blocks is_many

-- those that it reads
read : (s : List (List ℤ)) (c : After-min-many)
    → MayHaveCome c.args.job.now c.args.self.now c.args.t c.args.awaits.now s
    → IsNextIn c.args.most (with_samples s c.args.job.now) c.args.self.now c.args.t samples
    → ReadSamples c.args.most (with_samples s c.args.job.now) c.args.self.now c.args.t
    c.index-state.result.now.begun c.min-many.result (take c.min-many.result c.args.awaits.now)
read s c may next =
    awaited c.args.job.now c.args.self.now c.args.t c.block.result c.min-many.result
    c.args.awaits.now s c.index-state.result.now may next
    (state_read next (λ e. (cc)) c.index-state.ensures) c.block.ensures c.min-many.ensures

-- the number at the registration of its output
numbered : (c : After-min-many)
    → get_or c.deref.result.now c.output_of-k.result.0 0
    ≡ get_or c.index-state.result.now.numbers.items
    (registration_of_output (task_at c.args.job.now.graph c.args.t) 0) 0
numbered c =
    ap (λ ns. get_or ns c.output_of-k.result.0 0) c.deref.ensures
    ∙ ap (λ k. get_or c.index-state.result.now.numbers.items k 0) c.output_of-k.ensures.registration

pub output_of-k-requires-clause-output : goal.output_of-k-requires-clause-output
output_of-k-requires-clause-output c =
    let next = c.requires.next.2 in
    sample_few (with_samples c.requires.next.0 c.args.job.now) c.args.self.now next.some.0 c.args.t
    next next.some.1

pub bounds-deref-k : goal.bounds-deref-k
bounds-deref-k c =
    let next = c.requires.next.2 in
    let found = state_read next (λ e. (cc)) c.index-state.ensures in
    let place = (samples_at_place (with_samples c.requires.next.0 c.args.job.now) c.args.self.now
    next.some.0 c.args.t c.index-state.result.now next next.some.1 found).place in
    omega (arith, c.output_of-k.ensures.registration, ap length c.deref.ensures)

pub signal_values_on-requires-clause-cores : goal.signal_values_on-requires-clause-cores
signal_values_on-requires-clause-cores c =
    let next = c.requires.next.2 in
    (next.some.0.history, bare_cores c.requires.next.0 next.some.1.cores)

pub signal_values_on-requires-clause-sends : goal.signal_values_on-requires-clause-sends
signal_values_on-requires-clause-sends c =
    let s = c.requires.next.0 in
    let next = c.requires.next.2 in
    let job = with_samples s c.args.job.now in
    let found = state_read next (λ e. (cc)) c.index-state.ensures in
    let here = (goal.at.signal_values_on-requires-clause-sends c).After-min-many in
    let read = read s here c.requires.next.1 next in
    (samples_so job c.args.self.now c.args.t
    (get_or c.deref.result.now c.output_of-k.result.0 0) c.output_of-k.result.1
    (take c.min-many.result c.args.awaits.now) c.index-state.result.now next found
    c.output_of-k.ensures.phaser (numbered here) read.are next.some.0 next.some.1).sends

pub signal_values_on-requires-clause-room : goal.signal_values_on-requires-clause-room
signal_values_on-requires-clause-room c =
    let here = (goal.at.signal_values_on-requires-clause-room c).After-min-many in
    let read = read c.requires.next.0 here c.requires.next.1 c.requires.next.2 in
    omega (
      arith,
      read.block,
      read.long,
      c.requires.next.2.small,
      c.requires.places c.args.t read.there,
      c.buffers.view_is,
    )

pub returns-in_default-clause-made : goal.returns-in_default-clause-made
returns-in_default-clause-made c = λ s may next.
    let job = with_samples s c.args.job.now in
    let here = (goal.at.returns-in_default-clause-made c).After-min-many in
    let found = state_read next (λ e. (cc)) c.index-state.ensures in
    let read = read s here may next in
    let vs = take c.min-many.result c.args.awaits.now in
    let number = get_or c.deref.result.now c.output_of-k.result.0 0 in
    refused_turn job c.args.self.now c.signal_values_on.new.self c.args.t number
    c.output_of-k.result.1 vs samples (sample c.args.t 0 c.output_of-k.result.1 number vs)
    c.in_default.field-0 next (sym c.output_of-k.ensures.phaser)
    (λ m at. (samples_so job c.args.self.now c.args.t number c.output_of-k.result.1 vs
    c.index-state.result.now next found c.output_of-k.ensures.phaser (numbered here)
    read.are m at).answer)
    (λ m at. c.in_default.ensures.reply m.history (bare_cores s at.cores))
    (λ m at. full_cores s (c.in_default.ensures.cores m.history (bare_cores s at.cores)))
    c.signal_values_on.ensures.others.0 c.signal_values_on.ensures.others.1

pub overflow_add-begun : goal.overflow_add-begun
overflow_add-begun c =
    let next = c.requires.next.2 in
    let here = (goal.at.overflow_add-begun c).After-min-many in
    let read = read c.requires.next.0 here c.requires.next.1 next in
    let found = state_read next (λ e. (cc)) c.index-state.ensures in
    let few = samples_few (with_samples c.requires.next.0 c.args.job.now) next.some.0 c.args.t
    next.some.1.graph next.some.1.reached.ran (next.is next.some.0 next.some.1) in
    let begun = (next.some.1.tasks c.args.t c.index-state.result.now found).stands.begun in
    let block = read.block in
    let small_block = next.small in
    let places = c.requires.places c.args.t read.there in
    let many = c.buffers.invariant.0 in
    let view = c.buffers.view_is in
    let small = c.buffers.inside.outcomes.small in
    record { fits = omega (arith, small, c.buffers.inside.outcomes.ok.0, c.buffers.inside.outcomes.ok.1) }

pub returns-clause-made : goal.returns-clause-made
returns-clause-made c = λ s may next.
    let job = with_samples s c.args.job.now in
    let here = (goal.at.returns-clause-made c).After-min-many in
    let lt = state_there next (λ e. (cc)) in
    let found = state_read next (λ e. (cc)) c.index-state.ensures in
    let read = read s here may next in
    sampled_turn job c.args.self.now _ c.args.t
    (get_or c.deref.result.now c.output_of-k.result.0 0) c.output_of-k.result.1 c.in-Ok.field-0
    c.min-many.result (take c.min-many.result c.args.awaits.now) c.index-state.result.now next
    found c.output_of-k.ensures.phaser (numbered here) read.are read.long
    (λ m at. c.in-Ok.ensures.reply m.history (bare_cores s at.cores))
    (λ m at. full_cores s (c.in-Ok.ensures.cores m.history (bare_cores s at.cores)))
    (set_read (λ x. with_begun x (c.index-state.result.now.begun + c.min-many.result))
    c.args.self.now.tasks.items c.signal_values_on.new.self.tasks.items c.args.t
    c.index-state.result.now c.index_mut.result.now
    (ap (λ v. v.items) c.signal_values_on.ensures.others.0) lt c.index-state.ensures
    c.index_mut.ensures.value)
    c.signal_values_on.ensures.others.1
