-- The samples that the input of the source takes come behind those that came.
use Rattle.std.proofs.Common.{◌≡◌, ◌<◌, ℕ, ℤ, true, false, List, Some, slice_get, length, take, set, refl, sym, ap, subst, ◌∙◌, arith}
use Rattle.std.specs.Prelude.{◌||◌, is_some}
use Rattle.std.proofs.lemmas.Option.{slice_get_read}
use Rattle.std.proofs.lemmas.Bool.{or_right}
use Rattle.graph_base.specs.Graphs.{sources_of}
use Rattle.stream_lists.specs.Jobs.{samples_in}
use Rattle.graph_runs.specs.Moments.{Moment}
use Rattle.stream_job.specs.Streams.{StreamState, FeedTakes, IsInputOf, IsStreamAt, has_ended, fed}
use Rattle.stream_job.proofs.Feeding.{ended_found, ended_stays}
use Rattle.stream_job.proofs.FedStreams.{feed_took, input_there, inputs_set, kept_input, none_took, stream_takes, with_input}
use Rattle.stream_job.proofs.stream.Stream.feed.Goals as goal
use Rattle.stream_job.proofs.stream.Stream.feed.Goals.{After-index_mut-input, After-index-2, then-index-via-then-index, then-index-via-else-index+then-is_some}

-- where it takes none
pub returns-then-index-clause-took : goal.returns-then-index-clause-took
returns-then-index-clause-took c =
    let job = c.self.inside.job in
    let inputs = c.self.inside.inputs.items in
    let met = c.self.inside.met in
    let R : StreamState → Type 0 = λ w. c.args.source < sources_of w.job.graph in
    let lt = subst R (sym c.self.view_is) c.requires.source in
    let found = input_there job inputs c.args.source c.index.result.now c.self.invariant.4 lt
    c.index.ensures in
    let over : (is_some met || has_ended inputs c.args.source) ≡ true =
    elim c.then-index.branch as (λ x. (is_some met || has_ended inputs c.args.source) ≡ true) [
      | then-index-via-then-index w ↦
          or_right (is_some met) (has_ended inputs c.args.source)
          (ended_found inputs c.args.source c.index.result.now found ∙ w.if-index.true)
      | then-index-via-else-index+then-is_some w ↦
          ap (λ b. b || has_ended inputs c.args.source) (sym w.is_some.ensures ∙ w.if-is_some.true)
    ] in
    let P : StreamState → Type 0 = λ w. (s : List (List ℤ)) (m : Moment) (given : ℕ → List ℤ)
    → IsStreamAt w s m given
    → FeedTakes w s m c.args.source (length c.args.samples.now) 0 in
    subst P c.self.view_is (λ s m given at. none_took (record {
      job = c.self.inside.job;
      machine = c.self.inside.machine;
      inputs = c.self.inside.inputs.items;
      met = c.self.inside.met;
    }) s m c.args.source (length c.args.samples.now) over)

-- the input of the source
found : (c : goal.After-index_mut-input)
    → slice_get c.self.inside.inputs.items c.args.source ≡ Some c.index_mut-input.result.now
found c =
    let R : StreamState → Type 0 = λ w. c.args.source < sources_of w.job.graph in
    let lt = subst R (sym c.self.view_is) c.requires.source in
    input_there c.self.inside.job c.self.inside.inputs.items c.args.source
    c.index_mut-input.result.now c.self.invariant.4 lt c.index_mut-input.ensures.value

is : (c : goal.After-index_mut-input)
    → IsInputOf c.self.inside.job c.args.source c.index_mut-input.result.now
is c = c.self.invariant.4.each c.args.source c.index_mut-input.result.now (found c)

-- it has not ended
opens : (c : goal.After-index_mut-input) → c.index_mut-input.result.now.ended ≡ false
opens c =
    let R : StreamState → Type 0 = λ w. c.args.source < sources_of w.job.graph in
    let lt = subst R (sym c.self.view_is) c.requires.source in
    let inputs = c.self.inside.inputs.items in
    let first = input_there c.self.inside.job inputs c.args.source c.index.result.now
    c.self.invariant.4 lt c.index.ensures in
    sym (ended_found inputs c.args.source c.index_mut-input.result.now (found c))
    ∙ ended_found inputs c.args.source c.index.result.now first ∙ c.if-index.false

there : (c : goal.After-index_mut-input)
    → c.index_mut-input.result.now.task < length c.self.inside.machine.tasks.items
there c =
    let lt = (is c).there in
    let many = c.self.invariant.0.3.machine.tasks_many in
    omega arith

pub index-requires-2 : goal.index-requires-2
index-requires-2 c =
    let lt = there (goal.at.index-requires-2 c).After-index_mut-input in
    let len = c.self.inside.machine.tasks.ok.0 in
    omega arith

-- the state of its task
read : (c : goal.After-index-2) → slice_get c.self.inside.machine.tasks.items
    c.index_mut-input.result.now.task ≡ Some c.index-2.result.now
read c =
    let tasks = c.self.inside.machine.tasks.items in
    slice_get_read tasks (length tasks) c.index_mut-input.result.now.task c.index-2.result.now refl
    (there (goal.at.take-requires-clause-kept c).After-index_mut-input) c.index-2.ensures

pub take-requires-clause-kept : goal.take-requires-clause-kept
take-requires-clause-kept c =
    let i = c.self.invariant in
    let before = (goal.at.take-requires-clause-kept c).After-index_mut-input in
    let input = c.index_mut-input.result.now in (
      samples_in c.self.inside.job i.0.0 input.task,
      kept_input record {
        job = c.self.inside.job;
        machine = c.self.inside.machine;
        inputs = c.self.inside.inputs.items;
        met = c.self.inside.met;
      } i.0.0 i.0.1 i.0.2 c.args.source input c.index-2.result.now i.0.3 (is before) (found before)
          (read c),
    )

pub take-requires-clause-room : goal.take-requires-clause-room
take-requires-clause-room c = (is (goal.at.take-requires-clause-room c).After-index_mut-input).room

-- all samples that came, with those that were taken
stands : (c : goal.After-self-1) → (s : List (List ℤ)) (m : Moment) (given : ℕ → List ℤ)
    → IsStreamAt record {
      job = c.self.inside.job;
      machine = c.self.inside.machine;
      inputs = c.self.inside.inputs.items;
      met = c.self.inside.met;
    } s m given
    → IsStreamAt (with_input record {
      job = c.self.inside.job;
      machine = c.self.inside.machine;
      inputs = c.self.inside.inputs.items;
      met = c.self.inside.met;
    } c.args.source c.take.new.self)
    (fed s c.args.source (take c.take.result c.args.samples.now)) m given
stands c s m given at =
    let g = goal.at.returns-clause-fed c in
    let before = g.After-index_mut-input in
    let input = c.index_mut-input.result.now in
    stream_takes record {
      job = c.self.inside.job;
      machine = c.self.inside.machine;
      inputs = c.self.inside.inputs.items;
      met = c.self.inside.met;
    } s m given c.args.source (take c.take.result c.args.samples.now) input c.take.new.self
    c.index-2.result.now at c.self.invariant.3 c.self.invariant.4.many (is before) (found before)
    (read g.After-index-2) (sym c.is_some.ensures ∙ c.if-is_some.false) (opens before)
    c.take.ensures.ended.0 c.take.ensures.kept

pub invariant_of-self : goal.invariant_of-self
invariant_of-self c =
    let i = c.self.invariant in
    let before = (goal.at.invariant_of-self c).After-index_mut-input in (
      (
        fed i.0.0 c.args.source (take c.take.result c.args.samples.now),
        i.0.1,
        i.0.2,
        stands c i.0.0 i.0.1 i.0.2 i.0.3,
      ),
      i.1,
      i.2,
      i.3,
      inputs_set c.self.inside.job c.self.inside.inputs.items c.args.source
          c.index_mut-input.result.now c.take.new.self i.4 (found before) c.take.ensures.ended.1
          c.take.ensures.room,
      i.5,
    )

pub returns-clause-took : goal.returns-clause-took
returns-clause-took c =
    let g = goal.at.returns-clause-took c in
    let before = g.After-index_mut-input in
    let many = length c.args.samples.now in
    let P : StreamState → Type 0 = λ w. (s : List (List ℤ)) (m : Moment) (given : ℕ → List ℤ)
    → IsStreamAt w s m given → FeedTakes w s m c.args.source many c.take.result in
    subst P c.self.view_is (λ s m given at. feed_took record {
      job = c.self.inside.job;
      machine = c.self.inside.machine;
      inputs = c.self.inside.inputs.items;
      met = c.self.inside.met;
    } s m given c.args.source many c.take.result c.index_mut-input.result.now
    c.index-2.result.now at (is before) (found before) (read g.After-index-2)
    (sym c.is_some.ensures ∙ c.if-is_some.false) (opens before) c.take.ensures.took)

pub returns-clause-fed : goal.returns-clause-fed
returns-clause-fed c =
    let P : StreamState → Type 0 = λ w. (s : List (List ℤ)) (m : Moment) (given : ℕ → List ℤ)
    → IsStreamAt w s m given → IsStreamAt (with_input record {
      job = c.self.inside.job;
      machine = c.self.inside.machine;
      inputs = c.self.inside.inputs.items;
      met = c.self.inside.met;
    } c.args.source c.take.new.self)
    (fed s c.args.source (take c.take.result c.args.samples.now)) m given in
    subst P c.self.view_is (stands c)

pub returns-clause-ended : goal.returns-clause-ended
returns-clause-ended c =
    let before = (goal.at.returns-clause-ended c).After-index_mut-input in
    let P : StreamState → Type 0 = λ w. (k : ℕ)
    → has_ended (set c.self.inside.inputs.items c.args.source c.take.new.self) k
    ≡ has_ended w.inputs k in
    subst P c.self.view_is (λ k. ended_stays c.self.inside.inputs.items c.args.source k
    c.index_mut-input.result.now c.take.new.self (found before) c.take.ensures.ended.0)
