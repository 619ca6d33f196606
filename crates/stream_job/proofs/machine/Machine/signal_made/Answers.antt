-- The first of what is made is signalled, where all of this is in range.
use Rattle.std.proofs.Common.{ℕ, ◌≡◌, ◌<◌, ◌≤◌, ◌+◌, ◌-◌, min, drop, length, get_or, refl, subst, sym, ap, ◌∙◌, arith, List, ℤ}
use Rattle.std.specs.Prelude.{Ok, Some, map, take}
use Rattle.std.specs.List.{position_from}
use Rattle.std.proofs.lemmas.Option.{same_Some}
use Rattle.std.proofs.lemmas.List.{length-take-le}
use Rattle.graph_base.specs.Graphs.{task_at}
use Rattle.graph_runs.specs.Moments.{Moment}
use Rattle.graph_runs.specs.Nexts.{signals}
use Rattle.graph_runs.specs.TaskPlaces.{registration_of_output}
use Rattle.stream_lists.specs.Jobs.{with_samples}
use Rattle.stream_lists.proofs.Firsts.{position_from-below}
use Rattle.stream_job.specs.Stepping.{IsNextIn, is_value_out}
use Rattle.stream_job.specs.Machines.{IsMachineAt}
use Rattle.stream_job.specs.Turning.{HadTurnBy}
use Rattle.stream_job.specs.declared.machine.Machine.{Machine}
use Rattle.stream_job.specs.declared.made.Made.{Made}
use Rattle.stream_job.proofs.GoodSignals.{GoodPart, part_blocked, part_over, part_same, part_sends, part_turn, put_many, put_part, some_made, with_made}
use Rattle.stream_job.proofs.Lively.{state_read, state_there}
use Rattle.stream_job.proofs.Setting.{read_same, set_read, bare_cores, full_cores}
use Rattle.stream_job.proofs.Signals.{HasMade, has_made, made_begun, made_few, signals_at}
use Rattle.stream_job.proofs.SignalCalls.{had_same}
use Rattle.stream_job.proofs.machine.Machine.signal_made.Goals.{After-index-state, After-min-many, After-deref-3, After-index_mut, In-Some}
use Rattle.stream_job.proofs.machine.Machine.signal_made.Goals as goal

-- what the filter has made
has : {steps : ℕ} (s : List (List ℤ)) (c : After-index-state)
    (next : IsNextIn steps (with_samples s c.args.job.now) c.args.self.now c.args.t (signals 0))
    (m : Moment) → IsMachineAt (with_samples s c.args.job.now) m c.args.self.now
    → HasMade (with_samples s c.args.job.now) c.args.self.now m c.args.t 0 c.index-state.result.now
has s c next m at =
    let found = state_read next (λ e. (cc)) c.index-state.ensures in
    has_made (with_samples s c.args.job.now) c.args.self.now m c.args.t 0 c.index-state.result.now
    next at found (c.requires.made c.index-state.result.now found)

-- it began no later than with the first of it
early : (c : After-index-state) → c.index-state.result.now.made.len
    ≤ c.index-state.result.now.begun
early c =
    let s = c.requires.next.0 in
    let next = c.requires.next.2 in
    let state = c.index-state.result.now in
    let m = next.some.0 in
    let begun = made_begun (with_samples s c.args.job.now) c.args.self.now m c.args.t 0 state next
    next.some.1 (state_read next (λ e. (cc)) c.index-state.ensures)
    (has s c next m next.some.1) in
    omega (arith, state.made.ok.0)

-- so much of it, at least one value
record Many (made most many : ℕ) : Type 0 where
  is : many ≡ min made most
  some : 1 ≤ many
  few : many ≤ made

many : (c : After-min-many)
    → Many (length c.index-state.result.now.made.items) c.args.most c.min-many.result
many c =
    let next = c.requires.next.2 in
    let state = c.index-state.result.now in
    let made = c.requires.made state (state_read next (λ e. (cc)) c.index-state.ensures) in
    let long : state.made.len ≡ length state.made.items = state.made.ok.0 in
    let len = c.len-2.ensures in
    let least = c.min-many.ensures in
    let most = c.requires.most.0 in
    let one = some_made state.made.items made in
    record { is = omega arith; some = omega arith; few = omega arith }

pub overflow_sub-first : goal.overflow_sub-first
overflow_sub-first c =
    omega (arith, early (goal.at.overflow_sub-first c).After-index-state, c.len.ensures)

pub put_values-requires : goal.put_values-requires
put_values-requires c =
    let s = c.requires.next.0 in
    let next = c.requires.next.2 in
    let job = with_samples s c.args.job.now in
    let found = state_read next (λ e. (cc)) c.index-state.ensures in
    let a = goal.at.put_values-requires c in
    let m = next.some.0 in
    let at = next.some.1 in
    let few = made_few job c.args.self.now m c.args.t 0 c.index-state.result.now at found
    (has s a.After-index-state next m at) in
    let there = (signals_at job c.args.self.now m c.args.t 0 c.index-state.result.now
    next at found).there in
    let room = c.requires.places c.args.t there in
    let same : c.buffers.inside.parcels ≡ c.args.buffers.now = c.buffers.view_is in
    let long = ap length c.deref.ensures.value in
    let least = (many a.After-min-many).few in
    let taken = length-take-le c.min-many.result c.deref.result.now (omega arith) in
    let cap = c.buffers.invariant.1 in
    record { room = omega arith }

-- ---- a value out of range

-- it stands among what is put
over : (c : In-Some) → Many (length c.index-state.result.now.made.items) c.args.most
    c.min-many.result
    → position_from is_value_out 0 (take (min (length c.index-state.result.now.made.items)
    c.args.most) c.index-state.result.now.made.items) ≡ Some c.in-Some.place
over c n =
    ap (λ k. position_from is_value_out 0 (take k c.index-state.result.now.made.items)) (sym n.is)
    ∙ ap (λ l. position_from is_value_out 0 (take c.min-many.result l))
    (sym c.deref.ensures.value)
    ∙ sym c.in-Some.ensures.some

pub overflow_add-result : goal.overflow_add-result
overflow_add-result c =
    let a = goal.at.overflow_add-result c in
    let n = many a.After-min-many in
    let few = n.few in
    let state = c.index-state.result.now in
    let below = position_from-below is_value_out 0
    (take (min (length state.made.items) c.args.most) state.made.items) c.in-Some.place
    (over a.In-Some n) in
    let taken = length-take-le (min (length state.made.items) c.args.most) state.made.items
    (omega arith) in
    let long : state.made.len ≡ length state.made.items = state.made.ok.0 in
    let early = early a.After-index-state in
    let len = c.len.ensures in
    let low : state.begun - c.len.result + c.in-Some.place < state.begun = omega (arith, n.is) in
    record { fits = omega arith }

pub returns-in-Some-clause-made : goal.returns-in-Some-clause-made
returns-in-Some-clause-made c = λ s steps next.
    let a = goal.at.returns-in-Some-clause-made c in
    let state = c.index-state.result.now in
    let long : state.made.len ≡ length state.made.items = state.made.ok.0 in
    let early = early a.After-index-state in
    let len = c.len.ensures in
    part_over (with_samples s c.args.job.now) c.args.self.now c.args.t c.args.most c.in-Some.place
    (state.begun - c.len.result + c.in-Some.place) state next
    (state_read next (λ e. (cc)) c.index-state.ensures) (has s a.After-index-state next)
    (over a.In-Some (many a.After-min-many)) (omega arith)

-- ---- what is put

pub bounds-deref-k : goal.bounds-deref-k
bounds-deref-k c =
    let s = c.requires.next.0 in
    let next = c.requires.next.2 in
    let job = with_samples s c.args.job.now in
    let again = state_read next (λ e. (cc)) c.index.ensures in
    let place = (signals_at job c.args.self.now next.some.0 c.args.t 0
    c.index.result.now next next.some.1 again).place in
    omega (arith, place, c.output_of-k.ensures.registration, ap length c.deref-2.ensures)

-- both readings of the state
same : {steps : ℕ} (s : List (List ℤ)) (c : After-deref-3)
    (next : IsNextIn steps (with_samples s c.args.job.now) c.args.self.now c.args.t (signals 0))
    → c.index-state.result.now ≡ c.index.result.now
same s c next =
    same_Some c.index-state.result.now c.index.result.now
    (sym (state_read next (λ e. (cc)) c.index-state.ensures)
    ∙ state_read next (λ e. (cc)) c.index.ensures)

-- what the state that was read again has made
again : {steps : ℕ} (s : List (List ℤ)) (c : After-deref-3)
    (next : IsNextIn steps (with_samples s c.args.job.now) c.args.self.now c.args.t (signals 0))
    (m : Moment) → IsMachineAt (with_samples s c.args.job.now) m c.args.self.now
    → HasMade (with_samples s c.args.job.now) c.args.self.now m c.args.t 0 c.index.result.now
again s c next m at =
    let found = state_read next (λ e. (cc)) c.index-state.ensures in
    subst (HasMade (with_samples s c.args.job.now) c.args.self.now m c.args.t 0) (same s c next)
    (has_made (with_samples s c.args.job.now) c.args.self.now m c.args.t 0
    c.index-state.result.now next at found (c.requires.made c.index-state.result.now found))

-- the values
are : (c : After-deref-3) → map (λ x. Ok x) c.deref-3.result.now
    ≡ take c.min-many.result c.index-state.result.now.made.items
are c =
    ap (map (λ x. Ok x)) c.deref-3.ensures.value ∙ c.in_default.ensures.none refl
    ∙ ap (take c.min-many.result) c.deref.ensures.value

-- they are a good part of what it has made
part : {steps : ℕ} (s : List (List ℤ)) (c : After-deref-3)
    (next : IsNextIn steps (with_samples s c.args.job.now) c.args.self.now c.args.t (signals 0))
    → Many (length c.index-state.result.now.made.items) c.args.most c.min-many.result
    → GoodPart c.index.result.now.made.items c.deref-3.result.now
part s c next n =
    subst (λ state. GoodPart state.made.items c.deref-3.result.now) (same s c next)
    (put_part c.index-state.result.now.made.items c.deref-3.result.now c.min-many.result n.few
    n.some (are c))

-- as many as were asked for, if there are
put : {steps : ℕ} (s : List (List ℤ)) (c : After-deref-3)
    (next : IsNextIn steps (with_samples s c.args.job.now) c.args.self.now c.args.t (signals 0))
    → Many (length c.index-state.result.now.made.items) c.args.most c.min-many.result
    → length c.deref-3.result.now ≡ min (length c.index.result.now.made.items) c.args.most
put s c next n =
    put_many c.index-state.result.now.made.items c.deref-3.result.now c.min-many.result n.few
    (are c)
    ∙ n.is ∙ ap (λ state. min (length state.made.items) c.args.most) (same s c next)

-- as the number of the registration of the output
numbered : (c : After-deref-3) → get_or c.deref-2.result.now c.output_of-k.result.0 0
    ≡ get_or c.index.result.now.numbers.items (registration_of_output
    (task_at c.args.job.now.graph c.args.t) 0) 0
numbered c =
    ap (λ ns. get_or ns c.output_of-k.result.0 0) c.deref-2.ensures
    ∙ ap (λ k. get_or c.index.result.now.numbers.items k 0) c.output_of-k.ensures.registration

pub signal_values_on-requires-clause-sends : goal.signal_values_on-requires-clause-sends
signal_values_on-requires-clause-sends c =
    let s = c.requires.next.0 in
    let next = c.requires.next.2 in
    let a = goal.at.signal_values_on-requires-clause-sends c in
    part_sends (with_samples s c.args.job.now) c.args.self.now next.some.0 c.args.t
    c.index.result.now c.deref-3.result.now
    (again s a.After-deref-3 next next.some.0 next.some.1)
    (part s a.After-deref-3 next (many a.After-min-many))

pub signal_values_on-requires-clause-room : goal.signal_values_on-requires-clause-room
signal_values_on-requires-clause-room c =
    let s = c.requires.next.0 in
    let next = c.requires.next.2 in
    let job = with_samples s c.args.job.now in
    let found = state_read next (λ e. (cc)) c.index.ensures in
    let a = goal.at.signal_values_on-requires-clause-room c in
    let m = next.some.0 in
    let at = next.some.1 in
    let few = made_few job c.args.self.now m c.args.t 0 c.index.result.now at found
    (again s a.After-deref-3 next m at) in
    let there = (signals_at job c.args.self.now m c.args.t 0 c.index.result.now
    next at found).there in
    let room = c.requires.places c.args.t there in
    let same : c.buffers.inside.parcels ≡ c.args.buffers.now = c.buffers.view_is in
    let less = (part s a.After-deref-3 next (many a.After-min-many)).few in
    omega arith

pub signal_values_on-requires-clause-cores : goal.signal_values_on-requires-clause-cores
signal_values_on-requires-clause-cores c =
    let next = c.requires.next.2 in
    (next.some.0.history, bare_cores c.requires.next.0 next.some.1.cores)

-- the turn by as many values as were put is that by as many as were asked for
sized : {steps : ℕ} (s : List (List ℤ)) (c : After-deref-3)
    (next : IsNextIn steps (with_samples s c.args.job.now) c.args.self.now c.args.t (signals 0))
    → Many (length c.index-state.result.now.made.items) c.args.most c.min-many.result
    → (new : Machine) (it : Made)
    → HadTurnBy 1 (length c.deref-3.result.now) (with_samples s c.args.job.now) c.args.self.now new
    c.args.t it
    → HadTurnBy 1 c.args.most (with_samples s c.args.job.now) c.args.self.now new c.args.t it
sized s c next n new it =
    had_same (with_samples s c.args.job.now) c.args.self.now new c.args.t it
    (λ m at. part_same (with_samples s c.args.job.now) c.args.self.now m c.args.t c.args.most
    c.index.result.now c.deref-3.result.now next at (state_read next (λ e. (cc)) c.index.ensures)
    (again s c next m at) (put s c next n))

pub returns-in_default-signal_values_on-clause-made : goal.returns-in_default-signal_values_on-clause-made
returns-in_default-signal_values_on-clause-made c = λ s steps next.
    let job = with_samples s c.args.job.now in
    let at = goal.at.returns-in_default-signal_values_on-clause-made c in
    let a = at.After-deref-3 in
    let n = many at.After-min-many in
    sized s a next n _ _
    (part_blocked job c.args.self.now c.signal_values_on.new.self c.args.t
    (get_or c.deref-2.result.now c.output_of-k.result.0 0) c.output_of-k.result.1
    c.deref-3.result.now c.index.result.now c.in_default-signal_values_on.field-0 next
    (state_read next (λ e. (cc)) c.index.ensures) c.output_of-k.ensures.phaser (numbered a)
    (again s a next) (part s a next n)
    (λ m at. c.in_default-signal_values_on.ensures.reply m.history (bare_cores s at.cores))
    (λ m at. full_cores s (c.in_default-signal_values_on.ensures.cores m.history
    (bare_cores s at.cores)))
    c.signal_values_on.ensures.others.0 c.signal_values_on.ensures.others.1)

-- the state is as it was
read_again : {steps : ℕ} (s : List (List ℤ)) (c : After-index_mut)
    (next : IsNextIn steps (with_samples s c.args.job.now) c.args.self.now c.args.t (signals 0))
    → c.index_mut.result.now ≡ c.index.result.now
read_again s c next =
    read_same c.args.self.now.tasks.items c.args.t c.index_mut.result.now c.index.result.now
    (state_there next (λ e. (cc)))
    (c.index_mut.ensures.value
    ∙ ap (λ xs. get_or xs c.args.t c.index_mut.result.now)
    (ap (λ v. v.items) c.signal_values_on.ensures.others.0))
    c.index.ensures

pub drop_first-requires : goal.drop_first-requires
drop_first-requires c =
    let s = c.requires.next.0 in
    let next = c.requires.next.2 in
    let a = goal.at.drop_first-requires c in
    let few = (many a.After-min-many).few in
    let long : length c.index_mut.result.now.made.items
    ≡ length c.index-state.result.now.made.items =
    ap (λ state. length state.made.items) (read_again s a.After-index_mut next
    ∙ sym (same s a.After-deref-3 next)) in
    omega arith

pub returns-clause-made : goal.returns-clause-made
returns-clause-made c = λ s steps next.
    let job = with_samples s c.args.job.now in
    let at = goal.at.returns-clause-made c in
    let a = at.After-deref-3 in
    let n = many at.After-min-many in
    let state = c.index.result.now in
    let items = ap (λ v. v.items) c.signal_values_on.ensures.others.0 in
    let it = read_again s at.After-index_mut next in
    let put = put_many c.index-state.result.now.made.items c.deref-3.result.now c.min-many.result
    n.few (are a) in
    sized s a next n _ _
    (part_turn job c.args.self.now _ c.args.t
    (get_or c.deref-2.result.now c.output_of-k.result.0 0) c.output_of-k.result.1
    c.in-Ok.field-0 c.deref-3.result.now state c.drop_first.new.made next
    (state_read next (λ e. (cc)) c.index.ensures) c.output_of-k.ensures.phaser (numbered a)
    (again s a next) (part s a next n)
    (λ m at. c.in-Ok.ensures.reply m.history (bare_cores s at.cores))
    (λ m at. full_cores s (c.in-Ok.ensures.cores m.history (bare_cores s at.cores)))
    (set_read (λ s. with_made s c.drop_first.new.made) c.args.self.now.tasks.items
    c.signal_values_on.new.self.tasks.items c.args.t state c.index_mut.result.now
    items (state_there next (λ e. (cc))) c.index.ensures c.index_mut.ensures.value)
    c.signal_values_on.ensures.others.1
    (c.drop_first.ensures.items
    ∙ ap (λ k. drop k c.index_mut.result.now.made.items) (sym put)
    ∙ ap (λ state. drop (length c.deref-3.result.now) state.made.items) it)
    (c.drop_first.ensures.room ∙ ap (λ state. state.made.cap) it))
