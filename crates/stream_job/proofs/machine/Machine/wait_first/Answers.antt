-- A task waits as the number that stands at the registration of its input, for the steps of its next
-- block.
use Rattle.std.proofs.Common.{◌≡◌, ◌<◌, ◌≤◌, ◌+◌, ◌*◌, ◌∷◌, length, get_or, map, set, take, sym, ap, subst, ◌∙◌, arith, List, ℤ}
use Rattle.std.proofs.lemmas.List.{length-take}
use Rattle.std.specs.Prelude.{Ok, IfSome}
use Rattle.std.specs.List.{All}
use Rattle.phase_base.specs.declared.limits.TheConstants.{PHASES_MAX}
use Rattle.phase_history.specs.declared.event.Event.TheVariants.{Waited}
use Rattle.phase_history.specs.Histories.{done_of}
use Rattle.phase_history.specs.Replies.{after_wait_block}
use Rattle.graph_base.specs.Graphs.{task_at}
use Rattle.stream_lists.specs.Lists.{number}
use Rattle.graph_runs.specs.Moments.{Moment}
use Rattle.graph_runs.specs.Nexts.{waits}
use Rattle.graph_runs.specs.Steps.{HasFilter}
use Rattle.graph_runs.specs.Turned.{with_at}
use Rattle.stream_lists.specs.Jobs.{with_samples}
use Rattle.stream_job.specs.Stepping.{with_more, HasRoomIn, IsNextIn}
use Rattle.stream_job.specs.Places.{StateHasTaken}
use Rattle.stream_job.specs.SinkLines.{kept_of}
use Rattle.stream_job.specs.Machines.{HasCores, HasRoom, IsMachineAt, kept_behind}
use Rattle.stream_job.proofs.Lively.{state_read, state_there}
use Rattle.stream_job.proofs.Setting.{read_same, bare_cores, full_cores}
use Rattle.stream_job.proofs.Rooms.{room_of}
use Rattle.stream_job.proofs.Waits.{AsksFirst, asks_places, GotAll, got_answered, done_few, first_waits_at, first_few}
use Rattle.stream_job.proofs.FirstTurns.{MayTake, may_take, first_answer, first_turn, blocked_first, first_never_ended, sink_there}
use Rattle.stream_job.proofs.machine.Machine.wait_first.Goals.{After-wait_block_into, After-deref-in-Ok-Values, After-index_mut}
use Rattle.stream_job.proofs.machine.Machine.wait_first.Goals as goal

-- ---- what the answers share

-- what the task asks of its phaser
asks : (s : List (List ℤ)) (c : After-wait_block_into)
    (next : IsNextIn c.args.most (with_samples s c.args.job.now) c.args.self.now c.args.t (waits c.args.k))
    → AsksFirst c.args.most (with_samples s c.args.job.now) c.args.self.now c.args.t c.args.k
    (get_or c.deref.result.now c.args.k 0) c.input_of-phaser.result c.block-steps.result
    c.index.result.now
asks s c next =
    let again = state_read next (λ e. (cc)) c.index-2.ensures in
    record {
      next = next;
      found = state_read next (λ e. (cc)) c.index.ensures;
      phaser = c.input_of-phaser.ensures.phaser;
      numbered = ap (λ ns. get_or ns c.args.k 0) c.deref.ensures;
      many = λ m at.
          c.block-steps.ensures m (at.tasks c.args.t c.index-2.result.now again).stands.begun;
    }

-- there is room for its block
room : (s : List (List ℤ)) (c : After-wait_block_into)
    (next : IsNextIn c.args.most (with_samples s c.args.job.now) c.args.self.now c.args.t (waits c.args.k))
    → c.block-steps.result ≤ length c.buffers.inside.outcomes.items
room s c next =
    let as_many = c.buffers.invariant.0 in
    let view = c.buffers.view_is in
    let outcomes = c.buffers.inside.outcomes.items in
    let cut = asks_places (asks s c next) c.args.buffers.now outcomes c.requires.places (omega arith) in
    omega (arith, length-take c.block-steps.result outcomes)

-- all that it got stands in the first places
all : (s : List (List ℤ)) (c : After-deref-in-Ok-Values)
    (next : IsNextIn c.args.most (with_samples s c.args.job.now) c.args.self.now c.args.t (waits c.args.k))
    → (m : Moment) → IsMachineAt (with_samples s c.args.job.now) m c.args.self.now
    → GotAll (with_samples s c.args.job.now) m c.input_of-phaser.result (get_or c.deref.result.now c.args.k 0)
    c.block-steps.result c.in-Ok-Values.phase c.in-Ok-Values.count
    (take c.in-Ok-Values.count c.deref-in-Ok-Values.result.now)
all s c next m at =
    let job = with_samples s c.args.job.now in
    let n = get_or c.deref.result.now c.args.k 0 in
    let v = c.in-Ok-Values in
    subst (λ l. GotAll job m c.input_of-phaser.result n c.block-steps.result v.phase v.count (take v.count l))
    (sym c.deref-in-Ok-Values.ensures.value)
    (got_answered job m c.input_of-phaser.result n c.block-steps.result v.phase v.count v.field-0
    c.buffers.inside.outcomes.items c.wait_block_into.new.places.items v.field-0-is
    (v.ensures.reply m.history (bare_cores s at.cores))
    (v.ensures.places m.history (bare_cores s at.cores)))

-- and its state may take it
may : (s : List (List ℤ)) (c : After-index_mut)
    (next : IsNextIn c.args.most (with_samples s c.args.job.now) c.args.self.now c.args.t (waits c.args.k))
    → AsksFirst c.args.most (with_samples s c.args.job.now) c.args.self.now c.args.t c.args.k
    (get_or c.deref.result.now c.args.k 0) c.input_of-phaser.result c.block-steps.result
    c.index.result.now
    → ((m : Moment) → IsMachineAt (with_samples s c.args.job.now) m c.args.self.now
    → GotAll (with_samples s c.args.job.now) m c.input_of-phaser.result (get_or c.deref.result.now c.args.k 0)
    c.block-steps.result c.in-Ok-Values.phase c.in-Ok-Values.count
    (take c.in-Ok-Values.count c.deref-in-Ok-Values.result.now))
    → MayTake (with_samples s c.args.job.now) c.args.t (take c.in-Ok-Values.count c.deref-in-Ok-Values.result.now)
    c.index_mut.result.now
may s c next asks all =
    let job = (with_samples s c.args.job.now) in
    let old = c.args.self.now in
    let next = asks.next in
    let v = c.in-Ok-Values in
    let got = take v.count c.deref-in-Ok-Values.result.now in
    let it = read_same old.tasks.items c.args.t c.index.result.now c.index_mut.result.now
    (state_there next (λ e. (cc))) c.index.ensures (c.index_mut.ensures.value
    ∙ ap (λ v. get_or v.items c.args.t c.index_mut.result.now) c.wait_block_into.ensures.tasks) in
    subst (MayTake job c.args.t got) it (may_take job old next.some.0 c.args.t c.args.k
    (get_or c.deref.result.now c.args.k 0) c.input_of-phaser.result c.block-steps.result v.phase v.count
    got c.index.result.now asks next.some.1 (all next.some.0 next.some.1)
    c.input_of-phaser.ensures.within)

-- ---- the answers

pub input_of-phaser-requires-clause-input : goal.input_of-phaser-requires-clause-input
input_of-phaser-requires-clause-input c =
    let next = c.requires.next.1 in
    first_few (with_samples c.requires.next.0 c.args.job.now) c.args.self.now next.some.0 c.args.t
    c.args.k next next.some.1

pub offset_bounds-deref-k : goal.offset_bounds-deref-k
offset_bounds-deref-k c =
    let s = c.requires.next.0 in
    let next = c.requires.next.1 in
    let job = with_samples s c.args.job.now in
    let found = state_read next (λ e. (cc)) c.index.ensures in
    let place = (first_waits_at job c.args.self.now next.some.0 c.args.t c.args.k
    c.index.result.now next next.some.1 found).place in
    let long : length c.deref.result.now ≡ length c.index.result.now.numbers.items =
    ap length c.deref.ensures in
    let small : length c.deref.result.now * 8 < 9223372036854775808 = c.deref.type_inv.1 in
    record { fits = omega arith }

pub bounds-deref-k : goal.bounds-deref-k
bounds-deref-k c =
    let s = c.requires.next.0 in
    let next = c.requires.next.1 in
    let job = with_samples s c.args.job.now in
    let found = state_read next (λ e. (cc)) c.index.ensures in
    let place = (first_waits_at job c.args.self.now next.some.0 c.args.t c.args.k
    c.index.result.now next next.some.1 found).place in
    let long : length c.deref.result.now ≡ length c.index.result.now.numbers.items =
    ap length c.deref.ensures in
    omega arith

pub wait_block_into-requires-clause-room : goal.wait_block_into-requires-clause-room
wait_block_into-requires-clause-room c =
    let s = c.requires.next.0 in
    let next = c.requires.next.1 in
    let found = state_read next (λ e. (cc)) c.index.ensures in
    let again = state_read next (λ e. (cc)) c.index-2.ensures in
    let as_many = c.buffers.invariant.0 in
    let view = c.buffers.view_is in
    let outcomes = c.buffers.inside.outcomes.items in
    let cut = asks_places (record {
      next = next;
      found = found;
      phaser = c.input_of-phaser.ensures.phaser;
      numbered = ap (λ ns. get_or ns c.args.k 0) c.deref.ensures;
      many = λ m at.
          c.block-steps.ensures m (at.tasks c.args.t c.index-2.result.now again).stands.begun;
    }) c.args.buffers.now outcomes c.requires.places (omega arith) in
    omega (arith, length-take c.block-steps.result outcomes)

pub slice_bounds-got-end : goal.slice_bounds-got-end
slice_bounds-got-end c =
    let s = c.requires.next.0 in
    let next = c.requires.next.1 in
    let job = with_samples s c.args.job.now in
    let a = goal.at.slice_bounds-got-end c in
    sym (all s a.After-deref-in-Ok-Values next next.some.0
    next.some.1).many

pub take-requires-clause-begun : goal.take-requires-clause-begun
take-requires-clause-begun c =
    let s = c.requires.next.0 in
    let next = c.requires.next.1 in
    let job = with_samples s c.args.job.now in
    let a = goal.at.take-requires-clause-begun c in
    (may s a.After-index_mut next (asks s a.After-wait_block_into next)
    (all s a.After-deref-in-Ok-Values next)).begun

pub take-requires-clause-block : goal.take-requires-clause-block
take-requires-clause-block c =
    let s = c.requires.next.0 in
    let next = c.requires.next.1 in
    let job = with_samples s c.args.job.now in
    let a = goal.at.take-requires-clause-block c in (
      (all s a.After-deref-in-Ok-Values next next.some.0
          next.some.1).some,
      (may s a.After-index_mut next (asks s a.After-wait_block_into next)
          (all s a.After-deref-in-Ok-Values next)).block,
    )

pub take-requires-clause-nothing : goal.take-requires-clause-nothing
take-requires-clause-nothing c =
    let s = c.requires.next.0 in
    let next = c.requires.next.1 in
    let job = with_samples s c.args.job.now in
    let a = goal.at.take-requires-clause-nothing c in
    (may s a.After-index_mut next (asks s a.After-wait_block_into next)
    (all s a.After-deref-in-Ok-Values next)).nothing

pub take-requires-clause-room : goal.take-requires-clause-room
take-requires-clause-room c =
    let s = c.requires.next.0 in
    let next = c.requires.next.1 in
    let job = with_samples s c.args.job.now in
    let a = goal.at.take-requires-clause-room c in
    let got = all s a.After-deref-in-Ok-Values next next.some.0 next.some.1 in
    let few = got.few in
    let many = got.many in
    let room = room s a.After-wait_block_into next in
    let as_many = c.buffers.invariant.0 in
    let most = c.buffers.invariant.1 in (
      omega arith,
      (may s a.After-index_mut next (asks s a.After-wait_block_into next)
          (all s a.After-deref-in-Ok-Values next)).room,
    )

pub take-requires-clause-filter : goal.take-requires-clause-filter
take-requires-clause-filter c =
    let s = c.requires.next.0 in
    let next = c.requires.next.1 in
    let job = with_samples s c.args.job.now in
    let found = state_read next (λ e. (cc)) c.index.ensures in
    let it = read_same c.args.self.now.tasks.items c.args.t c.index.result.now c.index_mut.result.now
    (state_there next (λ e. (cc))) c.index.ensures (c.index_mut.ensures.value
    ∙ ap (λ v. get_or v.items c.args.t c.index_mut.result.now) c.wait_block_into.ensures.tasks) in
    let m = next.some.0 in (
      m.taken c.args.t 0,
      subst (λ s. HasFilter (task_at job.graph c.args.t) s.filter (m.taken c.args.t 0)) it
          (next.some.1.tasks c.args.t c.index.result.now found).filter,
    )

pub keep-requires-clause-there : goal.keep-requires-clause-there
keep-requires-clause-there c =
    let s = c.requires.next.0 in
    let next = c.requires.next.1 in
    let job = with_samples s c.args.job.now in
    let found = state_read next (λ e. (cc)) c.index.ensures in
    subst (λ l. IfSome c.sink_of-sink.result (λ i. i < length l.items))
    (sym c.wait_block_into.ensures.lines)
    (sink_there job c.args.self.now next.some.0 c.args.t c.index.result.now
    c.sink_of-sink.result next.some.1 found (c.sink_of-sink.ensures c.index.result.now found))

pub keep-requires-clause-room : goal.keep-requires-clause-room
keep-requires-clause-room c =
    let s = c.requires.next.0 in
    let next = c.requires.next.1 in
    let job = with_samples s c.args.job.now in
    let a = goal.at.keep-requires-clause-room c in
    let old = c.args.self.now in
    let m = c.requires.next.2.0 in
    let at = c.requires.next.2.1 in
    let p = c.input_of-phaser.result in
    let n = get_or c.deref.result.now c.args.k 0 in
    let v = c.in-Ok-Values in
    let got = take v.count c.deref-in-Ok-Values.result.now in
    let asked = asks s a.After-wait_block_into next in
    subst (λ l. IfSome c.sink_of-sink.result (HasRoomIn l.items (length got)))
    (sym c.wait_block_into.ensures.lines)
    (room_of job old c.args.t got c.index.result.now c.sink_of-sink.result
    (c.sink_of-sink.ensures c.index.result.now asked.found)
    (λ sink. c.requires.next.2.2 c.args.k p n got c.index.result.now (next.is m at)
    (first_answer job old m c.args.t c.args.k n p c.block-steps.result v.phase v.count got
    c.index.result.now asked at (all s a.After-deref-in-Ok-Values next m at))
    asked.found sink))

pub told_got-requires : goal.told_got-requires
told_got-requires c =
    let s = c.requires.next.0 in
    let next = c.requires.next.1 in
    let job = with_samples s c.args.job.now in
    let a = goal.at.told_got-requires c in
    let m = next.some.0 in
    let at = next.some.1 in
    let p = c.input_of-phaser.result in
    let got = all s a.After-deref-in-Ok-Values next m at in
    let complete : c.in-Ok-Values.phase + c.in-Ok-Values.count ≤ done_of (m.history p) =
    got.complete in
    let last : done_of (m.history p) ≤ PHASES_MAX =
    done_few job m p at.reached.ran c.input_of-phaser.ensures.within in
    let so_many = got.many in
    omega arith

pub unreachable-requires : goal.unreachable-requires
unreachable-requires c =
    let s = c.requires.next.0 in
    let next = c.requires.next.1 in
    let job = with_samples s c.args.job.now in
    let a = goal.at.unreachable-requires c in
    let p = c.input_of-phaser.result in
    let n = get_or c.deref.result.now c.args.k 0 in
    first_never_ended job c.args.self.now c.args.t c.args.k n p c.block-steps.result
    c.index.result.now (asks s a.After-wait_block_into next)
    (λ m at. c.in-Ok-Ended.ensures.reply m.history (bare_cores s at.cores)
    ∙ ap (λ g. Ok g) c.in-Ok-Ended.field-0-is)

pub returns-in-Ok-Values-clause-made : goal.returns-in-Ok-Values-clause-made
returns-in-Ok-Values-clause-made c = λ s next.
    let job = with_samples s c.args.job.now in
    let old = c.args.self.now in
    let t = c.args.t in
    let k = c.args.k in
    let p = c.input_of-phaser.result in
    let n = get_or c.deref.result.now k 0 in
    let steps = c.block-steps.result in
    let a = goal.at.returns-in-Ok-Values-clause-made c in
    let asked = asks s a.After-wait_block_into next in
    let v = c.in-Ok-Values in
    let got = take v.count c.deref-in-Ok-Values.result.now in
    let all = all s a.After-deref-in-Ok-Values next in
    let tasks = ap (λ v. v.items) c.wait_block_into.ensures.tasks in
    let it = read_same old.tasks.items t c.index_mut.result.now c.index.result.now
    (state_there next (λ e. (cc)))
    (c.index_mut.ensures.value ∙ ap (λ xs. get_or xs t c.index_mut.result.now) tasks)
    c.index.ensures in
    first_turn job old c.keep.new.self t k n p steps v.phase v.count got c.index.result.now
    c.take.new.self c.sink_of-sink.result c.told_got.result asked
    (subst (λ s. StateHasTaken (task_at job.graph t) (map number got) s c.take.new.self) it c.take.ensures.taken)
    (c.sink_of-sink.ensures c.index.result.now asked.found) all
    (λ m at. subst (λ cs. HasCores job (with_at p (Waited n v.count ∷ m.history p) m.history) cs.items)
    (sym c.keep.ensures.cores)
    (subst (λ g. HasCores job (with_at p (after_wait_block (Ok g) n (m.history p)) m.history)
    c.wait_block_into.new.self.cores.items) v.field-0-is (full_cores s (v.ensures.cores m.history (bare_cores s at.cores)))))
    (ap (λ v. v.items) c.keep.ensures.tasks ∙ ap (λ xs. set xs t c.take.new.self) tasks)
    (λ given. c.keep.ensures.lines given
    ∙ ap (λ l. with_more c.sink_of-sink.result (kept_of got)
    (map (kept_behind given) l.items)) c.wait_block_into.ensures.lines)
    (c.keep.ensures.starts
    ∙ ap (λ l. map (λ line. line.start) l.items) c.wait_block_into.ensures.lines)
    (λ room own. c.keep.ensures.own room
    (subst (λ l. All (HasRoom room) l.items) (sym c.wait_block_into.ensures.lines) own))
    c.told_got.ensures

pub returns-in-Err-clause-made : goal.returns-in-Err-clause-made
returns-in-Err-clause-made c = λ s next.
    let job = with_samples s c.args.job.now in
    let old = c.args.self.now in
    let t = c.args.t in
    let k = c.args.k in
    let p = c.input_of-phaser.result in
    let n = get_or c.deref.result.now k 0 in
    let steps = c.block-steps.result in
    let here = (goal.at.returns-in-Err-clause-made c).After-wait_block_into in
    let asked = asks s here next in
    blocked_first job old c.wait_block_into.new.self t k n p steps c.index.result.now c.in-Err.field-0
    asked (λ m at. c.in-Err.ensures.reply m.history (bare_cores s at.cores))
    (λ m at. full_cores s (c.in-Err.ensures.cores m.history (bare_cores s at.cores)))
    c.wait_block_into.ensures.tasks c.wait_block_into.ensures.lines

pub wait_block_into-requires-clause-cores : goal.wait_block_into-requires-clause-cores
wait_block_into-requires-clause-cores c =
    let next = c.requires.next.1 in
    (next.some.0.history, bare_cores c.requires.next.0 next.some.1.cores)
