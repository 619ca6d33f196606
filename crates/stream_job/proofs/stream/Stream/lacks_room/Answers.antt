-- The line keeps as many values as the sink received and did not hand over.
use Rattle.std.proofs.Common.{◌≡◌, ℕ, ℤ, List, ◌+◌, ◌-◌, ◌<◌, ◌≤◌, true, false, length, refl, sym, ap, subst, ◌∙◌, arith}
use Rattle.std.specs.Prelude.{nat_lt, vec_capacity, vec_len}
use Rattle.std.proofs.lemmas.Bool.{lt-ltb, ltb-false}
use Rattle.std.proofs.lemmas.List.Elements.{All-get_or}
use Rattle.std.proofs.lemmas.Option.{slice_get_read}
use Rattle.stream_lists.specs.Jobs.{with_samples}
use Rattle.stream_lists.specs.Lists.{is_sink_at}
use Rattle.graph_runs.specs.Moments.{Moment}
use Rattle.graph_runs.specs.NextBlocks.{block_up_to}
use Rattle.stream_job.specs.Stepping.{HasRoomNext, MayStep}
use Rattle.stream_job.specs.Machines.{HasRoom}
use Rattle.stream_job.specs.SinkLines.{kept_by}
use Rattle.stream_job.specs.Streams.{IsStreamAt, StreamState, line_room}
use Rattle.stream_job.proofs.FedTurns.{has_room_by}
use Rattle.stream_job.proofs.Stopping.{line_holds, line_there, no_room_left, no_room_over, state_at, with_samples_lines}
use Rattle.stream_job.proofs.stream.Stream.lacks_room.Goals as goal
use Rattle.stream_job.proofs.stream.Stream.lacks_room.Goals.{After-block-steps}

task_there : (c : After-block-steps) → c.args.t < length c.self.inside.job.graph.tasks
task_there c =
    let P : StreamState → Type 0 = λ w. c.args.t < length w.job.graph.tasks in
    subst P (sym c.self.view_is) c.requires.task

sink_is : (c : After-block-steps) → is_sink_at c.self.inside.job c.args.t ≡ true
sink_is c =
    let P : StreamState → Type 0 = λ w. is_sink_at w.job c.args.t ≡ true in
    subst P (sym c.self.view_is) c.requires.sink

may : (c : After-block-steps) → MayStep c.self.inside.job c.self.inside.machine c.args.t c.args.most
may c =
    let P : StreamState → Type 0 = λ w. MayStep w.job w.machine c.args.t c.args.most in
    subst P (sym c.self.view_is) c.requires.most

pub index-requires : goal.index-requires
index-requires c =
    let b = (goal.at.index-requires c).After-block-steps in
    let s = c.self.invariant.0.0 in
    let m = c.self.invariant.0.1 in
    let at = c.self.invariant.0.3 in
    let job = with_samples s c.self.inside.job in
    let lines = c.self.inside.machine.lines in
    let long : vec_len lines ≡ length lines.items = lines.ok.0 in
    let lt = line_there job c.self.inside.machine m c.args.t c.index-state.result.now at.machine
    (state_at job c.self.inside.machine m c.args.t c.index-state.result.now at.machine
    (task_there b) c.index-state.ensures) (sink_is b) in
    omega arith

pub returns-then-kept-room-clause-lacks : goal.returns-then-kept-room-clause-lacks
returns-then-kept-room-clause-lacks c =
    let b = (goal.at.returns-then-kept-room-clause-lacks c).After-block-steps in
    let P : StreamState → Type 0 = λ w. (s : List (List ℤ)) (m : Moment) (given : ℕ → List ℤ)
    → IsStreamAt w s m given → let job = with_samples s w.job in
    nat_lt (line_room job c.args.t)
    (length (kept_by job m c.args.t) - length (given c.args.t) + block_up_to c.args.most job m c.args.t)
    ≡ nat_lt c.line_room-room.result c.len-kept.result in
    subst P c.self.view_is (λ s m given at.
    (let job = with_samples s c.self.inside.job in
    let machine = c.self.inside.machine in
    let state = c.index-state.result.now in
    let line = c.index.result.now in
    let found = state_at job machine m c.args.t state at.machine (task_there b)
    c.index-state.ensures in
    let held = line_holds job given machine m c.args.t state line at.machine found (sink_is b)
    (with_samples_lines s c.self.inside.job given m machine.lines.items at.lines)
    (slice_get_read machine.lines.items (length machine.lines.items) state.sink line refl
    (line_there job machine m c.args.t state at.machine found (sink_is b)) c.index.ensures) in
    let many : c.len-kept.result ≡ length (kept_by job m c.args.t) - length (given c.args.t) =
    c.len-kept.ensures ∙ line.values.ok.0 ∙ held.1 in
    ap (λ n. nat_lt n
    (length (kept_by job m c.args.t) - length (given c.args.t) + block_up_to c.args.most job m c.args.t))
    (sym c.line_room-room.ensures)
    ∙ ap (λ n. nat_lt c.line_room-room.result (n + block_up_to c.args.most job m c.args.t)) (sym many)
    ∙ no_room_over c.line_room-room.result c.len-kept.result (block_up_to c.args.most job m c.args.t)
    c.if-kept-room.true))

pub returns-else-kept-room-clause-lacks : goal.returns-else-kept-room-clause-lacks
returns-else-kept-room-clause-lacks c =
    let b = (goal.at.returns-else-kept-room-clause-lacks c).After-block-steps in
    let P : StreamState → Type 0 = λ w. (s : List (List ℤ)) (m : Moment) (given : ℕ → List ℤ)
    → IsStreamAt w s m given → let job = with_samples s w.job in
    nat_lt (line_room job c.args.t)
    (length (kept_by job m c.args.t) - length (given c.args.t) + block_up_to c.args.most job m c.args.t)
    ≡ nat_lt (c.line_room-room.result - c.len-kept.result) c.block-steps.result in
    subst P c.self.view_is (λ s m given at.
    (let job = with_samples s c.self.inside.job in
    let machine = c.self.inside.machine in
    let state = c.index-state.result.now in
    let line = c.index.result.now in
    let found = state_at job machine m c.args.t state at.machine (task_there b)
    c.index-state.ensures in
    let held = line_holds job given machine m c.args.t state line at.machine found (sink_is b)
    (with_samples_lines s c.self.inside.job given m machine.lines.items at.lines)
    (slice_get_read machine.lines.items (length machine.lines.items) state.sink line refl
    (line_there job machine m c.args.t state at.machine found (sink_is b)) c.index.ensures) in
    let many : c.len-kept.result ≡ length (kept_by job m c.args.t) - length (given c.args.t) =
    c.len-kept.ensures ∙ line.values.ok.0 ∙ held.1 in
    ap (λ n. nat_lt n
    (length (kept_by job m c.args.t) - length (given c.args.t) + block_up_to c.args.most job m c.args.t))
    (sym c.line_room-room.ensures)
    ∙ ap (λ n. nat_lt c.line_room-room.result (n + block_up_to c.args.most job m c.args.t)) (sym many)
    ∙ ap (λ n. nat_lt c.line_room-room.result (c.len-kept.result + n))
    (c.block-steps.ensures m (at.machine.tasks c.args.t state found).stands.begun)
    ∙ no_room_left c.line_room-room.result c.len-kept.result c.block-steps.result
    c.if-kept-room.false))

pub returns-then-kept-room-clause-room : goal.returns-then-kept-room-clause-room
returns-then-kept-room-clause-room c = λ less.
    absurd (let lt = lt-ltb c.line_room-room.result c.len-kept.result c.if-kept-room.true in
    let wrong : true ≡ false = sym lt ∙ less in cc)

pub returns-else-kept-room-clause-room : goal.returns-else-kept-room-clause-room
returns-else-kept-room-clause-room c = λ enough.
    let b = (goal.at.returns-else-kept-room-clause-room c).After-block-steps in
    let P : StreamState → Type 0 = λ w. (s : List (List ℤ)) (m : Moment) (given : ℕ → List ℤ)
    → IsStreamAt w s m given → HasRoomNext c.args.most (with_samples s w.job) w.machine c.args.t in
    subst P c.self.view_is (λ s m given at.
    (let job = with_samples s c.self.inside.job in
    let machine = c.self.inside.machine in
    let state = c.index-state.result.now in
    let line = c.index.result.now in
    let found = state_at job machine m c.args.t state at.machine (task_there b)
    c.index-state.ensures in
    let there = line_there job machine m c.args.t state at.machine found (sink_is b) in
    let read = slice_get_read machine.lines.items (length machine.lines.items) state.sink line refl
    there c.index.ensures in
    let held = line_holds job given machine m c.args.t state line at.machine found (sink_is b)
    (with_samples_lines s c.self.inside.job given m machine.lines.items at.lines) read in
    let left : c.block-steps.result ≤ c.line_room-room.result - c.len-kept.result =
    ltb-false (c.line_room-room.result - c.len-kept.result) c.block-steps.result enough in
    let fits : c.len-kept.result ≤ c.line_room-room.result = c.if-kept-room.false in
    let own : line_room c.self.inside.job line.task ≤ vec_capacity line.values =
    (subst (HasRoom (line_room c.self.inside.job)) (sym c.index.ensures)
    (All-get_or (HasRoom (line_room c.self.inside.job)) machine.lines.items state.sink line there
    c.self.invariant.5)).room in
    let owner : line_room c.self.inside.job line.task ≡ line_room c.self.inside.job c.args.t =
    ap (line_room c.self.inside.job) held.0 in
    let most = c.line_room-room.ensures in
    let long = c.len-kept.ensures in
    has_room_by c.args.most job machine m c.args.t c.block-steps.result state line (may b) at.machine
    found read
    (c.block-steps.ensures m) (omega arith)))
