-- The line of a sink that joins now begins, and the others stay.
use Rattle.std.proofs.Common.{◌≡◌, ◌<◌, ℕ, ◌∷◌, Bool, cond, true, false, Some, length, get_or, set, refl, sym, ap, subst, ◌∙◌, arith}
use Rattle.std.proofs.lemmas.Option.{slice_get_read}
use Rattle.std.specs.Vec.{vec_len}
use Rattle.graph_base.specs.Graphs.{task_at}
use Rattle.phase_base.specs.declared.mode.Mode.{Mode}
use Rattle.phase_history.specs.Histories.{done_of}
use Rattle.phase_history.specs.declared.event.Event.TheVariants.{Registered, RegisteredNow}
use Rattle.graph_runs.specs.Turned.{with_at}
use Rattle.stream_lists.specs.Jobs.{with_samples}
use Rattle.stream_job.specs.Stepping.{LineHasBegun}
use Rattle.stream_job.specs.Machines.{HasCores}
use Rattle.stream_job.proofs.Setting.{bare_cores, on_ok}
use Rattle.stream_job.proofs.Begins.{now_line, lines_begin, lines_plain}
use Rattle.stream_job.proofs.machine.Machine.add_on.Goals as goal

pub returns-then-not-task-clause-lines : goal.returns-then-not-task-clause-lines
returns-then-not-task-clause-lines c =
    let job = c.args.job.now in
    let line = c.task.ensures.task ∙ ap (λ g. task_at g c.args.c) c.graph.ensures.graph in
    let now : (task_at job.graph c.args.c).joins_now ≡ false =
    ap (λ t. t.joins_now) (sym line) ∙ c.if-not-task.true in
    on_ok c.register_on.result (λ accepted s m at.
    lines_plain (with_samples s job) m c.args.self.now c.args.c (done_of (m.history c.args.p))
    c.register_on.new.self.lines.items now (ap (λ l. l.items) c.register_on.ensures.lines))
    c.register_on.ensures.ok

pub index_mut-requires : goal.index_mut-requires
index_mut-requires c =
    let job = with_samples c.requires.machine.0 c.args.job.now in
    let m = c.requires.machine.1.0 in
    let at = c.requires.machine.1.1 in
    let line = c.task.ensures.task ∙ ap (λ g. task_at g c.args.c) c.graph.ensures.graph in
    let now : (task_at job.graph c.args.c).joins_now ≡ true =
    ap (λ t. t.joins_now) (sym line) ∙ c.if-not-task.false in
    let many = at.tasks_many in
    let there : c.args.c < length job.graph.tasks = c.requires.places.1 in
    let found = slice_get_read c.args.self.now.tasks.items (length c.args.self.now.tasks.items)
    c.args.c c.index.result.now refl (omega arith)
    (c.index.ensures ∙ ap (λ v. get_or v.items c.args.c c.index.result.now) c.register_now_on.ensures.tasks) in
    let items : vec_len c.register_now_on.new.self.lines
    ≡ length c.register_now_on.new.self.lines.items = c.register_now_on.new.self.lines.ok.0 in
    let same : length c.register_now_on.new.self.lines.items
    ≡ length c.args.self.now.lines.items = ap (λ l. length l.items) c.register_now_on.ensures.lines in
    omega (arith, now_line job m c.args.self.now c.args.c c.index.result.now at there found now)

pub returns-clause-lines : goal.returns-clause-lines
returns-clause-lines c = λ s m at.
    (let job = with_samples s c.args.job.now in
    let line = c.task.ensures.task ∙ ap (λ g. task_at g c.args.c) c.graph.ensures.graph in
    let now : (task_at job.graph c.args.c).joins_now ≡ true =
    ap (λ t. t.joins_now) (sym line) ∙ c.if-not-task.false in
    let many = at.tasks_many in
    let there : c.args.c < length job.graph.tasks = c.requires.places.1 in
    let found = slice_get_read c.args.self.now.tasks.items (length c.args.self.now.tasks.items)
    c.args.c c.index.result.now refl (omega arith)
    (c.index.ensures ∙ ap (λ v. get_or v.items c.args.c c.index.result.now) c.register_now_on.ensures.tasks) in
    let phase : c.in_ok-phase.phase ≡ done_of (m.history c.args.p) =
    (c.in_ok-phase.ensures.ok m.history (bare_cores s at.cores)).1 in
    subst (λ d. LineHasBegun job m c.args.c d c.args.self.now.lines.items
    (set c.register_now_on.new.self.lines.items c.index.result.now.sink
    (record c.index_mut.result.now { start = Some c.in_ok-phase.phase }))) phase
    (lines_begin job m c.args.self.now c.args.c c.in_ok-phase.phase c.index.result.now
    c.register_now_on.new.self.lines.items c.index_mut.result.now at there found now
    (ap (λ l. l.items) c.register_now_on.ensures.lines) c.index_mut.ensures.value))

pub register_on-requires-clause-cores : goal.register_on-requires-clause-cores
register_on-requires-clause-cores c =
    let at = c.requires.machine.1.1 in
    (c.requires.machine.1.0.history, bare_cores c.requires.machine.0 at.cores)

pub register_now_on-requires-clause-cores : goal.register_now_on-requires-clause-cores
register_now_on-requires-clause-cores c =
    let at = c.requires.machine.1.1 in
    (c.requires.machine.1.0.history, bare_cores c.requires.machine.0 at.cores)

-- by the event
event_is : (now : Bool) (b : Bool) (parent child : ℕ) (mode : Mode) → now ≡ b
    → cond now (RegisteredNow parent child) (Registered parent child mode)
    ≡ cond b (RegisteredNow parent child) (Registered parent child mode)
event_is now b parent child mode is =
    ap (λ x. cond x (RegisteredNow parent child) (Registered parent child mode)) is

pub returns-then-not-task-clause-cores : goal.returns-then-not-task-clause-cores
returns-then-not-task-clause-cores c =
    let job = c.args.job.now in
    let line = c.task.ensures.task ∙ ap (λ g. task_at g c.args.c) c.graph.ensures.graph in
    let now : (task_at job.graph c.args.c).joins_now ≡ false =
    ap (λ t. t.joins_now) (sym line) ∙ c.if-not-task.true in
    on_ok c.register_on.result (λ cores h has.
    subst (λ event. HasCores job (with_at c.args.p (event ∷ h c.args.p) h)
    c.register_on.new.self.cores.items)
    (sym (event_is (task_at job.graph c.args.c).joins_now false c.args.parent c.args.child
    c.args.mode now)) (cores h has))
    c.register_on.ensures.cores

pub returns-clause-cores : goal.returns-clause-cores
returns-clause-cores c = λ h has.
    (let job = c.args.job.now in
    let line = c.task.ensures.task ∙ ap (λ g. task_at g c.args.c) c.graph.ensures.graph in
    let now : (task_at job.graph c.args.c).joins_now ≡ true =
    ap (λ t. t.joins_now) (sym line) ∙ c.if-not-task.false in
    subst (λ event. HasCores job (with_at c.args.p (event ∷ h c.args.p) h)
    c.register_now_on.new.self.cores.items)
    (sym (event_is (task_at job.graph c.args.c).joins_now true c.args.parent c.args.child
    c.args.mode now)) (c.in_ok-phase.ensures.cores h has))
