-- What a task does next at a moment, by the order of its events: the rest of its step; at a
-- boundary first its children that come there, then `until`, the end of its input, and a step.
use Rattle.std.specs.Prelude.{◌<◌, [], ◌≡◌, ℕ, suc, ◌+◌, Bool, false, not, ◌&&◌, ◌||◌, ◌==◌, List, length, Option, Some, None, is_some, unwrap_or, nat_le, nat_lt, if◌then◌else◌, true}
use Rattle.std.specs.List.{range_with_len, find}
use Rattle.phase_base.specs.Members.{signal_phases, least}
use Rattle.phase_history.specs.Histories.{History, members_of, done_of, has_dropped}
use Rattle.graph_base.specs.declared.line.Kind.{Kind}
use Rattle.graph_base.specs.declared.line.Kind.TheVariants.{Source, Peer}
use Rattle.graph_base.specs.declared.line.Parent.{Parent}
use Rattle.graph_base.specs.declared.registration.Registration.{Registration}
use Rattle.graph_base.specs.Graphs.{Task, task_at}
use Rattle.graph_base.specs.Registrations.{registrations_of, signalled_by}
use Rattle.stream_lists.specs.Jobs.{Job, samples_at}
use Rattle.graph_runs.specs.Moments.{Moment, input_at, made_now, first_input}

-- what a task does next: nothing, where it is not live; registers its child c; leaves; signals its
-- next sample, or what is next on output j; waits on input k for its next step; a peer waits on E
pub data Next : Type 0 where
  is_not_live : Next
  registers : (c : ℕ) → Next
  leaves : Next
  samples : Next
  signals : (j : ℕ) → Next
  waits : (k : ℕ) → Next
  exchanges : Next

-- ---- registrations

-- what task t is registered for, in the order of its line
abbrev pub registrations_at : Job → ℕ → List Registration
registrations_at job t = registrations_of job.graph (task_at job.graph t)

-- the number of task t on phaser p, where it has one
abbrev pub number_on : Moment → ℕ → ℕ → ℕ
number_on m t p = unwrap_or (m.number p t) 0

-- whether task t is registered for this
abbrev pub has_registered : Moment → ℕ → Registration → Bool
has_registered m t r = is_some (m.number r.phaser t)

-- whether task t has left the phaser of this registration
abbrev pub has_left : Moment → ℕ → Registration → Bool
has_left m t r = has_dropped (m.history r.phaser) (number_on m t r.phaser)

-- the first of its registrations that task t has not made
abbrev pub first_missing : Job → Moment → ℕ → Option Registration
first_missing job m t = find (λ r. not (has_registered m t r)) (registrations_at job t)

-- the first of its registrations that task t has not left
abbrev pub first_kept : Job → Moment → ℕ → Option Registration
first_kept job m t = find (λ r. not (has_left m t r)) (registrations_at job t)

-- whether task t is live: it is registered on all phasers of its line, and has not left them all
abbrev pub is_live : Job → Moment → ℕ → Bool
is_live job m t =
    nat_lt t (length job.graph.tasks) && not (is_some (first_missing job m t))
    && is_some (first_kept job m t)

-- ---- within a step

-- whether task t has still to put a value that its begun steps made on output j
abbrev pub is_owed : Job → Moment → ℕ → ℕ → Bool
is_owed job m t j = nat_lt (length (m.put t j)) (length (made_now job m t j))

-- the first of its outputs on which it has
abbrev pub first_owed : Job → Moment → ℕ → Option ℕ
first_owed job m t =
    find (is_owed job m t) (range_with_len 0 (length (signalled_by (task_at job.graph t))))

-- a peer puts no more on Y, its output 1, than it has taken from E: whether it waits there first
abbrev pub waits_first : Kind → ℕ → ℕ → ℕ → Bool
waits_first Peer (suc j) put taken = nat_le taken put
waits_first kind j put taken = false

-- the value on output j is next, but for a peer's wait
abbrev pub in_step : Job → Moment → ℕ → ℕ → Next
in_step job m t j =
    if waits_first (task_at job.graph t).kind j (length (m.put t j)) (length (m.taken t 1))
    then exchanges else signals j

-- ---- at a boundary

-- whether a line's parent is task t, and the child comes after so many steps of it
abbrev pub comes_by : ℕ → ℕ → Option Parent → Bool
comes_by t steps None = false
comes_by t steps (Some parent) = parent.task == t && parent.at == steps

-- whether task c is a child of task t that comes at this boundary, and is not there yet
abbrev pub is_due : Job → Moment → ℕ → ℕ → Bool
is_due job m t c =
    comes_by t (m.begun t) (task_at job.graph c).parent && is_some (first_missing job m c)

-- the first child of task t that is due, in the order of the lines
abbrev pub first_due : Job → Moment → ℕ → Option ℕ
first_due job m t = find (is_due job m t) (range_with_len 0 (length job.graph.tasks))

-- whether a history has a task that signals
abbrev pub has_signaller : History → Bool
has_signaller h = is_some (least (signal_phases (members_of h)))

-- whether input k has ended: nobody signals there, and all its complete phases are taken
abbrev pub has_run_out : Moment → Task → ℕ → ℕ → Bool
has_run_out m task t k =
    not (has_signaller (m.history (input_at task k)))
    && nat_le (done_of (m.history (input_at task k))) (m.offset t + length (m.taken t k))

-- whether so many steps are all that `until` allows
abbrev pub is_cut : Option ℕ → ℕ → Bool
is_cut None steps = false
is_cut (Some until) steps = until == steps

-- whether the input of task t has ended: a source's where no sample is left, another's where the
-- phaser has that its next step would wait for first
abbrev pub has_input_ended : Job → Moment → ℕ → Kind → Bool
has_input_ended job m t Source = nat_le (length (samples_at job t)) (m.begun t)
has_input_ended job m t kind =
    has_run_out m (task_at job.graph t) t (first_input (task_at job.graph t) (m.begun t))

-- how the next step begins
abbrev pub next_step : Task → ℕ → Kind → Next
next_step task steps Source = samples
next_step task steps kind = waits (first_input task steps)

-- no child is due: the task leaves, or begins its next step
abbrev pub without_child : Job → Moment → ℕ → Next
without_child job m t =
    let task = task_at job.graph t in
    if is_cut task.until (m.begun t) || has_input_ended job m t task.kind then leaves
    else next_step task (m.begun t) task.kind

-- nothing is owed: a child that is due comes first
abbrev pub at_boundary : Job → Moment → ℕ → Option ℕ → Next
at_boundary job m t (Some c) = registers c
at_boundary job m t None = without_child job m t

-- of a live task: what is owed comes first
abbrev pub of_live : Job → Moment → ℕ → Option ℕ → Next
of_live job m t (Some j) = in_step job m t j
of_live job m t None = at_boundary job m t (first_due job m t)

-- what task t does next
abbrev pub next_of : Job → Moment → ℕ → Next
next_of job m t = if is_live job m t then of_live job m t (first_owed job m t) else is_not_live

-- ---- children to come

-- a child that is not registered on all phasers of its line begins so many steps after its parent,
-- and has done nothing. The opening sets both, and no event of a live task changes them
pub record HasChildrenToCome (job : Job) (m : Moment) : Type 0 where
  pub offset : (c : ℕ) (u : Parent) → c < length job.graph.tasks
      → (task_at job.graph c).parent ≡ Some u → is_some (first_missing job m c) ≡ true
      → m.offset c ≡ m.offset u.task + u.at
  pub nothing_begun : (c : ℕ) → c < length job.graph.tasks
      → is_some (first_missing job m c) ≡ true → m.begun c ≡ 0
  pub nothing_put : (c j : ℕ) → c < length job.graph.tasks
      → is_some (first_missing job m c) ≡ true → m.put c j ≡ []
  pub nothing_taken : (c k : ℕ) → c < length job.graph.tasks
      → is_some (first_missing job m c) ≡ true → m.taken c k ≡ []
