-- What the code keeps while it composes the lists: the parts of what is sent in each phase, and
-- which lists are still read.
use Rattle.std.specs.Prelude.{◌≡◌, ℕ, ◌<◌, List, length, get_or, Option, Some, None, ◌-◌, ◌==◌, ◌&&◌, ◌||◌, Bool, [], ℤ, is_some, if◌then◌else◌}
use Rattle.std.specs.List.{range_with_len, list_any}
use Rattle.phase_accum.specs.Operations.{Operation, IsPartOf}
use Rattle.graph_base.specs.TaskLines.{HasEnds, HasTaps, HasEvery}
use Rattle.graph_base.specs.declared.line.Kind.TheVariants.{Split}
use Rattle.graph_base.specs.declared.line.TaskLine.{TaskLine}
use Rattle.graph_base.specs.Graphs.{task_at}
use Rattle.stream_lists.specs.Lists.{Contribution, sends_in, is_sink_at}
use Rattle.stream_lists.specs.Jobs.{Job, index_in}
use Rattle.stream_lists.specs.Spans.{signalled_by}
use Rattle.stream_eval.specs.declared.phases.MemberList.{MemberList}

-- ---- what tasks put out

-- what a task puts on a phaser
abbrev pub member_of : MemberList → Contribution
member_of list = (list.offset, list.values.items)

-- the same, where there is something
abbrev pub member_option : Option MemberList → Option Contribution
member_option None = None
member_option (Some list) = Some (member_of list)

-- a task that took so many lists puts something on its output number j
pub record LineMayPut (task : TaskLine) (lists j : ℕ) : Type 0 where
  pub ends : HasEnds task.kind lists (length task.outputs.items)
  pub turn : task.kind ≡ Split → j < length task.outputs.items
  pub taps : HasTaps task.kind task.taps.items task.form
  pub every : HasEvery task.kind task.every

-- each part is that of what the members send in its phase
pub record HasParts {A : Type 0} (op : Operation A) (parts : List A) (members : List Contribution)
    : Type 0 where
  pub each : (n : ℕ) (d : A) → n < length parts
      → IsPartOf op (get_or parts n d) (sends_in members n)

-- ---- the lists that are still read, where the phasers are gone through in the order of their
-- lines

-- whether task t signals phaser p
abbrev pub signals_on : Job → ℕ → ℕ → Bool
signals_on job t p = is_some (index_in (signalled_by (task_at job.graph t)) p)

-- whether task t signals phaser p or one below it
abbrev pub signals_from : Job → ℕ → ℕ → Bool
signals_from job p t =
    list_any (signals_on job t) (range_with_len p (length job.graph.phasers - p))

-- whether phaser q is an input of task t
abbrev pub waits_on : Job → ℕ → ℕ → Bool
waits_on job t q = is_some (index_in (task_at job.graph t).inputs q)

-- whether task t is a sink on phaser q
abbrev pub sinks_on : Job → ℕ → ℕ → Bool
sinks_on job t q = is_sink_at job t && get_or (task_at job.graph t).inputs 0 0 == q

-- whether task t reads the list of phaser q where the phasers from p on, and then the sinks, are
-- gone through
abbrev pub reads_from : Job → ℕ → ℕ → ℕ → Bool
reads_from job p q t = sinks_on job t q || (waits_on job t q && signals_from job p t)

-- whether some task does
abbrev pub is_read_from : Job → ℕ → ℕ → Bool
is_read_from job p q = list_any (reads_from job p q) (range_with_len 0 (length job.graph.tasks))

-- the list of phaser q, where it is still read, and else none
abbrev pub list_kept : Job → ℕ → List (List ℤ) → ℕ → List ℤ
list_kept job p lists q = if is_read_from job p q then get_or lists q [] else []
