-- Which tasks have a value in which phase of a phaser's list, which take it, and what has to be in
-- range: the subject's words, task by task and phase by phase.
use Rattle.std.specs.Prelude.{◌≡◌, ◌≢◌, ℕ, ℤ, ◌+◌, ◌<◌, ◌≤◌, true, List, length, Some}
use Rattle.phase_accum.specs.Sends.{AreSends}
use Rattle.phase_accum.specs.declared.outcome.Outcome.TheVariants.{TooBig}
use Rattle.graph_base.specs.Graphs.{task_at, phaser_at}
use Rattle.stream_lists.specs.Jobs.{Job, index_in}
use Rattle.stream_lists.specs.Spans.{signalled_by, takes_from, span_in, schedule_of}
use Rattle.stream_lists.specs.Lists.{contributions_on, output_on, sends_in, value_by, numbers_of, list_of_phaser}
use Rattle.stream_lists.specs.Ranges.{are_made}

-- what task number t puts on its output number j
abbrev pub output_values : Job → ℕ → ℕ → List ℤ
output_values job t j = output_on job (schedule_of job) (numbers_of job) t j

-- what is sent in phase n of phaser p, in the order of the lines
abbrev pub sends_at : Job → ℕ → ℕ → List ℤ
sends_at job p n = sends_in (contributions_on job (schedule_of job) (numbers_of job) p) n

-- task number t has a value in phase n of phaser p: it is live and signals p, begins in phase n or
-- before, and its values on p reach past n
pub record HasEntry (job : Job) (p n t : ℕ) : Type 0 where
  pub there : t < length job.graph.tasks
  pub live : (span_in job t).live ≡ true
  -- which of its outputs p is
  pub output : ℕ
  pub signals : index_in (signalled_by (task_at job.graph t)) p ≡ Some output
  pub begun : (span_in job t).offset ≤ n
  pub reaches : n < (span_in job t).offset + length (output_values job t output)

-- task number t takes phase n of phaser p: it is live and waits for p, and one of its steps does so
-- in phase n
pub record Takes (job : Job) (p n t : ℕ) : Type 0 where
  pub there : t < length job.graph.tasks
  pub live : (span_in job t).live ≡ true
  -- which of its inputs p is
  pub input : ℕ
  pub waits : index_in (task_at job.graph t).inputs p ≡ Some input
  pub begun : (span_in job t).offset ≤ n
  pub within : n
      < (span_in job t).offset + takes_from (task_at job.graph t) (span_in job t).steps input

-- a live task makes what it puts on its output number j: a filter, and a peer on Y
pub record Makes (job : Job) (t j : ℕ) : Type 0 where
  pub there : t < length job.graph.tasks
  pub live : (span_in job t).live ≡ true
  pub output : j < length (signalled_by (task_at job.graph t))
  pub made : are_made (task_at job.graph t).kind j ≡ true

-- each value that a filter or a peer makes is in range, at each of its steps, and so is the value
-- of each phase that some task takes, before the phaser's single
pub record AreInRange (job : Job) : Type 0 where
  pub outputs : (t j : ℕ) → Makes job t j → AreSends (output_values job t j)
  pub phases : (p n t : ℕ) → p < length job.graph.phasers → n < length (list_of_phaser job p)
      → Takes job p n t → value_by (phaser_at job.graph p).op (sends_at job p n) ≢ TooBig
