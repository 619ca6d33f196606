-- A child that never came has run, since it has done nothing.
use Rattle.std.proofs.Common.{◌≡◌, ℕ, ◌<◌, [], Option, Some, None, length, sym, ◌∙◌}
use Rattle.graph_base.specs.Graphs.{task_at}
use Rattle.graph_base.specs.TaskLines.{IsGraph}
use Rattle.stream_lists.specs.Jobs.{Job, index_in}
use Rattle.stream_lists.specs.Spans.{signalled_by}
use Rattle.graph_runs.specs.Moments.{Moment, TaskRan, OnPhaser, IsChild, input_at}
use Rattle.graph_runs.specs.Moves.{SameTask}
use Rattle.graph_runs.proofs.Framed.{ListsRan, lists_later}
use Rattle.graph_runs.proofs.Opened.{opened_ran}
use Rattle.graph_runs.specs.Beginnings.{opening}
use Rattle.graph_runs.specs.Reached.{HasBegun}

-- it has done nothing, and is registered nowhere
pub record IsAbsent (job : Job) (m : Moment) (t : ℕ) : Type 0 where
  pub child : IsChild (task_at job.graph t).parent
  pub nowhere : (p : ℕ) → m.number p t ≡ None
  pub offset : m.offset t ≡ (opening job).offset t
  pub begun : m.begun t ≡ 0
  pub taken : (k : ℕ) → m.taken t k ≡ []
  pub put : (j : ℕ) → m.put t j ≡ []

pub absent_ran : (job : Job) (m : Moment) (t : ℕ) → IsGraph job.graph
    → t < length job.graph.tasks → HasBegun job (opening job) → IsAbsent job m t
    → TaskRan job m t
absent_ran job m t is there begins absent = record {
  puts = lists.puts;
  exchanged = lists.exchanged;
  takes = lists.takes;
  samples = lists.samples;
  cut = lists.cut;
  lines = λ p n at. absurd (nobody p n at);
  outputs = λ p pp. outputs p (index_in (signalled_by (task_at job.graph t)) p);
  inputs = λ k lt.
      (let p = input_at (task_at job.graph t) k in
      rw (absent.nowhere p) (absent.taken k, absent.child));
  joined = λ p n at. absurd (nobody p n at);
  children = λ c p n u there_c e by at none on. absurd (nobody p n at);
}
  where
    same : SameTask (opening job) m t
    same = record {
      offset = absent.offset;
      begun = absent.begun;
      taken = absent.taken;
      put = absent.put;
    }

    lists : ListsRan job m t
    lists =
        lists_later job (opening job) m t same
        ((opened_ran job (opening job) is begins.opened).tasks t there)

    nobody : (p n : ℕ) → m.number p t ≡ Some n → ⊥
    nobody p n at = (let no : None ≡ Some n = sym (absent.nowhere p) ∙ at in cc)

    outputs : (p : ℕ) (place : Option ℕ) → OnPhaser job m t p place
    outputs p None =
        rw (absent.nowhere p) tt
    outputs p (Some j) =
        rw (absent.nowhere p) absent.child
