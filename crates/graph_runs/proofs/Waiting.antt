-- Where a live task stands as a waiter.
use Rattle.std.proofs.Common.{◌≡◌, ℕ, ◌+◌, ◌<◌, inr, true, false, Option, Some, None, is_some, length, refl, sym, ap, ◌∙◌}
use Rattle.phase_base.specs.declared.entry.Entry.{Entry}
use Rattle.phase_base.specs.Members.{entry_of}
use Rattle.phase_history.specs.Histories.{History, IsAlive, members_of, has_dropped, start_of}
use Rattle.phase_history.proofs.Alive.{alive_law}
use Rattle.phase_history.proofs.LawProofs.{counted_of}
use Rattle.graph_base.specs.Graphs.{task_at}
use Rattle.graph_base.specs.TaskLines.{IsGraph}
use Rattle.stream_lists.specs.Jobs.{Job}
use Rattle.graph_runs.specs.Moments.{Moment, HasRun, OnInput, limits_at, input_at}
use Rattle.graph_runs.proofs.Registering.{waits_at}
use Rattle.graph_runs.specs.Nexts.{number_on}
use Rattle.graph_runs.proofs.Signalling.{Live, number_there}

-- the entry of a task on its input number k, and where it waits there
pub record Waiter (job : Job) (m : Moment) (t k : ℕ) : Type 0 where
  pub entry : Entry
  pub is_member :
      entry_of (members_of (m.history (input_at (task_at job.graph t) k)))
      (number_on m t (input_at (task_at job.graph t) k)) ≡ Some entry
  pub phase : entry.wait_phase ≡ m.offset t + length (m.taken t k)

-- a live task is a waiter on each input that it has not left
pub waiter : (job : Job) (m : Moment) (t k : ℕ) → IsGraph job.graph → HasRun job m
    → Live job m t → k < length (task_at job.graph t).inputs
    → input_at (task_at job.graph t) k < length job.graph.phasers
    → has_dropped (m.history (input_at (task_at job.graph t) k))
    (number_on m t (input_at (task_at job.graph t) k)) ≡ false
    → Waiter job m t k
waiter job m t k is ran live few there stays =
    by (entry_of (members_of h) n) refl
  where
    p : ℕ
    p = input_at (task_at job.graph t) k

    n : ℕ
    n = number_on m t p

    h : History
    h = m.history p

    on : OnInput job m t k p n
    on =
        rw (number_there job m t p is live (inr (k, few, refl))) at ((ran.tasks t live.there).inputs k few)

    by : (o : Option Entry) → entry_of (members_of h) n ≡ o → Waiter job m t k
    by (Some e) found = record {
      entry = e;
      is_member = found;
      phase = waits_at job m t k p n e (ran.phasers p there).legal on
          (counted_of (limits_at job p) h n e (ran.phasers p there).legal found);
    }
    by None found =
        let started : is_some (start_of h n) ≡ true = ap is_some on.start_is in
        let alive : IsAlive h n =
        (alive_law (limits_at job p) h n (ran.phasers p there).legal).1 (started, stays) in
        let wrong : is_some (entry_of (members_of h) n) ≡ false = ap is_some found in
        absurd (let e : true ≡ false = sym alive ∙ wrong in cc)
