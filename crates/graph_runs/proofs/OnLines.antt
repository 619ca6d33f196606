-- The phasers on a task's line are phasers of the graph.
use Rattle.std.proofs.Common.{◌≡◌, ℕ, zero, suc, ◌<◌, [], ◌∷◌, Some, length, get_or, refl, ap, arith, inl, inr}
use Rattle.graph_base.specs.declared.line.Kind.{Kind}
use Rattle.graph_base.specs.declared.line.Kind.TheVariants.{Source, Fir, Split, Decimate, Join, Peer, Sink}
use Rattle.graph_base.specs.Graphs.{task_at}
use Rattle.graph_base.specs.TaskLines.{IsGraph}
use Rattle.stream_lists.specs.Jobs.{Job, index_in}
use Rattle.stream_lists.specs.Spans.{signalled_by}
use Rattle.stream_lists.proofs.Ordered.{place-at}
use Rattle.graph_runs.specs.Moments.{OnLine}

pub signalled_within : (job : Job) (t p j : ℕ) → IsGraph job.graph → t < length job.graph.tasks
    → index_in (signalled_by (task_at job.graph t)) p ≡ Some j → p < length job.graph.phasers
signalled_within job t p j is there place =
    let at = place-at (signalled_by (task_at job.graph t)) p j place in
    rw at.1 at (by (task_at job.graph t).kind refl at.0)
  where
    plain : signalled_by (task_at job.graph t) ≡ (task_at job.graph t).outputs
        → j < length (signalled_by (task_at job.graph t))
        → get_or (signalled_by (task_at job.graph t)) j 0 < length job.graph.phasers
    plain same lt =
        rw same ((is.tasks t there).outputs j 0 (omega (arith, ap length same)))

    peer : length (task_at job.graph t).inputs ≡ 2 → length (task_at job.graph t).outputs ≡ 1
        → (i : ℕ) → i < 2
        → get_or (get_or (task_at job.graph t).inputs 1 0 ∷ get_or (task_at job.graph t).outputs 0
        0 ∷ []) i 0 < length job.graph.phasers
    peer two one zero lt = (is.tasks t there).inputs 1 0 (omega arith)
    peer two one (suc zero) lt = (is.tasks t there).outputs 0 0 (omega arith)
    peer two one (suc (suc i)) lt = absurd (omega arith)

    by : (kind : Kind) → (task_at job.graph t).kind ≡ kind
        → j < length (signalled_by (task_at job.graph t))
        → get_or (signalled_by (task_at job.graph t)) j 0 < length job.graph.phasers
    by Source e lt = plain (rw e refl) lt
    by Fir e lt = plain (rw e refl) lt
    by Split e lt = plain (rw e refl) lt
    by Decimate e lt = plain (rw e refl) lt
    by Join e lt = plain (rw e refl) lt
    by Sink e lt = plain (rw e refl) lt
    by Peer e lt =
        let both : (length (task_at job.graph t).inputs ≡ 2)
        × (length (task_at job.graph t).outputs ≡ 1) = rw e at (is.tasks t there).ends in
        let is_two : signalled_by (task_at job.graph t)
        ≡ get_or (task_at job.graph t).inputs 1 0 ∷ get_or (task_at job.graph t).outputs 0
        0 ∷ [] = rw e refl in
        rw is_two (peer both.0 both.1 j (omega (arith, ap length is_two)))

-- a phaser on a line is one of the graph
pub on_phaser : (job : Job) (t p : ℕ) → IsGraph job.graph → t < length job.graph.tasks
    → OnLine (task_at job.graph t) p → p < length job.graph.phasers
on_phaser job t p is there (inl out) = signalled_within job t p out.0 is there out.1
on_phaser job t p is there (inr into) =
    rw into.2 at ((is.tasks t there).inputs into.0 0 into.1)
