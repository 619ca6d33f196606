-- Tests of the next event of a task, where it is of several steps, and of any event.
use Rattle.std.proofs.Common.{ℕ, ◌+◌, List, ◌++◌, ℤ, length, take, drop, refl}
use mathlib.Core.List.{IsPrefix}
use Rattle.phase_accum.specs.declared.outcome.Outcome.{Outcome}
use Rattle.graph_base.specs.declared.line.Kind.{Kind}
use Rattle.graph_base.specs.declared.line.Kind.TheVariants.{Source, Fir, Split, Decimate, Join, Peer, Sink}
use Rattle.graph_base.specs.declared.line.Parent.{Parent}
use Rattle.graph_base.specs.Graphs.{task_at}
use Rattle.graph_base.specs.TaskLines.{IsGraph}
use Rattle.stream_lists.specs.Jobs.{Job, samples_at}
use Rattle.graph_runs.specs.Moments.{Moment, HasRun, made_now, first_input}
use Rattle.graph_runs.specs.Moves.{further, IsBlock}
use Rattle.graph_runs.specs.Turned.{IsNextSignals, IsNextSamples, IsFirstWaits, IsExchangeWait, IsNextLeave, IsNextChild}
use Rattle.worked_runs.specs.Runs.{TaskEvent, sample, signal, first_wait, exchange_wait, leave, child, child_now, IsNext}
use Rattle.worked_runs.proofs.Tests as test
use Rattle.worked_runs.proofs.Tests.{Test, Both, never, always, giving, both}
use Rattle.worked_runs.proofs.NextTests.{Given, is_source_kind, may_begin_to, has_exchanged, is_accepted_signals, is_answered_waits, is_exchange_wait, is_next_leave, is_child_of, on_it}

abbrev pub begins : (xs ys : List ℤ) → Test (IsPrefix xs ys)
begins xs ys =
    giving (λ same. (drop (length xs) ys, same)) (test.are_values (xs ++ drop (length xs) ys) ys)

abbrev pub is_block : (kind : Kind) (steps : ℕ) → Test (IsBlock kind steps)
is_block Source steps = always tt
is_block Fir steps = always tt
is_block Sink steps = always tt
is_block Split steps = test.is_equal steps 1
is_block Decimate steps = test.is_equal steps 1
is_block Join steps = test.is_equal steps 1
is_block Peer steps = test.is_equal steps 1

abbrev pub is_next_signals : (job : Job) (m : Moment) (t j p n : ℕ) (vs : List ℤ)
    → Test (Given job m t p → IsNextSignals job m t j p n vs)
is_next_signals job m t j p n vs =
    giving (λ b g. record {
      signal = b.left g;
      entries = b.right.left;
      exchanged = b.right.right;
    })
    (both (is_accepted_signals job m t j p n vs)
    (both (begins (m.put t j ++ vs) (made_now job m t j))
    (has_exchanged (task_at job.graph t).kind j (length (m.put t j) + length vs)
    (length (m.taken t 1)))))

abbrev pub is_next_samples : (job : Job) (m : Moment) (t j p n : ℕ) (vs : List ℤ)
    → Test (Given job m t p → IsNextSamples job m t j p n vs)
is_next_samples job m t j p n vs =
    giving (λ b g. record {
      signal = b.left g;
      source = b.right.left;
      may_begin = b.right.right.left g;
      all_put = b.right.right.right.left;
      samples = b.right.right.right.right;
    })
    (both (is_accepted_signals job m t j p n vs)
    (both (is_source_kind (task_at job.graph t).kind)
    (both (may_begin_to job m t p (further (m.begun t) vs))
    (both (test.is_equal (length (m.put t j)) (m.begun t))
    (test.are_values vs (take (length vs) (drop (m.begun t) (samples_at job t))))))))

abbrev pub is_first_waits : (job : Job) (m : Moment) (t k p n : ℕ) (outcomes : List Outcome)
    → Test (Given job m t p → IsFirstWaits job m t k p n outcomes)
is_first_waits job m t k p n outcomes =
    giving (λ b g. record {
      wait = b.left g;
      first = b.right.left;
      block = b.right.right.left;
      may_begin = b.right.right.right g;
    })
    (both (is_answered_waits job m t k p n outcomes)
    (both (test.is_equal k (first_input (task_at job.graph t) (m.begun t)))
    (both (is_block (task_at job.graph t).kind (length outcomes))
    (may_begin_to job m t p (further (m.begun t) outcomes)))))

-- ---- any event

-- a sink that joins now has no test: of all its inputs it is said that nothing was taken
abbrev pub is_next : (job : Job) (m : Moment) (turn : TaskEvent)
    → Test (IsGraph job.graph → HasRun job m → IsNext job m turn)
is_next job m (sample t j p n vs) =
    on_it job m t p (IsNextSamples job m t j p n vs) (is_next_samples job m t j p n vs)
is_next job m (signal t j p n vs) =
    on_it job m t p (IsNextSignals job m t j p n vs) (is_next_signals job m t j p n vs)
is_next job m (first_wait t k p n outcomes) =
    on_it job m t p (IsFirstWaits job m t k p n outcomes) (is_first_waits job m t k p n outcomes)
is_next job m (exchange_wait t p n outcome) =
    on_it job m t p (IsExchangeWait job m t p n outcome) (is_exchange_wait job m t p n outcome)
is_next job m (leave t p n) =
    on_it job m t p (IsNextLeave job m t p n) (giving (λ e g. e) (is_next_leave job m t p n))
is_next job m (child t p n c a mode) =
    on_it job m t p ((u : Parent) × IsNextChild job m t p n c a mode u)
    (giving (λ e g. e) (is_child_of job m t p n c a mode (task_at job.graph c).parent refl))
is_next job m (child_now t p n c a) = never
