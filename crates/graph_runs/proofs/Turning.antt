-- A turn makes an event that is the task's next one.
use Rattle.std.proofs.Common.{◌≡◌, ℕ, Bool, true, false, ◌||◌, cond, Option, Some, None, length, refl, sym, ◌∙◌}
use Rattle.std.proofs.lemmas.Bool.{or_parts}
use Rattle.graph_base.specs.declared.line.Kind.{Kind}
use Rattle.graph_base.specs.declared.line.Kind.TheVariants.{Source, Fir, Split, Decimate, Join, Peer, Sink}
use Rattle.graph_base.specs.Graphs.{task_at}
use Rattle.graph_base.specs.TaskLines.{IsGraph}
use Rattle.stream_lists.specs.Jobs.{Job}
use Rattle.graph_runs.specs.Moments.{Moment, HasRun}
use Rattle.graph_runs.specs.TaskEvents.{TaskEvent, IsNext}
use Rattle.graph_runs.proofs.TurnRegistering.{child_next}
use Rattle.graph_runs.specs.Nexts.{HasChildrenToCome, is_not_live, leaves, signals, exchanges, is_live, of_live, first_owed, first_due, waits_first, at_boundary, without_child, is_cut, has_input_ended, next_step}
use Rattle.graph_runs.specs.NextBlocks.{AreSizes, MaySize}
use Rattle.graph_runs.specs.Answers.{makes, answer_up_to, turn_up_to}
use Rattle.graph_runs.proofs.Signalling.{Live, live-is, signal_next}
use Rattle.graph_runs.proofs.Calling.{sample_next, first_wait_next, exchange_next, leave_next}

-- the rest of a step
owing : (steps most : ℕ) (job : Job) (m : Moment) (t j : ℕ) (event : TaskEvent) → AreSizes job.graph t steps most → IsGraph job.graph → HasRun job m
    → Live job m t → first_owed job m t ≡ Some j
    → answer_up_to steps most job m t (of_live job m t (Some j)) ≡ makes event → IsNext job m event
owing steps most job m t j event sizes is ran live owes answer =
    by (waits_first (task_at job.graph t).kind j (length (m.put t j)) (length (m.taken t 1))) refl
    answer
  where
    by : (b : Bool)
        → waits_first (task_at job.graph t).kind j (length (m.put t j)) (length (m.taken t 1)) ≡ b
        → answer_up_to steps most job m t (cond b exchanges (signals j)) ≡ makes event → IsNext job m event
    by true first answer = exchange_next job m t j event is ran live owes first answer
    by false first answer = signal_next steps most job m t j event sizes is ran live owes first answer

-- the next step
stepping : (steps most : ℕ) (job : Job) (m : Moment) (t : ℕ) (event : TaskEvent) → AreSizes job.graph t steps most → IsGraph job.graph → HasRun job m
    → Live job m t → first_owed job m t ≡ None → first_due job m t ≡ None
    → is_cut (task_at job.graph t).until (m.begun t) ≡ false
    → has_input_ended job m t (task_at job.graph t).kind ≡ false
    → answer_up_to steps most job m t (next_step (task_at job.graph t) (m.begun t) (task_at job.graph t).kind)
    ≡ makes event → IsNext job m event
stepping steps most job m t event sizes is ran live none due uncut more answer =
    by (task_at job.graph t).kind refl answer
  where
    other : (kind : Kind) → (task_at job.graph t).kind ≡ kind → (kind ≡ Source → ⊥)
        → (task_at job.graph t).kind ≡ Source → ⊥
    other kind e never source = never (sym e ∙ source)

    by : (kind : Kind) → (task_at job.graph t).kind ≡ kind
        → answer_up_to steps most job m t (next_step (task_at job.graph t) (m.begun t) kind) ≡ makes event
        → IsNext job m event
    by Source e answer = sample_next steps job m t event is ran live e none due uncut more answer
    by Fir e answer =
        first_wait_next steps most job m t event sizes is ran live (other Fir e (λ s. (cc))) none due uncut more
        answer
    by Split e answer =
        first_wait_next steps most job m t event sizes is ran live (other Split e (λ s. (cc))) none due uncut more
        answer
    by Decimate e answer =
        first_wait_next steps most job m t event sizes is ran live (other Decimate e (λ s. (cc)))
        none due uncut more answer
    by Join e answer =
        first_wait_next steps most job m t event sizes is ran live (other Join e (λ s. (cc))) none due uncut more
        answer
    by Peer e answer =
        first_wait_next steps most job m t event sizes is ran live (other Peer e (λ s. (cc))) none due uncut more
        answer
    by Sink e answer =
        first_wait_next steps most job m t event sizes is ran live (other Sink e (λ s. (cc))) none due uncut more
        answer

-- a boundary
childless : (steps most : ℕ) (job : Job) (m : Moment) (t : ℕ) (event : TaskEvent)
    → AreSizes job.graph t steps most → IsGraph job.graph
    → HasRun job m → Live job m t → first_owed job m t ≡ None → first_due job m t ≡ None
    → answer_up_to steps most job m t (without_child job m t) ≡ makes event → IsNext job m event
childless steps most job m t event sizes is ran live none due answer =
    by (is_cut (task_at job.graph t).until (m.begun t)
    || has_input_ended job m t (task_at job.graph t).kind) refl answer
  where
    by : (b : Bool)
        → (is_cut (task_at job.graph t).until (m.begun t)
        || has_input_ended job m t (task_at job.graph t).kind) ≡ b
        → answer_up_to steps most job m t (cond b leaves
        (next_step (task_at job.graph t) (m.begun t) (task_at job.graph t).kind)) ≡ makes event
        → IsNext job m event
    by true end answer = leave_next job m t event is ran live none due end answer
    by false end answer =
        let both = or_parts (is_cut (task_at job.graph t).until (m.begun t))
        (has_input_ended job m t (task_at job.graph t).kind) end in
        stepping steps most job m t event sizes is ran live none due both.0 both.1 answer

-- where a child is due, its parent's children have to be such as they are before they come
pub turn_makes_next : (steps most : ℕ) (job : Job) (m : Moment) (t : ℕ) (event : TaskEvent)
    → MaySize job.graph t steps most → IsGraph job.graph
    → HasRun job m → ((c : ℕ) → first_due job m t ≡ Some c → HasChildrenToCome job m)
    → turn_up_to steps most job m t ≡ makes event → IsNext job m event
turn_makes_next steps most job m t event may is ran to_come answer = by (is_live job m t) refl answer
  where
    at_rest : (o : Option ℕ) → first_due job m t ≡ o → Live job m t → first_owed job m t ≡ None
        → answer_up_to steps most job m t (at_boundary job m t o) ≡ makes event → IsNext job m event
    at_rest None due live none answer =
        childless steps most job m t event (may live.there) is ran live none due answer
    at_rest (Some c) due live none answer =
        child_next job m t c event is ran (to_come c due) live none due answer

    of_owed : (o : Option ℕ) → first_owed job m t ≡ o → Live job m t
        → answer_up_to steps most job m t (of_live job m t o) ≡ makes event → IsNext job m event
    of_owed (Some j) owes live answer =
        owing steps most job m t j event (may live.there) is ran live owes answer
    of_owed None none live answer = at_rest (first_due job m t) refl live none answer

    by : (b : Bool) → is_live job m t ≡ b
        → answer_up_to steps most job m t (cond b (of_live job m t (first_owed job m t)) is_not_live)
        ≡ makes event → IsNext job m event
    by true live answer = of_owed (first_owed job m t) refl (live-is job m t live) answer
    by false live answer = absurd (cc)

-- a task with no child to register needs no such fact
pub childless_makes_next : (steps most : ℕ) (job : Job) (m : Moment) (t : ℕ) (event : TaskEvent)
    → MaySize job.graph t steps most → IsGraph job.graph
    → HasRun job m → first_due job m t ≡ None → turn_up_to steps most job m t ≡ makes event
    → IsNext job m event
childless_makes_next steps most job m t event may is ran due answer =
    turn_makes_next steps most job m t event may is ran
    (λ c e. absurd (let wrong : Some c ≡ None = sym e ∙ due in cc)) answer
