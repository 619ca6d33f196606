-- Where no wait was answered a value that is too big, no task has got one.
use Rattle.std.proofs.Common.{◌≡◌, ℕ, ◌<◌, All, true, false, eqb, List, [], ◌∷◌, ℤ, length, take, drop, refl}
use Rattle.std.proofs.lemmas.Bool.{eqb-true}
use Rattle.std.proofs.lemmas.List.Elements.{All-nil, All-append}
use Rattle.phase_accum.specs.declared.outcome.Outcome.{Outcome}
use Rattle.phase_history.specs.declared.event.Event.TheVariants.{Made, Registered, RegisteredNow, Signalled, Waited, Dropped}
use Rattle.phase_history.specs.Histories.{History, wait_phase}
use Rattle.phase_history.specs.Phases.{stream_of, received_by}
use Rattle.stream_lists.specs.Jobs.{Job}
use Rattle.stream_lists.specs.Ranges.{is_too_big}
use Rattle.graph_runs.specs.Moments.{Moment, value_at, AnsweredNone, HasMetNone}

-- what a task has received is what its waits were answered
received_none : (value : List ℤ → Outcome) (h : History) (n : ℕ) → AnsweredNone value h
    → All (λ outcome. is_too_big outcome ≡ false) (received_by value h n)
received_none value [] n none = All-nil (λ outcome. is_too_big outcome ≡ false)
received_none value (Made task ∷ before) n none = received_none value before n none
received_none value (Registered parent child mode ∷ before) n none =
    received_none value before n none
received_none value (RegisteredNow parent child ∷ before) n none =
    received_none value before n none
received_none value (Signalled task lists single ∷ before) n none =
    received_none value before n none
received_none value (Dropped task ∷ before) n none = received_none value before n none
received_none value (Waited task phases ∷ before) n none =
    let Small : Outcome → Type 0 = λ outcome. is_too_big outcome ≡ false in
    let earlier = received_by value before n in
    let answer : ℕ → List Outcome =
    λ waiter. take phases (drop (wait_phase before waiter) (stream_of value before)) in
    let small : All Small earlier = received_none value before n none.1 in
    elim (eqb task n) as (λ b. (eqb task n ≡ b)
    → All Small (received_by value (Waited task phases ∷ before) n)) [
      | true ↦ λ e.
          let mine : All Small (answer n) = rw (eqb-true task n e) at none.0 in
          rw e (All-append Small earlier (answer n) small mine)
      | false ↦ λ e. rw e small
    ] refl

pub met_none : (job : Job) (m : Moment)
    → ((p : ℕ) → p < length job.graph.phasers → AnsweredNone (value_at job p) (m.history p))
    → HasMetNone job m
met_none job m none = λ p t n pp there some.
    received_none (value_at job p) (m.history p) n (none p pp)
