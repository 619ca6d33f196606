-- What a task has sent can be sent, as each of its signals was accepted.
use Rattle.std.proofs.Common.{◌≡◌, ℕ, true, false, cond, eqb, List, [], ◌∷◌, ◌++◌, ℤ, sym, subst}
use Rattle.phase_base.specs.Limits.{Limits}
use Rattle.phase_history.specs.declared.event.Event.TheVariants.{Made, Registered, RegisteredNow, Signalled, Waited, Dropped}
use Rattle.phase_history.specs.Histories.{History}
use Rattle.phase_history.specs.Legal.{IsLegal, AreLists}
use Rattle.phase_history.specs.Sent.{sent_by}

AreLists-append : (xs ys : List (List ℤ)) → AreLists xs → AreLists ys → AreLists (xs ++ ys)
AreLists-append [] ys a b = b
AreLists-append (x ∷ xs) ys a b = (a.0, a.1, AreLists-append xs ys a.2 b)

pub sent_are_lists : (limits : Limits) (h : History) (task : ℕ) → IsLegal limits h
    → AreLists (sent_by h task)
sent_are_lists limits [] task legal = absurd legal
sent_are_lists limits (Made t ∷ before) task legal =
    rw legal.1 tt
sent_are_lists limits (Registered parent child mode ∷ before) task legal =
    sent_are_lists limits before task legal.0
sent_are_lists limits (RegisteredNow parent child ∷ before) task legal =
    sent_are_lists limits before task legal.0
sent_are_lists limits (Waited t k ∷ before) task legal = sent_are_lists limits before task legal.0
sent_are_lists limits (Dropped t ∷ before) task legal = sent_are_lists limits before task legal.0
sent_are_lists limits (Signalled t lists single ∷ before) task legal =
    let earlier : AreLists (sent_by before task) = sent_are_lists limits before task legal.0 in
    elim (eqb t task) as (λ b. AreLists (cond b (sent_by before task ++ lists)
    (sent_by before task))) [
      | true ↦ AreLists-append (sent_by before task) lists earlier legal.1.1
      | false ↦ earlier
    ]
