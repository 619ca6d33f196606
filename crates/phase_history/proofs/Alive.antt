-- A task is a member where it began and has not dropped.
use Rattle.std.proofs.Common.{◌≡◌, ℕ, ◌<◌, Bool, true, false, not, ◌&&◌, cond, eqb, [], ◌∷◌, ◌++◌, Option, Some, None, length, refl, sym, ap, subst, ◌∙◌, arith}
use Rattle.std.specs.Prelude.{is_some, IsSome, ◌↔◌}
use Rattle.std.proofs.lemmas.Bool.{eqb-true, and_parts, and_from, not-true, not_from_false}
use Rattle.phase_base.specs.Limits.{Limits}
use Rattle.phase_base.specs.declared.mode.Mode.TheVariants.{Wait}
use Rattle.phase_base.specs.declared.entry.Entry.{Entry}
use Rattle.phase_accum.specs.declared.outcome.Outcome.TheVariants.{Empty}
use Rattle.phase_history.specs.declared.event.Event.TheVariants.{Made, Registered, RegisteredNow, Signalled, Waited, Dropped}
use Rattle.phase_base.specs.Members.{member, entry_of, signalled, waited}
use Rattle.phase_history.specs.Histories.{History, members_of, founder, entry_at, signal_phase, wait_phase, done_of, greatest_used, start_of, has_dropped, IsAlive}
use Rattle.phase_history.specs.Legal.{IsLegal}
use Rattle.phase_history.proofs.MemberLemmas.{is_some-entry_of-changed, entry_of-push_new, entry_of-push_other, entry_of-without_same, entry_of-without_other}
use Rattle.phase_history.proofs.Refused.{registers_from}
use Rattle.phase_history.proofs.Steps.{sound_of}
use Rattle.phase_history.proofs.Received.{fresh, unused, start_of-above}

and_false : (b : Bool) → (b && false) ≡ false
and_false true = refl
and_false false = refl

-- a child that was just registered
joined : (before : History) (child task : ℕ) (x : Entry) (some : Option Entry) (limits : Limits) → IsLegal limits before → greatest_used before < child
    → is_some (entry_of (members_of before) task) ≡ (is_some some && not (has_dropped before task))
    → is_some (entry_of (members_of before ++ member child x ∷ []) task) ≡ (is_some (cond (eqb child task) (Some x) some) && not (has_dropped before task))
joined before child task x some limits legal new_number known =
    elim (eqb child task) as (λ b. (eqb child task ≡ b)
    → is_some (entry_of (members_of before ++ member child x ∷ []) task) ≡ (is_some (cond b (Some x) some) && not (has_dropped before task))) [
      | true ↦ λ t.
          let same : child ≡ task = eqb-true _ _ t in
          let above : greatest_used before < task = omega arith in
          let found : entry_of (members_of before ++ member child x ∷ []) task ≡ Some x =
          rw same (entry_of-push_new (members_of before) task x (fresh before task (sound_of limits before legal) above)) in
          ap is_some found ∙ sym (ap not (unused (λ sends. Empty) limits before task legal (start_of-above before task above)).stays)
      | false ↦ λ t. ap is_some (entry_of-push_other (members_of before) child task x t) ∙ known
    ] refl

alive_is : (limits : Limits) (h : History) (task : ℕ) → IsLegal limits h
    → is_some (entry_of (members_of h) task) ≡ (is_some (start_of h task) && not (has_dropped h task))
alive_is limits [] task legal = absurd legal
alive_is limits (Made founding ∷ before) task legal =
    rw legal.1
    (elim (eqb founding task) as (λ b. is_some (cond b (Some founder) None) ≡ (is_some (cond b (Some founder) None) && true)) [
      | true ↦ refl
      | false ↦ refl
    ])
alive_is limits (Registered parent child mode ∷ before) task legal =
    let r = registers_from before parent child mode legal.1 in
    joined before child task (entry_at mode (signal_phase before parent) (wait_phase before parent)) (start_of before task) limits legal.0 r.new_number (alive_is limits before task legal.0)
alive_is limits (RegisteredNow parent child ∷ before) task legal =
    let r = registers_from before parent child Wait legal.1 in
    joined before child task (entry_at Wait (signal_phase before parent) (done_of before)) (start_of before task) limits legal.0 r.new_number (alive_is limits before task legal.0)
alive_is limits (Signalled signaller lists single ∷ before) task legal =
    is_some-entry_of-changed signaller task (signalled (length lists)) (members_of before) ∙ alive_is limits before task legal.0
alive_is limits (Waited waiter n ∷ before) task legal =
    is_some-entry_of-changed waiter task (waited n) (members_of before) ∙ alive_is limits before task legal.0
alive_is limits (Dropped gone ∷ before) task legal =
    elim (eqb gone task) as (λ b. (eqb gone task ≡ b) → is_some (entry_of (members_of (Dropped gone ∷ before)) task)
    ≡ (is_some (start_of before task) && not (cond b true (has_dropped before task)))) [
      | true ↦ λ t.
          let same : gone ≡ task = eqb-true _ _ t in
          let P : ℕ → Type 0 = λ n. entry_of (members_of (Dropped gone ∷ before)) n ≡ None in
          ap is_some (subst P same (entry_of-without_same (members_of before) gone)) ∙ sym (and_false (is_some (start_of before task)))
      | false ↦ λ t. ap is_some (entry_of-without_other (members_of before) gone task t) ∙ alive_is limits before task legal.0
    ] refl

pub alive_law : (limits : Limits) (h : History) (task : ℕ) → IsLegal limits h
    → IsAlive h task ↔ (IsSome (start_of h task) × (has_dropped h task ≡ false))
alive_law limits h task legal =
    let is = alive_is limits h task legal in (
      λ alive. (let p = and_parts (is_some (start_of h task)) (not (has_dropped h task)) (sym is ∙ alive) in (p.0, not-true (has_dropped h task) p.1)),
      λ both. is ∙ and_from (is_some (start_of h task)) (not (has_dropped h task)) both.0 (not_from_false (has_dropped h task) both.1),
    )
