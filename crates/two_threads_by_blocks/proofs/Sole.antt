-- Histories in which task 1 alone signals, and names no single.
use Rattle.std.proofs.Common.{◌≡◌, ◌≢◌, ℕ, true, false, eqb, cond, List, [], ◌∷◌, ◌++◌, None, refl, sym, ◌∙◌}
use Rattle.std.proofs.lemmas.Bool.{eqb-true}
use Rattle.phase_history.specs.declared.event.Event.TheVariants.{Made, Registered, RegisteredNow, Signalled, Waited, Dropped}
use Rattle.phase_history.specs.Histories.{History, signal_phase}
use Rattle.phase_history.specs.Phases.{list_in_phase}
use Rattle.phase_history.specs.Sent.{NamesAll, sent_in}
use Rattle.phase_shared.specs.Rule.{Keeps}
use Rattle.two_threads_by_blocks.specs.Sent.{by_one}

-- no signal names a single
pub names_none : (h : History) → Keeps by_one h → NamesAll None h
names_none [] k = tt
names_none (Made t ∷ h) k = names_none h k
names_none (Registered t c m ∷ h) k = names_none h k
names_none (RegisteredNow t c ∷ h) k = names_none h k
names_none (Signalled t lists single ∷ h) k = (k.0.1, names_none h k.1)
names_none (Waited t n ∷ h) k = names_none h k
names_none (Dropped t ∷ h) k = names_none h k

-- nobody else has sent
pub others_silent : (h : History) (task p : ℕ) → Keeps by_one h → task ≢ 1 → sent_in h task p ≡ []
others_silent [] task p k other = refl
others_silent (Made t ∷ h) task p k other = others_silent h task p k other
others_silent (Registered t c m ∷ h) task p k other = others_silent h task p k other
others_silent (RegisteredNow t c ∷ h) task p k other = others_silent h task p k other
others_silent (Signalled t lists single ∷ h) task p k other =
    let same : eqb t task ≡ true → ⊥ = λ e. other (sym (eqb-true t task e) ∙ k.0.0) in
    elim (eqb t task) as (λ b. (eqb t task ≡ b) → cond b (sent_in h task p ++ list_in_phase lists (signal_phase h t) p) (sent_in h task p) ≡ []) [
      | true ↦ λ is. absurd (same is)
      | false ↦ λ is. others_silent h task p k.1 other
    ] refl
others_silent (Waited t n ∷ h) task p k other = others_silent h task p k other
others_silent (Dropped t ∷ h) task p k other = others_silent h task p k other

pub same_head : {X : Type 0} (x y : X) (xs ys : List X) → x ∷ xs ≡ y ∷ ys → x ≡ y
same_head x y xs ys e = cc
