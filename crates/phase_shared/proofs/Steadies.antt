-- What stays of an ask, and of where a task stands, while a turn has no events of it.
use Rattle.std.proofs.Common.{◌≡◌, ℕ, ℤ, ◌+◌, ◌<◌, true, false, cond, eqb, List, [], ◌∷◌, ◌++◌, ◌⊎◌, refl, sym, ap, subst, ◌∙◌, inl, inr, arith}
use Rattle.std.specs.Prelude.{◌||◌}
use Rattle.std.proofs.lemmas.Bool.{eq-eqb, eqb-true, false_from_ne_true}
use Rattle.turn_lock.proofs.Keeping.{not_both}
use Rattle.phase_shared.specs.Phasers.{Limits, is_in, Outcome, Event, History, done_of, value_of_phase, IsLegal, is_by, events_of, OthersCame}
use Rattle.phase_accum.specs.declared.outcome.Outcome.TheVariants.{Empty}
use Rattle.phase_history.specs.declared.event.Event.TheVariants.{Waited}
use Rattle.phase_history.proofs.Steps.{steps, sound_of}
use Rattle.phase_history.proofs.Streams.{legal_rest}
use Rattle.phase_history.proofs.Used.{entry_of-others}
use Rattle.phase_history.proofs.OthersEvents.{OthersCame-trans}
use Rattle.phase_shared.specs.Asks.{Ask, IsAtPhases, IsUnmade, IsMade, IsAnsweredAsk, Stage, Batch, IsOneOf, asks_for}
use Rattle.phase_shared.proofs.Small.{one_of, apart_phases, longer_some}
use Rattle.phase_shared.proofs.Stages.{at_entry, wait_is}

-- who asked for one of these is named among them
pub named : (claims : List Ask) (a : Ask) → IsOneOf claims a → asks_for claims a.task ≡ true
named [] a one = absurd one
named (first ∷ others) a (inl same) = rw (eq-eqb first.task a.task (ap (λ (x : Ask). x.task) same)) refl
named (first ∷ others) a (inr rest) =
    elim (eqb first.task a.task) as (λ b. (b || asks_for others a.task) ≡ true) [
      | true ↦ refl
      | false ↦ named others a rest
    ]

pub found : (claims : List Ask) (task : ℕ) → asks_for claims task ≡ true → (a : Ask) × IsOneOf claims a × (a.task ≡ task)
found [] task none = absurd (cc)
found (first ∷ others) task has = elim (eqb first.task task) as (λ b. (eqb first.task task ≡ b) → (b || asks_for others task) ≡ true → (a : Ask) × IsOneOf (first ∷ others) a × (a.task ≡ task)) [
  | true ↦ λ t h. (first, inl refl, eqb-true first.task task t)
  | false ↦ λ t h. let r = found others task h in (r.0, inr r.1, r.2)
] refl has

module _ (limits : Limits) (claims : List Ask) (speaks : List ℕ) (log : History) (some_log : log ≡ [] → ⊥) where
  -- a task that neither the giver speaks for nor asked has no events in the turn
  pub none_of : (task : ℕ) → is_in task speaks ≡ false → asks_for claims task ≡ false → (later : History) → Batch (IsOneOf claims) speaks later log → events_of task later ≡ []
  none_of task mine asks [] batch = refl
  none_of task mine asks (e ∷ later) batch =
      let rest : events_of task later ≡ [] = none_of task mine asks later batch.0 in
      let other : is_by task e ≡ false = elim batch.1 [
        | inl own ↦ own task mine
        | inr (inl s) ↦ ap (λ (x : Event). is_by task x) s.is ∙ not_it s.ask s.claimed
        | inr (inr w) ↦ ap (λ (x : Event). is_by task x) w.is ∙ not_it w.ask w.claimed
      ] in
      ap (λ b. cond b (e ∷ events_of task later) (events_of task later)) other ∙ rest
    where
      not_it : (a : Ask) → IsOneOf claims a → eqb a.task task ≡ false
      not_it a one = false_from_ne_true (eqb a.task task) (λ t. not_both (asks_for claims task) (subst (λ (n : ℕ). asks_for claims n ≡ true) (eqb-true a.task task t) (named claims a one)) asks)

  -- no complete phase changes, and done grows
  pub same_value : (value : List ℤ → Outcome) (p : ℕ) (later : History) → IsLegal limits (later ++ log) → p < done_of log
      → (p < done_of (later ++ log)) × (value_of_phase value (later ++ log) p ≡ value_of_phase value log p)
  same_value value p [] legal below = (below, refl)
  same_value value p (e ∷ later) legal below =
      let r = legal_rest limits e (later ++ log) (longer_some later log some_log) legal in
      let step = steps limits (later ++ log) e r.0 (sound_of limits (later ++ log) r.0) r.1 in
      let so_far = same_value value p later r.0 below in
      let grows = step.grows in
      let low = so_far.0 in
      ((omega arith), step.same value p so_far.0 ∙ so_far.1)

  pub stands_still : (task s w : ℕ) (later : History) → IsLegal limits (later ++ log) → events_of task later ≡ [] → IsAtPhases log task s w → IsAtPhases (later ++ log) task s w
  stands_still task s w later legal none st = at_entry log (later ++ log) task s w st (entry_of-others limits later log task st.entry legal none st.member)

  -- an ask that was not read stays where it is
  pub stage_still : (a : Ask) (seen : History) (later : History) → is_in a.task speaks ≡ false → asks_for claims a.task ≡ false → Batch (IsOneOf claims) speaks later log
      → IsLegal limits (later ++ log) → Stage limits a seen log
      → (IsUnmade a seen (later ++ log) × IsUnmade a seen log) ⊎ ((IsMade limits a seen log) ⊎ (IsAnsweredAsk limits a seen (later ++ log) × IsAnsweredAsk limits a seen log))
  stage_still a seen later mine asks batch legal stage =
      let none : events_of a.task later ≡ [] = none_of a.task mine asks later batch in
      let came : OthersCame (a.task ∷ []) log (later ++ log) = record { later = later; is = refl; others = λ t has. subst (λ (n : ℕ). events_of n later ≡ []) (one_of a.task t has) none } in
      elim stage [
        | inl u ↦ inl (record { others = OthersCame-trans (a.task ∷ []) seen log (later ++ log) u.others came; stands = stands_still a.task a.phase a.phase later legal none u.stands }, u)
        | inr (inl m) ↦ inr (inl m)
        | inr (inr n) ↦ inr (inr (
          record {
            middle = n.middle;
            made = n.made;
            accepted = n.accepted;
            complete = n.complete;
            below = (same_value (λ sends. Empty) a.phase later legal n.below).0;
            since = OthersCame-trans (a.task ∷ []) (Waited a.task 1 ∷ n.middle) log (later ++ log) n.since came;
            stands = stands_still a.task (a.phase + 1) (a.phase + 1) later legal none n.stands;
          },
          n,
        ))
      ]

-- two stages are told apart by where the task stands
pub not_made_and_answered : (limits : Limits) (a : Ask) (seen h : History) → IsMade limits a seen h → IsAnsweredAsk limits a seen h → ⊥
not_made_and_answered limits a seen h m n =
    apart_phases a.phase (sym (wait_is h a.task (a.phase + 1) (a.phase + 1) n.stands) ∙ wait_is h a.task (a.phase + 1) a.phase m.stands)
