-- The signals and the waits that a turn makes for others.
use Rattle.std.proofs.Common.{◌≡◌, ℕ, ◌+◌, ◌<◌, ◌≤◌, true, false, cond, eqb, List, [], ◌∷◌, ◌++◌, ◌⊎◌, None, Some, refl, sym, ap, subst, ◌∙◌, inl, inr, arith}
use Rattle.std.proofs.lemmas.Bool.{eqb-true, eq-eqb, ne_eqb}
use Rattle.std.proofs.lemmas.Option.{same_Some}
use Rattle.turn_lock.proofs.Keeping.{not_both}
use Rattle.phase_shared.specs.Phasers.{Limits, is_in, mode_signals, mode_waits, entry_of, signalled, Entry, Operation, Event, History, members_of, done_of, IsLegal, is_by, OthersCame, CoreState, StandsFor}
use Rattle.phase_history.specs.declared.event.Event.TheVariants.{Signalled, Waited}
use Rattle.phase_history.proofs.MemberLemmas.{entry_of-changed_other}
use Rattle.phase_history.proofs.Used.{entry_of-others, IsLegal-beginning}
use Rattle.phase_shared.specs.declared.seats.view.View.{View}
use Rattle.phase_shared.specs.Asks.{Ask, IsAtPhases, IsMade, Stage, IsOneOf}
use Rattle.phase_shared.specs.Goods.{Allows}
use Rattle.phase_shared.specs.Lanes.{sends_of}
use Rattle.phase_shared.specs.Servings.{OwesWait, Serving, HasToSignal, IsBetween, IsWaiterIn}
use Rattle.phase_shared.specs.Tells.{MayBeMade}
use Rattle.phase_shared.specs.Views.{knowledge}
use Rattle.phase_shared.specs.WordTells.{OwnerReadAt, SendReadAt}
use Rattle.phase_shared.proofs.Growing.{done_grows, signals_grow}
use Rattle.phase_shared.proofs.Small.{is_in_self, apart_phases, longer_some, none_below}
use Rattle.phase_shared.proofs.Stages.{at_entry, signal_is, wait_is, stage_goes, stands_other, stands_signalled, stands_waited, further}
use Rattle.phase_shared.proofs.ServingReads.{HasRead, asked_there, owner_is}

-- ---- an event of another task

pub made_other : (limits : Limits) (ask : Ask) (seen h : History) (e : Event) → IsLegal limits (e ∷ h) → is_by ask.task e ≡ false
    → IsMade limits ask seen h → IsMade limits ask seen (e ∷ h)
made_other limits ask seen h e legal other m = record {
  before = m.before;
  others = m.others;
  accepted = m.accepted;
  signalled_in = m.signalled_in;
  since = further ask.task (Signalled ask.task (ask.sends ∷ []) None ∷ m.before) h e other m.since;
  stands = stands_other limits h e ask.task (ask.phase + 1) ask.phase legal other m.stands;
}

-- a waiter stays one
pub waiter_other : (limits : Limits) (h : History) (e : Event) (task s w : ℕ) → IsLegal limits (e ∷ h) → is_by task e ≡ false
    → IsAtPhases h task s w → IsWaiterIn h task → IsWaiterIn (e ∷ h) task
waiter_other limits h e task s w legal other st waits entry member =
    let same : st.entry ≡ entry = same_Some st.entry entry (sym (stays limits h e task s w legal other st) ∙ member) in
    subst (λ (x : Entry). mode_waits x.mode ≡ true) same (waits st.entry st.member)
  where
    stays : (limits : Limits) (h : History) (e : Event) (task s w : ℕ) → IsLegal limits (e ∷ h) → is_by task e ≡ false
        → (st : IsAtPhases h task s w) → entry_of (members_of (e ∷ h)) task ≡ Some st.entry
    stays limits h e task s w legal other st =
        entry_of-others limits (e ∷ []) h task st.entry legal (ap (λ b. cond b (e ∷ []) []) other) st.member

-- a phase that is complete stays so
pub further_done : (limits : Limits) (phase : ℕ) (old : History) (e : Event) → IsLegal limits (e ∷ old) → (old ≡ [] → ⊥) → phase < done_of old → phase < done_of (e ∷ old)
further_done limits phase old e legal some low = let more = done_grows limits (e ∷ []) old some legal in omega arith

module _ {A : Type 0} (op : Operation A) (limits : Limits) (allows : Allows) (ask : Ask) (seen : History) where
  -- another's event leaves what it owes
  owes_other : (h : History) (e : Event) → IsLegal limits (e ∷ h) → is_by ask.task e ≡ false → OwesWait op limits allows ask seen h → OwesWait op limits allows ask seen (e ∷ h)
  owes_other h e legal other o = record {
    made = made_other limits ask seen h e legal other o.made;
    waits = waiter_other limits h e ask.task (ask.phase + 1) ask.phase legal other o.made.stands o.waits;
    may = o.may;
  }

  -- an event of a task that the seat does not speak for is not its own
  not_by_me : (a : Ask) → is_in a.task (ask.task ∷ []) ≡ false → eqb a.task ask.task ≡ false
  not_by_me a theirs = ne_eqb a.task ask.task (λ same. not_both (is_in a.task (ask.task ∷ []))
      (subst (λ (m : ℕ). is_in m (ask.task ∷ []) ≡ true) (sym same) (is_in_self ask.task [])) theirs)

  -- ---- a signal for another task

  pub signals_more : (lane task owner r n : ℕ) (w u v : View) (x y : CoreState A) (h : HasRead op limits allows ask seen false 0 lane r w x) → r ≡ ask.phase + 1
      → done_of h.serving.turned.did.now ≤ ask.phase → OwnerReadAt lane w owner u → ((m : ℕ) → owner ≡ m + 1 → task ≡ m)
      → SendReadAt lane u n v → HasToSignal x.members task ask.phase → y.limits ≡ x.limits
      → StandsFor op y (Signalled task (sends_of n ∷ []) None ∷ h.serving.turned.did.later ++ h.serving.turned.did.now)
      → Serving op limits allows ask seen false 0 v y
  signals_more lane task owner r n w u v x y h is open' owned task_of sent' before same_limits stands' =
      let s = h.serving in
      let own = owner_is op limits allows ask seen false 0 lane owner w u x s owned in
      let sent : SendReadAt lane w n v = subst (λ (z : View). SendReadAt lane z n v) own.0 sent' in
      let t = s.turned in
      let old : History = t.did.later ++ t.did.now in
      let there : entry_of (members_of old) task ≡ Some before.entry = ap (λ ms. entry_of ms task) (sym t.stands.stands.members_are) ∙ before.member in
      let q = asked_there op limits allows ask seen false 0 lane r w x h is open' in
      let a : Ask = q.0 in
      let c = q.3 in
      let task_is : a.task ≡ task = sym (task_of a.task (own.1 a c.one q.1)) in
      let at_old : IsAtPhases old a.task a.phase a.phase = stands_at a before.entry task_is q.2 there before.signals before.signal_at before.wait_at in
      let legal_now : IsLegal limits t.did.now = IsLegal-beginning limits t.did.now old t.did.some t.good.legal (record { later = t.did.later; is = refl }) in
      let claim : IsAtPhases t.did.now a.task a.phase a.phase × MayBeMade limits allows t.did.now a = elim c.stands [
        | inl u ↦ u
        | inr m ↦ absurd (let low = signals_grow limits t.did.later t.did.now a.task (a.phase + 1) a.phase a.phase a.phase legal_now t.good.legal m at_old in omega arith)
      ] in
      let sends_are : sends_of n ≡ a.sends = (sent (knowledge t.did.now (ask.task ∷ [])) t.did.claims t.did.said t.did.lane t.is).1 a c.one q.1 claim.0 in
      let e : Event = Signalled a.task (a.sends ∷ []) None in
      let event_is : Signalled task (sends_of n ∷ []) None ≡ e = λ i. Signalled (sym task_is i) (sends_are i ∷ []) None in
      let stands'' : StandsFor op y (e ∷ old) = subst (λ (z : Event). StandsFor op y (z ∷ old)) event_is stands' in
      let limits_are : y.limits ≡ limits = same_limits ∙ t.stands.limits_are in
      let legal' : IsLegal limits (e ∷ old) = subst (λ (l : Limits). IsLegal l (e ∷ old)) limits_are stands''.legal in
      let stage : Stage limits a claim.1.seen old =
      stage_goes limits (IsOneOf t.did.claims) (ask.task ∷ []) t.did.now t.did.some a claim.1.seen c.theirs c.only t.did.later t.did.batch t.good.legal
      (inl record { others = claim.1.others; stands = claim.0 }) in
      let came : OthersCame (a.task ∷ []) claim.1.seen old = unmade_others a claim.1.seen old at_old stage in
      let mine : is_by ask.task e ≡ false = not_by_me a c.theirs in
      record {
        turned = record {
          did = record t.did {
            later = e ∷ t.did.later;
            batch = (t.did.batch, inr (inl record { ask = a; claimed = c.one; is = refl; at = signal_is old a.task a.phase a.phase at_old }));
          };
          is = (sent (knowledge t.did.now (ask.task ∷ [])) t.did.claims t.did.said t.did.lane t.is).0 ∙ t.is;
          good = record { legal = legal'; keeps = (claim.1.may old t.good came, t.good.keeps) };
          stands = record { stands = stands''; limits_are = limits_are };
          quiet = λ not b one st. still_quiet t.did.claims old a b at_old c.only one legal' (t.quiet not b one) st;
          complete = λ no'. absurd (not_both false no' refl);
          served = λ b one below. absurd (none_below b.lane below);
        };
        owes = owes_other old e legal' mine s.owes;
      }
    where
      stands_at : (a : Ask) (entry : Entry) → a.task ≡ task → a.phase ≡ ask.phase → {old : History} → entry_of (members_of old) task ≡ Some entry
          → mode_signals entry.mode ≡ true → entry.signal_phase ≡ ask.phase → entry.wait_phase ≡ ask.phase → IsAtPhases old a.task a.phase a.phase
      stands_at a entry same_task same_phase {old} member signals signal_at wait_at = record {
        entry = entry;
        member = ap (λ (m : ℕ). entry_of (members_of old) m) same_task ∙ member;
        signals = signals;
        signal_at = signal_at ∙ sym same_phase;
        wait_at = wait_at ∙ sym same_phase;
      }

      unmade_others : (a : Ask) (g old : History) → IsAtPhases old a.task a.phase a.phase → Stage limits a g old → OthersCame (a.task ∷ []) g old
      unmade_others a g old st (inl u) = u.others
      unmade_others a g old st (inr (inl m)) =
          absurd (apart_phases a.phase (sym (signal_is old a.task (a.phase + 1) a.phase m.stands) ∙ signal_is old a.task a.phase a.phase st))
      unmade_others a g old st (inr (inr n)) =
          absurd (apart_phases a.phase (sym (signal_is old a.task (a.phase + 1) (a.phase + 1) n.stands) ∙ signal_is old a.task a.phase a.phase st))

      still_quiet : (claims : List Ask) (old : History) (a b : Ask) → IsAtPhases old a.task a.phase a.phase
          → ((d : Ask) → IsOneOf claims d → d.task ≡ a.task → d ≡ a) → IsOneOf claims b → IsLegal limits (Signalled a.task (a.sends ∷ []) None ∷ old)
          → (IsAtPhases old b.task (b.phase + 1) (b.phase + 1) → ⊥)
          → IsAtPhases (Signalled a.task (a.sends ∷ []) None ∷ old) b.task (b.phase + 1) (b.phase + 1) → ⊥
      still_quiet claims old a b at_old only one legal quiet st = elim (eqb a.task b.task) as (λ c. (eqb a.task b.task ≡ c) → ⊥) [
        | true ↦ λ t.
            let same : b ≡ a = only b one (sym (eqb-true a.task b.task t)) in
            let st' : IsAtPhases (Signalled a.task (a.sends ∷ []) None ∷ old) a.task (a.phase + 1) (a.phase + 1) =
            subst (λ (z : Ask). IsAtPhases (Signalled a.task (a.sends ∷ []) None ∷ old) z.task (z.phase + 1) (z.phase + 1)) same st in
            let here = stands_signalled old a.task a.phase a.phase a.sends at_old in
            apart_phases a.phase (sym (wait_is (Signalled a.task (a.sends ∷ []) None ∷ old) a.task (a.phase + 1) (a.phase + 1) st')
            ∙ wait_is (Signalled a.task (a.sends ∷ []) None ∷ old) a.task (a.phase + 1) a.phase here)
        | false ↦ λ n.
            quiet (at_entry (Signalled a.task (a.sends ∷ []) None ∷ old) old b.task (b.phase + 1) (b.phase + 1) st
            (sym (entry_of-changed_other a.task b.task (signalled 1) (members_of old) n) ∙ st.member))
      ] refl

  -- ---- a wait for another task

  -- where a claim's wait is made
  pub waits_more : (k lane task owner r : ℕ) (w u : View) (x y : CoreState A) (h : HasRead op limits allows ask seen true k lane r w x) → r ≡ ask.phase + 1
      → done_of h.serving.turned.did.now ≤ ask.phase → OwnerReadAt lane w owner u → ((m : ℕ) → owner ≡ m + 1 → task ≡ m)
      → IsBetween x.members task ask.phase → y.limits ≡ x.limits
      → StandsFor op y (Waited task 1 ∷ h.serving.turned.did.later ++ h.serving.turned.did.now)
      → (j : ℕ) → ((b : Ask) → b.lane < j → (b.lane < k) ⊎ (b.lane ≡ lane))
      → Serving op limits allows ask seen true j u y
  waits_more k lane task owner r w u x y h is open' owned task_of between same_limits stands' j cover =
      let s = h.serving in
      let own = owner_is op limits allows ask seen true k lane owner w u x s owned in
      let t = s.turned in
      let old : History = t.did.later ++ t.did.now in
      let there : entry_of (members_of old) task ≡ Some between.entry = ap (λ ms. entry_of ms task) (sym t.stands.stands.members_are) ∙ between.member in
      let q = asked_there op limits allows ask seen true k lane r w x h is open' in
      let a : Ask = q.0 in
      let c = q.3 in
      let task_is : a.task ≡ task = sym (task_of a.task (own.1 a c.one q.1)) in
      let only : (b : Ask) → IsOneOf t.did.claims b → b.lane ≡ lane → b ≡ a =
      λ b one here. c.only b one (let mine = own.1 a c.one q.1 in let theirs = own.1 b one here in omega arith) in
      let at_old : IsAtPhases old a.task (a.phase + 1) a.phase = record {
        entry = between.entry;
        member = ap (λ (m : ℕ). entry_of (members_of old) m) task_is ∙ there;
        signals = between.signals;
        signal_at = between.signal_at ∙ ap (λ (m : ℕ). m + 1) (sym q.2);
        wait_at = between.wait_at ∙ sym q.2;
      } in
      let e : Event = Waited a.task 1 in
      let event_is : Waited task 1 ≡ e = λ i. Waited (sym task_is i) 1 in
      let stands'' : StandsFor op y (e ∷ old) = subst (λ (z : Event). StandsFor op y (z ∷ old)) event_is stands' in
      let limits_are : y.limits ≡ limits = same_limits ∙ t.stands.limits_are in
      let legal' : IsLegal limits (e ∷ old) = subst (λ (l : Limits). IsLegal l (e ∷ old)) limits_are stands''.legal in
      let mine : is_by ask.task e ≡ false = not_by_me a c.theirs in
      record {
        turned = record {
          did = record t.did {
            later = e ∷ t.did.later;
            batch = (
              t.did.batch,
              inr (inr record {
                ask = a;
                claimed = c.one;
                is = refl;
                signalled = signal_is old a.task (a.phase + 1) a.phase at_old;
                at = wait_is old a.task (a.phase + 1) a.phase at_old;
              }),
            );
          };
          is = own.0 ∙ t.is;
          good = record { legal = legal'; keeps = t.good.keeps };
          stands = record { stands = stands''; limits_are = limits_are };
          quiet = λ no'. absurd (not_both true refl no');
          complete = λ yes'. further_done limits ask.phase old e legal' (longer_some t.did.later t.did.now t.did.some) (t.complete refl);
          served = λ b one below same. served_more t.did.claims old a b at_old c.only one legal' (t.served b one) (cover b below) (only b one) same;
        };
        owes = owes_other old e legal' mine s.owes;
      }
    where
      served_more : (claims : List Ask) (old : History) (a b : Ask) → IsAtPhases old a.task (a.phase + 1) a.phase
          → ((d : Ask) → IsOneOf claims d → d.task ≡ a.task → d ≡ a) → IsOneOf claims b → IsLegal limits (Waited a.task 1 ∷ old)
          → (b.lane < k → b.phase ≡ ask.phase → IsAtPhases old b.task (b.phase + 1) (b.phase + 1))
          → ((b.lane < k) ⊎ (b.lane ≡ lane)) → (b.lane ≡ lane → b ≡ a) → b.phase ≡ ask.phase
          → IsAtPhases (Waited a.task 1 ∷ old) b.task (b.phase + 1) (b.phase + 1)
      served_more claims old a b at_old only one legal served where' here_is same = elim (eqb a.task b.task)
          as (λ c. (eqb a.task b.task ≡ c) → IsAtPhases (Waited a.task 1 ∷ old) b.task (b.phase + 1) (b.phase + 1)) [
            | true ↦ λ t.
                let is_a : b ≡ a = only b one (sym (eqb-true a.task b.task t)) in
                subst (λ (z : Ask). IsAtPhases (Waited a.task 1 ∷ old) z.task (z.phase + 1) (z.phase + 1)) (sym is_a)
                (stands_waited old a.task (a.phase + 1) a.phase at_old)
            | false ↦ λ n. elim where' [
              | inl below ↦ stands_other limits old (Waited a.task 1) b.task (b.phase + 1) (b.phase + 1) legal n (served below same)
              | inr here ↦ absurd (not_both (eqb a.task b.task) (eq-eqb a.task b.task (ap (λ (z : Ask). z.task) (sym (here_is here)))) n)
            ]
          ] refl
