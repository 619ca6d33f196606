-- A turn of a seat that asked goes on: it is the same in other words, it has come further, or it
-- makes its own wait.
use Rattle.std.proofs.Common.{◌≡◌, ◌≢◌, ℕ, ◌+◌, ◌<◌, ◌≤◌, Bool, true, false, cond, eqb, ltb, leb, [], ◌∷◌, ◌++◌, ◌⊎◌, None, refl, sym, ap, subst, ◌∙◌, inl, inr, arith}
use Rattle.std.proofs.lemmas.Bool.{ne_eqb, ltb-true, ltb-false, lt-ltb, le-ltb, leb-true}
use Rattle.phase_shared.specs.Phasers.{Limits, mode_signals, waited, Operation, Outcome, Event, History, members_of, done_of, wait_phase, least, signal_phases, positions_of, value_of_phase, refusal_at, wait_rows, wait_refusal, wait_reply, refused_or, got_at, Got, WaitRefusal, IsLegal, is_by, CoreState, StandsFor}
use Rattle.phase_history.specs.declared.event.Event.TheVariants.{Waited}
use Rattle.std.specs.Prelude.{Ok, Result, is_some, not, ◌&&◌}
use Rattle.phase_history.specs.declared.got.Got.TheVariants as got
use Rattle.phase_history.specs.declared.refusal.WaitRefusal.TheVariants as wait
use Rattle.phase_history.proofs.Refused.{first_row_none}
use Rattle.phase_history.proofs.MemberLemmas.{entry_of-changed_other}
use Rattle.phase_history.proofs.Standstill.{limits_of}
use Rattle.phase_shared.specs.declared.seats.request.Request.{Request}
use Rattle.phase_shared.specs.declared.seats.view.View.{View}
use Rattle.phase_shared.specs.Asks.{Ask, IsAtPhases, IsOneOf}
use Rattle.phase_shared.specs.Goods.{Allows}
use Rattle.phase_shared.specs.Servings.{ask_of, Serving, ServingOpen, Finished, IsPhaseDone}
use Rattle.phase_shared.specs.Views.{knowledge, known_of}
use Rattle.phase_shared.specs.WordTells.{IsHolder, IsOther, LaneReadAt, SendReadAt}
use Rattle.phase_shared.proofs.Places.{own_not_held, held_same}
use Rattle.phase_shared.proofs.Small.{longer_some, or_false}
use Rattle.phase_shared.proofs.Stages.{at_entry, wait_is, stands_other}
use Rattle.phase_shared.proofs.Steadies.{same_value}
use Rattle.phase_shared.proofs.ServingReads.{HasRead}
use Rattle.phase_shared.proofs.ServingSteps.{further_done}

pub below_or : (m k : ℕ) → m < k + 1 → (m < k) ⊎ (m ≡ k)
below_or m k low = elim (ltb m k) as (λ b. (ltb m k ≡ b) → (m < k) ⊎ (m ≡ k)) [
  | true ↦ λ t. inl (ltb-true m k t)
  | false ↦ λ f. inr (let high = ltb-false m k f in omega arith)
] refl

module _ {A : Type 0} (op : Operation A) (limits : Limits) (allows : Allows) (ask : Ask) (seen : History) where
  -- ---- at a turn

  -- the same turn, seen in another way
  pub same_turn : (serves : Bool) (k : ℕ) (v w : View) (x y : CoreState A) → w ≡ v → y ≡ x → Serving op limits allows ask seen serves k v x
      → Serving op limits allows ask seen serves k w y
  same_turn serves k v w x y same_view same_value s =
      subst (λ (z : CoreState A). Serving op limits allows ask seen serves k w z) (sym same_value)
      (subst (λ (u : View). Serving op limits allows ask seen serves k u x) (sym same_view) s)

  -- what it knows stays where it reads a lane
  pub reads_knows : (serves : Bool) (k lane r : ℕ) (v w : View) (x : CoreState A) → Serving op limits allows ask seen serves k v x
      → LaneReadAt limits allows lane v r w → known_of w ≡ known_of v
  reads_knows serves k lane r v w x s read =
      let t = s.turned in
      let l = read (knowledge t.did.now (ask.task ∷ [])) t.did.claims t.did.said t.did.lane t.is in
      ap known_of l.is ∙ sym (ap known_of t.is)

  -- its phase was open, as what it knows says
  pub stays_open : (serves : Bool) (v w : View) (x y : CoreState A) → known_of w ≡ known_of v → ServingOpen op limits allows ask seen serves v x
      → Serving op limits allows ask seen serves 0 w y → ServingOpen op limits allows ask seen serves w y
  stays_open serves v w x y same o s = record {
    serving = s;
    was_open = subst (λ f. done_of f.seen ≤ ask.phase) (sym same) o.was_open;
    asks = o.asks;
  }

  -- another's lane
  pub is_other : (serves : Bool) (k lane : ℕ) (v : View) (x : CoreState A) → lane ≢ ask.lane → Serving op limits allows ask seen serves k v x → IsOther lane v
  is_other serves k lane v x apart s = record {
    knows = knowledge s.turned.did.now (ask.task ∷ []);
    claims = s.turned.did.claims;
    said = s.turned.did.said;
    lane = s.turned.did.lane;
    is = s.turned.is;
    other = λ n held. elim s.turned.did.own [
      | inl own ↦ own_not_held ask.lane lane n (sym own ∙ held)
      | inr has ↦ apart (sym (held_same ask.lane lane (ask.phase + 1) n (sym has ∙ held)))
    ];
  }

  pub is_else : (r : Request) (lane : ℕ) → ask ≡ ask_of r → lane ≢ r.lane → lane ≢ ask.lane
  is_else r lane asks apart same = apart (same ∙ ap (λ (a : Ask). a.lane) asks)

  -- whoever it is, its turn is a holder's
  pub is_holder : (serves : Bool) (k : ℕ) (v : View) (x : CoreState A) → Serving op limits allows ask seen serves k v x → IsHolder v
  is_holder serves k v x s = record {
    knows = knowledge s.turned.did.now (ask.task ∷ []);
    claims = s.turned.did.claims;
    said = s.turned.did.said;
    lane = s.turned.did.lane;
    is = s.turned.is;
  }

  -- where it read what is sent
  pub send_knows : (serves : Bool) (k task n : ℕ) (w v : View) (x : CoreState A) → Serving op limits allows ask seen serves k w x → SendReadAt task w n v → v ≡ w
  send_knows serves k task n w v x s sent =
      (sent (knowledge s.turned.did.now (ask.task ∷ [])) s.turned.did.claims s.turned.did.said s.turned.did.lane s.turned.is).0

  -- the core stands for what it stood for
  pub core_stays : (serves : Bool) (k : ℕ) (v : View) (x y : CoreState A) (s : Serving op limits allows ask seen serves k v x) → y.limits ≡ x.limits
      → StandsFor op y (s.turned.did.later ++ s.turned.did.now) → Serving op limits allows ask seen serves k v y
  core_stays serves k v x y s same_limits stands' = record {
    turned = record {
      did = s.turned.did;
      is = s.turned.is;
      good = s.turned.good;
      stands = record { stands = stands'; limits_are = same_limits ∙ s.turned.stands.limits_are };
      quiet = s.turned.quiet;
      complete = s.turned.complete;
      served = s.turned.served;
    };
    owes = s.owes;
  }

  -- it has come as far as lane k
  pub serves_to : (serves : Bool) (k j : ℕ) (v : View) (x : CoreState A) (s : Serving op limits allows ask seen serves k v x)
      → ((a : Ask) → IsOneOf s.turned.did.claims a → a.lane < j → a.phase ≡ ask.phase
      → IsAtPhases (s.turned.did.later ++ s.turned.did.now) a.task (a.phase + 1) (a.phase + 1))
      → Serving op limits allows ask seen serves j v x
  serves_to serves k j v x s served = record {
    turned = record {
      did = s.turned.did;
      is = s.turned.is;
      good = s.turned.good;
      stands = s.turned.stands;
      quiet = s.turned.quiet;
      complete = s.turned.complete;
      served = served;
    };
    owes = s.owes;
  }

  -- it has served those below j, where it has served those below k
  pub as_far : (k j : ℕ) (v : View) (x : CoreState A) → j ≤ k → Serving op limits allows ask seen true k v x → Serving op limits allows ask seen true j v x
  as_far k j v x low s = serves_to true k j v x s (λ a one below same. s.turned.served a one (below_all a.lane below) same)
    where
      below_all : (m : ℕ) → m < j → m < k
      below_all m here = omega arith

  -- no ask is in its own lane
  pub none_own : (k : ℕ) (v : View) (x : CoreState A) → k ≡ ask.lane → Serving op limits allows ask seen true k v x
      → Serving op limits allows ask seen true (k + 1) v x
  none_own k v x own s = serves_to true k (k + 1) v x s (λ a one below same. elim (below_or a.lane k below) [
    | inl low ↦ s.turned.served a one low same
    | inr here ↦ absurd (s.turned.did.apart a one (here ∙ own))
  ])

  -- where the lane has no ask for the phase
  pub none_asked : (k r : ℕ) (v : View) (x : CoreState A) (h : HasRead op limits allows ask seen true k k r v x) → (r ≡ ask.phase + 1 → ⊥)
      → Serving op limits allows ask seen true (k + 1) v x
  none_asked k r v x h other = serves_to true k (k + 1) v x h.serving (λ a one below same. elim (below_or a.lane k below) [
    | inl low ↦ h.serving.turned.served a one low same
    | inr here ↦ absurd (other (h.read a one here ∙ ap (λ (n : ℕ). n + 1) same))
  ])

  -- ---- its own wait

  -- it is accepted, and gets the value
  pub own_reply : (serves : Bool) (k : ℕ) (v : View) (x : CoreState A) (s : Serving op limits allows ask seen serves k v x) → IsPhaseDone s
      → wait_reply op.value limits (s.turned.did.later ++ s.turned.did.now) ask.task
      ≡ Ok (got.Value ask.phase (value_of_phase op.value (s.turned.did.later ++ s.turned.did.now) ask.phase))
  own_reply serves k v x s done =
      let h = s.turned.did.later ++ s.turned.did.now in
      let st = s.owes.made.stands in
      let e = st.entry in
      let bound : 1 ≤ limits.bound = (limits_of limits h s.turned.good.legal).bound_least in
      let first : (mode_signals e.mode && eqb e.signal_phase e.wait_phase) ≡ false =
      ap (λ b. b && eqb e.signal_phase e.wait_phase) st.signals ∙ ne_eqb e.signal_phase e.wait_phase (later_than e.signal_phase e.wait_phase st.signal_at st.wait_at) in
      let yet : (leb (done_of h) e.wait_phase && is_some (least (signal_phases (members_of h)))) ≡ false =
      ap (λ b. b && is_some (least (signal_phases (members_of h)))) (not_leb (done_of h) e.wait_phase (let at : e.wait_phase ≡ ask.phase = st.wait_at in let d : ask.phase < done_of h = done in omega arith)) in
      let none : wait_refusal limits h ask.task 1 ≡ None =
      ap (λ o. refusal_at o wait.NoTask (wait_rows limits (positions_of h) 1)) st.member
      ∙ first_row_none (wait_rows limits (positions_of h) 1 e) (ap not (s.owes.waits e st.member), (le-ltb limits.bound 1 bound, (first, (yet, tt)))) in
      ap (λ o. refused_or o (got_at op.value h (wait_phase h ask.task))) none
      ∙ ap (λ (n : ℕ). refused_or None (got_at op.value h n)) (wait_is h ask.task (ask.phase + 1) ask.phase st)
      ∙ ap (λ (b : Bool). Ok (cond b (got.Value ask.phase (value_of_phase op.value h ask.phase)) got.Ended)) (lt-ltb ask.phase (done_of h) done)
    where
      later_than : (m n : ℕ) → m ≡ ask.phase + 1 → n ≡ ask.phase → m ≢ n
      later_than m n a b same = omega arith

      not_leb : (m n : ℕ) → n < m → leb m n ≡ false
      not_leb m n low = elim (leb m n) as (λ b. (leb m n ≡ b) → b ≡ false) [
        | true ↦ λ t. absurd (let high = leb-true m n t in omega arith)
        | false ↦ λ f. refl
      ] refl

  -- the turn with it
  pub own_waited : (serves : Bool) (k : ℕ) (outcome : Outcome) (phase : ℕ) (v : View) (x y : CoreState A) (s : Serving op limits allows ask seen serves k v x)
      → IsPhaseDone s → Ok (got.Value phase outcome) ≡ wait_reply op.value limits (s.turned.did.later ++ s.turned.did.now) ask.task → y.limits ≡ x.limits
      → StandsFor op y (Waited ask.task 1 ∷ s.turned.did.later ++ s.turned.did.now)
      → Finished op limits allows ask seen serves k outcome v y
  own_waited serves k outcome phase v x y s done reply same_limits stands' =
      let t = s.turned in
      let h : History = t.did.later ++ t.did.now in
      let e : Event = Waited ask.task 1 in
      let limits_are : y.limits ≡ limits = same_limits ∙ t.stands.limits_are in
      let legal' : IsLegal limits (e ∷ h) = subst (λ (l : Limits). IsLegal l (e ∷ h)) limits_are stands'.legal in
      let others : (a : Ask) → IsOneOf t.did.claims a → is_by a.task e ≡ false = λ a one. or_false (eqb ask.task a.task) (t.did.theirs a one) in
      record {
        turned = record {
          did = record t.did { later = e ∷ t.did.later; batch = (t.did.batch, inl (λ task out. or_false (eqb ask.task task) out)) };
          is = t.is;
          good = record { legal = legal'; keeps = t.good.keeps };
          stands = record { stands = stands'; limits_are = limits_are };
          quiet = λ not a one st. t.quiet not a one (at_entry (e ∷ h) h a.task (a.phase + 1) (a.phase + 1) st
              (sym (entry_of-changed_other ask.task a.task (waited 1) (members_of h) (others a one)) ∙ st.member));
          complete = λ _. further_done limits ask.phase h e legal' (longer_some t.did.later t.did.now t.did.some) done;
          served = λ a one below same. stands_other limits h e a.task (a.phase + 1) (a.phase + 1) legal' (others a one) (t.served a one below same);
        };
        middle = h;
        last = refl;
        made = s.owes.made;
        accepted = legal'.1.0;
        complete = done;
        has = same_value_of (reply ∙ own_reply serves k v x s done)
            ∙ sym (same_value limits t.did.claims (ask.task ∷ []) h (longer_some t.did.later t.did.now t.did.some) op.value ask.phase (e ∷ []) legal' done).1;
      }
    where
      same_value_of : {p : ℕ} {o q : Outcome} → ◌≡◌ {A = Result Got WaitRefusal} (Ok (got.Value p o)) (Ok (got.Value ask.phase q)) → o ≡ q
      same_value_of e = cc
