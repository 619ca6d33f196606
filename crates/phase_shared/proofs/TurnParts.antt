-- The parts of a turn of a seat that asks: how it begins, its own signal, and what it ends with.
use Rattle.std.proofs.Common.{◌≡◌, ℕ, ◌+◌, ◌≤◌, Bool, true, false, eqb, [], ◌∷◌, ◌++◌, None, Some, refl, sym, ap, subst, ◌∙◌, ◌⊎◌, inl, inr, arith}
use Rattle.std.specs.Prelude.{Err}
use Rattle.std.proofs.lemmas.Option.{same_Some}
use Rattle.phase_shared.specs.Phasers.{is_in, mode_waits, signalled, Entry, Limits, Operation, History, members_of, done_of, signal_phase, signal_refusal, signal_reply, SignalRefusal, IsLegal, CoreState, StandsFor}
use Rattle.phase_history.specs.declared.event.Event.TheVariants.{Signalled}
use Rattle.phase_history.proofs.MemberLemmas.{entry_of-changed_same, entry_of-changed_other}
use Rattle.phase_shared.specs.Asks.{Ask, IsAtPhases, IsMade, IsOneOf}
use Rattle.phase_shared.specs.Desks.{View}
use Rattle.phase_shared.specs.Goods.{Allows, IsGood}
use Rattle.phase_shared.specs.Lanes.{sends_of}
use Rattle.phase_shared.specs.Rule.{StandsWithin}
use Rattle.phase_shared.specs.declared.seats.request.Request.{Request}
use Rattle.phase_shared.specs.Servings.{ask_of, Turned, Starting, Serving, IsPhaseDone, IsCompleteIn, WasOpen}
use Rattle.phase_shared.specs.Views.{Lane, Own, Holds, knowledge, known_of}
use Rattle.phase_shared.specs.WordTells.{KnowsOwn, IsOwnLane, IsHolder, Completes}
use Rattle.phase_shared.proofs.Answering.{refused_is}
use Rattle.phase_shared.proofs.Small.{or_false, none_below}
use Rattle.phase_shared.proofs.Stages.{at_entry, signal_is, done_within, stage_signalled}

-- another task stood before the signal where it stands after it
stood : (h : History) (task s w : ℕ) (ask : Ask) → is_in task (ask.task ∷ []) ≡ false → IsAtPhases (Signalled ask.task (ask.sends ∷ []) None ∷ h) task s w
    → IsAtPhases h task s w
stood h task s w ask other st =
    at_entry (Signalled ask.task (ask.sends ∷ []) None ∷ h) h task s w st
    (sym (entry_of-changed_other ask.task task (signalled 1) (members_of h) (or_false (eqb ask.task task) other)) ∙ st.member)

pub false_true : false ≡ true → ⊥
false_true e = cc

true_false : true ≡ false → ⊥
true_false e = cc

module _ {A : Type 0} (op : Operation A) (limits : Limits) (allows : Allows) (ask : Ask) where
  -- ---- what it knows

  its_own : (lane : Lane) → (lane ≡ Own ask.lane) ⊎ (lane ≡ Holds ask.lane (ask.phase + 1)) → KnowsOwn ask.lane lane
  its_own lane (inl is) = inl is
  its_own lane (inr is) = inr (ask.phase + 1, is)

  pub own_lane : (serves : Bool) (k : ℕ) (v : View) (x : CoreState A) → Turned op limits allows ask serves k v x → IsOwnLane ask.lane v
  own_lane serves k v x t = record { knows = knowledge t.did.now (ask.task ∷ []); claims = t.did.claims; said = t.did.said; lane = t.did.lane; is = t.is; own = its_own t.did.lane t.did.own }

  pub holder : (serves : Bool) (k : ℕ) (v : View) (x : CoreState A) → Turned op limits allows ask serves k v x → IsHolder v
  holder serves k v x t = record { knows = knowledge t.did.now (ask.task ∷ []); claims = t.did.claims; said = t.did.said; lane = t.did.lane; is = t.is }

  pub seen_is : (serves : Bool) (k : ℕ) (v : View) (x : CoreState A) (t : Turned op limits allows ask serves k v x) → (known_of v).seen ≡ t.did.now
  seen_is serves k v x t = ap (λ (u : View). (known_of u).seen) t.is

  -- the phase was open when the turn was taken, as the turn says
  pub was_open : (serves : Bool) (k : ℕ) (u v : View) (x : CoreState A) (t : Turned op limits allows ask serves k v x)
      → known_of v ≡ known_of u → WasOpen u ask.phase → done_of t.did.now ≤ ask.phase
  was_open serves k u v x t same open' =
      subst (λ (h : History). done_of h ≤ ask.phase) (sym (ap (λ f. f.seen) same) ∙ seen_is serves k v x t) open'

  module _ (seen : History) where
    -- ---- its own signal

    module _ (v : View) (x : CoreState A) (s : Starting op limits allows ask seen v x) where
      pub good_first : IsGood limits allows s.turned.did.now
      good_first = subst (λ (l : History). IsGood limits allows (l ++ s.turned.did.now)) s.first s.turned.good

      pub stands_first : StandsWithin op limits x s.turned.did.now
      stands_first = subst (λ (l : History). StandsWithin op limits x (l ++ s.turned.did.now)) s.first s.turned.stands

      -- no other's ask is answered then
      pub quiet_first : (a : Ask) → IsOneOf s.turned.did.claims a → IsAtPhases s.turned.did.now a.task (a.phase + 1) (a.phase + 1) → ⊥
      quiet_first a one st = s.turned.quiet refl a one (subst (λ (l : History). IsAtPhases (l ++ s.turned.did.now) a.task (a.phase + 1) (a.phase + 1)) (sym s.first) st)

      -- its phase is open
      pub open_first : WasOpen v ask.phase
      open_first = subst (λ (h : History). done_of h ≤ ask.phase) (sym (seen_is false 0 v x s.turned))
          (done_within s.turned.did.now ask.task ask.phase ask.phase s.unmade.stands)

      -- the core's refusal of it
      pub is_refused : (r : Request) → ask ≡ ask_of r → (told : Limits) (refusal : SignalRefusal) → told ≡ limits
          → signal_reply told s.turned.did.now r.task (sends_of r.send ∷ []) None ≡ Err refusal
          → signal_refusal limits (known_of v).seen ask.task (ask.sends ∷ []) None ≡ Some refusal
      is_refused r asks told refusal same reply =
          subst (λ (h : History). signal_refusal limits h ask.task (ask.sends ∷ []) None ≡ Some refusal) (sym (seen_is false 0 v x s.turned))
          (subst (λ (a : Ask). signal_refusal limits s.turned.did.now a.task (a.sends ∷ []) None ≡ Some refusal) (sym asks)
          (subst (λ (l : Limits). signal_refusal l s.turned.did.now r.task (sends_of r.send ∷ []) None ≡ Some refusal) same
          (refused_is (signal_refusal told s.turned.did.now r.task (sends_of r.send ∷ []) None) (signal_phase s.turned.did.now r.task) refusal reply)))

      pub signs : (y : CoreState A) → y.limits ≡ x.limits → StandsFor op y (Signalled ask.task (ask.sends ∷ []) None ∷ s.turned.did.now)
          → Serving op limits allows ask seen false 0 v y
      signs y same after =
          let t = s.turned in
          let now : History = t.did.now in
          let new : History = Signalled ask.task (ask.sends ∷ []) None ∷ now in
          let stands' : StandsWithin op limits y new = record { stands = after; limits_are = same ∙ stands_first.limits_are } in
          let legal : IsLegal limits new = subst (λ (l : Limits). IsLegal l new) stands'.limits_are stands'.stands.legal in
          let made : IsMade limits ask seen new = stage_signalled limits ask seen now legal.0 legal.1
          (signal_is now ask.task ask.phase ask.phase s.unmade.stands) (inl s.unmade) in
          let first : Entry = s.unmade.stands.entry in
          record {
            turned = record {
              did = record t.did { later = Signalled ask.task (ask.sends ∷ []) None ∷ []; batch = (tt, inl (λ task out. or_false (eqb ask.task task) out)) };
              is = t.is;
              good = record { legal = legal; keeps = (s.may now good_first s.unmade.others, good_first.keeps) };
              stands = stands';
              quiet = λ no a one st. quiet_first a one (stood now a.task (a.phase + 1) (a.phase + 1) ask (t.did.theirs a one) st);
              complete = λ yes'. absurd (false_true yes');
              served = λ a one low at. absurd (none_below a.lane low);
            };
            owes = record {
              made = made;
              waits = λ e member.
                  let is : signalled 1 first ≡ e = same_Some (signalled 1 first) e
                  (sym (entry_of-changed_same ask.task (signalled 1) first (members_of now) s.unmade.stands.member) ∙ member) in
                  ap (λ (d : Entry). mode_waits d.mode) (sym is) ∙ s.waits first s.unmade.stands.member;
              may = s.may;
            };
          }

    -- ---- its phase is complete

    pub serves_now : (v : View) (x : CoreState A) → Serving op limits allows ask seen false 0 v x → IsCompleteIn op x ask.phase
        → Serving op limits allows ask seen true 0 v x
    serves_now v x s done =
        let t = s.turned in
        record {
          turned = record {
            did = t.did;
            is = t.is;
            good = t.good;
            stands = t.stands;
            quiet = λ no. absurd (true_false no);
            complete = λ yes'. done (t.did.later ++ t.did.now) t.stands.stands;
            served = t.served;
          };
          owes = s.owes;
        }

    pub is_done : (v : View) (x : CoreState A) (s : Serving op limits allows ask seen false 0 v x) → IsCompleteIn op x ask.phase → IsPhaseDone s
    is_done v x s done = done (s.turned.did.later ++ s.turned.did.now) s.turned.stands.stands

    pub completes : (k : ℕ) (u v : View) (x : CoreState A) (t : Turned op limits allows ask true k v x)
        → known_of v ≡ known_of u → WasOpen u ask.phase → Completes limits v
    completes k u v x t same open' = record {
      now = t.did.now;
      speaks = ask.task ∷ [];
      claims = t.did.claims;
      said = t.did.said;
      lane = t.did.lane;
      later = t.did.later;
      is = t.is;
      batch = t.did.batch;
      legal = t.good.legal;
      some = t.did.some;
      more = (let low = was_open true k u v x t same open' in let high = t.complete refl in omega arith);
    }
