-- A next phase that others may make: how it begins, and what its answer is, as the contracts of
-- calls say it.
use Rattle.std.proofs.Common.{◌≡◌, ℕ, ◌+◌, ◌≤◌, ℤ, Bool, true, false, cond, ltb, List, [], ◌∷◌, Some, None, refl, sym, ap, subst, ◌∙◌, inl, arith}
use Rattle.std.proofs.lemmas.Bool.{le-ltb}
use Rattle.std.specs.Prelude.{Result, Ok, Err, IsErr, is_some}
use Rattle.std.proofs.lemmas.Option.{same_Some}
use Rattle.phase_shared.specs.Phasers.{Limits, is_in, Entry, mode_signals, mode_waits, entry_of, signalled, waited, Operation, Outcome, Event, Got, SignalRefusal, History, HasNoSignaller, IsAlive, members_of, signal_phase, wait_phase, done_of, value_of_phase, wait_refusal, wait_reply, got_at, IsLegal, OthersCame, refused_or, CoreState}
use Rattle.phase_history.specs.declared.event.Event.TheVariants.{Signalled, Waited}
use Rattle.phase_history.specs.declared.got.Got.TheVariants as got
use Rattle.phase_history.specs.declared.refusal.SignalRefusal.TheVariants as signal
use Rattle.phase_base.specs.declared.member.Member.{Member}
use Rattle.phase_history.proofs.Each.{Each, Each-of_picked}
use Rattle.phase_history.proofs.Answered.{ended_tells, signal_refusal-never}
use Rattle.phase_history.proofs.MemberLemmas.{Each-entry, entry_of-changed_same}
use Rattle.phase_history.proofs.Used.{IsLegal-beginning}
use Rattle.phase_shared.specs.declared.next.Next.{Next}
use Rattle.phase_shared.specs.declared.rule.Terms.{Terms}
use Rattle.phase_shared.specs.declared.seats.request.Request.{Request}
use Rattle.phase_shared.specs.declared.seats.view.View.{View}
use Rattle.phase_shared.specs.Asks.{Ask, IsAtPhases}
use Rattle.phase_shared.specs.Asked.{IsTakenBack}
use Rattle.phase_shared.specs.Calls.{IsCall, MaySignal, Signals, Waits}
use Rattle.phase_shared.specs.Desks.{Reading}
use Rattle.phase_shared.specs.Entries.{entry_after_next}
use Rattle.phase_shared.specs.Lanes.{sends_of}
use Rattle.phase_shared.specs.Nexts.{GoesOrRefuses, RefusesNext}
use Rattle.phase_shared.specs.Regs.{RegState}
use Rattle.phase_shared.specs.Rule.{Allows, IsGoodAt, IsSeatOfTask, StandsWithin}
use Rattle.phase_shared.specs.Servings.{ask_of, HasAnswer, HasSignalled, IsRefused, IsRequestOf, IsWaiterIn, MayAsk, MayGoNext, MayAskOn, Starting}
use Rattle.phase_shared.specs.Tells.{Took, Learnt}
use Rattle.phase_shared.specs.Views.{Lane, Own, knowledge, known_of, speaks_of, lane_at_rest, resting, owning, turning}
use Rattle.phase_shared.proofs.AskAnswering.{asked_signals, asked_waits, made_signals, same_refusal}
use Rattle.phase_shared.proofs.Giving.{member_after}
use Rattle.phase_shared.proofs.NextSteps.{made}
use Rattle.phase_shared.proofs.Small.{apart_phases}
use Rattle.phase_shared.proofs.Stages.{at_entry, wait_is}

no_event_is_none : (e : Event) (h : History) → e ∷ h ≡ [] → ⊥
no_event_is_none e h none = cc

same_error : {X : Type 0} (x y : SignalRefusal) → ◌≡◌ {A = Result X SignalRefusal} (Err x) (Err y) → x ≡ y
same_error x y e = cc

-- where no task signals, none is registered that does
no_signaller : (h : History) (task s w : ℕ) → IsAtPhases h task s w → HasNoSignaller h → ⊥
no_signaller h task s w st none =
    let quiet = Each-of_picked (λ x. ⊥) (λ (m : Member). m.entry.signal_phase) (λ (m : Member). mode_signals m.entry.mode) (members_of h)
    (subst (λ xs. Each (λ x. ⊥) xs) (sym none) tt) in
    Each-entry _ (members_of h) task st.entry st.member quiet st.signals

-- a wait for a phase that is not complete is refused
not_yet : (value : List ℤ → Outcome) (limits : Limits) (h : History) (task s w : ℕ) → IsAtPhases h task s w → done_of h ≤ w
    → IsErr (wait_reply value limits h task)
not_yet value limits h task s w st low =
    elim (wait_refusal limits h task 1) as (λ o. (wait_refusal limits h task 1 ≡ o) → IsErr (refused_or o (got_at value h (wait_phase h task)))) [
      | Some refusal ↦ λ is. refl
      | None ↦ λ none.
          let at = wait_is h task s w st in
          let over : ltb (wait_phase h task) (done_of h) ≡ false = le-ltb (wait_phase h task) (done_of h) (omega arith) in
          let reply : wait_reply value limits h task ≡ Ok got.Ended =
          ap (λ o. refused_or o (got_at value h (wait_phase h task))) none
          ∙ ap (λ (b : Bool). Ok (cond b (got.Value (wait_phase h task) (value_of_phase value h (wait_phase h task))) got.Ended)) over in
          absurd (no_signaller h task s w st (ended_tells value limits h task reply).0)
    ] refl

-- a seat at rest, in its own words
pub rests_so : (ask : Ask) (seen : History) (v : View) → v ≡ resting seen (ask.task ∷ []) → v ≡ resting (known_of v).seen (ask.task ∷ [])
rests_so ask seen v rests = rests ∙ ap (λ (h : History). resting h (ask.task ∷ [])) (sym (ap (λ (u : View). (known_of u).seen) rests))

-- a seat that may go to its next phase may go on, once its lane is its own
pub goes_on : (limits : Limits) (signals : Allows) (ask : Ask) (seen : History) (v w : View) → MayGoNext limits signals ask seen v
    → w ≡ owning (known_of v).seen (ask.task ∷ []) ask.lane → MayAskOn limits signals ask seen w
goes_on limits signals ask seen v w next owns =
    let here : (known_of v).seen ≡ seen = ap (λ (u : View). (known_of u).seen) next.rests in
    let is : w ≡ owning seen (ask.task ∷ []) ask.lane = owns ∙ ap (λ (h : History). owning h (ask.task ∷ []) ask.lane) here in
    subst (λ (u : View). MayAskOn limits signals ask seen u) (sym is)
    (record {
      may = record { rests = refl; stands = next.stands; may = next.waits.may };
      seen_is = refl;
      waits = next.waits;
    })

module _ {A K : Type 0} (op : Operation A) (allows : K → Allows) (terms : Terms K) (r : Request) where
  -- a turn begins, of a seat at rest that may ask
  pub starting : (seen : History) (v : View) (x : CoreState A) (w : View)
      → MayAsk terms.limits (allows terms.rule) (ask_of r) v → seen ≡ (known_of v).seen → IsWaiterIn seen r.task
      → Took terms.limits (allows terms.rule) (StandsWithin op terms.limits) v x w
      → Starting op terms.limits (allows terms.rule) (ask_of r) seen w x
  starting seen v x w may since waits t =
      subst (λ (h : History). Starting op terms.limits (allows terms.rule) (ask_of r) h w x) (sym since)
      (begun (subst (λ (h : History). IsWaiterIn h r.task) since waits))
    where
      begun : IsWaiterIn (known_of v).seen r.task → Starting op terms.limits (allows terms.rule) (ask_of r) (known_of v).seen w x
      begun waiter =
          let st : IsAtPhases (known_of v).seen r.task r.phase r.phase = may.stands in
          let speaks : speaks_of v ≡ r.task ∷ [] = ap speaks_of may.rests in
          let lane : lane_at_rest v ≡ Own r.lane = ap lane_at_rest may.rests in
          let others : OthersCame (r.task ∷ []) (known_of v).seen t.now = subst (λ (l : List ℕ). OthersCame l (known_of v).seen t.now) speaks t.others in
          let there : entry_of (members_of t.now) r.task ≡ Some st.entry =
          member_after terms.limits r.task st.entry (known_of v).seen t.now others t.good.legal st.member in
          record {
            turned = record {
              did = record {
                now = t.now;
                claims = t.claims;
                said = t.said;
                lane = Own r.lane;
                later = [];
                some = λ none.
                    let gone : None ≡ Some st.entry = ap (λ (h : History). entry_of (members_of h) r.task) (sym none) ∙ there in
                    cc;
                batch = tt;
                theirs = λ a one. subst (λ (l : List ℕ). is_in a.task l ≡ false) speaks (t.read a one).1;
                apart = λ a one. t.apart a one r.lane lane;
                own = inl refl;
              };
              is = t.is ∙ ap (λ (l : List ℕ). turning t.now l t.claims t.said (lane_at_rest v)) speaks
                  ∙ ap (λ (l : Lane). turning t.now (r.task ∷ []) t.claims t.said l) lane;
              good = t.good;
              stands = t.stands;
              quiet = λ none a one st'. apart_phases a.phase (sym (wait_is t.now a.task (a.phase + 1) (a.phase + 1) st')
                  ∙ wait_is t.now a.task (a.phase + 1) a.phase (t.read a one).0);
              complete = λ serves. absurd (cc);
              served = λ a one low at. absurd (omega arith);
            };
            first = refl;
            unmade = record { others = others; stands = at_entry (known_of v).seen t.now r.task r.phase r.phase st there };
            waits = λ other member.
                ap (λ (f : Entry). mode_waits f.mode) (same_Some other st.entry (sym member ∙ there)) ∙ waiter st.entry st.member;
            may = may.may;
          }

module _ {A K : Type 0} (op : Operation A) (allows : K → Allows) (terms : Terms K) (old : RegState A K) (r : Request)
    (q : IsRequestOf op r old) (signals : mode_signals old.entry.mode ≡ true) (waits : mode_waits old.entry.mode ≡ true)
    (member : entry_of (members_of old.seen) old.number ≡ Some old.entry) where
  -- the entry, under the number that the request names
  asked_member : entry_of (members_of old.seen) r.task ≡ Some old.entry
  asked_member = subst (λ (n : ℕ). entry_of (members_of old.seen) n ≡ Some old.entry) (sym q.task) member

  alive : IsAlive old.seen r.task × IsWaiterIn old.seen r.task
  alive = (
    ap is_some asked_member,
    λ e there. ap (λ (f : Entry). mode_waits f.mode) (same_Some e old.entry (sym there ∙ asked_member)) ∙ waits,
  )

  -- its seat may go on to it
  pub may_go : (v : View) → v ≡ resting old.seen (old.number ∷ []) → (known_of v).seen ≡ old.seen
      → MaySignal op allows terms old None → MayGoNext terms.limits (allows terms.rule) (ask_of r) (known_of v).seen v
  may_go v rests seen may = record {
    rests = rests ∙ ap (λ (n : ℕ). resting old.seen (n ∷ [])) (sym q.task) ∙ ap (λ (h : History). resting h (r.task ∷ [])) (sym seen);
    stands = record {
      entry = old.entry;
      member = subst (λ (h : History). entry_of (members_of h) r.task ≡ Some old.entry) (sym seen) asked_member;
      signals = signals;
      signal_at = q.signal_at;
      wait_at = q.wait_at;
    };
    waits = record {
      alive = subst (λ (h : History). IsAlive h r.task) (sym seen) alive.0;
      waits = subst (λ (h : History). IsWaiterIn h r.task) (sym seen) alive.1;
      may = λ h good others.
          let came : OthersCame (old.number ∷ []) old.seen h =
          subst (λ (n : ℕ). OthersCame (n ∷ []) old.seen h) q.task (subst (λ (g : History). OthersCame (r.task ∷ []) g h) seen others) in
          subst (λ (n : ℕ). allows terms.rule h n (sends_of r.send ∷ []) None) (sym q.task) (may h (sends_of r.send) good came q.holds);
    };
  }

  -- where it stands after its next phase
  abbrev pub entry_then : Entry
  entry_then = record old.entry { signal_phase = r.phase + 1; wait_phase = r.phase + 1 }

  entry_then_is : waited 1 (signalled 1 old.entry) ≡ entry_then
  entry_then_is = λ i. record old.entry { signal_phase = q.signal_at i + 1; wait_phase = q.wait_at i + 1 }

  module _ (outcome : Outcome) (w : View) (a : HasAnswer op terms.limits (allows terms.rule) (ask_of r) old.seen outcome w) where
    abbrev learnt : Learnt terms.limits (allows terms.rule) (ask_of r) (knowledge old.seen (r.task ∷ []))
        (Reading (knowledge (Waited r.task 1 ∷ a.middle) (r.task ∷ [])) (ask_of r))
    learnt = record {
      middle = a.middle;
      good = a.good;
      made = a.made;
      accepted = a.accepted;
      complete = a.complete;
      is = refl;
    }

    abbrev signalled_then : History
    signalled_then = Signalled r.task (sends_of r.send ∷ []) None ∷ a.made.before

    member_then : entry_of (members_of (Waited r.task 1 ∷ a.middle)) r.task ≡ Some entry_then
    member_then =
        let middle_legal : IsLegal terms.limits a.middle = a.good.legal.0 in
        let first_legal : IsLegal terms.limits signalled_then =
        IsLegal-beginning terms.limits signalled_then a.middle
        (no_event_is_none (Signalled r.task (sends_of r.send ∷ []) None) a.made.before) middle_legal
        (record { later = a.made.since.later; is = a.made.since.is }) in
        let before = member_after terms.limits r.task old.entry old.seen a.made.before a.made.others first_legal.0 asked_member in
        let after = entry_of-changed_same r.task (signalled 1) old.entry (members_of a.made.before) before in
        let middle = member_after terms.limits r.task (signalled 1 old.entry) signalled_then a.middle a.made.since middle_legal after in
        entry_of-changed_same r.task (waited 1) (signalled 1 old.entry) (members_of a.middle) middle ∙ ap Some entry_then_is

    -- its seat after its answer
    pub answered_seat : IsSeatOfTask allows terms old.number entry_then w
    answered_seat =
        subst (λ (n : ℕ). IsSeatOfTask allows terms n entry_then w) q.task
        (subst (λ (u : View). IsSeatOfTask allows terms r.task entry_then u) (sym a.is)
        (record { rests = refl; member = member_then; good = a.good }))

    abbrev goes : Next
    goes = record { signalled = Some r.phase; got = Some (got.Value r.phase outcome) }

    -- its signal and its wait, up to what it has then seen
    abbrev goes_to : History → Type 0
    goes_to last =
        Signals op terms.limits old.number old.held None old.seen signalled_then (Ok r.phase)
        × Waits op.value terms.limits old.number signalled_then last (Ok (got.Value r.phase outcome))

    answered_parts : (last : History) → last ≡ (known_of w).seen → goes_to last
    answered_parts last seen =
        let is : last ≡ Waited r.task 1 ∷ a.middle = seen ∙ ap (λ (u : View). (known_of u).seen) a.is in
        subst (λ (h : History). goes_to h) (sym is)
        (subst (λ (n : ℕ). Signals op terms.limits n old.held None old.seen signalled_then (Ok r.phase)
        × Waits op.value terms.limits n signalled_then (Waited r.task 1 ∷ a.middle) (Ok (got.Value r.phase outcome))) q.task (
          asked_signals op terms.limits (allows terms.rule) (ask_of r) (knowledge old.seen (r.task ∷ []))
              (Reading (knowledge (Waited r.task 1 ∷ a.middle) (r.task ∷ [])) (ask_of r)) learnt old.held q.holds,
          asked_waits op terms.limits (allows terms.rule) (ask_of r) (knowledge old.seen (r.task ∷ []))
              (Reading (knowledge (Waited r.task 1 ∷ a.middle) (r.task ∷ [])) (ask_of r)) learnt outcome a.has,
        ))

    good_then : (last : History) → last ≡ (known_of w).seen → IsGoodAt allows terms last
    good_then last seen = subst (λ (h : History). IsGoodAt allows terms h) (sym (seen ∙ ap (λ (u : View). (known_of u).seen) a.is)) a.good

    -- the answer of the call
    pub answered_call : (new : RegState A K) → new.at ≡ old.at → new.number ≡ old.number → new.entry ≡ entry_then
        → new.seen ≡ (known_of w).seen
        → IsCall allows terms signal.NoTask entry_after_next (GoesOrRefuses op terms.limits None old new.seen (Ok goes)) old new (Ok goes)
    answered_call new at number entry seen =
        let parts = answered_parts new.seen seen in
        record {
          call = record {
            middle = signalled_then;
            signals = made (mode_signals old.entry.mode)
                (λ (phase : ℕ). Signals op terms.limits old.number old.held None old.seen signalled_then (Ok phase))
                (signalled_then ≡ old.seen) r.phase signals parts.0;
            waits = made (mode_waits old.entry.mode)
                (λ (got : Got). Waits op.value terms.limits old.number signalled_then new.seen (Ok got))
                (new.seen ≡ signalled_then) (got.Value r.phase outcome) waits parts.1;
            named = λ none. absurd (let z : true ≡ false = sym signals ∙ none in cc);
          };
          entry = entry ∙ sym entry_then_is;
          mode = ap (λ (e : Entry). e.mode) entry;
          at = (at, number);
          good = good_then new.seen seen;
          known = λ none. cc;
        }

    -- the same, where it was taken back
    pub answered_back : (new : RegState A K) → new.at ≡ old.at → new.number ≡ old.number → new.entry ≡ entry_then
        → new.seen ≡ (known_of w).seen → IsTakenBack op allows terms old new (Ok (r.phase, Some (got.Value r.phase outcome)))
    answered_back new at number entry seen =
        let parts = answered_parts new.seen seen in
        record {
          call = record { middle = signalled_then; signals = parts.0; waits = parts.1 };
          entry = entry ∙ sym entry_then_is;
          mode = ap (λ (e : Entry). e.mode) entry;
          at = (at, number);
          good = good_then new.seen seen;
          known = λ none. cc;
        }

  -- where it stands after its signal alone
  abbrev pub entry_between : Entry
  entry_between = record old.entry { signal_phase = r.phase + 1 }

  entry_between_is : signalled 1 old.entry ≡ entry_between
  entry_between_is = λ i. record old.entry { signal_phase = q.signal_at i + 1 }

  module _ (w : View) (s : HasSignalled op terms.limits (allows terms.rule) (ask_of r) old.seen w) where
    abbrev signalled_last : History
    signalled_last = Signalled r.task (sends_of r.send ∷ []) None ∷ s.before

    member_between : entry_of (members_of signalled_last) r.task ≡ Some entry_between
    member_between =
        let before = member_after terms.limits r.task old.entry old.seen s.before s.others s.good.legal.0 asked_member in
        entry_of-changed_same r.task (signalled 1) old.entry (members_of s.before) before ∙ ap Some entry_between_is

    -- its seat then
    pub back_seat : IsSeatOfTask allows terms old.number entry_between w
    back_seat =
        subst (λ (n : ℕ). IsSeatOfTask allows terms n entry_between w) q.task
        (subst (λ (u : View). IsSeatOfTask allows terms r.task entry_between u) (sym s.is)
        (record { rests = refl; member = member_between; good = s.good }))

    -- and the call
    pub back_call : (new : RegState A K) → new.at ≡ old.at → new.number ≡ old.number → new.entry ≡ entry_between
        → new.seen ≡ (known_of w).seen → IsTakenBack op allows terms old new (Ok (r.phase, None))
    back_call new at number entry seen =
        let is : new.seen ≡ signalled_last = seen ∙ ap (λ (u : View). (known_of u).seen) s.is in
        let stands : IsAtPhases signalled_last r.task (r.phase + 1) r.phase =
        record { entry = entry_between; member = member_between; signals = signals; signal_at = refl; wait_at = q.wait_at } in
        record {
          call = record {
            middle = signalled_last;
            signals = subst (λ (n : ℕ). Signals op terms.limits n old.held None old.seen signalled_last (Ok r.phase)) q.task
                (made_signals op terms.limits (ask_of r) old.seen s.before s.others s.accepted s.signalled_in old.held q.holds);
            waits = (
              is,
              subst (λ (n : ℕ). IsErr (wait_reply op.value terms.limits signalled_last n)) q.task
                  (not_yet op.value terms.limits signalled_last r.task (r.phase + 1) r.phase stands s.is_open),
            );
          };
          entry = entry ∙ sym entry_between_is;
          mode = ap (λ (e : Entry). e.mode) entry;
          at = (at, number);
          good = subst (λ (h : History). IsGoodAt allows terms h) (sym is) s.good;
          known = λ none. cc;
        }

  module _ (refusal : SignalRefusal) (w : View) (f : IsRefused op terms.limits (allows terms.rule) (ask_of r) old.seen refusal w) where
    -- its seat after a refusal
    pub refused_seat : IsSeatOfTask allows terms old.number old.entry w
    refused_seat =
        subst (λ (n : ℕ). IsSeatOfTask allows terms n old.entry w) q.task
        (subst (λ (u : View). IsSeatOfTask allows terms r.task old.entry u) (sym f.is)
        (record { rests = refl; member = member_now; good = f.good }))
      where
        member_now : entry_of (members_of f.now) r.task ≡ Some old.entry
        member_now = member_after terms.limits r.task old.entry old.seen f.now f.others f.good.legal asked_member

    -- its signal, refused
    refused_signal : (last : History) → last ≡ (known_of w).seen
        → Signals op terms.limits old.number old.held None old.seen last (Err refusal)
    refused_signal last seen =
        subst (λ (n : ℕ). Signals op terms.limits n old.held None old.seen last (Err refusal)) q.task
        (record {
          before = f.now;
          sends = sends_of r.send;
          others = f.others;
          stands = q.holds;
          seen = seen ∙ ap (λ (u : View). (known_of u).seen) f.is;
          reply = λ xs holds.
              ap (λ o. refused_or o (signal_phase f.now r.task))
              (same_refusal terms.limits f.now r.task xs (sends_of r.send) (sym holds.count_is ∙ q.holds.count_is) ∙ f.refused);
        })

    -- it is registered
    refused_known : refusal ≡ signal.NoTask → ⊥
    refused_known is =
        let there : entry_of (members_of f.now) r.task ≡ Some old.entry =
        member_after terms.limits r.task old.entry old.seen f.now f.others f.good.legal asked_member in
        signal_refusal-never terms.limits f.now r.task (sends_of r.send ∷ []) None (ap is_some there) (f.refused ∙ ap Some is)

    good_now : (last : History) → last ≡ (known_of w).seen → IsGoodAt allows terms last
    good_now last seen = subst (λ (h : History). IsGoodAt allows terms h) (sym (seen ∙ ap (λ (u : View). (known_of u).seen) f.is)) f.good

    -- the refusal of the call
    pub refused_call : (new : RegState A K) → new.at ≡ old.at → new.number ≡ old.number → new.entry ≡ old.entry
        → new.seen ≡ (known_of w).seen
        → IsCall allows terms signal.NoTask entry_after_next (GoesOrRefuses op terms.limits None old new.seen (Err refusal)) old new (Err refusal)
    refused_call new at number entry seen = record {
      call = refuses (mode_signals old.entry.mode) signals (refused_signal new.seen seen);
      entry = entry;
      mode = ap (λ (e : Entry). e.mode) entry;
      at = (at, number);
      good = good_now new.seen seen;
      known = λ none. refused_known (same_error refusal signal.NoTask none);
    }
      where
        refuses : (can : Bool) → can ≡ true → Signals op terms.limits old.number old.held None old.seen new.seen (Err refusal)
            → RefusesNext op terms.limits None old new.seen can refusal
        refuses true yes' s = s
        refuses false yes' s = absurd (cc)

    -- the same, where it was taken back
    pub refused_back : (new : RegState A K) → new.at ≡ old.at → new.number ≡ old.number → new.entry ≡ old.entry
        → new.seen ≡ (known_of w).seen → IsTakenBack op allows terms old new (Err refusal)
    refused_back new at number entry seen = record {
      call = refused_signal new.seen seen;
      entry = entry;
      mode = ap (λ (e : Entry). e.mode) entry;
      at = (at, number);
      good = good_now new.seen seen;
      known = λ none. refused_known (same_error refusal signal.NoTask none);
    }
