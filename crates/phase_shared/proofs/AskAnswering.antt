-- Who asked looks at what the lock tells: it was answered, and has then seen the history up to its own wait; what it learns
-- is what the contract of `next` says, a signal after others' events and a wait after others' events.
use Rattle.std.proofs.Common.{◌≡◌, ◌≢◌, ℕ, ℤ, ◌+◌, ◌<◌, ◌/◌, ◌%◌, Bool, true, false, cond, eqb, ltb, List, [], ◌∷◌, ◌++◌, ◌⊎◌, Option, None, length, set, refl, sym, ap, subst, ◌∙◌, inl, inr, arith}
use Rattle.std.specs.Prelude.{Ok}
use Rattle.std.proofs.lemmas.Bool.{lt-ltb, eq-eqb, eqb-true, ltb-true}
use Rattle.turn_lock.proofs.Keeping.{not_both}
use mathlib.Core.Option.{some}
use lib.ListN.{get_elem?}
use Rattle.atomic_table.proofs.Lists.{set_again, set_else}
use Rattle.phase_shared.specs.Phasers.{Limits, entry_of, least, Operation, Parcel, StandsForSends, Outcome, SignalRefusal, History, members_of, signal_phase, wait_phase, done_of, value_of_phase, IsLegal, OthersCame, signal_refusal, refusal_at, refused_or, got_at}
use Rattle.phase_base.specs.Members.{wait_phases}
use Rattle.phase_history.specs.declared.event.Event.TheVariants.{Made, Registered, RegisteredNow, Signalled, Waited, Dropped}
use Rattle.phase_history.specs.declared.got.Got.TheVariants as got
use Rattle.phase_history.specs.declared.refusal.SignalRefusal.TheVariants as signal
use Rattle.phase_history.specs.Phases.{sends_of_phase, named_in_phase}
use Rattle.phase_history.specs.Refusals.{signal_rows_before, phase_rows}
use Rattle.phase_history.proofs.Steps.{steps, sound_of}
use Rattle.phase_history.proofs.Used.{IsLegal-beginning}
use Rattle.phase_shared.specs.declared.seats.view.Knowledge.{Knowledge}
use Rattle.phase_shared.specs.Goods.{Allows, Keeps}
use Rattle.phase_shared.specs.Views.{Holds, knowledge, is_turning}
use Rattle.phase_shared.specs.Calls.{Signals, Waits}
use Rattle.phase_shared.specs.Asks.{Ask, IsUnmade, IsMade, IsAnsweredAsk}
use Rattle.phase_shared.specs.Lanes.{posted}
use Rattle.phase_shared.specs.Desks.{View, Turning, Asking, Reading, AskStands, HasToRead, StandsAsked, AskedAt, IsPast, HeldAt, IsLane, Kept}
use Rattle.phase_shared.specs.Tells.{Learnt, TellsAnswer, Looked}
use Rattle.phase_shared.proofs.Small.{apart_phases}
use Rattle.phase_shared.proofs.Stages.{signal_is, wait_is, answered}
use Rattle.phase_shared.proofs.Steadies.{same_value}
use Rattle.phase_shared.proofs.Places.{ask_in, same_view, stays, ne_of}
use Rattle.phase_shared.proofs.AskMoves.{moves}
use Rattle.phase_shared.proofs.LaneReading.{answered_past}

-- a beginning of a history that keeps the signal rule keeps it
pub keeps_before : (allows : Allows) (later h : History) → Keeps allows (later ++ h) → Keeps allows h
keeps_before allows [] h keeps = keeps
keeps_before allows (Made founding ∷ later) h keeps = keeps_before allows later h keeps
keeps_before allows (Registered parent child mode ∷ later) h keeps = keeps_before allows later h keeps
keeps_before allows (RegisteredNow parent child ∷ later) h keeps = keeps_before allows later h keeps
keeps_before allows (Signalled signaller lists single ∷ later) h keeps = keeps_before allows later h keeps.1
keeps_before allows (Waited waiter phases ∷ later) h keeps = keeps_before allows later h keeps
keeps_before allows (Dropped gone ∷ later) h keeps = keeps_before allows later h keeps

-- the phase's value was the same when its wait was made
pub later_value : (value : List ℤ → Outcome) (limits : Limits) (a : Ask) (more middle log : History) → log ≡ more ++ Waited a.task 1 ∷ middle
    → IsLegal limits log → IsLegal limits (Waited a.task 1 ∷ middle) → a.phase < done_of middle
    → value_of_phase value log a.phase ≡ value_of_phase value (Waited a.task 1 ∷ middle) a.phase
later_value value limits a more middle log is legal first low =
    let all : IsLegal limits (more ++ Waited a.task 1 ∷ middle) = subst (λ (h : History). IsLegal limits h) is legal in
    let more_done = (steps limits middle (Waited a.task 1) first.0 (sound_of limits middle first.0) first.1).grows in
    let below : a.phase < done_of (Waited a.task 1 ∷ middle) = omega arith in
    ap (λ (h : History). value_of_phase value h a.phase) is
    ∙ (same_value limits [] [] (Waited a.task 1 ∷ middle) (λ none. cc) value a.phase more all below).1

-- an ask that was answered does not stand as one that waits
not_waiting : (limits : Limits) (a : Ask) (seen seen' log : History) → IsAnsweredAsk limits a seen log → IsUnmade a seen' log ⊎ IsMade limits a seen' log → ⊥
not_waiting limits a seen seen' log n (inl u) =
    apart_phases a.phase (sym (signal_is log a.task (a.phase + 1) (a.phase + 1) n.stands) ∙ signal_is log a.task a.phase a.phase u.stands)
not_waiting limits a seen seen' log n (inr m) =
    apart_phases a.phase (sym (wait_is log a.task (a.phase + 1) (a.phase + 1) n.stands) ∙ wait_is log a.task (a.phase + 1) a.phase m.stands)

module _ {T : Type 0} (value : List ℤ → Outcome) (limits : Limits) (allows : Allows) (StandsFor : T → History → Type 0)
    (number : ℕ) (f : Knowledge) (a : Ask) (home : Option T) (told : ℕ) (words : List ℕ) (views : List View)
    (k : Kept value limits allows StandsFor home told words views) (at : get_elem? views number ≡ some (Asking f a)) where
  its : AskStands value limits allows k.log told words f a
  its = k.sound number (Asking f a) at

  -- it was answered
  module _ (n : IsAnsweredAsk limits a f.seen k.log) where
    first_legal : IsLegal limits (Waited a.task 1 ∷ n.middle)
    first_legal = IsLegal-beginning limits (Waited a.task 1 ∷ n.middle) k.log (λ none. cc) k.good.legal (record { later = n.since.later; is = n.since.is })

    reading_sound : HasToRead value k.log words (knowledge (Waited a.task 1 ∷ n.middle) (a.task ∷ [])) a
    reading_sound = record {
      speaks = refl;
      fits = n.since;
      stands = n.stands;
      below = n.below;
      has = its.has n ∙ later_value value limits a n.since.later n.middle k.log n.since.is k.good.legal first_legal n.complete;
    }

    abbrev w : View
    w = Reading (knowledge (Waited a.task 1 ∷ n.middle) (a.task ∷ [])) a

    asked_still : (b : Ask) → StandsAsked limits k.log views b → StandsAsked limits k.log (set views number w) b
    asked_still b c = record {
      seat = c.seat;
      knows = c.knows;
      at = set_else views number c.seat w else_seat ∙ c.at;
      waits_on = c.waits_on;
    }
      where
        else_seat : c.seat ≢ number
        else_seat same =
            let is : b ≡ a = ap (λ (u : View). ask_in a u) (same_view views c.seat number (Asking c.knows b) (Asking f a) c.at at same) in
            not_waiting limits a f.seen c.knows.seen k.log n
            (subst (λ (x : Ask). IsUnmade x c.knows.seen k.log ⊎ IsMade limits x c.knows.seen k.log) is c.waits_on)

    lane_then : (i : ℕ) → IsLane k.log views i (posted words i) → IsLane k.log (set views number w) i (posted words i)
    lane_then i l = elim l [
      | inl z ↦ inl z
      | inr (inl q) ↦ inr (asked_lane q)
      | inr (inr (inl p)) ↦ inr (inr (inl p))
      | inr (inr (inr h)) ↦ inr (inr (inr record {
        seat = h.seat;
        knows = h.knows;
        claims = h.claims;
        said = h.said;
        n = h.n;
        at = stays is_turning views number h.seat (Asking f a) w (Turning h.knows h.claims h.said (Holds i h.n)) at refl refl h.at;
      }))
    ]
      where
        asked_lane : AskedAt views i → AskedAt (set views number w) i ⊎ (IsPast k.log (posted words i) ⊎ HeldAt (set views number w) i)
        asked_lane q = elim (eqb q.seat number) as (λ b. (eqb q.seat number ≡ b)
            → AskedAt (set views number w) i ⊎ (IsPast k.log (posted words i) ⊎ HeldAt (set views number w) i)) [
              | true ↦ λ t.
                  let is : q.ask ≡ a = ap (λ (u : View). ask_in a u) (same_view views q.seat number (Asking q.knows q.ask) (Asking f a) q.at at (eqb-true q.seat number t)) in
                  let lane_is : a.lane ≡ i = ap (λ (x : Ask). x.lane) (sym is) ∙ q.is in
                  let p : IsPast k.log (a.phase + 1) = answered_past limits a f.seen k.log n in
                  let p' : IsPast k.log (posted words a.lane) = subst (λ (m : ℕ). IsPast k.log m) (sym its.posts) p in
                  inr (inl (subst (λ (l : ℕ). IsPast k.log (posted words l)) lane_is p'))
              | false ↦ λ t. inl record {
                seat = q.seat;
                knows = q.knows;
                ask = q.ask;
                at = set_else views number q.seat w (ne_of q.seat number t) ∙ q.at;
                is = q.is;
              }
            ] refl

    kept_then : Kept value limits allows StandsFor home told words (set views number w)
    kept_then = moves value limits allows StandsFor home told words views k number (Asking f a) at words w (sym its.speaks)
        reading_sound (λ j u ne e. k.sound j u e) refl refl asked_still (λ h b e m. absurd (cc)) (λ i few. lane_then i (k.lanes i few))

    learnt : Learnt limits allows a f w
    learnt = record {
      middle = n.middle;
      good = record {
        legal = first_legal;
        keeps = keeps_before allows n.since.later (Waited a.task 1 ∷ n.middle) (subst (λ (h : History). Keeps allows h) n.since.is k.good.keeps);
      };
      made = n.made;
      accepted = n.accepted;
      complete = n.complete;
      is = refl;
    }

  -- who asked looks
  pub looks_asked : (w : View) × Kept value limits allows StandsFor home told words (set views number w) × Looked limits allows a f told w
  looks_asked = elim (eqb (told % 2) 1) as (λ b. (eqb (told % 2) 1 ≡ b)
      → (w : View) × Kept value limits allows StandsFor home told words (set views number w) × Looked limits allows a f told w) [
        | true ↦ λ odd. elim (ltb a.phase (told / 2)) as (λ b. (ltb a.phase (told / 2) ≡ b)
            → (w : View) × Kept value limits allows StandsFor home told words (set views number w) × Looked limits allows a f told w) [
              | true ↦ λ low. found (eqb-true (told % 2) 1 odd, ltb-true a.phase (told / 2) low)
              | false ↦ λ low. stays_so (λ q. not_both (ltb a.phase (told / 2)) (lt-ltb a.phase (told / 2) q.1) low)
            ] refl
        | false ↦ λ even. stays_so (λ q. not_both (eqb (told % 2) 1) (eq-eqb (told % 2) 1 q.0) even)
      ] refl
    where
      found : TellsAnswer told a.phase → (w : View) × Kept value limits allows StandsFor home told words (set views number w) × Looked limits allows a f told w
      found q =
          let n : IsAnsweredAsk limits a f.seen k.log = answered limits a f.seen k.log (told / 2) (k.within q.0) q.1 (λ m. its.waits q.0 m) its.stage in
          (Reading (knowledge (Waited a.task 1 ∷ n.middle) (a.task ∷ [])) a, kept_then n, record { answered = λ q'. learnt n; stays = λ none. absurd (none q) })

      stays_so : (TellsAnswer told a.phase → ⊥) → (w : View) × Kept value limits allows StandsFor home told words (set views number w) × Looked limits allows a f told w
      stays_so none = (
        Asking f a,
        subst (λ (l : List View). Kept value limits allows StandsFor home told words l) (sym (set_again views number (Asking f a) at)) k,
        record { answered = λ q. absurd (none q); stays = λ q. refl },
      )

-- ---- what it learns, as the contracts of calls say it

-- a signal is refused by how many its sends are, whichever they are
pub same_refusal : (limits : Limits) (h : History) (task : ℕ) (xs ys : List ℤ) → length xs ≡ length ys
    → signal_refusal limits h task (xs ∷ []) None ≡ signal_refusal limits h task (ys ∷ []) None
same_refusal limits h task xs ys e = ap (λ (n : ℕ). refusal_by n) e
  where
    refusal_by : ℕ → Option SignalRefusal
    refusal_by n = refusal_at (entry_of (members_of h) task) signal.NoTask
        (λ entry. signal_rows_before limits 1 None entry
        (phase_rows limits (least (wait_phases (members_of h))) (length (sends_of_phase h entry.signal_phase)) (named_in_phase h entry.signal_phase) n None entry ++ []))

-- a signal that was made
pub made_signals : {A : Type 0} (op : Operation A) (limits : Limits) (a : Ask) (seen before : History) → OthersCame (a.task ∷ []) seen before
    → signal_refusal limits before a.task (a.sends ∷ []) None ≡ None → signal_phase before a.task ≡ a.phase
    → (held : Parcel A) → StandsForSends op held a.sends
    → Signals op limits a.task held None seen (Signalled a.task (a.sends ∷ []) None ∷ before) (Ok a.phase)
made_signals op limits a seen before others accepted at held stands = record {
  before = before;
  sends = a.sends;
  others = others;
  stands = stands;
  seen = refl;
  reply = λ xs holds.
      let same : length xs ≡ length a.sends = sym holds.count_is ∙ stands.count_is in
      ap (λ o. refused_or o (signal_phase before a.task)) (same_refusal limits before a.task xs a.sends same ∙ accepted) ∙ ap Ok at;
}

module _ {A : Type 0} (op : Operation A) (limits : Limits) (allows : Allows) (a : Ask) (f : Knowledge) (w : View) (n : Learnt limits allows a f w) where
  pub asked_signals : (held : Parcel A) → StandsForSends op held a.sends
      → Signals op limits a.task held None f.seen (Signalled a.task (a.sends ∷ []) None ∷ n.made.before) (Ok a.phase)
  asked_signals held stands = made_signals op limits a f.seen n.made.before n.made.others n.made.accepted n.made.signalled_in held stands

  pub asked_waits : (outcome : Outcome) → outcome ≡ value_of_phase op.value (Waited a.task 1 ∷ n.middle) a.phase
      → Waits op.value limits a.task (Signalled a.task (a.sends ∷ []) None ∷ n.made.before) (Waited a.task 1 ∷ n.middle) (Ok (got.Value a.phase outcome))
  asked_waits outcome is = record {
    before = n.middle;
    others = n.made.since;
    seen = refl;
    reply = ap (λ o. refused_or o (got_at op.value n.middle (wait_phase n.middle a.task))) n.accepted
        ∙ ap (λ (p : ℕ). refused_or None (got_at op.value n.middle p)) (wait_is n.middle a.task (a.phase + 1) a.phase n.made.stands)
        ∙ ap (λ (b : Bool). Ok (cond b (got.Value a.phase (value_of_phase op.value n.middle a.phase)) got.Ended)) (lt-ltb a.phase (done_of n.middle) n.complete)
        ∙ ap (λ (o : Outcome). Ok (got.Value a.phase o)) (sym is);
  }
