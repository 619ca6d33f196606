-- A holder reads the lane of another's task: there is nothing, or what is past, or what was asked, which it has read then.
use Rattle.std.proofs.Common.{◌≡◌, ◌≢◌, ℕ, ℤ, ◌+◌, ◌<◌, false, List, [], ◌∷◌, ◌⊎◌, None, set, refl, sym, ap, subst, ◌∙◌, inl, inr, ⊎_elim, arith}
use Rattle.std.proofs.lemmas.Bool.{false_from_ne_true}
use Rattle.turn_lock.proofs.Keeping.{not_both}
use mathlib.Core.Option.{some}
use lib.ListN.{get_elem?}
use Rattle.atomic_table.proofs.Lists.{set_again}
use Rattle.phase_shared.specs.Phasers.{Limits, is_in, Outcome, History, OthersCame}
use Rattle.phase_shared.specs.declared.seats.view.Knowledge.{Knowledge}
use Rattle.phase_shared.specs.Goods.{Allows}
use Rattle.phase_shared.specs.Asks.{Ask, IsAtPhases, Stage, IsUnmade, IsMade, IsAnsweredAsk, IsOneOf}
use Rattle.phase_shared.specs.Lanes.{lanes_most, posted, send_word, owner_word, sends_of}
use Rattle.phase_shared.specs.Views.{Lane, Holds, is_turning}
use Rattle.phase_shared.specs.Desks.{View, Turning, Asking, AskStands, StandsAsked, AskedAt, IsPast, Kept}
use Rattle.phase_shared.specs.Tells.{IsClaim, LaneRead}
use Rattle.phase_shared.proofs.Places.{ask_in, same_view}
use Rattle.phase_shared.proofs.AskMoves.{this_is_in, held_lane, lane_still, holds}

-- what an ask that was answered has posted
pub answered_past : (limits : Limits) (a : Ask) (seen log : History) → IsAnsweredAsk limits a seen log → IsPast log (a.phase + 1)
answered_past limits a seen log n = let low = n.below in omega arith

-- ---- reading a lane

module _ {T : Type 0} (value : List ℤ → Outcome) (limits : Limits) (allows : Allows) (StandsFor : T → History → Type 0)
    (number : ℕ) (f : Knowledge) (claims : List Ask) (said : Outcome) (lane : Lane) (i : ℕ)
    (told : ℕ) (words : List ℕ) (views : List View) (k : Kept value limits allows StandsFor None told words views)
    (at : get_elem? views number ≡ some (Turning f claims said lane)) where
  log_is : f.seen ≡ k.log
  log_is = (k.sound number (Turning f claims said lane) at).0

  asks_at : (j : ℕ) (g : Knowledge) (a : Ask) → get_elem? views j ≡ some (Asking g a) → AskStands value limits allows k.log told words g a
  asks_at j g a e = k.sound j (Asking g a) e

  posted_is : (j : ℕ) (g : Knowledge) (a : Ask) → get_elem? views j ≡ some (Asking g a) → a.lane ≡ i → posted words i ≡ a.phase + 1
  posted_is j g a e same = ap (λ (t : ℕ). posted words t) (sym same) ∙ (asks_at j g a e).posts

  -- who asks is another
  other_task : (j : ℕ) (g : Knowledge) (a : Ask) → get_elem? views j ≡ some (Asking g a) → is_in a.task f.speaks ≡ false
  other_task j g a e = false_from_ne_true (is_in a.task f.speaks) (λ mine.
      let theirs = (k.owns j (Asking g a) a.task e (this_is_in a.task g.speaks (asks_at j g a e).speaks)).0 in
      let here = (k.owns number (Turning f claims said lane) a.task at mine).0 in
      not_both (is_turning (Turning f claims said lane)) refl
      (ap is_turning (same_view views number j (Turning f claims said lane) (Asking g a) at e (sym here ∙ theirs))))

  -- what was read is what is posted
  claim_posted : (a : Ask) → IsOneOf claims a → a.lane ≡ i → posted words i ≡ a.phase + 1
  claim_posted a one same = let c = k.claimed number f claims said lane at a one in posted_is c.seat c.knows a c.at same

  -- two asks of one task are one
  one_ask : (j l : ℕ) (g h : Knowledge) (a b : Ask) → get_elem? views j ≡ some (Asking g a) → get_elem? views l ≡ some (Asking h b) → b.task ≡ a.task → b ≡ a
  one_ask j l g h a b e e' same =
      let mine = (k.owns j (Asking g a) a.task e (this_is_in a.task g.speaks (asks_at j g a e).speaks)).0 in
      let its = (k.owns l (Asking h b) b.task e' (this_is_in b.task h.speaks (asks_at l h b e').speaks)).0 in
      ap (λ (u : View). ask_in a u) (same_view views l j (Asking h b) (Asking g a) e' e (sym its ∙ ap k.owner same ∙ mine))

  -- nothing is read
  reads_none : (posted words i ≡ 0) ⊎ IsPast f.seen (posted words i)
      → (w : View) × Kept value limits allows StandsFor None told words (set views number w) × LaneRead limits allows i f claims said lane (posted words i) w
  reads_none found = (
    Turning f claims said lane,
    subst (λ (l : List View). Kept value limits allows StandsFor None told words l) (sym (set_again views number (Turning f claims said lane) at)) k,
    record { new = []; is = refl; fresh = λ a one. absurd one; read = claim_posted; found = inl found },
  )

  -- an ask is read that is not answered
  module _ (j : ℕ) (g : Knowledge) (a : Ask) (there : get_elem? views j ≡ some (Asking g a)) (is : a.lane ≡ i)
      (waits_on : IsUnmade a g.seen k.log ⊎ IsMade limits a g.seen k.log) where
    each : (b : Ask) → IsOneOf (a ∷ claims) b → StandsAsked limits k.log views b
    each b (inl same) = subst (λ (x : Ask). StandsAsked limits k.log views x) same (record { seat = j; knows = g; at = there; waits_on = waits_on })
    each b (inr rest) = k.claimed number f claims said lane at b rest

    kept : Kept value limits allows StandsFor None told words (set views number (Turning f (a ∷ claims) said lane))
    kept =
        let s = k.sound number (Turning f claims said lane) at in
        holds value limits allows StandsFor told words views k number f claims said lane at words (a ∷ claims) said lane
        s.5 s.6 (λ l u ne e. k.sound l u e) (λ b one. inr one) each
        (λ l few. lane_still value limits allows StandsFor told words views k number f claims said lane at words (a ∷ claims) said lane
        s.5 s.6 (λ l' u ne e. k.sound l' u e) (λ b one. inr one) each (λ m n e. e) l (posted words l) (k.lanes l few))

    claim : IsClaim limits allows f (a ∷ claims) a
    claim = record {
      one = inl refl;
      theirs = other_task j g a there;
      only = λ b one same. let c = each b one in one_ask j c.seat g c.knows a b there c.at same;
      stands = elim waits_on [
        | inl u ↦ inl (
          subst (λ (h : History). IsAtPhases h a.task a.phase a.phase) (sym log_is) u.stands,
          record {
            seen = g.seen;
            others = subst (λ (h : History). OthersCame (a.task ∷ []) g.seen h) (sym log_is) u.others;
            may = (asks_at j g a there).may;
          },
        )
        | inr m ↦ inr (subst (λ (h : History). IsAtPhases h a.task (a.phase + 1) a.phase) (sym log_is) m.stands)
      ];
    }

    reads_ask : (w : View) × Kept value limits allows StandsFor None told words (set views number w) × LaneRead limits allows i f claims said lane (posted words i) w
    reads_ask = (
      Turning f (a ∷ claims) said lane,
      kept,
      record {
        new = a ∷ [];
        is = refl;
        fresh = λ b one. ⊎_elim (λ (same : a ≡ b). subst (λ (x : Ask). (x.lane ≡ i) × IsClaim limits allows f (a ∷ claims) x) same (is, claim)) (λ none. absurd none) one;
        read = λ b one same. let c = each b one in posted_is c.seat c.knows b c.at same;
        found = inr (a, is, claim);
      },
    )

  -- where the holder does not know what the lane has
  pub lane_read : i < lanes_most → ((n : ℕ) → lane ≢ Holds i n)
      → (w : View) × Kept value limits allows StandsFor None told words (set views number w) × LaneRead limits allows i f claims said lane (posted words i) w
  lane_read few out = elim (k.lanes i few) [
    | inl z ↦ reads_none (inl z)
    | inr (inl q) ↦ asked q (asks_at q.seat q.knows q.ask q.at).stage
    | inr (inr (inl p)) ↦ reads_none (inr (past_here p))
    | inr (inr (inr h)) ↦ absurd (out h.n (held_lane value limits allows StandsFor told words views k number f claims said lane at i h))
  ]
    where
      past_here : IsPast k.log (posted words i) → IsPast f.seen (posted words i)
      past_here p = subst (λ (h : History). IsPast h (posted words i)) (sym log_is) p

      asked : (q : AskedAt views i) → Stage limits q.ask q.knows.seen k.log
          → (w : View) × Kept value limits allows StandsFor None told words (set views number w) × LaneRead limits allows i f claims said lane (posted words i) w
      asked q (inl u) = reads_ask q.seat q.knows q.ask q.at q.is (inl u)
      asked q (inr (inl m)) = reads_ask q.seat q.knows q.ask q.at q.is (inr m)
      asked q (inr (inr n)) =
          let p : IsPast k.log (q.ask.phase + 1) = answered_past limits q.ask q.knows.seen k.log n in
          reads_none (inr (past_here (subst (λ (m : ℕ). IsPast k.log m) (sym (posted_is q.seat q.knows q.ask q.at q.is)) p)))

  -- whose a lane is in which an ask was read
  pub owner_read : (set views number (Turning f claims said lane) ≡ views)
      × ((a : Ask) → IsOneOf claims a → a.lane ≡ i → owner_word words i ≡ a.task + 1)
  owner_read = (
    set_again views number (Turning f claims said lane) at,
    λ a one same.
        let c = k.claimed number f claims said lane at a one in
        ap (λ (l : ℕ). owner_word words l) (sym same) ∙ (asks_at c.seat c.knows a c.at).owned,
  )

  -- the second word has what is sent, where the signal is still to be made
  pub send_read : (set views number (Turning f claims said lane) ≡ views)
      × ((a : Ask) → IsOneOf claims a → a.lane ≡ i → IsAtPhases f.seen a.task a.phase a.phase → sends_of (send_word words i) ≡ a.sends)
  send_read = (
    set_again views number (Turning f claims said lane) at,
    λ a one same st.
        let c = k.claimed number f claims said lane at a one in
        let q = asks_at c.seat c.knows a c.at in
        ap (λ (t : ℕ). sends_of (send_word words t)) (sym same) ∙ q.sends (subst (λ (h : History). IsAtPhases h a.task a.phase a.phase) log_is st),
  )
