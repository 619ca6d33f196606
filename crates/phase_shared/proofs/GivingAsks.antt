-- A give keeps the rule: with the giver's own events, and with those of a turn for others that asked.
use Rattle.std.proofs.Common.{◌≡◌, ◌≢◌, ℕ, ℤ, ◌+◌, ◌<◌, ◌≤◌, true, false, cond, List, [], ◌∷◌, ◌++◌, ◌⊎◌, Some, None, set, refl, sym, ap, subst, ◌∙◌, inl, inr, arith}
use Rattle.std.specs.Prelude.{◌/◌, ◌%◌}
use Rattle.std.proofs.lemmas.Bool.{false_from_ne_true}
use Rattle.std.proofs.lemmas.Option.{same_Some}
use mathlib.Core.Option.{some}
use lib.ListN.{get_elem?}
use Rattle.atomic_table.proofs.Lists.{at_set, set_here}
use Rattle.turn_lock.proofs.Keeping.{within, not_both}
use Rattle.phase_shared.specs.Phasers.{Limits, is_distinct, is_in, Outcome, History, done_of, value_of_phase, IsUsed, events_of, OthersCame}
use Rattle.phase_history.proofs.Used.{IsUsed-longer}
use Rattle.phase_history.proofs.OthersEvents.{OthersCame-refl, OthersCame-trans}
use Rattle.phase_shared.specs.declared.seats.view.Knowledge.{Knowledge}
use Rattle.phase_shared.specs.Views.{Lane, Unknown, Holds, knowledge, speaks_of, is_turning, lane_of}
use Rattle.phase_shared.specs.Goods.{Allows, IsGood}
use Rattle.phase_shared.specs.Asks.{Ask, IsAtPhases, IsUnmade, IsMade, IsAnsweredAsk, Stage, Batch, IsOneOf, asks_for}
use Rattle.phase_shared.specs.Lanes.{lanes_most, board, posted, owner_word}
use Rattle.phase_shared.specs.Desks.{View, Resting, Turning, Joining, Posting, Asking, Reading, Spent, IsSound, AskStands, HasToRead, Owns, LaneIs, IsPast, HeldAt, IsLane, Kept}
use Rattle.phase_shared.specs.Tells.{StillAsks, LaneIsPast, EndsTurn, Leaves}
use Rattle.phase_shared.proofs.Small.{none_some, apart_phases, is_in_self, in_left, in_right, used_some}
use Rattle.phase_shared.proofs.Stages.{stage_goes, signal_is, wait_is, done_within}
use Rattle.phase_shared.proofs.Steadies.{found, none_of, same_value, stands_still, stage_still, not_made_and_answered}
use Rattle.phase_shared.proofs.Growing.{unmade_before, done_grows, own_batch}
use Rattle.phase_shared.proofs.Places.{is_asking, ask_in, same_view, was, stays, held_same}

module _ {T : Type 0} (value : List ℤ → Outcome) (limits : Limits) (allows : Allows) (StandsFor : T → History → Type 0)
    (number : ℕ) (f : Knowledge) (claims : List Ask) (said : Outcome) (lane : Lane) (told : ℕ) (words : List ℕ) (views : List View)
    (k : Kept value limits allows StandsFor None told words views) (at : get_elem? views number ≡ some (Turning f claims said lane)) where
  some_log : k.log ≡ [] → ⊥
  some_log none =
      let s = k.sound number (Turning f claims said lane) at in
      used_some k.log s.4.0 (k.owns number (Turning f claims said lane) s.4.0 at s.4.1).1 none

  -- no other view speaks for any of the giver's
  mine : (j : ℕ) (v : View) (task : ℕ) → j ≢ number → get_elem? views j ≡ some v → is_in task (speaks_of v) ≡ true → is_in task f.speaks ≡ false
  mine j v task ne e has = false_from_ne_true (is_in task f.speaks)
      (λ yes'. ne (sym (k.owns j v task e has).0 ∙ (k.owns number (Turning f claims said lane) task at yes').0))

  asks_at : (j : ℕ) (g : Knowledge) (a : Ask) → get_elem? views j ≡ some (Asking g a) → AskStands value limits allows k.log told words g a
  asks_at j g a e = k.sound j (Asking g a) e

  -- who asked speaks for its task
  own_task : (j : ℕ) (g : Knowledge) (a : Ask) → get_elem? views j ≡ some (Asking g a) → is_in a.task g.speaks ≡ true
  own_task j g a e = subst (λ (l : List ℕ). is_in a.task l ≡ true) (sym (asks_at j g a e).speaks) (is_in_self a.task [])

  -- the seat that speaks for the task of an ask that was read is the one that asked
  seat_is : (j : ℕ) (v : View) (task : ℕ) → get_elem? views j ≡ some v → is_in task (speaks_of v) ≡ true → (a : Ask) → IsOneOf claims a → a.task ≡ task
      → (g : Knowledge) × (v ≡ Asking g a)
  seat_is j v task e has a one same =
      let c = k.claimed number f claims said lane at a one in
      let theirs = (k.owns c.seat (Asking c.knows a) a.task c.at (own_task c.seat c.knows a c.at)).0 in
      let here : c.seat ≡ j = sym theirs ∙ ap k.owner same ∙ (k.owns j v task e has).0 in
      (c.knows, same_view views j c.seat v (Asking c.knows a) e c.at (sym here))

  one_ask : (j : ℕ) (g : Knowledge) (a : Ask) → get_elem? views j ≡ some (Asking g a) → (b : Ask) → IsOneOf claims b → b.task ≡ a.task → b ≡ a
  one_ask j g a e b one same = let q = seat_is j (Asking g a) a.task e (own_task j g a e) b one same in sym (ap (λ v. ask_in a v) q.1)

  -- a turn is the giver's
  turn_is : (j : ℕ) (g : Knowledge) (cs : List Ask) (sd : Outcome) (ln : Lane) → get_elem? views j ≡ some (Turning g cs sd ln) → j ≡ number
  turn_is j g cs sd ln e = let s = k.sound j (Turning g cs sd ln) e in s.2 ∙ sym (k.sound number (Turning f claims said lane) at).2

  -- what is told is no phase that an ask which was read has still to wait for
  told_waits : (a : Ask) → IsOneOf claims a → told % 2 ≡ 1 → told / 2 ≤ a.phase
  told_waits a one odd =
      let c = k.claimed number f claims said lane at a one in
      let s : AskStands value limits allows k.log told words c.knows a = k.sound c.seat (Asking c.knows a) c.at in
      elim c.waits_on [
        | inl u ↦ let low = k.within odd in let high = done_within k.log a.task a.phase a.phase u.stands in omega arith
        | inr m ↦ s.waits odd m
      ]

  -- who asked has a lane
  low_of : (a : Ask) → IsOneOf claims a → a.lane < lanes_most
  low_of a one =
      let c = k.claimed number f claims said lane at a one in (asks_at c.seat c.knows a c.at).low

  module _ (y : T) (used : List Ask) (inside : (a : Ask) → IsOneOf used a → IsOneOf claims a) (later : History) (next : ℕ)
      (batch : Batch (IsOneOf used) f.speaks later k.log) (good : IsGood limits allows (later ++ k.log)) (stands : StandsFor y (later ++ k.log))
      (within' : next % 2 ≡ 1 → next / 2 ≤ done_of (later ++ k.log))
      (waits : next % 2 ≡ 1 → (a : Ask) → IsOneOf claims a → IsAtPhases (later ++ k.log) a.task (a.phase + 1) a.phase → next / 2 ≤ a.phase)
      (has : (a : Ask) → IsOneOf used a → IsAtPhases (later ++ k.log) a.task (a.phase + 1) (a.phase + 1) → board words ≡ value_of_phase value (later ++ k.log) a.phase)
      (w : View) (rests : is_turning w ≡ false)
      (each : (task : ℕ) → is_in task (speaks_of w) ≡ true → IsUsed (later ++ k.log) task × ((is_in task f.speaks ≡ true) ⊎ (IsUsed k.log task → ⊥)))
      (sound' : IsSound value limits allows (Some y) number (later ++ k.log) next words number w)
      (lane_new : (i n : ℕ) → lane ≡ Holds i n → IsLane (later ++ k.log) (set views number w) i (posted words i)) where
    one_used : (j : ℕ) (g : Knowledge) (a : Ask) → get_elem? views j ≡ some (Asking g a) → (b : Ask) → IsOneOf used b → b.task ≡ a.task → b ≡ a
    one_used j g a e b one same = one_ask j g a e b (inside b one) same

    none : (j : ℕ) (v : View) → j ≢ number → get_elem? views j ≡ some v → is_asking v ≡ false
        → (task : ℕ) → is_in task (speaks_of v) ≡ true → events_of task later ≡ []
    none j v ne e not_asking task has' = none_of limits used f.speaks k.log some_log task (mine j v task ne e has')
        (false_from_ne_true (asks_for used task) (λ yes'.
        let r = found used task yes' in
        let q = seat_is j v task e has' r.0 (inside r.0 r.1) r.2 in
        not_both (is_asking v) (ap is_asking q.1) not_asking))
        later batch

    to_new : (tasks : List ℕ) (j : ℕ) (v : View) → j ≢ number → get_elem? views j ≡ some v → is_asking v ≡ false
        → ((task : ℕ) → is_in task tasks ≡ true → is_in task (speaks_of v) ≡ true)
        → (seen : History) → OthersCame tasks seen k.log → OthersCame tasks seen (later ++ k.log)
    to_new tasks j v ne e not_asking among seen came =
        OthersCame-trans tasks seen k.log (later ++ k.log) came
        (record { later = later; is = refl; others = λ task has'. none j v ne e not_asking task (among task has') })

    -- an ask after the turn
    asks_new : (j : ℕ) (g : Knowledge) (a : Ask) → j ≢ number → get_elem? views j ≡ some (Asking g a) → Stage limits a g.seen (later ++ k.log)
    asks_new j g a ne e =
        let s = asks_at j g a e in
        stage_goes limits (IsOneOf used) f.speaks k.log some_log a g.seen (mine j (Asking g a) a.task ne e (own_task j g a e)) (one_used j g a e) later batch good.legal s.stage

    still : (j : ℕ) (g : Knowledge) (a : Ask) → j ≢ number → get_elem? views j ≡ some (Asking g a) → asks_for used a.task ≡ false
        → (IsUnmade a g.seen (later ++ k.log) × IsUnmade a g.seen k.log)
        ⊎ (IsMade limits a g.seen k.log ⊎ (IsAnsweredAsk limits a g.seen (later ++ k.log) × IsAnsweredAsk limits a g.seen k.log))
    still j g a ne e t = stage_still limits used f.speaks k.log some_log a g.seen later (mine j (Asking g a) a.task ne e (own_task j g a e)) t batch good.legal (asks_at j g a e).stage

    -- where it is made and not answered then, it was read
    made_is_read : (j : ℕ) (g : Knowledge) (a : Ask) → j ≢ number → get_elem? views j ≡ some (Asking g a) → IsMade limits a g.seen (later ++ k.log) → IsOneOf claims a
    made_is_read j g a ne e m = elim (asks_for used a.task) as (λ b. (asks_for used a.task ≡ b) → IsOneOf claims a) [
      | true ↦ λ t. let r = found used a.task t in subst (λ (x : Ask). IsOneOf claims x) (one_used j g a e r.0 r.1 r.2) (inside r.0 r.1)
      | false ↦ λ t. elim (still j g a ne e t) [
        | inl u ↦ absurd (apart_phases a.phase (sym (signal_is (later ++ k.log) a.task (a.phase + 1) a.phase m.stands) ∙ signal_is (later ++ k.log) a.task a.phase a.phase u.0.stands))
        | inr (inl here) ↦ k.all number f claims said lane at j g a e here
        | inr (inr n) ↦ absurd (not_made_and_answered limits a g.seen (later ++ k.log) m n.0)
      ]
    ] refl

    -- what was made and not read is not answered by the turn
    made_unread : (j : ℕ) (g : Knowledge) (a : Ask) → j ≢ number → get_elem? views j ≡ some (Asking g a) → asks_for used a.task ≡ false
        → IsMade limits a g.seen k.log → IsAnsweredAsk limits a g.seen (later ++ k.log) → ⊥
    made_unread j g a ne e t m n =
        let nothing : events_of a.task later ≡ [] = none_of limits used f.speaks k.log some_log a.task (mine j (Asking g a) a.task ne e (own_task j g a e)) t later batch in
        let st = stands_still limits used f.speaks k.log some_log a.task (a.phase + 1) a.phase later good.legal nothing m.stands in
        apart_phases a.phase (sym (wait_is (later ++ k.log) a.task (a.phase + 1) (a.phase + 1) n.stands) ∙ wait_is (later ++ k.log) a.task (a.phase + 1) a.phase st)

    -- where it is answered then, the board has its value
    answered_has : (j : ℕ) (g : Knowledge) (a : Ask) → j ≢ number → get_elem? views j ≡ some (Asking g a) → IsAnsweredAsk limits a g.seen (later ++ k.log)
        → board words ≡ value_of_phase value (later ++ k.log) a.phase
    answered_has j g a ne e n = elim (asks_for used a.task) as (λ b. (asks_for used a.task ≡ b) → board words ≡ value_of_phase value (later ++ k.log) a.phase) [
      | true ↦ λ t.
          let r = found used a.task t in
          let one : IsOneOf used a = subst (λ (x : Ask). IsOneOf used x) (one_used j g a e r.0 r.1 r.2) r.1 in
          has a one n.stands
      | false ↦ λ t. elim (still j g a ne e t) [
        | inl u ↦ absurd (apart_phases a.phase (sym (signal_is (later ++ k.log) a.task (a.phase + 1) (a.phase + 1) n.stands) ∙ signal_is (later ++ k.log) a.task a.phase a.phase u.0.stands))
        | inr (inl here) ↦ absurd (made_unread j g a ne e t here n)
        | inr (inr q) ↦ (asks_at j g a e).has q.1 ∙ sym (same_value limits used f.speaks k.log some_log value a.phase later good.legal q.1.below).1
      ]
    ] refl

    other_sound : (j : ℕ) (v : View) → j ≢ number → get_elem? views j ≡ some v → IsSound value limits allows (Some y) number (later ++ k.log) next words j v
    other_sound j (Resting g) ne e =
        let s = k.sound j (Resting g) e in (to_new g.speaks j (Resting g) ne e refl (λ t h. h) g.seen s.0, s.1)
    other_sound j (Turning g cs sd ln) ne e = absurd (ne (turn_is j g cs sd ln e))
    other_sound j (Joining g h) ne e =
        let s = k.sound j (Joining g h) e in (
          to_new g.speaks j (Joining g h) ne e refl (λ t has'. in_left g.speaks h.speaks t has') g.seen s.0,
          to_new h.speaks j (Joining g h) ne e refl (λ t has'. in_right g.speaks h.speaks t has') h.seen s.1,
          s.2,
        )
    other_sound j (Posting g i n) ne e =
        let s = k.sound j (Posting g i n) e in (to_new g.speaks j (Posting g i n) ne e refl (λ t h. h) g.seen s.0, s.1, s.2, s.3)
    other_sound j (Asking g a) ne e =
        let s = asks_at j g a e in
        record {
          speaks = s.speaks;
          low = s.low;
          owned = s.owned;
          stage = asks_new j g a ne e;
          waits = λ odd m. waits odd a (made_is_read j g a ne e m) m.stands;
          may = s.may;
          has = answered_has j g a ne e;
          posts = s.posts;
          sends = λ st. s.sends (unmade_before limits a g.seen later k.log k.good.legal good.legal s.stage st);
        }
    other_sound j (Reading g a) ne e =
        let s : HasToRead value k.log words g a = k.sound j (Reading g a) e in
        let here : is_in a.task g.speaks ≡ true = subst (λ (l : List ℕ). is_in a.task l ≡ true) (sym s.speaks) (is_in_self a.task []) in
        let same = same_value limits used f.speaks k.log some_log value a.phase later good.legal s.below in
        record {
          speaks = s.speaks;
          fits = to_new g.speaks j (Reading g a) ne e refl (λ t h. h) g.seen s.fits;
          stands = stands_still limits used f.speaks k.log some_log a.task (a.phase + 1) (a.phase + 1) later good.legal
              (none j (Reading g a) ne e refl a.task here) s.stands;
          below = same.0;
          has = s.has;
        }
    other_sound j Spent ne e = tt

    stays_used : (task : ℕ) → IsUsed k.log task → IsUsed (later ++ k.log) task
    stays_used task u = IsUsed-longer limits k.log (later ++ k.log) task good.legal (record { later = later; is = refl }) u

    -- no view has the turn afterwards
    no_turn : (j : ℕ) (g : Knowledge) (cs : List Ask) (sd : Outcome) (ln : Lane) → get_elem? (set views number w) j ≡ some (Turning g cs sd ln) → ⊥
    no_turn j g cs sd ln e =
        let p = was is_turning views number j w (Turning g cs sd ln) rests refl e in p.0 (turn_is j g cs sd ln p.1)

    -- nobody else speaks for what the giver speaks for afterwards
    apart_of : (j : ℕ) (v : View) (task : ℕ) → j ≢ number → get_elem? views j ≡ some v → is_in task (speaks_of v) ≡ true → is_in task (speaks_of w) ≡ false
    apart_of j v task ne e has' = false_from_ne_true (is_in task (speaks_of w)) (λ yes'. elim ((each task yes').1) [
      | inl h ↦ not_both (is_in task f.speaks) h (mine j v task ne e has')
      | inr h ↦ h (k.owns j v task e has').1
    ])

    -- the lane of the giver is left as it says
    lane_held : (i : ℕ) (h : HeldAt views i) → IsLane (later ++ k.log) (set views number w) i (posted words i)
    lane_held i h =
        let here = turn_is h.seat h.knows h.claims h.said (Holds i h.n) h.at in
        let same = same_view views h.seat number (Turning h.knows h.claims h.said (Holds i h.n)) (Turning f claims said lane) h.at at here in
        lane_new i h.n (sym (ap lane_of same))

    -- what is past stays past
    past_then : (n : ℕ) → IsPast k.log n → IsPast (later ++ k.log) n
    past_then n p = let more = done_grows limits later k.log some_log good.legal in omega arith

    lane_given : (i : ℕ) → IsLane k.log views i (posted words i) → IsLane (later ++ k.log) (set views number w) i (posted words i)
    lane_given i (inl z) = inl z
    lane_given i (inr (inl q)) = inr (inl record {
      seat = q.seat;
      knows = q.knows;
      ask = q.ask;
      at = stays is_asking views number q.seat (Turning f claims said lane) w (Asking q.knows q.ask) at refl refl q.at;
      is = q.is;
    })
    lane_given i (inr (inr (inl p))) = inr (inr (inl (past_then (posted words i) p)))
    lane_given i (inr (inr (inr h))) = lane_held i h

    gave : Kept value limits allows StandsFor (Some y) next words (set views number w)
    gave = record {
      log = later ++ k.log;
      good = good;
      stands = λ x e. subst (λ (z : T). StandsFor z (later ++ k.log)) (same_Some y x e) stands;
      within = within';
      holder = number;
      out = λ e. absurd (none_some y e);
      sound = λ j v e. elim (at_set views number j w v e) [
        | inl p ↦ subst (λ (u : View). IsSound value limits allows (Some y) number (later ++ k.log) next words j u) p.1
            (subst (λ (n : ℕ). IsSound value limits allows (Some y) number (later ++ k.log) next words n w) (sym p.0) sound')
        | inr p ↦ other_sound j v p.0 p.1
      ];
      owner = λ task. cond (is_in task (speaks_of w)) number (k.owner task);
      owns = λ j v task e has'. elim (at_set views number j w v e) [
        | inl p ↦ let here : is_in task (speaks_of w) ≡ true = subst (λ (u : View). is_in task (speaks_of u) ≡ true) (sym p.1) has' in
            (ap (λ b. cond b number (k.owner task)) here ∙ sym p.0, (each task here).0)
        | inr p ↦ let o = k.owns j v task p.1 has' in
            (ap (λ b. cond b number (k.owner task)) (apart_of j v task p.0 p.1 has') ∙ o.0, stays_used task o.1)
      ];
      claimed = λ j g cs sd ln e a one. absurd (no_turn j g cs sd ln e);
      all = λ j g cs sd ln e i h a e' m. absurd (no_turn j g cs sd ln e);
      lanes = λ i low. lane_given i (k.lanes i low);
    }

single_is : (a b : ℕ) → a ∷ [] ≡ b ∷ [] → a ≡ b
single_is a b e = cc

pub no_lane : (i n : ℕ) → Unknown ≡ Holds i n → ⊥
no_lane i n e = cc

module _ {T : Type 0} (value : List ℤ → Outcome) (limits : Limits) (allows : Allows) (StandsFor : T → History → Type 0) where
  -- a give with the giver's own events, that answers no ask
  pub gives_own : (number : ℕ) (f : Knowledge) (claims : List Ask) (said : Outcome) (y : T) (own : History) (speaks : List ℕ) (told next : ℕ) → (next % 2 ≡ 1 → next ≡ told)
      → ((task : ℕ) → is_in task f.speaks ≡ false → events_of task own ≡ [])
      → IsGood limits allows (own ++ f.seen) → StandsFor y (own ++ f.seen) → is_distinct speaks ≡ true
      → ((task : ℕ) → is_in task speaks ≡ true → IsUsed (own ++ f.seen) task × ((is_in task f.speaks ≡ true) ⊎ (IsUsed f.seen task → ⊥)))
      → (words : List ℕ) (views : List View) → Kept value limits allows StandsFor None told words views
      → get_elem? views number ≡ some (Turning f claims said Unknown)
      → Kept value limits allows StandsFor (Some y) next words (set views number (Resting (knowledge (own ++ f.seen) speaks)))
  gives_own number f claims said y own speaks told next same mine' good stands distinct each words views k at =
      let s = k.sound number (Turning f claims said Unknown) at in
      let more : done_of k.log ≤ done_of (own ++ k.log) = subst (λ (h : History). done_of h ≤ done_of (own ++ h)) s.0
      (done_grows limits own f.seen (λ none. some_log value limits allows StandsFor number f claims said Unknown told words views k at (sym s.0 ∙ none)) good.legal) in
      gave value limits allows StandsFor number f claims said Unknown told words views k at y [] (λ a one. absurd one) own next
      (own_batch (IsOneOf []) f.speaks own k.log mine')
      (subst (λ (h : History). IsGood limits allows (own ++ h)) s.0 good)
      (subst (λ (h : History). StandsFor y (own ++ h)) s.0 stands)
      (λ odd. let is = same odd in let low = k.within (subst (λ (n : ℕ). n % 2 ≡ 1) is odd) in omega arith)
      (λ odd a one st. subst (λ (n : ℕ). n / 2 ≤ a.phase) (sym (same odd))
      (told_waits value limits allows StandsFor number f claims said Unknown told words views k at a one (subst (λ (n : ℕ). n % 2 ≡ 1) (same odd) odd)))
      (λ a one st. absurd one)
      (Resting (knowledge (own ++ f.seen) speaks)) refl
      (λ task has. let e = each task has in
      (subst (λ (h : History). IsUsed (own ++ h) task) s.0 e.0, subst (λ (h : History). (is_in task f.speaks ≡ true) ⊎ (IsUsed h task → ⊥)) s.0 e.1))
      (subst (λ (h : History). OthersCame speaks (own ++ f.seen) (own ++ h)) s.0 (OthersCame-refl speaks (own ++ f.seen)), distinct)
      (λ i n e. absurd (no_lane i n e))

  module _ (number : ℕ) (f : Knowledge) (claims : List Ask) (said : Outcome) (lane : Lane) (told : ℕ) (words : List ℕ) (views : List View)
      (k : Kept value limits allows StandsFor None told words views) (at : get_elem? views number ≡ some (Turning f claims said lane))
      (next : ℕ) (new : History) (w : View) (ends : EndsTurn limits allows next new f lane w) where
    ends_rest : is_turning w ≡ false
    ends_rest = elim ends [ inl r ↦ ap is_turning r.1 | inr s ↦ ap is_turning s.is ]

    ends_speak : speaks_of w ≡ f.speaks
    ends_speak = elim ends [ inl r ↦ ap speaks_of r.1 | inr s ↦ ap speaks_of s.is ∙ s.speaks ∙ sym s.mine ]

    lane_has : (i n : ℕ) → lane ≡ Holds i n → Owns words f i × (posted words i ≡ n)
    lane_has i n e = subst (λ (l : Lane). LaneIs words f l) e (k.sound number (Turning f claims said lane) at).6

    -- what the own lane of who asks still has
    still_lane : (s : StillAsks limits allows next new f lane w)
        → (s.ask.lane < lanes_most) × (owner_word words s.ask.lane ≡ s.ask.task + 1) × (posted words s.ask.lane ≡ s.ask.phase + 1)
    still_lane s =
        let l = lane_has s.ask.lane (s.ask.phase + 1) s.posts in
        let o : Owns words f s.ask.lane = l.0 in
        let task_is : o.task ≡ s.ask.task = single_is o.task s.ask.task (sym o.speaks ∙ s.mine) in
        (o.low, subst (λ (t : ℕ). owner_word words s.ask.lane ≡ t + 1) task_is o.owned, l.1)

    ends_sound : (y : T) → IsSound value limits allows (Some y) number new next words number w
    ends_sound y = elim ends [
      | inl r ↦ subst (λ (u : View). IsSound value limits allows (Some y) number new next words number u) (sym r.1)
          (r.2, (k.sound number (Turning f claims said lane) at).1)
      | inr s ↦ let l = still_lane s in
          let asks : AskStands value limits allows new next words s.knows s.ask = record {
            speaks = s.speaks;
            low = l.0;
            owned = l.1;
            stage = inr (inl s.made);
            waits = λ odd m. s.waits odd;
            may = s.may;
            has = λ n. absurd (not_made_and_answered limits s.ask s.knows.seen new s.made n);
            posts = l.2;
            sends = λ st. absurd (apart_phases s.ask.phase (sym (signal_is new s.ask.task (s.ask.phase + 1) s.ask.phase s.made.stands) ∙ signal_is new s.ask.task s.ask.phase s.ask.phase st));
          } in
          subst (λ (u : View). IsSound value limits allows (Some y) number new next words number u) (sym s.is) asks
    ]

    ends_lane : (i n : ℕ) → lane ≡ Holds i n → IsLane new (set views number w) i (posted words i)
    ends_lane i n e = elim ends [
      | inl r ↦ let l = lane_has i n e in
          let past : LaneIsPast new (Holds i n) = subst (λ (o : Lane). LaneIsPast new o) e r.3 in
          inr (inr (inl (subst (λ (m : ℕ). IsPast new m) (sym l.1) past)))
      | inr s ↦ inr (inl record {
        seat = number;
        knows = s.knows;
        ask = s.ask;
        at = set_here views number w (within views number (Turning f claims said lane) at) ∙ ap some s.is;
        is = held_same s.ask.lane i (s.ask.phase + 1) n (sym s.posts ∙ e);
      })
    ]

  -- a give with the events of a turn, that tells phases
  pub gives_asks : (number : ℕ) (f : Knowledge) (claims : List Ask) (said : Outcome) (lane : Lane) (y : T) (later : History) (told next : ℕ) (w : View)
      → Batch (IsOneOf claims) f.speaks later f.seen → IsGood limits allows (later ++ f.seen) → StandsFor y (later ++ f.seen)
      → (next % 2 ≡ 1 → next / 2 ≤ done_of (later ++ f.seen))
      → ((a : Ask) → IsOneOf claims a → a.lane < lanes_most → Leaves value (later ++ f.seen) next said a)
      → EndsTurn limits allows next (later ++ f.seen) f lane w
      → (words : List ℕ) (views : List View) → Kept value limits allows StandsFor None told words views
      → get_elem? views number ≡ some (Turning f claims said lane)
      → Kept value limits allows StandsFor (Some y) next words (set views number w)
  gives_asks number f claims said lane y later told next w batch good stands within' leaves ends words views k at =
      let s = k.sound number (Turning f claims said lane) at in
      let good' : IsGood limits allows (later ++ k.log) = subst (λ (h : History). IsGood limits allows (later ++ h)) s.0 good in
      let leaves' : (a : Ask) → IsOneOf claims a → Leaves value (later ++ k.log) next said a =
      λ a one. subst (λ (h : History). Leaves value (later ++ h) next said a) s.0
      (leaves a one (low_of value limits allows StandsFor number f claims said lane told words views k at a one)) in
      let ends' : EndsTurn limits allows next (later ++ k.log) f lane w = subst (λ (h : History). EndsTurn limits allows next (later ++ h) f lane w) s.0 ends in
      gave value limits allows StandsFor number f claims said lane told words views k at y claims (λ a one. one) later next
      (subst (λ (h : History). Batch (IsOneOf claims) f.speaks later h) s.0 batch)
      good'
      (subst (λ (h : History). StandsFor y (later ++ h)) s.0 stands)
      (subst (λ (h : History). next % 2 ≡ 1 → next / 2 ≤ done_of (later ++ h)) s.0 within')
      (λ odd a one st. (leaves' a one).waits odd st)
      (λ a one st. sym s.5 ∙ (leaves' a one).has st)
      w (ends_rest number f claims said lane told words views k at next (later ++ k.log) w ends')
      (λ task has.
      let mine' : is_in task f.speaks ≡ true = subst (λ (l : List ℕ). is_in task l ≡ true) (ends_speak number f claims said lane told words views k at next (later ++ k.log) w ends') has in
      (IsUsed-longer limits k.log (later ++ k.log) task good'.legal (record { later = later; is = refl }) (k.owns number (Turning f claims said lane) task at mine').1, inl mine'))
      (ends_sound number f claims said lane told words views k at next (later ++ k.log) w ends' y)
      (ends_lane number f claims said lane told words views k at next (later ++ k.log) w ends')

  -- a give with the events of a turn, that tells what was told
  pub gives_same : (number : ℕ) (f : Knowledge) (claims : List Ask) (said : Outcome) (lane : Lane) (y : T) (later : History) (told : ℕ) (w : View)
      → Batch (IsOneOf claims) f.speaks later f.seen → IsGood limits allows (later ++ f.seen) → StandsFor y (later ++ f.seen)
      → ((a : Ask) → IsOneOf claims a → a.lane < lanes_most → IsAtPhases (later ++ f.seen) a.task (a.phase + 1) (a.phase + 1) → said ≡ value_of_phase value (later ++ f.seen) a.phase)
      → EndsTurn limits allows 0 (later ++ f.seen) f lane w
      → ((s : StillAsks limits allows 0 (later ++ f.seen) f lane w) → done_of f.seen ≤ s.ask.phase)
      → (words : List ℕ) (views : List View) → Kept value limits allows StandsFor None told words views
      → get_elem? views number ≡ some (Turning f claims said lane)
      → Kept value limits allows StandsFor (Some y) told words (set views number w)
  gives_same number f claims said lane y later told w batch good stands has ends later_open words views k at =
      let s = k.sound number (Turning f claims said lane) at in
      let more : done_of k.log ≤ done_of (later ++ f.seen) = subst (λ (h : History). done_of h ≤ done_of (later ++ f.seen)) s.0
      (done_grows limits later f.seen (λ none. some_log value limits allows StandsFor number f claims said lane told words views k at (sym s.0 ∙ none)) good.legal) in
      let within' : told % 2 ≡ 1 → told / 2 ≤ done_of (later ++ f.seen) = λ odd. let low = k.within odd in omega arith in
      gives_asks number f claims said lane y later told told w batch good stands within'
      (λ a one low. record {
        waits = λ odd st. told_waits value limits allows StandsFor number f claims said lane told words views k at a one odd;
        has = has a one low;
      })
      (elim ends [
        | inl r ↦ inl r
        | inr q ↦ inr record {
          ask = q.ask;
          knows = q.knows;
          mine = q.mine;
          speaks = q.speaks;
          made = q.made;
          may = q.may;
          posts = q.posts;
          waits = λ odd. let low : told / 2 ≤ done_of f.seen = subst (λ (h : History). told / 2 ≤ done_of h) (sym s.0) (k.within odd) in let high = later_open q in omega arith;
          is = q.is;
        }
      ])
      words views k at
