-- The board: who has the turn writes it where its turn completes a phase, and who was answered reads it.
use Rattle.std.proofs.Common.{◌≡◌, ◌≢◌, ℕ, ℤ, ◌+◌, ◌<◌, true, false, List, [], ◌++◌, ◌⊎◌, Option, None, length, set, slice_index, refl, sym, ap, subst, ◌∙◌, arith, inl, inr}
use Rattle.std.proofs.lemmas.Bool.{false_from_ne_true}
use mathlib.Core.Option.{some}
use lib.ListN.{get_elem?}
use Rattle.atomic_table.proofs.Lists.{set_again}
use Rattle.phase_shared.specs.Phasers.{Limits, is_in, is_distinct, Outcome, History, done_of, value_of_phase, IsLegal, events_of}
use Rattle.phase_shared.specs.declared.seats.view.Knowledge.{Knowledge}
use Rattle.phase_shared.specs.Goods.{Allows}
use Rattle.phase_shared.specs.Views.{Lane, speaks_of, is_turning}
use Rattle.phase_shared.specs.Asks.{Ask, IsAtPhases, IsUnmade, IsMade, IsAnsweredAsk, Batch, IsOneOf, asks_for}
use Rattle.phase_shared.specs.Lanes.{board, posted, sends_of, KindIs, NumberIs, with_number}
use Rattle.phase_shared.specs.Desks.{View, Resting, Turning, Joining, Posting, Asking, Reading, Spent, IsSound, AskStands, HasToRead, Owns, LaneIs, StandsAsked, IsLane, Kept}
use Rattle.phase_shared.proofs.Small.{used_some, apart_phases}
use Rattle.phase_shared.proofs.Stages.{signal_is, wait_is, done_within}
use Rattle.phase_shared.proofs.Steadies.{found, none_of, stands_still}
use Rattle.phase_shared.proofs.Places.{is_asking, ask_in, same_view, stays, asked_stays, lane_stays}
use Rattle.phase_shared.proofs.LaneWords.{kind_is, number_is, board_number, board_kind, board_posted, board_sent, board_owner, board_lane}
use Rattle.phase_shared.proofs.AskMoves.{this_is_in, owns_still, send_stay, lane_stay, moves, lane_still, holds, no_other}

-- whatever is on the board, its words say it
pub kind_of : (words : List ℕ) (o : Outcome) → o ≡ board words → KindIs (slice_index words 1) o
kind_of words o is = subst (λ (x : Outcome). KindIs (slice_index words 1) x) (sym is) (kind_is (slice_index words 0) (slice_index words 1))

pub number_of_board : (words : List ℕ) (o : Outcome) → o ≡ board words → NumberIs (slice_index words 0) o
number_of_board words o is = subst (λ (x : Outcome). NumberIs (slice_index words 0) x) (sym is) (number_is (slice_index words 0) (slice_index words 1))

module _ {T : Type 0} (value : List ℤ → Outcome) (limits : Limits) (allows : Allows) (StandsFor : T → History → Type 0) where
  -- who was answered reads what kind of outcome it is
  pub reads_kind : (number : ℕ) (f : Knowledge) (a : Ask) (home : Option T) (told : ℕ) (words : List ℕ) (views : List View)
      → Kept value limits allows StandsFor home told words views → get_elem? views number ≡ some (Reading f a)
      → (set views number (Reading f a) ≡ views) × KindIs (slice_index words 1) (value_of_phase value f.seen a.phase)
  reads_kind number f a home told words views k at =
      let s : HasToRead value k.log words f a = k.sound number (Reading f a) at in
      (set_again views number (Reading f a) at, kind_of words (value_of_phase value f.seen a.phase) (sym s.has))

  -- and then its number
  pub reads_number : (number : ℕ) (f : Knowledge) (a : Ask) (home : Option T) (told : ℕ) (words : List ℕ) (views : List View)
      → Kept value limits allows StandsFor home told words views → get_elem? views number ≡ some (Reading f a)
      → Kept value limits allows StandsFor home told words (set views number (Resting f))
      × NumberIs (slice_index words 0) (value_of_phase value f.seen a.phase)
  reads_number number f a home told words views k at =
      let s : HasToRead value k.log words f a = k.sound number (Reading f a) at in
      let w : View = Resting f in
      let asking_stays : (j : ℕ) (g : Knowledge) (b : Ask) → get_elem? views j ≡ some (Asking g b) → get_elem? (set views number (Resting f)) j ≡ some (Asking g b) =
      λ j g b e. stays is_asking views number j (Reading f a) (Resting f) (Asking g b) at refl refl e in (
        moves value limits allows StandsFor home told words views k number (Reading f a) at words w refl
            (s.fits, subst (λ (l : List ℕ). is_distinct l ≡ true) (sym s.speaks) refl)
            (λ j u ne e. k.sound j u e)
            refl refl
            (λ b c. asked_stays limits k.log views (set views number (Resting f)) b asking_stays c)
            (λ h b e m. absurd (cc))
            (λ i few. lane_stays k.log views (set views number (Resting f)) i (posted words i) asking_stays
            (λ j g cs said l e. stays is_turning views number j (Reading f a) (Resting f) (Turning g cs said l) at refl refl e)
            (k.lanes i few)),
        number_of_board words (value_of_phase value f.seen a.phase) (sym s.has),
      )

  -- who has the turn knows what is on the board
  pub board_read : (number : ℕ) (f : Knowledge) (claims : List Ask) (said : Outcome) (lane : Lane) (told : ℕ) (words : List ℕ) (views : List View)
      → Kept value limits allows StandsFor None told words views → get_elem? views number ≡ some (Turning f claims said lane)
      → (set views number (Turning f claims said lane) ≡ views) × KindIs (slice_index words 1) said × NumberIs (slice_index words 0) said
  board_read number f claims said lane told words views k at =
      let s = k.sound number (Turning f claims said lane) at in
      (set_again views number (Turning f claims said lane) at, kind_of words said s.5, number_of_board words said s.5)

-- ---- the board is written, where the turn completes a phase: nobody has still to read it

module _ {T : Type 0} (value : List ℤ → Outcome) (limits : Limits) (allows : Allows) (StandsFor : T → History → Type 0)
    (number : ℕ) (f : Knowledge) (claims : List Ask) (said : Outcome) (lane : Lane) (later : History)
    (batch : Batch (IsOneOf claims) f.speaks later f.seen) (legal : IsLegal limits (later ++ f.seen)) (completes : done_of f.seen < done_of (later ++ f.seen))
    (told : ℕ) (words : List ℕ) (views : List View) (long : length words ≡ 287)
    (k : Kept value limits allows StandsFor None told words views) (at : get_elem? views number ≡ some (Turning f claims said lane)) where
  log_is : f.seen ≡ k.log
  log_is = (k.sound number (Turning f claims said lane) at).0

  some_log : f.seen ≡ [] → ⊥
  some_log none =
      let s = k.sound number (Turning f claims said lane) at in
      let one = s.4 in
      used_some k.log one.0 (k.owns number (Turning f claims said lane) one.0 at one.1).1 (sym s.0 ∙ none)

  -- a task that stands behind a complete phase, and has no events in the turn, holds the next one open
  holds_open : (task phase : ℕ) → phase < done_of f.seen → events_of task later ≡ [] → IsAtPhases f.seen task (phase + 1) (phase + 1) → ⊥
  holds_open task phase below none st =
      let most = done_within (later ++ f.seen) task (phase + 1) (phase + 1)
      (stands_still limits claims f.speaks f.seen some_log task (phase + 1) (phase + 1) later legal none st) in
      let more = completes in absurd (omega arith)

  theirs : (j : ℕ) (u : View) (task : ℕ) → j ≢ number → get_elem? views j ≡ some u → is_in task (speaks_of u) ≡ true → is_in task f.speaks ≡ false
  theirs j u task ne e has = false_from_ne_true (is_in task f.speaks)
      (λ mine. ne (sym (k.owns j u task e has).0 ∙ (k.owns number (Turning f claims said lane) task at mine).0))

  -- the seat that speaks for the task of an ask that was read is the one that asked
  seat_is : (j : ℕ) (u : View) (task : ℕ) → get_elem? views j ≡ some u → is_in task (speaks_of u) ≡ true → (a : Ask) → IsOneOf claims a → a.task ≡ task
      → (g : Knowledge) × (u ≡ Asking g a) × (IsUnmade a g.seen k.log ⊎ IsMade limits a g.seen k.log)
  seat_is j u task e has a one same =
      let c = k.claimed number f claims said lane at a one in
      let s : AskStands value limits allows k.log told words c.knows a = k.sound c.seat (Asking c.knows a) c.at in
      let its = (k.owns c.seat (Asking c.knows a) a.task c.at (this_is_in a.task c.knows.speaks s.speaks)).0 in
      let here : c.seat ≡ j = sym its ∙ ap k.owner same ∙ (k.owns j u task e has).0 in
      (c.knows, same_view views j c.seat u (Asking c.knows a) e c.at (sym here), c.waits_on)

  none_answered : (j : ℕ) (g : Knowledge) (a : Ask) → j ≢ number → get_elem? views j ≡ some (Asking g a) → IsAnsweredAsk limits a g.seen k.log → ⊥
  none_answered j g a ne e n =
      let s : AskStands value limits allows k.log told words g a = k.sound j (Asking g a) e in
      let mine : is_in a.task g.speaks ≡ true = this_is_in a.task g.speaks s.speaks in
      elim (asks_for claims a.task) as (λ b. (asks_for claims a.task ≡ b) → ⊥) [
        | true ↦ λ t.
            let r = found claims a.task t in
            let q = seat_is j (Asking g a) a.task e mine r.0 r.1 r.2 in
            let is : r.0 ≡ a = sym (ap (λ (u : View). ask_in r.0 u) q.1) ∙ refl in
            waits_on_not q.0 r.0 is q.2
        | false ↦ λ t.
            holds_open a.task a.phase (subst (λ (h : History). a.phase < done_of h) (sym log_is) n.below)
            (none_of limits claims f.speaks f.seen some_log a.task (theirs j (Asking g a) a.task ne e mine) t later batch)
            (subst (λ (h : History). IsAtPhases h a.task (a.phase + 1) (a.phase + 1)) (sym log_is) n.stands)
      ] refl
    where
      waits_on_not : (h : Knowledge) (b : Ask) → b ≡ a → IsUnmade b h.seen k.log ⊎ IsMade limits b h.seen k.log → ⊥
      waits_on_not h b is (inl u) =
          let u' : IsUnmade a h.seen k.log = subst (λ (x : Ask). IsUnmade x h.seen k.log) is u in
          apart_phases a.phase (sym (signal_is k.log a.task (a.phase + 1) (a.phase + 1) n.stands) ∙ signal_is k.log a.task a.phase a.phase u'.stands)
      waits_on_not h b is (inr m) =
          let m' : IsMade limits a h.seen k.log = subst (λ (x : Ask). IsMade limits x h.seen k.log) is m in
          apart_phases a.phase (sym (wait_is k.log a.task (a.phase + 1) (a.phase + 1) n.stands) ∙ wait_is k.log a.task (a.phase + 1) a.phase m'.stands)

  none_reading : (j : ℕ) (g : Knowledge) (a : Ask) → j ≢ number → get_elem? views j ≡ some (Reading g a) → ⊥
  none_reading j g a ne e =
      let s : HasToRead value k.log words g a = k.sound j (Reading g a) e in
      let mine : is_in a.task g.speaks ≡ true = this_is_in a.task g.speaks s.speaks in
      let unread : asks_for claims a.task ≡ false = false_from_ne_true (asks_for claims a.task)
      (λ t. let r = found claims a.task t in let q = seat_is j (Reading g a) a.task e mine r.0 r.1 r.2 in not_asking q.0 r.0 q.1) in
      holds_open a.task a.phase (subst (λ (h : History). a.phase < done_of h) (sym log_is) s.below)
      (none_of limits claims f.speaks f.seen some_log a.task (theirs j (Reading g a) a.task ne e mine) unread later batch)
      (subst (λ (h : History). IsAtPhases h a.task (a.phase + 1) (a.phase + 1)) (sym log_is) s.stands)
    where
      not_asking : (h : Knowledge) (b : Ask) → Reading g a ≡ Asking h b → ⊥
      not_asking h b is = cc

  module _ (place n : ℕ) (low : place < 2) where
    still : (j : ℕ) (u : View) → j ≢ number → get_elem? views j ≡ some u → IsSound {T = T} value limits allows None k.holder k.log told (set words place n) j u
    still j (Resting g) ne e = k.sound j (Resting g) e
    still j (Turning g cs sd l) ne e = absurd (no_other value limits allows StandsFor told words views k number f claims said lane at j g cs sd l ne e)
    still j (Joining g h) ne e = k.sound j (Joining g h) e
    still j (Posting g i m) ne e =
        let s = k.sound j (Posting g i m) e in
        let o : Owns words g i = s.2 in
        let same = board_lane words place n i low in
        (s.0, s.1, owns_still words (set words place n) g i o same, send_stay words (set words place n) i m same s.3)
    still j (Asking g a) ne e =
        let s : AskStands value limits allows k.log told words g a = k.sound j (Asking g a) e in
        record {
          speaks = s.speaks;
          low = s.low;
          owned = board_owner words place n a.lane low ∙ s.owned;
          stage = s.stage;
          waits = s.waits;
          may = s.may;
          has = λ m. absurd (none_answered j g a ne e m);
          posts = board_posted words place n a.lane low ∙ s.posts;
          sends = λ st. ap (λ (m : ℕ). sends_of m) (board_sent words place n a.lane low) ∙ s.sends st;
        }
    still j (Reading g a) ne e = absurd (none_reading j g a ne e)
    still j Spent ne e = tt

    lane_same : (l : Lane) → LaneIs words f l → LaneIs (set words place n) f l
    lane_same l has = lane_stay words (set words place n) f l (λ i task few speaks owned. board_lane words place n i low)
        (λ i few none. board_owner words place n i low ∙ none) has

    written : Kept value limits allows StandsFor None told (set words place n) (set views number (Turning f claims (board (set words place n)) lane))
    written =
        let s = k.sound number (Turning f claims said lane) at in
        let new : Outcome = board (set words place n) in
        let kept_claims : (a : Ask) → IsOneOf claims a → StandsAsked limits k.log views a = λ a one. k.claimed number f claims said lane at a one in
        holds value limits allows StandsFor told words views k number f claims said lane at (set words place n) claims (board (set words place n)) lane
        refl (lane_same lane s.6) still (λ a one. one) kept_claims
        (λ i few. subst (λ (m : ℕ). IsLane k.log (set views number (Turning f claims (board (set words place n)) lane)) i m) (sym (board_posted words place n i low))
        (lane_still value limits allows StandsFor told words views k number f claims said lane at (set words place n) claims (board (set words place n)) lane
        refl (lane_same lane s.6) still (λ a one. one) kept_claims (λ m n' e. e) i (posted words i) (k.lanes i few)))

  pub writes_number : (n : ℕ)
      → Kept value limits allows StandsFor None told (set words 0 n) (set views number (Turning f claims (board (set words 0 n)) lane))
      × (board (set words 0 n) ≡ with_number n said)
  writes_number n =
      let s = k.sound number (Turning f claims said lane) at in
      (written 0 n (omega arith), board_number words n long ∙ ap (λ (o : Outcome). with_number n o) (sym s.5))

  pub writes_kind : (n : ℕ)
      → Kept value limits allows StandsFor None told (set words 1 n) (set views number (Turning f claims (board (set words 1 n)) lane))
      × KindIs n (board (set words 1 n))
  writes_kind n = (written 1 n (omega arith), board_kind words n long)
