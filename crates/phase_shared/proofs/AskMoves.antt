-- A step of one seat, at which one word may change: what it has to show that the rule stays.
use Rattle.std.proofs.Common.{◌≡◌, ◌≢◌, ℕ, ℤ, ◌+◌, ◌<◌, true, false, eqb, List, [], ◌∷◌, Option, Some, None, set, refl, sym, ap, subst, ◌∙◌, inl, inr}
use Rattle.std.proofs.lemmas.Bool.{eqb-true, false_from_ne_true}
use mathlib.Core.Option.{some}
use lib.ListN.{get_elem?}
use Rattle.atomic_table.proofs.Lists.{at_set, set_here}
use Rattle.turn_lock.proofs.Keeping.{within, not_both}
use Rattle.phase_shared.specs.Phasers.{Limits, is_in, Outcome, History, IsUsed}
use Rattle.phase_shared.specs.declared.seats.view.Knowledge.{Knowledge}
use Rattle.phase_shared.specs.Goods.{Allows}
use Rattle.phase_shared.specs.Views.{Lane, Unknown, Free, Own, Holds, speaks_of, claims_of, lane_of, is_turning}
use Rattle.phase_shared.specs.Asks.{Ask, IsMade, IsOneOf}
use Rattle.phase_shared.specs.Lanes.{lanes_most, board, posted, owner_word, sends_of}
use Rattle.phase_shared.specs.Desks.{View, Resting, Turning, Joining, Posting, Asking, Reading, Spent, IsSound, AskStands, HasToRead, Owns, LaneIs, SendIs, StandsAsked, HeldAt, IsLane, Kept}
use Rattle.phase_shared.proofs.Small.{none_some, is_in_self}
use Rattle.phase_shared.proofs.Places.{is_asking, same_view, was, stays, asked_stays, ne_of}
use Rattle.phase_shared.proofs.LaneWords.{SameLane, SameElse, SameBut, lane_else, lane_but, lanes_apart}

-- the one task of a list that a task is not in is another
pub not_this : (task t : ℕ) (speaks : List ℕ) → speaks ≡ task ∷ [] → is_in t speaks ≡ false → task ≢ t
not_this task t speaks is out same =
    not_both (is_in t speaks) (subst (λ (l : List ℕ). is_in t l ≡ true) (sym is) (subst (λ (n : ℕ). is_in n (task ∷ []) ≡ true) same (is_in_self task []))) out

-- and it is in it
pub this_is_in : (task : ℕ) (speaks : List ℕ) → speaks ≡ task ∷ [] → is_in task speaks ≡ true
this_is_in task speaks is = subst (λ (l : List ℕ). is_in task l ≡ true) (sym is) (is_in_self task [])

abbrev head_or : ℕ → List ℕ → ℕ
head_or d [] = d
head_or d (x ∷ xs) = x

pub same_task : (speaks : List ℕ) (s t : ℕ) → speaks ≡ s ∷ [] → speaks ≡ t ∷ [] → s ≡ t
same_task speaks s t e e' = ap (λ (l : List ℕ). head_or s l) (sym e ∙ e')

-- ---- what another seat knows while a word changes

-- the words of a lane that is the task's own are the same
abbrev pub LanesStay : List ℕ → List ℕ → View → Type 0
LanesStay words after u =
    (i task : ℕ) → i < lanes_most → speaks_of u ≡ task ∷ [] → owner_word words i ≡ task + 1 → SameLane words after i

-- a lane that is nobody's is so, for who has the turn
abbrev pub FreeStay : List ℕ → List ℕ → View → Type 0
FreeStay words after u = is_turning u ≡ true → (i : ℕ) → i < lanes_most → owner_word words i ≡ 0 → owner_word after i ≡ 0

pub owns_still : (words after : List ℕ) (f : Knowledge) (i : ℕ) (o : Owns words f i) → SameLane words after i → Owns after f i
owns_still words after f i o same = record { task = o.task; speaks = o.speaks; low = o.low; owned = same.same_owner ∙ o.owned }

pub lane_stay : (words after : List ℕ) (g : Knowledge) (lane : Lane)
    → ((i task : ℕ) → i < lanes_most → g.speaks ≡ task ∷ [] → owner_word words i ≡ task + 1 → SameLane words after i)
    → ((i : ℕ) → i < lanes_most → owner_word words i ≡ 0 → owner_word after i ≡ 0) → LaneIs words g lane → LaneIs after g lane
lane_stay words after g Unknown lanes free l = tt
lane_stay words after g (Free i) lanes free l = (l.0, free i l.0 l.1)
lane_stay words after g (Own i) lanes free l =
    let o : Owns words g i = l in owns_still words after g i o (lanes i o.task o.low o.speaks o.owned)
lane_stay words after g (Holds i n) lanes free l =
    let o : Owns words g i = l.0 in
    let same = lanes i o.task o.low o.speaks o.owned in
    (owns_still words after g i o same, same.same_posted ∙ l.1)

pub send_stay : (words after : List ℕ) (i : ℕ) (n : Option ℕ) → SameLane words after i → SendIs words i n → SendIs after i n
send_stay words after i None same s = tt
send_stay words after i (Some n) same s = same.same_sent ∙ s

pub words_stay : {T : Type 0} (value : List ℤ → Outcome) (limits : Limits) (allows : Allows) (home : Option T) (holder : ℕ) (log : History) (told : ℕ)
    (words after : List ℕ) → board after ≡ board words → (j : ℕ) (u : View) → LanesStay words after u → FreeStay words after u
    → IsSound value limits allows home holder log told words j u → IsSound value limits allows home holder log told after j u
words_stay value limits allows home holder log told words after same j (Resting g) lanes free s = s
words_stay value limits allows home holder log told words after same j (Turning g cs said lane) lanes free s =
    (s.0, s.1, s.2, s.3, s.4, s.5 ∙ sym same, lane_stay words after g lane lanes (free refl) s.6)
words_stay value limits allows home holder log told words after same j (Joining g h) lanes free s = s
words_stay value limits allows home holder log told words after same j (Posting g i n) lanes free s =
    let o : Owns words g i = s.2 in
    let l = lanes i o.task o.low o.speaks o.owned in
    (s.0, s.1, owns_still words after g i o l, send_stay words after i n l s.3)
words_stay value limits allows home holder log told words after same j (Asking g a) lanes free s =
    let q : AskStands value limits allows log told words g a = s in
    let l = lanes a.lane a.task q.low q.speaks q.owned in
    record {
      speaks = q.speaks;
      low = q.low;
      owned = l.same_owner ∙ q.owned;
      stage = q.stage;
      waits = q.waits;
      may = q.may;
      has = λ n. same ∙ q.has n;
      posts = l.same_posted ∙ q.posts;
      sends = λ st. ap (λ (n : ℕ). sends_of n) l.same_sent ∙ q.sends st;
    }
words_stay value limits allows home holder log told words after same j (Reading g a) lanes free s =
    let q : HasToRead value log words g a = s in
    record { speaks = q.speaks; fits = q.fits; stands = q.stands; below = q.below; has = same ∙ q.has }
words_stay value limits allows home holder log told words after same j Spent lanes free s = tt

module _ {T : Type 0} (value : List ℤ → Outcome) (limits : Limits) (allows : Allows) (StandsFor : T → History → Type 0)
    (home : Option T) (told : ℕ) (words : List ℕ) (views : List View) (k : Kept value limits allows StandsFor home told words views)
    (number : ℕ) (v : View) (at : get_elem? views number ≡ some v) where
  -- no other seat speaks for what this one speaks for
  pub apart : (t : ℕ) → is_in t (speaks_of v) ≡ true → (j : ℕ) (u : View) → j ≢ number → get_elem? views j ≡ some u → is_in t (speaks_of u) ≡ false
  apart t mine j u ne e = false_from_ne_true (is_in t (speaks_of u)) (λ theirs. ne (sym (k.owns j u t e theirs).0 ∙ (k.owns number v t at mine).0))

  -- a lane of another seat is another one than a lane of this one
  apart_lane : (t i : ℕ) → is_in t (speaks_of v) ≡ true → owner_word words i ≡ t + 1 → (j : ℕ) (u : View) → j ≢ number → get_elem? views j ≡ some u
      → (l task : ℕ) → speaks_of u ≡ task ∷ [] → owner_word words l ≡ task + 1 → l ≢ i
  apart_lane t i mine owned j u ne e l task speaks theirs =
      lanes_apart words i l t task owned theirs (not_this task t (speaks_of u) speaks (apart t mine j u ne e))

  -- so it knows no less where a word of this seat's lane changes
  pub else_sound : (t i : ℕ) (after : List ℕ) → is_in t (speaks_of v) ≡ true → owner_word words i ≡ t + 1 → SameElse i words after
      → (j : ℕ) (u : View) → j ≢ number → get_elem? views j ≡ some u
      → IsSound value limits allows home k.holder k.log told after j u
  else_sound t i after mine owned same j u ne e =
      words_stay value limits allows home k.holder k.log told words after same.same_board j u
      (λ l task low speaks theirs. lane_else words after i l same (apart_lane t i mine owned j u ne e l task speaks theirs))
      (λ turns l low none. same.same_owner l ∙ none)
      (k.sound j u e)

  -- nor where it is said that the lane is nobody's
  pub left_sound : (t i : ℕ) (after : List ℕ) → is_in t (speaks_of v) ≡ true → owner_word words i ≡ t + 1 → SameBut i words after → owner_word after i ≡ 0
      → (j : ℕ) (u : View) → j ≢ number → get_elem? views j ≡ some u
      → IsSound value limits allows home k.holder k.log told after j u
  left_sound t i after mine owned same none j u ne e =
      words_stay value limits allows home k.holder k.log told words after same.same_board j u
      (λ l task low speaks theirs. lane_but words after i l same low (apart_lane t i mine owned j u ne e l task speaks theirs))
      (λ turns l low none'. elim (eqb l i) as (λ b. (eqb l i ≡ b) → owner_word after l ≡ 0) [
        | true ↦ λ yes'. ap (λ (m : ℕ). owner_word after m) (eqb-true l i yes') ∙ none
        | false ↦ λ no'. same.same_owner l (ne_of l i no') ∙ none'
      ] refl)
      (k.sound j u e)

  module _ (after : List ℕ) (w : View) (speaks : speaks_of w ≡ speaks_of v)
      (here : IsSound value limits allows home k.holder k.log told after number w)
      (others : (j : ℕ) (u : View) → j ≢ number → get_elem? views j ≡ some u → IsSound value limits allows home k.holder k.log told after j u) where
    sound_set : (j : ℕ) (u : View) → get_elem? (set views number w) j ≡ some u → IsSound value limits allows home k.holder k.log told after j u
    sound_set j u e = elim (at_set views number j w u e) [
      | inl p ↦ subst (λ (z : View). IsSound value limits allows home k.holder k.log told after j z) p.1
          (subst (λ (i : ℕ). IsSound value limits allows home k.holder k.log told after i w) (sym p.0) here)
      | inr p ↦ others j u p.0 p.1
    ]

    owns_set : (j : ℕ) (u : View) (task : ℕ) → get_elem? (set views number w) j ≡ some u → is_in task (speaks_of u) ≡ true → (k.owner task ≡ j) × IsUsed k.log task
    owns_set j u task e has = elim (at_set views number j w u e) [
      | inl p ↦ let mine : is_in task (speaks_of w) ≡ true = subst (λ (z : View). is_in task (speaks_of z) ≡ true) (sym p.1) has in
          let o = k.owns number v task at (subst (λ (l : List ℕ). is_in task l ≡ true) speaks mine) in (o.0 ∙ sym p.0, o.1)
      | inr p ↦ k.owns j u task p.1 has
    ]

    -- a seat that has no turn
    pub moves : is_turning v ≡ false → is_turning w ≡ false
        → ((a : Ask) → StandsAsked limits k.log views a → StandsAsked limits k.log (set views number w) a)
        → ((h : Knowledge) (a : Ask) → w ≡ Asking h a → IsMade limits a h.seen k.log → ⊥)
        → ((i : ℕ) → i < lanes_most → IsLane k.log (set views number w) i (posted after i))
        → Kept value limits allows StandsFor home told after (set views number w)
    moves not_v not_w asked not_made lanes = record {
      log = k.log;
      good = k.good;
      stands = k.stands;
      within = k.within;
      holder = k.holder;
      out = λ e. let o = k.out e in (o.0, o.1, o.2, o.3, stays is_turning views number k.holder v w (Turning o.0 o.1 o.2 o.3) at not_v refl o.4);
      sound = sound_set;
      owner = k.owner;
      owns = owns_set;
      claimed = λ j g cs said l e a one. asked a (k.claimed j g cs said l (was is_turning views number j w (Turning g cs said l) not_w refl e).1 a one);
      all = λ j g cs said l e i h a e' m. elim (at_set views number i w (Asking h a) e') [
        | inl p ↦ absurd (not_made h a p.1 m)
        | inr p ↦ k.all j g cs said l (was is_turning views number j w (Turning g cs said l) not_w refl e).1 i h a p.1 m
      ];
      lanes = lanes;
    }

-- ---- the holder

module _ {T : Type 0} (value : List ℤ → Outcome) (limits : Limits) (allows : Allows) (StandsFor : T → History → Type 0)
    (told : ℕ) (words : List ℕ) (views : List View) (k : Kept value limits allows StandsFor None told words views)
    (number : ℕ) (f : Knowledge) (claims : List Ask) (said : Outcome) (lane : Lane) (at : get_elem? views number ≡ some (Turning f claims said lane)) where
  -- no other seat has the turn
  pub no_other : (j : ℕ) (g : Knowledge) (cs : List Ask) (sd : Outcome) (l : Lane) → j ≢ number → get_elem? views j ≡ some (Turning g cs sd l) → ⊥
  no_other j g cs sd l ne e = let s = k.sound j (Turning g cs sd l) e in let m = k.sound number (Turning f claims said lane) at in ne (s.2 ∙ sym m.2)

  pub no_turning : (j : ℕ) (u : View) → j ≢ number → get_elem? views j ≡ some u → is_turning u ≡ true → ⊥
  no_turning j (Turning g cs sd l) ne e turns = no_other j g cs sd l ne e
  no_turning j (Resting g) ne e turns = absurd (cc)
  no_turning j (Joining g h) ne e turns = absurd (cc)
  no_turning j (Posting g i n) ne e turns = absurd (cc)
  no_turning j (Asking g a) ne e turns = absurd (cc)
  no_turning j (Reading g a) ne e turns = absurd (cc)
  no_turning j Spent ne e turns = absurd (cc)

  -- a lane that is the holder's is what its view says
  pub held_is : (i : ℕ) (h : HeldAt views i) → Turning h.knows h.claims h.said (Holds i h.n) ≡ Turning f claims said lane
  held_is i h =
      let s = k.sound h.seat (Turning h.knows h.claims h.said (Holds i h.n)) h.at in
      let m = k.sound number (Turning f claims said lane) at in
      same_view views h.seat number (Turning h.knows h.claims h.said (Holds i h.n)) (Turning f claims said lane) h.at at (s.2 ∙ sym m.2)

  pub held_lane : (i : ℕ) (h : HeldAt views i) → lane ≡ Holds i h.n
  held_lane i h = sym (ap (λ (u : View). lane_of u) (held_is i h))

  module _ (after : List ℕ) (claims' : List Ask) (said' : Outcome) (lane' : Lane)
      (said_is : said' ≡ board after) (lane_is : LaneIs after f lane')
      (others : (j : ℕ) (u : View) → j ≢ number → get_elem? views j ≡ some u → IsSound {T = T} value limits allows None k.holder k.log told after j u)
      (more : (a : Ask) → IsOneOf claims a → IsOneOf claims' a)
      (each : (a : Ask) → IsOneOf claims' a → StandsAsked limits k.log views a) where
    w : View
    w = Turning f claims' said' lane'

    there : get_elem? (set views number (Turning f claims' said' lane')) number ≡ some (Turning f claims' said' lane')
    there = set_here views number (Turning f claims' said' lane') (within views number (Turning f claims said lane) at)

    asking_stays : (j : ℕ) (g : Knowledge) (a : Ask) → get_elem? views j ≡ some (Asking g a)
        → get_elem? (set views number (Turning f claims' said' lane')) j ≡ some (Asking g a)
    asking_stays j g a e = stays is_asking views number j (Turning f claims said lane) (Turning f claims' said' lane') (Asking g a) at refl refl e

    -- a lane that the holder did not write
    pub lane_still : ((i n : ℕ) → lane ≡ Holds i n → lane' ≡ Holds i n) → (i n : ℕ) → IsLane k.log views i n
        → IsLane k.log (set views number (Turning f claims' said' lane')) i n
    lane_still same i n (inl z) = inl z
    lane_still same i n (inr (inl q)) =
        inr (inl record { seat = q.seat; knows = q.knows; ask = q.ask; at = asking_stays q.seat q.knows q.ask q.at; is = q.is })
    lane_still same i n (inr (inr (inl p))) = inr (inr (inl p))
    lane_still same i n (inr (inr (inr h))) =
        inr (inr (inr record {
          seat = number;
          knows = f;
          claims = claims';
          said = said';
          n = h.n;
          at = there ∙ ap (λ (o : Lane). some (Turning f claims' said' o)) (same i h.n (held_lane i h));
        }))

    pub holds : ((i : ℕ) → i < lanes_most → IsLane k.log (set views number (Turning f claims' said' lane')) i (posted after i))
        → Kept value limits allows StandsFor None told after (set views number (Turning f claims' said' lane'))
    holds lanes =
        let m = k.sound number (Turning f claims said lane) at in
        record {
          log = k.log;
          good = k.good;
          stands = λ y e. absurd (none_some y (sym e));
          within = k.within;
          holder = k.holder;
          out = λ e. (f, claims', said', lane', ap (λ (i : ℕ). get_elem? (set views number (Turning f claims' said' lane')) i) (sym m.2) ∙ there);
          sound = λ j u e. sound_set value limits allows StandsFor None told words views k number (Turning f claims said lane) at after
              (Turning f claims' said' lane') refl (m.0, m.1, m.2, m.3, m.4, said_is, lane_is) others j u e;
          owner = k.owner;
          owns = λ j u task e has. owns_set value limits allows StandsFor None told words views k number (Turning f claims said lane) at after
              (Turning f claims' said' lane') refl (m.0, m.1, m.2, m.3, m.4, said_is, lane_is) others j u task e has;
          claimed = λ j g cs sd l e a one. elim (at_set views number j (Turning f claims' said' lane') (Turning g cs sd l) e) [
            | inl p ↦ asked_stays limits k.log views (set views number (Turning f claims' said' lane')) a asking_stays
                (each a (subst (λ (z : List Ask). IsOneOf z a) (sym (ap claims_of p.1)) one))
            | inr p ↦ absurd (no_other j g cs sd l p.0 p.1)
          ];
          all = λ j g cs sd l e i h a e' q. elim (at_set views number j (Turning f claims' said' lane') (Turning g cs sd l) e) [
            | inl p ↦ subst (λ (z : List Ask). IsOneOf z a) (ap claims_of p.1)
                (more a (k.all number f claims said lane at i h a
                (was is_asking views number i (Turning f claims' said' lane') (Asking h a) refl refl e').1 q))
            | inr p ↦ absurd (no_other j g cs sd l p.0 p.1)
          ];
          lanes = lanes;
        }
