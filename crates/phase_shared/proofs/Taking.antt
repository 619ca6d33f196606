-- A take that wins: the taker has then read each ask whose signal is made and whose wait is not.
use Rattle.std.proofs.Common.{◌≡◌, ◌≢◌, ℕ, zero, suc, ℤ, ◌+◌, true, false, cond, eqb, List, [], ◌∷◌, ◌⊎◌, Option, Some, None, set, refl, sym, ap, subst, ◌∙◌, inl, inr}
use Rattle.std.proofs.lemmas.Bool.{eq-eqb, eqb-true, and_parts, and_from, false_from_ne_true}
use mathlib.Core.Option.{some, some-injective, some-ne-none}
use lib.ListN.{get_elem?}
use Rattle.atomic_table.proofs.Lists.{at_set, set_here, set_else}
use Rattle.turn_lock.proofs.Keeping.{within, not_both}
use Rattle.phase_shared.specs.Phasers.{Limits, is_distinct, is_in, Outcome, History, signal_phase, wait_phase}
use Rattle.phase_shared.specs.declared.seats.view.Knowledge.{Knowledge}
use Rattle.phase_shared.specs.Views.{Lane, Unknown, Own, Holds, knowledge, speaks_of, claims_of}
use Rattle.phase_shared.specs.Goods.{Allows}
use Rattle.phase_shared.specs.Asks.{Ask, IsAtPhases, Stage, IsMade, IsOneOf}
use Rattle.phase_shared.specs.Lanes.{board, posted, owner_word}
use Rattle.phase_shared.specs.Desks.{View, Resting, Turning, Joining, Posting, Asking, Reading, Spent, IsSound, AskStands, Owns, LaneIs, StandsAsked, AskedAt, HeldAt, IsLane, Kept, is_made, made_asks}
use Rattle.phase_shared.specs.Tells.{Took, TookAsked}
use Rattle.phase_shared.proofs.Small.{none_some, apart_phases, is_in_self}
use Rattle.phase_shared.proofs.Stages.{signal_is, wait_is}
use Rattle.phase_shared.proofs.Places.{is_asking, ask_in, same_view, ne_of, was, own_same}
use Rattle.phase_shared.proofs.LaneWords.{lanes_apart}

-- what is listed was asked, and is made
listed : (log : History) (views : List View) (a : Ask) → IsOneOf (made_asks log views) a
    → (k : ℕ) × (g : Knowledge) × (get_elem? views k ≡ some (Asking g a)) × (is_made log a ≡ true)
listed log [] a one = absurd one
listed log (Resting g ∷ views) a one = let r = listed log views a one in (suc r.0, r.1, r.2, r.3)
listed log (Turning g claims said lane ∷ views) a one = let r = listed log views a one in (suc r.0, r.1, r.2, r.3)
listed log (Joining g h ∷ views) a one = let r = listed log views a one in (suc r.0, r.1, r.2, r.3)
listed log (Posting g i n ∷ views) a one = let r = listed log views a one in (suc r.0, r.1, r.2, r.3)
listed log (Reading g b ∷ views) a one = let r = listed log views a one in (suc r.0, r.1, r.2, r.3)
listed log (Spent ∷ views) a one = let r = listed log views a one in (suc r.0, r.1, r.2, r.3)
listed log (Asking g b ∷ views) a one =
    elim (is_made log b) as (λ c. (is_made log b ≡ c) → IsOneOf (cond c (b ∷ made_asks log views) (made_asks log views)) a
    → (k : ℕ) × (h : Knowledge) × (get_elem? (Asking g b ∷ views) k ≡ some (Asking h a)) × (is_made log a ≡ true)) [
      | true ↦ λ t o. elim o [
        | inl same ↦ (0, g, ap (λ (x : Ask). some (Asking g x)) same, ap (λ (x : Ask). is_made log x) (sym same) ∙ t)
        | inr rest ↦ let r = listed log views a rest in (suc r.0, r.1, r.2, r.3)
      ]
      | false ↦ λ t o. let r = listed log views a o in (suc r.0, r.1, r.2, r.3)
    ]
    refl one

-- who asked, and is made, is listed
lists : (log : History) (views : List View) (k : ℕ) (g : Knowledge) (a : Ask) → get_elem? views k ≡ some (Asking g a) → is_made log a ≡ true
    → IsOneOf (made_asks log views) a
lists log [] k g a e m = absurd (some-ne-none (Asking g a) (sym e))
lists log (Resting h ∷ views) zero g a e m = absurd (let no : Resting h ≡ Asking g a = some-injective (Resting h) (Asking g a) e in cc)
lists log (Resting h ∷ views) (suc k) g a e m = lists log views k g a e m
lists log (Turning h cs said lane ∷ views) zero g a e m = absurd (let no : Turning h cs said lane ≡ Asking g a = some-injective (Turning h cs said lane) (Asking g a) e in cc)
lists log (Turning h cs said lane ∷ views) (suc k) g a e m = lists log views k g a e m
lists log (Joining h i ∷ views) zero g a e m = absurd (let no : Joining h i ≡ Asking g a = some-injective (Joining h i) (Asking g a) e in cc)
lists log (Joining h i ∷ views) (suc k) g a e m = lists log views k g a e m
lists log (Posting h i n ∷ views) zero g a e m = absurd (let no : Posting h i n ≡ Asking g a = some-injective (Posting h i n) (Asking g a) e in cc)
lists log (Posting h i n ∷ views) (suc k) g a e m = lists log views k g a e m
lists log (Reading h b ∷ views) zero g a e m = absurd (let no : Reading h b ≡ Asking g a = some-injective (Reading h b) (Asking g a) e in cc)
lists log (Reading h b ∷ views) (suc k) g a e m = lists log views k g a e m
lists log (Spent ∷ views) zero g a e m = absurd (let no : Spent ≡ Asking g a = some-injective Spent (Asking g a) e in cc)
lists log (Spent ∷ views) (suc k) g a e m = lists log views k g a e m
lists log (Asking h b ∷ views) zero g a e m =
    let same : b ≡ a = ap (λ v. ask_in a v) (some-injective (Asking h b) (Asking g a) e) in
    rw (ap (λ (x : Ask). is_made log x) same ∙ m) (inl same)
lists log (Asking h b ∷ views) (suc k) g a e m =
    elim (is_made log b) as (λ c. IsOneOf (cond c (b ∷ made_asks log views) (made_asks log views)) a) [
      | true ↦ inr (lists log views k g a e m)
      | false ↦ lists log views k g a e m
    ]

-- where the task stands tells the stage
stands_made : (limits : Limits) (a : Ask) (seen log : History) → IsMade limits a seen log → is_made log a ≡ true
stands_made limits a seen log m = and_from (eqb (signal_phase log a.task) (a.phase + 1)) (eqb (wait_phase log a.task) a.phase)
    (eq-eqb (signal_phase log a.task) (a.phase + 1) (signal_is log a.task (a.phase + 1) a.phase m.stands))
    (eq-eqb (wait_phase log a.task) a.phase (wait_is log a.task (a.phase + 1) a.phase m.stands))

made_stands : (limits : Limits) (a : Ask) (seen log : History) → is_made log a ≡ true → Stage limits a seen log → IsMade limits a seen log
made_stands limits a seen log t stage =
    let p = and_parts (eqb (signal_phase log a.task) (a.phase + 1)) (eqb (wait_phase log a.task) a.phase) t in
    let s : signal_phase log a.task ≡ a.phase + 1 = eqb-true (signal_phase log a.task) (a.phase + 1) p.0 in
    let w : wait_phase log a.task ≡ a.phase = eqb-true (wait_phase log a.task) a.phase p.1 in
    elim stage [
      | inl u ↦ absurd (apart_phases a.phase (sym s ∙ signal_is log a.task a.phase a.phase u.stands))
      | inr (inl m) ↦ m
      | inr (inr n) ↦ absurd (apart_phases a.phase (sym (wait_is log a.task (a.phase + 1) (a.phase + 1) n.stands) ∙ w))
    ]

-- a take of any seat that has no turn: what it has read is what the others' views list
module _ {T : Type 0} (value : List ℤ → Outcome) (limits : Limits) (allows : Allows) (StandsFor : T → History → Type 0)
    (number : ℕ) (v : View) (x : T) (told : ℕ) (words : List ℕ) (views : List View)
    (k : Kept value limits allows StandsFor (Some x) told words views) (at : get_elem? views number ≡ some v)
    (speaks : List ℕ) (speaks_is : speaks_of v ≡ speaks) (distinct : is_distinct speaks ≡ true) (one : (task : ℕ) × (is_in task speaks ≡ true))
    (lane : Lane) (lane_is : LaneIs words (knowledge k.log speaks) lane)
    (held : (g : Knowledge) (a : Ask) → v ≡ Asking g a → (n : ℕ) × (lane ≡ Holds a.lane n)) where
  abbrev claims : List Ask
  claims = made_asks k.log (set views number Spent)

  abbrev taken : View
  taken = Turning (knowledge k.log speaks) (made_asks k.log (set views number Spent)) (board words) lane

  -- nobody had the turn
  no_turn : (j : ℕ) (g : Knowledge) (cs : List Ask) (said : Outcome) (l : Lane) → get_elem? views j ≡ some (Turning g cs said l) → ⊥
  no_turn j g cs said l e = let s = k.sound j (Turning g cs said l) e in none_some x s.3

  -- who asks, beside the taker
  asking_was : (j : ℕ) (g : Knowledge) (a : Ask) → get_elem? (set views number taken) j ≡ some (Asking g a)
      → (j ≢ number) × (get_elem? views j ≡ some (Asking g a))
  asking_was j g a e = was is_asking views number j taken (Asking g a) refl refl e

  out_now : (j : ℕ) (u : View) → get_elem? views j ≡ some u → IsSound value limits allows (Some x) k.holder k.log told words j u
      → IsSound {T = T} value limits allows None number k.log told words j u
  out_now j (Resting g) e s = s
  out_now j (Turning g cs said l) e s = absurd (no_turn j g cs said l e)
  out_now j (Joining g h) e s = s
  out_now j (Posting g i n) e s = s
  out_now j (Asking g a) e s = s
  out_now j (Reading g a) e s = s
  out_now j Spent e s = tt

  -- what was read stands asked
  read_stands : (a : Ask) → IsOneOf (made_asks k.log (set views number Spent)) a → StandsAsked limits k.log (set views number taken) a
  read_stands a one' =
      let r = listed k.log (set views number Spent) a one' in
      let q = was is_asking views number r.0 Spent (Asking r.1 a) refl refl r.2 in
      let s : AskStands value limits allows k.log told words r.1 a = k.sound r.0 (Asking r.1 a) q.1 in
      record {
        seat = r.0;
        knows = r.1;
        at = set_else views number r.0 taken q.0 ∙ q.1;
        waits_on = inr (made_stands limits a r.1.seen k.log r.3 s.stage);
      }

  -- and it is another's, and made
  read_is : (a : Ask) → IsOneOf (made_asks k.log (set views number Spent)) a → IsAtPhases k.log a.task (a.phase + 1) a.phase × (is_in a.task speaks ≡ false)
  read_is a one' =
      let r = listed k.log (set views number Spent) a one' in
      let q = was is_asking views number r.0 Spent (Asking r.1 a) refl refl r.2 in
      let s : AskStands value limits allows k.log told words r.1 a = k.sound r.0 (Asking r.1 a) q.1 in
      let own : is_in a.task r.1.speaks ≡ true = subst (λ (l : List ℕ). is_in a.task l ≡ true) (sym s.speaks) (is_in_self a.task []) in (
        (made_stands limits a r.1.seen k.log r.3 s.stage).stands,
        false_from_ne_true (is_in a.task speaks) (λ yes'.
            let mine = k.owns number v a.task at (subst (λ (l : List ℕ). is_in a.task l ≡ true) (sym speaks_is) yes') in
            q.0 (sym (k.owns r.0 (Asking r.1 a) a.task q.1 own).0 ∙ mine.0)),
      )

  -- in a lane that is no task's of the taker
  read_apart : (a : Ask) → IsOneOf (made_asks k.log (set views number Spent)) a → (i task : ℕ) → owner_word words i ≡ task + 1
      → is_in task speaks ≡ true → a.lane ≢ i
  read_apart a one' i task owned mine same =
      let r = listed k.log (set views number Spent) a one' in
      let q = was is_asking views number r.0 Spent (Asking r.1 a) refl refl r.2 in
      let s : AskStands value limits allows k.log told words r.1 a = k.sound r.0 (Asking r.1 a) q.1 in
      lanes_apart words i a.lane task a.task owned s.owned
      (λ is. not_both (is_in a.task speaks) (subst (λ (t : ℕ). is_in t speaks ≡ true) (sym is) mine) (read_is a one').1) same

  made_read : (i : ℕ) (h : Knowledge) (a : Ask) → get_elem? (set views number taken) i ≡ some (Asking h a) → IsMade limits a h.seen k.log
      → IsOneOf (made_asks k.log (set views number Spent)) a
  made_read i h a e m =
      let q = asking_was i h a e in
      lists k.log (set views number Spent) i h a (set_else views number i Spent q.0 ∙ q.1) (stands_made limits a h.seen k.log m)

  here : get_elem? (set views number taken) number ≡ some taken
  here = set_here views number taken (within views number v at)

  -- the lane of a seat that asked is then that of the holder
  lane_asked : (i : ℕ) → AskedAt views i → AskedAt (set views number taken) i ⊎ HeldAt (set views number taken) i
  lane_asked i q = elim (eqb q.seat number) as (λ b. (eqb q.seat number ≡ b) → AskedAt (set views number taken) i ⊎ HeldAt (set views number taken) i) [
    | true ↦ λ t.
        let h = held q.knows q.ask (sym (same_view views q.seat number (Asking q.knows q.ask) v q.at at (eqb-true q.seat number t))) in
        inr record {
          seat = number;
          knows = knowledge k.log speaks;
          claims = made_asks k.log (set views number Spent);
          said = board words;
          n = h.0;
          at = here ∙ ap (λ (l : Lane). some (Turning (knowledge k.log speaks) (made_asks k.log (set views number Spent)) (board words) l))
              (h.1 ∙ ap (λ (m : ℕ). Holds m h.0) q.is);
        }
    | false ↦ λ f. inl record {
      seat = q.seat;
      knows = q.knows;
      ask = q.ask;
      at = set_else views number q.seat taken (ne_of q.seat number f) ∙ q.at;
      is = q.is;
    }
  ] refl

  lane_now : (i n : ℕ) → IsLane k.log views i n → IsLane k.log (set views number taken) i n
  lane_now i n (inl z) = inl z
  lane_now i n (inr (inl q)) =
      inr (elim (lane_asked i q) [ inl q' ↦ inl q' | inr h ↦ inr (inr h) ])
  lane_now i n (inr (inr (inl p))) = inr (inr (inl p))
  lane_now i n (inr (inr (inr h))) = inr (absurd (no_turn h.seat h.knows h.claims h.said (Holds i h.n) h.at))

  took : Kept value limits allows StandsFor None told words (set views number taken)
  took = record {
    log = k.log;
    good = k.good;
    stands = λ y e. absurd (none_some y (sym e));
    within = k.within;
    holder = number;
    out = λ e. (knowledge k.log speaks, made_asks k.log (set views number Spent), board words, lane, here);
    sound = λ j u e. elim (at_set views number j taken u e) [
      | inl p ↦ subst (λ (z : View). IsSound {T = T} value limits allows None number k.log told words j z) p.1
          (refl, distinct, p.0, refl, one, refl, lane_is)
      | inr p ↦ out_now j u p.1 (k.sound j u p.1)
    ];
    owner = k.owner;
    owns = λ j u task e has. elim (at_set views number j taken u e) [
      | inl p ↦ let mine : is_in task speaks ≡ true = subst (λ (z : View). is_in task (speaks_of z) ≡ true) (sym p.1) has in
          let o = k.owns number v task at (subst (λ (l : List ℕ). is_in task l ≡ true) (sym speaks_is) mine) in (o.0 ∙ sym p.0, o.1)
      | inr p ↦ k.owns j u task p.1 has
    ];
    claimed = λ j g cs said l e a one'. elim (at_set views number j taken (Turning g cs said l) e) [
      | inl p ↦ read_stands a (subst (λ (z : List Ask). IsOneOf z a) (sym (ap claims_of p.1)) one')
      | inr p ↦ absurd (no_turn j g cs said l p.1)
    ];
    all = λ j g cs said l e i h a e' m. elim (at_set views number j taken (Turning g cs said l) e) [
      | inl p ↦ subst (λ (z : List Ask). IsOneOf z a) (ap claims_of p.1) (made_read i h a e' m)
      | inr p ↦ absurd (no_turn j g cs said l p.1)
    ];
    lanes = λ i low. lane_now i (posted words i) (k.lanes i low);
  }

module _ {T : Type 0} (value : List ℤ → Outcome) (limits : Limits) (allows : Allows) (StandsFor : T → History → Type 0) where
  -- a seat at rest takes
  pub takes : (number : ℕ) (f : Knowledge) (x : T) (told : ℕ) (words : List ℕ) (views : List View)
      → Kept value limits allows StandsFor (Some x) told words views → get_elem? views number ≡ some (Resting f)
      → ((task : ℕ) × (is_in task f.speaks ≡ true))
      → (w : View) × Kept value limits allows StandsFor None told words (set views number w) × Took limits allows StandsFor (Resting f) x w
  takes number f x told words views k at one =
      let s = k.sound number (Resting f) at in
      let claims : List Ask = made_asks k.log (set views number Spent) in (
        Turning (knowledge k.log f.speaks) claims (board words) Unknown,
        took value limits allows StandsFor number (Resting f) x told words views k at f.speaks refl s.1 one Unknown tt
            (λ g a e. absurd (cc)),
        record {
          now = k.log;
          claims = claims;
          said = board words;
          others = s.0;
          good = k.good;
          stands = k.stands x refl;
          read = read_is value limits allows StandsFor number (Resting f) x told words views k at f.speaks refl s.1 one Unknown tt (λ g a e. absurd (cc));
          apart = λ a one' i none. absurd (let no : Unknown ≡ Own i = none in cc);
          is = refl;
        },
      )

  -- a seat at rest takes that has a lane
  pub takes_own : (number : ℕ) (f : Knowledge) (i : ℕ) (n : Option ℕ) (x : T) (told : ℕ) (words : List ℕ) (views : List View)
      → Kept value limits allows StandsFor (Some x) told words views → get_elem? views number ≡ some (Posting f i n)
      → (w : View) × Kept value limits allows StandsFor None told words (set views number w) × Took limits allows StandsFor (Posting f i n) x w
  takes_own number f i n x told words views k at =
      let s = k.sound number (Posting f i n) at in
      let o : Owns words f i = s.2 in
      let one : (task : ℕ) × (is_in task f.speaks ≡ true) = (o.task, subst (λ (l : List ℕ). is_in o.task l ≡ true) (sym o.speaks) (is_in_self o.task [])) in
      let mine : Owns words (knowledge k.log f.speaks) i = record { task = o.task; speaks = o.speaks; low = o.low; owned = o.owned } in
      let claims : List Ask = made_asks k.log (set views number Spent) in (
        Turning (knowledge k.log f.speaks) claims (board words) (Own i),
        took value limits allows StandsFor number (Posting f i n) x told words views k at f.speaks refl s.1 one (Own i) mine
            (λ g a e. absurd (cc)),
        record {
          now = k.log;
          claims = claims;
          said = board words;
          others = s.0;
          good = k.good;
          stands = k.stands x refl;
          read = read_is value limits allows StandsFor number (Posting f i n) x told words views k at f.speaks refl s.1 one (Own i) mine (λ g a e. absurd (cc));
          apart = λ a one' l is. subst (λ (m : ℕ). a.lane ≢ m) (own_same i l is)
              (read_apart value limits allows StandsFor number (Posting f i n) x told words views k at f.speaks refl s.1 one (Own i) mine (λ g b e. absurd (cc))
              a one' i o.task o.owned one.1);
          is = refl;
        },
      )

  -- a seat that asked takes
  pub takes_asked : (number : ℕ) (f : Knowledge) (a : Ask) (x : T) (told : ℕ) (words : List ℕ) (views : List View)
      → Kept value limits allows StandsFor (Some x) told words views → get_elem? views number ≡ some (Asking f a)
      → (w : View) × Kept value limits allows StandsFor None told words (set views number w) × TookAsked value limits allows StandsFor f a x w
  takes_asked number f a x told words views k at =
      let s : AskStands value limits allows k.log told words f a = k.sound number (Asking f a) at in
      let claims : List Ask = made_asks k.log (set views number Spent) in (
        Turning (knowledge k.log (a.task ∷ [])) claims (board words) (Holds a.lane (a.phase + 1)),
        took value limits allows StandsFor number (Asking f a) x told words views k at (a.task ∷ []) s.speaks refl (a.task, is_in_self a.task [])
            (Holds a.lane (a.phase + 1)) (record { task = a.task; speaks = refl; low = s.low; owned = s.owned }, s.posts)
            (λ g b e. (a.phase + 1, ap (λ (v : View). Holds (ask_in a v).lane (a.phase + 1)) e)),
        record {
          now = k.log;
          claims = claims;
          said = board words;
          stage = s.stage;
          has = s.has;
          good = k.good;
          stands = k.stands x refl;
          read = read_is value limits allows StandsFor number (Asking f a) x told words views k at (a.task ∷ []) s.speaks refl (a.task, is_in_self a.task [])
              (Holds a.lane (a.phase + 1)) (record { task = a.task; speaks = refl; low = s.low; owned = s.owned }, s.posts)
              (λ g b e. (a.phase + 1, ap (λ (v : View). Holds (ask_in a v).lane (a.phase + 1)) e));
          apart = λ b one'. read_apart value limits allows StandsFor number (Asking f a) x told words views k at (a.task ∷ []) s.speaks refl (a.task, is_in_self a.task [])
              (Holds a.lane (a.phase + 1)) (record { task = a.task; speaks = refl; low = s.low; owned = s.owned }, s.posts)
              (λ g b e. (a.phase + 1, ap (λ (v : View). Holds (ask_in a v).lane (a.phase + 1)) e))
              b one' a.lane a.task s.owned (is_in_self a.task []);
          is = refl;
        },
      )
