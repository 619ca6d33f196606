-- Each step of the table of a lock with words keeps its rule.
use Rattle.std.proofs.Common.{◌≡◌, ◌≢◌, ℕ, suc, ◌*◌, ◌+◌, ◌/◌, ◌%◌, true, false, Option, Some, None, List, [], ◌∷◌, ◌++◌, map, length, set, slice_index, length-set, sym, refl, ap, ◌∙◌, subst, ⊎_elim, arith}
use Rattle.std.proofs.lemmas.List.{set-get_or}
use Rattle.std.proofs.lemmas.Bool.{false_from_ne_true}
use mathlib.Core.Logic.{dite}
use mathlib.Core.Option.{none, some, some-injective}
use mathlib.Core.List.{map-append}
use native.Mathlib.Decide.{ℕ_discrete}
use lib.ListN.{get_elem?}
use lib.Seq.{map-set}
use Rattle.atomic_table.proofs.Lists.{at_set, at_snoc, at_map, at_longer, set_here, set_else, set_again}
use Rattle.atomic_table.specs.Table.{Me, Step, step, Act, keeps, takes, gives, stepped, carried_after, Valid, Allows, Splits, Joins}
use Rattle.turn_lock.specs.declared.seat.Doing.{Doing}
use Rattle.turn_lock.specs.Word.{doing, client, gave}
use Rattle.turn_lock.specs.WordSteps.{TakesOf, GivesOf, LooksOf, ReadsOf, WritesOf, ReadsIn, WritesIn, JoinLooks, ForksOf, MergesOf, BusyOf}
use Rattle.turn_lock.specs.Words.{telling, IsIdle, IsOneTurn, IsTurnWith, lock_word, slot_of, IsWordLock, saw_word, tried_word, knew, acted}
use Rattle.turn_lock.proofs.Keeping.{within, named, not_both, Hub, hub, swapped, even_is, odd_is, or_even, or_odd, alone, same_item}

-- a step that no fact speaks of
abbrev any_step : {T : Type 0} → Step T
any_step = step 0 0 0 0 none

half_word : {T : Type 0} (home : Option T) (told : ℕ) → lock_word home told / 2 ≡ told
half_word None told = omega arith
half_word (Some x) told = omega arith

module _ {N V : Type 0} where
  -- each seat that has the turn here has it there, and knows the same number
  abbrev Covers : List (Doing N V) → List (Doing N V) → Type 0
  Covers xs ys =
      (j : ℕ) (d : Doing N V) → get_elem? xs j ≡ some d → d.turn ≡ true
      → (e : Doing N V) × (get_elem? ys j ≡ some e) × (e.turn ≡ true) × (e.told ≡ d.told)

  covers_then : (xs ys zs : List (Doing N V)) → Covers xs ys → Covers ys zs → Covers xs zs
  covers_then xs ys zs p q j d at turns =
      let e = p j d at turns in
      let f = q j e.0 e.1 e.2 in
      (f.0, f.1, f.2, f.3 ∙ e.3)

  covers_set : (xs : List (Doing N V)) (id : ℕ) (v w : Doing N V) → get_elem? xs id ≡ some v
      → w.turn ≡ v.turn → (v.turn ≡ true → w.told ≡ v.told) → Covers xs (set xs id w)
  covers_set xs id v w here same knows j d at turns =
      dite (ℕ_discrete j id)
      (λ (e : j ≡ id).
      let is : d ≡ v = some-injective d v (sym at ∙ ap (get_elem? xs) e ∙ here) in
      let had : v.turn ≡ true = ap (λ (z : Doing N V). z.turn) (sym is) ∙ turns in (
        w,
        ap (get_elem? (set xs id w)) e ∙ set_here xs id w (within xs id v here),
        same ∙ had,
        knows had ∙ ap (λ (z : Doing N V). z.told) (sym is),
      ))
      (λ (apart : j ≢ id). (d, set_else xs id j w apart ∙ at, turns, refl))

  covers_unset : (xs : List (Doing N V)) (id : ℕ) (v w : Doing N V) → get_elem? xs id ≡ some v
      → w.turn ≡ v.turn → (v.turn ≡ true → w.told ≡ v.told) → Covers (set xs id w) xs
  covers_unset xs id v w here same knows j d at turns = ⊎_elim
      (λ (p : (j ≡ id) × (w ≡ d)).
      let had : v.turn ≡ true = sym same ∙ ap (λ (z : Doing N V). z.turn) p.1 ∙ turns in (
        v,
        ap (get_elem? xs) p.0 ∙ here,
        had,
        sym (knows had) ∙ ap (λ (z : Doing N V). z.told) p.1,
      ))
      (λ (p : (j ≢ id) × (get_elem? xs j ≡ some d)). (d, p.1, turns, refl))
      (at_set xs id j w d at)

  covers_more : (xs : List (Doing N V)) (w : Doing N V) → Covers xs (xs ++ w ∷ [])
  covers_more xs w j d at turns = (d, at_longer xs (w ∷ []) j d at, turns, refl)

  covers_less : (xs : List (Doing N V)) (w : Doing N V) → w.turn ≡ false → Covers (xs ++ w ∷ []) xs
  covers_less xs w rests j d at turns = ⊎_elim
      (λ (p : get_elem? xs j ≡ some d). (d, p, turns, refl))
      (λ (p : w ≡ d). absurd (not_both d.turn turns (ap (λ (z : Doing N V). z.turn) (sym p) ∙ rests)))
      (at_snoc xs w d j at)

  turn_stays : {T : Type 0} (home : Option T) (told : ℕ) (xs ys : List (Doing N V)) → Covers xs ys
      → Covers ys xs → IsTurnWith home told xs → IsTurnWith home told ys
  turn_stays None told xs ys there back h =
      let e = there h.holder h.view h.there h.turns in
      record {
        holder = h.holder;
        view = e.0;
        there = e.1;
        turns = e.2;
        knows = e.3 ∙ h.knows;
        only = λ j d at turns. let b = back j d at turns in h.only j b.0 b.1 b.2;
      }
  turn_stays (Some x) told xs ys there back idle = λ j d at.
      false_from_ne_true d.turn (λ turns. let b = back j d at turns in not_both b.0.turn b.2 (idle j b.0 b.1))

  turn_set : {T : Type 0} (home : Option T) (told : ℕ) (xs : List (Doing N V)) (id : ℕ) (v w : Doing N V)
      → get_elem? xs id ≡ some v → w.turn ≡ v.turn → (v.turn ≡ true → w.told ≡ v.told)
      → IsTurnWith home told xs → IsTurnWith home told (set xs id w)
  turn_set home told xs id v w here same knows =
      turn_stays home told xs (set xs id w) (covers_set xs id v w here same knows) (covers_unset xs id v w here same knows)

  -- the seat that has the turn knows what the lock tells, and the value is out
  in_turn : {T : Type 0} (home : Option T) (told : ℕ) (views : List (Doing N V)) (id : ℕ) (d : Doing N V)
      → IsTurnWith home told views → d.turn ≡ true → get_elem? views id ≡ some d
      → (home ≡ None) × (told ≡ d.told)
  in_turn None told views id d h turns at =
      let mine : id ≡ h.holder = h.only id d at turns in
      let is : h.view ≡ d = some-injective h.view d (sym h.there ∙ ap (get_elem? views) (sym mine) ∙ at) in
      (refl, sym h.knows ∙ ap (λ (z : Doing N V). z.told) is)
  in_turn (Some x) told views id d idle turns at = absurd (not_both d.turn turns (idle id d at))

module _ {N T V : Type 0} (holds : N → Option T → ℕ → List ℕ → List V → Type 0) (name : N) where
  -- what is known of the table at a step of the seat
  record Found (home : Option T) (told : ℕ) (words : List ℕ) (views : List (Doing N V)) (id : ℕ) (d : Doing N V) : Type 0 where
    long : length words ≡ 287
    turn : IsTurnWith home told views
    kept : holds name home told words (map client views)
    at : get_elem? views id ≡ some d

  abbrev hub_of : Option T → ℕ → List ℕ → List (Doing N V) → Hub N T V
  hub_of home told words views = hub (lock_word home told ∷ words) (slot_of home ∷ []) views

  -- what a step owes at the state s
  abbrev Owes : ℕ → Me T (Doing N V) → ℕ → (ℕ → ℕ) → (ℕ → Me T (Doing N V) → Type 0) → Hub N T V → Type 0
  Owes id me i f then s =
      (w : Doing N V) × (a : Act T) × Valid s.homes me.1 a
      × IsWordLock holds name (stepped s i (f (slice_index s.words i)) id me.1 w a)
      × then (slice_index s.words i) (w, carried_after me.1 a)

  at_hub : (slots id : ℕ) (me : Me T (Doing N V)) (i : ℕ) (f : ℕ → ℕ) (then : ℕ → Me T (Doing N V) → Type 0)
      → ((home : Option T) (told : ℕ) (words : List ℕ) (views : List (Doing N V)) → Found home told words views id me.0
      → Owes id me i f then (hub_of home told words views))
      → Allows (IsWordLock holds name) slots id me i f then
  at_hub slots id me i f then owes s p _ at _ =
      let is_hub : s ≡ hub_of p.home p.told p.words s.views = λ k. hub (p.word k) (p.slot k) s.views in
      subst (Owes id me i f then) (sym is_hub)
      (owes p.home p.told p.words s.views record { long = p.long; turn = p.turn; kept = p.kept; at = at })

  -- the lock's word, the value and the turn stay where they are
  stays : (home : Option T) (told : ℕ) (words : List ℕ) (views : List (Doing N V)) (id : ℕ) (d : Doing N V)
      → Found home told words views id d → (i n : ℕ) (v : V) (after : List ℕ) → length after ≡ 287
      → set (lock_word home told ∷ words) i n ≡ lock_word home told ∷ after
      → holds name home told after (set (map client views) id v)
      → IsWordLock holds name (hub (set (lock_word home told ∷ words) i n) (slot_of home ∷ [])
      (set views id (telling d.name d.turn d.told v)))
  stays home told words views id d found i n v after long word kept = record {
    home = home;
    told = told;
    words = after;
    long = long;
    word = word;
    slot = refl;
    turn = turn_set home told views id d (telling d.name d.turn d.told v) found.at refl (λ _. refl) found.turn;
    kept = subst (holds name home told after) (sym (map-set client views id (telling d.name d.turn d.told v))) kept;
  }

  -- nothing at all changes
  unchanged : (home : Option T) (told : ℕ) (words : List ℕ) (views : List (Doing N V)) (id : ℕ) (d : Doing N V)
      → Found home told words views id d → (n : ℕ) → n ≡ lock_word home told
      → IsWordLock holds name (hub (n ∷ words) (slot_of home ∷ []) (set views id d))
  unchanged home told words views id d found n same =
      stays home told words views id d found 0 n d.client words found.long (ap (λ (k : ℕ). k ∷ words) same)
      (subst (holds name home told words) (sym (set_again (map client views) id d.client (at_map client views id d found.at))) found.kept)

  -- what a step owes that changes the caller's view, and perhaps a word of the rule
  abbrev Notes : ℕ → Doing N V → ℕ → (ℕ → ℕ) → (N → V → ℕ → V → Type 0)
      → Option T → ℕ → List ℕ → List (Doing N V) → Type 0
  Notes id d i f then home told words views =
      (v : V) × (after : List ℕ) × (length after ≡ 287)
      × (set (lock_word home told ∷ words) i (f (slice_index (lock_word home told ∷ words) i)) ≡ lock_word home told ∷ after)
      × holds name home told after (set (map client views) id v)
      × then name d.client (slice_index (lock_word home told ∷ words) i) v

  notes : (slots id : ℕ) (me : Me T (Doing N V)) (i : ℕ) (f : ℕ → ℕ) (then : N → V → ℕ → V → Type 0)
      → me.0.name ≡ Some name
      → ((home : Option T) (told : ℕ) (words : List ℕ) (views : List (Doing N V)) → Found home told words views id me.0
      → Notes id me.0 i f then home told words views)
      → Allows (IsWordLock holds name) slots id me i f (acted then any_step me)
  notes slots id me i f then is asked =
      at_hub slots id me i f (acted then any_step me) (λ home told words views found.
      let d : Doing N V = me.0 in
      let r : ℕ = slice_index (lock_word home told ∷ words) i in
      let t = asked home told words views found in (
        telling d.name d.turn d.told t.0,
        keeps,
        tt,
        stays home told words views id d found i (f r) t.0 t.1 t.2 t.3 t.4,
        (refl, refl, refl, refl, λ n e. subst (λ (k : N). then k d.client r t.0) (named name n d.name is e) t.5),
      ))

  pub looks : (slots id : ℕ) (me : Me T (Doing N V)) (then : N → V → ℕ → V → Type 0)
      → me.0.name ≡ Some name → LooksOf holds name id me.0.client (then name)
      → Allows (IsWordLock holds name) slots id me 0 (λ n. n) (acted (λ n v r w. then n v (r / 2) w) any_step me)
  looks slots id me then is asked =
      notes slots id me 0 (λ n. n) (λ n v r w. then n v (r / 2) w) is (λ home told words views found.
      let t = asked home told words (map client views) found.long found.kept (at_map client views id me.0 found.at) in
      (t.0, words, found.long, refl, t.1, subst (λ (k : ℕ). then name me.0.client k t.0) (sym (half_word home told)) t.2))

  sights : (slots id : ℕ) (me : Me T (Doing N V)) (then : N → V → V → Type 0)
      → me.0.name ≡ Some name → JoinLooks holds name id me.0.client (then name)
      → Allows (IsWordLock holds name) slots id me 0 (λ n. n) (acted (λ n v r w. then n v w) any_step me)
  sights slots id me then is asked =
      notes slots id me 0 (λ n. n) (λ n v r w. then n v w) is (λ home told words views found.
      let t = asked home told words (map client views) found.long found.kept (at_map client views id me.0 found.at) in
      (t.0, words, found.long, refl, t.1, t.2))

  -- the look after a join, where the seat is what the join made of it
  pub joined_looks : (slots id number : ℕ) (me : Me T (Doing N V)) (d : Doing N V) (held : List (ℕ × T)) (then : N → V → V → Type 0)
      → id ≡ number → me ≡ (d, held) → d.name ≡ Some name → JoinLooks holds name number d.client (then name)
      → Allows (IsWordLock holds name) slots id me 0 (λ n. n) (acted (λ n v r w. then n v w) any_step me)
  joined_looks slots id number me d held then same same' is asked =
      let P : ℕ × Me T (Doing N V) → Type 0 =
      λ m. Allows (IsWordLock holds name) slots m.0 m.1 0 (λ n. n) (acted (λ n v r w. then n v w) any_step m.1) in
      subst P {x = (number, (d, held))} {y = (id, me)} (λ i. (sym same i, sym same' i)) (sights slots number (d, held) then is asked)

  -- a word of the rule that is written as it was
  same_word : (head place : ℕ) (words : List ℕ) → set (head ∷ words) (suc place) (slice_index words place) ≡ head ∷ words
  same_word head place words = ap (λ (ws : List ℕ). head ∷ ws) (set-get_or words place _)

  reads_here : (slots id : ℕ) (me : Me T (Doing N V)) (place : ℕ) (then : N → V → ℕ → V → Type 0)
      → me.0.name ≡ Some name → ReadsOf holds name id me.0.client place (then name)
      → Allows (IsWordLock holds name) slots id me (suc place) (λ n. n) (acted then any_step me)
  reads_here slots id me place then is asked =
      notes slots id me (suc place) (λ n. n) then is (λ home told words views found.
      let t = asked home told words (map client views) found.long found.kept (at_map client views id me.0 found.at) in
      (t.0, words, found.long, same_word (lock_word home told) place words, t.1, t.2))

  pub reads : (slots id : ℕ) (me : Me T (Doing N V)) (i place : ℕ) (then : N → V → ℕ → V → Type 0)
      → i ≡ suc place → me.0.name ≡ Some name → ReadsOf holds name id me.0.client place (then name)
      → Allows (IsWordLock holds name) slots id me i (λ n. n) (acted then any_step me)
  reads slots id me i place then at is asked =
      let P : ℕ → Type 0 = λ k. Allows (IsWordLock holds name) slots id me k (λ n. n) (acted then any_step me) in
      subst P (sym at) (reads_here slots id me place then is asked)

  writes_here : (slots id : ℕ) (me : Me T (Doing N V)) (place n : ℕ) (then : N → V → V → Type 0)
      → me.0.name ≡ Some name → WritesOf holds name id me.0.client place n (then name)
      → Allows (IsWordLock holds name) slots id me (suc place) (λ _. n) (acted (λ n v r w. then n v w) any_step me)
  writes_here slots id me place n then is asked =
      notes slots id me (suc place) (λ _. n) (λ n v r w. then n v w) is (λ home told words views found.
      let t = asked home told words (map client views) found.long found.kept (at_map client views id me.0 found.at) in
      (t.0, set words place n, length-set words place n ∙ found.long, refl, t.1, t.2))

  pub writes : (slots id : ℕ) (me : Me T (Doing N V)) (i place n : ℕ) (then : N → V → V → Type 0)
      → i ≡ suc place → me.0.name ≡ Some name → WritesOf holds name id me.0.client place n (then name)
      → Allows (IsWordLock holds name) slots id me i (λ _. n) (acted (λ n v r w. then n v w) any_step me)
  writes slots id me i place n then at is asked =
      let P : ℕ → Type 0 = λ k. Allows (IsWordLock holds name) slots id me k (λ _. n) (acted (λ n v r w. then n v w) any_step me) in
      subst P (sym at) (writes_here slots id me place n then is asked)

  -- the rule, as the seat that has the turn sees it
  abbrev Within : List ℕ → List V → Option T × ℕ → Type 0
  Within words views p = holds name p.0 p.1 words views

  seen_in : (home : Option T) (told : ℕ) (words : List ℕ) (views : List (Doing N V)) (id : ℕ) (d : Doing N V)
      → Found home told words views id d → d.turn ≡ true
      → ◌≡◌ {A = Option T × ℕ} (home, told) (None, d.told)
  seen_in home told words views id d found turns =
      let e = in_turn home told views id d found.turn turns found.at in λ i. (e.0 i, e.1 i)

  reads_in_here : (slots id : ℕ) (me : Me T (Doing N V)) (place : ℕ) (then : N → V → ℕ → V → Type 0)
      → me.0.turn ≡ true → me.0.name ≡ Some name → ReadsIn holds name id me.0.client me.0.told place (then name)
      → Allows (IsWordLock holds name) slots id me (suc place) (λ n. n) (acted then any_step me)
  reads_in_here slots id me place then turns is asked =
      notes slots id me (suc place) (λ n. n) then is (λ home told words views found.
      let e = seen_in home told words views id me.0 found turns in
      let t = asked words (map client views) found.long (subst (Within words (map client views)) e found.kept)
      (at_map client views id me.0 found.at) in (
        t.0,
        words,
        found.long,
        same_word (lock_word home told) place words,
        subst (Within words (set (map client views) id t.0)) (sym e) t.1,
        t.2,
      ))

  pub reads_in : (slots id : ℕ) (me : Me T (Doing N V)) (i place : ℕ) (then : N → V → ℕ → V → Type 0)
      → i ≡ suc place → me.0.turn ≡ true → me.0.name ≡ Some name
      → ReadsIn holds name id me.0.client me.0.told place (then name)
      → Allows (IsWordLock holds name) slots id me i (λ n. n) (acted then any_step me)
  reads_in slots id me i place then at turns is asked =
      let P : ℕ → Type 0 = λ k. Allows (IsWordLock holds name) slots id me k (λ n. n) (acted then any_step me) in
      subst P (sym at) (reads_in_here slots id me place then turns is asked)

  writes_in_here : (slots id : ℕ) (me : Me T (Doing N V)) (place n : ℕ) (then : N → V → V → Type 0)
      → me.0.turn ≡ true → me.0.name ≡ Some name → WritesIn holds name id me.0.client me.0.told place n (then name)
      → Allows (IsWordLock holds name) slots id me (suc place) (λ _. n) (acted (λ n v r w. then n v w) any_step me)
  writes_in_here slots id me place n then turns is asked =
      notes slots id me (suc place) (λ _. n) (λ n v r w. then n v w) is (λ home told words views found.
      let e = seen_in home told words views id me.0 found turns in
      let t = asked words (map client views) found.long (subst (Within words (map client views)) e found.kept)
      (at_map client views id me.0 found.at) in (
        t.0,
        set words place n,
        length-set words place n ∙ found.long,
        refl,
        subst (Within (set words place n) (set (map client views) id t.0)) (sym e) t.1,
        t.2,
      ))

  pub writes_in : (slots id : ℕ) (me : Me T (Doing N V)) (i place n : ℕ) (then : N → V → V → Type 0)
      → i ≡ suc place → me.0.turn ≡ true → me.0.name ≡ Some name
      → WritesIn holds name id me.0.client me.0.told place n (then name)
      → Allows (IsWordLock holds name) slots id me i (λ _. n) (acted (λ n v r w. then n v w) any_step me)
  writes_in slots id me i place n then at turns is asked =
      let P : ℕ → Type 0 = λ k. Allows (IsWordLock holds name) slots id me k (λ _. n) (acted (λ n v r w. then n v w) any_step me) in
      subst P (sym at) (writes_in_here slots id me place n then turns is asked)

  -- the seat that has the turn looks at what the lock tells
  pub knows : (slots id : ℕ) (me : Me T (Doing N V)) → me.0.turn ≡ true
      → Allows (IsWordLock holds name) slots id me 0 (λ n. n) (knew any_step me)
  knows slots id me turns =
      at_hub slots id me 0 (λ n. n) (knew any_step me) (λ home told words views found.
      let e = in_turn home told views id me.0 found.turn turns found.at in (
        me.0,
        keeps,
        tt,
        unchanged home told words views id me.0 found (lock_word home told) refl,
        (refl, half_word home told ∙ e.1),
      ))

  -- where the turn is taken, a seat that rests is not the one that has it
  is_busy : (told : ℕ) (words : List ℕ) (views : List (Doing N V)) (id : ℕ) (d : Doing N V) → d.turn ≡ false
      → d.name ≡ Some name → Found None told words views id d
      → (n : N) → d.name ≡ Some n → BusyOf holds n d.client
  is_busy told words views id d idle is found n e = subst (λ (k : N). BusyOf holds k d.client) (named name n d.name is e) record {
    told = told;
    words = words;
    views = map client views;
    number = id;
    holder = found.turn.holder;
    long = found.long;
    kept = found.kept;
    here = at_map client views id d found.at;
    other = λ same. not_both d.turn
        (ap (λ (z : Doing N V). z.turn) (some-injective d found.turn.view (sym found.at ∙ ap (get_elem? views) (sym same) ∙ found.turn.there)) ∙ found.turn.turns)
        idle;
    there = within (map client views) found.turn.holder found.turn.view.client (at_map client views found.turn.holder found.turn.view found.turn.there);
  }

  busy_where : (home : Option T) (told : ℕ) (words : List ℕ) (views : List (Doing N V)) (id : ℕ) (d : Doing N V) → d.turn ≡ false
      → d.name ≡ Some name → Found home told words views id d → lock_word home told % 2 ≢ 0
      → (n : N) → d.name ≡ Some n → BusyOf holds n d.client
  busy_where None told words views id d idle is found odd = is_busy told words views id d idle is found
  busy_where (Some x) told words views id d idle is found odd = absurd (odd (even_is told))

  -- the step that looks at the word before a try
  pub sees : (slots id : ℕ) (me : Me T (Doing N V)) → me.0.turn ≡ false → me.0.name ≡ Some name
      → Allows (IsWordLock holds name) slots id me 0 (λ n. n) (saw_word holds any_step me)
  sees slots id me idle is =
      at_hub slots id me 0 (λ n. n) (saw_word holds any_step me) (λ home told words views found. (
        me.0,
        keeps,
        tt,
        unchanged home told words views id me.0 found (lock_word home told) refl,
        (refl, busy_where home told words views id me.0 idle is found),
      ))

  -- the seat has the turn that took it
  has_turn : (told : ℕ) (views : List (Doing N V)) (id : ℕ) (d w : Doing N V) → IsIdle views → get_elem? views id ≡ some d
      → w.turn ≡ true → w.told ≡ told → IsOneTurn told (set views id w)
  has_turn told views id d w idle at turns knows = record {
    holder = id;
    view = w;
    there = set_here views id w (within views id d at);
    turns = turns;
    knows = knows;
    only = λ j u e h. ⊎_elim
        (λ (q : (j ≡ id) × (w ≡ u)). q.0)
        (λ (q : (j ≢ id) × (get_elem? views j ≡ some u)). absurd (not_both u.turn h (idle j u q.1)))
        (at_set views id j w u e);
  }

  -- no seat has the turn, where the one that had it gave it back
  has_none : (views : List (Doing N V)) (id : ℕ) (w : Doing N V) → w.turn ≡ false
      → ((j : ℕ) (u : Doing N V) → get_elem? views j ≡ some u → u.turn ≡ true → j ≡ id) → IsIdle (set views id w)
  has_none views id w rests only j u e = false_from_ne_true u.turn (λ turns. ⊎_elim
      (λ (q : (j ≡ id) × (w ≡ u)). not_both u.turn turns (ap (λ (z : Doing N V). z.turn) (sym q.1) ∙ rests))
      (λ (q : (j ≢ id) × (get_elem? views j ≡ some u)). q.0 (only j u q.1 turns))
      (at_set views id j w u e))

  tries_at : (home : Option T) (told : ℕ) (words : List ℕ) (views : List (Doing N V)) (id : ℕ) (me : Me T (Doing N V))
      (then : N → V → T → V → Type 0) → me.0.turn ≡ false → me.1 ≡ [] → me.0.name ≡ Some name
      → TakesOf holds name id me.0.client (then name) → Found home told words views id me.0
      → Owes id me 0 swapped (tried_word holds then any_step me) (hub_of home told words views)
  tries_at None told words views id me then idle empty is asked found = (
    me.0,
    keeps,
    tt,
    unchanged None told words views id me.0 found (swapped (told * 2 + 1)) (or_odd told),
    (
      (λ free. let o = odd_is told in absurd (omega arith)),
      λ _. (refl, is_busy told words views id me.0 idle is found),
    ),
  )
  tries_at (Some x) told words views id me then idle empty is asked found =
      let d : Doing N V = me.0 in
      let p = asked x told words (map client views) found.long found.kept (at_map client views id d found.at) in
      let w : Doing N V = telling d.name true told p.0 in (
        w,
        takes 0 x,
        refl,
        record {
          home = None;
          told = told;
          words = words;
          long = found.long;
          word = ap (λ (n : ℕ). n ∷ words) (or_even told);
          slot = refl;
          turn = has_turn told views id d w found.turn found.at refl refl;
          kept = subst (holds name None told words) (sym (map-set client views id w)) p.1;
        },
        (
          (λ _. (
            x,
            refl,
            refl,
            ap (λ (c : List (ℕ × T)). (0, x) ∷ c) empty,
            λ n e. subst (λ (k : N). then k d.client x p.0) (named name n d.name is e) p.2,
          )),
          (λ differs. absurd (differs (even_is told))),
        ),
      )

  tries : (slots id : ℕ) (me : Me T (Doing N V)) (then : N → V → T → V → Type 0) → me.0.turn ≡ false
      → me.1 ≡ [] → me.0.name ≡ Some name → TakesOf holds name id me.0.client (then name)
      → Allows (IsWordLock holds name) slots id me 0 swapped (tried_word holds then any_step me)
  tries slots id me then idle empty is asked =
      at_hub slots id me 0 swapped (tried_word holds then any_step me) (λ home told words views found.
      tries_at home told words views id me then idle empty is asked found)

  -- the try after the look, which left the seat as it was
  pub tries_after : (slots id number : ℕ) (me old : Me T (Doing N V)) (then : N → V → T → V → Type 0)
      → id ≡ number → me ≡ old → old.0.turn ≡ false → old.1 ≡ [] → old.0.name ≡ Some name
      → TakesOf holds name number old.0.client (then name)
      → Allows (IsWordLock holds name) slots id me 0 swapped (tried_word holds then any_step me)
  tries_after slots id number me old then same same' idle empty is asked =
      let P : ℕ × Me T (Doing N V) → Type 0 =
      λ m. Allows (IsWordLock holds name) slots m.0 m.1 0 swapped (tried_word holds then any_step m.1) in
      subst P {x = (number, old)} {y = (id, me)} (λ i. (sym same i, sym same' i))
      (tries slots number old then idle empty is asked)

  gives_at : (home : Option T) (told : ℕ) (words : List ℕ) (views : List (Doing N V)) (next id : ℕ) (d : Doing N V) (y : T)
      (then : N → V → T → V → Type 0) → d.turn ≡ true → d.name ≡ Some name
      → GivesOf holds name id d.client y d.told next (then name) → Found home told words views id d
      → Owes id (d, alone y) 0 (λ _. next * 2) (gave then any_step (d, alone y)) (hub_of home told words views)
  gives_at None told words views next id d y then turns is asked found =
      let e = in_turn {T = T} None told views id d found.turn turns found.at in
      let mine : id ≡ found.turn.holder = found.turn.only id d found.at turns in
      let p = asked words (map client views) found.long (subst (λ (k : ℕ). holds name None k words (map client views)) e.1 found.kept)
      (at_map client views id d found.at) in
      let w : Doing N V = doing d.name false p.0 in (
        w,
        gives,
        tt,
        record {
          home = Some y;
          told = next;
          words = words;
          long = found.long;
          word = refl;
          slot = refl;
          turn = has_none views id w refl (λ j u at h. found.turn.only j u at h ∙ sym mine);
          kept = subst (holds name (Some y) next words) (sym (map-set client views id w)) p.1;
        },
        (
          refl,
          refl,
          refl,
          λ n z e lies.
              subst (λ (k : N × T). then k.0 d.client k.1 p.0) (λ i. (named name n d.name is e i, same_item y z lies i)) p.2,
        ),
      )
  gives_at (Some x) told words views next id d y then turns is asked found =
      absurd (not_both d.turn turns (found.turn id d found.at))

  pub gives_back : (slots id next : ℕ) (me : Me T (Doing N V)) (y : T) (then : N → V → T → V → Type 0)
      → me.1 ≡ alone y → me.0.turn ≡ true → me.0.name ≡ Some name
      → GivesOf holds name id me.0.client y me.0.told next (then name)
      → Allows (IsWordLock holds name) slots id me 0 (λ _. next * 2) (gave then any_step me)
  gives_back slots id next me y then lies turns is asked =
      let d : Doing N V = me.0 in
      let P : Me T (Doing N V) → Type 0 =
      λ m. Allows (IsWordLock holds name) slots id m 0 (λ _. next * 2) (gave then any_step m) in
      let with_slot : P (d, alone y) =
      at_hub slots id (d, alone y) 0 (λ _. next * 2) (gave then any_step (d, alone y)) (λ home told words views found.
      gives_at home told words views next id d y then turns is asked found) in
      subst P (λ i. (d, sym lies i)) with_slot

  -- the views change as the rule allows, and the turn stays where it is
  still : (s : Hub N T V) (ys : List (Doing N V)) → IsWordLock holds name s → Covers s.views ys → Covers ys s.views
      → ((home : Option T) (told : ℕ) (words : List ℕ) → length words ≡ 287 → holds name home told words (map client s.views)
      → holds name home told words (map client ys))
      → IsWordLock holds name (hub s.words s.homes ys)
  still s ys p there back k = record {
    home = p.home;
    told = p.told;
    words = p.words;
    long = p.long;
    word = p.word;
    slot = p.slot;
    turn = turn_stays p.home p.told s.views ys there back p.turn;
    kept = k p.home p.told p.words p.long p.kept;
  }

  pub splits : (id : ℕ) (v : Doing N V) (left right : V) → v.turn ≡ false → ForksOf holds name id v.client left right
      → Splits (IsWordLock holds name) id v (doing v.name false left) (doing v.name false right)
  splits id v left right idle asked s locked at =
      let l : Doing N V = doing v.name false left in
      let r : Doing N V = doing v.name false right in
      let ys : List (Doing N V) = set s.views id l in
      let views : List V = map client s.views in
      let shape : map client (ys ++ r ∷ []) ≡ set views id left ++ right ∷ [] =
      map-append client ys (r ∷ []) ∙ ap (λ (z : List V). z ++ right ∷ []) (map-set client s.views id l) in
      still s (ys ++ r ∷ []) locked
      (covers_then s.views ys (ys ++ r ∷ []) (covers_set s.views id v l at (sym idle) (λ t. absurd (not_both v.turn t idle))) (covers_more ys r))
      (covers_then (ys ++ r ∷ []) ys s.views (covers_less ys r refl) (covers_unset s.views id v l at (sym idle) (λ t. absurd (not_both v.turn t idle))))
      (λ home told words long k. subst (holds name home told words) (sym shape) (asked home told words views long k (at_map client s.views id v at)))

  pub joins : (id other : ℕ) (v w : Doing N V) (both spent : V) → v.turn ≡ false → w.turn ≡ false
      → MergesOf holds name id v.client other w.client both spent
      → Joins (IsWordLock holds name) id v other w (doing v.name false both) (doing None false spent)
  joins id other v w both spent idle idle' asked s locked at apart at' =
      let b : Doing N V = doing v.name false both in
      let n : Doing N V = doing None false spent in
      let ys : List (Doing N V) = set s.views id b in
      let views : List V = map client s.views in
      let there : get_elem? s.views other ≡ some w = sym (set_else s.views id other b apart) ∙ at' in
      let shape : map client (set ys other n) ≡ set (set views id both) other spent =
      map-set client ys other n ∙ ap (λ (z : List V). set z other spent) (map-set client s.views id b) in
      still s (set ys other n) locked
      (covers_then s.views ys (set ys other n)
      (covers_set s.views id v b at (sym idle) (λ t. absurd (not_both v.turn t idle)))
      (covers_set ys other w n at' (sym idle') (λ t. absurd (not_both w.turn t idle'))))
      (covers_then (set ys other n) ys s.views
      (covers_unset ys other w n at' (sym idle') (λ t. absurd (not_both w.turn t idle')))
      (covers_unset s.views id v b at (sym idle) (λ t. absurd (not_both v.turn t idle))))
      (λ home told words long k. subst (holds name home told words) (sym shape)
      (asked home told words views long k apart (at_map client s.views id v at) (at_map client s.views other w there)))
