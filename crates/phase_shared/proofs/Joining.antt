-- Seats are cut in two and joined, and the rule stays; and it holds of what was just made.
use Rattle.std.proofs.Common.{◌≡◌, ◌≢◌, ℕ, ℤ, zero, suc, true, false, not, cond, eqb, List, [], ◌∷◌, ◌++◌, Option, Some, None, length, set, replicate, refl, sym, ap, subst, ◌∙◌, inl, arith, inr}
use Rattle.std.specs.Prelude.{◌%◌}
use Rattle.std.proofs.lemmas.Bool.{ne_eqb, and_parts, not-true, false_from_ne_true}
use mathlib.Core.Option.{some, some-injective, some-ne-none}
use Rattle.std.proofs.lemmas.List.{get_or-replicate}
use Rattle.std.proofs.lemmas.Option.{same_Some}
use Rattle.turn_lock.proofs.Keeping.{not_both}
use lib.ListN.{get_elem?}
use Rattle.atomic_table.proofs.Lists.{at_set, at_longer, set_else}
use Rattle.phase_shared.specs.Phasers.{Limits, is_distinct, is_in, Outcome, History, IsLegal, IsUsed, OnlyUsed}
use Rattle.phase_history.specs.declared.event.Event.TheVariants.{Made}
use Rattle.phase_history.proofs.OthersEvents.{OthersCame-refl, OthersCame-fewer}
use Rattle.phase_history.proofs.Used.{OnlyUsed-others}
use Rattle.phase_shared.specs.declared.seats.view.Knowledge.{Knowledge}
use Rattle.phase_shared.specs.Views.{knowledge, speaks_of, is_turning}
use Rattle.phase_shared.specs.Goods.{Allows}
use Rattle.phase_shared.specs.Lanes.{posted, phase_place}
use Rattle.phase_shared.specs.Desks.{View, Resting, Turning, Joining, Asking, Spent, IsSound, Kept}
use Rattle.phase_shared.specs.Rule.{Learned}
use Rattle.phase_shared.proofs.Small.{none_some, eqb_refl, or_false, snoc_at, one_of, is_in_self, in_second, distinct_append, in_append, used_some}
use Rattle.phase_shared.proofs.Places.{is_asking, same_view, was, stays, AskingStay, TurningStay, asked_stays, lane_stays}

-- a seat's view changes from one that neither asks nor has the turn to another one
module _ (views : List View) (number : ℕ) (v w : View) (at : get_elem? views number ≡ some v) where
  pub asking_after : is_asking v ≡ false → AskingStay views (set views number w)
  asking_after not_asking j g a e = stays is_asking views number j v w (Asking g a) at not_asking refl e

  pub turning_after : is_turning v ≡ false → TurningStay views (set views number w)
  turning_after rests j g claims said lane e = stays is_turning views number j v w (Turning g claims said lane) at rests refl e

pub asking_before : (views : List View) (number : ℕ) (w : View) → is_asking w ≡ false → AskingStay (set views number w) views
asking_before views number w not_asking j g a e = (was is_asking views number j w (Asking g a) not_asking refl e).1

pub turning_before : (views : List View) (number : ℕ) (w : View) → is_turning w ≡ false → TurningStay (set views number w) views
turning_before views number w rests j g claims said lane e = (was is_turning views number j w (Turning g claims said lane) rests refl e).1

-- a seat more
asking_longer : (views : List View) (r : View) → is_asking r ≡ false → AskingStay (views ++ r ∷ []) views
asking_longer views r not_asking j g a e = elim (snoc_at views r (Asking g a) j e) [
  | inl p ↦ p
  | inr p ↦ absurd (not_both (is_asking r) (ap is_asking p.1) not_asking)
]

turning_longer : (views : List View) (r : View) → is_turning r ≡ false → TurningStay (views ++ r ∷ []) views
turning_longer views r rests j g claims said lane e = elim (snoc_at views r (Turning g claims said lane) j e) [
  | inl p ↦ p
  | inr p ↦ absurd (not_both (is_turning r) (ap is_turning p.1) rests)
]

module _ {T : Type 0} (value : List ℤ → Outcome) (limits : Limits) (allows : Allows) (StandsFor : T → History → Type 0) where
  -- the rule of other views, where who asks and who has the turn is the same
  pub moves : (home : Option T) (told : ℕ) (words : List ℕ) (views after : List View) (k : Kept value limits allows StandsFor home told words views)
      → AskingStay views after → TurningStay views after → AskingStay after views → TurningStay after views
      → ((j : ℕ) (v : View) → get_elem? after j ≡ some v → IsSound value limits allows home k.holder k.log told words j v)
      → (owner : ℕ → ℕ)
      → ((j : ℕ) (v : View) (task : ℕ) → get_elem? after j ≡ some v → is_in task (speaks_of v) ≡ true → (owner task ≡ j) × IsUsed k.log task)
      → Kept value limits allows StandsFor home told words after
  moves home told words views after k asks turns asked turned sound owner owns = record {
    log = k.log;
    good = k.good;
    stands = k.stands;
    within = k.within;
    holder = k.holder;
    out = λ e. let o = k.out e in (o.0, o.1, o.2, o.3, turns k.holder o.0 o.1 o.2 o.3 o.4);
    sound = sound;
    owner = owner;
    owns = owns;
    claimed = λ j g claims said lane e a one. asked_stays limits k.log views after a asks (k.claimed j g claims said lane (turned j g claims said lane e) a one);
    all = λ j g claims said lane e i h a e' m. k.all j g claims said lane (turned j g claims said lane e) i h a (asked i h a e') m;
    lanes = λ i low. lane_stays k.log views after i (posted words i) asks turns (k.lanes i low);
  }

  -- the look after a join: the joined view has seen all
  pub looks : (number : ℕ) (f g : Knowledge) (home : Option T) (told : ℕ) (words : List ℕ) (views : List View)
      → Kept value limits allows StandsFor home told words views → get_elem? views number ≡ some (Joining f g)
      → (w : View) × Kept value limits allows StandsFor home told words (set views number w) × Learned limits allows (Joining f g) w
  looks number f g home told words views k at =
      let w : View = Resting (knowledge k.log (f.speaks ++ g.speaks)) in
      let s = k.sound number (Joining f g) at in (
        w,
        moves home told words views (set views number w) k
            (asking_after views number (Joining f g) w at refl) (turning_after views number (Joining f g) w at refl)
            (asking_before views number w refl) (turning_before views number w refl)
            (λ j v e. elim (at_set views number j w v e) [
              | inl p ↦ subst (λ (u : View). IsSound value limits allows home k.holder k.log told words j u) p.1 (OthersCame-refl (f.speaks ++ g.speaks) k.log, s.2)
              | inr p ↦ k.sound j v p.1
            ])
            k.owner
            (λ j v task e has. elim (at_set views number j w v e) [
              | inl p ↦ let mine : is_in task (f.speaks ++ g.speaks) ≡ true = subst (λ (u : View). is_in task (speaks_of u) ≡ true) (sym p.1) has in
                  let o = k.owns number (Joining f g) task at mine in (o.0 ∙ sym p.0, o.1)
              | inr p ↦ k.owns j v task p.1 has
            ]),
        record { now = k.log; first = s.0; second = s.1; distinct = s.2; good = k.good; is = refl },
      )

  -- a view that speaks for two is cut in two
  pub forks : (number : ℕ) (seen : History) (a b : ℕ) (home : Option T) (told : ℕ) (words : List ℕ) (views : List View)
      → Kept value limits allows StandsFor home told words views
      → get_elem? views number ≡ some (Resting (knowledge seen (a ∷ b ∷ [])))
      → Kept value limits allows StandsFor home told words (set views number (Resting (knowledge seen (a ∷ []))) ++ Resting (knowledge seen (b ∷ [])) ∷ [])
  forks number seen a b home told words views k at =
      let v : View = Resting (knowledge seen (a ∷ b ∷ [])) in
      let l : View = Resting (knowledge seen (a ∷ [])) in
      let r : View = Resting (knowledge seen (b ∷ [])) in
      let left : List View = set views number l in
      let s = k.sound number v at in
      let p = and_parts (not (is_in a (b ∷ []))) (is_distinct (b ∷ [])) s.1 in
      let apart : eqb b a ≡ false = or_false (eqb b a) (not-true (is_in a (b ∷ [])) p.0) in
      let first : (t : ℕ) → is_in t (a ∷ []) ≡ true → is_in t (a ∷ b ∷ []) ≡ true = λ t has. subst (λ (n : ℕ). is_in n (a ∷ b ∷ []) ≡ true) (one_of a t has) (is_in_self a (b ∷ [])) in
      let second : (t : ℕ) → is_in t (b ∷ []) ≡ true → is_in t (a ∷ b ∷ []) ≡ true = λ t has. subst (λ (n : ℕ). is_in n (a ∷ b ∷ []) ≡ true) (one_of b t has) (in_second a b) in
      let place : ℕ = length left in
      let owner : ℕ → ℕ = λ t. cond (eqb b t) place (k.owner t) in
      let old : (j : ℕ) (u : View) (t : ℕ) → j ≢ number → get_elem? views j ≡ some u → is_in t (speaks_of u) ≡ true → (owner t ≡ j) × IsUsed k.log t =
      λ j u t ne e has.
      let o = k.owns j u t e has in
      let q = k.owns number v b at (in_second a b) in
      let other : eqb b t ≡ false = ne_eqb b t (λ same. ne (sym o.0 ∙ ap k.owner (sym same) ∙ q.0)) in
      (ap (λ c. cond c place (k.owner t)) other ∙ o.0, o.1) in
      moves home told words views (left ++ r ∷ []) k
      (λ j g q e. at_longer left (r ∷ []) j (Asking g q) (asking_after views number v l at refl j g q e))
      (λ j g cs said lane e. at_longer left (r ∷ []) j (Turning g cs said lane) (turning_after views number v l at refl j g cs said lane e))
      (λ j g q e. asking_before views number l refl j g q (asking_longer left r refl j g q e))
      (λ j g cs said lane e. turning_before views number l refl j g cs said lane (turning_longer left r refl j g cs said lane e))
      (λ j u e. elim (snoc_at left r u j e) [
        | inl q ↦ elim (at_set views number j l u q) [
          | inl m ↦ subst (λ (z : View). IsSound value limits allows home k.holder k.log told words j z) m.1 (OthersCame-fewer (a ∷ b ∷ []) (a ∷ []) seen k.log first s.0, refl)
          | inr m ↦ k.sound j u m.1
        ]
        | inr q ↦ subst (λ (z : View). IsSound value limits allows home k.holder k.log told words j z) q.1 (OthersCame-fewer (a ∷ b ∷ []) (b ∷ []) seen k.log second s.0, refl)
      ])
      owner
      (λ j u t e has. elim (snoc_at left r u j e) [
        | inl q ↦ elim (at_set views number j l u q) [
          | inl m ↦ let mine : a ≡ t = one_of a t (subst (λ (z : View). is_in t (speaks_of z) ≡ true) (sym m.1) has) in
              let o = k.owns number v a at (is_in_self a (b ∷ [])) in
              subst (λ (n : ℕ). (owner n ≡ j) × IsUsed k.log n) mine (ap (λ c. cond c place (k.owner a)) apart ∙ o.0 ∙ sym m.0, o.1)
          | inr m ↦ old j u t m.0 m.1 has
        ]
        | inr q ↦ let mine : b ≡ t = one_of b t (subst (λ (z : View). is_in t (speaks_of z) ≡ true) (sym q.1) has) in
            let o = k.owns number v b at (in_second a b) in
            subst (λ (n : ℕ). (owner n ≡ j) × IsUsed k.log n) mine (ap (λ c. cond c place (k.owner b)) (eqb_refl b) ∙ sym q.0, o.1)
      ])

  -- two views at rest are joined
  pub merges : (number other : ℕ) (f g : Knowledge) (home : Option T) (told : ℕ) (words : List ℕ) (views : List View)
      → Kept value limits allows StandsFor home told words views → other ≢ number
      → get_elem? views number ≡ some (Resting f) → get_elem? views other ≡ some (Resting g)
      → Kept value limits allows StandsFor home told words (set (set views number (Joining f g)) other Spent)
  merges number other f g home told words views k ne at at' =
      let w : View = Joining f g in
      let one : List View = set views number w in
      let s = k.sound number (Resting f) at in
      let s' = k.sound other (Resting g) at' in
      let there : get_elem? one other ≡ some (Resting g) = set_else views number other w ne ∙ at' in
      let apart : (t : ℕ) → is_in t f.speaks ≡ true → is_in t g.speaks ≡ false = λ t has. false_from_ne_true (is_in t g.speaks)
      (λ has'. ne (sym (k.owns other (Resting g) t at' has').0 ∙ (k.owns number (Resting f) t at has).0)) in
      let owner : ℕ → ℕ = λ t. cond (is_in t g.speaks) number (k.owner t) in
      moves home told words views (set one other Spent) k
      (λ j h q e. asking_after one other (Resting g) Spent there refl j h q (asking_after views number (Resting f) w at refl j h q e))
      (λ j h cs said lane e. turning_after one other (Resting g) Spent there refl j h cs said lane (turning_after views number (Resting f) w at refl j h cs said lane e))
      (λ j h q e. asking_before views number w refl j h q (asking_before one other Spent refl j h q e))
      (λ j h cs said lane e. turning_before views number w refl j h cs said lane (turning_before one other Spent refl j h cs said lane e))
      (λ j u e. elim (at_set one other j Spent u e) [
        | inl m ↦ subst (λ (z : View). IsSound value limits allows home k.holder k.log told words j z) m.1 tt
        | inr m ↦ elim (at_set views number j w u m.1) [
          | inl q ↦ subst (λ (z : View). IsSound value limits allows home k.holder k.log told words j z) q.1 (s.0, s'.0, distinct_append f.speaks g.speaks s.1 s'.1 apart)
          | inr q ↦ k.sound j u q.1
        ]
      ])
      owner
      (λ j u t e has. elim (at_set one other j Spent u e) [
        | inl m ↦ absurd (let z : false ≡ true = subst (λ (z : View). is_in t (speaks_of z) ≡ true) (sym m.1) has in cc)
        | inr m ↦ elim (at_set views number j w u m.1) [
          | inl q ↦ let here : is_in t (f.speaks ++ g.speaks) ≡ true = subst (λ (z : View). is_in t (speaks_of z) ≡ true) (sym q.1) has in
              elim (in_append f.speaks g.speaks t here) [
                | inl h ↦ let o = k.owns number (Resting f) t at h in
                    (ap (λ c. cond c number (k.owner t)) (apart t h) ∙ o.0 ∙ sym q.0, o.1)
                | inr h ↦ let o = k.owns other (Resting g) t at' h in
                    (ap (λ c. cond c number (k.owner t)) h ∙ sym q.0, o.1)
              ]
          | inr q ↦ let o = k.owns j u t q.1 has in
              let not_theirs : is_in t g.speaks ≡ false = false_from_ne_true (is_in t g.speaks) (λ has'. m.0 (sym o.0 ∙ (k.owns other (Resting g) t at' has').0)) in
              (ap (λ c. cond c number (k.owner t)) not_theirs ∙ o.0, o.1)
        ]
      ])

  -- a seat that speaks for all numbers that it has seen used is never refused
  pub never_busy : (number : ℕ) (f : Knowledge) → (task : ℕ) × (is_in task f.speaks ≡ true) × IsUsed f.seen task → OnlyUsed f.speaks f.seen
      → (told : ℕ) (words : List ℕ) (views : List View) → Kept value limits allows StandsFor None told words views
      → get_elem? views number ≡ some (Resting f) → ⊥
  never_busy number f one only told words views k at =
      let s = k.sound number (Resting f) at in
      let o = k.out refl in
      let holds : View = Turning o.0 o.1 o.2 o.3 in
      let out = k.sound k.holder (Turning o.0 o.1 o.2 o.3) o.4 in
      let other = out.4 in
      let theirs = k.owns k.holder (Turning o.0 o.1 o.2 o.3) other.0 o.4 other.1 in
      let came = s.0 in
      let mine : is_in other.0 f.speaks ≡ true = OnlyUsed-others limits came.later f.seen f.speaks (used_some f.seen one.0 one.2)
      (subst (λ (h : History). IsLegal limits h) came.is k.good.legal) came.others only other.0
      (subst (λ (h : History). IsUsed h other.0) came.is theirs.1) in
      let here : k.holder ≡ number = sym theirs.0 ∙ (k.owns number (Resting f) other.0 at mine).0 in
      not_both (is_turning (Turning o.0 o.1 o.2 o.3)) refl (ap is_turning (same_view views k.holder number (Turning o.0 o.1 o.2 o.3) (Resting f) o.4 at here))

  -- the rule holds of a phaser that was just made
  pub founds : (x : T) → StandsFor x (Made 0 ∷ []) → IsLegal limits (Made 0 ∷ [])
      → Kept value limits allows StandsFor (Some x) 0 (replicate 287 0) (Resting (knowledge (Made 0 ∷ []) (0 ∷ [])) ∷ [])
  founds x stands legal = record {
    log = Made 0 ∷ [];
    good = record { legal = legal; keeps = tt };
    stands = λ y e. subst (λ (z : T). StandsFor z (Made 0 ∷ [])) (same_Some x y e) stands;
    within = λ odd. absurd (zero_not_odd odd);
    holder = 0;
    out = λ e. absurd (none_some x e);
    sound = λ j v e. subst (λ (u : View). IsSound value limits allows (Some x) 0 (Made 0 ∷ []) 0 (replicate 287 0) j u) (only j v e).1 (OthersCame-refl (0 ∷ []) (Made 0 ∷ []), refl);
    owner = λ task. 0;
    owns = λ j v task e has.
        let o = only j v e in
        let here : is_in task (0 ∷ []) ≡ true = subst (λ (u : View). is_in task (speaks_of u) ≡ true) (sym o.1) has in
        (o.0, subst (λ (n : ℕ). IsUsed (Made 0 ∷ []) n) (one_of 0 task here) refl);
    claimed = λ j g claims said lane e a one. absurd (not_both true refl (ap is_turning (sym (only j (Turning g claims said lane) e).1)));
    all = λ j g claims said lane e i h a e' m. absurd (not_both true refl (ap is_turning (sym (only j (Turning g claims said lane) e).1)));
    lanes = λ i low. inl (get_or-replicate 287 (phase_place i) 0 0 (omega arith));
  }
    where
      zero_not_odd : 0 % 2 ≡ 1 → ⊥
      zero_not_odd e = omega arith

      only : (j : ℕ) (v : View) → get_elem? (Resting (knowledge (Made 0 ∷ []) (0 ∷ [])) ∷ []) j ≡ some v → (0 ≡ j) × (Resting (knowledge (Made 0 ∷ []) (0 ∷ [])) ≡ v)
      only zero v e = (refl, some-injective (Resting (knowledge (Made 0 ∷ []) (0 ∷ []))) v e)
      only (suc j) v e = absurd (some-ne-none v (sym e))
