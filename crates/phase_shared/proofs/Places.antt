-- What is said of the seats that asked or that have the turn stays while these seats stay.
use Rattle.std.proofs.Common.{◌≡◌, ◌≢◌, ℕ, Bool, true, false, eqb, List, set, sym, ap, ◌∙◌, inl, inr}
use Rattle.std.proofs.lemmas.Bool.{eq-eqb}
use Rattle.turn_lock.proofs.Keeping.{not_both}
use mathlib.Core.Option.{some, some-injective}
use lib.ListN.{get_elem?}
use Rattle.atomic_table.proofs.Lists.{at_set, set_else}
use Rattle.phase_shared.specs.Phasers.{Limits, Outcome, History}
use Rattle.phase_shared.specs.declared.seats.view.Knowledge.{Knowledge}
use Rattle.phase_shared.specs.Asks.{Ask}
use Rattle.phase_shared.specs.Views.{Lane, Own, Holds}
use Rattle.phase_shared.specs.Desks.{View, Turning, Asking, StandsAsked, IsLane}

abbrev pub is_asking : View → Bool
is_asking (Asking f a) = true
is_asking v = false

abbrev pub ask_in : Ask → View → Ask
ask_in d (Asking f a) = a
ask_in d v = d

-- ---- one seat's view

pub same_view : (views : List View) (j k : ℕ) (v u : View) → get_elem? views j ≡ some v → get_elem? views k ≡ some u → j ≡ k → v ≡ u
same_view views j k v u e e' same = some-injective v u (sym e ∙ ap (get_elem? views) same ∙ e')

-- seats whose views are of two kinds are two
pub two_seats : (kind : View → Bool) (views : List View) (j k : ℕ) (v u : View) → get_elem? views j ≡ some v → get_elem? views k ≡ some u
    → kind v ≡ true → kind u ≡ false → j ≢ k
two_seats kind views j k v u e e' is not same = not_both (kind v) is (ap kind (same_view views j k v u e e' same) ∙ not)

pub ne_of : (a b : ℕ) → eqb a b ≡ false → a ≢ b
ne_of a b f same = not_both (eqb a b) (eq-eqb a b same) f

-- a view of a kind that the new view is not was there before
pub was : (kind : View → Bool) (views : List View) (number j : ℕ) (w u : View) → kind w ≡ false → kind u ≡ true
    → get_elem? (set views number w) j ≡ some u → (j ≢ number) × (get_elem? views j ≡ some u)
was kind views number j w u not is e = elim (at_set views number j w u e) [
  | inl p ↦ absurd (not_both (kind u) is (ap kind (sym p.1) ∙ not))
  | inr p ↦ p
]

-- a view of a kind that the old view was not is there still
pub stays : (kind : View → Bool) (views : List View) (number j : ℕ) (v w u : View) → get_elem? views number ≡ some v → kind v ≡ false → kind u ≡ true
    → get_elem? views j ≡ some u → get_elem? (set views number w) j ≡ some u
stays kind views number j v w u at not is e = set_else views number j w (two_seats kind views j number u v e at is not) ∙ e

-- ---- what is known of a lane

pub own_not_held : (l i m : ℕ) → Own l ≡ Holds i m → ⊥
own_not_held l i m e = cc

pub own_same : (l i : ℕ) → Own l ≡ Own i → l ≡ i
own_same l i e = ap (λ (x : Lane). place_of l x) e
  where
    place_of : ℕ → Lane → ℕ
    place_of d (Own j) = j
    place_of d x = d

pub held_same : (l i n m : ℕ) → Holds l n ≡ Holds i m → l ≡ i
held_same l i n m e = ap (λ (x : Lane). place_of l x) e
  where
    place_of : ℕ → Lane → ℕ
    place_of d (Holds j k) = j
    place_of d x = d

pub held_number : (l i n m : ℕ) → Holds l n ≡ Holds i m → n ≡ m
held_number l i n m e = ap (λ (x : Lane). number_of n x) e
  where
    number_of : ℕ → Lane → ℕ
    number_of d (Holds j k) = k
    number_of d x = d

-- ---- from some views to others

abbrev pub AskingStay : List View → List View → Type 0
AskingStay views after = (j : ℕ) (g : Knowledge) (a : Ask) → get_elem? views j ≡ some (Asking g a) → get_elem? after j ≡ some (Asking g a)

abbrev pub TurningStay : List View → List View → Type 0
TurningStay views after = (j : ℕ) (g : Knowledge) (claims : List Ask) (said : Outcome) (lane : Lane)
    → get_elem? views j ≡ some (Turning g claims said lane) → get_elem? after j ≡ some (Turning g claims said lane)

pub asked_stays : (limits : Limits) (log : History) (views after : List View) (a : Ask) → AskingStay views after
    → StandsAsked limits log views a → StandsAsked limits log after a
asked_stays limits log views after a stay c = record { seat = c.seat; knows = c.knows; at = stay c.seat c.knows a c.at; waits_on = c.waits_on }

pub lane_stays : (log : History) (views after : List View) (i n : ℕ) → AskingStay views after → TurningStay views after
    → IsLane log views i n → IsLane log after i n
lane_stays log views after i n stay stay' (inl z) = inl z
lane_stays log views after i n stay stay' (inr (inl q)) =
    inr (inl record { seat = q.seat; knows = q.knows; ask = q.ask; at = stay q.seat q.knows q.ask q.at; is = q.is })
lane_stays log views after i n stay stay' (inr (inr (inl p))) = inr (inr (inl p))
lane_stays log views after i n stay stay' (inr (inr (inr h))) = inr (inr (inr record {
  seat = h.seat;
  knows = h.knows;
  claims = h.claims;
  said = h.said;
  n = h.n;
  at = stay' h.seat h.knows h.claims h.said (Holds i h.n) h.at;
}))
