-- Words, seats and slots.
use Rattle.std.proofs.Common.{◌≡◌, ℕ, zero, suc, ◌*◌, ◌+◌, ◌%◌, ◌<◌, Bool, true, false, Option, Some, List, [], ◌∷◌, length, sym, ap, ◌∙◌, arith}
use mathlib.Core.Option.{none, some, some-injective, some-ne-none}
use Rattle.std.proofs.lemmas.Bool.{eqb-true}
use mathlib.Core.Bool.{true≢false}
use lib.ListN.{get_elem?}
use lib.Bits.{bit_or, or_add_and, and_mask}
use Rattle.atomic_table.specs.Table.{State, rest}
use Rattle.turn_lock.specs.declared.seat.Doing.{Doing}
use Rattle.turn_lock.specs.Held.{is_alone, alone_value}

pub within : {A : Type 0} (l : List A) (i : ℕ) (a : A) → get_elem? l i ≡ some a → i < length l
within [] i a e = absurd (some-ne-none a (sym e))
within (x ∷ xs) zero a e = omega arith
within (x ∷ xs) (suc i) a e = let h = within xs i a e in omega arith

-- the name in a view is the lock's
pub named : {N : Type 0} (n m : N) (o : Option N) → o ≡ Some n → o ≡ Some m → n ≡ m
named n m o e f = cc

pub not_both : (b : Bool) → b ≡ true → b ≡ false → ⊥
not_both b e f = cc

abbrev pub Hub : Type 0 → Type 0 → Type 0 → Type 0
Hub N T V = State T (Doing N V)

abbrev pub hub : {N T V : Type 0} → List ℕ → List (mathlib.Core.Option.Option T) → List (Doing N V) → Hub N T V
hub ws hs vs = record { words = ws; homes = hs; views = vs }

or_one : (n : ℕ) → bit_or n 1 + n % 2 ≡ n + 1
or_one n = let a = or_add_and n 1 in let b = and_mask n 1 in omega (arith, a, b)

pub even_is : (t : ℕ) → (t * 2) % 2 ≡ 0
even_is t = omega arith

pub odd_is : (t : ℕ) → (t * 2 + 1) % 2 ≡ 1
odd_is t = omega arith

pub or_even : (t : ℕ) → bit_or (t * 2) 1 ≡ t * 2 + 1
or_even t = let a = or_one (t * 2) in let b = even_is t in omega arith

pub or_odd : (t : ℕ) → bit_or (t * 2 + 1) 1 ≡ t * 2 + 1
or_odd t = let a = or_one (t * 2 + 1) in let b = odd_is t in omega arith

abbrev pub swapped : ℕ → ℕ
swapped n = bit_or n 1

-- the value in a slot that is held alone
abbrev item : {T : Type 0} → T → List (ℕ × T) → T
item x [] = x
item x (y ∷ ys) = y.1

abbrev pub alone : {T : Type 0} → T → List (ℕ × T)
alone y = (0, y) ∷ []

pub same_item : {T : Type 0} (y z : T) → alone y ≡ alone z → y ≡ z
same_item {T} y z e = ap (item y) e

-- a list that holds the slot 0 alone is the list of it and its value
pub alone_is : {T : Type 0} (held : List (ℕ × T)) (one : is_alone held ≡ true)
    → held ≡ (0, alone_value held one) ∷ []
alone_is [] one = absurd (true≢false (sym one))
alone_is (h ∷ []) one = ap (λ (k : ℕ). (k, h.1) ∷ []) (eqb-true h.0 0 one)
alone_is (h ∷ k ∷ hs) one = absurd (true≢false (sym one))

-- so it begins with the slot 0 and its value
pub alone_first : {T : Type 0} (held : List (ℕ × T)) (one : is_alone held ≡ true)
    → held ≡ (0, alone_value held one) ∷ rest held
alone_first held one =
    let lies : held ≡ (0, alone_value held one) ∷ [] = alone_is held one in
    lies ∙ ap (λ (xs : List (ℕ × _)). (0, alone_value held one) ∷ xs) (sym (ap rest lies))
