-- The product of numbers with signs, and its size.
use Rattle.std.proofs.Common.{◌≡◌, ◌*◌, ℕ, zero, suc, ℤ, pos, negsuc, neg_ℤ, unsigned_abs, refl, sym, ap, ◌∙◌, arith}
use Rattle.std.specs.Prelude.{◌*ℤ◌}
use Rattle.std.proofs.lemmas.Int.{ints}
use Rattle.std.proofs.Math.IntN.{*ℤ_comm, zero-*ℤ}
use Rattle.std.proofs.Math.Nat.{mul_assoc}

-- ---- signs

neg_ℤ-neg_ℤ : (z : ℤ) → neg_ℤ (neg_ℤ z) ≡ z
neg_ℤ-neg_ℤ (pos zero) = refl
neg_ℤ-neg_ℤ (pos (suc n)) = refl
neg_ℤ-neg_ℤ (negsuc n) = refl

*ℤ-neg_left : (m k : ℤ) → neg_ℤ m *ℤ k ≡ neg_ℤ (m *ℤ k)
*ℤ-neg_left (pos zero) k = zero-*ℤ k ∙ sym (ap neg_ℤ (zero-*ℤ k))
*ℤ-neg_left (pos (suc a)) (pos b) = refl
*ℤ-neg_left (pos (suc a)) (negsuc b) = sym (neg_ℤ-neg_ℤ (pos (suc a * suc b)))
*ℤ-neg_left (negsuc a) (pos b) = sym (neg_ℤ-neg_ℤ (pos (suc a * b)))
*ℤ-neg_left (negsuc a) (negsuc b) = refl

*ℤ-neg_right : (m k : ℤ) → m *ℤ neg_ℤ k ≡ neg_ℤ (m *ℤ k)
*ℤ-neg_right m k = *ℤ_comm m (neg_ℤ k) ∙ *ℤ-neg_left k m ∙ ap neg_ℤ (*ℤ_comm k m)

-- ---- three factors

-- where the first two are not below 0
assoc-two : (a b : ℕ) (z : ℤ) → (pos a *ℤ pos b) *ℤ z ≡ pos a *ℤ (pos b *ℤ z)
assoc-two a b (pos c) = ap pos (mul_assoc a b c)
assoc-two a b (negsuc c) =
    *ℤ-neg_right (pos a *ℤ pos b) (pos (suc c))
    ∙ ap (λ n. neg_ℤ (pos n)) (mul_assoc a b (suc c))
    ∙ sym (*ℤ-neg_right (pos a) (pos (b * suc c)))
    ∙ ap (λ y. pos a *ℤ y) (sym (*ℤ-neg_right (pos b) (pos (suc c))))

-- where the first is not below 0
assoc-one : (a : ℕ) (y z : ℤ) → (pos a *ℤ y) *ℤ z ≡ pos a *ℤ (y *ℤ z)
assoc-one a (pos b) z = assoc-two a b z
assoc-one a (negsuc b) z =
    ap (λ x. x *ℤ z) (*ℤ-neg_right (pos a) (pos (suc b)))
    ∙ *ℤ-neg_left (pos a *ℤ pos (suc b)) z
    ∙ ap neg_ℤ (assoc-two a (suc b) z)
    ∙ sym (*ℤ-neg_right (pos a) (pos (suc b) *ℤ z))
    ∙ ap (λ x. pos a *ℤ x) (sym (*ℤ-neg_left (pos (suc b)) z))

-- products may be grouped
pub *ℤ-assoc : (x y z : ℤ) → (x *ℤ y) *ℤ z ≡ x *ℤ (y *ℤ z)
*ℤ-assoc (pos a) y z = assoc-one a y z
*ℤ-assoc (negsuc a) y z =
    ap (λ x. x *ℤ z) (*ℤ-neg_left (pos (suc a)) y)
    ∙ *ℤ-neg_left (pos (suc a) *ℤ y) z
    ∙ ap neg_ℤ (assoc-one (suc a) y z)
    ∙ sym (*ℤ-neg_left (pos (suc a)) (y *ℤ z))

-- ---- one and nothing

-- a product with 1 in front
pub *ℤ-one_left : (z : ℤ) → pos 1 *ℤ z ≡ z
*ℤ-one_left z = omega (arith, ints)

-- a product with 1 behind
pub *ℤ-one_right : (z : ℤ) → z *ℤ pos 1 ≡ z
*ℤ-one_right z = omega (arith, ints)

-- a product whose first factor has magnitude 0
pub *ℤ-nothing_left : (a c : ℤ) → unsigned_abs a ≡ 0 → a *ℤ c ≡ pos 0
*ℤ-nothing_left (pos a) c e = ap (λ n. pos n *ℤ c) e ∙ zero-*ℤ c
*ℤ-nothing_left (negsuc a) c e = absurd (omega arith)
