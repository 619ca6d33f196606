-- Turns: which steps are those of input or output number k of m.
use Rattle.std.proofs.Common.{◌≡◌, ℕ, ◌+◌, ◌-◌, ◌*◌, ◌/◌, ◌%◌, ◌<◌, ◌≤◌, ap, ◌∙◌, arith, ◌⊎◌, inl, inr}
use Rattle.std.proofs.Math.Nat.{mul_comm, add-mul}
use Rattle.std.proofs.lemmas.Bool.{cases_lt}
use Rattle.std.proofs.lemmas.Nat.{le-div, mod_below, div-add-mod', mul-le}
use Rattle.stream_lists.specs.Spans.{turns_below}

-- what is more than a multiple is not less than a further one
pub row : (a m : ℕ) → (a + 1) * m ≡ a * m + m
row a m = let one : 1 * m ≡ m = omega arith in add-mul a 1 m ∙ ap (λ n. a * m + n) one

pub turns-mono : (m k a b : ℕ) → 0 < m → a ≤ b → turns_below m k a ≤ turns_below m k b
turns-mono m k a b some le =
    let split : (a + (m - 1 - k)) / m * m + (a + (m - 1 - k)) % m ≡ a + (m - 1 - k) =
    div-add-mod' (a + (m - 1 - k)) m in
    le-div ((a + (m - 1 - k)) / m) (b + (m - 1 - k)) m some (omega arith)

-- a turn of output number j is a step
pub turn-within : (m j n k : ℕ) → j < m → k < turns_below m j n → j + k * m < n
turn-within m j n k lt turn =
    let split : (n + (m - 1 - j)) / m * m + (n + (m - 1 - j)) % m ≡ n + (m - 1 - j) =
    div-add-mod' (n + (m - 1 - j)) m in
    let under : (k + 1) * m ≤ (n + (m - 1 - j)) / m * m =
    mul-le (k + 1) m ((n + (m - 1 - j)) / m) m (omega arith) (omega arith) in
    omega (arith, row k m)

-- a step is a turn of its input
pub turn-taken : (m i b : ℕ) → 0 < m → i < b → i / m < turns_below m (i % m) b
turn-taken m i b some lt =
    let split : i / m * m + i % m ≡ i = div-add-mod' i m in
    let rest : i % m < m = mod_below i m some in
    let next : (i / m + 1) * m ≡ i / m * m + m = row (i / m) m in
    let r : i / m + 1 ≤ (b + (m - 1 - i % m)) / m =
    le-div (i / m + 1) (b + (m - 1 - i % m)) m some (omega arith) in
    omega arith

-- input number k with as many values as its turns has not run out before
pub turns-before : (m k b v : ℕ) → k < m → turns_below m k b ≤ v → b ≤ k + m * v
turns-before m k b v lt le =
    let some : 0 < m = omega arith in
    let q = (b + (m - 1 - k)) / m in
    let split : q * m + (b + (m - 1 - k)) % m ≡ b + (m - 1 - k) =
    div-add-mod' (b + (m - 1 - k)) m in
    let rest : (b + (m - 1 - k)) % m < m = mod_below (b + (m - 1 - k)) m some in
    let more : q * m ≤ v * m = mul-le q m v m le (omega arith) in
    omega (arith, mul_comm m v)

-- the input that step b waits for has run out by then, where it has no more values than its turns
pub turns-after : (m b v : ℕ) → 0 < m → v ≤ turns_below m (b % m) b → b % m + m * v ≤ b
turns-after m b v some le =
    let r = b % m in
    let split : b / m * m + r ≡ b = div-add-mod' b m in
    let rest : r < m = mod_below b m some in
    let q = (b + (m - 1 - r)) / m in
    let whole : q * m + (b + (m - 1 - r)) % m ≡ b + (m - 1 - r) =
    div-add-mod' (b + (m - 1 - r)) m in
    let low : q ≤ b / m = below q (b / m) m (omega arith) in
    let more : v * m ≤ b / m * m = mul-le v m (b / m) m (omega arith) (omega arith) in
    omega (arith, mul_comm m v)
  where
    below : (q p m : ℕ) → q * m < p * m + m → q ≤ p
    below q p m lt = by (cases_lt p q)
      where
        by : (p < q) ⊎ (q ≤ p) → q ≤ p
        by (inr le) = le
        by (inl more) =
            let over : (p + 1) * m ≤ q * m = mul-le (p + 1) m q m (omega arith) (omega arith) in
            absurd (omega (arith, row p m))
