-- The laws of the outputs.
use Rattle.std.proofs.Common.{◌≡◌, ℕ, zero, suc, ◌+◌, ◌-◌, ◌*◌, ◌/◌, ◌^◌, ◌<◌, ◌≤◌, List, [], ◌∷◌, ◌++◌, length, get_or, map, reverse, take, drop, ℤ, pos, negsuc, neg_ℤ, ◌+ℤ◌, ◌*ℤ◌, ◌≤ℤ◌, ◌<ℤ◌, refl, sym, ap, ◌∙◌, zero-add, arith, ◌⊎◌, inl, inr}
use Rattle.std.specs.List.{range_with_len}
use Rattle.std.proofs.Math.IntN.{+ℤ_one}
use Rattle.std.proofs.Math.ListN.{drop_of_length-le}
use Rattle.std.proofs.lemmas.Bool.{cases_lt}
use Rattle.std.proofs.lemmas.Int.{ints}
use Rattle.std.proofs.lemmas.Nat.{pow_pos}
use Rattle.std.proofs.lemmas.List.{append-nil, append_assoc, same_lists, take_all, take-append-drop, length-reverse, length-take, length-take-le, get_or-reverse, get_or-take, get_or_past, get_or_default, get_or_append_left, reverse-append, map-append}
use Rattle.std.proofs.lemmas.List.FromFn.{length-map-range_with_len, get_or-map-range_with_len}
use Rattle.stream_filters.specs.declared.form.Form.{Form}
use Rattle.stream_filters.specs.Filter.{IsPlainForm, back, output_after, output_behind, output_seen, outputs, outputs_behind, outputs_of_block, put_of, puts_of, shifted_down, summed, taps_again, taps_ahead, weighted, with_single}
use Rattle.stream_filters.specs.Weighing.{weighed_after, weighed_behind}

-- two functions that agree below n give the same n values
pub map-range_with_len_same : (f g : ℕ → ℤ) (n : ℕ) → ((k : ℕ) → k < n → f k ≡ g k)
    → map f (range_with_len 0 n) ≡ map g (range_with_len 0 n)
map-range_with_len_same f g n same =
    same_lists _ _ (length-map-range_with_len f 0 n ∙ sym (length-map-range_with_len g 0 n)) (λ k d lt.
    let below : k < n = omega (arith, length-map-range_with_len f 0 n) in
    get_or-map-range_with_len f 0 n k k d below (zero-add k)
    ∙ (same k below ∙ sym (get_or-map-range_with_len g 0 n k k d below (zero-add k))))

pub back_is : (samples : List ℤ) (n j : ℕ) → length samples ≡ n + 1 → j ≤ n → back samples j ≡ get_or samples (n - j) (pos 0)
back_is samples n j len le =
    let lt : j < length samples = omega arith in
    let place : length samples - 1 - j ≡ n - j = omega arith in
    get_or-reverse samples j (pos 0) lt ∙ ap (λ k. get_or samples k (pos 0)) place

pub back-before : (samples : List ℤ) (j : ℕ) → length samples ≤ j → back samples j ≡ pos 0
back-before samples j le = get_or_past (reverse samples) j (pos 0) (omega (arith, length-reverse samples))

-- the samples up to the one that stands so many before the last
pub back-earlier : (samples : List ℤ) (delay j : ℕ)
    → back (take (length samples - delay) samples) j ≡ back samples (delay + j)
back-earlier samples delay j = by (cases_lt (delay + j) (length samples))
  where
    by : (delay + j < length samples) ⊎ (length samples ≤ delay + j)
        → back (take (length samples - delay) samples) j ≡ back samples (delay + j)
    by (inl below) =
        let n = length samples - delay in
        let count : n ≡ n - 1 + 1 = omega arith in
        let len : length (take n samples) ≡ n - 1 + 1 =
        length-take-le n samples (omega arith) ∙ count in
        let whole : length samples ≡ length samples - 1 + 1 = omega arith in
        let place : n - 1 - j ≡ length samples - 1 - (delay + j) = omega arith in
        back_is (take n samples) (n - 1) j len (omega arith)
        ∙ (get_or-take n samples (n - 1 - j) (pos 0) (omega arith)
        ∙ (ap (λ i. get_or samples i (pos 0)) place
        ∙ sym (back_is samples (length samples - 1) (delay + j) whole (omega arith))))
    by (inr past) =
        let n = length samples - delay in
        back-before (take n samples) j (omega (arith, length-take n samples))
        ∙ sym (back-before samples (delay + j) past)

-- ---- outputs behind others

-- what comes behind hangs on what was taken, and on what was put
pub behind-append : (taps : List ℤ) (form : Form) (taken puts xs ys : List ℤ)
    → outputs_behind taps form taken puts (xs ++ ys)
    ≡ outputs_behind taps form taken puts xs ++ outputs_behind taps form (taken ++ xs)
    (puts ++ map put_of (outputs_behind taps form taken puts xs)) ys
behind-append taps form taken puts [] ys =
    sym (ap (λ t. outputs_behind taps form t (puts ++ []) ys) (append-nil taken)
    ∙ ap (λ p. outputs_behind taps form taken p ys) (append-nil puts))
behind-append taps form taken puts (x ∷ xs) ys =
    let next = taken ++ x ∷ [] in
    let y = output_behind taps form next puts in
    let more = puts ++ put_of y ∷ [] in
    let rest = outputs_behind taps form next more xs in
    ap (λ l. y ∷ l) (
    behind-append taps form next more xs ys
    ∙ ap (λ t. rest ++ outputs_behind taps form t (more ++ map put_of rest) ys)
    (append_assoc taken (x ∷ []) xs)
    ∙ ap (λ p. rest ++ outputs_behind taps form (taken ++ x ∷ xs) p ys)
    (append_assoc puts (put_of y ∷ []) (map put_of rest))
    )

pub length-outputs_behind : (taps : List ℤ) (form : Form) (taken puts xs : List ℤ)
    → length (outputs_behind taps form taken puts xs) ≡ length xs
length-outputs_behind taps form taken puts [] = refl
length-outputs_behind taps form taken puts (x ∷ xs) =
    let y = output_behind taps form (taken ++ x ∷ []) puts in
    ap suc (length-outputs_behind taps form (taken ++ x ∷ []) (puts ++ put_of y ∷ []) xs)

-- the outputs at the first samples are the first outputs
pub behind-take : (n : ℕ) (taps : List ℤ) (form : Form) (taken puts xs : List ℤ)
    → outputs_behind taps form taken puts (take n xs)
    ≡ take n (outputs_behind taps form taken puts xs)
behind-take zero taps form taken puts xs = refl
behind-take (suc n) taps form taken puts [] = refl
behind-take (suc n) taps form taken puts (x ∷ xs) =
    let next = taken ++ x ∷ [] in
    let y = output_behind taps form next puts in
    ap (λ ys. y ∷ ys) (behind-take n taps form next (puts ++ put_of y ∷ []) xs)

-- the outputs of a block behind those of what was taken
pub outputs-block : (taps : List ℤ) (form : Form) (taken xs : List ℤ)
    → outputs taps form (taken ++ xs)
    ≡ outputs taps form taken ++ outputs_of_block taps form taken xs
outputs-block taps form taken xs = behind-append taps form [] [] taken xs

pub back-zero : (samples : List ℤ) (x : ℤ) → back (samples ++ x ∷ []) 0 ≡ x
back-zero samples x = ap (λ s. get_or s 0 (pos 0)) (reverse-append samples (x ∷ []))

pub back-suc : (samples : List ℤ) (x : ℤ) (j : ℕ) → back (samples ++ x ∷ []) (suc j) ≡ back samples j
back-suc samples x j = ap (λ s. get_or s (suc j) (pos 0)) (reverse-append samples (x ∷ []))

-- the output at one more sample
pub output_after-push : (taps : List ℤ) (form : Form) (samples : List ℤ) (x : ℤ)
    → output_after taps form (samples ++ x ∷ [])
    ≡ output_behind taps form (samples ++ x ∷ []) (puts_of taps form samples)
output_after-push taps form samples x =
    ap (λ l. back l 0) (outputs-block taps form samples (x ∷ []))
    ∙ back-zero (outputs taps form samples) _

pub outputs-push : (taps : List ℤ) (form : Form) (samples : List ℤ) (x : ℤ)
    → outputs taps form (samples ++ x ∷ []) ≡ outputs taps form samples ++ output_after taps form (samples ++ x ∷ []) ∷ []
outputs-push taps form samples x =
    outputs-block taps form samples (x ∷ [])
    ∙ ap (λ z. outputs taps form samples ++ z ∷ []) (sym (output_after-push taps form samples x))

-- what is put at one more sample
pub puts_of-push : (taps : List ℤ) (form : Form) (samples : List ℤ) (x : ℤ)
    → puts_of taps form (samples ++ x ∷ [])
    ≡ puts_of taps form samples ++ put_of (output_after taps form (samples ++ x ∷ [])) ∷ []
puts_of-push taps form samples x =
    ap (map put_of) (outputs-push taps form samples x)
    ∙ map-append put_of (outputs taps form samples) (output_after taps form (samples ++ x ∷ []) ∷ [])

pub length-outputs_of_block : (taps : List ℤ) (form : Form) (taken xs : List ℤ)
    → length (outputs_of_block taps form taken xs) ≡ length xs
length-outputs_of_block taps form taken xs =
    length-outputs_behind taps form taken (puts_of taps form taken) xs

pub outputs_of_block-append : (taps : List ℤ) (form : Form) (taken xs ys : List ℤ)
    → outputs_of_block taps form taken (xs ++ ys)
    ≡ outputs_of_block taps form taken xs ++ outputs_of_block taps form (taken ++ xs) ys
outputs_of_block-append taps form taken xs ys =
    let block = outputs_of_block taps form taken xs in
    let puts : puts_of taps form taken ++ map put_of block ≡ puts_of taps form (taken ++ xs) =
    sym (ap (map put_of) (outputs-block taps form taken xs)
    ∙ map-append put_of (outputs taps form taken) block) in
    behind-append taps form taken (puts_of taps form taken) xs ys
    ∙ ap (λ p. block ++ outputs_behind taps form (taken ++ xs) p ys) puts

-- the output at the only sample of a block
pub outputs_of_block-one : (taps : List ℤ) (form : Form) (taken : List ℤ) (x : ℤ)
    → outputs_of_block taps form taken (x ∷ []) ≡ output_after taps form (taken ++ x ∷ []) ∷ []
outputs_of_block-one taps form taken x =
    ap (λ z. z ∷ []) (sym (output_after-push taps form taken x))

pub outputs-length : (taps : List ℤ) (form : Form) (samples : List ℤ)
    → length (outputs taps form samples) ≡ length samples
outputs-length taps form samples = length-outputs_behind taps form [] [] samples

pub outputs-entry : (taps : List ℤ) (form : Form) (samples : List ℤ) (n : ℕ) (default : ℤ)
    → n < length samples
    → get_or (outputs taps form samples) n default ≡ output_after taps form (take (n + 1) samples)
outputs-entry taps form samples n default lt =
    let first = take (n + 1) samples in
    let rest = drop (n + 1) samples in
    let long : length (outputs taps form first) ≡ n + 1 =
    outputs-length taps form first ∙ length-take-le (n + 1) samples (omega arith) in
    let none : n - 0 ≡ n = omega arith in
    ap (λ l. get_or (outputs taps form l) n default) (sym (take-append-drop (n + 1) samples))
    ∙ (ap (λ l. get_or l n default) (outputs-block taps form first rest)
    ∙ (get_or_append_left (outputs taps form first) (outputs_of_block taps form first rest) default n (omega arith)
    ∙ (get_or_default (outputs taps form first) n default (pos 0) (omega arith)
    ∙ sym (back_is (outputs taps form first) n 0 long (omega arith)
    ∙ ap (λ i. get_or (outputs taps form first) i (pos 0)) none))))

-- ---- filters that look at samples alone

-- nothing is added
adds_none : (z : ℤ) → z +ℤ pos 0 ≡ z
adds_none z = omega (arith, ints)

-- their output hangs on no puts
pub alone-seen : (taps : List ℤ) (form : Form) (samples puts : ℕ → ℤ) → form.again ≡ 0
    → output_seen taps form samples puts
    ≡ with_single form.single (shifted_down (summed samples taps form) form.shift)
alone-seen taps form samples puts none =
    let ahead : taps_ahead taps form ≡ taps =
    take_all (length taps - form.again) taps (omega arith) in
    let again : taps_again taps form ≡ [] = drop_of_length-le taps (omega arith) in
    ap (λ l. with_single form.single (shifted_down (summed samples l form
    +ℤ weighted puts (taps_again taps form)) form.shift)) ahead
    ∙ (ap (λ l. with_single form.single (shifted_down (summed samples taps form
    +ℤ weighted puts l) form.shift)) again
    ∙ ap (λ z. with_single form.single (shifted_down z form.shift))
    (adds_none (summed samples taps form)))

-- so it is that of the last samples
pub alone-after : (taps : List ℤ) (form : Form) (samples : List ℤ) (x : ℤ) → form.again ≡ 0
    → output_after taps form (samples ++ x ∷ []) ≡ with_single form.single
    (shifted_down (summed (back (samples ++ x ∷ [])) taps form) form.shift)
alone-after taps form samples x none =
    output_after-push taps form samples x
    ∙ alone-seen taps form (back (samples ++ x ∷ [])) (back (puts_of taps form samples)) none

pub plain-seen : (taps : List ℤ) (form : Form) (samples puts : ℕ → ℤ) → IsPlainForm form
    → output_seen taps form samples puts ≡ shifted_down (summed samples taps form) form.shift
plain-seen taps form samples puts plain =
    alone-seen taps form samples puts plain.again_none
    ∙ ap (λ s. with_single s (shifted_down (summed samples taps form) form.shift)) plain.single_none

pub plain-behind : (taps : List ℤ) (form : Form) (taken puts xs : List ℤ) → IsPlainForm form
    → outputs_behind taps form taken puts xs ≡ weighed_behind taps form taken xs
plain-behind taps form taken puts [] plain = refl
plain-behind taps form taken puts (x ∷ xs) plain =
    let next = taken ++ x ∷ [] in
    let y = output_behind taps form next puts in
    ap (λ v. v ∷ outputs_behind taps form next (puts ++ put_of y ∷ []) xs)
    (plain-seen taps form (back next) (back puts) plain)
    ∙ ap (λ l. weighed_after taps form next ∷ l)
    (plain-behind taps form next (puts ++ put_of y ∷ []) xs plain)

-- ---- shifts

-- n is between its quotient's multiple and the next
div-below : (n m : ℕ) → 0 < m → n / m * m ≤ n
div-below n m pos_m = omega arith

div-above : (n m : ℕ) → 0 < m → n < (n / m + 1) * m
div-above n m pos_m = omega arith

neg-above : (n k : ℕ) → k < suc n → negsuc n <ℤ neg_ℤ (pos k)
neg-above n k lt = omega (arith, ints)

neg-below : (n k : ℕ) → suc n ≤ k → neg_ℤ (pos k) ≤ℤ negsuc n
neg-below n k le = omega (arith, ints)

-- one above the quotient -(q + 1)
next-quotient : (q m : ℕ) → (negsuc q +ℤ pos 1) *ℤ pos m ≡ neg_ℤ (pos (q * m))
next-quotient zero m = let none : 0 * m ≡ 0 = omega arith in rw none refl
next-quotient (suc q) m = ap (λ z. z *ℤ pos m) (+ℤ_one (negsuc (suc q)))

pub shifted_down-below : (z : ℤ) (shift : ℕ) → (shifted_down z shift *ℤ pos (2 ^ shift)) ≤ℤ z
shifted_down-below (pos n) shift =
    let below = div-below n (2 ^ shift) (pow_pos shift) in omega (arith, ints)
shifted_down-below (negsuc n) shift =
    neg-below n (suc (n / 2 ^ shift) * 2 ^ shift) (let above = div-above n (2 ^ shift) (pow_pos shift) in omega arith)

pub shifted_down-above : (z : ℤ) (shift : ℕ) → z <ℤ ((shifted_down z shift +ℤ pos 1) *ℤ pos (2 ^ shift))
shifted_down-above (pos n) shift =
    let above = div-above n (2 ^ shift) (pow_pos shift) in omega (arith, ints)
shifted_down-above (negsuc n) shift =
    rw (next-quotient (n / 2 ^ shift) (2 ^ shift))
    (neg-above n (n / 2 ^ shift * 2 ^ shift) (let below = div-below n (2 ^ shift) (pow_pos shift) in omega arith))
