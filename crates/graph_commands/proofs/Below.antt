-- Texts of what stands at the numbers below one.
use Rattle.std.proofs.Common.{◌≡◌, ℕ, zero, suc, ◌+◌, ◌-◌, ◌<◌, ◌≤◌, List, [], ◌∷◌, ◌++◌, ap, sym, subst, ◌∙◌, arith, zero-add, append_assoc}
use Rattle.std.specs.declared.option.Option.{Option}
use Rattle.graph_commands.specs.Puts.{PutsBytes}
use Rattle.graph_commands.proofs.Putting.{Puts-append}
use Rattle.std.specs.List.{flat_map, range_with_len}
use Rattle.std.proofs.lemmas.Grind.{flat_map-append}
use Rattle.stream_lists.proofs.Firsts.{range_more}
use Rattle.watched_io.proofs.Items.{flat_map-push}

pub range-parts : (a k m : ℕ) → range_with_len a (k + m) ≡ range_with_len a k ++ range_with_len (a + k) m
range-parts a zero m =
    let none : zero + m ≡ m = omega arith in
    let same : a ≡ a + zero = omega arith in
    ap (range_with_len a) none ∙ ap (λ b. range_with_len b m) same
range-parts a (suc k) m =
    let longer : suc k + m ≡ suc (k + m) = omega arith in
    let from : a + 1 + k ≡ a + suc k = omega arith in
    ap (range_with_len a) longer
    ∙ ap (λ xs. a ∷ xs) (range-parts (a + 1) k m ∙ ap (λ b. range_with_len (a + 1) k ++ range_with_len b m) from)

-- one number more
pub below-more : (f : ℕ → List ℕ) (n : ℕ)
    → flat_map f (range_with_len 0 (n + 1)) ≡ flat_map f (range_with_len 0 n) ++ f n
below-more f n =
    ap (flat_map f) (range_more 0 n ∙ ap (λ k. range_with_len 0 n ++ k ∷ []) (zero-add n))
    ∙ flat_map-push f [] (range_with_len 0 n) n

-- the numbers from k on
abbrev pub from_on : (ℕ → List ℕ) → ℕ → ℕ → List ℕ
from_on f k n = flat_map f (range_with_len k (n - k))

below-rest : (f : ℕ → List ℕ) (k n : ℕ) → k ≤ n
    → flat_map f (range_with_len 0 n) ≡ flat_map f (range_with_len 0 k) ++ from_on f k n
below-rest f k n le =
    let parts : n ≡ k + (n - k) = omega arith in
    let at : 0 + k ≡ k = omega arith in
    ap (λ m. flat_map f (range_with_len 0 m)) parts
    ∙ (ap (flat_map f) (range-parts 0 k (n - k)
    ∙ ap (λ b. range_with_len 0 k ++ range_with_len b (n - k)) at)
    ∙ flat_map-append f (range_with_len 0 k) (range_with_len k (n - k)))

-- the whole, by the numbers below k, k itself and those behind it
pub below-parts : (f : ℕ → List ℕ) (k n : ℕ) → k < n
    → flat_map f (range_with_len 0 n)
    ≡ (flat_map f (range_with_len 0 k) ++ f k) ++ from_on f (k + 1) n
below-parts f k n lt =
    below-rest f (k + 1) n (omega arith) ∙ ap (λ l. l ++ from_on f (k + 1) n) (below-more f k)

-- the same behind a head
headed-more : (head : List ℕ) (f : ℕ → List ℕ) (n : ℕ)
    → head ++ flat_map f (range_with_len 0 (n + 1)) ≡ (head ++ flat_map f (range_with_len 0 n)) ++ f n
headed-more head f n =
    ap (λ l. head ++ l) (below-more f n) ∙ sym (append_assoc head (flat_map f (range_with_len 0 n)) (f n))

pub headed-parts : (head : List ℕ) (f : ℕ → List ℕ) (k n : ℕ) → k < n
    → head ++ flat_map f (range_with_len 0 n)
    ≡ ((head ++ flat_map f (range_with_len 0 k)) ++ f k) ++ from_on f (k + 1) n
headed-parts head f k n lt =
    let first = flat_map f (range_with_len 0 k) in
    ap (λ l. head ++ l) (below-parts f k n lt)
    ∙ (sym (append_assoc head (first ++ f k) (from_on f (k + 1) n))
    ∙ ap (λ l. l ++ from_on f (k + 1) n) (sym (append_assoc head first (f k))))

-- one more text is put behind them
pub puts-more : (old mid new : Option (List ℕ)) (between after head : List ℕ) (f : ℕ → List ℕ) (n : ℕ)
    → PutsBytes old mid [] between (head ++ flat_map f (range_with_len 0 n))
    → PutsBytes mid new between after (f n)
    → PutsBytes old new [] after (head ++ flat_map f (range_with_len 0 (n + 1)))
puts-more old mid new between after head f n before more =
    subst (λ (text : List ℕ). PutsBytes old new [] after text) (sym (headed-more head f n))
    (Puts-append old mid new [] between after (head ++ flat_map f (range_with_len 0 n)) (f n) before more)
