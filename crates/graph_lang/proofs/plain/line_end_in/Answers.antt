-- One byte, or two, of the text.
use Rattle.std.proofs.Common.{[], ◌∷◌, ◌≡◌, ◌<◌, ◌≤◌, length, drop, inl, inr, refl, ap, ◌∙◌, arith, get_or, List, ℕ}
use Rattle.graph_lang.proofs.plain.line_end_in.Goals as goal

-- the first byte
first : (xs : List ℕ) (b : ℕ) → 0 < b → get_or xs 0 0 ≡ b → xs ≡ b ∷ drop 1 xs
first [] b some is = absurd (omega arith)
first (x ∷ xs) b some is = ap (λ c. c ∷ xs) is

-- the first two
second : (xs : List ℕ) (b c : ℕ) → 2 ≤ length xs → get_or xs 0 0 ≡ b → get_or xs 1 0 ≡ c → xs ≡ b ∷ c ∷ drop 2 xs
second [] b c some is then = absurd (omega arith)
second (x ∷ []) b c some is then = absurd (omega arith)
second (x ∷ y ∷ xs) b c some is then = ap (λ d. d ∷ y ∷ xs) is ∙ ap (λ d. b ∷ d ∷ xs) then

pub returns-then-text-eq10 : goal.returns-then-text-eq10
returns-then-text-eq10 c =
    let text_is = first c.args.text.now 10 (omega arith) c.if-text-eq10.true in
    record {
      some = record {
        end = 10 ∷ [];
        ends = inl refl;
        text_is = text_is;
        within = omega (arith, ap length text_is);
      };
    }

pub returns-then-text-eq10-2 : goal.returns-then-text-eq10-2
returns-then-text-eq10-2 c = record {
  some = record {
    end = 13 ∷ 10 ∷ [];
    ends = inr (inl refl);
    text_is = second c.args.text.now 13 10 c.if-text-ge2.true c.if-text-eq13.true c.if-text-eq10-2.true;
    within = c.if-text-ge2.true;
  };
}
