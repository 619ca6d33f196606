-- The kept prefix of a line is answered as the whole line is.
use Rattle.std.proofs.Common.{◌≡◌, ℕ, ◌+◌, ◌-◌, ◌≤◌, List, ◌++◌, length, take, slice_index, nat_eq, sym, ◌∙◌, ap, arith, inl, inr}
use Rattle.std.proofs.lemmas.Bool.{cond_both, cases_lt}
use Rattle.std.proofs.lemmas.List.{take_all, take-take, take-append-le, length-take-le}
use Rattle.phase_base.specs.Lists.{without_cr}
use Rattle.phase_replay.specs.Scripts.{ScriptState, reply_line_of, after_line}
use Rattle.phase_replay.proofs.LongLine.{long_line}

-- at most one byte is cut
pub length-without_cr : (line : List ℕ) → length line ≤ length (without_cr line) + 1
length-without_cr line =
    cond_both (nat_eq (slice_index line (length line - 1)) 13) (take (length line - 1) line) line (λ cut. length line ≤ length cut + 1)
    (λ _. omega (arith, length-take-le (length line - 1) line (omega arith)))
    (λ _. omega arith)

-- two lines have one reply, and leave one state behind
pub record AreAnsweredAlike (state : ScriptState) (line other : List ℕ) : Type 0 where
  pub reply : reply_line_of state line ≡ reply_line_of state other
  pub after : after_line state line ≡ after_line state other

pub long_lines_alike : (state : ScriptState) (line other : List ℕ) → 362 ≤ length line → 362 ≤ length other → AreAnsweredAlike state line other
long_lines_alike state line other h k =
    let p = long_line state line h in
    let q = long_line state other k in
    record { reply = p.0 ∙ sym q.0; after = p.1 ∙ sym q.1 }

-- the kept prefix of a line is answered as the line is
pub kept_alike : (state : ScriptState) (prefix : List ℕ) → AreAnsweredAlike state (without_cr (take 363 prefix)) (without_cr prefix)
kept_alike state prefix = elim (cases_lt 363 (length prefix)) [
  | inl long ↦
      let cut : length (take 363 prefix) ≡ 363 = length-take-le 363 prefix (omega arith) in
      long_lines_alike state (without_cr (take 363 prefix)) (without_cr prefix)
      (omega (arith, length-without_cr (take 363 prefix)))
      (omega (arith, length-without_cr prefix))
  | inr short ↦ let same : take 363 prefix ≡ prefix = take_all 363 prefix short in record {
    reply = ap (λ l. reply_line_of state (without_cr l)) same;
    after = ap (λ l. after_line state (without_cr l)) same;
  }
]

-- bytes behind the kept prefix are kept as they are behind the line
pub take-kept_more : (n : ℕ) (prefix bs : List ℕ) → take n (take n prefix ++ bs) ≡ take n (prefix ++ bs)
take-kept_more n prefix bs = elim (cases_lt n (length prefix)) [
  | inl long ↦
      let cut : length (take n prefix) ≡ n = length-take-le n prefix (omega arith) in
      take-append-le n (take n prefix) bs (omega arith) ∙ take-take n n prefix (omega arith) ∙ sym (take-append-le n prefix bs (omega arith))
  | inr short ↦ ap (λ l. take n (l ++ bs)) (take_all n prefix short)
]
