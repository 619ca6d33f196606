-- How many values in range come next, and what a wait for so many is answered.
use Rattle.std.proofs.Common.{◌≡◌, ℕ, zero, suc, ◌+◌, ◌-◌, ◌<◌, ◌≤◌, min, ℤ, List, [], ◌∷◌, Result, Ok, Err, length, take, drop, slice_index_or, refl, sym, ap, ◌∙◌, arith}
use Rattle.std.specs.Prelude.{slice_range}
use Rattle.std.specs.List.{range_with_len, take_while}
use Rattle.std.proofs.lemmas.List.{drop_more, length-take, length-map}
use Rattle.std.proofs.lemmas.List.FromFn.{length-range_with_len}
use Rattle.std.proofs.lemmas.List.Sums.{take_while-cons}
use Rattle.phase_base.specs.Limits.{Limits}
use Rattle.phase_accum.specs.declared.outcome.Outcome.{Outcome}
use Rattle.phase_accum.specs.declared.outcome.Outcome.TheVariants.{Value, Empty, TooBig}
use Rattle.phase_history.specs.declared.got.GotBlock.{GotBlock}
use Rattle.phase_history.specs.declared.got.GotBlock.TheVariants as got
use Rattle.phase_history.specs.declared.refusal.WaitRefusal.{WaitRefusal}
use Rattle.phase_history.specs.Histories.{History, done_of, wait_phase}
use Rattle.phase_history.specs.Phases.{stream_of, value_of_phase}
use Rattle.phase_history.specs.Replies.{wait_block_reply, got_block_at, refused_or}
use Rattle.phase_history.proofs.BlockAnswers.{block_tells, wait_refusal-fewer}
use Rattle.phase_core.specs.Blocks.{before_too_big, is_not_too_big}
use Rattle.phase_core.proofs.WaitCore.{got_block_values}
pub use Rattle.phase_ring.proofs.GoodParts.{good-few}

-- ---- the reply

-- the wait for the block was answered so many values, of which so many come before the first that
-- is too big
record OfBlock (stream : List Outcome) (reply : Result GotBlock WaitRefusal) (phase count : ℕ)
    : Type 0 where
  complete : ℕ
  replied : reply ≡ Ok (got.Values phase complete)
  count_is : length (take_while is_not_too_big (slice_range stream phase (phase + complete)))
      ≡ count

got_before : (stream : List Outcome) (reply : Result GotBlock WaitRefusal) (phase count : ℕ)
    → before_too_big stream reply ≡ Ok (got.Values phase count) → OfBlock stream reply phase count
got_before stream (Ok (got.Values first many)) phase count is =
    let f : first ≡ phase = (cc) in
    let many_is : length (take_while is_not_too_big (slice_range stream first (first + many))) ≡ count = (cc) in
    record {
      complete = many;
      replied = ap (λ p. Ok (got.Values p many)) f;
      count_is = rw f at many_is;
    }
got_before stream (Ok got.Ended) phase count is = absurd (cc)
got_before stream (Err refusal) phase count is = absurd (cc)

-- a wait for fewer phases than are complete, at least one, gets just these
fewer_got : (limits : Limits) (h : History) (task n phase complete count : ℕ)
    → wait_block_reply limits h task n ≡ Ok (got.Values phase complete) → 0 < count
    → count ≤ complete → wait_block_reply limits h task count ≡ Ok (got.Values phase count)
fewer_got limits h task n phase complete count reply some few =
    let t = block_tells limits h task n phase complete reply in
    let w = wait_phase h task in
    let below = t.below in
    let many = t.count_is in
    let all : min count (done_of h - w) ≡ count = omega arith in
    ap (λ r. refused_or r (got_block_at h w count))
    (wait_refusal-fewer limits h task n count t.accepted (omega arith) (omega arith))
    ∙ ap (λ g. Ok g) (got_block_values h w count (done_of h) refl below)
    ∙ ap (λ k. Ok (got.Values w k)) all ∙ ap (λ p. Ok (got.Values p count)) (sym t.phase_is)

-- where it got values, it is a wait for just so many
pub good_block : (stream : List Outcome) (limits : Limits) (h : History)
    (task n phase count : ℕ)
    → before_too_big stream (wait_block_reply limits h task n) ≡ Ok (got.Values phase count)
    → 0 < count → wait_block_reply limits h task count ≡ Ok (got.Values phase count)
good_block stream limits h task n phase count reply some =
    let b = got_before stream (wait_block_reply limits h task n) phase count reply in
    let many = b.count_is in
    let xs = slice_range stream phase (phase + b.complete) in
    fewer_got limits h task n phase b.complete count b.replied some
    (omega (arith, good-few xs, length-take (phase + b.complete - phase) (drop phase stream)))

head-too_big : (k : ℕ) (x : Outcome) (rest : List Outcome) → 0 < k
    → length (take_while is_not_too_big (take k (x ∷ rest))) ≡ 0 → x ≡ TooBig
head-too_big zero x rest some none = absurd (omega arith)
head-too_big (suc k) (Value v) rest some none =
    absurd (let l = ap length (take_while-cons is_not_too_big (Value v) (take k rest)) in omega arith)
head-too_big (suc k) Empty rest some none =
    absurd (let l = ap length (take_while-cons is_not_too_big Empty (take k rest)) in omega arith)
head-too_big (suc k) TooBig rest some none = refl

-- where it got none, the first value is too big
pub none_good : (value : List ℤ → Outcome) (limits : Limits) (h : History) (task n phase : ℕ)
    → before_too_big (stream_of value h) (wait_block_reply limits h task n)
    ≡ Ok (got.Values phase 0)
    → (wait_block_reply limits h task 1 ≡ Ok (got.Values phase 1))
    × (slice_range (stream_of value h) phase (phase + 1) ≡ TooBig ∷ [])
none_good value limits h task n phase reply =
    let xs = stream_of value h in
    let b = got_before xs (wait_block_reply limits h task n) phase 0 reply in
    let t = block_tells limits h task n phase b.complete b.replied in
    let below = t.below in
    let at = t.phase_is in
    let asked = t.asked in
    let many = t.count_is in
    let long : length xs ≡ done_of h = length-map (range_with_len 0 (done_of h)) (value_of_phase value h) ∙ length-range_with_len 0 (done_of h) in
    let x = slice_index_or xs phase TooBig in
    let rest = drop (phase + 1) xs in
    let split : drop phase xs ≡ x ∷ rest = drop_more xs phase TooBig (omega arith) in
    let none : length (take_while is_not_too_big (take (phase + b.complete - phase) (x ∷ rest))) ≡ 0 =
    rw split at b.count_is in
    let first : x ≡ TooBig = head-too_big (phase + b.complete - phase) x rest (omega arith) none in (
      fewer_got limits h task n phase b.complete 1 b.replied (omega arith) (omega arith),
      ap (λ k. take k (drop phase xs)) (let one : phase + 1 - phase ≡ 1 = omega arith in one)
          ∙ ap (take 1) split ∙ ap (λ y. y ∷ []) first,
    )
