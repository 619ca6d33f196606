-- Waits for blocks: the limits of the phaser, and what is written.
use Rattle.std.proofs.Common.{◌≡◌, ℕ, ◌+◌, ◌-◌, ◌<◌, ◌≤◌, List, [], ◌∷◌, ◌++◌, Result, Ok, ℤ, pos, map, length, take, drop, set, get_or, slice_range, sym, ap, ◌∙◌, arith}
use Rattle.std.specs.List.{range_with_len}
use Rattle.std.proofs.Math.Seq.{take-append_seam}
use Rattle.std.proofs.lemmas.List.FromFn.{length-range_with_len}
use Rattle.std.proofs.lemmas.List.{append_assoc, drop_more, length-drop, length-map, length-take-le, map_more, set-append_right}
use Rattle.phase_base.specs.Limits.{Limits}
use Rattle.phase_accum.specs.declared.outcome.Outcome.{Outcome}
use Rattle.phase_history.specs.declared.got.GotBlock.{GotBlock}
use Rattle.phase_history.specs.declared.got.GotBlock.TheVariants as block
use Rattle.phase_history.specs.declared.refusal.WaitRefusal.{WaitRefusal}
use Rattle.phase_history.specs.Histories.{History, done_of}
use Rattle.phase_history.specs.Phases.{stream_of, value_of_phase}
use Rattle.phase_history.specs.Replies.{wait_block_reply}
use Rattle.phase_core.specs.Blocks.{written}
use Rattle.phase_history.proofs.BlockAnswers.{block_answers_law}
use Rattle.handle_numbers.specs.Blocks.{numbers_written, numbers_after}
use Rattle.handle_numbers.specs.Numbers.{value_number}

-- ---- what is written

-- the number of one more value is written
pub write-more : (values old : List ℤ) (outcomes : List Outcome) (k : ℕ) (d : Outcome)
    → k < length outcomes → length outcomes ≤ length old
    → values ≡ map value_number (take k outcomes) ++ drop k old
    → set values k (value_number (get_or outcomes k d))
    ≡ map value_number (take (k + 1) outcomes) ++ drop (k + 1) old
write-more values old outcomes k d within room is =
    let x = value_number (get_or outcomes k d) in
    let front = map value_number (take k outcomes) in
    let long : length front ≡ k =
    length-map (take k outcomes) value_number ∙ length-take-le k outcomes (omega arith) in
    let none : k - k ≡ 0 = omega arith in
    let behind : set (drop k old) (k - k) x ≡ x ∷ drop (k + 1) old =
    ap (λ i. set (drop k old) i x) none
    ∙ ap (λ l. set l 0 x) (drop_more old k (pos 0) (omega arith)) in
    ap (λ l. set l k x) is
    ∙ set-append_right front (drop k old) k k x long (omega arith)
    ∙ ap (λ l. front ++ l) behind
    ∙ sym (append_assoc front (x ∷ []) (drop (k + 1) old))
    ∙ ap (λ l. l ++ drop (k + 1) old) (sym (map_more value_number outcomes k d within))

-- what a wait that got so many phases wrote into its places
pub record Got (value : List ℤ → Outcome) (h : History) (first many : ℕ) (now : List Outcome)
    : Type 0 where
  pub are : take many now ≡ slice_range (stream_of value h) first (first + many)
  pub all : length (take many now) ≡ many

pub got_of : (value : List ℤ → Outcome) (limits : Limits) (h : History)
    (task n first many : ℕ) (old now : List Outcome)
    → wait_block_reply limits h task n ≡ Ok (block.Values first many)
    → now ≡ written (Ok (block.Values first many)) (stream_of value h) old
    → Got value h first many now
got_of value limits h task n first many old now reply is =
    let stream = stream_of value h in
    let outcomes = slice_range stream first (first + many) in
    let answered = block_answers_law value limits h task n first many reply in
    let long : length stream ≡ done_of h =
    length-map (range_with_len 0 (done_of h)) (value_of_phase value h)
    ∙ length-range_with_len 0 (done_of h) in
    let off : first + many - first ≡ many = omega arith in
    let complete : first + many ≤ done_of h = answered.complete in
    let rest : length (drop first stream) ≡ length stream - first = length-drop first stream in
    let all : length outcomes ≡ many =
    ap (λ i. length (take i (drop first stream))) off
    ∙ length-take-le many (drop first stream) (omega arith) in
    let are : take many now ≡ outcomes =
    ap (λ l. take many l) is ∙ ap (λ i. take i (outcomes ++ drop many old)) (sym all)
    ∙ take-append_seam outcomes (drop many old) in
    record { are = are; all = ap length are ∙ all }

-- the numbers of what was got
pub numbers-got : (value : List ℤ → Outcome) (h : History) (first many : ℕ)
    (now : List Outcome) (old new : List ℤ) → Got value h first many now
    → new ≡ map value_number (take many now) ++ drop (length (take many now)) old
    → new ≡ numbers_written first many (stream_of value h) old
numbers-got value h first many now old new got is =
    is ∙ ap (λ i. map value_number (take many now) ++ drop i old) got.all
    ∙ ap (λ l. map value_number l ++ drop many old) got.are

-- ---- replies

-- an answer that so many phases were got, from the first on
abbrev pub got : ℕ → ℕ → Result GotBlock WaitRefusal
got first many = Ok (block.Values first many)

-- two names of what was got have the same numbers
pub numbers-named : (first many phase count : ℕ) (stream : List Outcome) (old new : List ℤ)
    → got phase count ≡ got first many → new ≡ numbers_written phase count stream old
    → new ≡ numbers_written first many stream old
numbers-named first many phase count stream old new same is =
    is ∙ ap (λ r. numbers_after r stream old) same

-- the reply to a wait for as many phases as were asked for is that for as many as there are places
pub asked-reply : (limits : Limits) (h : History) (task places lent asked : ℕ)
    (answer : Result GotBlock WaitRefusal)
    → wait_block_reply limits h task places ≡ wait_block_reply limits h task asked
    → lent ≡ places → wait_block_reply limits h task lent ≡ answer
    → wait_block_reply limits h task asked ≡ answer
asked-reply limits h task places lent asked answer same long reply =
    sym same ∙ ap (λ n. wait_block_reply limits h task n) (sym long) ∙ reply
