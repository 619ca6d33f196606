-- What is ahead of a task that waits.
use Rattle.std.proofs.Common.{◌≡◌, ℕ, ℤ, List, zero, suc, ◌+◌, ◌-◌, ◌<◌, ◌≤◌, Bool, true, false, cond, [], ◌∷◌, ◌++◌, Option, Some, None, length, get_or, slice_get, take, drop, take-take, refl, sym, ap, subst, ◌∙◌, arith}
use Rattle.std.specs.Prelude.{Result, Ok, Err, min, nat_lt, slice_range}
use Rattle.std.specs.List.{position_from, prefix_len, range_with_len, take_while}
use Rattle.std.proofs.Math.Seq.{drop-cons}
use Rattle.std.proofs.lemmas.Bool.{lt-ltb}
use Rattle.std.proofs.lemmas.List.{length-map}
use Rattle.std.proofs.lemmas.Option.{same_Some}
use Rattle.std.proofs.lemmas.List.FromFn.{get_or-map-range_with_len, length-range_with_len}
use Rattle.phase_accum.specs.declared.outcome.Outcome.{Outcome}
use Rattle.phase_accum.specs.declared.outcome.Outcome.TheVariants as outcome
use Rattle.phase_core.specs.Blocks.{before_too_big, is_not_too_big}
use Rattle.phase_history.specs.declared.got.Got.TheVariants as got
use Rattle.phase_history.specs.declared.got.GotBlock.{GotBlock}
use Rattle.phase_history.specs.declared.got.GotBlock.TheVariants as block
use Rattle.phase_history.specs.declared.refusal.WaitRefusal.{WaitRefusal}
use Rattle.phase_history.specs.Histories.{History, done_of, wait_phase}
use Rattle.phase_history.specs.Phases.{stream_of, value_of_phase}
use Rattle.phase_history.specs.Refusals.{wait_refusal}
use Rattle.phase_history.specs.Replies.{got_at, got_block_at, refused_or, wait_block_reply, wait_reply}
use Rattle.phase_base.specs.Limits.{Limits}
use Rattle.phase_core.proofs.GoodAhead.{good-few, good_block, none_good}
use Rattle.phase_history.proofs.BlockAnswers.{block_answers_law, block_tells}
use Rattle.graph_base.specs.declared.place.Place.TheVariants as place
use Rattle.stream_lists.specs.Jobs.{Job}
use Rattle.stream_lists.specs.Lists.{is_sink_at}
use Rattle.stream_lists.specs.Ranges.{is_too_big}
use Rattle.graph_runs.specs.Answers as answers
use Rattle.graph_base.specs.Graphs.{task_at}
use Rattle.graph_runs.specs.Answers.{Answer, answer_up_to, block_answer, makes, tells_up_to, told_got, told_wait, turn_up_to, wait_answer, word_of_answer}
use Rattle.graph_runs.specs.Moments.{Moment, input_at, limits_at, value_at}
use Rattle.graph_runs.proofs.Blocks.{block_few, block_some}
use Rattle.graph_runs.specs.Nexts as turns
use Rattle.graph_runs.specs.Nexts.{Next, next_of}
use Rattle.graph_runs.specs.TaskEvents.{exchange_wait, first_wait}
use Rattle.stream_job.specs.InRange.{IsGoodSize, TellsNoFault, is_no_fault, stands_before, told_too_big}
use Rattle.stream_job.specs.Machines.{IsMachineAt, most_in}
use Rattle.stream_job.specs.Stepping.{HasRoomAt, HasRoomIn, IsNextIn}
use Rattle.stream_job.specs.Turning.{turn_in}
use Rattle.stream_job.specs.declared.machine.Machine.{Machine}
use Rattle.stream_job.specs.declared.task_state.TaskState.{TaskState}
use Rattle.stream_job.proofs.GoodSizes.{block_fewer, fewer_steps}
use Rattle.stream_job.proofs.SizedNexts.{sized_next}
use Rattle.stream_job.proofs.Exchanges.{never_ended}
use Rattle.stream_job.proofs.FirstTurns.{first_never_ended}
use Rattle.stream_job.proofs.Waits.{AsksFirst, GotAll, blocks, blocks_all, exchange_so, exchange_waits_at, first_so, first_waits_at, got_all}
use Rattle.stream_job.proofs.WhatNext.{waits_begins}
use Rattle.stream_job.proofs.WentTurns.{all_steps}

-- ---- the reply

-- one reply is another
abbrev pub IsReply : Result GotBlock WaitRefusal → Result GotBlock WaitRefusal → Type 0
IsReply a b = a ≡ b

pub same_given : (a b : GotBlock) → IsReply (Ok a) (Ok b) → a ≡ b
same_given a b e = cc

-- what a wait for the whole block would get, of which so many are in range
pub record WouldGet (stream : List Outcome) (reply : Result GotBlock WaitRefusal) (phase count : ℕ)
    : Type 0 where
  pub all : ℕ
  pub reply_is : reply ≡ Ok (block.Values phase all)
  pub count_is : count
      ≡ length (take_while is_not_too_big (slice_range stream phase (phase + all)))

pub would_get : (stream : List Outcome) (reply : Result GotBlock WaitRefusal) (phase count : ℕ)
    → before_too_big stream reply ≡ Ok (block.Values phase count)
    → WouldGet stream reply phase count
would_get stream (Ok (block.Values w all)) phase count e =
    let same : w ≡ phase = phase_same w phase
    (length (take_while is_not_too_big (slice_range stream w (w + all)))) count e in
    let many = count_same w phase
    (length (take_while is_not_too_big (slice_range stream w (w + all)))) count e in
    record {
      all = all;
      reply_is = ap (λ p. Ok (block.Values p all)) same;
      count_is = sym many
          ∙ ap (λ p. length (take_while is_not_too_big (slice_range stream p (p + all)))) same;
    }
  where
    phase_same : (a b c d : ℕ) → IsReply (Ok (block.Values a c)) (Ok (block.Values b d)) → a ≡ b
    phase_same a b c d e = cc

    count_same : (a b c d : ℕ) → IsReply (Ok (block.Values a c)) (Ok (block.Values b d)) → c ≡ d
    count_same a b c d e = cc
would_get stream (Ok block.Ended) phase count e = absurd (cc)
would_get stream (Err r) phase count e = absurd (cc)

-- a refusal is that of the whole block
pub would_refuse : (stream : List Outcome) (reply : Result GotBlock WaitRefusal) (r : WaitRefusal)
    → before_too_big stream reply ≡ Err r → reply ≡ Err r
would_refuse stream (Ok (block.Values w all)) r e = absurd (cc)
would_refuse stream (Ok block.Ended) r e = absurd (cc)
would_refuse stream (Err q) r e = e

-- and so is the end
pub would_end : (stream : List Outcome) (reply : Result GotBlock WaitRefusal)
    → before_too_big stream reply ≡ Ok block.Ended → reply ≡ Ok block.Ended
would_end stream (Ok (block.Values w all)) e = absurd (cc)
would_end stream (Ok block.Ended) e = refl
would_end stream (Err q) e = absurd (cc)

-- ---- the values

first_more : (x : Outcome) (xs : List Outcome) → is_not_too_big x ≡ true
    → length (take_while is_not_too_big (x ∷ xs)) ≡ suc (length (take_while is_not_too_big xs))
first_more x xs good =
    let n = prefix_len is_not_too_big xs in
    let more : prefix_len is_not_too_big (x ∷ xs) ≡ suc n = prefix_more x xs good in
    ap (λ k. length (take k (x ∷ xs))) more
  where
    prefix_more : (x : Outcome) (xs : List Outcome) → is_not_too_big x ≡ true
        → prefix_len is_not_too_big (x ∷ xs) ≡ suc (prefix_len is_not_too_big xs)
    prefix_more (outcome.Value v) xs good = omega arith
    prefix_more outcome.Empty xs good = omega arith
    prefix_more outcome.TooBig xs good = absurd (let wrong : false ≡ true = good in cc)

-- none of the first values that are in range is too big
none_first : (from : ℕ) (xs : List Outcome)
    → position_from is_too_big from (take (length (take_while is_not_too_big xs)) xs) ≡ None
none_first from [] = refl
none_first from (outcome.Value v ∷ xs) =
    ap (λ n. position_from is_too_big from (take n (outcome.Value v ∷ xs)))
    (first_more (outcome.Value v) xs refl) ∙ none_first (from + 1) xs
none_first from (outcome.Empty ∷ xs) =
    ap (λ n. position_from is_too_big from (take n (outcome.Empty ∷ xs)))
    (first_more outcome.Empty xs refl) ∙ none_first (from + 1) xs
none_first from (outcome.TooBig ∷ xs) = refl

take_few : {X : Type 0} (n : ℕ) (xs : List X) → length (take n xs) ≤ n
take_few zero xs = omega arith
take_few (suc n) [] = omega arith
take_few (suc n) (x ∷ xs) = let rest = take_few n xs in omega arith

-- nor of those that were got, which are no more than the whole block has
pub record GotGood (phase all count : ℕ) (outcomes : List Outcome) : Type 0 where
  pub none : position_from is_too_big phase outcomes ≡ None
  pub few : count ≤ all

pub got_good : (stream : List Outcome) (reply : Result GotBlock WaitRefusal) (phase count : ℕ)
    (outcomes : List Outcome) (would : WouldGet stream reply phase count)
    → outcomes ≡ slice_range stream phase (phase + count) → GotGood phase would.all count outcomes
got_good stream reply phase count outcomes would are =
    let whole = slice_range stream phase (phase + would.all) in
    let first = length (take_while is_not_too_big whole) in
    let within : first ≤ length whole = good-few whole in
    let most : length whole ≤ phase + would.all - phase =
    take_few (phase + would.all - phase) (drop phase stream) in
    let is : count ≡ first = would.count_is in
    let off : phase + count - phase ≡ first = omega arith in
    let same : outcomes ≡ take first whole =
    are ∙ ap (λ n. take n (drop phase stream)) off
    ∙ sym (take-take first (phase + would.all - phase) (drop phase stream) (omega arith)) in
    record {
      none = ap (position_from is_too_big phase) same ∙ none_first phase whole;
      few = omega arith;
    }

-- what a wait for just so many gets
pub got_part : (job : Job) (m : Moment) (p n phase count : ℕ) (outcomes : List Outcome)
    → wait_block_reply (limits_at job p) (m.history p) n count ≡ Ok (block.Values phase count)
    → outcomes ≡ slice_range (stream_of (value_at job p) (m.history p)) phase (phase + count)
    → GotAll job m p n count phase count outcomes
got_part job m p n phase count outcomes reply are =
    let slice = slice_range (stream_of (value_at job p) (m.history p)) phase (phase + count) in
    let all = got_all job m p n count phase count [] (slice ++ drop count []) reply refl in
    subst (GotAll job m p n count phase count) (sym all.are ∙ sym are) all

-- ---- fewer steps

pub next_fewer : {steps : ℕ} (job : Job) (old : Machine) (t n : ℕ) (next : Next)
    → IsNextIn steps job old t next → 1 ≤ n → n ≤ steps → IsNextIn n job old t next
next_fewer job old t n next is some few =
    let small = is.small in
    sized_next job old t next is.some (fewer_steps job old t n some few is.sized) (omega arith)
    is.sends is.is

-- what the task asks of its phaser by fewer steps
pub asks_fewer : {allowed : ℕ} (job : Job) (old : Machine) (t k number p steps n : ℕ)
    (state : TaskState) → IsNextIn allowed job old t (turns.waits k)
    → AsksFirst allowed job old t k number p steps state → 1 ≤ n → n ≤ steps
    → AsksFirst n job old t k number p n state
asks_fewer {allowed} job old t k number p steps n state good asks some few =
    let m = asks.next.some.0 in
    let at = asks.next.some.1 in
    let block = block_few allowed job m t in
    let is = asks.many m at in
    record {
      next = next_fewer job old t n (turns.waits k) good some (omega arith);
      found = asks.found;
      phaser = asks.phaser;
      numbered = asks.numbered;
      many = λ m at. block_fewer job m t allowed n (let is = asks.many m at in omega arith);
    }

-- ---- the turn

-- values in range are told as a move
pub moved_told : (p phase : ℕ) (outcomes : List Outcome)
    → position_from is_too_big phase outcomes ≡ None → answers.Moved ≡ told_got p phase outcomes
moved_told p phase outcomes none = rw none refl

-- a task whose own phase has a value too big stands before it
pub first_stands : {allowed : ℕ} (job : Job) (old : Machine) (m : Moment)
    (t k number p steps phase : ℕ) (state : TaskState)
    → IsNextIn allowed job old t (turns.waits k)
    → AsksFirst allowed job old t k number p steps state → 1 ≤ steps → IsMachineAt job m old
    → wait_block_reply (limits_at job p) (m.history p) number 1 ≡ Ok (block.Values phase 1)
    → slice_range (stream_of (value_at job p) (m.history p)) phase (phase + 1)
    ≡ outcome.TooBig ∷ []
    → stands_before job m t ≡ Some (place.Phaser p, phase)
first_stands {allowed} job old m t k number p steps phase state good asks some at reply are =
    let one = asks_fewer job old t k number p steps 1 state good asks (omega arith) some in
    let w = wait_phase (m.history p) number in
    let law = block_answers_law (value_at job p) (limits_at job p) (m.history p) number 1 phase 1
    reply in
    let answer : turn_up_to 1 1 job m t ≡ makes (first_wait t k p number (outcome.TooBig ∷ [])) =
    ap (answer_up_to 1 1 job m t) (good.is m at)
    ∙ sym (ap (answer_up_to 1 (most_in old t) job m t) (good.is m at))
    ∙ first_so job old m t k number p 1 state one at
    ∙ ap (block_answer (λ phase count. first_wait t k p number
    (slice_range (stream_of (value_at job p) (m.history p)) phase (phase + count)))) reply
    ∙ ap (λ l. makes (first_wait t k p number l)) are in
    ap (λ a. told_too_big (word_of_answer job m a)) answer
    ∙ ap (λ n. Some (place.Phaser p, n)) (sym law.phase_is)

-- ---- a peer's wait

-- a wait for one phase, as a block of one
pub one_is : (value : List ℤ → Outcome) (limits : Limits) (h : History) (n phase : ℕ)
    (outcome : Outcome) → wait_block_reply limits h n 1 ≡ Ok (block.Values phase 1)
    → slice_range (stream_of value h) phase (phase + 1) ≡ outcome ∷ []
    → wait_reply value limits h n ≡ Ok (got.Value phase outcome)
one_is value limits h n phase outcome reply are =
    let t = block_tells limits h n 1 phase 1 reply in
    let w = wait_phase h n in
    let at : phase ≡ w = t.phase_is in
    let below : w < done_of h = t.below in
    let stream = stream_of value h in
    let long : length stream ≡ done_of h =
    length-map (range_with_len 0 (done_of h)) (value_of_phase value h)
    ∙ length-range_with_len 0 (done_of h) in
    let off : phase + 1 - phase ≡ 1 = omega arith in
    let first : outcome ∷ [] ≡ get_or stream phase outcome ∷ [] =
    sym are ∙ ap (λ k. take k (drop phase stream)) off
    ∙ ap (take 1) (drop-cons stream phase outcome (omega arith)) in
    let is : get_or stream phase outcome ≡ value_of_phase value h w =
    get_or-map-range_with_len (value_of_phase value h) 0 (done_of h) phase w outcome (omega arith)
    (omega arith) in
    let same : value_of_phase value h w ≡ outcome = sym is ∙ sym (one_of outcome _ first) in
    ap (λ r. refused_or r (got_at value h w)) t.accepted
    ∙ ap (λ b. Ok (cond b (got.Value w (value_of_phase value h w)) got.Ended))
    (lt-ltb w (done_of h) below)
    ∙ ap (λ x. Ok (got.Value w x)) same ∙ ap (λ p. Ok (got.Value p outcome)) (sym at)
  where
    one_of : (x y : Outcome) → x ∷ [] ≡ y ∷ [] → x ≡ y
    one_of x y e = cc

-- where a wait for a block is refused, so is a wait for one phase
pub one_refused : (value : List ℤ → Outcome) (limits : Limits) (h : History) (n : ℕ)
    (r : WaitRefusal) → wait_block_reply limits h n 1 ≡ Err r → wait_reply value limits h n ≡ Err r
one_refused value limits h n r reply = by (wait_refusal limits h n 1) reply
  where
    by : (o : Option WaitRefusal)
        → refused_or o (got_block_at h (wait_phase h n) 1) ≡ Err r
        → refused_or o (got_at value h (wait_phase h n)) ≡ Err r
    by None e = absurd (cc)
    by (Some q) e = ap (λ x. Err x) (same q r e)
      where
        same : (a b : WaitRefusal) → IsReply (Err a) (Err b) → a ≡ b
        same a b e = cc

-- and where it has come to the end
pub one_ended : (value : List ℤ → Outcome) (limits : Limits) (h : History) (n : ℕ)
    → wait_block_reply limits h n 1 ≡ Ok block.Ended → wait_reply value limits h n ≡ Ok got.Ended
one_ended value limits h n reply = by (wait_refusal limits h n 1) (nat_lt (wait_phase h n) (done_of h)) reply
  where
    by : (o : Option WaitRefusal) (b : Bool)
        → refused_or o (cond b (block.Values (wait_phase h n) (min 1 (done_of h - wait_phase h n)))
        block.Ended) ≡ Ok block.Ended
        → refused_or o (cond b (got.Value (wait_phase h n)
        (value_of_phase value h (wait_phase h n))) got.Ended) ≡ Ok got.Ended
    by None true e = absurd (cc)
    by None false e = refl
    by (Some q) b e = absurd (cc)

-- a peer whose own phase on E has a value too big stands before it
pub exchange_stands_before : {allowed : ℕ} (job : Job) (old : Machine) (m : Moment)
    (t number p phase : ℕ) (state : TaskState) → IsNextIn allowed job old t turns.exchanges
    → slice_get old.tasks.items t ≡ Some state → p ≡ input_at (task_at job.graph t) 1
    → number ≡ get_or state.numbers.items 1 0 → IsMachineAt job m old
    → wait_block_reply (limits_at job p) (m.history p) number 1 ≡ Ok (block.Values phase 1)
    → slice_range (stream_of (value_at job p) (m.history p)) phase (phase + 1)
    ≡ outcome.TooBig ∷ []
    → stands_before job m t ≡ Some (place.Phaser p, phase)
exchange_stands_before {allowed} job old m t number p phase state next found phaser numbered at reply are =
    let law = block_tells (limits_at job p) (m.history p) number 1 phase 1 reply in
    let answer : turn_up_to 1 1 job m t ≡ makes (exchange_wait t p number outcome.TooBig) =
    ap (answer_up_to 1 1 job m t) (next.is m at)
    ∙ sym (ap (answer_up_to allowed (most_in old t) job m t) (next.is m at))
    ∙ exchange_so job old m t number p state next at found phaser numbered
    ∙ ap (wait_answer (exchange_wait t p number))
    (one_is (value_at job p) (limits_at job p) (m.history p) number phase outcome.TooBig reply are) in
    ap (λ a. told_too_big (word_of_answer job m a)) answer
    ∙ ap (λ n. Some (place.Phaser p, n)) (sym law.phase_is)

-- ---- room

-- where a sink's line has room for what a wait for the whole block would get, it has room for what
-- is in range
pub first_room : {allowed : ℕ} (job : Job) (old : Machine) (m : Moment)
    (t k number p steps phase count : ℕ) (got : List Outcome) (state : TaskState)
    → AsksFirst allowed job old t k number p steps state → IsMachineAt job m old
    → WouldGet (stream_of (value_at job p) (m.history p))
    (wait_block_reply (limits_at job p) (m.history p) number steps) phase count
    → length got ≡ count → HasRoomAt allowed job old t m → is_sink_at job t ≡ true
    → HasRoomIn old.lines.items (length got) state.sink
first_room {allowed} job old m t k number p steps phase count got state asks at would long room sink =
    λ line read.
    (let whole = slice_range (stream_of (value_at job p) (m.history p)) phase (phase + would.all) in
    let answer : turn_in allowed job old m t ≡ makes (first_wait t k p number whole) =
    first_so job old m t k number p steps state asks at
    ∙ ap (block_answer (λ phase count. first_wait t k p number
    (slice_range (stream_of (value_at job p) (m.history p)) phase (phase + count)))) would.reply_is in
    let all = room k p number whole state (asks.next.is m at) answer asks.found sink line read in
    let few = good-few whole in
    let is : count ≡ length (take_while is_not_too_big whole) = would.count_is in
    omega arith)

-- ---- as the code has them

-- a block that is asked for has a phase
pub block_some_of : {allowed : ℕ} (job : Job) (old : Machine) (m : Moment) (t k number p steps : ℕ)
    (state : TaskState) → AsksFirst allowed job old t k number p steps state
    → IsMachineAt job m old → 1 ≤ steps
block_some_of {allowed} job old m t k number p steps state asks at =
    let there = (first_waits_at job old m t k state asks.next at asks.found).there in
    let b = waits_begins job m t k (asks.next.is m at) in
    let some = block_some allowed job m t (at.reached.ran.tasks t there)
    (asks.next.sized there).block.some b.step.uncut in
    let is = asks.many m at in
    omega arith

-- ---- what is ahead of a wait

-- a block that tells no value too big
told_none : (m : Moment) (p n phase : ℕ) (outcomes : List Outcome)
    → phase ≡ wait_phase (m.history p) n → position_from is_too_big phase outcomes ≡ None
    → is_no_fault (Some (told_wait m p n outcomes)) ≡ true
told_none m p n phase outcomes same none =
    subst (λ w. is_no_fault (Some (told_got p w outcomes)) ≡ true) same (rw none refl)

-- what a wait got by its event
abbrev outcomes_in : Answer → List Outcome
outcomes_in (makes (first_wait t k p n outcomes)) = outcomes
outcomes_in answer = []

module _ {allowed : ℕ} (job : Job) (old : Machine) (t k number p steps : ℕ) (state : TaskState)
    (asks : AsksFirst allowed job old t k number p steps state)
  where
    -- what the phaser answers to the question
    abbrev pub Told : Result GotBlock WaitRefusal → Type 0
    Told told = (m : Moment) → IsMachineAt job m old
        → before_too_big (stream_of (value_at job p) (m.history p))
        (wait_block_reply (limits_at job p) (m.history p) number steps) ≡ told

    allowed_some : 1 ≤ allowed
    allowed_some =
        (asks.next.sized (first_waits_at job old asks.next.some.0 t k state asks.next
        asks.next.some.1 asks.found).there).block.some

    pub wait_before : (phase : ℕ) → Told (Ok (block.Values phase 0)) → (m : Moment)
        → IsMachineAt job m old → stands_before job m t ≡ Some (place.Phaser p, phase)
    wait_before phase told m at =
        let none = none_good (value_at job p) (limits_at job p) (m.history p) number steps phase
        (told m at) in
        first_stands job old m t k number p steps phase state asks.next asks
        (block_some_of job old m t k number p steps state asks at) at none.0 none.1

    pub wait_refused : (r : WaitRefusal) → Told (Err r) → IsGoodSize allowed allowed job old t
    wait_refused r told = all_steps job old t allowed_some (λ m at.
        (let event = λ (phase count : ℕ). first_wait t k p number
        (slice_range (stream_of (value_at job p) (m.history p)) phase (phase + count)) in
        let reply = would_refuse (stream_of (value_at job p) (m.history p))
        (wait_block_reply (limits_at job p) (m.history p) number steps) r (told m at) in
        let answer : turn_in allowed job old m t ≡ block_answer event (Err r) =
        first_so job old m t k number p steps state asks at ∙ ap (block_answer event) reply in
        subst (TellsNoFault job m) (sym (answer ∙ blocks_all event r (λ e.
        asks.next.answered m at (answer ∙ e)))) refl))

    pub wait_never_ended : Told (Ok block.Ended) → ⊥
    wait_never_ended told = first_never_ended job old t k number p steps state asks (λ m at.
        would_end (stream_of (value_at job p) (m.history p))
        (wait_block_reply (limits_at job p) (m.history p) number steps) (told m at))

    module _ (phase count : ℕ) (told : Told (Ok (block.Values phase count))) (some : 0 < count)
      where
        abbrev outcomes : Moment → List Outcome
        outcomes m = slice_range (stream_of (value_at job p) (m.history p)) phase (phase + count)

        would : (m : Moment) → IsMachineAt job m old
            → WouldGet (stream_of (value_at job p) (m.history p))
            (wait_block_reply (limits_at job p) (m.history p) number steps) phase count
        would m at =
            would_get (stream_of (value_at job p) (m.history p))
            (wait_block_reply (limits_at job p) (m.history p) number steps) phase count (told m at)

        are_good : (m : Moment) (at : IsMachineAt job m old)
            → GotGood phase (would m at).all count (outcomes m)
        are_good m at =
            got_good (stream_of (value_at job p) (m.history p)) _ phase count (outcomes m)
            (would m at) refl

        reply : (m : Moment) → IsMachineAt job m old
            → wait_block_reply (limits_at job p) (m.history p) number count
            ≡ Ok (block.Values phase count)
        reply m at =
            good_block (stream_of (value_at job p) (m.history p)) (limits_at job p) (m.history p)
            number steps phase count (told m at) some

        few : count ≤ steps
        few =
            let m = asks.next.some.0 in
            let at = asks.next.some.1 in
            let w = would m at in
            let tells = block_tells (limits_at job p) (m.history p) number steps phase w.all
            w.reply_is in
            omega (arith, (are_good m at).few, tells.count_is)

        within : count ≤ allowed
        within =
            let m = asks.next.some.0 in
            let is = asks.many m asks.next.some.1 in
            omega (arith, few, block_few allowed job m t)

        answer : (m : Moment) → IsMachineAt job m old
            → turn_in count job old m t ≡ makes (first_wait t k p number (outcomes m))
        answer m at =
            first_so job old m t k number p count state
            (asks_fewer job old t k number p steps count state asks.next asks some few) at
            ∙ ap (block_answer (λ phase count. first_wait t k p number
            (slice_range (stream_of (value_at job p) (m.history p)) phase (phase + count))))
            (reply m at)

        pub wait_size : IsGoodSize allowed count job old t
        wait_size = record {
          some = some;
          few = within;
          good = λ m at.
              (let w = would m at in
              let tells = block_tells (limits_at job p) (m.history p) number steps phase w.all
              w.reply_is in
              subst (TellsNoFault job m) (sym (answer m at))
              (told_none m p number phase (outcomes m) tells.phase_is (are_good m at).none));
          makes = λ apart m at. (first_wait t k p number (outcomes m), answer m at);
          room = λ m at room i q n others other next is found sink.
              (let all = got_part job m p number phase count (outcomes m) (reply m at) refl in
              let same : outcomes m ≡ others = ap outcomes_in (sym (answer m at) ∙ is) in
              let it : state ≡ other = same_Some state other (sym asks.found ∙ found) in
              subst (λ l. HasRoomIn old.lines.items (length l) other.sink) same
              (subst (λ s. HasRoomIn old.lines.items (length (outcomes m)) s.sink) it
              (first_room job old m t k number p steps phase count (outcomes m) state asks at
              (would m at) all.many room sink)));
        }

-- where the one value that is asked for is ahead, a wait for it gets it
pub record IsOneAhead (stream : List Outcome) (limits : Limits) (h : History) (n phase : ℕ)
    : Type 0 where
  pub reply : wait_block_reply limits h n 1 ≡ Ok (block.Values phase 1)
  pub none : position_from is_too_big phase (slice_range stream phase (phase + 1)) ≡ None

pub one_ahead : (stream : List Outcome) (limits : Limits) (h : History) (n phase count : ℕ)
    → 0 < count
    → before_too_big stream (wait_block_reply limits h n 1) ≡ Ok (block.Values phase count)
    → IsOneAhead stream limits h n phase
one_ahead stream limits h n phase count some told =
    let w = would_get stream (wait_block_reply limits h n 1) phase count told in
    let good = got_good stream _ phase count (slice_range stream phase (phase + count)) w refl in
    let tells = block_tells limits h n 1 phase w.all w.reply_is in
    let few = good.few in
    let least = tells.count_is in
    let one : count ≡ 1 = omega arith in
    record {
      reply = subst (λ k. wait_block_reply limits h n k ≡ Ok (block.Values phase k)) one
          (good_block stream limits h n 1 phase count told some);
      none = subst (λ k. position_from is_too_big phase (slice_range stream phase (phase + k))
          ≡ None) one good.none;
    }

-- ---- what is ahead of a peer's wait

one_of_one : (xs : List Outcome) (d : Outcome) → length xs ≡ 1 → xs ≡ get_or xs 0 d ∷ []
one_of_one [] d one = absurd (omega arith)
one_of_one (x ∷ []) d one = refl
one_of_one (x ∷ y ∷ xs) d one = absurd (omega arith)

module _ {allowed : ℕ} (job : Job) (old : Machine) (t number p : ℕ) (state : TaskState)
    (next : IsNextIn allowed job old t turns.exchanges)
    (found : slice_get old.tasks.items t ≡ Some state)
    (phaser : p ≡ input_at (task_at job.graph t) 1)
    (numbered : number ≡ get_or state.numbers.items 1 0)
  where
    abbrev pub ToldOne : Result GotBlock WaitRefusal → Type 0
    ToldOne told = (m : Moment) → IsMachineAt job m old
        → before_too_big (stream_of (value_at job p) (m.history p))
        (wait_block_reply (limits_at job p) (m.history p) number 1) ≡ told

    some_steps : 1 ≤ allowed
    some_steps =
        (next.sized (exchange_waits_at job old next.some.0 t state next next.some.1
        found).there).block.some

    pub exchange_before : (phase : ℕ) → ToldOne (Ok (block.Values phase 0)) → (m : Moment)
        → IsMachineAt job m old → stands_before job m t ≡ Some (place.Phaser p, phase)
    exchange_before phase told m at =
        let none = none_good (value_at job p) (limits_at job p) (m.history p) number 1 phase
        (told m at) in
        exchange_stands_before job old m t number p phase state next found phaser numbered at none.0
        none.1

    pub exchange_refused : (r : WaitRefusal) → ToldOne (Err r)
        → IsGoodSize allowed allowed job old t
    exchange_refused r told = all_steps job old t some_steps (λ m at.
        (let reply = one_refused (value_at job p) (limits_at job p) (m.history p) number r
        (would_refuse (stream_of (value_at job p) (m.history p))
        (wait_block_reply (limits_at job p) (m.history p) number 1) r (told m at)) in
        let answer : turn_in allowed job old m t ≡ wait_answer (exchange_wait t p number) (Err r) =
        exchange_so job old m t number p state next at found phaser numbered
        ∙ ap (wait_answer (exchange_wait t p number)) reply in
        subst (TellsNoFault job m) (sym (answer ∙ blocks (exchange_wait t p number) r (λ e.
        next.answered m at (answer ∙ e)))) refl))

    pub exchange_never_ended : ToldOne (Ok block.Ended) → ⊥
    exchange_never_ended told = never_ended job old t number p state next found phaser numbered
        (λ m at. one_ended (value_at job p) (limits_at job p) (m.history p) number
        (would_end (stream_of (value_at job p) (m.history p))
        (wait_block_reply (limits_at job p) (m.history p) number 1) (told m at)))

    pub exchange_size : (phase count : ℕ) → ToldOne (Ok (block.Values phase count)) → 0 < count
        → IsGoodSize allowed allowed job old t
    exchange_size phase count told some = all_steps job old t some_steps (λ m at.
        (let stream = stream_of (value_at job p) (m.history p) in
        let w = would_get stream (wait_block_reply (limits_at job p) (m.history p) number 1) phase
        count (told m at) in
        let outcomes = slice_range stream phase (phase + count) in
        let good = got_good stream _ phase count outcomes w refl in
        let tells = block_tells (limits_at job p) (m.history p) number 1 phase w.all w.reply_is in
        let few = good.few in
        let least = tells.count_is in
        let one : count ≡ 1 = omega arith in
        let reply = good_block stream (limits_at job p) (m.history p) number 1 phase count
        (told m at) some in
        let all = got_part job m p number phase count outcomes reply refl in
        let x = get_or outcomes 0 outcome.Empty in
        let many : length outcomes ≡ 1 = all.many ∙ one in
        let is : outcomes ≡ x ∷ [] = one_of_one outcomes outcome.Empty many in
        let slice : slice_range stream phase (phase + 1) ≡ x ∷ [] =
        ap (λ n. slice_range stream phase (phase + n)) (sym one) ∙ is in
        let answer : turn_in allowed job old m t ≡ makes (exchange_wait t p number x) =
        exchange_so job old m t number p state next at found phaser numbered
        ∙ ap (wait_answer (exchange_wait t p number)) (one_is (value_at job p) (limits_at job p)
        (m.history p) number phase x (subst (λ n. wait_block_reply (limits_at job p) (m.history p)
        number n ≡ Ok (block.Values phase n)) one reply) slice) in
        subst (TellsNoFault job m) (sym answer)
        (told_none m p number phase (x ∷ []) tells.phase_is
        (ap (position_from is_too_big phase) (sym is) ∙ good.none))))
