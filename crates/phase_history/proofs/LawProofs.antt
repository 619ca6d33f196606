-- The laws of histories, as the contracts of `laws` state them.
use Rattle.std.proofs.Common.{◌≡◌, ◌<◌, ℕ, ◌+◌, ◌-◌, ℤ, List, [], ◌∷◌, ◌++◌, Ok, Some, None, true, false, cond, ltb, length, take, drop, get_or, refl, sym, ap, ◌∙◌, arith}
use Rattle.std.proofs.lemmas.Bool.{ltb-true, eq-eqb}
use Rattle.std.proofs.lemmas.List.{drop_more}
use Rattle.std.proofs.lemmas.List.FromFn.{length-map-range_with_len, get_or-map-range_with_len}
use Rattle.phase_base.specs.Limits.{Limits}
use Rattle.phase_base.specs.Modes.{mode_signals, mode_waits}
use Rattle.phase_base.specs.declared.entry.Entry.{Entry}
use Rattle.phase_accum.specs.declared.outcome.Outcome.{Outcome}
use Rattle.phase_accum.specs.declared.outcome.Outcome.TheVariants.{Empty}
use Rattle.phase_base.specs.Members.{member, entry_of}
use Rattle.phase_history.specs.Histories.{History, members_of, wait_phase, done_of, top_of, greatest_used, start_of, IsWaiter, phases_waited}
use Rattle.phase_history.specs.Phases.{value_of_phase, stream_of, received_by}
use Rattle.phase_history.specs.declared.got.Got.TheVariants as got
use Rattle.phase_history.specs.Refusals.{wait_refusal}
use Rattle.phase_history.specs.Replies.{wait_reply, got_at, refused_or}
use Rattle.phase_history.specs.Legal.{IsLegal}
use Rattle.phase_history.specs.Laws.{HasReceived, HasCounted, HasNoEvents, IsInTurn, IsAnswered}
use Rattle.phase_history.proofs.MemberLemmas.{Each-entry}
use Rattle.phase_history.proofs.Steps.{StandsWell, sound_of}
use Rattle.phase_history.proofs.Received.{Counted, counted, Unused, unused, entry_of-none, start_of-above}
use Rattle.phase_history.proofs.Bounded.{TakesTurns, turns_of}

pub got_of : (value : List ℤ → Outcome) (limits : Limits) (h : History) (task : ℕ) (entry : Entry)
    → IsLegal limits h → IsWaiter h task entry → HasReceived value h task entry
got_of value limits h task entry legal waiter =
    let c : Counted value h task entry = counted value limits h task entry legal waiter.is_member in
    let good : StandsWell (done_of h) (top_of h) (greatest_used h) (member task entry) =
    Each-entry _ (members_of h) task entry waiter.is_member (sound_of limits h legal) in
    let a = c.start.wait_phase in
    let e : a + phases_waited h task ≡ entry.wait_phase = c.waits in
    let k : phases_waited h task ≡ entry.wait_phase - a = omega arith in
    record {
      start = c.start;
      start_is = c.start_is;
      from_start = omega arith;
      complete = good.waits waiter.waits;
      received = c.received waiter.waits ∙ ap (λ n. take n (drop a (stream_of value h))) k;
    }

pub counted_of : (limits : Limits) (h : History) (task : ℕ) (entry : Entry)
    → IsLegal limits h → entry_of (members_of h) task ≡ Some entry → HasCounted h task entry
counted_of limits h task entry legal found =
    let c : Counted (λ sends. Empty) h task entry = counted (λ sends. Empty) limits h task entry legal found in
    record { start = c.start; start_is = c.start_is; signals = c.signals; waits = c.waits }

pub turns_law : (limits : Limits) (h : History) (task : ℕ) (entry : Entry) → IsLegal limits h
    → entry_of (members_of h) task ≡ Some entry → mode_signals entry.mode ≡ true → mode_waits entry.mode ≡ true → IsInTurn entry
turns_law limits h task entry legal found signals waits =
    let turn : TakesTurns (member task entry) = Each-entry _ (members_of h) task entry found (turns_of limits h legal) in
    record { low = (turn signals waits).0; high = (turn signals waits).1 }

pub unused_law : (value : List ℤ → Outcome) (limits : Limits) (h : History) (task : ℕ)
    → IsLegal limits h → start_of h task ≡ None → HasNoEvents value h task
unused_law value limits h task legal never =
    let u : Unused value h task = unused value limits h task legal never in
    record {
      start = never;
      no_member = entry_of-none h task never;
      signals = u.signals;
      waits = u.waits;
      received = u.received;
      stays = u.stays;
    }

pub above_law : (value : List ℤ → Outcome) (limits : Limits) (h : History) (task : ℕ)
    → IsLegal limits h → greatest_used h < task → HasNoEvents value h task
above_law value limits h task legal above = unused_law value limits h task legal (start_of-above h task above)

-- one entry of a list, cut out
take_one : {X : Type 0} (xs : List X) (w : ℕ) (d : X) → w < length xs → take 1 (drop w xs) ≡ get_or xs w d ∷ []
take_one xs w d within = ap (λ l. take 1 l) (drop_more xs w d within)

-- what a waiter gets at a complete phase
got_tells : (value : List ℤ → Outcome) (h : History) (w phase : ℕ) (outcome : Outcome)
    → got_at value h w ≡ got.Value phase outcome → (w < done_of h) × (phase ≡ w) × (outcome ≡ value_of_phase value h w)
got_tells value h w phase outcome is =
    elim (ltb w (done_of h)) as (λ b. (ltb w (done_of h) ≡ b)
    → (cond b (got.Value w (value_of_phase value h w)) got.Ended ≡ got.Value phase outcome)
    → (w < done_of h) × (phase ≡ w) × (outcome ≡ value_of_phase value h w)) [
      | true ↦ λ t e. (ltb-true w (done_of h) t, (let p : phase ≡ w = (cc) in p), (let o : outcome ≡ value_of_phase value h w = (cc) in o))
      | false ↦ λ t e. absurd (cc)
    ] refl is

-- and what the reply to a wait tells
pub reply_tells : (value : List ℤ → Outcome) (limits : Limits) (h : History) (task phase : ℕ) (outcome : Outcome)
    → wait_reply value limits h task ≡ Ok (got.Value phase outcome)
    → (wait_phase h task < done_of h) × (phase ≡ wait_phase h task) × (outcome ≡ value_of_phase value h (wait_phase h task))
reply_tells value limits h task phase outcome reply =
    let w = wait_phase h task in
    let gets : got_at value h w ≡ got.Value phase outcome =
    elim (wait_refusal limits h task 1) as (λ r. (refused_or r (got_at value h w) ≡ Ok (got.Value phase outcome)) → got_at value h w ≡ got.Value phase outcome) [
      | None ↦ λ e. (let g : got_at value h w ≡ got.Value phase outcome = (cc) in g)
      | Some refusal ↦ λ e. absurd (cc)
    ] reply in
    got_tells value h w phase outcome gets

pub answers_law : (value : List ℤ → Outcome) (limits : Limits) (h : History) (task phase : ℕ) (outcome : Outcome)
    → wait_reply value limits h task ≡ Ok (got.Value phase outcome) → IsAnswered value h task phase outcome
answers_law value limits h task phase outcome reply =
    let w = wait_phase h task in
    let t = reply_tells value limits h task phase outcome reply in
    let long : length (stream_of value h) ≡ done_of h = length-map-range_with_len _ 0 (done_of h) in
    let within : w < length (stream_of value h) = (let a : w < done_of h = t.0 in omega arith) in
    let entry : get_or (stream_of value h) w Empty ≡ value_of_phase value h w =
    get_or-map-range_with_len (value_of_phase value h) 0 (done_of h) w w Empty t.0 (omega arith) in
    record {
      phase_is = t.1;
      complete = (let a : w < done_of h = t.0 in let p : phase ≡ w = t.1 in omega arith);
      received =
          ap (λ b. cond b (received_by value h task ++ take 1 (drop w (stream_of value h))) (received_by value h task)) (eq-eqb task task refl)
          ∙ ap (λ l. received_by value h task ++ l) (take_one (stream_of value h) w Empty within ∙ ap (λ o. o ∷ []) (entry ∙ sym t.2));
    }
