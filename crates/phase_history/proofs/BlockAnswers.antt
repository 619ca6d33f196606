-- What a wait for a block is answered.
use Rattle.std.proofs.Common.{◌≡◌, ℕ, ◌+◌, ◌-◌, ◌<◌, ◌≤◌, true, false, cond, eqb, ltb, min, ℤ, List, ◌++◌, Ok, Some, None, take, drop, refl, sym, ap, ◌∙◌, arith}
use Rattle.std.specs.Prelude.{◌||◌}
use Rattle.std.proofs.lemmas.Bool.{ltb-true, ltb-false, le-ltb, eqb-false, ne_eqb, eq-eqb, or_parts}
use Rattle.phase_base.specs.Limits.{Limits}
use Rattle.phase_base.specs.Members.{entry_of}
use Rattle.phase_accum.specs.declared.outcome.Outcome.{Outcome}
use Rattle.phase_history.specs.declared.got.GotBlock.TheVariants as got
use Rattle.phase_history.specs.declared.refusal.WaitRefusal.TheVariants as wait
use Rattle.phase_history.specs.Histories.{History, positions_of, members_of, wait_phase, done_of}
use Rattle.phase_history.specs.Phases.{stream_of, received_by}
use Rattle.phase_history.specs.Refusals.{refusal_at, is_bad_block, wait_rows, wait_refusal}
use Rattle.phase_history.specs.Replies.{wait_block_reply, got_block_at, refused_or}
use Rattle.phase_history.specs.Blocks.{IsAnsweredBlock}
use Rattle.phase_history.proofs.Refused.{first_row_none, Passes, passes_from}

-- a wait for fewer phases, at least one, is not refused either
pub wait_refusal-fewer : (limits : Limits) (h : History) (task n k : ℕ) → wait_refusal limits h task n ≡ None
    → 1 ≤ k → k ≤ n → wait_refusal limits h task k ≡ None
wait_refusal-fewer limits h task n k none some fewer =
    let p : Passes (entry_of (members_of h) task) (wait_rows limits (positions_of h) n) = passes_from _ _ _ none in
    let long : n ≤ limits.bound = ltb-false limits.bound n (or_parts (eqb n 0) (ltb limits.bound n) p.passes.1.0).1 in
    let good : is_bad_block limits k ≡ false =
    ap (λ b. b || ltb limits.bound k) (ne_eqb k 0 (λ e. omega arith)) ∙ le-ltb limits.bound k (omega arith) in
    ap (λ o. refusal_at o wait.NoTask (wait_rows limits (positions_of h) k)) p.is_member
    ∙ first_row_none (wait_rows limits (positions_of h) k p.entry) (p.passes.0, (good, p.passes.1.1))

-- and one phase at least was asked for
pub asked_some : (limits : Limits) (h : History) (task n : ℕ) → wait_refusal limits h task n ≡ None → 1 ≤ n
asked_some limits h task n none =
    let p : Passes (entry_of (members_of h) task) (wait_rows limits (positions_of h) n) = passes_from _ _ _ none in
    omega (arith, eqb-false n 0 (or_parts (eqb n 0) (ltb limits.bound n) p.passes.1.0).0)

-- what the reply to a wait for a block tells
pub record BlockTells (limits : Limits) (h : History) (task n phase count : ℕ) : Type 0 where
  pub accepted : wait_refusal limits h task n ≡ None
  pub asked : 1 ≤ n
  pub below : wait_phase h task < done_of h
  pub phase_is : phase ≡ wait_phase h task
  pub count_is : count ≡ min n (done_of h - wait_phase h task)

got_block_tells : (h : History) (w n phase count : ℕ) → got_block_at h w n ≡ got.Values phase count
    → (w < done_of h) × (phase ≡ w) × (count ≡ min n (done_of h - w))
got_block_tells h w n phase count is =
    elim (ltb w (done_of h)) as (λ b. (ltb w (done_of h) ≡ b)
    → (cond b (got.Values w (min n (done_of h - w))) got.Ended ≡ got.Values phase count)
    → (w < done_of h) × (phase ≡ w) × (count ≡ min n (done_of h - w))) [
      | true ↦ λ t e. (ltb-true w (done_of h) t, (let p : phase ≡ w = (cc) in p), (let c : count ≡ min n (done_of h - w) = (cc) in c))
      | false ↦ λ t e. absurd (cc)
    ] refl is

pub block_tells : (limits : Limits) (h : History) (task n phase count : ℕ)
    → wait_block_reply limits h task n ≡ Ok (got.Values phase count) → BlockTells limits h task n phase count
block_tells limits h task n phase count reply =
    let w = wait_phase h task in
    elim (wait_refusal limits h task n) as (λ r. (wait_refusal limits h task n ≡ r)
    → (refused_or r (got_block_at h w n) ≡ Ok (got.Values phase count)) → BlockTells limits h task n phase count) [
      | None ↦ λ none e.
          let t = got_block_tells h w n phase count (let g : got_block_at h w n ≡ got.Values phase count = (cc) in g) in
          record { accepted = none; asked = asked_some limits h task n none; below = t.0; phase_is = t.1; count_is = t.2 }
      | Some refusal ↦ λ some e. absurd (cc)
    ] refl reply

pub block_answers_law : (value : List ℤ → Outcome) (limits : Limits) (h : History) (task n phase count : ℕ)
    → wait_block_reply limits h task n ≡ Ok (got.Values phase count) → IsAnsweredBlock value h task n phase count
block_answers_law value limits h task n phase count reply =
    let t : BlockTells limits h task n phase count = block_tells limits h task n phase count reply in
    let w = wait_phase h task in
    let xs = stream_of value h in
    let asked : 1 ≤ n = t.asked in
    let below : w < done_of h = t.below in
    let at : phase ≡ w = t.phase_is in
    let is : count ≡ min n (done_of h - w) = t.count_is in
    let many : (phase + count) - phase ≡ count = omega arith in
    record {
      phase_is = t.phase_is;
      count_is = is ∙ ap (λ p. min n (done_of h - p)) (sym at);
      some = omega arith;
      complete = omega arith;
      received =
          ap (λ b. cond b (received_by value h task ++ take count (drop w xs)) (received_by value h task)) (eq-eqb task task refl)
          ∙ ap (λ p. received_by value h task ++ take count (drop p xs)) (sym at)
          ∙ ap (λ k. received_by value h task ++ take k (drop phase xs)) (sym many);
    }
