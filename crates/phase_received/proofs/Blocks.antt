-- What a wait for a block tells where the stream has ended.
use Rattle.std.proofs.Common.{ℕ, ◌≤◌, ℤ, List, length, sym, subst}
use Rattle.std.specs.Prelude.{Ok}
use Rattle.phase_base.specs.Limits.{Limits}
use Rattle.phase_accum.specs.declared.outcome.Outcome.{Outcome}
use Rattle.phase_history.specs.declared.got.GotBlock.TheVariants as block
use Rattle.phase_history.specs.Histories.{History, HasNoSignaller, done_of, wait_phase}
use Rattle.phase_shared.specs.Blocks.{WaitsBlock}
use Rattle.phase_history.proofs.Answered.{block_ended_tells}
use Rattle.phase_received.specs.Whole.{HasSeenEnd}

pub block_seen_end : (value : List ℤ → Outcome) (limits : Limits) (me : ℕ) (old new : History) (old_out new_out : List Outcome)
    → WaitsBlock value limits me old new old_out new_out (Ok block.Ended) → HasSeenEnd new me
block_seen_end value limits me old new old_out new_out w =
    let tells : HasNoSignaller new × (done_of new ≤ wait_phase new me) =
    subst (λ (h : History). HasNoSignaller h × (done_of h ≤ wait_phase h me)) (sym w.seen) (block_ended_tells limits w.before me (length old_out) w.reply) in
    record { no_signaller = tells.0; got_all = tells.1 }
