-- What the last thread got.
use Rattle.std.specs.Prelude.{◌≡◌, ℕ, List, true}
use Rattle.turn_lock.specs.Seats.{Place}
use Rattle.phase_base.specs.Limits.{Limits}
use Rattle.phase_accum.specs.declared.outcome.Outcome.{Outcome}
use Rattle.phase_accum.specs.Values.{sum_value}
use Rattle.phase_history.specs.Legal.{IsLegal}
use Rattle.phase_base.specs.Lists.{is_in}
use Rattle.phase_history.specs.Phases.{received_by}
use Rattle.phase_shared.specs.declared.rule.Terms.{Terms}
use Rattle.phase_shared.specs.Regs.{PastState}
use Rattle.phase_received.specs.Whole.{HasWhole}

-- the past is of this phaser, and by its legal history these values are what one registration that
-- went into it received: exactly the stream from its start on, which has ended
pub record GotWhole {K : Type 0} (at : Place (Terms K)) (limits : Limits) (past : PastState K)
    (values : List Outcome) : Type 0 where
  pub past_at : past.at ≡ at
  pub legal : IsLegal limits past.seen
  pub sink : ℕ
  pub went_in : is_in sink past.numbers ≡ true
  pub whole : HasWhole sum_value past.seen sink
  pub values_are : values ≡ received_by sum_value past.seen sink
