-- The rule of the bus, and what the taker got.
use Rattle.std.specs.Prelude.{◌≡◌, ℕ, [], ◌∷◌, List, Some, None, map, drop}
use Rattle.std.specs.List.{range_with_len}
use Rattle.turn_lock.specs.Seats.{Place}
use Rattle.phase_base.specs.Limits.{Limits}
use Rattle.phase_base.specs.declared.entry.Entry.{Entry}
use Rattle.phase_accum.specs.declared.outcome.Outcome.{Outcome}
use Rattle.phase_accum.specs.Values.{sum_value}
use Rattle.phase_history.specs.Histories.{HasNoSignaller, start_of, done_of}
use Rattle.phase_history.specs.Legal.{IsLegal}
use Rattle.phase_history.specs.Sent.{sent_in}
use Rattle.phase_shared.specs.Rule.{Allows}
use Rattle.phase_shared.specs.declared.rule.Terms.{Terms}
use Rattle.phase_shared.specs.Regs.{PastState}
use Rattle.two_threads_by_blocks.specs.declared.rule.ByOne.{ByOne}

-- task 1 alone signals, and names no single
abbrev pub by_one : Allows
by_one h task lists single = (task ≡ 1) × (single ≡ None)

abbrev pub allows_one : ByOne → Allows
allows_one rule = by_one

-- the past is that of one task of this bus, where the stream has ended; and these values are what
-- task 1 sent in each phase, from the one at which the task began to the last
pub record GotSent {K : Type 0} (at : Place (Terms K)) (limits : Limits) (past : PastState K)
    (values : List Outcome) : Type 0 where
  pub past_at : past.at ≡ at
  pub legal : IsLegal limits past.seen
  pub ended : HasNoSignaller past.seen
  pub task : ℕ
  pub is_of : past.numbers ≡ task ∷ []
  pub start : Entry
  pub start_is : start_of past.seen task ≡ Some start
  pub values_are : values ≡ drop start.wait_phase
      (map (λ p. sum_value (sent_in past.seen 1 p)) (range_with_len 0 (done_of past.seen)))
