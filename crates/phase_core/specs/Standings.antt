-- How many tasks are registered, and for which of them a phaser waits.
use Rattle.std.specs.Prelude.{ℕ, List, length, map, unwrap_or, Bool, ◌&&◌, ◌++◌, nat_le, nat_lt, count_by, take, drop}
use Rattle.std.specs.List.{filter}
use Rattle.phase_base.specs.Modes.{mode_signals}
use Rattle.phase_base.specs.Members.{Members, least, signal_phases, wait_phases}
use Rattle.phase_base.specs.declared.member.Member.{Member}
use Rattle.phase_history.specs.Histories.{History, members_of, done_of}
use Rattle.phase_ring.specs.Standings.{takes_part, phase_for}
use Rattle.phase_ring.specs.declared.role.Role.{Role}
use Rattle.phase_ring.specs.declared.role.Role.TheVariants.{Signaller, Waiter}
use Rattle.phase_core.specs.declared.standing.Standing.{Standing}

-- whether the member has still to signal phase p, or as a waiter has still to get it
abbrev pub has_still_to : Role → ℕ → Member → Bool
has_still_to role p m = takes_part role m.entry && nat_le (phase_for role m.entry) p

-- the tasks that have, in the order in which they joined
abbrev pub who_have_to : Role → ℕ → Members → List ℕ
who_have_to role p members = map (λ m. m.task) (filter (has_still_to role p) members)

-- whether the member signals, and has signalled phase p
abbrev pub has_signalled : ℕ → Member → Bool
has_signalled p m = mode_signals m.entry.mode && nat_lt p m.entry.signal_phase

-- who is missing: the signallers that have not signalled the first phase that is not complete
abbrev pub missing_of : History → List ℕ
missing_of h = who_have_to Signaller (done_of h) (members_of h)

-- who holds the bound back: the waiters that have still to get the least wait phase of all waiters
abbrev pub slowest_of : History → List ℕ
slowest_of h = who_have_to Waiter (unwrap_or (least (wait_phases (members_of h))) 0) (members_of h)

-- how many of these members are registered, signal and wait, and how many of them have signalled
-- phase p
abbrev pub standing_at : ℕ → Members → Standing
standing_at p members = record {
  tasks = length members;
  signallers = length (signal_phases members);
  waiters = length (wait_phases members);
  phase = p;
  signalled = count_by (has_signalled p) members;
}

-- how many are registered, and how far the first phase that is not complete has come
abbrev pub standing_after : History → Standing
standing_after h = standing_at (done_of h) (members_of h)

-- numbers written over places, as many as there are of both: the places behind them stay
abbrev pub put_over : List ℕ → List ℕ → List ℕ
put_over numbers places = take (length places) numbers ++ drop (length numbers) places
