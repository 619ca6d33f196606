-- What it means for a call that it is not refused.
use Rattle.std.proofs.Common.{◌≡◌, ℕ, ◌<◌, Bool, true, false, cond, List, [], ◌∷◌, Option, Some, None, ℤ, refl}
use Rattle.std.proofs.lemmas.Bool.{leb-false, not-false}
use Rattle.phase_base.specs.Limits.{Limits}
use Rattle.phase_base.specs.Modes.{mode_signals, mode_waits, holds}
use Rattle.phase_base.specs.declared.mode.Mode.{Mode}
use Rattle.phase_base.specs.declared.entry.Entry.{Entry}
use Rattle.phase_accum.specs.declared.single.Single.{Single}
use Rattle.phase_base.specs.Members.{entry_of}
use Rattle.phase_history.specs.Histories.{History, positions_of, members_of, greatest_used}
use Rattle.phase_history.proofs.Each.{Each}
use Rattle.phase_history.specs.Refusals.{refusal_at, register_rows, register_refusal, signal_rows, signal_refusal, wait_rows, wait_refusal}
use Rattle.phase_base.specs.Lists.{first_row}

-- the table answers nothing where none of its rows applies
pub no_row : {R : Type 0} (rows : List (Bool × R)) → first_row rows ≡ None → Each (λ (row : Bool × R). row.0 ≡ false) rows
no_row [] none = tt
no_row {R} (row ∷ rows) none =
    elim (row.0) as (λ b. (row.0 ≡ b) → (cond b (Some row.1) (first_row rows) ≡ None)
    → (row.0 ≡ false) × Each (λ (r : Bool × R). r.0 ≡ false) rows) [
      | true ↦ λ t n. absurd (cc)
      | false ↦ λ t n. (t, no_row rows n)
    ]
    refl none

-- and then it answers nothing
pub first_row_none : {R : Type 0} (rows : List (Bool × R)) → Each (λ (row : Bool × R). row.0 ≡ false) rows → first_row rows ≡ None
first_row_none [] each = refl
first_row_none (row ∷ rows) each = rw each.0 (first_row_none rows each.1)

-- a call that is not refused is that of a member, and none of its rows applies
pub record Passes {R : Type 0} (o : Option Entry) (rows : Entry → List (Bool × R)) : Type 0 where
  pub entry : Entry
  pub is_member : o ≡ Some entry
  pub passes : Each (λ (row : Bool × R). row.0 ≡ false) (rows entry)

pub passes_from : {R : Type 0} (o : Option Entry) (no_task : R) (rows : Entry → List (Bool × R))
    → refusal_at o no_task rows ≡ None → Passes o rows
passes_from None no_task rows none = absurd (cc)
passes_from (Some entry) no_task rows none =
    record { entry = entry; is_member = refl; passes = no_row (rows entry) none }

-- an accepted registration: the parent's mode holds the child's, and the child's number is new
pub record Registers (h : History) (parent child : ℕ) (mode : Mode) : Type 0 where
  pub entry : Entry
  pub is_member : entry_of (members_of h) parent ≡ Some entry
  pub allowed : holds entry.mode mode ≡ true
  pub new_number : greatest_used h < child

pub registers_from : (h : History) (parent child : ℕ) (mode : Mode)
    → register_refusal h parent child mode ≡ None → Registers h parent child mode
registers_from h parent child mode none =
    let p : Passes (entry_of (members_of h) parent) (register_rows (members_of h) (greatest_used h) child mode) =
    passes_from _ _ _ none in
    record {
      entry = p.entry;
      is_member = p.is_member;
      allowed = not-false _ p.passes.0;
      new_number = leb-false _ _ p.passes.1.0;
    }

-- an accepted signal: the task is a member that signals
pub record SignalsNow (h : History) (task : ℕ) : Type 0 where
  pub entry : Entry
  pub is_member : entry_of (members_of h) task ≡ Some entry
  pub signals : mode_signals entry.mode ≡ true

pub signals_from : (limits : Limits) (h : History) (task : ℕ) (lists : List (List ℤ)) (single : Option Single)
    → signal_refusal limits h task lists single ≡ None → SignalsNow h task
signals_from limits h task lists single none =
    let p : Passes (entry_of (members_of h) task) (signal_rows limits h lists single) = passes_from _ _ _ none in
    record { entry = p.entry; is_member = p.is_member; signals = not-false _ p.passes.0 }

-- an accepted wait: the task is a member that waits
pub record WaitsNow (h : History) (task : ℕ) : Type 0 where
  pub entry : Entry
  pub is_member : entry_of (members_of h) task ≡ Some entry
  pub waits : mode_waits entry.mode ≡ true

pub waits_from : (limits : Limits) (h : History) (task n : ℕ)
    → wait_refusal limits h task n ≡ None → WaitsNow h task
waits_from limits h task n none =
    let p : Passes (entry_of (members_of h) task) (wait_rows limits (positions_of h) n) = passes_from _ _ _ none in
    record { entry = p.entry; is_member = p.is_member; waits = not-false _ p.passes.0 }
