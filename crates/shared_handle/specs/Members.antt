-- A registration with its phaser, as contracts see it.
use Rattle.std.specs.Prelude.{◌≡◌, ℕ, ℤ, List, [], ◌∷◌, Option, Some, None}
use Rattle.turn_lock.specs.Seats.{Place}
use Rattle.phase_base.specs.Limits.{Limits, limits}
use Rattle.phase_base.specs.Members.{entry_of}
use Rattle.phase_base.specs.declared.entry.Entry.{Entry}
use Rattle.phase_history.specs.declared.event.Event.TheVariants.{Made}
use Rattle.phase_history.specs.Histories.{History, founder, members_of}
use Rattle.phase_history.specs.Legal.{IsLegal}
use Rattle.phase_history.specs.Others.{OnlyUsed}
use Rattle.phase_shared.specs.declared.rule.Terms.{Terms}
use Rattle.phase_shared.specs.declared.rule.Unwoken.{Unwoken}
use Rattle.phase_shared.specs.Calls.{Leaves}
use Rattle.phase_shared.specs.Regs.{RegState}

-- which phaser it is
abbrev pub PhaserSpot : Type 0
PhaserSpot = Place (Terms Unwoken)

-- the limits of the phaser at a spot
abbrev pub terms_limits : Option (Terms Unwoken) → Limits
terms_limits None = limits 1 1
terms_limits (Some terms) = terms.limits

-- the limits of the phaser that a spot is on
abbrev pub limits_by : PhaserSpot → Limits
limits_by at = terms_limits at.1

-- a registration: its phaser, its number, its mode and phases, and the history that it has seen.
-- What two registrations of one phaser have seen begins one history
pub record Registration : Type 0 where
  pub at : PhaserSpot
  pub number : ℕ
  pub entry : Entry
  pub seen : History

-- for the code: a registration that may hold sends, as one
abbrev pub as_registration : {A : Type 0} → RegState A Unwoken → Registration
as_registration reg = record {
  at = reg.at;
  number = reg.number;
  entry = reg.entry;
  seen = reg.seen;
}

-- a registration as it asked for its next phase, and what it asked to send
pub record AskedRegistration : Type 0 where
  pub reg : Registration
  pub values : List ℤ

-- the value that is sent, where one is
abbrev pub sent_value : Option ℤ → List ℤ
sent_value None = []
sent_value (Some value) = value ∷ []

-- for the code: a registration that asks, which may hold what it asked to send
abbrev pub as_asked : {A : Type 0} → RegState A Unwoken → Option ℤ → AskedRegistration
as_asked reg value = record { reg = as_registration reg; values = sent_value value }

-- it is registered, in its mode and at its phases, and what it has seen is legal
pub record IsInItsHistory (m : Registration) : Type 0 where
  pub legal : IsLegal (limits_by m.at) m.seen
  pub member : entry_of (members_of m.seen) m.number ≡ Some m.entry

-- the founder of a phaser of these limits, which nobody else has been on
pub record IsFounding (given : Limits) (m : Registration) : Type 0 where
  pub limits_are : limits_by m.at ≡ given
  pub number : m.number ≡ 0
  pub entry : m.entry ≡ founder
  pub seen : m.seen ≡ Made 0 ∷ []

-- it is the only one on its phaser that it has seen
pub record IsOnlyOne (m : Registration) : Type 0 where
  pub only : OnlyUsed (m.number ∷ []) m.seen

-- after a call it is the same registration of the same phaser, it stands where this says, and what
-- it has seen is legal
pub record StaysAt (entry : Entry) (old new : Registration) : Type 0 where
  pub at : new.at ≡ old.at
  pub number : new.number ≡ old.number
  pub entry_is : new.entry ≡ entry
  pub legal : IsLegal (limits_by old.at) new.seen

-- it has left, by a legal history that ends with its drop
pub record HasLeft (old : Registration) : Type 0 where
  pub new : History
  pub leaves : Leaves old.number old.seen new
  pub legal : IsLegal (limits_by old.at) new
