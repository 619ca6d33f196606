-- A registration under any of the five operations, and what a handle has.
use Rattle.std.specs.Prelude.{Bool, true, false, Option, Some, None, Result, Ok, Err}
use Rattle.phase_base.specs.declared.operation.Op.{Op}
use Rattle.phase_base.specs.declared.operation.Op.TheVariants.{Sum, Product, Least, Greatest, Any}
use Rattle.shared_handle.specs.Members.{AskedRegistration, Registration}
use Rattle.shared_handle.specs.declared.any_member.AnyMember.{AnyMember}
use Rattle.shared_handle.specs.declared.any_member.AnyMember.TheVariants as any
use Rattle.shared_handle.specs.declared.any_asked.AnyAsked.{AnyAsked}
use Rattle.shared_handle.specs.declared.any_asked.AnyAsked.TheVariants as asks
use Rattle.shared_handle.specs.declared.kept.Held.{Held}
use Rattle.shared_handle.specs.declared.kept.Held.TheVariants.{Nothing, Rests, Asks}
use Rattle.shared_handle.specs.declared.kept.Kept.{Kept}

-- the operation of its phaser
abbrev pub op_in : AnyMember → Op
op_in (any.Sum m) = Sum
op_in (any.Product m) = Product
op_in (any.Least m) = Least
op_in (any.Greatest m) = Greatest
op_in (any.Any m) = Any

-- the registration, whatever its operation
abbrev pub state_in : AnyMember → Registration
state_in (any.Sum m) = m
state_in (any.Product m) = m
state_in (any.Least m) = m
state_in (any.Greatest m) = m
state_in (any.Any m) = m

-- an answer with the registration in it, whatever its operation
abbrev pub state_of : {R : Type 0} → Result AnyMember R → Result Registration R
state_of (Ok m) = Ok (state_in m)
state_of (Err refusal) = Err refusal

-- the registration at rest that is behind a handle
abbrev pub rests_in : Held → Option AnyMember
rests_in Nothing = None
rests_in (Rests m) = Some m
rests_in (Asks a) = None

abbrev pub held_in : Option Kept → Option AnyMember
held_in None = None
held_in (Some kept) = rests_in kept.held

-- the one that asks
abbrev pub asks_in : Held → Option AnyAsked
asks_in Nothing = None
asks_in (Rests m) = None
asks_in (Asks a) = Some a

abbrev pub asker_in : Option Kept → Option AnyAsked
asker_in None = None
asker_in (Some kept) = asks_in kept.held

-- whether there is either
abbrev pub is_there : Held → Bool
is_there Nothing = false
is_there (Rests m) = true
is_there (Asks a) = true

abbrev pub is_kept : Option Kept → Bool
is_kept None = false
is_kept (Some kept) = is_there kept.held

-- the operation of the phaser of one that asks
abbrev pub op_asked : AnyAsked → Op
op_asked (asks.Sum a) = Sum
op_asked (asks.Product a) = Product
op_asked (asks.Least a) = Least
op_asked (asks.Greatest a) = Greatest
op_asked (asks.Any a) = Any

-- the registration that asks, whatever its operation
abbrev pub asked_state : AnyAsked → AskedRegistration
asked_state (asks.Sum a) = a
asked_state (asks.Product a) = a
asked_state (asks.Least a) = a
asked_state (asks.Greatest a) = a
asked_state (asks.Any a) = a

-- there is a registration that asks, and this holds of it
abbrev pub HasAsked : Option AnyAsked → (AnyAsked → Type 0) → Type 0
HasAsked None told = ⊥
HasAsked (Some a) told = told a

-- there is a registration, and this holds of it
abbrev pub StillHas : Option AnyMember → (AnyMember → Type 0) → Type 0
StillHas None told = ⊥
StillHas (Some m) told = told m
