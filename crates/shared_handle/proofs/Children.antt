-- What C is told of a child, by what its registration answered.
use Rattle.std.proofs.Common.{◌≡◌, ℕ, ℤ, Option, Some, sym, subst}
use Rattle.std.specs.Prelude.{Result, Ok, Err, IfOk, OnErr}
use Rattle.phase_base.specs.declared.operation.Op.{Op}
use Rattle.phase_history.specs.declared.refusal.RegisterRefusal.{RegisterRefusal}
use Rattle.phase_shared.specs.declared.tried.Tried.{Tried}
use Rattle.handle_numbers.specs.declared.numbers.TheConstants.{GOOD}
use Rattle.shared_handle.specs.Members.{Registration}
use Rattle.shared_handle.specs.AnyMembers.{op_in, state_in, state_of, held_in, StillHas}
use Rattle.shared_handle.specs.Told.{TellsRegister, GivesChild, tried_status, register_status, start_got}
use Rattle.shared_handle.specs.declared.any_member.AnyMember.{AnyMember}
use Rattle.shared_handle.specs.declared.kept.Kept.{Kept}
use Rattle.shared_handle.proofs.Keeping.{StillHas-map}
use Rattle.shared_handle.proofs.Statuses.{register_refused}

-- a child is behind its handle, of its parent's operation; or what was there is
given : (op : Op) (answer : Result AnyMember (Tried RegisterRefusal)) (old new : Option Kept)
    → IfOk answer (λ child. held_in new ≡ Some child) → OnErr answer (new ≡ old)
    → IfOk answer (λ child. op_in child ≡ op) → GivesChild op answer old new
given op (Ok child) old new held same is = (held, is)
given op (Err tried) old new held same is = same

module _
    (call : Registration → Registration → Result Registration (Tried RegisterRefusal) → Type 0)
    (m : AnyMember) (after : Option AnyMember) (old_child new_child : Option Kept)
    (answer : Result AnyMember (Tried RegisterRefusal)) where
  -- the parent is the same registration, it answered so, and a child is of its operation
  abbrev pub Answers : Type 0
  Answers =
      StillHas after (λ n. (op_in n ≡ op_in m)
      × call (state_in m) (state_in n) (state_of answer)
      × IfOk answer (λ child. op_in child ≡ op_in m))

  pub child_told : (status : ℤ) → status ≡ tried_status register_status answer
      → IfOk answer (λ child. held_in new_child ≡ Some child)
      → OnErr answer (new_child ≡ old_child) → Answers
      → StillHas after (λ n. TellsRegister call m n status old_child new_child)
  child_told status is held same told =
      StillHas-map after
      (λ n. (op_in n ≡ op_in m) × call (state_in m) (state_in n) (state_of answer)
      × IfOk answer (λ child. op_in child ≡ op_in m))
      (λ n. TellsRegister call m n status old_child new_child)
      (λ n t. record {
        answer = answer;
        call_is = t.1;
        op = t.0;
        status_is = is;
        child = given (op_in m) answer old_child new_child held same t.2;
      })
      told

-- where it is good, the phase is the one that the child waits for first
pub start_told : (answer : Result AnyMember (Tried RegisterRefusal)) (new : Option Kept)
    (old phase : ℕ) → tried_status register_status answer ≡ GOOD
    → IfOk answer (λ child. held_in new ≡ Some child) → phase ≡ start_got answer old
    → StillHas (held_in new) (λ c. phase ≡ (state_in c).entry.wait_phase)
start_told (Ok child) new old phase good held is =
    subst (λ (o : Option AnyMember).
    StillHas o (λ c. phase ≡ (state_in c).entry.wait_phase)) (sym held) is
start_told (Err tried) new old phase good held is = absurd (register_refused AnyMember tried good)
