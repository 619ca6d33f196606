-- What a slot owns, between threads.
use Rattle.std.specs.Prelude.{Option, Some, None}
use mir.Raw.{raw}
use base.Fraction.{full_share}
use base.Shift.{Keyless}
use denote.Exit.{Exit, unchanged, leaves, hidden, under}
use denote.RattleType.{RattleType}
use denote.Memory.{lone}
use denote.RawPtr.{Ptr, block_ptr, null_ptr}
use denote.Param.Send.{IsSend, Frees, Quiet, part_keyless}
use Rattle.std.specs.declared.alloc.Allocator.{Ghosts}
use Rattle.heap_slot.specs.Ownership.{slot_owns}

-- it belongs to no thread, where the value may go to another and its memory be given back there
pub owned_keyless : (T A : RattleType) (g : Ghosts A.Denot) → IsSend T → Frees g g.dealloc_token
    → (a : A.Denot) (p : Ptr) (held : Option T.Denot)
    → Keyless (slot_owns (g.dealloc_token a) T p held)
owned_keyless T A g s f a p None = tt
owned_keyless T A g s f a null_ptr (Some x) = (tt, f.frees a (raw (lone T.mir)) null_ptr)
owned_keyless T A g s f a (block_ptr b o) (Some x) =
    (part_keyless T s full_share x b o, f.frees a (raw (lone T.mir)) (block_ptr b o))

-- what is made of fields leaves nothing behind that they do not
pub leaves_nothing : {D X : Type 0} (to : D → X) (e : Exit X) → Quiet e
    → Quiet (hidden (under to e))
leaves_nothing to unchanged quiet = λ x w. tt
leaves_nothing to (leaves L l S s r) quiet = λ d. quiet (to d)
