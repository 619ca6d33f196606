-- A slot may go to another thread where its value may, and where its memory may be given back.
use denote.RattleType.{RattleType}
use denote.RawPtr.{RawPtr}
use denote.Param.Send.{IsSend, AllSend, Frees, owning_send, struct_send, sendable}
use denote.Struct.Struct.{exits_of}
use denote.Struct.Owning.{shape, fields, to}
use Rattle.std.specs.declared.alloc.Allocator.{Ghosts}
use Rattle.heap_slot.specs.contracts.Slot.{the_row, the_type}
use Rattle.heap_slot.proofs.Sent.{leaves_nothing, owned_keyless}

pub send : (T A : RattleType) (g : Ghosts A.Denot) → IsSend T → IsSend A
    → Frees g g.dealloc_token → IsSend (the_row T A g)
send T A g s sa f =
    let O = the_type T A g in
    let pointer : IsSend RawPtr = search sendable in
    let all : AllSend (fields O) = (pointer, (sa, tt)) in
    owning_send O all (λ d. owned_keyless T A g s f d.alloc d.at d.value)
    (λ k. leaves_nothing (to O) (exits_of k (fields O)) ((struct_send (shape O) all).leaving k))
