-- A place may go to another thread: a stream may, and any thread may give back memory of the heap.
use denote.RawPtr.{RawPtr}
use denote.Param.Send.{IsSend, AllSend, owning_send, struct_send, sendable}
use denote.Struct.Struct.{exits_of}
use denote.Struct.Owning.{shape, fields, to}
use Rattle.std.proofs.Crossing.{frees}
use Rattle.std.specs.contracts.alloc.Global as heap
use Rattle.std.specs.contracts.impls.GlobalAllocator.TheImpl.{ghosts}
use Rattle.std.proofs.alloc.Global.TheSendSync as heap_sent
use Rattle.heap_slot.proofs.Sent.{leaves_nothing, owned_keyless}
use Rattle.stream_job.specs.contracts.stream.Stream as value
use Rattle.stream_job.proofs.stream.Stream.TheSendSync as value_sent
use Rattle.stream_handle.specs.contracts.place.Place.{the_row, the_type}

pub send : IsSend the_row
send =
    let O = the_type in
    let pointer : IsSend RawPtr = search sendable in
    let all : AllSend (fields O) = (pointer, (heap_sent.the_field_send, tt)) in
    owning_send O all
    (λ d. owned_keyless value.the_row heap.the_row ghosts value_sent.the_send frees d.alloc d.at
    d.stream)
    (λ k. leaves_nothing (to O) (exits_of k (fields O)) ((struct_send (shape O) all).leaving k))
