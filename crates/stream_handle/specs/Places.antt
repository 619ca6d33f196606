-- What a handle's place owns.
use Rattle.std.specs.Prelude.{Option}
use Rattle.std.specs.Global.{Global}
use Rattle.std.specs.contracts.impls.GlobalAllocator.TheImpl.{ghosts}
use base.Fml.{Fml}
use denote.RawPtr.{Ptr}
use Rattle.heap_slot.specs.Ownership.{slot_owns}
use Rattle.stream_job.specs.contracts.stream.Stream.{the_row}

-- nothing, or the stream behind the pointer and the right to give its block back
abbrev pub stream_owns : Global → Ptr → Option the_row.Denot → Fml
stream_owns alloc = slot_owns (ghosts.dealloc_token alloc) the_row
