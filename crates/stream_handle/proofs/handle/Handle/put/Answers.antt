use denote.Param.Send.{sendable}
use Rattle.stream_handle.proofs.handle.Handle.TheSendSync.{the_send}
use Rattle.stream_handle.proofs.handle.Handle.put.Goals as goal

-- a handle may go to another thread
pub kept_by_c-requires : goal.kept_by_c-requires
kept_by_c-requires c = search (sendable, the_send)
