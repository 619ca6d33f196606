-- The words of a phaser of one thread, as its crates define them. Definitions and proofs here take
-- them from this module.
pub use Rattle.phase_base.specs.Limits.{Limits}
pub use Rattle.phase_base.specs.Lists.{is_distinct, is_in}
pub use Rattle.phase_base.specs.Members.{entry_of, least, signal_phases, signalled, waited}
pub use Rattle.phase_base.specs.Modes.{mode_signals, mode_waits}
pub use Rattle.phase_base.specs.declared.entry.Entry.{Entry}
pub use Rattle.phase_base.specs.declared.mode.Mode.{Mode}
pub use Rattle.phase_accum.specs.Operations.{AccumulateLaws, Operation}
pub use Rattle.phase_accum.specs.Parcels.{Parcel, StandsForSends}
pub use Rattle.phase_accum.specs.declared.outcome.Outcome.{Outcome}
pub use Rattle.phase_accum.specs.declared.single.Single.{Single}
pub use Rattle.phase_history.specs.Histories.{HasNoSignaller, History, IsAlive, done_of, entry_at, founder, greatest_used, members_of, phases_waited, positions_of, signal_phase, start_of, wait_phase}
pub use Rattle.phase_history.specs.Laws.{HasCounted, HasNoEvents}
pub use Rattle.phase_history.specs.Legal.{IsAccepted, IsLegal}
pub use Rattle.phase_history.specs.Others.{IsUsed, OnlyUsed, OthersCame, events_of, is_by}
pub use Rattle.phase_history.specs.Phases.{received_by, stream_of, value_of_phase}
pub use Rattle.phase_history.specs.Refusals.{refusal_at, register_now_refusal, register_refusal, signal_refusal, wait_refusal, wait_rows}
pub use Rattle.phase_history.specs.Replies.{after_signal, after_wait, after_wait_block, got_at, refused_or, signal_reply, wait_block_reply, wait_reply}
pub use Rattle.phase_history.specs.Sent.{sent_by}
pub use Rattle.phase_history.specs.declared.event.Event.{Event}
pub use Rattle.phase_history.specs.declared.got.Got.{Got}
pub use Rattle.phase_history.specs.declared.got.GotBlock.{GotBlock}
pub use Rattle.phase_history.specs.declared.refusal.RegisterRefusal.{RegisterRefusal}
pub use Rattle.phase_history.specs.declared.refusal.SignalRefusal.{SignalRefusal}
pub use Rattle.phase_history.specs.declared.refusal.WaitRefusal.{WaitRefusal}
pub use Rattle.phase_core.specs.Blocks.{StandForLists, one_each}
pub use Rattle.phase_core.specs.Cores.{CoreState, StandsFor}
