-- What C is told of a run, in numbers.
use Rattle.std.specs.Prelude.{◌≡◌, ℕ, ℤ, pos, negsuc, List, Option, Some, None, min}
use Rattle.graph_lang.specs.declared.fault.GraphRefusal.{GraphRefusal}
use Rattle.graph_lang.specs.declared.fault.GraphRefusal.TheVariants as refusal
use Rattle.stream_job.specs.Streams.{StreamState}
use Rattle.stream_job.specs.declared.stopped.Stopped.{Stopped}
use Rattle.stream_job.specs.declared.stopped.Stopped.TheVariants as stopped
use Rattle.graph_numbers.specs.Numbers.{graph_fault, no_fault, too_big_fault}
use Rattle.graph_numbers.specs.declared.fault.PhaseFault.{PhaseFault}
use Rattle.stream_handle.specs.Runs.{BeginsAt, RefusesRun, StopsFor}
use Rattle.stream_handle.specs.declared.numbers.TheConstants.{GRAPH, OUT_OF_MEMORY, HUNGRY, FULL, STALLED, DONE, TOO_BIG, PAUSED}
use Rattle.stream_handle.specs.declared.told.PhaseStop.{PhaseStop}

-- ---- a text

-- the status of why a text gives no run
abbrev pub graph_status : GraphRefusal → ℤ
graph_status (refusal.Fault found) = GRAPH
graph_status refusal.OutOfMemory = OUT_OF_MEMORY

-- what is told beside it
abbrev pub graph_told : GraphRefusal → PhaseFault
graph_told (refusal.Fault found) = graph_fault found
graph_told refusal.OutOfMemory = no_fault

-- a text gives no run: it is told why
pub record RunIsRefused (text : List ℕ) (status : ℤ) (fault : PhaseFault) : Type 0 where
  pub why : GraphRefusal
  pub refuses : RefusesRun text why
  pub status_is : status ≡ graph_status why
  pub fault_is : fault ≡ graph_told why

-- ---- a stop

-- a stop that tells nothing but its kind, and a number
abbrev pub plain_stop : ℤ → ℕ → PhaseStop
plain_stop kind number = record { number = number; at = 0; kind = kind; place = pos 0 }

-- why a run stopped, in numbers
abbrev pub stop_of : Stopped → PhaseStop
stop_of (stopped.Hungry source) = plain_stop HUNGRY source
stop_of (stopped.Full sink) = plain_stop FULL sink
stop_of stopped.Stalled = plain_stop STALLED 0
stop_of stopped.Done = plain_stop DONE 0
stop_of (stopped.TooBig place n) =
    let found = too_big_fault place n in
    record { number = found.number; at = found.at; kind = TOO_BIG; place = found.place }
stop_of stopped.Paused = plain_stop PAUSED 0

-- the run stopped as it is told
pub record StopsAsTold (run : StreamState) (told : PhaseStop) : Type 0 where
  pub stop : Stopped
  pub stops : StopsFor run stop
  pub told_is : told ≡ stop_of stop

-- ---- a start

-- the number that tells where a sink begins: the phase, which is none above 2^63 - 1, or -1 where
-- it has none
abbrev pub start_told : Option ℕ → ℤ
start_told None = negsuc 0
start_told (Some start) = pos (min start 9223372036854775807)

-- where a sink that joins now begins, as it is told
pub record BeginsAsTold (sink : ℕ) (run : StreamState) (told : ℤ) : Type 0 where
  pub start : Option ℕ
  pub begins : BeginsAt sink run start
  pub told_is : told ≡ start_told start
