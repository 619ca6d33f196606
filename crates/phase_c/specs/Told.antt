-- What a caller is told of a call, in numbers.
use Rattle.std.specs.Prelude.{◌≡◌, ◌+◌, ◌*◌, ℕ, ℤ, negsuc, List, length, Ok}
use Rattle.graph_lang.specs.Reads.{ReadsText}
use Rattle.graph_base.specs.Graphs.{Graph, sources_of}
use Rattle.graph_text.specs.Texts.{lines_of as text_lines}
use Rattle.graph_numbers.specs.Numbers.{graph_fault, no_fault, too_big_fault}
use Rattle.graph_numbers.specs.declared.fault.PhaseFault.{PhaseFault}
use Rattle.graph_numbers.specs.declared.fault.PhaseCounts.{PhaseCounts}
use Rattle.phase_c.specs.Lent.{sinks_in}
use Rattle.phase_c.specs.Names.{RefusesNames}
use Rattle.phase_c.specs.Refusals.{RefusesEval, RefusesText}
use Rattle.phase_c.specs.declared.refusal.Refusal.{Refusal}
use Rattle.phase_c.specs.declared.refusal.Refusal.TheVariants as refusal

-- the version of the library, 0.2.0, as a number
abbrev pub version : ℕ
version = 0 * 10000 + 2 * 100 + 0

-- the status of a refusal, from -1 on downwards
abbrev pub status_of : Refusal → ℤ
status_of (refusal.Graph found) = negsuc 0
status_of refusal.Counts = negsuc 1
status_of (refusal.Sample at) = negsuc 2
status_of (refusal.TooBig at n) = negsuc 3
status_of refusal.Room = negsuc 4
status_of refusal.OutOfMemory = negsuc 5

-- what a refusal tells beside its status
abbrev pub fault_of : Refusal → PhaseFault
fault_of (refusal.Graph found) = graph_fault found
fault_of (refusal.Sample at) = record no_fault { at = at }
fault_of (refusal.TooBig place n) = too_big_fault place n
fault_of refusal.Counts = no_fault
fault_of refusal.Room = no_fault
fault_of refusal.OutOfMemory = no_fault

-- the status and what is told beside it are those of the refusal
pub record IsToldAs (why : Refusal) (status : ℤ) (fault : PhaseFault) : Type 0 where
  pub status_is : status ≡ status_of why
  pub fault_is : fault ≡ fault_of why

-- an evaluation was refused: it is told why
pub record EvalIsRefused (text : List ℕ) (samples : List ℤ) (counts : List ℕ) (room : ℕ)
    (old_sinks new_sinks : List ℕ) (old_starts new_starts : List ℤ) (status : ℤ)
    (fault : PhaseFault) : Type 0 where
  pub why : Refusal
  pub refuses : RefusesEval text samples counts room old_sinks new_sinks old_starts new_starts why
  pub says : IsToldAs why status fault

-- a check was refused: it is told why
pub record CheckIsRefused (text : List ℕ) (status : ℤ) (fault : PhaseFault) : Type 0 where
  pub why : Refusal
  pub refuses : RefusesText text why
  pub says : IsToldAs why status fault

-- names were not written: it is told why
pub record NamesStop (names_of : Graph → List ℕ) (text : List ℕ)
    (room old_needed new_needed : ℕ) (status : ℤ) (fault : PhaseFault) : Type 0 where
  pub why : Refusal
  pub refuses : RefusesNames names_of text room old_needed new_needed why
  pub says : IsToldAs why status fault

-- the counts are those of the graph that the text declares
pub record Counted (text : List ℕ) (counts : PhaseCounts) : Type 0 where
  pub graph : Graph
  pub reads : ReadsText (text_lines text) (Ok graph)
  pub phasers : counts.phasers ≡ length graph.phasers
  pub tasks : counts.tasks ≡ length graph.tasks
  pub sources : counts.sources ≡ sources_of graph
  pub sinks : counts.sinks ≡ length (sinks_in graph)
