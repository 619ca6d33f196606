-- Faults below a job as faults of the job.
use Rattle.watched_io.specs.declared.fault.FileFault.{FileFault}
use Rattle.watched_io.specs.declared.fault.FileFault.TheVariants as file_fault
use Rattle.graph_lang.specs.declared.fault.GraphRefusal.{GraphRefusal}
use Rattle.graph_lang.specs.declared.fault.GraphRefusal.TheVariants as graph_refusal
use Rattle.graph_commands.specs.declared.fault.JobFault.{JobFault}
use Rattle.graph_commands.specs.declared.fault.JobFault.TheVariants as fault

-- a fault of a file
abbrev pub of_file : FileFault → JobFault
of_file file_fault.ReadFault = fault.ReadFault
of_file file_fault.OutOfMemory = fault.OutOfMemory

-- why a text gave no graph
abbrev pub of_graph : GraphRefusal → JobFault
of_graph (graph_refusal.Fault found) = fault.Graph found
of_graph graph_refusal.OutOfMemory = fault.OutOfMemory
