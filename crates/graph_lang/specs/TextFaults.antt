-- A fault of a text as a fault of the samples in it.
use Rattle.watched_io.specs.declared.fault.FileFault.{FileFault}
use Rattle.watched_io.specs.declared.fault.FileFault.TheVariants as file_fault
use Rattle.graph_lang.specs.declared.text_fault.SampleFault.{SampleFault}
use Rattle.graph_lang.specs.declared.text_fault.SampleFault.TheVariants as sample_fault

-- the fault of the same name
abbrev pub as_sample_fault : FileFault → SampleFault
as_sample_fault file_fault.ReadFault = sample_fault.ReadFault
as_sample_fault file_fault.OutOfMemory = sample_fault.OutOfMemory
