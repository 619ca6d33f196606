-- A fault of a file as a fault of the run that reads it.
use Rattle.watched_io.specs.declared.fault.FileFault.{FileFault}
use Rattle.watched_io.specs.declared.fault.FileFault.TheVariants as file_fault
use Rattle.watched_io.specs.declared.fault.IoFault.{IoFault}
use Rattle.watched_io.specs.declared.fault.IoFault.TheVariants as io_fault

-- the fault of the same name
abbrev pub as_io_fault : FileFault → IoFault
as_io_fault file_fault.ReadFault = io_fault.ReadFault
as_io_fault file_fault.OutOfMemory = io_fault.OutOfMemory
