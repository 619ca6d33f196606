-- The numbers by which C is told of graphs: kinds of fault, places, and what is told of them.
use Rattle.std.specs.Prelude.{ℕ, pos}
use Rattle.graph_base.specs.declared.place.Place.{Place}
use Rattle.graph_base.specs.declared.place.Place.TheVariants as place
use Rattle.graph_lang.specs.declared.fault.FaultKind.{FaultKind}
use Rattle.graph_lang.specs.declared.fault.FaultKind.TheVariants.{Syntax, Limit, Twice, Unknown, OutBeforeIn, BadParent, NotHeld, OverBound, AnyMeets}
use Rattle.graph_lang.specs.declared.fault.GraphFault.{GraphFault}
use Rattle.graph_numbers.specs.declared.fault.PhaseFault.{PhaseFault}

-- the number of a kind of fault
abbrev pub kind_number : FaultKind → ℕ
kind_number Syntax = 1
kind_number Limit = 2
kind_number Twice = 3
kind_number Unknown = 4
kind_number OutBeforeIn = 5
kind_number BadParent = 6
kind_number NotHeld = 7
kind_number OverBound = 8
kind_number AnyMeets = 9

-- nothing is told beside the status
abbrev pub no_fault : PhaseFault
no_fault = record { line = 0; number = 0; at = 0; kind = pos 0; place = pos 0 }

-- what the fault of a graph's text tells: its line, and the number of its kind
abbrev pub graph_fault : GraphFault → PhaseFault
graph_fault found = record no_fault { line = found.line; kind = pos (kind_number found.kind) }

-- what a value out of range tells: the phaser or the task, and the phase or the step
abbrev pub too_big_fault : Place → ℕ → PhaseFault
too_big_fault (place.Phaser p) n = record no_fault { number = p; at = n; place = pos 1 }
too_big_fault (place.Task t) n = record no_fault { number = t; at = n; place = pos 2 }
