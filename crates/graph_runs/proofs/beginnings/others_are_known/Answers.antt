-- By what each call leaves of numbers and offsets.
use Rattle.graph_runs.proofs.KnownOthers.{known_first, known_moved, known_begins, known_registers, known_registers_now, known_child, known_nowhere}
use Rattle.graph_runs.proofs.beginnings.others_are_known.Goals as goal

pub returns-clause-first : goal.returns-clause-first
returns-clause-first c = λ job m t numbers seen is first. known_first job m t numbers seen is first

pub returns-clause-moved : goal.returns-clause-moved
returns-clause-moved c = λ job m after t p now moved known.
    known_moved job m after t p now moved known

pub returns-clause-begins : goal.returns-clause-begins
returns-clause-begins c = λ job m after t d new known. known_begins job m after t d new known

pub returns-clause-registers : goal.returns-clause-registers
returns-clause-registers c = λ job m after t d p a u numbers now parent of_t on added known.
    known_registers job m after t d p a u numbers now parent of_t on added known

pub returns-clause-registers_now : goal.returns-clause-registers_now
returns-clause-registers_now c = λ job m after t d p a start u now parent of_t joins on added known.
    known_registers_now job m after t d p a start u now parent of_t joins on added known

pub returns-clause-child : goal.returns-clause-child
returns-clause-child c = λ job m t d u is there parent of_t known.
    known_child job m t d u is there parent of_t known

pub returns-clause-nowhere : goal.returns-clause-nowhere
returns-clause-nowhere c = λ job m t d u is there parent of_t none known p.
    known_nowhere job m t d u is there parent of_t none known p
