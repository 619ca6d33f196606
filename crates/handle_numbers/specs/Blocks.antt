-- Blocks of phases: what a wait writes.
use Rattle.std.specs.Prelude.{ℕ, ◌+◌, ℤ, List, ◌++◌, map, drop, slice_range, Result, Ok, Err}
use Rattle.phase_accum.specs.declared.outcome.Outcome.{Outcome}
use Rattle.phase_history.specs.declared.got.GotBlock.{GotBlock}
use Rattle.phase_history.specs.declared.got.GotBlock.TheVariants as block
use Rattle.phase_history.specs.declared.refusal.WaitRefusal.{WaitRefusal}
use Rattle.handle_numbers.specs.Numbers.{value_number}

-- what stands in the places of a wait that got so many phases of the stream, from the first on: the
-- number of each one's value, and behind those what stood there
abbrev pub numbers_written : ℕ → ℕ → List Outcome → List ℤ → List ℤ
numbers_written first count stream old =
    map value_number (slice_range stream first (first + count)) ++ drop count old

-- what stands in the places of a wait behind its answer
abbrev pub numbers_after : Result GotBlock WaitRefusal → List Outcome → List ℤ → List ℤ
numbers_after (Ok (block.Values first many)) stream old = numbers_written first many stream old
numbers_after (Ok block.Ended) stream old = old
numbers_after (Err refusal) stream old = old
