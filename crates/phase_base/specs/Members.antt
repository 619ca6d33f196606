-- The members of a phaser: the numbers of its registered tasks with their entries, in the order
-- in which they joined.
use Rattle.std.specs.Prelude.{ℕ, ◌+◌, List, [], ◌∷◌, Option, Some, None, not, map, min, if◌then◌else◌, ◌==◌}
use Rattle.std.specs.List.{filter}
use Rattle.phase_base.specs.Modes.{mode_signals, mode_waits}
use Rattle.phase_base.specs.declared.entry.Entry.{Entry}
use Rattle.phase_base.specs.declared.member.Member.{Member}

-- the registered tasks, each by its number and its entry
abbrev pub Members : Type 0
Members = List Member

-- a task with this entry, as a member
abbrev pub member : ℕ → Entry → Member
member task entry = record { task = task; entry = entry }

-- the entry of a task, where it is a member
abbrev pub entry_of : Members → ℕ → Option Entry
entry_of [] task = None
entry_of (first ∷ others) task =
    if first.task == task then Some first.entry else entry_of others task

-- the members, with the task's entry changed
abbrev pub changed_at : ℕ → (Entry → Entry) → Members → Members
changed_at task change [] = []
changed_at task change (first ∷ others) =
    if first.task == task
    then record first { entry = change first.entry } ∷ others
    else first ∷ changed_at task change others

-- the members but for one task
abbrev pub without : ℕ → Members → Members
without task members = filter (λ m. not (m.task == task)) members

-- the signal phases of the members that signal
abbrev pub signal_phases : Members → List ℕ
signal_phases members =
    map (λ m. m.entry.signal_phase) (filter (λ m. mode_signals m.entry.mode) members)

-- the wait phases of the members that wait
abbrev pub wait_phases : Members → List ℕ
wait_phases members =
    map (λ m. m.entry.wait_phase) (filter (λ m. mode_waits m.entry.mode) members)

-- the lesser of a number and another, where there is another
abbrev pub lesser : ℕ → Option ℕ → ℕ
lesser n None = n
lesser n (Some m) = min n m

-- the least number of a list that has one
abbrev pub least : List ℕ → Option ℕ
least [] = None
least (n ∷ ns) = Some (lesser n (least ns))

-- the entry after so many more signalled phases
abbrev pub signalled : ℕ → Entry → Entry
signalled n entry = record entry { signal_phase = entry.signal_phase + n }

-- the entry after so many more phases waited for
abbrev pub waited : ℕ → Entry → Entry
waited n entry = record entry { wait_phase = entry.wait_phase + n }
