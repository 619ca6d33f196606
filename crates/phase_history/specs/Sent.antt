-- What one task has sent on a phaser, and what some tasks together have sent in a phase.
use Rattle.std.specs.Prelude.{◌≡◌, ◌≢◌, ℕ, ◌+◌, ℤ, List, [], ◌∷◌, ◌++◌, Option, Some, true, false, if◌then◌else◌, ◌==◌}
use Rattle.phase_base.specs.declared.entry.Entry.{Entry}
use Rattle.phase_accum.specs.declared.single.Single.{Single}
use Rattle.phase_history.specs.declared.event.Event.TheVariants.{Signalled}
use Rattle.phase_history.specs.Histories.{History, signal_phase, start_of, top_of, phases_signalled}
use Rattle.phase_history.specs.Phases.{list_in_phase}
use Rattle.phase_base.specs.Lists.{is_in}

-- the lists of sends that the task has signalled, in order, a list a phase
abbrev pub sent_by : History → ℕ → List (List ℤ)
sent_by [] task = []
sent_by (Signalled signaller lists single ∷ before) task =
    if signaller == task then sent_by before task ++ lists else sent_by before task
sent_by (event ∷ before) task = sent_by before task

-- what the task has sent in phase p, in order
abbrev pub sent_in : History → ℕ → ℕ → List ℤ
sent_in [] task p = []
sent_in (Signalled signaller lists single ∷ before) task p =
    if signaller == task
    then sent_in before task p ++ list_in_phase lists (signal_phase before signaller) p
    else sent_in before task p
sent_in (event ∷ before) task p = sent_in before task p

-- what these tasks have sent in phase p: all that the first has, then all that the next has, and on
abbrev pub gathered : History → List ℕ → ℕ → List ℤ
gathered h [] p = []
gathered h (task ∷ tasks) p = sent_in h task p ++ gathered h tasks p

-- no task but these has signalled
abbrev pub OnlySignalled : List ℕ → History → Type 0
OnlySignalled tasks h = (task : ℕ) → is_in task tasks ≡ false → phases_signalled h task ≡ 0

-- at most one of these tasks has sent in phase p
abbrev pub OneHasSent : History → List ℕ → ℕ → Type 0
OneHasSent h tasks p = (a b : ℕ) → is_in a tasks ≡ true → is_in b tasks ≡ true
    → sent_in h a p ≢ [] → sent_in h b p ≢ [] → a ≡ b

-- every signal names the same: this single, or none where it is None
abbrev pub NamesAll : Option Single → History → Type 0
NamesAll single [] = Unit {0}
NamesAll single (Signalled task lists named ∷ before) = (named ≡ single) × NamesAll single before
NamesAll single (event ∷ before) = NamesAll single before

-- the task has signalled nothing, and began at phase 0 where it began
pub record IsSilent (h : History) (task : ℕ) : Type 0 where
  pub nothing : phases_signalled h task ≡ 0
  pub from_0 : (start : Entry) → start_of h task ≡ Some start → start.signal_phase ≡ 0

-- some task has signalled up to the top
pub record ReachesTop (h : History) : Type 0 where
  pub task : ℕ
  pub start : Entry
  pub start_is : start_of h task ≡ Some start
  pub reaches : start.signal_phase + phases_signalled h task ≡ top_of h
