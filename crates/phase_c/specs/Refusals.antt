-- Why a call is refused.
use Rattle.std.specs.Prelude.{◌≡◌, ◌<◌, ◌≤◌, ◌⊎◌, ℕ, ℤ, List, [], length, Ok, Err, Some, None}
use Rattle.std.specs.List.{sum}
use Rattle.graph_lang.specs.Reads.{ReadsText}
use Rattle.graph_base.specs.Graphs.{Graph}
use Rattle.graph_base.specs.declared.place.Place.{Place}
use Rattle.graph_text.specs.Texts.{lines_of as text_lines}
use Rattle.graph_lang.specs.declared.fault.FaultKind.TheVariants.{AnyMeets}
use Rattle.graph_lang.specs.declared.fault.GraphRefusal.{GraphRefusal}
use Rattle.graph_lang.specs.declared.fault.GraphRefusal.TheVariants as graph
use Rattle.stream_lists.specs.Jobs.{Job}
use Rattle.stream_lists.specs.Meetings.{meeting_line}
use Rattle.stream_lists.specs.Ranges.{first_too_big}
use Rattle.phase_c.specs.Lent.{HasLengths, IsFirstNoSample, IsJobLent}
use Rattle.phase_c.specs.Evaluations.{WritesValues, TellsSinks, counts_of}
use Rattle.phase_c.specs.declared.refusal.Refusal.{Refusal}
use Rattle.phase_c.specs.declared.refusal.Refusal.TheVariants as refusal

-- why a text gives no graph, as the refusal of a call
abbrev pub refusal_of_graph : GraphRefusal → Refusal
refusal_of_graph (graph.Fault found) = refusal.Graph found
refusal_of_graph graph.OutOfMemory = refusal.OutOfMemory

-- the text has this fault, or memory ran out
abbrev pub RefusesText : List ℕ → Refusal → Type 0
RefusesText text (refusal.Graph found) = ReadsText (text_lines text) (Err found)
RefusesText text refusal.OutOfMemory = Unit {0}
RefusesText text refusal.Counts = ⊥
RefusesText text (refusal.Sample at) = ⊥
RefusesText text (refusal.TooBig place n) = ⊥
RefusesText text refusal.Room = ⊥

-- ---- what is lent

-- the text reads as a graph, and what is lent has not the lengths that it asks for
pub record IsMiscounted (text : List ℕ) (samples : List ℤ) (counts : List ℕ) (sinks starts : ℕ)
    : Type 0 where
  pub graph : Graph
  pub reads : ReadsText (text_lines text) (Ok graph)
  pub wrong : ¬ (HasLengths samples counts sinks starts graph)

-- the lengths are those that the graph asks for, and a number is no sample
pub record HasNoSample (text : List ℕ) (samples : List ℤ) (counts : List ℕ) (sinks starts : ℕ)
    (at : ℕ) : Type 0 where
  pub graph : Graph
  pub reads : ReadsText (text_lines text) (Ok graph)
  pub lengths : HasLengths samples counts sinks starts graph
  pub first : IsFirstNoSample samples at

-- the task of this line is the first that meets one of an earlier line
pub record TextMeetsAt (text : List ℕ) (samples : List ℤ) (counts : List ℕ) (sinks starts line : ℕ)
    : Type 0 where
  pub job : Job
  pub lent : IsJobLent text samples counts sinks starts job
  pub least : job.starts ≡ []
  pub meets : meeting_line job ≡ Some line

-- what is lent tells no job of which no two tasks meet, or memory ran out
abbrev pub RefusesLent : List ℕ → List ℤ → List ℕ → ℕ → ℕ → Refusal → Type 0
RefusesLent text samples counts sinks starts (refusal.Graph found) =
    ReadsText (text_lines text) (Err found)
    ⊎ ((found.kind ≡ AnyMeets) × TextMeetsAt text samples counts sinks starts found.line)
RefusesLent text samples counts sinks starts refusal.Counts =
    IsMiscounted text samples counts sinks starts
RefusesLent text samples counts sinks starts (refusal.Sample at) =
    HasNoSample text samples counts sinks starts at
RefusesLent text samples counts sinks starts refusal.OutOfMemory = Unit {0}
RefusesLent text samples counts sinks starts (refusal.TooBig place n) = ⊥
RefusesLent text samples counts sinks starts refusal.Room = ⊥

-- ---- the job

-- the values of the sinks are more than there is room for, and it is told how many there are
pub record HasNoRoom (job : Job) (room : ℕ) (sinks : List ℕ) (starts : List ℤ) : Type 0 where
  pub told : TellsSinks job sinks starts
  pub short : room < sum (counts_of job)

-- there is room, and this is the first value that is out of range
pub record IsFirstTooBig (job : Job) (room : ℕ) (sinks : List ℕ) (starts : List ℤ) (place : Place)
    (n : ℕ) : Type 0 where
  pub told : TellsSinks job sinks starts
  pub enough : sum (counts_of job) ≤ room
  pub first : first_too_big job ≡ Some (place, n)

-- the values of a job were not written: they have no room, one is out of range, or memory ran out
abbrev pub RefusesJob : Job → ℕ → List ℕ → List ℤ → Refusal → Type 0
RefusesJob job room sinks starts refusal.Room = HasNoRoom job room sinks starts
RefusesJob job room sinks starts (refusal.TooBig place n) =
    IsFirstTooBig job room sinks starts place n
RefusesJob job room sinks starts refusal.OutOfMemory = Unit {0}
RefusesJob job room sinks starts (refusal.Graph found) = ⊥
RefusesJob job room sinks starts refusal.Counts = ⊥
RefusesJob job room sinks starts (refusal.Sample at) = ⊥

-- ---- a call

-- what is lent was refused, and nothing was written
pub record IsRefusedLent (text : List ℕ) (samples : List ℤ) (counts : List ℕ)
    (old_sinks new_sinks : List ℕ) (old_starts new_starts : List ℤ) (why : Refusal) : Type 0 where
  pub refuses : RefusesLent text samples counts (length new_sinks) (length new_starts) why
  pub sinks_same : new_sinks ≡ old_sinks
  pub starts_same : new_starts ≡ old_starts

-- what is lent tells a job of which no two tasks meet, whose sinks that join now begin at the least
-- phase that they may, and its values were not written
pub record IsRefusedJob (text : List ℕ) (samples : List ℤ) (counts : List ℕ) (room : ℕ)
    (sinks : List ℕ) (starts : List ℤ) (why : Refusal) : Type 0 where
  pub job : Job
  pub lent : IsJobLent text samples counts (length sinks) (length starts) job
  pub least : job.starts ≡ []
  pub apart : meeting_line job ≡ None
  pub refuses : RefusesJob job room sinks starts why

-- why an evaluation has no answer
abbrev pub RefusesEval : List ℕ → List ℤ → List ℕ → ℕ → List ℕ → List ℕ → List ℤ → List ℤ → Refusal
    → Type 0
RefusesEval text samples counts room old_sinks new_sinks old_starts new_starts why =
    IsRefusedLent text samples counts old_sinks new_sinks old_starts new_starts why
    ⊎ IsRefusedJob text samples counts room new_sinks new_starts why

-- what is lent tells a job of which no two tasks meet, whose sinks that join now begin at the least
-- phase that they may, and its values were written
pub record IsDone (text : List ℕ) (samples : List ℤ) (counts : List ℕ) (old new : List ℤ)
    (sinks : List ℕ) (starts : List ℤ) : Type 0 where
  pub job : Job
  pub lent : IsJobLent text samples counts (length sinks) (length starts) job
  pub least : job.starts ≡ []
  pub apart : meeting_line job ≡ None
  pub evaluates : WritesValues job old new sinks starts
