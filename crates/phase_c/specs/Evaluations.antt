-- What an evaluation writes.
use Rattle.std.specs.Prelude.{◌≡◌, ℕ, ℤ, pos, negsuc, List, ◌++◌, length, map, drop, Option, Some, None}
use Rattle.std.specs.List.{flat_map}
use Rattle.stream_lists.specs.Jobs.{Job}
use Rattle.stream_lists.specs.Lists.{lines_of, sinks_of, start_in}
use Rattle.stream_lists.specs.Ranges.{Fits}

-- the values of each sink, in the order of the lines
abbrev pub values_of_sinks : Job → List (List ℤ)
values_of_sinks job = map (λ line. line.1) (lines_of job)

-- how many values each sink has
abbrev pub counts_of : Job → List ℕ
counts_of job = map length (values_of_sinks job)

-- the number that tells where a sink begins: its start, or -1 where it has none
abbrev pub start_number : Option ℕ → ℤ
start_number None = negsuc 0
start_number (Some start) = pos start

-- the numbers that tell where the sinks begin, of those that join now and are live
abbrev pub starts_of : Job → List ℤ
starts_of job = map (λ t. start_number (start_in job t)) (sinks_of job)

-- the values of the sinks, one sink behind the other
abbrev pub all_values : Job → List ℤ
all_values job = flat_map (λ values. values) (values_of_sinks job)

-- it is told how many values each sink has, and where each begins
pub record TellsSinks (job : Job) (sinks : List ℕ) (starts : List ℤ) : Type 0 where
  pub counts_are : sinks ≡ counts_of job
  pub starts_are : starts ≡ starts_of job

-- every value is in range, and the values of the sinks were written; what stands behind them stays
pub record WritesValues (job : Job) (old new : List ℤ) (sinks : List ℕ) (starts : List ℤ)
    : Type 0 where
  pub fits : Fits job
  pub told : TellsSinks job sinks starts
  pub written : new ≡ all_values job ++ drop (length (all_values job)) old
