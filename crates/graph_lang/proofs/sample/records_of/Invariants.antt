use Rattle.std.proofs.Common.{◌≡◌, ◌≤◌, ◌+◌, ℕ, List, Some, None, map, length, Option, false}
use Rattle.csv.specs.Machine.{ends_at_end}
use Rattle.csv.specs.Reading.{Reached, Ready, default_config, source_of, strip_bom}
use Rattle.csv.specs.declared.parser.State.TheVariants as st
use Rattle.csv.specs.declared.reader.Trim.TheVariants as trim
use Rattle.phase_accum.specs.Sends.{AreSends}
use Rattle.graph_lang.specs.Samples.{row_of}
use Rattle.graph_lang.proofs.sample.records_of.Given as goal

-- how many bytes are left, where they are known
abbrev pub known_length : Option (List ℕ) → ℕ
known_length None = 0
known_length (Some xs) = length xs

-- The records so far are those of the values so far, and each took a byte at least.
abbrev pub invariant-loop-values : goal.invariant-loop-values
invariant-loop-values l = record {
  trim : l.records.trim ≡ trim.None;
  ready : Ready l.records;
  config : l.records.config ≡ default_config;
  fresh : ends_at_end l.records.state ≡ false;
  sends : AreSends l.values.items;
  reached : (y : List ℕ) × (source_of (λ s. Some s.now) l.records ≡ Some y)
      × Reached default_config st.StartRecord (strip_bom l.fn.text) (map row_of l.values.items) l.records.state y
      × (length l.values.items + length y ≤ length l.fn.text);
}

-- Each record leaves fewer bytes.
abbrev pub decreases-loop-values : goal.decreases-loop-values
decreases-loop-values l = known_length (source_of (λ s. Some s.now) l.records)
