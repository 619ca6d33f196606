-- The samples of a part of a text.
use Rattle.std.specs.Prelude.{ℕ, ℤ, ◌≡◌, ◌<◌, ◌≤◌, ◌-◌, ◌++◌, List, length, map, drop}
use Rattle.csv.specs.Reading.{default_config, strip_bom, AreRecords}
use Rattle.csv.specs.declared.parser.State.TheVariants as st
use Rattle.phase_accum.specs.Sends.{AreSends}
use Rattle.graph_lang.specs.Samples.{row_of}

-- with these values in front, the values of the rest are those of the text
abbrev pub Leads : List ℕ → List ℤ → List ℕ → Type 0
Leads text values rest = (more : List ℤ)
    → AreRecords default_config st.StartRecord rest (map row_of more)
    → AreRecords default_config st.StartRecord text (map row_of (values ++ more))

-- these are the values of the lines of a text from one place up to another, each of a byte at
-- least, with whatever values in front: where they are the first, it has no byte order mark
pub record ArePlainLines (text : List ℕ) (from to : ℕ) (values : List ℤ) : Type 0 where
  pub sends : AreSends values
  pub few : length values ≤ to - from
  pub bare : from ≡ 0 → 0 < to → strip_bom text ≡ text
  pub leads : (before : List ℤ) → Leads text before (drop from text)
      → Leads text (before ++ values) (drop to text)
