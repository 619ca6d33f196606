-- Parts of long texts.
use Rattle.std.specs.Prelude.{◌≡◌, ◌≤◌, ◌-◌, ℕ, ℤ, List, length, take, drop}
use Rattle.std.specs.List.{flat_map}
use Rattle.graph_commands.specs.OutputTexts.{value_text}
use Rattle.graph_lang.specs.PlainLines.{ArePlainLines}
use Rattle.phase_eval.specs.declared.texts.ReadPart.{ReadPart}
use Rattle.phase_eval.specs.declared.texts.TextPart.{TextPart}

-- the samples of a part of a text
pub record IsReadPart (text : List ℕ) (part : ReadPart) : Type 0 where
  pub order : part.from ≤ part.to
  pub within : part.to ≤ length text
  pub lines : ArePlainLines text part.from part.to part.values.items

-- the text of the values from one place up to another
pub record IsTextPart (values : List ℤ) (part : TextPart) : Type 0 where
  pub order : part.from ≤ part.to
  pub within : part.to ≤ length values
  pub text_is : part.text.items
      ≡ flat_map value_text (take (part.to - part.from) (drop part.from values))
