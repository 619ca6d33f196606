use Rattle.std.proofs.Common.{◌≡◌, ◌≤◌, All, IfSome, length, take}
use Rattle.std.specs.List.{flat_map}
use Rattle.phase_eval.specs.Texts.{IsTextPart}
use Rattle.graph_commands.specs.OutputTexts.{value_text}
use Rattle.graph_commands.specs.Puts.{bytes_of}
use Rattle.phase_eval.proofs.texts.in_order.Given as goal

-- the texts so far are those of the values up to this place
abbrev pub invariant-loop-part : goal.invariant-loop-part
invariant-loop-part l = record {
  within : l.at ≤ length l.values;
  left : All (λ part. IfSome part (IsTextPart l.values)) l.part-iterator.rest.items;
  texts : flat_map bytes_of l.texts.items ≡ flat_map value_text (take l.at l.values);
}
