-- A place owns what a slot of the same pointer owns.
use Rattle.std.proofs.Common.{refl}
use Rattle.std.specs.contracts.alloc.Global as heap
use Rattle.std.specs.contracts.impls.GlobalAllocator.TheImpl.{ghosts}
use Rattle.std.proofs.BoxSteps.Form.{Bx}
use Rattle.heap_slot.specs.contracts.Slot as slot
use Rattle.heap_slot.proofs.Moving.{IsSlotLike, on_heap}
use Rattle.stream_job.specs.contracts.stream.Stream as value
use Rattle.stream_handle.specs.contracts.place.Place as place
use Rattle.stream_job.proofs.stream.Stream.TheLaws as value_laws

abbrev pub E : Bx
E = on_heap value.the_row value_laws.the_row_laws

-- slots of such values
abbrev pub slots : IsSlotLike E (slot.the_row value.the_row heap.the_row ghosts)
slots = record {
  name = (slot.struct value.the_row heap.the_row ghosts).name;
  slot_of = λ s. record { at = s.at; alloc = s.alloc; value = s.value };
  of_slot = λ s. record { at = s.at; alloc = s.alloc; value = s.value };
  is_owned = λ s vs. refl;
  is_back = λ s. refl;
  last = λ s. tt;
  is_quiet = λ s left. refl;
}

-- places of such values
abbrev pub places : IsSlotLike E place.the_row
places = record {
  name = place.struct.name;
  slot_of = λ p. record { at = p.at; alloc = p.alloc; value = p.stream };
  of_slot = λ s. record { at = s.at; alloc = s.alloc; stream = s.value };
  is_owned = λ p vs. refl;
  is_back = λ s. refl;
  last = λ p. tt;
  is_quiet = λ p left. refl;
}
