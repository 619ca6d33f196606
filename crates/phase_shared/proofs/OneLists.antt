-- Signals with one value a phase.
use Rattle.std.proofs.Common.{◌≡◌, ℕ, ℤ, List, [], ◌∷◌, Option, refl, ap, ◌∙◌}
use Rattle.std.specs.Prelude.{Result}
use Rattle.phase_shared.specs.Phasers.{Limits, Operation, AccumulateLaws, Parcel, Single, StandForLists, one_each, SignalRefusal, History, after_signal}
use Rattle.phase_shared.specs.Blocks.{SignalsBlock, SignalsValues}
use Rattle.phase_shared.proofs.OneValue.{one_list}

-- what stands for these values, one a phase, stands for no other lists
one_lists : {A : Type 0} (op : Operation A) (parcels : List (Parcel A)) (values : List ℤ)
    (lists : List (List ℤ)) → AccumulateLaws op → StandForLists op parcels (one_each values)
    → StandForLists op parcels lists → lists ≡ one_each values
one_lists op [] [] [] laws one stand = refl
one_lists op [] [] (sends ∷ lists) laws one stand = absurd stand
one_lists op [] (v ∷ values) lists laws one stand = absurd one
one_lists op (held ∷ more) [] lists laws one stand = absurd one
one_lists op (held ∷ more) (v ∷ values) [] laws one stand = absurd stand
one_lists op (held ∷ more) (v ∷ values) (sends ∷ lists) laws one stand =
    ap (λ s. s ∷ lists) (one_list op held v sends laws one.0 stand.0)
    ∙ ap (λ l. (v ∷ []) ∷ l) (one_lists op more values lists laws one.1 stand.1)

-- a signal of what stands for these values, one a phase, is a signal of these values
pub signals_values : {A : Type 0} (op : Operation A) (limits : Limits) (me : ℕ)
    (parcels : List (Parcel A)) (values : List ℤ) (single : Option Single) (old new : History)
    (answer : Result ℕ SignalRefusal) → AccumulateLaws op
    → StandForLists op parcels (one_each values)
    → SignalsBlock op limits me parcels single old new answer
    → SignalsValues limits me values single old new answer
signals_values op limits me parcels values single old new answer laws one s = record {
  before = s.before;
  others = s.others;
  seen = s.seen
      ∙ ap (λ lists. after_signal answer me lists single s.before)
      (one_lists op parcels values s.sends laws one s.stand);
  reply = s.reply (one_each values) one;
}
