-- How many values in range come next on one stream: 1, 2, one that is too big, 3, and a phase that
-- has no value. The replies were found by hand.
use Rattle.std.proofs.Common.{◌≡◌, List, [], ◌∷◌, Ok, Err, pos, refl}
use Rattle.phase_accum.specs.declared.outcome.Outcome.{Outcome}
use Rattle.phase_accum.specs.declared.outcome.Outcome.TheVariants.{Value, Empty, TooBig}
use Rattle.phase_history.specs.declared.got.GotBlock.TheVariants as got
use Rattle.phase_history.specs.declared.refusal.WaitRefusal.TheVariants as wait
use Rattle.phase_core.specs.Blocks.{before_too_big}

abbrev values : List Outcome
values = Value (pos 1) ∷ Value (pos 2) ∷ TooBig ∷ Value (pos 3) ∷ Empty ∷ []

-- of four the two in front, and of one that one
stops_before : before_too_big values (Ok (got.Values 0 4)) ≡ Ok (got.Values 0 2)
stops_before = refl

fewer : before_too_big values (Ok (got.Values 0 1)) ≡ Ok (got.Values 0 1)
fewer = refl

-- none where the first is too big
none_there : before_too_big values (Ok (got.Values 2 3)) ≡ Ok (got.Values 2 0)
none_there = refl

-- behind it all, also a phase that has no value
behind : before_too_big values (Ok (got.Values 3 2)) ≡ Ok (got.Values 3 2)
behind = refl

ended : before_too_big values (Ok got.Ended) ≡ Ok got.Ended
ended = refl

refused : before_too_big values (Err wait.NotYet) ≡ Err wait.NotYet
refused = refl
