-- The last sample is the first of the room.
use Rattle.std.proofs.Common.{set, true, refl, rules, FitsSigned, w64}
use Rattle.std.proofs.lemmas.Int.{to_z-of_z}
use Rattle.phase_stream.proofs.Reading.{first_set, last_one}
use Rattle.phase_stream.proofs.source.OpenFile.end.Goals as goal

pub returns-in-Value-clause-got : goal.returns-in-Value-clause-got
returns-in-Value-clause-got g c = λ known values is end.
    let v = c.in-Value.value in
    let fits : FitsSigned w64 v = search rules in
    let found = c.in-Value.ensures is.text values is.read in
    rw (to_z-of_z w64 v fits)
    (last_one g.R.Read.remaining known values (set c.args.room.now.values 0 v) v c.args.self.now
    (record { count = 1; is_last = true }) is end found
    (first_set c.args.room.now.values v (search rules)) refl (search rules) refl)
