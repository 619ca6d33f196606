-- What the byte does.
use Rattle.sample_pieces.proofs.Ending.{mark_ended}
use Rattle.sample_pieces.proofs.Reading.{skipped, copied_finds, ended, separated}
use Rattle.sample_pieces.proofs.reader.SampleReader.byte.Goals as goal

pub returns-then-ends_mark : goal.returns-then-ends_mark
returns-then-ends_mark c = λ text values has.
    let mark = c.if-ends_mark.ensures in
    let new = c.begin.ensures in
    mark_ended text values c.args.self.now c.begin.new.self c.args.byte has mark.0 mark.1 mark.2
    new.at new.field new.first

pub returns-in-Skips : goal.returns-in-Skips
returns-in-Skips c = λ text values has.
    let new = c.skip.ensures in
    rw new.found (skipped text values c.args.self.now c.skip.new.self c.args.byte c.in-Skips.to
    (record { has = has; other = c.if-ends_mark.ensures; done = c.in-Skips.ensures.done })
    c.in-Skips.ensures.sign new.at new.field new.first)

pub returns-in-Copies : goal.returns-in-Copies
returns-in-Copies c = λ text values has.
    copied_finds text values c.args.self.now c.copy.new.self c.args.byte c.in-Copies.to
    c.copy.result
    (record { has = has; other = c.if-ends_mark.ensures; done = c.in-Copies.ensures.done })
    c.in-Copies.ensures.sign c.copy.ensures.found

pub returns-in-Ends : goal.returns-in-Ends
returns-in-Ends c = λ text values has.
    let new = c.begin-in-Ends.ensures in
    ended text values c.args.self.now c.begin-in-Ends.new.self c.args.byte c.in-Ends.to
    c.field_value-found.result
    (record { has = has; other = c.if-ends_mark.ensures; done = c.in-Ends.ensures.done })
    c.in-Ends.ensures.sign new.at new.field new.first c.field_value-found.ensures

pub returns-in-Separates : goal.returns-in-Separates
returns-in-Separates c = λ text values has.
    separated text values c.args.self.now c.args.byte
    (record { has = has; other = c.if-ends_mark.ensures; done = c.in-Separates.ensures.done })
    c.in-Separates.ensures.sign
