-- By where the text ends.
use Rattle.sample_pieces.proofs.Ending.{ends_between, ends_within, within_at}
use Rattle.sample_pieces.proofs.reader.SampleReader.end.Goals as goal

pub returns-in-Between : goal.returns-in-Between
returns-in-Between c = λ text values has.
    ends_between text values c.args.self.now has c.in-Between.is

pub returns-in-Field : goal.returns-in-Field
returns-in-Field c = λ text values has.
    ends_within text values c.args.self.now c.field_value.result has
    (within_at c.args.self.now.at c.in-Field.is) c.field_value.ensures
