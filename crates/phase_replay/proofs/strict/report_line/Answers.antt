use Rattle.std.proofs.Common.{◌≡◌, decimal, rules}
use Rattle.phase_replay.proofs.strict.report_line.Goals as goal

-- The parts are those of the line.
pub returns-clause-line : goal.returns-clause-line
returns-clause-line g c =
    let number : c.format-number.result.now ≡ decimal c.args.number = search rules in
    let parts : c.as_slice.result.now ≡ _ = c.as_slice.ensures in
    let told = rw (parts, number) at c.say.ensures in
    told
