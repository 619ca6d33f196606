-- A minus sign, and the number behind it.
use Rattle.std.proofs.Common.{◌≡◌, ◌<◌, arith, pos, ◌-ℤ◌, to_z, of_z, w64}
use Rattle.std.proofs.lemmas.Int.{ints}
use Rattle.graph_lang.proofs.PlainLines.{minus-line, rest-is}
use Rattle.graph_lang.proofs.plain.line_in.Goals as goal
use lib.IntN.{neg_ℤ}

pub returns-in-Some-2 : goal.returns-in-Some-2
returns-in-Some-2 c =
    let text = c.args.text.now in
    let line = c.in-Some-count_in.line in
    let begins = rw (rest-is text 1) at c.in-Some-count_in.ensures.some in
    let small = begins.few in
    let value : to_z w64 (of_z w64 (pos 0 -ℤ to_z w64 line.value)) ≡ neg_ℤ (pos line.value) = omega (arith, ints) in
    let some : 0 < line.value = omega arith in
    record { some = rw value (minus-line text line.value line.size c.if-text-ne45.false some begins) }
