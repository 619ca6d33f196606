-- The digits end where their count says.
use Rattle.std.proofs.Common.{ℕ, ◌≡◌, ◌≤◌, ◌<◌, ◌+◌, ◌^◌, List, arith, decimal, length, take, sym, ap, ◌∙◌}
use Rattle.std.proofs.lemmas.Fmt.{length-decimal-le}
use Rattle.std.proofs.lemmas.List.{length-take-le}
use Rattle.graph_commands.proofs.Decimals.{written}
use Rattle.graph_commands.proofs.output_buffer.OutputBuffer.keep_digits.Goals as goal

-- the buffer holds the digits too
ends : (len size : ℕ) (now buf : List ℕ) → take len buf ≡ now → len ≤ 65536 → length buf ≡ 65536 → size ≤ 20
    → length now + 20 ≤ 65536 → len + size ≤ 65536
ends len size now buf is within long few room =
    let same : length now ≡ len = ap length (sym is) ∙ length-take-le len buf (omega arith) in
    omega arith

few : (n : ℕ) → n < 2 ^ 64 → length (decimal n) ≤ 20
few n small = length-decimal-le 20 n (omega arith) (omega arith) small

pub overflow_add-end : goal.overflow_add-end
overflow_add-end c =
    let count = c.digit_count.ensures in
    let size : c.digit_count.result ≤ 20 = omega (arith, few c.args.number c.ranges.number.fits) in
    let end = ends c.self.inside.len c.digit_count.result c.args.self.now c.self.inside.buf c.self.view_is
    c.self.invariant c.self.told size c.requires in
    record { fits = omega arith }

pub write_digits-requires : goal.write_digits-requires
write_digits-requires c =
    let count = c.digit_count.ensures in
    let size : c.digit_count.result ≤ 20 = omega (arith, few c.args.number c.ranges.number.fits) in
    let end = ends c.self.inside.len c.digit_count.result c.args.self.now c.self.inside.buf c.self.view_is
    c.self.invariant c.self.told size c.requires in
    let long = c.self.told in
    (omega arith, omega arith)

pub returns : goal.returns
returns c =
    let count = c.digit_count.ensures in
    let digits = c.write_digits.ensures in
    let start : c.write_digits.result ≡ c.self.inside.len = omega (arith, digits.start) in
    let long = c.self.told in
    let within : c.self.inside.len ≤ length c.self.inside.buf = omega (arith, c.self.invariant) in
    rw (count, ← c.self.view_is) (written c.self.inside.buf c.write_digits.new.buf (decimal c.args.number) _
    c.self.inside.len within (rw start at digits.written) (rw start at digits.before))
