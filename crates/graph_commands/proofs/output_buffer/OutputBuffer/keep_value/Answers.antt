-- A value has a sign and 20 digits at most.
use Rattle.std.proofs.Common.{ℕ, ◌≡◌, ◌≤◌, ◌<◌, ◌+◌, ◌^◌, List, ◌++◌, arith, decimal, length, length-append, ap}
use Rattle.std.proofs.lemmas.Fmt.{length-decimal-le}
use Rattle.graph_commands.proofs.output_buffer.OutputBuffer.keep_value.Goals as goal
use Rattle.graph_commands.proofs.output_buffer.OutputBuffer.keep_value.Goals.{then-value-lt0, else-value-lt0}

-- what is kept behind a sign, or behind nothing
ends : (n : ℕ) (old signed new : List ℕ) → n < 2 ^ 64 → length old + 22 ≤ 65536 → length signed ≤ length old + 1
    → new ≡ signed ++ decimal n → length new + 1 ≤ 65536
ends n old signed new small room more is =
    let few = length-decimal-le 20 n (omega arith) (omega arith) small in
    omega (arith, ap length is, length-append signed (decimal n))

pub keep_byte-requires-2 : goal.keep_byte-requires-2
keep_byte-requires-2 c =
    let old = c.args.self.now in
    let size = c.unsigned_abs.ensures.bound in
    let more : length c.if-value-lt0.self ≤ length old + 1 = elim c.if-value-lt0.branch [
      | then-value-lt0 w ↦ omega (arith, ap length w.self-is, ap length w.keep_byte.ensures, length-append {A = ℕ})
      | else-value-lt0 w ↦ omega (arith, ap length w.self-is)
    ] in
    ends c.unsigned_abs.result old c.if-value-lt0.self c.keep_digits.new.self (omega arith) c.requires more
    c.keep_digits.ensures
