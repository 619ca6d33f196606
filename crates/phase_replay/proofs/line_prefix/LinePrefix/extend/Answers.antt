use Rattle.std.proofs.Common.{◌≡◌, take, arith, rules}
use Rattle.phase_replay.proofs.Keeping.{kept_extended}
use Rattle.phase_replay.proofs.line_prefix.LinePrefix.extend.Goals as goal

-- The bytes that have room stand behind those kept before.
pub returns : goal.returns
returns c =
    let seen : c.args.self.now ≡ take c.self.inside.len c.self.inside.buf = search rules in
    kept_extended 363 c.args.self.now c.self.inside.buf c.args.bytes.now c.copy_from_slice.new.self _ c.self.inside.len c.min-count.result
    seen (omega arith) (omega arith) c.min-count.ensures c.copy_from_slice.ensures.after
