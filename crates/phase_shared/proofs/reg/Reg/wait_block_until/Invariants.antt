use Rattle.std.specs.Prelude.{◌≡◌}
use Rattle.phase_shared.proofs.Later.{HasWaited}
use Rattle.phase_shared.proofs.reg.Reg.wait_block_until.Given as goal

-- others' events came, and the places are as they were
abbrev pub invariant-loop : goal.invariant-loop
invariant-loop g l = record {
  waited : HasWaited l.fn.self l.self;
  out : l.out ≡ l.fn.out;
}
