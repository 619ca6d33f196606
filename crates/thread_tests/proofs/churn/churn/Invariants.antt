use Rattle.std.specs.Prelude.{◌≡◌, IfSome}
use Rattle.phase_shared.specs.Regs.{phaser_lock}
use Rattle.thread_tests.proofs.churn.churn.Given as goal

-- it stays on its phaser, and so do its children
abbrev pub invariant-loop : goal.invariant-loop
invariant-loop g l = record {
  at : l.receiver.at ≡ phaser_lock l.phaser;
  children : IfSome l.children (λ receipts. receipts.at ≡ phaser_lock l.phaser);
}
