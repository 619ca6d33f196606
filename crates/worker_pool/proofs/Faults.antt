-- Faults that are kept.
use Rattle.std.proofs.Common.{◌≡◌, Option, refl}
use Rattle.worker_pool.specs.declared.work.Fault.{Fault}
use Rattle.worker_pool.specs.declared.work.Progress.{Progress}
use Rattle.worker_pool.specs.declared.work.Progress.TheVariants as progress
use Rattle.worker_pool.specs.TaskSets.{fault_by}

-- where a task did not fail the fault stays
pub no_fault : (first : Option Fault) (turned : Progress)
    → ((fault : Fault) → turned ≡ progress.Failed fault → ⊥) → fault_by first turned ≡ first
no_fault first (progress.Failed fault) none = absurd (none fault refl)
no_fault first (progress.Blocked phaser) none = refl
no_fault first (progress.Moved phaser) none = refl
no_fault first progress.Ready none = refl
no_fault first progress.Busy none = refl
no_fault first (progress.Child child) none = refl
no_fault first progress.Gone none = refl
