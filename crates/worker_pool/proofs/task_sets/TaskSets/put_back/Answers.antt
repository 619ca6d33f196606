use Rattle.std.proofs.Common.{◌∙◌, sym, refl}
use Rattle.worker_pool.proofs.Freeing.{put_at, put_elsewhere}
use Rattle.worker_pool.proofs.Faults.{no_fault}
use Rattle.worker_pool.proofs.task_sets.TaskSets.put_back.Goals as goal

-- the task failed
pub returns-in-Failed : goal.returns-in-Failed
returns-in-Failed c =
    rw c.fail.ensures record {
      task =
          put_at c.free.new.self c.put.new.self c.args.taken.task _ c.put.ensures
          ∙ c.place_after-place.ensures;
      others = λ t within other.
          put_elsewhere c.free.new.self c.put.new.self c.args.taken.task _ c.put.ensures t
          within other
          ∙ c.free.ensures t within;
      told = c.tell.ensures;
      fault = rw c.in-Failed.is refl;
    }

-- it did not
pub returns-in_default : goal.returns-in_default
returns-in_default c = record {
  task =
      put_at c.free.new.self c.put.new.self c.args.taken.task _ c.put.ensures
      ∙ c.place_after-place.ensures;
  others = λ t within other.
      put_elsewhere c.free.new.self c.put.new.self c.args.taken.task _ c.put.ensures t within other
      ∙ c.free.ensures t within;
  told = c.tell.ensures;
  fault = sym (no_fault c.args.self.now.fault c.args.went.turned c.in_default.not-Failed);
}
