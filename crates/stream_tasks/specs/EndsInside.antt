-- What is known while the ends of tasks are joined.
use Rattle.std.specs.Prelude.{◌≡◌, ◌≢◌, ℕ, List, length, slice_get, Option}
use Rattle.stream_members.specs.Members.{HasJoined}
use Rattle.stream_members.specs.AnyMembers.{left_in, left_op}
use Rattle.stream_members.specs.declared.any_left.AnyLeft.{AnyLeft}
use Rattle.stream_tasks.specs.Joinings.{IsPlaced}

-- the one at place p, and this, are one now, and the other places are as they were
pub record HasTakenIn (old new : List (Option AnyLeft)) (p : ℕ) (left : AnyLeft) : Type 0 where
  pub one : AnyLeft
  pub was : IsPlaced old p one
  pub all : AnyLeft
  pub is : IsPlaced new p all
  pub join : HasJoined (left_in one) (left_in left) (left_in all)
  pub op : left_op all ≡ left_op one
  pub elsewhere : (q : ℕ) → q ≢ p → slice_get new q ≡ slice_get old q
  pub long : length new ≡ length old
