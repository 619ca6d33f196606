-- The phasers of a run between threads, their founders, and the tasks that begin on them.
use Rattle.std.specs.Prelude.{◌≡◌, ℕ, zero, suc, ◌+◌, List, [], ◌∷◌, length, slice_get, None, Some}
use Rattle.phase_base.specs.declared.operation.Op.{Op}
use Rattle.phase_history.specs.Legal.{IsLegal}
use Rattle.graph_base.specs.Graphs.{phaser_at}
use Rattle.stream_lists.specs.Jobs.{Job}
use Rattle.stream_members.specs.Members.{Spot, limits_on}
use Rattle.stream_members.specs.AnyMembers.{member_in, member_op, left_in, left_op}
use Rattle.stream_members.specs.AnyPhasers.{phaser_op, phaser_spot, IsFounderOf}
use Rattle.stream_members.specs.declared.any_member.AnyMember.{AnyMember}
use Rattle.stream_members.specs.declared.any_phaser.AnyPhaser.{AnyPhaser}
use Rattle.stream_members.specs.declared.any_phaser.AnyReg.{AnyReg}
use Rattle.graph_runs.specs.Moments.{limits_at}
use Rattle.graph_runs.specs.TaskPlaces.{registration_at}
use Rattle.graph_runs.specs.Places.{IsRootOn}
use Rattle.graph_runs.specs.TaskEnds.{HasFoundedAndLeft}
use Rattle.stream_tasks.specs.Founders.{FounderState}
use Rattle.stream_tasks.specs.declared.opening.founder.FounderLeft.{FounderLeft}

-- ---- phasers

-- the operation and the limits are those of phaser p's line
pub record IsOfLine (job : Job) (p : ℕ) (op : Op) (at : Spot) : Type 0 where
  pub op_is : op ≡ (phaser_at job.graph p).op
  pub limits_are : limits_on at ≡ limits_at job p

-- the phasers of a job, in the order of their lines
pub record ArePhasers (job : Job) (phasers : List AnyPhaser) : Type 0 where
  pub many : length phasers ≡ length job.graph.phasers
  pub each : (p : ℕ) (phaser : AnyPhaser) → slice_get phasers p ≡ Some phaser
      → IsOfLine job p (phaser_op phaser) (phaser_spot phaser)

-- the registrations of the founders of these phasers from number p on, in their order
pub record AreFoundersFrom (p : ℕ) (phasers : List AnyPhaser) (regs : List AnyReg) : Type 0 where
  pub many : p + length regs ≡ length phasers
  pub each : (i : ℕ) (phaser : AnyPhaser) (reg : AnyReg) → slice_get phasers (p + i) ≡ Some phaser
      → slice_get regs i ≡ Some reg → IsFounderOf phaser reg

-- the place of no phaser
abbrev pub no_spot : Spot
no_spot = (
  record {
    words = 0;
    slots = 0;
    views_name = 0;
    atom = 0;
    block = 0;
    offset = 0;
    slot_names = [];
  },
  None,
)

-- which phaser each of them is
abbrev pub spot_at : List AnyPhaser → ℕ → Spot
spot_at [] p = no_spot
spot_at (phaser ∷ phasers) zero = phaser_spot phaser
spot_at (phaser ∷ phasers) (suc p) = spot_at phasers p

-- ---- founders

-- the founder of phaser p, which is this one
pub record IsFounderOn (job : Job) (spots : ℕ → Spot) (p : ℕ) (founder : FounderState)
    : Type 0 where
  pub at : founder.at ≡ spots p
  pub line : IsOfLine job p founder.op (spots p)

-- the founders of all phasers, in the order of their lines
pub record AreFounders (job : Job) (spots : ℕ → Spot) (founders : List FounderState) : Type 0 where
  pub many : length founders ≡ length job.graph.phasers
  pub each : (p : ℕ) (founder : FounderState) → slice_get founders p ≡ Some founder
      → IsFounderOn job spots p founder

-- what the founder of phaser p has seen, which has left
pub record HasFounderLeft (job : Job) (spots : ℕ → Spot) (p : ℕ) (left : FounderLeft) : Type 0 where
  pub at : (left_in left.left).at ≡ spots p
  pub line : IsOfLine job p (left_op left.left) (spots p)
  pub numbers : (left_in left.left).numbers ≡ 0 ∷ []
  pub legal : IsLegal (limits_at job p) (left_in left.left).seen
  pub founded : HasFoundedAndLeft (record {
    number = 0;
    gave = left.gave.items;
    seen = (left_in left.left).seen;
  })

-- what the founders of all phasers have seen, in the order of their lines
pub record HaveFoundersLeft (job : Job) (spots : ℕ → Spot) (lefts : List FounderLeft)
    : Type 0 where
  pub many : length lefts ≡ length job.graph.phasers
  pub each : (p : ℕ) (left : FounderLeft) → slice_get lefts p ≡ Some left
      → HasFounderLeft job spots p left

-- ---- tasks

-- the member is registration i of task t, as its founder has just made it
pub record IsRootMember (job : Job) (spots : ℕ → Spot) (t i : ℕ) (member : AnyMember)
    : Type 0 where
  pub at : (member_in member).at ≡ spots (registration_at job t i).phaser
  pub line : IsOfLine job (registration_at job t i).phaser (member_op member)
      (spots (registration_at job t i).phaser)
  pub mode : (member_in member).mode ≡ (registration_at job t i).mode
  pub root : IsRootOn job (registration_at job t i) (member_in member).number
      (member_in member).seen
