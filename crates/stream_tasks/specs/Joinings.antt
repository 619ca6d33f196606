-- What members that left have seen, put together phaser by phaser.
use Rattle.std.specs.Prelude.{◌≡◌, ℕ, List, slice_get, Option, Some, true, false}
use Rattle.phase_history.specs.Legal.{IsLegal}
use Rattle.phase_history.specs.Others.{OthersCame}
use Rattle.phase_base.specs.Lists.{is_in}
use Rattle.stream_members.specs.Members.{limits_on}
use Rattle.stream_members.specs.AnyMembers.{left_in, left_op}
use Rattle.stream_members.specs.declared.any_left.AnyLeft.{AnyLeft}

-- this stands at place p
abbrev pub IsPlaced : {X : Type 0} → List (Option X) → ℕ → X → Type 0
IsPlaced xs p x = slice_get xs p ≡ Some (Some x)

-- at place p stands one that left the same phaser
pub record HasPlaceFor (joined : List (Option AnyLeft)) (p : ℕ) (left : AnyLeft) : Type 0 where
  pub one : AnyLeft
  pub is_at : IsPlaced joined p one
  pub at : (left_in left).at ≡ (left_in one).at
  pub op : left_op left ≡ left_op one

-- one has become the other: of the same phaser, by others' events alone, and for more numbers
pub record HasGrownTo (one all : AnyLeft) : Type 0 where
  pub at : (left_in all).at ≡ (left_in one).at
  pub op : left_op all ≡ left_op one
  pub legal : IsLegal (limits_on (left_in one).at) (left_in one).seen
      → IsLegal (limits_on (left_in one).at) (left_in all).seen
  pub came : OthersCame (left_in one).numbers (left_in one).seen (left_in all).seen
  pub numbers : (n : ℕ) → is_in n (left_in one).numbers ≡ true
      → is_in n (left_in all).numbers ≡ true

-- at each place one has become another
abbrev pub HaveGrown : List (Option AnyLeft) → List (Option AnyLeft) → Type 0
HaveGrown old new = (p : ℕ) (one : AnyLeft) → IsPlaced old p one
    → (all : AnyLeft) × IsPlaced new p all × HasGrownTo one all

-- what stands at place p now has taken this in, whose numbers it did not have before
pub record IsTakenIn (old new : List (Option AnyLeft)) (p : ℕ) (left : AnyLeft) : Type 0 where
  pub one : AnyLeft
  pub was : IsPlaced old p one
  pub all : AnyLeft
  pub is : IsPlaced new p all
  pub came : OthersCame (left_in left).numbers (left_in left).seen (left_in all).seen
  pub numbers : (n : ℕ) → is_in n (left_in left).numbers ≡ true
      → is_in n (left_in all).numbers ≡ true
  pub apart : (n : ℕ) → is_in n (left_in left).numbers ≡ true
      → is_in n (left_in one).numbers ≡ false
