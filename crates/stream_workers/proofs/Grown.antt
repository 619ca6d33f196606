-- Lists that grow by one, that are turned round, and that are lent.
use Rattle.std.proofs.Common.{◌≡◌, ℕ, zero, suc, ◌<◌, ◌-◌, List, [], ◌∷◌, ◌++◌, length, reverse, Some, None, sym, ap, subst, ◌∙◌, arith}
use Rattle.std.specs.Prelude.{take, Option, IfSome}
use Rattle.std.proofs.Math.Seq.{take-append_seam}
use Rattle.std.proofs.lemmas.List.{length-reverse, get_or-reverse}
use Rattle.std.proofs.lemmas.Option.{slice_get_within, slice_get-get_or, get_or_from_slice_get}
use Rattle.stream_members.specs.Members.{Spot}
use Rattle.stream_tasks.specs.declared.ending.task_left.TaskLeft.{TaskLeft}
use Rattle.stream_tasks.specs.TaskLefts.{IsTaskLeft}
use Rattle.stream_lists.specs.Jobs.{Job}
use Rattle.stream_workers.specs.TasksLeft.{AreTasksLeft}

-- one that has left, if there is one, stands in an option
is_left : (job : Job) (spots : ℕ → Spot) (one : Option TaskLeft) (left : TaskLeft)
    → IfSome one (IsTaskLeft job spots) → Some one ≡ Some (Some left) → IsTaskLeft job spots left
is_left job spots None left is e = absurd (cc)
is_left job spots (Some x) left is e =
    subst (IsTaskLeft job spots) (let f : x ≡ left = cc in f) is

-- one more
pub one_more : (job : Job) (spots : ℕ → Spot) (tasks : List (Option TaskLeft))
    (one : Option TaskLeft) → AreTasksLeft job spots tasks → IfSome one (IsTaskLeft job spots)
    → AreTasksLeft job spots (tasks ++ one ∷ [])
one_more job spots [] one are is zero left e = is_left job spots one left is e
one_more job spots [] one are is (suc t) left e = absurd (cc)
one_more job spots (x ∷ tasks) one are is zero left e = are zero left e
one_more job spots (x ∷ tasks) one are is (suc t) left e =
    one_more job spots tasks one (λ k last f. are (suc k) last f) is t left e

-- the same ones, the last one first
pub turned_round : (job : Job) (spots : ℕ → Spot) (tasks : List (Option TaskLeft))
    → AreTasksLeft job spots tasks → AreTasksLeft job spots (reverse tasks)
turned_round job spots tasks are t left at =
    let low : t < length (reverse tasks) = slice_get_within (reverse tasks) t (Some left) at in
    let long : length (reverse tasks) ≡ length tasks = length-reverse tasks in
    let inside : t < length tasks = omega arith in
    let before : length tasks - 1 - t < length tasks = omega arith in
    are (length tasks - 1 - t) left
    (slice_get-get_or tasks (length tasks - 1 - t) None before
    ∙ ap (λ o. Some o) (sym (get_or-reverse tasks t None inside)
    ∙ get_or_from_slice_get (reverse tasks) t (Some left) None at))

-- a list that was lent whole is the one that came back
pub written : {X : Type 0} (new rest : List X) (n : ℕ) → n ≡ length new
    → take n (new ++ rest) ≡ new
written new rest n e = subst (λ k. take k (new ++ rest) ≡ new) (sym e) (take-append_seam new rest)
