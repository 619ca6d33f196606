-- The lines of a graph stay lines of it when it grows.
use Rattle.std.proofs.Common.{ℕ, ◌≡◌, ◌<◌, ◌≤◌, ◌⊎◌, inl, inr, List, [], ◌∷◌, ◌++◌, length, get_or, Option, Some, None, IfSome, sym, ap, ◌∙◌, subst, arith}
use Rattle.std.proofs.lemmas.List.{get_or_append_left, get_or_push, length_push}
use Rattle.std.proofs.lemmas.List.Elements.{All-weaker}
use Rattle.std.proofs.lemmas.Bool.{cases_lt}
use Rattle.graph_base.specs.Graphs.{Graph, Task, task_at, phaser_at}
use Rattle.graph_base.specs.TaskLines.{IsTaskLine, IsParent, has_children}
use Rattle.graph_base.specs.declared.line.Parent.{Parent}

pub weaken_some : {A : Type 0} (o : Option A) (P Q : A → Type 0) → ((x : A) → P x → Q x)
    → IfSome o P → IfSome o Q
weaken_some None P Q f is = tt
weaken_some (Some x) P Q f is = f x is

-- what is true of each item below the last, and of the last, is true of each
pub each-push : {A : Type 0} (xs : List A) (y d : A) (P : ℕ → A → Type 0)
    → ((i : ℕ) → i < length xs → P i (get_or xs i d)) → P (length xs) y
    → (i : ℕ) → i < length (xs ++ y ∷ []) → P i (get_or (xs ++ y ∷ []) i d)
each-push xs y d P each last i below = by (cases_lt i (length xs))
  where
    by : (i < length xs) ⊎ (length xs ≤ i) → P i (get_or (xs ++ y ∷ []) i d)
    by (inl lt) = subst (P i) (sym (get_or_append_left xs (y ∷ []) d i lt)) (each i lt)
    by (inr above) =
        let at : length xs ≡ i = omega (arith, above, below, length_push xs y) in
        let At : ℕ → Type 0 = λ i. P i y in
        subst (P i) (sym (get_or_push xs y d i at)) (subst At at last)

-- a graph with more lines
pub record Grows (before after : Graph) : Type 0 where
  pub phasers : length before.phasers ≤ length after.phasers
  pub phaser : (p : ℕ) → p < length before.phasers → phaser_at after p ≡ phaser_at before p
  pub task : (t : ℕ) → t < length before.tasks → task_at after t ≡ task_at before t

pub IsParent-stays : (before after : Graph) (t : ℕ) (task : Task) (parent : Parent)
    → Grows before after → t ≤ length before.tasks → IsParent before t task parent
    → IsParent after t task parent
IsParent-stays before after t task parent grows few is =
    let same : task_at after parent.task ≡ task_at before parent.task =
    grows.task parent.task (omega (arith, is.above, few)) in
    record {
      above = is.above;
      steps = is.steps;
      kind = ap (λ above. has_children above.kind) same ∙ is.kind;
      child_kind = is.child_kind;
      stays = ap (λ above. above.joins_now) same ∙ is.stays;
      waits = rw same is.waits;
      signals = rw same is.signals;
    }

pub IsTaskLine-stays : (before after : Graph) (t : ℕ) (task : Task)
    → Grows before after → t ≤ length before.tasks → IsTaskLine before t task
    → IsTaskLine after t task
IsTaskLine-stays before after t task grows few is =
    let Below : ℕ → Type 0 = λ p. p < length before.phasers in
    let After : ℕ → Type 0 = λ p. p < length after.phasers in
    let later : (p : ℕ) → Below p → After p = λ p lt. omega (arith, lt, grows.phasers) in
    record {
      ends = is.ends;
      inputs = All-weaker Below After later task.inputs is.inputs;
      outputs = All-weaker Below After later task.outputs is.outputs;
      distinct = is.distinct;
      in_order = is.in_order;
      exchange = is.exchange;
      plain = λ k d lt.
          ap (λ line. line.single) (grows.phaser (get_or task.outputs k d) (is.outputs k d lt))
          ∙ is.plain k d lt;
      taps = is.taps;
      factor = is.factor;
      every = is.every;
      until = is.until;
      parent = weaken_some task.parent (IsParent before t task) (IsParent after t task)
          (λ parent. IsParent-stays before after t task parent grows few) is.parent;
      block = record {
        some = is.block.some;
        kind = is.block.kind;
        inputs = λ k d lt.
            (let same : (phaser_at after (get_or task.inputs k d)).bound
            ≡ (phaser_at before (get_or task.inputs k d)).bound =
            ap (λ line. line.bound) (grows.phaser (get_or task.inputs k d) (is.inputs k d lt)) in
            let was : task.block ≤ (phaser_at before (get_or task.inputs k d)).bound =
            is.block.inputs k d lt in
            omega arith);
        outputs = λ k d lt.
            (let same : (phaser_at after (get_or task.outputs k d)).bound
            ≡ (phaser_at before (get_or task.outputs k d)).bound =
            ap (λ line. line.bound) (grows.phaser (get_or task.outputs k d) (is.outputs k d lt)) in
            let was : task.block ≤ (phaser_at before (get_or task.outputs k d)).bound =
            is.block.outputs k d lt in
            omega arith);
      };
      now = is.now;
    }
