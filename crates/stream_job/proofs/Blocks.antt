-- The steps of a block, by the children that come later.
use Rattle.std.proofs.Common.{◌≡◌, ℕ, zero, suc, ◌+◌, ◌-◌, ◌<◌, ◌≤◌, List, [], ◌∷◌, Bool, true, false, ◌&&◌, eqb, cond, nat_lt, min, Option, Some, None, length, refl, sym, ap, ◌∙◌, arith}
use Rattle.std.specs.List.{filter, fold, range_with_len}
use Rattle.std.proofs.lemmas.Bool.{eqb-true}
use Rattle.std.proofs.lemmas.Bool.Decides.{nat_tests}
use Rattle.graph_base.specs.declared.line.Parent.{Parent}
use Rattle.graph_base.specs.Graphs.{task_at}
use Rattle.stream_lists.specs.Jobs.{Job}
use Rattle.graph_runs.specs.NextBlocks.{child_allows}
use Rattle.stream_job.specs.Plans.{NoneComes, children_of, is_child_of}

-- a fold over numbers that all leave the start
fold-still : (f : ℕ → ℕ → ℕ) (s a n : ℕ) → ((c : ℕ) → a ≤ c → c < a + n → f s c ≡ s)
    → fold f s (range_with_len a n) ≡ s
fold-still f s a zero still = refl
fold-still f s a (suc n) still =
    ap (λ x. fold f x (range_with_len (a + 1) n)) (still a (omega arith) (omega arith))
    ∙ fold-still f s (a + 1) n (λ c low high. still c (omega arith) (omega arith))

-- a fold over those that pass a test, where the others change nothing
fold-filter : (f : ℕ → ℕ → ℕ) (pass : ℕ → Bool) (s : ℕ) (cs : List ℕ)
    → ((s c : ℕ) → pass c ≡ false → f s c ≡ s) → fold f s (filter pass cs) ≡ fold f s cs
fold-filter f pass s [] same = refl
fold-filter f pass s (c ∷ cs) same =
    by (λ x. fold-filter f pass x cs same) (pass c) refl
  where
    by : ((x : ℕ) → fold f x (filter pass cs) ≡ fold f x cs) → (b : Bool) → pass c ≡ b
        → fold f s (filter pass (c ∷ cs)) ≡ fold f (f s c) cs
    by rest true e = rw e (rest (f s c))
    by rest false e = rw e (rest s ∙ ap (λ x. fold f x cs) (sym (same s c e)))

-- a line that is no child of the task
child-other : (t begun s : ℕ) (parent : Option Parent) → is_child_of t parent ≡ false
    → child_allows t begun parent s ≡ s
child-other t begun s None e = refl
child-other t begun s (Some u) e = rw e refl

-- a line that allows so many steps
child-still : (t begun s : ℕ) (parent : Option Parent)
    → ((u : Parent) → parent ≡ Some u → u.task ≡ t → begun < u.at → s ≤ u.at - begun)
    → child_allows t begun parent s ≡ s
child-still t begun s None enough = refl
child-still t begun s (Some u) enough =
    by (eqb u.task t) (nat_lt begun u.at) refl refl
  where
    by : (a b : Bool) → eqb u.task t ≡ a → nat_lt begun u.at ≡ b
        → cond (a && b) (min s (u.at - begun)) s ≡ s
    by true true same late =
        let later : begun < u.at = grind (arith, nat_tests, late) in
        let le : s ≤ u.at - begun = enough u refl (eqb-true u.task t same) later in omega arith
    by true false same late = refl
    by false b same late = refl

-- the children allow what all lines allow
pub children-allow : (job : Job) (t begun s : ℕ)
    → fold (λ s c. child_allows t begun (task_at job.graph c).parent s) s (children_of job t)
    ≡ fold (λ s c. child_allows t begun (task_at job.graph c).parent s) s
    (range_with_len 0 (length job.graph.tasks))
children-allow job t begun s =
    fold-filter (λ s c. child_allows t begun (task_at job.graph c).parent s)
    (λ c. is_child_of t (task_at job.graph c).parent) s
    (range_with_len 0 (length job.graph.tasks))
    (λ s c e. child-other t begun s (task_at job.graph c).parent e)

-- before the next child all steps are allowed
pub all-allow : (job : Job) (t from to begun s : ℕ) → NoneComes job t from to → from ≤ begun
    → s ≤ to - begun
    → fold (λ s c. child_allows t begun (task_at job.graph c).parent s) s
    (range_with_len 0 (length job.graph.tasks)) ≡ s
all-allow job t from to begun s none low few =
    fold-still (λ s c. child_allows t begun (task_at job.graph c).parent s) s 0
    (length job.graph.tasks)
    (λ c past below. child-still t begun s (task_at job.graph c).parent
    (λ u is of late.
    let far : to ≤ u.at = none c (omega arith) u is of (omega arith) in omega arith))
