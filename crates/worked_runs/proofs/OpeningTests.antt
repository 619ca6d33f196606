-- Tests of an opening that is given by lists.
use Rattle.std.proofs.Common.{◌≡◌, ◌≢◌, ℕ, zero, suc, ◌<◌, Bool, true, false, eqb, eq-eqb, List, [], ◌∷◌, Option, Some, None, is_some, is_none, IsSome, length, get_or, refl, arith}
use Rattle.phase_base.specs.Limits.{Limits, AreLimits}
use Rattle.phase_base.specs.Modes.{mode_signals, mode_waits}
use Rattle.phase_base.specs.declared.entry.Entry.{Entry}
use Rattle.phase_history.specs.declared.event.Event.TheVariants.{Made, Registered, RegisteredNow, Signalled, Waited, Dropped}
use Rattle.phase_history.specs.Histories.{History, start_of}
use Rattle.phase_history.specs.Refusals.{register_refusal, drop_refusal}
use Rattle.phase_history.specs.Legal.{IsLegal}
use Rattle.phase_history.specs.Others.{IsUsed}
use Rattle.graph_base.specs.Graphs.{task_at}
use Rattle.graph_base.specs.TaskLines.{IsGraph}
use Rattle.stream_lists.specs.Jobs.{Job, index_in}
use Rattle.stream_lists.specs.Spans.{signalled_by}
use Rattle.graph_runs.specs.Moments.{limits_at, input_at, OnLine}
use Rattle.graph_runs.proofs.OnLines.{on_phaser}
use Rattle.graph_runs.specs.Openings.{IsOpening, PhaserOpened, TaskOpened, HasOpened}
use Rattle.graph_runs.proofs.AtOpening.{are_limits}
use Rattle.worked_runs.specs.Runs.{opened}
use Rattle.worked_runs.proofs.Tests as test
use Rattle.worked_runs.proofs.Tests.{Test, Both, never, always, giving, both, either, each, when_some, where_so}
use Rattle.worked_runs.proofs.NextTests.{on_line, on_line-is, is_on_line}

-- what a list has at some place stands below its end
pub get_or-some : (xs : List (Option ℕ)) (i n : ℕ) → get_or xs i None ≡ Some n → i < length xs
get_or-some [] i n e = absurd (cc)
get_or-some (x ∷ xs) zero n e = omega arith
get_or-some (x ∷ xs) (suc i) n e =
    let r : i < length xs = get_or-some xs i n e in omega arith

pub row-some : (rows : List (List (Option ℕ))) (p t n : ℕ)
    → get_or (get_or rows p []) t None ≡ Some n
    → p < length rows
row-some [] p t n e = absurd (cc)
row-some (row ∷ rows) zero t n e = omega arith
row-some (row ∷ rows) (suc p) t n e =
    let r : p < length rows = row-some rows p t n e in omega arith

-- ---- a phaser

-- a legal history that is an opening
abbrev pub Opens : Limits → ℕ → History → Type 0
Opens limits founder h = AreLimits limits → Both (IsLegal limits h) (IsOpening founder h)

abbrev pub opens : (limits : Limits) (founder : ℕ) (h : History) → Test (Opens limits founder h)
opens limits founder [] = never
opens limits founder (Made task ∷ []) =
    giving (λ same are. record { left = (are, refl); right = (same, refl) })
    (test.is_equal task founder)
opens limits founder (Made task ∷ event ∷ before) =
    never
opens limits founder (Registered parent child mode ∷ before) =
    giving (λ b are. (let earlier = b.right.right are in record {
      left = (earlier.left, b.right.left);
      right = (b.left, earlier.right);
    }))
    (both (test.is_equal parent founder)
    (both (test.is_none (register_refusal before parent child mode)) (opens limits founder before)))
opens limits founder (Dropped task ∷ before) =
    giving (λ b are. (let earlier = b.right.right are in record {
      left = (earlier.left, b.right.left);
      right = (b.left, earlier.right);
    }))
    (both (test.is_equal task founder)
    (both (test.is_none (drop_refusal before task)) (opens limits founder before)))
opens limits founder (RegisteredNow parent child ∷ before) =
    never
opens limits founder (Signalled task lists single ∷ before) =
    never
opens limits founder (Waited task phases ∷ before) =
    never

abbrev pub is_used : (h : History) (n : ℕ) → Test (IsUsed h n)
is_used h n = test.is_true (is_some (start_of h n))

-- the numbers on a phaser
abbrev pub Numbers : List (Option ℕ) → History → ℕ → Type 0
Numbers row h t = (n : ℕ) → get_or row t None ≡ Some n
    → Both (IsUsed h n) (Both (n ≢ 0)
    ((u : ℕ) → u < length row → get_or row u None ≡ Some n → t ≡ u))

abbrev pub numbers : (row : List (Option ℕ)) (h : History) (t : ℕ) → Test (Numbers row h t)
numbers row h t =
    when_some (get_or row t None)
    (λ n. Both (IsUsed h n) (Both (n ≢ 0)
    ((u : ℕ) → u < length row → get_or row u None ≡ Some n → t ≡ u)))
    (λ n. both (is_used h n) (both (test.is_other n 0)
    (each (length row) (λ u. get_or row u None ≡ Some n → t ≡ u)
    (λ u. where_so (get_or row u None ≡ Some n) (t ≡ u) (is_same (get_or row u None) n)
    (λ e. (let here : eqb n n ≡ true = eq-eqb n n refl in rw e here)) (test.is_equal t u)))))
  where
    is_same : Option ℕ → ℕ → Bool
    is_same None n = false
    is_same (Some a) n = eqb a n

abbrev pub phaser_opened : (job : Job) (histories : List History) (rows : List (List (Option ℕ)))
    (offsets : List ℕ) (p : ℕ)
    → Test (IsGraph job.graph → p < length job.graph.phasers
    → PhaserOpened job (opened histories rows offsets) p)
phaser_opened job histories rows offsets p =
    let h = get_or histories p [] in
    let row = get_or rows p [] in
    giving (λ b is pp. (let both_of = b.left (are_limits job p is pp) in
    record {
      legal = both_of.left;
      founder = 0;
      opening = both_of.right;
      distinct = λ t u n lt lu et eu.
          (b.right t (get_or-some row t n et) n et).right.right u (get_or-some row u n eu) eu;
      used = λ t n et. (b.right t (get_or-some row t n et) n et).left;
      apart = λ t n et. (b.right t (get_or-some row t n et) n et).right.left;
    }))
    (both (opens (limits_at job p) 0 h)
    (each (length row) (λ t. Numbers row h t) (λ t. numbers row h t)))

-- ---- a task

-- what holds of its number on phaser p
abbrev pub OnIt : Job → List History → List (List (Option ℕ)) → ℕ → ℕ → Type 0
OnIt job histories rows t p = (n : ℕ) → get_or (get_or rows p []) t None ≡ Some n
    → Both ((task_at job.graph t).parent ≡ None) (Both (OnLine (task_at job.graph t) p)
    ((j : ℕ) → index_in (signalled_by (task_at job.graph t)) p ≡ Some j
    → (start : Entry) → start_of (get_or histories p []) n ≡ Some start
    → mode_signals start.mode ≡ true))

abbrev pub on_it : (job : Job) (histories : List History) (rows : List (List (Option ℕ))) (t p : ℕ)
    → Test (OnIt job histories rows t p)
on_it job histories rows t p =
    let task = task_at job.graph t in
    let h = get_or histories p [] in
    let Signals : ℕ → Type 0 = λ n. (start : Entry) → start_of h n ≡ Some start
    → mode_signals start.mode ≡ true in
    when_some (get_or (get_or rows p []) t None)
    (λ n. Both (task.parent ≡ None) (Both (OnLine task p)
    ((j : ℕ) → index_in (signalled_by task) p ≡ Some j → Signals n)))
    (λ n. both (test.is_none task.parent) (both (is_on_line task p)
    (when_some (index_in (signalled_by task) p) (λ j. Signals n)
    (λ j. when_some (start_of h n) (λ start. mode_signals start.mode ≡ true)
    (λ start. test.is_true (mode_signals start.mode))))))

-- it is on the phasers of its line
abbrev pub IsOnIt : Job → List (List (Option ℕ)) → ℕ → ℕ → Type 0
IsOnIt job rows t p = (task_at job.graph t).parent ≡ None → OnLine (task_at job.graph t) p
    → IsSome (get_or (get_or rows p []) t None)

abbrev pub is_on_it : (job : Job) (rows : List (List (Option ℕ))) (t p : ℕ)
    → Test (IsOnIt job rows t p)
is_on_it job rows t p =
    let task = task_at job.graph t in
    let o = get_or (get_or rows p []) t None in
    where_so (task.parent ≡ None) (OnLine task p → IsSome o) (is_none task.parent)
    (λ none. rw none refl)
    (where_so (OnLine task p) (IsSome o) (on_line task p) (on_line-is task p)
    (test.is_true (is_some o)))

-- it waits for input number k
abbrev pub WaitsOn : Job → List History → List (List (Option ℕ)) → ℕ → ℕ → Type 0
WaitsOn job histories rows t k =
    (n : ℕ) → get_or (get_or rows (input_at (task_at job.graph t) k) []) t None ≡ Some n
    → (start : Entry)
    → start_of (get_or histories (input_at (task_at job.graph t) k) []) n ≡ Some start
    → mode_waits start.mode ≡ true

abbrev pub waits_on : (job : Job) (histories : List History) (rows : List (List (Option ℕ)))
    (t k : ℕ)
    → Test (WaitsOn job histories rows t k)
waits_on job histories rows t k =
    let p = input_at (task_at job.graph t) k in
    let h = get_or histories p [] in
    when_some (get_or (get_or rows p []) t None)
    (λ n. (start : Entry) → start_of h n ≡ Some start → mode_waits start.mode ≡ true)
    (λ n. when_some (start_of h n) (λ start. mode_waits start.mode ≡ true)
    (λ start. test.is_true (mode_waits start.mode)))

abbrev pub task_opened : (job : Job) (histories : List History) (rows : List (List (Option ℕ)))
    (offsets : List ℕ) (t : ℕ)
    → Test (IsGraph job.graph → t < length job.graph.tasks
    → TaskOpened job (opened histories rows offsets) t)
task_opened job histories rows offsets t =
    let task = task_at job.graph t in
    giving (λ b is there. record {
      rooted = λ p n at. (b.left p (row-some rows p t n at) n at).left;
      lines = λ p n at. (b.left p (row-some rows p t n at) n at).right.left;
      present = λ p root on. b.right.left p (on_phaser job t p is there on) root on;
      signals = λ p n j start at place is_start.
          (b.left p (row-some rows p t n at) n at).right.right j place start is_start;
      waits = λ k n start lt at is_start. b.right.right.left k lt n at start is_start;
      offset = λ root. b.right.right.right root;
      nothing_begun = refl;
      nothing_put = λ j. refl;
      nothing_taken = λ k. refl;
    })
    (both (each (length rows) (λ p. OnIt job histories rows t p)
    (λ p. on_it job histories rows t p))
    (both (each (length job.graph.phasers) (λ p. IsOnIt job rows t p) (λ p. is_on_it job rows t p))
    (both (each (length task.inputs) (λ k. WaitsOn job histories rows t k)
    (λ k. waits_on job histories rows t k))
    (where_so (task.parent ≡ None) (get_or offsets t 0 ≡ 0) (is_none task.parent)
    (λ none. rw none refl) (test.is_equal (get_or offsets t 0) 0)))))

-- ---- the whole

abbrev pub has_opened : (job : Job) (histories : List History) (rows : List (List (Option ℕ)))
    (offsets : List ℕ)
    → Test (IsGraph job.graph → HasOpened job (opened histories rows offsets))
has_opened job histories rows offsets =
    let m = opened histories rows offsets in
    let OfPhaser : ℕ → Type 0 =
    λ p. IsGraph job.graph → p < length job.graph.phasers → PhaserOpened job m p in
    let OfTask : ℕ → Type 0 =
    λ t. IsGraph job.graph → t < length job.graph.tasks → TaskOpened job m t in
    giving (λ b is. record {
      phasers = λ p pp. b.left p pp is pp;
      tasks = λ t there. b.right t there is there;
    })
    (both (each (length job.graph.phasers) OfPhaser
    (λ p. phaser_opened job histories rows offsets p))
    (each (length job.graph.tasks) OfTask (λ t. task_opened job histories rows offsets t)))
