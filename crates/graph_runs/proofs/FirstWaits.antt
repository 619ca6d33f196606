-- The place of a task after the first wait of a step.
use Rattle.std.proofs.Common.{◌≡◌, ◌≢◌, ℕ, zero, suc, ◌+◌, ◌-◌, ◌*◌, ◌/◌, ◌%◌, ◌<◌, ◌≤◌, Bool, true, false, cond, eqb, List, [], ◌∷◌, ◌++◌, None, length, get_or, map, ℤ, pos, refl, sym, ap, subst, ◌∙◌, arith}
use Rattle.std.specs.Prelude.{Result, Ok, nat_le, unsigned_abs, drop, ◌==◌, if◌then◌else◌}
use Rattle.std.specs.List.{range_with_len}
use Rattle.std.proofs.lemmas.Bool.{eq-eqb, eqb-true, ne_eqb, not-false}
use Rattle.std.proofs.lemmas.Nat.{mod_below, div-add-mod', div-mul-add}
use Rattle.std.proofs.lemmas.List.{get_or-append_right, length-append, length-map, length-drop}
use Rattle.std.proofs.lemmas.List.FromFn.{get_or-map-range_with_len, length-range_with_len}
use Rattle.stream_filters.specs.Range.{ranged}
use Rattle.stream_filters.specs.declared.fault.TooBigValue.{TooBigValue}
use Rattle.phase_history.specs.declared.event.Event.TheVariants.{Waited}
use Rattle.phase_accum.specs.declared.outcome.Outcome.{Outcome}
use Rattle.phase_accum.specs.Sends.{value_max}
use Rattle.phase_history.specs.Legal.{IsLegal}
use Rattle.phase_base.specs.Limits.{Limits}
use Rattle.phase_base.specs.Members.{entry_of}
use Rattle.phase_history.specs.declared.refusal.WaitRefusal.TheVariants.{NoTask}
use Rattle.phase_history.specs.Histories.{History, members_of, positions_of}
use Rattle.phase_history.specs.Refusals.{wait_refusal, wait_rows, is_bad_block}
use Rattle.phase_history.proofs.Refused.{Passes, passes_from}
use Rattle.graph_base.specs.declared.line.Kind.{Kind}
use Rattle.graph_base.specs.declared.line.Kind.TheVariants.{Source, Fir, Split, Decimate, Join, Peer, Sink}
use Rattle.graph_base.specs.Graphs.{task_at}
use Rattle.graph_base.specs.TaskLines.{IsGraph, HasEnds, has_blocks}
use Rattle.stream_lists.specs.Jobs.{Job}
use Rattle.stream_lists.specs.Spans.{signalled_by, puts_on, takes_from, turns_below}
use Rattle.stream_lists.specs.Lists.{number, entry, every, in_turn, turn_at}
use Rattle.stream_lists.specs.Ranges.{is_out_of_range}
use Rattle.graph_runs.specs.Moments.{Moment, HasRun, TaskRan, made_now, taken_now, first_input, input_at, limits_at}
use Rattle.graph_runs.proofs.Tasks.{now_at}
use Rattle.graph_runs.specs.Moves.{further, IsBlock}
use Rattle.graph_runs.specs.NextBlocks.{AreSizes, block_up_to}
use Rattle.graph_runs.proofs.Blocks.{block_few}
use Rattle.graph_runs.proofs.BlockOwes.{fir_owes_block}
use Rattle.graph_runs.proofs.Nexts.{turns-next, turns-stay, further-length}
use Rattle.graph_runs.proofs.InBlocks.{first_waits_are}
use Rattle.graph_runs.specs.TaskEvents.{IsNext, first_wait, after_turn}
use Rattle.graph_runs.specs.Nexts.{waits_first, signals, exchanges}
use Rattle.graph_runs.specs.TaskPlaces.{Owed, nothing, values, OwesUpTo, TaskPlace, lacking, owed_after_wait, outputs_of_block, StandsUpTo}
use Rattle.graph_runs.proofs.Boundaries.{all_put, made_many, peer_ends}
use Rattle.graph_runs.proofs.Ranged.{taken_ranged}
use Rattle.graph_runs.proofs.Following.{Lacks, GetsAll, gets_all, stays_at, keeps_moved}
use Rattle.graph_runs.proofs.InOrder.{OwesFor}
use Rattle.graph_runs.proofs.Lacking.{first_none, first_is, lacks_here, next_all, next_one}
use Rattle.graph_runs.proofs.Stepping.{owes_nothing}

-- what stands behind a list
pub behind : (xs : List ℤ) (x : ℤ) (i : ℕ) → i ≡ length xs → get_or (xs ++ x ∷ []) i (pos 0) ≡ x
behind xs x i same =
    let le : length xs ≤ i = omega arith in
    let off : i - length xs ≡ 0 = omega arith in
    get_or-append_right xs (x ∷ []) (length xs) i (pos 0) refl le
    ∙ ap (λ k. get_or (x ∷ []) k (pos 0)) off

-- a number in range is a value
pub in_range_is : (x : ℤ) → is_out_of_range x ≡ false → ranged x ≡ Ok x
in_range_is x e =
    let small : nat_le (unsigned_abs x) value_max ≡ true =
    not-false (nat_le (unsigned_abs x) value_max) e in
    rw small refl

-- of its turns below a step, at the step that is its turn
pub turn_count : (m b : ℕ) → 0 < m → turns_below m (b % m) b ≡ b / m
turn_count m b some =
    let split : b / m * m + b % m ≡ b = div-add-mod' b m in
    let rest : b % m < m = mod_below b m some in
    let is : b + (m - 1 - b % m) ≡ b / m * m + (m - 1) = omega arith in
    ap (λ x. x / m) is ∙ div-mul-add (b / m) m (m - 1) (omega arith)

-- ---- what a first wait changes

-- the facts of a first wait, by its input number and what was taken, where the task makes at most
-- so many steps in one event
pub record FirstWait (most : ℕ) (job : Job) (m after : Moment) (t k : ℕ) (xs : List ℤ) : Type
    0 where
  pub is : IsGraph job.graph
  pub ran : TaskRan job m t
  pub now : TaskRan job after t
  pub legal : IsLegal (limits_at job (input_at (task_at job.graph t) k))
      (after.history (input_at (task_at job.graph t) k))
  pub there : t < length job.graph.tasks
  pub few : k < length (task_at job.graph t).inputs
  pub waits : GetsAll m after t k xs
  pub first : k ≡ first_input (task_at job.graph t) (m.begun t)
  pub steps : after.begun t ≡ m.begun t + length xs
  pub some : 1 ≤ length xs
  pub block : IsBlock (task_at job.graph t).kind (length xs)
  pub room : 0 < length (signalled_by (task_at job.graph t)) → length xs ≤ most
  pub all_taken : length (m.taken t k) ≡ takes_from (task_at job.graph t) (m.begun t) k
  pub lacks : Lacks job m t nothing

-- what a first wait leaves owed
abbrev pub LeavesOwed : ℕ → Job → Moment → ℕ → Owed → Type 0
LeavesOwed most job after t owed = OwesUpTo most job after t owed × Lacks job after t owed

-- ---- the first wait of one step

wait_lacks : {most : ℕ} (job : Job) (m after : Moment) (t k : ℕ) (x : ℤ) (owed : Owed)
    → FirstWait most job m after t k (x ∷ [])
    → ((i : ℕ) → i < length (signalled_by (task_at job.graph t))
    → puts_on (task_at job.graph t) (suc (m.begun t)) i
    ≡ puts_on (task_at job.graph t) (m.begun t) i + lacking (task_at job.graph t).kind owed i)
    → Lacks job after t owed
wait_lacks job m after t k x owed w grows i lt =
    let many : length (made_now job after t i)
    ≡ puts_on (task_at job.graph t) (after.begun t) i =
    made_many job after t i w.is w.now w.there lt in
    let was : length (made_now job m t i) ≡ puts_on (task_at job.graph t) (m.begun t) i =
    made_many job m t i w.is w.ran w.there lt in
    let one : after.begun t ≡ m.begun t + 1 = w.steps in
    let step : puts_on (task_at job.graph t) (after.begun t) i
    ≡ puts_on (task_at job.graph t) (suc (m.begun t)) i =
    ap (λ b. puts_on (task_at job.graph t) b i) (one ∙ omega arith) in
    omega (arith, w.lacks i lt, ap length (w.waits.put i), grows i lt)

-- the value that was taken is in range
wait_ranged : {most : ℕ} (job : Job) (m after : Moment) (t k : ℕ) (x : ℤ)
    → FirstWait most job m after t k (x ∷ []) → ranged x ≡ Ok x
wait_ranged job m after t k x w =
    let all = taken_ranged job after t k w.now w.legal w.few in
    let last : get_or (after.taken t k) (length (m.taken t k)) (pos 0) ≡ x =
    ap (λ l. get_or l (length (m.taken t k)) (pos 0)) w.waits.taken
    ∙ behind (m.taken t k) x (length (m.taken t k)) refl in
    in_range_is x (ap is_out_of_range (sym last) ∙ all.at (length (m.taken t k)))

-- it is next on output j, where it stands behind what was made before
wait_owes : {most : ℕ} (job : Job) (m after : Moment) (t k j : ℕ) (x : ℤ)
    → FirstWait most job m after t k (x ∷ []) → Lacks job after t (values j (Ok x ∷ []))
    → j < length (signalled_by (task_at job.graph t))
    → ((i : ℕ) → i < j → lacking (task_at job.graph t).kind (values j (Ok x ∷ [])) i ≡ 0)
    → ((a b : ℕ) → waits_first (task_at job.graph t).kind j a b ≡ false)
    → get_or (made_now job after t j) (length (made_now job m t j)) (pos 0) ≡ x
    → OwesUpTo most job after t (values j (Ok x ∷ []))
wait_owes {most} job m after t k j x w lacks lt below no_wait made =
    let one : lacking (task_at job.graph t).kind (values j (Ok x ∷ [])) j ≡ 1 =
    lacks_here (task_at job.graph t).kind j (Ok x ∷ []) in
    let long : length (made_now job after t j) ≡ length (after.put t j)
    + lacking (task_at job.graph t).kind (values j (Ok x ∷ [])) j = lacks j lt in
    let full : length (made_now job m t j) ≡ length (m.put t j) + 0 = w.lacks j lt in
    let put : length (after.put t j) ≡ length (m.put t j) = ap length (w.waits.put j) in
    let index : length (after.put t j) ≡ length (made_now job m t j) = omega arith in
    let room : 1 ≤ most = w.room (omega arith) in (
      first_is job after t j (values j (Ok x ∷ [])) lacks lt (omega arith) below,
      ap (λ b. cond b exchanges (signals j))
          (no_wait (length (after.put t j)) (length (after.taken t 1))),
      ap (λ l. map ranged l)
          (next_one most job after t j room (omega arith))
          ∙ ap (λ v. ranged v ∷ [])
          (ap (λ i. get_or (made_now job after t j) i (pos 0)) index ∙ made)
          ∙ ap (λ r. r ∷ []) (wait_ranged job m after t k x w),
    )

-- what is taken from the input, as the step sees it
now_taken : {most : ℕ} (job : Job) (m after : Moment) (t k : ℕ) (x : ℤ)
    → FirstWait most job m after t k (x ∷ [])
    → get_or (taken_now after (task_at job.graph t) t) k [] ≡ m.taken t k ++ x ∷ []
now_taken job m after t k x w =
    now_at after (task_at job.graph t) t k w.few ∙ w.waits.taken

-- ---- kind by kind

single_output : (i : ℕ) (n : ℕ) → n ≡ 1 → i < n → i ≡ 0
single_output i n one lt = omega arith

none_below : (kind : Kind) (r : Result ℤ TooBigValue) (i : ℕ) → i < 0
    → lacking kind (values 0 (r ∷ [])) i ≡ 0
none_below kind r i lt = absurd (omega arith)

-- a filter owes an output for each number
fir_owes : {most : ℕ} (job : Job) (m after : Moment) (t k : ℕ) (xs : List ℤ)
    → FirstWait most job m after t k xs → (task_at job.graph t).kind ≡ Fir
    → LeavesOwed most job after t
    (values 0 (map ranged (outputs_of_block (task_at job.graph t).taps
    (task_at job.graph t).form (m.taken t 0) xs)))
fir_owes {most} job m after t k xs w e =
    let task = task_at job.graph t in
    let vs = outputs_of_block task.taps task.form (m.taken t 0) xs in
    let rs = map ranged vs in
    let ends : (length task.inputs ≡ 1) × (length task.outputs ≡ 1) =
    rw e at (w.is.tasks t w.there).ends in
    let inputs : length task.inputs ≡ 1 = ends.0 in
    let outs : signalled_by task ≡ task.outputs = rw e refl in
    let many : length (signalled_by task) ≡ 1 = ap length outs ∙ ends.1 in
    let few : k < length task.inputs = w.few in
    let zero_k : k ≡ 0 = omega arith in
    let block = fir_owes_block job m after t xs w.is w.there e w.ran w.now
    (rw zero_k at w.waits) w.steps
    (all_put job m t w.ran w.there (first_none job m t w.lacks) 0 (omega arith)) in
    let made : length (made_now job after t 0) ≡ length (after.put t 0) + length xs =
    block.many in
    let rest : length (drop (length (after.put t 0)) (made_now job after t 0))
    ≡ length (made_now job after t 0) - length (after.put t 0) =
    length-drop (length (after.put t 0)) (made_now job after t 0) in
    let long : length (drop (length (after.put t 0)) (made_now job after t 0)) ≡ length vs =
    ap length block.values in
    let same : length rs ≡ length vs = length-map vs ranged in
    let some : 1 ≤ length xs = w.some in
    let room : length xs ≤ most = w.room (omega arith) in
    let here : length (made_now job after t 0)
    ≡ length (after.put t 0) + lacking task.kind (values 0 rs) 0 = omega arith in
    let lacks : Lacks job after t (values 0 rs) =
    λ i lt. rw (single_output i (length (signalled_by task)) many lt) here in (
      (
        first_is job after t 0 (values 0 rs) lacks (omega arith) (omega arith)
            (λ i lt. absurd (omega arith)),
        (rw e refl),
        ap (λ l. map ranged l) (next_all most job after t 0 (omega arith) ∙ block.values),
      ),
      lacks,
    )

peer_first_owes : {most : ℕ} (job : Job) (m after : Moment) (t k : ℕ) (x : ℤ)
    → FirstWait most job m after t k (x ∷ []) → (task_at job.graph t).kind ≡ Peer
    → LeavesOwed most job after t (values 0 (Ok x ∷ []))
peer_first_owes job m after t k x w e =
    let task = task_at job.graph t in
    let ends = peer_ends job t w.is w.there e in
    let two : length task.inputs ≡ 2 = ends.0 in
    let both : length (signalled_by task) ≡ 2 = ends.1 in
    let zero_k : k ≡ 0 = w.first ∙ rw e refl in
    let now_is : get_or (taken_now after task t) 0 [] ≡ m.taken t 0 ++ x ∷ [] =
    ap (λ i. get_or (taken_now after task t) i []) (sym zero_k)
    ∙ now_taken job m after t k x w ∙ ap (λ i. m.taken t i ++ x ∷ []) zero_k in
    let was : get_or (taken_now m task t) 0 [] ≡ m.taken t 0 =
    now_at m task t 0 (omega arith) in
    let made : made_now job after t 0 ≡ m.taken t 0 ++ x ∷ [] =
    (let is : made_now job after t 0 ≡ get_or (taken_now after task t) 0 [] = rw e refl in
    is ∙ now_is) in
    let before : made_now job m t 0 ≡ m.taken t 0 =
    (let is : made_now job m t 0 ≡ get_or (taken_now m task t) 0 [] = rw e refl in is ∙ was) in
    let lacks : Lacks job after t (values 0 (Ok x ∷ [])) =
    wait_lacks job m after t k x (values 0 (Ok x ∷ [])) w
    (λ i lt.
    (let next : puts_on task (suc (m.begun t)) i ≡ suc (m.begun t) = rw e refl in
    let last : puts_on task (m.begun t) i ≡ m.begun t = rw e refl in
    let one : lacking task.kind (values 0 (Ok x ∷ [])) i ≡ 1 =
    ap (λ kind. lacking kind (values 0 (Ok x ∷ [])) i) e ∙ each_lacks x i (omega arith) in
    omega arith)) in (
      wait_owes job m after t k 0 x w lacks (omega arith)
          (none_below task.kind (Ok x)) (λ a b. rw e refl)
          (ap (λ l. get_or l (length (made_now job m t 0)) (pos 0)) made
          ∙ behind (m.taken t 0) x (length (made_now job m t 0)) (ap length before)),
      lacks,
    )
  where
    each_lacks : (x : ℤ) (i : ℕ) → i < 2 → lacking Peer (values 0 (Ok x ∷ [])) i ≡ 1
    each_lacks x zero lt = refl
    each_lacks x (suc zero) lt = refl
    each_lacks x (suc (suc i)) lt = absurd (omega arith)

join_owes : {most : ℕ} (job : Job) (m after : Moment) (t k : ℕ) (x : ℤ)
    → FirstWait most job m after t k (x ∷ []) → (task_at job.graph t).kind ≡ Join
    → LeavesOwed most job after t (values 0 (Ok x ∷ []))
join_owes job m after t k x w e =
    let task = task_at job.graph t in
    let b = m.begun t in
    let ends = rw e at (w.is.tasks t w.there).ends in
    let outs : signalled_by task ≡ task.outputs = rw e refl in
    let many : length (signalled_by task) ≡ 1 = ap length outs ∙ ends.2 in
    let some : 2 ≤ length task.inputs = ends.0 in
    let lists = taken_now after task t in
    let long : length lists ≡ length task.inputs =
    length-map (range_with_len 0 (length task.inputs)) (after.taken t)
    ∙ length-range_with_len 0 (length task.inputs) in
    let first : k ≡ b % length task.inputs = w.first ∙ rw e refl in
    let count : length (m.taken t k) ≡ b / length task.inputs =
    w.all_taken ∙ (let is : takes_from task b k ≡ turns_below (length task.inputs) k b =
    rw e refl in is)
    ∙ ap (λ i. turns_below (length task.inputs) i b) first
    ∙ turn_count (length task.inputs) b (omega arith) in
    let made : made_now job after t 0 ≡ in_turn lists (after.begun t) = rw e refl in
    let plain : puts_on task b 0 ≡ b = rw e refl in
    let before : length (made_now job m t 0) ≡ puts_on task b 0 =
    made_many job m t 0 w.is w.ran w.there (omega arith) in
    let index : length (made_now job m t 0) ≡ b = omega arith in
    let steps : after.begun t ≡ b + 1 = w.steps in
    let below : b < after.begun t = omega arith in
    let from : 0 + b ≡ b = omega arith in
    let at_turn : turn_at lists b ≡ x =
    ap (λ m. entry (get_or lists (b % m) []) (b / m)) long
    ∙ ap (λ i. entry (get_or lists i []) (b / length task.inputs)) (sym first)
    ∙ ap (λ l. entry l (b / length task.inputs)) (now_taken job m after t k x w)
    ∙ behind (m.taken t k) x (b / length task.inputs) (sym count) in
    let lacks : Lacks job after t (values 0 (Ok x ∷ [])) =
    wait_lacks job m after t k x (values 0 (Ok x ∷ [])) w
    (λ i lt.
    (let at : i ≡ 0 = single_output i (length (signalled_by task)) many lt in
    let next : puts_on task (suc (m.begun t)) i ≡ suc (m.begun t) = rw e refl in
    let last : puts_on task (m.begun t) i ≡ m.begun t = rw e refl in
    let one : lacking task.kind (values 0 (Ok x ∷ [])) i ≡ 1 =
    ap (λ j. lacking task.kind (values 0 (Ok x ∷ [])) j) at in
    omega arith)) in (
      wait_owes job m after t k 0 x w lacks (omega arith)
          (none_below task.kind (Ok x)) (λ a b. rw e refl)
          (ap (λ l. get_or l (length (made_now job m t 0)) (pos 0)) made
          ∙ ap (λ i. get_or (in_turn lists (after.begun t)) i (pos 0)) index
          ∙ get_or-map-range_with_len (turn_at lists) 0 (after.begun t) b b (pos 0) below from
          ∙ at_turn),
      lacks,
    )

-- the steps of task t take one value each, and those of each so many steps are put on output j
record HasTurns (job : Job) (t n j : ℕ) : Type 0 where
  some : 0 < n
  output : j < length (signalled_by (task_at job.graph t))
  one_input : length (task_at job.graph t).inputs ≡ 1
  takes : (b k : ℕ) → takes_from (task_at job.graph t) b k ≡ b
  puts : (b : ℕ) → puts_on (task_at job.graph t) b j ≡ turns_below n j b
  made : (m : Moment)
      → made_now job m t j ≡ every n j (get_or (taken_now m (task_at job.graph t) t) 0 [])

-- a step that is a turn of output j owes there what it took
turn_owes : {most : ℕ} (job : Job) (m after : Moment) (t k n j : ℕ) (x : ℤ)
    → FirstWait most job m after t k (x ∷ []) → HasTurns job t n j → j ≡ m.begun t % n
    → ((i : ℕ) → i < length (signalled_by (task_at job.graph t))
    → puts_on (task_at job.graph t) (suc (m.begun t)) i
    ≡ puts_on (task_at job.graph t) (m.begun t) i
    + lacking (task_at job.graph t).kind (values j (Ok x ∷ [])) i)
    → ((i : ℕ) → i < j → lacking (task_at job.graph t).kind (values j (Ok x ∷ [])) i ≡ 0)
    → ((a b : ℕ) → waits_first (task_at job.graph t).kind j a b ≡ false)
    → LeavesOwed most job after t (values j (Ok x ∷ []))
turn_owes job m after t k n j x w turns is grows none_before no_wait =
    let task = task_at job.graph t in
    let b = m.begun t in
    let q = b / n in
    let some : 0 < n = turns.some in
    let rest : b % n < n = mod_below b n some in
    let inputs : length task.inputs ≡ 1 = turns.one_input in
    let few : k < length task.inputs = w.few in
    let zero_k : k ≡ 0 = omega arith in
    let now_is : get_or (taken_now after task t) 0 [] ≡ m.taken t 0 ++ x ∷ [] =
    ap (λ i. get_or (taken_now after task t) i []) (sym zero_k)
    ∙ now_taken job m after t k x w ∙ ap (λ i. m.taken t i ++ x ∷ []) zero_k in
    let taken : length (m.taken t 0) ≡ b =
    ap (λ i. length (m.taken t i)) (sym zero_k) ∙ w.all_taken ∙ turns.takes b k in
    let longer : length (m.taken t 0 ++ x ∷ []) ≡ suc b =
    length-append (m.taken t 0) (x ∷ []) ∙ ap (λ i. i + 1) taken ∙ omega arith in
    let made : made_now job after t j ≡ every n j (m.taken t 0 ++ x ∷ []) =
    turns.made after ∙ ap (λ l. every n j l) now_is in
    let count : turns_below n j b ≡ q = ap (λ i. turns_below n i b) is ∙ turn_count n b some in
    let index : length (made_now job m t j) ≡ q =
    made_many job m t j w.is w.ran w.there turns.output ∙ turns.puts b ∙ count in
    let next : turns_below n j (suc b) ≡ suc (turns_below n j b) =
    turns-next n b j (omega arith) is in
    let room : turns_below n j (length (m.taken t 0 ++ x ∷ [])) ≡ turns_below n j (suc b) =
    ap (λ i. turns_below n j i) longer in
    let below : q < turns_below n j (length (m.taken t 0 ++ x ∷ [])) = omega arith in
    let from : 0 + q ≡ q = omega arith in
    let whole : q * n + b % n ≡ b = div-add-mod' b n in
    let at : j + q * n ≡ length (m.taken t 0) = omega arith in
    let lacks : Lacks job after t (values j (Ok x ∷ [])) =
    wait_lacks job m after t k x (values j (Ok x ∷ [])) w grows in (
      wait_owes job m after t k j x w lacks turns.output none_before no_wait
          (ap (λ l. get_or l (length (made_now job m t j)) (pos 0)) made
          ∙ ap (λ i. get_or (every n j (m.taken t 0 ++ x ∷ [])) i (pos 0)) index
          ∙ get_or-map-range_with_len (λ i. entry (m.taken t 0 ++ x ∷ []) (j + i * n)) 0
          (turns_below n j (length (m.taken t 0 ++ x ∷ []))) q q (pos 0) below from
          ∙ behind (m.taken t 0) x (j + q * n) at),
      lacks,
    )

-- of the outputs in turn a step gives one value to that which has its turn
turns_grow : (n b i : ℕ) → i < n
    → turns_below n i (suc b) ≡ turns_below n i b + (if i == b % n then 1 else 0)
turns_grow n b i lt = by (eqb i (b % n)) refl
  where
    by : (d : Bool) → eqb i (b % n) ≡ d
        → turns_below n i (suc b) ≡ turns_below n i b + (if d then 1 else 0)
    by true e =
        let next : turns_below n i (suc b) ≡ suc (turns_below n i b) =
        turns-next n b i lt (eqb-true i (b % n) e) in
        omega arith
    by false e =
        let stay : turns_below n i (suc b) ≡ turns_below n i b =
        turns-stay n b i lt
        (λ same. (let clash : true ≡ false = sym (eq-eqb i (b % n) same) ∙ e in cc)) in
        omega arith

split_owes : {most : ℕ} (job : Job) (m after : Moment) (t k : ℕ) (x : ℤ)
    → FirstWait most job m after t k (x ∷ []) → (task_at job.graph t).kind ≡ Split
    → LeavesOwed most job after t
    (values (m.begun t % length (task_at job.graph t).outputs) (Ok x ∷ []))
split_owes job m after t k x w e =
    let task = task_at job.graph t in
    let n = length task.outputs in
    let ends = rw e at (w.is.tasks t w.there).ends in
    let two : 2 ≤ n = ends.1 in
    let outs : signalled_by task ≡ task.outputs = rw e refl in
    let many : length (signalled_by task) ≡ n = ap length outs in
    let turn : m.begun t % n < n = mod_below (m.begun t) n (omega arith) in
    turn_owes job m after t k n (m.begun t % n) x w
    (record {
      some = omega arith;
      output = omega arith;
      one_input = ends.0;
      takes = λ b k. rw e refl;
      puts = λ b. rw e refl;
      made = λ m. rw e refl;
    }) refl (λ i lt. rw e (turns_grow n (m.begun t) i (omega arith)))
    (λ i lt. other_lacks i (λ same. omega arith)) (λ a b. rw e refl)
  where
    other_lacks : (i : ℕ) → i ≢ m.begun t % length (task_at job.graph t).outputs
        → lacking (task_at job.graph t).kind
        (values (m.begun t % length (task_at job.graph t).outputs) (Ok x ∷ [])) i ≡ 0
    other_lacks i apart =
        let no_turn : eqb i (m.begun t % length (task_at job.graph t).outputs) ≡ false =
        ne_eqb i (m.begun t % length (task_at job.graph t).outputs) apart in
        rw no_turn (rw e refl)

-- a decimator owes the first value of each so many, and no other
decimate_owes : {most : ℕ} (job : Job) (m after : Moment) (t k : ℕ) (x : ℤ)
    → FirstWait most job m after t k (x ∷ []) → (task_at job.graph t).kind ≡ Decimate
    → LeavesOwed most job after t
    (if m.begun t % (task_at job.graph t).every == 0 then values 0 (Ok x ∷ []) else nothing)
decimate_owes {most} job m after t k x w e =
    by (eqb (m.begun t % (task_at job.graph t).every) 0) refl
  where
    some : 0 < (task_at job.graph t).every
    some =
        let every_is : (1 ≤ (task_at job.graph t).every) × ((task_at job.graph t).every ≤ 65536) =
        rw e at (w.is.tasks t w.there).every in
        omega (arith, every_is.0)

    one_output : (i : ℕ) → i < length (signalled_by (task_at job.graph t)) → i ≡ 0
    one_output i lt =
        let ends : (length (task_at job.graph t).inputs ≡ 1)
        × (length (task_at job.graph t).outputs ≡ 1) =
        rw e at (w.is.tasks t w.there).ends in
        let outs : signalled_by (task_at job.graph t) ≡ (task_at job.graph t).outputs =
        rw e refl in
        single_output i _ (ap length outs ∙ ends.1) lt

    -- what its output has more after this step than before
    grows : (o : Owed) (d : ℕ) → lacking (task_at job.graph t).kind o 0 ≡ d
        → turns_below (task_at job.graph t).every 0 (suc (m.begun t))
        ≡ turns_below (task_at job.graph t).every 0 (m.begun t) + d
        → (i : ℕ) → i < length (signalled_by (task_at job.graph t))
        → puts_on (task_at job.graph t) (suc (m.begun t)) i
        ≡ puts_on (task_at job.graph t) (m.begun t) i + lacking (task_at job.graph t).kind o i
    grows o d lack more i lt =
        let at : i ≡ 0 = one_output i lt in
        let here : lacking (task_at job.graph t).kind o i ≡ d =
        ap (λ i. lacking (task_at job.graph t).kind o i) at ∙ lack in
        let after_is : puts_on (task_at job.graph t) (suc (m.begun t)) i
        ≡ turns_below (task_at job.graph t).every 0 (suc (m.begun t)) = rw e refl in
        let before_is : puts_on (task_at job.graph t) (m.begun t) i
        ≡ turns_below (task_at job.graph t).every 0 (m.begun t) = rw e refl in
        omega arith

    by : (d : Bool) → eqb (m.begun t % (task_at job.graph t).every) 0 ≡ d
        → LeavesOwed most job after t (if d then values 0 (Ok x ∷ []) else nothing)
    by true turn =
        let task = task_at job.graph t in
        let is : 0 ≡ m.begun t % task.every = sym (eqb-true (m.begun t % task.every) 0 turn) in
        let next : turns_below task.every 0 (suc (m.begun t))
        ≡ suc (turns_below task.every 0 (m.begun t)) =
        turns-next task.every (m.begun t) 0 some is in
        let ends : (length task.inputs ≡ 1) × (length task.outputs ≡ 1) =
        rw e at (w.is.tasks t w.there).ends in
        let outs : signalled_by task ≡ task.outputs = rw e refl in
        turn_owes job m after t k task.every 0 x w
        (record {
          some = some;
          output = omega (arith, ap length outs, ends.1);
          one_input = ends.0;
          takes = λ b k. rw e refl;
          puts = λ b. rw e refl;
          made = λ m. rw e refl;
        }) is
        (grows (values 0 (Ok x ∷ [])) 1 (lacks_here task.kind 0 (Ok x ∷ [])) (omega arith))
        (none_below task.kind (Ok x)) (λ a b. rw e refl)
    by false turn =
        let task = task_at job.graph t in
        let stay : turns_below task.every 0 (suc (m.begun t))
        ≡ turns_below task.every 0 (m.begun t) =
        turns-stay task.every (m.begun t) 0 some
        (λ same. (let clash : true ≡ false =
        sym (eq-eqb (m.begun t % task.every) 0 (sym same)) ∙ turn in cc)) in
        let lacks : Lacks job after t nothing =
        wait_lacks job m after t k x nothing w (grows nothing 0 refl (omega arith)) in
        (first_none job after t lacks, lacks)

-- a sink owes nothing
sink_owes : {most : ℕ} (job : Job) (m after : Moment) (t k : ℕ) (xs : List ℤ)
    → FirstWait most job m after t k xs → length (signalled_by (task_at job.graph t)) ≡ 0
    → LeavesOwed most job after t nothing
sink_owes job m after t k xs w none =
    let lacks : Lacks job after t nothing = λ i lt. absurd (omega arith) in
    (first_none job after t lacks, lacks)

-- ---- the place

-- the number of a list of one
single_is : (xs : List ℤ) → length xs ≡ 1 → (x : ℤ) × (xs ≡ x ∷ [])
single_is [] one = absurd (omega arith)
single_is (x ∷ []) one = (x, refl)
single_is (x ∷ (y ∷ ys)) one = absurd (omega arith)

pub wait_leaves : {most : ℕ} (job : Job) (m after : Moment) (t k : ℕ) (xs : List ℤ)
    → FirstWait most job m after t k xs
    → LeavesOwed most job after t
    (owed_after_wait (task_at job.graph t) (m.begun t) (m.taken t 0) xs)
wait_leaves {most} job m after t k xs w = by (task_at job.graph t).kind refl
  where
    Left : Owed → Type 0
    Left o = LeavesOwed most job after t o

    ends : (kind : Kind) → (task_at job.graph t).kind ≡ kind
        → HasEnds kind (length (task_at job.graph t).inputs) (length (task_at job.graph t).outputs)
    ends kind e =
        rw e at (w.is.tasks t w.there).ends

    -- where a block is a step
    single : (kind : Kind) → (task_at job.graph t).kind ≡ kind → (IsBlock kind (length xs)
        → length xs ≡ 1)
        → ((x : ℤ) → FirstWait most job m after t k (x ∷ []) → LeavesOwed most job after t
        (owed_after_wait (task_at job.graph t) (m.begun t) (m.taken t 0) (x ∷ [])))
        → LeavesOwed most job after t
        (owed_after_wait (task_at job.graph t) (m.begun t) (m.taken t 0) xs)
    single kind e one step =
        let x = single_is xs (one (rw e at w.block)) in
        rw x.1 (step x.0 (rw x.1 at w))

    by : (kind : Kind) → (task_at job.graph t).kind ≡ kind
        → LeavesOwed most job after t
        (owed_after_wait (task_at job.graph t) (m.begun t) (m.taken t 0) xs)
    by Source e =
        absurd (omega (arith, (ends Source e).0, w.few))
    by Fir e =
        let left : owed_after_wait (task_at job.graph t) (m.begun t) (m.taken t 0) xs
        ≡ values 0 (map ranged (outputs_of_block (task_at job.graph t).taps
        (task_at job.graph t).form (m.taken t 0) xs)) = rw e refl in
        subst Left (sym left) (fir_owes job m after t k xs w e)
    by Split e =
        single Split e (λ one. one) (λ x v.
        (let left : owed_after_wait (task_at job.graph t) (m.begun t) (m.taken t 0) (x ∷ [])
        ≡ values (m.begun t % length (task_at job.graph t).outputs) (Ok x ∷ []) = rw e refl in
        subst Left (sym left) (split_owes job m after t k x v e)))
    by Decimate e =
        single Decimate e (λ one. one) (λ x v.
        (let left : owed_after_wait (task_at job.graph t) (m.begun t) (m.taken t 0) (x ∷ [])
        ≡ (if m.begun t % (task_at job.graph t).every == 0 then values 0 (Ok x ∷ [])
        else nothing) = rw e refl in
        subst Left (sym left) (decimate_owes job m after t k x v e)))
    by Join e =
        single Join e (λ one. one) (λ x v.
        (let left : owed_after_wait (task_at job.graph t) (m.begun t) (m.taken t 0) (x ∷ [])
        ≡ values 0 (Ok x ∷ []) = rw e refl in
        subst Left (sym left) (join_owes job m after t k x v e)))
    by Peer e =
        single Peer e (λ one. one) (λ x v.
        (let left : owed_after_wait (task_at job.graph t) (m.begun t) (m.taken t 0) (x ∷ [])
        ≡ values 0 (Ok x ∷ []) = rw e refl in
        subst Left (sym left) (peer_first_owes job m after t k x v e)))
    by Sink e =
        let left : owed_after_wait (task_at job.graph t) (m.begun t) (m.taken t 0) xs
        ≡ nothing = rw e refl in
        let no_output : length (task_at job.graph t).outputs ≡ 0 = (ends Sink e).1 in
        let outs : signalled_by (task_at job.graph t) ≡ (task_at job.graph t).outputs =
        rw e refl in
        subst Left (sym left) (sink_owes job m after t k xs w (ap length outs ∙ no_output))

-- an accepted wait is for a phase at least
waits_some : (limits : Limits) (h : History) (n steps : ℕ) → wait_refusal limits h n steps ≡ None
    → 1 ≤ steps
waits_some limits h n steps none =
    let p : Passes (entry_of (members_of h) n) (wait_rows limits (positions_of h) steps) =
    passes_from (entry_of (members_of h) n) NoTask (wait_rows limits (positions_of h) steps) none in
    by steps p.passes.1.0
  where
    by : (steps : ℕ) → is_bad_block limits steps ≡ false → 1 ≤ steps
    by zero good = absurd (cc)
    by (suc n) good = omega arith

-- what a task gets that signals it may signal by one turn
waits_room : (steps most : ℕ) (job : Job) (t : ℕ) → AreSizes job.graph t steps most
    → IsGraph job.graph → t < length job.graph.tasks → 0 < length (task_at job.graph t).inputs
    → 0 < length (signalled_by (task_at job.graph t)) → steps ≤ most
waits_room steps most job t sizes is there into out = by (task_at job.graph t).kind refl
  where
    -- one step at a time
    single : has_blocks (task_at job.graph t).kind ≡ false → steps ≤ most
    single none =
        let one : steps ≡ 1 = sizes.block.kind none in
        let some : 1 ≤ most = sizes.owed.some in omega arith

    ends : (kind : Kind) → (task_at job.graph t).kind ≡ kind
        → HasEnds kind (length (task_at job.graph t).inputs) (length (task_at job.graph t).outputs)
    ends kind e =
        rw e at (is.tasks t there).ends

    by : (kind : Kind) → (task_at job.graph t).kind ≡ kind → steps ≤ most
    by Source e = absurd (omega (arith, (ends Source e).0, into))
    by Fir e = sizes.few e
    by Split e = single (ap has_blocks e)
    by Decimate e = single (ap has_blocks e)
    by Join e = single (ap has_blocks e)
    by Peer e = single (ap has_blocks e)
    by Sink e =
        let outs : signalled_by (task_at job.graph t) ≡ (task_at job.graph t).outputs =
        rw e refl in
        absurd (omega (arith, ap length outs, (ends Sink e).1, out))

pub first_wait_follows : (steps most : ℕ) (job : Job) (m : Moment) (t k p n : ℕ)
    (outcomes : List Outcome) (at : TaskPlace) → AreSizes job.graph t steps most → IsGraph job.graph → HasRun job m
    → IsNext job m (first_wait t k p n outcomes)
    → HasRun job (after_turn job (first_wait t k p n outcomes) m)
    → OwesFor steps most job m (first_wait t k p n outcomes) → StandsUpTo most job m t at
    → StandsUpTo most job (after_turn job (first_wait t k p n outcomes) m) t
    (record at {
      begun = further at.begun outcomes;
      owed = owed_after_wait (task_at job.graph t) at.begun (m.taken t 0) (map number outcomes);
    })
first_wait_follows steps most job m t k p n outcomes at sizes is ran next now owes stands =
    let after = after_turn job (first_wait t k p n outcomes) m in
    let there = next.0.task in
    let xs = map number outcomes in
    let s = first_waits_are job m t k p n outcomes next.1 in
    let none : at.owed ≡ nothing = owes_nothing most job m t at.owed stands.owes owes.0 in
    let begun : after.begun t ≡ further (m.begun t) outcomes =
    (let here : eqb t t ≡ true = eq-eqb t t refl in rw here refl) in
    let more : further (m.begun t) outcomes ≡ m.begun t + length outcomes =
    further-length (m.begun t) outcomes in
    let many : length xs ≡ length outcomes = length-map outcomes number in
    let some : 1 ≤ length outcomes =
    waits_some (limits_at job p) (m.history p) n (length outcomes) next.1.wait.accepted.0 in
    let within : length outcomes ≤ block_up_to steps job m t = owes.1 in
    let few : block_up_to steps job m t ≤ steps = block_few steps job m t in
    let few_inputs : k < length (task_at job.graph t).inputs = next.1.wait.few in
    let w : FirstWait most job m after t k xs = record {
      is = is;
      ran = ran.tasks t there;
      now = now.tasks t there;
      legal = (now.phasers (input_at (task_at job.graph t) k)
          ((is.tasks t there).inputs k 0 next.1.wait.few)).legal;
      there = there;
      few = next.1.wait.few;
      waits = gets_all job m after t k p n outcomes s;
      first = next.1.first;
      steps = omega arith;
      some = omega arith;
      block = subst (λ (i : ℕ). IsBlock (task_at job.graph t).kind i) (sym many) next.1.block;
      room = λ out.
          (let room : steps ≤ most =
          waits_room steps most job t sizes is there (omega arith) out in omega arith);
      all_taken = next.1.may_begin.taken k next.1.wait.few;
      lacks = subst (λ (o : Owed). Lacks job m t o) none stands.lacks;
    } in
    let left = subst (λ (b : ℕ). LeavesOwed most job after t (owed_after_wait
    (task_at job.graph t) b (m.taken t 0) xs)) stands.begun (wait_leaves job m after t k xs w) in
    stays_at job m after t (further at.begun outcomes)
    (owed_after_wait (task_at job.graph t) at.begun (m.taken t 0) xs) at stands
    (keeps_moved job m after t p (Waited n (length outcomes)) t s.moved (λ b at. refl))
    (begun ∙ ap (λ b. further b outcomes) stands.begun) left.0 left.1
