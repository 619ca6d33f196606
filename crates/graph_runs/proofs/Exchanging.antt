-- The place of a peer after its wait on E.
use Rattle.std.proofs.Common.{◌≡◌, ℕ, zero, suc, ◌+◌, ◌-◌, ◌<◌, ◌≤◌, true, false, cond, eqb, [], ◌∷◌, ◌++◌, Some, None, length, get_or, map, ℤ, pos, refl, sym, ap, ◌∙◌, arith}
use Rattle.std.specs.Prelude.{Result, ◌*ℤ◌, ◌-ℤ◌}
use Rattle.std.proofs.lemmas.Bool.{leb-true, lt-leb, eq-eqb}
use Rattle.std.proofs.lemmas.Option.{same_Some}
use Rattle.std.proofs.lemmas.List.{get_or-append_right, length-append}
use Rattle.std.proofs.lemmas.List.FromFn.{get_or-map-range_with_len}
use Rattle.stream_filters.specs.Range.{ranged}
use Rattle.stream_filters.specs.declared.fault.TooBigValue.{TooBigValue}
use Rattle.phase_history.specs.declared.event.Event.TheVariants.{Waited}
use Rattle.phase_accum.specs.declared.outcome.Outcome.{Outcome}
use Rattle.graph_base.specs.declared.line.Kind.TheVariants.{Peer}
use Rattle.graph_base.specs.Graphs.{task_at}
use Rattle.graph_base.specs.TaskLines.{IsGraph}
use Rattle.stream_lists.specs.Jobs.{Job}
use Rattle.stream_lists.specs.Spans.{signalled_by, puts_on}
use Rattle.stream_lists.specs.Lists.{number, entry, mixed, mixed_at}
use Rattle.graph_runs.specs.Moments.{Moment, HasRun, TaskRan, made_now, taken_now}
use Rattle.graph_runs.proofs.Tasks.{now_at}
use Rattle.graph_runs.proofs.Turned.{exchange_wait_is}
use Rattle.graph_runs.specs.TaskEvents.{IsNext, exchange_wait, after_turn}
use Rattle.graph_runs.specs.Nexts.{first_owed, waits_first, signals, exchanges}
use Rattle.graph_runs.specs.TaskPlaces.{Owed, nothing, values, exchange, OwesUpTo, TaskPlace, lacking, owed_after_exchange, StandsUpTo}
use Rattle.graph_runs.proofs.Signalling.{owed}
use Rattle.graph_runs.proofs.Boundaries.{made_many, peer_ends}
use Rattle.graph_runs.proofs.Following.{Lacks, GetsAll, gets_all, stays_at, keeps_moved}
use Rattle.graph_runs.proofs.InOrder.{OwesFor}
use Rattle.graph_runs.proofs.Lacking.{first_is, next_one}

-- where a peer waits on E, the place owes that
owes_exchange : (most : ℕ) (job : Job) (m : Moment) (t j : ℕ) (owed : Owed)
    → OwesUpTo most job m t owed
    → first_owed job m t ≡ Some j
    → waits_first (task_at job.graph t).kind j (length (m.put t j)) (length (m.taken t 1)) ≡ true
    → (x : ℤ) × (owed ≡ exchange x)
owes_exchange most job m t j nothing owes some first =
    absurd (let clash : None ≡ Some j = sym owes ∙ some in cc)
owes_exchange most job m t j (exchange x) owes some first = (x, refl)
owes_exchange most job m t j (values i ws) owes some first =
    let same : i ≡ j = same_Some i j (sym owes.0 ∙ some) in
    let is_first = rw (← same) at first in
    absurd (let clash : exchanges ≡ signals i =
    sym (ap (λ b. cond b exchanges (signals i)) is_first) ∙ owes.1 in cc)

-- the one value that it still lacks is on Y
same_lacking : (w : Result ℤ TooBigValue) (x : ℤ) (i : ℕ)
    → lacking Peer (exchange x) i ≡ lacking Peer (values 1 (w ∷ [])) i
same_lacking w x zero = refl
same_lacking w x (suc i) = refl

pub exchange_lacks : (job : Job) (m after : Moment) (t : ℕ) (outcome : Outcome) (x : ℤ)
    (w : Result ℤ TooBigValue) → IsGraph job.graph → TaskRan job m t → TaskRan job after t
    → t < length job.graph.tasks → (task_at job.graph t).kind ≡ Peer
    → GetsAll m after t 1 (number outcome ∷ []) → after.begun t ≡ m.begun t → Lacks job m t (exchange x)
    → Lacks job after t (values 1 (w ∷ []))
exchange_lacks job m after t outcome x w is ran now there e s steps lacks i lt =
    let many : length (made_now job after t i)
    ≡ puts_on (task_at job.graph t) (after.begun t) i = made_many job after t i is now there lt in
    let was : length (made_now job m t i) ≡ puts_on (task_at job.graph t) (m.begun t) i =
    made_many job m t i is ran there lt in
    let same : puts_on (task_at job.graph t) (after.begun t) i
    ≡ puts_on (task_at job.graph t) (m.begun t) i =
    ap (λ b. puts_on (task_at job.graph t) b i) steps in
    many ∙ same ∙ sym was ∙ lacks i lt
    ∙ ap (λ l. length l + lacking (task_at job.graph t).kind (exchange x) i) (sym (s.put i))
    ∙ ap (λ k. length (after.put t i) + k)
    (ap (λ k. lacking k (exchange x) i) e ∙ same_lacking w x i
    ∙ ap (λ k. lacking k (values 1 (w ∷ [])) i) (sym e))

pub exchange_owes : (most : ℕ) (job : Job) (m after : Moment) (t : ℕ) (outcome : Outcome) (x : ℤ)
    → 1 ≤ most → IsGraph job.graph → TaskRan job m t → TaskRan job after t
    → t < length job.graph.tasks → (task_at job.graph t).kind ≡ Peer
    → GetsAll m after t 1 (number outcome ∷ [])
    → OwesUpTo most job m t (exchange x) → Lacks job m t (exchange x)
    → waits_first (task_at job.graph t).kind 1 (length (m.put t 1)) (length (m.taken t 1)) ≡ true
    → Lacks job after t
    (values 1 (ranged (((task_at job.graph t).mul *ℤ x) -ℤ number outcome) ∷ []))
    → OwesUpTo most job after t
    (values 1 (ranged (((task_at job.graph t).mul *ℤ x) -ℤ number outcome) ∷ []))
exchange_owes most job m after t outcome x some is ran now there e s owes before first lacks =
    let task = task_at job.graph t in
    let out = number outcome in
    let w = ranged ((task.mul *ℤ x) -ℤ out) in
    let ends = peer_ends job t is there e in
    let two : length task.inputs ≡ 2 = ends.0 in
    let both : length (signalled_by task) ≡ 2 = ends.1 in
    let low : length (m.put t 1) ≤ length (m.taken t 1) =
    rw e at (ran.exchanged 1) in
    let turn : waits_first Peer 1 (length (m.put t 1)) (length (m.taken t 1)) ≡ true =
    ap (λ k. waits_first k 1 (length (m.put t 1)) (length (m.taken t 1))) (sym e) ∙ first in
    let high : length (m.taken t 1) ≤ length (m.put t 1) =
    leb-true (length (m.taken t 1)) (length (m.put t 1)) turn in
    let put : length (after.put t 1) ≡ length (m.put t 1) = ap length (s.put 1) in
    let takes : length (after.taken t 1) ≡ length (m.taken t 1) + 1 =
    ap length s.taken ∙ length-append (m.taken t 1) (out ∷ []) in
    let one : lacking task.kind (values 1 (w ∷ [])) 1 ≡ 1 = refl in
    let in_turn : waits_first task.kind 1 (length (after.put t 1)) (length (after.taken t 1))
    ≡ false =
    ap (λ k. waits_first k 1 (length (after.put t 1)) (length (after.taken t 1))) e
    ∙ lt-leb (length (after.taken t 1)) (length (after.put t 1)) (omega arith) in
    let o = owed job m t 1 owes.0 in
    let first_values : made_now job m t 0 ≡ m.taken t 0 =
    (let made : made_now job m t 0 ≡ get_or (taken_now m task t) 0 [] = rw e refl in
    made ∙ now_at m task t 0 (omega arith)) in
    let many : length (made_now job m t 0) ≡ puts_on task (m.begun t) 0 =
    made_many job m t 0 is ran there (omega arith) in
    let many_second : length (made_now job m t 1) ≡ puts_on task (m.begun t) 1 =
    made_many job m t 1 is ran there (omega arith) in
    let plain : puts_on task (m.begun t) 0 ≡ m.begun t = rw e refl in
    let plain_second : puts_on task (m.begun t) 1 ≡ m.begun t = rw e refl in
    let long : length (m.taken t 0) ≡ length (made_now job m t 0) =
    ap length (sym first_values) in
    let few : length (m.put t 1) < length (made_now job m t 1) = o.1 in
    let made_is : made_now job after t 1
    ≡ mixed task.mul (get_or (taken_now after task t) 0 []) (get_or (taken_now after task t) 1 [])
    = rw e refl in
    let xs : get_or (taken_now after task t) 0 [] ≡ m.taken t 0 =
    now_at after task t 0 (omega arith)
    ∙ s.other_takes 0 (λ clash. (let wrong : 0 ≡ 1 = clash in omega arith)) in
    let es : get_or (taken_now after task t) 1 [] ≡ m.taken t 1 ++ out ∷ [] =
    now_at after task t 1 (omega arith) ∙ s.taken in
    let made : made_now job after t 1 ≡ mixed task.mul (m.taken t 0) (m.taken t 1 ++ out ∷ []) =
    made_is ∙ ap (λ l. mixed task.mul l (get_or (taken_now after task t) 1 [])) xs
    ∙ ap (λ l. mixed task.mul (m.taken t 0) l) es in
    let i = length (m.taken t 1) in
    let index : length (after.put t 1) ≡ i = omega arith in
    let below : i < length (m.taken t 0) = omega arith in
    let from : 0 + i ≡ i = omega arith in
    let off : i - i ≡ 0 = omega arith in
    let le : i ≤ i = omega arith in
    let last : get_or (m.taken t 1 ++ out ∷ []) i (pos 0) ≡ out =
    get_or-append_right (m.taken t 1) (out ∷ []) i i (pos 0) refl le
    ∙ ap (λ k. get_or (out ∷ []) k (pos 0)) off in
    let lacks_one : length (made_now job after t 1) ≡ length (after.put t 1) + 1 =
    lacks 1 (omega arith) in
    let is_value : get_or (made_now job after t 1) (length (after.put t 1)) (pos 0)
    ≡ (task.mul *ℤ x) -ℤ out =
    ap (λ l. get_or l (length (after.put t 1)) (pos 0)) made
    ∙ ap (λ k. get_or (mixed task.mul (m.taken t 0) (m.taken t 1 ++ out ∷ [])) k (pos 0)) index
    ∙ get_or-map-range_with_len
    (mixed_at task.mul (m.taken t 0) (m.taken t 1 ++ out ∷ [])) 0 (length (m.taken t 0)) i i
    (pos 0) below from
    ∙ ap (λ a. (task.mul *ℤ a) -ℤ entry (m.taken t 1 ++ out ∷ []) i) owes.2
    ∙ ap (λ b. (task.mul *ℤ x) -ℤ b) last in (
      first_is job after t 1 (values 1 (w ∷ [])) lacks (omega arith) (omega arith) (λ k lt. none_below w k lt),
      ap (λ b. cond b exchanges (signals 1)) in_turn,
      ap (λ l. map ranged l) (next_one most job after t 1 some lacks_one)
          ∙ ap (λ v. ranged v ∷ []) is_value,
    )
  where
    none_below : (w : Result ℤ TooBigValue) (k : ℕ) → k < 1
        → lacking (task_at job.graph t).kind (values 1 (w ∷ [])) k ≡ 0
    none_below w zero lt = ap (λ kind. lacking kind (values 1 (w ∷ [])) 0) e
    none_below w (suc k) lt = absurd (omega arith)

pub exchange_follows : (steps most : ℕ) (job : Job) (m : Moment) (t p n : ℕ)
    (outcome : Outcome) (at : TaskPlace) → 1 ≤ most → IsGraph job.graph → HasRun job m → IsNext job m (exchange_wait t p n outcome)
    → HasRun job (after_turn job (exchange_wait t p n outcome) m)
    → OwesFor steps most job m (exchange_wait t p n outcome) → StandsUpTo most job m t at
    → StandsUpTo most job (after_turn job (exchange_wait t p n outcome) m) t
    (record at { owed = owed_after_exchange (task_at job.graph t) at.owed (number outcome) })
exchange_follows steps most job m t p n outcome at some is ran next now for_event stands =
    let after = after_turn job (exchange_wait t p n outcome) m in
    let there = next.0.task in
    let peer = next.1.peer in
    let s = exchange_wait_is job m t p n outcome next.1 in
    let got = gets_all job m after t 1 p n (outcome ∷ []) s in
    let ran_before = ran.tasks t there in
    let ran_now = now.tasks t there in
    let owed_is = owes_exchange most job m t for_event.0 at.owed stands.owes for_event.1 for_event.2 in
    let x = owed_is.0 in
    let w = ranged (((task_at job.graph t).mul *ℤ x) -ℤ number outcome) in
    let owes : OwesUpTo most job m t (exchange x) = rw owed_is.1 at stands.owes in
    let before : Lacks job m t (exchange x) = rw owed_is.1 at stands.lacks in
    let same : for_event.0 ≡ 1 = same_Some for_event.0 1 (sym for_event.1 ∙ owes.0) in
    let steps : after.begun t ≡ m.begun t =
    (let here : eqb t t ≡ true = eq-eqb t t refl in rw here refl) in
    let lacks : Lacks job after t (values 1 (w ∷ [])) =
    exchange_lacks job m after t outcome x w is ran_before ran_now there peer got steps before in
    rw owed_is.1
    (stays_at job m after t at.begun (values 1 (w ∷ [])) at stands
    (keeps_moved job m after t p (Waited n 1) t s.moved (λ b at. refl)) (steps ∙ stands.begun)
    (exchange_owes most job m after t outcome x some is ran_before ran_now there peer got owes before
    (rw same at for_event.2) lacks) lacks)
