-- Each row of the table of turns, and so each turn, has an answer of the table.
use Rattle.std.proofs.Common.{◌≡◌, ℕ, zero, suc, ◌+◌, ◌-◌, ◌<◌, ◌≤◌, Bool, true, false, not, ◌&&◌, ◌||◌, cond, Option, Some, None, is_some, length, drop, get_or, pos, refl, sym, ap, ◌∙◌, arith, ◌⊎◌, inl, inr}
use Rattle.std.specs.Prelude.{nat_le, nat_lt, min, slice_range}
use Rattle.std.proofs.lemmas.List.{length-take, length-take-le, length-drop}
use Rattle.std.specs.List.{find, range_with_len}
use Rattle.std.proofs.lemmas.Bool.{and_parts, and_cases, leb-false, ltb-false, cases_lt, not_from_false, or_parts}
use Rattle.std.proofs.lemmas.Option.{same_Some}
use Rattle.phase_base.specs.Members.{signal_phases}
use Rattle.phase_accum.specs.Sends.{AreSends}
use Rattle.phase_history.specs.Histories.{members_of, done_of, HasNoSignaller}
use Rattle.phase_history.specs.Phases.{stream_of}
use Rattle.phase_history.proofs.Signallers.{all_dropped}
use Rattle.graph_base.specs.declared.line.Kind.{Kind}
use Rattle.graph_base.specs.declared.line.Kind.TheVariants.{Source, Fir, Split, Decimate, Join, Peer, Sink}
use Rattle.graph_base.specs.Graphs.{task_at}
use Rattle.graph_base.specs.TaskLines.{IsGraph}
use Rattle.stream_lists.specs.Jobs.{Job, samples_at, index_in}
use Rattle.stream_lists.specs.Spans.{signalled_by, puts_on}
use Rattle.stream_lists.specs.Ranges.{is_out_of_range}
use Rattle.graph_runs.specs.Moments.{Moment, TaskRan, OnLine, limits_at, value_at, input_at, first_input, made_now}
use Rattle.graph_runs.proofs.OnLines.{on_phaser}
use Rattle.graph_runs.proofs.Tasks.{first_looks}
use Rattle.graph_runs.specs.TaskEvents.{sample, signal, first_wait, exchange_wait}
use Rattle.graph_runs.specs.Nexts.{is_not_live, leaves, signals, waits, exchanges, is_live, of_live, at_boundary, without_child, next_step, first_owed, is_owed, first_due, first_kept, first_missing, has_signaller, has_input_ended, has_run_out, is_cut, waits_first, number_on}
use Rattle.graph_runs.specs.Answers.{output_at, answer_up_to, turn_up_to, values_up_to, samples_up_to}
use Rattle.graph_runs.specs.NextBlocks.{AreSizes, MaySize, block_up_to, sample_block_up_to}
use Rattle.graph_runs.specs.Reached.{IsReachable}
use Rattle.graph_runs.proofs.PlacesLemmas.{place_of_output}
use Rattle.graph_runs.proofs.Signalling.{Live, live-is, number_there, stays, owed, not_ended, values_few}
use Rattle.graph_runs.proofs.Found.{all_fail}
use Rattle.graph_runs.proofs.Blocks.{block_some, block_few}
use Rattle.graph_runs.proofs.Boundaries.{made_many, peer_ends, goes_on, no_signaller}
use Rattle.graph_runs.proofs.Calling.{waits_as_peer, source_ends}
use Rattle.graph_runs.proofs.Ranged.{made_ranged, sends_ranged, take_ranged, drop_ranged}
use Rattle.graph_runs.proofs.TurnEntries.{on_output}
use Rattle.graph_runs.proofs.NotRefused.{IsTold, signal_passes, signal_turn_told, wait_passes, wait_told, block_told, leave_told, register_told}

-- ---- what is owed

-- no output below the first that is owed is owed
pub none_owed_below : (test : ℕ → Bool) (from many j i : ℕ)
    → find test (range_with_len from many) ≡ Some j → from ≤ i → i < j → test i ≡ false
none_owed_below test from zero j i e low high = absurd (cc)
none_owed_below test from (suc many) j i e low high =
    by (test from) refl e (λ f more. none_owed_below test (from + 1) many j i f more high)
  where
    by : (b : Bool) → test from ≡ b
        → cond b (Some from) (find test (range_with_len (from + 1) many)) ≡ Some j
        → (find test (range_with_len (from + 1) many) ≡ Some j → from + 1 ≤ i → test i ≡ false)
        → test i ≡ false
    by true is f rest =
        let here : from ≡ j = same_Some from j f in absurd (omega arith)
    by false is f rest = later (cases_lt from i)
      where
        later : (from < i) ⊎ (i ≤ from) → test i ≡ false
        later (inl more) = rest f (omega arith)
        later (inr less) = (let same : from ≡ i = omega arith in ap test (sym same) ∙ is)

-- how far a peer's E is: it has taken there all values but one at least
pub peer_taken : (job : Job) (m : Moment) (t : ℕ) → IsGraph job.graph → TaskRan job m t
    → t < length job.graph.tasks → (task_at job.graph t).kind ≡ Peer
    → (length (m.taken t 1) ≤ m.begun t) × (m.begun t ≤ length (m.taken t 1) + 1)
peer_taken job m t is ran there peer =
    rw peer at (ran.takes 1 (omega (arith, (peer_ends job t is there peer).0)))

signals_told : (steps most : ℕ) (job : Job) (m : Moment) (t j : ℕ) → AreSizes job.graph t steps most
    → IsGraph job.graph → AreSends (samples_at job t) → IsReachable job m → Live job m t
    → first_owed job m t ≡ Some j → IsTold (answer_up_to steps most job m t (signals j))
signals_told steps most job m t j sizes is samples reached live owes =
    let o = owed job m t j owes in
    let p = output_at job t j in
    let vs = values_up_to most job m t j in
    let put = length (m.put t j) in
    let rest = drop put (made_now job m t j) in
    let some_most : 1 ≤ most = sizes.owed.some in
    let many : length vs ≡ min most (length rest) = length-take most rest in
    let left : length rest ≡ length (made_now job m t j) - put =
    length-drop put (made_now job m t j) in
    signal_turn_told job m t j vs (signal t j p (number_on m t p) vs)
    (λ plain. all_fail is_out_of_range put vs (pos 0) (λ i lt.
    (take_ranged most rest (drop_ranged put (made_now job m t j)
    (made_ranged job m t j is reached.ran live.there samples plain))).at i))
    (signal_passes job m t j vs sizes.owed is reached live o.0 (not_ended job m t j o.0 o.1)
    (λ peer first. in_turn peer first o.1) (omega (arith, o.1)) (values_few most job m t j))
  where
    in_turn : (task_at job.graph t).kind ≡ Peer → j ≡ 0
        → length (m.put t j) < length (made_now job m t j)
        → length (m.put t 0) < length (m.taken t 1) + 1
    in_turn peer first few =
        let taken = peer_taken job m t is (reached.ran.tasks t live.there) live.there peer in
        let high : m.begun t ≤ length (m.taken t 1) + 1 = taken.1 in
        let two : length (signalled_by (task_at job.graph t)) ≡ 2 =
        (peer_ends job t is live.there peer).1 in
        let plain : puts_on (task_at job.graph t) (m.begun t) 0 ≡ m.begun t = rw peer refl in
        let many : length (made_now job m t 0) ≡ puts_on (task_at job.graph t) (m.begun t) 0 =
        made_many job m t 0 is (reached.ran.tasks t live.there) live.there (omega arith) in
        let put : length (m.put t j) ≡ length (m.put t 0) = ap (λ i. length (m.put t i)) first in
        let made : length (made_now job m t j) ≡ length (made_now job m t 0) =
        ap (λ i. length (made_now job m t i)) first in
        omega arith

exchange_told : (steps most : ℕ) (job : Job) (m : Moment) (t j : ℕ) → AreSizes job.graph t steps most
    → IsGraph job.graph → IsReachable job m → Live job m t → first_owed job m t ≡ Some j
    → waits_first (task_at job.graph t).kind j (length (m.put t j)) (length (m.taken t 1)) ≡ true
    → IsTold (answer_up_to steps most job m t exchanges)
exchange_told steps most job m t j sizes is reached live owes first =
    let o = owed job m t j owes in
    let w = waits_as_peer (task_at job.graph t).kind j (length (m.put t j)) (length (m.taken t 1))
    first in
    let two : length (task_at job.graph t).inputs ≡ 2 = (peer_ends job t is live.there w.0).0 in
    let p = input_at (task_at job.graph t) 1 in
    wait_told (exchange_wait t p (number_on m t p)) (value_at job p) (limits_at job p)
    (m.history p) (number_on m t p)
    (wait_passes job m t 1 1 sizes.owed is reached live (omega arith) (not_ended job m t j o.0 o.1)
    (omega arith) sizes.owed.some
    (λ peer one. below w.0 w.1 o.0 o.1 j refl)
    (λ quiet. absurd (noisy w.0 quiet)))
  where
    -- E is put for each step that has begun, before Y is owed
    below : (task_at job.graph t).kind ≡ Peer → length (m.taken t 1) ≤ length (m.put t j)
        → j < length (signalled_by (task_at job.graph t))
        → length (m.put t j) < length (made_now job m t j) → (i : ℕ) → j ≡ i
        → length (m.taken t 1) < length (m.put t 0)
    below peer low lt few zero at =
        let kind : waits_first Peer 0 (length (m.put t j)) (length (m.taken t 1)) ≡ true =
        ap (λ i. waits_first Peer i (length (m.put t j)) (length (m.taken t 1))) (sym at)
        ∙ ap (λ k. waits_first k j (length (m.put t j)) (length (m.taken t 1))) (sym peer)
        ∙ first in
        absurd (cc)
    below peer low lt few (suc i) at =
        let two : length (signalled_by (task_at job.graph t)) ≡ 2 =
        (peer_ends job t is live.there peer).1 in
        let full : is_owed job m t 0 ≡ false =
        none_owed_below (is_owed job m t) 0 (length (signalled_by (task_at job.graph t))) j 0 owes
        (omega arith) (omega arith) in
        let all : length (made_now job m t 0) ≤ length (m.put t 0) =
        ltb-false (length (m.put t 0)) (length (made_now job m t 0)) full in
        let first_plain : puts_on (task_at job.graph t) (m.begun t) 0 ≡ m.begun t =
        rw peer refl in
        let plain : puts_on (task_at job.graph t) (m.begun t) j ≡ m.begun t = rw peer refl in
        let first_many : length (made_now job m t 0)
        ≡ puts_on (task_at job.graph t) (m.begun t) 0 =
        made_many job m t 0 is (reached.ran.tasks t live.there) live.there (omega arith) in
        omega (arith, made_many job m t j is (reached.ran.tasks t live.there) live.there lt)

    -- the peer itself signals there
    noisy : (task_at job.graph t).kind ≡ Peer
        → has_signaller (m.history (input_at (task_at job.graph t) 1)) ≡ false → ⊥
    noisy peer quiet =
        let p = input_at (task_at job.graph t) 1 in
        let n = number_on m t p in
        let ends = peer_ends job t is live.there peer in
        let two : length (task_at job.graph t).inputs ≡ 2 = ends.0 in
        let both : length (signalled_by (task_at job.graph t)) ≡ 2 = ends.1 in
        let same : get_or (signalled_by (task_at job.graph t)) 0 0
        ≡ get_or (task_at job.graph t).inputs 1 0 = rw peer refl in
        let place : index_in (signalled_by (task_at job.graph t)) p ≡ Some 0 =
        ap (λ q. index_in (signalled_by (task_at job.graph t)) q) (sym same)
        ∙ place_of_output job.graph t (task_at job.graph t) 0 (is.tasks t live.there)
        (omega arith) in
        let line : OnLine (task_at job.graph t) p = inl (0, place) in
        let pp = on_phaser job t p is live.there line in
        let at = number_there job m t p is live line in
        let o = owed job m t j owes in
        let here = stays job m t is (reached.ran.tasks t live.there) live.there (not_ended job m t j o.0 o.1) p n at in
        let on = on_output job m t 0 p n (reached.ran.tasks t live.there) live.there pp place at in
        let none : HasNoSignaller (m.history p) =
        no_signaller (signal_phases (members_of (m.history p)))
        (not_from_false (has_signaller (m.history p)) quiet) in
        let gone = all_dropped (limits_at job p) (m.history p) n on.start
        (reached.ran.phasers p pp).legal none on.start_is on.signals in
        (let no : true ≡ false = sym gone ∙ here in cc)

-- ---- a step

samples_told : (steps most : ℕ) (job : Job) (m : Moment) (t : ℕ) → AreSizes job.graph t steps most
    → IsGraph job.graph → AreSends (samples_at job t) → IsReachable job m → Live job m t
    → (task_at job.graph t).kind ≡ Source
    → is_cut (task_at job.graph t).until (m.begun t) ≡ false
    → has_input_ended job m t (task_at job.graph t).kind ≡ false
    → IsTold (answer_up_to steps most job m t (next_step (task_at job.graph t) (m.begun t) Source))
samples_told steps most job m t sizes is samples reached live source uncut more =
    let one : length (signalled_by (task_at job.graph t)) ≡ 1 =
    source_ends job t is live.there source in
    let p = output_at job t 0 in
    let vs = samples_up_to steps job m t in
    let rest = drop (m.begun t) (samples_at job t) in
    let block : ℕ = sample_block_up_to steps job m t in
    let block_is : block
    ≡ min (block_up_to steps job m t) (length (samples_at job t) - m.begun t) = refl in
    let some : 1 ≤ block_up_to steps job m t =
    block_some steps job m t (reached.ran.tasks t live.there) sizes.block.some uncut in
    let few : block_up_to steps job m t ≤ steps = block_few steps job m t in
    let open_still : nat_le (length (samples_at job t)) (m.begun t) ≡ false =
    ap (λ k. has_input_ended job m t k) (sym source) ∙ more in
    let below : m.begun t < length (samples_at job t) =
    leb-false (length (samples_at job t)) (m.begun t) open_still in
    let left : length rest ≡ length (samples_at job t) - m.begun t =
    length-drop (m.begun t) (samples_at job t) in
    let many : length vs ≡ block = length-take-le block rest (omega arith) in
    signal_turn_told job m t 0 vs (sample t 0 p (number_on m t p) vs)
    (λ plain. all_fail is_out_of_range (length (m.put t 0)) vs (pos 0) (λ i lt.
    (take_ranged block rest (drop_ranged (m.begun t) (samples_at job t)
    (sends_ranged (samples_at job t) samples))).at i))
    (signal_passes job m t 0 vs sizes.block is reached live (omega arith) (goes_on job m t uncut more)
    (λ peer first. absurd (let no = sym source ∙ peer in cc)) (omega arith) (omega arith))

waits_told : (steps most : ℕ) (job : Job) (m : Moment) (t : ℕ) → AreSizes job.graph t steps most
    → IsGraph job.graph → IsReachable job m → Live job m t → ((task_at job.graph t).kind ≡ Source → ⊥)
    → is_cut (task_at job.graph t).until (m.begun t) ≡ false
    → has_input_ended job m t (task_at job.graph t).kind ≡ false
    → has_run_out m (task_at job.graph t) t (first_input (task_at job.graph t) (m.begun t)) ≡ false
    → IsTold (answer_up_to steps most job m t
    (waits (first_input (task_at job.graph t) (m.begun t))))
waits_told steps most job m t sizes is reached live no_source uncut more open_still =
    let task = task_at job.graph t in
    let k = first_input task (m.begun t) in
    let lt : k < length task.inputs =
    (first_looks task (m.begun t) (is.tasks t live.there).ends no_source).0 in
    let p = input_at task k in
    let made = first_wait t k p (number_on m t p) in
    block_told
    (λ phase count. made (slice_range (stream_of (value_at job p) (m.history p)) phase
    (phase + count))) (limits_at job p) (m.history p) (number_on m t p) (block_up_to steps job m t)
    (wait_passes job m t k (block_up_to steps job m t) sizes.block is reached live lt (goes_on job m t uncut more)
    (block_some steps job m t (reached.ran.tasks t live.there) sizes.block.some uncut)
    (block_few steps job m t)
    (λ peer one. (let zero_is : k ≡ 0 = rw peer refl in absurd (omega arith)))
    (λ quiet. later (and_cases (not (has_signaller (m.history p)))
    (nat_le (done_of (m.history p)) (m.offset t + length (m.taken t k))) open_still) quiet))
  where
    later : (not (has_signaller (m.history (input_at (task_at job.graph t)
        (first_input (task_at job.graph t) (m.begun t))))) ≡ false)
        ⊎ (nat_le (done_of (m.history (input_at (task_at job.graph t)
        (first_input (task_at job.graph t) (m.begun t)))))
        (m.offset t + length (m.taken t (first_input (task_at job.graph t) (m.begun t)))) ≡ false)
        → has_signaller (m.history (input_at (task_at job.graph t)
        (first_input (task_at job.graph t) (m.begun t)))) ≡ false
        → m.offset t + length (m.taken t (first_input (task_at job.graph t) (m.begun t)))
        < done_of (m.history (input_at (task_at job.graph t)
        (first_input (task_at job.graph t) (m.begun t))))
    later (inl noisy) quiet =
        absurd (let no : true ≡ false = sym (not_from_false _ quiet) ∙ noisy in cc)
    later (inr early) quiet = leb-false _ _ early

step_told : (steps most : ℕ) (job : Job) (m : Moment) (t : ℕ) → AreSizes job.graph t steps most
    → IsGraph job.graph → AreSends (samples_at job t) → IsReachable job m → Live job m t
    → is_cut (task_at job.graph t).until (m.begun t) ≡ false
    → has_input_ended job m t (task_at job.graph t).kind ≡ false
    → IsTold (answer_up_to steps most job m t
    (next_step (task_at job.graph t) (m.begun t) (task_at job.graph t).kind))
step_told steps most job m t sizes is samples reached live uncut more = by (task_at job.graph t).kind refl
  where
    ended : (kind : Kind) → (task_at job.graph t).kind ≡ kind
        → has_input_ended job m t kind ≡ false
    ended kind e = ap (λ k. has_input_ended job m t k) (sym e) ∙ more

    no_source : (kind : Kind) → (task_at job.graph t).kind ≡ kind → (kind ≡ Source → ⊥)
        → (task_at job.graph t).kind ≡ Source → ⊥
    no_source kind e never source = never (sym e ∙ source)

    by : (kind : Kind) → (task_at job.graph t).kind ≡ kind
        → IsTold (answer_up_to steps most job m t (next_step (task_at job.graph t) (m.begun t) kind))
    by Source e = samples_told steps most job m t sizes is samples reached live e uncut more
    by Fir e =
        waits_told steps most job m t sizes is reached live (no_source Fir e (λ s. (cc))) uncut more (ended Fir e)
    by Split e =
        waits_told steps most job m t sizes is reached live (no_source Split e (λ s. (cc))) uncut more
        (ended Split e)
    by Decimate e =
        waits_told steps most job m t sizes is reached live (no_source Decimate e (λ s. (cc))) uncut
        more (ended Decimate e)
    by Join e =
        waits_told steps most job m t sizes is reached live (no_source Join e (λ s. (cc))) uncut more (ended Join e)
    by Peer e =
        waits_told steps most job m t sizes is reached live (no_source Peer e (λ s. (cc))) uncut more (ended Peer e)
    by Sink e =
        waits_told steps most job m t sizes is reached live (no_source Sink e (λ s. (cc))) uncut more (ended Sink e)

-- ---- the table

boundary_told : (steps most : ℕ) (job : Job) (m : Moment) (t : ℕ) → AreSizes job.graph t steps most
    → IsGraph job.graph → AreSends (samples_at job t) → IsReachable job m → Live job m t
    → is_some (first_kept job m t) ≡ true → IsTold (answer_up_to steps most job m t (without_child job m t))
boundary_told steps most job m t sizes is samples reached live kept =
    by (is_cut (task_at job.graph t).until (m.begun t)
    || has_input_ended job m t (task_at job.graph t).kind) refl
  where
    by : (b : Bool)
        → (is_cut (task_at job.graph t).until (m.begun t)
        || has_input_ended job m t (task_at job.graph t).kind) ≡ b
        → IsTold (answer_up_to steps most job m t (cond b leaves
        (next_step (task_at job.graph t) (m.begun t) (task_at job.graph t).kind)))
    by true end = leave_told job m t is reached live kept
    by false end =
        let both = or_parts (is_cut (task_at job.graph t).until (m.begun t))
        (has_input_ended job m t (task_at job.graph t).kind) end in
        step_told steps most job m t sizes is samples reached live both.0 both.1

pub turn_told : (steps most : ℕ) (job : Job) (m : Moment) (t : ℕ) → MaySize job.graph t steps most
    → IsGraph job.graph → AreSends (samples_at job t) → IsReachable job m → IsTold (turn_up_to steps most job m t)
turn_told steps most job m t may is samples reached = by (is_live job m t) refl
  where
    at_rest : (o : Option ℕ) → first_due job m t ≡ o → Live job m t
        → is_some (first_kept job m t) ≡ true → IsTold (answer_up_to steps most job m t (at_boundary job m t o))
    at_rest None due live kept =
        boundary_told steps most job m t (may live.there) is samples reached live kept
    at_rest (Some c) due live kept = register_told job m t c is reached live due

    owing : (j : ℕ) → first_owed job m t ≡ Some j → Live job m t
        → IsTold (answer_up_to steps most job m t (of_live job m t (Some j)))
    owing j owes live =
        first (waits_first (task_at job.graph t).kind j (length (m.put t j))
        (length (m.taken t 1))) refl
      where
        first : (b : Bool)
            → waits_first (task_at job.graph t).kind j (length (m.put t j)) (length (m.taken t 1))
            ≡ b → IsTold (answer_up_to steps most job m t (cond b exchanges (signals j)))
        first true e = exchange_told steps most job m t j (may live.there) is reached live owes e
        first false e = signals_told steps most job m t j (may live.there) is samples reached live owes

    of_owed : (o : Option ℕ) → first_owed job m t ≡ o → Live job m t
        → is_some (first_kept job m t) ≡ true → IsTold (answer_up_to steps most job m t (of_live job m t o))
    of_owed (Some j) owes live kept = owing j owes live
    of_owed None none live kept = at_rest (first_due job m t) refl live kept

    by : (b : Bool) → is_live job m t ≡ b
        → IsTold (answer_up_to steps most job m t
        (cond b (of_live job m t (first_owed job m t)) is_not_live))
    by false live = tt
    by true live =
        let parts = and_parts
        (nat_lt t (length job.graph.tasks) && not (is_some (first_missing job m t)))
        (is_some (first_kept job m t)) live in
        of_owed (first_owed job m t) refl (live-is job m t live) parts.1
