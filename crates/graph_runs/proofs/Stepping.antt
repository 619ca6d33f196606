-- The place of a task after its own sample, signal or wait.
use Rattle.std.proofs.Common.{◌≡◌, ◌≢◌, ℕ, zero, suc, ◌+◌, ◌-◌, ◌<◌, ◌≤◌, Bool, true, false, cond, eqb, List, [], ◌∷◌, Some, None, is_some, length, map, get_or, ℤ, pos, refl, sym, ap, subst, ◌∙◌, arith, inl}
use Rattle.std.specs.Prelude.{Result, take, drop}
use Rattle.std.proofs.lemmas.Bool.{le-leb, ne_eqb, eq-eqb, eqb-true}
use Rattle.std.proofs.lemmas.Option.{same_Some}
use Rattle.std.proofs.lemmas.List.{length-append, length-map}
use Rattle.phase_history.specs.declared.event.Event.TheVariants.{Signalled}
use Rattle.graph_base.specs.declared.line.Kind.{Kind}
use Rattle.graph_base.specs.declared.line.Kind.TheVariants.{Source, Fir, Split, Decimate, Join, Peer, Sink}
use Rattle.graph_base.specs.Graphs.{task_at, phaser_at}
use Rattle.graph_base.specs.TaskLines.{IsGraph, HasBlock, has_blocks}
use Rattle.stream_lists.specs.Jobs.{Job}
use Rattle.stream_lists.specs.Spans.{signalled_by, puts_on}
use Rattle.stream_lists.proofs.Ordered.{place-at}
use Rattle.graph_runs.specs.Moments.{one, Moment, HasRun, TaskRan, made_now, OnLine, limits_at, value_at, taken_now}
use Rattle.graph_runs.specs.Moves.{IsStaying, IsBlock, further}
use Rattle.graph_runs.specs.Places.{IsMost}
use Rattle.graph_runs.proofs.OwnEvents.{made_still}
use Rattle.graph_runs.proofs.InBlocks.{next_samples_are, next_signals_are}
use Rattle.graph_runs.proofs.Nexts.{further-length}
use Rattle.graph_runs.specs.TaskEvents.{IsNext, sample, signal, after_turn}
use Rattle.graph_runs.specs.Nexts.{first_owed, waits_first, signals, exchanges, number_on}
use Rattle.graph_runs.specs.NextBlocks.{AreSizes, MaySize, with_block}
use Rattle.graph_runs.specs.Answers.{output_at, values_up_to}
use Rattle.graph_runs.specs.TaskPlaces.{Owed, nothing, values, exchange, Owes, OwesUpTo, TaskPlace, StandsUpTo, lacking, owed_after_signal}
use Rattle.stream_filters.specs.Range.{ranged}
use Rattle.stream_filters.specs.declared.fault.TooBigValue.{TooBigValue}
use Rattle.phase_base.specs.Modes.{mode_signals, mode_waits}
use Rattle.phase_base.specs.declared.entry.Entry.{Entry}
use Rattle.phase_base.specs.Members.{entry_of}
use Rattle.phase_history.specs.Histories.{members_of, IsAlive}
use Rattle.phase_history.specs.Legal.{IsLegal}
use Rattle.phase_history.proofs.Alive.{alive_law}
use Rattle.phase_history.proofs.Received.{counted}
use Rattle.phase_history.proofs.Used.{start_from}
use Rattle.phase_history.proofs.LawProofs.{turns_law}
use Rattle.phase_history.proofs.Signallers.{mode_of_start}
use Rattle.graph_runs.proofs.OnLines.{on_phaser}
use Rattle.graph_runs.proofs.PlacesLemmas.{place_of_output}
use Rattle.graph_runs.proofs.Signalling.{Live, number_there, stays, owed, not_ended}
use Rattle.graph_runs.proofs.Telling.{peer_taken}
use Rattle.graph_runs.proofs.Tasks.{now_at}
use Rattle.graph_runs.proofs.TurnEntries.{IsMember, on_output, on_input, signal_phase_is, wait_phase_is}
use Rattle.graph_runs.proofs.Boundaries.{made_many, peer_ends}
use Rattle.graph_runs.proofs.Calling.{source_ends}
use Rattle.graph_runs.proofs.Following.{Lacks, PutsAll, puts_all, KeepsPlaces, stays_at, keeps_moved}
use Rattle.graph_runs.proofs.InOrder.{OwesFor}
use Rattle.graph_runs.proofs.Lacking.{first_none, first_is, lacks_here, next_begins}

-- ---- what the place owes

-- where nothing is first owed, the place owes nothing
pub owes_nothing : (most : ℕ) (job : Job) (m : Moment) (t : ℕ) (owed : Owed)
    → OwesUpTo most job m t owed
    → first_owed job m t ≡ None → owed ≡ nothing
owes_nothing most job m t nothing owes none = refl
owes_nothing most job m t (values j vs) owes none =
    absurd (let clash : Some j ≡ None = sym owes.0 ∙ none in cc)
owes_nothing most job m t (exchange x) owes none =
    absurd (let clash : Some 1 ≡ None = sym owes.0 ∙ none in cc)

-- ---- a sample

pub sample_lacks : (job : Job) (m after : Moment) (t j : ℕ) (vs : List ℤ) → IsGraph job.graph
    → TaskRan job m t → TaskRan job after t → t < length job.graph.tasks
    → (task_at job.graph t).kind ≡ Source → PutsAll m after t j vs → j ≡ 0
    → after.begun t ≡ m.begun t + length vs → Lacks job m t nothing → Lacks job after t nothing
sample_lacks job m after t j vs is ran now there source s first steps lacks i lt =
    let one : length (signalled_by (task_at job.graph t)) ≡ 1 =
    source_ends job t is there source in
    let at : i ≡ 0 = omega arith in
    let many : length (made_now job after t i)
    ≡ puts_on (task_at job.graph t) (after.begun t) i = made_many job after t i is now there lt in
    let was : length (made_now job m t i) ≡ puts_on (task_at job.graph t) (m.begun t) i =
    made_many job m t i is ran there lt in
    let plain : puts_on (task_at job.graph t) (after.begun t) i ≡ after.begun t =
    rw source refl in
    let plain_before : puts_on (task_at job.graph t) (m.begun t) i ≡ m.begun t =
    rw source refl in
    let full : length (made_now job m t i) ≡ length (m.put t i) + 0 = lacks i lt in
    let put : length (after.put t i) ≡ length (m.put t i) + length vs =
    ap (λ x. length (after.put t x)) (at ∙ sym first) ∙ ap length s.put
    ∙ length-append (m.put t j) vs
    ∙ ap (λ x. length (m.put t x) + length vs) (first ∙ sym at) in
    omega arith

pub sample_follows : {most : ℕ} (job : Job) (m : Moment) (t j p n : ℕ) (vs : List ℤ) (at : TaskPlace)
    → IsGraph job.graph → HasRun job m → IsNext job m (sample t j p n vs)
    → HasRun job (after_turn job (sample t j p n vs) m) → first_owed job m t ≡ None
    → StandsUpTo most job m t at
    → StandsUpTo most job (after_turn job (sample t j p n vs) m) t
    (record at { begun = further at.begun vs })
sample_follows {most} job m t j p n vs at is ran next now idle stands =
    let after = after_turn job (sample t j p n vs) m in
    let there = next.0.task in
    let source = next.1.source in
    let s = next_samples_are job m t j p n vs next.1 (ran.tasks t there) in
    let none : at.owed ≡ nothing = owes_nothing most job m t at.owed stands.owes idle in
    let single : length (signalled_by (task_at job.graph t)) ≡ 1 =
    source_ends job t is there source in
    let lt = (place-at (signalled_by (task_at job.graph t)) p j s.place).0 in
    let steps : after.begun t ≡ further (m.begun t) vs =
    (let here : eqb t t ≡ true = eq-eqb t t refl in rw here refl) in
    let lacks : Lacks job after t nothing =
    sample_lacks job m after t j vs is (ran.tasks t there) (now.tasks t there) there source
    (puts_all job m after t j p n vs s) (omega arith) (steps ∙ further-length (m.begun t) vs)
    (rw none at stands.lacks) in
    stays_at job m after t (further at.begun vs) at.owed at stands
    (keeps_moved job m after t p
    (Signalled n (map one vs) (phaser_at job.graph p).single) t s.moved (λ b at. refl))
    (steps ∙ ap (λ b. further b vs) stands.begun)
    (rw none (first_none job after t lacks)) (rw none lacks)

-- ---- a signal

-- what the outputs lack after these values were put on output j
signal_lacks : (job : Job) (m after : Moment) (t j : ℕ) (vs : List ℤ) (owed left : Owed)
    → PutsAll m after t j vs → after.begun t ≡ m.begun t → Lacks job m t owed
    → ((i : ℕ) → i < length (signalled_by (task_at job.graph t)) → i ≢ j
    → lacking (task_at job.graph t).kind owed i ≡ lacking (task_at job.graph t).kind left i)
    → lacking (task_at job.graph t).kind owed j
    ≡ lacking (task_at job.graph t).kind left j + length vs
    → Lacks job after t left
signal_lacks job m after t j vs owed left s steps lacks others here i lt =
    by (eqb i j) refl
  where
    made : length (made_now job after t i) ≡ length (made_now job m t i)
    made = ap length (made_still job m after t i s.taken steps)

    by : (b : Bool) → eqb i j ≡ b
        → length (made_now job after t i)
        ≡ length (after.put t i) + lacking (task_at job.graph t).kind left i
    by true e =
        let same : i ≡ j = eqb-true i j e in
        let long : length (made_now job after t i) ≡ length (made_now job m t i) = made in
        let was : length (made_now job m t i)
        ≡ length (m.put t i) + lacking (task_at job.graph t).kind owed i = lacks i lt in
        let put : length (after.put t i) ≡ length (m.put t i) + length vs =
        ap (λ x. length (after.put t x)) same ∙ ap length s.put
        ∙ length-append (m.put t j) vs ∙ ap (λ x. length (m.put t x) + length vs) (sym same) in
        let less : lacking (task_at job.graph t).kind owed i
        ≡ lacking (task_at job.graph t).kind left i + length vs =
        ap (λ x. lacking (task_at job.graph t).kind owed x) same ∙ here
        ∙ ap (λ x. lacking (task_at job.graph t).kind left x + length vs) (sym same) in
        omega arith
    by false e =
        let apart : i ≢ j = λ same. (let clash = sym (eq-eqb i j same) ∙ e in cc) in
        made ∙ lacks i lt
        ∙ ap (λ l. length l + lacking (task_at job.graph t).kind owed i)
        (sym (s.other_puts i apart))
        ∙ ap (λ x. length (after.put t i) + x) (others i lt apart)

-- where values are signalled, the place owes them
owes_values : (most : ℕ) (job : Job) (m : Moment) (t j : ℕ) (owed : Owed)
    → OwesUpTo most job m t owed
    → first_owed job m t ≡ Some j
    → waits_first (task_at job.graph t).kind j (length (m.put t j)) (length (m.taken t 1)) ≡ false
    → owed ≡ values j (map ranged (values_up_to most job m t j))
owes_values most job m t j nothing owes some first =
    absurd (let clash : None ≡ Some j = sym owes ∙ some in cc)
owes_values most job m t j (values i ws) owes some first =
    let same : i ≡ j = same_Some i j (sym owes.0 ∙ some) in
    ap (λ l. values i l) (sym owes.2)
    ∙ ap (λ x. values x (map ranged (values_up_to most job m t x))) same
owes_values most job m t j (exchange x) owes some first =
    let same : 1 ≡ j = same_Some 1 j (sym owes.0 ∙ some) in
    let not_first = rw (← same) at first in
    absurd (let clash : signals 1 ≡ exchanges =
    sym (ap (λ b. cond b exchanges (signals 1)) not_first) ∙ owes.1 in cc)

-- a peer that stays on E has taken no more there than it has put
pub peer_in_turn : (job : Job) (m : Moment) (t n : ℕ) → IsGraph job.graph → TaskRan job m t
    → t < length job.graph.tasks → IsStaying m t
    → IsLegal (limits_at job (output_at job t 0)) (m.history (output_at job t 0))
    → m.number (output_at job t 0) t ≡ Some n → (task_at job.graph t).kind ≡ Peer
    → length (m.taken t 1) ≤ length (m.put t 0)
peer_in_turn job m t n is ran there staying legal at peer =
    let p = output_at job t 0 in
    let ends = peer_ends job t is there peer in
    let two : length (task_at job.graph t).inputs ≡ 2 = ends.0 in
    let both : length (signalled_by (task_at job.graph t)) ≡ 2 = ends.1 in
    let same : get_or (signalled_by (task_at job.graph t)) 0 0
    ≡ get_or (task_at job.graph t).inputs 1 0 = rw peer refl in
    let place = place_of_output job.graph t (task_at job.graph t) 0 (is.tasks t there)
    (omega arith) in
    let pp = on_phaser job t p is there (inl (0, place)) in
    let on = on_output job m t 0 p n ran there pp place at in
    let into = on_input job m t 1 p n ran there (omega arith) (sym same) at in
    let h = m.history p in
    let limits = limits_at job p in
    let alive : IsAlive h n =
    (alive_law limits h n legal).1 (ap is_some on.start_is, staying p n at) in
    let e = start_from (entry_of (members_of h) n) alive in
    let c = counted (value_at job p) limits h n e.0 legal e.1 in
    let member : IsMember m p n e.0.mode = record {
      start = c.start;
      entry = e.0;
      start_is = c.start_is;
      is = e.1;
      mode_is = refl;
      signals = c.signals;
      waits = c.waits;
    } in
    let s : e.0.signal_phase ≡ m.offset t + length (m.put t 0) =
    signal_phase_is job m t 0 p n e.0.mode on member in
    let w : e.0.wait_phase ≡ m.offset t + length (m.taken t 1) =
    wait_phase_is job m t 1 p n e.0.mode legal into member in
    let mode_here : e.0.mode ≡ c.start.mode =
    mode_of_start limits h n c.start e.0 legal c.start_is e.1 in
    let waiting : c.start ≡ into.start =
    same_Some c.start into.start (sym c.start_is ∙ into.start_is) in
    let waits_is : mode_waits e.0.mode ≡ true =
    rw (mode_here ∙ ap (λ (x : Entry). x.mode) waiting) into.waits in
    let signalling : c.start ≡ on.start =
    same_Some c.start on.start (sym c.start_is ∙ on.start_is) in
    let signals_is : mode_signals e.0.mode ≡ true =
    rw (mode_here ∙ ap (λ (x : Entry). x.mode) signalling) on.signals in
    let turn = turns_law limits h n e.0 legal e.1 signals_is waits_is in
    omega (arith, turn.low)

-- a peer that has put its value on E lacks the one on Y
peer_lacks : (ws : List (Result ℤ TooBigValue)) (x : ℤ) (i : ℕ) → i < 2 → (i ≡ 0 → ⊥)
    → lacking Peer (values 0 ws) i ≡ lacking Peer (exchange x) i
peer_lacks ws x zero lt apart = absurd (apart refl)
peer_lacks ws x (suc zero) lt apart = refl
peer_lacks ws x (suc (suc i)) lt apart = absurd (omega arith)

peer_left_lacks : (job : Job) (m after : Moment) (t : ℕ) (v : ℤ) (w : Result ℤ TooBigValue)
    → IsGraph job.graph → t < length job.graph.tasks → (task_at job.graph t).kind ≡ Peer
    → PutsAll m after t 0 (v ∷ []) → after.begun t ≡ m.begun t → Lacks job m t (values 0 (w ∷ []))
    → Lacks job after t (exchange v)
peer_left_lacks job m after t v w is there e s steps before =
    let both : length (signalled_by (task_at job.graph t)) ≡ 2 = (peer_ends job t is there e).1 in
    signal_lacks job m after t 0 (v ∷ []) (values 0 (w ∷ [])) (exchange v) s steps before
    (λ i lt apart.
    ap (λ k. lacking k (values 0 (w ∷ [])) i) e ∙ peer_lacks (w ∷ []) v i (omega arith) apart
    ∙ ap (λ k. lacking k (exchange v) i) (sym e)) refl

-- and waits there before it does
peer_owes : (job : Job) (m after : Moment) (t : ℕ) (v : ℤ) (w : Result ℤ TooBigValue)
    → IsGraph job.graph → TaskRan job m t → t < length job.graph.tasks
    → length (m.taken t 1) ≤ length (m.put t 0) → (task_at job.graph t).kind ≡ Peer
    → PutsAll m after t 0 (v ∷ [])
    → get_or (made_now job m t 0) (length (m.put t 0)) (pos 0) ≡ v
    → Lacks job m t (values 0 (w ∷ [])) → Lacks job after t (exchange v)
    → Owes job after t (exchange v)
peer_owes job m after t v w is ran there low e s next before lacks =
    let ends = peer_ends job t is there e in
    let two : length (task_at job.graph t).inputs ≡ 2 = ends.0 in
    let both : length (signalled_by (task_at job.graph t)) ≡ 2 = ends.1 in
    let taken = peer_taken job m t is ran there e in
    let high : m.begun t ≤ length (m.taken t 1) + 1 = taken.1 in
    let first_made : length (made_now job m t 0) ≡ puts_on (task_at job.graph t) (m.begun t) 0 =
    made_many job m t 0 is ran there (omega arith) in
    let second_made : length (made_now job m t 1) ≡ puts_on (task_at job.graph t) (m.begun t) 1 =
    made_many job m t 1 is ran there (omega arith) in
    let first_plain : puts_on (task_at job.graph t) (m.begun t) 0 ≡ m.begun t = rw e refl in
    let second_plain : puts_on (task_at job.graph t) (m.begun t) 1 ≡ m.begun t = rw e refl in
    let first_lacks : length (made_now job m t 0) ≡ length (m.put t 0) + 1 =
    before 0 (omega arith) in
    let second_lacks : length (made_now job m t 1) ≡ length (m.put t 1) + 1 =
    before 1 (omega arith)
    ∙ ap (λ k. length (m.put t 1) + lacking k (values 0 (w ∷ [])) 1) e in
    let put : length (after.put t 1) ≡ length (m.put t 1) =
    ap length (s.other_puts 1 (λ one. (let clash : 1 ≡ 0 = one in omega arith))) in
    let takes : length (after.taken t 1) ≡ length (m.taken t 1) = ap length (s.taken 1) in
    let waits : waits_first (task_at job.graph t).kind 1 (length (after.put t 1))
    (length (after.taken t 1)) ≡ true =
    ap (λ k. waits_first k 1 (length (after.put t 1)) (length (after.taken t 1))) e
    ∙ le-leb (length (after.taken t 1)) (length (after.put t 1)) (omega arith) in
    let at : length (m.taken t 1) ≡ length (m.put t 0) = omega arith in
    let values : made_now job m t 0 ≡ m.taken t 0 =
    (let made : made_now job m t 0 ≡ get_or (taken_now m (task_at job.graph t) t) 0 [] =
    rw e refl in made ∙ now_at m (task_at job.graph t) t 0 (omega arith)) in (
      first_is job after t 1 (exchange v) lacks (omega arith) (omega arith)
          (λ i lt. none_below i lt),
      ap (λ b. cond b exchanges (signals 1)) waits,
      ap (λ l. get_or l (length (after.taken t 1)) (pos 0)) (s.taken 0)
          ∙ ap (λ i. get_or (m.taken t 0) i (pos 0)) (takes ∙ at)
          ∙ ap (λ l. get_or l (length (m.put t 0)) (pos 0)) (sym values) ∙ next,
    )
  where
    none_below : (i : ℕ) → i < 1 → lacking (task_at job.graph t).kind (exchange v) i ≡ 0
    none_below zero lt = refl
    none_below (suc i) lt = absurd (omega arith)

-- the sizes of a turn are numbers of steps that a task may make at most
pub sizes_most : {steps most : ℕ} (job : Job) (t : ℕ) → AreSizes job.graph t steps most
    → IsMost job t most
sizes_most {steps} {most} job t sizes =
    record { some = sizes.owed.some; block = by (task_at job.graph t).kind refl }
  where
    by : (kind : Kind) → (task_at job.graph t).kind ≡ kind → IsBlock kind most
    by Source e = tt
    by Fir e = tt
    by Split e = sizes.owed.kind (ap has_blocks e)
    by Decimate e = sizes.owed.kind (ap has_blocks e)
    by Join e = sizes.owed.kind (ap has_blocks e)
    by Peer e = sizes.owed.kind (ap has_blocks e)
    by Sink e = tt

-- a block of its line is both
pub line_sizes : (job : Job) (t : ℕ) → IsGraph job.graph
    → MaySize job.graph t (task_at job.graph t).block (task_at job.graph t).block
line_sizes job t is there =
    let b = (is.tasks t there).block in
    let block : HasBlock job.graph (with_block (task_at job.graph t).block (task_at job.graph t)) =
    record { some = b.some; kind = b.kind; inputs = b.inputs; outputs = b.outputs } in
    record { block = block; owed = block; few = λ fir. omega arith }

-- a peer makes one step at most
pub peer_most : (job : Job) (t most : ℕ) → IsMost job t most
    → (task_at job.graph t).kind ≡ Peer → most ≡ 1
peer_most job t most allowed e =
    rw e at allowed.block

-- and puts one value at a time
peer_next : (most : ℕ) (job : Job) (m : Moment) (t j : ℕ) → IsMost job t most
    → (task_at job.graph t).kind ≡ Peer → length (m.put t j) < length (made_now job m t j)
    → values_up_to most job m t j
    ≡ get_or (made_now job m t j) (length (m.put t j)) (pos 0) ∷ []
peer_next most job m t j allowed e more =
    let made = made_now job m t j in
    let put = length (m.put t j) in
    next_begins most job m t j allowed.some more
    ∙ ap (λ b. get_or made put (pos 0) ∷ take (b - 1) (drop (suc put) made))
    (peer_most job t most allowed e)

-- the place after the values that are next were put on output j, where a peer has taken no more
-- from E than it has put
pub puts_stand : {most : ℕ} (job : Job) (m after : Moment) (t j : ℕ) (vs : List ℤ)
    (at : TaskPlace) → IsGraph job.graph → t < length job.graph.tasks → IsMost job t most
    → TaskRan job m t
    → ((task_at job.graph t).kind ≡ Peer → length (m.taken t 1) ≤ length (m.put t 0))
    → PutsAll m after t j vs → KeepsPlaces m after t → after.begun t ≡ m.begun t
    → length (m.put t j) < length (made_now job m t j) → values_up_to most job m t j ≡ vs
    → at.owed ≡ values j (map ranged vs) → StandsUpTo most job m t at
    → StandsUpTo most job after t
    (record at { owed = owed_after_signal (task_at job.graph t) j vs })
puts_stand {most} job m after t j vs at is there allowed ran in_turn puts keeps steps more next
    owed_is stands =
    by (task_at job.graph t).kind j refl refl
  where
    Place : Owed → Type 0
    Place o = StandsUpTo most job after t (record at { owed = o })

    -- with what is left
    stay : (left : Owed) → OwesUpTo most job after t left → Lacks job after t left
        → StandsUpTo most job after t (record at { owed = left })
    stay left now lacks =
        stays_at job m after t at.begun left at stands keeps (steps ∙ stands.begun) now lacks

    -- no other output lacks a value
    alone : (kind : Kind) → (task_at job.graph t).kind ≡ kind
        → ((i : ℕ) → i ≢ j → lacking kind (values j (map ranged vs)) i ≡ 0)
        → owed_after_signal (task_at job.graph t) j vs ≡ nothing
        → Place (owed_after_signal (task_at job.graph t) j vs)
    alone kind e none left =
        let many : lacking (task_at job.graph t).kind (values j (map ranged vs)) j ≡ length vs =
        lacks_here (task_at job.graph t).kind j (map ranged vs) ∙ length-map vs ranged in
        let lacks : Lacks job after t nothing =
        signal_lacks job m after t j vs (values j (map ranged vs)) nothing puts steps
        (rw owed_is at stands.lacks)
        (λ i lt apart. ap (λ k. lacking k (values j (map ranged vs)) i) e ∙ none i apart)
        (omega arith) in
        subst Place (sym left) (stay nothing (first_none job after t lacks) lacks)

    -- a peer's value on E
    peer : (v : ℤ) → (task_at job.graph t).kind ≡ Peer → j ≡ 0 → vs ≡ v ∷ []
        → get_or (made_now job m t j) (length (m.put t j)) (pos 0) ≡ v
        → Place (owed_after_signal (task_at job.graph t) j vs)
    peer v e same single value_is =
        let left : owed_after_signal (task_at job.graph t) j vs ≡ exchange v =
        ap (λ l. owed_after_signal (task_at job.graph t) j l) single
        ∙ ap (λ i. owed_after_signal (task_at job.graph t) i (v ∷ [])) same ∙ rw e refl in
        let owed_one : at.owed ≡ values 0 (ranged v ∷ []) =
        owed_is ∙ ap (λ l. values j (map ranged l)) single
        ∙ ap (λ i. values i (ranged v ∷ [])) same in
        let before : Lacks job m t (values 0 (ranged v ∷ [])) =
        rw owed_one at stands.lacks in
        let puts_one = rw single at (rw same at puts) in
        let lacks = peer_left_lacks job m after t v (ranged v) is there e puts_one steps before in
        subst Place (sym left)
        (stay (exchange v)
        (peer_owes job m after t v (ranged v) is ran there (in_turn e) e puts_one
        (ap (λ i. get_or (made_now job m t i) (length (m.put t i)) (pos 0)) (sym same) ∙ value_is)
        before lacks)
        lacks)

    by : (kind : Kind) (i : ℕ) → (task_at job.graph t).kind ≡ kind → j ≡ i
        → StandsUpTo most job after t
        (record at { owed = owed_after_signal (task_at job.graph t) j vs })
    by Source i e same =
        alone Source e
        (λ x apart. (let other : eqb x j ≡ false = ne_eqb x j apart in rw other refl)) (rw e refl)
    by Fir i e same =
        alone Fir e (λ x apart. (let other : eqb x j ≡ false = ne_eqb x j apart in rw other refl))
        (rw e refl)
    by Split i e same =
        alone Split e
        (λ x apart. (let other : eqb x j ≡ false = ne_eqb x j apart in rw other refl)) (rw e refl)
    by Decimate i e same =
        alone Decimate e
        (λ x apart. (let other : eqb x j ≡ false = ne_eqb x j apart in rw other refl)) (rw e refl)
    by Join i e same =
        alone Join e
        (λ x apart. (let other : eqb x j ≡ false = ne_eqb x j apart in rw other refl)) (rw e refl)
    by Sink i e same =
        alone Sink e
        (λ x apart. (let other : eqb x j ≡ false = ne_eqb x j apart in rw other refl)) (rw e refl)
    by Peer (suc i) e same =
        alone Peer e
        (λ x apart. (let other : eqb x j ≡ false = ne_eqb x j apart in rw other (rw same refl)))
        (rw e (rw same refl))
    by Peer zero e same =
        peer (get_or (made_now job m t j) (length (m.put t j)) (pos 0)) e same
        (sym next ∙ peer_next most job m t j allowed e more) refl

pub signal_follows : {steps : ℕ} (most : ℕ) (job : Job) (m : Moment) (t j p n : ℕ) (vs : List ℤ)
    (at : TaskPlace) → AreSizes job.graph t steps most → IsGraph job.graph → HasRun job m → Live job m t → IsNext job m (signal t j p n vs)
    → OwesFor steps most job m (signal t j p n vs) → StandsUpTo most job m t at
    → StandsUpTo most job (after_turn job (signal t j p n vs) m) t
    (record at { owed = owed_after_signal (task_at job.graph t) j vs })
signal_follows most job m t j p n vs at sizes is ran live next owes stands =
    let after = after_turn job (signal t j p n vs) m in
    let there = next.0.task in
    let s = next_signals_are job m t j p n vs next.1 (ran.tasks t there) in
    let steps : after.begun t ≡ m.begun t =
    (let here : eqb t t ≡ true = eq-eqb t t refl in rw here refl) in
    let o = owed job m t j owes.0 in
    puts_stand job m after t j vs at is there (sizes_most job t sizes) (ran.tasks t there)
    (λ e. in_turn e) (puts_all job m after t j p n vs s)
    (keeps_moved job m after t p
    (Signalled n (map one vs) (phaser_at job.graph p).single) t s.moved (λ b at. refl)) steps
    o.1 owes.1
    (owes_values most job m t j at.owed stands.owes owes.0 owes.2
    ∙ ap (λ l. values j (map ranged l)) owes.1) stands
  where
    -- a peer that signals has not come to its end
    in_turn : (task_at job.graph t).kind ≡ Peer → length (m.taken t 1) ≤ length (m.put t 0)
    in_turn e =
        let q = output_at job t 0 in
        let own = ran.tasks t live.there in
        let both : length (signalled_by (task_at job.graph t)) ≡ 2 =
        (peer_ends job t is live.there e).1 in
        let line : OnLine (task_at job.graph t) q =
        inl (
          0,
          place_of_output job.graph t (task_at job.graph t) 0 (is.tasks t live.there)
              (omega arith),
        ) in
        let o = owed job m t j owes.0 in
        peer_in_turn job m t (number_on m t q) is own live.there
        (stays job m t is own live.there (not_ended job m t j o.0 o.1))
        (ran.phasers q (on_phaser job t q is live.there line)).legal
        (number_there job m t q is live line) e
