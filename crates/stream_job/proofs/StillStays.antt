-- A task that is held up stays so with more samples behind those that came.
use Rattle.std.proofs.Common.{◌≡◌, ◌≢◌, ℕ, ℤ, zero, suc, ◌+◌, ◌-◌, ◌<◌, ◌≤◌, ◌||◌, Bool, true, false, cond, List, Option, Some, None, length, take, drop, refl, sym, ap, subst, ◌∙◌, arith, ◌⊎◌, inl, inr}
use Rattle.std.specs.Prelude.{nat_le, nat_lt}
use Rattle.std.specs.List.{list_all, position_from}
use Rattle.std.proofs.lemmas.Bool.{leb-false, lt-leb, lt-ltb, ltb-true, or_right}
use mathlib.Core.List.{IsPrefix}
use Rattle.phase_base.specs.Limits.{Limits}
use Rattle.phase_base.specs.Members.{entry_of, least, wait_phases}
use Rattle.phase_base.specs.declared.entry.Entry.{Entry}
use Rattle.phase_accum.specs.Sends.{AreSends}
use Rattle.phase_history.specs.Histories.{History, members_of}
use Rattle.phase_history.specs.Refusals.{is_ahead}
use Rattle.phase_accum.proofs.Parts.{AreSends-append_left}
use Rattle.graph_base.specs.Graphs.{task_at}
use Rattle.graph_base.specs.TaskLines.{IsGraph}
use Rattle.graph_base.specs.declared.line.Kind.{Kind}
use Rattle.graph_base.specs.declared.line.Kind.TheVariants.{Source, Fir, Split, Decimate, Join, Peer, Sink}
use Rattle.stream_lists.specs.Jobs.{Job, samples_at, samples_in, with_samples}
use Rattle.stream_lists.specs.Ranges.{is_out_of_range}
use Rattle.graph_runs.specs.Answers.{output_at, signal_turn, was_blocked}
use Rattle.graph_runs.specs.Moments.{Moment, limits_at}
use Rattle.graph_runs.specs.NextBlocks.{sample_block_of}
use Rattle.graph_runs.specs.Nexts.{Next, at_boundary, exchanges, first_due, first_owed, has_input_ended, is_cut, is_live, is_not_live, leaves, next_of, next_step, number_on, of_live, registers, samples, signals, waits}
use Rattle.graph_runs.specs.Reached.{IsReachable}
use Rattle.graph_runs.specs.TaskEvents.{signal}
use Rattle.graph_runs.proofs.Entries.{prefix_length}
use Rattle.graph_runs.specs.Feeds.{IsFed}
use Rattle.graph_runs.proofs.FedFeeds.{feed_continues}
use Rattle.graph_runs.proofs.FedNexts.{MayBe, next_fed, owed_fed}
use Rattle.graph_runs.proofs.FedRuns.{made_fed, reachable_fed}
use Rattle.stream_job.specs.InRange.{are_blocked, blocks_before, good_many, is_held_up}
use Rattle.stream_job.specs.Stepping.{blocks_signal_at, would_block}
use Rattle.stream_job.specs.Streams.{IsStreamAt, StreamState, all_tasks, ended_at}
use Rattle.stream_job.proofs.FedStops.{below_all}
use Rattle.stream_job.proofs.Searching.{all_in_range}
use Rattle.stream_job.proofs.Stalling.{ahead_later, leave_moves, sample_blocks}
use Rattle.stream_job.proofs.WhatNext.{samples_begins}

-- ---- what it does next

leaves_by : (cut ended : Bool) (next : Next) → ended ≡ true → cond (cut || ended) leaves next ≡ leaves
leaves_by true ended next e = refl
leaves_by false true next e = refl
leaves_by false false next e = absurd (let wrong : false ≡ true = e in cc)

-- a source with no sample left does what it did, or left
starved_either : (job : Job) (m : Moment) (more : List (List ℤ)) (t : ℕ) → MayBe job m more t
    → has_input_ended job m t (task_at job.graph t).kind ≡ true
    → (next_of (with_samples more job) m t ≡ next_of job m t) ⊎ (next_of job m t ≡ leaves)
starved_either job m more t may ended =
    by (is_live job m t) (first_owed job m t) (first_due job m t) refl refl refl
  where
    new : Job
    new = with_samples more job

    new_is : (owed : Option ℕ) → is_live job m t ≡ true → first_owed job m t ≡ owed
        → next_of (with_samples more job) m t ≡ of_live (with_samples more job) m t owed
    new_is owed live first =
        ap (λ b. cond b (of_live new m t (first_owed new m t)) is_not_live) live
        ∙ ap (of_live new m t) (owed_fed job m more t may ∙ first)

    old_is : (owed : Option ℕ) → is_live job m t ≡ true → first_owed job m t ≡ owed
        → next_of job m t ≡ of_live job m t owed
    old_is owed live first =
        ap (λ b. cond b (of_live job m t (first_owed job m t)) is_not_live) live
        ∙ ap (of_live job m t) first

    by : (live : Bool) (owed due : Option ℕ) → is_live job m t ≡ live → first_owed job m t ≡ owed
        → first_due job m t ≡ due
        → (next_of (with_samples more job) m t ≡ next_of job m t) ⊎ (next_of job m t ≡ leaves)
    by false owed due live first is =
        inl (ap (λ b. cond b (of_live new m t (first_owed new m t)) is_not_live) live
        ∙ sym (ap (λ b. cond b (of_live job m t (first_owed job m t)) is_not_live) live))
    by true (Some j) due live first is =
        inl (new_is (Some j) live first ∙ sym (old_is (Some j) live first))
    by true None (Some c) live first is =
        inl (new_is None live first ∙ ap (at_boundary new m t) is
        ∙ sym (old_is None live first ∙ ap (at_boundary job m t) is))
    by true None None live first is =
        let task = task_at job.graph t in
        inr (old_is None live first ∙ ap (at_boundary job m t) is
        ∙ leaves_by (is_cut task.until (m.begun t)) (has_input_ended job m t task.kind)
        (next_step task (m.begun t) task.kind) ended)

-- the samples of a source begin what it has then
abbrev pub MayGrow : Job → List (List ℤ) → ℕ → Type 0
MayGrow job more t = (task_at job.graph t).kind ≡ Source
    → IsPrefix (samples_at job t) (samples_in job more t)

pub next_either : (job : Job) (m : Moment) (more : List (List ℤ)) (t : ℕ) → MayBe job m more t
    → MayGrow job more t
    → (next_of (with_samples more job) m t ≡ next_of job m t) ⊎ (next_of job m t ≡ leaves)
next_either job m more t may grows =
    by_kind (task_at job.graph t).kind refl
  where
    other : (kind : Kind) → (task_at job.graph t).kind ≡ kind → kind ≢ Source
        → (next_of (with_samples more job) m t ≡ next_of job m t) ⊎ (next_of job m t ≡ leaves)
    other kind is not =
        inl (next_fed job m more t may (λ source. absurd (not (sym is ∙ source))))

    starved : (b : Bool) → (task_at job.graph t).kind ≡ Source
        → nat_le (length (samples_at job t)) (m.begun t) ≡ b
        → (next_of (with_samples more job) m t ≡ next_of job m t) ⊎ (next_of job m t ≡ leaves)
    starved true source low =
        starved_either job m more t may (ap (has_input_ended job m t) source ∙ low)
    starved false source low =
        inl (next_fed job m more t may (λ source.
        (let long = prefix_length (samples_at job t) (samples_in job more t) (grows source) in
        let left = leb-false (length (samples_at job t)) (m.begun t) low in
        lt-leb (length (samples_in job more t)) (m.begun t) (omega arith) ∙ sym low)))

    by_kind : (kind : Kind) → (task_at job.graph t).kind ≡ kind
        → (next_of (with_samples more job) m t ≡ next_of job m t) ⊎ (next_of job m t ≡ leaves)
    by_kind Source is = starved (nat_le (length (samples_at job t)) (m.begun t)) is refl
    by_kind Fir is = other Fir is (λ e. absurd (cc))
    by_kind Split is = other Split is (λ e. absurd (cc))
    by_kind Decimate is = other Decimate is (λ e. absurd (cc))
    by_kind Join is = other Join is (λ e. absurd (cc))
    by_kind Peer is = other Peer is (λ e. absurd (cc))
    by_kind Sink is = other Sink is (λ e. absurd (cc))

-- ---- whether it is blocked

-- so are more phases
blocks_more : (limits : Limits) (h : History) (a b : ℕ) (entry : Option Entry) → a ≤ b
    → blocks_signal_at limits h a entry ≡ true → blocks_signal_at limits h b entry ≡ true
blocks_more limits h a b None le e = e
blocks_more limits h a b (Some entry) le e =
    by (nat_lt limits.phases_max (entry.signal_phase + a)) refl
  where
    slowest : Option ℕ
    slowest = least (wait_phases (members_of h))

    or_left : (x y : Bool) → x ≡ true → (x || y) ≡ true
    or_left true y e = refl
    or_left false y e = absurd (let wrong : false ≡ true = e in cc)

    by : (far : Bool) → nat_lt limits.phases_max (entry.signal_phase + a) ≡ far
        → blocks_signal_at limits h b (Some entry) ≡ true
    by true is =
        let less = ltb-true limits.phases_max (entry.signal_phase + a) is in
        or_left (nat_lt limits.phases_max (entry.signal_phase + b))
        (is_ahead slowest limits.bound (entry.signal_phase + b - 1))
        (lt-ltb limits.phases_max (entry.signal_phase + b) (omega arith))
    by false is =
        let ahead : is_ahead slowest limits.bound (entry.signal_phase + a - 1) ≡ true =
        ap (λ x. x || is_ahead slowest limits.bound (entry.signal_phase + a - 1)) (sym is) ∙ e in
        or_right (nat_lt limits.phases_max (entry.signal_phase + b))
        (is_ahead slowest limits.bound (entry.signal_phase + b - 1))
        (ahead_later slowest limits.bound (entry.signal_phase + a - 1)
        (entry.signal_phase + b - 1) (omega arith) ahead)

-- the turn of a task that signals no samples
would_fed : (job : Job) (m : Moment) (more : List (List ℤ)) (t : ℕ) (next : Next)
    → MayBe job m more t → next ≢ samples
    → would_block (with_samples more job) m t next ≡ would_block job m t next
would_fed job m more t is_not_live may not = refl
would_fed job m more t (registers c) may not = refl
would_fed job m more t leaves may not = refl
would_fed job m more t samples may not = absurd (not refl)
would_fed job m more t (signals j) may not =
    let p = output_at job t j in
    ap (λ l. was_blocked (signal_turn job m t j (take (length l) (drop (length (m.put t j)) l))
    (signal t j p (number_on m t p) (take (length l) (drop (length (m.put t j)) l)))))
    (made_fed job m more t j may)
would_fed job m more t (waits k) may not = refl
would_fed job m more t exchanges may not = refl

-- what it owes before a value out of range
blocked_fed : (job : Job) (m : Moment) (more : List (List ℤ)) (t j : ℕ) (many : Option ℕ)
    → MayBe job m more t
    → are_blocked (with_samples more job) m t j many ≡ are_blocked job m t j many
blocked_fed job m more t j None may = refl
blocked_fed job m more t j (Some zero) may = refl
blocked_fed job m more t j (Some (suc n)) may =
    let p = output_at job t j in
    ap (λ l. was_blocked (signal_turn job m t j (take (suc n) (drop (length (m.put t j)) l))
    (signal t j p (number_on m t p) (take (suc n) (drop (length (m.put t j)) l)))))
    (made_fed job m more t j may)

before_fed : (job : Job) (m : Moment) (more : List (List ℤ)) (t : ℕ) (next : Next)
    → MayBe job m more t
    → blocks_before (with_samples more job) m t next ≡ blocks_before job m t next
before_fed job m more t is_not_live may = refl
before_fed job m more t (registers c) may = refl
before_fed job m more t leaves may = refl
before_fed job m more t samples may = refl
before_fed job m more t (signals j) may =
    ap (λ l. are_blocked (with_samples more job) m t j
    (position_from is_out_of_range 0 (drop (length (m.put t j)) l))) (made_fed job m more t j may)
    ∙ blocked_fed job m more t j (good_many job m t j) may
before_fed job m more t (waits k) may = refl
before_fed job m more t exchanges may = refl

-- a source has more to signal
samples_fed : (job : Job) (m : Moment) (more : List (List ℤ)) (t : ℕ) → IsGraph job.graph
    → AreSends (samples_at job t) → AreSends (samples_in job more t) → IsReachable job m
    → IsReachable (with_samples more job) m → length (samples_at job t) ≤ length (samples_in job more t)
    → next_of job m t ≡ samples → next_of (with_samples more job) m t ≡ samples
    → would_block job m t samples ≡ true → would_block (with_samples more job) m t samples ≡ true
samples_fed job m more t is sends sent reached reached' long next next' blocked =
    let new = with_samples more job in
    let p = output_at job t 0 in
    let h = m.history p in
    let n = number_on m t p in
    let fewer : sample_block_of job m t ≤ sample_block_of new m t = omega arith in
    sample_blocks new m t is sent reached' next'
    ∙ blocks_more (limits_at job p) h (sample_block_of job m t) (sample_block_of new m t)
    (entry_of (members_of h) n) fewer (sym (sample_blocks job m t is sends reached next) ∙ blocked)

-- ---- a task

-- held up, by what is known of its next call
abbrev pub held_by : Bool → Bool → Bool → Bool
held_by live blocks before = cond live blocks true || before

-- by the next call
abbrev pub held_next : Job → Moment → ℕ → Next → Bool
held_next job m t next =
    held_by (is_live job m t) (would_block job m t next) (blocks_before job m t next)

pub still_held : (job : Job) (m : Moment) (more : List (List ℤ)) (t : ℕ) → IsGraph job.graph
    → IsReachable job m → IsReachable (with_samples more job) m → MayBe job m more t
    → MayGrow job more t
    → ((task_at job.graph t).kind ≡ Source → AreSends (samples_in job more t))
    → is_held_up job m t ≡ true → is_held_up (with_samples more job) m t ≡ true
still_held job m more t is reached reached' may grows sends held =
    either (next_either job m more t may grows)
  where
    new : Job
    new = with_samples more job

    plain : (next : Next) → next_of job m t ≡ next → next_of new m t ≡ next_of job m t
        → next ≢ samples → is_held_up new m t ≡ true
    plain next is same not =
        ap (held_next new m t) (same ∙ is)
        ∙ ap (λ b. held_by (is_live job m t) b (blocks_before new m t next))
        (would_fed job m more t next may not)
        ∙ ap (held_by (is_live job m t) (would_block job m t next)) (before_fed job m more t next may)
        ∙ sym (ap (held_next job m t) is) ∙ held

    by_live : (live : Bool) → is_live job m t ≡ live → next_of job m t ≡ samples
        → next_of new m t ≡ samples → is_held_up new m t ≡ true
    by_live false gone next next' =
        ap (held_next new m t) next'
        ∙ ap (λ b. held_by b (would_block new m t samples) false) gone
    by_live true live next next' =
        let source = (samples_begins job m t next).kind in
        let grown = grows source in
        let sent = sends source in
        let was = AreSends-append_left (samples_at job t) grown.0
        (subst AreSends (sym grown.1) sent) in
        let blocked : held_by true (would_block job m t samples) false ≡ true =
        sym (ap (λ b. held_by b (would_block job m t samples) false) live)
        ∙ sym (ap (held_next job m t) next) ∙ held in
        ap (held_next new m t) next'
        ∙ ap (λ b. held_by b (would_block new m t samples) false) live
        ∙ ap (λ b. b || false) (samples_fed job m more t is was sent reached reached'
        (prefix_length (samples_at job t) (samples_in job more t) grown) next next'
        (or_false (would_block job m t samples) blocked))
      where
        or_false : (b : Bool) → (b || false) ≡ true → b ≡ true
        or_false true e = refl
        or_false false e = e

    by_next : (next : Next) → next_of job m t ≡ next → next_of new m t ≡ next_of job m t
        → is_held_up new m t ≡ true
    by_next is_not_live e same = plain is_not_live e same (λ w. absurd (cc))
    by_next (registers c) e same = plain (registers c) e same (λ w. absurd (cc))
    by_next leaves e same = plain leaves e same (λ w. absurd (cc))
    by_next samples e same = by_live (is_live job m t) refl e (same ∙ e)
    by_next (signals j) e same = plain (signals j) e same (λ w. absurd (cc))
    by_next (waits k) e same = plain (waits k) e same (λ w. absurd (cc))
    by_next exchanges e same = plain exchanges e same (λ w. absurd (cc))

    gone : (live : Bool) → is_live job m t ≡ live → next_of job m t ≡ leaves
        → is_held_up new m t ≡ true
    gone false is next =
        ap (λ b. held_by b (would_block new m t (next_of new m t))
        (blocks_before new m t (next_of new m t))) is
    gone true is next =
        absurd (let wrong : false ≡ true =
        sym (ap (held_next job m t) next ∙ ap (λ b. held_by b (would_block job m t leaves) false) is
        ∙ ap (held_by true (would_block job m t leaves)) refl
        ∙ ap (λ b. b || false) (leave_moves job m t)) ∙ held in cc)

    either : (next_of new m t ≡ next_of job m t) ⊎ (next_of job m t ≡ leaves)
        → is_held_up new m t ≡ true
    either (inl same) = by_next (next_of job m t) refl same
    either (inr left) = gone (is_live job m t) refl left

-- ---- all tasks

pub all_still : (stream : StreamState) (s : List (List ℤ)) (m : Moment) (given : ℕ → List ℤ)
    (more : List (List ℤ)) → IsStreamAt stream s m given
    → IsFed (with_samples s stream.job) (ended_at stream) more
    → ((t : ℕ) → t < length stream.job.graph.tasks
    → (task_at stream.job.graph t).kind ≡ Source → AreSends (samples_in stream.job more t))
    → list_all (is_held_up (with_samples s stream.job) m) (all_tasks stream.job) ≡ true
    → list_all (is_held_up (with_samples more stream.job) m) (all_tasks stream.job) ≡ true
all_still stream s m given more at fed sends all =
    let job = with_samples s stream.job in
    let n = length stream.job.graph.tasks in
    let goes = feed_continues job (ended_at stream) m more at.machine.reached.ran at.stays_open fed in
    let reached' = reachable_fed job m more at.machine.graph at.machine.reached goes in
    all_in_range (is_held_up (with_samples more stream.job) m) n
    (λ t lt. still_held job m more t at.machine.graph at.machine.reached reached' (goes t lt)
    (fed.begins t lt) (sends t lt) (below_all (is_held_up job m) n all t lt))
