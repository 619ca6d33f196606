-- The next block of a task: it has a step, and the task may make all its steps; its signal is
-- refused as Ahead or Spent alone; and its wait is answered as many values as are complete, at most
-- its steps.
use Rattle.std.proofs.Common.{◌≡◌, ℕ, zero, suc, ◌+◌, ◌-◌, ◌<◌, ◌≤◌, Bool, true, false, not, ◌&&◌, cond, eqb, List, [], ◌∷◌, ◌++◌, Option, Some, None, is_some, length, map, ℤ, refl, sym, ap, subst, ◌∙◌, arith, ◌⊎◌, inl, inr}
use Rattle.std.specs.Prelude.{min, nat_lt, nat_le, Ok, slice_range, take, drop}
use Rattle.std.specs.List.{range_with_len, fold}
use Rattle.std.proofs.lemmas.Bool.{and_right, le-ltb, lt-ltb, not_from_true, eq-eqb, cases_lt}
use Rattle.std.proofs.lemmas.List.{length-map, length-take-le, length-drop}
use Rattle.std.proofs.lemmas.List.FromFn.{length-range_with_len}
use Rattle.std.proofs.lemmas.Bool.Decides.{nat_tests}
use Rattle.phase_base.specs.Members.{least, wait_phases, signalled}
use Rattle.phase_base.specs.Modes.{mode_signals, mode_waits, is_single}
use Rattle.phase_base.specs.declared.entry.Entry.{Entry}
use Rattle.phase_base.specs.declared.limits.TheConstants.{SENDS_MAX}
use Rattle.phase_base.specs.declared.mode.Mode.{Mode}
use Rattle.phase_base.specs.Lists.{first_row}
use Rattle.phase_accum.specs.declared.outcome.Outcome.{Outcome}
use Rattle.phase_accum.specs.Singles.{differs}
use Rattle.phase_history.specs.declared.event.Event.TheVariants.{Waited}
use Rattle.phase_history.specs.declared.got.GotBlock.TheVariants as block
use Rattle.phase_history.specs.declared.refusal.SignalRefusal.{SignalRefusal}
use Rattle.phase_history.specs.declared.refusal.SignalRefusal.TheVariants as signal
use Rattle.phase_history.specs.Histories.{History, members_of, done_of, wait_phase}
use Rattle.phase_history.specs.Phases.{sends_of_phase, named_in_phase, stream_of, received_by, value_of_phase}
use Rattle.phase_history.specs.Refusals.{signal_refusal, list_rows, is_ahead, is_bad_block}
use Rattle.phase_history.specs.Replies.{wait_block_reply}
use Rattle.phase_history.proofs.BlockAnswers.{block_answers_law}
use Rattle.graph_base.specs.declared.line.Parent.{Parent}
use Rattle.graph_base.specs.Graphs.{task_at, phaser_at}
use Rattle.graph_base.specs.TaskLines.{IsGraph}
use Rattle.stream_lists.specs.Jobs.{Job, samples_at}
use Rattle.graph_runs.specs.Moments.{one, Moment, HasRun, TaskRan, AtMost, HasSamples, limits_at, value_at}
use Rattle.graph_runs.specs.Moves.{MayBeginTo}
use Rattle.graph_runs.specs.Nexts.{first_owed, first_due, is_cut}
use Rattle.graph_runs.specs.NextBlocks.{until_allows, child_allows, block_up_to}
use Rattle.graph_runs.proofs.Boundaries.{all_taken, none_due, one_more}
use Rattle.graph_runs.proofs.TurnEntries.{IsMember, sends_few}
use Rattle.graph_runs.proofs.Refusing.{MaySignal, differs-none}

-- ---- folds

fold-most : (f : ℕ → ℕ → ℕ) (s : ℕ) (cs : List ℕ) → ((s c : ℕ) → f s c ≤ s) → fold f s cs ≤ s
fold-most f s [] less = omega arith
fold-most f s (c ∷ cs) less =
    omega (arith, fold-most f (f s c) cs less, less s c)

fold-some : (f : ℕ → ℕ → ℕ) (s : ℕ) (cs : List ℕ) → 1 ≤ s
    → ((s c : ℕ) → 1 ≤ s → 1 ≤ f s c) → 1 ≤ fold f s cs
fold-some f s [] some keeps = some
fold-some f s (c ∷ cs) some keeps = fold-some f (f s c) cs (keeps s c some) keeps

fold-at : (f : ℕ → ℕ → ℕ) (s a n c limit : ℕ) → ((s c : ℕ) → f s c ≤ s)
    → ((s : ℕ) → f s c ≤ limit) → a ≤ c → c < a + n → fold f s (range_with_len a n) ≤ limit
fold-at f s a zero c limit less here low high = absurd (omega arith)
fold-at f s a (suc n) c limit less here low high =
    by (cases_lt a c)
    (λ later. fold-at f (f s a) (a + 1) n c limit less here (omega arith) (omega arith))
  where
    by : (a < c) ⊎ (c ≤ a) → (a < c → fold f (f s a) (range_with_len (a + 1) n) ≤ limit)
        → fold f (f s a) (range_with_len (a + 1) n) ≤ limit
    by (inl later) rest = rest later
    by (inr now) rest =
        let same : c ≡ a = omega arith in
        let most : fold f (f s a) (range_with_len (a + 1) n) ≤ f s a =
        fold-most f (f s a) (range_with_len (a + 1) n) less in
        let at : f s c ≤ limit = here s in
        let moved : f s c ≡ f s a = ap (λ x. f s x) same in
        omega arith

-- ---- how many steps, at most so many

child_less : (t begun : ℕ) (o : Option Parent) (s : ℕ) → child_allows t begun o s ≤ s
child_less t begun None s = omega arith
child_less t begun (Some u) s = by (eqb u.task t && nat_lt begun u.at)
  where
    by : (b : Bool) → cond b (min s (u.at - begun)) s ≤ s
    by true = omega arith
    by false = omega arith

child_some : (t begun : ℕ) (o : Option Parent) (s : ℕ) → 1 ≤ s → 1 ≤ child_allows t begun o s
child_some t begun None s some = some
child_some t begun (Some u) s some =
    by (eqb u.task t) (nat_lt begun u.at) refl
  where
    by : (a b : Bool) → nat_lt begun u.at ≡ b → 1 ≤ cond (a && b) (min s (u.at - begun)) s
    by true true e =
        let later : begun < u.at = grind (arith, nat_tests, e) in omega arith
    by true false e = some
    by false b e = some

child_at : (t begun s : ℕ) (u : Parent) → u.task ≡ t → begun < u.at
    → child_allows t begun (Some u) s ≤ u.at - begun
child_at t begun s u by later =
    let mine : eqb u.task t ≡ true = eq-eqb u.task t by in
    let after : nat_lt begun u.at ≡ true = lt-ltb begun u.at later in
    rw (mine, after) (omega arith)

-- a block has a step, where `until` allows one
pub block_some : (most : ℕ) (job : Job) (m : Moment) (t : ℕ) → TaskRan job m t → 1 ≤ most
    → is_cut (task_at job.graph t).until (m.begun t) ≡ false → 1 ≤ block_up_to most job m t
block_some most job m t ran some uncut =
    fold-some (λ s c. child_allows t (m.begun t) (task_at job.graph c).parent s)
    (until_allows (task_at job.graph t).until (m.begun t) most)
    (range_with_len 0 (length job.graph.tasks))
    (first (task_at job.graph t).until uncut ran.cut)
    (λ s c some. child_some t (m.begun t) (task_at job.graph c).parent s some)
  where
    first : (until : Option ℕ) → is_cut until (m.begun t) ≡ false → AtMost (m.begun t) until
        → 1 ≤ until_allows until (m.begun t) most
    first None e le = some
    first (Some until) e le =
        let more : suc (m.begun t) ≤ until = one_more (Some until) (m.begun t) e le in
        omega (arith, some)

-- and at most as many as the line names
pub block_most : (most : ℕ) (job : Job) (m : Moment) (t : ℕ)
    → block_up_to most job m t ≤ until_allows (task_at job.graph t).until (m.begun t)
    most
block_most most job m t =
    fold-most (λ s c. child_allows t (m.begun t) (task_at job.graph c).parent s)
    (until_allows (task_at job.graph t).until (m.begun t) most)
    (range_with_len 0 (length job.graph.tasks))
    (λ s c. child_less t (m.begun t) (task_at job.graph c).parent s)

until_less : (until : Option ℕ) (begun s : ℕ) → until_allows until begun s ≤ s
until_less None begun s = omega arith
until_less (Some until) begun s = omega arith

pub block_few : (most : ℕ) (job : Job) (m : Moment) (t : ℕ) → block_up_to most job m t ≤ most
block_few most job m t =
    let less = until_less (task_at job.graph t).until (m.begun t) most in
    omega (arith, block_most most job m t)

-- none past the boundary of a child that comes later
pub block_before : (most : ℕ) (job : Job) (m : Moment) (t c : ℕ) (u : Parent) → c < length job.graph.tasks
    → (task_at job.graph c).parent ≡ Some u → u.task ≡ t → m.begun t < u.at
    → block_up_to most job m t ≤ u.at - m.begun t
block_before most job m t c u there e by later =
    fold-at (λ s c. child_allows t (m.begun t) (task_at job.graph c).parent s)
    (until_allows (task_at job.graph t).until (m.begun t) most)
    0 (length job.graph.tasks) c (u.at - m.begun t)
    (λ s c. child_less t (m.begun t) (task_at job.graph c).parent s)
    (λ s. subst (λ o. child_allows t (m.begun t) o s ≤ u.at - m.begun t) (sym e)
    (child_at t (m.begun t) s u by later))
    (omega arith) (omega arith)

-- the task may make all these steps
pub may_go_on : (most : ℕ) (job : Job) (m : Moment) (t steps : ℕ) → IsGraph job.graph → TaskRan job m t
    → t < length job.graph.tasks → first_owed job m t ≡ None → first_due job m t ≡ None
    → m.begun t ≤ steps → steps ≤ m.begun t + block_up_to most job m t
    → HasSamples (task_at job.graph t).kind steps (length (samples_at job t))
    → MayBeginTo job m t steps
may_go_on most job m t steps is ran there none due low within samples = record {
  taken = λ k lt. all_taken job m t is ran there none k lt;
  cut = cut (task_at job.graph t).until ran.cut (block_most most job m t);
  samples = samples;
  children = λ p c n u below parent by at absent on.
      (let later : m.begun t < u.at =
      none_due job m t p is ran there due c n u below parent by at absent on in
      omega (arith, block_before most job m t c u below parent by later));
}
  where
    cut : (until : Option ℕ) → AtMost (m.begun t) until
        → block_up_to most job m t ≤ until_allows until (m.begun t) most
        → AtMost steps until
    cut None le few = tt
    cut (Some until) le few =
        omega (arith, le, few, within)

-- ---- a signal

first_pass : (twice spent ahead differs full : Bool) (rest : Option SignalRefusal)
    → twice ≡ false → differs ≡ false → full ≡ false → MaySignal rest
    → MaySignal (cond twice (Some signal.SignalTwice) (cond spent (Some signal.Spent)
    (cond ahead (Some signal.Ahead) (cond differs (Some signal.SingleDiffers)
    (cond full (Some signal.PhaseFull) rest)))))
first_pass twice spent ahead differs full rest a b c may =
    rw a (by spent ahead)
  where
    by : (spent ahead : Bool) → MaySignal (cond spent (Some signal.Spent)
        (cond ahead (Some signal.Ahead) (cond differs (Some signal.SingleDiffers)
        (cond full (Some signal.PhaseFull) rest))))
    by true ahead = tt
    by false true = tt
    by false false = rw b (rw c may)

rows_pass : (job : Job) (m : Moment) (p : ℕ) → IsGraph job.graph → HasRun job m
    → p < length job.graph.phasers → (vs : List ℤ) (entry : Entry)
    → mode_waits entry.mode ≡ false
    → MaySignal (first_row (list_rows (limits_at job p) (m.history p) (map one vs)
    (phaser_at job.graph p).single entry))
rows_pass job m p is ran pp [] entry quiet = tt
rows_pass job m p is ran pp (v ∷ vs) entry quiet =
    let h = m.history p in
    let s = entry.signal_phase in
    let single = (phaser_at job.graph p).single in
    let slowest = is_some (least (wait_phases (members_of h))) in
    let sent : length (sends_of_phase h s) ≤ length job.graph.tasks = sends_few job m p s ran pp in
    first_pass (mode_waits entry.mode && eqb s (entry.wait_phase + 1))
    (nat_le (limits_at job p).phases_max s)
    (is_ahead (least (wait_phases (members_of h))) (limits_at job p).bound s)
    (slowest && differs (named_in_phase h s) single)
    (slowest && nat_lt SENDS_MAX (length (sends_of_phase h s) + 1))
    (first_row (list_rows (limits_at job p) h (map one vs) single (signalled 1 entry)))
    (ap (λ b. b && eqb s (entry.wait_phase + 1)) quiet)
    (and_right slowest (differs (named_in_phase h s) single)
    (differs-none single h s (ran.phasers p pp).names))
    (and_right slowest (nat_lt SENDS_MAX (length (sends_of_phase h s) + 1))
    (le-ltb SENDS_MAX (length (sends_of_phase h s) + 1) (omega (arith, is.few_tasks))))
    (rows_pass job m p is ran pp vs (signalled 1 entry) quiet)

front_pass : (no_signal not_single bad : Bool) (rest : Option SignalRefusal) → no_signal ≡ false
    → not_single ≡ false → bad ≡ false → MaySignal rest
    → MaySignal (cond no_signal (Some signal.NoSignal) (cond not_single (Some signal.NotSingle)
    (cond bad (Some signal.BadBlock) rest)))
front_pass no_signal not_single bad rest a b c may = rw a (rw b (rw c may))

-- a block of values from a task that signals alone
pub may_signal_block : (job : Job) (m : Moment) (p n : ℕ) (vs : List ℤ) (mode : Mode)
    → IsGraph job.graph → HasRun job m → p < length job.graph.phasers
    → (e : IsMember m p n mode) → mode_signals mode ≡ true → mode_waits mode ≡ false
    → (is_some (phaser_at job.graph p).single && not (is_single mode)) ≡ false
    → is_bad_block (limits_at job p) (length vs) ≡ false
    → MaySignal (signal_refusal (limits_at job p) (m.history p) n (map one vs)
    (phaser_at job.graph p).single)
may_signal_block job m p n vs mode is ran pp e signals quiet named good =
    let h = m.history p in
    let single = (phaser_at job.graph p).single in
    let long : length (map one vs) ≡ length vs = length-map vs one in
    rw (e.is) (front_pass (not (mode_signals e.entry.mode))
    (is_some single && not (is_single e.entry.mode))
    (is_bad_block (limits_at job p) (length (map one vs)))
    (first_row (list_rows (limits_at job p) h (map one vs) single e.entry))
    (rw e.mode_is (not_from_true (mode_signals mode) signals))
    (rw e.mode_is named)
    (ap (λ k. is_bad_block (limits_at job p) k) long ∙ good)
    (rows_pass job m p is ran pp vs e.entry (rw e.mode_is quiet)))

-- ---- a wait

-- what a wait for a block is answered, as an event
pub record AnsweredBlock (job : Job) (h : History) (p n steps : ℕ) (outcomes : List Outcome) : Type
    0 where
  pub some : 1 ≤ length outcomes
  pub few : length outcomes ≤ steps
  pub within : wait_phase h n + length outcomes ≤ done_of h
  pub received : received_by (value_at job p) (Waited n (length outcomes) ∷ h) n
      ≡ received_by (value_at job p) h n ++ outcomes

pub answered_block : (job : Job) (h : History) (p n steps phase count : ℕ)
    → wait_block_reply (limits_at job p) h n steps ≡ Ok (block.Values phase count)
    → AnsweredBlock job h p n steps
    (slice_range (stream_of (value_at job p) h) phase (phase + count))
answered_block job h p n steps phase count reply =
    let stream = stream_of (value_at job p) h in
    let a = block_answers_law (value_at job p) (limits_at job p) h n steps phase count reply in
    let long : length stream ≡ done_of h =
    length-map (range_with_len 0 (done_of h)) (value_of_phase (value_at job p) h)
    ∙ length-range_with_len 0 (done_of h) in
    let off : phase + count - phase ≡ count = omega arith in
    let complete : phase + count ≤ done_of h = a.complete in
    let rest : length (drop phase stream) ≡ length stream - phase = length-drop phase stream in
    let many : length (slice_range stream phase (phase + count)) ≡ count =
    ap (λ k. length (take k (drop phase stream))) off
    ∙ length-take-le count (drop phase stream) (omega arith) in
    let at : phase ≡ wait_phase h n = a.phase_is in
    let least : count ≡ min steps (done_of h - phase) = a.count_is in
    let one_at_least : 1 ≤ count = a.some in
    record {
      some = omega arith;
      few = omega arith;
      within = omega arith;
      received = ap (λ k. received_by (value_at job p) (Waited n k ∷ h) n) many ∙ a.received;
    }
