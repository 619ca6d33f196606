-- What the waits of a joiner for a share of each of its inputs leave of a moment.
use Rattle.std.proofs.Common.{◌≡◌, ◌≢◌, ℕ, ◌+◌, ◌-◌, ◌*◌, ◌/◌, ◌%◌, ◌<◌, ◌≤◌, true, false, ℤ, List, [], ◌∷◌, ◌++◌, Option, Some, None, length, map, refl, sym, ap, subst, ◌∙◌, arith, All}
use mathlib.Core.List.{IsPrefix}
use Rattle.std.proofs.lemmas.List.{append-nil, length-append, length-map, map-append}
use Rattle.std.proofs.lemmas.Nat.{mod_below, div-add-mod', div-mul-add}
use Rattle.phase_base.specs.declared.entry.Entry.{Entry}
use Rattle.phase_accum.specs.declared.outcome.Outcome.{Outcome}
use Rattle.phase_history.specs.declared.event.Event.TheVariants.{Waited}
use Rattle.phase_history.specs.Histories.{History, IsBeginning, has_dropped, start_of}
use Rattle.phase_history.specs.Legal.{IsLegal}
use Rattle.phase_history.specs.Phases.{received_by}
use Rattle.phase_history.specs.Sent.{IsSilent, sent_by}
use Rattle.graph_base.specs.TaskLines.{IsGraph}
use Rattle.graph_base.specs.Graphs.{Task, task_at}
use Rattle.graph_base.specs.declared.line.Kind.TheVariants.{Join}
use Rattle.graph_base.specs.declared.line.Parent.{Parent}
use Rattle.stream_lists.specs.Jobs.{Job, index_in}
use Rattle.stream_lists.specs.Lists.{number}
use Rattle.stream_lists.specs.Ranges.{is_too_big}
use Rattle.stream_lists.specs.Spans.{signalled_by, takes_from, turns_below}
use Rattle.graph_runs.specs.Moments.{AtMost, HasEnded, HasTaken, IsRegistered, Joined, Moment, OnInput, OnLine, OnOutput, OnPhaser, TakenOn, TaskRan, BeginsBy, input_at, limits_at, made_now, one, value_at}
use Rattle.graph_runs.specs.Moves.{IsStaying}
use Rattle.graph_runs.specs.Parts.{HasPart, IsAnsweredBy, SeesOwn}
use Rattle.graph_runs.specs.Places.{KnowsOthers}
use Rattle.graph_runs.specs.TaskEnds.{HasOwnCalls}
use Rattle.graph_runs.proofs.Framed.{part_came, silent_stays}
use Rattle.graph_runs.proofs.OwnCalls.{AreOwn, BeginsAsBefore, own_came, own_got, own_later, own_on}
use Rattle.graph_runs.proofs.OwnEvents.{begins, made_more}
use Rattle.graph_runs.proofs.Whole.{parent_of}
use Rattle.phase_history.proofs.Used.{start_of-longer}
use Rattle.stream_tasks.proofs.JoinSteps.{join_ends, join_has_none}

-- ---- one phaser

-- task t, as number n on phaser q, got these outcomes, or none, and all else that its moment has of
-- the phaser's history is as it was
pub record GoesOnBy (job : Job) (m : Moment) (t q n : ℕ) (old new : History)
    (outcomes : List Outcome) : Type 0 where
  pub start : (start : Entry) → start_of old n ≡ Some start → start_of new n ≡ Some start
  pub sent : sent_by new n ≡ sent_by old n
  pub dropped : has_dropped new n ≡ has_dropped old n
  pub silent : IsSilent old n → IsSilent new n
  pub received : received_by (value_at job q) new n
      ≡ received_by (value_at job q) old n ++ outcomes
  pub own : AreOwn job m t q n old → AreOwn job m t q n new

-- where nothing came
pub nothing_came : (job : Job) (m : Moment) (t q n : ℕ) (h : History)
    → GoesOnBy job m t q n h h []
nothing_came job m t q n h = record {
  start = λ start e. e;
  sent = refl;
  dropped = refl;
  silent = λ silent. silent;
  received = sym (append-nil (received_by (value_at job q) h n));
  own = λ own. own;
}

-- by others' events, and then a wait of its own
pub wait_came : (job : Job) (m : Moment) (t q n : ℕ) (outcomes : List Outcome) (before : History)
    (start : Entry) → start_of (m.history q) n ≡ Some start
    → SeesOwn job m t q n (Waited n (length outcomes)) before
    → IsAnsweredBy job q n outcomes before
    → All (λ outcome. is_too_big outcome ≡ false) outcomes
    → GoesOnBy job m t q n (m.history q) (Waited n (length outcomes) ∷ before) outcomes
wait_came job m t q n outcomes before start begun sees answered fits =
    let old = m.history q in
    let event = Waited n (length outcomes) in
    let part = part_came n old before sees.others in
    let longer : IsBeginning old (event ∷ before) = record {
      later = event ∷ sees.others.later;
      is = ap (λ h. event ∷ h) sees.others.is;
    } in
    let grown : (first : Entry) → start_of old n ≡ Some first
    → start_of (event ∷ before) n ≡ Some first =
    λ first e. start_of-longer (limits_at job q) old (event ∷ before) n first sees.legal longer e in
    record {
      start = grown;
      sent = part.sent;
      dropped = part.dropped;
      silent = λ silent.
          (let quiet : IsSilent before n =
          silent_stays n old before start part begun (grown start begun) silent in
          record { nothing = quiet.nothing; from_0 = quiet.from_0 });
      received = answered ∙ ap (λ l. l ++ outcomes) (part.received (value_at job q));
      own = λ own.
          own_got job m t q n outcomes before answered fits
          (own_came job m t q n old before sees.others own);
    }

-- ---- the moment

-- a joiner has taken so many outcomes from each of its inputs, and begun as many steps
pub record GetsShares (job : Job) (m after : Moment) (t each : ℕ) (outcomes : ℕ → List Outcome)
    : Type 0 where
  pub numbers : (q u : ℕ) → after.number q u ≡ m.number q u
  pub offset : (u : ℕ) → after.offset u ≡ m.offset u
  pub others_begun : (u : ℕ) → u ≢ t → after.begun u ≡ m.begun u
  pub begun : after.begun t ≡ m.begun t + length (task_at job.graph t).inputs * each
  pub put : (j : ℕ) → after.put t j ≡ m.put t j
  pub taken : (k : ℕ) → k < length (task_at job.graph t).inputs
      → after.taken t k ≡ m.taken t k ++ map number (outcomes k)
  pub many : (k : ℕ) → k < length (task_at job.graph t).inputs → length (outcomes k) ≡ each
  pub legal : (q : ℕ) → OnLine (task_at job.graph t) q
      → IsLegal (limits_at job q) (after.history q)
  pub inputs : (k : ℕ) → k < length (task_at job.graph t).inputs
      → let q = input_at (task_at job.graph t) k in
      (n : ℕ) × (m.number q t ≡ Some n)
      × GoesOnBy job m t q n (m.history q) (after.history q) (outcomes k)
  pub each_phaser : (q n : ℕ) → m.number q t ≡ Some n
      → (got : List Outcome) × GoesOnBy job m t q n (m.history q) (after.history q) got

-- it may: it is its first input's turn, it has left no phaser, and `until` allows the steps
pub record MayGetShares (job : Job) (m : Moment) (t each : ℕ) : Type 0 where
  pub graph : IsGraph job.graph
  pub there : t < length job.graph.tasks
  pub kind : (task_at job.graph t).kind ≡ Join
  pub part : HasPart job m t
  pub staying : IsStaying m t
  pub first : m.begun t % length (task_at job.graph t).inputs ≡ 0
  pub cut : AtMost (m.begun t + length (task_at job.graph t).inputs * each)
      (task_at job.graph t).until

-- so many turns of each more
pub turns_more : (n k b each : ℕ) → 0 < n
    → turns_below n k (b + n * each) ≡ turns_below n k b + each
turns_more n k b each some =
    let x = b + (n - 1 - k) in
    let split : x / n * n + x % n ≡ x = div-add-mod' x n in
    let rest : x % n < n = mod_below x n some in
    let more : (x / n + each) * n + x % n ≡ x + n * each = grind (arith, split) in
    let moved : b + n * each + (n - 1 - k) ≡ x + n * each = grind (arith) in
    ap (λ y. y / n) (moved ∙ sym more) ∙ div-mul-add (x / n + each) n (x % n) rest

module _ (job : Job) (m after : Moment) (t each : ℕ) (outcomes : ℕ → List Outcome)
    (may : MayGetShares job m t each) (gets : GetsShares job m after t each outcomes) where
  abbrev task : Task
  task = task_at job.graph t

  pub staying_after : IsStaying after t
  staying_after q n at =
      let was : m.number q t ≡ Some n = sym (gets.numbers q t) ∙ at in
      (gets.each_phaser q n was).1.dropped ∙ may.staying q n was

  left : (q n : ℕ) → m.number q t ≡ Some n → has_dropped (after.history q) n ≡ true
      → HasEnded job after t
  left q n at gone =
      absurd
      (let no : true ≡ false = sym gone ∙ staying_after q n (gets.numbers q t ∙ at) in cc)

  outputs : (q : ℕ) → q < length job.graph.phasers
      → OnPhaser job after t q (index_in (signalled_by (task_at job.graph t)) q)
  outputs q there =
      by (index_in (signalled_by (task_at job.graph t)) q) refl (m.number q t) refl
      (may.part.ran.outputs q there)
    where
      by : (place : Option ℕ) → index_in (signalled_by (task_at job.graph t)) q ≡ place
          → (x : Option ℕ) → m.number q t ≡ x
          → OnPhaser job m t q (index_in (signalled_by (task_at job.graph t)) q)
          → OnPhaser job after t q (index_in (signalled_by (task_at job.graph t)) q)
      by None e None num on = rw (e, gets.numbers q t, num) tt
      by None e (Some n) num on =
          rw (e, gets.numbers q t, num) ((gets.each_phaser q n num).1.silent (rw (e, num) at on))
      by (Some i) e None num on = rw (e, gets.numbers q t, num) (rw (e, num) at on)
      by (Some i) e (Some n) num on =
          let was : OnOutput job m t i q n = rw (e, num) at on in
          let goes = (gets.each_phaser q n num).1 in
          rw (e, gets.numbers q t, num) (record {
            start = was.start;
            start_is = goes.start was.start was.start_is;
            signals = was.signals;
            at = was.at ∙ sym (gets.offset t);
            sent = goes.sent ∙ was.sent ∙ ap (λ l. map one l) (sym (gets.put i));
            left = left q n num;
          })

  inputs : (k : ℕ) → k < length (task_at job.graph t).inputs
      → TakenOn job after t k (input_at (task_at job.graph t) k)
      (after.number (input_at (task_at job.graph t) k) t)
  inputs k lt =
      let q = input_at (task_at job.graph t) k in
      let g = gets.inputs k lt in
      let was : OnInput job m t k q g.0 = rw g.1 at (may.part.ran.inputs k lt) in
      rw (gets.numbers q t, g.1) (record {
        start = was.start;
        start_is = g.2.start was.start was.start_is;
        waits = was.waits;
        at = was.at ∙ sym (gets.offset t);
        taken = gets.taken k lt ∙ ap (λ l. l ++ map number (outcomes k)) was.taken
            ∙ sym (ap (λ l. map number l) g.2.received
            ∙ map-append number (received_by (value_at job q) (m.history q) g.0) (outcomes k));
        left = left q g.0 g.1;
      })

  -- its parent's part, where it has one
  joined : (parent : Option Parent) → (task_at job.graph t).parent ≡ parent
      → Joined m t (task_at job.graph t).joins_now (task_at job.graph t).parent
      → Joined after t (task_at job.graph t).joins_now (task_at job.graph t).parent
  joined None e j =
      let b : m.offset t ≡ 0 = rw e at j in
      rw e (gets.offset t ∙ b)
  joined (Some u) e j =
      let b : BeginsBy (task_at job.graph t).joins_now (m.offset t) (m.offset u.task + u.at)
      × (u.at ≤ m.begun u.task) × IsRegistered m u.task = rw e at j in
      let above : u.task < t = (parent_of job t u may.graph may.there e).above in
      let other : after.begun u.task ≡ m.begun u.task =
      gets.others_begun u.task (λ same. omega arith) in
      rw e (
        begins (task_at job.graph t).joins_now (after.offset t) (after.offset u.task + u.at)
            (m.offset t) (m.offset u.task + u.at) (gets.offset t)
            (ap (λ n. n + u.at) (gets.offset u.task)) b.0,
        omega (arith, b.1, other),
        (b.2.0, b.2.1, gets.numbers b.2.0 u.task ∙ b.2.2),
      )

  pub ends : (length (signalled_by (task_at job.graph t)) ≡ 1)
      × (2 ≤ length (task_at job.graph t).inputs)
  ends = join_ends job t may.graph may.there may.kind

  -- from each input it has taken as many as the steps take
  pub taken_before : (k : ℕ) → k < length (task_at job.graph t).inputs
      → length (m.taken t k) ≡ turns_below (length (task_at job.graph t).inputs) k (m.begun t)
  taken_before k lt =
      let kind = may.kind in
      let took : length (m.taken t k) ≡ takes_from (task_at job.graph t) (m.begun t) k =
      rw kind at (may.part.ran.takes k lt) in
      let plain : takes_from (task_at job.graph t) (m.begun t) k
      ≡ turns_below (length (task_at job.graph t).inputs) k (m.begun t) = rw kind refl in
      took ∙ plain

  takes : (k : ℕ) → k < length (task_at job.graph t).inputs
      → HasTaken (task_at job.graph t) (after.begun t) k (length (after.taken t k))
  takes k lt =
      let kind = may.kind in
      let n = length (task_at job.graph t).inputs in
      let more : length (after.taken t k) ≡ length (m.taken t k) + each =
      ap length (gets.taken k lt) ∙ length-append (m.taken t k) (map number (outcomes k))
      ∙ ap (λ x. length (m.taken t k) + x) (length-map (outcomes k) number ∙ gets.many k lt) in
      let all : takes_from (task_at job.graph t) (after.begun t) k
      ≡ turns_below n k (after.begun t) = rw kind refl in
      let steps : turns_below n k (after.begun t) ≡ turns_below n k (m.begun t) + each =
      ap (turns_below n k) gets.begun ∙ turns_more n k (m.begun t) each (omega (arith, ends.1)) in
      let took : length (after.taken t k) ≡ takes_from (task_at job.graph t) (after.begun t) k =
      more ∙ ap (λ x. x + each) (taken_before k lt) ∙ sym steps ∙ sym all in
      rw kind took

  grows : m.begun t ≤ after.begun t
  grows = omega (arith, gets.begun)

  -- what was made before begins what is made after
  pub made_begins : (put : List ℤ) → IsPrefix put (made_now job m t 0)
      → IsPrefix put (made_now job after t 0)
  made_begins put begins_with =
      let kind = may.kind in
      made_more job m after t 0 put (may.graph.tasks t may.there) may.part.ran
      (omega (arith, ends.0)) grows
      (λ k lt. (map number (outcomes k), sym (gets.taken k lt)))
      (rw kind tt) begins_with

  puts : (j : ℕ) → j < length (signalled_by (task_at job.graph t))
      → IsPrefix (after.put t j) (made_now job after t j)
  puts j lt =
      let zero_is : j ≡ 0 = omega (arith, lt, ends.0) in
      rw zero_is
      (rw (gets.put 0)
      (made_begins (m.put t 0) (may.part.ran.puts 0 (omega (arith, ends.0)))))

  pub shares_ran : TaskRan job after t
  shares_ran =
      let kind = may.kind in record {
        puts = puts;
        exchanged = λ j. rw kind tt;
        takes = takes;
        samples = rw kind tt;
        cut = subst (λ b. AtMost b (task_at job.graph t).until) (sym gets.begun) may.cut;
        lines = λ q n at. may.part.ran.lines q n (sym (gets.numbers q t) ∙ at);
        outputs = outputs;
        inputs = inputs;
        joined = λ q n at.
            joined (task_at job.graph t).parent refl
            (may.part.ran.joined q n (sym (gets.numbers q t) ∙ at));
        children = λ c q n u there e same at none on.
            absurd (join_has_none job t c u may.graph kind there e same);
      }

  pub shares_part : HasPart job after t
  shares_part = record { ran = shares_ran; legal = gets.legal }

  -- ---- its calls, and what it knows of others

  as_before : BeginsAsBefore job m after t
  as_before = record {
    offset = λ stays. gets.offset t;
    above = λ u e. gets.offset u.task;
    parent = λ u e.
        gets.others_begun u.task
        (λ same. omega (arith, (parent_of job t u may.graph may.there e).above, same));
    own_numbers = λ q. gets.numbers q t;
    numbers = λ q c a at. gets.numbers q c ∙ at;
  }

  pub shares_own : HasOwnCalls job m t → HasOwnCalls job after t
  shares_own own = record {
    offset = λ stays. gets.offset t ∙ own.offset stays;
    above = λ u e. gets.offset u.task ∙ own.above u e;
    parent = λ u e. as_before.parent u e ∙ own.parent u e;
    named = λ q n at. (all q n at).named;
    met_none = λ q n at. (all q n at).met_none;
    children = λ q n a at e. (all q n at).children a e;
  }
    where
      all : (q n : ℕ) → after.number q t ≡ Some n → AreOwn job after t q n (after.history q)
      all q n at =
          let was : m.number q t ≡ Some n = sym (gets.numbers q t) ∙ at in
          own_later job m after t q n (after.history q) as_before
          ((gets.each_phaser q n was).1.own (own_on job m t q n own was))

  pub shares_known : KnowsOthers job m t → KnowsOthers job after t
  shares_known known = record {
    offset = λ u stays. gets.offset u ∙ known.offset u stays;
    lines = λ q c n u there parent of_t at.
        known.lines q c n u there parent of_t (sym (gets.numbers q c) ∙ at);
    unregistered = λ q d u there parent behind.
        gets.numbers q d ∙ known.unregistered q d u there parent behind;
  }
