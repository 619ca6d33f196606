-- What a task's own events leave of what a moment has of it: what is the same for each, and then a
-- signal and a wait.
use Rattle.std.proofs.Common.{◌≡◌, ◌≢◌, ℕ, ◌+◌, ◌<◌, ◌≤◌, Bool, true, false, eqb, ◌∷◌, Option, Some, None, length, refl, sym, ap, subst, ◌∙◌, arith, ◌⊎◌, inl, inr, List, map, [], ◌++◌, ℤ, get_or, zero, suc}
use Rattle.std.proofs.lemmas.Bool.{eqb-true, eq-eqb}
use mathlib.Core.List.{IsPrefix}
use Rattle.std.proofs.lemmas.List.{map-append, length-append, length-map}
use Rattle.std.proofs.lemmas.Option.{same_Some}
use Rattle.std.proofs.lemmas.List.FromFn.{length-map-range_with_len}
use Rattle.phase_history.specs.declared.event.Event.{Event}
use Rattle.phase_history.specs.Histories.{History, has_dropped, start_of}
use Rattle.phase_base.specs.declared.entry.Entry.{Entry}
use Rattle.phase_history.specs.Phases.{received_by}
use Rattle.phase_history.specs.Sent.{sent_by, IsSilent}
use Rattle.phase_history.specs.declared.event.Event.TheVariants.{Signalled, Waited}
use Rattle.phase_accum.specs.declared.outcome.Outcome.{Outcome}
use Rattle.graph_base.specs.declared.line.Parent.{Parent}
use Rattle.graph_base.specs.Graphs.{task_at, Task, phaser_at}
use Rattle.graph_base.specs.TaskLines.{IsGraph, IsTaskLine}
use Rattle.stream_lists.specs.Jobs.{Job, samples_at, index_in}
use Rattle.stream_lists.specs.Lists.{output_list, number}
use Rattle.stream_lists.specs.Spans.{signalled_by}
use Rattle.graph_base.specs.declared.line.Kind.{Kind}
use Rattle.graph_base.specs.declared.line.Kind.TheVariants.{Source, Fir, Split, Decimate, Join, Peer, Sink}
use Rattle.stream_lists.proofs.Growing.{map-same}
use Rattle.stream_lists.proofs.SpansAbove.{parent-is}
use Rattle.stream_lists.proofs.Ordered.{place-at, place_of_input}
use Rattle.graph_runs.specs.Moments.{Moment, BeginsBy, taken_now, made_now, IsRegistered, Joined, one, input_at, value_at, TaskRan, OnOutput, OnInput, OnPhaser, TakenOn, IsChild, HasEnded, OnLine, HasNotPassed, AtMost, HasTaken, HasSamples, HasExchanged, first_input}
use Rattle.graph_runs.specs.Moves.{HasMoved, further, MayBeginTo, SignalsAll, Signals, IsBlock, WaitsAll, Waits}
use Rattle.graph_runs.proofs.StepsLemmas.{no_inputs}
use Rattle.graph_runs.proofs.Entries.{IsPrefix-refl, prefix_length}
use Rattle.graph_runs.proofs.Nexts.{further-length, has_taken-block, has_taken-else, has_taken-peer}
use Rattle.graph_runs.proofs.OutputLists.{outputs_begin}
use Rattle.graph_runs.proofs.Tasks.{now_counts, now_at, exchanged_as}

pub eq_case : (a b : ℕ) → (a ≡ b) ⊎ (a ≢ b)
eq_case a b = by (eqb a b) refl
  where
    by : (c : Bool) → eqb a b ≡ c → (a ≡ b) ⊎ (a ≢ b)
    by true e = inl (eqb-true a b e)
    by false e =
        inr (λ same.
        (let yes : eqb a b ≡ true = eq-eqb a b same in let f : true ≡ false = sym yes ∙ e in
        cc))

-- one event came on phaser p and on no other: some fact of each history
pub history_where : (before after : Moment) (p : ℕ) (event : Event) (P : History → Type 0) (q : ℕ)
    → after.history p ≡ event ∷ before.history p
    → ((q : ℕ) → q ≢ p → after.history q ≡ before.history q)
    → (q ≡ p → P (event ∷ before.history q)) → (q ≢ p → P (before.history q)) → P (after.history q)
history_where before after p event P q came elsewhere here there = by (eq_case q p)
  where
    by : (q ≡ p) ⊎ (q ≢ p) → P (after.history q)
    by (inl same) =
        let is : after.history q ≡ event ∷ before.history q =
        ap (λ x. after.history x) same ∙ came ∙ ap (λ x. event ∷ before.history x) (sym same) in
        subst P (sym is) (here same)
    by (inr apart) = subst P (sym (elsewhere q apart)) (there apart)

pub history_by : (job : Job) (before after : Moment) (t p : ℕ) (event : Event)
    (P : History → Type 0) (q : ℕ) → HasMoved job before after t p event
    → (q ≡ p → P (event ∷ before.history q)) → (q ≢ p → P (before.history q)) → P (after.history q)
history_by job before after t p event P q moved =
    history_where before after p event P q moved.here moved.elsewhere

-- where a child begins is the same where both phases are
pub begins : (b : Bool) (o n : ℕ) (p q : ℕ) → o ≡ p → n ≡ q → BeginsBy b p q → BeginsBy b o n
begins b o n p q first second at =
    subst (λ x. BeginsBy b x n) (sym first) (subst (λ x. BeginsBy b p x) (sym second) at)

-- its parent's boundary is one that any child may begin at
pub begins_there : (b : Bool) (o n : ℕ) → o ≡ n → BeginsBy b o n
begins_there false o n same = same
begins_there true o n same = omega arith

-- its parent's part, where it has one
pub joined_later : (job : Job) (before after : Moment) (t p : ℕ) (event : Event) → IsGraph job.graph
    → t < length job.graph.tasks → HasMoved job before after t p event
    → Joined before t (task_at job.graph t).joins_now (task_at job.graph t).parent
    → Joined after t (task_at job.graph t).joins_now (task_at job.graph t).parent
joined_later job before after t p event is there moved j = by ((task_at job.graph t).parent) refl j
  where
    by : (parent : Option Parent) → (task_at job.graph t).parent ≡ parent
        → Joined before t (task_at job.graph t).joins_now (task_at job.graph t).parent
        → Joined after t (task_at job.graph t).joins_now (task_at job.graph t).parent
    by None e j =
        let b : before.offset t ≡ 0 = rw e at j in
        rw e (moved.offset ∙ b)
    by (Some u) e j =
        let b : BeginsBy (task_at job.graph t).joins_now (before.offset t)
        (before.offset u.task + u.at) × (u.at ≤ before.begun u.task)
        × IsRegistered before u.task = rw e at j in
        let above : u.task < t =
        (parent-is job.graph t (task_at job.graph t) u
        (is.tasks t there) e).above in
        let other : u.task ≢ t = λ same. omega arith in
        let s = moved.others u.task other in
        rw e (
          begins (task_at job.graph t).joins_now (after.offset t) (after.offset u.task + u.at)
              (before.offset t) (before.offset u.task + u.at) moved.offset
              (ap (λ n. n + u.at) s.offset) b.0,
          omega (arith, b.1, s.begun),
          (b.2.0, b.2.1, moved.numbers b.2.0 u.task ∙ b.2.2),
        )

-- what is made is the same where nothing was taken and no step begun
pub made_still : (job : Job) (before after : Moment) (t j : ℕ)
    → ((k : ℕ) → after.taken t k ≡ before.taken t k) → after.begun t ≡ before.begun t
    → made_now job after t j ≡ made_now job before t j
made_still job before after t j taken begun =
    let task = task_at job.graph t in
    let lists : taken_now after task t ≡ taken_now before task t =
    map-same (after.taken t) (before.taken t) 0 (length task.inputs) (λ k lt. taken k) in
    ap (λ l. output_list (samples_at job t) l task (after.begun t) j) lists
    ∙ ap (λ b. output_list (samples_at job t) (taken_now before task t) task b j) begun

-- ---- what a task's own signal, wait or leaving leaves of its places on its phasers

module _ {job : Job} {before after : Moment} {t p : ℕ} {event : Event}
    (moved : HasMoved job before after t p event)
    (starts : (h : History) (a : ℕ) → start_of (event ∷ h) a ≡ start_of h a)
    (ran : TaskRan job before t)
    (left : (q a : ℕ) → before.number q t ≡ Some a → has_dropped (after.history q) a ≡ true → HasEnded job after t)
  where
    start_later : (q a : ℕ) (start : Entry) → start_of (before.history q) a ≡ Some start → start_of (after.history q) a ≡ Some start
    start_later q a start e = history_by job before after t p event (λ h. start_of h a ≡ Some start) q moved
        (λ same. starts (before.history q) a ∙ e) (λ apart. e)

    -- its outputs, by what it has sent there
    pub outputs_later : ((q a : ℕ) → index_in (signalled_by (task_at job.graph t)) q ≡ None → IsSilent (before.history q) a → IsSilent (after.history q) a)
        → ((q i a : ℕ) → index_in (signalled_by (task_at job.graph t)) q ≡ Some i → before.number q t ≡ Some a
        → sent_by (before.history q) a ≡ map one (before.put t i) → sent_by (after.history q) a ≡ map one (after.put t i))
        → (q : ℕ) → q < length job.graph.phasers → OnPhaser job after t q (index_in (signalled_by (task_at job.graph t)) q)
    outputs_later silent sent q qq =
        by (index_in (signalled_by (task_at job.graph t)) q) refl (before.number q t) refl (ran.outputs q qq)
      where
        by : (place : Option ℕ) → index_in (signalled_by (task_at job.graph t)) q ≡ place → (x : Option ℕ) → before.number q t ≡ x
            → OnPhaser job before t q (index_in (signalled_by (task_at job.graph t)) q)
            → OnPhaser job after t q (index_in (signalled_by (task_at job.graph t)) q)
        by None e None num on = rw (e, moved.numbers q t, num) tt
        by None e (Some a) num on = rw (e, moved.numbers q t, num) (silent q a e (rw (e, num) at on))
        by (Some i) e None num on = rw (e, moved.numbers q t, num) (rw (e, num) at on)
        by (Some i) e (Some a) num on =
            let was : OnOutput job before t i q a = rw (e, num) at on in
            rw (e, moved.numbers q t, num) (record {
              start = was.start;
              start_is = start_later q a was.start was.start_is;
              signals = was.signals;
              at = was.at ∙ sym moved.offset;
              sent = sent q i a e num was.sent;
              left = left q a num;
            })

    -- its inputs, by what it has received there
    pub inputs_later : ((k : ℕ) → before.number (input_at (task_at job.graph t) k) t ≡ None → after.taken t k ≡ before.taken t k)
        → ((k a : ℕ) → k < length (task_at job.graph t).inputs → before.number (input_at (task_at job.graph t) k) t ≡ Some a
        → let q = input_at (task_at job.graph t) k in
        before.taken t k ≡ map number (received_by (value_at job q) (before.history q) a)
        → after.taken t k ≡ map number (received_by (value_at job q) (after.history q) a))
        → (k : ℕ) → k < length (task_at job.graph t).inputs
        → TakenOn job after t k (input_at (task_at job.graph t) k) (after.number (input_at (task_at job.graph t) k) t)
    inputs_later absent taken k lt =
        by (before.number (input_at (task_at job.graph t) k) t) refl (ran.inputs k lt)
      where
        by : (x : Option ℕ) → before.number (input_at (task_at job.graph t) k) t ≡ x
            → TakenOn job before t k (input_at (task_at job.graph t) k) (before.number (input_at (task_at job.graph t) k) t)
            → TakenOn job after t k (input_at (task_at job.graph t) k) (after.number (input_at (task_at job.graph t) k) t)
        by None num on =
            let was : (before.taken t k ≡ []) × IsChild (task_at job.graph t).parent = rw num at on in
            rw (moved.numbers (input_at (task_at job.graph t) k) t, num) (absent k num ∙ was.0, was.1)
        by (Some a) num on =
            let q = input_at (task_at job.graph t) k in
            let was : OnInput job before t k q a = rw num at on in
            rw (moved.numbers q t, num) (record {
              start = was.start;
              start_is = start_later q a was.start was.start_is;
              waits = was.waits;
              at = was.at ∙ sym moved.offset;
              taken = taken k a lt num was.taken;
              left = left q a num;
            })

-- ---- a task's own signal keeps what a moment has of it

-- the signal begins as many of a source's steps as it has values, or none
abbrev SignalBegins : Job → Moment → Moment → ℕ → List ℤ → Type 0
SignalBegins job before after t vs =
    ((task_at job.graph t).kind ≡ Source) × (after.begun t ≡ further (before.begun t) vs)
    × MayBeginTo job before t (further (before.begun t) vs) ⊎ (after.begun t ≡ before.begun t)

pub own_signals : (job : Job) (before after : Moment) (t j p n : ℕ) (vs : List ℤ)
    → IsGraph job.graph
    → t < length job.graph.tasks
    → SignalsAll job before after t j p n vs → TaskRan job before t → TaskRan job after t
own_signals job before after t j p n vs is there s ran = record {
  puts = λ i lt. puts i lt (eq_case i j);
  exchanged = λ i. exchanged i (eq_case i j);
  takes = λ k lt. takes k lt s.begun;
  samples = samples s.begun;
  cut = cut s.begun;
  outputs = outputs_later s.moved (λ h a. refl) ran left (λ q a e silent. history_by job before after t p event (λ h. IsSilent h a) q s.moved
      (λ same. absurd
      (let none : Some j ≡ None = sym s.place ∙ ap (λ x. index_in (signalled_by (task_at job.graph t)) x) (sym same) ∙ e in cc))
      (λ apart. silent))
      (λ q i a e num was. sent q i a e num was (eq_case q p));
  inputs = inputs_later s.moved (λ h a. refl) ran left (λ k none. s.taken k)
      (λ k a lt num was. s.taken k ∙ history_by job before after t p event
      (λ h. before.taken t k ≡ map number (received_by (value_at job (input_at (task_at job.graph t) k)) h a))
      (input_at (task_at job.graph t) k) s.moved (λ same. was) (λ apart. was));
  lines = λ q a at. ran.lines q a (sym (s.moved.numbers q t) ∙ at);
  joined = λ q a at.
      joined_later job before after t p event is there s.moved
      (ran.joined q a (sym (s.moved.numbers q t) ∙ at));
  children =
      λ c q a u there_c e same at none on.
      children c q a u there_c e same (sym (s.moved.numbers q t) ∙ at)
      (sym (s.moved.numbers q c) ∙ none) on s.begun;
}
  where
    task : Task
    task = task_at job.graph t

    line : IsTaskLine job.graph t (task_at job.graph t)
    line = is.tasks t there

    event : Event
    event = Signalled n (map one vs) (phaser_at job.graph p).single

    Begun : Type 0
    Begun = ((task_at job.graph t).kind ≡ Source) × (after.begun t ≡ further (before.begun t) vs)
        × MayBeginTo job before t (further (before.begun t) vs) ⊎ (after.begun t ≡ before.begun t)

    at_p : (j < length (signalled_by (task_at job.graph t)))
        × (get_or (signalled_by (task_at job.graph t)) j 0 ≡ p)
    at_p = place-at (signalled_by (task_at job.graph t)) p j s.place

    puts : (i : ℕ) → i < length (signalled_by (task_at job.graph t)) → (i ≡ j) ⊎ (i ≢ j)
        → IsPrefix (after.put t i) (made_now job after t i)
    puts i lt (inl same) = rw same s.made
    puts i lt (inr apart) = by s.begun
      where
        by : SignalBegins job before after t vs → IsPrefix (after.put t i) (made_now job after t i)
        by (inl b) =
            let both : (length (task_at job.graph t).inputs ≡ 0)
            × (length (task_at job.graph t).outputs ≡ 1) = rw b.0 at line.ends in
            let long : length (signalled_by (task_at job.graph t))
            ≡ length (task_at job.graph t).outputs =
            (let e : (task_at job.graph t).kind ≡ Source = b.0 in rw e refl) in
            absurd (apart (let same : i ≡ j = omega (arith, both.1, at_p.0) in same))
        by (inr b) = rw (s.other_puts i apart, made_still job before after t i s.taken b) (ran.puts i lt)

    exchanged : (i : ℕ) → (i ≡ j) ⊎ (i ≢ j)
        → HasExchanged (task_at job.graph t).kind i (length (after.put t i)) (length (after.taken t 1))
    exchanged i (inl same) = rw same s.exchanged
    exchanged i (inr apart) = rw (s.other_puts i apart, s.taken 1) (ran.exchanged i)

    takes : (k : ℕ) → k < length (task_at job.graph t).inputs → SignalBegins job before after t vs
        → HasTaken (task_at job.graph t) (after.begun t) k (length (after.taken t k))
    takes k lt (inl b) =
        let none : length (task_at job.graph t).inputs ≡ 0 =
        no_inputs (task_at job.graph t).kind _ _ line.ends b.0 in absurd (omega arith)
    takes k lt (inr b) = rw (s.taken k, b) (ran.takes k lt)

    samples : SignalBegins job before after t vs → HasSamples (task_at job.graph t).kind (after.begun t) (length (samples_at job t))
    samples (inl b) = rw b.1 b.2.samples
    samples (inr b) = rw b ran.samples

    cut : SignalBegins job before after t vs → AtMost (after.begun t) (task_at job.graph t).until
    cut (inl b) = rw b.1 b.2.cut
    cut (inr b) = rw b ran.cut

    stays_dropped : (q a : ℕ) → before.number q t ≡ Some a → has_dropped (after.history q) a ≡ false
    stays_dropped q a at =
        history_by job before after t p event (λ h. has_dropped h a ≡ false) q s.moved
        (λ same. s.staying q a at) (λ apart. s.staying q a at)

    left : (q a : ℕ) → before.number q t ≡ Some a → has_dropped (after.history q) a ≡ true → HasEnded job after t
    left q a at gone = absurd (let f : true ≡ false = sym gone ∙ stays_dropped q a at in cc)

    sent : (q i a : ℕ) → index_in (signalled_by (task_at job.graph t)) q ≡ Some i
        → before.number q t ≡ Some a → sent_by (before.history q) a ≡ map one (before.put t i)
        → (q ≡ p) ⊎ (q ≢ p) → sent_by (after.history q) a ≡ map one (after.put t i)
    sent q i a e at is_sent (inl same) =
        let at_j : i ≡ j =
        same_Some i j (sym e ∙ ap (λ x. index_in (signalled_by (task_at job.graph t)) x) same ∙ s.place) in
        let me : a ≡ n = same_Some a n (sym at ∙ ap (λ x. before.number x t) same ∙ s.numbered) in
        let mine : eqb n a ≡ true = eq-eqb n a (sym me) in
        let now : after.history q ≡ event ∷ before.history q =
        ap (λ x. after.history x) same ∙ s.moved.here ∙ ap (λ x. event ∷ before.history x) (sym same) in
        let more : sent_by (event ∷ before.history q) a ≡ sent_by (before.history q) a ++ map one vs = rw mine refl in
        let put : after.put t i ≡ before.put t i ++ vs =
        ap (λ x. after.put t x) at_j ∙ s.put ∙ ap (λ x. before.put t x ++ vs) (sym at_j) in
        ap (λ h. sent_by h a) now ∙ more ∙ ap (λ l. l ++ map one vs) is_sent
        ∙ sym (ap (λ l. map one l) put ∙ map-append one (before.put t i) vs)
    sent q i a e at is_sent (inr apart) =
        let other : i ≢ j =
        λ same. apart
        (sym (place-at (signalled_by (task_at job.graph t)) q i e).1
        ∙ ap (λ x. get_or (signalled_by (task_at job.graph t)) x 0) same
        ∙ at_p.1) in
        ap (λ h. sent_by h a) (s.moved.elsewhere q apart) ∙ is_sent
        ∙ ap (λ l. map one l) (sym (s.other_puts i other))

    children : (c q a : ℕ) (u : Parent) → c < length job.graph.tasks
        → (task_at job.graph c).parent ≡ Some u → u.task ≡ t
        → before.number q t ≡ Some a → before.number q c ≡ None → OnLine (task_at job.graph c) q
        → SignalBegins job before after t vs → HasNotPassed after q a u
    children c q a u there_c e same at none on (inl b) =
        let less : further (before.begun t) vs ≤ u.at =
        b.2.children q c a u there_c e same at none on in
        let begun : after.begun u.task ≡ further (before.begun t) vs =
        ap (λ x. after.begun x) same ∙ b.1 in
        record {
          early =
              omega arith;
          ended =
              λ gone. absurd (let f : true ≡ false = sym gone ∙ stays_dropped q a at in cc);
        }
    children c q a u there_c e same at none on (inr b) =
        let w : HasNotPassed before q a u = ran.children c q a u there_c e same at none on in
        let begun : after.begun u.task ≡ before.begun u.task =
        ap (λ x. after.begun x) same ∙ b ∙ ap (λ x. before.begun x) (sym same) in
        let early : before.begun u.task ≤ u.at = w.early in
        record {
          early =
              omega arith;
          ended =
              λ gone. absurd (let f : true ≡ false = sym gone ∙ stays_dropped q a at in cc);
        }

-- one value
pub own_signal : (job : Job) (before after : Moment) (t j p n : ℕ) (v : ℤ) → IsGraph job.graph
    → t < length job.graph.tasks
    → Signals job before after t j p n v → TaskRan job before t → TaskRan job after t
own_signal job before after t j p n v = own_signals job before after t j p n (v ∷ [])

-- ---- a task's own wait keeps what a moment has of it

-- a later exchange leaves room for what was put before
exchanged_more : (kind : Kind) (j put a b : ℕ) → a ≤ b → HasExchanged kind j put a
    → HasExchanged kind j put b
exchanged_more Source j put a b le x = tt
exchanged_more Fir j put a b le x = tt
exchanged_more Split j put a b le x = tt
exchanged_more Decimate j put a b le x = tt
exchanged_more Join j put a b le x = tt
exchanged_more Sink j put a b le x = tt
exchanged_more Peer zero put a b le x = tt
exchanged_more Peer (suc j) put a b le x = let fits : put ≤ a = x in omega arith

-- what was made before begins what is made after
pub made_more : (job : Job) (before after : Moment) (t j : ℕ) (put : List ℤ)
    → IsTaskLine job.graph t (task_at job.graph t) → TaskRan job before t
    → j < length (signalled_by (task_at job.graph t)) → before.begun t ≤ after.begun t
    → ((k : ℕ) → k < length (task_at job.graph t).inputs
    → IsPrefix (before.taken t k) (after.taken t k))
    → HasExchanged (task_at job.graph t).kind j (length put) (length (before.taken t 1))
    → IsPrefix put (made_now job before t j) → IsPrefix put (made_now job after t j)
made_more job before after t j put line ran lt le grows exchanged begins =
    let task = task_at job.graph t in
    let now = taken_now before task t in
    let all = taken_now after task t in
    outputs_begin (samples_at job t) task now all (before.begun t) (after.begun t) j put line.ends
    line.every lt le
    (length-map-range_with_len (before.taken t) 0 (length task.inputs))
    (length-map-range_with_len (after.taken t) 0 (length task.inputs))
    (λ k below looks. (rw (now_at before task t k below)
    (rw (now_at after task t k below) (grows k below))))
    (λ k below looks. now_counts job before t line ran k below looks)
    (exchanged_as task.kind j (length put) (length (before.taken t 1)) (length (get_or now 1 []))
    (λ e. (let both : (length task.inputs ≡ 2) × (length task.outputs ≡ 1) = rw e at line.ends in
    ap length (sym (now_at before task t 1 (omega (arith, both.0))))))
    exchanged)
    begins

-- the wait begins as many steps as it has outcomes, or is a peer's second
abbrev WaitBegins : Job → Moment → Moment → ℕ → ℕ → List Outcome → Type 0
WaitBegins job before after t k outcomes =
    (k ≡ first_input (task_at job.graph t) (before.begun t))
    × (after.begun t ≡ further (before.begun t) outcomes)
    × IsBlock (task_at job.graph t).kind (length outcomes)
    × MayBeginTo job before t (further (before.begun t) outcomes)
    ⊎ ((task_at job.graph t).kind ≡ Peer) × (k ≡ 1) × (length outcomes ≡ 1)
    × (after.begun t ≡ before.begun t) × (length (before.taken t 1) < before.begun t)

pub own_waits : (job : Job) (before after : Moment) (t k p n : ℕ) (outcomes : List Outcome)
    → IsGraph job.graph → t < length job.graph.tasks
    → WaitsAll job before after t k p n outcomes → TaskRan job before t → TaskRan job after t
own_waits job before after t k p n outcomes is there s ran = record {
  puts = λ j lt.
      (rw (s.put j)
      (made_more job before after t j (before.put t j) line ran lt (begun_grows s.begun)
      (λ i below. takes_grow i (eq_case i k)) (ran.exchanged j) (ran.puts j lt)));
  exchanged = λ j.
      (let more : length (before.taken t 1) ≤ length (after.taken t 1) =
      prefix_length (before.taken t 1) (after.taken t 1)
      (takes_grow 1 (eq_case 1 k)) in
      rw (s.put j)
      (exchanged_more (task_at job.graph t).kind j (length (before.put t j))
      (length (before.taken t 1)) (length (after.taken t 1)) more (ran.exchanged j)));
  takes = λ i lt. takes i lt (eq_case i k) s.begun;
  samples = samples s.begun;
  cut = cut s.begun;
  outputs = outputs_later s.moved (λ h a. refl) ran left
      (λ q a e silent. history_by job before after t p event (λ h. IsSilent h a) q s.moved
      (λ same. record { nothing = silent.nothing; from_0 = silent.from_0 }) (λ apart. silent))
      (λ q i a e num was. history_by job before after t p event (λ h. sent_by h a ≡ map one (after.put t i)) q s.moved
      (λ same. was ∙ ap (λ l. map one l) (sym (s.put i))) (λ apart. was ∙ ap (λ l. map one l) (sym (s.put i))));
  inputs = inputs_later s.moved (λ h a. refl) ran left (λ i none. absent i none (eq_case i k))
      (λ i a lt num was. taken i a lt num was (eq_case i k));
  lines = λ q a at. ran.lines q a (sym (s.moved.numbers q t) ∙ at);
  joined = λ q a at.
      joined_later job before after t p (Waited n (length outcomes)) is there s.moved
      (ran.joined q a (sym (s.moved.numbers q t) ∙ at));
  children =
      λ c q a u there_c e same at none on.
      children c q a u there_c e same (sym (s.moved.numbers q t) ∙ at)
      (sym (s.moved.numbers q c) ∙ none) on s.begun;
}
  where
    line : IsTaskLine job.graph t (task_at job.graph t)
    line = is.tasks t there

    event : Event
    event = Waited n (length outcomes)

    begun_grows : WaitBegins job before after t k outcomes → before.begun t ≤ after.begun t
    begun_grows (inl b) =
        let e : after.begun t ≡ further (before.begun t) outcomes = b.1 in
        let many = further-length (before.begun t) outcomes in omega arith
    begun_grows (inr b) = let e : after.begun t ≡ before.begun t = b.3 in omega arith

    takes_grow : (i : ℕ) → (i ≡ k) ⊎ (i ≢ k) → IsPrefix (before.taken t i) (after.taken t i)
    takes_grow i (inl same) =
        rw same (map number outcomes, sym s.taken)
    takes_grow i (inr apart) =
        rw (s.other_takes i apart) (IsPrefix-refl (before.taken t i))

    more : length (after.taken t k) ≡ length (before.taken t k) + length outcomes
    more =
        ap length s.taken ∙ length-append (before.taken t k) (map number outcomes)
        ∙ ap (λ x. length (before.taken t k) + x) (length-map outcomes number)

    takes : (i : ℕ) → i < length (task_at job.graph t).inputs → (i ≡ k) ⊎ (i ≢ k)
        → WaitBegins job before after t k outcomes → HasTaken (task_at job.graph t) (after.begun t) i (length (after.taken t i))
    takes i lt (inl same) (inl b) =
        let task = task_at job.graph t in
        rw same
        (rw b.1
        (rw more
        (subst (λ x. HasTaken task x k (length (before.taken t k) + length outcomes))
        (sym (further-length (before.begun t) outcomes))
        (has_taken-block task (before.begun t) (length outcomes) k (length (before.taken t k))
        line.ends s.few b.0 b.2 (b.3.taken k s.few)))))
    takes i lt (inr apart) (inl b) =
        let task = task_at job.graph t in
        rw b.1
        (rw (s.other_takes i apart)
        (subst (λ x. HasTaken task x i (length (before.taken t i)))
        (sym (further-length (before.begun t) outcomes))
        (has_taken-else task (before.begun t) (length outcomes) i (length (before.taken t i))
        line.ends lt (λ e. apart (e ∙ sym b.0)) b.2 (b.3.taken i lt))))
    takes i lt (inl same) (inr b) =
        let task = task_at job.graph t in
        let lt1 : 1 < length task.inputs =
        (let f : k < length task.inputs = s.few in let e : k ≡ 1 = b.1 in omega arith) in
        let one_more : length (after.taken t 1) ≡ suc (length (before.taken t 1)) =
        (let m : length (after.taken t 1) ≡ length (before.taken t 1) + length outcomes =
        rw b.1 at more in let one : length outcomes ≡ 1 = b.2 in omega arith) in
        rw (same ∙ b.1)
        (rw b.3
        (rw one_more
        (has_taken-peer task (before.begun t) (length (before.taken t 1)) b.0
        (ran.takes 1 lt1) b.4)))
    takes i lt (inr apart) (inr b) =
        let task = task_at job.graph t in
        rw b.3 (rw (s.other_takes i apart) (ran.takes i lt))

    samples : WaitBegins job before after t k outcomes → HasSamples (task_at job.graph t).kind (after.begun t) (length (samples_at job t))
    samples (inl b) = rw b.1 b.3.samples
    samples (inr b) = rw b.3 ran.samples

    cut : WaitBegins job before after t k outcomes → AtMost (after.begun t) (task_at job.graph t).until
    cut (inl b) = rw b.1 b.3.cut
    cut (inr b) = rw b.3 ran.cut

    stays_dropped : (q a : ℕ) → before.number q t ≡ Some a → has_dropped (after.history q) a ≡ false
    stays_dropped q a at =
        history_by job before after t p event (λ h. has_dropped h a ≡ false) q s.moved
        (λ same. s.staying q a at) (λ apart. s.staying q a at)

    left : (q a : ℕ) → before.number q t ≡ Some a → has_dropped (after.history q) a ≡ true → HasEnded job after t
    left q a at gone = absurd (let f : true ≡ false = sym gone ∙ stays_dropped q a at in cc)

    absent : (i : ℕ) → before.number (input_at (task_at job.graph t) i) t ≡ None → (i ≡ k) ⊎ (i ≢ k) → after.taken t i ≡ before.taken t i
    absent i none (inl same) =
        let not_there : Some n ≡ None =
        sym s.numbered ∙ ap (λ x. before.number x t) (sym s.place ∙ ap (λ x. input_at (task_at job.graph t) x) (sym same)) ∙ none in
        absurd (cc)
    absent i none (inr apart) = s.other_takes i apart

    taken : (i a : ℕ) → i < length (task_at job.graph t).inputs → before.number (input_at (task_at job.graph t) i) t ≡ Some a
        → let q = input_at (task_at job.graph t) i in
        before.taken t i ≡ map number (received_by (value_at job q) (before.history q) a) → (i ≡ k) ⊎ (i ≢ k)
        → after.taken t i ≡ map number (received_by (value_at job q) (after.history q) a)
    taken i a lt at was (inl same) =
        let q = input_at (task_at job.graph t) i in
        let here : q ≡ p = ap (λ x. input_at (task_at job.graph t) x) same ∙ s.place in
        let me : a ≡ n = same_Some a n (sym at ∙ ap (λ x. before.number x t) here ∙ s.numbered) in
        let now : after.history q ≡ event ∷ before.history q =
        ap (λ x. after.history x) here ∙ s.moved.here ∙ ap (λ x. event ∷ before.history x) (sym here) in
        let V : ℕ → ℕ → Type 0 = λ x y. received_by (value_at job x) (Waited n (length outcomes) ∷ before.history x) y
        ≡ received_by (value_at job x) (before.history x) y ++ outcomes in
        let answer : V q a = subst (λ x. V x a) (sym here) (subst (V p) (sym me) s.answered) in
        let more_taken : after.taken t i ≡ before.taken t i ++ map number outcomes =
        ap (λ x. after.taken t x) same ∙ s.taken ∙ ap (λ x. before.taken t x ++ map number outcomes) (sym same) in
        more_taken ∙ ap (λ l. l ++ map number outcomes) was
        ∙ sym (ap (λ h. map number (received_by (value_at job q) h a)) now ∙ ap (λ l. map number l) answer
        ∙ map-append number (received_by (value_at job q) (before.history q) a) outcomes)
    taken i a lt at was (inr apart) =
        let q = input_at (task_at job.graph t) i in
        let there_i : q ≢ p =
        λ same. apart
        (same_Some i k
        (sym (place_of_input job.graph t i is there lt)
        ∙ ap (λ x. index_in (task_at job.graph t).inputs x) (same ∙ sym s.place)
        ∙ place_of_input job.graph t k is there s.few)) in
        s.other_takes i apart ∙ was
        ∙ ap (λ h. map number (received_by (value_at job q) h a)) (sym (s.moved.elsewhere q there_i))

    children : (c q a : ℕ) (u : Parent) → c < length job.graph.tasks
        → (task_at job.graph c).parent ≡ Some u → u.task ≡ t
        → before.number q t ≡ Some a → before.number q c ≡ None → OnLine (task_at job.graph c) q
        → WaitBegins job before after t k outcomes → HasNotPassed after q a u
    children c q a u there_c e same at none on (inl b) =
        let less : further (before.begun t) outcomes ≤ u.at =
        b.3.children q c a u there_c e same at none on in
        let begun : after.begun u.task ≡ further (before.begun t) outcomes =
        ap (λ x. after.begun x) same ∙ b.1 in
        record {
          early =
              omega arith;
          ended =
              λ gone. absurd (let f : true ≡ false = sym gone ∙ stays_dropped q a at in cc);
        }
    children c q a u there_c e same at none on (inr b) =
        let w : HasNotPassed before q a u = ran.children c q a u there_c e same at none on in
        let begun : after.begun u.task ≡ before.begun u.task =
        ap (λ x. after.begun x) same ∙ b.3 ∙ ap (λ x. before.begun x) (sym same) in
        let early : before.begun u.task ≤ u.at = w.early in
        record {
          early =
              omega arith;
          ended =
              λ gone. absurd (let f : true ≡ false = sym gone ∙ stays_dropped q a at in cc);
        }

-- one outcome
pub own_wait : (job : Job) (before after : Moment) (t k p n : ℕ) (outcome : Outcome)
    → IsGraph job.graph → t < length job.graph.tasks
    → Waits job before after t k p n outcome → TaskRan job before t → TaskRan job after t
own_wait job before after t k p n outcome =
    own_waits job before after t k p n (outcome ∷ [])
