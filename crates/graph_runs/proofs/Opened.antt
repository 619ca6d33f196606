-- At the opening a moment has what every moment has.
use Rattle.std.proofs.Common.{◌≡◌, ◌≢◌, ℕ, zero, suc, ◌+◌, ◌-◌, ◌*◌, ◌/◌, ◌<◌, ◌≤◌, Bool, true, false, cond, eqb, List, [], ◌∷◌, Option, Some, None, ℤ, length, map, refl, sym, ap, ◌∙◌, arith, inl, inr}
use Rattle.std.specs.Prelude.{is_some}
use Rattle.std.proofs.lemmas.Bool.{ne_eqb}
use Rattle.std.proofs.lemmas.Option.{same_Some}
use Rattle.std.proofs.lemmas.Nat.{div_below}
use Rattle.phase_base.specs.Limits.{Limits}
use Rattle.phase_base.specs.declared.entry.Entry.{Entry}
use Rattle.phase_accum.specs.declared.outcome.Outcome.{Outcome}
use Rattle.phase_accum.specs.declared.single.Single.{Single}
use Rattle.phase_history.specs.declared.event.Event.TheVariants.{Made, Registered, RegisteredNow, Signalled, Waited, Dropped}
use Rattle.phase_history.specs.Histories.{History, founder, entry_at, members_of, member_entry, signal_phase, wait_phase, has_dropped, start_of, phases_signalled, phases_waited}
use Rattle.phase_history.specs.Phases.{received_by}
use Rattle.phase_history.specs.Laws.{HasCounted}
use Rattle.phase_history.specs.Legal.{IsLegal}
use Rattle.phase_history.specs.Sent.{sent_by, NamesAll, IsSilent}
use Rattle.phase_history.proofs.LawProofs.{counted_of}
use Rattle.phase_history.proofs.Refused.{Registers as MayRegister, registers_from}
use Rattle.phase_history.proofs.Steps.{member_entry_is}
use Rattle.phase_history.proofs.Used.{start_from}
use Rattle.graph_base.specs.declared.line.Kind.{Kind}
use Rattle.graph_base.specs.declared.line.Kind.TheVariants.{Source, Fir, Split, Decimate, Join, Peer, Sink}
use Rattle.graph_base.specs.declared.line.Parent.{Parent}
use Rattle.graph_base.specs.Graphs.{Task, task_at, phaser_at}
use Rattle.graph_base.specs.TaskLines.{IsGraph}
use Rattle.stream_lists.specs.Jobs.{Job, samples_at, index_in}
use Rattle.stream_lists.specs.Spans.{signalled_by, turns_below}
use Rattle.stream_lists.specs.Lists.{number}
use Rattle.graph_runs.specs.Moments.{one, Moment, HasRun, PhaserRan, TaskRan, made_now, input_at, limits_at, value_at, OnPhaser, TakenOn, OnLine, IsChild, AtMost, HasTaken, HasSamples, HasExchanged}
use Rattle.graph_runs.specs.Openings.{IsOpening, PhaserOpened, TaskOpened, HasOpened}
use Rattle.graph_runs.proofs.OnLines.{on_phaser}
use Rattle.graph_runs.proofs.Framed.{ListsRan}

-- ---- the history

none_signalled : (f : ℕ) (h : History) (x : ℕ) → IsOpening f h → phases_signalled h x ≡ 0
none_signalled f [] x o = absurd o
none_signalled f (Made t ∷ before) x o =
    rw o.1 refl
none_signalled f (Registered a b c ∷ before) x o = none_signalled f before x o.1
none_signalled f (RegisteredNow a b ∷ before) x o = absurd o
none_signalled f (Signalled t lists single ∷ before) x o = absurd o
none_signalled f (Waited t n ∷ before) x o = absurd o
none_signalled f (Dropped t ∷ before) x o = none_signalled f before x o.1

none_waited : (f : ℕ) (h : History) (x : ℕ) → IsOpening f h → phases_waited h x ≡ 0
none_waited f [] x o = absurd o
none_waited f (Made t ∷ before) x o =
    rw o.1 refl
none_waited f (Registered a b c ∷ before) x o = none_waited f before x o.1
none_waited f (RegisteredNow a b ∷ before) x o = absurd o
none_waited f (Signalled t lists single ∷ before) x o = absurd o
none_waited f (Waited t n ∷ before) x o = absurd o
none_waited f (Dropped t ∷ before) x o = none_waited f before x o.1

none_sent : (f : ℕ) (h : History) (x : ℕ) → IsOpening f h → sent_by h x ≡ []
none_sent f [] x o = absurd o
none_sent f (Made t ∷ before) x o =
    rw o.1 refl
none_sent f (Registered a b c ∷ before) x o = none_sent f before x o.1
none_sent f (RegisteredNow a b ∷ before) x o = absurd o
none_sent f (Signalled t lists single ∷ before) x o = absurd o
none_sent f (Waited t n ∷ before) x o = absurd o
none_sent f (Dropped t ∷ before) x o = none_sent f before x o.1

none_received : (value : List ℤ → Outcome) (f : ℕ) (h : History) (x : ℕ) → IsOpening f h
    → received_by value h x ≡ []
none_received value f [] x o = absurd o
none_received value f (Made t ∷ before) x o =
    rw o.1 refl
none_received value f (Registered a b c ∷ before) x o = none_received value f before x o.1
none_received value f (RegisteredNow a b ∷ before) x o = absurd o
none_received value f (Signalled t lists single ∷ before) x o = absurd o
none_received value f (Waited t n ∷ before) x o = absurd o
none_received value f (Dropped t ∷ before) x o = none_received value f before x o.1

all_named : (single : Option Single) (f : ℕ) (h : History) → IsOpening f h → NamesAll single h
all_named single f [] o = absurd o
all_named single f (Made t ∷ before) o =
    rw o.1 tt
all_named single f (Registered a b c ∷ before) o = all_named single f before o.1
all_named single f (RegisteredNow a b ∷ before) o = absurd o
all_named single f (Signalled t lists named ∷ before) o = absurd o
all_named single f (Waited t n ∷ before) o = absurd o
all_named single f (Dropped t ∷ before) o = all_named single f before o.1

-- nobody left but the founder
pub none_dropped : (f : ℕ) (h : History) (x : ℕ) → IsOpening f h → x ≢ f → has_dropped h x ≡ false
none_dropped f [] x o apart = absurd o
none_dropped f (Made t ∷ before) x o apart =
    rw o.1 refl
none_dropped f (Registered a b c ∷ before) x o apart = none_dropped f before x o.1 apart
none_dropped f (RegisteredNow a b ∷ before) x o apart = absurd o
none_dropped f (Signalled t lists single ∷ before) x o apart = absurd o
none_dropped f (Waited t n ∷ before) x o apart = absurd o
none_dropped f (Dropped t ∷ before) x o apart =
    let other : eqb t x ≡ false = ne_eqb t x (λ e. apart (sym e ∙ o.0)) in
    ap (λ b. cond b true (has_dropped before x)) other ∙ none_dropped f before x o.1 apart

-- each began at phase 0
zero_starts : (limits : Limits) (f : ℕ) (h : History) (x : ℕ) (e : Entry) → IsLegal limits h
    → IsOpening f h → start_of h x ≡ Some e
    → (e.signal_phase ≡ 0) × (e.wait_phase ≡ 0)
zero_starts limits f [] x e legal o is = absurd o
zero_starts limits f (Made t ∷ before) x e legal o is = by (eqb t x) is
  where
    by : (b : Bool) → cond b (Some founder) None ≡ Some e
        → (e.signal_phase ≡ 0) × (e.wait_phase ≡ 0)
    by true is =
        let same : founder ≡ e = same_Some _ _ is in
        (sym (ap (λ (y : Entry). y.signal_phase) same), sym (ap (λ (y : Entry). y.wait_phase) same))
    by false is = absurd (cc)
zero_starts limits f (Registered a b mode ∷ before) x e legal o is =
    let r : MayRegister before a b mode = registers_from before a b mode legal.1 in
    let c : HasCounted before a r.entry = counted_of limits before a r.entry legal.0 r.is_member in
    let zero_start = zero_starts limits f before a c.start legal.0 o.1 c.start_is in
    let member : member_entry (members_of before) a ≡ r.entry =
    member_entry_is (members_of before) a r.entry r.is_member in
    let s0 : c.start.signal_phase ≡ 0 = zero_start.0 in
    let w0 : c.start.wait_phase ≡ 0 = zero_start.1 in
    let sn : phases_signalled before a ≡ 0 = none_signalled f before a o.1 in
    let wn : phases_waited before a ≡ 0 = none_waited f before a o.1 in
    let sc : c.start.signal_phase + phases_signalled before a ≡ r.entry.signal_phase = c.signals in
    let wc : c.start.wait_phase + phases_waited before a ≡ r.entry.wait_phase = c.waits in
    let s : signal_phase before a ≡ r.entry.signal_phase =
    ap (λ (y : Entry). y.signal_phase) member in
    let w : wait_phase before a ≡ r.entry.wait_phase = ap (λ (y : Entry). y.wait_phase) member in
    let sz : signal_phase before a ≡ 0 = omega arith in
    let wz : wait_phase before a ≡ 0 = omega arith in
    by (eqb b x) is sz wz (λ g. zero_starts limits f before x e legal.0 o.1 g)
  where
    by : (v : Bool)
        → cond v (Some (entry_at mode (signal_phase before a) (wait_phase before a)))
        (start_of before x) ≡ Some e
        → signal_phase before a ≡ 0 → wait_phase before a ≡ 0
        → (start_of before x ≡ Some e → (e.signal_phase ≡ 0) × (e.wait_phase ≡ 0))
        → (e.signal_phase ≡ 0) × (e.wait_phase ≡ 0)
    by true g sz wz rec =
        let same : entry_at mode (signal_phase before a) (wait_phase before a) ≡ e =
        same_Some _ _ g in (
          sym (ap (λ (y : Entry). y.signal_phase) same)
              ∙ sz,
          sym (ap (λ (y : Entry). y.wait_phase) same) ∙ wz,
        )
    by false g sz wz rec = rec g
zero_starts limits f (RegisteredNow a b ∷ before) x e legal o is = absurd o
zero_starts limits f (Signalled t lists single ∷ before) x e legal o is = absurd o
zero_starts limits f (Waited t n ∷ before) x e legal o is = absurd o
zero_starts limits f (Dropped t ∷ before) x e legal o is =
    zero_starts limits f before x e legal.0 o.1 is

-- ---- the moment

opened_silent : (job : Job) (m : Moment) (p x : ℕ) → PhaserOpened job m p → IsSilent (m.history p) x
opened_silent job m p x o = record {
  nothing = none_signalled o.founder (m.history p) x o.opening;
  from_0 = λ start is.
      (zero_starts (limits_at job p) o.founder (m.history p) x start o.legal o.opening is).0;
}

at_least_none : (limit : Option ℕ) → AtMost 0 limit
at_least_none None = tt
at_least_none (Some limit) = omega arith

taken_none : (task : Task) (k : ℕ) → k < length task.inputs → HasTaken task 0 k 0
taken_none task k lt = by task.kind k refl refl
  where
    by : (kind : Kind) (i : ℕ) → task.kind ≡ kind → k ≡ i → HasTaken task 0 k 0
    by Source i e at = rw e tt
    by Fir i e at = rw e refl
    by Split i e at = rw e refl
    by Decimate i e at = rw e refl
    by Sink i e at = rw e refl
    by Join i e at =
        let m = length task.inputs in
        let below : 0 + (m - 1 - k) < m = omega arith in
        let one : m ≡ 1 * m = omega arith in
        let fits : 0 + (m - 1 - k) < 1 * m = omega arith in
        let q : (0 + (m - 1 - k)) / m < 1 = div_below (0 + (m - 1 - k)) m 1 (omega arith) fits in
        let r : 0 ≡ turns_below m k 0 = omega arith in
        rw e r
    by Peer zero e at =
        rw at (rw e refl)
    by Peer (suc i) e at =
        let low : 0 ≤ 0 = omega arith in
        let high : 0 ≤ 0 + 1 = omega arith in
        rw at (rw e (low, high))

samples_none : (kind : Kind) (n : ℕ) → HasSamples kind 0 n
samples_none Source n = omega arith
samples_none Fir n = tt
samples_none Split n = tt
samples_none Decimate n = tt
samples_none Join n = tt
samples_none Peer n = tt
samples_none Sink n = tt

exchanged_none : (kind : Kind) (j n : ℕ) → HasExchanged kind j 0 n
exchanged_none Source j n = tt
exchanged_none Fir j n = tt
exchanged_none Split j n = tt
exchanged_none Decimate j n = tt
exchanged_none Join j n = tt
exchanged_none Sink j n = tt
exchanged_none Peer zero n = tt
exchanged_none Peer (suc j) n = omega arith

-- a task that has done nothing has what a moment says of its lists
pub nothing_ran : (job : Job) (m : Moment) (t : ℕ) → m.begun t ≡ 0 → ((j : ℕ) → m.put t j ≡ [])
    → ((k : ℕ) → m.taken t k ≡ []) → ListsRan job m t
nothing_ran job m t begun put taken = record {
  puts = λ j lt.
      (rw (put j) (made_now job m t j, refl));
  exchanged = λ j.
      (rw (ap length (put j))
      (exchanged_none (task_at job.graph t).kind j (length (m.taken t 1))));
  takes = λ k lt.
      (rw begun
      (rw (ap length (taken k)) (taken_none (task_at job.graph t) k lt)));
  samples =
      (rw begun
      (samples_none (task_at job.graph t).kind (length (samples_at job t))));
  cut = (rw begun (at_least_none (task_at job.graph t).until));
}

-- at the opening a moment has what every moment has
pub opened_ran : (job : Job) (m : Moment) → IsGraph job.graph → HasOpened job m → HasRun job m
opened_ran job m is o = record { phasers = phasers; tasks = tasks }
  where
    phasers : (p : ℕ) → p < length job.graph.phasers → PhaserRan job m p
    phasers p pp =
        let q = o.phasers p pp in
        record {
          legal = q.legal;
          names = all_named (phaser_at job.graph p).single q.founder (m.history p) q.opening;
          distinct = q.distinct;
          used = q.used;
          strangers = λ x none. opened_silent job m p x q;
        }

    tasks : (t : ℕ) → t < length job.graph.tasks → TaskRan job m t
    tasks t there = record {
      puts = lists.puts;
      exchanged = lists.exchanged;
      takes = lists.takes;
      samples = lists.samples;
      cut = lists.cut;
      lines = a.lines;
      outputs =
          λ p pp. outputs p pp (index_in (signalled_by (task_at job.graph t)) p) refl (m.number p t)
          refl;
      inputs = λ k lt. inputs k lt (m.number (input_at (task_at job.graph t) k) t) refl;
      joined = λ p n at.
          (rw (a.rooted p n at) (a.offset (a.rooted p n at)));
      children = λ c p n u there_c e same at none on.
          (let pp : p < length job.graph.phasers = on_phaser job t p is there (a.lines p n at) in
          let b : m.begun u.task ≡ 0 = ap (λ x. m.begun x) same ∙ a.nothing_begun in
          record {
            early = omega arith;
            ended = λ gone. absurd (let f : true ≡ false = sym gone ∙ stays p n pp at in cc);
          });
    }
      where
        a : TaskOpened job m t
        a = o.tasks t there

        lists : ListsRan job m t
        lists = nothing_ran job m t a.nothing_begun a.nothing_put a.nothing_taken

        stays : (p n : ℕ) → p < length job.graph.phasers → m.number p t ≡ Some n
            → has_dropped (m.history p) n ≡ false
        stays p n pp at =
            let q = o.phasers p pp in
            none_dropped q.founder (m.history p) n q.opening (q.apart t n at)

        rooted : (p : ℕ) → OnLine (task_at job.graph t) p → m.number p t ≡ None
            → IsChild (task_at job.graph t).parent
        rooted p on none = by ((task_at job.graph t).parent) refl
          where
            by : (u : Option Parent) → (task_at job.graph t).parent ≡ u
                → IsChild (task_at job.graph t).parent
            by (Some u) e = rw e tt
            by None e =
                absurd (let s : is_some (m.number p t) ≡ true = a.present p e on in
                let f : true ≡ false = sym s ∙ ap is_some none in cc)

        outputs : (p : ℕ) → p < length job.graph.phasers → (place : Option ℕ)
            → index_in (signalled_by (task_at job.graph t)) p ≡ place → (x : Option ℕ)
            → m.number p t ≡ x
            → OnPhaser job m t p (index_in (signalled_by (task_at job.graph t)) p)
        outputs p pp None e None at =
            rw e (rw at tt)
        outputs p pp None e (Some n) at =
            rw e (rw at (opened_silent job m p n (o.phasers p pp)))
        outputs p pp (Some j) e None at =
            rw e (rw at (rooted p (inl (j, e)) at))
        outputs p pp (Some j) e (Some n) at =
            let q = o.phasers p pp in
            let st = start_from (start_of (m.history p) n) (q.used t n at) in
            rw e (rw at (record {
              start = st.0;
              start_is = st.1;
              signals = a.signals p n j st.0 at e st.1;
              at = (zero_starts (limits_at job p) q.founder (m.history p) n st.0 q.legal q.opening
                  st.1).0 ∙ sym (a.offset (a.rooted p n at));
              sent = none_sent q.founder (m.history p) n q.opening
                  ∙ ap (λ l. map one l) (sym (a.nothing_put j));
              left = λ gone. absurd (let f : true ≡ false = sym gone ∙ stays p n pp at in cc);
            }))

        inputs : (k : ℕ) → k < length (task_at job.graph t).inputs → (x : Option ℕ)
            → m.number (input_at (task_at job.graph t) k) t ≡ x
            → TakenOn job m t k (input_at (task_at job.graph t) k)
            (m.number (input_at (task_at job.graph t) k) t)
        inputs k lt None at =
            let p = input_at (task_at job.graph t) k in
            rw at (a.nothing_taken k, rooted p (inr (k, lt, refl)) at)
        inputs k lt (Some n) at =
            let p = input_at (task_at job.graph t) k in
            let pp : p < length job.graph.phasers = (is.tasks t there).inputs k 0 lt in
            let q = o.phasers p pp in
            let st = start_from (start_of (m.history p) n) (q.used t n at) in
            rw at (record {
              start = st.0;
              start_is = st.1;
              waits = a.waits k n st.0 lt at st.1;
              at = (zero_starts (limits_at job p) q.founder (m.history p) n st.0 q.legal q.opening
                  st.1).1 ∙ sym (a.offset (a.rooted p n at));
              taken = a.nothing_taken k
                  ∙ ap (λ l. map number l)
                  (sym (none_received (value_at job p) q.founder (m.history p) n q.opening));
              left = λ gone. absurd (let f : true ≡ false = sym gone ∙ stays p n pp at in cc);
            })
