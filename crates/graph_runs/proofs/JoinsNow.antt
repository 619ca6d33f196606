-- The registration of a sink that joins now keeps what a run has: the sink begins where its
-- phaser's first phase that is not complete is, which is its parent's boundary or later.
use Rattle.std.proofs.Common.{◌≡◌, ◌≢◌, ℕ, ◌+◌, ◌<◌, ◌≤◌, Bool, true, false, cond, eqb, List, [], ◌∷◌, Option, Some, None, length, map, refl, sym, ap, subst, ◌∙◌, arith, ◌⊎◌, inl, inr}
use Rattle.std.specs.Prelude.{is_some}
use Rattle.std.proofs.lemmas.Bool.{ne_eqb, eq-eqb}
use Rattle.std.proofs.lemmas.Option.{same_Some}
use Rattle.phase_base.specs.declared.entry.Entry.{Entry}
use Rattle.phase_base.specs.declared.mode.Mode.TheVariants.{Wait}
use Rattle.phase_base.specs.Lists.{is_in}
use Rattle.phase_history.specs.declared.event.Event.TheVariants.{RegisteredNow}
use Rattle.phase_history.specs.Histories.{History, IsBeginning, entry_at, signal_phase, wait_phase, done_of, has_dropped, greatest_used, start_of, phases_waited}
use Rattle.phase_history.specs.Phases.{received_by}
use Rattle.phase_history.specs.Laws.{HasNoEvents, HasReceivedFrom}
use Rattle.phase_history.specs.Legal.{IsLegal, IsAccepted}
use Rattle.phase_history.specs.Others.{IsUsed}
use Rattle.phase_history.specs.Sent.{NamesAll, IsSilent}
use Rattle.phase_history.proofs.LawProofs.{above_law}
use Rattle.phase_history.proofs.Left.{received_law}
use Rattle.phase_history.proofs.Refused.{registers_from}
use Rattle.phase_history.proofs.Used.{start_used, start_from, start_of-longer}
use Rattle.graph_base.specs.declared.line.Kind.TheVariants.{Sink}
use Rattle.graph_base.specs.declared.line.Parent.{Parent}
use Rattle.graph_base.specs.Graphs.{task_at, phaser_at}
use Rattle.graph_base.specs.TaskLines.{IsGraph, IsParent, has_children}
use Rattle.stream_lists.specs.Jobs.{Job, index_in}
use Rattle.stream_lists.specs.Spans.{signalled_by, takes_from}
use Rattle.stream_lists.specs.Lists.{number}
use Rattle.stream_lists.proofs.Ordered.{parent_waits}
use Rattle.graph_runs.specs.Moments.{Moment, HasRun, PhaserRan, TaskRan, input_at, limits_at, value_at, numbers_on, IsRegistered, OnInput, OnPhaser, TakenOn, SilentOn, OnLine, Joined, AtMost}
use Rattle.graph_runs.proofs.Numbers.{in_numbers, from_numbers}
use Rattle.graph_runs.proofs.OnLines.{on_phaser}
use Rattle.graph_runs.proofs.Whole.{parent_of}
use Rattle.graph_runs.specs.Moves.{HasGrown, OthersMoved, PartStays, RegistersNow}
use Rattle.graph_runs.proofs.Framed.{task_later}
use Rattle.graph_runs.specs.Turned.{with_at, after_register_now, IsNextChildNow}
use Rattle.graph_runs.proofs.OwnEvents.{eq_case, history_where}
use Rattle.graph_runs.proofs.Registering.{parent_entry, read_not_signalled, waits_from, silent_from}
use Rattle.graph_runs.proofs.Turned.{at_same, at_other}

-- ---- who is not the new child

part_stays : (job : Job) (before after : Moment) (t p n c a : ℕ) (u : Parent)
    → RegistersNow job before after t p n c a u → (q b : ℕ)
    → PartStays b (before.history q) (after.history q)
part_stays job before after t p n c a u s q b =
    history_where before after p (RegisteredNow n a) (λ g. PartStays b (before.history q) g) q
    s.here s.elsewhere
    (λ same. record { sent = refl; dropped = refl; signalled = refl; received = λ value. refl })
    (λ apart. record { sent = refl; dropped = refl; signalled = refl; received = λ value. refl })

numbers_stay : (job : Job) (before after : Moment) (t p n c a : ℕ) (u : Parent)
    → RegistersNow job before after t p n c a u → (q x b : ℕ)
    → before.number q x ≡ Some b → after.number q x ≡ Some b
numbers_stay job before after t p n c a u s q x b e = by (eq_case q p) (eq_case x c)
  where
    by : (q ≡ p) ⊎ (q ≢ p) → (x ≡ c) ⊎ (x ≢ c) → after.number q x ≡ Some b
    by (inr apart) d = s.other_numbers q x (inl apart) ∙ e
    by (inl same) (inr apart) = s.other_numbers q x (inr apart) ∙ e
    by (inl same) (inl me) =
        let none : Some b ≡ None =
        sym e ∙ ap (λ y. before.number y x) same ∙ ap (λ y. before.number p y) me
        ∙ s.absent in absurd (cc)

-- nobody is a child of a task that joins now
no_child : (job : Job) (c d : ℕ) (w : Parent) → IsGraph job.graph → d < length job.graph.tasks
    → (task_at job.graph d).parent ≡ Some w → (task_at job.graph c).joins_now ≡ true
    → w.task ≢ c
no_child job c d w is there e now same =
    let par = parent_of job d w is there e in
    let no : true ≡ false =
    sym now ∙ ap (λ x. (task_at job.graph x).joins_now) (sym same) ∙ par.stays in cc

pub others_join : (job : Job) (before after : Moment) (t p n c a : ℕ) (u : Parent)
    → IsGraph job.graph → RegistersNow job before after t p n c a u → (x : ℕ)
    → x < length job.graph.tasks → x ≢ c → OthersMoved job before after x
others_join job before after t p n c a u is s x there other = record {
  same = s.same x other;
  number = λ q. s.other_numbers q x (inr other);
  part = λ q b at. part_stays job before after t p n c a u s q b;
  children = λ d q w there_d e same none. was_none d q (before.number q d) refl none;
  parent = λ w e.
      (let apart : w.task ≢ c = no_child job c x w is there e s.now in
      let begun : after.begun w.task ≡ before.begun w.task = (s.same w.task apart).begun in
      ((s.same w.task apart).offset, omega arith, λ r. (r.0, r.1, stays r.0 w.task r.1 r.2)));
}
  where
    stays : (q x b : ℕ) → before.number q x ≡ Some b → after.number q x ≡ Some b
    stays = numbers_stay job before after t p n c a u s

    was_none : (d q : ℕ) (o : Option ℕ) → before.number q d ≡ o → after.number q d ≡ None
        → before.number q d ≡ None
    was_none d q None e none = e
    was_none d q (Some b) e none = absurd (let g : Some b ≡ None = sym (stays q d b e) ∙ none in cc)

-- the parent's part stays
pub own_join : (job : Job) (before after : Moment) (t p n c a : ℕ) (u : Parent)
    → IsGraph job.graph → t < length job.graph.tasks
    → HasGrown job before after t → RegistersNow job before after t p n c a u
    → TaskRan job before t → TaskRan job after t
own_join job before after t p n c a u is there grown s ran =
    let above : u.task < c = (parent_of job c u is s.child s.parent).above in
    task_later job before after t is there grown
    (others_join job before after t p n c a u is s t there (λ same. omega (arith, s.by))) ran

-- ---- the child

-- the one phaser of a sink's line
pub sink_line : (job : Job) (c p : ℕ) → IsGraph job.graph → c < length job.graph.tasks
    → (task_at job.graph c).kind ≡ Sink
    → (length (task_at job.graph c).inputs ≡ 1)
    × (length (signalled_by (task_at job.graph c)) ≡ 0)
sink_line job c p is there sink =
    let both : (length (task_at job.graph c).inputs ≡ 1)
    × (length (task_at job.graph c).outputs ≡ 0) = rw sink at (is.tasks c there).ends in
    let outs : signalled_by (task_at job.graph c) ≡ (task_at job.graph c).outputs = rw sink refl in
    (both.0, ap length outs ∙ both.1)

pub no_place : (xs : List ℕ) (p j : ℕ) → length xs ≡ 0 → index_in xs p ≡ Some j → ⊥
no_place [] p j none e = cc
no_place (x ∷ xs) p j none e = absurd (omega arith)

pub child_joins : (job : Job) (before after : Moment) (t p n c a : ℕ) (u : Parent)
    → IsGraph job.graph → t < length job.graph.tasks
    → IsLegal (limits_at job p) (before.history p)
    → RegistersNow job before after t p n c a u
    → TaskRan job before t → TaskRan job before c → TaskRan job after c
child_joins job before after t p n c a u is there legal s parent child = record {
  puts = λ j lt. absurd (omega (arith, lt, ends.1));
  exchanged = λ j. rw sink tt;
  takes = λ k lt.
      (let none : takes_from (task_at job.graph c) 0 k ≡ 0 = rw sink refl in
      rw (s.nothing_taken k) (rw s.nothing_begun (rw sink (sym none))));
  samples = rw sink tt;
  cut = (rw s.nothing_begun (none_cut (task_at job.graph c).until));
  lines = λ q b at. lines q b at (eq_case q p);
  outputs = λ q qq.
      outputs q qq (index_in (signalled_by (task_at job.graph c)) q) refl (eq_case q p);
  inputs = λ k lt. inputs k lt;
  joined = λ q b at. joined;
  children = λ d q b w there_d e same at none on.
      absurd (no_child job c d w is there_d e s.now same);
}
  where
    sink : (task_at job.graph c).kind ≡ Sink
    sink = ((is.tasks c s.child).now s.now).0

    ends : (length (task_at job.graph c).inputs ≡ 1)
        × (length (signalled_by (task_at job.graph c)) ≡ 0)
    ends = sink_line job c p is s.child sink

    pp : p < length job.graph.phasers
    pp = on_phaser job c p is s.child s.on_line

    par : IsParent job.graph c (task_at job.graph c) u
    par = parent_of job c u is s.child s.parent

    none_cut : (until : Option ℕ) → AtMost 0 until
    none_cut None = tt
    none_cut (Some until) = omega arith

    unused : HasNoEvents (value_at job p) (before.history p) a
    unused = above_law (value_at job p) (limits_at job p) (before.history p) a legal
        (registers_from (before.history p) n a Wait s.accepted).new_number

    start : Entry
    start = entry_at Wait (signal_phase (before.history p) n) (done_of (before.history p))

    start_here : start_of (RegisteredNow n a ∷ before.history p) a
        ≡ Some (entry_at Wait (signal_phase (before.history p) n) (done_of (before.history p)))
    start_here = (let e : eqb a a ≡ true = eq-eqb a a refl in rw e refl)

    -- its one input is on p
    at_p : input_at (task_at job.graph c) 0 ≡ p
    at_p = by s.on_line
      where
        by : OnLine (task_at job.graph c) p → input_at (task_at job.graph c) 0 ≡ p
        by (inl out) =
            absurd (no_place (signalled_by (task_at job.graph c)) p out.0 ends.1 out.1)
        by (inr into) =
            let lt : into.0 < length (task_at job.graph c).inputs = into.1 in
            let one : length (task_at job.graph c).inputs ≡ 1 = ends.0 in
            let first : 0 ≡ into.0 = omega arith in
            ap (λ k. input_at (task_at job.graph c) k) first ∙ into.2

    -- where the parent stands: at its boundary, which is complete, and at signal phase 0
    parent_in : (before.offset t + u.at ≤ done_of (before.history p))
        × (signal_phase (before.history p) n ≡ 0)
    parent_in =
        let lt : 0 < length (task_at job.graph c).inputs =
        (let one : length (task_at job.graph c).inputs ≡ 1 = ends.0 in omega arith) in
        let i = parent_waits job.graph c (task_at job.graph c) u 0 par lt in
        let I : ℕ → Type 0 = λ x. i.0 < length (task_at job.graph x).inputs in
        let J : ℕ → Type 0 = λ x. input_at (task_at job.graph x) i.0 ≡ p in
        let K : ℕ → Type 0 = λ x. has_children (task_at job.graph x).kind ≡ true in
        let lti : i.0 < length (task_at job.graph t).inputs = subst I s.by i.1 in
        let is_p : input_at (task_at job.graph t) i.0 ≡ p = subst J s.by (i.2 ∙ at_p) in
        let plain : has_children (task_at job.graph t).kind ≡ true = subst K s.by par.kind in
        let T : ℕ → Type 0 = λ q. TakenOn job before t i.0 q (before.number q t) in
        let N : Option ℕ → Type 0 = λ o. TakenOn job before t i.0 p o in
        let on : OnInput job before t i.0 p n =
        subst N s.numbered (subst T is_p (parent.inputs i.0 lti)) in
        let stands : wait_phase (before.history p) n
        ≡ before.offset t + length (before.taken t i.0) =
        waits_from job before t i.0 p n a Wait legal on s.accepted in
        let taken : length (before.taken t i.0) ≡ before.begun t = s.all_taken i.0 lti is_p in
        let b : before.begun t ≡ u.at = s.boundary in
        let got : HasReceivedFrom (value_at job p) (before.history p) n on.start =
        received_law (value_at job p) (limits_at job p) (before.history p) n on.start legal
        on.start_is on.waits in
        let complete : on.start.wait_phase + phases_waited (before.history p) n
        ≤ done_of (before.history p) = got.complete in
        let r = parent_entry job before p n a Wait legal s.accepted in
        let counts : r.1.start.wait_phase + phases_waited (before.history p) n ≡ r.0.wait_phase =
        r.1.waits in
        let same : r.1.start.wait_phase ≡ on.start.wait_phase =
        ap (λ (x : Entry). x.wait_phase) (same_Some _ _ (sym r.1.start_is ∙ on.start_is)) in
        let now : wait_phase (before.history p) n ≡ r.0.wait_phase = r.3 in
        let P : ℕ → Type 0 =
        λ q. OnPhaser job before t q (index_in (signalled_by (task_at job.graph t)) q) in
        let silent : IsSilent (before.history p) n =
        quiet (index_in (signalled_by (task_at job.graph t)) p) refl (parent.outputs p pp) i.0
        lti is_p plain in
        (omega arith, silent_from job before p n a Wait legal silent s.accepted)
      where
        quiet : (place : Option ℕ) → index_in (signalled_by (task_at job.graph t)) p ≡ place
            → OnPhaser job before t p (index_in (signalled_by (task_at job.graph t)) p)
            → (i : ℕ) → i < length (task_at job.graph t).inputs
            → input_at (task_at job.graph t) i ≡ p → has_children (task_at job.graph t).kind ≡ true
            → IsSilent (before.history p) n
        quiet None e on i lti is_p plain =
            let N : Option ℕ → Type 0 = λ o. SilentOn before p o in
            subst N s.numbered (subst (λ (o : Option ℕ). OnPhaser job before t p o) e on)
        quiet (Some j) e on i lti is_p plain =
            absurd (read_not_signalled job t i j (is.tasks t there) plain lti
            (ap (λ q. index_in (signalled_by (task_at job.graph t)) q) is_p ∙ e))

    in_here : (k : ℕ) → OnInput job after c k p a
    in_here k =
        record {
          start = start;
          start_is = subst (λ (g : History). start_of g a ≡ Some start) (sym s.here) start_here;
          waits = refl;
          at = sym s.offset;
          taken = s.nothing_taken k
              ∙ ap (λ l. map number l)
              (sym (ap (λ g. received_by (value_at job p) g a) s.here ∙ unused.received));
          left = λ gone.
              absurd (let f : true ≡ false =
              sym gone ∙ ap (λ g. has_dropped g a) s.here ∙ unused.stays in cc);
        }

    inputs : (k : ℕ) → k < length (task_at job.graph c).inputs
        → TakenOn job after c k (input_at (task_at job.graph c) k)
        (after.number (input_at (task_at job.graph c) k) c)
    inputs k lt =
        let one : length (task_at job.graph c).inputs ≡ 1 = ends.0 in
        let first : k ≡ 0 = omega arith in
        let here : input_at (task_at job.graph c) k ≡ p =
        ap (λ i. input_at (task_at job.graph c) i) first ∙ at_p in
        let Q : ℕ → Type 0 = λ x. TakenOn job after c k x (after.number x c) in
        let N : Option ℕ → Type 0 = λ o. TakenOn job after c k p o in
        subst Q (sym here) (subst N (sym s.number) (in_here k))

    outputs : (q : ℕ) → q < length job.graph.phasers → (place : Option ℕ)
        → index_in (signalled_by (task_at job.graph c)) q ≡ place → (q ≡ p) ⊎ (q ≢ p)
        → OnPhaser job after c q (index_in (signalled_by (task_at job.graph c)) q)
    outputs q qq (Some j) e d =
        absurd (no_place (signalled_by (task_at job.graph c)) q j ends.1 e)
    outputs q qq None e (inl same) =
        let O : Option ℕ → Type 0 = λ o. OnPhaser job after c q o in
        let Q : ℕ → Type 0 = λ x. SilentOn after x (after.number x c) in
        let N : Option ℕ → Type 0 = λ o. SilentOn after p o in
        let S : History → Type 0 = λ g. IsSilent g a in
        subst O (sym e) (subst Q (sym same) (subst N (sym s.number) (subst S (sym s.here) (record {
          nothing = unused.signals;
          from_0 = λ other found.
              (let here : start ≡ other = same_Some _ _ (sym start_here ∙ found) in
              sym (ap (λ (x : Entry). x.signal_phase) here) ∙ parent_in.1);
        }))))
    outputs q qq None e (inr apart) =
        let O : Option ℕ → Type 0 = λ o. OnPhaser job after c q o in
        let B : Option ℕ → Type 0 = λ o. OnPhaser job before c q o in
        let N : Option ℕ → Type 0 = λ o. SilentOn after q o in
        let was : SilentOn before q (before.number q c) = subst B e (child.outputs q qq) in
        subst O (sym e) (subst N (sym (s.other_numbers q c (inl apart)))
        (silent q (before.number q c) was (s.elsewhere q apart)))
      where
        silent : (q : ℕ) (o : Option ℕ) → SilentOn before q o
            → after.history q ≡ before.history q → SilentOn after q o
        silent q None on still = tt
        silent q (Some b) on still = subst (λ g. IsSilent g b) (sym still) on

    lines : (q b : ℕ) → after.number q c ≡ Some b → (q ≡ p) ⊎ (q ≢ p)
        → OnLine (task_at job.graph c) q
    lines q b at (inl here) =
        let P : ℕ → Type 0 = λ x. OnLine (task_at job.graph c) x in subst P (sym here) s.on_line
    lines q b at (inr apart) = child.lines q b (sym (s.other_numbers q c (inl apart)) ∙ at)

    still_there : after.number p t ≡ Some n
    still_there =
        s.other_numbers p t
        (inr (λ same.
        (let above : u.task < c = par.above in let by : u.task ≡ t = s.by in omega arith)))
        ∙ s.numbered

    apart_t : t ≢ c
    apart_t = λ same.
        (let above : u.task < c = par.above in let by : u.task ≡ t = s.by in omega arith)

    joined : Joined after c (task_at job.graph c).joins_now (task_at job.graph c).parent
    joined =
        let was : after.offset t ≡ before.offset t = (s.same t apart_t).offset in
        let begun : after.begun t ≡ before.begun t = (s.same t apart_t).begun in
        let b : before.begun t ≡ u.at = s.boundary in
        let low : before.offset t + u.at ≤ done_of (before.history p) = parent_in.0 in
        let off : after.offset c ≡ done_of (before.history p) = s.offset in
        subst (λ (o : Option Parent). Joined after c (task_at job.graph c).joins_now o) (sym
        s.parent) (subst (λ (b : Bool). Joined after c b (Some u)) (sym s.now)
        (subst (λ (x : ℕ). (after.offset x + u.at ≤ after.offset c) × (u.at ≤ after.begun x) ×
        IsRegistered after x) (sym s.by) (omega arith, omega arith, (p, n, still_there))))

-- ---- the whole

pub join_keeps : (job : Job) (before after : Moment) (t p n c a : ℕ) (u : Parent)
    → IsGraph job.graph → t < length job.graph.tasks
    → RegistersNow job before after t p n c a u → HasRun job before → HasRun job after
join_keeps job before after t p n c a u is there s ran = record {
  phasers = phasers;
  tasks = λ x there_x. tasks x there_x (eq_case x c);
}
  where
    pp : p < length job.graph.phasers
    pp = on_phaser job c p is s.child s.on_line

    legal_now : IsLegal (limits_at job p) (RegisteredNow n a ∷ before.history p)
    legal_now = ((ran.phasers p pp).legal, s.accepted)

    new_number : (b : ℕ) → IsUsed (before.history p) b → b ≢ a
    new_number b used same =
        let st = start_from (start_of (before.history p) b) used in
        let high : greatest_used (before.history p) < a =
        (registers_from (before.history p) n a Wait s.accepted).new_number in
        omega (arith, start_used (before.history p) b st.0 st.1)

    by_phaser : (P : History → Type 0) (q : ℕ)
        → (q ≡ p → P (RegisteredNow n a ∷ before.history q)) → (q ≢ p → P (before.history q))
        → P (after.history q)
    by_phaser P q = history_where before after p (RegisteredNow n a) P q s.here s.elsewhere

    number_case : (q x : ℕ) → ((q ≡ p) × (x ≡ c)) ⊎ (after.number q x ≡ before.number q x)
    number_case q x = by (eq_case q p) (eq_case x c)
      where
        by : (q ≡ p) ⊎ (q ≢ p) → (x ≡ c) ⊎ (x ≢ c)
            → ((q ≡ p) × (x ≡ c)) ⊎ (after.number q x ≡ before.number q x)
        by (inl e) (inl f) = inl (e, f)
        by (inr e) f = inr (s.other_numbers q x (inl e))
        by (inl e) (inr f) = inr (s.other_numbers q x (inr f))

    stays : (q x b : ℕ) → before.number q x ≡ Some b → after.number q x ≡ Some b
    stays = numbers_stay job before after t p n c a u s

    start_now : (q b : ℕ) (start : Entry) → q < length job.graph.phasers
        → start_of (before.history q) b ≡ Some start → start_of (after.history q) b ≡ Some start
    start_now q b start qq e =
        by_phaser (λ g. start_of g b ≡ Some start) q
        (λ same. (start_of-longer (limits_at job q) (before.history q)
        (RegisteredNow n a ∷ before.history q) b start (subst (λ (x : ℕ). IsLegal (limits_at job x)
        (RegisteredNow n a ∷ before.history x)) (sym same) legal_now)
        (record { later = RegisteredNow n a ∷ []; is = refl }) e))
        (λ apart. e)

    phasers : (q : ℕ) → q < length job.graph.phasers → PhaserRan job after q
    phasers q qq = record {
      legal = by_phaser (λ g. IsLegal (limits_at job q) g) q
          (λ same. (subst (λ (x : ℕ). IsLegal (limits_at job x) (RegisteredNow n a ∷ before.history
          x)) (sym same) legal_now)) (λ apart. (ran.phasers q qq).legal);
      names = by_phaser (λ g. NamesAll (phaser_at job.graph q).single g) q
          (λ same. (ran.phasers q qq).names) (λ apart. (ran.phasers q qq).names);
      distinct =
          λ x y b lx ly ex ey. distinct x y b lx ly ex ey (number_case q x) (number_case q y);
      used = λ x b e. used x b e (number_case q x);
      strangers = λ b none. strangers b none;
    }
      where
        old_used : (x b : ℕ) → after.number q x ≡ Some b → after.number q x ≡ before.number q x
            → q ≡ p → IsUsed (before.history p) b
        old_used x b e same at =
            let P : ℕ → Type 0 = λ y. IsUsed (before.history y) b in
            subst P at ((ran.phasers q qq).used x b (sym same ∙ e))

        new_is : (x b : ℕ) → after.number q x ≡ Some b → q ≡ p → x ≡ c → b ≡ a
        new_is x b e at me =
            same_Some b a
            (sym e ∙ ap (λ y. after.number y x) at ∙ ap (λ y. after.number p y) me ∙ s.number)

        distinct : (x y b : ℕ) → x < length job.graph.tasks → y < length job.graph.tasks
            → after.number q x ≡ Some b → after.number q y ≡ Some b
            → ((q ≡ p) × (x ≡ c)) ⊎ (after.number q x ≡ before.number q x)
            → ((q ≡ p) × (y ≡ c)) ⊎ (after.number q y ≡ before.number q y) → x ≡ y
        distinct x y b lx ly ex ey (inl i) (inl j) = i.1 ∙ sym j.1
        distinct x y b lx ly ex ey (inr i) (inr j) =
            (ran.phasers q qq).distinct x y b lx ly (sym i ∙ ex) (sym j ∙ ey)
        distinct x y b lx ly ex ey (inl i) (inr j) =
            absurd (new_number b (old_used y b ey j i.0) (new_is x b ex i.0 i.1))
        distinct x y b lx ly ex ey (inr i) (inl j) =
            absurd (new_number b (old_used x b ex i j.0) (new_is y b ey j.0 j.1))

        used : (x b : ℕ) → after.number q x ≡ Some b
            → ((q ≡ p) × (x ≡ c)) ⊎ (after.number q x ≡ before.number q x)
            → IsUsed (after.history q) b
        used x b e (inr same) =
            let st = start_from (start_of (before.history q) b)
            ((ran.phasers q qq).used x b (sym same ∙ e)) in
            ap is_some (start_now q b st.0 qq st.1)
        used x b e (inl at) =
            let new : b ≡ a = new_is x b e at.0 at.1 in
            let here : eqb a b ≡ true = eq-eqb a b (sym new) in
            by_phaser (λ g. IsUsed g b) q (λ same. rw here refl) (λ apart. absurd (apart at.0))

        strangers : (b : ℕ) → is_in b (numbers_on job after q) ≡ false
            → IsSilent (after.history q) b
        strangers b none =
            let old : is_in b (numbers_on job before q) ≡ false =
            outside b none (is_in b (numbers_on job before q)) refl in
            let silent : IsSilent (before.history q) b = (ran.phasers q qq).strangers b old in
            by_phaser (λ g. IsSilent g b) q
            (λ same. (let other : eqb a b ≡ false = ne_eqb a b (λ e. not_new b none same (sym e)) in
            record {
              nothing = silent.nothing;
              from_0 = λ start found.
                  silent.from_0 start
                  (sym (ap (λ (t : Bool).
                  cond t (Some
                  (entry_at Wait (signal_phase (before.history q) n)
                  (done_of (before.history q))))
                  (start_of (before.history q) b)) other) ∙ found);
            }))
            (λ apart. silent)
          where
            outside : (b : ℕ) → is_in b (numbers_on job after q) ≡ false → (v : Bool)
                → is_in b (numbers_on job before q) ≡ v → is_in b (numbers_on job before q) ≡ false
            outside b none false e = e
            outside b none true e =
                let r = from_numbers (before.number q) 0 (length job.graph.tasks) b e in
                let high : r.0 < 0 + length job.graph.tasks = r.2 in
                let inside : is_in b (numbers_on job after q) ≡ true =
                in_numbers (after.number q) 0 (length job.graph.tasks) r.0 b (omega arith)
                (omega arith) (stays q r.0 b r.3) in
                absurd (let f : true ≡ false = sym inside ∙ none in cc)

            not_new : (b : ℕ) → is_in b (numbers_on job after q) ≡ false → q ≡ p → b ≢ a
            not_new b none at new =
                let inside : is_in b (numbers_on job after q) ≡ true =
                in_numbers (after.number q) 0 (length job.graph.tasks) c b (omega arith)
                (let l : c < length job.graph.tasks = s.child in omega arith)
                (ap (λ y. after.number y c) at ∙ s.number ∙ ap (λ y. Some y) (sym new)) in
                let f : true ≡ false = sym inside ∙ none in cc

    grown : (x : ℕ) → x < length job.graph.tasks → HasGrown job before after x
    grown x there_x = record {
      was = λ q on. (ran.phasers q (on_phaser job x q is there_x on)).legal;
      legal = λ q on. (phasers q (on_phaser job x q is there_x on)).legal;
      beginning =
          λ q on. by_phaser (λ g. IsBeginning (before.history q) g) q
          (λ same. record { later = RegisteredNow n a ∷ []; is = refl })
          (λ apart. record { later = []; is = refl });
    }

    tasks : (x : ℕ) → x < length job.graph.tasks → (x ≡ c) ⊎ (x ≢ c) → TaskRan job after x
    tasks x there_x (inl same) =
        subst (λ (y : ℕ). TaskRan job after y) (sym same)
        (child_joins job before after t p n c a u is there (ran.phasers p pp).legal s
        (ran.tasks t there) (ran.tasks c s.child))
    tasks x there_x (inr other) =
        task_later job before after x is there_x (grown x there_x)
        (others_join job before after t p n c a u is s x there_x other) (ran.tasks x there_x)

-- ---- the next event

-- a child that joins now may come: it has done nothing, and its parent is at the boundary. Where it
-- began before is free
pub record MayJoinNow (job : Job) (m : Moment) (t p n c a : ℕ) (u : Parent) : Type 0 where
  pub child : c < length job.graph.tasks
  pub now : (task_at job.graph c).joins_now ≡ true
  pub parent : (task_at job.graph c).parent ≡ Some u
  pub by : u.task ≡ t
  pub on_line : OnLine (task_at job.graph c) p
  pub numbered : m.number p t ≡ Some n
  pub absent : m.number p c ≡ None
  pub accepted : IsAccepted (limits_at job p) (m.history p) (RegisteredNow n a)
  pub boundary : m.begun t ≡ u.at
  pub nothing_begun : m.begun c ≡ 0
  pub nothing_taken : (k : ℕ) → m.taken c k ≡ []
  pub all_taken : (k : ℕ) → k < length (task_at job.graph t).inputs
      → input_at (task_at job.graph t) k ≡ p → length (m.taken t k) ≡ m.begun t

-- its registration is an event of the run
pub join_now_is : (job : Job) (m : Moment) (t p n c a : ℕ) (u : Parent)
    → MayJoinNow job m t p n c a u
    → RegistersNow job m (after_register_now p n c a m) t p n c a u
join_now_is job m t p n c a u next = record {
  child = next.child;
  now = next.now;
  parent = next.parent;
  by = next.by;
  on_line = next.on_line;
  numbered = next.numbered;
  absent = next.absent;
  accepted = next.accepted;
  here = at_same p (RegisteredNow n a ∷ m.history p) m.history;
  elsewhere = λ q apart. at_other p (RegisteredNow n a ∷ m.history p) m.history q apart;
  same = λ x apart. record {
    offset = at_other c (done_of (m.history p)) m.offset x apart;
    begun = refl;
    taken = λ k. refl;
    put = λ j. refl;
  };
  number = ap (λ f. f c) (at_same p (with_at c (Some a) (m.number p)) m.number)
      ∙ at_same c (Some a) (m.number p);
  other_numbers = λ q x which. other q x which (eq_case q p);
  boundary = next.boundary;
  offset = at_same c (done_of (m.history p)) m.offset;
  nothing_begun = next.nothing_begun;
  nothing_taken = next.nothing_taken;
  all_taken = next.all_taken;
}
  where
    other : (q x : ℕ) → (q ≢ p) ⊎ (x ≢ c) → (q ≡ p) ⊎ (q ≢ p)
        → with_at p (with_at c (Some a) (m.number p)) m.number q x ≡ m.number q x
    other q x which (inr apart) =
        ap (λ f. f x) (at_other p (with_at c (Some a) (m.number p)) m.number q apart)
    other q x (inl apart) (inl same) = absurd (apart same)
    other q x (inr apart) (inl same) =
        subst (λ (y : ℕ). with_at p (with_at c (Some a) (m.number p)) m.number y x ≡ m.number y x)
        (sym same)
        (ap (λ f. f x) (at_same p (with_at c (Some a) (m.number p)) m.number)
        ∙ at_other c (Some a) (m.number p) x apart)

-- the registration that comes next is an event of the run
pub next_child_now_is : (job : Job) (m : Moment) (t p n c a : ℕ) (u : Parent)
    → IsNextChildNow job m t p n c a u
    → RegistersNow job m (after_register_now p n c a m) t p n c a u
next_child_now_is job m t p n c a u next =
    join_now_is job m t p n c a u (record {
      child = next.child.child;
      now = next.now;
      parent = next.child.parent;
      by = next.child.by;
      on_line = next.child.on_line;
      numbered = next.child.numbered;
      absent = next.child.absent;
      accepted = next.child.accepted;
      boundary = next.child.boundary;
      nothing_begun = next.child.nothing_begun;
      nothing_taken = next.nothing_taken;
      all_taken = next.child.all_taken;
    })

pub next_child_now_keeps : (job : Job) (m : Moment) (t p n c a : ℕ) (u : Parent)
    → IsGraph job.graph → t < length job.graph.tasks → IsNextChildNow job m t p n c a u
    → HasRun job m → HasRun job (after_register_now p n c a m)
next_child_now_keeps job m t p n c a u is there next ran =
    join_keeps job m (after_register_now p n c a m) t p n c a u is there
    (next_child_now_is job m t p n c a u next) ran
