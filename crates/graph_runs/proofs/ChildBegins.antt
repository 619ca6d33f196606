-- What a moment has of a child on the phaser where its parent has just registered it, by what it
-- has of the parent.
use Rattle.std.proofs.Common.{◌≡◌, ◌≢◌, ℕ, ◌+◌, ◌<◌, ◌≤◌, true, false, not, eqb, List, [], ◌∷◌, Option, Some, None, ℤ, length, map, refl, sym, ap, subst, ◌∙◌, arith, ◌⊎◌, inl, inr}
use Rattle.std.proofs.lemmas.Bool.{eq-eqb}
use Rattle.std.proofs.lemmas.Option.{same_Some}
use Rattle.phase_base.specs.declared.entry.Entry.{Entry}
use Rattle.phase_base.specs.declared.mode.Mode.{Mode}
use Rattle.phase_history.specs.declared.event.Event.TheVariants.{Registered}
use Rattle.phase_history.specs.Histories.{History, entry_at, signal_phase, wait_phase, has_dropped, start_of}
use Rattle.phase_history.specs.Phases.{received_by}
use Rattle.phase_history.specs.Laws.{HasNoEvents}
use Rattle.phase_history.specs.Legal.{IsLegal}
use Rattle.phase_history.specs.Sent.{sent_by, IsSilent}
use Rattle.phase_history.proofs.LawProofs.{above_law}
use Rattle.phase_history.proofs.Refused.{registers_from}
use Rattle.phase_history.proofs.Sendings.{length-sent_by}
use Rattle.graph_base.specs.declared.line.Parent.{Parent}
use Rattle.graph_base.specs.Graphs.{task_at}
use Rattle.graph_base.specs.TaskLines.{IsGraph, IsParent, has_children}
use Rattle.stream_lists.specs.Jobs.{Job, samples_at, index_in}
use Rattle.stream_lists.specs.Spans.{signalled_by}
use Rattle.stream_lists.specs.Lists.{number}
use Rattle.stream_lists.proofs.Ordered.{parent_signals, parent_waits}
use Rattle.graph_runs.specs.Moments.{one, Moment, TaskRan, input_at, limits_at, value_at, IsRegistered, OnOutput, OnInput, OnPhaser, PutOn, TakenOn, SilentOn, OnLine, HasNotPassed, Joined, BeginsBy, MayStop, at_until, no_sample, no_input, HasEnded}
use Rattle.graph_runs.specs.Moves.{HasGrown, Registers}
use Rattle.graph_runs.proofs.Framed.{task_later}
use Rattle.graph_runs.proofs.OwnEvents.{eq_case, begins_there}
use Rattle.graph_runs.proofs.OnLines.{on_phaser}
use Rattle.graph_runs.proofs.Whole.{parent_of}
use Rattle.graph_runs.proofs.Registering.{part_stays, read_not_signalled, signals_from, waits_from, silent_from}

-- the child's part, by its parent's
pub child_begins : (job : Job) (before after : Moment) (t p n c a : ℕ) (mode : Mode) (u : Parent)
    → IsGraph job.graph → t < length job.graph.tasks
    → IsLegal (limits_at job p) (before.history p) → HasGrown job before after c
    → Registers job before after t p n c a mode u
    → TaskRan job before t → TaskRan job before c → TaskRan job after c
child_begins job before after t p n c a mode u is there legal grown s parent child = record {
  puts = mid_ran.puts;
  exchanged = mid_ran.exchanged;
  takes = mid_ran.takes;
  samples = mid_ran.samples;
  cut = mid_ran.cut;
  lines = λ q b at. lines q b at (eq_case q p);
  outputs =
      λ q qq. child_outputs q qq (index_in (signalled_by (task_at job.graph c)) q) refl
      (eq_case q p);
  inputs = λ k lt. child_inputs k lt (eq_case (input_at (task_at job.graph c) k) p);
  joined = λ q b at. child_joined;
  children =
      λ d q b w there_d e same at none on.
      child_children d q b w there_d e same at none on (eq_case q p);
}
  where
    pp : p < length job.graph.phasers
    pp = on_phaser job c p is s.child s.on_line

    par : IsParent job.graph c (task_at job.graph c) u
    par = parent_of job c u is s.child s.parent

    unused : HasNoEvents (value_at job p) (before.history p) a
    unused = above_law (value_at job p) (limits_at job p) (before.history p) a legal
        (registers_from (before.history p) n a mode s.accepted).new_number

    -- all but the new number
    mid_ran : TaskRan job (record after { number = before.number }) c
    mid_ran =
        task_later job before (record after { number = before.number }) c is s.child
        (record { was = grown.was; legal = grown.legal; beginning = grown.beginning }) (record {
          same = record {
            offset =
                (s.same c).offset;
            begun =
                (s.same c).begun;
            taken = (s.same c).taken;
            put = (s.same c).put;
          };
          number = λ q. refl;
          part = λ q b at. part_stays job before after t p n c a mode u s q b;
          children = λ d q w there_d e same none. none;
          parent = λ w e.
              (((s.same w.task).offset, omega (arith, (s.same w.task).begun), λ r. r));
        }) child

    start_here : start_of (Registered n a mode ∷ before.history p) a
        ≡ Some (entry_at mode (signal_phase (before.history p) n) (wait_phase (before.history p) n))
    start_here = (let e : eqb a a ≡ true = eq-eqb a a refl in rw e refl)

    none_sent : sent_by (before.history p) a ≡ []
    none_sent =
        empty (sent_by (before.history p) a) (length-sent_by (before.history p) a ∙ unused.signals)
      where
        empty : (l : List (List ℤ)) → length l ≡ 0 → l ≡ []
        empty [] e = refl
        empty (x ∷ l) e = absurd (omega arith)

    begins : before.begun t ≡ u.at
    begins = s.boundary

    parent_out : (j : ℕ) → index_in (signalled_by (task_at job.graph c)) p ≡ Some j
        → signal_phase (before.history p) n ≡ before.offset c
    parent_out j place =
        let i = parent_signals job.graph c (task_at job.graph c) u p j par place in
        let P : ℕ → Type 0 = λ x. index_in (signalled_by (task_at job.graph x)) p ≡ Some i.0 in
        let at : index_in (signalled_by (task_at job.graph t)) p ≡ Some i.0 = subst P s.by i.1 in
        let O : Option ℕ → Type 0 = λ o. OnPhaser job before t p o in
        let N : Option ℕ → Type 0 = λ o. PutOn job before t i.0 p o in
        let on : OnOutput job before t i.0 p n =
        subst N s.numbered (subst O at (parent.outputs p pp)) in
        let stands : signal_phase (before.history p) n
        ≡ before.offset t + length (before.put t i.0) =
        signals_from job before t i.0 p n a mode legal on s.accepted in
        omega (arith, s.all_put i.0 at, s.offset, s.boundary)

    out_here : (j : ℕ) → index_in (signalled_by (task_at job.graph c)) p ≡ Some j
        → OnOutput job after c j p a
    out_here j place =
        record {
          start = entry_at mode (signal_phase (before.history p) n)
              (wait_phase (before.history p) n);
          start_is = subst (λ (g : History). start_of g a ≡ Some (entry_at mode (signal_phase
              (before.history p) n) (wait_phase (before.history p) n))) (sym s.here) start_here;
          signals = s.signals j place;
          at = parent_out j place ∙ sym (s.same c).offset;
          sent = ap (λ g. sent_by g a) s.here ∙ none_sent
              ∙ ap (λ l. map one l) (sym ((s.same c).put j ∙ s.nothing_put j place));
          left = λ gone.
              absurd (let f : true ≡ false =
              sym gone ∙ ap (λ g. has_dropped g a) s.here ∙ unused.stays in cc);
        }

    parent_in : (k : ℕ) → k < length (task_at job.graph c).inputs
        → input_at (task_at job.graph c) k ≡ p
        → (wait_phase (before.history p) n ≡ before.offset c)
        × (signal_phase (before.history p) n ≡ 0)
    parent_in k lt at =
        let i = parent_waits job.graph c (task_at job.graph c) u k par lt in
        let I : ℕ → Type 0 = λ x. i.0 < length (task_at job.graph x).inputs in
        let J : ℕ → Type 0 = λ x. input_at (task_at job.graph x) i.0 ≡ p in
        let K : ℕ → Type 0 = λ x. has_children (task_at job.graph x).kind ≡ true in
        let lti : i.0 < length (task_at job.graph t).inputs = subst I s.by i.1 in
        let is_p : input_at (task_at job.graph t) i.0 ≡ p = subst J s.by (i.2 ∙ at) in
        let plain : has_children (task_at job.graph t).kind ≡ true = subst K s.by par.kind in
        let T : ℕ → Type 0 = λ q. TakenOn job before t i.0 q (before.number q t) in
        let N : Option ℕ → Type 0 = λ o. TakenOn job before t i.0 p o in
        let on : OnInput job before t i.0 p n =
        subst N s.numbered (subst T is_p (parent.inputs i.0 lti)) in
        let stands : wait_phase (before.history p) n
        ≡ before.offset t + length (before.taken t i.0) =
        waits_from job before t i.0 p n a mode legal on s.accepted in
        let taken : length (before.taken t i.0) ≡ before.begun t = s.all_taken i.0 lti is_p in
        let off : before.offset c ≡ before.offset t + u.at = s.offset in
        let b : before.begun t ≡ u.at = s.boundary in
        let P : ℕ → Type 0 =
        λ q. OnPhaser job before t q (index_in (signalled_by (task_at job.graph t)) q) in
        let silent : IsSilent (before.history p) n =
        quiet (index_in (signalled_by (task_at job.graph t)) p) refl (parent.outputs p pp) i.0
        lti is_p plain in
        (omega arith, silent_from job before p n a mode legal silent s.accepted)
      where
        quiet : (place : Option ℕ) → index_in (signalled_by (task_at job.graph t)) p ≡ place
            → OnPhaser job before t p (index_in (signalled_by (task_at job.graph t)) p)
            → (i : ℕ) → i < length (task_at job.graph t).inputs
            → input_at (task_at job.graph t) i ≡ p → has_children (task_at job.graph t).kind ≡ true
            → IsSilent (before.history p) n
        quiet None e on i lti is_p plain =
            let N : Option ℕ → Type 0 = λ o. SilentOn before p o in
            subst N s.numbered (subst (λ (o : Option ℕ). OnPhaser job before t p o) e on)
        quiet (Some j) e on i lti is_p plain =
            absurd (read_not_signalled job t i j (is.tasks t there) plain lti
            (ap (λ q. index_in (signalled_by (task_at job.graph t)) q) is_p ∙ e))

    in_here : (k : ℕ) → k < length (task_at job.graph c).inputs
        → input_at (task_at job.graph c) k ≡ p → OnInput job after c k p a
    in_here k lt at =
        record {
          start = entry_at mode (signal_phase (before.history p) n)
              (wait_phase (before.history p) n);
          start_is = subst (λ (g : History). start_of g a ≡ Some (entry_at mode (signal_phase
              (before.history p) n) (wait_phase (before.history p) n))) (sym s.here) start_here;
          waits = s.waits k lt at;
          at = (parent_in k lt at).0 ∙ sym (s.same c).offset;
          taken = (s.same c).taken k ∙ s.nothing_taken k lt at
              ∙ ap (λ l. map number l)
              (sym (ap (λ g. received_by (value_at job p) g a) s.here ∙ unused.received));
          left = λ gone.
              absurd (let f : true ≡ false =
              sym gone ∙ ap (λ g. has_dropped g a) s.here ∙ unused.stays in cc);
        }

    -- it does not signal a phaser that it is on only as a reader
    reads_here : index_in (signalled_by (task_at job.graph c)) p ≡ None
        → (k : ℕ) × (k < length (task_at job.graph c).inputs)
        × (input_at (task_at job.graph c) k ≡ p)
    reads_here none = by s.on_line
      where
        by : OnLine (task_at job.graph c) p
            → (k : ℕ) × (k < length (task_at job.graph c).inputs)
            × (input_at (task_at job.graph c) k ≡ p)
        by (inr into) = into
        by (inl out) = absurd (let f : Some out.0 ≡ None = sym out.1 ∙ none in cc)

    -- elsewhere its number is the same
    may_end_as : MayStop (record after { number = before.number }) (task_at job.graph c) c
        (length (samples_at job c))
        → MayStop after (task_at job.graph c) c (length (samples_at job c))
    may_end_as (at_until e) = at_until e
    may_end_as (no_sample source few) = no_sample source few
    may_end_as (no_input not out) = no_input not out

    ended_as : HasEnded job (record after { number = before.number }) c → HasEnded job after c
    ended_as e = record { all_put = e.all_put; may_end = may_end_as e.may_end }

    out_as : (j q b : ℕ) → OnOutput job (record after { number = before.number }) c j q b
        → OnOutput job after c j q b
    out_as j q b on =
        record {
          start =
              on.start;
          start_is =
              on.start_is;
          signals =
              on.signals;
          at = on.at;
          sent = on.sent;
          left = λ gone. ended_as (on.left gone);
        }

    in_as : (k q b : ℕ) → OnInput job (record after { number = before.number }) c k q b
        → OnInput job after c k q b
    in_as k q b on =
        record {
          start =
              on.start;
          start_is =
              on.start_is;
          waits =
              on.waits;
          at = on.at;
          taken = on.taken;
          left = λ gone. ended_as (on.left gone);
        }

    put_as : (j q : ℕ) (o : Option ℕ) → PutOn job (record after { number = before.number }) c j q o
        → PutOn job after c j q o
    put_as j q None on = on
    put_as j q (Some b) on = out_as j q b on

    taken_as : (k q : ℕ) (o : Option ℕ)
        → TakenOn job (record after { number = before.number }) c k q o → TakenOn job after c k q o
    taken_as k q None on = on
    taken_as k q (Some b) on = in_as k q b on

    silent_as : (q : ℕ) (o : Option ℕ) → SilentOn (record after { number = before.number }) q o
        → SilentOn after q o
    silent_as q None on = on
    silent_as q (Some b) on = on

    on_same : (q : ℕ) → after.number q c ≡ before.number q c → (place : Option ℕ)
        → OnPhaser job (record after { number = before.number }) c q place
        → OnPhaser job after c q place
    on_same q same None on =
        subst (λ (y : Option ℕ). SilentOn after q y) (sym same) (silent_as q (before.number q c) on)
    on_same q same (Some j) on =
        let S : Option ℕ → Type 0 = λ y. PutOn job after c j q y in
        subst S (sym same) (put_as j q (before.number q c) on)

    child_outputs : (q : ℕ) → q < length job.graph.phasers → (place : Option ℕ)
        → index_in (signalled_by (task_at job.graph c)) q ≡ place → (q ≡ p) ⊎ (q ≢ p)
        → OnPhaser job after c q (index_in (signalled_by (task_at job.graph c)) q)
    child_outputs q qq place e (inr apart) =
        on_same q (s.other_numbers q c (inl apart))
        (index_in (signalled_by (task_at job.graph c)) q) (mid_ran.outputs q qq)
    child_outputs q qq (Some j) e (inl same) =
        let O : Option ℕ → Type 0 = λ o. OnPhaser job after c p o in
        let N : Option ℕ → Type 0 = λ o. PutOn job after c j p o in
        let place : index_in (signalled_by (task_at job.graph c)) p ≡ Some j =
        ap (λ x. index_in (signalled_by (task_at job.graph c)) x) (sym same) ∙ e in
        subst (λ (x : ℕ). OnPhaser job after c x (index_in (signalled_by (task_at job.graph c)) x))
        (sym same) (subst O (sym place) (subst N (sym s.number) (out_here j place)))
    child_outputs q qq None e (inl same) =
        let O : Option ℕ → Type 0 = λ o. OnPhaser job after c p o in
        let N : Option ℕ → Type 0 = λ o. SilentOn after p o in
        let place : index_in (signalled_by (task_at job.graph c)) p ≡ None =
        ap (λ x. index_in (signalled_by (task_at job.graph c)) x) (sym same) ∙ e in
        let k = reads_here place in
        let S : History → Type 0 = λ g. IsSilent g a in
        subst (λ (x : ℕ). OnPhaser job after c x (index_in (signalled_by (task_at job.graph c)) x))
        (sym same)
        (subst O (sym place) (subst N (sym s.number) (subst S (sym s.here) (record {
          nothing = unused.signals;
          from_0 = λ start found.
              (let here : entry_at mode (signal_phase (before.history p) n)
              (wait_phase (before.history p) n) ≡ start =
              same_Some _ _ (sym start_here ∙ found) in
              sym (ap (λ (x : Entry). x.signal_phase) here) ∙ (parent_in k.0 k.1 k.2).1);
        }))))

    child_inputs : (k : ℕ) → k < length (task_at job.graph c).inputs
        → (input_at (task_at job.graph c) k ≡ p) ⊎ (input_at (task_at job.graph c) k ≢ p)
        → TakenOn job after c k (input_at (task_at job.graph c) k)
        (after.number (input_at (task_at job.graph c) k) c)
    child_inputs k lt (inr apart) =
        subst (λ (o : Option ℕ). TakenOn job after c k (input_at (task_at job.graph c) k) o) (sym
        (s.other_numbers (input_at (task_at job.graph c) k) c (inl apart)))
        (taken_as k (input_at (task_at job.graph c) k)
        (before.number (input_at (task_at job.graph c) k) c) (mid_ran.inputs k lt))
    child_inputs k lt (inl same) =
        let Q : ℕ → Type 0 = λ x. TakenOn job after c k x (after.number x c) in
        let N : Option ℕ → Type 0 = λ o. TakenOn job after c k p o in
        subst Q (sym same) (subst N (sym s.number) (in_here k lt same))

    still_there : after.number p t ≡ Some n
    still_there =
        s.other_numbers p t
        (inr (λ same.
        (let above : u.task < c = par.above in let by : u.task ≡ t = s.by in omega arith)))
        ∙ s.numbered

    child_joined : Joined after c (task_at job.graph c).joins_now (task_at job.graph c).parent
    child_joined =
        let P : Option Parent → Type 0 = λ o. Joined after c (task_at job.graph c).joins_now o in
        let off : after.offset c ≡ after.offset t + u.at =
        (s.same c).offset ∙ s.offset ∙ ap (λ y. y + u.at) (sym (s.same t).offset) in
        subst P (sym s.parent) (subst (λ (x : ℕ). BeginsBy (task_at job.graph c).joins_now
        (after.offset c) (after.offset x + u.at) × (u.at ≤ after.begun x) × IsRegistered after x)
        (sym s.by) (
          begins_there (task_at job.graph c).joins_now (after.offset c) (after.offset t + u.at) off,
          omega (arith, (s.same t).begun, s.boundary),
          (p, n, still_there),
        ))

    lines : (q b : ℕ) → after.number q c ≡ Some b → (q ≡ p) ⊎ (q ≢ p)
        → OnLine (task_at job.graph c) q
    lines q b at (inl here) =
        let P : ℕ → Type 0 = λ x. OnLine (task_at job.graph c) x in subst P (sym here) s.on_line
    lines q b at (inr apart) = child.lines q b (sym (s.other_numbers q c (inl apart)) ∙ at)

    -- a grandchild's number
    later_none : (d q : ℕ) → d < length job.graph.tasks → (d ≡ c → ⊥) → after.number q d ≡ None
        → before.number q d ≡ None
    later_none d q there_d other none = sym (s.other_numbers q d (inr other)) ∙ none

    child_children : (d q b : ℕ) (w : Parent) → d < length job.graph.tasks
        → (task_at job.graph d).parent ≡ Some w → w.task ≡ c → after.number q c ≡ Some b
        → after.number q d ≡ None → OnLine (task_at job.graph d) q → (q ≡ p) ⊎ (q ≢ p)
        → HasNotPassed after q b w
    child_children d q b w there_d e same at none on (inr apart) =
        let below : w.task < d = (parent_of job d w is there_d e).above in
        let wf = mid_ran.children d q b w there_d e same
        (sym (s.other_numbers q c (inl apart)) ∙ at)
        (later_none d q there_d (λ me. omega arith) none) on in
        record { early = wf.early; ended = wf.ended }
    child_children d q b w there_d e same at none on (inl here) =
        let me : b ≡ a = same_Some b a (sym at ∙ ap (λ y. after.number y c) here ∙ s.number) in
        let begun : after.begun w.task ≡ 0 =
        ap (λ x. after.begun x) same ∙ (s.same c).begun ∙ s.nothing_begun in
        let kept : has_dropped (after.history q) b ≡ false =
        ap (λ x. has_dropped (after.history x) b) here ∙ ap (λ g. has_dropped g b) s.here
        ∙ ap (λ x. has_dropped (before.history p) x) me ∙ unused.stays in
        record {
          early =
              omega arith;
          ended = λ gone. absurd (let f : true ≡ false = sym gone ∙ kept in cc);
        }
