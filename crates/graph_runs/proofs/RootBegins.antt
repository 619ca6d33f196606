-- The first moment of a task without a parent, which the founders have registered.
use Rattle.std.proofs.Common.{◌≡◌, ◌≢◌, ℕ, ◌+◌, ◌<◌, Bool, true, false, cond, eqb, List, [], ◌∷◌, Option, Some, None, length, map, get_or, slice_get, ℤ, refl, sym, ap, subst, ◌∙◌, arith, inl, inr}
use Rattle.std.specs.Prelude.{unwrap_or}
use Rattle.std.proofs.lemmas.Bool.{eq-eqb, ne_eqb, le-ltb}
use Rattle.std.proofs.lemmas.List.{length-map, get_or-map}
use Rattle.std.proofs.lemmas.Option.{same_Some, slice_get-get_or}
use Rattle.phase_base.specs.Limits.{Limits}
use Rattle.phase_base.specs.declared.entry.Entry.{Entry}
use Rattle.phase_base.specs.declared.mode.Mode.{Mode}
use Rattle.phase_accum.specs.declared.outcome.Outcome.{Outcome}
use Rattle.phase_accum.specs.declared.outcome.Outcome.TheVariants.{Empty}
use Rattle.phase_history.specs.declared.event.Event.TheVariants.{Made, Registered, RegisteredNow, Signalled, Waited, Dropped}
use Rattle.phase_history.specs.Histories.{History, founder, entry_at, members_of, member_entry, signal_phase, wait_phase, has_dropped, start_of, phases_signalled, phases_waited}
use Rattle.phase_history.specs.Laws.{HasCounted, HasNoEvents}
use Rattle.phase_history.specs.Legal.{IsLegal}
use Rattle.phase_history.specs.Others.{events_of}
use Rattle.phase_history.specs.Phases.{received_by}
use Rattle.phase_history.specs.Sent.{sent_by}
use Rattle.phase_history.proofs.LawProofs.{above_law, counted_of}
use Rattle.phase_history.proofs.Refused.{Registers as MayRegister, registers_from}
use Rattle.phase_history.proofs.Sendings.{length-sent_by}
use Rattle.phase_history.proofs.Steps.{member_entry_is}
use Rattle.phase_history.proofs.Used.{start_of-longer}
use Rattle.graph_base.specs.Graphs.{task_at}
use Rattle.graph_base.specs.Registrations.{no_registration}
use Rattle.graph_base.specs.TaskLines.{IsGraph}
use Rattle.stream_lists.specs.Jobs.{Job, index_in}
use Rattle.stream_lists.specs.Spans.{signalled_by}
use Rattle.stream_lists.specs.Lists.{number}
use Rattle.stream_lists.proofs.Ordered.{place-at}
use Rattle.graph_runs.specs.Moments.{Moment, TaskRan, OnLine, OnOutput, OnInput, OnPhaser, TakenOn, HasNotPassed, input_at, limits_at, value_at}
use Rattle.graph_runs.proofs.Framed.{ListsRan}
use Rattle.graph_runs.proofs.Opened.{nothing_ran}
use Rattle.graph_runs.specs.Beginnings.{opening}
use Rattle.graph_runs.specs.Nexts.{has_left, registrations_at}
use Rattle.graph_runs.specs.TaskPlaces.{StandsUpTo, registration_at, at_start}
use Rattle.graph_runs.proofs.AtOpening.{opening_has_begun}
use Rattle.graph_runs.proofs.Lacking.{first_none, nothing_lacks}
use Rattle.graph_runs.proofs.Reaching.{registration_placed}
use Rattle.graph_runs.proofs.TurnRegistering.{is_for}
use Rattle.graph_runs.specs.Places.{AreRegistrations, IsRootOn, IsFirstMoment}
use Rattle.graph_runs.proofs.TellsNext.{registration_on}

-- ---- the founder

-- who has registered alone has signalled nothing, and waited for nothing
none_signalled : (h : History) (x : ℕ) → AreRegistrations (events_of x h)
    → phases_signalled h x ≡ 0
none_signalled [] x are = refl
none_signalled (Made task ∷ h) x are = none_signalled h x are
none_signalled (Registered a b mode ∷ h) x are = none_signalled h x (rest (eqb a x) are)
  where
    rest : (d : Bool)
        → AreRegistrations (cond d (Registered a b mode ∷ events_of x h) (events_of x h))
        → AreRegistrations (events_of x h)
    rest true are = are
    rest false are = are
none_signalled (RegisteredNow a b ∷ h) x are = none_signalled h x (rest (eqb a x) are)
  where
    rest : (d : Bool)
        → AreRegistrations (cond d (RegisteredNow a b ∷ events_of x h) (events_of x h))
        → AreRegistrations (events_of x h)
    rest true are = absurd are
    rest false are = are
none_signalled (Signalled a lists single ∷ h) x are =
    by (eqb a x) are (λ more. none_signalled h x more)
  where
    by : (d : Bool)
        → AreRegistrations (cond d (Signalled a lists single ∷ events_of x h) (events_of x h))
        → (AreRegistrations (events_of x h) → phases_signalled h x ≡ 0)
        → cond d (phases_signalled h x + length lists) (phases_signalled h x) ≡ 0
    by true are more = absurd are
    by false are more = more are
none_signalled (Waited a n ∷ h) x are = none_signalled h x (rest (eqb a x) are)
  where
    rest : (d : Bool)
        → AreRegistrations (cond d (Waited a n ∷ events_of x h) (events_of x h))
        → AreRegistrations (events_of x h)
    rest true are = absurd are
    rest false are = are
none_signalled (Dropped a ∷ h) x are = none_signalled h x (rest (eqb a x) are)
  where
    rest : (d : Bool)
        → AreRegistrations (cond d (Dropped a ∷ events_of x h) (events_of x h))
        → AreRegistrations (events_of x h)
    rest true are = absurd are
    rest false are = are

none_waited : (h : History) (x : ℕ) → AreRegistrations (events_of x h) → phases_waited h x ≡ 0
none_waited [] x are = refl
none_waited (Made task ∷ h) x are = none_waited h x are
none_waited (Registered a b mode ∷ h) x are = none_waited h x (rest (eqb a x) are)
  where
    rest : (d : Bool)
        → AreRegistrations (cond d (Registered a b mode ∷ events_of x h) (events_of x h))
        → AreRegistrations (events_of x h)
    rest true are = are
    rest false are = are
none_waited (RegisteredNow a b ∷ h) x are = none_waited h x (rest (eqb a x) are)
  where
    rest : (d : Bool)
        → AreRegistrations (cond d (RegisteredNow a b ∷ events_of x h) (events_of x h))
        → AreRegistrations (events_of x h)
    rest true are = absurd are
    rest false are = are
none_waited (Signalled a lists single ∷ h) x are = none_waited h x (rest (eqb a x) are)
  where
    rest : (d : Bool)
        → AreRegistrations (cond d (Signalled a lists single ∷ events_of x h) (events_of x h))
        → AreRegistrations (events_of x h)
    rest true are = absurd are
    rest false are = are
none_waited (Waited a n ∷ h) x are = by (eqb a x) are (λ more. none_waited h x more)
  where
    by : (d : Bool)
        → AreRegistrations (cond d (Waited a n ∷ events_of x h) (events_of x h))
        → (AreRegistrations (events_of x h) → phases_waited h x ≡ 0)
        → cond d (phases_waited h x + n) (phases_waited h x) ≡ 0
    by true are more = absurd are
    by false are more = more are
none_waited (Dropped a ∷ h) x are = none_waited h x (rest (eqb a x) are)
  where
    rest : (d : Bool)
        → AreRegistrations (cond d (Dropped a ∷ events_of x h) (events_of x h))
        → AreRegistrations (events_of x h)
    rest true are = absurd are
    rest false are = are

-- ---- one registration

-- number n in a mode has done nothing, and began at phase 0
record RootFacts (h : History) (n : ℕ) (mode : Mode) : Type 0 where
  pub start_is : start_of h n ≡ Some (entry_at mode 0 0)
  pub signalled : phases_signalled h n ≡ 0
  pub sent : sent_by h n ≡ []
  pub received : (value : List ℤ → Outcome) → received_by value h n ≡ []
  pub kept : has_dropped h n ≡ false

root_facts : (limits : Limits) (before : History) (n : ℕ) (mode : Mode)
    → IsLegal limits (Registered 0 n mode ∷ before) → start_of before 0 ≡ Some founder
    → AreRegistrations (events_of 0 before) → RootFacts (Registered 0 n mode ∷ before) n mode
root_facts limits before n mode legal made alone =
    let r : MayRegister before 0 n mode = registers_from before 0 n mode legal.1 in
    let c : HasCounted before 0 r.entry = counted_of limits before 0 r.entry legal.0 r.is_member in
    let begun : c.start ≡ founder = same_Some c.start founder (sym c.start_is ∙ made) in
    let s0 : c.start.signal_phase ≡ 0 = ap (λ (e : Entry). e.signal_phase) begun in
    let w0 : c.start.wait_phase ≡ 0 = ap (λ (e : Entry). e.wait_phase) begun in
    let sn : phases_signalled before 0 ≡ 0 = none_signalled before 0 alone in
    let wn : phases_waited before 0 ≡ 0 = none_waited before 0 alone in
    let sc : c.start.signal_phase + phases_signalled before 0 ≡ r.entry.signal_phase = c.signals in
    let wc : c.start.wait_phase + phases_waited before 0 ≡ r.entry.wait_phase = c.waits in
    let member : member_entry (members_of before) 0 ≡ r.entry =
    member_entry_is (members_of before) 0 r.entry r.is_member in
    let s : signal_phase before 0 ≡ r.entry.signal_phase =
    ap (λ (e : Entry). e.signal_phase) member in
    let w : wait_phase before 0 ≡ r.entry.wait_phase = ap (λ (e : Entry). e.wait_phase) member in
    let sz : signal_phase before 0 ≡ 0 = omega arith in
    let wz : wait_phase before 0 ≡ 0 = omega arith in
    let none : HasNoEvents (λ sends. Empty) before n =
    above_law (λ sends. Empty) limits before n legal.0 r.new_number in
    let first : eqb n n ≡ true = eq-eqb n n refl in
    let started : start_of (Registered 0 n mode ∷ before) n
    ≡ Some (entry_at mode (signal_phase before 0) (wait_phase before 0)) = rw first refl in
    record {
      start_is = started ∙ ap (λ x. Some (entry_at mode x (wait_phase before 0))) sz
          ∙ ap (λ x. Some (entry_at mode 0 x)) wz;
      signalled = none.signals;
      sent = empty (sent_by before n) (length-sent_by before n ∙ none.signals);
      received = λ value. (above_law value limits before n legal.0 r.new_number).received;
      kept = none.stays;
    }
  where
    empty : (l : List (List ℤ)) → length l ≡ 0 → l ≡ []
    empty [] e = refl
    empty (x ∷ l) e = absurd (omega arith)

-- ---- the moment

-- what was seen by the registration at this place, where there is one
abbrev seen_at : (ℕ → History) → Option ℕ → History
seen_at seen None = []
seen_at seen (Some i) = seen i

-- and its number
abbrev number_at : List ℕ → Option ℕ → Option ℕ
number_at numbers None = None
number_at numbers (Some i) = slice_get numbers i

-- what a root alone knows of the run when it begins
abbrev pub first_moment : Job → ℕ → List ℕ → (ℕ → History) → Moment
first_moment job t numbers seen = record {
  history = λ p. seen_at seen (index_in (map (λ r. r.phaser) (registrations_at job t)) p);
  number = λ p u. cond (eqb u t)
      (number_at numbers (index_in (map (λ r. r.phaser) (registrations_at job t)) p)) None;
  offset = λ u. (opening job).offset u;
  begun = λ u. 0;
  taken = λ u k. [];
  put = λ u j. [];
}

pub first_is : (job : Job) (t : ℕ) (numbers : List ℕ) (seen : ℕ → History) → IsGraph job.graph
    → t < length job.graph.tasks → (task_at job.graph t).parent ≡ None
    → length numbers ≡ length (registrations_at job t)
    → ((i : ℕ) → i < length (registrations_at job t)
    → IsRootOn job (registration_at job t i) (get_or numbers i 0) (seen i))
    → IsFirstMoment job (first_moment job t numbers seen) t numbers seen
first_is job t numbers seen is there root all roots = record {
  part = record { ran = ran; legal = λ p on. legal p on };
  place = place;
  history = λ i lt. history_is i lt;
  others = λ p u apart. other p u apart;
  offset = λ u. refl;
  nothing_put = λ j. refl;
  nothing_taken = λ k. refl;
}
  where
    history_is : (i : ℕ) → i < length (registrations_at job t)
        → (first_moment job t numbers seen).history (registration_at job t i).phaser ≡ seen i
    history_is i lt = ap (λ o. seen_at seen o) (registration_placed job t i is there lt)

    number_is : (i : ℕ) → i < length (registrations_at job t)
        → (first_moment job t numbers seen).number (registration_at job t i).phaser t
        ≡ slice_get numbers i
    number_is i lt =
        let me : eqb t t ≡ true = eq-eqb t t refl in
        ap (λ b. cond b (number_at numbers (index_in (map (λ r. r.phaser) (registrations_at job t))
        (registration_at job t i).phaser)) None) me
        ∙ ap (λ o. number_at numbers o) (registration_placed job t i is there lt)

    other : (p u : ℕ) → u ≢ t → (first_moment job t numbers seen).number p u ≡ None
    other p u apart =
        let no : eqb u t ≡ false = ne_eqb u t (λ e. apart e) in
        ap (λ b. cond b (number_at numbers (index_in (map (λ r. r.phaser) (registrations_at job t))
        p)) None) no

    -- the registration of a number
    which : (p n : ℕ) → (first_moment job t numbers seen).number p t ≡ Some n
        → (i : ℕ) × (i < length (registrations_at job t))
        × ((registration_at job t i).phaser ≡ p)
    which p n at =
        let me : eqb t t ≡ true = eq-eqb t t refl in
        by (index_in (map (λ r. r.phaser) (registrations_at job t)) p) refl
        (sym (ap (λ b. cond b (number_at numbers
        (index_in (map (λ r. r.phaser) (registrations_at job t)) p)) None) me) ∙ at)
      where
        by : (o : Option ℕ) → index_in (map (λ r. r.phaser) (registrations_at job t)) p ≡ o
            → number_at numbers (index_in (map (λ r. r.phaser) (registrations_at job t)) p)
            ≡ Some n
            → (i : ℕ) × (i < length (registrations_at job t))
            × ((registration_at job t i).phaser ≡ p)
        by None e found =
            absurd (let no : None ≡ Some n =
            sym (ap (λ o. number_at numbers o) e) ∙ found in cc)
        by (Some i) e found =
            let stands = place-at (map (λ r. r.phaser) (registrations_at job t)) p i e in
            let long : length (map (λ r. r.phaser) (registrations_at job t))
            ≡ length (registrations_at job t) =
            length-map (registrations_at job t) (λ r. r.phaser) in
            let few : i < length (map (λ r. r.phaser) (registrations_at job t)) = stands.0 in
            let lt : i < length (registrations_at job t) = omega arith in (
              i,
              lt,
              sym (get_or-map (λ r. r.phaser) (registrations_at job t) i no_registration 0 lt)
                  ∙ stands.1,
            )

    legal_at : (i : ℕ) → i < length (registrations_at job t)
        → IsLegal (limits_at job (registration_at job t i).phaser)
        ((first_moment job t numbers seen).history (registration_at job t i).phaser)
    legal_at i lt =
        rw (history_is i lt) (roots i lt).legal

    legal : (p : ℕ) → OnLine (task_at job.graph t) p
        → IsLegal (limits_at job p) ((first_moment job t numbers seen).history p)
    legal p on =
        let r = registration_on job t p is there on in
        rw r.2 at (legal_at r.0 r.1)

    facts_at : (i : ℕ) → i < length (registrations_at job t)
        → RootFacts (seen i) (get_or numbers i 0) (registration_at job t i).mode
    facts_at i lt =
        let r = roots i lt in
        let p = (registration_at job t i).phaser in
        let n = get_or numbers i 0 in
        let mode = (registration_at job t i).mode in
        let legal_now : IsLegal (limits_at job p) (Registered 0 n mode ∷ r.before) =
        rw r.is at r.legal in
        rw r.is (root_facts (limits_at job p) r.before n mode legal_now
        (start_of-longer (limits_at job p) (Made 0 ∷ []) r.before 0 founder legal_now.0 r.made refl)
        r.founder)

    -- what holds of a number on a phaser
    facts : (i p n : ℕ) → i < length (registrations_at job t)
        → (registration_at job t i).phaser ≡ p
        → (first_moment job t numbers seen).number p t ≡ Some n
        → RootFacts ((first_moment job t numbers seen).history p) n (registration_at job t i).mode
    facts i p n lt here at =
        let is_n : get_or numbers i 0 ≡ n =
        same_Some (get_or numbers i 0) n
        (sym (slice_get-get_or numbers i 0 (omega arith)) ∙ sym (number_is i lt)
        ∙ ap (λ q. (first_moment job t numbers seen).number q t) here ∙ at) in
        let H : History → Type 0 =
        λ h. RootFacts h n (registration_at job t i).mode in
        subst H (sym (history_is i lt)
        ∙ ap (λ q. (first_moment job t numbers seen).history q) here)
        (rw is_n at (facts_at i lt))

    -- it has a number on each phaser of its line
    present : (p : ℕ) → OnLine (task_at job.graph t) p
        → (first_moment job t numbers seen).number p t ≡ None → ⊥
    present p on none =
        let r = registration_on job t p is there on in
        let lt : r.0 < length (registrations_at job t) = r.1 in
        (let wrong : Some (get_or numbers r.0 0) ≡ None =
        sym (slice_get-get_or numbers r.0 0 (omega arith)) ∙ sym (number_is r.0 r.1)
        ∙ ap (λ q. (first_moment job t numbers seen).number q t) r.2 ∙ none in cc)

    on_line : (p n : ℕ) → (first_moment job t numbers seen).number p t ≡ Some n
        → OnLine (task_at job.graph t) p
    on_line p n at =
        let w = which p n at in
        rw w.2 at (is_for job t w.0 is there w.1).on_line

    zero_offset : (opening job).offset t ≡ 0
    zero_offset = ((opening_has_begun job is).opened.tasks t there).offset root

    outputs : (p : ℕ) → (place : Option ℕ)
        → index_in (signalled_by (task_at job.graph t)) p ≡ place → (x : Option ℕ)
        → (first_moment job t numbers seen).number p t ≡ x
        → OnPhaser job (first_moment job t numbers seen) t p
        (index_in (signalled_by (task_at job.graph t)) p)
    outputs p None e None at =
        rw e (rw at tt)
    outputs p None e (Some n) at =
        let w = which p n at in
        let f = facts w.0 p n w.1 w.2 at in
        let mode = (registration_at job t w.0).mode in
        rw e (rw at (record {
          nothing = f.signalled;
          from_0 = λ start begun.
              sym (ap (λ (x : Entry). x.signal_phase)
              (same_Some (entry_at mode 0 0) start (sym f.start_is ∙ begun)));
        }))
    outputs p (Some j) e None at = absurd (present p (inl (j, e)) at)
    outputs p (Some j) e (Some n) at =
        let w = which p n at in
        let f = facts w.0 p n w.1 w.2 at in
        let place : index_in (signalled_by (task_at job.graph t)) (registration_at job t w.0).phaser
        ≡ Some j = ap (λ q. index_in (signalled_by (task_at job.graph t)) q) w.2 ∙ e in
        let on : OnOutput job (first_moment job t numbers seen) t j p n = record {
          start = entry_at (registration_at job t w.0).mode 0 0;
          start_is = f.start_is;
          signals = (is_for job t w.0 is there w.1).signals j place;
          at = sym zero_offset;
          sent = f.sent;
          left = λ gone. absurd (let wrong : true ≡ false = sym gone ∙ f.kept in cc);
        } in
        rw e (rw at on)

    inputs : (k : ℕ) → k < length (task_at job.graph t).inputs → (x : Option ℕ)
        → (first_moment job t numbers seen).number (input_at (task_at job.graph t) k) t ≡ x
        → TakenOn job (first_moment job t numbers seen) t k (input_at (task_at job.graph t) k)
        ((first_moment job t numbers seen).number (input_at (task_at job.graph t) k) t)
    inputs k lt None at =
        absurd (present (input_at (task_at job.graph t) k) (inr (k, lt, refl)) at)
    inputs k lt (Some n) at =
        let p = input_at (task_at job.graph t) k in
        let w = which p n at in
        let f = facts w.0 p n w.1 w.2 at in
        let on : OnInput job (first_moment job t numbers seen) t k p n = record {
          start = entry_at (registration_at job t w.0).mode 0 0;
          start_is = f.start_is;
          waits = (is_for job t w.0 is there w.1).waits k lt (sym w.2);
          at = sym zero_offset;
          taken = ap (λ l. map number l) (sym (f.received (value_at job p)));
          left = λ gone. absurd (let wrong : true ≡ false = sym gone ∙ f.kept in cc);
        } in
        rw at on

    lists : ListsRan job (first_moment job t numbers seen) t
    lists = nothing_ran job (first_moment job t numbers seen) t refl (λ j. refl) (λ k. refl)

    ran : TaskRan job (first_moment job t numbers seen) t
    ran = record {
      puts = lists.puts;
      exchanged = lists.exchanged;
      takes = lists.takes;
      samples = lists.samples;
      cut = lists.cut;
      lines = λ p n at. on_line p n at;
      outputs = λ p pp.
          outputs p (index_in (signalled_by (task_at job.graph t)) p) refl
          ((first_moment job t numbers seen).number p t) refl;
      inputs = λ k lt.
          inputs k lt
          ((first_moment job t numbers seen).number (input_at (task_at job.graph t) k) t) refl;
      joined = λ p n at.
          (rw root zero_offset);
      children = λ c p n u below e same at none on.
          (let w = which p n at in
          let kept : has_dropped ((first_moment job t numbers seen).history p) n ≡ false =
          (facts w.0 p n w.1 w.2 at).kept in
          let passed : HasNotPassed (first_moment job t numbers seen) p n u = record {
            early = omega arith;
            ended = λ gone. absurd (let wrong : true ≡ false = sym gone ∙ kept in cc);
          } in passed);
    }

    place : (most : ℕ)
        → StandsUpTo most job (first_moment job t numbers seen) t (at_start numbers)
    place most =
        let lacks = nothing_lacks job (first_moment job t numbers seen) t is ran there refl
        (λ j. refl) in
        record {
          few = omega arith;
          few_left = omega arith;
          numbered = λ i lt. number_is i lt;
          leaves = λ i lt. left i lt ∙ sym (le-ltb i 0 (omega arith));
          begun = refl;
          owes = first_none job (first_moment job t numbers seen) t lacks;
          lacks = lacks;
        }
      where
        left : (i : ℕ) → i < length numbers
            → has_left (first_moment job t numbers seen) t (registration_at job t i) ≡ false
        left i lt =
            let less : i < length (registrations_at job t) = omega arith in
            let p = (registration_at job t i).phaser in
            let at : (first_moment job t numbers seen).number p t ≡ Some (get_or numbers i 0) =
            number_is i less ∙ slice_get-get_or numbers i 0 lt in
            ap (λ o. has_dropped ((first_moment job t numbers seen).history p) (unwrap_or o 0)) at
            ∙ (facts i p (get_or numbers i 0) less refl at).kept
