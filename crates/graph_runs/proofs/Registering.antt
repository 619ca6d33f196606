-- A task's registration of its child keeps what a moment has.
use Rattle.std.proofs.Common.{◌≡◌, ◌≢◌, ℕ, zero, suc, ◌+◌, ◌-◌, ◌<◌, ◌≤◌, Bool, true, false, not, ◌||◌, eqb, List, [], ◌∷◌, ◌++◌, Option, Some, None, length, get_or, take, drop, refl, sym, ap, subst, ◌∙◌, arith, ◌⊎◌, inl, inr}
use Rattle.std.specs.Prelude.{slice_range}
use Rattle.std.specs.List.{list_any}
use Rattle.std.proofs.lemmas.Bool.{eq-eqb, and_parts}
use Rattle.std.proofs.lemmas.List.{length-map, length-drop}
use Rattle.std.proofs.lemmas.List.FromFn.{length-map-range_with_len}
use Rattle.std.proofs.lemmas.Option.{same_Some}
use Rattle.phase_base.specs.declared.entry.Entry.{Entry}
use Rattle.phase_base.specs.declared.mode.Mode.{Mode}
use Rattle.phase_history.specs.declared.event.Event.TheVariants.{Registered}
use Rattle.phase_history.specs.Histories.{members_of, member_entry, signal_phase, wait_phase, done_of, phases_signalled, phases_waited}
use Rattle.phase_history.specs.Phases.{stream_of, received_by, value_of_phase}
use Rattle.phase_history.specs.Laws.{HasCounted, HasReceivedFrom}
use Rattle.phase_history.specs.Legal.{IsLegal}
use Rattle.phase_history.specs.Sent.{IsSilent}
use Rattle.phase_history.proofs.LawProofs.{counted_of}
use Rattle.phase_history.proofs.Left.{received_law}
use Rattle.phase_history.proofs.Refused.{Registers as MayRegister, registers_from}
use Rattle.phase_history.proofs.Sendings.{length-sent_by}
use Rattle.phase_history.proofs.Steps.{member_entry_is}
use Rattle.graph_base.specs.declared.line.Kind.{Kind}
use Rattle.graph_base.specs.declared.line.Kind.TheVariants.{Source, Fir, Split, Decimate, Join, Peer, Sink}
use Rattle.graph_base.specs.declared.line.Parent.{Parent}
use Rattle.graph_base.specs.Graphs.{task_at}
use Rattle.graph_base.specs.TaskLines.{IsGraph, IsTaskLine, has_children}
use Rattle.phase_base.specs.Lists.{is_distinct}
use Rattle.stream_lists.specs.Jobs.{Job, index_in}
use Rattle.stream_lists.specs.Spans.{signalled_by}
use Rattle.stream_lists.specs.Lists.{number}
use Rattle.stream_lists.proofs.Ordered.{place-at}
use Rattle.graph_runs.specs.Moments.{one, Moment, TaskRan, input_at, limits_at, value_at, OnOutput, OnInput}
use Rattle.graph_runs.specs.Moves.{HasGrown, OthersMoved, PartStays, Registers}
use Rattle.graph_runs.proofs.Entries.{take_full}
use Rattle.graph_runs.proofs.Framed.{task_later}
use Rattle.graph_runs.proofs.OwnEvents.{eq_case, history_where}
use Rattle.graph_runs.proofs.Whole.{parent_of}
use Rattle.phase_history.specs.Refusals.{register_refusal}

-- ---- no phaser is read and signalled by a task that may have children

any_back : (test : ℕ → Bool) (xs ys : List ℕ) (j : ℕ) → j < length ys → test (get_or ys j 0) ≡ true
    → list_any test (xs ++ ys) ≡ true
any_back test [] [] j lt e = absurd (omega arith)
any_back test [] (y ∷ ys) zero lt e = ap (λ b. b || list_any test ys) e
any_back test [] (y ∷ ys) (suc j) lt e =
    ap (λ b. test y || b) (any_back test [] ys j (omega arith) e) ∙ or_right (test y)
  where
    or_right : (b : Bool) → (b || true) ≡ true
    or_right true = refl
    or_right false = refl
any_back test (x ∷ xs) ys j lt e =
    ap (λ b. test x || b) (any_back test xs ys j lt e) ∙ or_right (test x)
  where
    or_right : (b : Bool) → (b || true) ≡ true
    or_right true = refl
    or_right false = refl

distinct_apart : (xs ys : List ℕ) (k j : ℕ) → is_distinct (xs ++ ys) ≡ true → k < length xs
    → j < length ys → get_or xs k 0 ≡ get_or ys j 0 → ⊥
distinct_apart [] ys k j d ltk ltj same = absurd (omega arith)
distinct_apart (x ∷ xs) ys zero j d ltk ltj same =
    let parts = and_parts (not (list_any (λ q. eqb q x) (xs ++ ys))) (is_distinct (xs ++ ys)) d in
    let here : eqb (get_or ys j 0) x ≡ true = eq-eqb (get_or ys j 0) x (sym same) in
    let found : list_any (λ q. eqb q x) (xs ++ ys) ≡ true =
    any_back (λ q. eqb q x) xs ys j ltj here in
    let f : false ≡ true = sym (ap not found) ∙ parts.0 in cc
distinct_apart (x ∷ xs) ys (suc k) j d ltk ltj same =
    distinct_apart xs ys k j
    (and_parts (not (list_any (λ q. eqb q x) (xs ++ ys))) (is_distinct (xs ++ ys)) d).1
    (omega arith) ltj same

pub read_not_signalled : (job : Job) (t k j : ℕ) → IsTaskLine job.graph t (task_at job.graph t)
    → has_children (task_at job.graph t).kind ≡ true
    → k < length (task_at job.graph t).inputs
    → index_in (signalled_by (task_at job.graph t)) (input_at (task_at job.graph t) k) ≡ Some j → ⊥
read_not_signalled job t k j line plain lt place =
    let at = place-at (signalled_by (task_at job.graph t)) (input_at (task_at job.graph t) k) j
    place in
    by (task_at job.graph t).kind refl at.0 at.1
  where
    outs : signalled_by (task_at job.graph t) ≡ (task_at job.graph t).outputs
        → j < length (signalled_by (task_at job.graph t))
        → get_or (signalled_by (task_at job.graph t)) j 0 ≡ input_at (task_at job.graph t) k → ⊥
    outs is below at =
        let few : j < length (task_at job.graph t).outputs =
        subst (λ (qs : List ℕ). j < length qs) is below in
        distinct_apart (task_at job.graph t).inputs (task_at job.graph t).outputs k j line.distinct
        lt few (sym at ∙ ap (λ qs. get_or qs j 0) is)

    by : (kind : Kind) → (task_at job.graph t).kind ≡ kind
        → j < length (signalled_by (task_at job.graph t))
        → get_or (signalled_by (task_at job.graph t)) j 0 ≡ input_at (task_at job.graph t) k → ⊥
    by Source e = outs (rw e refl)
    by Fir e = outs (rw e refl)
    by Sink e = outs (rw e refl)
    by Split e = outs (rw e refl)
    by Decimate e = outs (rw e refl)
    by Join e = outs (rw e refl)
    by Peer e = absurd (let b : true ≡ false = sym plain ∙ ap has_children e in cc)

-- ---- where the parent stands

-- the parent's entry
pub parent_entry : (job : Job) (m : Moment) (p n a : ℕ) (mode : Mode)
    → IsLegal (limits_at job p) (m.history p)
    → register_refusal (m.history p) n a mode ≡ None
    → (e : Entry) × HasCounted (m.history p) n e × (signal_phase (m.history p) n ≡ e.signal_phase)
    × (wait_phase (m.history p) n ≡ e.wait_phase)
parent_entry job m p n a mode legal accepted =
    let r : MayRegister (m.history p) n a mode = registers_from (m.history p) n a mode accepted in
    let is : member_entry (members_of (m.history p)) n ≡ r.entry =
    member_entry_is (members_of (m.history p)) n r.entry r.is_member in (
      r.entry,
      counted_of (limits_at job p) (m.history p) n r.entry legal r.is_member,
      ap (λ (e : Entry). e.signal_phase) is,
      ap (λ (e : Entry). e.wait_phase) is,
    )

-- as a signaller it stands past what it has put
pub signals_from : (job : Job) (m : Moment) (t i p n a : ℕ) (mode : Mode)
    → IsLegal (limits_at job p) (m.history p) → OnOutput job m t i p n
    → register_refusal (m.history p) n a mode ≡ None
    → signal_phase (m.history p) n ≡ m.offset t + length (m.put t i)
signals_from job m t i p n a mode legal on accepted =
    let h = m.history p in
    let r = parent_entry job m p n a mode legal accepted in
    let c : HasCounted h n r.0 = r.1 in
    let counts : c.start.signal_phase + phases_signalled h n ≡ r.0.signal_phase = c.signals in
    let same : c.start ≡ on.start = same_Some _ _ (sym c.start_is ∙ on.start_is) in
    let from : c.start.signal_phase ≡ on.start.signal_phase =
    ap (λ (x : Entry). x.signal_phase) same in
    omega (arith, on.at, length-sent_by h n, ap length on.sent ∙ length-map (m.put t i) one, r.2)

-- a task that waits stands past what it has taken
pub waits_at : (job : Job) (m : Moment) (t k p n : ℕ) (entry : Entry)
    → IsLegal (limits_at job p) (m.history p) → OnInput job m t k p n
    → HasCounted (m.history p) n entry
    → entry.wait_phase ≡ m.offset t + length (m.taken t k)
waits_at job m t k p n entry legal on c =
    let h = m.history p in
    let value = value_at job p in
    let counts : c.start.wait_phase + phases_waited h n ≡ entry.wait_phase = c.waits in
    let same : c.start ≡ on.start = same_Some _ _ (sym c.start_is ∙ on.start_is) in
    let from : c.start.wait_phase ≡ on.start.wait_phase = ap (λ (x : Entry). x.wait_phase) same in
    let at : on.start.wait_phase ≡ m.offset t = on.at in
    let got : HasReceivedFrom value h n on.start =
    received_law value (limits_at job p) h n on.start legal on.start_is on.waits in
    let complete : on.start.wait_phase + phases_waited h n ≤ done_of h = got.complete in
    let w = on.start.wait_phase in
    let k_waited = phases_waited h n in
    let long : length (stream_of value h) ≡ done_of h =
    length-map-range_with_len (value_of_phase value h) 0 (done_of h) in
    let rest : length (drop w (stream_of value h)) ≡ length (stream_of value h) - w =
    length-drop w (stream_of value h) in
    let many : w + k_waited - w ≡ k_waited = omega arith in
    let slice : length (slice_range (stream_of value h) w (w + k_waited)) ≡ k_waited =
    ap (λ c. length (take c (drop w (stream_of value h)))) many
    ∙ take_full k_waited (drop w (stream_of value h)) (omega arith) in
    let taken : length (m.taken t k) ≡ k_waited =
    ap length on.taken ∙ length-map (received_by value h n) number ∙ ap length got.received
    ∙ slice in
    omega arith

-- a parent that waits stands past what it has taken
pub waits_from : (job : Job) (m : Moment) (t k p n a : ℕ) (mode : Mode)
    → IsLegal (limits_at job p) (m.history p) → OnInput job m t k p n
    → register_refusal (m.history p) n a mode ≡ None
    → wait_phase (m.history p) n ≡ m.offset t + length (m.taken t k)
waits_from job m t k p n a mode legal on accepted =
    let r = parent_entry job m p n a mode legal accepted in
    r.3 ∙ waits_at job m t k p n r.0 legal on r.1

-- a task that only waits stands at signal phase 0
pub silent_from : (job : Job) (m : Moment) (p n a : ℕ) (mode : Mode)
    → IsLegal (limits_at job p) (m.history p) → IsSilent (m.history p) n
    → register_refusal (m.history p) n a mode ≡ None
    → signal_phase (m.history p) n ≡ 0
silent_from job m p n a mode legal silent accepted =
    let h = m.history p in
    let r = parent_entry job m p n a mode legal accepted in
    let c : HasCounted h n r.0 = r.1 in
    omega (arith, c.signals, silent.from_0 c.start c.start_is, silent.nothing, r.2)

-- ---- who is not the new child

-- each number's own part of each phaser is the same
pub part_stays : (job : Job) (before after : Moment) (t p n c a : ℕ) (mode : Mode) (u : Parent)
    → Registers job before after t p n c a mode u → (q b : ℕ)
    → PartStays b (before.history q) (after.history q)
part_stays job before after t p n c a mode u s q b =
    history_where before after p (Registered n a mode) (λ g. PartStays b (before.history q) g) q
    s.here s.elsewhere
    (λ same. record { sent = refl; dropped = refl; signalled = refl; received = λ value. refl })
    (λ apart. record { sent = refl; dropped = refl; signalled = refl; received = λ value. refl })

-- who was registered still is, as the same number
pub numbers_stay : (job : Job) (before after : Moment) (t p n c a : ℕ) (mode : Mode) (u : Parent)
    → Registers job before after t p n c a mode u → (q x b : ℕ)
    → before.number q x ≡ Some b → after.number q x ≡ Some b
numbers_stay job before after t p n c a mode u s q x b e = by (eq_case q p) (eq_case x c)
  where
    by : (q ≡ p) ⊎ (q ≢ p) → (x ≡ c) ⊎ (x ≢ c) → after.number q x ≡ Some b
    by (inr apart) d = s.other_numbers q x (inl apart) ∙ e
    by (inl same) (inr apart) = s.other_numbers q x (inr apart) ∙ e
    by (inl same) (inl me) =
        let none : Some b ≡ None =
        sym e ∙ ap (λ y. before.number y x) same ∙ ap (λ y. before.number p y) me
        ∙ s.absent in absurd (cc)

-- to each other task it is others' doing, or the registration of its own child
pub others_register : (job : Job) (before after : Moment) (t p n c a : ℕ) (mode : Mode) (u : Parent)
    → Registers job before after t p n c a mode u → (x : ℕ) → x ≢ c
    → OthersMoved job before after x
others_register job before after t p n c a mode u s x other = record {
  same = s.same x;
  number = λ q. s.other_numbers q x (inr other);
  part = λ q b at. part_stays job before after t p n c a mode u s q b;
  children = λ d q w there_d e same none. was_none d q (before.number q d) refl none;
  parent = λ w e.
      (let begun : after.begun w.task ≡ before.begun w.task = (s.same w.task).begun in
      ((s.same w.task).offset, omega arith, λ r. (r.0, r.1, stays r.0 w.task r.1 r.2)));
}
  where
    stays : (q x b : ℕ) → before.number q x ≡ Some b → after.number q x ≡ Some b
    stays = numbers_stay job before after t p n c a mode u s

    was_none : (d q : ℕ) (o : Option ℕ) → before.number q d ≡ o → after.number q d ≡ None
        → before.number q d ≡ None
    was_none d q None e none = e
    was_none d q (Some b) e none = absurd (let g : Some b ≡ None = sym (stays q d b e) ∙ none in cc)

-- the parent's part stays where it registered a child
pub own_register : (job : Job) (before after : Moment) (t p n c a : ℕ) (mode : Mode) (u : Parent)
    → IsGraph job.graph → t < length job.graph.tasks
    → HasGrown job before after t → Registers job before after t p n c a mode u
    → TaskRan job before t → TaskRan job after t
own_register job before after t p n c a mode u is there grown s ran =
    let above : u.task < c = (parent_of job c u is s.child s.parent).above in
    task_later job before after t is there grown
    (others_register job before after t p n c a mode u s t (λ same. omega (arith, s.by))) ran
