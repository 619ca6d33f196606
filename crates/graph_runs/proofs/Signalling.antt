-- The values that a turn signals are the task's next ones.
use Rattle.std.proofs.Common.{◌≡◌, ℕ, zero, suc, ◌+◌, ◌<◌, ◌≤◌, Bool, true, false, not, ◌&&◌, cond, List, [], ◌∷◌, ◌++◌, Option, Some, None, is_some, length, get_or, map, ℤ, refl, sym, ap, subst, ◌∙◌, arith, inl, inr}
use Rattle.std.specs.Prelude.{unsigned_abs, nat_lt, nat_le, take, drop}
use Rattle.std.specs.List.{range_with_len, find, position_from}
use mathlib.Core.List.{IsPrefix}
use Rattle.std.proofs.Math.Seq.{drop-append_seam}
use Rattle.std.proofs.lemmas.List.{append_assoc, length-take, take-append-drop}
use Rattle.std.proofs.lemmas.Bool.{and_parts, ltb-true, leb-true, leb-false}
use Rattle.std.proofs.lemmas.List.FromFn.{length-range_with_len, get_or-range_with_len}
use Rattle.phase_accum.specs.Sends.{IsSend, value_max}
use Rattle.phase_history.specs.declared.refusal.SignalRefusal.{SignalRefusal}
use Rattle.phase_history.specs.declared.refusal.SignalRefusal.TheVariants as refusal
use Rattle.phase_history.specs.Histories.{has_dropped}
use Rattle.phase_history.specs.Refusals.{signal_refusal}
use Rattle.phase_history.specs.Legal.{AreLists}
use Rattle.graph_base.specs.declared.line.Kind.{Kind}
use Rattle.graph_base.specs.declared.line.Kind.TheVariants.{Source, Fir, Split, Decimate, Join, Peer, Sink}
use Rattle.graph_base.specs.declared.place.Place.TheVariants as place
use Rattle.graph_base.specs.Graphs.{task_at, phaser_at}
use Rattle.graph_base.specs.TaskLines.{IsGraph, has_blocks}
use Rattle.graph_base.proofs.Registered.{registrations-phasers}
use Rattle.stream_lists.specs.Jobs.{Job, index_in}
use Rattle.stream_lists.specs.Spans.{signalled_by}
use Rattle.stream_lists.specs.Ranges.{are_made, is_out_of_range}
use Rattle.graph_runs.specs.Moments.{one, Moment, HasRun, TaskRan, HasEnded, HasExchanged, OnLine, PutOn, TakenOn, OnOutput, OnInput, limits_at, made_now}
use Rattle.graph_runs.proofs.OnLines.{on_phaser}
use Rattle.graph_runs.specs.Moves.{IsStaying}
use Rattle.graph_runs.specs.TaskEvents.{TaskEvent, IsNext, signal}
use Rattle.graph_runs.specs.Nexts.{is_live, is_owed, first_owed, first_missing, first_kept, waits_first, number_on}
use Rattle.graph_runs.specs.NextBlocks.{AreSizes}
use Rattle.graph_runs.specs.Answers.{Answer, makes, is_blocked, is_gone, has_made, is_refused, signal_answer, signal_turn, call_signal, output_at, values_up_to}
use Rattle.graph_runs.proofs.PlacesLemmas.{place_of_output, numbered, find-some}

-- ---- a live task

pub record Live (job : Job) (m : Moment) (t : ℕ) : Type 0 where
  pub there : t < length job.graph.tasks
  pub all : first_missing job m t ≡ None

pub live-is : (job : Job) (m : Moment) (t : ℕ) → is_live job m t ≡ true → Live job m t
live-is job m t e =
    let outer = and_parts
    (nat_lt t (length job.graph.tasks) && not (is_some (first_missing job m t)))
    (is_some (first_kept job m t)) e in
    let inner = and_parts (nat_lt t (length job.graph.tasks))
    (not (is_some (first_missing job m t))) outer.0 in
    record {
      there = ltb-true t (length job.graph.tasks) inner.0;
      all = none (first_missing job m t) inner.1;
    }
  where
    none : {X : Type 0} (o : Option X) → not (is_some o) ≡ true → o ≡ None
    none None e = refl
    none (Some x) e = absurd (cc)

-- its number on each phaser of its line
pub number_there : (job : Job) (m : Moment) (t p : ℕ) → IsGraph job.graph → Live job m t
    → OnLine (task_at job.graph t) p → m.number p t ≡ Some (number_on m t p)
number_there job m t p is live on =
    let line = is.tasks t live.there in
    numbered job m t p line (registrations-phasers job.graph t (task_at job.graph t) line) live.all
    on

-- a task that has not come to its end has left no phaser
pub stays : (job : Job) (m : Moment) (t : ℕ) → IsGraph job.graph → TaskRan job m t
    → t < length job.graph.tasks → (HasEnded job m t → ⊥) → IsStaying m t
stays job m t is ran there more p n at =
    by (has_dropped (m.history p) n) refl (ran.lines p n at)
  where
    on_line : OnLine (task_at job.graph t) p → has_dropped (m.history p) n ≡ true
        → HasEnded job m t
    on_line (inl out) gone =
        let here : PutOn job m t out.0 p (m.number p t) =
        rw out.1 at (ran.outputs p (on_phaser job t p is there (inl out))) in
        let N : Option ℕ → Type 0 = λ o. PutOn job m t out.0 p o in
        let on : OnOutput job m t out.0 p n = subst N at here in
        on.left gone
    on_line (inr into) gone =
        let here : TakenOn job m t into.0 p (m.number p t) =
        rw into.2 at (ran.inputs into.0 into.1) in
        let N : Option ℕ → Type 0 = λ o. TakenOn job m t into.0 p o in
        let on : OnInput job m t into.0 p n = subst N at here in
        on.left gone

    by : (b : Bool) → has_dropped (m.history p) n ≡ b → OnLine (task_at job.graph t) p
        → has_dropped (m.history p) n ≡ false
    by false e line = e
    by true e line = absurd (more (on_line line e))

-- ---- the answer

-- the event of an answer, and another where it makes none
abbrev pub event_or : TaskEvent → Answer → TaskEvent
event_or other (makes event) = event
event_or other is_blocked = other
event_or other is_gone = other
event_or other (has_made at) = other
event_or other is_refused = other

pub signal_accepted : (made event : TaskEvent) (o : Option SignalRefusal)
    → signal_answer made o ≡ makes event → (o ≡ None) × (made ≡ event)
signal_accepted made event None e = (refl, ap (λ a. event_or event a) e)
signal_accepted made event (Some refusal.NoTask) e = absurd (cc)
signal_accepted made event (Some refusal.NoSignal) e = absurd (cc)
signal_accepted made event (Some refusal.NotSingle) e = absurd (cc)
signal_accepted made event (Some refusal.BadBlock) e = absurd (cc)
signal_accepted made event (Some refusal.SignalTwice) e = absurd (cc)
signal_accepted made event (Some refusal.Spent) e = absurd (cc)
signal_accepted made event (Some refusal.Ahead) e = absurd (cc)
signal_accepted made event (Some refusal.SingleDiffers) e = absurd (cc)
signal_accepted made event (Some refusal.PhaseFull) e = absurd (cc)

-- what a turn signals is in range, and the phaser accepts it
pub signalled : (job : Job) (m : Moment) (t j : ℕ) (vs : List ℤ) (made event : TaskEvent)
    → signal_turn job m t j vs made ≡ makes event
    → (position_from is_out_of_range (length (m.put t j)) vs ≡ None)
    × (signal_refusal (limits_at job (output_at job t j)) (m.history (output_at job t j))
    (number_on m t (output_at job t j)) (map one vs)
    (phaser_at job.graph (output_at job t j)).single ≡ None) × (made ≡ event)
signalled job m t j vs made event e =
    by (position_from is_out_of_range (length (m.put t j)) vs) refl
    (are_made (task_at job.graph t).kind j) refl e
  where
    Of : Option ℕ → Type 0
    Of o = (o ≡ None)
        × (signal_refusal (limits_at job (output_at job t j)) (m.history (output_at job t j))
        (number_on m t (output_at job t j)) (map one vs)
        (phaser_at job.graph (output_at job t j)).single ≡ None) × (made ≡ event)

    by : (o : Option ℕ) → position_from is_out_of_range (length (m.put t j)) vs ≡ o
        → (b : Bool) → are_made (task_at job.graph t).kind j ≡ b
        → signal_turn job m t j vs made ≡ makes event
        → Of (position_from is_out_of_range (length (m.put t j)) vs)
    by None found b is e =
        let call : call_signal job m t (output_at job t j) vs made ≡ makes event =
        (let at : signal_turn job m t j vs made
        ≡ call_signal job m t (output_at job t j) vs made = rw found refl in sym at ∙ e) in
        let r = signal_accepted made event _ call in (found, r.0, r.1)
    by (Some step) found true is e =
        let at : signal_turn job m t j vs made ≡ has_made (place.Task t, step) =
        rw found (rw is refl) in
        absurd (let clash : has_made (place.Task t, step) ≡ makes event = sym at ∙ e in cc)
    by (Some step) found false is e =
        let at : signal_turn job m t j vs made ≡ is_refused = rw found (rw is refl) in
        absurd (let clash : is_refused ≡ makes event = sym at ∙ e in cc)

-- ---- a value that is owed

-- a peer puts one value at once
pub may_put : (kind : Kind) (j put taken many : ℕ) → (kind ≡ Peer → many ≤ 1)
    → waits_first kind j put taken ≡ false → HasExchanged kind j (put + many) taken
may_put Source j put taken many one e = tt
may_put Fir j put taken many one e = tt
may_put Split j put taken many one e = tt
may_put Decimate j put taken many one e = tt
may_put Join j put taken many one e = tt
may_put Sink j put taken many one e = tt
may_put Peer zero put taken many one e = tt
may_put Peer (suc j) put taken many one e =
    omega (arith, one refl, leb-false taken put e)

pub sendable : (v : ℤ) → is_out_of_range v ≡ false → IsSend v
sendable v e = by (nat_le (unsigned_abs v) value_max) refl e
  where
    by : (b : Bool) → nat_le (unsigned_abs v) value_max ≡ b → not b ≡ false → IsSend v
    by true is e = record { small = leb-true (unsigned_abs v) value_max is }
    by false is e = absurd (cc)

-- values in range can be sent, one a phase
pub lists_sendable : (from : ℕ) (vs : List ℤ)
    → position_from is_out_of_range from vs ≡ None → AreLists (map one vs)
lists_sendable from [] e = tt
lists_sendable from (v ∷ vs) e =
    by (is_out_of_range v) refl e (λ rest. lists_sendable (from + 1) vs rest)
  where
    by : (b : Bool) → is_out_of_range v ≡ b
        → cond b (Some from) (position_from is_out_of_range (from + 1) vs) ≡ None
        → (position_from is_out_of_range (from + 1) vs ≡ None → AreLists (map one vs))
        → AreLists (map one (v ∷ vs))
    by false out e rest = ((sendable v out, tt), omega arith, rest e)
    by true out e rest = absurd (cc)

pub found_below : (test : ℕ → Bool) (n x : ℕ) → find test (range_with_len 0 n) ≡ Some x
    → (test x ≡ true) × (x < n)
found_below test n x e =
    let f = find-some test (range_with_len 0 n) x 0 e in
    let long : length (range_with_len 0 n) ≡ n = length-range_with_len 0 n in
    let at : get_or (range_with_len 0 n) f.1.0 0 ≡ 0 + f.1.0 =
    get_or-range_with_len 0 n f.1.0 0 (omega arith) in
    (f.0, omega (arith, f.1.2))

pub owed : (job : Job) (m : Moment) (t j : ℕ) → first_owed job m t ≡ Some j
    → (j < length (signalled_by (task_at job.graph t)))
    × (length (m.put t j) < length (made_now job m t j))
owed job m t j e =
    let f = found_below (is_owed job m t) (length (signalled_by (task_at job.graph t))) j e in
    (f.1, ltb-true (length (m.put t j)) (length (made_now job m t j)) f.0)

-- the task has not ended where it owes a value
pub not_ended : (job : Job) (m : Moment) (t j : ℕ)
    → j < length (signalled_by (task_at job.graph t))
    → length (m.put t j) < length (made_now job m t j) → HasEnded job m t → ⊥
not_ended job m t j lt few ended =
    omega (arith, ap length (ended.all_put j lt))

-- a list goes on as a prefix by some of what it lacks
pub begins_some : (k : ℕ) (xs ys : List ℤ) → IsPrefix xs ys
    → IsPrefix (xs ++ take k (drop (length xs) ys)) ys
begins_some k xs ys a =
    let rest = drop (length xs) ys in
    let is : rest ≡ a.0 =
    ap (λ l. drop (length xs) l) (sym a.1) ∙ drop-append_seam xs a.0 in (
      drop k rest,
      append_assoc xs (take k rest) (drop k rest)
          ∙ ap (λ l. xs ++ l) (take-append-drop k rest ∙ is) ∙ a.1,
    )

-- at most so many values are next
pub values_few : (most : ℕ) (job : Job) (m : Moment) (t j : ℕ)
    → length (values_up_to most job m t j) ≤ most
values_few most job m t j =
    let many = length-take most
    (drop (length (m.put t j)) (made_now job m t j)) in
    omega arith

pub one_value : {steps : ℕ} (most : ℕ) (job : Job) (m : Moment) (t j : ℕ)
    → AreSizes job.graph t steps most → has_blocks (task_at job.graph t).kind ≡ false
    → length (values_up_to most job m t j) ≤ 1
one_value most job m t j sizes e =
    let one : most ≡ 1 = sizes.owed.kind e in
    let few = values_few most job m t j in omega arith

pub signal_next : (steps most : ℕ) (job : Job) (m : Moment) (t j : ℕ) (event : TaskEvent)
    → AreSizes job.graph t steps most → IsGraph job.graph
    → HasRun job m → Live job m t → first_owed job m t ≡ Some j
    → waits_first (task_at job.graph t).kind j (length (m.put t j)) (length (m.taken t 1)) ≡ false
    → signal_turn job m t j (values_up_to most job m t j)
    (signal t j (output_at job t j) (number_on m t (output_at job t j)) (values_up_to most job m t j))
    ≡ makes event → IsNext job m event
signal_next steps most job m t j event sizes is ran live owes first answer =
    let o = owed job m t j owes in
    let line = is.tasks t live.there in
    let p = output_at job t j in
    let vs = values_up_to most job m t j in
    let n = number_on m t p in
    let a = signalled job m t j vs (signal t j p n vs) event answer in
    let place : index_in (signalled_by (task_at job.graph t)) p ≡ Some j =
    place_of_output job.graph t (task_at job.graph t) j line o.0 in
    let on : OnLine (task_at job.graph t) p = inl (j, place) in
    let phaser : p < length job.graph.phasers = on_phaser job t p is live.there on in
    rw (← a.2) (
      record { task = live.there; phaser = phaser },
      record {
        signal = record {
          accepted = (a.1, lists_sendable (length (m.put t j)) vs a.0, (is.phasers p phaser).single);
          numbered = number_there job m t p is live on;
          place = place;
          staying = stays job m t is (ran.tasks t live.there) live.there (not_ended job m t j o.0 o.1);
        };
        entries = begins_some most (m.put t j) (made_now job m t j)
            ((ran.tasks t live.there).puts j o.0);
        exchanged = may_put (task_at job.graph t).kind j (length (m.put t j)) (length (m.taken t 1))
            (length vs) (λ peer. one_value most job m t j sizes (ap has_blocks peer)) first;
      },
    )
