-- The stream of a longer history begins with this one's, and does not grow where none signals.
use Rattle.std.proofs.Common.{◌≡◌, ℕ, ◌<◌, ◌≤◌, true, false, not, cond, eqb, List, [], ◌∷◌, ◌++◌, ℤ, map, take, drop, unwrap_or, refl, sym, ap, subst, ◌∙◌, arith}
use Rattle.std.specs.List.{range_with_len, filter}
use Rattle.std.proofs.lemmas.List.{append-nil, take-append-drop, append_assoc}
use Rattle.std.proofs.lemmas.List.FromFn.{length-map-range_with_len, get_or-map-range_with_len, take-map-range_with_len, fill_by_all}
use mathlib.Core.List.{IsPrefix}
use Rattle.phase_base.specs.Limits.{Limits}
use Rattle.phase_base.specs.Modes.{mode_signals}
use Rattle.phase_base.specs.declared.member.Member.{Member}
use Rattle.phase_accum.specs.declared.outcome.Outcome.{Outcome}
use Rattle.phase_accum.specs.declared.outcome.Outcome.TheVariants.{Empty}
use Rattle.phase_history.specs.declared.event.Event.{Event}
use Rattle.phase_history.specs.declared.event.Event.TheVariants.{Made, Registered, RegisteredNow, Signalled, Waited, Dropped}
use Rattle.phase_base.specs.Members.{Members, signal_phases, least, waited}
use Rattle.phase_history.specs.Histories.{History, IsBeginning, members_of, done_of, top_of, HasNoSignaller}
use Rattle.phase_history.specs.Phases.{value_of_phase, stream_of}
use Rattle.phase_history.specs.Legal.{IsAccepted, IsLegal}
use Rattle.phase_history.proofs.Each.{Each, Each-push, Each-filter, Each-of_picked}
use Rattle.phase_history.proofs.MemberLemmas.{Each-entry, Each-changed, holds_signals}
use Rattle.phase_history.proofs.Refused.{registers_from, signals_from, waits_from}
use Rattle.phase_history.proofs.Steps.{Steps, steps, sound_of}

-- the values of two functions at the first n numbers are the same where the functions are
pub same_values : {X : Type 0} (f g : ℕ → X) (n : ℕ) (d : X) → ((p : ℕ) → p < n → g p ≡ f p)
    → map g (range_with_len 0 n) ≡ map f (range_with_len 0 n)
same_values f g n d same =
    fill_by_all f (map g (range_with_len 0 n)) n d (length-map-range_with_len g 0 n)
    (λ k h. get_or-map-range_with_len g 0 n k k d h (omega arith) ∙ same k h)

-- and more of them begin with fewer
pub prefix_of_values : {X : Type 0} (f g : ℕ → X) (n m : ℕ) (d : X) → n ≤ m → ((p : ℕ) → p < n → g p ≡ f p)
    → IsPrefix (map f (range_with_len 0 n)) (map g (range_with_len 0 m))
prefix_of_values f g n m d fewer same =
    let all = map g (range_with_len 0 m) in
    let front : take n all ≡ map f (range_with_len 0 n) =
    take-map-range_with_len g 0 m n fewer ∙ same_values f g n d same in
    (drop n all, ap (λ xs. xs ++ drop n all) (sym front) ∙ take-append-drop n all)

pub IsPrefix-trans : {X : Type 0} (xs ys zs : List X) → IsPrefix xs ys → IsPrefix ys zs → IsPrefix xs zs
IsPrefix-trans xs ys zs a b =
    (a.0 ++ b.0, sym (append_assoc xs a.0 b.0) ∙ ap (λ l. l ++ b.0) a.1 ∙ b.1)

-- one more event leaves what the stream had
pub stream_grows : (value : List ℤ → Outcome) (before : History) (event : Event) → Steps before event
    → IsPrefix (stream_of value before) (stream_of value (event ∷ before))
stream_grows value before event s =
    prefix_of_values (value_of_phase value before) (value_of_phase value (event ∷ before))
    (done_of before) (done_of (event ∷ before)) Empty s.grows (s.same value)

-- a legal history has an event
pub legal_some : (limits : Limits) (h more : History) → IsLegal limits h → more ++ h ≡ [] → ⊥
legal_some limits h [] legal none = rw none at legal
legal_some limits h (event ∷ more) legal none = (cc)

-- what stands before the newest event of a longer legal history is legal, and accepted that event
pub legal_rest : (limits : Limits) (event : Event) (rest : History) → (rest ≡ [] → ⊥) → IsLegal limits (event ∷ rest)
    → IsLegal limits rest × IsAccepted limits rest event
legal_rest limits (Made task) rest some legal = absurd (some legal.1)
legal_rest limits (Registered parent child mode) rest some legal = legal
legal_rest limits (RegisteredNow parent child) rest some legal = legal
legal_rest limits (Signalled task lists single) rest some legal = legal
legal_rest limits (Waited task n) rest some legal = legal
legal_rest limits (Dropped task) rest some legal = legal

prefix_from : (value : List ℤ → Outcome) (limits : Limits) (h more : History)
    → IsLegal limits h → IsLegal limits (more ++ h) → IsPrefix (stream_of value h) (stream_of value (more ++ h))
prefix_from value limits h [] legal longer = ([], append-nil _)
prefix_from value limits h (event ∷ more) legal longer =
    let r = legal_rest limits event (more ++ h) (legal_some limits h more legal) longer in
    let step : Steps (more ++ h) event = steps limits (more ++ h) event r.0 (sound_of limits (more ++ h) r.0) r.1 in
    IsPrefix-trans _ _ _ (prefix_from value limits h more legal r.0) (stream_grows value (more ++ h) event step)

-- the stream of a longer history begins with this one's
pub stream_prefix : (value : List ℤ → Outcome) (limits : Limits) (h longer : History)
    → IsLegal limits h → IsLegal limits longer → IsBeginning h longer → IsPrefix (stream_of value h) (stream_of value longer)
stream_prefix value limits h longer legal legal_longer b =
    rw b.is (prefix_from value limits h b.later legal (rw b.is at legal_longer))

-- ---- where no task signals

-- no member signals
abbrev pub Quiet : Members → Type 0
Quiet ms = Each (λ (m : Member). mode_signals m.entry.mode ≡ true → ⊥) ms

quiet_from : (h : History) → HasNoSignaller h → Quiet (members_of h)
quiet_from h none =
    Each-of_picked (λ x. ⊥) (λ (m : Member). m.entry.signal_phase) (λ (m : Member). mode_signals m.entry.mode) (members_of h)
    (rw none tt)

signal_phases_quiet : (ms : Members) → Quiet ms → signal_phases ms ≡ []
signal_phases_quiet [] quiet = refl
signal_phases_quiet (m ∷ ms) quiet =
    elim (mode_signals m.entry.mode) as (λ b. (mode_signals m.entry.mode ≡ b)
    → map (λ (m : Member). m.entry.signal_phase) (cond b (m ∷ filter (λ (m : Member). mode_signals m.entry.mode) ms) (filter (λ (m : Member). mode_signals m.entry.mode) ms)) ≡ []) [
      | true ↦ λ t. absurd (quiet.0 t)
      | false ↦ λ t. signal_phases_quiet ms quiet.1
    ] refl

-- one more event leaves it so, and the top
quiet_step : (limits : Limits) (before : History) (event : Event) → IsLegal limits before → IsAccepted limits before event
    → Quiet (members_of before) → Quiet (members_of (event ∷ before)) × (top_of (event ∷ before) ≡ top_of before)
quiet_step limits before (Made task) legal accepted quiet =
    absurd (rw accepted.1 at legal)
quiet_step limits before (Registered parent child mode) legal accepted quiet =
    let r = registers_from before parent child mode accepted in
    let none : mode_signals r.entry.mode ≡ true → ⊥ = Each-entry _ (members_of before) parent r.entry r.is_member quiet in
    (Each-push _ (members_of before) _ quiet (λ s. none (holds_signals r.entry.mode mode r.allowed s)), refl)
quiet_step limits before (RegisteredNow parent child) legal accepted quiet =
    (Each-push _ (members_of before) _ quiet (λ s. absurd (let e : false ≡ true = s in cc)), refl)
quiet_step limits before (Signalled task lists single) legal accepted quiet =
    let r = signals_from limits before task lists single accepted.0 in
    let none : mode_signals r.entry.mode ≡ true → ⊥ = Each-entry _ (members_of before) task r.entry r.is_member quiet in
    absurd (none r.signals)
quiet_step limits before (Waited task n) legal accepted quiet =
    let r = waits_from limits before task n accepted.0 in
    (Each-changed _ _ task (waited n) r.entry (members_of before) r.is_member (λ m h. h) (λ h. h) quiet, refl)
quiet_step limits before (Dropped task) legal accepted quiet =
    (Each-filter _ (λ (m : Member). not (eqb m.task task)) (members_of before) quiet, refl)

done_quiet : (h : History) → Quiet (members_of h) → done_of h ≡ top_of h
done_quiet h quiet = ap (λ xs. unwrap_or (least xs) (top_of h)) (signal_phases_quiet (members_of h) quiet)

-- what no further event changes
record Closed (value : List ℤ → Outcome) (h longer : History) : Type 0 where
  quiet : Quiet (members_of longer)
  same : stream_of value longer ≡ stream_of value h

closed_from : (value : List ℤ → Outcome) (limits : Limits) (h more : History) → Quiet (members_of h)
    → IsLegal limits h → IsLegal limits (more ++ h) → Closed value h (more ++ h)
closed_from value limits h [] quiet legal longer = record { quiet = quiet; same = refl }
closed_from value limits h (event ∷ more) quiet legal longer =
    let r = legal_rest limits event (more ++ h) (legal_some limits h more legal) longer in
    let before : Closed value h (more ++ h) = closed_from value limits h more quiet legal r.0 in
    let step : Steps (more ++ h) event = steps limits (more ++ h) event r.0 (sound_of limits (more ++ h) r.0) r.1 in
    let now = quiet_step limits (more ++ h) event r.0 r.1 before.quiet in
    let done_same : done_of (event ∷ more ++ h) ≡ done_of (more ++ h) =
    done_quiet (event ∷ more ++ h) now.0 ∙ now.1 ∙ sym (done_quiet (more ++ h) before.quiet) in
    record {
      quiet = now.0;
      same =
          ap (λ n. map (value_of_phase value (event ∷ more ++ h)) (range_with_len 0 n)) done_same
          ∙ same_values (value_of_phase value (more ++ h)) (value_of_phase value (event ∷ more ++ h))
          (done_of (more ++ h)) Empty (step.same value)
          ∙ before.same;
    }

closed_of : (value : List ℤ → Outcome) (limits : Limits) (h longer : History) → HasNoSignaller h
    → IsLegal limits h → IsLegal limits longer → IsBeginning h longer → Closed value h longer
closed_of value limits h longer none legal legal_longer b =
    rw b.is (closed_from value limits h b.later (quiet_from h none) legal (rw b.is at legal_longer))

-- where no task signals, no longer history has a longer stream
pub stream_closed : (value : List ℤ → Outcome) (limits : Limits) (h longer : History) → HasNoSignaller h
    → IsLegal limits h → IsLegal limits longer → IsBeginning h longer → stream_of value longer ≡ stream_of value h
stream_closed value limits h longer none legal legal_longer b =
    (closed_of value limits h longer none legal legal_longer b).same

-- and in none does a task signal
pub signallers_closed : (limits : Limits) (h longer : History) → HasNoSignaller h
    → IsLegal limits h → IsLegal limits longer → IsBeginning h longer → HasNoSignaller longer
signallers_closed limits h longer none legal legal_longer b =
    signal_phases_quiet (members_of longer) (closed_of (λ sends. Empty) limits h longer none legal legal_longer b).quiet
