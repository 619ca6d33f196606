-- In each legal history with a task alive some task can go on.
use Rattle.std.proofs.Common.{◌≡◌, ℕ, ◌+◌, ◌<◌, ◌≤◌, Bool, true, false, not, ◌&&◌, cond, eqb, leb, ltb, List, [], ◌∷◌, ◌++◌, Option, Some, None, ℤ, length, map, unwrap_or, refl, sym, ap, subst, ◌∙◌, inl, inr, ⊎_elim, arith, length-append}
use Rattle.std.specs.Prelude.{is_some, ◌⊎◌}
use Rattle.std.specs.List.{filter}
use Rattle.std.proofs.lemmas.Option.{same_Some}
use Rattle.std.proofs.lemmas.Bool.{eqb-true, ne_eqb, eq-eqb, lt-leb, le-ltb, ltb-false, cases_lt}
use Rattle.phase_base.specs.Limits.{Limits, AreLimits}
use Rattle.phase_base.specs.Modes.{mode_signals, mode_waits}
use Rattle.phase_base.specs.declared.mode.Mode.{Mode}
use Rattle.phase_base.specs.declared.mode.Mode.TheVariants.{Wait, Sig, SigWait, Single}
use Rattle.phase_base.specs.declared.entry.Entry.{Entry}
use Rattle.phase_base.specs.declared.member.Member.{Member}
use Rattle.phase_history.specs.declared.event.Event.{Event}
use Rattle.phase_history.specs.declared.event.Event.TheVariants.{Made, Registered, RegisteredNow, Signalled, Waited, Dropped}
use Rattle.phase_base.specs.Members.{Members, member, entry_of, changed_at, signal_phases, wait_phases, least, lesser, signalled, waited}
use Rattle.phase_history.specs.Histories.{History, IsAlive, signal_phase, positions_of, members_of, top_of, done_of, greatest_used}
use Rattle.phase_history.specs.declared.refusal.SignalRefusal.TheVariants as signal
use Rattle.phase_history.specs.declared.refusal.WaitRefusal.TheVariants as wait
use Rattle.phase_history.specs.Refusals.{refusal_at, is_ahead, differs, list_rows, signal_rows, wait_rows, signal_refusal, wait_refusal}
use Rattle.phase_base.specs.Lists.{first_row}
use Rattle.phase_history.specs.Laws.{MaySignal, MayWait, GoesOn, GoesOnPlainly}
use Rattle.phase_history.specs.Sent.{NamesAll}
use Rattle.phase_history.specs.Phases.{sends_of_phase, named_in_phase, list_in_phase, first_named}
use Rattle.phase_history.specs.declared.refusal.SignalRefusal.{SignalRefusal}
use Rattle.phase_accum.specs.declared.single.Single.{Single as SingleFn}
use Rattle.phase_base.specs.declared.limits.TheConstants.{SENDS_MAX}
use Rattle.phase_history.specs.Legal.{IsAccepted, IsLegal}
use Rattle.phase_history.proofs.Each.{Each, Each-from, Each-push, Each-filter, Each-of_picked, least_low}
use Rattle.phase_history.proofs.MemberLemmas.{Each-entry, Each-changed, holds_waits}
use Rattle.phase_history.proofs.Refused.{first_row_none, Passes, passes_from, registers_from, signals_from, waits_from}
use Rattle.phase_history.proofs.Steps.{StandsWell, sound_of, member_entry_is}
use Rattle.phase_history.proofs.Bounded.{none_least}

-- ---- numbers of members are used once

-- each member's number is below those behind it
abbrev Ascends : Members → Type 0
Ascends [] = Unit {0}
Ascends (m ∷ ms) = Each (λ (x : Member). m.task < x.task) ms × Ascends ms

ascends-push : (ms : Members) (n : ℕ) (e : Entry) → Ascends ms → Each (λ (x : Member). x.task < n) ms → Ascends (ms ++ member n e ∷ [])
ascends-push [] n e up below = (tt, tt)
ascends-push (m ∷ ms) n e up below =
    (Each-push (λ (x : Member). m.task < x.task) ms (member n e) up.0 below.0, ascends-push ms n e up.1 below.1)

above-changed : (k task : ℕ) (f : Entry → Entry) (ms : Members) → Each (λ (x : Member). k < x.task) ms → Each (λ (x : Member). k < x.task) (changed_at task f ms)
above-changed k task f [] above = tt
above-changed k task f (m ∷ ms) above =
    elim (eqb m.task task) as (λ b. Each (λ (x : Member). k < x.task) (cond b (member m.task (f m.entry) ∷ ms) (m ∷ changed_at task f ms))) [
      | true ↦ (above.0, above.1)
      | false ↦ (above.0, above-changed k task f ms above.1)
    ]

ascends-changed : (task : ℕ) (f : Entry → Entry) (ms : Members) → Ascends ms → Ascends (changed_at task f ms)
ascends-changed task f [] up = tt
ascends-changed task f (m ∷ ms) up =
    elim (eqb m.task task) as (λ b. Ascends (cond b (member m.task (f m.entry) ∷ ms) (m ∷ changed_at task f ms))) [
      | true ↦ (up.0, up.1)
      | false ↦ (above-changed m.task task f ms up.0, ascends-changed task f ms up.1)
    ]

ascends-filter : (test : Member → Bool) (ms : Members) → Ascends ms → Ascends (filter test ms)
ascends-filter test [] up = tt
ascends-filter test (m ∷ ms) up =
    elim (test m) as (λ b. Ascends (cond b (m ∷ filter test ms) (filter test ms))) [
      | true ↦ (Each-filter (λ (x : Member). m.task < x.task) test ms up.0, ascends-filter test ms up.1)
      | false ↦ ascends-filter test ms up.1
    ]

-- a new number is above all members'
below_new : (limits : Limits) (h : History) (n : ℕ) → IsLegal limits h → greatest_used h < n → Each (λ (x : Member). x.task < n) (members_of h)
below_new limits h n legal above =
    Each-from (StandsWell (done_of h) (top_of h) (greatest_used h)) _
    (λ m good. (let u : m.task ≤ greatest_used h = good.used in omega arith)) (members_of h) (sound_of limits h legal)

ascends_of : (limits : Limits) (h : History) → IsLegal limits h → Ascends (members_of h)
ascends_of limits [] legal = absurd legal
ascends_of limits (Made task ∷ before) legal = (tt, tt)
ascends_of limits (Registered parent child mode ∷ before) legal =
    let r = registers_from before parent child mode legal.1 in
    ascends-push (members_of before) child _ (ascends_of limits before legal.0) (below_new limits before child legal.0 r.new_number)
ascends_of limits (RegisteredNow parent child ∷ before) legal =
    let r = registers_from before parent child Wait legal.1 in
    ascends-push (members_of before) child _ (ascends_of limits before legal.0) (below_new limits before child legal.0 r.new_number)
ascends_of limits (Signalled task lists single ∷ before) legal = ascends-changed task _ (members_of before) (ascends_of limits before legal.0)
ascends_of limits (Waited task n ∷ before) legal = ascends-changed task _ (members_of before) (ascends_of limits before legal.0)
ascends_of limits (Dropped task ∷ before) legal = ascends-filter _ (members_of before) (ascends_of limits before legal.0)

-- ---- who stands at the least phase

-- a member that passes a test and stands at this number
pub record StandsAt (ms : Members) (test : Entry → Bool) (f : Entry → ℕ) (b : ℕ) : Type 0 where
  pub task : ℕ
  pub entry : Entry
  pub is_member : entry_of ms task ≡ Some entry
  pub passes : test entry ≡ true
  pub at : f entry ≡ b

behind_first : (m : Member) (ms : Members) (test : Entry → Bool) (f : Entry → ℕ) (b : ℕ) → Each (λ (x : Member). m.task < x.task) ms
    → StandsAt ms test f b → StandsAt (m ∷ ms) test f b
behind_first m ms test f b above s =
    let up : m.task < s.task = Each-entry (λ (x : Member). m.task < x.task) ms s.task s.entry s.is_member above in
    let apart : eqb m.task s.task ≡ false = ne_eqb m.task s.task (λ e. omega arith) in
    record {
      task = s.task;
      entry = s.entry;
      is_member = ap (λ c. cond c (Some m.entry) (entry_of ms s.task)) apart ∙ s.is_member;
      passes = s.passes;
      at = s.at;
    }

at_first : (m : Member) (ms : Members) (test : Entry → Bool) (f : Entry → ℕ) (b : ℕ) → test m.entry ≡ true → f m.entry ≡ b → StandsAt (m ∷ ms) test f b
at_first m ms test f b passes is = record {
  task = m.task;
  entry = m.entry;
  is_member = ap (λ c. cond c (Some m.entry) (entry_of ms m.task)) (eq-eqb m.task m.task refl);
  passes = passes;
  at = is;
}

stands_at_least : (ms : Members) (test : Entry → Bool) (f : Entry → ℕ) (b : ℕ) → Ascends ms
    → least (map (λ (m : Member). f m.entry) (filter (λ (m : Member). test m.entry) ms)) ≡ Some b → StandsAt ms test f b
stands_at_least [] test f b up some = absurd (cc)
stands_at_least (m ∷ ms) test f b up some =
    let rest = map (λ (m : Member). f m.entry) (filter (λ (m : Member). test m.entry) ms) in
    elim (test m.entry) as (λ c. (test m.entry ≡ c)
    → (least (map (λ (m : Member). f m.entry) (cond c (m ∷ filter (λ (m : Member). test m.entry) ms) (filter (λ (m : Member). test m.entry) ms))) ≡ Some b)
    → StandsAt (m ∷ ms) test f b) [
      | true ↦ λ t s.
          let is : lesser (f m.entry) (least rest) ≡ b = same_Some _ _ s in
          elim (least rest) as (λ o. (least rest ≡ o) → (lesser (f m.entry) o ≡ b) → StandsAt (m ∷ ms) test f b) [
            | None ↦ λ none w. at_first m ms test f b t w
            | Some c ↦ λ found w.
                ⊎_elim (λ less. at_first m ms test f b t (omega arith))
                (λ more. (let e : c ≡ b = omega arith in
                behind_first m ms test f b up.0 (stands_at_least ms test f b up.1 (found ∙ ap (λ n. Some n) e))))
                (cases_lt (f m.entry) c)
          ] refl is
      | false ↦ λ t s. behind_first m ms test f b up.0 (stands_at_least ms test f b up.1 s)
    ] refl some

-- ---- who can go on

-- a waiter whose phase is complete, or for which no signaller is left, and which is not to signal first
record FreeWait (ms : Members) (done : ℕ) : Type 0 where
  task : ℕ
  entry : Entry
  is_member : entry_of ms task ≡ Some entry
  waits : mode_waits entry.mode ≡ true
  first : (mode_signals entry.mode && eqb entry.signal_phase entry.wait_phase) ≡ false
  yet : (leb done entry.wait_phase && is_some (least (signal_phases ms))) ≡ false

-- a signaller at the first phase that is not complete, which is not to wait first and is not ahead
record FreeSignal (bound : ℕ) (ms : Members) (done : ℕ) : Type 0 where
  task : ℕ
  entry : Entry
  is_member : entry_of ms task ≡ Some entry
  signals : mode_signals entry.mode ≡ true
  twice : (mode_waits entry.mode && eqb entry.signal_phase (entry.wait_phase + 1)) ≡ false
  ahead : is_ahead (least (wait_phases ms)) bound entry.signal_phase ≡ false
  at : entry.signal_phase ≡ done

-- a test beside another that fails
and_not : (a b : Bool) → (a ≡ true → b ≡ false) → (a && b) ≡ false
and_not true b fails = fails refl
and_not false b fails = refl

and_false : (a : Bool) → (a && false) ≡ false
and_false true = refl
and_false false = refl

-- where a list of phases has no least, no member stands there
none_pass : (ms : Members) (test : Entry → Bool) (f : Entry → ℕ)
    → least (map (λ (m : Member). f m.entry) (filter (λ (m : Member). test m.entry) ms)) ≡ None
    → (task : ℕ) (e : Entry) → entry_of ms task ≡ Some e → test e ≡ true → ⊥
none_pass ms test f none task e found =
    Each-entry (λ (m : Member). test m.entry ≡ true → ⊥) ms task e found
    (Each-of_picked (λ x. ⊥) (λ (m : Member). f m.entry) (λ (m : Member). test m.entry) ms (none_least (λ x. ⊥) _ none))

-- no member stands below the least
least_below : (ms : Members) (test : Entry → Bool) (f : Entry → ℕ) (b : ℕ)
    → least (map (λ (m : Member). f m.entry) (filter (λ (m : Member). test m.entry) ms)) ≡ Some b
    → (task : ℕ) (e : Entry) → entry_of ms task ≡ Some e → test e ≡ true → b ≤ f e
least_below ms test f b some task e found =
    Each-entry (λ (m : Member). test m.entry ≡ true → b ≤ f m.entry) ms task e found
    (Each-of_picked (λ x. b ≤ x) (λ (m : Member). f m.entry) (λ (m : Member). test m.entry) ms (least_low _ b some))

-- each mode signals or waits
mode_does : (m : Mode) → (mode_waits m ≡ true → ⊥) → mode_signals m ≡ true
mode_does Sig no_wait = refl
mode_does SigWait no_wait = refl
mode_does Single no_wait = refl
mode_does Wait no_wait = absurd (no_wait refl)

free_of : (bound : ℕ) (ms : Members) (top : ℕ) → 1 ≤ bound → Ascends ms → (some : ℕ) (e : Entry) → entry_of ms some ≡ Some e
    → (done : ℕ) → done ≡ unwrap_or (least (signal_phases ms)) top → FreeWait ms done ⊎ FreeSignal bound ms done
free_of bound ms top low up some e alive done done_is =
    elim (least (wait_phases ms)) as (λ o. (least (wait_phases ms) ≡ o) → FreeWait ms done ⊎ FreeSignal bound ms done) [
      | None ↦ λ no_waiter.
          let none = none_pass ms (λ x. mode_waits x.mode) (λ x. x.wait_phase) no_waiter in
          elim (least (signal_phases ms)) as (λ o. (least (signal_phases ms) ≡ o) → FreeWait ms done ⊎ FreeSignal bound ms done) [
            | None ↦ λ no_signaller.
                absurd (none_pass ms (λ x. mode_signals x.mode) (λ x. x.signal_phase) no_signaller some e alive (mode_does e.mode (none some e alive)))
            | Some d ↦ λ found.
                let s : StandsAt ms (λ x. mode_signals x.mode) (λ x. x.signal_phase) d = stands_at_least ms (λ x. mode_signals x.mode) (λ x. x.signal_phase) d up found in
                let is : done ≡ d = done_is ∙ ap (λ o. unwrap_or o top) found in
                inr (record {
                  task = s.task;
                  entry = s.entry;
                  is_member = s.is_member;
                  signals = s.passes;
                  twice = and_not (mode_waits s.entry.mode) _ (λ w. absurd (none s.task s.entry s.is_member w));
                  ahead = ap (λ o. is_ahead o bound s.entry.signal_phase) no_waiter;
                  at = s.at ∙ sym is;
                })
          ] refl
      | Some b ↦ λ waiter.
          let w : StandsAt ms (λ x. mode_waits x.mode) (λ x. x.wait_phase) b = stands_at_least ms (λ x. mode_waits x.mode) (λ x. x.wait_phase) b up waiter in
          let w_at : w.entry.wait_phase ≡ b = w.at in
          elim (least (signal_phases ms)) as (λ o. (least (signal_phases ms) ≡ o) → FreeWait ms done ⊎ FreeSignal bound ms done) [
            | None ↦ λ no_signaller.
                inl (record {
                  task = w.task;
                  entry = w.entry;
                  is_member = w.is_member;
                  waits = w.passes;
                  first = and_not (mode_signals w.entry.mode) _ (λ s. absurd (none_pass ms (λ x. mode_signals x.mode) (λ x. x.signal_phase) no_signaller w.task w.entry w.is_member s));
                  yet = ap (λ o. leb done w.entry.wait_phase && is_some o) no_signaller ∙ and_false (leb done w.entry.wait_phase);
                })
            | Some d ↦ λ found.
                let is : done ≡ d = done_is ∙ ap (λ o. unwrap_or o top) found in
                ⊎_elim
                (λ early. inl (record {
                  task = w.task;
                  entry = w.entry;
                  is_member = w.is_member;
                  waits = w.passes;
                  first = and_not (mode_signals w.entry.mode) _ (λ s.
                      (let above : d ≤ w.entry.signal_phase = least_below ms (λ x. mode_signals x.mode) (λ x. x.signal_phase) d found w.task w.entry w.is_member s in
                      ne_eqb _ _ (λ same. omega arith)));
                  yet = (let late : leb done w.entry.wait_phase ≡ false = lt-leb done w.entry.wait_phase (omega arith) in
                      ap (λ b. b && is_some (least (signal_phases ms))) late);
                }))
                (λ late.
                let s : StandsAt ms (λ x. mode_signals x.mode) (λ x. x.signal_phase) d = stands_at_least ms (λ x. mode_signals x.mode) (λ x. x.signal_phase) d up found in
                let s_at : s.entry.signal_phase ≡ d = s.at in
                inr (record {
                  task = s.task;
                  entry = s.entry;
                  is_member = s.is_member;
                  signals = s.passes;
                  twice = and_not (mode_waits s.entry.mode) _ (λ t.
                      (let above : b ≤ s.entry.wait_phase = least_below ms (λ x. mode_waits x.mode) (λ x. x.wait_phase) b waiter s.task s.entry s.is_member t in
                      ne_eqb _ _ (λ same. omega arith)));
                  ahead = ap (λ o. is_ahead o bound s.entry.signal_phase) waiter ∙ lt-leb (b + bound) s.entry.signal_phase (omega arith);
                  at = s.at ∙ sym is;
                }))
                (cases_lt b d)
          ] refl
    ] refl

-- ---- rows

-- a table does not answer what none of its rows that apply answers
not_answered : {R : Type 0} (rows : List (Bool × R)) (r : R) → Each (λ (row : Bool × R). row.0 ≡ true → row.1 ≡ r → ⊥) rows
    → first_row rows ≡ Some r → ⊥
not_answered [] r each some = absurd (cc)
not_answered (row ∷ rows) r each some =
    elim (row.0) as (λ b. (row.0 ≡ b) → (cond b (Some row.1) (first_row rows) ≡ Some r) → ⊥) [
      | true ↦ λ t s. each.0 t (same_Some _ _ s)
      | false ↦ λ t s. not_answered rows r each.1 s
    ] refl some

apart : (b : Bool) → b ≡ false → b ≡ true → ⊥
apart b fails holds = (let e : false ≡ true = sym fails ∙ holds in cc)

may_wait : (limits : Limits) (h : History) (f : FreeWait (members_of h) (done_of h)) → MayWait limits h f.task
may_wait limits h f =
    let ms = members_of h in
    let rows = wait_rows limits (positions_of h) 1 f.entry in
    let is : wait_refusal limits h f.task 1 ≡ first_row rows =
    ap (λ o. refusal_at o wait.NoTask (wait_rows limits (positions_of h) 1)) f.is_member in
    record {
      entry = f.entry;
      is_waiter = record { is_member = f.is_member; waits = f.waits };
      complete = λ some. not_answered rows wait.NotYet
          ((λ t e. (cc)), ((λ t e. (cc)), ((λ t e. (cc)), ((λ t e. apart _ f.yet t), tt)))) (sym is ∙ some);
      signalled = λ some. not_answered rows wait.SignalFirst
          ((λ t e. (cc)), ((λ t e. (cc)), ((λ t e. apart _ f.first t), ((λ t e. (cc)), tt)))) (sym is ∙ some);
    }

may_signal : (limits : Limits) (h : History) (f : FreeSignal limits.bound (members_of h) (done_of h)) → MaySignal limits h f.task
may_signal limits h f = record {
  entry = f.entry;
  is_signaller = record { is_member = f.is_member; signals = f.signals };
  not_ahead = λ sends single some. not_answered (signal_rows limits h (sends ∷ []) single f.entry) signal.Ahead
      ((λ t e. (cc)), ((λ t e. (cc)), ((λ t e. (cc)), ((λ t e. (cc)), ((λ t e. (cc)), ((λ t e. apart _ f.ahead t), ((λ t e. (cc)), ((λ t e. (cc)), tt))))))))
      (sym (ap (λ o. refusal_at o signal.NoTask (signal_rows limits h (sends ∷ []) single)) f.is_member) ∙ some);
  not_twice = λ sends single some. not_answered (signal_rows limits h (sends ∷ []) single f.entry) signal.SignalTwice
      ((λ t e. (cc)), ((λ t e. (cc)), ((λ t e. (cc)), ((λ t e. apart _ f.twice t), ((λ t e. (cc)), ((λ t e. (cc)), ((λ t e. (cc)), ((λ t e. (cc)), tt))))))))
      (sym (ap (λ o. refusal_at o signal.NoTask (signal_rows limits h (sends ∷ []) single)) f.is_member) ∙ some);
}

-- the limits of a legal history are within theirs
pub limits_of : (limits : Limits) (h : History) → IsLegal limits h → AreLimits limits
limits_of limits [] legal = absurd legal
limits_of limits (Made task ∷ before) legal = legal.0
limits_of limits (Registered parent child mode ∷ before) legal = limits_of limits before legal.0
limits_of limits (RegisteredNow parent child ∷ before) legal = limits_of limits before legal.0
limits_of limits (Signalled task lists single ∷ before) legal = limits_of limits before legal.0
limits_of limits (Waited task n ∷ before) legal = limits_of limits before legal.0
limits_of limits (Dropped task ∷ before) legal = limits_of limits before legal.0

someone_free : (limits : Limits) (h : History) (task : ℕ) → IsLegal limits h → IsAlive h task
    → FreeWait (members_of h) (done_of h) ⊎ FreeSignal limits.bound (members_of h) (done_of h)
someone_free limits h task legal alive =
    elim (entry_of (members_of h) task) as (λ o. (entry_of (members_of h) task ≡ o) → (is_some o ≡ true)
    → FreeWait (members_of h) (done_of h) ⊎ FreeSignal limits.bound (members_of h) (done_of h)) [
      | None ↦ λ none no. absurd (cc)
      | Some e ↦ λ found yes.
          free_of limits.bound (members_of h) (top_of h) (limits_of limits h legal).bound_least (ascends_of limits h legal) task e found (done_of h) refl
    ]
    refl alive

pub goes_on : (limits : Limits) (h : History) (task : ℕ) → IsLegal limits h → IsAlive h task → GoesOn limits h
goes_on limits h task legal alive =
    ⊎_elim (λ f. (f.task, inr (may_wait limits h f))) (λ f. (f.task, inl (may_signal limits h f))) (someone_free limits h task legal alive)

-- ---- sends of a phase while there is a waiter

-- where no member waits there is no wait phase
no_wait_phases : (ms : Members) → Each (λ (m : Member). mode_waits m.entry.mode ≡ true → ⊥) ms → wait_phases ms ≡ []
no_wait_phases [] none = refl
no_wait_phases (m ∷ ms) none =
    elim (mode_waits m.entry.mode) as (λ b. (mode_waits m.entry.mode ≡ b)
    → map (λ (m : Member). m.entry.wait_phase) (cond b (m ∷ filter (λ (m : Member). mode_waits m.entry.mode) ms) (filter (λ (m : Member). mode_waits m.entry.mode) ms)) ≡ []) [
      | true ↦ λ t. absurd (none.0 t)
      | false ↦ λ t. no_wait_phases ms none.1
    ] refl

-- one more event brings no waiter where there is none
no_waiter_later : (limits : Limits) (before : History) (event : Event) → IsLegal limits before → IsAccepted limits before event
    → Each (λ (m : Member). mode_waits m.entry.mode ≡ true → ⊥) (members_of before)
    → Each (λ (m : Member). mode_waits m.entry.mode ≡ true → ⊥) (members_of (event ∷ before))
no_waiter_later limits before (Made task) legal accepted none =
    absurd (rw accepted.1 at legal)
no_waiter_later limits before (Registered parent child mode) legal accepted none =
    let r = registers_from before parent child mode accepted in
    let own : mode_waits r.entry.mode ≡ true → ⊥ = Each-entry _ (members_of before) parent r.entry r.is_member none in
    Each-push _ (members_of before) _ none (λ w. own (holds_waits r.entry.mode mode r.allowed w))
no_waiter_later limits before (RegisteredNow parent child) legal accepted none =
    let r = registers_from before parent child Wait accepted in
    let own : mode_waits r.entry.mode ≡ true → ⊥ = Each-entry _ (members_of before) parent r.entry r.is_member none in
    Each-push _ (members_of before) _ none (λ w. own (holds_waits r.entry.mode Wait r.allowed w))
no_waiter_later limits before (Signalled task lists single) legal accepted none =
    let r = signals_from limits before task lists single accepted.0 in
    Each-changed _ _ task (signalled (length lists)) r.entry (members_of before) r.is_member (λ m h. h) (λ h. h) none
no_waiter_later limits before (Waited task n) legal accepted none =
    let r = waits_from limits before task n accepted.0 in
    Each-changed _ _ task (waited n) r.entry (members_of before) r.is_member (λ m h. h) (λ h. h) none
no_waiter_later limits before (Dropped task) legal accepted none = Each-filter _ (λ (m : Member). not (eqb m.task task)) (members_of before) none

abbrev HasWaiter : History → Type 0
HasWaiter h = is_some (least (wait_phases (members_of h))) ≡ true

waiter_before : (limits : Limits) (before : History) (event : Event) → IsLegal limits before → IsAccepted limits before event
    → HasWaiter (event ∷ before) → HasWaiter before
waiter_before limits before event legal accepted has =
    elim (least (wait_phases (members_of before))) as (λ o. (least (wait_phases (members_of before)) ≡ o) → is_some o ≡ true) [
      | Some b ↦ λ some. refl
      | None ↦ λ none.
          let later : wait_phases (members_of (event ∷ before)) ≡ [] =
          no_wait_phases (members_of (event ∷ before)) (no_waiter_later limits before event legal accepted
          (Each-of_picked (λ x. ⊥) (λ (m : Member). m.entry.wait_phase) (λ (m : Member). mode_waits m.entry.mode) (members_of before) (none_least (λ x. ⊥) _ none))) in
          sym (ap (λ l. is_some (least l)) later) ∙ has
    ] refl

-- no list of an accepted signal fills its phase too far
few_lists : (limits : Limits) (h : History) (lists : List (List ℤ)) (single : Option SingleFn) (e : Entry) (p : ℕ) → HasWaiter h
    → Each (λ (row : Bool × SignalRefusal). row.0 ≡ false) (list_rows limits h lists single e)
    → length (sends_of_phase h p) ≤ SENDS_MAX
    → length (sends_of_phase h p) + length (list_in_phase lists e.signal_phase p) ≤ SENDS_MAX
few_lists limits h [] single e p has each few = omega arith
few_lists limits h (sends ∷ lists) single e p has each few =
    elim (eqb e.signal_phase p) as (λ b. (eqb e.signal_phase p ≡ b)
    → length (sends_of_phase h p) + length (cond b sends (list_in_phase lists (e.signal_phase + 1) p)) ≤ SENDS_MAX) [
      | true ↦ λ t.
          let full : ltb SENDS_MAX (length (sends_of_phase h e.signal_phase) + length sends) ≡ false =
          sym (ap (λ b. b && ltb SENDS_MAX (length (sends_of_phase h e.signal_phase) + length sends)) has) ∙ each.1.1.1.1.0 in
          let low : length (sends_of_phase h e.signal_phase) + length sends ≤ SENDS_MAX = ltb-false _ _ full in
          rw (eqb-true _ _ t) at low
      | false ↦ λ t. few_lists limits h lists single (signalled 1 e) p has each.1.1.1.1.1 few
    ] refl

few_of : (limits : Limits) (h : History) (p : ℕ) → IsLegal limits h → HasWaiter h → length (sends_of_phase h p) ≤ SENDS_MAX
few_of limits [] p legal has = absurd legal
few_of limits (Made task ∷ before) p legal has =
    rw legal.1 (omega arith)
few_of limits (Registered parent child mode ∷ before) p legal has =
    few_of limits before p legal.0 (waiter_before limits before (Registered parent child mode) legal.0 legal.1 has)
few_of limits (RegisteredNow parent child ∷ before) p legal has =
    few_of limits before p legal.0 (waiter_before limits before (RegisteredNow parent child) legal.0 legal.1 has)
few_of limits (Signalled task lists single ∷ before) p legal has =
    let had = waiter_before limits before (Signalled task lists single) legal.0 legal.1 has in
    let r : Passes (entry_of (members_of before) task) (signal_rows limits before lists single) = passes_from _ _ _ legal.1.0 in
    let is : signal_phase before task ≡ r.entry.signal_phase = ap (λ (e : Entry). e.signal_phase) (member_entry_is (members_of before) task r.entry r.is_member) in
    let few : length (sends_of_phase before p) + length (list_in_phase lists (signal_phase before task) p) ≤ SENDS_MAX =
    rw is (few_lists limits before lists single r.entry p had r.passes.1.1.1 (few_of limits before p legal.0 had)) in
    let both : length (sends_of_phase before p ++ list_in_phase lists (signal_phase before task) p)
    ≡ length (sends_of_phase before p) + length (list_in_phase lists (signal_phase before task) p) = length-append _ _ in
    omega arith
few_of limits (Waited task n ∷ before) p legal has =
    few_of limits before p legal.0 (waiter_before limits before (Waited task n) legal.0 legal.1 has)
few_of limits (Dropped task ∷ before) p legal has =
    few_of limits before p legal.0 (waiter_before limits before (Dropped task) legal.0 legal.1 has)

-- ---- a signal with no send and no single

first_of_none : (named : Option (Option SingleFn)) (joins : Bool) (single : Option SingleFn) → single ≡ None → differs named None ≡ false
    → differs (first_named named joins single) None ≡ false
first_of_none (Some named) joins single none known = known
first_of_none None true single none known = ap (λ x. differs (Some x) None) none
first_of_none None false single none known = refl

differs_not : (h : History) (p : ℕ) → NamesAll None h → differs (named_in_phase h p) None ≡ false
differs_not [] p none = refl
differs_not (Made task ∷ before) p none = differs_not before p none
differs_not (Registered parent child mode ∷ before) p none = differs_not before p none
differs_not (RegisteredNow parent child ∷ before) p none = differs_not before p none
differs_not (Signalled task lists single ∷ before) p none =
    first_of_none (named_in_phase before p) _ single none.0 (differs_not before p none.1)
differs_not (Waited task n ∷ before) p none = differs_not before p none
differs_not (Dropped task ∷ before) p none = differs_not before p none

plain_signal : (limits : Limits) (h : History) → IsLegal limits h → NamesAll None h → done_of h < limits.phases_max
    → (f : FreeSignal limits.bound (members_of h) (done_of h)) → signal_refusal limits h f.task ([] ∷ []) None ≡ None
plain_signal limits h legal none left f =
    let s_is : f.entry.signal_phase ≡ done_of h = f.at in
    let low : 1 ≤ limits.bound = (limits_of limits h legal).bound_least in
    ap (λ o. refusal_at o signal.NoTask (signal_rows limits h ([] ∷ []) None)) f.is_member
    ∙ first_row_none (signal_rows limits h ([] ∷ []) None f.entry) (
      ap not f.signals,
      (
        refl,
        (
          le-ltb limits.bound 1 low,
          (
            f.twice,
            (
              lt-leb limits.phases_max f.entry.signal_phase (omega arith),
              (
                f.ahead,
                (
                  ap (λ b. is_some (least (wait_phases (members_of h))) && b) (differs_not h f.entry.signal_phase none) ∙ and_false _,
                  (
                    and_not (is_some (least (wait_phases (members_of h)))) _
                        (λ has. (let few : length (sends_of_phase h f.entry.signal_phase) ≤ SENDS_MAX = few_of limits h f.entry.signal_phase legal has in
                        le-ltb SENDS_MAX (length (sends_of_phase h f.entry.signal_phase) + 0) (omega arith))),
                    tt,
                  ),
                ),
              ),
            ),
          ),
        ),
      ),
    )

pub goes_on_plainly : (limits : Limits) (h : History) (task : ℕ) → IsLegal limits h → IsAlive h task → NamesAll None h
    → done_of h < limits.phases_max → GoesOnPlainly limits h
goes_on_plainly limits h task legal alive none left =
    ⊎_elim (λ f. (f.task, inr (may_wait limits h f))) (λ f. (f.task, inl (plain_signal limits h legal none left f))) (someone_free limits h task legal alive)
