-- One more event of a legal history: where the members stand, and that no complete phase changes.
use Rattle.std.proofs.Common.{◌≡◌, ℕ, ◌+◌, ◌<◌, ◌≤◌, Bool, true, false, not, eqb, leb, List, [], ◌∷◌, ◌++◌, Option, Some, None, ℤ, length, max, unwrap_or, refl, sym, ap, subst, ◌∙◌, arith}
use Rattle.std.proofs.lemmas.List.{append-nil}
use Rattle.std.proofs.lemmas.Bool.{ne_eqb, lt-leb}
use Rattle.phase_base.specs.Limits.{Limits}
use Rattle.phase_base.specs.Modes.{mode_signals, mode_waits}
use Rattle.phase_base.specs.declared.mode.Mode.{Mode}
use Rattle.phase_base.specs.declared.mode.Mode.TheVariants.{Wait}
use Rattle.phase_base.specs.declared.entry.Entry.{Entry}
use Rattle.phase_base.specs.declared.member.Member.{Member}
use Rattle.phase_accum.specs.declared.outcome.Outcome.{Outcome}
use Rattle.phase_accum.specs.declared.single.Single.{Single}
use Rattle.phase_accum.specs.Values.{applied}
use Rattle.phase_history.specs.declared.event.Event.{Event}
use Rattle.phase_history.specs.declared.event.Event.TheVariants.{Made, Registered, RegisteredNow, Signalled, Waited, Dropped}
use Rattle.phase_base.specs.Members.{Members, member, entry_of, signal_phases, least, signalled, waited}
use Rattle.phase_history.specs.Histories.{History, Positions, positions_of, members_of, top_of, done_of, done_at, founder, entry_at, member_entry, signal_phase, wait_phase, greatest_used}
use Rattle.phase_history.specs.Phases.{sends_of_phase, named_in_phase, value_of_phase, list_in_phase, first_named, is_among, single_of_phase}
use Rattle.phase_history.specs.Legal.{IsAccepted, IsLegal}
use Rattle.phase_history.proofs.Each.{Each, Each-from, Each-push, Each-filter, Each-picked, Each-of_picked, least_or_low, least_or_high, least_or_top}
use Rattle.phase_history.proofs.MemberLemmas.{Each-entry, Each-changed, holds_signals, holds_waits, signal_phases-waited}
use Rattle.phase_history.proofs.Refused.{Registers, registers_from, SignalsNow, signals_from, WaitsNow, waits_from}

-- the facts of a member in a legal history
pub record StandsWell (done top greatest : ℕ) (m : Member) : Type 0 where
  pub below : m.entry.signal_phase ≤ top
  pub waits : mode_waits m.entry.mode ≡ true → m.entry.wait_phase ≤ done
  pub used : m.task ≤ greatest

abbrev pub IsSound : History → Type 0
IsSound h = Each (StandsWell (done_of h) (top_of h) (greatest_used h)) (members_of h)

-- what is no more than each signaller's phase, and than the top, is no more than done
done_high : (now : Positions) (b : ℕ) → Each (λ (m : Member). mode_signals m.entry.mode ≡ true → b ≤ m.entry.signal_phase) now.members
    → b ≤ now.top → b ≤ done_at now
done_high now b each top =
    least_or_high (signal_phases now.members) now.top b
    (Each-picked (λ x. b ≤ x) (λ (m : Member). m.entry.signal_phase)
    (λ (m : Member). mode_signals m.entry.mode) now.members each) top

-- done is no more than each signaller's phase
pub done_low : (now : Positions)
    → Each (λ (m : Member). mode_signals m.entry.mode ≡ true → done_at now ≤ m.entry.signal_phase) now.members
done_low now =
    Each-of_picked (λ x. done_at now ≤ x) (λ (m : Member). m.entry.signal_phase)
    (λ (m : Member). mode_signals m.entry.mode) now.members
    (least_or_low (signal_phases now.members) now.top)

-- in a sound history done is no more than the top
pub done_below_top : (h : History) → IsSound h → done_of h ≤ top_of h
done_below_top h sound =
    least_or_top (signal_phases (members_of h)) (top_of h)
    (Each-picked (λ x. x ≤ top_of h) (λ (m : Member). m.entry.signal_phase)
    (λ (m : Member). mode_signals m.entry.mode) (members_of h)
    (Each-from (StandsWell (done_of h) (top_of h) (greatest_used h)) _ (λ m good _. good.below) (members_of h) sound))

-- the entry of a member is the one that is looked up
pub member_entry_is : (ms : Members) (task : ℕ) (e : Entry) → entry_of ms task ≡ Some e → member_entry ms task ≡ e
member_entry_is ms task e found = ap (λ o. unwrap_or o founder) found

-- what stands well still does where done, top and the greatest number are no less
stands_later : (done top greatest done' top' greatest' : ℕ) → done ≤ done' → top ≤ top' → greatest ≤ greatest'
    → (m : Member) → StandsWell done top greatest m → StandsWell done' top' greatest' m
stands_later done top greatest done' top' greatest' a b c m good = record {
  below = (let h : m.entry.signal_phase ≤ top = good.below in omega arith);
  waits = λ w. (let h : m.entry.wait_phase ≤ done = good.waits w in omega arith);
  used = (let h : m.task ≤ greatest = good.used in omega arith);
}

-- what an event leaves: done is no less, the members stand well, and no complete phase changed
pub record Steps (before : History) (event : Event) : Type 0 where
  pub grows : done_of before ≤ done_of (event ∷ before)
  pub sound : IsSound (event ∷ before)
  pub same : (value : List ℤ → Outcome) (p : ℕ) → p < done_of before
      → value_of_phase value (event ∷ before) p ≡ value_of_phase value before p

-- a child that stands at a phase of its parent, and at a wait phase that is complete
joins : (h : History) (e : Entry) (child : ℕ) (mode : Mode) (w : ℕ) → IsSound h → (parent : ℕ)
    → entry_of (members_of h) parent ≡ Some e
    → (mode_signals mode ≡ true → mode_signals e.mode ≡ true) → (mode_waits mode ≡ true → w ≤ done_of h)
    → (greatest : ℕ) → greatest_used h ≤ greatest → child ≤ greatest
    → (now : Positions) → now.members ≡ members_of h ++ member child (entry_at mode e.signal_phase w) ∷ [] → now.top ≡ top_of h
    → (done_of h ≤ done_at now) × Each (StandsWell (done_at now) now.top greatest) now.members
joins h e child mode w sound parent found signals waits greatest grows new now members_are top_is =
    let lows = done_low (positions_of h) in
    let P : Members → Type 0 = λ ms. Each (λ (m : Member). mode_signals m.entry.mode ≡ true → done_of h ≤ m.entry.signal_phase) ms in
    let parent_low : mode_signals e.mode ≡ true → done_of h ≤ e.signal_phase = Each-entry _ (members_of h) parent e found lows in
    let parent_good : StandsWell (done_of h) (top_of h) (greatest_used h) (member parent e) =
    Each-entry _ (members_of h) parent e found sound in
    let all_low : P now.members = subst P (sym members_are)
    (Each-push _ (members_of h) (member child (entry_at mode e.signal_phase w)) lows (λ s. parent_low (signals s))) in
    let top_low : done_of h ≤ now.top = (let a : done_of h ≤ top_of h = done_below_top h sound in omega arith) in
    let done_grows : done_of h ≤ done_at now = done_high now (done_of h) all_low top_low in (
      done_grows,
      rw (← members_are) at (Each-push _ (members_of h) (member child (entry_at mode e.signal_phase w))
          (Each-from (StandsWell (done_of h) (top_of h) (greatest_used h)) (StandsWell (done_at now) now.top greatest)
          (stands_later _ _ _ _ _ _ done_grows (omega arith) grows) (members_of h) sound)
          (record {
            below = (let a : e.signal_phase ≤ top_of h = parent_good.below in omega arith);
            waits = λ t. (let a : w ≤ done_of h = waits t in omega arith);
            used = new;
          })),
    )

steps_registered : (before : History) (parent child : ℕ) (mode : Mode) → IsSound before
    → Registers before parent child mode → Steps before (Registered parent child mode)
steps_registered before parent child mode sound r =
    let ms = members_of before in
    let is : member_entry ms parent ≡ r.entry = member_entry_is ms parent r.entry r.is_member in
    let good : StandsWell (done_of before) (top_of before) (greatest_used before) (member parent r.entry) =
    Each-entry _ ms parent r.entry r.is_member sound in
    let j = joins before r.entry child mode r.entry.wait_phase sound parent r.is_member
    (holds_signals r.entry.mode mode r.allowed) (λ w. good.waits (holds_waits r.entry.mode mode r.allowed w))
    (max child (greatest_used before)) (omega arith) (omega arith)
    (positions_of (Registered parent child mode ∷ before))
    (ap (λ (e : Entry). ms ++ member child (entry_at mode e.signal_phase e.wait_phase) ∷ []) is) refl in
    record { grows = j.0; sound = j.1; same = λ value p h. refl }

steps_registered_now : (before : History) (parent child : ℕ) → IsSound before
    → Registers before parent child Wait → Steps before (RegisteredNow parent child)
steps_registered_now before parent child sound r =
    let ms = members_of before in
    let is : member_entry ms parent ≡ r.entry = member_entry_is ms parent r.entry r.is_member in
    let j = joins before r.entry child Wait (done_of before) sound parent r.is_member
    (holds_signals r.entry.mode Wait r.allowed) (λ w. omega arith)
    (max child (greatest_used before)) (omega arith) (omega arith)
    (positions_of (RegisteredNow parent child ∷ before))
    (ap (λ (e : Entry). ms ++ member child (entry_at Wait e.signal_phase (done_of before)) ∷ []) is) refl in
    record { grows = j.0; sound = j.1; same = λ value p h. refl }

-- no list stands in a phase before the first
pub list_in_phase-below : (lists : List (List ℤ)) (s p : ℕ) → p < s → list_in_phase lists s p ≡ []
list_in_phase-below [] s p h = refl
list_in_phase-below (sends ∷ lists) s p h =
    let apart : eqb s p ≡ false = ne_eqb s p (λ e. omega arith) in
    rw apart (list_in_phase-below lists (s + 1) p (omega arith))

-- a signal that does not join the phase names nothing there
pub first_named_not : (named : Option (Option Single)) (joins : Bool) (single : Option Single)
    → joins ≡ false → first_named named joins single ≡ named
first_named_not (Some named) joins single e = refl
first_named_not None joins single e = rw e refl

-- a signal changes no phase before its own
pub signalled_before : (value : List ℤ → Outcome) (before : History) (task : ℕ) (lists : List (List ℤ))
    (single : Option Single) (p : ℕ)
    → p < signal_phase before task
    → value_of_phase value (Signalled task lists single ∷ before) p ≡ value_of_phase value before p
signalled_before value before task lists single p h =
    let s = signal_phase before task in
    let sends : sends_of_phase (Signalled task lists single ∷ before) p ≡ sends_of_phase before p =
    ap (λ l. sends_of_phase before p ++ l) (list_in_phase-below lists s p h) ∙ append-nil _ in
    let early : leb s p ≡ false = lt-leb s p h in
    let outside : is_among s (length lists) p ≡ false = rw early refl in
    let named : named_in_phase (Signalled task lists single ∷ before) p ≡ named_in_phase before p =
    first_named_not (named_in_phase before p) _ single outside in
    ap (λ n. applied (single_of n) (value (sends_of_phase (Signalled task lists single ∷ before) p))) named
    ∙ ap (λ l. applied (single_of_phase before p) (value l)) sends
  where
    single_of : Option (Option Single) → Option Single
    single_of (Some single) = single
    single_of None = None

steps_signalled : (before : History) (task : ℕ) (lists : List (List ℤ)) (single : Option Single) → IsSound before
    → SignalsNow before task → Steps before (Signalled task lists single)
steps_signalled before task lists single sound r =
    let ms = members_of before in
    let n = length lists in
    let now = positions_of (Signalled task lists single ∷ before) in
    let is : member_entry ms task ≡ r.entry = member_entry_is ms task r.entry r.is_member in
    let s_is : signal_phase before task ≡ r.entry.signal_phase = ap (λ (e : Entry). e.signal_phase) is in
    let lows = done_low (positions_of before) in
    let own : mode_signals r.entry.mode ≡ true → done_of before ≤ r.entry.signal_phase =
    Each-entry _ ms task r.entry r.is_member lows in
    let own_low : done_of before ≤ r.entry.signal_phase = own r.signals in
    let top_is : now.top ≡ max (top_of before) (r.entry.signal_phase + n) =
    ap (λ (e : Entry). max (top_of before) (e.signal_phase + n)) is in
    let top_low : done_of before ≤ now.top =
    (let a : done_of before ≤ top_of before = done_below_top before sound in omega arith) in
    let all_low : Each (λ (m : Member). mode_signals m.entry.mode ≡ true → done_of before ≤ m.entry.signal_phase) now.members =
    Each-changed _ _ task (signalled n) r.entry ms r.is_member (λ m h. h) (λ h t. omega arith) lows in
    let done_grows : done_of before ≤ done_at now = done_high now (done_of before) all_low top_low in
    record {
      grows = done_grows;
      sound = Each-changed (StandsWell (done_of before) (top_of before) (greatest_used before))
          (StandsWell (done_at now) now.top (greatest_used before))
          task (signalled n) r.entry ms r.is_member
          (stands_later _ _ _ _ _ _ done_grows (omega arith) (omega arith))
          (λ good. record {
            below = omega arith;
            waits = λ t. (let a : r.entry.wait_phase ≤ done_of before = good.waits t in omega arith);
            used = good.used;
          })
          sound;
      same = λ value p h. signalled_before value before task lists single p (omega arith);
    }

steps_waited : (before : History) (task n : ℕ) → IsSound before → WaitsNow before task
    → wait_phase before task + n ≤ done_of before → Steps before (Waited task n)
steps_waited before task n sound r fits =
    let ms = members_of before in
    let is : member_entry ms task ≡ r.entry = member_entry_is ms task r.entry r.is_member in
    let w_is : wait_phase before task ≡ r.entry.wait_phase = ap (λ (e : Entry). e.wait_phase) is in
    let done_is : done_of (Waited task n ∷ before) ≡ done_of before =
    ap (λ xs. unwrap_or (least xs) (top_of before)) (signal_phases-waited ms task n) in
    record {
      grows = omega arith;
      sound = Each-changed (StandsWell (done_of before) (top_of before) (greatest_used before))
          (StandsWell (done_of (Waited task n ∷ before)) (top_of before) (greatest_used before))
          task (waited n) r.entry ms r.is_member
          (stands_later _ _ _ _ _ _ (omega arith) (omega arith) (omega arith))
          (λ good. record { below = good.below; waits = λ t. omega arith; used = good.used })
          sound;
      same = λ value p h. refl;
    }

steps_dropped : (before : History) (task : ℕ) → IsSound before → Steps before (Dropped task)
steps_dropped before task sound =
    let ms = members_of before in
    let now = positions_of (Dropped task ∷ before) in
    let test : Member → Bool = λ m. not (eqb m.task task) in
    let done_grows : done_of before ≤ done_at now =
    done_high now (done_of before) (Each-filter _ test ms (done_low (positions_of before))) (done_below_top before sound) in
    record {
      grows = done_grows;
      sound = Each-filter _ test ms
          (Each-from (StandsWell (done_of before) (top_of before) (greatest_used before))
          (StandsWell (done_at now) (top_of before) (greatest_used before))
          (stands_later _ _ _ _ _ _ done_grows (omega arith) (omega arith)) ms sound);
      same = λ value p h. refl;
    }

-- the founder alone stands well
made_sound : (task : ℕ) → IsSound (Made task ∷ [])
made_sound task = (record { below = omega arith; waits = λ t. omega arith; used = omega arith }, tt)

-- one more event of a sound history
pub steps : (limits : Limits) (before : History) (event : Event) → IsLegal limits before → IsSound before
    → IsAccepted limits before event → Steps before event
steps limits before (Made task) legal sound accepted =
    absurd (rw accepted.1 at legal)
steps limits before (Registered parent child mode) legal sound accepted =
    steps_registered before parent child mode sound (registers_from before parent child mode accepted)
steps limits before (RegisteredNow parent child) legal sound accepted =
    steps_registered_now before parent child sound (registers_from before parent child Wait accepted)
steps limits before (Signalled task lists single) legal sound accepted =
    steps_signalled before task lists single sound (signals_from limits before task lists single accepted.0)
steps limits before (Waited task n) legal sound accepted =
    steps_waited before task n sound (waits_from limits before task n accepted.0) accepted.1
steps limits before (Dropped task) legal sound accepted = steps_dropped before task sound

-- the members of a legal history stand well
pub sound_of : (limits : Limits) (h : History) → IsLegal limits h → IsSound h
sound_of limits [] legal = absurd legal
sound_of limits (Made task ∷ before) legal =
    let P : History → Type 0 = λ b. IsSound (Made task ∷ b) in subst P (sym legal.1) (made_sound task)
sound_of limits (Registered parent child mode ∷ before) legal =
    (steps limits before (Registered parent child mode) legal.0 (sound_of limits before legal.0) legal.1).sound
sound_of limits (RegisteredNow parent child ∷ before) legal =
    (steps limits before (RegisteredNow parent child) legal.0 (sound_of limits before legal.0) legal.1).sound
sound_of limits (Signalled task lists single ∷ before) legal =
    (steps limits before (Signalled task lists single) legal.0 (sound_of limits before legal.0) legal.1).sound
sound_of limits (Waited task n ∷ before) legal =
    (steps limits before (Waited task n) legal.0 (sound_of limits before legal.0) legal.1).sound
sound_of limits (Dropped task ∷ before) legal =
    (steps limits before (Dropped task) legal.0 (sound_of limits before legal.0) legal.1).sound
