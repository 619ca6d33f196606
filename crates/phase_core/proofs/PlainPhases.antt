-- Phases of one send each, of which the values alone are kept.
use Rattle.std.proofs.Common.{◌≡◌, ℕ, zero, suc, ◌+◌, ◌-◌, ◌<◌, ◌≤◌, true, false, ◌&&◌, eqb, leb, ltb, List, [], ◌∷◌, ◌++◌, Some, None, ℤ, pos, max, get_or, map, drop, replicate, unwrap_or, length, refl, sym, ap, subst, ◌∙◌, arith, ⊎_elim}
use Rattle.std.specs.Prelude.{slice_get}
use Rattle.std.proofs.lemmas.List.{append-nil, length-append, length-map, length-drop}
use Rattle.std.proofs.lemmas.Option.{same_Some}
use Rattle.std.proofs.lemmas.Bool.{le-leb, lt-ltb, lt-leb, cases_lt}
use Rattle.phase_ring.proofs.Slots.{slice_get-append_left}
use Rattle.phase_ring.proofs.Held.{AreSends-at}
use Rattle.phase_base.specs.Limits.{Limits}
use Rattle.phase_base.specs.declared.entry.Entry.{Entry}
use Rattle.phase_base.specs.Members.{entry_of, changed_at, signalled, waited, wait_phases, least}
use Rattle.phase_registry.specs.Rosters.{Roster, roster}
use Rattle.phase_accum.specs.Operations.{Operation, AccumulateLaws}
use Rattle.phase_accum.specs.Sends.{AreSends}
use Rattle.phase_accum.proofs.Parts.{IsPartOf-one}
use Rattle.phase_history.specs.declared.event.Event.TheVariants.{Signalled, Waited}
use Rattle.phase_history.specs.Histories.{History, members_of, top_of, done_of, signal_phase}
use Rattle.phase_history.specs.Phases.{value_of_phase, sends_of_phase, named_in_phase, list_in_phase, first_named, is_among}
use Rattle.phase_history.specs.declared.refusal.SignalRefusal.{SignalRefusal}
use Rattle.phase_history.specs.declared.refusal.SignalRefusal.TheVariants as refusal
use Rattle.phase_history.specs.Refusals.{signal_refusal, wait_refusal, phase_rows, list_rows}
use Rattle.phase_base.specs.Modes.{mode_waits}
use Rattle.phase_base.specs.Lists.{first_row}
use Rattle.phase_history.proofs.Refused.{first_row_none}
use Rattle.phase_history.specs.Legal.{IsLegal, AreLists}
use Rattle.phase_core.proofs.SignalRows.{first_or, first_row-append}
use Rattle.phase_history.proofs.MemberLemmas.{wait_phases-signalled}
use Rattle.phase_history.proofs.Sendings.{list_in_phase-place}
use Rattle.phase_history.proofs.BlockLeaves.{is_among-below}
use Rattle.phase_history.proofs.Steps.{first_named_not, list_in_phase-below}
use Rattle.phase_core.specs.Slots.{KeptSlot}
use Rattle.phase_core.specs.Blocks.{one_each}
use Rattle.phase_core.specs.Cores.{CoreState, StandsFor, KeepsPhase, KeepsSends}
use Rattle.phase_core.specs.Plain.{plain_slot, plain_core, unused_slot}
use Rattle.phase_core.proofs.CoreSteps.{none_from_top, waits_stands, kept_value}
use Rattle.phase_core.proofs.Replies.{signal_phase_is}

-- ---- the slots behind the values

-- the same core without the slots of phases that no signal has joined
abbrev pub short_core : {A : Type 0} → Operation A → Roster → Limits → ℕ → List ℤ → CoreState A
short_core op r limits base values = record {
  limits = limits;
  members = r.members;
  greatest = unwrap_or r.greatest 0;
  top = base + length values;
  base = base;
  slots = map (plain_slot op) values;
}

-- both stand for the same
pub to_short : {A : Type 0} (op : Operation A) (r : Roster) (limits : Limits) (base : ℕ) (xs : List ℤ) (h : History)
    → StandsFor op (plain_core op r limits base xs) h → StandsFor op (short_core op r limits base xs) h
to_short op r limits base xs h stands = record {
  legal = stands.legal;
  members_are = stands.members_are;
  greatest_is = stands.greatest_is;
  top_is = stands.top_is;
  phases_are = λ slowest p waiter behind below.
      let k : KeepsPhase op (plain_core op r limits base xs) h p = stands.phases_are slowest p waiter behind below in
      let at : base + k.is_slot.place ≡ p = k.is_slot.place_is in
      let within : k.is_slot.place < length (map (plain_slot op) xs) = omega (arith, length-map xs (plain_slot op)) in
      record {
        slot = k.slot;
        is_slot = record {
          place = k.is_slot.place;
          place_is = k.is_slot.place_is;
          found = sym (slice_get-append_left (map (plain_slot op) xs) (replicate (limits.bound + 1 - length xs) (unused_slot op)) k.is_slot.place within) ∙ k.is_slot.found;
        };
        keeps = k.keeps;
      };
}

pub to_plain : {A : Type 0} (op : Operation A) (r : Roster) (limits : Limits) (base : ℕ) (xs : List ℤ) (h : History)
    → StandsFor op (short_core op r limits base xs) h → StandsFor op (plain_core op r limits base xs) h
to_plain op r limits base xs h stands = record {
  legal = stands.legal;
  members_are = stands.members_are;
  greatest_is = stands.greatest_is;
  top_is = stands.top_is;
  phases_are = λ slowest p waiter behind below.
      let k : KeepsPhase op (short_core op r limits base xs) h p = stands.phases_are slowest p waiter behind below in
      let at : base + k.is_slot.place ≡ p = k.is_slot.place_is in
      let within : k.is_slot.place < length (map (plain_slot op) xs) = omega (arith, length-map xs (plain_slot op)) in
      record {
        slot = k.slot;
        is_slot = record {
          place = k.is_slot.place;
          place_is = k.is_slot.place_is;
          found = slice_get-append_left (map (plain_slot op) xs) (replicate (limits.bound + 1 - length xs) (unused_slot op)) k.is_slot.place within ∙ k.is_slot.found;
        };
        keeps = k.keeps;
      };
}

-- ---- places

found_at : {X : Type 0} (f : ℤ → X) (values : List ℤ) (i : ℕ) (d : ℤ) → i < length values → slice_get (map f values) i ≡ Some (f (get_or values i d))
found_at f [] i d within = absurd (omega arith)
found_at f (v ∷ values) zero d within = refl
found_at f (v ∷ values) (suc i) d within = found_at f values i d (omega arith)

found_behind : {X : Type 0} (f : ℤ → X) (xs values : List ℤ) (i : ℕ) (d : ℤ) → i < length values → slice_get (map f (xs ++ values)) (length xs + i) ≡ Some (f (get_or values i d))
found_behind f [] values i d within = ap (slice_get (map f values)) (let z : 0 + i ≡ i = omega arith in z) ∙ found_at f values i d within
found_behind f (x ∷ xs) values i d within =
    let next : suc (length xs) + i ≡ suc (length xs + i) = omega arith in
    ap (slice_get (f x ∷ map f (xs ++ values))) next ∙ found_behind f xs values i d within

found_before : {X : Type 0} (f : ℤ → X) (xs values : List ℤ) (k : ℕ) (y : X) → slice_get (map f xs) k ≡ Some y → slice_get (map f (xs ++ values)) k ≡ Some y
found_before f [] values k y found = absurd (cc)
found_before f (x ∷ xs) values zero y found = found
found_before f (x ∷ xs) values (suc k) y found = found_before f xs values k y found

found_dropped : {X : Type 0} (f : ℤ → X) (xs : List ℤ) (k j : ℕ) (y : X) → slice_get (map f xs) (k + j) ≡ Some y → slice_get (map f (drop k xs)) j ≡ Some y
found_dropped f xs zero j y found = ap (slice_get (map f xs)) (let z : j ≡ 0 + j = omega arith in z) ∙ found
found_dropped f [] (suc k) j y found = absurd (cc)
found_dropped f (x ∷ xs) (suc k) j y found =
    let next : suc (k + j) ≡ suc k + j = omega arith in
    found_dropped f xs k j y (ap (slice_get (f x ∷ map f xs)) next ∙ found)

one_at : (values : List ℤ) (i : ℕ) (d : ℤ) → i < length values → get_or (one_each values) i [] ≡ get_or values i d ∷ []
one_at [] i d within = absurd (omega arith)
one_at (v ∷ values) zero d within = refl
one_at (v ∷ values) (suc i) d within = one_at values i d (omega arith)

one_lists : (values : List ℤ) → AreSends values → AreLists (one_each values)
one_lists [] are = tt
one_lists (v ∷ values) are = ((are.0, tt), omega arith, one_lists values are.1)

-- ---- a signal

pub signals_stand : {A : Type 0} (op : Operation A) (laws : AccumulateLaws op) (r new : Roster) (limits : Limits) (base : ℕ) (xs values : List ℤ) (h : History) (task : ℕ) (e : Entry)
    → StandsFor op (short_core op r limits base xs) h → entry_of r.members task ≡ Some e → e.signal_phase ≡ base + length xs
    → AreSends values → signal_refusal limits h task (one_each values) None ≡ None
    → new ≡ roster (changed_at task (signalled (length values)) r.members) r.greatest
    → StandsFor op (short_core op new limits base (xs ++ values)) (Signalled task (one_each values) None ∷ h)
signals_stand {A} op laws r new limits base xs values h task e stands found at_top sends none new_is =
    let n = length values in
    let lists = one_each values in
    let s = signal_phase h task in
    let want = roster (changed_at task (signalled n) r.members) r.greatest in
    let len : length lists ≡ n = length-map values (λ v. v ∷ []) in
    let at : s ≡ base + length xs = signal_phase_is op (short_core op r limits base xs) h task e stands found ∙ at_top in
    let top : base + length xs ≡ top_of h = stands.top_is in
    let long : length (xs ++ values) ≡ length xs + n = length-append xs values in
    let there : StandsFor op (short_core op want limits base (xs ++ values)) (Signalled task lists None ∷ h) = record {
      legal = (stands.legal, (none, one_lists values sends, tt));
      members_are = ap (λ ms. changed_at task (signalled n) ms) stands.members_are ∙ ap (λ k. changed_at task (signalled k) (members_of h)) (sym len);
      greatest_is = stands.greatest_is;
      top_is = (let t : base + length (xs ++ values) ≡ max (top_of h) (s + length lists) = omega arith in t);
      phases_are = λ slowest p waiter behind below.
          let old_waiter : least (wait_phases r.members) ≡ Some slowest = sym (ap least (wait_phases-signalled r.members task n)) ∙ waiter in
          ⊎_elim
          (λ old.
          let k : KeepsPhase op (short_core op r limits base xs) h p = stands.phases_are slowest p old_waiter behind old in
          let none_here : list_in_phase lists s p ≡ [] = list_in_phase-below lists s p (omega arith) in
          let same : sends_of_phase h p ++ list_in_phase lists s p ≡ sends_of_phase h p = ap (λ l. sends_of_phase h p ++ l) none_here ∙ append-nil (sends_of_phase h p) in
          let outside : is_among s (length lists) p ≡ false = is_among-below s s (length lists) p (omega arith) (omega arith) in
          record {
            slot = k.slot;
            is_slot = record {
              place = k.is_slot.place;
              place_is = k.is_slot.place_is;
              found = found_before (plain_slot op) xs values k.is_slot.place k.slot k.is_slot.found;
            };
            keeps = record {
              part_is = rw same k.keeps.part_is;
              count_is = k.keeps.count_is ∙ ap length (sym same);
              named_is = k.keeps.named_is ∙ sym (first_named_not (named_in_phase h p) _ None outside);
            };
          })
          (λ from.
          let i = p - (base + length xs) in
          let within : i < n = omega arith in
          let v = get_or values i (pos 0) in
          let nothing = none_from_top limits h p stands.legal (omega arith) in
          let placed : s + i ≡ p = omega arith in
          let is : sends_of_phase h p ++ list_in_phase lists s p ≡ v ∷ [] =
          ap (λ l. l ++ list_in_phase lists s p) nothing.0 ∙ list_in_phase-place lists s i p placed ∙ one_at values i (pos 0) within in
          let among : is_among s (length lists) p ≡ true =
          ap (λ b. b && ltb p (s + length lists)) (le-leb s p (omega arith)) ∙ lt-ltb p (s + length lists) (omega arith) in
          record {
            slot = plain_slot op v;
            is_slot = record {
              place = length xs + i;
              place_is = omega arith;
              found = found_behind (plain_slot op) xs values i (pos 0) within;
            };
            keeps = record {
              part_is = rw is (IsPartOf-one op v laws (AreSends-at values i (pos 0) sends within));
              count_is = ap length (sym is);
              named_is = sym (ap (λ o. first_named o (is_among s (length lists) p) None) nothing.1 ∙ ap (λ b. first_named None b None) among);
            };
          })
          (cases_lt p (base + length xs));
    } in
    rw new_is there

-- ---- a wait

pub waits_stand : {A : Type 0} (op : Operation A) (r new : Roster) (limits : Limits) (base n k : ℕ) (xs : List ℤ) (h : History) (task : ℕ) (e : Entry)
    → StandsFor op (short_core op r limits base xs) h → entry_of r.members task ≡ Some e
    → wait_refusal limits h task n ≡ None → e.wait_phase + n ≤ done_of h
    → new ≡ roster (changed_at task (waited n) r.members) r.greatest → k ≤ length xs
    → ((slowest : ℕ) → least (wait_phases new.members) ≡ Some slowest → base + k ≤ slowest)
    → StandsFor op (short_core op new limits (base + k) (drop k xs)) (Waited task n ∷ h)
waits_stand {A} op r new limits base n k xs h task e stands found none complete new_is few low =
    let long : length (drop k xs) ≡ length xs - k = length-drop k xs in
    waits_stands op (short_core op r limits base xs) (short_core op new limits (base + k) (drop k xs)) h task n e stands found none complete
    (record {
      limits_same = refl;
      greatest_same = ap (λ (x : Roster). unwrap_or x.greatest 0) new_is;
      members_are = ap (λ (x : Roster). x.members) new_is;
      top_same = (let t : base + k + length (drop k xs) ≡ base + length xs = omega arith in t);
      kept = λ slowest p slot waiter behind is.
          let from = low slowest waiter in
          let at : base + is.place ≡ p = is.place_is in
          let place : k + (is.place - k) ≡ is.place = omega arith in
          record {
            place = is.place - k;
            place_is = (let q : base + k + (is.place - k) ≡ p = omega arith in q);
            found = found_dropped (plain_slot op) xs k (is.place - k) slot (ap (slice_get (map (plain_slot op) xs)) place ∙ is.found);
          };
    })

-- ---- the values

pub value_stands : {A : Type 0} (op : Operation A) (laws : AccumulateLaws op) (r : Roster) (limits : Limits) (base p : ℕ) (xs : List ℤ) (h : History)
    → StandsFor op (short_core op r limits base xs) h → least (wait_phases r.members) ≡ Some base → base ≤ p → p < base + length xs
    → value_of_phase op.value h p ≡ op.finish (op.of (get_or xs (p - base) (pos 0)))
value_stands {A} op laws r limits base p xs h stands waiter low below =
    let k : KeepsPhase op (short_core op r limits base xs) h p = stands.phases_are base p waiter low below in
    let v = get_or xs (p - base) (pos 0) in
    let at : base + k.is_slot.place ≡ p = k.is_slot.place_is in
    let place : k.is_slot.place ≡ p - base = omega arith in
    let one : Some k.slot ≡ Some (plain_slot op v) =
    sym k.is_slot.found ∙ ap (slice_get (map (plain_slot op) xs)) place ∙ found_at (plain_slot op) xs (p - base) (pos 0) (omega arith) in
    let same : k.slot ≡ plain_slot op v = same_Some _ _ one in
    let K : KeptSlot A → Type 0 = λ slot. KeepsSends op slot h p in
    sym (kept_value op laws (plain_slot op v) h p (subst K same k.keeps))

-- ---- the refusals

-- no row of a phase from the top on applies
row_fits : (limits : Limits) (b : ℕ) (e : Entry) → mode_waits e.mode ≡ false → e.signal_phase < limits.phases_max → e.signal_phase < b + limits.bound
    → first_row (phase_rows limits (Some b) 0 None 1 None e) ≡ None
row_fits limits b e waits far near =
    first_row_none (phase_rows limits (Some b) 0 None 1 None e)
    (ap (λ w. w && eqb e.signal_phase (e.wait_phase + 1)) waits, (lt-leb limits.phases_max e.signal_phase far, (lt-leb (b + limits.bound) e.signal_phase near, (refl, (refl, tt)))))

-- and none of the phases of a block
pub rows_fit : (limits : Limits) (h : History) (b : ℕ) (values : List ℤ) (e : Entry)
    → IsLegal limits h → least (wait_phases (members_of h)) ≡ Some b → top_of h ≤ e.signal_phase → mode_waits e.mode ≡ false
    → e.signal_phase + length values ≤ limits.phases_max → e.signal_phase + length values ≤ b + limits.bound
    → first_row (list_rows limits h (one_each values) None e) ≡ None
rows_fit limits h b [] e legal slow above waits far near = refl
rows_fit limits h b (v ∷ values) e legal slow above waits far near =
    let p = e.signal_phase in
    let nothing = none_from_top limits h p legal above in
    let rest = list_rows limits h (one_each values) None (signalled 1 e) in
    let row : first_row (phase_rows limits (least (wait_phases (members_of h))) (length (sends_of_phase h p)) (named_in_phase h p) 1 None e) ≡ None =
    ap (λ o. first_row (phase_rows limits o (length (sends_of_phase h p)) (named_in_phase h p) 1 None e)) slow
    ∙ ap (λ (l : List ℤ). first_row (phase_rows limits (Some b) (length l) (named_in_phase h p) 1 None e)) nothing.0
    ∙ ap (λ o. first_row (phase_rows limits (Some b) 0 o 1 None e)) nothing.1
    ∙ row_fits limits b e waits (omega arith) (omega arith) in
    first_row-append (phase_rows limits (least (wait_phases (members_of h))) (length (sends_of_phase h p)) (named_in_phase h p) 1 None e) rest
    ∙ ap (λ x. first_or x (first_row rest)) row
    ∙ rows_fit limits h b values (signalled 1 e) legal slow (omega arith) waits (omega arith) (omega arith)

-- where they go past this phase, its row answers
pub rows_stop : (limits : Limits) (h : History) (b stop : ℕ) (refusal : SignalRefusal) (values : List ℤ) (e : Entry)
    → IsLegal limits h → least (wait_phases (members_of h)) ≡ Some b → top_of h ≤ e.signal_phase → mode_waits e.mode ≡ false
    → e.signal_phase ≤ stop → stop < e.signal_phase + length values
    → ((p : ℕ) → e.signal_phase ≤ p → p < stop → (p < limits.phases_max) × (p < b + limits.bound))
    → ((x : Entry) → mode_waits x.mode ≡ false → x.signal_phase ≡ stop → first_row (phase_rows limits (Some b) 0 None 1 None x) ≡ Some refusal)
    → first_row (list_rows limits h (one_each values) None e) ≡ Some refusal
rows_stop limits h b stop refusal [] e legal slow above waits before past fits row = absurd (omega arith)
rows_stop limits h b stop refusal (v ∷ values) e legal slow above waits before past fits row =
    let p = e.signal_phase in
    let nothing = none_from_top limits h p legal above in
    let rest = list_rows limits h (one_each values) None (signalled 1 e) in
    let fresh : first_row (phase_rows limits (least (wait_phases (members_of h))) (length (sends_of_phase h p)) (named_in_phase h p) 1 None e) ≡ first_row (phase_rows limits (Some b) 0 None 1 None e) =
    ap (λ o. first_row (phase_rows limits o (length (sends_of_phase h p)) (named_in_phase h p) 1 None e)) slow
    ∙ ap (λ (l : List ℤ). first_row (phase_rows limits (Some b) (length l) (named_in_phase h p) 1 None e)) nothing.0
    ∙ ap (λ o. first_row (phase_rows limits (Some b) 0 o 1 None e)) nothing.1 in
    first_row-append (phase_rows limits (least (wait_phases (members_of h))) (length (sends_of_phase h p)) (named_in_phase h p) 1 None e) rest
    ∙ ⊎_elim
    (λ (more : p < stop).
    ap (λ x. first_or x (first_row rest)) (fresh ∙ row_fits limits b e waits (fits p (omega arith) more).0 (fits p (omega arith) more).1)
    ∙ rows_stop limits h b stop refusal values (signalled 1 e) legal slow (omega arith) waits (omega arith) (omega arith) (λ q from. fits q (omega arith)) row)
    (λ (here : stop ≤ p).
    ap (λ x. first_or x (first_row rest)) (fresh ∙ row e waits (let at : p ≡ stop = omega arith in at)))
    (cases_lt p stop)

-- the phase past the last, and the one that is ahead
pub spent_row : (limits : Limits) (b : ℕ) (x : Entry) → mode_waits x.mode ≡ false → limits.phases_max ≤ x.signal_phase
    → first_row (phase_rows limits (Some b) 0 None 1 None x) ≡ Some refusal.Spent
spent_row limits b x waits past_last =
    let twice : (mode_waits x.mode && eqb x.signal_phase (x.wait_phase + 1)) ≡ false = ap (λ w. w && eqb x.signal_phase (x.wait_phase + 1)) waits in
    let past : leb limits.phases_max x.signal_phase ≡ true = le-leb limits.phases_max x.signal_phase past_last in
    rw (twice, past) refl

pub ahead_row : (limits : Limits) (b : ℕ) (x : Entry) → mode_waits x.mode ≡ false → x.signal_phase ≡ b + limits.bound → b + limits.bound < limits.phases_max
    → first_row (phase_rows limits (Some b) 0 None 1 None x) ≡ Some refusal.Ahead
ahead_row limits b x waits at near =
    let twice : (mode_waits x.mode && eqb x.signal_phase (x.wait_phase + 1)) ≡ false = ap (λ w. w && eqb x.signal_phase (x.wait_phase + 1)) waits in
    let within : leb limits.phases_max x.signal_phase ≡ false = lt-leb limits.phases_max x.signal_phase (omega arith) in
    let ahead : leb (b + limits.bound) x.signal_phase ≡ true = le-leb (b + limits.bound) x.signal_phase (omega arith) in
    rw (twice, within, ahead) refl
