-- The refusal of a signal: the rows of its phases by the ring's slots are those of any history that
-- the core stands for.
use Rattle.std.proofs.Common.{◌≡◌, ℕ, ℤ, ◌+◌, ◌<◌, ◌≤◌, Bool, true, false, not, ◌&&◌, cond, eqb, ltb, leb, List, [], ◌∷◌, ◌++◌, Option, Some, None, Err, length, refl, sym, ap, subst, ◌∙◌, arith, drop, slice_index_or, ⊎_elim}
use Rattle.std.specs.Prelude.{is_some, IsSome}
use Rattle.std.specs.Option.{option_map}
use Rattle.std.proofs.lemmas.Bool.{leb-true, leb-false, lt-leb, le-ltb, cases_lt, not-true}
use Rattle.phase_base.specs.Limits.{Limits}
use Rattle.phase_base.specs.Modes.{mode_waits}
use Rattle.phase_base.specs.declared.entry.Entry.{Entry}
use Rattle.phase_base.specs.declared.limits.TheConstants.{SENDS_MAX}
use Rattle.phase_base.specs.Members.{wait_phases, least, signalled}
use Rattle.phase_accum.specs.declared.single.Single.{Single}
use Rattle.phase_accum.specs.Singles.{differs}
use Rattle.phase_accum.specs.Operations.{Operation}
use Rattle.phase_accum.specs.Parcels.{Parcel, StandsForSends}
use Rattle.phase_history.specs.declared.refusal.SignalRefusal.{SignalRefusal}
use Rattle.phase_history.specs.declared.refusal.SignalRefusal.TheVariants as signal
use Rattle.phase_history.specs.Histories.{History, signal_phase, members_of, top_of}
use Rattle.phase_history.specs.Phases.{sends_of_phase, named_in_phase}
use Rattle.phase_history.specs.Refusals.{signal_refusal, is_ahead, phase_rows, list_rows}
use Rattle.phase_base.specs.Lists.{first_row}
use Rattle.phase_history.specs.Replies.{signal_reply, refused_or}
use Rattle.phase_history.proofs.Refused.{no_row, first_row_none}
use Rattle.phase_registry.specs.Rosters.{Roster}
use Rattle.phase_ring.specs.Slots.{Slot, merge_refusal, IsUnused}
use Rattle.phase_ring.specs.Rings.{Ring, slot_at, IsWithin}
use Rattle.phase_ring.specs.declared.slot.MergeRefusal.{MergeRefusal}
use Rattle.phase_ring.specs.declared.slot.MergeRefusal.TheVariants as merge
use Rattle.phase_ring.proofs.Slots.{slot_at-some, slot_at-past}
use Rattle.phase_core.specs.Rows.{refusal_of}
use Rattle.phase_core.specs.Cores.{StandsFor, IsBoarded, core_with}
use Rattle.phase_core.proofs.RingSlots.{slot_keeps}
use Rattle.std.proofs.lemmas.List.{drop_more}
use Rattle.phase_ring.specs.Blocks.{BlockFits}
use Rattle.phase_ring.specs.Boards.{IsRingAt}
use Rattle.phase_core.specs.Blocks.{StandForLists, named_at, count_at, block_rows, IsOpen}
use Rattle.phase_core.specs.Admission.{are_new}
use Rattle.phase_core.proofs.CoreSteps.{none_from_top}

-- ---- a table in two parts

-- the first answer, or else the second
abbrev pub first_or : {R : Type 0} → Option R → Option R → Option R
first_or (Some r) other = Some r
first_or None other = other

pub first_row-append : {R : Type 0} (rows more : List (Bool × R)) → first_row (rows ++ more) ≡ first_or (first_row rows) (first_row more)
first_row-append [] more = refl
first_row-append {R} (row ∷ rows) more =
    elim (row.0) as (λ b. cond b (Some row.1) (first_row (rows ++ more)) ≡ first_or (cond b (Some row.1) (first_row rows)) (first_row more)) [
      | true ↦ refl
      | false ↦ first_row-append rows more
    ]

pub first_or-none : {R : Type 0} (o : Option R) → first_or o None ≡ o
first_or-none None = refl
first_or-none (Some r) = refl

-- the rows that look into the phase
abbrev pub late_rows : Option ℕ → ℕ → Option (Option Single) → ℕ → Option Single → List (Bool × SignalRefusal)
late_rows slowest count named n single =
    (is_some slowest && differs named single, signal.SingleDiffers)
    ∷ (is_some slowest && ltb SENDS_MAX (count + n), signal.PhaseFull)
    ∷ []

-- else they are the ring's
pub late_merge : {A : Type 0} (b n : ℕ) (slot : Slot A) (single : Option Single)
    → first_row (late_rows (Some b) slot.count slot.named n single) ≡ option_map refusal_of (merge_refusal slot n single)
late_merge b n slot single =
    elim (differs slot.named single) as (λ d. cond d (Some signal.SingleDiffers) (cond (ltb SENDS_MAX (slot.count + n)) (Some signal.PhaseFull) None)
    ≡ option_map refusal_of (cond d (Some merge.SingleDiffers) (cond (ltb SENDS_MAX (slot.count + n)) (Some merge.PhaseFull) None))) [
      | true ↦ refl
      | false ↦ elim (ltb SENDS_MAX (slot.count + n)) as (λ f. cond f (Some signal.PhaseFull) None
          ≡ option_map refusal_of (cond f (Some merge.PhaseFull) None)) [ true ↦ refl | false ↦ refl ]
    ]

-- ---- the reply

pub reply_refused : (limits : Limits) (h : History) (task : ℕ) (lists : List (List ℤ)) (single : Option Single) (r : SignalRefusal)
    → signal_refusal limits h task lists single ≡ Some r → signal_reply limits h task lists single ≡ Err r
reply_refused limits h task lists single r refused = ap (λ o. refused_or o (signal_phase h task)) refused

-- ---- one phase

abbrev three_rows : Limits → Option ℕ → Entry → List (Bool × SignalRefusal)
three_rows limits slowest e =
    (mode_waits e.mode && eqb e.signal_phase (e.wait_phase + 1), signal.SignalTwice)
    ∷ (leb limits.phases_max e.signal_phase, signal.Spent)
    ∷ (is_ahead slowest limits.bound e.signal_phase, signal.Ahead)
    ∷ []

late_nothing : (slowest : Option ℕ) → first_row (late_rows slowest 0 None 0 None) ≡ None
late_nothing None = refl
late_nothing (Some b) = refl

pub phase_split : (limits : Limits) (slowest : Option ℕ) (count : ℕ) (named : Option (Option Single)) (n : ℕ) (single : Option Single) (e : Entry)
    (r : Option SignalRefusal) → r ≡ first_row (phase_rows limits slowest 0 None 0 None e)
    → first_row (phase_rows limits slowest count named n single e) ≡ first_or r (first_row (late_rows slowest count named n single))
phase_split limits slowest count named n single e r row =
    let three = three_rows limits slowest e in
    let is : r ≡ first_row three =
    row ∙ first_row-append three (late_rows slowest 0 None 0 None) ∙ ap (first_or (first_row three)) (late_nothing slowest) ∙ first_or-none (first_row three) in
    first_row-append three (late_rows slowest count named n single)
    ∙ ap (λ o. first_or o (first_row (late_rows slowest count named n single))) (sym is)

-- ---- the rows of a block, one more phase done with

-- the rows that look into the phase, by the ring's refusal
pub late_by_ring : {A : Type 0} (b n : ℕ) (o : Option (Slot A)) (slot : Slot A) (single : Option Single) (m : Option MergeRefusal) → o ≡ Some slot
    → merge_refusal slot n single ≡ m
    → first_row (late_rows (Some b) (count_at o) (named_at o) n single) ≡ option_map refusal_of m
late_by_ring b n o slot single m found is =
    ap (λ x. first_row (late_rows (Some b) (count_at x) (named_at x) n single)) found
    ∙ late_merge b n slot single ∙ ap (λ x. option_map refusal_of x) is

-- ---- the rows by the ring are those of any history that the core stands for

pub rows_same_alone : {A : Type 0} (op : Operation A) (limits : Limits) (r : Ring A) (h : History) (held : List (Parcel A)) (lists : List (List ℤ)) (single : Option Single) (e : Entry)
    → StandForLists op held lists → least (wait_phases (members_of h)) ≡ None
    → list_rows limits h lists single e ≡ block_rows limits None r held single e
rows_same_alone op limits r h [] [] single e holds alone = refl
rows_same_alone op limits r h [] (sends ∷ lists) single e holds alone = absurd holds
rows_same_alone op limits r h (held ∷ more) [] single e holds alone = absurd holds
rows_same_alone op limits r h (held ∷ more) (sends ∷ lists) single e holds alone =
    ap (λ o. phase_rows limits o (length (sends_of_phase h e.signal_phase)) (named_in_phase h e.signal_phase) (length sends) single e
    ++ list_rows limits h lists single (signalled 1 e)) alone
    ∙ ap (λ x. phase_rows limits None (count_at (slot_at r e.signal_phase)) (named_at (slot_at r e.signal_phase)) held.count single e ++ x)
    (rows_same_alone op limits r h more lists single (signalled 1 e) holds.1 alone)

-- what a slot has is what its phase has
pub record Same {A : Type 0} (o : Option (Slot A)) (h : History) (p : ℕ) : Type 0 where
  pub count : length (sends_of_phase h p) ≡ count_at o
  pub named : named_in_phase h p ≡ named_at o

same_at : {A : Type 0} (op : Operation A) (reg : Roster) (limits : Limits) (r : Ring A) (done top p : ℕ) (h : History)
    → StandsFor op (core_with reg limits r top) h → IsBoarded op reg.members r limits.bound done top → r.base ≤ p → Same (slot_at r p) h p
same_at op reg limits r done top p h stands b low =
    ⊎_elim
    (λ inside.
    let slot = slot_at-some r p (record { low = low; high = inside }) in
    let k = slot_keeps op reg limits r done top p h slot.0 stands b low slot.1 in
    record { count = sym k.count_is ∙ sym (ap count_at slot.1); named = sym k.named_is ∙ sym (ap named_at slot.1) })
    (λ past.
    let none = slot_at-past r p past in
    let t : top ≡ top_of h = stands.top_is in
    let up = b.kept.top_bound in
    let long = b.kept.long in
    let nothing = none_from_top limits h p stands.legal (omega arith) in
    record { count = ap length nothing.0 ∙ sym (ap count_at none); named = nothing.1 ∙ sym (ap named_at none) })
    (cases_lt p (r.base + length r.slots))

pub rows_same : {A : Type 0} (op : Operation A) (reg : Roster) (limits : Limits) (r : Ring A) (done top : ℕ) (h : History) (held : List (Parcel A)) (lists : List (List ℤ)) (single : Option Single) (e : Entry)
    → StandsFor op (core_with reg limits r top) h → IsBoarded op reg.members r limits.bound done top → r.base ≤ e.signal_phase
    → least (wait_phases (members_of h)) ≡ Some r.base → StandForLists op held lists
    → list_rows limits h lists single e ≡ block_rows limits (Some r.base) r held single e
rows_same op reg limits r done top h [] [] single e stands b low slow holds = refl
rows_same op reg limits r done top h [] (sends ∷ lists) single e stands b low slow holds = absurd holds
rows_same op reg limits r done top h (held ∷ more) [] single e stands b low slow holds = absurd holds
rows_same op reg limits r done top h (held ∷ more) (sends ∷ lists) single e stands b low slow holds =
    let s = same_at op reg limits r done top e.signal_phase h stands b low in
    let o = slot_at r e.signal_phase in
    let rest = list_rows limits h lists single (signalled 1 e) in
    let n : length sends ≡ held.count = sym holds.0.count_is in
    ap (λ x. phase_rows limits x (length (sends_of_phase h e.signal_phase)) (named_in_phase h e.signal_phase) (length sends) single e ++ rest) slow
    ∙ ap (λ x. phase_rows limits (Some r.base) x (named_in_phase h e.signal_phase) (length sends) single e ++ rest) s.count
    ∙ ap (λ x. phase_rows limits (Some r.base) (count_at o) x (length sends) single e ++ rest) s.named
    ∙ ap (λ x. phase_rows limits (Some r.base) (count_at o) (named_at o) x single e ++ rest) n
    ∙ ap (λ x. phase_rows limits (Some r.base) (count_at o) (named_at o) held.count single e ++ x)
    (rows_same op reg limits r done top h more lists single (signalled 1 e) stands b (omega arith) slow holds.1)

-- ---- an accepted block

-- no row applies: every phase is below the last that the phaser was made for
pub first_or_none : {R : Type 0} (a b : Option R) → first_or a b ≡ None → (a ≡ None) × (b ≡ None)
first_or_none None b none = (refl, none)
first_or_none (Some r) b none = absurd (cc)

pub parts_none : {A : Type 0} (limits : Limits) (slowest : Option ℕ) (r : Ring A) (held : Parcel A) (rest : List (Parcel A)) (single : Option Single) (e : Entry)
    → first_row (block_rows limits slowest r (held ∷ rest) single e) ≡ None
    → (first_row (phase_rows limits slowest (count_at (slot_at r e.signal_phase)) (named_at (slot_at r e.signal_phase)) held.count single e) ≡ None)
    × (first_row (block_rows limits slowest r rest single (signalled 1 e)) ≡ None)
parts_none limits slowest r held rest single e none =
    first_or_none (first_row (phase_rows limits slowest (count_at (slot_at r e.signal_phase)) (named_at (slot_at r e.signal_phase)) held.count single e))
    (first_row (block_rows limits slowest r rest single (signalled 1 e))) (sym (first_row-append (phase_rows limits slowest (count_at (slot_at r e.signal_phase)) (named_at (slot_at r e.signal_phase)) held.count single e)
    (block_rows limits slowest r rest single (signalled 1 e))) ∙ none)

-- what an accepted phase tells
pub below_of : (limits : Limits) (slowest : Option ℕ) (count : ℕ) (named : Option (Option Single)) (n : ℕ) (single : Option Single) (e : Entry)
    → first_row (phase_rows limits slowest count named n single e) ≡ None
    → (e.signal_phase < limits.phases_max) × (is_ahead slowest limits.bound e.signal_phase ≡ false)
below_of limits slowest count named n single e none =
    let p = no_row (phase_rows limits slowest count named n single e) none in
    (leb-false _ _ p.1.0, p.1.1.0)

-- an accepted block ends within the phases that the phaser was made for
far_on : {A : Type 0} (limits : Limits) (slowest : Option ℕ) (r : Ring A) (held : List (Parcel A)) (single : Option Single) (e : Entry) → e.signal_phase ≤ limits.phases_max
    → first_row (block_rows limits slowest r held single e) ≡ None → e.signal_phase + length held ≤ limits.phases_max
far_on limits slowest r [] single e low none = omega arith
far_on limits slowest r (held ∷ more) single e low none =
    let p = parts_none limits slowest r held more single e none in
    let b : e.signal_phase < limits.phases_max = (below_of limits slowest (count_at (slot_at r e.signal_phase)) (named_at (slot_at r e.signal_phase)) held.count single e p.0).0 in
    let rest : e.signal_phase + 1 + length more ≤ limits.phases_max = far_on limits slowest r more single (signalled 1 e) (omega arith) p.1 in
    omega arith

pub block_far : {A : Type 0} (limits : Limits) (slowest : Option ℕ) (r : Ring A) (held : List (Parcel A)) (single : Option Single) (e : Entry) → 0 < length held
    → first_row (block_rows limits slowest r held single e) ≡ None → e.signal_phase + length held ≤ limits.phases_max
block_far limits slowest r [] single e some none = absurd (omega arith)
block_far limits slowest r (held ∷ more) single e some none =
    let p = parts_none limits slowest r held more single e none in
    let b : e.signal_phase < limits.phases_max = (below_of limits slowest (count_at (slot_at r e.signal_phase)) (named_at (slot_at r e.signal_phase)) held.count single e p.0).0 in
    far_on limits slowest r (held ∷ more) single e (omega arith) none

-- and not ahead of the slowest waiter
near_on : {A : Type 0} (limits : Limits) (b : ℕ) (r : Ring A) (held : List (Parcel A)) (single : Option Single) (e : Entry) → e.signal_phase ≤ b + limits.bound
    → first_row (block_rows limits (Some b) r held single e) ≡ None → e.signal_phase + length held ≤ b + limits.bound
near_on limits b r [] single e low none = omega arith
near_on limits b r (held ∷ more) single e low none =
    let p = parts_none limits (Some b) r held more single e none in
    let n : e.signal_phase < b + limits.bound = leb-false _ _ (below_of limits (Some b) (count_at (slot_at r e.signal_phase)) (named_at (slot_at r e.signal_phase)) held.count single e p.0).1 in
    let rest : e.signal_phase + 1 + length more ≤ b + limits.bound = near_on limits b r more single (signalled 1 e) (omega arith) p.1 in
    omega arith

pub block_near : {A : Type 0} (limits : Limits) (b : ℕ) (r : Ring A) (held : List (Parcel A)) (single : Option Single) (e : Entry) → 0 < length held
    → first_row (block_rows limits (Some b) r held single e) ≡ None → e.signal_phase + length held ≤ b + limits.bound
block_near limits b r [] single e some none = absurd (omega arith)
block_near limits b r (held ∷ more) single e some none =
    let p = parts_none limits (Some b) r held more single e none in
    let n : e.signal_phase < b + limits.bound = leb-false _ _ (below_of limits (Some b) (count_at (slot_at r e.signal_phase)) (named_at (slot_at r e.signal_phase)) held.count single e p.0).1 in
    near_on limits b r (held ∷ more) single e (omega arith) none

-- and no phase refuses its list
pub block_fits : {A : Type 0} (limits : Limits) (b : ℕ) (r : Ring A) (held : List (Parcel A)) (single : Option Single) (e : Entry)
    → first_row (block_rows limits (Some b) r held single e) ≡ None → BlockFits r e.signal_phase held single
block_fits limits b r [] single e none = tt
block_fits {A} limits b r (held ∷ more) single e none =
    let p = parts_none limits (Some b) r held more single e none in
    let o = slot_at r e.signal_phase in
    let late = (first_or_none (first_row (phase_rows limits (Some b) 0 None 0 None e)) (first_row (late_rows (Some b) (count_at o) (named_at o) held.count single)) (sym (phase_split limits (Some b) (count_at o) (named_at o) held.count single e (first_row (phase_rows limits (Some b) 0 None 0 None e)) refl) ∙ p.0)).1 in (
      λ slot found. nothing (merge_refusal slot held.count single) (sym (late_by_ring b held.count o slot single (merge_refusal slot held.count single) found refl) ∙ late),
      block_fits limits b r more single (signalled 1 e) p.1,
    )
  where
    nothing : (m : Option MergeRefusal) → option_map refusal_of m ≡ None → m ≡ None
    nothing None e = refl
    nothing (Some x) e = absurd (cc)

-- ---- a phase in which no earlier row applies

-- the ring answers
pub phase_by_ring : {A : Type 0} (op : Operation A) (limits : Limits) (slowest : Option ℕ) (r : Ring A) (done top : ℕ) (e : Entry) (held : Parcel A) (single : Option Single)
    (early : Option SignalRefusal) (m : Option MergeRefusal)
    → IsOpen op r limits.bound done top slowest e.signal_phase → early ≡ first_row (phase_rows limits slowest 0 None 0 None e) → early ≡ None
    → ((slot : Slot A) → slot_at r e.signal_phase ≡ Some slot → merge_refusal slot held.count single ≡ m)
    → option_map refusal_of m ≡ first_row (phase_rows limits slowest (count_at (slot_at r e.signal_phase)) (named_at (slot_at r e.signal_phase)) held.count single e)
phase_by_ring {A} op limits slowest r done top e held single early m opened row none answers =
    let o = slot_at r e.signal_phase in
    let G : Option ℕ → Type 0 = λ x. early ≡ first_row (phase_rows limits x 0 None 0 None e)
    → option_map refusal_of m ≡ first_row (phase_rows limits x (count_at o) (named_at o) held.count single e) in
    subst G (sym opened.slowest_is) (λ row'.
    let behind : e.signal_phase < r.base + limits.bound = leb-false _ _ (below_of limits (Some r.base) 0 None 0 None e (sym row' ∙ none)).1 in
    let base = opened.kept.base_done in
    let low = opened.low in
    let long = opened.kept.long in
    let w : IsWithin r e.signal_phase = record { low = omega arith; high = omega arith } in
    let slot = slot_at-some r e.signal_phase w in
    sym (phase_split limits (Some r.base) (count_at o) (named_at o) held.count single e early row'
    ∙ ap (λ x. first_or x (first_row (late_rows (Some r.base) (count_at o) (named_at o) held.count single))) none
    ∙ late_by_ring r.base held.count o slot.0 single m slot.1 (answers slot.0 slot.1))) row

-- a slot that no signal has joined refuses nothing
pub unused_takes : {A : Type 0} (op : Operation A) (slot : Slot A) (n : ℕ) (single : Option Single) → IsUnused op slot → n ≤ SENDS_MAX
    → merge_refusal slot n single ≡ None
unused_takes op slot n single unused few =
    let fits : slot.count + n ≤ SENDS_MAX = (let z : slot.count ≡ 0 = unused.count_is in omega arith) in
    ap (λ o. cond (differs o single) (Some merge.SingleDiffers) (cond (ltb SENDS_MAX (slot.count + n)) (Some merge.PhaseFull) None)) unused.named_is
    ∙ ap (λ b. cond b (Some merge.PhaseFull) None) (le-ltb SENDS_MAX (slot.count + n) fits)

-- ---- a block of phases that no signal has joined

all_four : (a b c d : Bool) → (a && b && c && d) ≡ true → (a ≡ true) × ((b ≡ true) × ((c ≡ true) × (d ≡ true)))
all_four true true true d is = (refl, (refl, (refl, is)))
all_four true true false d is = absurd (cc)
all_four true false c d is = absurd (cc)
all_four false b c d is = absurd (cc)

-- no row of the first phases of an entry applies
new_row : (limits : Limits) (b : ℕ) (e : Entry) → mode_waits e.mode ≡ false → e.signal_phase < limits.phases_max → e.signal_phase < b + limits.bound
    → first_row (phase_rows limits (Some b) 0 None 0 None e) ≡ None
new_row limits b e waits far near =
    first_row_none (phase_rows limits (Some b) 0 None 0 None e)
    (ap (λ w. w && eqb e.signal_phase (e.wait_phase + 1)) waits, (lt-leb limits.phases_max e.signal_phase far, (lt-leb (b + limits.bound) e.signal_phase near, (refl, (refl, tt)))))

-- and none of a block's
new_rows : {A : Type 0} (op : Operation A) (limits : Limits) (r : Ring A) (done top : ℕ) (held : List (Parcel A)) (lists : List (List ℤ)) (single : Option Single) (e : Entry)
    → IsRingAt op r limits.bound done top → mode_waits e.mode ≡ false → top ≤ e.signal_phase → e.signal_phase + length held ≤ limits.phases_max
    → e.signal_phase + length held ≤ r.base + limits.bound → StandForLists op held lists → first_row (block_rows limits (Some r.base) r held single e) ≡ None
new_rows op limits r done top [] lists single e kept waits above far near holds = refl
new_rows op limits r done top (held ∷ more) [] single e kept waits above far near holds = absurd holds
new_rows op limits r done top (held ∷ more) (sends ∷ lists) single e kept waits above far near holds =
    let o = slot_at r e.signal_phase in
    let rows = phase_rows limits (Some r.base) (count_at o) (named_at o) held.count single e in
    let rest = block_rows limits (Some r.base) r more single (signalled 1 e) in
    let up = kept.done_top in
    let base = kept.base_done in
    let row = new_row limits r.base e waits (omega arith) (omega arith) in
    let few : held.count ≤ SENDS_MAX = (let n = holds.0.count_is in let most = holds.0.part_is.few in omega arith) in
    let opened : IsOpen op r limits.bound done top (Some r.base) e.signal_phase = record { kept = kept; slowest_is = refl; low = omega arith } in
    let none : None ≡ first_row rows =
    phase_by_ring op limits (Some r.base) r done top e held single None None opened (sym row) refl
    (λ slot at. unused_takes op slot held.count single (kept.unused e.signal_phase slot (omega arith) at above) few) in
    first_row-append rows rest
    ∙ ap (λ x. first_or x (first_row rest)) (sym none)
    ∙ new_rows op limits r done top more lists single (signalled 1 e) kept waits (omega arith) (omega arith) (omega arith) holds.1

abbrev or_zero : Option ℕ → ℕ
or_zero None = 0
or_zero (Some n) = n

pub rows_of_new : {A : Type 0} (op : Operation A) (limits : Limits) (slowest : Option ℕ) (r : Ring A) (done top : ℕ) (held : List (Parcel A)) (lists : List (List ℤ)) (single : Option Single) (e : Entry)
    (answer : Bool) → (IsSome slowest → IsOpen op r limits.bound done top slowest e.signal_phase) → StandForLists op held lists
    → answer ≡ are_new limits slowest top (length held) e → answer ≡ true → None ≡ first_row (block_rows limits slowest r held single e)
rows_of_new op limits None r done top held lists single e answer opened holds are so = absurd (cc)
rows_of_new op limits (Some b) r done top held lists single e answer opened holds are so =
    let is = opened refl in
    let base : b ≡ r.base = ap or_zero is.slowest_is in
    let all = all_four (not (mode_waits e.mode)) (leb top e.signal_phase) (leb (e.signal_phase + length held) limits.phases_max)
    (leb (e.signal_phase + length held) (b + limits.bound)) (sym are ∙ so) in
    let above = leb-true top e.signal_phase all.1.0 in
    let far = leb-true (e.signal_phase + length held) limits.phases_max all.1.1.0 in
    let near : e.signal_phase + length held ≤ b + limits.bound = leb-true (e.signal_phase + length held) (b + limits.bound) all.1.1.1 in
    sym (ap (λ x. first_row (block_rows limits (Some x) r held single e)) base
    ∙ new_rows op limits r done top held lists single e is.kept (not-true (mode_waits e.mode) all.0) above far (omega arith) holds)

-- ---- the loop over a block's parcels

pub record ListsLoop {A : Type 0} (limits : Limits) (slowest : Option ℕ) (r : Ring A) (lists : List (Parcel A)) (single : Option Single) (entry at : Entry) (i : ℕ) : Type 0 where
  pub phase_is : at.signal_phase ≡ entry.signal_phase + i
  pub left : first_row (block_rows limits slowest r (drop i lists) single at) ≡ first_row (block_rows limits slowest r lists single entry)

pub rows_at : {A : Type 0} (limits : Limits) (slowest : Option ℕ) (r : Ring A) (lists : List (Parcel A)) (held : Parcel A) (single : Option Single) (at : Entry) (i : ℕ) (o w : Option SignalRefusal)
    → first_row (block_rows limits slowest r (drop i lists) single at) ≡ w → i < length lists → held ≡ slice_index_or lists i held
    → o ≡ first_row (phase_rows limits slowest (count_at (slot_at r at.signal_phase)) (named_at (slot_at r at.signal_phase)) held.count single at)
    → first_or o (first_row (block_rows limits slowest r (drop (i + 1) lists) single (signalled 1 at))) ≡ w
rows_at {A} limits slowest r lists held single at i o w left inside is row =
    let rest = block_rows limits slowest r (drop (i + 1) lists) single (signalled 1 at) in
    ap (λ x. first_or x (first_row rest)) row
    ∙ sym (first_row-append (phase_rows limits slowest (count_at (slot_at r at.signal_phase)) (named_at (slot_at r at.signal_phase)) held.count single at) rest)
    ∙ ap (λ x. first_row (block_rows limits slowest r (x ∷ drop (i + 1) lists) single at)) is
    ∙ ap (λ xs. first_row (block_rows limits slowest r xs single at)) (sym (drop_more lists i held inside))
    ∙ left

pub first_or-some : {R : Type 0} (o x : Option R) → is_some o ≡ true → first_or o x ≡ o
first_or-some None x some = absurd (cc)
first_or-some (Some r) x some = refl

pub none-of : {R : Type 0} (o : Option R) → is_some o ≡ false → o ≡ None
none-of None none = refl
none-of (Some r) none = absurd (cc)

pub held_next : {A : Type 0} (op : Operation A) (lists : List (Parcel A)) (held : Parcel A) (sends : List ℤ) (i : ℕ) (W : Type 0)
    → ((rest : List (List ℤ)) → StandForLists op (drop i lists) rest → W) → i < length lists → held ≡ slice_index_or lists i held → StandsForSends op held sends
    → (rest : List (List ℤ)) → StandForLists op (drop (i + 1) lists) rest → W
held_next {A} op lists held sends i W whole inside is holds rest more =
    let all : StandForLists op (held ∷ drop (i + 1) lists) (sends ∷ rest) = (holds, more) in
    whole (sends ∷ rest) (rw (← (ap (λ x. x ∷ drop (i + 1) lists) is ∙ sym (drop_more lists i held inside))) all)

pub some-of : {R : Type 0} (o : Option R) (x : R) → o ≡ Some x → IsSome o
some-of o x is = ap is_some is

pub first_or-past : {R : Type 0} (o x w : Option R) → o ≡ None → first_or o x ≡ w → x ≡ w
first_or-past None x w none is = is
first_or-past (Some r) x w none is = absurd (cc)
