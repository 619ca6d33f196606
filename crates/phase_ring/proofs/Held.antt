-- What stays where one slot of a ring changes.
use Rattle.std.proofs.Common.{◌≡◌, ℕ, zero, suc, ◌+◌, ◌-◌, ◌<◌, ◌≤◌, ℤ, pos, List, [], ◌∷◌, ◌++◌, Some, set, drop, take, get_or, map, length, replicate, refl, sym, ◌∙◌, ap, subst, arith, length-append}
use Rattle.std.specs.Prelude.{slice_get}
use Rattle.std.specs.List.{All}
use Rattle.phase_accum.proofs.Parts.{IsPartOf-one}
use Rattle.std.proofs.lemmas.List.{append_assoc, length-map, length-set, length-replicate, length-take-le, map-append, replicate-append-replicate, take_more}
use Rattle.std.proofs.lemmas.List.Elements.{All-get_or, All-set, All-drop, All-append, All-replicate}
use Rattle.std.proofs.lemmas.Option.{slice_get_within, get_or_from_slice_get}
use Rattle.circular_buffer.specs.Buffer.{Buffer, keep_last}
use Rattle.phase_accum.specs.Operations.{AccumulateLaws, Operation}
use Rattle.phase_accum.specs.Sends.{AreSends, IsSend}
use Rattle.phase_ring.specs.declared.role.Role.{Role}
use Rattle.phase_ring.specs.declared.role.Role.TheVariants.{Signaller, Waiter}
use Rattle.phase_ring.specs.Restarts.{one_slot, ring_of_ones}
use Rattle.phase_ring.specs.Rings.{IsRing}
use Rattle.phase_ring.specs.Slots.{Slot, IsHeld, empty_slot, with_standing}

-- the slot of each place stands for some sends
pub IsHeld-get : {A : Type 0} (op : Operation A) (slots : List (Slot A)) (capacity place : ℕ) (slot : Slot A)
    → IsRing op slots capacity → slice_get slots place ≡ Some slot → IsHeld op slot
IsHeld-get {A} op slots capacity place slot r found =
    let P : Slot A → Type 0 = IsHeld op in
    subst P (get_or_from_slice_get slots place slot slot found) (All-get_or P slots place slot (slice_get_within slots place slot found) r.held)

pub IsRing-set : {A : Type 0} (op : Operation A) (slots : List (Slot A)) (capacity place : ℕ) (slot : Slot A)
    → IsRing op slots capacity → IsHeld op slot → IsRing op (set slots place slot) capacity
IsRing-set op slots capacity place slot r held =
    let same : length (set slots place slot) ≡ length slots = length-set slots place slot in
    record {
      some = (let h : 0 < length slots = r.some in omega arith);
      full = (let h : capacity ≡ length slots = r.full in omega arith);
      held = All-set (IsHeld op) slots place slot held r.held;
    }

-- who stands there makes no difference
pub IsHeld-standing : {A : Type 0} (op : Operation A) (role : Role) (n : ℕ) (slot : Slot A) → IsHeld op slot → IsHeld op (with_standing role n slot)
IsHeld-standing op Signaller n slot held = held
IsHeld-standing op Waiter n slot held = held

-- one slot less in front and one more at the end are as many
pub length-moved : {X : Type 0} (xs : List X) (y : X) → 0 < length xs → length (drop 1 xs ++ y ∷ []) ≡ length xs
length-moved [] y some = absurd (omega arith)
length-moved (x ∷ xs) y some = let n : length (xs ++ y ∷ []) ≡ length xs + 1 = length-append xs (y ∷ []) in omega arith

-- where it is full, the first one goes
pub moved_items : {X : Type 0} (xs : List X) (y : X) (capacity : ℕ) → 0 < length xs → capacity ≡ length xs
    → keep_last capacity (xs ++ y ∷ []) ≡ drop 1 xs ++ y ∷ []
moved_items [] y capacity some full = absurd (omega arith)
moved_items (x ∷ xs) y capacity some full =
    let more : length (xs ++ y ∷ []) ≡ length xs + 1 = length-append xs (y ∷ []) in
    let one : length (x ∷ xs ++ y ∷ []) - capacity ≡ 1 = omega arith in
    ap (λ n. drop n (x ∷ xs ++ y ∷ [])) one

pub IsRing-released : {A : Type 0} (op : Operation A) (slots : List (Slot A)) (capacity : ℕ) (slot : Slot A)
    → IsRing op slots capacity → IsHeld op slot → IsRing op (drop 1 slots ++ slot ∷ []) capacity
IsRing-released op slots capacity slot r held =
    let same : length (drop 1 slots ++ slot ∷ []) ≡ length slots = length-moved slots slot r.some in
    record {
      some = (let h : 0 < length slots = r.some in omega arith);
      full = (let h : capacity ≡ length slots = r.full in omega arith);
      held = All-append (IsHeld op) (drop 1 slots) (slot ∷ []) (All-drop (IsHeld op) 1 slots r.held) (All-replicate (IsHeld op) 1 slot held);
    }

-- ---- a buffer that is filled

-- where there is room, none goes
keep_all : {X : Type 0} (xs : List X) (y : X) (capacity : ℕ) → length xs < capacity
    → keep_last capacity (xs ++ y ∷ []) ≡ xs ++ y ∷ []
keep_all xs y capacity room =
    let none : length (xs ++ y ∷ []) - capacity ≡ 0 = omega (arith, length-append xs (y ∷ [])) in
    ap (λ m. drop m (xs ++ y ∷ [])) none

-- one more of the same slots behind the others
pub filled-more : {X : Type 0} (first items : List X) (x : X) (n capacity : ℕ)
    → items ≡ first ++ replicate (n - length first) x → length first ≤ n → n < capacity
    → keep_last capacity (items ++ x ∷ []) ≡ first ++ replicate (n + 1 - length first) x
filled-more first items x n capacity is le room =
    let more = n - length first in
    let long : length items ≡ n =
    ap length is ∙ (length-append first (replicate more x)
    ∙ (let few = length-replicate more x in omega arith)) in
    let next : more + 1 ≡ n + 1 - length first = omega arith in
    keep_all items x capacity (omega arith)
    ∙ (ap (λ l. l ++ x ∷ []) is ∙ (append_assoc first (replicate more x) (x ∷ [])
    ∙ ap (λ l. first ++ l) (replicate-append-replicate more 1 x ∙ ap (λ m. replicate m x) next)))

-- one more slot of a value
pub ones-more : {X : Type 0} (f : ℤ → X) (first items : List X) (values : List ℤ) (v : ℤ)
    (i capacity : ℕ) → items ≡ first ++ map f (take i values) → i < length values
    → v ≡ get_or values i (pos 0) → length first + length values ≤ capacity
    → keep_last capacity (items ++ f v ∷ []) ≡ first ++ map f (take (i + 1) values)
ones-more f first items values v i capacity is below v_is room =
    let long : length items ≡ length first + i =
    ap length is ∙ (length-append first (map f (take i values))
    ∙ (let few = length-map (take i values) f in let taken = length-take-le i values (omega arith) in
    omega arith)) in
    keep_all items (f v) capacity (omega arith)
    ∙ (ap (λ l. l ++ f v ∷ []) is ∙ (append_assoc first (map f (take i values)) (f v ∷ [])
    ∙ ap (λ l. first ++ l) (ap (λ x. map f (take i values) ++ f x ∷ []) v_is
    ∙ (sym (map-append f (take i values) (get_or values i (pos 0) ∷ []))
    ∙ ap (map f) (sym (take_more values i (pos 0) below))))))

-- a number of a list of sends
pub AreSends-at : (values : List ℤ) (i : ℕ) (d : ℤ) → AreSends values → i < length values
    → IsSend (get_or values i d)
AreSends-at [] i d are below = absurd (omega arith)
AreSends-at (v ∷ values) zero d are below = are.0
AreSends-at (v ∷ values) (suc i) d are below = AreSends-at values i d are.1 (omega arith)

-- ---- rings of one send a phase

IsHeld-empty : {A : Type 0} (op : Operation A) → IsHeld op (empty_slot op)
IsHeld-empty op = (
  [],
  record {
    part_is = record { is = refl; are_sends = tt; few = omega arith };
    count_is = refl;
  },
)

AreHeld-ones : {A : Type 0} (op : Operation A) (values : List ℤ) → AccumulateLaws op
    → AreSends values → All (IsHeld op) (map (one_slot op) values)
AreHeld-ones op [] laws are = λ k d below. absurd (omega arith)
AreHeld-ones op (v ∷ values) laws are =
    All-append (IsHeld op) (one_slot op v ∷ []) (map (one_slot op) values)
    (All-replicate (IsHeld op) 1 (one_slot op v)
    (v ∷ [], record { part_is = IsPartOf-one op v laws are.0; count_is = refl }))
    (AreHeld-ones op values laws are.1)

pub IsRing-ones : {A : Type 0} (op : Operation A) (n base : ℕ) (values : List ℤ) (b : Buffer (Slot A))
    → AccumulateLaws op → AreSends values → 0 < n → length values ≤ n
    → b.items ≡ (ring_of_ones op n base values).slots → b.capacity ≡ n
    → IsRing op b.items b.capacity
IsRing-ones op n base values b laws are some few items capacity =
    let ones = map (one_slot op) values in
    let more = replicate (n - length values) (empty_slot op) in
    let long : length (ones ++ more) ≡ n =
    length-append ones more
    ∙ (let a = length-map values (one_slot op) in
    let b = length-replicate (n - length values) (empty_slot op) in omega arith) in
    rw (items, capacity) (record {
      some = omega arith;
      full = sym long;
      held = All-append (IsHeld op) ones more (AreHeld-ones op values laws are)
          (All-replicate (IsHeld op) (n - length values) (empty_slot op) (IsHeld-empty op));
    })
