-- In a legal history what is sent and what is named can be, so that each phase's value is in range.
use Rattle.std.proofs.Common.{◌≡◌, ℕ, ◌+◌, ◌≤◌, true, false, cond, eqb, List, [], ◌∷◌, Option, Ok, Some, None, Bool, ℤ, pos, negsuc, sym, subst, arith, length}
use Rattle.std.proofs.lemmas.Int.{ints}
use Rattle.std.proofs.lemmas.List.Elements.{All-map}
use Rattle.std.specs.Prelude.{unsigned_abs}
use Rattle.std.specs.Int.{int_min, int_max}
use Rattle.std.specs.List.{All, range_with_len}
use Rattle.std.specs.Option.{option_and_then}
use Rattle.phase_base.specs.Limits.{Limits}
use Rattle.phase_accum.specs.declared.outcome.Outcome.{Outcome}
use Rattle.phase_accum.specs.declared.outcome.Outcome.TheVariants.{Value, Empty, TooBig}
use Rattle.phase_accum.specs.declared.single.Single.{Single}
use Rattle.phase_accum.specs.declared.single.Single.TheVariants.{Neg, Abs, Halve, Clamp}
use Rattle.phase_accum.specs.Singles.{CanBeNamed}
use Rattle.phase_accum.specs.Values.{AreSends, IsInRange, applied, value_max, half_of}
use Rattle.phase_accum.specs.Operations.{Operation, AccumulateLaws}
use Rattle.phase_accum.proofs.Parts.{AreSends-append}
use Rattle.phase_history.specs.declared.event.Event.TheVariants.{Made, Registered, RegisteredNow, Signalled, Waited, Dropped}
use Rattle.phase_history.specs.declared.got.Got.TheVariants as got
use Rattle.phase_history.specs.Histories.{History, signal_phase, wait_phase, done_of}
use Rattle.phase_history.specs.Phases.{sends_of_phase, named_in_phase, value_of_phase, stream_of, list_in_phase, first_named, is_among}
use Rattle.phase_history.specs.Legal.{IsLegal, AreLists}
use Rattle.phase_history.specs.Replies.{wait_reply}
use Rattle.phase_history.proofs.LawProofs.{reply_tells}

AreSends-list_in_phase : (lists : List (List ℤ)) (s p : ℕ) → AreLists lists → AreSends (list_in_phase lists s p)
AreSends-list_in_phase [] s p are = tt
AreSends-list_in_phase (l ∷ lists) s p are =
    elim (eqb s p) as (λ b. AreSends (cond b l (list_in_phase lists (s + 1) p))) [
      | true ↦ are.0
      | false ↦ AreSends-list_in_phase lists (s + 1) p are.2
    ]

-- what a phase holds can be sent
pub AreSends-sends_of_phase : (limits : Limits) (h : History) (p : ℕ) → IsLegal limits h → AreSends (sends_of_phase h p)
AreSends-sends_of_phase limits [] p legal = tt
AreSends-sends_of_phase limits (Made task ∷ before) p legal =
    rw legal.1 tt
AreSends-sends_of_phase limits (Registered parent child mode ∷ before) p legal = AreSends-sends_of_phase limits before p legal.0
AreSends-sends_of_phase limits (RegisteredNow parent child ∷ before) p legal = AreSends-sends_of_phase limits before p legal.0
AreSends-sends_of_phase limits (Signalled task lists single ∷ before) p legal =
    AreSends-append (sends_of_phase before p) (list_in_phase lists (signal_phase before task) p)
    (AreSends-sends_of_phase limits before p legal.0)
    (AreSends-list_in_phase lists (signal_phase before task) p legal.1.1)
AreSends-sends_of_phase limits (Waited task n ∷ before) p legal = AreSends-sends_of_phase limits before p legal.0
AreSends-sends_of_phase limits (Dropped task ∷ before) p legal = AreSends-sends_of_phase limits before p legal.0

-- ---- what a phase's first signal named, where there is one, can be named

abbrev FirstCanBeNamed : Option (Option Single) → Type 0
FirstCanBeNamed None = Unit {0}
FirstCanBeNamed (Some single) = CanBeNamed single

first_named-can : (named : Option (Option Single)) (joins : Bool) (single : Option Single) → FirstCanBeNamed named
    → CanBeNamed single → FirstCanBeNamed (first_named named joins single)
first_named-can (Some named) joins single first can = first
first_named-can None true single first can = can
first_named-can None false single first can = tt

named_in_phase-can : (limits : Limits) (h : History) (p : ℕ) → IsLegal limits h → FirstCanBeNamed (named_in_phase h p)
named_in_phase-can limits [] p legal = tt
named_in_phase-can limits (Made task ∷ before) p legal =
    rw legal.1 tt
named_in_phase-can limits (Registered parent child mode ∷ before) p legal = named_in_phase-can limits before p legal.0
named_in_phase-can limits (RegisteredNow parent child ∷ before) p legal = named_in_phase-can limits before p legal.0
named_in_phase-can limits (Signalled task lists single ∷ before) p legal =
    first_named-can (named_in_phase before p) (is_among (signal_phase before task) (length lists) p) single
    (named_in_phase-can limits before p legal.0) legal.1.2
named_in_phase-can limits (Waited task n ∷ before) p legal = named_in_phase-can limits before p legal.0
named_in_phase-can limits (Dropped task ∷ before) p legal = named_in_phase-can limits before p legal.0

-- ---- a single leaves a value in range

int_max-small : (a b : ℤ) → unsigned_abs a ≤ value_max → unsigned_abs b ≤ value_max → unsigned_abs (int_max a b) ≤ value_max
int_max-small a b x y = grind (arith, ints)

int_min-small : (a b : ℤ) → unsigned_abs a ≤ value_max → unsigned_abs b ≤ value_max → unsigned_abs (int_min a b) ≤ value_max
int_min-small a b x y = grind (arith, ints)

half_of-small : (v : ℤ) → unsigned_abs v ≤ value_max → unsigned_abs (half_of v) ≤ value_max
half_of-small (pos n) small = omega (arith, ints)
half_of-small (negsuc n) small = omega (arith, ints)

applied-in_range : (named : Option (Option Single)) (o : Outcome) → FirstCanBeNamed named → IsInRange o
    → IsInRange (applied (option_and_then (λ n. n) named) o)
applied-in_range None o can range = range
applied-in_range (Some None) o can range = range
applied-in_range (Some (Some single)) Empty can range = tt
applied-in_range (Some (Some single)) TooBig can range = tt
applied-in_range (Some (Some Neg)) (Value v) can range = omega (arith, ints)
applied-in_range (Some (Some Abs)) (Value v) can range = omega (arith, ints)
applied-in_range (Some (Some Halve)) (Value v) can range = half_of-small v range
applied-in_range (Some (Some (Clamp r))) (Value v) can range =
    int_max-small r.0 (int_min v r.1) can.low_small (int_min-small v r.1 range can.high_small)

pub value_of_phase-in_range : {A : Type 0} (op : Operation A) (laws : AccumulateLaws op) (limits : Limits) (h : History) (p : ℕ)
    → IsLegal limits h → IsInRange (value_of_phase op.value h p)
value_of_phase-in_range op laws limits h p legal =
    applied-in_range (named_in_phase h p) (op.value (sends_of_phase h p)) (named_in_phase-can limits h p legal)
    (laws.in_range (sends_of_phase h p) (AreSends-sends_of_phase limits h p legal))

pub stream_of-in_range : {A : Type 0} (op : Operation A) (laws : AccumulateLaws op) (limits : Limits) (h : History)
    → IsLegal limits h → All IsInRange (stream_of op.value h)
stream_of-in_range op laws limits h legal =
    All-map IsInRange (value_of_phase op.value h) (range_with_len 0 (done_of h))
    (λ k d within. value_of_phase-in_range op laws limits h _ legal)

-- and so is what a wait is answered
pub wait_reply-in_range : {A : Type 0} (op : Operation A) (laws : AccumulateLaws op) (limits : Limits) (h : History)
    (task phase : ℕ) (outcome : Outcome) → IsLegal limits h
    → wait_reply op.value limits h task ≡ Ok (got.Value phase outcome) → IsInRange outcome
wait_reply-in_range op laws limits h task phase outcome legal reply =
    subst IsInRange (sym (reply_tells op.value limits h task phase outcome reply).2)
    (value_of_phase-in_range op laws limits h (wait_phase h task) legal)
