-- The worked calls: each answers what the definitions do.
use Rattle.std.proofs.Common.{◌≡◌, ℕ, ℤ, true, false, eqb, ◌||◌, List, [], ◌∷◌, length, None, Ok, Err, pos, refl, sym, subst, ◌∙◌, arith}
use Rattle.std.proofs.lemmas.Bool.{eqb-true}
use Rattle.phase_base.specs.Limits.{AreLimits}
use Rattle.phase_accum.specs.Parcels.{Parcel, StandsForSends}
use Rattle.phase_accum.specs.Sums.{sum_operation}
use Rattle.phase_accum.specs.Values.{sum_value}
use Rattle.phase_history.specs.declared.event.Event.TheVariants.{Dropped}
use Rattle.phase_history.specs.declared.got.GotBlock.TheVariants.{Values, Ended}
use Rattle.phase_history.specs.declared.refusal.SignalRefusal.TheVariants.{NoSignal}
use Rattle.phase_history.specs.declared.refusal.WaitRefusal.TheVariants.{NotYet}
use Rattle.phase_history.specs.Histories.{History}
use Rattle.phase_history.specs.Legal.{IsLegal}
use Rattle.phase_history.specs.Others.{OthersCame, events_of}
use Rattle.phase_base.specs.Lists.{is_in}
use Rattle.phase_history.specs.Replies.{signal_reply}
use Rattle.phase_core.specs.Blocks.{StandForLists}
use Rattle.phase_shared.specs.Calls.{Signals}
use Rattle.phase_shared.specs.Blocks.{SignalsBlock, WaitsBlock}
use Rattle.phase_shared.specs.Joins.{HasRegisteredNow}
use Rattle.thread_tests.specs.Worked.{worked_limits, two_sends, opened, begun, one_signal, one_block, both_got, all_left, late_waiter, waiter, late, three_places, two_written}

-- ---- others' events

-- a number in a list of one is that one
only : (one task : ℕ) → is_in task (one ∷ []) ≡ true → one ≡ task
only one task stands = elim (eqb one task) as (λ b. (eqb one task ≡ b) → (b || false ≡ true) → one ≡ task) [
  | true ↦ λ e s. eqb-true _ _ e
  | false ↦ λ e s. absurd (cc)
] refl stands

nobody_came : (me : ℕ) (h : History) → OthersCame (me ∷ []) h h
nobody_came me h = record { later = []; is = refl; others = λ task stands. refl }

founder_left : OthersCame (2 ∷ []) opened begun
founder_left = record { later = Dropped 0 ∷ []; is = refl; others = by_0 }
  where
    by_0 : (task : ℕ) → is_in task (2 ∷ []) ≡ true → events_of task (Dropped 0 ∷ []) ≡ []
    by_0 task stands = subst (λ (t : ℕ). events_of t (Dropped 0 ∷ []) ≡ []) (only 2 task stands) refl

sender_left : OthersCame (2 ∷ []) both_got all_left
sender_left = record { later = Dropped 1 ∷ []; is = refl; others = by_1 }
  where
    by_1 : (task : ℕ) → is_in task (2 ∷ []) ≡ true → events_of task (Dropped 1 ∷ []) ≡ []
    by_1 task stands = subst (λ (t : ℕ). events_of t (Dropped 1 ∷ []) ≡ []) (only 2 task stands) refl

-- ---- legal histories

limits_are : AreLimits worked_limits
limits_are = record { bound_least = omega arith; bound_most = omega arith; phases_least = omega arith; phases_most = omega arith }

opened_is_legal : IsLegal worked_limits opened
opened_is_legal = (((limits_are, refl), refl), refl)

begun_is_legal : IsLegal worked_limits begun
begun_is_legal = (opened_is_legal, refl)

one_block_is_legal : IsLegal worked_limits one_block
one_block_is_legal =
    (begun_is_legal, (refl, ((record { small = omega arith }, tt), omega arith, ((record { small = omega arith }, tt), omega arith, tt)), tt))

pub late_waiter_is_legal : IsLegal worked_limits late_waiter
late_waiter_is_legal = (one_block_is_legal, refl)

-- ---- signals

-- lists of the same sends are as long as each other
same_length : (held : Parcel ℤ) (xs ys : List ℤ) → StandsForSends sum_operation held xs → StandsForSends sum_operation held ys → length ys ≡ length xs
same_length held xs ys first second = sym second.count_is ∙ first.count_is

-- task 1 signals a phase with one send
one_reply : (xs : List ℤ) → length xs ≡ 1 → signal_reply worked_limits begun 1 (xs ∷ []) None ≡ Ok 0
one_reply [] long = absurd (omega (arith, long))
one_reply (x ∷ []) long = refl
one_reply (x ∷ y ∷ more) long = absurd (omega (arith, long))

one_replies : (held : Parcel ℤ) → StandsForSends sum_operation held (pos 7 ∷ []) → (lists : List (List ℤ)) → StandForLists sum_operation (held ∷ []) lists
    → signal_reply worked_limits begun 1 lists None ≡ Ok 0
one_replies held seven [] stand = absurd stand
one_replies held seven (xs ∷ []) stand = one_reply xs (same_length held (pos 7 ∷ []) xs seven stand.0)
one_replies held seven (xs ∷ ys ∷ more) stand = absurd stand.1

pub plain_signal : (held : Parcel ℤ) → StandsForSends sum_operation held (pos 7 ∷ []) → Signals sum_operation worked_limits 1 held None begun one_signal (Ok 0)
plain_signal held seven = record {
  before = begun;
  sends = pos 7 ∷ [];
  others = nobody_came 1 begun;
  stands = seven;
  seen = refl;
  reply = λ xs stands. one_reply xs (same_length held (pos 7 ∷ []) xs seven stands);
}

pub block_of_one : (held : Parcel ℤ) → StandsForSends sum_operation held (pos 7 ∷ [])
    → SignalsBlock sum_operation worked_limits 1 (held ∷ []) None begun one_signal (Ok 0)
block_of_one held seven = record {
  before = begun;
  sends = (pos 7 ∷ []) ∷ [];
  others = nobody_came 1 begun;
  stand = (seven, tt);
  seen = refl;
  reply = one_replies held seven;
}

-- and the first two phases, each with one send
two_reply : (xs ys : List ℤ) → length xs ≡ 1 → length ys ≡ 1 → signal_reply worked_limits begun 1 (xs ∷ ys ∷ []) None ≡ Ok 0
two_reply [] ys first second = absurd (omega (arith, first))
two_reply (x ∷ []) [] first second = absurd (omega (arith, second))
two_reply (x ∷ []) (y ∷ []) first second = refl
two_reply (x ∷ []) (y ∷ z ∷ more) first second = absurd (omega (arith, second))
two_reply (x ∷ y ∷ more) ys first second = absurd (omega (arith, first))

two_replies : (parcels : List (Parcel ℤ)) → StandForLists sum_operation parcels two_sends → (lists : List (List ℤ)) → StandForLists sum_operation parcels lists
    → signal_reply worked_limits begun 1 lists None ≡ Ok 0
two_replies [] held lists stand = absurd held
two_replies (p ∷ []) held lists stand = absurd held.1
two_replies (p ∷ q ∷ []) held [] stand = absurd stand
two_replies (p ∷ q ∷ []) held (xs ∷ []) stand = absurd stand.1
two_replies (p ∷ q ∷ []) held (xs ∷ ys ∷ []) stand =
    two_reply xs ys (same_length p (pos 7 ∷ []) xs held.0 stand.0) (same_length q (pos 4 ∷ []) ys held.1.0 stand.1.0)
two_replies (p ∷ q ∷ []) held (xs ∷ ys ∷ zs ∷ more) stand = absurd stand.1.1
two_replies (p ∷ q ∷ r ∷ more) held lists stand = absurd held.1.1

pub block_signalled : (parcels : List (Parcel ℤ)) → StandForLists sum_operation parcels two_sends
    → SignalsBlock sum_operation worked_limits 1 parcels None begun one_block (Ok 0)
block_signalled parcels held = record {
  before = begun;
  sends = two_sends;
  others = nobody_came 1 begun;
  stand = held;
  seen = refl;
  reply = two_replies parcels held;
}

-- task 0 left meanwhile, and task 2 does not signal
pub block_refused : (parcels : List (Parcel ℤ)) → StandForLists sum_operation parcels two_sends
    → SignalsBlock sum_operation worked_limits 2 parcels None opened begun (Err NoSignal)
block_refused parcels held = record {
  before = begun;
  sends = two_sends;
  others = founder_left;
  stand = held;
  seen = refl;
  reply = λ lists stand. refl;
}

-- ---- waits

-- task 2 gets the first two phases, and the third place stays
pub block_got : WaitsBlock sum_value worked_limits 2 one_block both_got three_places two_written (Ok (Values 0 2))
block_got = record { before = one_block; others = nobody_came 2 one_block; seen = refl; reply = refl; out = refl }

-- no task signals any more
pub block_ended : WaitsBlock sum_value worked_limits 2 both_got all_left three_places three_places (Ok Ended)
block_ended = record { before = all_left; others = sender_left; seen = refl; reply = refl; out = refl }

-- no phase is complete
pub block_not_yet : WaitsBlock sum_value worked_limits 2 opened begun three_places three_places (Err NotYet)
block_not_yet = record { before = begun; others = founder_left; seen = refl; reply = refl; out = refl }

-- ---- a registration of a waiter that joins now

pub joined_now : HasRegisteredNow 2 3 waiter late one_block late_waiter
joined_now = record { before = one_block; others = nobody_came 2 one_block; seen = refl; reply = refl; next = refl; entry = refl }
