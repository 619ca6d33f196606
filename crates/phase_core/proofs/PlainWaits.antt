-- Waits of a phaser that keeps values alone.
use Rattle.std.proofs.Common.{◌≡◌, ℕ, ◌+◌, ◌-◌, ◌<◌, ◌≤◌, true, ℤ, List, [], ◌∷◌, Some, None, length, drop, unwrap_or, refl, sym, ap, subst, ◌∙◌, arith, ⊎_elim}
use Rattle.std.specs.Prelude.{IsSome}
use Rattle.std.specs.List.{All}
use Rattle.std.proofs.lemmas.Bool.{cases_lt}
use Rattle.std.proofs.lemmas.Option.{same_Some}
use Rattle.std.proofs.lemmas.List.{length-drop}
use Rattle.circular_buffer.specs.Buffer.{Buffer}
use Rattle.phase_history.proofs.Each.{Each, least_low, least_or_high}
use Rattle.phase_history.proofs.MemberLemmas.{entry_of-changed_same, signal_phases-waited}
use Rattle.phase_accum.proofs.Parts.{AreSends-drop}
use Rattle.phase_accum.specs.Sends.{AreSends}
use Rattle.phase_history.specs.declared.event.Event.TheVariants.{Waited}
use Rattle.phase_history.specs.Histories.{History, done_of, top_of}
use Rattle.phase_history.specs.Refusals.{wait_refusal}
use Rattle.phase_base.specs.Limits.{Limits}
use Rattle.phase_base.specs.Modes.{mode_waits}
use Rattle.phase_base.specs.declared.entry.Entry.{Entry}
use Rattle.phase_base.specs.Members.{Members, changed_at, entry_of, least, lesser, signal_phases, wait_phases, waited}
use Rattle.phase_registry.specs.Rosters.{Roster, roster}
use Rattle.phase_ring.specs.Standings.{count_of}
use Rattle.phase_core.specs.Cores.{StandsFor}
use Rattle.phase_core.proofs.LeastCounts.{least_by_counts, low_by_counts, one-other, waiter-counted, waiters-waited}
use Rattle.phase_accum.specs.Operations.{Operation}
use Rattle.phase_ring.specs.declared.board.Board.{Board}
use Rattle.phase_ring.specs.declared.store.Store.{Store}
use Rattle.phase_ring.specs.Stores.{KeepsValues}
use Rattle.phase_core.specs.Cores.{CoreState}
use Rattle.phase_core.specs.PlainCores.{HasGoneOn, IsPlainStore, MayPassPhases, core_shown}
use Rattle.phase_core.specs.Plain.{IsPlain, plain_core}
use Rattle.phase_core.proofs.Switching.{All-of_each, Each-of_all, high_by_counts, least_counted}
use Rattle.phase_core.proofs.Phasers.{each_counted, not_below, shown_plain}
use Rattle.phase_core.proofs.PlainPhases.{to_plain, to_short, waits_stand}

-- ---- the slowest waiter

none_where : (P : ℕ → Type 0) (xs : List ℕ) (p : ℕ) → Each P xs → (P p → ⊥) → count_of p xs ≡ 0
none_where P xs p each never =
    ⊎_elim (λ (some : 0 < count_of p xs). absurd (never (each_counted P xs p each some)))
    (λ (none : count_of p xs ≤ 0). omega arith) (cases_lt 0 (count_of p xs))

-- the least of numbers among which this one stands
record LeastOf (xs : List ℕ) (p : ℕ) : Type 0 where
  least_is : ℕ
  is : least xs ≡ Some least_is
  low : least_is ≤ p

least_of : (xs : List ℕ) (p : ℕ) → 0 < count_of p xs → LeastOf xs p
least_of [] p some = absurd (omega arith)
least_of (x ∷ xs) p some =
    let b = lesser x (least xs) in record {
      least_is = b;
      is = refl;
      low = each_counted (λ y. b ≤ y) (x ∷ xs) p (least_low (x ∷ xs) b refl) some;
    }

-- where the waiters stand after one of them went on
module _ (ms : Members) (base task n : ℕ) (e : Entry) (found : entry_of ms task ≡ Some e)
    (waits : mode_waits e.mode ≡ true) (slowest : least (wait_phases ms) ≡ Some base)
  where
    abbrev after : List ℕ
    after = wait_phases (changed_at task (waited n) ms)

    not_lower : base ≤ e.wait_phase
    not_lower = not_below ms base task e found waits slowest

    none_lower : (p : ℕ) → p < base → count_of p after ≡ 0
    none_lower p below =
        let moved = waiters-waited ms task p n e found waits in
        let none = none_where (λ x. base ≤ x) (wait_phases ms) p (least_low (wait_phases ms) base slowest)
        (λ low. omega arith) in
        let low = not_lower in
        let here = one-other e.wait_phase p (λ same. omega arith) in
        let there = one-other (e.wait_phase + n) p (λ same. omega arith) in
        omega arith

    -- the slowest of them
    pub record SlowestAfter : Type 0 where
      pub phase : ℕ
      pub is : least after ≡ Some phase
      pub low : base ≤ phase
      pub high : phase ≤ e.wait_phase + n

    pub slowest_after : SlowestAfter
    slowest_after =
        let s = least_of after (e.wait_phase + n)
        (waiter-counted (changed_at task (waited n) ms) task (waited n e)
        (entry_of-changed_same task (waited n) e ms found) waits) in
        let high = least_or_high after base base (low_by_counts after base none_lower) (omega arith) in
        let at : unwrap_or (least after) base ≡ s.least_is = ap (λ o. unwrap_or o base) s.is in
        record { phase = s.least_is; is = s.is; low = omega arith; high = s.low }

    -- where it was another
    pub slowest_stays : (e.wait_phase ≡ base → ⊥) → least after ≡ Some base
    slowest_stays apart =
        let low = not_lower in
        let up : base < e.wait_phase = omega (arith, apart) in
        let moved = waiters-waited ms task base n e found waits in
        let stood = least_counted (wait_phases ms) base slowest in
        let here = one-other e.wait_phase base (λ same. omega arith) in
        let there = one-other (e.wait_phase + n) base (λ same. omega arith) in
        least_by_counts after base none_lower (omega arith)

    pub none_higher : (t : ℕ) → All (λ w. w ≤ t) (wait_phases ms) → e.wait_phase + n ≤ t
        → All (λ w. w ≤ t) after
    none_higher t all high = All-of_each (λ w. w ≤ t) after (high_by_counts after t (λ p above.
        let moved = waiters-waited ms task p n e found waits in
        let none = none_where (λ x. x ≤ t) (wait_phases ms) p (Each-of_all (λ w. w ≤ t) (wait_phases ms) all)
        (λ low. omega arith) in
        let here = one-other e.wait_phase p (λ same. omega arith) in
        let there = one-other (e.wait_phase + n) p (λ same. omega arith) in
        omega arith))

-- ---- after a wait

pub done_of_plain : {A : Type 0} (op : Operation A) (r : Roster) (limits : Limits) (base : ℕ)
    (xs : List ℤ) (h : History) → IsPlain op r limits base xs
    → StandsFor op (plain_core op r limits base xs) h → base + length xs ≡ done_of h
done_of_plain op r limits base xs h plain stands =
    sym (ap (λ ms. unwrap_or (least (signal_phases ms)) (top_of h)) (sym stands.members_are)
    ∙ ap (λ l. unwrap_or (least l) (top_of h)) plain.alone)

module _ {A : Type 0} (op : Operation A) (r new_r : Roster) (old new : Store A) (task n : ℕ) (e : Entry)
    (on : old.is_plain ≡ true) (alone : IsPlainStore op r old) (may : MayPassPhases r old task n e)
    (went : HasGoneOn r new_r old new task n)
  where
    abbrev limits : Limits
    limits = old.board.limits

    abbrev xs : List ℤ
    xs = old.values.queue.items

    abbrev ys : List ℤ
    ys = new.values.queue.items

    abbrev k : ℕ
    k = new.values.base - old.values.base

    base_is : old.values.base + k ≡ new.values.base
    base_is = omega (arith, went.low)

    high : new.values.base ≤ old.values.base + length xs
    high = omega (arith, went.high on, alone.keeps.top_is)

    items_are : ys ≡ drop k xs
    items_are = ap (λ (b : Buffer ℤ). b.items) went.values

    top_is : old.values.base + length xs ≡ new.values.base + length ys
    top_is = omega (arith, went.low, high, ap length items_are, length-drop k xs)

    complete : e.wait_phase + n ≤ old.values.base + length xs
    complete = omega (arith, may.complete, alone.keeps.top_is)

    plain_stands : (h : History) → StandsFor op (plain_core op r limits old.values.base xs) h
        → wait_refusal limits h task n ≡ None
        → StandsFor op (plain_core op new_r limits new.values.base ys) (Waited task n ∷ h)
    plain_stands h stands none =
        let base = old.values.base in
        let done = done_of_plain op r limits base xs h alone.plain stands in
        let there = to_plain op new_r limits (base + k) (drop k xs) (Waited task n ∷ h)
        (waits_stand op r new_r limits base n k xs h task e
        (to_short op r limits base xs h stands) may.found none (omega (arith, complete))
        went.registry (omega (arith, high)) (λ slowest waiter.
        let same : slowest ≡ new.values.base = same_Some _ _ (sym waiter ∙ went.slowest on) in omega (arith, base_is))) in
        subst (λ vs. StandsFor op (plain_core op new_r limits new.values.base vs) (Waited task n ∷ h))
        (sym items_are) (subst (λ b. StandsFor op (plain_core op new_r limits b (drop k xs))
        (Waited task n ∷ h)) base_is there)

    plain_after : ((h : History) → StandsFor op (plain_core op r limits old.values.base xs) h
        → wait_refusal limits h task n ≡ None) → IsPlain op new_r limits new.values.base ys
    plain_after accepted =
        let plain = alone.plain in
        record {
          history = Waited task n ∷ plain.history;
          stands = plain_stands plain.history plain.stands (accepted plain.history plain.stands);
          alone = ap (λ (x : Roster). signal_phases x.members) went.registry
              ∙ signal_phases-waited r.members task n ∙ plain.alone ∙ ap (λ t. t ∷ []) top_is;
          slowest = went.slowest on;
          low = subst (λ t. All (λ w. w ≤ t) (wait_phases new_r.members)) top_is
              (subst (λ (x : Roster). All (λ w. w ≤ old.values.base + length xs) (wait_phases x.members))
              (sym went.registry) (none_higher r.members old.values.base task n e may.found may.waits
              (may.slowest on) (old.values.base + length xs) plain.low complete));
          near = omega (arith, plain.near, ap length items_are, length-drop k xs);
          far = omega (arith, plain.far, top_is);
          sends = subst AreSends (sym items_are) (AreSends-drop k xs plain.sends);
          used = subst (λ (x : Roster). IsSome x.greatest) (sym went.registry) plain.used;
        }

    keeps_after : KeepsValues new
    keeps_after =
        let top = ap (λ (b : Board A). b.top) went.board in
        let done = ap (λ (b : Board A). b.done) went.board in
        let bound = ap (λ (b : Board A). b.limits.bound) went.board in
        record {
          sends = subst AreSends (sym items_are) (AreSends-drop k xs alone.keeps.sends);
          near = omega (arith, alone.keeps.near, bound, ap length items_are, length-drop k xs);
          far = omega (arith, alone.keeps.far, top);
          top_is = omega (arith, alone.keeps.top_is, top, top_is);
          done_is = omega (arith, alone.keeps.done_is, top, done);
        }

    shows : core_shown op r old ≡ plain_core op r limits old.values.base xs
    shows = shown_plain op old r on alone.keeps

    shows_after : core_shown op new_r new ≡ plain_core op new_r limits new.values.base ys
    shows_after =
        shown_plain op new new_r (went.plain ∙ on) keeps_after
        ∙ ap (λ (b : Board A). plain_core op new_r b.limits new.values.base ys) went.board

    pub stands_gone_on : (h : History) → StandsFor op (core_shown op r old) h
        → wait_refusal limits h task n ≡ None
        → StandsFor op (core_shown op new_r new) (Waited task n ∷ h)
    stands_gone_on h stands none =
        subst (λ (x : CoreState A). StandsFor op x (Waited task n ∷ h)) (sym shows_after)
        (plain_stands h (subst (λ (x : CoreState A). StandsFor op x h) shows stands) none)

    pub alone_gone_on : ((h : History) → StandsFor op (core_shown op r old) h
        → wait_refusal limits h task n ≡ None) → IsPlainStore op new_r new
    alone_gone_on accepted = record {
      plain = subst (λ (b : Board A). IsPlain op new_r b.limits new.values.base ys) (sym went.board)
          (plain_after (λ h stands. accepted h (subst (λ (x : CoreState A). StandsFor op x h) (sym shows) stands)));
      keeps = keeps_after;
      room = ap (λ (b : Buffer ℤ). b.capacity) went.values ∙ alone.room
          ∙ ap (λ (b : Board A). b.limits.bound) (sym went.board);
      long = ap (λ (b : Board A). length b.ring.slots) went.board ∙ alone.long
          ∙ ap (λ (b : Board A). b.limits.bound + 1) (sym went.board);
    }

-- ---- the slowest waiter of the values

-- where it stands after a wait
pub record StandsWithin {A : Type 0} (store : Store A) (slowest : ℕ) : Type 0 where
  pub low : store.values.base ≤ slowest
  pub high : slowest ≤ store.board.top

module _ {A : Type 0} (old : Store A) (task n : ℕ) (e : Entry) (r new_r : Roster)
    (may : MayPassPhases r old task n e)
    (r_is : new_r ≡ roster (changed_at task (waited n) r.members) r.greatest) (on : old.is_plain ≡ true)
  where
    there : SlowestAfter r.members old.values.base task n e may.found may.waits (may.slowest on)
    there = slowest_after r.members old.values.base task n e may.found may.waits (may.slowest on)

    waiters_are : least (wait_phases new_r.members) ≡ Some there.phase
    waiters_are = ap (λ (x : Roster). least (wait_phases x.members)) r_is ∙ there.is

    pub stands_within : (slowest : ℕ) → least (wait_phases new_r.members) ≡ Some slowest
        → StandsWithin old slowest
    stands_within slowest is =
        let same : slowest ≡ there.phase = same_Some _ _ (sym is ∙ waiters_are) in
        let low = there.low in
        let high = there.high in
        record { low = omega arith; high = omega (arith, may.complete) }

    pub some_waits : least (wait_phases new_r.members) ≡ None → ⊥
    some_waits none = absurd (let some : Some there.phase ≡ None = sym waiters_are ∙ none in cc)

    pub stays : (e.wait_phase ≡ old.values.base → ⊥) → least (wait_phases new_r.members) ≡ Some old.values.base
    stays apart =
        ap (λ (x : Roster). least (wait_phases x.members)) r_is
        ∙ slowest_stays r.members old.values.base task n e may.found may.waits (may.slowest on) apart
