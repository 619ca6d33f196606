-- A signal and a wait of a phaser that keeps values alone.
use Rattle.std.proofs.Common.{◌≡◌, ℕ, ◌+◌, ◌<◌, ◌≤◌, ◌||◌, true, false, Bool, not, ℤ, List, [], ◌∷◌, ◌++◌, Some, None, Ok, Err, length, refl, sym, ap, ap₂, subst, ◌∙◌, arith, ⊎_elim}
use Rattle.std.specs.List.{All}
use Rattle.std.proofs.lemmas.Bool.{cases_eq, cases_lt, le-ltb, ne_eqb}
use Rattle.std.proofs.lemmas.List.{length-append, length-map}
use Rattle.std.proofs.lemmas.List.Elements.{All-weaker}
use Rattle.phase_accum.proofs.Parts.{AreSends-append}
use Rattle.phase_history.proofs.MemberLemmas.{wait_phases-signalled}
use Rattle.phase_history.specs.declared.event.Event.TheVariants.{Signalled}
use Rattle.phase_history.specs.declared.refusal.SignalRefusal.{SignalRefusal}
use Rattle.phase_history.specs.declared.refusal.SignalRefusal.TheVariants as refusal
use Rattle.phase_history.specs.Histories.{History, members_of, signal_phase}
use Rattle.phase_history.specs.Refusals.{is_bad_block, list_rows, refusal_at, signal_refusal, signal_rows}
use Rattle.phase_history.specs.Replies.{refused_or, signal_reply}
use Rattle.phase_accum.specs.Operations.{AccumulateLaws, Operation}
use Rattle.phase_accum.specs.Sends.{AreSends}
use Rattle.phase_base.specs.Limits.{Limits}
use Rattle.phase_base.specs.Lists.{first_row}
use Rattle.phase_base.specs.Modes.{mode_signals, mode_waits}
use Rattle.phase_base.specs.declared.entry.Entry.{Entry}
use Rattle.phase_base.specs.Members.{changed_at, entry_of, least, signal_phases, signalled, wait_phases}
use Rattle.phase_registry.specs.Rosters.{Roster, roster}
use Rattle.phase_ring.specs.Standings.{count_of, one_if_same}
use Rattle.phase_core.specs.Blocks.{one_each}
use Rattle.phase_core.specs.Cores.{StandsFor}
use Rattle.phase_core.specs.Plain.{IsPlain, plain_core}
use Rattle.phase_core.proofs.LeastCounts.{one-other, one-same, signaller-counted, signallers-signalled}
use Rattle.phase_core.proofs.PlainPhases.{ahead_row, rows_fit, rows_stop, signals_stand, spent_row, to_plain, to_short}
use Rattle.phase_core.proofs.Replies.{phases_most, signal_phase_is}

-- ---- the one that signals

in_one : (x p : ℕ) → 0 < count_of p (x ∷ []) → p ≡ x
in_one x p some =
    ⊎_elim (λ (same : x ≡ p). sym same)
    (λ (apart : x ≡ p → ⊥). absurd (let none = one-other x p apart in omega arith)) (cases_eq x p)

-- a list in which one number stands once, and no other
one_by_counts : (xs : List ℕ) (t : ℕ) → ((q : ℕ) → count_of q xs ≡ one_if_same t q) → xs ≡ t ∷ []
one_by_counts [] t counts = absurd (let c = counts t in let one = one-same t in omega arith)
one_by_counts (x ∷ []) t counts =
    ⊎_elim (λ (same : t ≡ x). ap (λ n. n ∷ []) (sym same))
    (λ (apart : t ≡ x → ⊥). absurd (let c : one_if_same x x + 0 ≡ one_if_same t x = counts x in
    let one = one-same x in let none = one-other t x apart in omega arith)) (cases_eq t x)
one_by_counts (x ∷ y ∷ xs) t counts = absurd (
    ⊎_elim (λ (same : x ≡ y). let c : one_if_same x y + (one_if_same y y + count_of y xs) ≡ one_if_same t y = counts y in
    let one = one-same y in
    let here : one_if_same x y ≡ 1 = ap (λ n. one_if_same n y) same ∙ one in
    ⊎_elim (λ (s : t ≡ y). let z : one_if_same t y ≡ 1 = ap (λ n. one_if_same n y) s ∙ one in omega arith)
    (λ (apart : t ≡ y → ⊥). let none = one-other t y apart in omega arith) (cases_eq t y))
    (λ (apart : x ≡ y → ⊥).
    let first : one_if_same x x + (one_if_same y x + count_of x xs) ≡ one_if_same t x = counts x in
    let second : one_if_same x y + (one_if_same y y + count_of y xs) ≡ one_if_same t y = counts y in
    let one_x = one-same x in
    let one_y = one-same y in
    ⊎_elim (λ (s : t ≡ x).
    let none : one_if_same t y ≡ 0 = ap (λ n. one_if_same n y) s ∙ one-other x y apart in omega arith)
    (λ (away : t ≡ x → ⊥). let none = one-other t x away in omega arith) (cases_eq t x))
    (cases_eq x y))

-- ---- rows

row_passes : {R : Type 0} (b : Bool) (x : R) (rows : List (Bool × R)) → b ≡ false
    → first_row ((b, x) ∷ rows) ≡ first_row rows
row_passes b x rows e = rw e refl

good_block : (limits : Limits) (n : ℕ) → 0 < n → n ≤ limits.bound → is_bad_block limits n ≡ false
good_block limits n some few =
    ap₂ (λ a b. a || b) (ne_eqb n 0 (λ e. omega arith)) (le-ltb limits.bound n few)

-- ---- a signal

-- the one that signals stands behind the values
pub signaller_at : {A : Type 0} (op : Operation A) (r : Roster) (limits : Limits) (base : ℕ)
    (xs : List ℤ) (task : ℕ) (e : Entry) → IsPlain op r limits base xs
    → entry_of r.members task ≡ Some e → mode_signals e.mode ≡ true
    → e.signal_phase ≡ base + length xs
signaller_at op r limits base xs task e plain found signals =
    in_one (base + length xs) e.signal_phase (subst (λ l. 0 < count_of e.signal_phase l) plain.alone
    (signaller-counted r.members task e found signals))

-- a task signals as many phases as there are values, and is not refused
pub record PlainSignal {A : Type 0} (op : Operation A) (r : Roster) (limits : Limits) (base : ℕ)
    (xs values : List ℤ) (task : ℕ) (e : Entry) : Type 0 where
  pub plain : IsPlain op r limits base xs
  pub found : entry_of r.members task ≡ Some e
  pub signals : mode_signals e.mode ≡ true
  pub waits : mode_waits e.mode ≡ false
  pub sends : AreSends values
  pub some : 0 < length values
  pub room : length xs + length values ≤ limits.bound
  pub near : e.signal_phase + length values ≤ limits.phases_max

module _ {A : Type 0} (op : Operation A) (laws : AccumulateLaws op) (r : Roster) (limits : Limits)
    (base : ℕ) (xs values : List ℤ) (task : ℕ) (e : Entry)
    (s : PlainSignal op r limits base xs values task e)
  where
    at_top : e.signal_phase ≡ base + length xs
    at_top = signaller_at op r limits base xs task e s.plain s.found s.signals

    few : length values ≤ limits.bound
    few = omega (arith, s.room)

    many : length (one_each values) ≡ length values
    many = length-map values (λ v. v ∷ [])

    not_refused : (h : History) → StandsFor op (plain_core op r limits base xs) h
        → signal_refusal limits h task (one_each values) None ≡ None
    not_refused h stands =
        let found_h : entry_of (members_of h) task ≡ Some e =
        ap (λ ms. entry_of ms task) (sym stands.members_are) ∙ s.found in
        let slow : least (wait_phases (members_of h)) ≡ Some base =
        ap (λ ms. least (wait_phases ms)) (sym stands.members_are) ∙ s.plain.slowest in
        let rows = list_rows limits h (one_each values) None e in
        let bad : is_bad_block limits (length (one_each values)) ≡ false =
        ap (is_bad_block limits) many ∙ good_block limits (length values) s.some few in
        ap (λ o. refusal_at o refusal.NoTask (signal_rows limits h (one_each values) None)) found_h
        ∙ (row_passes (not (mode_signals e.mode)) refusal.NoSignal
        ((is_bad_block limits (length (one_each values)), refusal.BadBlock) ∷ rows) (ap not s.signals)
        ∙ (row_passes (is_bad_block limits (length (one_each values))) refusal.BadBlock rows bad
        ∙ rows_fit limits h base values e stands.legal slow (omega (arith, stands.top_is, at_top)) s.waits
        s.near (omega (arith, s.room, at_top))))

    pub replied : (h : History) → StandsFor op (plain_core op r limits base xs) h
        → signal_reply limits h task (one_each values) None ≡ Ok e.signal_phase
    replied h stands =
        ap (λ o. refused_or o (signal_phase h task)) (not_refused h stands)
        ∙ ap Ok (signal_phase_is op (plain_core op r limits base xs) h task e stands s.found)

    abbrev pub after_members : Roster
    after_members = roster (changed_at task (signalled (length values)) r.members) r.greatest

    pub signalled_stands : (h : History) → StandsFor op (plain_core op r limits base xs) h
        → StandsFor op (plain_core op after_members limits base (xs ++ values))
        (Signalled task (one_each values) None ∷ h)
    signalled_stands h stands =
        to_plain op after_members limits base (xs ++ values) (Signalled task (one_each values) None ∷ h)
        (signals_stand op laws r after_members limits base xs values h task e
        (to_short op r limits base xs h stands) s.found at_top s.sends (not_refused h stands) refl)

    pub signalled_plain : IsPlain op after_members limits base (xs ++ values)
    signalled_plain = record {
      history = Signalled task (one_each values) None ∷ s.plain.history;
      stands = signalled_stands s.plain.history s.plain.stands;
      alone = one_by_counts (signal_phases after_members.members) (base + length (xs ++ values)) counts;
      slowest = ap least (wait_phases-signalled r.members task (length values)) ∙ s.plain.slowest;
      low = subst (All (λ w. w ≤ base + length (xs ++ values)))
          (sym (wait_phases-signalled r.members task (length values)))
          (All-weaker (λ w. w ≤ base + length xs) (λ w. w ≤ base + length (xs ++ values))
          (λ w le. omega (arith, length-append xs values)) (wait_phases r.members) s.plain.low);
      near = omega (arith, s.room, length-append xs values);
      far = omega (arith, s.near, length-append xs values, at_top, phases_most s.plain.stands);
      sends = AreSends-append xs values s.plain.sends s.sends;
      used = s.plain.used;
    }
      where
        counts : (q : ℕ) → count_of q (signal_phases after_members.members)
            ≡ one_if_same (base + length (xs ++ values)) q
        counts q =
            let moved = signallers-signalled r.members task q (length values) e s.found s.signals in
            let old : count_of q (signal_phases r.members) ≡ one_if_same (base + length xs) q + 0 =
            ap (count_of q) s.plain.alone in
            let here : one_if_same e.signal_phase q ≡ one_if_same (base + length xs) q =
            ap (λ n. one_if_same n q) at_top in
            let more : e.signal_phase + length values ≡ base + length (xs ++ values) =
            omega (arith, at_top, length-append xs values) in
            let next : one_if_same (e.signal_phase + length values) q
            ≡ one_if_same (base + length (xs ++ values)) q = ap (λ n. one_if_same n q) more in
            omega (arith, moved, old, here, next)

-- ---- a signal that is refused

-- a task asks for as many phases as there are values, and they go past the last or too far ahead
pub record PlainRefusal {A : Type 0} (op : Operation A) (r : Roster) (limits : Limits) (base : ℕ)
    (xs values : List ℤ) (task : ℕ) (e : Entry) : Type 0 where
  pub plain : IsPlain op r limits base xs
  pub found : entry_of r.members task ≡ Some e
  pub signals : mode_signals e.mode ≡ true
  pub waits : mode_waits e.mode ≡ false
  pub some : 0 < length values
  pub few : length values ≤ limits.bound

module _ {A : Type 0} (op : Operation A) (r : Roster) (limits : Limits) (base : ℕ)
    (xs values : List ℤ) (task : ℕ) (e : Entry)
    (s : PlainRefusal op r limits base xs values task e) (h : History)
    (stands : StandsFor op (plain_core op r limits base xs) h)
  where
    behind : e.signal_phase ≡ base + length xs
    behind = signaller_at op r limits base xs task e s.plain s.found s.signals

    -- by the rows of its phases
    refused_by : (x : SignalRefusal) → first_row (list_rows limits h (one_each values) None e) ≡ Some x
        → signal_reply limits h task (one_each values) None ≡ Err x
    refused_by x row =
        let found_h : entry_of (members_of h) task ≡ Some e =
        ap (λ ms. entry_of ms task) (sym stands.members_are) ∙ s.found in
        let rows = list_rows limits h (one_each values) None e in
        let bad : is_bad_block limits (length (one_each values)) ≡ false =
        ap (is_bad_block limits) (length-map values (λ v. v ∷ []))
        ∙ good_block limits (length values) s.some s.few in
        ap (λ o. refused_or o (signal_phase h task))
        (ap (λ o. refusal_at o refusal.NoTask (signal_rows limits h (one_each values) None)) found_h
        ∙ (row_passes (not (mode_signals e.mode)) refusal.NoSignal
        ((is_bad_block limits (length (one_each values)), refusal.BadBlock) ∷ rows) (ap not s.signals)
        ∙ (row_passes (is_bad_block limits (length (one_each values))) refusal.BadBlock rows bad ∙ row)))

    slowest_h : least (wait_phases (members_of h)) ≡ Some base
    slowest_h = ap (λ ms. least (wait_phases ms)) (sym stands.members_are) ∙ s.plain.slowest

    pub refused_spent : limits.phases_max < e.signal_phase + length values
        → limits.phases_max ≤ base + limits.bound
        → signal_reply limits h task (one_each values) None ≡ Err refusal.Spent
    refused_spent past far =
        let stops_at : (stop : ℕ) → e.signal_phase ≤ stop → stop < e.signal_phase + length values
        → limits.phases_max ≤ stop
        → ((p : ℕ) → e.signal_phase ≤ p → p < stop → (p < limits.phases_max) × (p < base + limits.bound))
        → signal_reply limits h task (one_each values) None ≡ Err refusal.Spent =
        λ stop before behind_it last fits. refused_by refusal.Spent
        (rows_stop limits h base stop refusal.Spent values e stands.legal slowest_h
        (omega (arith, stands.top_is, behind)) s.waits before behind_it fits
        (λ x waits at. spent_row limits base x waits (omega arith))) in
        ⊎_elim
        (λ (within : e.signal_phase < limits.phases_max). stops_at limits.phases_max (omega arith) past (omega arith)
        (λ p from below. (below, (let b : p < base + limits.bound = omega arith in b))))
        (λ (none : limits.phases_max ≤ e.signal_phase). stops_at e.signal_phase (omega arith)
        (omega (arith, s.some)) none (λ p from below. absurd (omega arith)))
        (cases_lt e.signal_phase limits.phases_max)

    pub refused_ahead : base + limits.bound < e.signal_phase + length values
        → base + limits.bound < limits.phases_max
        → signal_reply limits h task (one_each values) None ≡ Err refusal.Ahead
    refused_ahead past near = refused_by refusal.Ahead
        (rows_stop limits h base (base + limits.bound) refusal.Ahead values e stands.legal slowest_h
        (omega (arith, stands.top_is, behind)) s.waits (omega (arith, behind, s.plain.near)) past
        (λ p from below. ((let b : p < limits.phases_max = omega arith in b), below))
        (λ x waits at. ahead_row limits base x waits at near))
