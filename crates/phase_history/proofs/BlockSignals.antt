-- A block is refused as the first of its signals one by one would be: what one phase meets knows
-- nothing of the signals of the phases before it.
use Rattle.std.proofs.Common.{◌≡◌, ℕ, zero, suc, ◌+◌, ◌<◌, ◌≤◌, List, [], ◌∷◌, ◌++◌, Option, Some, None, Bool, true, false, ◌&&◌, cond, eqb, leb, ltb, length, ℤ, refl, sym, ap, ◌∙◌, arith}
use Rattle.std.specs.Prelude.{not, is_some}
use Rattle.std.specs.Option.{option_or}
use Rattle.std.proofs.lemmas.List.{append-nil}
use Rattle.std.proofs.lemmas.Bool.{ne_eqb, ltb-false, le-ltb, or_parts}
use Rattle.phase_base.specs.Limits.{Limits}
use Rattle.phase_base.specs.Modes.{mode_signals, is_single}
use Rattle.phase_base.specs.declared.entry.Entry.{Entry}
use Rattle.phase_accum.specs.declared.single.Single.{Single}
use Rattle.phase_history.specs.declared.event.Event.TheVariants.{Signalled}
use Rattle.phase_history.specs.declared.refusal.SignalRefusal.{SignalRefusal}
use Rattle.phase_history.specs.declared.refusal.SignalRefusal.TheVariants as signal
use Rattle.phase_base.specs.Members.{entry_of, wait_phases, least, signalled}
use Rattle.phase_history.specs.Histories.{History, members_of, signal_phase}
use Rattle.phase_history.specs.Phases.{sends_of_phase, named_in_phase, first_named, is_among}
use Rattle.phase_history.specs.Refusals.{refusal_at, list_rows, phase_rows, is_bad_block, signal_rows, signal_rows_before, signal_refusal}
use Rattle.phase_base.specs.Lists.{first_row}
use Rattle.phase_history.specs.Blocks.{one_by_one_refusal}
use Rattle.phase_history.proofs.MemberLemmas.{entry_of-changed_same, wait_phases-signalled}
use Rattle.phase_history.proofs.Steps.{member_entry_is}

-- the rows of one plain signal after a history
abbrev plainly : Limits → History → List ℤ → Option Single → Entry → Option SignalRefusal
plainly limits h sends single e = first_row (list_rows limits h (sends ∷ []) single e)

-- the same for each list in turn, in the history that the lists before it leave
abbrev rows_one_by_one : Limits → History → ℕ → List (List ℤ) → Option Single → Entry → Option SignalRefusal
rows_one_by_one limits h task [] single e = None
rows_one_by_one limits h task (sends ∷ lists) single e =
    option_or (plainly limits h sends single e)
    (rows_one_by_one limits (Signalled task (sends ∷ []) single ∷ h) task lists single (signalled 1 e))

first_row-append : (xs ys : List (Bool × SignalRefusal)) → first_row (xs ++ ys) ≡ option_or (first_row xs) (first_row ys)
first_row-append [] ys = refl
first_row-append (x ∷ xs) ys =
    elim x.0 as (λ b. cond b (Some x.1) (first_row (xs ++ ys)) ≡ option_or (cond b (Some x.1) (first_row xs)) (first_row ys)) [
      | true ↦ refl
      | false ↦ first_row-append xs ys
    ]

-- later phases know nothing of a signal's own
sends_later : (h : History) (task p : ℕ) (sends : List ℤ) (single : Option Single) → signal_phase h task < p
    → sends_of_phase (Signalled task (sends ∷ []) single ∷ h) p ≡ sends_of_phase h p
sends_later h task p sends single later =
    let away : eqb (signal_phase h task) p ≡ false = ne_eqb _ _ (λ e. omega arith) in
    ap (λ b. sends_of_phase h p ++ cond b sends []) away ∙ append-nil _

none_named : (o : Option (Option Single)) (single : Option Single) → first_named o false single ≡ o
none_named None single = refl
none_named (Some n) single = refl

named_later : (h : History) (task p : ℕ) (sends : List ℤ) (single : Option Single) → signal_phase h task < p
    → named_in_phase (Signalled task (sends ∷ []) single ∷ h) p ≡ named_in_phase h p
named_later h task p sends single later =
    let s = signal_phase h task in
    let e : ltb p (s + 1) ≡ false = le-ltb p (s + 1) (omega arith) in
    let outside : is_among s 1 p ≡ false = elim (leb s p) as (λ b. (b && ltb p (s + 1)) ≡ false) [ true ↦ e | false ↦ refl ] in
    ap (λ b. first_named (named_in_phase h p) b single) outside ∙ none_named _ single

-- so the rows of later lists are the same before and after the first list has joined
rows_later : (limits : Limits) (h : History) (task : ℕ) (sends : List ℤ) (single : Option Single) (lists : List (List ℤ)) (e : Entry)
    → signal_phase h task < e.signal_phase
    → list_rows limits (Signalled task (sends ∷ []) single ∷ h) lists single e ≡ list_rows limits h lists single e
rows_later limits h task sends single [] e later = refl
rows_later limits h task sends single (l ∷ lists) e later =
    let h2 = Signalled task (sends ∷ []) single ∷ h in
    let slow : least (wait_phases (members_of h2)) ≡ least (wait_phases (members_of h)) =
    ap least (wait_phases-signalled (members_of h) task 1) in
    let more = sends_later h task e.signal_phase sends single later in
    let named = named_later h task e.signal_phase sends single later in
    ap (λ o. phase_rows limits o (length (sends_of_phase h2 e.signal_phase)) (named_in_phase h2 e.signal_phase) (length l) single e
    ++ list_rows limits h2 lists single (signalled 1 e)) slow
    ∙ ap (λ x. phase_rows limits (least (wait_phases (members_of h))) (length x) (named_in_phase h2 e.signal_phase) (length l) single e
    ++ list_rows limits h2 lists single (signalled 1 e)) more
    ∙ ap (λ n. phase_rows limits (least (wait_phases (members_of h))) (length (sends_of_phase h e.signal_phase)) n (length l) single e
    ++ list_rows limits h2 lists single (signalled 1 e)) named
    ∙ ap (λ r. phase_rows limits (least (wait_phases (members_of h))) (length (sends_of_phase h e.signal_phase)) (named_in_phase h e.signal_phase) (length l) single e ++ r)
    (rows_later limits h task sends single lists (signalled 1 e) (omega arith))

block_is_one_by_one : (limits : Limits) (h : History) (task : ℕ) (lists : List (List ℤ)) (single : Option Single) (e : Entry)
    → entry_of (members_of h) task ≡ Some e
    → first_row (list_rows limits h lists single e) ≡ rows_one_by_one limits h task lists single e
block_is_one_by_one limits h task [] single e found = refl
block_is_one_by_one limits h task (sends ∷ lists) single e found =
    let h2 = Signalled task (sends ∷ []) single ∷ h in
    let at_phase : signal_phase h task ≡ e.signal_phase = ap (λ (x : Entry). x.signal_phase) (member_entry_is (members_of h) task e found) in
    let found2 : entry_of (members_of h2) task ≡ Some (signalled 1 e) = entry_of-changed_same task (signalled 1) e (members_of h) found in
    let own = phase_rows limits (least (wait_phases (members_of h))) (length (sends_of_phase h e.signal_phase)) (named_in_phase h e.signal_phase) (length sends) single e in
    first_row-append own (list_rows limits h lists single (signalled 1 e))
    ∙ ap (λ r. option_or (first_row own) r) (
    ap first_row (sym (rows_later limits h task sends single lists (signalled 1 e) (omega arith)))
    ∙ block_is_one_by_one limits h2 task lists single (signalled 1 e) found2)
    ∙ ap (λ rows. option_or (first_row rows) (rows_one_by_one limits h2 task lists single (signalled 1 e))) (sym (append-nil own))

-- ---- with the rows that come first

-- the answer of a block that is neither too short nor too long, by its first rows
abbrev after_first_rows : Entry → Option Single → Option SignalRefusal → Option SignalRefusal
after_first_rows e single rest =
    cond (not (mode_signals e.mode)) (Some signal.NoSignal)
    (cond (is_some single && not (is_single e.mode)) (Some signal.NotSingle) rest)

first_row-before : (limits : Limits) (n : ℕ) (single : Option Single) (e : Entry) (rows : List (Bool × SignalRefusal))
    → is_bad_block limits n ≡ false
    → first_row (signal_rows_before limits n single e rows) ≡ after_first_rows e single (first_row rows)
first_row-before limits n single e rows good =
    ap (λ b. after_first_rows e single (cond b (Some signal.BadBlock) (first_row rows))) good

-- a plain signal is no bad block where some block is none
plain_is_good : (limits : Limits) (n : ℕ) → is_bad_block limits n ≡ false → is_bad_block limits 1 ≡ false
plain_is_good limits zero good = absurd (cc)
plain_is_good limits (suc n) good =
    let long : suc n ≤ limits.bound = ltb-false limits.bound (suc n) (or_parts (eqb (suc n) 0) (ltb limits.bound (suc n)) good).1 in
    le-ltb limits.bound 1 (omega arith)

-- where they do not apply, the others answer
first_rows_pass : (e : Entry) (single : Option Single) (rest : Option SignalRefusal) → not (mode_signals e.mode) ≡ false
    → (is_some single && not (is_single e.mode)) ≡ false → after_first_rows e single rest ≡ rest
first_rows_pass e single rest signals named =
    ap (λ b. cond b (Some signal.NoSignal) (cond (is_some single && not (is_single e.mode)) (Some signal.NotSingle) rest)) signals
    ∙ ap (λ b. cond b (Some signal.NotSingle) rest) named

-- a plain signal of a member
plain_refusal : (limits : Limits) (h : History) (task : ℕ) (sends : List ℤ) (single : Option Single) (e : Entry)
    → entry_of (members_of h) task ≡ Some e → is_bad_block limits 1 ≡ false
    → signal_refusal limits h task (sends ∷ []) single ≡ after_first_rows e single (plainly limits h sends single e)
plain_refusal limits h task sends single e found good =
    ap (λ o. refusal_at o signal.NoTask (signal_rows limits h (sends ∷ []) single)) found
    ∙ first_row-before limits 1 single e (list_rows limits h (sends ∷ []) single e) good

one_by_one-rows : (limits : Limits) (h : History) (task : ℕ) (lists : List (List ℤ)) (single : Option Single) (e : Entry)
    → entry_of (members_of h) task ≡ Some e → is_bad_block limits 1 ≡ false
    → not (mode_signals e.mode) ≡ false → (is_some single && not (is_single e.mode)) ≡ false
    → one_by_one_refusal limits h task lists single ≡ rows_one_by_one limits h task lists single e
one_by_one-rows limits h task [] single e found good signals named = refl
one_by_one-rows limits h task (sends ∷ lists) single e found good signals named =
    let longer = Signalled task (sends ∷ []) single ∷ h in
    let later : entry_of (members_of longer) task ≡ Some (signalled 1 e) =
    entry_of-changed_same task (signalled 1) e (members_of h) found in
    ap (λ r. option_or r (one_by_one_refusal limits longer task lists single))
    (plain_refusal limits h task sends single e found good
    ∙ first_rows_pass e single (plainly limits h sends single e) signals named)
    ∙ ap (λ r. option_or (plainly limits h sends single e) r)
    (one_by_one-rows limits longer task lists single (signalled 1 e) later good signals named)

-- what the first rows say of one signal they say of all
one_by_one-first_rows : (limits : Limits) (h : History) (task : ℕ) (sends : List ℤ) (lists : List (List ℤ)) (single : Option Single) (e : Entry)
    → entry_of (members_of h) task ≡ Some e → is_bad_block limits 1 ≡ false
    → one_by_one_refusal limits h task (sends ∷ lists) single ≡ after_first_rows e single (rows_one_by_one limits h task (sends ∷ lists) single e)
one_by_one-first_rows limits h task sends lists single e found good =
    let all = rows_one_by_one limits h task (sends ∷ lists) single e in
    let own = plainly limits h sends single e in
    let rest = one_by_one_refusal limits (Signalled task (sends ∷ []) single ∷ h) task lists single in
    let plain : one_by_one_refusal limits h task (sends ∷ lists) single ≡ option_or (after_first_rows e single own) rest =
    ap (λ r. option_or r rest) (plain_refusal limits h task sends single e found good) in
    let no_signal = not (mode_signals e.mode) in
    let not_single = is_some single && not (is_single e.mode) in
    let G : Type 0 = one_by_one_refusal limits h task (sends ∷ lists) single ≡ after_first_rows e single all in
    elim no_signal as (λ b. (no_signal ≡ b) → G) [
      | true ↦ λ t.
          let both : (o : Option SignalRefusal) → after_first_rows e single o ≡ Some signal.NoSignal =
          λ o. ap (λ b. cond b (Some signal.NoSignal) (cond not_single (Some signal.NotSingle) o)) t in
          plain ∙ ap (λ r. option_or r rest) (both own) ∙ sym (both all)
      | false ↦ λ signals.
          elim not_single as (λ b. (not_single ≡ b) → G) [
            | true ↦ λ t.
                let both : (o : Option SignalRefusal) → after_first_rows e single o ≡ Some signal.NotSingle =
                λ o. ap (λ b. cond b (Some signal.NoSignal) (cond not_single (Some signal.NotSingle) o)) signals
                ∙ ap (λ b. cond b (Some signal.NotSingle) o) t in
                plain ∙ ap (λ r. option_or r rest) (both own) ∙ sym (both all)
            | false ↦ λ named.
                one_by_one-rows limits h task (sends ∷ lists) single e found good signals named
                ∙ sym (first_rows_pass e single all signals named)
          ] refl
    ] refl

pub signal_refusal-one_by_one : (limits : Limits) (h : History) (task : ℕ) (lists : List (List ℤ)) (single : Option Single)
    → is_bad_block limits (length lists) ≡ false
    → signal_refusal limits h task lists single ≡ one_by_one_refusal limits h task lists single
signal_refusal-one_by_one limits h task [] single good = absurd (cc)
signal_refusal-one_by_one limits h task (sends ∷ lists) single good =
    let rest = one_by_one_refusal limits (Signalled task (sends ∷ []) single ∷ h) task lists single in
    let o = entry_of (members_of h) task in
    elim o as (λ x. (o ≡ x) → signal_refusal limits h task (sends ∷ lists) single ≡ one_by_one_refusal limits h task (sends ∷ lists) single) [
      | None ↦ λ t.
          ap (λ x. refusal_at x signal.NoTask (signal_rows limits h (sends ∷ lists) single)) t
          ∙ sym (ap (λ x. option_or (refusal_at x signal.NoTask (signal_rows limits h (sends ∷ []) single)) rest) t)
      | Some e ↦ λ t.
          ap (λ x. refusal_at x signal.NoTask (signal_rows limits h (sends ∷ lists) single)) t
          ∙ first_row-before limits (length (sends ∷ lists)) single e (list_rows limits h (sends ∷ lists) single e) good
          ∙ ap (λ r. after_first_rows e single r) (block_is_one_by_one limits h task (sends ∷ lists) single e t)
          ∙ sym (one_by_one-first_rows limits h task sends lists single e t (plain_is_good limits (length (sends ∷ lists)) good))
    ] refl
