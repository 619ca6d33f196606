-- The sends of a phase are those of its tasks, in another order or, where one task alone has sent
-- in it, in the same.
use Rattle.std.proofs.Common.{◌≡◌, ℕ, ◌+◌, Bool, true, false, not, ◌||◌, cond, eqb, List, [], ◌∷◌, ◌++◌, Option, ℤ, length, refl, sym, ap, ◌∙◌, arith}
use Rattle.std.proofs.lemmas.List.{append-nil, append_assoc}
use Rattle.std.proofs.lemmas.Bool.{eqb-true, eqb-false, ne_eqb, eq-eqb, and_parts, not-true}
use Rattle.phase_accum.specs.Exchanges.{Exchanges}
use Rattle.phase_accum.specs.declared.single.Single.{Single}
use Rattle.phase_history.specs.declared.event.Event.TheVariants.{Made, Registered, RegisteredNow, Signalled, Waited, Dropped}
use Rattle.phase_history.specs.Histories.{History, signal_phase, phases_signalled}
use Rattle.phase_history.specs.Phases.{list_in_phase, sends_of_phase}
use Rattle.phase_base.specs.Lists.{is_distinct, is_in}
use Rattle.phase_history.specs.Sent.{sent_in, gathered, OnlySignalled}

-- ---- one more signal

-- two numbers that are not the same, the other way round
apart_too : (a b : ℕ) → eqb a b ≡ false → eqb b a ≡ false
apart_too a b apart = ne_eqb b a (λ e. eqb-false a b apart (sym e))

-- of a task that is none of these it changes nothing
gathered-signal_other : (before : History) (task : ℕ) (lists : List (List ℤ)) (single : Option Single) (tasks : List ℕ) (p : ℕ)
    → is_in task tasks ≡ false → gathered (Signalled task lists single ∷ before) tasks p ≡ gathered before tasks p
gathered-signal_other before task lists single [] p none = refl
gathered-signal_other before task lists single (other ∷ others) p none =
    elim (eqb other task) as (λ b. (eqb other task ≡ b) → (b || is_in task others) ≡ false
    → gathered (Signalled task lists single ∷ before) (other ∷ others) p ≡ gathered before (other ∷ others) p) [
      | true ↦ λ t n. absurd (let e : true ≡ false = n in cc)
      | false ↦ λ t n.
          let apart : eqb task other ≡ false = apart_too other task t in
          rw apart (ap (λ l. sent_in before other p ++ l) (gathered-signal_other before task lists single others p n))
    ] refl none

turn_three : (a b c d : List ℤ) → a ++ ((b ++ c) ++ d) ≡ (a ++ b) ++ (c ++ d)
turn_three a b c d = ap (λ l. a ++ l) (append_assoc b c d) ∙ sym (append_assoc a b (c ++ d))

turn_four : (a b c d e : List ℤ) → a ++ (((b ++ c) ++ d) ++ e) ≡ (a ++ b) ++ (c ++ (d ++ e))
turn_four a b c d e =
    ap (λ l. a ++ l) (append_assoc (b ++ c) d e ∙ append_assoc b c (d ++ e)) ∙ sym (append_assoc a b (c ++ (d ++ e)))

turn_back : (a b c d e : List ℤ) → (a ++ b) ++ (c ++ (d ++ e)) ≡ a ++ ((b ++ c) ++ (d ++ e))
turn_back a b c d e = append_assoc a b (c ++ (d ++ e)) ∙ ap (λ l. a ++ l) (sym (append_assoc b c (d ++ e)))

-- of one of these it adds what it sends
gathered-signal : {X : Type 0} (value : List ℤ → X) → Exchanges value → (before : History) (task : ℕ) (lists : List (List ℤ))
    (single : Option Single) (tasks : List ℕ) (p : ℕ) → is_distinct tasks ≡ true → is_in task tasks ≡ true → (front back : List ℤ)
    → value (front ++ (gathered (Signalled task lists single ∷ before) tasks p ++ back))
    ≡ value (front ++ (gathered before tasks p ++ (list_in_phase lists (signal_phase before task) p ++ back)))
gathered-signal value swaps before task lists single [] p distinct found front back =
    absurd (let e : false ≡ true = found in cc)
gathered-signal {X} value swaps before task lists single (other ∷ others) p distinct found front back =
    let parts = and_parts (not (is_in other others)) (is_distinct others) distinct in
    let now = Signalled task lists single ∷ before in
    let more = list_in_phase lists (signal_phase before task) p in
    let xs = sent_in before other p in
    elim (eqb other task) as (λ b. (eqb other task ≡ b) → (b || is_in task others) ≡ true
    → value (front ++ ((sent_in now other p ++ gathered now others p) ++ back))
    ≡ value (front ++ ((sent_in before other p ++ gathered before others p) ++ (more ++ back)))) [
      | true ↦ λ t n.
          let same : other ≡ task = eqb-true _ _ t in
          let alone : is_in task others ≡ false = rw (← same) (not-true (is_in other others) parts.0) in
          let mine : eqb task other ≡ true = eq-eqb task other (sym same) in
          let rest : gathered now others p ≡ gathered before others p =
          gathered-signal_other before task lists single others p alone in
          let gs = gathered before others p in
          let here : sent_in now other p ≡ xs ++ more = rw mine refl in
          ap (λ l. value (front ++ ((l ++ gathered now others p) ++ back))) here
          ∙ ap (λ l. value (front ++ (((xs ++ more) ++ l) ++ back))) rest
          ∙ ap value (turn_four front xs more gs back)
          ∙ swaps (front ++ xs) more gs back
          ∙ ap value (turn_back front xs gs more back)
      | false ↦ λ t n.
          let apart : eqb task other ≡ false = apart_too other task t in
          let here : sent_in now other p ≡ xs = rw apart refl in
          ap (λ l. value (front ++ ((l ++ gathered now others p) ++ back))) here
          ∙ ap value (turn_three front xs (gathered now others p) back)
          ∙ gathered-signal value swaps before task lists single others p parts.1 n (front ++ xs) back
          ∙ ap value (sym (turn_three front xs (gathered before others p) (more ++ back)))
    ] refl found

pub no_lists : (lists : List (List ℤ)) → length lists ≡ 0 → lists ≡ []
no_lists [] e = refl
no_lists (sends ∷ lists) e = absurd (omega arith)

-- ---- all signals

OnlySignalled-before : (before : History) (task : ℕ) (lists : List (List ℤ)) (single : Option Single) (tasks : List ℕ)
    → OnlySignalled tasks (Signalled task lists single ∷ before) → OnlySignalled tasks before
OnlySignalled-before before task lists single tasks only other none =
    elim (eqb task other) as (λ b. cond b (phases_signalled before other + length lists) (phases_signalled before other) ≡ 0
    → phases_signalled before other ≡ 0) [
      | true ↦ λ e. omega arith
      | false ↦ λ e. e
    ] (only other none)

-- histories in which each task has sent the same in a phase
gathered-same : (h g : History) (tasks : List ℕ) (p : ℕ) → ((task : ℕ) → sent_in h task p ≡ sent_in g task p)
    → gathered h tasks p ≡ gathered g tasks p
gathered-same h g [] p same = refl
gathered-same h g (task ∷ tasks) p same =
    ap (λ l. l ++ gathered h tasks p) (same task) ∙ ap (λ l. sent_in g task p ++ l) (gathered-same h g tasks p same)

gathered-none : (tasks : List ℕ) (p : ℕ) → gathered [] tasks p ≡ []
gathered-none [] p = refl
gathered-none (task ∷ tasks) p = gathered-none tasks p

-- what stands behind is carried along
pub sends_of_phase-gathered : {X : Type 0} (value : List ℤ → X) → Exchanges value → (h : History) (tasks : List ℕ) (p : ℕ)
    → is_distinct tasks ≡ true → OnlySignalled tasks h → (back : List ℤ)
    → value (sends_of_phase h p ++ back) ≡ value (gathered h tasks p ++ back)
sends_of_phase-gathered value swaps [] tasks p distinct only back =
    ap (λ l. value (l ++ back)) (sym (gathered-none tasks p))
sends_of_phase-gathered value swaps (Made founding ∷ before) tasks p distinct only back =
    sends_of_phase-gathered value swaps before tasks p distinct only back
    ∙ ap (λ l. value (l ++ back)) (gathered-same before (Made founding ∷ before) tasks p (λ task. refl))
sends_of_phase-gathered value swaps (Registered parent child mode ∷ before) tasks p distinct only back =
    sends_of_phase-gathered value swaps before tasks p distinct only back
    ∙ ap (λ l. value (l ++ back)) (gathered-same before (Registered parent child mode ∷ before) tasks p (λ task. refl))
sends_of_phase-gathered value swaps (RegisteredNow parent child ∷ before) tasks p distinct only back =
    sends_of_phase-gathered value swaps before tasks p distinct only back
    ∙ ap (λ l. value (l ++ back)) (gathered-same before (RegisteredNow parent child ∷ before) tasks p (λ task. refl))
sends_of_phase-gathered value swaps (Waited waiter n ∷ before) tasks p distinct only back =
    sends_of_phase-gathered value swaps before tasks p distinct only back
    ∙ ap (λ l. value (l ++ back)) (gathered-same before (Waited waiter n ∷ before) tasks p (λ task. refl))
sends_of_phase-gathered value swaps (Dropped gone ∷ before) tasks p distinct only back =
    sends_of_phase-gathered value swaps before tasks p distinct only back
    ∙ ap (λ l. value (l ++ back)) (gathered-same before (Dropped gone ∷ before) tasks p (λ task. refl))
sends_of_phase-gathered value swaps (Signalled task lists single ∷ before) tasks p distinct only back =
    let more = list_in_phase lists (signal_phase before task) p in
    ap value (append_assoc (sends_of_phase before p) more back)
    ∙ sends_of_phase-gathered value swaps before tasks p distinct (OnlySignalled-before before task lists single tasks only) (more ++ back)
    ∙ split (is_in task tasks) refl
  where
    split : (b : Bool) → is_in task tasks ≡ b
        → value (gathered before tasks p ++ (list_in_phase lists (signal_phase before task) p ++ back))
        ≡ value (gathered (Signalled task lists single ∷ before) tasks p ++ back)
    split true found = sym (gathered-signal value swaps before task lists single tasks p distinct found [] back)
    split false none =
        let silent : phases_signalled (Signalled task lists single ∷ before) task ≡ 0 = only task none in
        let here : eqb task task ≡ true = eq-eqb task task refl in
        let counted : phases_signalled (Signalled task lists single ∷ before) task ≡ phases_signalled before task + length lists = rw here refl in
        let empty : lists ≡ [] = no_lists lists (omega arith) in
        ap (λ l. value (gathered before tasks p ++ (list_in_phase l (signal_phase before task) p ++ back))) empty
        ∙ ap (λ l. value (l ++ back)) (sym (gathered-signal_other before task lists single tasks p none))

pub sends_are_gathered : {X : Type 0} (value : List ℤ → X) (h : History) (tasks : List ℕ) (p : ℕ) → Exchanges value
    → is_distinct tasks ≡ true → OnlySignalled tasks h → value (sends_of_phase h p) ≡ value (gathered h tasks p)
sends_are_gathered value h tasks p swaps distinct only =
    ap value (sym (append-nil (sends_of_phase h p))) ∙ sends_of_phase-gathered value swaps h tasks p distinct only []
    ∙ ap value (append-nil (gathered h tasks p))

-- ---- one sender

-- the others have sent nothing in phase p
abbrev AloneIn : History → ℕ → ℕ → Type 0
AloneIn h task p = (other : ℕ) → (other ≡ task → ⊥) → sent_in h other p ≡ []

both_empty : (xs ys : List ℤ) → xs ++ ys ≡ [] → (xs ≡ []) × (ys ≡ [])
both_empty [] ys e = (refl, e)
both_empty (x ∷ xs) ys e = absurd (let l : length (x ∷ (xs ++ ys)) ≡ 0 = ap length e in omega arith)

AloneIn-before : (before : History) (signaller task p : ℕ) (lists : List (List ℤ)) (single : Option Single)
    → AloneIn (Signalled signaller lists single ∷ before) task p → AloneIn before task p
AloneIn-before before signaller task p lists single alone other apart =
    elim (eqb signaller other) as (λ b. cond b (sent_in before other p ++ list_in_phase lists (signal_phase before signaller) p) (sent_in before other p) ≡ []
    → sent_in before other p ≡ []) [
      | true ↦ λ e. (both_empty (sent_in before other p) (list_in_phase lists (signal_phase before signaller) p) e).0
      | false ↦ λ e. e
    ] (alone other apart)

pub sends_of_phase-alone : (h : History) (task p : ℕ) → AloneIn h task p → sends_of_phase h p ≡ sent_in h task p
sends_of_phase-alone [] task p alone = refl
sends_of_phase-alone (Made founding ∷ before) task p alone = sends_of_phase-alone before task p alone
sends_of_phase-alone (Registered parent child mode ∷ before) task p alone = sends_of_phase-alone before task p alone
sends_of_phase-alone (RegisteredNow parent child ∷ before) task p alone = sends_of_phase-alone before task p alone
sends_of_phase-alone (Waited waiter n ∷ before) task p alone = sends_of_phase-alone before task p alone
sends_of_phase-alone (Dropped gone ∷ before) task p alone = sends_of_phase-alone before task p alone
sends_of_phase-alone (Signalled signaller lists single ∷ before) task p alone =
    let more = list_in_phase lists (signal_phase before signaller) p in
    let earlier : sends_of_phase before p ≡ sent_in before task p =
    sends_of_phase-alone before task p (AloneIn-before before signaller task p lists single alone) in
    elim (eqb signaller task) as (λ b. (eqb signaller task ≡ b)
    → sends_of_phase before p ++ more ≡ cond b (sent_in before task p ++ more) (sent_in before task p)) [
      | true ↦ λ e. ap (λ l. l ++ more) earlier
      | false ↦ λ e.
          let here : eqb signaller signaller ≡ true = eq-eqb signaller signaller refl in
          let mine : sent_in (Signalled signaller lists single ∷ before) signaller p ≡ sent_in before signaller p ++ more = rw here refl in
          let none : more ≡ [] = (both_empty (sent_in before signaller p) more (sym mine ∙ alone signaller (eqb-false signaller task e))).1 in
          ap (λ l. sends_of_phase before p ++ l) none ∙ append-nil _ ∙ earlier
    ] refl
