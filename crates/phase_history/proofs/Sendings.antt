-- What one task has sent in which phase, and that each phase below the top has a signal.
use Rattle.std.proofs.Common.{◌≡◌, ℕ, zero, suc, ◌+◌, ◌-◌, ◌<◌, ◌≤◌, true, false, cond, eqb, leb, List, [], ◌∷◌, ◌++◌, Option, Some, None, ℤ, length, get_or, max, refl, sym, ap, subst, ◌∙◌, arith, ◌⊎◌, inl, inr}
use Rattle.std.specs.Prelude.{is_some}
use Rattle.std.specs.List.{sum_by}
use Rattle.std.specs.Option.{option_and_then}
use Rattle.std.proofs.lemmas.List.{append-nil, length-append}
use Rattle.std.proofs.lemmas.Bool.{eqb-true, ne_eqb, eq-eqb, cases_lt, le-leb}
use Rattle.std.proofs.lemmas.Option.{same_Some}
use Rattle.phase_base.specs.Limits.{Limits}
use Rattle.phase_base.specs.declared.entry.Entry.{Entry}
use Rattle.phase_base.specs.declared.mode.Mode.TheVariants.{Wait}
use Rattle.phase_base.specs.Members.{member}
use Rattle.phase_accum.specs.declared.outcome.Outcome.{Outcome}
use Rattle.phase_accum.specs.declared.outcome.Outcome.TheVariants.{Empty}
use Rattle.phase_accum.specs.declared.single.Single.{Single}
use Rattle.phase_history.specs.declared.event.Event.TheVariants.{Made, Registered, RegisteredNow, Signalled, Waited, Dropped}
use Rattle.phase_history.specs.Histories.{History, members_of, member_entry, signal_phase, wait_phase, done_of, top_of, greatest_used, start_of, entry_at, phases_signalled}
use Rattle.phase_history.specs.Phases.{list_in_phase, named_in_phase, single_of_phase, first_named, is_among}
use Rattle.phase_history.specs.Legal.{IsLegal}
use Rattle.phase_history.proofs.Refused.{Registers, registers_from, SignalsNow, signals_from}
use Rattle.phase_history.proofs.Steps.{StandsWell, sound_of, member_entry_is, list_in_phase-below}
use Rattle.phase_history.proofs.MemberLemmas.{Each-entry}
use Rattle.phase_history.proofs.Received.{Counted, counted, Unused, unused, start_of-above}
use Rattle.phase_history.specs.Others.{phases_of_signal}
use Rattle.phase_history.specs.Sent.{sent_by, sent_in, NamesAll, IsSilent}
use Rattle.phase_history.proofs.Gathered.{no_lists}
use Rattle.phase_history.proofs.Used.{events_of-unused}
use Rattle.phase_history.proofs.OthersEvents.{phases_signalled-events}

-- a task's lists are as many as the phases that it signalled
pub length-sent_by : (h : History) (task : ℕ) → length (sent_by h task) ≡ phases_signalled h task
length-sent_by [] task = refl
length-sent_by (Made founding ∷ before) task = length-sent_by before task
length-sent_by (Registered parent child mode ∷ before) task = length-sent_by before task
length-sent_by (RegisteredNow parent child ∷ before) task = length-sent_by before task
length-sent_by (Waited waiter n ∷ before) task = length-sent_by before task
length-sent_by (Dropped gone ∷ before) task = length-sent_by before task
length-sent_by (Signalled t lists single ∷ before) task =
    elim (eqb t task) as (λ b. length (cond b (sent_by before task ++ lists) (sent_by before task)) ≡ cond b (phases_signalled before task + length lists) (phases_signalled before task)) [
      | true ↦ length-append (sent_by before task) lists ∙ ap (λ n. n + length lists) (length-sent_by before task)
      | false ↦ length-sent_by before task
    ]

-- who signalled nothing has sent nothing
pub sent_in-none : (h : History) (task p : ℕ) → phases_signalled h task ≡ 0 → sent_in h task p ≡ []
sent_in-none [] task p none = refl
sent_in-none (Made founding ∷ before) task p none = sent_in-none before task p none
sent_in-none (Registered parent child mode ∷ before) task p none = sent_in-none before task p none
sent_in-none (RegisteredNow parent child ∷ before) task p none = sent_in-none before task p none
sent_in-none (Waited waiter n ∷ before) task p none = sent_in-none before task p none
sent_in-none (Dropped gone ∷ before) task p none = sent_in-none before task p none
sent_in-none (Signalled t lists single ∷ before) task p none =
    elim (eqb t task) as (λ b. cond b (phases_signalled before task + length lists) (phases_signalled before task) ≡ 0
    → cond b (sent_in before task p ++ list_in_phase lists (signal_phase before t) p) (sent_in before task p) ≡ []) [
      | true ↦ λ e.
          let empty : lists ≡ [] = no_lists lists (omega arith) in
          ap (λ l. sent_in before task p ++ list_in_phase l (signal_phase before t) p) empty ∙ append-nil _ ∙ sent_in-none before task p (omega arith)
      | false ↦ λ e. sent_in-none before task p e
    ] none

-- of lists from phase s on, list number j stands in phase s + j
pub list_in_phase-place : (lists : List (List ℤ)) (s j p : ℕ) → s + j ≡ p → list_in_phase lists s p ≡ get_or lists j []
list_in_phase-place [] s j p e = refl
list_in_phase-place (sends ∷ lists) s zero p e = let here : eqb s p ≡ true = eq-eqb s p (omega arith) in rw here refl
list_in_phase-place (sends ∷ lists) s (suc j) p e =
    let apart : eqb s p ≡ false = ne_eqb s p (λ same. omega arith) in
    rw apart (list_in_phase-place lists (s + 1) j p (omega arith))

-- one list after another, by place
get_or-after : (xs ys : List (List ℤ)) (j : ℕ) → get_or (xs ++ ys) (length xs + j) [] ≡ get_or ys j []
get_or-after [] ys j = ap (λ n. get_or ys n []) (omega arith)
get_or-after (x ∷ xs) ys j =
    let next : suc (length xs) + j ≡ suc (length xs + j) = omega arith in
    ap (λ n. get_or (x ∷ (xs ++ ys)) n []) next ∙ get_or-after xs ys j

get_or-before : (xs ys : List (List ℤ)) (j : ℕ) → j < length xs → get_or (xs ++ ys) j [] ≡ get_or xs j []
get_or-before [] ys j below = absurd (omega arith)
get_or-before (x ∷ xs) ys zero below = refl
get_or-before (x ∷ xs) ys (suc j) below = get_or-before xs ys j (omega arith)

get_or-past : (xs : List (List ℤ)) (j : ℕ) → length xs ≤ j → get_or xs j [] ≡ []
get_or-past [] j past = refl
get_or-past (x ∷ xs) zero past = absurd (omega arith)
get_or-past (x ∷ xs) (suc j) past = get_or-past xs j (omega arith)

-- what a task has sent in a phase, by its start
pub record SentInTurn (h : History) (task : ℕ) (start : Entry) : Type 0 where
  pub placed : (k p : ℕ) → start.signal_phase + k ≡ p → sent_in h task p ≡ get_or (sent_by h task) k []
  pub below : (p : ℕ) → p < start.signal_phase → sent_in h task p ≡ []

SentInTurn-silent : (h : History) (task : ℕ) (start : Entry) → phases_signalled h task ≡ 0 → SentInTurn h task start
SentInTurn-silent h task start none = record {
  placed = λ k p e. sent_in-none h task p none ∙ sym (get_or-past (sent_by h task) k (let l : length (sent_by h task) ≡ phases_signalled h task = length-sent_by h task in omega arith));
  below = λ p e. sent_in-none h task p none;
}

pub nothing : List ℤ → Outcome
nothing sends = Empty

more_placed : (before : History) (task : ℕ) (lists : List (List ℤ)) (start : Entry) (s k p : ℕ) → SentInTurn before task start
    → start.signal_phase + length (sent_by before task) ≡ s → start.signal_phase + k ≡ p
    → sent_in before task p ++ list_in_phase lists s p ≡ get_or (sent_by before task ++ lists) k []
more_placed before task lists start s k p earlier here e = split (cases_lt k (length (sent_by before task)))
  where
    split : (k < length (sent_by before task)) ⊎ (length (sent_by before task) ≤ k)
        → sent_in before task p ++ list_in_phase lists s p ≡ get_or (sent_by before task ++ lists) k []
    split (inl old) =
        ap (λ l. sent_in before task p ++ l) (list_in_phase-below lists s p (omega arith)) ∙ append-nil _
        ∙ earlier.placed k p e ∙ sym (get_or-before (sent_by before task) lists k old)
    split (inr new) =
        let j = k - length (sent_by before task) in
        let k_is : length (sent_by before task) + j ≡ k = omega arith in
        ap (λ l. l ++ list_in_phase lists s p) (earlier.placed k p e ∙ get_or-past (sent_by before task) k new)
        ∙ list_in_phase-place lists s j p (omega arith)
        ∙ sym (get_or-after (sent_by before task) lists j)
        ∙ ap (λ n. get_or (sent_by before task ++ lists) n []) k_is

SentInTurn-same : (before now : History) (task : ℕ) (start : Entry) → sent_by now task ≡ sent_by before task
    → ((p : ℕ) → sent_in now task p ≡ sent_in before task p) → SentInTurn before task start → SentInTurn now task start
SentInTurn-same before now task start same_by same_in u = record {
  placed = λ k p e. same_in p ∙ u.placed k p e ∙ ap (λ l. get_or l k []) (sym same_by);
  below = λ p e. same_in p ∙ u.below p e;
}

pub SentInTurn-of : (limits : Limits) (h : History) (task : ℕ) (start : Entry) → IsLegal limits h → start_of h task ≡ Some start → SentInTurn h task start
SentInTurn-of limits [] task start legal is = absurd legal
SentInTurn-of limits (Made founding ∷ before) task start legal is =
    rw legal.1 (SentInTurn-silent (Made founding ∷ []) task start refl)
SentInTurn-of limits (Registered parent child mode ∷ before) task start legal is =
    let r : Registers before parent child mode = registers_from before parent child mode legal.1 in
    SentInTurn-same before (Registered parent child mode ∷ before) task start refl (λ p. refl) (elim (eqb child task) as (λ b. (eqb child task ≡ b)
    → (cond b (Some (entry_at mode (signal_phase before parent) (wait_phase before parent))) (start_of before task) ≡ Some start)
    → SentInTurn before task start) [
      | true ↦ λ t s.
          let same : child ≡ task = eqb-true _ _ t in
          let above : greatest_used before < child = r.new_number in
          let u : Unused nothing before task = unused nothing limits before task legal.0 (start_of-above before task (omega arith)) in
          SentInTurn-silent before task start u.signals
      | false ↦ λ t s. SentInTurn-of limits before task start legal.0 s
    ] refl is)
SentInTurn-of limits (RegisteredNow parent child ∷ before) task start legal is =
    let r : Registers before parent child Wait = registers_from before parent child Wait legal.1 in
    SentInTurn-same before (RegisteredNow parent child ∷ before) task start refl (λ p. refl) (elim (eqb child task) as (λ b. (eqb child task ≡ b)
    → (cond b (Some (entry_at Wait (signal_phase before parent) (done_of before))) (start_of before task) ≡ Some start)
    → SentInTurn before task start) [
      | true ↦ λ t s.
          let same : child ≡ task = eqb-true _ _ t in
          let above : greatest_used before < child = r.new_number in
          let u : Unused nothing before task = unused nothing limits before task legal.0 (start_of-above before task (omega arith)) in
          SentInTurn-silent before task start u.signals
      | false ↦ λ t s. SentInTurn-of limits before task start legal.0 s
    ] refl is)
SentInTurn-of limits (Waited waiter n ∷ before) task start legal is =
    SentInTurn-same before (Waited waiter n ∷ before) task start refl (λ p. refl) (SentInTurn-of limits before task start legal.0 is)
SentInTurn-of limits (Dropped gone ∷ before) task start legal is =
    SentInTurn-same before (Dropped gone ∷ before) task start refl (λ p. refl) (SentInTurn-of limits before task start legal.0 is)
SentInTurn-of limits (Signalled t lists single ∷ before) task start legal is =
    let r : SignalsNow before t = signals_from limits before t lists single legal.1.0 in
    let c : Counted nothing before t r.entry = counted nothing limits before t r.entry legal.0 r.is_member in
    let e_is : member_entry (members_of before) t ≡ r.entry = member_entry_is (members_of before) t r.entry r.is_member in
    let s_is : signal_phase before t ≡ r.entry.signal_phase = ap (λ (e : Entry). e.signal_phase) e_is in
    let earlier : SentInTurn before task start = SentInTurn-of limits before task start legal.0 is in
    let long : length (sent_by before task) ≡ phases_signalled before task = length-sent_by before task in
    let s = signal_phase before t in
    let here : eqb t task ≡ true → start.signal_phase + length (sent_by before task) ≡ s = λ e. (
    let same : t ≡ task = eqb-true _ _ e in
    let began : c.start ≡ start = same_Some _ _ (sym c.start_is ∙ (ap (λ n. start_of before n) same ∙ is)) in
    let began_at : c.start.signal_phase ≡ start.signal_phase = ap (λ (x : Entry). x.signal_phase) began in
    let count_is : phases_signalled before t ≡ phases_signalled before task = ap (λ n. phases_signalled before n) same in
    omega (arith, c.signals)) in
    record {
      placed = λ k p e. elim (eqb t task) as (λ b. (eqb t task ≡ b)
          → cond b (sent_in before task p ++ list_in_phase lists s p) (sent_in before task p) ≡ get_or (cond b (sent_by before task ++ lists) (sent_by before task)) k []) [
            | true ↦ λ t. more_placed before task lists start s k p earlier (here t) e
            | false ↦ λ t. earlier.placed k p e
          ] refl;
      below = λ p e. elim (eqb t task) as (λ b. (eqb t task ≡ b)
          → cond b (sent_in before task p ++ list_in_phase lists s p) (sent_in before task p) ≡ []) [
            | true ↦ λ t. (let at : start.signal_phase + length (sent_by before task) ≡ s = here t in
                ap (λ l. l ++ list_in_phase lists s p) (earlier.below p e) ∙ list_in_phase-below lists s p (omega arith))
            | false ↦ λ t. earlier.below p e
          ] refl;
    }

-- ---- each phase below the top has a signal

named_in_phase-signal : (before : History) (t : ℕ) (lists : List (List ℤ)) (single : Option Single) (p : ℕ)
    → is_some (named_in_phase before p) ≡ true → is_some (named_in_phase (Signalled t lists single ∷ before) p) ≡ true
named_in_phase-signal before t lists single p =
    elim (named_in_phase before p) as (λ o. is_some o ≡ true → is_some (first_named o (is_among (signal_phase before t) (length lists) p) single) ≡ true) [
      | None ↦ λ e. absurd (cc)
      | Some named ↦ λ e. refl
    ]

among_from : (s n p : ℕ) → s ≤ p → p < s + n → is_among s n p ≡ true
among_from s n p low high = let a : leb s p ≡ true = le-leb s p low in let b : leb (suc p) (s + n) ≡ true = le-leb (suc p) (s + n) high in rw a b

named_in_phase-here : (before : History) (t : ℕ) (lists : List (List ℤ)) (single : Option Single) (p : ℕ)
    → is_among (signal_phase before t) (length lists) p ≡ true → is_some (named_in_phase (Signalled t lists single ∷ before) p) ≡ true
named_in_phase-here before t lists single p among =
    elim (named_in_phase before p) as (λ o. is_some (first_named o (is_among (signal_phase before t) (length lists) p) single) ≡ true) [
      | None ↦ rw among refl
      | Some named ↦ refl
    ]

named_in_phase-at : (before : History) (t : ℕ) (lists : List (List ℤ)) (single : Option Single) (p : ℕ)
    → (p < top_of before) ⊎ (top_of before ≤ p) → (p < top_of before → is_some (named_in_phase before p) ≡ true)
    → p < max (top_of before) (signal_phase before t + length lists) → signal_phase before t ≤ top_of before
    → is_some (named_in_phase (Signalled t lists single ∷ before) p) ≡ true
named_in_phase-at before t lists single p (inl early) known now low = named_in_phase-signal before t lists single p (known early)
named_in_phase-at before t lists single p (inr late) known now low =
    named_in_phase-here before t lists single p (among_from (signal_phase before t) (length lists) p (omega arith) (omega arith))

pub named_in_phase-below_top : (limits : Limits) (h : History) (p : ℕ) → IsLegal limits h → p < top_of h → is_some (named_in_phase h p) ≡ true
named_in_phase-below_top limits [] p legal below = absurd legal
named_in_phase-below_top limits (Made founding ∷ before) p legal below = absurd (omega arith)
named_in_phase-below_top limits (Registered parent child mode ∷ before) p legal below = named_in_phase-below_top limits before p legal.0 below
named_in_phase-below_top limits (RegisteredNow parent child ∷ before) p legal below = named_in_phase-below_top limits before p legal.0 below
named_in_phase-below_top limits (Waited waiter n ∷ before) p legal below = named_in_phase-below_top limits before p legal.0 below
named_in_phase-below_top limits (Dropped gone ∷ before) p legal below = named_in_phase-below_top limits before p legal.0 below
named_in_phase-below_top limits (Signalled t lists single ∷ before) p legal below =
    let r : SignalsNow before t = signals_from limits before t lists single legal.1.0 in
    let e_is : member_entry (members_of before) t ≡ r.entry = member_entry_is (members_of before) t r.entry r.is_member in
    let s_is : signal_phase before t ≡ r.entry.signal_phase = ap (λ (e : Entry). e.signal_phase) e_is in
    let good : StandsWell (done_of before) (top_of before) (greatest_used before) (member t r.entry) = Each-entry _ (members_of before) t r.entry r.is_member (sound_of limits before legal.0) in
    let low : r.entry.signal_phase ≤ top_of before = good.below in
    named_in_phase-at before t lists single p (cases_lt p (top_of before)) (λ early. named_in_phase-below_top limits before p legal.0 early) below (omega arith)

-- ---- the single that all signals name

-- what a phase was named first, where it was named
abbrev IsNamed : Option Single → Option (Option Single) → Type 0
IsNamed single None = Unit {0}
IsNamed single (Some named) = named ≡ single

IsNamed-of : (single : Option Single) (h : History) (p : ℕ) → NamesAll single h → IsNamed single (named_in_phase h p)
IsNamed-of single [] p all = tt
IsNamed-of single (Made founding ∷ before) p all = IsNamed-of single before p all
IsNamed-of single (Registered parent child mode ∷ before) p all = IsNamed-of single before p all
IsNamed-of single (RegisteredNow parent child ∷ before) p all = IsNamed-of single before p all
IsNamed-of single (Waited waiter n ∷ before) p all = IsNamed-of single before p all
IsNamed-of single (Dropped gone ∷ before) p all = IsNamed-of single before p all
IsNamed-of single (Signalled t lists named ∷ before) p all =
    elim (named_in_phase before p) as (λ (o : Option (Option Single)). IsNamed single o
    → IsNamed single (first_named o (is_among (signal_phase before t) (length lists) p) named)) [
      | None ↦ λ e. elim (is_among (signal_phase before t) (length lists) p) as (λ b. IsNamed single (cond b (Some named) None)) [
        | true ↦ all.0
        | false ↦ tt
      ]
      | Some first ↦ λ e. e
    ] (IsNamed-of single before p all.1)

pub single_of_phase-all : (limits : Limits) (h : History) (p : ℕ) (single : Option Single) → IsLegal limits h → p < top_of h
    → NamesAll single h → single_of_phase h p ≡ single
single_of_phase-all limits h p single legal below all =
    named (named_in_phase h p) (named_in_phase-below_top limits h p legal below) (IsNamed-of single h p all)
  where
    named : (o : Option (Option Single)) → is_some o ≡ true → IsNamed single o → option_and_then (λ named. named) o ≡ single
    named None some is = absurd (cc)
    named (Some first) some is = is

-- ---- a number that was never used

pub IsSilent-unused : (limits : Limits) (h : History) (task : ℕ) → IsLegal limits h → start_of h task ≡ None → IsSilent h task
IsSilent-unused limits h task legal none = record {
  nothing = phases_signalled-events h task ∙ ap (λ l. sum_by phases_of_signal l) (events_of-unused limits h task legal none);
  from_0 = λ start is. absurd (let both : None ≡ Some start = sym none ∙ is in cc);
}
