-- Where each task's number and member agree, the phaser's stream is the first of the members' list.
use Rattle.std.proofs.Common.{◌≡◌, ℕ, zero, suc, ◌+◌, ◌-◌, ◌<◌, ◌≤◌, Bool, true, false, ◌||◌, eqb, leb, List, [], ◌∷◌, ◌++◌, Option, Some, None, ℤ, length, map, get_or, max, refl, sym, ap, ◌∙◌, arith, ◌⊎◌, inl, inr}
use Rattle.std.specs.Prelude.{slice_get}
use Rattle.std.specs.List.{filter_map, cons_option, fold}
use Rattle.std.proofs.lemmas.List.{append-nil, length-append, length-map}
use Rattle.std.proofs.lemmas.Bool.{eqb-true, eq-eqb, cases_lt, le-leb, lt-leb, or_cases, cases_Bool}
use Rattle.std.proofs.lemmas.Option.{same_Some}
use Rattle.phase_base.specs.Limits.{Limits}
use Rattle.phase_base.specs.declared.entry.Entry.{Entry}
use Rattle.phase_history.specs.Histories.{History, done_of, top_of, phases_signalled, has_dropped, HasNoSignaller}
use Rattle.phase_history.specs.Legal.{IsLegal}
use Rattle.phase_history.proofs.Steps.{done_below_top, sound_of}
use Rattle.stream_lists.specs.Lists.{Contribution, send_in, sends_in, end_of_contribution}
use Rattle.stream_lists.specs.Spans.{greatest}
use Rattle.phase_base.specs.Lists.{is_in}
use Rattle.phase_history.specs.Sent.{sent_by, sent_in, gathered, IsSilent, ReachesTop}
use Rattle.phase_history.proofs.Sendings.{length-sent_by, sent_in-none, SentInTurn, SentInTurn-of}
use Rattle.phase_history.proofs.Signallers.{holds_open, all_dropped, done_at_top, ReachesTop-of, below_top}
use Rattle.graph_runs.specs.Moments.{one}
use Rattle.graph_runs.proofs.Composed.{HasPut, Agrees}

-- one value a list, by place
one-here : (xs more : List ℤ) (c : ℕ) → c < length xs
    → get_or (map one xs) c [] ≡ cons_option (slice_get (xs ++ more) c) []
one-here [] more c below = absurd (omega arith)
one-here (x ∷ xs) more zero below = refl
one-here (x ∷ xs) more (suc c) below = one-here xs more c (omega arith)

one-past : (xs : List ℤ) (c : ℕ) → length xs ≤ c → get_or (map one xs) c [] ≡ []
one-past [] c past = refl
one-past (x ∷ xs) zero past = absurd (omega arith)
one-past (x ∷ xs) (suc c) past = one-past xs c (omega arith)

none-past : (xs : List ℤ) (c : ℕ) → length xs ≤ c → slice_get xs c ≡ None
none-past [] c past = refl
none-past (x ∷ xs) zero past = absurd (omega arith)
none-past (x ∷ xs) (suc c) past = none-past xs c (omega arith)

-- what a member sends in a complete phase is what its task sent there
pub sent_is : (limits : Limits) (h : History) (task : ℕ) (member : Contribution) (n : ℕ)
    → IsLegal limits h → n < done_of h → HasPut h task member
    → sent_in h task n ≡ cons_option (send_in n member) []
sent_is limits h task member n legal below has =
    let turn : SentInTurn h task has.start =
    SentInTurn-of limits h task has.start legal has.start_is in
    let counted : length (sent_by h task) ≡ phases_signalled h task = length-sent_by h task in
    let put_count : length (sent_by h task) ≡ length has.put =
    ap length has.sent ∙ length-map has.put one in
    let at : has.start.signal_phase ≡ member.0 = has.at in
    split turn (cases_lt n member.0) at put_count counted
  where
    split : SentInTurn h task has.start → (n < member.0) ⊎ (member.0 ≤ n)
        → has.start.signal_phase ≡ member.0
        → length (sent_by h task) ≡ length has.put
        → length (sent_by h task) ≡ phases_signalled h task
        → sent_in h task n ≡ cons_option (send_in n member) []
    split turn (inl early) at put_count counted =
        let test : leb (suc n) member.0 ≡ true = le-leb (suc n) member.0 early in
        turn.below n (omega arith) ∙ (rw test refl)
    split turn (inr later) at put_count counted =
        let test : leb (suc n) member.0 ≡ false = lt-leb (suc n) member.0 (omega arith) in
        let c = n - member.0 in
        let placed : sent_in h task n ≡ get_or (map one has.put) c [] =
        turn.placed c n (omega arith) ∙ ap (λ l. get_or l c []) has.sent in
        let there : send_in n member ≡ slice_get member.1 c = (rw test refl) in
        placed ∙ by (cases_lt c (length has.put)) ∙ ap (λ o. cons_option o []) (sym there)
      where
        by : ((n - member.0) < length has.put) ⊎ (length has.put ≤ (n - member.0))
            → get_or (map one has.put) (n - member.0) []
            ≡ cons_option (slice_get member.1 (n - member.0)) []
        by (inl within) =
            one-here has.put has.rest (n - member.0) within
            ∙ ap (λ l. cons_option (slice_get l (n - member.0)) []) has.first
        by (inr past) =
            one-past has.put (n - member.0) past
            ∙ ap (λ o. cons_option o [])
            (sym (none-past member.1 (n - member.0) (ended (has_dropped h task) refl)))
          where
            ended : (b : Bool) → has_dropped h task ≡ b → length member.1 ≤ n - member.0
            ended true left =
                let whole : has.rest ≡ [] = has.whole left in
                let all : has.put ≡ member.1 =
                sym (append-nil has.put) ∙ ap (λ l. has.put ++ l) (sym whole) ∙ has.first in
                omega (arith, ap length all)
            ended false stays =
                let held : done_of h ≤ has.start.signal_phase + phases_signalled h task =
                holds_open limits h task has.start legal has.start_is has.signals stays in
                absurd (omega arith)

-- task by task
abbrev pub AllAgree : History → (ℕ → Option ℕ) → (ℕ → Option Contribution) → List ℕ → Type 0
AllAgree h number member [] = Unit {0}
AllAgree h number member (t ∷ ts) = Agrees h (number t) (member t) × AllAgree h number member ts

-- what the registered tasks have sent in a complete phase is what the members send there
pub gathered_is : (limits : Limits) (h : History) (number : ℕ → Option ℕ)
    (member : ℕ → Option Contribution) (ts : List ℕ) (n : ℕ)
    → IsLegal limits h → n < done_of h → AllAgree h number member ts
    → gathered h (filter_map number ts) n ≡ sends_in (filter_map member ts) n
gathered_is limits h number member [] n legal below agree = refl
gathered_is limits h number member (t ∷ ts) n legal below agree =
    let rest = gathered_is limits h number member ts n legal below agree.1 in
    elim (number t) as (λ (o : Option ℕ). Agrees h o (member t)
    → gathered h (cons_option o (filter_map number ts)) n
    ≡ sends_in (cons_option (member t) (filter_map member ts)) n) [
      | None ↦ elim (member t) as (λ (m : Option Contribution). Agrees h None m
          → gathered h (filter_map number ts) n
          ≡ sends_in (cons_option m (filter_map member ts)) n) [
            | None ↦ λ a. rest
            | Some m ↦ λ a.
                let held : done_of h ≤ m.0 = a.later in
                let test : leb (suc n) m.0 ≡ true = le-leb (suc n) m.0 (omega arith) in
                let none : send_in n m ≡ None = (rw test refl) in
                rest ∙ ap (λ o. cons_option o (sends_in (filter_map member ts) n)) (sym none)
          ]
      | Some task ↦ elim (member t) as (λ (m : Option Contribution). Agrees h (Some task) m
          → sent_in h task n ++ gathered h (filter_map number ts) n
          ≡ sends_in (cons_option m (filter_map member ts)) n) [
            | None ↦ λ a.
                ap (λ l. l ++ gathered h (filter_map number ts) n) (sent_in-none h task n a.nothing)
                ∙ rest
            | Some m ↦ λ a.
                ap (λ l. l ++ gathered h (filter_map number ts) n)
                (sent_is limits h task m n legal below a)
                ∙ put_first (send_in n m) (gathered h (filter_map number ts) n)
                ∙ ap (λ l. cons_option (send_in n m) l) rest
          ]
    ] agree.0
  where
    put_first : (o : Option ℤ) (l : List ℤ) → cons_option o [] ++ l ≡ cons_option o l
    put_first None l = refl
    put_first (Some v) l = refl

-- ---- how far a phaser has come

-- the member of a registered task, by its number
abbrev pub Found : (ℕ → Option ℕ) → List ℕ → ℕ → Type 0
Found number ts task = (t : ℕ) × (is_in t ts ≡ true) × (number t ≡ Some task)

pub found : (number : ℕ → Option ℕ) (ts : List ℕ) (task : ℕ)
    → is_in task (filter_map number ts) ≡ true → Found number ts task
found number [] task e = absurd (cc)
found number (t ∷ ts) task e =
    elim (number t) as (λ (o : Option ℕ). (number t ≡ o)
    → is_in task (cons_option o (filter_map number ts)) ≡ true → Found number (t ∷ ts) task) [
      | None ↦ λ q f. (let r = found number ts task f in (r.0, later r.0 r.1, r.2))
      | Some k ↦ λ q f.
          here q (or_cases (eqb k task) (is_in task (filter_map number ts)) f)
          (λ f. found number ts task f)
    ] refl e
  where
    later : (u : ℕ) → is_in u ts ≡ true → is_in u (t ∷ ts) ≡ true
    later u f = rw f (or_true (eqb t u))
      where
        or_true : (b : Bool) → (b || true) ≡ true
        or_true true = refl
        or_true false = refl

    here : {k : ℕ} → number t ≡ Some k
        → (eqb k task ≡ true) ⊎ (is_in task (filter_map number ts) ≡ true)
        → (is_in task (filter_map number ts) ≡ true → Found number ts task)
        → Found number (t ∷ ts) task
    here q (inl same) rec = (
      t,
      (let s : eqb t t ≡ true = eq-eqb t t refl in rw s refl),
      q
          ∙ ap (λ n. Some n) (eqb-true _ _ same),
    )
    here q (inr rest) rec = (let r = rec rest in (r.0, later r.0 r.1, r.2))

pub agrees_at : (h : History) (number : ℕ → Option ℕ) (member : ℕ → Option Contribution) (ts : List ℕ)
    (t : ℕ) → is_in t ts ≡ true
    → AllAgree h number member ts → Agrees h (number t) (member t)
agrees_at h number member [] t e agree = absurd (cc)
agrees_at h number member (u ∷ ts) t e agree =
    split (or_cases (eqb u t) (is_in t ts) e) (λ f. agrees_at h number member ts t f agree.1)
  where
    split : (eqb u t ≡ true) ⊎ (is_in t ts ≡ true)
        → (is_in t ts ≡ true → Agrees h (number t) (member t)) → Agrees h (number t) (member t)
    split (inl same) rec =
        rw (eqb-true _ _ same) at agree.0
    split (inr rest) rec = rec rest

greatest-front : (ns : List ℕ) (a : ℕ) → a ≤ fold max a ns
greatest-front [] a = omega arith
greatest-front (n ∷ ns) a =
    let r : max a n ≤ fold max (max a n) ns = greatest-front ns (max a n) in omega arith

pub end_within : (member : ℕ → Option Contribution) (ts : List ℕ) (t a : ℕ) → is_in t ts ≡ true
    → end_of_contribution (member t) ≤ fold max a (map (λ t. end_of_contribution (member t)) ts)
end_within member [] t a e = absurd (cc)
end_within member (u ∷ ts) t a e =
    split (or_cases (eqb u t) (is_in t ts) e)
    (λ f. end_within member ts t (max a (end_of_contribution (member u))) f)
  where
    rest : ℕ
    rest = fold max (max a (end_of_contribution (member u))) (map (λ t. end_of_contribution (member t)) ts)

    split : (eqb u t ≡ true) ⊎ (is_in t ts ≡ true)
        → (is_in t ts ≡ true
        → end_of_contribution (member t)
        ≤ fold max (max a (end_of_contribution (member u))) (map (λ t. end_of_contribution (member t)) ts))
        → end_of_contribution (member t)
        ≤ fold max (max a (end_of_contribution (member u))) (map (λ t. end_of_contribution (member t)) ts)
    split (inl same) rec =
        let r : max a (end_of_contribution (member u))
        ≤ fold max (max a (end_of_contribution (member u))) (map (λ t. end_of_contribution (member t)) ts) =
        greatest-front (map (λ t. end_of_contribution (member t)) ts)
        (max a (end_of_contribution (member u))) in
        rw (← (eqb-true _ _ same)) (omega arith)
    split (inr f) rec = rec f

-- all ends are at most n
all_within : (member : ℕ → Option Contribution) (ts : List ℕ) (a n : ℕ) → a ≤ n
    → ((t : ℕ) → is_in t ts ≡ true → end_of_contribution (member t) ≤ n)
    → fold max a (map (λ t. end_of_contribution (member t)) ts) ≤ n
all_within member [] a n le each = le
all_within member (t ∷ ts) a n le each =
    let here : eqb t t ≡ true = eq-eqb t t refl in
    let first : end_of_contribution (member t) ≤ n = each t (rw here refl) in
    all_within member ts (max a (end_of_contribution (member t))) n (omega arith)
    (λ u f. each u (rw f (or_true (eqb t u))))
  where
    or_true : (b : Bool) → (b || true) ≡ true
    or_true true = refl
    or_true false = refl

-- the strangers are silent
abbrev pub Strangers : History → List ℕ → Type 0
Strangers h tasks = (task : ℕ) → is_in task tasks ≡ false → IsSilent h task

-- no phase past the greatest end is complete
pub done_within : (limits : Limits) (h : History) (number : ℕ → Option ℕ)
    (member : ℕ → Option Contribution) (ts : List ℕ)
    → IsLegal limits h → Strangers h (filter_map number ts) → AllAgree h number member ts
    → done_of h ≤ greatest (map (λ t. end_of_contribution (member t)) ts)
done_within limits h number member ts legal strangers agree =
    let top : done_of h ≤ top_of h = done_below_top h (sound_of limits h legal) in
    let r : ReachesTop h = ReachesTop-of limits h legal in
    let at_top : r.start.signal_phase + phases_signalled h r.task ≡ top_of h = r.reaches in
    let reach : top_of h ≤ r.start.signal_phase + phases_signalled h r.task = omega arith in
    split top r reach (cases_Bool (is_in r.task (filter_map number ts)))
  where
    silent : (r : ReachesTop h) → IsSilent h r.task
        → top_of h ≤ r.start.signal_phase + phases_signalled h r.task → top_of h ≡ 0
    silent r s reach =
        let none : phases_signalled h r.task ≡ 0 = s.nothing in
        let first : r.start.signal_phase ≡ 0 = s.from_0 r.start r.start_is in omega arith

    reached : (r : ReachesTop h) → top_of h ≤ r.start.signal_phase + phases_signalled h r.task
        → (f : Found number ts r.task) → (m : Option Contribution) → (member f.0 ≡ m)
        → Agrees h (Some r.task) m → top_of h ≤ end_of_contribution m
    reached r reach f None e a = let z : top_of h ≡ 0 = silent r a reach in omega arith
    reached r reach f (Some m) e a =
        let same : a.start ≡ r.start = same_Some _ _ (sym a.start_is ∙ r.start_is) in
        let same_at : a.start.signal_phase ≡ r.start.signal_phase =
        ap (λ (x : Entry). x.signal_phase) same in
        let all : length a.put + length a.rest ≡ length m.1 =
        sym (length-append a.put a.rest) ∙ ap length a.first in
        omega (arith, a.at, length-sent_by h r.task, ap length a.sent ∙ length-map a.put one)

    split : done_of h ≤ top_of h → (r : ReachesTop h)
        → top_of h ≤ r.start.signal_phase + phases_signalled h r.task
        → (is_in r.task (filter_map number ts) ≡ true)
        ⊎ (is_in r.task (filter_map number ts) ≡ false)
        → done_of h ≤ greatest (map (λ t. end_of_contribution (member t)) ts)
    split top r reach (inr none) =
        let z : top_of h ≡ 0 = silent r (strangers r.task none) reach in omega arith
    split top r reach (inl known) =
        let f : Found number ts r.task = found number ts r.task known in
        let a : Agrees h (number f.0) (member f.0) = agrees_at h number member ts f.0 f.1 agree in
        let at : top_of h ≤ end_of_contribution (member f.0) =
        reached r reach f (member f.0) refl (rw f.2 at a) in
        omega (arith, end_within member ts f.0 0 f.1)

-- where no task signals, all phases are complete
pub done_whole : (limits : Limits) (h : History) (number : ℕ → Option ℕ)
    (member : ℕ → Option Contribution) (ts : List ℕ)
    → IsLegal limits h → HasNoSignaller h → AllAgree h number member ts
    → greatest (map (λ t. end_of_contribution (member t)) ts) ≤ done_of h
done_whole limits h number member ts legal quiet agree =
    all_within member ts 0 (done_of h) (omega arith)
    (λ t f. ended (number t) (member t) (agrees_at h number member ts t f agree))
  where
    ended : (o : Option ℕ) (m : Option Contribution) → Agrees h o m → end_of_contribution m ≤ done_of h
    ended o None a = omega arith
    ended None (Some m) a = absurd (a.held quiet)
    ended (Some task) (Some m) a =
        let left : has_dropped h task ≡ true =
        all_dropped limits h task a.start legal quiet a.start_is a.signals in
        let whole : a.rest ≡ [] = a.whole left in
        let all : length a.put + length a.rest ≡ length m.1 =
        sym (length-append a.put a.rest) ∙ ap length a.first in
        let put_count : length (sent_by h task) ≡ length a.put =
        ap length a.sent ∙ length-map a.put one in
        let below : a.start.signal_phase + phases_signalled h task ≤ top_of h =
        below_top limits h task a.start legal a.start_is in
        omega (arith, ap length whole, length-sent_by h task, a.at, done_at_top h quiet)
