-- Each call keeps what holds of a registry's fields.
use Rattle.std.proofs.Common.{◌≡◌, ℕ, suc, zero, ◌+◌, ◌<◌, ◌≤◌, Bool, true, false, not, cond, leb, [], ◌∷◌, ◌++◌, Option, Some, None, length, get_or, set, refl, sym, ap, ◌∙◌, ⊎_elim, arith, length-append, length-set}
use Rattle.std.specs.List.{remove}
use Rattle.std.proofs.lemmas.Bool.{cases_eq, cases_lt, leb-true, leb-false, le-leb, ne_eqb, eq-eqb}
use Rattle.std.proofs.lemmas.List.{get_or_default, get_or_append_left, get_or_push, get_or-set_same, get_or-set_other}
use Rattle.std.proofs.lemmas.List.Edits.{length-remove, get_or-remove_below, get_or-remove_above}
use Rattle.phase_base.specs.Modes.{mode_signals, mode_waits}
use Rattle.phase_base.specs.declared.entry.Entry.{Entry}
use Rattle.phase_base.specs.declared.member.Member.{Member}
use Rattle.phase_base.specs.declared.limits.TheConstants.{MEMBERS_MAX}
use Rattle.phase_base.specs.Members.{Members, member, entry_of, changed_at, without, signal_phases, wait_phases}
use Rattle.phase_registry.specs.Rosters.{nobody, number_at, AreRising, IsRoster, is_used, add_refusal, roster}
use Rattle.phase_registry.specs.NumberPlaces.{IsAt}
use Rattle.phase_registry.specs.declared.refusal.AddRefusal.TheVariants.{NotNew, TooManyTasks}
use Rattle.phase_registry.proofs.Places.{entry_of-at, changed_at-place}
use Rattle.phase_registry.proofs.Weights.{weigh, weigh-push, weigh-changed, weigh-without, weigh_few, without-absent, AreApart-from_rising, length-picked}

-- ---- how many signal and wait

-- one who signals or waits counts for one
one_at_most : (b : Bool) → cond b 1 0 ≤ 1
one_at_most true = omega arith
one_at_most false = omega arith

-- no more signal or wait than there are members
pub record AreFew (l : Members) (s w : ℕ) : Type 0 where
  pub signallers : s ≤ length l
  pub waiters : w ≤ length l

pub AreFew-from_roster : (l : Members) (greatest : Option ℕ) (s w : ℕ) → IsRoster l greatest s w
    → AreFew l s w
AreFew-from_roster l greatest s w r = record {
  signallers = (let few = weigh_few (λ x. cond (mode_signals x.mode) 1 0) (λ x. one_at_most (mode_signals x.mode)) l in
      let is = r.signallers_are ∙ length-picked (λ x. mode_signals x.mode) (λ x. x.signal_phase) l in
      omega arith);
  waiters = (let few = weigh_few (λ x. cond (mode_waits x.mode) 1 0) (λ x. one_at_most (mode_waits x.mode)) l in
      let is = r.waiters_are ∙ length-picked (λ x. mode_waits x.mode) (λ x. x.wait_phase) l in
      omega arith);
}

-- ---- an entry that changes

-- the numbers stay
number_at-set : (l : Members) (k i j : ℕ) (e : Entry) → IsAt l k i
    → number_at (set l i (member k e)) j ≡ number_at l j
number_at-set l k i j e at =
    ⊎_elim
    (λ (same : j ≡ i).
    let D : Member = member 0 nobody in
    let here : number_at (set l i (member k e)) i ≡ k =
    ap (λ (m : Member). m.task) (get_or-set_same l i (member k e) D at.in_range) in
    ap (number_at (set l i (member k e))) same ∙ here ∙ sym at.has_number ∙ sym (ap (number_at l) same))
    (λ apart. ap (λ (m : Member). m.task) (get_or-set_other l i j (member k e) (member 0 nobody) apart))
    (cases_eq j i)

-- the member's number, whatever stands for one past the end
pub IsAt-number : (l : Members) (k i : ℕ) (d : Member) → IsAt l k i → (get_or l i d).task ≡ k
IsAt-number l k i d at =
    ap (λ (m : Member). m.task) (get_or_default l i d (member 0 nobody) at.in_range) ∙ at.has_number

-- no earlier member has the number
pub none_before : (l : Members) (k i : ℕ) → AreRising l → IsAt l k i
    → (j : ℕ) → j < i → (number_at l j ≡ k → ⊥)
none_before l k i rising at j lt same =
    let r = rising j i lt at.in_range in
    let n : number_at l i ≡ k = at.has_number in
    omega (arith, r, n, same)

-- a change of one entry that keeps its mode
pub IsRoster-changed : (l : Members) (greatest : Option ℕ) (s w k i : ℕ) (d : Member)
    (f : Entry → Entry) → IsRoster l greatest s w → IsAt l k i
    → ((e : Entry) → (f e).mode ≡ e.mode)
    → IsRoster (set l i (member k (f (get_or l i d).entry))) greatest s w
IsRoster-changed l greatest s w k i d f r at kept =
    let e = (get_or l i d).entry in
    let now = set l i (member k (f e)) in
    let long : length now ≡ length l = length-set l i (member k (f e)) in
    let numbers : (j : ℕ) → number_at now j ≡ number_at l j = λ j. number_at-set l k i j (f e) at in
    let is : now ≡ changed_at k f l = changed_at-place l k i d f at (none_before l k i r.rising at) in
    let found : entry_of l k ≡ Some e = entry_of-at l k i d r.rising at in
    let same : (x : Entry → ℕ) → x (f e) ≡ x e → weigh x now ≡ weigh x l = λ x equal.
    (let c = weigh-changed x l k f e found in
    let n : weigh x now ≡ weigh x (changed_at k f l) = ap (weigh x) is in omega arith) in
    record {
      rising = λ a b lt in_range.
          let here = r.rising a b lt (omega arith) in
          let first = numbers a in
          let second = numbers b in
          omega arith;
      used = λ j in_range. ap (is_used greatest) (numbers j) ∙ r.used j (omega arith);
      few = (let few : length l ≤ MEMBERS_MAX = r.few in omega arith);
      signallers_are = r.signallers_are
          ∙ length-picked (λ x. mode_signals x.mode) (λ x. x.signal_phase) l
          ∙ sym (same (λ x. cond (mode_signals x.mode) 1 0)
          (ap (λ m. cond (mode_signals m) 1 0) (kept e)))
          ∙ sym (length-picked (λ x. mode_signals x.mode) (λ x. x.signal_phase) now);
      waiters_are = r.waiters_are
          ∙ length-picked (λ x. mode_waits x.mode) (λ x. x.wait_phase) l
          ∙ sym (same (λ x. cond (mode_waits x.mode) 1 0)
          (ap (λ m. cond (mode_waits m) 1 0) (kept e)))
          ∙ sym (length-picked (λ x. mode_waits x.mode) (λ x. x.wait_phase) now);
    }

-- ---- a member more

-- a number that was not used is above each that is among the used ones
used_below : (greatest : Option ℕ) (n number : ℕ) → is_used greatest n ≡ true
    → is_used greatest number ≡ false → n < number
used_below None n number used new = absurd (cc)
used_below (Some g) n number used new =
    let low : n ≤ g = leb-true _ _ used in
    let high : g < number = leb-false _ _ new in
    omega arith

-- how many signallers, and waiters, there are with one more member
pub signallers-push : (l : Members) (number : ℕ) (e : Entry)
    → length (signal_phases (l ++ member number e ∷ []))
    ≡ length (signal_phases l) + cond (mode_signals e.mode) 1 0
signallers-push l number e =
    length-picked (λ x. mode_signals x.mode) (λ x. x.signal_phase) (l ++ member number e ∷ [])
    ∙ weigh-push (λ x. cond (mode_signals x.mode) 1 0) l number e
    ∙ ap (λ n. n + cond (mode_signals e.mode) 1 0)
    (sym (length-picked (λ x. mode_signals x.mode) (λ x. x.signal_phase) l))

pub waiters-push : (l : Members) (number : ℕ) (e : Entry)
    → length (wait_phases (l ++ member number e ∷ []))
    ≡ length (wait_phases l) + cond (mode_waits e.mode) 1 0
waiters-push l number e =
    length-picked (λ x. mode_waits x.mode) (λ x. x.wait_phase) (l ++ member number e ∷ [])
    ∙ weigh-push (λ x. cond (mode_waits x.mode) 1 0) l number e
    ∙ ap (λ n. n + cond (mode_waits e.mode) 1 0)
    (sym (length-picked (λ x. mode_waits x.mode) (λ x. x.wait_phase) l))

-- what an accepted number says
pub record IsAddable (l : Members) (greatest : Option ℕ) (number : ℕ) : Type 0 where
  pub new : is_used greatest number ≡ false
  pub room : length l < MEMBERS_MAX

pub addable_from : (l : Members) (greatest : Option ℕ) (number : ℕ)
    → add_refusal (roster l greatest) number ≡ None → IsAddable l greatest number
addable_from l greatest number none =
    elim (is_used greatest number) as (λ b. (is_used greatest number ≡ b)
    → (cond b (Some NotNew) (cond (leb MEMBERS_MAX (length l)) (Some TooManyTasks) None) ≡ None)
    → IsAddable l greatest number) [
      | true ↦ λ is n. absurd (cc)
      | false ↦ λ is n.
          elim (leb MEMBERS_MAX (length l)) as (λ b. (leb MEMBERS_MAX (length l) ≡ b)
          → (cond b (Some TooManyTasks) None ≡ None) → IsAddable l greatest number) [
            | true ↦ λ full m. absurd (cc)
            | false ↦ λ full m. record { new = is; room = leb-false _ _ full }
          ] refl n
    ] refl none

pub IsRoster-added : (l : Members) (greatest : Option ℕ) (s w s' w' number : ℕ) (e : Entry)
    → IsRoster l greatest s w → add_refusal (roster l greatest) number ≡ None
    → s' ≡ s + cond (mode_signals e.mode) 1 0 → w' ≡ w + cond (mode_waits e.mode) 1 0
    → IsRoster (l ++ member number e ∷ []) (Some number) s' w'
IsRoster-added l greatest s w s' w' number e r none s_is w_is =
    let a = addable_from l greatest number none in
    let now = l ++ member number e ∷ [] in
    let long : length now ≡ length l + 1 = length-append _ _ in
    let before : (j : ℕ) → j < length l → number_at now j ≡ number_at l j =
    λ j low. ap (λ (m : Member). m.task) (get_or_append_left l (member number e ∷ []) (member 0 nobody) j low) in
    let last : number_at now (length l) ≡ number =
    ap (λ (m : Member). m.task) (get_or_push l (member number e) (member 0 nobody) (length l) refl) in
    let below : (j : ℕ) → j < length l → number_at l j < number =
    λ j low. used_below greatest (number_at l j) number (r.used j low) a.new in
    let at_last : (j : ℕ) → j < length now → (j < length l → ⊥) → number_at now j ≡ number =
    λ j in_range past. (let is : j ≡ length l = (⊎_elim (λ low. absurd (past low)) (λ high. omega arith) (cases_lt j (length l))) in
    ap (number_at now) is ∙ last) in
    record {
      rising = λ i j lt in_range.
          let low : i < length l = omega arith in
          let first = before i low in
          ⊎_elim
          (λ (inner : j < length l). let here = r.rising i j lt inner in let second = before j inner in omega arith)
          (λ (outer : length l ≤ j).
          let here = below i low in
          let second = at_last j in_range (λ inner. omega arith) in
          omega arith)
          (cases_lt j (length l));
      used = λ j in_range.
          ⊎_elim
          (λ (inner : j < length l).
          let low = below j inner in
          let first = before j inner in
          le-leb (number_at now j) number (omega arith))
          (λ (outer : length l ≤ j).
          let here = at_last j in_range (λ inner. omega arith) in
          le-leb (number_at now j) number (omega arith))
          (cases_lt j (length l));
      few = (let room = a.room in omega arith);
      signallers_are = s_is ∙ ap (λ n. n + cond (mode_signals e.mode) 1 0) r.signallers_are
          ∙ sym (signallers-push l number e);
      waiters_are = w_is ∙ ap (λ n. n + cond (mode_waits e.mode) 1 0) r.waiters_are
          ∙ sym (waiters-push l number e);
    }

-- ---- a member less

-- what is left of the members is what is left of the places
pub remove-place : (l : Members) (k i : ℕ) (d : Member) → AreRising l → IsAt l k i
    → remove l i ≡ without k l
remove-place [] k i d rising at = absurd (omega (arith, at.in_range))
remove-place (m ∷ l) k zero d rising at =
    let same : m.task ≡ k = at.has_number in
    let gone = (AreApart-from_rising (m ∷ l) rising).0 in
    let rest : without k l ≡ l = without-absent l k (ap (entry_of l) (sym same) ∙ gone) in
    sym (ap (λ b. cond (not b) (m ∷ without k l) (without k l)) (eq-eqb m.task k same) ∙ rest)
remove-place (m ∷ l) k (suc i) d rising at =
    let low : m.task < k = (let r = rising 0 (suc i) (omega arith) at.in_range in
    let n : number_at l i ≡ k = at.has_number in omega arith) in
    let inner : IsAt l k i = record { in_range = omega (arith, at.in_range); has_number = at.has_number } in
    let rest = remove-place l k i d (λ a b lt in_range. rising (suc a) (suc b) (omega arith) (omega arith)) inner in
    ap (λ xs. m ∷ xs) rest
    ∙ sym (ap (λ b. cond (not b) (m ∷ without k l) (without k l)) (ne_eqb m.task k (λ same. omega arith)))

-- where the member at a place stood before
record StoodAt (l now : Members) (i j : ℕ) : Type 0 where
  pub place : ℕ
  pub in_range : place < length l
  pub number_is : number_at now j ≡ number_at l place
  pub place_is : (j < i → place ≡ j) × (i ≤ j → place ≡ j + 1)

stood_at : (l : Members) (i j : ℕ) → i < length l → j < length (remove l i) → StoodAt l (remove l i) i j
stood_at l i j at in_range =
    let long : length (remove l i) + 1 ≡ length l = length-remove l i at in
    ⊎_elim
    (λ (low : j < i). record {
      place = j;
      in_range = omega arith;
      number_is = ap (λ (m : Member). m.task) (get_or-remove_below l i (member 0 nobody) j low at);
      place_is = (λ h. refl, λ h. absurd (omega arith));
    })
    (λ (high : i ≤ j). record {
      place = j + 1;
      in_range = omega arith;
      number_is = ap (λ (m : Member). m.task) (get_or-remove_above l i (member 0 nobody) j high at);
      place_is = (λ h. absurd (omega arith), λ h. refl);
    })
    (cases_lt j i)

pub IsRoster-removed : (l : Members) (greatest : Option ℕ) (s w s' w' k i : ℕ) (d : Member)
    → IsRoster l greatest s w → IsAt l k i
    → s' + cond (mode_signals (get_or l i d).entry.mode) 1 0 ≡ s
    → w' + cond (mode_waits (get_or l i d).entry.mode) 1 0 ≡ w
    → IsRoster (remove l i) greatest s' w'
IsRoster-removed l greatest s w s' w' k i d r at s_is w_is =
    let e = (get_or l i d).entry in
    let now = remove l i in
    let long : length now + 1 ≡ length l = length-remove l i at.in_range in
    let is : now ≡ without k l = remove-place l k i d r.rising at in
    let found : entry_of l k ≡ Some e = entry_of-at l k i d r.rising at in
    let less : (x : Entry → ℕ) → weigh x now + x e ≡ weigh x l = λ x.
    (let c = weigh-without x l k e (AreApart-from_rising l r.rising) found in
    let n : weigh x now ≡ weigh x (without k l) = ap (weigh x) is in omega arith) in
    record {
      rising = λ a b lt in_range.
          let first = stood_at l i a at.in_range (omega arith) in
          let second = stood_at l i b at.in_range in_range in
          let number_a = first.number_is in
          let number_b = second.number_is in
          let apart : first.place < second.place =
          ⊎_elim
          (λ (low : a < i). let p = first.place_is.0 low in
          ⊎_elim (λ (inner : b < i). let q = second.place_is.0 inner in omega arith)
          (λ (outer : i ≤ b). let q = second.place_is.1 outer in omega arith) (cases_lt b i))
          (λ (high : i ≤ a). let p = first.place_is.1 high in
          let q = second.place_is.1 (omega arith) in omega arith)
          (cases_lt a i) in
          let here = r.rising first.place second.place apart second.in_range in
          omega arith;
      used = λ j in_range.
          let stood = stood_at l i j at.in_range in_range in
          ap (is_used greatest) stood.number_is ∙ r.used stood.place stood.in_range;
      few = (let few : length l ≤ MEMBERS_MAX = r.few in omega arith);
      signallers_are =
          (let count = length-picked (λ x. mode_signals x.mode) (λ x. x.signal_phase) in
          let before : s ≡ weigh (λ x. cond (mode_signals x.mode) 1 0) l =
          r.signallers_are ∙ count l in
          let after = less (λ x. cond (mode_signals x.mode) 1 0) in
          let same : s' ≡ weigh (λ x. cond (mode_signals x.mode) 1 0) now = omega arith in
          same ∙ sym (count now));
      waiters_are =
          (let count = length-picked (λ x. mode_waits x.mode) (λ x. x.wait_phase) in
          let before : w ≡ weigh (λ x. cond (mode_waits x.mode) 1 0) l =
          r.waiters_are ∙ count l in
          let after = less (λ x. cond (mode_waits x.mode) 1 0) in
          let same : w' ≡ weigh (λ x. cond (mode_waits x.mode) 1 0) now = omega arith in
          same ∙ sym (count now));
    }

-- the member that leaves is counted where it signals, and where it waits
pub record IsCounted (e : Entry) (s w : ℕ) : Type 0 where
  pub signallers : cond (mode_signals e.mode) 1 0 ≤ s
  pub waiters : cond (mode_waits e.mode) 1 0 ≤ w

pub IsCounted-at : (l : Members) (greatest : Option ℕ) (s w k i : ℕ) (d : Member)
    → IsRoster l greatest s w → IsAt l k i → IsCounted (get_or l i d).entry s w
IsCounted-at l greatest s w k i d r at =
    let e = (get_or l i d).entry in
    let found : entry_of l k ≡ Some e = entry_of-at l k i d r.rising at in
    let apart = AreApart-from_rising l r.rising in
    record {
      signallers = (let less = weigh-without (λ x. cond (mode_signals x.mode) 1 0) l k e apart found in
          let is = r.signallers_are ∙ length-picked (λ x. mode_signals x.mode) (λ x. x.signal_phase) l in
          omega arith);
      waiters = (let less = weigh-without (λ x. cond (mode_waits x.mode) 1 0) l k e apart found in
          let is = r.waiters_are ∙ length-picked (λ x. mode_waits x.mode) (λ x. x.wait_phase) l in
          omega arith);
    }
