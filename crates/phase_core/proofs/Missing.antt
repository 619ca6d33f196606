-- Those that have signalled a phase, and those that have not.
use Rattle.std.proofs.Common.{◌≡◌, ℕ, suc, ◌+◌, ◌<◌, ◌≤◌, ◌⊎◌, true, false, cond, eqb, List, [], ◌∷◌, ◌++◌, Some, length, map, take, drop, get_or, set, refl, sym, ap, ◌∙◌, ⊎_elim, arith}
use Rattle.std.specs.Prelude.{◌&&◌, nat_le, nat_lt, count_by}
use Rattle.std.specs.List.{filter}
use Rattle.std.proofs.lemmas.Option.{same_Some}
use Rattle.std.proofs.lemmas.Bool.Decides.{leb_tells}
use Rattle.std.proofs.lemmas.List.{append_assoc, drop_more, length-drop, length-take, take_more}
use Rattle.std.proofs.Math.Seq.{set-append_seam}
use Rattle.std.proofs.lemmas.List.Sums.{length-filter}
use Rattle.phase_base.specs.Lists.{is_in}
use Rattle.phase_base.specs.Modes.{mode_signals}
use Rattle.phase_base.specs.declared.entry.Entry.{Entry}
use Rattle.phase_base.specs.declared.member.Member.{Member}
use Rattle.phase_base.specs.Members.{Members, entry_of, signal_phases}
use Rattle.phase_ring.specs.Standings.{takes_part, phase_for}
use Rattle.phase_ring.specs.declared.role.Role.{Role}
use Rattle.phase_ring.specs.declared.role.Role.TheVariants.{Signaller}
use Rattle.phase_core.specs.Standings.{has_signalled, has_still_to, who_have_to}

-- one of the two
either_way : (p s : ℕ) → ((nat_le s p ≡ true) × (nat_lt p s ≡ false))
    ⊎ ((nat_le s p ≡ false) × (nat_lt p s ≡ true))
either_way p s = grind (arith, leb_tells s p, leb_tells (suc p) s)

-- the members that signal have signalled the phase or have still to
split : (p : ℕ) (ms : Members)
    → length (filter (has_signalled p) ms) + length (who_have_to Signaller p ms) ≡ length (signal_phases ms)
split p [] = refl
split p (m ∷ ms) =
    let rest = split p ms in
    let s = m.entry.signal_phase in
    let gone = filter (has_signalled p) ms in
    let late = filter (has_still_to Signaller p) ms in
    let all = filter (λ (x : Member). mode_signals x.entry.mode) ms in
    elim (mode_signals m.entry.mode) as (λ b. length (cond (b && nat_lt p s) (m ∷ gone) gone)
    + length (map (λ (x : Member). x.task) (cond (b && nat_le s p) (m ∷ late) late))
    ≡ length (map (λ (x : Member). x.entry.signal_phase) (cond b (m ∷ all) all))) [
      | true ↦ ⊎_elim
          (λ (h : (nat_le s p ≡ true) × (nat_lt p s ≡ false)). rw (h.0, h.1) (omega (arith, rest)))
          (λ (h : (nat_le s p ≡ false) × (nat_lt p s ≡ true)). rw (h.0, h.1) (omega (arith, rest)))
          (either_way p s)
      | false ↦ rest
    ]

pub signallers-split : (p : ℕ) (ms : Members)
    → count_by (has_signalled p) ms + length (who_have_to Signaller p ms) ≡ length (signal_phases ms)
signallers-split p ms = rw (← length-filter (has_signalled p) ms) (split p ms)

-- a member that has still to is named
pub is_in-who_have_to : (role : Role) (p : ℕ) (ms : Members) (task : ℕ) (e : Entry)
    → entry_of ms task ≡ Some e → takes_part role e ≡ true → phase_for role e ≤ p
    → is_in task (who_have_to role p ms) ≡ true
is_in-who_have_to role p [] task e found takes low = absurd (cc)
is_in-who_have_to role p (m ∷ ms) task e found takes low =
    let late = filter (has_still_to role p) ms in
    let rest : entry_of ms task ≡ Some e → is_in task (map (λ (x : Member). x.task) late) ≡ true =
    λ f. is_in-who_have_to role p ms task e f takes low in
    elim (eqb m.task task) as (λ b. (eqb m.task task ≡ b) → (cond b (Some m.entry) (entry_of ms task) ≡ Some e)
    → is_in task (map (λ (x : Member). x.task) (cond (has_still_to role p m) (m ∷ late) late)) ≡ true) [
      | true ↦ λ same f.
          let is : m.entry ≡ e = same_Some _ _ f in
          let low_is : nat_le (phase_for role e) p ≡ true = grind (arith, low, leb_tells (phase_for role e) p) in
          rw (is, takes, low_is, same) refl
      | false ↦ λ apart f.
          elim (has_still_to role p m) as (λ b. is_in task (map (λ (x : Member). x.task) (cond b (m ∷ late) late)) ≡ true) [
            | true ↦ rw apart (rest f)
            | false ↦ rest f
          ]
    ]
    refl found

-- ---- numbers over places

-- so many of them are written, and these are left
pub record HasPut (numbers rest old places : List ℕ) (n : ℕ) : Type 0 where
  pub low : n ≤ length numbers
  pub rest_is : drop n numbers ≡ rest
  pub put : places ≡ take n numbers ++ drop n old

abbrev head_of : List ℕ → ℕ
head_of [] = 0
head_of (x ∷ xs) = x

abbrev tail_of : List ℕ → List ℕ
tail_of [] = []
tail_of (x ∷ xs) = xs

-- one more
pub put_more : (numbers rest more old places : List ℕ) (n x : ℕ) → HasPut numbers rest old places n
    → rest ≡ x ∷ more → n < length old → HasPut numbers more old (set places n x) (n + 1)
put_more numbers rest more old places n x h is within =
    let left : drop n numbers ≡ x ∷ more = h.rest_is ∙ is in
    let long : length (drop n numbers) ≡ length (x ∷ more) = ap length left in
    let below : n < length numbers = omega (arith, length-drop n numbers, long) in
    let split : get_or numbers n x ∷ drop (n + 1) numbers ≡ x ∷ more = sym (drop_more numbers n x below) ∙ left in
    let front = take n numbers in
    let behind = drop (n + 1) old in
    let old_one = get_or old n x in
    let size : length front ≡ n = omega (arith, length-take n numbers) in
    record {
      low = omega arith;
      rest_is = ap tail_of split;
      put = ap (λ xs. set xs n x) (h.put ∙ ap (λ ys. front ++ ys) (drop_more old n x within))
          ∙ ap (λ k. set (front ++ old_one ∷ behind) k x) (sym size)
          ∙ set-append_seam front old_one behind x
          ∙ sym (append_assoc front (x ∷ []) behind)
          ∙ ap (λ xs. xs ++ behind) (ap (λ z. front ++ z ∷ []) (sym (ap head_of split)) ∙ sym (take_more numbers n x below));
    }
