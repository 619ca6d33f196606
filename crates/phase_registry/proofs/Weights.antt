-- Sums over the entries of the members, and what a change of the members makes of them. The number
-- of signallers, of waiters, and of those at one phase are such sums.
use Rattle.std.proofs.Common.{◌≡◌, ℕ, ◌+◌, ◌≤◌, Bool, true, false, not, cond, eqb, [], ◌∷◌, ◌++◌, Some, None, length, map, suc, refl, sym, ap, ◌∙◌, arith}
use Rattle.std.specs.List.{filter}
use Rattle.std.proofs.lemmas.Option.{same_Some}
use Rattle.std.proofs.lemmas.Bool.{eqb-true}
use Rattle.phase_base.specs.declared.entry.Entry.{Entry}
use Rattle.phase_base.specs.declared.member.Member.{Member}
use Rattle.phase_base.specs.Members.{Members, member, entry_of, changed_at, without}
use Rattle.phase_registry.specs.Rosters.{AreRising}
use Rattle.phase_registry.proofs.Places.{entry_of-absent}

-- the sum of what each entry weighs
abbrev pub weigh : (Entry → ℕ) → Members → ℕ
weigh w [] = 0
weigh w (m ∷ ms) = w m.entry + weigh w ms

-- a member more
pub weigh-push : (w : Entry → ℕ) (ms : Members) (number : ℕ) (e : Entry)
    → weigh w (ms ++ member number e ∷ []) ≡ weigh w ms + w e
weigh-push w [] number e = omega arith
weigh-push w (m ∷ ms) number e = let rest = weigh-push w ms number e in omega arith

-- a member changes
pub weigh-changed : (w : Entry → ℕ) (ms : Members) (number : ℕ) (f : Entry → Entry) (e : Entry)
    → entry_of ms number ≡ Some e
    → weigh w (changed_at number f ms) + w e ≡ weigh w ms + w (f e)
weigh-changed w [] number f e found = absurd (cc)
weigh-changed w (m ∷ ms) number f e found =
    elim (eqb m.task number) as (λ b. (cond b (Some m.entry) (entry_of ms number) ≡ Some e)
    → weigh w (cond b (member m.task (f m.entry) ∷ ms) (m ∷ changed_at number f ms)) + w e
    ≡ (w m.entry + weigh w ms) + w (f e)) [
      | true ↦ λ t.
          let same : m.entry ≡ e = same_Some _ _ t in
          let before : w m.entry ≡ w e = ap w same in
          let after : w (f m.entry) ≡ w (f e) = ap (λ x. w (f x)) same in
          omega arith
      | false ↦ λ t. let rest = weigh-changed w ms number f e t in omega arith
    ] found

-- no number stands twice
abbrev pub AreApart : Members → Type 0
AreApart [] = Unit {0}
AreApart (m ∷ ms) = (entry_of ms m.task ≡ None) × AreApart ms

-- numbers that rise are apart
pub AreApart-from_rising : (ms : Members) → AreRising ms → AreApart ms
AreApart-from_rising [] rising = tt
AreApart-from_rising (m ∷ ms) rising = (
  entry_of-absent ms m.task (λ j lt same.
      let r = rising 0 (suc j) (omega arith) (omega arith) in
      omega (arith, r, same)),
  AreApart-from_rising ms (λ i j lt in_range.
      rising (suc i) (suc j) (omega arith) (omega arith)),
)

-- nobody leaves where the number is no member's
pub without-absent : (ms : Members) (number : ℕ) → entry_of ms number ≡ None
    → without number ms ≡ ms
without-absent [] number gone = refl
without-absent (m ∷ ms) number gone =
    elim (eqb m.task number) as (λ b. (cond b (Some m.entry) (entry_of ms number) ≡ None)
    → cond (not b) (m ∷ without number ms) (without number ms) ≡ m ∷ ms) [
      | true ↦ λ g. absurd (cc)
      | false ↦ λ g. ap (λ xs. m ∷ xs) (without-absent ms number g)
    ] gone

-- a member leaves
pub weigh-without : (w : Entry → ℕ) (ms : Members) (number : ℕ) (e : Entry)
    → AreApart ms → entry_of ms number ≡ Some e
    → weigh w (without number ms) + w e ≡ weigh w ms
weigh-without w [] number e apart found = absurd (cc)
weigh-without w (m ∷ ms) number e apart found =
    elim (eqb m.task number) as (λ b. (eqb m.task number ≡ b)
    → (cond b (Some m.entry) (entry_of ms number) ≡ Some e)
    → weigh w (cond (not b) (m ∷ without number ms) (without number ms)) + w e
    ≡ w m.entry + weigh w ms) [
      | true ↦ λ t f.
          let same : w m.entry ≡ w e = ap w (same_Some _ _ f) in
          let gone : entry_of ms number ≡ None =
          ap (entry_of ms) (sym (eqb-true _ _ t)) ∙ apart.0 in
          let rest : weigh w (without number ms) ≡ weigh w ms =
          ap (weigh w) (without-absent ms number gone) in
          omega arith
      | false ↦ λ t f. let rest = weigh-without w ms number e apart.1 f in omega arith
    ] refl found

-- how many members pass a test, as a sum
pub length-picked : (test : Entry → Bool) (value : Entry → ℕ) (ms : Members)
    → length (map (λ (m : Member). value m.entry) (filter (λ (m : Member). test m.entry) ms))
    ≡ weigh (λ e. cond (test e) 1 0) ms
length-picked test value [] = refl
length-picked test value (m ∷ ms) =
    let rest = length-picked test value ms in
    elim (test m.entry) as (λ b. length (map (λ (x : Member). value x.entry)
    (cond b (m ∷ filter (λ (x : Member). test x.entry) ms)
    (filter (λ (x : Member). test x.entry) ms)))
    ≡ cond b 1 0 + weigh (λ e. cond (test e) 1 0) ms) [
      | true ↦ omega arith
      | false ↦ omega arith
    ]

-- where no entry weighs more than 1, the sum is at most the number of members
pub weigh_few : (w : Entry → ℕ) → ((e : Entry) → w e ≤ 1) → (ms : Members)
    → weigh w ms ≤ length ms
weigh_few w light [] = omega arith
weigh_few w light (m ∷ ms) =
    let one = light m.entry in
    let rest = weigh_few w light ms in
    omega arith
