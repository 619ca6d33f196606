-- Of tasks of which one at most has sent in a phase, the sends of the phase are what they have sent,
-- in the same order.
use Rattle.std.proofs.Common.{◌≡◌, ◌≢◌, ℕ, suc, true, false, not, ◌||◌, eqb, List, [], ◌∷◌, ◌++◌, ℤ, length, refl, sym, ap, subst, ◌∙◌, arith, ◌⊎◌, inl, inr}
use Rattle.std.proofs.lemmas.List.{append-nil}
use Rattle.std.proofs.lemmas.Bool.{eqb-true, eq-eqb, and_parts, not-true, or_cases, cases_Bool}
use Rattle.std.proofs.Math.Bool.{or-true}
use Rattle.phase_history.specs.Histories.{History}
use Rattle.phase_history.specs.Phases.{sends_of_phase}
use Rattle.phase_base.specs.Lists.{is_distinct, is_in}
use Rattle.phase_history.specs.Sent.{sent_in, gathered, OnlySignalled, OneHasSent}
use Rattle.phase_history.proofs.Gathered.{sends_of_phase-alone}
use Rattle.phase_history.proofs.Sendings.{sent_in-none}

in_front : (t : ℕ) (ts : List ℕ) → is_in t (t ∷ ts) ≡ true
in_front t ts = let here : eqb t t ≡ true = eq-eqb t t refl in rw here refl

in_rest : (u t : ℕ) (ts : List ℕ) → is_in t ts ≡ true → is_in t (u ∷ ts) ≡ true
in_rest u t ts e = rw e (or-true (eqb u t))

-- tasks that have sent nothing
none_gathered : (h : History) (tasks : List ℕ) (p : ℕ)
    → ((t : ℕ) → is_in t tasks ≡ true → sent_in h t p ≡ []) → gathered h tasks p ≡ []
none_gathered h [] p none = refl
none_gathered h (t ∷ ts) p none =
    ap (λ l. l ++ gathered h ts p) (none t (in_front t ts))
    ∙ none_gathered h ts p (λ u e. none u (in_rest t u ts e))

is_nil : (xs : List ℤ) → (xs ≡ []) ⊎ (xs ≢ [])
is_nil [] = inl refl
is_nil (x ∷ xs) = inr (λ e. (let l : suc (length xs) ≡ 0 = ap length e in omega arith))

-- the one that has sent
record Sender (h : History) (tasks : List ℕ) (p : ℕ) : Type 0 where
  task : ℕ
  is_there : is_in task tasks ≡ true
  sends : sent_in h task p ≢ []
  all : gathered h tasks p ≡ sent_in h task p

sender : (h : History) (tasks : List ℕ) (p : ℕ) → is_distinct tasks ≡ true → OneHasSent h tasks p
    → ((t : ℕ) → is_in t tasks ≡ true → sent_in h t p ≡ []) ⊎ Sender h tasks p
sender h [] p distinct one = inl (λ t e. absurd (cc))
sender h (t ∷ ts) p distinct one =
    let parts = and_parts (not (is_in t ts)) (is_distinct ts) distinct in
    by (is_nil (sent_in h t p)) (not-true (is_in t ts) parts.0)
    (sender h ts p parts.1
    (λ a b ia ib. one a b (in_rest t a ts ia) (in_rest t b ts ib)))
  where
    by : (sent_in h t p ≡ []) ⊎ (sent_in h t p ≢ []) → is_in t ts ≡ false
        → ((u : ℕ) → is_in u ts ≡ true → sent_in h u p ≡ []) ⊎ Sender h ts p
        → ((u : ℕ) → is_in u (t ∷ ts) ≡ true → sent_in h u p ≡ []) ⊎ Sender h (t ∷ ts) p
    by (inl none) apart (inl others) = inl (λ u e. at u (or_cases (eqb t u) (is_in u ts) e))
      where
        at : (u : ℕ) → (eqb t u ≡ true) ⊎ (is_in u ts ≡ true) → sent_in h u p ≡ []
        at u (inl same) =
            rw (eqb-true t u same) at none
        at u (inr rest) = others u rest
    by (inl none) apart (inr s) = inr (record {
      task = s.task;
      is_there = in_rest t s.task ts s.is_there;
      sends = s.sends;
      all = ap (λ l. l ++ gathered h ts p) none ∙ s.all;
    })
    by (inr some) apart rest = inr (record {
      task = t;
      is_there = in_front t ts;
      sends = some;
      all = ap (λ l. sent_in h t p ++ l)
          (none_gathered h ts p (λ u e. others u e (is_nil (sent_in h u p))))
          ∙ append-nil (sent_in h t p);
    })
      where
        others : (u : ℕ) → is_in u ts ≡ true → (sent_in h u p ≡ []) ⊎ (sent_in h u p ≢ [])
            → sent_in h u p ≡ []
        others u e (inl none) = none
        others u e (inr more) =
            let same : t ≡ u = one t u (in_front t ts) (in_rest t u ts e) some more in
            let here : is_in t ts ≡ true = ap (λ x. is_in x ts) same ∙ e in
            absurd (let f : true ≡ false = sym here ∙ apart in cc)

pub gathered_alone : (h : History) (tasks : List ℕ) (p : ℕ) → is_distinct tasks ≡ true
    → OnlySignalled tasks h → OneHasSent h tasks p → sends_of_phase h p ≡ gathered h tasks p
gathered_alone h tasks p distinct only one = by (sender h tasks p distinct one)
  where
    silent : (t : ℕ) → is_in t tasks ≡ false → sent_in h t p ≡ []
    silent t e = sent_in-none h t p (only t e)

    by : ((t : ℕ) → is_in t tasks ≡ true → sent_in h t p ≡ []) ⊎ Sender h tasks p
        → sends_of_phase h p ≡ gathered h tasks p
    by (inl none) =
        sends_of_phase-alone h 0 p (λ other apart. nothing other) ∙ nothing 0
        ∙ sym (none_gathered h tasks p none)
      where
        nothing : (t : ℕ) → sent_in h t p ≡ []
        nothing t = at (cases_Bool (is_in t tasks))
          where
            at : (is_in t tasks ≡ true) ⊎ (is_in t tasks ≡ false) → sent_in h t p ≡ []
            at (inl e) = none t e
            at (inr e) = silent t e
    by (inr s) = sends_of_phase-alone h s.task p
        (λ other apart. others other apart (cases_Bool (is_in other tasks))
        (is_nil (sent_in h other p))) ∙ sym s.all
      where
        others : (other : ℕ) → other ≢ s.task
            → (is_in other tasks ≡ true) ⊎ (is_in other tasks ≡ false)
            → (sent_in h other p ≡ []) ⊎ (sent_in h other p ≢ []) → sent_in h other p ≡ []
        others other apart there (inl none) = none
        others other apart (inr out) (inr more) = silent other out
        others other apart (inl there) (inr more) =
            absurd (apart (one other s.task there s.is_there more s.sends))
