-- One number more is kept.
use Rattle.std.proofs.Common.{rules, ℕ, zero, suc, ◌≡◌, ◌<◌, ◌≤◌, ◌+◌, ◌*◌, ◌++◌, List, [], ◌∷◌, map, length, get_or, pos, refl, ap, sym, ◌∙◌, zero-add, w64, FitsSigned, arith}
use Rattle.std.proofs.lemmas.Int.{to_z-of_z}
use Rattle.std.proofs.lemmas.List.FromFn.{length-map-range_with_len, map-range_with_len_more}
use Rattle.phase_accum.specs.declared.outcome.Outcome.{Outcome}
use Rattle.phase_accum.specs.declared.outcome.Outcome.TheVariants.{Value}
use Rattle.stream_lists.specs.Lists.{entry, number}
use Rattle.stream_lists.specs.Spans.{turns_below}
use Rattle.stream_tasks.proofs.Shares.{turns_few}
use Rattle.stream_tasks.proofs.keep.keep_every.Goals as goal
use Rattle.stream_tasks.proofs.keep.keep_every.Goals.{After-loop-k}

-- the number of an outcome, which is 0 where there is none
entry_number : (os : List Outcome) (n : ℕ)
    → number (get_or os n (Value (pos 0))) ≡ entry (map number os) n
entry_number [] n = refl
entry_number (o ∷ os) zero = refl
entry_number (o ∷ os) (suc n) = entry_number os n

-- so many are kept
kept_many : (c : After-loop-k) → length c.loop-k.made.items ≡ c.loop-k.k
kept_many c =
    ap length c.loop-k.invariant.0
    ∙ length-map-range_with_len
    (λ k. entry (map number c.args.outcomes.now) (c.args.first + k * c.args.step)) 0 c.loop-k.k

pub push_reserved-requires : goal.push_reserved-requires
push_reserved-requires c =
    let outcomes = c.args.outcomes.now in
    let within : c.loop-k.k < turns_below c.args.step c.args.first (length outcomes) =
    search rules in
    let few = turns_few c.args.step (length outcomes) c.args.first c.requires.first in
    let long = length-map-range_with_len
    (λ k. entry (map number outcomes) (c.args.first + k * c.args.step)) 0 c.loop-k.k in
    omega (
      arith,
      within,
      few,
      long,
      ap length c.loop-k.invariant.0,
      c.loop-k.invariant.1,
      c.requires.room,
      c.loop-k.made.ok.0,
    )

pub loop-k-preserved : goal.loop-k-preserved
loop-k-preserved c =
    let outcomes = c.args.outcomes.now in
    let place = c.args.first + c.loop-k.k * c.args.step in
    let got : c.unwrap_or.result ≡ get_or outcomes place (Value (pos 0)) = search rules in
    let value : c.number_taken.result ≡ entry (map number outcomes) place =
    c.number_taken.ensures ∙ ap number got ∙ entry_number outcomes place in
    let fits : FitsSigned w64 c.number_taken.result = search rules in (
      c.push_reserved.ensures.items
          ∙ (ap (λ v. c.loop-k.made.items ++ v ∷ []) (to_z-of_z w64 c.number_taken.result fits ∙ value)
          ∙ (ap (λ xs. xs ++ entry (map number outcomes) place ∷ []) c.loop-k.invariant.0
          ∙ sym (map-range_with_len_more
          (λ k. entry (map number outcomes) (c.args.first + k * c.args.step)) 0 c.loop-k.k c.loop-k.k
          (zero-add c.loop-k.k)))),
      c.push_reserved.ensures.capacity ∙ c.loop-k.invariant.1,
    )

pub returns-clause-few : goal.returns-clause-few
returns-clause-few c =
    let outcomes = c.args.outcomes.now in
    let few = turns_few c.args.step (length outcomes) c.args.first c.requires.first in
    let end : c.loop-k.k ≤ turns_below c.args.step c.args.first (length outcomes) =
    c.loop-k.auto.k-end in
    omega (arith, few, end, kept_many c)
