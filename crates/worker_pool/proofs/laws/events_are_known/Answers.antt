use Rattle.std.proofs.Common.{ap, ◌∙◌, ◌%◌, nat_lt, inl, inr}
use Rattle.std.proofs.lemmas.Bool.{cases_Bool, le-ltb}
use Rattle.worker_pool.specs.NumberSets.{has}
use Rattle.worker_pool.proofs.laws.events_are_known.Goals as goal

-- its last time is not before that number
pub returns-clause-told : goal.returns-clause-told
returns-clause-told c = λ events old new since p before told had.
    ap (λ last. nat_lt last since) (told.had p had) ∙ le-ltb _ since before

-- its last time is the same, or later
pub returns-clause-kept : goal.returns-clause-kept
returns-clause-kept c = λ events old new since p before told known.
    elim (cases_Bool (has events (p % 64))) [
      | inl had ↦ ap (λ last. nat_lt last since) (told.had p had) ∙ le-ltb _ since before
      | inr none ↦ ap (λ last. nat_lt last since) (told.others p none) ∙ known
    ]
