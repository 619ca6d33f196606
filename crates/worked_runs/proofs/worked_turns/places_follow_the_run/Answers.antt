-- At the opening place by place, and from there by the laws.
use Rattle.std.proofs.Common.{◌≡◌, ℕ, zero, suc, ◌+◌, ◌<◌, [], ◌∷◌, pos, length, refl, arith}
use Rattle.std.specs.Prelude.{slice_get, nat_lt}
use Rattle.graph_base.specs.Graphs.{task_at}
use Rattle.graph_runs.specs.Moments.{made_now}
use Rattle.graph_runs.specs.Nexts.{has_left}
use Rattle.phase_accum.specs.declared.outcome.Outcome.TheVariants.{Value}
use Rattle.graph_runs.specs.TaskEvents.{sample}
use Rattle.graph_runs.specs.TaskPlaces.{StandsAt, TaskPlace, registration_at, lacking, nothing}
use Rattle.worked_runs.specs.Worked.{worked, worked_opening, worked_sample}
use Rattle.worked_runs.specs.WorkedPlaces.{source_start, peer_start}
use Rattle.worked_runs.proofs.WorkedRun.{worked-is}
use Rattle.worked_runs.proofs.worked_turns.places_follow_the_run.Goals as goal

-- what a place says of one registration, and of one output, at the opening
abbrev Numbered : ℕ → TaskPlace → ℕ → Type 0
Numbered t at i =
    worked_opening.number (registration_at worked t i).phaser t ≡ slice_get at.numbers i

abbrev Leaves : ℕ → TaskPlace → ℕ → Type 0
Leaves t at i =
    has_left worked_opening t (registration_at worked t i) ≡ nat_lt i at.left

abbrev LacksNone : ℕ → ℕ → Type 0
LacksNone t j =
    length (made_now worked worked_opening t j)
    ≡ length (worked_opening.put t j) + lacking (task_at worked.graph t).kind nothing j

source_stands : StandsAt worked worked_opening 0 source_start
source_stands = record {
  few = omega arith;
  few_left = omega arith;
  numbered = numbered;
  leaves = leaves;
  begun = refl;
  owes = refl;
  lacks = lacks;
}
  where
    numbered : (i : ℕ) → i < 1 → Numbered 0 source_start i
    numbered zero lt = refl
    numbered (suc i) lt = absurd (omega arith)

    leaves : (i : ℕ) → i < 1 → Leaves 0 source_start i
    leaves zero lt = refl
    leaves (suc i) lt = absurd (omega arith)

    lacks : (j : ℕ) → j < 1 → LacksNone 0 j
    lacks zero lt = refl
    lacks (suc j) lt = absurd (omega arith)

peer_stands : StandsAt worked worked_opening 1 peer_start
peer_stands = record {
  few = omega arith;
  few_left = omega arith;
  numbered = numbered;
  leaves = leaves;
  begun = refl;
  owes = refl;
  lacks = lacks;
}
  where
    numbered : (i : ℕ) → i < 3 → Numbered 1 peer_start i
    numbered zero lt = refl
    numbered (suc zero) lt = refl
    numbered (suc (suc zero)) lt = refl
    numbered (suc (suc (suc i))) lt = absurd (omega arith)

    leaves : (i : ℕ) → i < 3 → Leaves 1 peer_start i
    leaves zero lt = refl
    leaves (suc zero) lt = refl
    leaves (suc (suc zero)) lt = refl
    leaves (suc (suc (suc i))) lt = absurd (omega arith)

    lacks : (j : ℕ) → j < 2 → LacksNone 1 j
    lacks zero lt = refl
    lacks (suc zero) lt = refl
    lacks (suc (suc j)) lt = absurd (omega arith)

pub returns-clause-source : goal.returns-clause-source
returns-clause-source c = source_stands

pub returns-clause-peer : goal.returns-clause-peer
returns-clause-peer c = peer_stands

pub returns-clause-begun : goal.returns-clause-begun
returns-clause-begun c =
    c.places_follow.ensures.sample worked worked_opening 0 0 0 1 (pos 5 ∷ []) source_start worked-is
    c.the_run_is_reached.ensures.opening refl source_stands

pub returns-clause-waits : goal.returns-clause-waits
returns-clause-waits c =
    c.places_follow.ensures.others worked worked_opening 0 1 (sample 0 0 0 1 (pos 5 ∷ []))
    peer_start worked-is c.the_run_is_reached.ensures.opening refl (omega arith) (λ e. (cc)) (λ e. (cc))
    peer_stands

pub returns-clause-owes : goal.returns-clause-owes
returns-clause-owes c =
    c.places_follow.ensures.first_wait worked worked_sample 1 0 0 2 (Value (pos 5) ∷ []) peer_start
    worked-is c.the_run_is_reached.ensures.turn refl (returns-clause-waits c)

pub returns-clause-leaves_first : goal.returns-clause-leaves_first
returns-clause-leaves_first c =
    c.places_tell.ensures.kept worked worked_opening 1 peer_start peer_stands refl
