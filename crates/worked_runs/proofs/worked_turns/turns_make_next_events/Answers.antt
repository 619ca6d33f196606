-- By the law; what the turns make is computed.
use Rattle.std.proofs.Common.{◌≡◌, ℕ, zero, suc, ◌+◌, ◌<◌, true, [], ◌∷◌, Some, is_some, refl, subst, pos, arith}
use Rattle.std.proofs.lemmas.Option.{same_Some}
use Rattle.graph_base.specs.declared.line.Parent.{Parent}
use Rattle.graph_base.specs.Graphs.{task_at}
use Rattle.graph_runs.specs.TaskEvents.{sample, leave}
use Rattle.graph_runs.specs.Nexts.{HasChildrenToCome, first_missing}
use Rattle.worked_runs.specs.Worked.{worked, worked_opening, before_late, late_registers, before_end, by_out}
use Rattle.worked_runs.proofs.Tests.{untrue}
use Rattle.worked_runs.proofs.worked_turns.turns_make_next_events.Goals as goal

-- of all tasks late alone is a child, and it alone is not there
late_to_come : HasChildrenToCome worked before_late
late_to_come = record {
  offset = λ c u lt e missing. offset c u lt e;
  nothing_begun = begun;
  nothing_put = put;
  nothing_taken = taken;
}
  where
    offset : (c : ℕ) (u : Parent) → c < 6 → (task_at worked.graph c).parent ≡ Some u
        → before_late.offset c ≡ before_late.offset u.task + u.at
    offset zero u lt e = absurd (cc)
    offset (suc zero) u lt e = absurd (cc)
    offset (suc (suc zero)) u lt e = absurd (cc)
    offset (suc (suc (suc zero))) u lt e = absurd (cc)
    offset (suc (suc (suc (suc zero)))) u lt e = absurd (cc)
    offset (suc (suc (suc (suc (suc zero))))) u lt e =
        let same : by_out ≡ u = same_Some by_out u e in
        let P : Parent → Type 0 = λ x. before_late.offset 5 ≡ before_late.offset x.task + x.at in
        subst P same refl
    offset (suc (suc (suc (suc (suc (suc c)))))) u lt e = absurd (omega arith)

    begun : (c : ℕ) → c < 6 → is_some (first_missing worked before_late c) ≡ true
        → before_late.begun c ≡ 0
    begun zero lt e = untrue e
    begun (suc zero) lt e = untrue e
    begun (suc (suc zero)) lt e = untrue e
    begun (suc (suc (suc zero))) lt e = untrue e
    begun (suc (suc (suc (suc zero)))) lt e = untrue e
    begun (suc (suc (suc (suc (suc zero))))) lt e = refl
    begun (suc (suc (suc (suc (suc (suc c)))))) lt e = absurd (omega arith)

    taken : (c k : ℕ) → c < 6 → is_some (first_missing worked before_late c) ≡ true
        → before_late.taken c k ≡ []
    taken zero k lt e = untrue e
    taken (suc zero) k lt e = untrue e
    taken (suc (suc zero)) k lt e = untrue e
    taken (suc (suc (suc zero))) k lt e = untrue e
    taken (suc (suc (suc (suc zero)))) k lt e = untrue e
    taken (suc (suc (suc (suc (suc zero))))) k lt e = refl
    taken (suc (suc (suc (suc (suc (suc c)))))) k lt e = absurd (omega arith)

    put : (c j : ℕ) → c < 6 → is_some (first_missing worked before_late c) ≡ true
        → before_late.put c j ≡ []
    put zero j lt e = untrue e
    put (suc zero) j lt e = untrue e
    put (suc (suc zero)) j lt e = untrue e
    put (suc (suc (suc zero))) j lt e = untrue e
    put (suc (suc (suc (suc zero)))) j lt e = untrue e
    put (suc (suc (suc (suc (suc zero))))) j lt e = refl
    put (suc (suc (suc (suc (suc (suc c)))))) j lt e = absurd (omega arith)

pub returns-clause-childless : goal.returns-clause-childless
returns-clause-childless c =
    (c.turns_make_next_events.ensures.childless worked worked_opening 0 (sample 0 0 0 1 (pos 5 ∷ []))
    c.a_run_from_its_opening_to_its_end.ensures.graph
    c.a_run_from_its_opening_to_its_end.ensures.opening refl refl).0

pub returns-clause-end : goal.returns-clause-end
returns-clause-end c =
    (c.turns_make_next_events.ensures.childless worked before_end 5 (leave 5 5 3)
    c.a_run_from_its_opening_to_its_end.ensures.graph
    c.a_run_from_its_opening_to_its_end.ensures.before_end refl refl).1

pub returns-clause-next : goal.returns-clause-next
returns-clause-next c =
    c.turns_make_next_events.ensures.next worked before_late 4 late_registers
    c.a_run_from_its_opening_to_its_end.ensures.graph
    c.a_run_from_its_opening_to_its_end.ensures.before_late late_to_come refl

pub returns-clause-keeps : goal.returns-clause-keeps
returns-clause-keeps c =
    c.turns_make_next_events.ensures.keeps worked before_late 4 late_registers
    c.a_run_from_its_opening_to_its_end.ensures.graph
    c.a_run_from_its_opening_to_its_end.ensures.before_late late_to_come refl
