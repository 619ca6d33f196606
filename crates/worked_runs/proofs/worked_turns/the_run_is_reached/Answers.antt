-- The opening is looked through, task by task and phaser by phaser; the rest is by the laws.
use Rattle.std.proofs.Common.{◌≡◌, ℕ, zero, suc, ◌+◌, ◌<◌, Bool, true, false, cond, eqb, [], ◌∷◌, Option, Some, None, is_some, get_or, refl, sym, ap, subst, ◌∙◌, arith, ◌⊎◌, inl, inr}
use Rattle.std.proofs.lemmas.Bool.{eqb-true}
use Rattle.std.proofs.lemmas.Option.{same_Some}
use Rattle.phase_base.specs.declared.entry.Entry.{Entry}
use Rattle.phase_base.specs.declared.mode.Mode.{Mode}
use Rattle.phase_base.specs.Members.{entry_of, member}
use Rattle.phase_history.specs.Histories.{start_of}
use Rattle.graph_base.specs.declared.line.Parent.{Parent}
use Rattle.graph_base.specs.Graphs.{task_at}
use Rattle.graph_base.specs.Registrations.{no_registration}
use Rattle.graph_runs.specs.Answers.{after_turns}
use Rattle.graph_runs.specs.Nexts.{registrations_at}
use Rattle.graph_runs.specs.Reached.{HasMode, HasModes, HasOnlyTasks, HasTaskMembers, IsOfTask, HasBegun}
use Rattle.worked_runs.specs.Worked.{worked, worked_histories, worked_numbers, worked_offsets, worked_opening, worked_order, by_out}
use Rattle.worked_runs.proofs.OpeningTests.{has_opened}
use Rattle.worked_runs.proofs.WorkedRun.{worked-is}
use Rattle.worked_runs.proofs.worked_turns.the_run_is_reached.Goals as goal

-- the mode of an entry, where there is one
abbrev mode_of : Option Entry → Option Mode
mode_of None = None
mode_of (Some entry) = Some entry.mode

-- a task that is on the phaser of its registration k as this number, and began there in its mode
has_mode : (t k b : ℕ)
    → worked_opening.number (get_or (registrations_at worked t) k no_registration).phaser t ≡ Some b
    → mode_of (start_of (worked_opening.history
    (get_or (registrations_at worked t) k no_registration).phaser) b)
    ≡ Some (get_or (registrations_at worked t) k no_registration).mode
    → HasMode worked_opening t (get_or (registrations_at worked t) k no_registration)
has_mode t k b at is n start number starts =
    let p = (get_or (registrations_at worked t) k no_registration).phaser in
    let same : n ≡ b = same_Some n b (sym number ∙ at) in
    let begins : start_of (worked_opening.history p) b ≡ Some start =
    ap (λ x. start_of (worked_opening.history p) x) (sym same) ∙ starts in
    same_Some start.mode (get_or (registrations_at worked t) k no_registration).mode
    (ap mode_of (sym begins) ∙ is)

late_has_none : HasMode worked_opening 5 (get_or (registrations_at worked 5) 0 no_registration)
late_has_none n start number starts = absurd (cc)

-- one of two members
two : (x y n : ℕ) (e f : Entry)
    → is_some (entry_of (member x e ∷ member y f ∷ []) n) ≡ true → (x ≡ n) ⊎ (y ≡ n)
two x y n e f alive = by (eqb x n) refl (eqb y n) refl alive
  where
    by : (b : Bool) → eqb x n ≡ b → (c : Bool) → eqb y n ≡ c
        → is_some (cond b (Some e) (cond c (Some f) None)) ≡ true → (x ≡ n) ⊎ (y ≡ n)
    by true is c other alive = inl (eqb-true x n is)
    by false is true other alive = inr (eqb-true y n other)
    by false is false other alive = absurd (cc)

begun : HasBegun worked worked_opening
begun = record {
  opened = (has_opened worked worked_histories worked_numbers worked_offsets).sound refl worked-is;
  modes = modes;
  only_tasks = only_tasks;
  members = members;
  offset = offset;
}
  where
    modes : HasModes worked worked_opening
    modes zero there zero d lt = has_mode 0 0 1 refl refl
    modes zero there (suc k) d lt = absurd (omega arith)
    modes (suc zero) there zero d lt = has_mode 1 0 2 refl refl
    modes (suc zero) there (suc zero) d lt = has_mode 1 1 1 refl refl
    modes (suc zero) there (suc (suc zero)) d lt = has_mode 1 2 1 refl refl
    modes (suc zero) there (suc (suc (suc k))) d lt = absurd (omega arith)
    modes (suc (suc zero)) there zero d lt = has_mode 2 0 2 refl refl
    modes (suc (suc zero)) there (suc zero) d lt = has_mode 2 1 1 refl refl
    modes (suc (suc zero)) there (suc (suc zero)) d lt = has_mode 2 2 1 refl refl
    modes (suc (suc zero)) there (suc (suc (suc k))) d lt = absurd (omega arith)
    modes (suc (suc (suc zero))) there zero d lt = has_mode 3 0 2 refl refl
    modes (suc (suc (suc zero))) there (suc zero) d lt = has_mode 3 1 2 refl refl
    modes (suc (suc (suc zero))) there (suc (suc zero)) d lt = has_mode 3 2 1 refl refl
    modes (suc (suc (suc zero))) there (suc (suc (suc k))) d lt = absurd (omega arith)
    modes (suc (suc (suc (suc zero)))) there zero d lt = has_mode 4 0 2 refl refl
    modes (suc (suc (suc (suc zero)))) there (suc k) d lt = absurd (omega arith)
    modes (suc (suc (suc (suc (suc zero))))) there zero d lt = late_has_none
    modes (suc (suc (suc (suc (suc zero))))) there (suc k) d lt = absurd (omega arith)
    modes (suc (suc (suc (suc (suc (suc t)))))) there k d lt = absurd (omega arith)

    -- two members on each phaser but E, which has one
    only_tasks : HasOnlyTasks worked worked_opening
    only_tasks zero lt = omega arith
    only_tasks (suc zero) lt = omega arith
    only_tasks (suc (suc zero)) lt = omega arith
    only_tasks (suc (suc (suc zero))) lt = omega arith
    only_tasks (suc (suc (suc (suc zero)))) lt = omega arith
    only_tasks (suc (suc (suc (suc (suc zero))))) lt = omega arith
    only_tasks (suc (suc (suc (suc (suc (suc p)))))) lt = absurd (omega arith)

    -- two tasks are its members
    of_two : (p n t u : ℕ) → worked_opening.number p t ≡ Some 1
        → worked_opening.number p u ≡ Some 2 → t < 6 → u < 6 → (1 ≡ n) ⊎ (2 ≡ n)
        → IsOfTask worked worked_opening p n
    of_two p n t u one two few less (inl same) = (t, few, one ∙ ap (λ x. Some x) same)
    of_two p n t u one two few less (inr same) = (u, less, two ∙ ap (λ x. Some x) same)

    of_one : (n : ℕ) (e : Entry) → is_some (entry_of (member 1 e ∷ []) n) ≡ true
        → IsOfTask worked worked_opening 1 n
    of_one n e alive = by (eqb 1 n) refl alive
      where
        by : (b : Bool) → eqb 1 n ≡ b → is_some (cond b (Some e) None) ≡ true
            → IsOfTask worked worked_opening 1 n
        by true is alive = (1, omega arith, ap (λ x. Some x) (eqb-true 1 n is))
        by false is alive = absurd (cc)

    members : HasTaskMembers worked worked_opening
    members zero n lt alive =
        of_two 0 n 0 1 refl refl (omega arith) (omega arith) (two 1 2 n _ _ alive)
    members (suc zero) n lt alive = of_one n _ alive
    members (suc (suc zero)) n lt alive =
        of_two 2 n 1 2 refl refl (omega arith) (omega arith) (two 1 2 n _ _ alive)
    members (suc (suc (suc zero))) n lt alive =
        of_two 3 n 2 3 refl refl (omega arith) (omega arith) (two 1 2 n _ _ alive)
    members (suc (suc (suc (suc zero)))) n lt alive =
        of_two 4 n 2 3 refl refl (omega arith) (omega arith) (two 1 2 n _ _ alive)
    members (suc (suc (suc (suc (suc zero))))) n lt alive =
        of_two 5 n 3 4 refl refl (omega arith) (omega arith) (two 1 2 n _ _ alive)
    members (suc (suc (suc (suc (suc (suc p)))))) n lt alive = absurd (omega arith)

    offset : (c : ℕ) (u : Parent) → c < 6 → (task_at worked.graph c).parent ≡ Some u
        → worked_opening.offset c ≡ worked_opening.offset u.task + u.at
    offset zero u lt e = absurd (cc)
    offset (suc zero) u lt e = absurd (cc)
    offset (suc (suc zero)) u lt e = absurd (cc)
    offset (suc (suc (suc zero))) u lt e = absurd (cc)
    offset (suc (suc (suc (suc zero)))) u lt e = absurd (cc)
    offset (suc (suc (suc (suc (suc zero))))) u lt e =
        let same : by_out ≡ u = same_Some by_out u e in
        let P : Parent → Type 0 =
        λ x. worked_opening.offset 5 ≡ worked_opening.offset x.task + x.at in
        subst P same refl
    offset (suc (suc (suc (suc (suc (suc c)))))) u lt e = absurd (omega arith)

pub returns-clause-begun : goal.returns-clause-begun
returns-clause-begun c = begun

pub returns-clause-opening : goal.returns-clause-opening
returns-clause-opening c =
    c.turns_stay_reached.ensures.opening worked worked_opening worked-is begun

pub returns-clause-turn : goal.returns-clause-turn
returns-clause-turn c =
    c.turns_stay_reached.ensures.turn worked worked_opening 0 worked-is (returns-clause-opening c)

pub returns-clause-turns : goal.returns-clause-turns
returns-clause-turns c =
    c.turns_stay_reached.ensures.turns worked worked_opening worked_order worked-is
    (returns-clause-opening c)

pub returns-clause-answered : goal.returns-clause-answered
returns-clause-answered c =
    c.no_turn_is_refused.ensures.answered worked worked_opening 1 worked-is tt
    (returns-clause-opening c)

pub returns-clause-told : goal.returns-clause-told
returns-clause-told c =
    c.no_turn_is_refused.ensures.told worked (after_turns worked worked_opening worked_order) 5
    None worked-is tt (returns-clause-turns c)
