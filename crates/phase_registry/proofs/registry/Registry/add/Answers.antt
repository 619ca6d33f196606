-- there are no more signallers and waiters than members; the new one is above all
use Rattle.std.proofs.Common.{◌≡◌, ◌+◌, cond, Some, None, ◌++◌, ◌∷◌, [], rules, arith, sym, subst}
use Rattle.phase_base.specs.Modes.{mode_signals, mode_waits}
use Rattle.phase_base.specs.Members.{Members, member}
use Rattle.phase_base.specs.declared.entry.Entry.{Entry}
use Rattle.phase_registry.specs.Rosters.{IsRoster, roster, add_refusal}
use Rattle.phase_registry.proofs.Kept.{AreFew-from_roster, IsRoster-added}
use Rattle.phase_registry.proofs.registry.Registry.add.Goals as goal

pub overflow_add-self : goal.overflow_add-self
overflow_add-self c =
    let few = AreFew-from_roster _ _ _ _ c.self.invariant in
    let all = c.self.invariant.few in
    let one = few.signallers in
    grind (arith, c.one_if.ensures)

pub overflow_add-self-2 : goal.overflow_add-self-2
overflow_add-self-2 c =
    let few = AreFew-from_roster _ _ _ _ c.self.invariant in
    let all = c.self.invariant.few in
    let one = few.waiters in
    grind (arith, c.one_if-2.ensures)

pub invariant_of-self-2 : goal.invariant_of-self-2
invariant_of-self-2 c =
    let l = c.self.inside.members.items in
    let e : Entry = record { mode = c.args.mode; signal_phase = c.args.signal_phase; wait_phase = c.args.wait_phase } in
    let none : add_refusal (roster l c.self.inside.greatest) c.args.number ≡ None = search rules in
    let pushed : c.push.new.self.items ≡ l ++ member c.args.number e ∷ [] = search rules in
    let s_is : c.self.inside.signallers + c.one_if.result ≡ c.self.inside.signallers + cond (mode_signals c.args.mode) 1 0 = search rules in
    let w_is : c.self.inside.waiters + c.one_if-2.result ≡ c.self.inside.waiters + cond (mode_waits c.args.mode) 1 0 = search rules in
    rw pushed (IsRoster-added l c.self.inside.greatest _ _ _ _ c.args.number e c.self.invariant none s_is w_is)
