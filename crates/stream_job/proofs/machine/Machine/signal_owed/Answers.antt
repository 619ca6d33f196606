-- By what the state owes.
use Rattle.std.proofs.Common.{ℕ, ◌≡◌, rules, ◌-◌, [], ◌∷◌, refl, sym, ap, subst, ◌∙◌, arith, SFits, w64, to_z-of_z, List, ℤ}
use Rattle.std.specs.Prelude.{Ok, Err}
use Rattle.std.proofs.lemmas.Option.{same_Some}
use Rattle.graph_runs.specs.Moments.{Moment}
use Rattle.graph_runs.specs.Nexts.{signals}
use Rattle.graph_runs.specs.declared.owed.Owed.TheVariants as code
use Rattle.stream_lists.specs.Jobs.{with_samples}
use Rattle.stream_job.specs.Stepping.{IsNextIn}
use Rattle.stream_job.specs.Machines.{IsMachineAt, most_in}
use Rattle.graph_runs.specs.Answers.{answer_up_to, turn_up_to}
use Rattle.stream_job.proofs.Mosts.{most_is}
use Rattle.stream_job.proofs.SignalCalls.{had_same}
use Rattle.stream_job.proofs.Lively.{state_read}
use Rattle.stream_job.proofs.Signals.{MadeOver, has_made, made_over, none_items, one_no_filter, over_turn, owes_some, owes_this, signals_at, some_items}
use Rattle.stream_job.proofs.machine.Machine.signal_owed.Goals.{After-is_empty, In-Err}
use Rattle.stream_job.proofs.machine.Machine.signal_owed.Goals as goal

-- a value that is too big, which it owes
over : {steps : ℕ} (s : List (List ℤ)) (c : In-Err)
    (next : IsNextIn steps (with_samples s c.args.job.now) c.args.self.now c.args.t (signals c.args.output)) (m : Moment) → IsMachineAt (with_samples s c.args.job.now) m c.args.self.now
    → MadeOver steps (with_samples s c.args.job.now) c.args.self.now m c.args.t c.args.output 0 c.index-state.result.now
    (Err c.in-Err.field-0 ∷ [])
over s c next m at =
    let found = state_read next (λ e. (cc)) c.index-state.ensures in
    made_over (with_samples s c.args.job.now) c.args.self.now m c.args.t c.args.output 0 c.index-state.result.now
    (Err c.in-Err.field-0 ∷ []) next at found
    (owes_this (with_samples s c.args.job.now) c.args.self.now m c.args.t c.args.output c.in-Value.output
    c.index-state.result.now (Err c.in-Err.field-0) next at found
    (none_items c.index-state.result.now.made (sym c.is_empty.ensures ∙ c.if-not-is_empty.false))
    (c.in-Value.is ∙ ap (code.Value c.in-Value.output) c.in-Err.is)) refl

pub signal_made-requires-clause-next : goal.signal_made-requires-clause-next
signal_made-requires-clause-next c =
    let s = c.requires.next.0 in
    let next = c.requires.next.2 in
    let job = with_samples s c.args.job.now in
    let found = state_read next (λ e. (cc)) c.index-state.ensures in
    let some = some_items c.index-state.result.now.made
    (sym c.is_empty.ensures ∙ c.if-not-is_empty.true) in
    let made = has_made job c.args.self.now next.some.0 c.args.t
    c.args.output c.index-state.result.now next next.some.1 found some in (
      s,
      c.requires.next.1,
      subst (λ j. IsNextIn c.requires.next.1 job c.args.self.now c.args.t
          (signals j)) (sym made.first) next,
    )

-- all that one event signals
all : {steps : ℕ} (s : List (List ℤ)) (c : After-is_empty)
    (next : IsNextIn steps (with_samples s c.args.job.now) c.args.self.now c.args.t
    (signals c.args.output)) → most_in c.args.self.now c.args.t ≡ c.index-state.result.now.most
all s c next =
    most_is c.args.self.now c.args.t c.index-state.result.now
    (state_read next (λ e. (cc)) c.index-state.ensures)

pub signal_made-requires-clause-most : goal.signal_made-requires-clause-most
signal_made-requires-clause-most c =
    let s = c.requires.next.0 in
    let next = c.requires.next.2 in
    let job = with_samples s c.args.job.now in
    let found = state_read next (λ e. (cc)) c.index-state.ensures in
    let a = (goal.at.signal_made-requires-clause-most c).After-is_empty in
    let all = all s a next in
    let there = (signals_at job c.args.self.now next.some.0 c.args.t c.args.output
    c.index-state.result.now next next.some.1 found).there in
    let some = (next.sized there).owed.some in
    (omega arith, omega arith)

pub returns-then-not-is_empty-clause-made : goal.returns-then-not-is_empty-clause-made
returns-then-not-is_empty-clause-made c = λ s steps next.
    let job = with_samples s c.args.job.now in
    let t = c.args.t in
    let found = state_read next (λ e. (cc)) c.index-state.ensures in
    let some = some_items c.index-state.result.now.made
    (sym c.is_empty.ensures ∙ c.if-not-is_empty.true) in
    let made = has_made job c.args.self.now next.some.0 t
    c.args.output c.index-state.result.now next next.some.1 found some in
    let all = all s (goal.at.returns-then-not-is_empty-clause-made c).After-is_empty next in
    let most = most_in c.args.self.now t in
    had_same job c.args.self.now c.signal_made.new.self t c.signal_made.result
    (λ m at. ap (answer_up_to steps most job m t) (next.is m at)
    ∙ sym (ap (answer_up_to 1 most job m t) (next.is m at)) ∙ ap (λ n. turn_up_to 1 n job m t) all)
    (c.signal_made.ensures.made s steps
    (subst (λ j. IsNextIn steps job c.args.self.now t (signals j)) (sym made.first) next))

pub signal_made-requires-clause-made : goal.signal_made-requires-clause-made
signal_made-requires-clause-made c = λ state there none.
    let s = c.requires.next.0 in
    let next = c.requires.next.2 in
    let job = with_samples s c.args.job.now in
    let found = state_read next (λ e. (cc)) c.index-state.ensures in
    let some = some_items c.index-state.result.now.made
    (sym c.is_empty.ensures ∙ c.if-not-is_empty.true) in
    some (ap (λ s. s.made.items) (same_Some c.index-state.result.now state (sym found ∙ there))
    ∙ none)

pub unreachable-requires : goal.unreachable-requires
unreachable-requires c =
    let s = c.requires.next.0 in
    let next = c.requires.next.2 in
    let job = with_samples s c.args.job.now in
    let found = state_read next (λ e. (cc)) c.index-state.ensures in
    let none = none_items c.index-state.result.now.made
    (sym c.is_empty.ensures ∙ c.if-not-is_empty.false) in
    owes_some job c.args.self.now c.args.t c.args.output c.index-state.result.now
    next found none (λ i w e. c.in_default.not-Value i w e)

pub signal_value-requires-clause-kind : goal.signal_value-requires-clause-kind
signal_value-requires-clause-kind c =
    let s = c.requires.next.0 in
    let next = c.requires.next.2 in
    let job = with_samples s c.args.job.now in
    let found = state_read next (λ e. (cc)) c.index-state.ensures in
    one_no_filter job c.args.self.now next.some.0 c.args.t c.in-Value.output
    c.index-state.result.now (Ok c.in-Ok.x) next.some.1 found
    (c.in-Value.is ∙ ap (code.Value c.in-Value.output) c.in-Ok.is)

pub signal_value-requires-clause-value : goal.signal_value-requires-clause-value
signal_value-requires-clause-value c = λ s steps m next at.
    let job = with_samples s c.args.job.now in
    let found = state_read next (λ e. (cc)) c.index-state.ensures in
    let none = none_items c.index-state.result.now.made
    (sym c.is_empty.ensures ∙ c.if-not-is_empty.false) in
    let fits : SFits w64 c.in-Ok.x = search rules in
    (owes_this job c.args.self.now m c.args.t c.args.output c.in-Value.output
    c.index-state.result.now (Ok c.in-Ok.x) next at found none
    (c.in-Value.is ∙ ap (code.Value c.in-Value.output) c.in-Ok.is)).next
    ∙ ap (λ x. Ok x ∷ []) (sym (to_z-of_z fits))

pub overflow_sub-result : goal.overflow_sub-result
overflow_sub-result c =
    let s = c.requires.next.0 in
    let next = c.requires.next.2 in
    let job = with_samples s c.args.job.now in
    let over = over s (goal.at.overflow_sub-result c).In-Err next in
    omega (arith, (over next.some.0 next.some.1).begun)

pub returns-in-Err-clause-made : goal.returns-in-Err-clause-made
returns-in-Err-clause-made c = λ s steps next.
    let job = with_samples s c.args.job.now in
    let over = over s (goal.at.returns-in-Err-clause-made c).In-Err next in
    let begun = (over next.some.0 next.some.1).begun in
    over_turn job c.args.self.now c.args.t c.args.output 0
    (c.index-state.result.now.begun - 1) c.index-state.result.now (Err c.in-Err.field-0 ∷ [])
    next over (omega arith)
