-- A task's own leaving keeps what a moment has of it.
use Rattle.std.proofs.Common.{◌≡◌, ◌≢◌, ℕ, ◌<◌, ◌≤◌, Some, None, length, map, refl, sym, ap, ◌∙◌, arith, ◌⊎◌, inl, inr}
use Rattle.phase_history.specs.declared.event.Event.TheVariants.{Dropped}
use Rattle.phase_history.specs.Histories.{has_dropped}
use Rattle.phase_history.specs.Phases.{received_by}
use Rattle.phase_history.specs.Sent.{sent_by, IsSilent}
use Rattle.graph_base.specs.declared.line.Parent.{Parent}
use Rattle.graph_base.specs.Graphs.{task_at}
use Rattle.graph_base.specs.TaskLines.{IsGraph}
use Rattle.stream_lists.specs.Jobs.{Job}
use Rattle.stream_lists.specs.Lists.{number}
use Rattle.graph_runs.specs.Moments.{one, Moment, input_at, value_at, TaskRan, HasEnded, OnLine, HasNotPassed}
use Rattle.graph_runs.specs.Moves.{HasGrown, Leaves}
use Rattle.graph_runs.proofs.Framed.{ListsRan, lists_later, ended_later}
use Rattle.graph_runs.proofs.OwnEvents.{outputs_later, inputs_later, eq_case, history_by, joined_later}

pub own_leave : (job : Job) (before after : Moment) (t p n : ℕ) → IsGraph job.graph
    → t < length job.graph.tasks → HasGrown job before after t
    → Leaves job before after t p n → TaskRan job before t → TaskRan job after t
own_leave job before after t p n is there grown s ran = record {
  puts = lists.puts;
  exchanged = lists.exchanged;
  takes = lists.takes;
  samples = lists.samples;
  cut = lists.cut;
  outputs = outputs_later s.moved (λ h a. refl) ran (λ q a num gone. ended)
      (λ q a e silent. history_by job before after t p (Dropped n) (λ h. IsSilent h a) q s.moved
      (λ same. record { nothing = silent.nothing; from_0 = silent.from_0 }) (λ apart. silent))
      (λ q i a e num sent. history_by job before after t p (Dropped n) (λ h. sent_by h a ≡ map one (after.put t i)) q s.moved
      (λ same. sent ∙ ap (λ l. map one l) (sym (s.same.put i))) (λ apart. sent ∙ ap (λ l. map one l) (sym (s.same.put i))));
  inputs = inputs_later s.moved (λ h a. refl) ran (λ q a num gone. ended) (λ k none. s.same.taken k)
      (λ k a lt num taken. s.same.taken k ∙ history_by job before after t p (Dropped n)
      (λ h. before.taken t k ≡ map number (received_by (value_at job (input_at (task_at job.graph t) k)) h a))
      (input_at (task_at job.graph t) k) s.moved (λ same. taken) (λ apart. taken));
  lines = λ q a at. ran.lines q a (sym (s.moved.numbers q t) ∙ at);
  joined = λ q a at.
      joined_later job before after t p (Dropped n) is there s.moved
      (ran.joined q a (sym (s.moved.numbers q t) ∙ at));
  children =
      λ c q a u there_c e same at none on.
      children c q a u there_c e same (sym (s.moved.numbers q t) ∙ at)
      (sym (s.moved.numbers q c) ∙ none) on (eq_case q p);
}
  where
    lists : ListsRan job after t
    lists = lists_later job before after t s.same ran

    ended : HasEnded job after t
    ended = ended_later job before after t is there grown s.same s.ended

    children : (c q a : ℕ) (u : Parent) → c < length job.graph.tasks
        → (task_at job.graph c).parent ≡ Some u → u.task ≡ t
        → before.number q t ≡ Some a → before.number q c ≡ None → OnLine (task_at job.graph c) q
        → (q ≡ p) ⊎ (q ≢ p) → HasNotPassed after q a u
    children c q a u there_c e same at none on (inl here) =
        let less : before.begun t < u.at =
        s.children c a u there_c e same (rw here at at) (rw here at none)
        (rw here at on) in
        let begun : after.begun u.task ≡ before.begun t =
        ap (λ x. after.begun x) same ∙ s.same.begun in
        record { early = omega arith; ended = λ gone. omega arith }
    children c q a u there_c e same at none on (inr apart) =
        let w : HasNotPassed before q a u = ran.children c q a u there_c e same at none on in
        let begun : after.begun u.task ≡ before.begun u.task =
        ap (λ x. after.begun x) same ∙ s.same.begun ∙ ap (λ x. before.begun x) (sym same) in
        let early : before.begun u.task ≤ u.at = w.early in
        let dropped : has_dropped (after.history q) a ≡ has_dropped (before.history q) a =
        ap (λ h. has_dropped h a) (s.moved.elsewhere q apart) in
        record {
          early =
              omega arith;
          ended =
              λ gone. (omega (arith, w.ended (sym dropped ∙ gone)));
        }
