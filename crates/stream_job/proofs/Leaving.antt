-- The turn of a task that leaves.
use Rattle.std.proofs.Common.{◌≡◌, ℕ, List, suc, ◌+◌, ◌<◌, cond, Some, None, ◌∷◌, length, get_or, slice_get, nat_lt, set, refl, sym, ap, subst, ◌∙◌, arith}
use Rattle.phase_history.specs.declared.event.Event.TheVariants.{Dropped}
use Rattle.phase_history.specs.Refusals.{drop_refusal}
use Rattle.stream_lists.specs.Jobs.{Job}
use Rattle.graph_runs.specs.Moments.{Moment}
use Rattle.graph_runs.specs.Turned.{with_at}
use Rattle.graph_runs.specs.Nexts as turns
use Rattle.graph_runs.specs.Nexts.{is_live}
use Rattle.graph_runs.specs.TaskEvents.{leave, after_turn}
use Rattle.graph_runs.specs.Answers as answers
use Rattle.graph_runs.specs.Answers.{makes, after_answer, accepted_answer, told_event}
use Rattle.graph_runs.specs.TaskPlaces.{StandsUpTo, registration_at}
use Rattle.graph_runs.proofs.PlacesFollow.{leave_follows}
use Rattle.stream_job.specs.Places.{IsTaskAt, place_in_state}
use Rattle.stream_job.specs.Machines.{IsMachineAt, HasCores, most_in}
use Rattle.stream_job.specs.Turning.{HadTurn, MadeShows, told_of, turn_in}
use Rattle.stream_job.specs.Stepping.{IsNextIn}
use Rattle.stream_job.specs.declared.machine.Machine.{Machine}
use Rattle.stream_job.specs.declared.task_state.TaskState.{TaskState}
use Rattle.stream_job.specs.declared.made.Made.TheVariants.{Event}
use Rattle.stream_job.specs.declared.turned.Turned.{Turned}
use Rattle.stream_job.proofs.LinesAfter.{quiet_lines, same_rooms}
use Rattle.stream_job.proofs.Lively.{LeavesAt, leaves_at, leaves_now}
use Rattle.stream_job.proofs.Setting.{read_same}
use Rattle.phase_history.specs.declared.refusal.NoTask.{NoTask}
use Rattle.stream_job.proofs.Reading.{live_by}
use Rattle.stream_job.proofs.Events.{after_own}
use Rattle.stream_job.proofs.Mosts.{mosts_set}
use Rattle.stream_job.proofs.Makes.{MakesEvent, makes_event}

abbrev pub left_once : TaskState → TaskState
left_once state = record state { left = state.left + 1 }

-- the machine after it
pub left_turn : {steps : ℕ} (job : Job) (old new : Machine) (t p number : ℕ) (state : TaskState)
    (told : Turned) → IsNextIn steps job old t turns.leaves
    → slice_get old.tasks.items t ≡ Some state
    → (registration_at job t state.left).phaser ≡ p
    → get_or state.numbers.items state.left 0 ≡ number
    → ((m : Moment) → IsMachineAt job m old → drop_refusal (m.history p) number ≡ None)
    → ((m : Moment) → IsMachineAt job m old
    → HasCores job (with_at p (Dropped number ∷ m.history p) m.history) new.cores.items)
    → new.tasks.items ≡ set old.tasks.items t (left_once state) → new.lines ≡ old.lines
    → cond (nat_lt (state.left + 1) (length state.numbers.items)) answers.Moved answers.Ended
    ≡ told_of told
    → HadTurn steps job old new t (Event p told)
left_turn {steps} job old new t p number state told next found phaser numbered accepted cores tasks lines tells =
    record {
      shows = λ m at. shows m at;
      after = λ m at none. after m at;
      lines = λ given m at none.
          quiet_lines job given m old new t (leave t p number) next.sized at (answer m at) refl tt lines;
      own = same_rooms old new lines;
      mosts = mosts_set old new t state (left_once state) found tasks refl;
    }
  where
    is : (m : Moment) → IsMachineAt job m old → IsTaskAt job m t state
    is m at = at.tasks t state found

    place : (m : Moment) → IsMachineAt job m old → LeavesAt steps (most_in old t) job m t (place_in_state state)
    place m at = leaves_at steps (most_in old t) job m t (place_in_state state) at.graph (is m at).stands (next.is m at)

    answer : (m : Moment) → IsMachineAt job m old
        → turn_in steps job old m t ≡ makes (leave t p number)
    answer m at =
        (place m at).answer
        ∙ ap (λ q. accepted_answer (leave t q (get_or state.numbers.items state.left 0))
        (drop_refusal (m.history q) (get_or state.numbers.items state.left 0))) phaser
        ∙ ap (λ n. accepted_answer (leave t p n) (drop_refusal (m.history p) n)) numbered
        ∙ ap (accepted_answer (leave t p number)) (accepted m at)

    made : (m : Moment) → IsMachineAt job m old → MakesEvent steps (most_in old t) job m t (leave t p number)
    made m at = makes_event job m t (leave t p number) next.sized at.graph at.reached (answer m at)

    stands : (m : Moment) → IsMachineAt job m old
        → StandsUpTo state.most job (after_turn job (leave t p number) m) t (place_in_state (left_once state))
    stands m at =
        let one : state.left + 1 ≡ suc state.left = omega arith in
        subst (λ k. StandsUpTo state.most job (after_turn job (leave t p number) m) t
        (record (place_in_state state) { left = k })) (sym one)
        (leave_follows job m t p number (place_in_state state) at.graph (made m at).live (made m at).next
        (made m at).order (is m at).stands)

    shows : (m : Moment) (at : IsMachineAt job m old)
        → MadeShows job m t (turn_in steps job old m t) (Event p told)
    shows m at =
        let after = after_turn job (leave t p number) m in
        let l = place m at in
        let live : is_live job after t ≡ nat_lt (state.left + 1) (length state.numbers.items) =
        live_by job after t (place_in_state (left_once state)) (stands m at) l.there
        (let all = l.all in omega arith) in
        let word : told_event job m (leave t p number) ≡ told_of told =
        ap (λ b. cond b answers.Moved answers.Ended) live ∙ tells in
        subst (λ a. MadeShows job m t a (Event p told)) (sym (answer m at)) (refl, word)

    after : (m : Moment) (at : IsMachineAt job m old)
        → IsMachineAt job (after_answer job (turn_in steps job old m t) m) new
    after m at =
        let it = is m at in
        after_own job m old new t (leave t p number) (left_once state) next.sized at (answer m at) refl
        (place m at).there (next.stays m at) (next.few m at) (cores m at) tasks
        (record {
          stands = stands m at;
          room = it.room;
          filter = it.filter;
          most = it.most;
          made_room = it.made_room;
          made_by = it.made_by;
          made_none = it.made_none;
          sink = it.sink;
        })
        (ap (λ l. length l.items) lines)

-- what the drop of a task that leaves is answered
leaves_so : {steps : ℕ} (job : Job) (old : Machine) (t p number : ℕ) (state : TaskState)
    → IsNextIn steps job old t turns.leaves → slice_get old.tasks.items t ≡ Some state
    → (registration_at job t state.left).phaser ≡ p
    → get_or state.numbers.items state.left 0 ≡ number → (m : Moment) → IsMachineAt job m old
    → turn_in steps job old m t ≡ accepted_answer (leave t p number) (drop_refusal (m.history p) number)
leaves_so job old t p number state next found phaser numbered m at =
    let n = get_or state.numbers.items state.left 0 in
    (leaves_now job old m t state next at found).answer
    ∙ ap (λ q. accepted_answer (leave t q n) (drop_refusal (m.history q) n)) phaser
    ∙ ap (λ n. accepted_answer (leave t p n) (drop_refusal (m.history p) n)) numbered

-- it is not refused
pub refused_drop : {steps : ℕ} (job : Job) (old : Machine) (t p number : ℕ) (state : TaskState) (e : NoTask)
    → IsNextIn steps job old t turns.leaves → slice_get old.tasks.items t ≡ Some state
    → (registration_at job t state.left).phaser ≡ p
    → get_or state.numbers.items state.left 0 ≡ number
    → ((m : Moment) → IsMachineAt job m old → drop_refusal (m.history p) number ≡ Some e) → ⊥
refused_drop job old t p number state e next found phaser numbered refused =
    let m = next.some.0 in
    let at = next.some.1 in
    next.answered m at
    (leaves_so job old t p number state next found phaser numbered m at
    ∙ ap (accepted_answer (leave t p number)) (refused m at))

-- the tasks after it
pub left_tasks : (old now : List TaskState) (t : ℕ) (state other : TaskState)
    → now ≡ old → t < length old → state ≡ get_or old t state → other ≡ get_or now t other
    → set now t (record other { left = state.left + 1 }) ≡ set old t (left_once state)
left_tasks old now t state other same lt first second =
    let it : other ≡ state =
    read_same old t other state lt (second ∙ ap (λ xs. get_or xs t other) same) first in
    ap (λ xs. set xs t (record other { left = state.left + 1 })) same
    ∙ ap (λ (s : TaskState). set old t (record s { left = state.left + 1 })) it
