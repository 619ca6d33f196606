-- What a stream stands for after a turn that takes no value out of range.
use Rattle.std.proofs.Common.{◌≡◌, ℕ, ℤ, List, ◌≤◌, ◌||◌, ◌∷◌, [], Bool, true, false, None, refl, sym, ap, subst, arith}
use Rattle.std.specs.Prelude.{Result, Ok, Err}
use Rattle.std.specs.List.{All}
use Rattle.std.proofs.lemmas.List.Elements.{All-cons, All-nil}
use Rattle.stream_lists.specs.Jobs.{Job, with_samples}
use Rattle.graph_runs.specs.Answers.{turn_up_to}
use Rattle.graph_runs.specs.Feeds.{IsOpenAt, NotStarved}
use Rattle.graph_runs.specs.Moments.{Moment}
use Rattle.graph_runs.specs.TaskEvents.{IsNext, TaskEvent, after_turn}
use Rattle.stream_job.specs.InRange.{HasGone}
use Rattle.stream_job.specs.Machines.{HasRoom}
use Rattle.stream_job.specs.Rounds.{of_went}
use Rattle.stream_job.specs.Streams.{IsStreamAt, MayTurn, SizedTurn, StreamState, after_sized, ended_at, is_event, is_hungry, moves_in}
use Rattle.stream_job.specs.declared.machine.Machine.{Machine}
use Rattle.stream_job.specs.declared.went.Went.{Went}
use Rattle.stream_job.specs.declared.went.Went.TheVariants as went
use Rattle.stream_job.proofs.FedTurns.{moved_stands, stayed_stands}

-- the stream with another machine
abbrev pub with_machine : StreamState → Machine → StreamState
with_machine stream machine = record {
  job = stream.job;
  machine = machine;
  inputs = stream.inputs;
  met = stream.met;
}

-- a source that has not ended is left by no event but as the law says
abbrev pub OpensSo : StreamState → List (List ℤ) → Moment → Type 0
OpensSo old s m = (event : TaskEvent) → IsNext (with_samples s old.job) m event
    → NotStarved (with_samples s old.job) (ended_at old) m event
    → IsOpenAt (with_samples s old.job) (ended_at old)
    (after_turn (with_samples s old.job) event m)

-- the moment that it stands at then
pub record GoesTo (least : ℕ) (old new : StreamState) (s : List (List ℤ)) (m : Moment)
    (given : ℕ → List ℤ) : Type 0 where
  pub turns : List SizedTurn
  pub may : All (MayTurn old.job) turns
  pub moves : least ≤ moves_in (with_samples s old.job) m turns
  pub stands : IsStreamAt new s (after_sized (with_samples s old.job) m turns) given

pub went_to : (steps : ℕ) (old : StreamState) (new : Machine) (s : List (List ℤ)) (m : Moment)
    (given : ℕ → List ℤ) (t : ℕ) (word : Went) → OpensSo old s m → old.met ≡ None
    → is_hungry (with_samples s old.job) (ended_at old) m t ≡ false
    → HasGone steps (with_samples s old.job) old.machine new t word → IsStreamAt old s m given
    → GoesTo (of_went word) old (with_machine old new) s m given
went_to steps old new s m given t went.On law none fed gone at =
    let job = with_samples s old.job in
    let turn : SizedTurn = record { task = t; steps = gone.steps; most = gone.most } in
    let moves = gone.moves m at.machine in
    let is : is_event (turn_up_to gone.steps gone.most job m t) ≡ true = ap is_event moves.1 in
    record {
      turns = turn ∷ [];
      may = All-cons (MayTurn old.job) turn [] gone.sized (All-nil (MayTurn old.job));
      moves = rw is (omega arith);
      stands = moved_stands old new s m given t law none fed gone at;
    }
went_to steps old new s m given t went.Stays law none fed gone at = record {
  turns = [];
  may = All-nil (MayTurn old.job);
  moves = omega arith;
  stands = stayed_stands old new s m given t gone at;
}
went_to steps old new s m given t (went.Before place phase) law none fed gone at = record {
  turns = [];
  may = All-nil (MayTurn old.job);
  moves = omega arith;
  stands = subst (λ machine. IsStreamAt (with_machine old machine) s m given) (sym gone.same) at;
}

-- its lines have the room that they had
pub went_own : (steps : ℕ) (job : Job) (old new : Machine) (t : ℕ) (word : Went) (room : ℕ → ℕ)
    → HasGone steps job old new t word → All (HasRoom room) old.lines.items
    → All (HasRoom room) new.lines.items
went_own steps job old new t went.On room gone own = gone.own room own
went_own steps job old new t went.Stays room gone own = gone.own room own
went_own steps job old new t (went.Before place phase) room gone own =
    subst (λ machine. All (HasRoom room) machine.lines.items) (sym gone.same) own

-- a task that rests by one of three
pub rests_held : (held hungry full : Bool) → held ≡ true → (held || hungry || full) ≡ true
rests_held true hungry full e = refl
rests_held false hungry full e = absurd (let wrong : false ≡ true = e in cc)

pub rests_hungry : (held hungry full : Bool) → hungry ≡ true → (held || hungry || full) ≡ true
rests_hungry true hungry full e = refl
rests_hungry false true full e = refl
rests_hungry false false full e = absurd (let wrong : false ≡ true = e in cc)

pub rests_full : (held hungry full : Bool) → full ≡ true → (held || hungry || full) ≡ true
rests_full true hungry full e = refl
rests_full false true full e = refl
rests_full false false full e = e

-- the word of an answer, or else this
abbrev pub word_in : {E : Type 0} → Went → Result Went E → Went
word_in other (Ok word) = word
word_in other (Err e) = other
