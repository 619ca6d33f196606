-- What a task that stands somewhere has of its own, phaser by phaser.
use Rattle.std.proofs.Common.{◌≡◌, ℕ, ◌+◌, ◌<◌, ◌≤◌, true, ◌++◌, Option, Some, is_some, length, get_or, slice_get, sym, ap, subst, ◌∙◌, arith, inl, inr}
use Rattle.std.proofs.lemmas.Option.{slice_get-get_or}
use Rattle.std.proofs.lemmas.List.{length-map, get_or-map, length-append}
use Rattle.phase_history.specs.Others.{IsUsed}
use Rattle.graph_base.specs.declared.line.Kind.{Kind}
use Rattle.graph_base.specs.declared.line.Kind.TheVariants.{Source, Fir, Split, Decimate, Join, Peer, Sink}
use Rattle.graph_base.specs.Graphs.{task_at}
use Rattle.graph_base.specs.Registrations.{no_registration}
use Rattle.graph_base.specs.TaskLines.{IsGraph, HasEnds}
use Rattle.graph_base.proofs.Registered.{registrations-phasers}
use Rattle.stream_lists.specs.Jobs.{Job}
use Rattle.graph_runs.specs.Moments.{Moment, TaskRan, OnLine, PutOn, TakenOn, OnOutput, OnInput}
use Rattle.graph_runs.proofs.OnLines.{on_phaser}
use Rattle.graph_runs.specs.Parts.{HasPart}
use Rattle.graph_runs.specs.Nexts.{registrations_at}
use Rattle.graph_runs.specs.TaskPlaces.{registration_at}
use Rattle.graph_runs.proofs.PlacesLemmas.{on_ends}
use Rattle.graph_runs.specs.TaskEnds.{TaskEnd, IsChildOf, HasOwnCalls, HasNumbers}
use Rattle.graph_runs.specs.Stops.{HasStoppedAt}

-- ---- registrations

-- the registration of a task for a phaser on its line
pub record IsFound (job : Job) (t p : ℕ) : Type 0 where
  pub i : ℕ
  pub few : i < length (registrations_at job t)
  pub phaser : (registration_at job t i).phaser ≡ p

-- there are as many registrations as ends
ends_many : (job : Job) (t : ℕ) → IsGraph job.graph → t < length job.graph.tasks
    → length (registrations_at job t)
    ≡ length ((task_at job.graph t).inputs ++ (task_at job.graph t).outputs)
ends_many job t is there =
    sym (length-map (registrations_at job t) (λ r. r.phaser))
    ∙ ap length (registrations-phasers job.graph t (task_at job.graph t) (is.tasks t there))

pub found_on : (job : Job) (t p : ℕ) → IsGraph job.graph → t < length job.graph.tasks
    → OnLine (task_at job.graph t) p → IsFound job t p
found_on job t p is there on =
    let at = on_ends job.graph t (task_at job.graph t) p (is.tasks t there) on in
    let rs = registrations_at job t in
    let phasers = registrations-phasers job.graph t (task_at job.graph t) (is.tasks t there) in
    let long : length rs
    ≡ length ((task_at job.graph t).inputs ++ (task_at job.graph t).outputs) =
    ends_many job t is there in
    let lt : at.0 < length rs = omega arith in
    record {
      i = at.0;
      few = lt;
      phaser = sym (get_or-map (λ r. r.phaser) rs at.0 no_registration 0 lt)
          ∙ ap (λ ps. get_or ps at.0 0) phasers ∙ at.2;
    }

-- each task has an end, and so a registration
pub has_some : (job : Job) (t : ℕ) → IsGraph job.graph → t < length job.graph.tasks
    → 0 < length (registrations_at job t)
has_some job t is there =
    let task = task_at job.graph t in
    let one : 1 ≤ length task.inputs + length task.outputs =
    some_end task.kind (length task.inputs) (length task.outputs) (is.tasks t there).ends in
    omega (arith, ends_many job t is there, length-append task.inputs task.outputs)
  where
    some_end : (kind : Kind) (ins outs : ℕ) → HasEnds kind ins outs → 1 ≤ ins + outs
    some_end Source ins outs e = (let one : outs ≡ 1 = e.1 in omega arith)
    some_end Fir ins outs e = (let one : outs ≡ 1 = e.1 in omega arith)
    some_end Split ins outs e = (let one : ins ≡ 1 = e.0 in omega arith)
    some_end Decimate ins outs e = (let one : ins ≡ 1 = e.0 in omega arith)
    some_end Join ins outs e = (let one : outs ≡ 1 = e.2 in omega arith)
    some_end Peer ins outs e = (let one : outs ≡ 1 = e.1 in omega arith)
    some_end Sink ins outs e = (let one : ins ≡ 1 = e.0 in omega arith)

-- ---- a task that stands somewhere, as task t

pub record HasOwn (job : Job) (m : Moment) (end : TaskEnd) (t : ℕ) : Type 0 where
  pub part : HasPart job m t
  pub own : HasOwnCalls job m t
  pub begun : m.begun t ≡ end.begun
  pub start : (task_at job.graph t).joins_now ≡ true → m.offset t ≡ end.start
  pub numbered : (i : ℕ) → i < length (registrations_at job t)
      → m.number (registration_at job t i).phaser t ≡ slice_get end.numbers i
  pub whole : length end.numbers ≡ length (registrations_at job t)
  pub seen : (i : ℕ) → i < length (registrations_at job t)
      → slice_get end.seen i ≡ Some (m.history (registration_at job t i).phaser)
  pub lines : (task_at job.graph t).kind ≡ Sink → m.taken t 0 ≡ end.lines
  pub given : (c : ℕ) → IsChildOf job c t → HasNumbers job m c (end.given c)

pub owns : (job : Job) (m : Moment) (end : TaskEnd) → HasStoppedAt job m end
    → HasOwn job m end end.task
owns job m end is = record {
  part = is.part;
  own = is.own;
  begun = is.begun;
  start = is.start;
  numbered = is.numbered;
  whole = is.whole;
  seen = is.seen;
  lines = is.lines;
  given = is.given;
}

pub owns_as : (job : Job) (m : Moment) (end : TaskEnd) (t : ℕ) → end.task ≡ t
    → HasStoppedAt job m end → HasOwn job m end t
owns_as job m end t same is =
    rw (← same) (owns job m end is)

-- the number that it has on a phaser of its line
pub record HasNumber (job : Job) (m : Moment) (end : TaskEnd) (t p : ℕ) : Type 0 where
  pub i : ℕ
  pub few : i < length (registrations_at job t)
  pub phaser : (registration_at job t i).phaser ≡ p
  pub n : ℕ
  pub number : slice_get end.numbers i ≡ Some n
  pub numbered : m.number p t ≡ Some n
  pub saw : slice_get end.seen i ≡ Some (m.history p)

pub has_number : (job : Job) (m : Moment) (end : TaskEnd) (t p : ℕ) → HasOwn job m end t
    → IsFound job t p → HasNumber job m end t p
has_number job m end t p o f =
    let whole : length end.numbers ≡ length (registrations_at job t) = o.whole in
    let few : f.i < length (registrations_at job t) = f.few in
    let q = (registration_at job t f.i).phaser in
    let n = get_or end.numbers f.i 0 in
    let number : slice_get end.numbers f.i ≡ Some n =
    slice_get-get_or end.numbers f.i 0 (omega arith) in
    let at : m.number q t ≡ Some n = o.numbered f.i f.few ∙ number in
    record {
      i = f.i;
      few = f.few;
      phaser = f.phaser;
      n = n;
      number = number;
      numbered = ap (λ x. m.number x t) (sym f.phaser) ∙ at;
      saw = o.seen f.i f.few ∙ ap (λ x. Some (m.history x)) f.phaser;
    }

-- each of its numbers was used by then
pub used_by : (job : Job) (m : Moment) (t p n : ℕ) → IsGraph job.graph
    → t < length job.graph.tasks → TaskRan job m t → m.number p t ≡ Some n
    → IsUsed (m.history p) n
used_by job m t p n is there ran at = by (ran.lines p n at)
  where
    by : OnLine (task_at job.graph t) p → IsUsed (m.history p) n
    by (inl out) =
        let pp : p < length job.graph.phasers = on_phaser job t p is there (inl out) in
        let N : Option ℕ → Type 0 = λ o. PutOn job m t out.0 p o in
        let on : OnOutput job m t out.0 p n = subst N at (rw out.1 at (ran.outputs p pp)) in
        ap is_some on.start_is
    by (inr into) =
        let N : Option ℕ → Type 0 = λ o. TakenOn job m t into.0 p o in
        let on : OnInput job m t into.0 p n =
        subst N at (rw into.2 at (ran.inputs into.0 into.1)) in
        ap is_some on.start_is
