-- A run that is stopped has one moment, and that is right whatever comes.
use Rattle.std.proofs.Common.{◌≡◌, ℕ, ℤ, ◌<◌, Bool, true, List, Some, length, sym, ap, subst, ◌∙◌}
use Rattle.phase_history.specs.Histories.{History, has_dropped}
use Rattle.graph_base.specs.TaskLines.{IsGraph}
use Rattle.stream_lists.specs.Jobs.{Job, with_samples}
use Rattle.graph_runs.specs.Feeds.{IsOpenAt}
use Rattle.graph_runs.specs.TaskEnds.{FounderEnd}
use Rattle.graph_runs.specs.RunEnds.{Ends, IsRegisteredOn}
use Rattle.graph_runs.specs.Stops.{HasRunSoFar, IsStop, IsFedStop}
use Rattle.graph_runs.proofs.StandFed.{stands_fed}
use Rattle.graph_runs.proofs.Joined.{whole, IsNumbered, is_numbered, begun_there}
use Rattle.graph_runs.proofs.Wholes.{part}

on_fed : (job : Job) (samples : List (List ℤ)) (ends : Ends) (t i p n : ℕ) (seen : History)
    → IsRegisteredOn (with_samples samples job) ends t i p n seen
    → IsRegisteredOn job ends t i p n seen
on_fed job samples ends t i p n seen on = record {
  end = on.end;
  came = on.came;
  few = on.few;
  phaser = on.phaser;
  number = on.number;
  saw = on.saw;
}

on_own : (job : Job) (samples : List (List ℤ)) (ends : Ends) (t i p n : ℕ) (seen : History)
    → IsRegisteredOn job ends t i p n seen
    → IsRegisteredOn (with_samples samples job) ends t i p n seen
on_own job samples ends t i p n seen on = record {
  end = on.end;
  came = on.came;
  few = on.few;
  phaser = on.phaser;
  number = on.number;
  saw = on.saw;
}

phaser_so_far : (job : Job) (samples : List (List ℤ)) (ends : Ends) (p : ℕ) (founder : FounderEnd)
    (h : History) → HasRunSoFar job ends p founder h
    → HasRunSoFar (with_samples samples job) ends p founder h
phaser_so_far job samples ends p founder h w = record {
  legal = w.legal;
  founds = w.founds;
  founder_came = w.founder_came;
  tasks_came = λ t i n seen on. w.tasks_came t i n seen (on_fed job samples ends t i p n seen on);
  not_founder = λ t i n seen on. w.not_founder t i n seen (on_fed job samples ends t i p n seen on);
  distinct = λ t u i j n seen other a b. w.distinct t u i j n seen other
      (on_fed job samples ends t i p n seen a) (on_fed job samples ends u j p n other b);
  gave = λ a has. (let g = w.gave a has in
      (g.0, g.1, g.2, on_own job samples ends g.0 g.1 p a g.2 g.3));
}

-- all of it is of the job with these samples
pub stop_fed : (job : Job) (samples : List (List ℤ)) (ended : ℕ → Bool) (ends : Ends)
    → IsGraph job.graph → IsFedStop job samples ended ends → IsStop (with_samples samples job) ends
stop_fed job samples ended ends is r = record {
  tasks = λ t end has. (let k = r.tasks t end has in (
    k.0,
    k.1,
    (
      k.2.moment,
      stands_fed (with_samples k.2.own job) k.2.moment samples end is
          (subst (λ x. x < length job.graph.tasks) (sym k.0) k.1) (sym k.2.same) k.2.stands,
    ),
  ));
  agree = record {
    phasers = λ p pp. (let w = r.agree.phasers p pp in
        (w.0, w.1, phaser_so_far job samples ends p w.0 w.1 w.2));
    roots = r.agree.roots;
    parents = r.agree.parents;
    children = r.agree.children;
  };
}

-- its sources are as open as they know
pub open_at : (job : Job) (samples : List (List ℤ)) (ended : ℕ → Bool) (ends : Ends)
    → (is : IsGraph job.graph) → (r : IsFedStop job samples ended ends)
    → IsOpenAt (with_samples samples job) ended
    (whole (with_samples samples job) ends is (stop_fed job samples ended ends is r))
open_at job samples ended ends is r t p n there pp source going number gone =
    let fed = with_samples samples job in
    let s = stop_fed job samples ended ends is r in
    let g : IsNumbered fed ends is s t p n = is_numbered fed ends is s t p n number in
    let stays = part fed ends is s t p n g in
    let left : has_dropped (g.m.history p) n ≡ true = sym stays.dropped ∙ gone in
    r.open_is t g.i p n g.on.end (g.m.history p) g.on.came source going g.on.number g.on.few
    g.on.phaser g.on.saw left
    ∙ ap (λ x. Some x) (sym (begun_there fed ends is s t g.on.end g.on.came))
