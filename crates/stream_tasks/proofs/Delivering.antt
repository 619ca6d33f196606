-- A child that is delivered stands at its parent's moment, and its parent goes on from there.
use Rattle.std.proofs.Common.{◌≡◌, ℕ, ◌<◌, ◌≤◌, true, ◌++◌, length, refl, sym, ap, subst, ◌∙◌, arith}
use Rattle.std.proofs.lemmas.Option.{same_Some}
use Rattle.std.proofs.lemmas.List.{nil_from_length}
use Rattle.stream_lists.specs.Jobs.{Job}
use Rattle.stream_members.specs.Members.{Spot}
use Rattle.graph_base.specs.Graphs.{task_at}
use Rattle.graph_runs.specs.Nexts.{registrations_at}
use Rattle.graph_runs.proofs.ChildMoments.{has_registration}
use Rattle.graph_runs.specs.TaskEnds.{IsChildOf}
use Rattle.stream_tasks.specs.Tasks.{IsTask, IsOwnTaskAt, IsWhole}
use Rattle.stream_tasks.specs.Seeds.{IsReadySeed}
use Rattle.stream_tasks.specs.Registering.{HasFirstHolds, IsRegistering}
use Rattle.stream_tasks.specs.Deliveries.{IsRegisteredChild, HasDelivered}
use Rattle.stream_tasks.specs.declared.child.Child.{Child}
use Rattle.stream_tasks.specs.declared.task_state.TaskState.{TaskState}
use Rattle.stream_tasks.proofs.ChildHolds.{child_goes_alone}
use Rattle.stream_tasks.proofs.Keeping.{places_stay}
use Rattle.stream_tasks.proofs.Seeding.{knows_children}

-- with another list for what the next child holds, a task is one of its run still
pub goes_on : (job : Job) (spots : ℕ → Spot) (i : ℕ) (seed old new child : TaskState)
    → IsTask job spots old → HasDelivered i seed old new child → IsTask job spots new
goes_on job spots i seed old new child task has = subst (IsTask job spots) (sym has.parent_is) (record {
  whole = record {
    graph = whole.graph;
    there = whole.there;
    samples = whole.samples;
    numbers = whole.numbers;
    holds = whole.holds;
    children = whole.children;
    staying = whole.staying;
    room = whole.room;
    places = places_stay job old (record old { child_holds = seed.holds }) refl refl refl
        refl refl refl refl whole.places;
    makers = whole.makers;
    others = whole.others;
    splitters = whole.splitters;
    dealers = whole.dealers;
  };
  stands = λ met.
      (let at = (task.stands met).1 in (
        (task.stands met).0,
        record {
          part = at.part;
          own = at.own;
          knows = at.knows;
          place = at.place;
          deals = at.deals;
          start = at.start;
          holds = at.holds;
          filter = at.filter;
          lines = at.lines;
          given = at.given;
          at_end = λ over.
              (let end = at.at_end over in record {
                ended = end.ended;
                nothing_owed = end.nothing_owed;
                nothing_dealt = end.nothing_dealt;
                children = end.children;
              });
        },
      ));
})
  where
    whole : IsWhole job old
    whole = task.whole

-- the child is a task of the run
module _ (job : Job) (spots : ℕ → Spot) (i : ℕ) (seed old new child : TaskState)
    (whole : IsWhole job old) (registering : IsRegistering job spots old i)
    (registered : IsRegisteredChild job old i seed.number) (ready : IsReadySeed job spots 0 seed)
    (has : HasDelivered i seed old new child) where
  abbrev kid : Child
  kid = registering.kid

  task_is : kid.task ≡ seed.number
  task_is =
      ap (λ (x : Child). x.task) (same_Some kid registered.kid (sym registering.found ∙ registered.found)) ∙ registered.task

  all_made : length (registrations_at job seed.number) ≤ length kid.numbers.items
  all_made =
      subst (λ (x : Child). length (registrations_at job seed.number) ≤ length x.numbers.items)
      (same_Some registered.kid kid (sym registered.found ∙ registering.found)) registered.all

  first_holds : HasFirstHolds job spots registering.moment seed.number kid.numbers.items old.child_holds.items
  first_holds =
      subst (λ c. HasFirstHolds job spots registering.moment c kid.numbers.items old.child_holds.items) task_is
      registering.first_holds

  count : length kid.numbers.items ≡ length (registrations_at job seed.number)
  count =
      omega (arith, (first_holds.joining.place 1).few, all_made)

  numbers_are : child.numbers.items ≡ kid.numbers.items
  numbers_are =
      let none : length seed.numbers.items ≡ 0 = ready.received.long ∙ ready.many in
      has.numbers ∙ ap (λ ns. ns ++ has.kid.numbers.items) (nil_from_length seed.numbers.items none)
      ∙ ap (λ (x : Child). x.numbers.items) (same_Some has.kid kid (sym has.found ∙ registering.found))

  abbrev made : TaskState
  made = record seed { numbers = child.numbers; holds = old.child_holds; start = has.kid.start }

  -- a child that joins now began where its parent has registered it
  starts : (task_at job.graph seed.number).joins_now ≡ true
      → registering.moment.offset seed.number ≡ has.kid.start
  starts joins =
      let some : 0 < length (registrations_at job seed.number) =
      has_registration job seed.number whole.graph ready.seed.there joins in
      let many = count in
      (rw task_is at registering.start) joins (omega arith)
      ∙ ap (λ (x : Child). x.start) (same_Some kid has.kid (sym registering.found ∙ has.found))

  at : IsOwnTaskAt job spots registering.moment made
  at =
      child_goes_alone job spots registering.moment old.number made kid.numbers.items
      old.child_holds.items whole.graph (subst (λ c. IsChildOf job c old.number) task_is registering.child)
      registering.at.knows first_holds count numbers_are refl ready.seed.lefts ready.seed.begun
      (ready.seed.owed, ready.seed.made, ready.seed.dealt) ready.seed.staying ready.seed.lines starts
      ready.seed.filter
      (λ j one e.
      let unregistered = ready.seed.children.each j one e in (
        unregistered.none,
        record {
          there = unregistered.there;
          parent = unregistered.parent;
          has = unregistered.has;
          by = unregistered.by;
        },
      ))

  made_whole : IsWhole job made
  made_whole = record {
    graph = whole.graph;
    there = ready.seed.there;
    samples = ready.seed.samples;
    numbers = ap length numbers_are ∙ count;
    holds = first_holds.long ∙ count;
    children = knows_children job seed.number seed.children.items ready.seed.children;
    staying = λ over. ap length ready.seed.lefts;
    room = let wide = ready.room.lefts in let few = registered.few in omega arith;
    places = places_stay job seed made refl refl refl refl refl refl refl ready.seed.places;
    makers = λ many. ready.seed.owed;
    others = λ other. ready.seed.made;
    splitters = λ split. ready.seed.owed;
    dealers = λ other. ready.seed.dealt;
  }

  pub is_delivered : IsTask job spots child
  is_delivered =
      subst (IsTask job spots) (sym has.child_is)
      (record { whole = made_whole; stands = λ met. (registering.moment, at) })
