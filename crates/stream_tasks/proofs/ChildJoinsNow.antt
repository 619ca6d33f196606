-- A task registers a child that joins now, at the first phase that is not complete.
use Rattle.std.proofs.Common.{◌≡◌, ℕ, ◌<◌, true, false, List, [], ◌∷◌, ◌++◌, None, length, refl, sym, ◌∙◌, arith}
use Rattle.std.specs.Prelude.{Vec}
use Rattle.std.specs.Global.{Global}
use Rattle.std.specs.Vec.{with_item}
use Rattle.std.proofs.lemmas.Option.{slice_get_past}
use Rattle.phase_history.specs.declared.event.Event.TheVariants.{RegisteredNow}
use Rattle.phase_history.specs.Histories.{done_of}
use Rattle.graph_base.specs.Graphs.{task_at}
use Rattle.stream_lists.specs.Jobs.{Job}
use Rattle.graph_runs.specs.Moments.{Moment}
use Rattle.graph_runs.specs.Turned.{after_register_now}
use Rattle.stream_members.specs.Members.{Spot}
use Rattle.stream_members.specs.AnyMembers.{member_in}
use Rattle.stream_members.specs.declared.any_member.AnyMember.{AnyMember}
use Rattle.graph_runs.specs.Nexts.{registrations_at}
use Rattle.graph_runs.specs.TaskPlaces.{registration_at}
use Rattle.graph_runs.specs.Parts.{SeesOwn}
use Rattle.graph_runs.specs.Places as places
use Rattle.graph_runs.proofs.ChildMoments.{child_is_added_now, has_registration}
use Rattle.graph_runs.proofs.KnownOthers.{known_registers_now}
use Rattle.graph_runs.proofs.PartsLemmas.{with_history}
use Rattle.graph_runs.proofs.TurnRegistering.{is_for}
use Rattle.graph_runs.specs.TaskEnds.{IsChildOf}
use Rattle.graph_runs.proofs.CallsFollow.{calls_registered_now}
use Rattle.stream_tasks.specs.Registering.{MemberHasAddedNow, HasFirstHolds, registration_now_of}
use Rattle.stream_tasks.specs.Tasks.{IsOn, IsOwnTaskAt, IsWhole, OwesNothing, place_of_state}
use Rattle.stream_tasks.specs.declared.child.Child.{Child}
use Rattle.stream_tasks.specs.declared.hold.Hold.{Hold}
use Rattle.stream_tasks.specs.declared.hold.Hold.TheVariants.{On}
use Rattle.stream_tasks.specs.declared.task_state.TaskState.{TaskState}
use Rattle.stream_tasks.proofs.Holding.{sees_own}
use Rattle.stream_tasks.proofs.Keeping.{owed_none}
use Rattle.stream_tasks.proofs.ChildAdded.{HasGivenOne, HasAddedOne, first_holds_add}

module _ (job : Job) (spots : ℕ → Spot) (m : Moment) (s : TaskState) (c k : ℕ)
    (child_holds : List Hold) (old new child : AnyMember) (start : ℕ)
    (kids : Vec Child Global) (whole : IsWhole job s) (at : IsOwnTaskAt job spots m s)
    (first_holds : HasFirstHolds job spots m c [] child_holds)
    (of_task : IsChildOf job c s.number) (boundary : s.begun ≡ of_task.parent.at)
    (going : s.over ≡ false) (owes : OwesNothing s)
    (joins : (task_at job.graph c).joins_now ≡ true)
    (few : k < length (registrations_at job s.number))
    (here : (registration_at job s.number k).phaser ≡ (registration_at job c 0).phaser)
    (on : IsOn job spots m s.number (registration_at job c 0).phaser old)
    (added : MemberHasAddedNow old new child start)
    (given : HasGivenOne s.children.items kids.items c (member_in child).number []) where
  abbrev t : ℕ
  t = s.number

  abbrev n : ℕ
  n = (member_in old).number

  abbrev a : ℕ
  a = (member_in child).number

  abbrev p : ℕ
  p = (registration_at job c 0).phaser

  abbrev after : Moment
  after = after_register_now p n c a (with_history p added.before m)

  sees : SeesOwn job m t p n (RegisteredNow n a) added.before
  sees = sees_own job spots m t p (registration_now_of a) old new added.before on added.made

  room : 0 < length (registrations_at job c)
  room = has_registration job c whole.graph of_task.there joins

  has : places.HasAddedNow job m after t c p a (done_of added.before)
      (RegisteredNow n a ∷ added.before)
  has =
      child_is_added_now job m t c n a of_task.parent (place_of_state s) s.most [] added.before
      whole.graph whole.there of_task.there at.part (at.place owes.2) (owed_none s owes) boundary of_task.has of_task.by
      first_holds.joining room
      (record { numbered = sees.numbered; others = sees.others; legal = sees.legal.0 })
      joins refl sees.legal.1

  nowhere : m.number p c ≡ None
  nowhere =
      (first_holds.joining.place s.most).numbered 0 room ∙ slice_get_past [] 0 (omega arith)

  added_one : HasAddedOne job m after t c p a [] (RegisteredNow n a ∷ added.before)
  added_one = record {
    part = has.part;
    same = has.same;
    place = has.place;
    child = has.child;
    here = has.here;
    elsewhere = has.elsewhere;
    number = has.number;
    other_numbers = has.other_numbers;
    knows = known_registers_now job m after t c p a (done_of added.before) of_task.parent
        (RegisteredNow n a ∷ added.before) of_task.has of_task.by joins
        (is_for job c 0 whole.graph of_task.there room).on_line has at.knows;
    own = calls_registered_now job m after t c whole.graph whole.there of_task p n a
        (done_of added.before) added.before joins sees nowhere has at.own first_holds.own;
  }

  -- and it is known where the child begins
  pub first_holds_register_now : IsOwnTaskAt job spots after
      (record s { holds = with_item s.holds k (On new); children = kids })
      × HasFirstHolds job spots after c (a ∷ []) (child_holds ++ On child ∷ [])
      × (after.offset c ≡ start)
  first_holds_register_now =
      let then = first_holds_add job spots m after s c k p [] child_holds (registration_now_of a)
      old new child added.before kids whole at first_holds of_task going owes.2 room refl few here on
      (record { made = added.made; op = added.op; at = added.at; seen = added.seen }) added_one
      given in
      (then.0, then.1, has.start_is ∙ sym added.start_is)
