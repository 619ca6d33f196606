-- A task registers a child at its own phases.
use Rattle.std.proofs.Common.{◌≡◌, ℕ, ◌<◌, false, List, [], ◌∷◌, ◌++◌, None, length, refl, ◌∙◌, arith}
use Rattle.std.specs.Prelude.{Vec}
use Rattle.std.specs.Global.{Global}
use Rattle.std.specs.Vec.{with_item}
use Rattle.std.proofs.lemmas.Option.{slice_get_past}
use Rattle.phase_base.specs.declared.mode.Mode.{Mode}
use Rattle.phase_history.specs.declared.event.Event.TheVariants.{Registered}
use Rattle.graph_base.specs.Graphs.{task_at}
use Rattle.stream_lists.specs.Jobs.{Job}
use Rattle.graph_runs.specs.Moments.{Moment}
use Rattle.graph_runs.specs.Turned.{after_register}
use Rattle.stream_members.specs.Members.{Spot}
use Rattle.stream_members.specs.AnyMembers.{member_in}
use Rattle.stream_members.specs.declared.any_member.AnyMember.{AnyMember}
use Rattle.graph_runs.specs.Nexts.{registrations_at}
use Rattle.graph_runs.specs.TaskPlaces.{registration_at}
use Rattle.graph_runs.specs.Parts.{SeesOwn}
use Rattle.graph_runs.specs.Places.{HasAddedChild}
use Rattle.graph_runs.proofs.ChildMoments.{child_is_added}
use Rattle.graph_runs.proofs.KnownOthers.{known_registers}
use Rattle.graph_runs.proofs.PartsLemmas.{with_history}
use Rattle.graph_runs.proofs.TurnRegistering.{is_for}
use Rattle.graph_runs.specs.TaskEnds.{IsChildOf}
use Rattle.graph_runs.proofs.CallsFollow.{calls_registered}
use Rattle.stream_tasks.specs.Registering.{MemberHasAdded, HasFirstHolds, registration_of}
use Rattle.stream_tasks.specs.Tasks.{IsOn, IsOwnTaskAt, IsWhole, OwesNothing, place_of_state}
use Rattle.stream_tasks.specs.declared.child.Child.{Child}
use Rattle.stream_tasks.specs.declared.hold.Hold.{Hold}
use Rattle.stream_tasks.specs.declared.hold.Hold.TheVariants.{On}
use Rattle.stream_tasks.specs.declared.task_state.TaskState.{TaskState}
use Rattle.stream_tasks.proofs.Holding.{sees_own}
use Rattle.stream_tasks.proofs.Keeping.{owed_none}
use Rattle.stream_tasks.proofs.ChildAdded.{HasGivenOne, HasAddedOne, first_holds_add, parent_stays}

module _ (job : Job) (spots : ℕ → Spot) (m : Moment) (s : TaskState) (c k : ℕ)
    (numbers : List ℕ) (child_holds : List Hold) (old new child : AnyMember)
    (kids : Vec Child Global) (whole : IsWhole job s) (at : IsOwnTaskAt job spots m s)
    (first_holds : HasFirstHolds job spots m c numbers child_holds)
    (of_task : IsChildOf job c s.number) (boundary : s.begun ≡ of_task.parent.at)
    (going : s.over ≡ false) (owes : OwesNothing s)
    (stays : (task_at job.graph c).joins_now ≡ false)
    (room : length numbers < length (registrations_at job c))
    (few : k < length (registrations_at job s.number))
    (here : (registration_at job s.number k).phaser
    ≡ (registration_at job c (length numbers)).phaser)
    (on : IsOn job spots m s.number (registration_at job c (length numbers)).phaser old)
    (added : MemberHasAdded (registration_at job c (length numbers)).mode old new child)
    (given : HasGivenOne s.children.items kids.items c (member_in child).number numbers) where
  abbrev t : ℕ
  t = s.number

  abbrev n : ℕ
  n = (member_in old).number

  abbrev a : ℕ
  a = (member_in child).number

  abbrev p : ℕ
  p = (registration_at job c (length numbers)).phaser

  abbrev mode : Mode
  mode = (registration_at job c (length numbers)).mode

  abbrev after : Moment
  after = after_register p n c a mode (with_history p added.before m)

  sees : SeesOwn job m t p n (Registered n a mode) added.before
  sees = sees_own job spots m t p (registration_of a mode) old new added.before on added.made

  has : HasAddedChild job m after t c p a numbers (Registered n a mode ∷ added.before)
  has =
      child_is_added job m t c n a of_task.parent (place_of_state s) s.most numbers added.before
      whole.graph whole.there of_task.there at.part (at.place owes.2) (owed_none s owes) boundary of_task.has of_task.by
      first_holds.joining room
      (record { numbered = sees.numbered; others = sees.others; legal = sees.legal.0 })
      (at.knows.offset c stays) (at.knows.offset t (parent_stays job c t whole.graph of_task))
      sees.legal.1

  nowhere : m.number p c ≡ None
  nowhere =
      (first_holds.joining.place s.most).numbered (length numbers) room
      ∙ slice_get_past numbers (length numbers) (omega arith)

  added_one : HasAddedOne job m after t c p a numbers (Registered n a mode ∷ added.before)
  added_one = record {
    part = has.part;
    same = has.same;
    place = has.place;
    child = has.child;
    here = has.here;
    elsewhere = has.elsewhere;
    number = has.number;
    other_numbers = has.other_numbers;
    knows = known_registers job m after t c p a of_task.parent numbers
        (Registered n a mode ∷ added.before) of_task.has of_task.by
        (is_for job c (length numbers) whole.graph of_task.there room).on_line has at.knows;
    own = calls_registered job m after t c whole.graph whole.there of_task p n a mode numbers
        added.before sees nowhere has at.own first_holds.own;
  }

  pub first_holds_register : IsOwnTaskAt job spots after
      (record s { holds = with_item s.holds k (On new); children = kids })
      × HasFirstHolds job spots after c (numbers ++ a ∷ []) (child_holds ++ On child ∷ [])
  first_holds_register =
      first_holds_add job spots m after s c k p numbers child_holds (registration_of a mode) old new
      child added.before kids whole at first_holds of_task going owes.2 room refl few here on
      (record { made = added.made; op = added.op; at = added.at; seen = added.seen }) added_one
      given
