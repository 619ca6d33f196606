-- The state of a decimator that takes a block, and keeps some of it.
use Rattle.std.proofs.Common.{◌≡◌, ℕ, ◌+◌, ◌%◌, ◌<◌, ◌≤◌, ℤ, false, List, ◌∷◌, length, get_or, map, refl, sym, ap, subst, ◌∙◌, arith}
use Rattle.std.specs.Global.{Global}
use Rattle.std.specs.List.{All}
use Rattle.std.specs.Vec.{with_item}
use Rattle.std.specs.Prelude.{Bool, Vec}
use Rattle.phase_accum.specs.declared.outcome.Outcome.{Outcome}
use Rattle.phase_history.specs.declared.event.Event.TheVariants.{Waited}
use Rattle.graph_base.specs.declared.line.Kind.TheVariants as kind
use Rattle.graph_base.specs.Graphs.{task_at}
use Rattle.stream_lists.specs.Jobs.{Job}
use Rattle.stream_lists.specs.Lists.{every, number}
use Rattle.stream_lists.specs.Ranges.{is_too_big}
use Rattle.graph_runs.specs.Moments.{Moment, input_at}
use Rattle.stream_members.specs.Members.{Spot}
use Rattle.stream_members.specs.AnyMembers.{member_in}
use Rattle.stream_members.specs.declared.any_member.AnyMember.{AnyMember}
use Rattle.graph_runs.specs.Nexts.{registrations_at}
use Rattle.graph_runs.specs.TaskPlaces.{StandsUpTo, registration_at}
use Rattle.graph_runs.specs.Turned.{after_waits}
use Rattle.graph_runs.specs.Parts.{HasGot}
use Rattle.graph_runs.specs.Places.{MayMake}
use Rattle.graph_runs.specs.declared.owed.Owed.TheVariants.{Nothing}
use Rattle.graph_runs.proofs.PartsLemmas.{with_history}
use Rattle.graph_runs.proofs.TellsNext.{staying_at}
use Rattle.graph_runs.proofs.CallsFollow.{calls_got}
use Rattle.stream_tasks.specs.Children.{MayStep}
use Rattle.stream_tasks.specs.Holds.{HoldGoesOn, MemberHasWaited, wait_event}
use Rattle.stream_tasks.specs.Tasks.{IsOn, IsOwnTaskAt, IsWhole, IsTask, owed_by, place_of_state}
use Rattle.stream_tasks.specs.declared.hold.Hold.{Hold}
use Rattle.stream_tasks.specs.declared.hold.Hold.TheVariants.{On}
use Rattle.stream_tasks.specs.declared.task_state.TaskState.{TaskState}
use Rattle.stream_tasks.proofs.DealWaits.{gets_block}
use Rattle.stream_tasks.proofs.Decimating.{decimate_takes, kept_stands}
use Rattle.stream_tasks.proofs.Holding.{sees_own, on_after}
use Rattle.stream_tasks.proofs.Keeping.{owed_none}
use Rattle.stream_tasks.proofs.OneInputs.{block_may_begin}
use Rattle.stream_tasks.proofs.Turning.{as_it_is, goes, held, state_moves, whole_moves}
use Rattle.stream_tasks.proofs.Waiting.{answered_on, makes_fewer}

-- ---- the wait

module _ (job : Job) (s : TaskState) (p begun allowed first : ℕ) (os : List Outcome)
    (entered : Bool) (outcomes : Vec Outcome Global) (made : Vec ℤ Global)
    (decimates : (task_at job.graph s.number).kind ≡ kind.Decimate)
    (few : 0 < length (registrations_at job s.number))
    (here : (registration_at job s.number 0).phaser ≡ p)
    (input : input_at (task_at job.graph s.number) 0 ≡ p) (step : MayStep job s)
    (more : begun ≡ s.begun + length os) (may : MayMake job s.number s.begun allowed)
    (some : 1 ≤ length os) (less : length os ≤ allowed) (room : length os ≤ s.most)
    (fit : All (λ outcome. is_too_big outcome ≡ false) os)
    (below : first < (task_at job.graph s.number).every)
    (next : (s.begun + first) % (task_at job.graph s.number).every ≡ 0)
    (kept : made.items ≡ every (task_at job.graph s.number).every first (map number os)) where
  -- its state, with this hold of its input
  abbrev state : Hold → TaskState
  state hold = record s {
    begun = begun;
    made = made;
    entered = entered;
    outcomes = outcomes;
    holds = with_item s.holds 0 hold;
  }

  state_keeps : (spots : ℕ → Spot) (m : Moment) (old new : AnyMember) → IsWhole job s
      → IsOwnTaskAt job spots m s → IsOn job spots m s.number p old → MemberHasWaited os old new
      → (after : Moment) × IsOwnTaskAt job spots after (state (On new))
  state_keeps spots m old new whole at on w =
      let t = s.number in
      let n = (member_in old).number in
      let now = Waited n (length os) ∷ w.before in
      let after = after_waits t 0 p n os (m.begun t + length os) (with_history p w.before m) in
      let left : length s.lefts.items ≡ 0 = whole.staying step.over in
      let owed_is = owed_none s step.owed in
      let stands = at.place step.owed.2 in
      let sees = sees_own job spots m t p (wait_event (length os)) old new w.before on w.made in
      let answer = answered_on job spots m t p os old new on w in
      let takes = decimate_takes job t whole.graph whole.there decimates in
      let begins = block_may_begin job m t s.most (length os) (place_of_state s) whole.graph
      whole.there at.part takes stands left owed_is
      (makes_fewer job t s.begun allowed 1 (omega arith) may)
      (makes_fewer job t s.begun allowed (length os) less may) (step.children spots m at) in
      let got : HasGot job m after t 0 p os (m.begun t + length os) now =
      gets_block job m t p n os w.before whole.graph whole.there at.part takes input
      (staying_at job m t (place_of_state s) whole.graph whole.there at.part.ran stands left)
      begins sees answer in
      let place = kept_stands job m after t p s.most first os (place_of_state s) now whole.graph
      whole.there at.part decimates stands left owed_is room below next got in
      let owes : owed_by Nothing (every (task_at job.graph t).every first (map number os))
      ≡ owed_by s.owed made.items =
      ap (owed_by Nothing) (sym kept) ∙ ap (λ o. owed_by o made.items) (sym step.owed.0) in (
        after,
        state_moves job spots m after s 0 p now new
            (record (as_it_is s) {
              begun = begun;
              made = made;
              entered = entered;
              outcomes = outcomes;
            })
            whole few (omega arith) here step.over at got.moved
            (calls_got job m after t p whole.graph whole.there 0 n (m.begun t + length os) os
            w.before sees answer fit got at.own)
            (λ none.
            subst (λ b. StandsUpTo s.most job after t (record {
              numbers = s.numbers.items;
              left = length s.lefts.items;
              begun = b;
              owed = owed_by s.owed made.items;
            })) (sym more)
            (subst (λ o. StandsUpTo s.most job after t (record {
              numbers = s.numbers.items;
              left = length s.lefts.items;
              begun = s.begun + length os;
              owed = o;
            })) owes place))
            (λ full. absurd (full step.owed.2))
            (on_after job spots m after t p now old new on w.made.same got.moved w.made.seen)
            (λ fir. absurd (let no = sym decimates ∙ fir in cc))
            (λ sink. absurd (let no = sym decimates ∙ sink in cc)),
      )

  -- a decimator that has begun steps by its wait
  pub task_keeps : (spots : ℕ → Spot) (old new : Hold) → made.cap ≡ s.made.cap
      → length made.items ≤ length os → length outcomes.items ≡ length s.outcomes.items
      → old ≡ get_or s.holds.items 0 old → HoldGoesOn (MemberHasWaited os) old new
      → IsTask job spots s → IsTask job spots (state new)
  task_keeps spots old new cap small many looked g task =
      let none : length s.lefts.items ≡ 0 = task.whole.staying step.over in
      record {
        whole = whole_moves job s 0 new
            (record (as_it_is s) {
              begun = begun;
              made = made;
              entered = entered;
              outcomes = outcomes;
            })
            (record {
              made = cap;
              few_made = omega arith;
              outcomes = many;
              sends = λ op. refl;
              makers = λ makes. refl;
              others = λ no. absurd (no (rw decimates tt));
              few_dealt = task.whole.places.few_dealt;
              deal = task.whole.places.deal;
              splitters = λ split. refl;
              dealers = task.whole.dealers;
            })
            task.whole;
        stands = λ again.
            let m = (task.stands step.met).0 in
            let at = (task.stands step.met).1 in
            let both = goes (MemberHasWaited os) job spots m s.number p old new g
            (held job spots m s 0 p old task.whole at few here (omega arith) looked) in
            let then = state_keeps spots m both.0 both.1.0 task.whole at both.1.4 both.1.3 in (
              then.0,
              subst (λ h. IsOwnTaskAt job spots then.0 (state h)) (sym both.1.2) then.1,
            );
      }
