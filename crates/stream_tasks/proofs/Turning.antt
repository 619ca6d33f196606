-- The state of a task after a call of one of its registrations.
use Rattle.std.proofs.Common.{◌≡◌, ◌≢◌, ℕ, ◌<◌, ◌≤◌, ℤ, true, false, List, [], ◌∷◌, Some, length, get_or, map, refl, sym, ap, subst, ◌∙◌, arith}
use Rattle.std.specs.Global.{Global}
use Rattle.std.specs.Vec.{with_item}
use Rattle.std.specs.Prelude.{is_some, Ok, Option, Bool, Vec}
use Rattle.std.proofs.lemmas.List.{length-set}
use Rattle.std.proofs.lemmas.Option.{slice_get-get_or, same_Some}
use Rattle.stream_filters.specs.Filter.{FirState}
use Rattle.phase_accum.specs.declared.outcome.Outcome.{Outcome}
use Rattle.phase_history.specs.Histories.{History}
use Rattle.graph_base.specs.declared.line.Kind.{Kind}
use Rattle.graph_base.specs.declared.line.Kind.TheVariants.{Source, Fir, Split, Decimate, Join, Peer, Sink}
use Rattle.graph_base.specs.Graphs.{Task, task_at, phaser_at}
use Rattle.stream_lists.specs.Jobs.{Job}
use Rattle.graph_runs.specs.Moments.{Moment}
use Rattle.stream_members.specs.Members.{Spot}
use Rattle.stream_members.specs.AnyMembers.{member_in, room_for}
use Rattle.stream_members.specs.declared.any_member.AnyMember.{AnyMember}
use Rattle.stream_members.specs.declared.places.Places.{Places}
use Rattle.graph_runs.specs.Answers.{output_at}
use Rattle.phase_base.specs.declared.operation.Op.{Op}
use Rattle.graph_runs.specs.Nexts.{registrations_at}
use Rattle.graph_runs.specs.TaskPlaces as turns
use Rattle.graph_runs.specs.TaskPlaces.{StandsUpTo, registration_at, registration_of_output, owed_after_signal}
use Rattle.graph_runs.specs.Parts.{HasSeen, HasPut, HasMovedOn, AreNextValues, put_event}
use Rattle.graph_runs.specs.Places.{HasChildrenBy}
use Rattle.graph_runs.proofs.PartsLemmas.{with_history, seen, puts_values}
use Rattle.graph_runs.specs.TaskEnds.{HasOwnCalls}
use Rattle.graph_runs.proofs.CallsFollow.{calls_seen, calls_put}
use Rattle.graph_runs.proofs.KnownOthers.{known_moved}
use Rattle.graph_runs.proofs.FollowsPlace.{seen_follows}
use Rattle.graph_runs.proofs.Signalling.{owed}
use Rattle.graph_runs.proofs.Standing.{of_output}
use Rattle.graph_base.specs.Registrations.{signalled_by}
use Rattle.graph_runs.proofs.TellsNext.{owes_as}
use Rattle.graph_runs.specs.Turned.{after_signals}
use Rattle.graph_runs.specs.Steps.{HasFilter}
use Rattle.graph_runs.specs.declared.owed.Owed.{Owed}
use Rattle.graph_runs.specs.declared.owed.Owed.TheVariants.{Value, Nothing}
use Rattle.stream_tasks.specs.Holds.{HoldGoesOn, HasSeenOthers, HasSendPlaces, MemberHasSignalled, signal_event}
use Rattle.stream_tasks.specs.Deals.{HasDealRoom}
use Rattle.stream_tasks.specs.Tasks.{DealsAt, IsOn, IsHeldOn, HasGivenNumbers, HasStepPlaces, IsOwnTaskAt, IsWhole, IsTask, MakesMany, SignalsBlocks, owed_by, place_of_state, sends_room}
use Rattle.stream_tasks.specs.declared.child.Child.{Child}
use Rattle.stream_tasks.specs.declared.deal.Deal.{Deal}
use Rattle.stream_tasks.specs.declared.hold.Hold.{Hold}
use Rattle.stream_tasks.specs.declared.hold.Hold.TheVariants.{On, Gone}
use Rattle.stream_tasks.specs.declared.task_state.TaskState.{TaskState}
use Rattle.stream_tasks.proofs.Dealing.{deal_stays}
use Rattle.stream_tasks.proofs.JoinSteps.{values_follow, values_next}
use Rattle.stream_tasks.proofs.Holding.{sees_others, sees_own, on_after, holds_move}

-- ---- what changes

-- what a call on one registration may change of a task's state beside what it holds
pub record Changes : Type 0 where
  pub begun : ℕ
  pub owed : Owed
  pub made : Vec ℤ Global
  pub filter : Option FirState
  pub lines : Vec ℤ Global
  pub entered : Bool
  pub outcomes : Vec Outcome Global
  pub places : Places
  pub deal : Deal

-- the state with these changes
abbrev pub changed : TaskState → Changes → Vec Hold Global → TaskState
changed s x holds = record s {
  begun = x.begun;
  owed = x.owed;
  made = x.made;
  filter = x.filter;
  lines = x.lines;
  entered = x.entered;
  outcomes = x.outcomes;
  places = x.places;
  deal = x.deal;
  holds = holds;
}

-- no changes
abbrev pub as_it_is : TaskState → Changes
as_it_is s = record {
  begun = s.begun;
  owed = s.owed;
  made = s.made;
  filter = s.filter;
  lines = s.lines;
  entered = s.entered;
  outcomes = s.outcomes;
  places = s.places;
  deal = s.deal;
}

-- there are as many places for sends of each operation
abbrev pub StayPlaces : Places → Places → Type 0
StayPlaces old new = (op : Op) → room_for op new ≡ room_for op old

-- the places stay as many, a filter, a decimator and a joiner owe what they have made, and other
-- tasks make nothing; the same of a splitter and what it deals
pub record FitPlaces (job : Job) (s : TaskState) (x : Changes) : Type 0 where
  pub made : x.made.cap ≡ s.made.cap
  pub few_made : length x.made.items ≤ s.most
  pub outcomes : length x.outcomes.items ≡ length s.outcomes.items
  pub sends : StayPlaces s.places x.places
  pub makers : MakesMany (task_at job.graph s.number).kind → x.owed ≡ s.owed
  pub others : (MakesMany (task_at job.graph s.number).kind → ⊥) → x.made.items ≡ []
  pub few_dealt : length x.deal.values.items ≤ s.most
  pub deal : (task_at job.graph s.number).kind ≡ Split → HasDealRoom s.most x.deal
  pub splitters : (task_at job.graph s.number).kind ≡ Split → x.owed ≡ s.owed
  pub dealers : (task_at job.graph s.number).kind ≢ Split → x.deal.values.items ≡ []

-- a hold that was looked up by its own value
pub looked_up : (holds : List Hold) (k : ℕ) (old : Hold) → k < length holds
    → old ≡ get_or holds k old → get_or holds k Gone ≡ old
looked_up holds k old less is =
    same_Some (get_or holds k Gone) old
    (sym (slice_get-get_or holds k Gone less) ∙ slice_get-get_or holds k old less ∙ ap Some (sym is))

-- no number of a child changes by a call that registers none
pub given_stay : (job : Job) (m after : Moment) (t p : ℕ) (now : History) (children : List Child)
    → HasMovedOn job m after t p now → HasGivenNumbers job m children
    → HasGivenNumbers job after children
given_stay job m after t p now children moved given i child at =
    let has = given i child at in
    let c = child.task in record {
      few = has.few;
      numbered = λ k less. moved.numbers (registration_at job c k).phaser c ∙ has.numbered k less;
      lines = λ q n is. has.lines q n (sym (moved.numbers q c) ∙ is);
    }

-- nor do those that come at a boundary
pub children_stay : (job : Job) (m after : Moment) (t p steps : ℕ) (now : History)
    → HasMovedOn job m after t p now → HasChildrenBy job m t steps
    → HasChildrenBy job after t steps
children_stay job m after t p steps now moved have c there comes i less =
    let q = (registration_at job c i).phaser in
    subst (λ o. is_some o ≡ true) (sym (moved.numbers q c)) (have c there comes i less)

-- ---- others' events

-- the state after others' events were seen on phaser p
pub state_sees : (job : Job) (spots : ℕ → Spot) (m after : Moment) (s : TaskState) (k p : ℕ)
    (old new : AnyMember) (lines : Vec ℤ Global) (entered : Bool) (outcomes : Vec Outcome Global)
    (places : Places) → IsWhole job s
    → k < length (registrations_at job s.number) → length s.lefts.items ≤ k
    → (registration_at job s.number k).phaser ≡ p → lines.items ≡ s.lines.items
    → IsOwnTaskAt job spots m s → IsOn job spots m s.number p old → HasSeenOthers old new
    → HasSeen job m after s.number p (member_in new).seen
    → IsOwnTaskAt job spots after
    (record s { lines = lines; entered = entered; outcomes = outcomes; places = places; holds = with_item s.holds k (On new) })
state_sees job spots m after s k p old new lines entered outcomes places whole few kept here same at on goes is_seen =
    let t = s.number in
    let now = (member_in new).seen in
    let s_o = sees_others job spots m t p old new on goes in
    record {
      part = is_seen.moved.part;
      own = calls_seen job m after t p whole.graph whole.there (member_in old).number now s_o
          is_seen at.own;
      knows = known_moved job m after t p now is_seen.moved at.knows;
      place = λ none. seen_follows job m after t p (place_of_state s) now (at.place none) is_seen;
      deals = λ some.
          deal_stays job m after t p s.begun s.deal.turn s.numbers.items s.deal.values.items now
          (at.deals some) is_seen;
      start = λ joins. is_seen.moved.offset t ∙ at.start joins;
      holds = holds_move job spots m after t k p now s.holds.items s.lefts.items (On new)
          whole.graph whole.there few here whole.holds kept is_seen.moved at.holds
          (on_after job spots m after t p now old new on goes.same is_seen.moved refl);
      filter = subst (λ taken. HasFilter (task_at job.graph t) s.filter taken)
          (sym (is_seen.same.taken 0)) at.filter;
      lines = λ sink. same ∙ at.lines sink ∙ sym (is_seen.same.taken 0);
      given = given_stay job m after t p now s.children.items is_seen.moved at.given;
      at_end = λ over. let end = at.at_end over in record {
        ended = is_seen.ended end.ended;
        nothing_owed = end.nothing_owed;
        nothing_dealt = end.nothing_dealt;
        children = children_stay job m after t p s.begun now is_seen.moved end.children;
      };
    }

-- ---- the task's own events

-- the state after an event of the task's own on phaser p
pub state_moves : (job : Job) (spots : ℕ → Spot) (m after : Moment) (s : TaskState) (k p : ℕ)
    (now : History) (new : AnyMember) (x : Changes) → IsWhole job s
    → k < length (registrations_at job s.number) → length s.lefts.items ≤ k
    → (registration_at job s.number k).phaser ≡ p → s.over ≡ false → IsOwnTaskAt job spots m s
    → HasMovedOn job m after s.number p now → HasOwnCalls job after s.number
    → (x.deal.values.items ≡ [] → StandsUpTo s.most job after s.number
    (place_of_state (changed s x (with_item s.holds k (On new)))))
    → ((x.deal.values.items ≡ [] → ⊥)
    → DealsAt job after (changed s x (with_item s.holds k (On new))))
    → IsOn job spots after s.number p new
    → HasFilter (task_at job.graph s.number) x.filter (after.taken s.number 0)
    → ((task_at job.graph s.number).kind ≡ Sink → x.lines.items ≡ after.taken s.number 0)
    → IsOwnTaskAt job spots after (changed s x (with_item s.holds k (On new)))
state_moves job spots m after s k p now new x whole few kept here going at moved own place deals on has taken =
    let t = s.number in record {
      part = moved.part;
      own = own;
      knows = known_moved job m after t p now moved at.knows;
      place = place;
      deals = deals;
      start = λ joins. moved.offset t ∙ at.start joins;
      holds = holds_move job spots m after t k p now s.holds.items s.lefts.items (On new)
          whole.graph whole.there few here whole.holds kept moved at.holds on;
      filter = has;
      lines = taken;
      given = given_stay job m after t p now s.children.items moved at.given;
      at_end = λ over. absurd (let no = sym going ∙ over in cc);
    }

-- a task that owes something and is no filter that has made it deals nothing: it is no splitter
pub owes_values : (job : Job) (s : TaskState) (owed : turns.Owed) → IsWhole job s
    → owed_by s.owed s.made.items ≡ owed → (owed ≡ turns.nothing → ⊥)
    → (task_at job.graph s.number).kind ≢ Split
owes_values job s owed whole owes some split =
    let none : owed_by s.owed s.made.items ≡ turns.nothing =
    ap (λ o. owed_by o s.made.items) (whole.splitters split)
    ∙ ap (owed_by Nothing)
    (whole.others (λ many. rw split at many)) in
    some (sym owes ∙ none)

-- a task that owes something and has made nothing is of no kind that owes what it has made
pub no_maker : (job : Job) (s : TaskState) (owed : turns.Owed) → IsWhole job s
    → s.made.items ≡ [] → owed_by s.owed s.made.items ≡ owed → (owed ≡ turns.nothing → ⊥)
    → MakesMany (task_at job.graph s.number).kind → ⊥
no_maker job s owed whole none owes some many =
    let nothing_owed : owed_by s.owed s.made.items ≡ turns.nothing =
    ap (λ o. owed_by o s.made.items) (whole.makers many) ∙ ap (owed_by Nothing) none in
    some (sym owes ∙ nothing_owed)

-- it has put the values that it owed on output j, phaser p
pub state_puts : (job : Job) (spots : ℕ → Spot) (m : Moment) (s : TaskState) (j k p : ℕ)
    (vs : List ℤ) (old new : AnyMember) (owed : Owed) (made : Vec ℤ Global) (places : Places)
    → IsWhole job s
    → k < length (registrations_at job s.number) → (registration_at job s.number k).phaser ≡ p
    → output_at job s.number j ≡ p → s.over ≡ false
    → owed_by s.owed s.made.items ≡ turns.values j (map (λ v. Ok v) vs)
    → owed_by owed made.items ≡ owed_after_signal (task_at job.graph s.number) j vs
    → IsOwnTaskAt job spots m s → IsOn job spots m s.number p old
    → MemberHasSignalled vs (phaser_at job.graph p).single old new
    → (after : Moment)
    × IsOwnTaskAt job spots after
    (record s { owed = owed; made = made; places = places; holds = with_item s.holds k (On new) })
state_puts job spots m s j k p vs old new owed made places whole few here out going owes then at on is_made =
    let t = s.number in
    let n = (member_in old).number in
    let before = is_made.0 in
    let now = put_event job p n vs ∷ before in
    let after = after_signals job t j p n vs (m.begun t) (with_history p before m) in
    let left : length s.lefts.items ≡ 0 = whole.staying going in
    let apart = owes_values job s (turns.values j (map (λ v. Ok v) vs)) whole owes (λ e. (cc)) in
    let undealt = whole.dealers apart in
    let stands = at.place undealt in
    let able = whole.places.most apart in
    let next = subst (λ q. AreNextValues job m t j q vs) out
    (values_next job m t j s.most vs (place_of_state s) whole.graph whole.there at.part able stands left owes) in
    let sees = sees_own job spots m t p (signal_event vs (phaser_at job.graph p).single) old new before on is_made.1 in
    let put : HasPut job m after t j p vs (m.begun t) now =
    puts_values job m t p n before whole.graph whole.there at.part j vs sees next in (
      after,
      state_moves job spots m after s k p now new
          (record (as_it_is s) { owed = owed; made = made; places = places })
          whole few (omega arith) here going at put.moved
          (calls_put job m after t p whole.graph whole.there j n (m.begun t) vs before sees put at.own)
          (λ none. subst (λ o. StandsUpTo s.most job after t (record { numbers = s.numbers.items; left = length s.lefts.items; begun = s.begun; owed = o }))
          (sym then)
          (values_follow job m after t j p s.most vs (place_of_state s) now whole.graph whole.there at.part able stands left owes put))
          (λ some. absurd (some undealt))
          (on_after job spots m after t p now old new on is_made.1.same put.moved is_made.1.seen)
          (subst (λ taken. HasFilter (task_at job.graph t) s.filter taken) (sym (put.taken 0)) at.filter)
          (λ sink. at.lines sink ∙ sym (put.taken 0)),
    )

-- ---- tasks

-- what holds always stays by a call
pub whole_moves : (job : Job) (s : TaskState) (k : ℕ) (new : Hold) (x : Changes)
    → FitPlaces job s x → IsWhole job s → IsWhole job (changed s x (with_item s.holds k new))
whole_moves job s k new x fit whole = record {
  graph = whole.graph;
  there = whole.there;
  samples = whole.samples;
  numbers = whole.numbers;
  holds = length-set s.holds.items k new ∙ whole.holds;
  children = whole.children;
  staying = whole.staying;
  room = whole.room;
  places = record {
    most = whole.places.most;
    own = whole.places.own;
    own_few = whole.places.own_few;
    block = whole.places.block;
    made = subst (λ cap. s.most ≤ cap) (sym fit.made) whole.places.made;
    few_made = fit.few_made;
    outcomes = subst (λ n. s.most ≤ n) (sym fit.outcomes) whole.places.outcomes;
    sends = λ signals.
        subst (λ n. s.most ≤ n) (sym (fit.sends (phaser_at job.graph (output_at job s.number 0)).op))
        (whole.places.sends signals);
    few_dealt = fit.few_dealt;
    deal = fit.deal;
    served = λ split several j lt.
        subst (λ n. s.most ≤ n) (sym (fit.sends (phaser_at job.graph (output_at job s.number j)).op))
        (whole.places.served split several j lt);
  };
  makers = λ many. fit.makers many ∙ whole.makers many;
  others = fit.others;
  splitters = λ split. fit.splitters split ∙ whole.splitters split;
  dealers = fit.dealers;
}

-- a call that changes no more than what a wait writes, and the room of a list, fits
pub fits : (job : Job) (s : TaskState) (lines : Vec ℤ Global) (entered : Bool)
    (outcomes : Vec Outcome Global) (places : Places)
    → length outcomes.items ≡ length s.outcomes.items → StayPlaces s.places places
    → IsWhole job s
    → FitPlaces job s
    (record (as_it_is s) { lines = lines; entered = entered; outcomes = outcomes; places = places })
fits job s lines entered outcomes places many sends whole = record {
  made = refl;
  few_made = whole.places.few_made;
  outcomes = many;
  sends = sends;
  makers = λ many. refl;
  others = whole.others;
  few_dealt = whole.places.few_dealt;
  deal = whole.places.deal;
  splitters = λ split. refl;
  dealers = whole.dealers;
}

-- the registrations of a hold that has gone on
pub goes : (P : AnyMember → AnyMember → Type 0) (job : Job) (spots : ℕ → Spot) (m : Moment)
    (t p : ℕ) (old new : Hold) → HoldGoesOn P old new → IsHeldOn job spots m t p old
    → (x : AnyMember) × ((y : AnyMember) × (old ≡ On x) × (new ≡ On y) × P x y
    × IsOn job spots m t p x)
goes P job spots m t p (On x) (On y) g on = (x, (y, refl, refl, g, on))
goes P job spots m t p (On x) Gone g on = absurd g
goes P job spots m t p Gone new g on = absurd on

-- the hold of registration k
pub held : (job : Job) (spots : ℕ → Spot) (m : Moment) (s : TaskState) (k p : ℕ) (old : Hold)
    → IsWhole job s → IsOwnTaskAt job spots m s → k < length (registrations_at job s.number)
    → (registration_at job s.number k).phaser ≡ p → length s.lefts.items ≤ k
    → old ≡ get_or s.holds.items k old → IsHeldOn job spots m s.number p old
held job spots m s k p old whole at few here kept looked =
    let many : length s.holds.items ≡ length (registrations_at job s.number) = whole.holds in
    subst (λ q. IsHeldOn job spots m s.number q old) here
    (subst (λ h. IsHeldOn job spots m s.number (registration_at job s.number k).phaser h)
    (looked_up s.holds.items k old (omega arith) looked) (at.holds.on k few kept))

-- the hold of an output has places for as many sends as a task makes steps in one event
pub has_send_places : (job : Job) (spots : ℕ → Spot) (m : Moment) (s : TaskState) (p count : ℕ)
    (hold : Hold) → IsHeldOn job spots m s.number p hold → p ≡ output_at job s.number 0
    → SignalsBlocks job s.number → HasStepPlaces job s → count ≤ s.most
    → HasSendPlaces hold count s.places
has_send_places job spots m s p count (On x) on out signals places few =
    let room : s.most ≤ sends_room job s.number s.places = places.sends signals in
    let all : count ≤ sends_room job s.number s.places = omega arith in
    subst (λ o. count ≤ room_for o s.places)
    (sym (on.op ∙ ap (λ q. (phaser_at job.graph q).op) out)) all
has_send_places job spots m s p count Gone on out signals places few = absurd on

-- a task whose call on registration k made no event
pub task_sees : (job : Job) (spots : ℕ → Spot) (s : TaskState) (k p : ℕ) (old new : Hold)
    (lines : Vec ℤ Global) (entered : Bool) (outcomes : Vec Outcome Global) (places : Places)
    → length outcomes.items ≡ length s.outcomes.items → StayPlaces s.places places
    → k < length (registrations_at job s.number) → (registration_at job s.number k).phaser ≡ p
    → length s.lefts.items ≤ k → old ≡ get_or s.holds.items k old → lines.items ≡ s.lines.items
    → HoldGoesOn HasSeenOthers old new → IsTask job spots s
    → IsTask job spots
    (record s { lines = lines; entered = entered; outcomes = outcomes; places = places; holds = with_item s.holds k new })
task_sees job spots s k p old new lines entered outcomes places many sends few here kept looked same g task = record {
  whole = whole_moves job s k new
      (record (as_it_is s) { lines = lines; entered = entered; outcomes = outcomes; places = places })
      (fits job s lines entered outcomes places many sends task.whole) task.whole;
  stands = λ met.
      let m = (task.stands met).0 in
      let at = (task.stands met).1 in
      let both = goes HasSeenOthers job spots m s.number p old new g
      (held job spots m s k p old task.whole at few here kept looked) in
      let now = (member_in both.1.0).seen in
      let after = with_history p now m in
      let then = state_sees job spots m after s k p both.0 both.1.0 lines entered outcomes places task.whole few kept here
      same at both.1.4 both.1.3
      (seen job m s.number p (member_in both.0).number now
      (sees_others job spots m s.number p both.0 both.1.0 both.1.4 both.1.3)
      task.whole.graph task.whole.there at.part) in (
        after,
        subst (λ h. IsOwnTaskAt job spots after
            (record s { lines = lines; entered = entered; outcomes = outcomes; places = places; holds = with_item s.holds k h }))
            (sym both.1.2) then,
      );
}

-- a task that has put the values that it owed on output j
pub task_puts : (job : Job) (spots : ℕ → Spot) (s : TaskState) (j k p : ℕ) (vs : List ℤ)
    (old new : Hold) (owed : Owed) (made : Vec ℤ Global) (places : Places)
    → k < length (registrations_at job s.number)
    → (registration_at job s.number k).phaser ≡ p → output_at job s.number j ≡ p
    → s.over ≡ false → owed_by s.owed s.made.items ≡ turns.values j (map (λ v. Ok v) vs)
    → owed_by owed made.items ≡ owed_after_signal (task_at job.graph s.number) j vs
    → FitPlaces job s (record (as_it_is s) { owed = owed; made = made; places = places })
    → old ≡ get_or s.holds.items k old
    → HoldGoesOn (MemberHasSignalled vs (phaser_at job.graph p).single) old new → IsTask job spots s
    → IsTask job spots
    (record s { owed = owed; made = made; places = places; holds = with_item s.holds k new })
task_puts job spots s j k p vs old new owed made places few here out going owes then fit looked g task = record {
  whole = whole_moves job s k new
      (record (as_it_is s) { owed = owed; made = made; places = places }) fit task.whole;
  stands = λ met.
      let m = (task.stands met).0 in
      let at = (task.stands met).1 in
      let none : length s.lefts.items ≡ 0 = task.whole.staying going in
      let both = goes (MemberHasSignalled vs (phaser_at job.graph p).single) job spots m s.number p old new g
      (held job spots m s k p old task.whole at few here (omega arith) looked) in
      let next = state_puts job spots m s j k p vs both.0 both.1.0 owed made places task.whole few here out going owes then
      at both.1.4 both.1.3 in (
        next.0,
        subst (λ h. IsOwnTaskAt job spots next.0
            (record s { owed = owed; made = made; places = places; holds = with_item s.holds k h })) (sym both.1.2) next.1,
      );
}

-- the output on which values are owed is one of the task's
pub owed_output : (job : Job) (spots : ℕ → Spot) (s : TaskState) (j : ℕ) (vs : List ℤ)
    → s.met ≡ false → owed_by s.owed s.made.items ≡ turns.values j (map (λ v. Ok v) vs)
    → IsTask job spots s → j < length (signalled_by (task_at job.graph s.number))
owed_output job spots s j vs met owes task =
    let m = (task.stands met).0 in
    let at = (task.stands met).1 in
    (owed job m s.number j
    (owes_as job m s.number (place_of_state s) (turns.values j (map (λ v. Ok v) vs))
    (at.place (task.whole.dealers
    (owes_values job s (turns.values j (map (λ v. Ok v) vs)) task.whole owes (λ e. (cc))))) owes).0).0

-- the registration of an output
pub output_on : (job : Job) (s : TaskState) (j k p : ℕ) → IsWhole job s
    → j < length (signalled_by (task_at job.graph s.number))
    → k ≡ registration_of_output (task_at job.graph s.number) j → p ≡ output_at job s.number j
    → (k < length (registrations_at job s.number))
    × ((registration_at job s.number k).phaser ≡ p)
output_on job s j k p whole few is at =
    let tells = of_output job s.number j whole.graph whole.there few in
    subst (λ x. (x < length (registrations_at job s.number)) × ((registration_at job s.number x).phaser ≡ p))
    (sym is) (tells.0, tells.1 ∙ sym at)

-- ---- a value that is owed

-- a task that owes a value on output j, and has made nothing, owes it by the definitions
pub owes_value : (s : TaskState) (j : ℕ) (v : ℤ) → s.owed ≡ Value j (Ok v) → s.made.items ≡ []
    → owed_by s.owed s.made.items ≡ turns.values j (map (λ x. Ok x) (v ∷ []))
owes_value s j v owes none =
    ap (λ o. owed_by o s.made.items) owes ∙ ap (λ l. owed_by (Value j (Ok v)) l) none

-- it is none that owes what it has made, so what it owes next fits
pub value_fits : (job : Job) (s : TaskState) (j : ℕ) (v : ℤ) (owed : Owed) → IsWhole job s
    → s.owed ≡ Value j (Ok v) → FitPlaces job s (record (as_it_is s) { owed = owed })
value_fits job s j v owed whole owes = record {
  made = refl;
  few_made = whole.places.few_made;
  outcomes = refl;
  sends = λ op. refl;
  makers = λ many.
      absurd (let no : Nothing ≡ Value j (Ok v) = sym (whole.makers many) ∙ owes in cc);
  others = whole.others;
  few_dealt = whole.places.few_dealt;
  deal = whole.places.deal;
  splitters = λ split.
      absurd (let no : Nothing ≡ Value j (Ok v) = sym (whole.splitters split) ∙ owes in cc);
  dealers = whole.dealers;
}

-- who has made these values owes them
pub owes_made : (s : TaskState) → s.made.items ≢ []
    → owed_by s.owed s.made.items ≡ turns.values 0 (map (λ x. Ok x) s.made.items)
owes_made s some = by s.made.items some
  where
    by : (l : List ℤ) → l ≢ [] → owed_by s.owed l ≡ turns.values 0 (map (λ x. Ok x) l)
    by [] none = absurd (none refl)
    by (v ∷ vs) more = refl

-- who has made something is of a kind that owes it
pub makes_many : (job : Job) (s : TaskState) → IsWhole job s → s.made.items ≢ []
    → MakesMany (task_at job.graph s.number).kind
makes_many job s whole some = by (task_at job.graph s.number).kind refl
  where
    by : (k : Kind) → (task_at job.graph s.number).kind ≡ k
        → MakesMany (task_at job.graph s.number).kind
    by Fir e = rw e tt
    by Join e = rw e tt
    by Source e = absurd (some (whole.others (λ many. rw e at many)))
    by Split e = absurd (some (whole.others (λ many. rw e at many)))
    by Decimate e = rw e tt
    by Peer e = absurd (some (whole.others (λ many. rw e at many)))
    by Sink e = absurd (some (whole.others (λ many. rw e at many)))

-- who makes many values and is neither a decimator nor a joiner is a filter
pub filter_of : (kind : Kind) → MakesMany kind → kind ≢ Decimate → kind ≢ Join → kind ≡ Fir
filter_of Fir many no_keeper apart = refl
filter_of Decimate many no_keeper apart = absurd (no_keeper refl)
filter_of Join many no_keeper apart = absurd (apart refl)
filter_of Source many no_keeper apart = absurd many
filter_of Split many no_keeper apart = absurd many
filter_of Peer many no_keeper apart = absurd many
filter_of Sink many no_keeper apart = absurd many

-- once it has put them it owes nothing
pub put_all_owes : (job : Job) (s : TaskState) (made : Vec ℤ Global) → IsWhole job s
    → s.made.items ≢ [] → made.items ≡ []
    → owed_by s.owed made.items ≡ owed_after_signal (task_at job.graph s.number) 0 s.made.items
put_all_owes job s made whole some none =
    let many = makes_many job s whole some in
    let task = task_at job.graph s.number in
    ap (λ l. owed_by s.owed l) none ∙ ap (λ o. owed_by o []) (whole.makers many)
    ∙ sym (after task s.made.items task.kind refl many)
  where
    after : (task : Task) (vs : List ℤ) (kind : Kind) → task.kind ≡ kind → MakesMany kind
        → owed_after_signal task 0 vs ≡ turns.nothing
    after task vs Fir e many = rw e refl
    after task vs Join e many = rw e refl
    after task vs Source e many = absurd many
    after task vs Split e many = absurd many
    after task vs Decimate e many = rw e refl
    after task vs Peer e many = absurd many
    after task vs Sink e many = absurd many

pub made_fits : (job : Job) (s : TaskState) (made : Vec ℤ Global) (places : Places) → IsWhole job s
    → made.items ≡ [] → made.cap ≡ s.made.cap → StayPlaces s.places places
    → FitPlaces job s (record (as_it_is s) { made = made; places = places })
made_fits job s made places whole none room sends = record {
  made = room;
  few_made = subst (λ l. length l ≤ s.most) (sym none) (omega arith);
  outcomes = refl;
  sends = sends;
  makers = λ many. refl;
  others = λ no. none;
  few_dealt = whole.places.few_dealt;
  deal = whole.places.deal;
  splitters = λ split. refl;
  dealers = whole.dealers;
}
