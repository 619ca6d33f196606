-- The state of a joiner after a wait, and when there is nothing to wait for.
use Rattle.std.proofs.Common.{◌≡◌, ℕ, ◌+◌, ◌<◌, ℤ, false, [], ◌∷◌, ◌++◌, length, get_or, refl, sym, ap, subst, ◌∙◌, arith}
use Rattle.std.specs.Global.{Global}
use Rattle.std.specs.Prelude.{Bool, Vec}
use Rattle.std.specs.Vec.{with_item}
use Rattle.std.proofs.lemmas.List.{length-append}
use Rattle.std.proofs.lemmas.List.Elements.{All-nil, All-cons}
use Rattle.phase_accum.specs.declared.outcome.Outcome.{Outcome}
use Rattle.phase_history.specs.declared.event.Event.TheVariants.{Waited}
use Rattle.graph_base.specs.declared.line.Kind.TheVariants as kind
use Rattle.graph_base.specs.Graphs.{task_at}
use Rattle.stream_lists.specs.Jobs.{Job}
use Rattle.stream_lists.specs.Lists.{number}
use Rattle.stream_lists.specs.Ranges.{is_too_big}
use Rattle.graph_runs.specs.Moments.{Moment, first_input, input_at}
use Rattle.graph_runs.specs.Moves.{further}
use Rattle.graph_runs.specs.Nexts.{is_cut, registrations_at}
use Rattle.graph_runs.specs.Parts.{BeginsSteps, HasGot}
use Rattle.graph_runs.specs.TaskPlaces.{StandsUpTo, registration_at}
use Rattle.graph_runs.specs.Turned.{after_waits}
use Rattle.graph_runs.specs.declared.owed.Owed.TheVariants.{Nothing}
use Rattle.graph_runs.proofs.CallsFollow.{calls_got}
use Rattle.graph_runs.proofs.PartsLemmas.{gets_first, with_history}
use Rattle.graph_runs.proofs.Tasks.{first_looks}
use Rattle.stream_members.specs.Members.{Spot}
use Rattle.stream_members.specs.AnyMembers.{member_in}
use Rattle.stream_members.specs.declared.any_member.AnyMember.{AnyMember}
use Rattle.stream_tasks.specs.Children.{HasChildrenNow}
use Rattle.stream_tasks.specs.Holds.{HasRunOut, HasSeenOthers, HoldGoesOn, MemberHasWaited, wait_event}
use Rattle.stream_tasks.specs.Tasks.{DealsNothing, IsOn, IsOwnTaskAt, IsTask, IsWhole, OwesNothing, owed_by, place_of_state}
use Rattle.stream_tasks.specs.declared.hold.Hold.{Hold}
use Rattle.stream_tasks.specs.declared.hold.Hold.TheVariants.{On, Gone}
use Rattle.stream_tasks.specs.declared.task_state.TaskState.{TaskState}
use Rattle.stream_tasks.proofs.EndingLemmas.{came}
use Rattle.stream_tasks.proofs.Holding.{on_after, sees_own}
use Rattle.stream_tasks.proofs.Keeping.{places_stay}
use Rattle.stream_tasks.proofs.JoinSteps.{join_begins, join_has_none, join_takes}
use Rattle.stream_tasks.proofs.Turning.{FitPlaces, as_it_is, goes, held, state_moves, task_sees, whole_moves}
use Rattle.stream_tasks.proofs.Waiting.{answered_on, input_on}

-- a joiner deals nothing, and owes what it has taken alone
pub join_undealt : (job : Job) (s : TaskState) → IsWhole job s
    → (task_at job.graph s.number).kind ≡ kind.Join → DealsNothing s
join_undealt job s whole join =
    whole.dealers (λ split. (let no : kind.Join ≡ kind.Split = sym join ∙ split in cc))

pub join_owes : (job : Job) (s : TaskState) → IsWhole job s
    → (task_at job.graph s.number).kind ≡ kind.Join
    → owed_by s.owed s.made.items ≡ owed_by Nothing s.made.items
join_owes job s whole join =
    ap (λ owed. owed_by owed s.made.items) (whole.makers (rw join tt))

-- where it has taken nothing, it owes nothing
pub join_owes_none : (job : Job) (s : TaskState) → IsWhole job s
    → (task_at job.graph s.number).kind ≡ kind.Join → s.made.items ≡ [] → OwesNothing s
join_owes_none job s whole join none =
    (whole.makers (rw join tt), none, join_undealt job s whole join)

-- it has no children
pub join_children : (job : Job) (s : TaskState) → IsWhole job s
    → (task_at job.graph s.number).kind ≡ kind.Join → HasChildrenNow job s
join_children job s whole join spots m at c there comes =
    let parent = came s.number s.begun (task_at job.graph c).parent comes in
    absurd (join_has_none job s.number c parent.0 whole.graph join there parent.1 parent.2)

-- a joiner has taken the value of its next step
state_joins : (job : Job) (spots : ℕ → Spot) (m : Moment) (s : TaskState) (k p begun : ℕ)
    (o : Outcome) (old new : AnyMember) (made : Vec ℤ Global) (entered : Bool)
    (outcomes : Vec Outcome Global) → IsWhole job s
    → k < length (registrations_at job s.number) → (registration_at job s.number k).phaser ≡ p
    → input_at (task_at job.graph s.number) k ≡ p → s.over ≡ false
    → (task_at job.graph s.number).kind ≡ kind.Join
    → is_cut (task_at job.graph s.number).until s.begun ≡ false
    → length s.made.items < s.most → k ≡ first_input (task_at job.graph s.number) s.begun
    → begun ≡ s.begun + 1 → is_too_big o ≡ false → made.items ≡ s.made.items ++ number o ∷ []
    → IsOwnTaskAt job spots m s → IsOn job spots m s.number p old
    → MemberHasWaited (o ∷ []) old new
    → (after : Moment) × IsOwnTaskAt job spots after
    (record s {
      begun = begun;
      made = made;
      entered = entered;
      outcomes = outcomes;
      holds = with_item s.holds k (On new);
    })
state_joins job spots m s k p begun o old new made entered outcomes whole few here input going join uncut room first more fit then at on w =
    let t = s.number in
    let n = (member_in old).number in
    let now = Waited n 1 ∷ w.before in
    let after = after_waits t k p n (o ∷ []) (further (m.begun t) (o ∷ [])) (with_history p w.before m) in
    let left : length s.lefts.items ≡ 0 = whole.staying going in
    let undealt = join_undealt job s whole join in
    let owed_is = join_owes job s whole join in
    let stands = at.place undealt in
    let sees = sees_own job spots m t p (wait_event 1) old new w.before on w.made in
    let answer = answered_on job spots m t p (o ∷ []) old new on w in
    let next : BeginsSteps job m t k p 1 = subst (λ q. BeginsSteps job m t k q 1) input
    (rw first
    (join_begins job m t s.most (place_of_state s) whole.graph whole.there at.part join stands left uncut)) in
    let got : HasGot job m after t k p (o ∷ []) (m.begun t + 1) now =
    gets_first job m t p n w.before whole.graph whole.there at.part (o ∷ []) sees answer k next in (
      after,
      state_moves job spots m after s k p now new
          (record (as_it_is s) { begun = begun; made = made; entered = entered; outcomes = outcomes })
          whole few (omega arith) here going at got.moved
          (calls_got job m after t p whole.graph whole.there k n (m.begun t + 1) (o ∷ []) w.before sees answer
          (All-cons (λ x. is_too_big x ≡ false) o [] fit (All-nil (λ x. is_too_big x ≡ false))) got at.own)
          (λ none. subst (λ b. StandsUpTo s.most job after t (record { numbers = s.numbers.items; left = length s.lefts.items; begun = b; owed = owed_by s.owed made.items }))
          (sym more)
          (subst (λ x. StandsUpTo s.most job after t (record { numbers = s.numbers.items; left = length s.lefts.items; begun = s.begun + 1; owed = x }))
          (sym (ap (λ l. owed_by s.owed l) then ∙ ap (λ x. owed_by x (s.made.items ++ number o ∷ [])) (whole.makers (rw join tt))))
          (join_takes job m after t k p s.most s.made.items o (place_of_state s) now whole.graph whole.there at.part join stands left owed_is next room got)))
          (λ some. absurd (some undealt))
          (on_after job spots m after t p now old new on w.made.same got.moved w.made.seen)
          (λ fir. absurd (let no : kind.Join ≡ kind.Fir = sym join ∙ fir in cc))
          (λ sink. absurd (let no : kind.Join ≡ kind.Sink = sym join ∙ sink in cc)),
    )

-- a value more that it has taken fits
join_fits : (job : Job) (s : TaskState) (begun : ℕ) (v : ℤ) (made : Vec ℤ Global)
    (entered : Bool) (outcomes : Vec Outcome Global) → IsWhole job s
    → (task_at job.graph s.number).kind ≡ kind.Join → length s.made.items < s.most
    → made.items ≡ s.made.items ++ v ∷ [] → made.cap ≡ s.made.cap
    → length outcomes.items ≡ length s.outcomes.items
    → FitPlaces job s
    (record (as_it_is s) { begun = begun; made = made; entered = entered; outcomes = outcomes })
join_fits job s begun v made entered outcomes whole join room then cap many = record {
  made = cap;
  few_made = omega (arith, ap length then, length-append s.made.items (v ∷ []), room);
  outcomes = many;
  sends = λ op. refl;
  makers = λ makes. refl;
  others = λ no. absurd (no (rw join tt));
  few_dealt = whole.places.few_dealt;
  deal = whole.places.deal;
  splitters = λ split. refl;
  dealers = whole.dealers;
}

pub task_joins : (job : Job) (spots : ℕ → Spot) (s : TaskState) (k p begun : ℕ) (o : Outcome)
    (old new : Hold) (made : Vec ℤ Global) (entered : Bool) (outcomes : Vec Outcome Global)
    → k < length (registrations_at job s.number) → (registration_at job s.number k).phaser ≡ p
    → input_at (task_at job.graph s.number) k ≡ p → s.met ≡ false → s.over ≡ false
    → (task_at job.graph s.number).kind ≡ kind.Join
    → is_cut (task_at job.graph s.number).until s.begun ≡ false
    → length s.made.items < s.most → k ≡ first_input (task_at job.graph s.number) s.begun
    → begun ≡ s.begun + 1 → is_too_big o ≡ false → made.items ≡ s.made.items ++ number o ∷ []
    → made.cap ≡ s.made.cap → length outcomes.items ≡ length s.outcomes.items
    → old ≡ get_or s.holds.items k old → HoldGoesOn (MemberHasWaited (o ∷ [])) old new
    → IsTask job spots s
    → IsTask job spots
    (record s {
      begun = begun;
      made = made;
      entered = entered;
      outcomes = outcomes;
      holds = with_item s.holds k new;
    })
task_joins job spots s k p begun o old new made entered outcomes few here input met going join uncut room first more fit then cap many looked g task =
    let none : length s.lefts.items ≡ 0 = task.whole.staying going in
    record {
      whole = whole_moves job s k new
          (record (as_it_is s) { begun = begun; made = made; entered = entered; outcomes = outcomes })
          (join_fits job s begun (number o) made entered outcomes task.whole join room then cap many)
          task.whole;
      stands = λ again.
          let m = (task.stands met).0 in
          let at = (task.stands met).1 in
          let both = goes (MemberHasWaited (o ∷ [])) job spots m s.number p old new g
          (held job spots m s k p old task.whole at few here (omega arith) looked) in
          let next = state_joins job spots m s k p begun o both.0 both.1.0 made entered outcomes task.whole few here input
          going join uncut room first more fit then at both.1.4 both.1.3 in (
            next.0,
            subst (λ h. IsOwnTaskAt job spots next.0
                (record s {
                  begun = begun;
                  made = made;
                  entered = entered;
                  outcomes = outcomes;
                  holds = with_item s.holds k h;
                })) (sym both.1.2) next.1,
          );
    }

-- a joiner whose wait made no event
pub join_sees : (job : Job) (spots : ℕ → Spot) (s : TaskState) (k p : ℕ) (old new : Hold)
    (outcomes : Vec Outcome Global) → s.over ≡ false
    → (task_at job.graph s.number).kind ≡ kind.Join
    → k ≡ first_input (task_at job.graph s.number) s.begun
    → p ≡ input_at (task_at job.graph s.number) k → old ≡ get_or s.holds.items k old
    → length outcomes.items ≡ length s.outcomes.items → HoldGoesOn HasSeenOthers old new
    → IsTask job spots s
    → IsTask job spots (record s { outcomes = outcomes; holds = with_item s.holds k new })
join_sees job spots s k p old new outcomes going join first input looked many g task =
    let within = first_looks (task_at job.graph s.number) s.begun (task.whole.graph.tasks s.number task.whole.there).ends
    (λ source. (let no : kind.Join ≡ kind.Source = sym join ∙ source in cc)) in
    let on = input_on job s k p task.whole (subst (λ i. i < length (task_at job.graph s.number).inputs) (sym first) within.0) input in
    let none : length s.lefts.items ≡ 0 = task.whole.staying going in
    task_sees job spots s k p old new s.lines s.entered outcomes s.places many (λ op. refl)
    on.0 on.1 (omega arith) looked refl g task

-- an end is others' events
pub ended_sees : (old new : Hold) → HoldGoesOn HasRunOut old new → HoldGoesOn HasSeenOthers old new
ended_sees (On old) (On new) g = g.seen
ended_sees (On old) Gone g = absurd g
ended_sees Gone new g = g

-- a task whose step a worker has entered
pub task_enters : (job : Job) (spots : ℕ → Spot) (s : TaskState) (entered : Bool)
    → IsTask job spots s → IsTask job spots (record s { entered = entered })
task_enters job spots s entered task = record {
  whole = record {
    graph = task.whole.graph;
    there = task.whole.there;
    samples = task.whole.samples;
    numbers = task.whole.numbers;
    holds = task.whole.holds;
    children = task.whole.children;
    staying = task.whole.staying;
    room = task.whole.room;
    places = places_stay job s (record s { entered = entered }) refl refl refl refl refl refl refl
        task.whole.places;
    makers = task.whole.makers;
    others = task.whole.others;
    splitters = task.whole.splitters;
    dealers = task.whole.dealers;
  };
  stands = λ met.
      let m = (task.stands met).0 in
      let at = (task.stands met).1 in (
        m,
        record {
          part = at.part;
          own = at.own;
          knows = at.knows;
          place = at.place;
          deals = at.deals;
          start = at.start;
          holds = at.holds;
          filter = at.filter;
          lines = at.lines;
          given = at.given;
          at_end = λ over. let end = at.at_end over in record {
            ended = end.ended;
            nothing_owed = end.nothing_owed;
            nothing_dealt = end.nothing_dealt;
            children = end.children;
          };
        },
      );
}
