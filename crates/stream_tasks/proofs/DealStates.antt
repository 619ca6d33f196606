-- The state of a splitter that takes what it deals, and that puts a share of it.
use Rattle.std.proofs.Common.{◌≡◌, ℕ, zero, suc, ◌+◌, ◌-◌, ◌%◌, ◌<◌, ◌≤◌, ℤ, false, List, [], ◌∷◌, length, get_or, map, refl, sym, ap, subst, ◌∙◌, arith}
use Rattle.std.specs.Global.{Global}
use Rattle.std.specs.List.{All}
use Rattle.std.specs.Vec.{with_item}
use Rattle.std.specs.Prelude.{Bool, Vec}
use Rattle.std.proofs.lemmas.List.{length-map}
use Rattle.phase_accum.specs.declared.outcome.Outcome.{Outcome}
use Rattle.phase_history.specs.declared.event.Event.TheVariants.{Waited}
use Rattle.phase_history.specs.Histories.{History}
use Rattle.graph_runs.specs.declared.owed.Owed.TheVariants.{Nothing}
use Rattle.graph_base.specs.declared.line.Kind.TheVariants as kind
use Rattle.graph_base.specs.Graphs.{task_at, phaser_at}
use Rattle.stream_lists.specs.Jobs.{Job}
use Rattle.stream_lists.specs.Lists.{every, number}
use Rattle.stream_lists.specs.Ranges.{is_too_big}
use Rattle.graph_runs.specs.Moments.{Moment, input_at}
use Rattle.stream_members.specs.Members.{Spot}
use Rattle.stream_members.specs.AnyMembers.{member_in, room_for}
use Rattle.stream_members.specs.declared.any_member.AnyMember.{AnyMember}
use Rattle.stream_members.specs.declared.places.Places.{Places}
use Rattle.graph_runs.specs.Answers.{output_at}
use Rattle.graph_runs.specs.Nexts.{registrations_at}
use Rattle.graph_runs.specs.TaskPlaces as turns
use Rattle.graph_runs.specs.TaskPlaces.{StandsUpTo, registration_at}
use Rattle.graph_runs.specs.Turned.{after_signals, after_waits}
use Rattle.graph_runs.specs.Parts.{AreNextValues, HasGot, HasPut, SeesOwn, put_event}
use Rattle.graph_runs.specs.Places.{MayMake}
use Rattle.graph_runs.proofs.PartsLemmas.{with_history, puts_values}
use Rattle.graph_runs.proofs.TellsNext.{staying_at}
use Rattle.graph_runs.proofs.CallsFollow.{calls_put, calls_got}
use Rattle.stream_tasks.specs.Children.{MayStep}
use Rattle.stream_tasks.specs.Deals.{DealtThen, HasDealRoom, HasListPlaces, IsDealing, goes_on, next_output_of, was_last}
use Rattle.stream_tasks.specs.Holds.{HoldGoesOn, MemberHasSignalled, MemberHasWaited, signal_event, wait_event}
use Rattle.stream_tasks.specs.Tasks.{DealsNothing, HasStepPlaces, IsHeldOn, IsOn, IsOwnTaskAt, IsWhole, IsTask, owed_by, place_of_state}
use Rattle.stream_tasks.specs.declared.deal.Deal.{Deal}
use Rattle.stream_tasks.specs.declared.hold.Hold.{Hold}
use Rattle.stream_tasks.specs.declared.hold.Hold.TheVariants.{On, Gone}
use Rattle.stream_tasks.specs.declared.task_state.TaskState.{TaskState}
use Rattle.stream_tasks.proofs.DealWaits.{gets_block}
use Rattle.stream_tasks.proofs.Dealing.{deal_begins, share_goes_on, share_is_next, share_was_last, split_takes}
use Rattle.stream_tasks.proofs.Holding.{sees_own, on_after}
use Rattle.stream_tasks.proofs.OneInputs.{block_may_begin}
use Rattle.stream_tasks.proofs.Shares.{length-every, turns_few}
use Rattle.stream_tasks.proofs.Turning.{as_it_is, FitPlaces, StayPlaces, state_moves, whole_moves, goes, held}
use Rattle.stream_tasks.proofs.Waiting.{answered_on, makes_fewer}
use Rattle.stream_tasks.proofs.Keeping.{owed_none}

-- no list with places is empty
some_in : {X : Type 0} (xs : List X) → 1 ≤ length xs → xs ≡ [] → ⊥
some_in xs some none = (let no = ap length none in omega arith)

-- ---- the wait

pub state_deals : (job : Job) (spots : ℕ → Spot) (m : Moment) (s : TaskState) (p begun allowed : ℕ)
    (os : List Outcome) (old new : AnyMember) (entered : Bool) (outcomes : Vec Outcome Global)
    (deal : Deal) → IsWhole job s → (task_at job.graph s.number).kind ≡ kind.Split
    → 0 < length (registrations_at job s.number) → (registration_at job s.number 0).phaser ≡ p
    → input_at (task_at job.graph s.number) 0 ≡ p → (step : MayStep job s)
    → begun ≡ s.begun + length os → MayMake job s.number s.begun allowed → 1 ≤ length os
    → length os ≤ allowed → All (λ outcome. is_too_big outcome ≡ false) os
    → deal.values.items ≡ map number os → deal.turn ≡ 0
    → IsOwnTaskAt job spots m s → IsOn job spots m s.number p old → MemberHasWaited os old new
    → (after : Moment)
    × IsOwnTaskAt job spots after
    (record s {
      begun = begun;
      entered = entered;
      outcomes = outcomes;
      deal = deal;
      holds = with_item s.holds 0 (On new);
    })
state_deals job spots m s p begun allowed os old new entered outcomes deal whole split few here input step more may some less fit values turn at on w =
    let t = s.number in
    let n = (member_in old).number in
    let now = Waited n (length os) ∷ w.before in
    let after = after_waits t 0 p n os (m.begun t + length os) (with_history p w.before m) in
    let left : length s.lefts.items ≡ 0 = whole.staying step.over in
    let owed_is = owed_none s step.owed in
    let stands = at.place step.owed.2 in
    let sees = sees_own job spots m t p (wait_event (length os)) old new w.before on w.made in
    let answer = answered_on job spots m t p os old new on w in
    let takes = split_takes job t whole.graph whole.there split in
    let begins = block_may_begin job m t s.most (length os) (place_of_state s) whole.graph
    whole.there at.part takes stands left owed_is
    (makes_fewer job t s.begun allowed 1 (omega arith) may)
    (makes_fewer job t s.begun allowed (length os) less may) (step.children spots m at) in
    let got : HasGot job m after t 0 p os (m.begun t + length os) now =
    gets_block job m t p n os w.before whole.graph whole.there at.part takes input
    (staying_at job m t (place_of_state s) whole.graph whole.there at.part.ran stands left) begins
    sees answer in
    let dealing = deal_begins job m after t p s.most os (place_of_state s) now whole.graph
    whole.there at.part split stands owed_is some got in
    let many : length deal.values.items ≡ length os = ap length values ∙ length-map os number in (
      after,
      state_moves job spots m after s 0 p now new
          (record (as_it_is s) {
            begun = begun;
            entered = entered;
            outcomes = outcomes;
            deal = deal;
          })
          whole few (omega arith) here step.over at got.moved
          (calls_got job m after t p whole.graph whole.there 0 n (m.begun t + length os) os w.before sees answer fit got at.own)
          (λ none. absurd (some_in deal.values.items (omega arith) none))
          (λ full.
          subst (λ b. IsDealing job after t s.numbers.items b deal.turn deal.values.items)
          (sym more)
          (subst (λ i. IsDealing job after t s.numbers.items (s.begun + length os) i deal.values.items)
          (sym turn)
          (subst (λ l. IsDealing job after t s.numbers.items (s.begun + length os) 0 l)
          (sym values) dealing)))
          (on_after job spots m after t p now old new on w.made.same got.moved w.made.seen)
          (λ fir. absurd (let no = sym split ∙ fir in cc))
          (λ sink. absurd (let no = sym split ∙ sink in cc)),
    )

-- what it keeps for it fits
deal_fits : (job : Job) (s : TaskState) (begun : ℕ) (entered : Bool)
    (outcomes : Vec Outcome Global) (places : Places) (deal : Deal) → IsWhole job s
    → (task_at job.graph s.number).kind ≡ kind.Split
    → length outcomes.items ≡ length s.outcomes.items → StayPlaces s.places places
    → length deal.values.items ≤ s.most → HasDealRoom s.most deal
    → FitPlaces job s
    (record (as_it_is s) {
      begun = begun;
      entered = entered;
      outcomes = outcomes;
      places = places;
      deal = deal;
    })
deal_fits job s begun entered outcomes places deal whole split many sends few room = record {
  made = refl;
  few_made = whole.places.few_made;
  outcomes = many;
  sends = sends;
  makers = λ many. refl;
  others = whole.others;
  few_dealt = few;
  deal = λ is. room;
  splitters = λ is. refl;
  dealers = λ apart. absurd (apart split);
}

-- a splitter that has begun steps by its wait
pub task_deals : (job : Job) (spots : ℕ → Spot) (s : TaskState) (p begun allowed : ℕ)
    (os : List Outcome) (old new : Hold) (entered : Bool) (outcomes : Vec Outcome Global)
    (deal : Deal) → (task_at job.graph s.number).kind ≡ kind.Split
    → 0 < length (registrations_at job s.number) → (registration_at job s.number 0).phaser ≡ p
    → input_at (task_at job.graph s.number) 0 ≡ p → (step : MayStep job s)
    → begun ≡ s.begun + length os → MayMake job s.number s.begun allowed → 1 ≤ length os
    → length os ≤ allowed → length os ≤ s.most → All (λ outcome. is_too_big outcome ≡ false) os
    → deal.values.items ≡ map number os → deal.turn ≡ 0 → HasDealRoom s.most deal
    → length outcomes.items ≡ length s.outcomes.items
    → old ≡ get_or s.holds.items 0 old → HoldGoesOn (MemberHasWaited os) old new → IsTask job spots s
    → IsTask job spots
    (record s {
      begun = begun;
      entered = entered;
      outcomes = outcomes;
      deal = deal;
      holds = with_item s.holds 0 new;
    })
task_deals job spots s p begun allowed os old new entered outcomes deal split few here input step more may some less room fit values turn deal_room many looked g task =
    let none : length s.lefts.items ≡ 0 = task.whole.staying step.over in
    let long : length deal.values.items ≡ length os = ap length values ∙ length-map os number in
    record {
      whole = whole_moves job s 0 new
          (record (as_it_is s) {
            begun = begun;
            entered = entered;
            outcomes = outcomes;
            deal = deal;
          })
          (deal_fits job s begun entered outcomes s.places deal task.whole split many (λ op. refl)
          (omega arith) deal_room)
          task.whole;
      stands = λ again.
          let m = (task.stands step.met).0 in
          let at = (task.stands step.met).1 in
          let both = goes (MemberHasWaited os) job spots m s.number p old new g
          (held job spots m s 0 p old task.whole at few here (omega arith) looked) in
          let next = state_deals job spots m s p begun allowed os both.0 both.1.0 entered outcomes deal task.whole split few here
          input step more may some less fit values turn at both.1.4 both.1.3 in (
            next.0,
            subst (λ h. IsOwnTaskAt job spots next.0
                (record s {
                  begun = begun;
                  entered = entered;
                  outcomes = outcomes;
                  deal = deal;
                  holds = with_item s.holds 0 h;
                })) (sym both.1.2) next.1,
          );
    }

-- ---- a share

-- the share of the output that comes next
abbrev pub share_of : Job → TaskState → List ℤ
share_of job s = every (length (task_at job.graph s.number).outputs) s.deal.turn s.deal.values.items

-- a splitter owes by what it deals alone
owes_by_deal : (job : Job) (s : TaskState) → IsWhole job s
    → (task_at job.graph s.number).kind ≡ kind.Split
    → owed_by s.owed s.made.items ≡ turns.nothing
owes_by_deal job s whole split =
    ap (λ o. owed_by o s.made.items) (whole.splitters split)
    ∙ ap (λ l. owed_by Nothing l) (whole.others (λ many. rw split at many))

module _ (job : Job) (spots : ℕ → Spot) (m : Moment) (s : TaskState) (k p : ℕ)
    (old new : AnyMember) (places : Places) (deal : Deal) (whole : IsWhole job s)
    (few : k < length (registrations_at job s.number))
    (here : (registration_at job s.number k).phaser ≡ p) (going : s.over ≡ false)
    (some : DealsNothing s → ⊥) (at : IsOwnTaskAt job spots m s)
    (out : output_at job s.number
    (((at.deals some).first + s.deal.turn) % length (task_at job.graph s.number).outputs) ≡ p)
    (on : IsOn job spots m s.number p old)
    (is_made : MemberHasSignalled (share_of job s) (phaser_at job.graph p).single old new) where
  abbrev t : ℕ
  t = s.number

  abbrev n : ℕ
  n = (member_in old).number

  abbrev outputs : ℕ
  outputs = length (task_at job.graph s.number).outputs

  dealing : IsDealing job m s.number s.numbers.items s.begun s.deal.turn s.deal.values.items
  dealing = at.deals some

  abbrev j : ℕ
  j = ((at.deals some).first + s.deal.turn) % length (task_at job.graph s.number).outputs

  abbrev now : History
  now = put_event job p n (share_of job s) ∷ is_made.0

  abbrev after : Moment
  after = after_signals job t j p n (share_of job s) (m.begun t) (with_history p is_made.0 m)

  sees : SeesOwn job m t p n (put_event job p n (share_of job s)) is_made.0
  sees =
      sees_own job spots m t p (signal_event (share_of job s) (phaser_at job.graph p).single) old
      new is_made.0 on is_made.1

  put : HasPut job m after t j p (share_of job s) (m.begun t) now
  put =
      puts_values job m t p n is_made.0 whole.graph whole.there at.part j (share_of job s) sees
      (subst (λ q. AreNextValues job m t j q (share_of job s)) out
      (share_is_next job m t s.begun s.deal.turn s.numbers.items s.deal.values.items whole.graph
      whole.there at.part (at.deals some)))

  place : DealtThen outputs s.deal.turn s.deal.values.items deal → deal.values.items ≡ []
      → StandsUpTo s.most job after t (place_of_state (record s { deal = deal }))
  place (was_last over empty) none =
      subst (λ o. StandsUpTo s.most job after t (record {
        numbers = s.numbers.items;
        left = length s.lefts.items;
        begun = s.begun;
        owed = o;
      })) (sym (owes_by_deal job s whole dealing.kind))
      (subst (λ l. StandsUpTo s.most job after t (record {
        numbers = s.numbers.items;
        left = l;
        begun = s.begun;
        owed = turns.nothing;
      })) (sym (whole.staying going))
      (share_was_last job m t s.begun s.deal.turn s.numbers.items s.deal.values.items whole.graph
      whole.there at.part (at.deals some) after p now put s.most whole.numbers over))
  place (goes_on outputs_left values_left same turn) none =
      absurd (some_in s.deal.values.items (omega arith) (sym same ∙ none))

  deals : DealtThen outputs s.deal.turn s.deal.values.items deal → (deal.values.items ≡ [] → ⊥)
      → IsDealing job after t s.numbers.items s.begun deal.turn deal.values.items
  deals (was_last over empty) full = absurd (full empty)
  deals (goes_on outputs_left values_left same turn) full =
      subst (λ i. IsDealing job after t s.numbers.items s.begun i deal.values.items) (sym turn)
      (subst (λ l. IsDealing job after t s.numbers.items s.begun (s.deal.turn + 1) l) (sym same)
      (share_goes_on job m t s.begun s.deal.turn s.numbers.items s.deal.values.items whole.graph
      whole.there at.part (at.deals some) after p now put outputs_left values_left))

  pub state_shares : DealtThen outputs s.deal.turn s.deal.values.items deal
      → IsOwnTaskAt job spots after
      (record s { places = places; deal = deal; holds = with_item s.holds k (On new) })
  state_shares then =
      let left : length s.lefts.items ≡ 0 = whole.staying going in
      state_moves job spots m after s k p now new
      (record (as_it_is s) { places = places; deal = deal })
      whole few (omega arith) here going at put.moved
      (calls_put job m after t p whole.graph whole.there j n (m.begun t) (share_of job s) is_made.0
      sees put at.own)
      (place then) (deals then)
      (on_after job spots m after t p now old new on is_made.1.same put.moved is_made.1.seen)
      (λ fir. absurd (let no = sym dealing.kind ∙ fir in cc))
      (λ sink. absurd (let no = sym dealing.kind ∙ sink in cc))

-- no more is left than there was
pub then_few : (outputs turn : ℕ) (values : List ℤ) (deal : Deal)
    → DealtThen outputs turn values deal → length deal.values.items ≤ length values
then_few outputs turn values deal (was_last over none) =
    subst (λ l. length l ≤ length values) (sym none) (omega arith)
then_few outputs turn values deal (goes_on outputs_left values_left same turn_is) =
    subst (λ l. length l ≤ length values) (sym same) (omega arith)

-- how many values are left, and for how many outputs
pub deal_left : (job : Job) (spots : ℕ → Spot) (s : TaskState) → s.met ≡ false
    → (DealsNothing s → ⊥) → IsTask job spots s
    → (s.deal.turn < length (task_at job.graph s.number).outputs)
    × (s.deal.turn < length s.deal.values.items)
    × ((task_at job.graph s.number).kind ≡ kind.Split)
deal_left job spots s met some task =
    let deal = (task.stands met).1.deals some in
    (deal.outputs_left, deal.values_left, deal.kind)

-- a splitter that has put the share of the output that came next
pub task_shares : (job : Job) (spots : ℕ → Spot) (s : TaskState) (j k p : ℕ) (old new : Hold)
    (places : Places) (deal : Deal) → k < length (registrations_at job s.number)
    → (registration_at job s.number k).phaser ≡ p → output_at job s.number j ≡ p
    → s.over ≡ false → s.met ≡ false → (DealsNothing s → ⊥) → j ≡ next_output_of job s
    → DealtThen (length (task_at job.graph s.number).outputs) s.deal.turn s.deal.values.items deal
    → length deal.values.items ≤ s.most → HasDealRoom s.most deal → StayPlaces s.places places
    → old ≡ get_or s.holds.items k old
    → HoldGoesOn (MemberHasSignalled (share_of job s) (phaser_at job.graph p).single) old new
    → IsTask job spots s
    → IsTask job spots (record s { places = places; deal = deal; holds = with_item s.holds k new })
task_shares job spots s j k p old new places deal few here out going met some is then few_dealt room sends looked g task = record {
  whole = whole_moves job s k new
      (record (as_it_is s) { places = places; deal = deal })
      (deal_fits job s s.begun s.entered s.outcomes places deal task.whole
      (deal_left job spots s met some task).2 refl sends few_dealt room)
      task.whole;
  stands = λ again.
      let m = (task.stands met).0 in
      let at = (task.stands met).1 in
      let none : length s.lefts.items ≡ 0 = task.whole.staying going in
      let dealing = at.deals some in
      let step : s.begun - (length s.deal.values.items - s.deal.turn) ≡ dealing.first + s.deal.turn =
      omega (arith, dealing.steps, dealing.values_left) in
      let there : output_at job s.number ((dealing.first + s.deal.turn)
      % length (task_at job.graph s.number).outputs) ≡ p =
      ap (λ x. output_at job s.number x)
      (sym (is ∙ ap (λ x. x % length (task_at job.graph s.number).outputs) step)) ∙ out in
      let both = goes (MemberHasSignalled (share_of job s) (phaser_at job.graph p).single) job spots m s.number p old new g
      (held job spots m s k p old task.whole at few here (omega arith) looked) in (
        after_signals job s.number ((dealing.first + s.deal.turn)
            % length (task_at job.graph s.number).outputs) p (member_in both.0).number
            (share_of job s) (m.begun s.number) (with_history p both.1.3.0 m),
        subst (λ h. IsOwnTaskAt job spots
            (after_signals job s.number ((dealing.first + s.deal.turn)
            % length (task_at job.graph s.number).outputs) p (member_in both.0).number
            (share_of job s) (m.begun s.number) (with_history p both.1.3.0 m))
            (record s { places = places; deal = deal; holds = with_item s.holds k h })) (sym both.1.2)
            (state_shares job spots m s k p both.0 both.1.0 places deal task.whole few here going some at there
            both.1.4 both.1.3 then),
      );
}

-- a splitter whose place for a share was written
pub task_gathers : (job : Job) (spots : ℕ → Spot) (s : TaskState) (deal : Deal)
    → deal.values.items ≡ s.deal.values.items → deal.turn ≡ s.deal.turn → HasDealRoom s.most deal
    → IsTask job spots s → IsTask job spots (record s { deal = deal })
task_gathers job spots s deal values turn room task = record {
  whole = record {
    graph = whole.graph;
    there = whole.there;
    samples = whole.samples;
    numbers = whole.numbers;
    holds = whole.holds;
    children = whole.children;
    staying = whole.staying;
    room = whole.room;
    places = record {
      most = whole.places.most;
      own = whole.places.own;
      own_few = whole.places.own_few;
      block = whole.places.block;
      made = whole.places.made;
      few_made = whole.places.few_made;
      outcomes = whole.places.outcomes;
      sends = whole.places.sends;
      few_dealt = subst (λ l. length l ≤ s.most) (sym values) whole.places.few_dealt;
      deal = λ split. room;
      served = whole.places.served;
    };
    makers = whole.makers;
    others = whole.others;
    splitters = whole.splitters;
    dealers = λ apart. values ∙ whole.dealers apart;
  };
  stands = λ met.
      let m = (task.stands met).0 in
      let at = (task.stands met).1 in (
        m,
        record {
          part = at.part;
          own = at.own;
          knows = at.knows;
          place = λ none. at.place (sym values ∙ none);
          deals = λ some.
              subst (λ i. IsDealing job m s.number s.numbers.items s.begun i deal.values.items) (sym turn)
              (subst (λ l. IsDealing job m s.number s.numbers.items s.begun s.deal.turn l) (sym values)
              (at.deals (λ none. some (values ∙ none))));
          start = at.start;
          holds = at.holds;
          filter = at.filter;
          lines = at.lines;
          given = at.given;
          at_end = λ over. let end = at.at_end over in record {
            ended = end.ended;
            nothing_owed = end.nothing_owed;
            nothing_dealt = values ∙ end.nothing_dealt;
            children = end.children;
          };
        },
      );
}
  where
    whole : IsWhole job s
    whole = task.whole

-- ---- places for the sends of a share

-- a share is no longer than what is dealt
pub share_few : (job : Job) (s : TaskState) → s.deal.turn < length (task_at job.graph s.number).outputs
    → length (share_of job s) ≤ length s.deal.values.items
share_few job s less =
    let outputs = length (task_at job.graph s.number).outputs in
    omega (
      arith,
      length-every outputs s.deal.turn s.deal.values.items,
      turns_few outputs (length s.deal.values.items) s.deal.turn less,
    )

-- the places of a splitter serve a share of its output j, unless it is one value
pub has_list_places : (job : Job) (spots : ℕ → Spot) (m : Moment) (s : TaskState) (j p count : ℕ)
    (hold : Hold) → IsHeldOn job spots m s.number p hold → p ≡ output_at job s.number j
    → j < length (task_at job.graph s.number).outputs
    → (task_at job.graph s.number).kind ≡ kind.Split → HasStepPlaces job s → count ≤ s.most
    → HasListPlaces hold count s.places
has_list_places job spots m s j p zero (On x) on out there split places few not_one = omega arith
has_list_places job spots m s j p (suc zero) (On x) on out there split places few not_one =
    absurd (not_one refl)
has_list_places job spots m s j p (suc (suc n)) (On x) on out there split places few not_one =
    let room : s.most ≤ room_for (phaser_at job.graph (output_at job s.number j)).op s.places =
    places.served split (omega arith) j there in
    subst (λ o. suc (suc n) ≤ room_for o s.places)
    (sym (on.op ∙ ap (λ q. (phaser_at job.graph q).op) out)) (omega arith)
has_list_places job spots m s j p count Gone on out there split places few not_one = absurd on
