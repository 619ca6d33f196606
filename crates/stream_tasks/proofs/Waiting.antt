-- The state of a task after steps have begun, or after a wait.
use Rattle.std.proofs.Common.{◌≡◌, ◌≢◌, ℕ, ◌+◌, ◌<◌, ◌≤◌, ℤ, false, Some, None, List, [], ◌∷◌, ◌++◌, length, map, get_or, refl, sym, ap, subst, ◌∙◌, arith}
use Rattle.std.specs.Global.{Global}
use Rattle.std.specs.List.{All}
use Rattle.std.proofs.lemmas.List.Elements.{All-nil, All-cons}
use Rattle.std.specs.Vec.{with_item}
use Rattle.std.specs.Prelude.{Option, Bool, Vec, drop, take}
use Rattle.phase_accum.specs.declared.outcome.Outcome.{Outcome}
use Rattle.phase_accum.specs.Values.{value_by}
use Rattle.phase_history.specs.declared.event.Event.TheVariants.{Waited}
use Rattle.phase_history.specs.Phases.{received_by}
use Rattle.graph_base.specs.declared.line.Kind.TheVariants as kind
use Rattle.graph_base.specs.Graphs.{Task, task_at, phaser_at}
use Rattle.stream_lists.specs.Jobs.{Job, samples_at}
use Rattle.stream_lists.specs.Lists.{number}
use Rattle.stream_lists.specs.Ranges.{is_too_big}
use Rattle.graph_runs.specs.Moments.{Moment, AtMost, input_at, first_input}
use Rattle.graph_runs.specs.Moves.{further}
use Rattle.stream_members.specs.Members.{Spot}
use Rattle.stream_members.specs.AnyMembers.{member_in}
use Rattle.stream_members.specs.declared.any_member.AnyMember.{AnyMember}
use Rattle.stream_members.specs.declared.places.Places.{Places}
use Rattle.graph_runs.specs.Answers.{output_at}
use Rattle.graph_runs.specs.Nexts.{registrations_at}
use Rattle.graph_runs.specs.TaskPlaces as turns
use Rattle.graph_runs.specs.TaskPlaces.{StandsUpTo, registration_at, owed_after_wait, owed_after_exchange}
use Rattle.graph_runs.proofs.Standing.{of_input, many}
use Rattle.graph_runs.specs.Turned.{after_signals, after_waits}
use Rattle.graph_runs.specs.Parts.{HasPut, HasGot, AreNextSamples, IsAnsweredBy, BeginsSteps, IsExchange, put_event}
use Rattle.graph_runs.specs.Places.{MayMake}
use Rattle.graph_runs.proofs.PartsLemmas.{with_history, puts_samples, gets_first, gets_exchange}
use Rattle.graph_runs.proofs.FollowsPlace.{sampled_follows, first_wait_follows, exchanged_follows}
use Rattle.graph_runs.proofs.TellsNext.{next_samples_at, next_waits_at, next_exchange_is}
use Rattle.graph_runs.proofs.CallsFollow.{calls_put, calls_got}
use Rattle.graph_runs.specs.Steps.{HasFilter}
use Rattle.graph_runs.specs.declared.owed.Owed.{Owed}
use Rattle.graph_runs.specs.declared.owed.Owed.TheVariants.{Nothing, Exchange}
use Rattle.stream_tasks.specs.Holds.{HoldGoesOn, MemberHasSignalled, MemberHasWaited, signal_event, wait_event}
use Rattle.stream_tasks.specs.Tasks.{IsOn, IsOwnTaskAt, IsWhole, IsTask, OwesNothing, owed_by, place_of_state}
use Rattle.stream_tasks.specs.Children.{MayStep}
use Rattle.stream_tasks.specs.declared.hold.Hold.{Hold}
use Rattle.stream_tasks.specs.declared.hold.Hold.TheVariants.{On}
use Rattle.stream_tasks.specs.declared.task_state.TaskState.{TaskState}
use Rattle.stream_tasks.proofs.Holding.{sees_own, on_after}
use Rattle.stream_tasks.proofs.Turning.{Changes, changed, as_it_is, FitPlaces, StayPlaces, no_maker, owes_values, state_moves, whole_moves, goes, held}
use Rattle.stream_tasks.proofs.Keeping.{owed_none}

-- a source has begun steps, by a signal with its next samples
pub state_samples : (job : Job) (spots : ℕ → Spot) (m : Moment) (s : TaskState) (k p begun : ℕ)
    (vs : List ℤ) (old new : AnyMember) (entered : Bool) (places : Places) → IsWhole job s
    → k < length (registrations_at job s.number) → (registration_at job s.number k).phaser ≡ p
    → output_at job s.number 0 ≡ p → s.over ≡ false → OwesNothing s
    → (task_at job.graph s.number).kind ≡ kind.Source → begun ≡ s.begun + length vs
    → AreNextSamples job m s.number 0 (output_at job s.number 0) vs
    → IsOwnTaskAt job spots m s → IsOn job spots m s.number p old
    → MemberHasSignalled vs (phaser_at job.graph p).single old new
    → (after : Moment)
    × IsOwnTaskAt job spots after
    (record s { begun = begun; entered = entered; places = places; holds = with_item s.holds k (On new) })
state_samples job spots m s k p begun vs old new entered places whole few here out going owes source more next at on made =
    let t = s.number in
    let n = (member_in old).number in
    let before = made.0 in
    let now = put_event job p n vs ∷ before in
    let after = after_signals job t 0 p n vs (further (m.begun t) vs) (with_history p before m) in
    let left : length s.lefts.items ≡ 0 = whole.staying going in
    let owed_is = owed_none s owes in
    let undealt = owes.2 in
    let sees = sees_own job spots m t p (signal_event vs (phaser_at job.graph p).single) old new before on made.1 in
    let put : HasPut job m after t 0 p vs (m.begun t + length vs) now =
    puts_samples job m t p n before whole.graph whole.there at.part 0 vs sees
    (subst (λ q. AreNextSamples job m t 0 q vs) out next) in (
      after,
      state_moves job spots m after s k p now new
          (record (as_it_is s) { begun = begun; entered = entered; places = places })
          whole few (omega arith) here going at put.moved
          (calls_put job m after t p whole.graph whole.there 0 n (m.begun t + length vs) vs before sees put at.own)
          (λ none. subst (λ b. StandsUpTo s.most job after t (record { numbers = s.numbers.items; left = length s.lefts.items; begun = b; owed = owed_by s.owed s.made.items }))
          (sym more)
          (subst (λ o. StandsUpTo s.most job after t (record { numbers = s.numbers.items; left = length s.lefts.items; begun = s.begun + length vs; owed = o }))
          (sym owed_is)
          (sampled_follows job m after t p vs (place_of_state s) now whole.graph whole.there at.part (at.place undealt) left owed_is source put)))
          (λ some. absurd (some undealt))
          (on_after job spots m after t p now old new on made.1.same put.moved made.1.seen)
          (subst (λ taken. HasFilter (task_at job.graph t) s.filter taken) (sym (put.taken 0)) at.filter)
          (λ sink. at.lines sink ∙ sym (put.taken 0)),
    )

-- what a wait was answered, in words of the phaser's line
pub answered_on : (job : Job) (spots : ℕ → Spot) (m : Moment) (t p : ℕ) (outcomes : List Outcome)
    (old new : AnyMember) → IsOn job spots m t p old → (w : MemberHasWaited outcomes old new)
    → IsAnsweredBy job p (member_in old).number outcomes w.before
answered_on job spots m t p outcomes old new on w =
    let n = (member_in old).number in
    subst (λ o. received_by (value_by o) (Waited n (length outcomes) ∷ w.before) n ≡ received_by (value_by o) w.before n ++ outcomes)
    on.op w.answered

-- of a filter and of a sink the first input is the only one
pub first_zero : (task : Task) (i : ℕ) → task.kind ≡ kind.Fir → first_input task i ≡ 0
first_zero task i e = rw e refl

pub sink_zero : (task : Task) (i : ℕ) → task.kind ≡ kind.Sink → first_input task i ≡ 0
sink_zero task i e = rw e refl

-- a task has begun steps, by their first wait
pub state_takes : (job : Job) (spots : ℕ → Spot) (m : Moment) (s : TaskState) (k p : ℕ)
    (os : List Outcome) (old new : AnyMember) (x : Changes) → IsWhole job s
    → k < length (registrations_at job s.number) → (registration_at job s.number k).phaser ≡ p
    → s.over ≡ false → OwesNothing s → k ≡ first_input (task_at job.graph s.number) s.begun
    → x.begun ≡ s.begun + length os
    → All (λ outcome. is_too_big outcome ≡ false) os
    → ((taken : List ℤ) → HasFilter (task_at job.graph s.number) s.filter taken
    → owed_by x.owed x.made.items
    ≡ owed_after_wait (task_at job.graph s.number) s.begun taken (map number os))
    → ((taken : List ℤ) → HasFilter (task_at job.graph s.number) s.filter taken
    → HasFilter (task_at job.graph s.number) x.filter (taken ++ map number os))
    → ((task_at job.graph s.number).kind ≡ kind.Sink
    → x.lines.items ≡ s.lines.items ++ map number os)
    → x.deal.values.items ≡ []
    → BeginsSteps job m s.number k p (length os) → 1 ≤ length os → length os ≤ s.most
    → IsOwnTaskAt job spots m s → IsOn job spots m s.number p old → MemberHasWaited os old new
    → (after : Moment) × IsOwnTaskAt job spots after (changed s x (with_item s.holds k (On new)))
state_takes job spots m s k p os old new x whole few here going owes first more fit then follows keeps undealt next some room at on w =
    let t = s.number in
    let n = (member_in old).number in
    let now = Waited n (length os) ∷ w.before in
    let after = after_waits t k p n os (further (m.begun t) os) (with_history p w.before m) in
    let left : length s.lefts.items ≡ 0 = whole.staying going in
    let owed_is = owed_none s owes in
    let sees = sees_own job spots m t p (wait_event (length os)) old new w.before on w.made in
    let answer = answered_on job spots m t p os old new on w in
    let got : HasGot job m after t k p os (m.begun t + length os) now =
    gets_first job m t p n w.before whole.graph whole.there at.part os sees answer k next in
    let took : k ≡ 0 → after.taken t 0 ≡ m.taken t 0 ++ map number os =
    λ zero_is. (rw (← zero_is) got.taken) in
    let owed_then = then (m.taken t 0) at.filter in (
      after,
      state_moves job spots m after s k p now new x whole few (omega arith) here going at got.moved
          (calls_got job m after t p whole.graph whole.there k n (m.begun t + length os) os w.before sees answer fit got at.own)
          (λ none. subst (λ b. StandsUpTo s.most job after t (record { numbers = s.numbers.items; left = length s.lefts.items; begun = b; owed = owed_by x.owed x.made.items }))
          (sym more)
          (subst (λ o. StandsUpTo s.most job after t (record { numbers = s.numbers.items; left = length s.lefts.items; begun = s.begun + length os; owed = o }))
          (sym owed_then)
          (first_wait_follows job m after t k p s.most os (place_of_state s) now whole.graph whole.there at.part (at.place owes.2) left owed_is next some room got)))
          (λ some_dealt. absurd (some_dealt undealt))
          (on_after job spots m after t p now old new on w.made.same got.moved w.made.seen)
          (λ fir. subst (λ taken. HasFilter (task_at job.graph t) x.filter taken)
          (sym (took (first ∙ first_zero (task_at job.graph t) s.begun fir))) (follows (m.taken t 0) at.filter) fir)
          (λ sink. keeps sink ∙ ap (λ l. l ++ map number os) (at.lines sink)
          ∙ sym (took (first ∙ sink_zero (task_at job.graph t) s.begun sink))),
    )

-- a peer has waited on E
pub state_exchanges : (job : Job) (spots : ℕ → Spot) (m : Moment) (s : TaskState) (p : ℕ)
    (x : ℤ) (outcome : Outcome) (old new : AnyMember) (owed : Owed) (outcomes : Vec Outcome Global)
    → IsWhole job s
    → 1 < length (registrations_at job s.number) → (registration_at job s.number 1).phaser ≡ p
    → input_at (task_at job.graph s.number) 1 ≡ p
    → s.over ≡ false → owed_by s.owed s.made.items ≡ turns.exchange x → s.made.items ≡ []
    → owed_by owed [] ≡ owed_after_exchange (task_at job.graph s.number) (turns.exchange x) (number outcome)
    → is_too_big outcome ≡ false
    → IsOwnTaskAt job spots m s → IsOn job spots m s.number p old → MemberHasWaited (outcome ∷ []) old new
    → (after : Moment)
    × IsOwnTaskAt job spots after
    (record s { owed = owed; outcomes = outcomes; holds = with_item s.holds 1 (On new) })
state_exchanges job spots m s p x outcome old new owed outcomes whole few here input going owes none then fit at on w =
    let t = s.number in
    let n = (member_in old).number in
    let now = Waited n 1 ∷ w.before in
    let after = after_waits t 1 p n (outcome ∷ []) (m.begun t) (with_history p w.before m) in
    let left : length s.lefts.items ≡ 0 = whole.staying going in
    let sees = sees_own job spots m t p (wait_event 1) old new w.before on w.made in
    let answer = answered_on job spots m t p (outcome ∷ []) old new on w in
    let apart = owes_values job s (turns.exchange x) whole owes (λ e. (cc)) in
    let makes = no_maker job s (turns.exchange x) whole none owes (λ e. (cc)) in
    let undealt = whole.dealers apart in
    let stands = at.place undealt in
    let next = subst (λ q. IsExchange job m t q) input
    (next_exchange_is job m t x (place_of_state s) whole.graph whole.there at.part stands left owes) in
    let got : HasGot job m after t 1 p (outcome ∷ []) (m.begun t) now =
    gets_exchange job m t p n w.before whole.graph whole.there at.part outcome sees answer next in
    let stay : after.taken t 0 ≡ m.taken t 0 = got.other_takes 0 (λ clash. omega arith) in
    let owed_then : owed_by owed s.made.items
    ≡ owed_after_exchange (task_at job.graph t) (owed_by s.owed s.made.items) (number outcome) =
    ap (λ l. owed_by owed l) none ∙ then
    ∙ ap (λ o. owed_after_exchange (task_at job.graph t) o (number outcome)) (sym owes) in (
      after,
      state_moves job spots m after s 1 p now new
          (record (as_it_is s) { owed = owed; outcomes = outcomes })
          whole few (omega arith) here going at got.moved
          (calls_got job m after t p whole.graph whole.there 1 n (m.begun t) (outcome ∷ []) w.before sees answer (All-cons (λ o. is_too_big o ≡ false) outcome [] fit (All-nil (λ o. is_too_big o ≡ false))) got at.own)
          (λ no_deal. subst (λ o. StandsUpTo s.most job after t (record { numbers = s.numbers.items; left = length s.lefts.items; begun = s.begun; owed = o }))
          (sym owed_then)
          (exchanged_follows job m after t p s.most x outcome (place_of_state s) now whole.graph whole.there at.part (whole.places.most apart (λ e. makes (rw e tt)) (λ e. makes (rw e tt))) stands left owes got))
          (λ some. absurd (some undealt))
          (on_after job spots m after t p now old new on w.made.same got.moved w.made.seen)
          (subst (λ taken. HasFilter (task_at job.graph t) s.filter taken) (sym stay) at.filter)
          (λ sink. at.lines sink ∙ sym stay),
    )

-- ---- tasks

-- what a peer owes that waits on E
pub owes_exchange : (s : TaskState) (x : ℤ) → s.owed ≡ Exchange x → s.made.items ≡ []
    → owed_by s.owed s.made.items ≡ turns.exchange x
owes_exchange s x owes none =
    ap (λ o. owed_by o s.made.items) owes ∙ ap (λ l. owed_by (Exchange x) l) none

-- a peer that owes its wait on E is registered there
pub exchange_on : (job : Job) (spots : ℕ → Spot) (s : TaskState) (x : ℤ) → s.met ≡ false
    → s.over ≡ false → owed_by s.owed s.made.items ≡ turns.exchange x → IsTask job spots s
    → (1 < length (task_at job.graph s.number).inputs)
    × (1 < length (registrations_at job s.number))
    × ((registration_at job s.number 1).phaser ≡ input_at (task_at job.graph s.number) 1)
exchange_on job spots s x met going owes task =
    let whole = task.whole in
    let t = s.number in
    let at = (task.stands met).1 in
    let next = next_exchange_is job (task.stands met).0 t x (place_of_state s) whole.graph whole.there at.part
    (at.place (whole.dealers (owes_values job s (turns.exchange x) whole owes (λ e. (cc)))))
    (whole.staying going) owes in
    let few : 1 < length (task_at job.graph t).inputs = next.few in
    let all : length (registrations_at job t) ≡ length (task_at job.graph t).inputs + length (task_at job.graph t).outputs =
    many job t whole.graph whole.there in
    (few, omega arith, of_input job t 1 whole.graph whole.there few)

-- a peer that has waited on E
pub task_exchanges : (job : Job) (spots : ℕ → Spot) (s : TaskState) (p : ℕ) (x : ℤ)
    (outcome : Outcome) (old new : Hold) (owed : Owed) (outcomes : Vec Outcome Global)
    → s.over ≡ false → s.owed ≡ Exchange x → s.made.items ≡ [] → s.met ≡ false
    → input_at (task_at job.graph s.number) 1 ≡ p
    → owed_by owed [] ≡ owed_after_exchange (task_at job.graph s.number) (turns.exchange x) (number outcome)
    → is_too_big outcome ≡ false
    → FitPlaces job s (record (as_it_is s) { owed = owed; outcomes = outcomes })
    → old ≡ get_or s.holds.items 1 old → HoldGoesOn (MemberHasWaited (outcome ∷ [])) old new
    → IsTask job spots s
    → IsTask job spots
    (record s { owed = owed; outcomes = outcomes; holds = with_item s.holds 1 new })
task_exchanges job spots s p x outcome old new owed outcomes going owes_x nothing_made met input then fit places looked g task =
    let owes = owes_exchange s x owes_x nothing_made in
    let on = exchange_on job spots s x met going owes task in
    let few = on.1 in
    let here = on.2 ∙ input in
    let none : length s.lefts.items ≡ 0 = task.whole.staying going in
    record {
      whole = whole_moves job s 1 new (record (as_it_is s) { owed = owed; outcomes = outcomes }) places task.whole;
      stands = λ again.
          let m = (task.stands met).0 in
          let at = (task.stands met).1 in
          let both = goes (MemberHasWaited (outcome ∷ [])) job spots m s.number p old new g
          (held job spots m s 1 p old task.whole at few here (omega arith) looked) in
          let next = state_exchanges job spots m s p x outcome both.0 both.1.0 owed outcomes task.whole few here input
          going owes nothing_made then fit at both.1.4 both.1.3 in (
            next.0,
            subst (λ h. IsOwnTaskAt job spots next.0
                (record s { owed = owed; outcomes = outcomes; holds = with_item s.holds 1 h })) (sym both.1.2) next.1,
          );
    }

-- what a peer owes next fits, as it is no filter
pub exchange_fits : (job : Job) (s : TaskState) (x : ℤ) (owed : Owed) (outcomes : Vec Outcome Global)
    → length outcomes.items ≡ length s.outcomes.items → IsWhole job s → s.owed ≡ Exchange x
    → FitPlaces job s (record (as_it_is s) { owed = owed; outcomes = outcomes })
exchange_fits job s x owed outcomes many whole owes = record {
  made = refl;
  few_made = whole.places.few_made;
  outcomes = many;
  sends = λ op. refl;
  makers = λ many.
      absurd (let no : Nothing ≡ Exchange x = sym (whole.makers many) ∙ owes in cc);
  others = whole.others;
  few_dealt = whole.places.few_dealt;
  deal = whole.places.deal;
  splitters = λ split.
      absurd (let no : Nothing ≡ Exchange x = sym (whole.splitters split) ∙ owes in cc);
  dealers = whole.dealers;
}

-- who may make so many steps may make fewer
pub makes_fewer : (job : Job) (t begun more fewer : ℕ) → fewer ≤ more → MayMake job t begun more
    → MayMake job t begun fewer
makes_fewer job t begun more fewer few may = record {
  cut = within (task_at job.graph t).until may.cut;
  children = λ d u there parent by later.
      (let all = may.children d u there parent by later in omega arith);
}
  where
    within : (until : Option ℕ) → AtMost (begun + more) until → AtMost (begun + fewer) until
    within None high = tt
    within (Some limit) high = let most : begun + more ≤ limit = high in omega arith

-- a source that has begun steps
pub task_samples : (job : Job) (spots : ℕ → Spot) (s : TaskState) (k p begun : ℕ) (vs : List ℤ)
    (old new : Hold) (entered : Bool) (places : Places) → StayPlaces s.places places
    → k < length (registrations_at job s.number) → (registration_at job s.number k).phaser ≡ p
    → output_at job s.number 0 ≡ p → (step : MayStep job s)
    → (task_at job.graph s.number).kind ≡ kind.Source → begun ≡ s.begun + length vs
    → vs ≡ take (length vs) (drop s.begun (samples_at job s.number))
    → MayMake job s.number s.begun (length vs)
    → old ≡ get_or s.holds.items k old
    → HoldGoesOn (MemberHasSignalled vs (phaser_at job.graph p).single) old new → IsTask job spots s
    → IsTask job spots
    (record s { begun = begun; entered = entered; places = places; holds = with_item s.holds k new })
task_samples job spots s k p begun vs old new entered places sends few here out step source more samples may looked g task =
    let none : length s.lefts.items ≡ 0 = task.whole.staying step.over in
    record {
      whole = whole_moves job s k new
          (record (as_it_is s) { begun = begun; entered = entered; places = places })
          (record {
            made = refl;
            few_made = task.whole.places.few_made;
            outcomes = refl;
            sends = sends;
            makers = λ many. refl;
            others = task.whole.others;
            few_dealt = task.whole.places.few_dealt;
            deal = task.whole.places.deal;
            splitters = λ split. refl;
            dealers = task.whole.dealers;
          })
          task.whole;
      stands = λ again.
          let m = (task.stands step.met).0 in
          let at = (task.stands step.met).1 in
          let both = goes (MemberHasSignalled vs (phaser_at job.graph p).single) job spots m s.number p old new g
          (held job spots m s k p old task.whole at few here (omega arith) looked) in
          let next_is = next_samples_at job m s.number vs (place_of_state s) task.whole.graph task.whole.there at.part (at.place step.owed.2) none
          (owed_none s step.owed) source samples may (step.children spots m at) in
          let next = state_samples job spots m s k p begun vs both.0 both.1.0 entered places task.whole few here out
          step.over step.owed source more next_is at both.1.4 both.1.3 in (
            next.0,
            subst (λ h. IsOwnTaskAt job spots next.0
                (record s { begun = begun; entered = entered; places = places; holds = with_item s.holds k h })) (sym both.1.2) next.1,
          );
    }

-- a task that has begun steps by their first wait
pub task_takes : (job : Job) (spots : ℕ → Spot) (s : TaskState) (k p allowed : ℕ) (os : List Outcome)
    (old new : Hold) (x : Changes)
    → k < length (registrations_at job s.number) → (registration_at job s.number k).phaser ≡ p
    → input_at (task_at job.graph s.number) k ≡ p → (step : MayStep job s)
    → ((task_at job.graph s.number).kind ≡ kind.Source → ⊥)
    → (task_at job.graph s.number).kind ≢ kind.Split
    → (task_at job.graph s.number).kind ≢ kind.Decimate
    → (task_at job.graph s.number).kind ≢ kind.Join
    → k ≡ first_input (task_at job.graph s.number) s.begun → x.begun ≡ s.begun + length os
    → MayMake job s.number s.begun allowed → 1 ≤ length os → length os ≤ allowed
    → length os ≤ s.most
    → All (λ outcome. is_too_big outcome ≡ false) os
    → ((taken : List ℤ) → HasFilter (task_at job.graph s.number) s.filter taken
    → owed_by x.owed x.made.items
    ≡ owed_after_wait (task_at job.graph s.number) s.begun taken (map number os))
    → ((taken : List ℤ) → HasFilter (task_at job.graph s.number) s.filter taken
    → HasFilter (task_at job.graph s.number) x.filter (taken ++ map number os))
    → ((task_at job.graph s.number).kind ≡ kind.Sink
    → x.lines.items ≡ s.lines.items ++ map number os)
    → FitPlaces job s x
    → old ≡ get_or s.holds.items k old → HoldGoesOn (MemberHasWaited os) old new → IsTask job spots s
    → IsTask job spots (changed s x (with_item s.holds k new))
task_takes job spots s k p allowed os old new x few here input step never apart no_keeper single first more may some less room fit then follows keeps places looked g task =
    let none : length s.lefts.items ≡ 0 = task.whole.staying step.over in
    record {
      whole = whole_moves job s k new x places task.whole;
      stands = λ again.
          let m = (task.stands step.met).0 in
          let at = (task.stands step.met).1 in
          let both = goes (MemberHasWaited os) job spots m s.number p old new g
          (held job spots m s k p old task.whole at few here (omega arith) looked) in
          let next_is = subst (λ q. BeginsSteps job m s.number k q (length os)) input
          (rw first
          (next_waits_at job m s.number s.most allowed (length os) (place_of_state s) task.whole.graph task.whole.there at.part
          (task.whole.places.most apart no_keeper single) (at.place step.owed.2) none (owed_none s step.owed) never may (step.children spots m at) some less room)) in
          let next = state_takes job spots m s k p os both.0 both.1.0 x task.whole
          few here step.over step.owed first more fit then follows keeps (places.dealers apart) next_is some room at both.1.4 both.1.3 in (
            next.0,
            subst (λ h. IsOwnTaskAt job spots next.0 (changed s x (with_item s.holds k h))) (sym both.1.2) next.1,
          );
    }

-- the registration of an input
pub input_on : (job : Job) (s : TaskState) (k p : ℕ) → IsWhole job s
    → k < length (task_at job.graph s.number).inputs → p ≡ input_at (task_at job.graph s.number) k
    → (k < length (registrations_at job s.number))
    × ((registration_at job s.number k).phaser ≡ p)
input_on job s k p whole few is =
    let all : length (registrations_at job s.number) ≡ length (task_at job.graph s.number).inputs + length (task_at job.graph s.number).outputs =
    many job s.number whole.graph whole.there in
    (omega arith, of_input job s.number k whole.graph whole.there few ∙ sym is)
