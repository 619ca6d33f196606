-- What a task keeps from one state to the next.
use Rattle.std.proofs.Common.{◌≡◌, ◌≢◌, ◌≤◌, ℤ, length, sym, ap, subst, ◌∙◌, arith}
use Rattle.std.specs.Global.{Global}
use Rattle.std.specs.Prelude.{Vec}
use Rattle.graph_base.specs.Graphs.{task_at}
use Rattle.graph_base.specs.declared.line.Kind.TheVariants.{Decimate, Join, Split}
use Rattle.graph_runs.specs.Places.{IsMost}
use Rattle.graph_runs.specs.TaskPlaces as turns
use Rattle.graph_runs.specs.declared.owed.Owed.TheVariants.{Nothing}
use Rattle.stream_lists.specs.Jobs.{Job}
use Rattle.stream_tasks.specs.Deals.{HasDealRoom, ServesOutputs}
use Rattle.stream_tasks.specs.Tasks.{HasStepPlaces, OwesNothing, SignalsBlocks, owed_by, sends_room}
use Rattle.stream_tasks.specs.declared.task_state.TaskState.{TaskState}

-- a task that owes nothing does so by the definitions
pub owed_none : (s : TaskState) → OwesNothing s → owed_by s.owed s.made.items ≡ turns.nothing
owed_none s owes =
    ap (λ o. owed_by o s.made.items) owes.0 ∙ ap (λ made. owed_by Nothing made) owes.1

-- the places of a task stay where another state has as many of them
pub places_stay : (job : Job) (s after : TaskState) → after.number ≡ s.number → after.most ≡ s.most
    → after.own ≡ s.own → after.made ≡ s.made → after.places ≡ s.places → after.deal ≡ s.deal
    → length after.outcomes.items ≡ length s.outcomes.items
    → HasStepPlaces job s → HasStepPlaces job after
places_stay job s after number most own same_made same_places same_deal many places =
    let few = places.own_few in
    let block = places.block in
    let made = places.made in
    let some = places.own in
    let few_made = places.few_made in
    let outcomes = places.outcomes in
    let room : after.made.cap ≡ s.made.cap = ap (λ (v : Vec ℤ Global). v.cap) same_made in
    let long : length after.made.items ≡ length s.made.items =
    ap (λ (v : Vec ℤ Global). length v.items) same_made in
    let same : (task_at job.graph after.number).block ≡ (task_at job.graph s.number).block =
    ap (λ t. (task_at job.graph t).block) number in
    record {
      most = able;
      own = omega arith;
      own_few = omega arith;
      block = omega arith;
      made = omega arith;
      few_made = omega arith;
      outcomes = omega arith;
      sends = sends;
      few_dealt = few_dealt;
      deal = deal;
      served = served;
    }
  where
    sends : SignalsBlocks job after.number → after.most ≤ sends_room job after.number after.places
    sends =
        rw number
        (λ signals. subst (λ p. after.most ≤ sends_room job s.number p) (sym same_places)
        (subst (λ n. n ≤ sends_room job s.number s.places) (sym most) (places.sends signals)))

    able : (task_at job.graph after.number).kind ≢ Split
        → (task_at job.graph after.number).kind ≢ Decimate
        → (task_at job.graph after.number).kind ≢ Join → IsMost job after.number after.most
    able =
        rw most (rw number places.most)

    few_dealt : length after.deal.values.items ≤ after.most
    few_dealt = rw same_deal (rw most places.few_dealt)

    deal : (task_at job.graph after.number).kind ≡ Split → HasDealRoom after.most after.deal
    deal = rw same_deal (rw most (rw number places.deal))

    served : (task_at job.graph after.number).kind ≡ Split → 2 ≤ after.most
        → ServesOutputs job after.number after.most after.places
    served = rw same_places (rw most (rw number places.served))
