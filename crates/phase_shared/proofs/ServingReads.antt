-- What a turn of a seat that asked reads of others' asks.
use Rattle.std.proofs.Common.{◌≡◌, ◌≢◌, ℕ, ◌+◌, ◌≤◌, Bool, true, false, List, [], ◌∷◌, ◌++◌, ◌⊎◌, refl, sym, subst, ◌∙◌, inl, inr, ⊎_elim, arith}
use Rattle.phase_shared.specs.Phasers.{Limits, Operation, History, done_of, IsLegal, events_of, CoreState}
use Rattle.phase_shared.specs.declared.seats.view.View.{View}
use Rattle.phase_shared.specs.Asks.{Ask, IsAtPhases, IsOwn, SignalsFor, WaitsFor, Batch, IsOneOf, asks_for}
use Rattle.phase_shared.specs.Desks.{IsPast}
use Rattle.phase_shared.specs.Goods.{Allows}
use Rattle.phase_shared.specs.Servings.{Serving}
use Rattle.phase_shared.specs.Tells.{IsClaim}
use Rattle.phase_shared.specs.Views.{knowledge}
use Rattle.phase_shared.specs.WordTells.{LaneReadAt, OwnerReadAt}
use Rattle.phase_shared.proofs.Small.{apart_phases}
use Rattle.phase_shared.proofs.Stages.{wait_is}
use Rattle.phase_shared.proofs.Steadies.{found, none_of, stands_still}

-- ---- lists of asks

pub in_more : (new claims : List Ask) (a : Ask) → IsOneOf claims a → IsOneOf (new ++ claims) a
in_more [] claims a one = one
in_more (b ∷ new) claims a one = inr (in_more new claims a one)

pub in_either : (new claims : List Ask) (a : Ask) → IsOneOf (new ++ claims) a → IsOneOf new a ⊎ IsOneOf claims a
in_either [] claims a one = inr one
in_either (b ∷ new) claims a (inl same) = inl (inl same)
in_either (b ∷ new) claims a (inr rest) =
    elim (in_either new claims a rest) [ inl here ↦ inl (inr here) | inr there ↦ inr there ]

-- who has read more asks may do what it could
pub batch_more : (C D : Ask → Type 0) → ((a : Ask) → C a → D a) → (speaks : List ℕ) (later log : History)
    → Batch C speaks later log → Batch D speaks later log
batch_more C D more speaks [] log batch = tt
batch_more C D more speaks (e ∷ later) log batch = (
  batch_more C D more speaks later log batch.0,
  ⊎_elim
      (λ (own : IsOwn speaks e). inl own)
      (λ (c : SignalsFor C (later ++ log) e ⊎ WaitsFor C (later ++ log) e). inr (elim c [
        | inl s ↦ inl record { ask = s.ask; claimed = more s.ask s.claimed; is = s.is; at = s.at }
        | inr w ↦ inr record { ask = w.ask; claimed = more w.ask w.claimed; is = w.is; signalled = w.signalled; at = w.at }
      ]))
      batch.1,
)

-- ---- a lane is read

module _ {A : Type 0} (op : Operation A) (limits : Limits) (allows : Allows) (ask : Ask) (seen : History) where
  -- it has read what was asked in a lane
  pub record HasRead (serves : Bool) (k lane r : ℕ) (w : View) (x : CoreState A) : Type 0 where
    pub serving : Serving op limits allows ask seen serves k w x
    pub read : (a : Ask) → IsOneOf serving.turned.did.claims a → a.lane ≡ lane → r ≡ a.phase + 1
    pub found : ((r ≡ 0) ⊎ IsPast serving.turned.did.now r)
        ⊎ ((a : Ask) × (a.lane ≡ lane) × IsClaim limits allows (knowledge serving.turned.did.now (ask.task ∷ [])) serving.turned.did.claims a)

  -- an ask that was not read before has no events in the turn
  quiet_claim : (now later : History) (claims new : List Ask) → (now ≡ [] → ⊥) → Batch (IsOneOf claims) (ask.task ∷ []) later now
      → IsLegal limits (later ++ now) → (a : Ask)
      → IsClaim limits allows (knowledge now (ask.task ∷ [])) (new ++ claims) a
      → ((b : Ask) → IsOneOf claims b → IsAtPhases (later ++ now) b.task (b.phase + 1) (b.phase + 1) → ⊥)
      → IsAtPhases (later ++ now) a.task (a.phase + 1) (a.phase + 1) → ⊥
  quiet_claim now later claims new some batch legal a c quiet st = elim (asks_for claims a.task) as (λ b. (asks_for claims a.task ≡ b) → ⊥) [
    | true ↦ λ t.
        let f = found claims a.task t in
        let same : f.0 ≡ a = c.only f.0 (in_more new claims f.0 f.1) f.2 in
        quiet f.0 f.1 (subst (λ (x : Ask). IsAtPhases (later ++ now) x.task (x.phase + 1) (x.phase + 1)) (sym same) st)
    | false ↦ λ n.
        let none : events_of a.task later ≡ [] = none_of limits claims (ask.task ∷ []) now some a.task c.theirs n later batch in
        let waits : (s : ℕ) → IsAtPhases now a.task s a.phase → ⊥ = λ s here.
        apart_phases a.phase (sym (wait_is (later ++ now) a.task (a.phase + 1) (a.phase + 1) st)
        ∙ wait_is (later ++ now) a.task s a.phase (stands_still limits claims (ask.task ∷ []) now some a.task s a.phase later legal none here)) in
        elim c.stands [ inl u ↦ waits a.phase u.0 | inr m ↦ waits (a.phase + 1) m ]
  ] refl

  pub reads_more : (serves : Bool) (k lane r : ℕ) (v w : View) (x : CoreState A) → Serving op limits allows ask seen serves k v x
      → LaneReadAt limits allows lane v r w → k ≤ lane → lane ≢ ask.lane → HasRead serves k lane r w x
  reads_more serves k lane r v w x s read low else' =
      let t = s.turned in
      let l = read (knowledge t.did.now (ask.task ∷ [])) t.did.claims t.did.said t.did.lane t.is in
      record {
        serving = record {
          turned = record {
            did = record t.did {
              claims = l.new ++ t.did.claims;
              batch = batch_more (IsOneOf t.did.claims) (IsOneOf (l.new ++ t.did.claims)) (in_more l.new t.did.claims) (ask.task ∷ []) t.did.later t.did.now t.did.batch;
              theirs = λ a one. elim (in_either l.new t.did.claims a one) [ inl here ↦ (l.fresh a here).1.theirs | inr there ↦ t.did.theirs a there ];
              apart = λ a one. elim (in_either l.new t.did.claims a one) [
                | inl here ↦ λ same. else' (sym (l.fresh a here).0 ∙ same)
                | inr there ↦ t.did.apart a there
              ];
            };
            is = l.is;
            good = t.good;
            stands = t.stands;
            quiet = λ not a one st. elim (in_either l.new t.did.claims a one) [
              | inl here ↦ quiet_claim t.did.now t.did.later t.did.claims l.new t.did.some t.did.batch t.good.legal a (l.fresh a here).1 (t.quiet not) st
              | inr there ↦ t.quiet not a there st
            ];
            complete = t.complete;
            served = λ a one below same. elim (in_either l.new t.did.claims a one) [
              | inl here ↦ absurd (let is : a.lane ≡ lane = (l.fresh a here).0 in omega arith)
              | inr there ↦ t.served a there below same
            ];
          };
          owes = s.owes;
        };
        read = l.read;
        found = l.found;
      }

  -- the ask that stands in the lane, where its phase was open
  pub asked_there : (serves : Bool) (k lane r : ℕ) (w : View) (x : CoreState A) (h : HasRead serves k lane r w x)
      → r ≡ ask.phase + 1 → done_of h.serving.turned.did.now ≤ ask.phase
      → (a : Ask) × (a.lane ≡ lane) × (a.phase ≡ ask.phase)
      × IsClaim limits allows (knowledge h.serving.turned.did.now (ask.task ∷ [])) h.serving.turned.did.claims a
  asked_there serves k lane r w x h is open' = elim h.found [
    | inl (inl zero') ↦ absurd (omega arith)
    | inl (inr past) ↦ absurd (apart_past past)
    | inr a ↦ let read : r ≡ a.0.phase + 1 = h.read a.0 a.2.one a.1 in
        (a.0, a.1, (omega arith), a.2)
  ]
    where
      apart_past : IsPast h.serving.turned.did.now r → ⊥
      apart_past past = let low : r ≤ done_of h.serving.turned.did.now = past in omega arith

  -- whose it is
  pub owner_is : (serves : Bool) (k lane owner : ℕ) (v w : View) (x : CoreState A) (s : Serving op limits allows ask seen serves k v x)
      → OwnerReadAt lane v owner w → (w ≡ v) × ((a : Ask) → IsOneOf s.turned.did.claims a → a.lane ≡ lane → owner ≡ a.task + 1)
  owner_is serves k lane owner v w x s read =
      read (knowledge s.turned.did.now (ask.task ∷ [])) s.turned.did.claims s.turned.did.said s.turned.did.lane s.turned.is
