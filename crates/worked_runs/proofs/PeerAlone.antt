-- What the peer of the worked run sees: legal histories, and events of others before its own.
use Rattle.std.proofs.Common.{◌≡◌, ℕ, zero, suc, ◌<◌, ◌≤◌, leb-true, Some, [], ◌∷◌, ◌++◌, None, get_or, pos, refl, sym, ap, subst, ◌∙◌, arith}
use Rattle.phase_base.specs.Limits.{AreLimits}
use Rattle.phase_base.specs.declared.mode.Mode.TheVariants.{Sig}
use Rattle.phase_history.specs.declared.event.Event.TheVariants.{Made, Registered, Signalled, Waited, Dropped}
use Rattle.phase_history.specs.Histories.{History}
use Rattle.phase_history.specs.Legal.{IsLegal}
use Rattle.phase_history.specs.Others.{OthersCame, events_of}
use Rattle.graph_base.specs.Graphs.{task_at}
use Rattle.graph_base.specs.declared.line.Parent.{Parent}
use Rattle.graph_runs.specs.Moments.{Moment, limits_at}
use Rattle.graph_runs.specs.TaskPlaces.{registration_at}
use Rattle.graph_runs.proofs.Signalling.{sendable}
use Rattle.graph_runs.specs.Parts.{SeesOwn, put_event}
use Rattle.graph_runs.specs.Places.{HasChildrenBy, IsFirstMoment, IsRootOn, MayMake, IsMost}
use Rattle.graph_runs.proofs.AtOpening.{are_limits}
use Rattle.worked_runs.specs.Worked.{worked}
use Rattle.worked_runs.specs.WorkedParts.{PeerKnows, peer_seen, x_before, e_before, e_signalled, peer_begins, peer_owes_e, peer_exchanges}
use Rattle.worked_runs.proofs.Histories.{only_one}
use Rattle.worked_runs.proofs.WorkedRun.{worked-is}

-- ---- legal histories

fits : AreLimits (limits_at worked 0)
fits = are_limits worked 0 worked-is (omega arith)

legal_x : IsLegal (limits_at worked 0) (peer_seen 0)
legal_x = (((fits, refl), refl), refl)

legal_e : IsLegal (limits_at worked 1) (peer_seen 1)
legal_e = ((fits, refl), refl)

legal_y : IsLegal (limits_at worked 2) (peer_seen 2)
legal_y = ((fits, refl), refl)

legal_wait_x : IsLegal (limits_at worked 0) (Waited 2 1 ∷ x_before)
legal_wait_x = (
  ((legal_x, refl), (refl, ((sendable (pos 5) refl, tt), leb-true 1 65536 refl, tt), tt)),
  (refl, leb-true 1 1 refl),
)

legal_signal_e : IsLegal (limits_at worked 1) e_signalled
legal_signal_e =
    ((legal_e, refl), (refl, ((sendable (pos 5) refl, tt), leb-true 1 65536 refl, tt), tt))

legal_wait_e : IsLegal (limits_at worked 1) (Waited 1 1 ∷ e_signalled)
legal_wait_e = (legal_signal_e, (refl, leb-true 1 1 refl))

-- ---- its beginning

pub roots : (i : ℕ) → i < 3
    → IsRootOn worked (registration_at worked 1 i) (get_or (2 ∷ 1 ∷ 1 ∷ []) i 0) (peer_seen i)
roots zero lt = record {
  before = Registered 0 1 Sig ∷ Made 0 ∷ [];
  is = refl;
  legal = legal_x;
  made = record { later = Registered 0 1 Sig ∷ []; is = refl };
  founder = tt;
}
roots (suc zero) lt = record {
  before = Made 0 ∷ [];
  is = refl;
  legal = legal_e;
  made = record { later = []; is = refl };
  founder = tt;
}
roots (suc (suc zero)) lt = record {
  before = Made 0 ∷ [];
  is = refl;
  legal = legal_y;
  made = record { later = []; is = refl };
  founder = tt;
}
roots (suc (suc (suc i))) lt = absurd (omega arith)

pub knows_first : (m : Moment) → IsFirstMoment worked m 1 (2 ∷ 1 ∷ 1 ∷ []) peer_seen
    → PeerKnows m peer_begins (peer_seen 0) (peer_seen 1)
knows_first m first = record {
  part = first.part;
  place = first.place 1;
  x = first.history 0 (leb-true 1 3 refl);
  e = first.history 1 (leb-true 2 3 refl);
  number_x = (first.place 1).numbered 0 (leb-true 1 3 refl);
  number_e = (first.place 1).numbered 1 (leb-true 2 3 refl);
}

-- ---- its calls

-- it has no children
pub childless : (m : Moment) → HasChildrenBy worked m 1 0
childless m zero lt e = absurd (cc)
childless m (suc zero) lt e = absurd (cc)
childless m (suc (suc zero)) lt e = absurd (cc)
childless m (suc (suc (suc zero))) lt e = absurd (cc)
childless m (suc (suc (suc (suc zero)))) lt e = absurd (cc)
childless m (suc (suc (suc (suc (suc zero))))) lt e = absurd (cc)
childless m (suc (suc (suc (suc (suc (suc c)))))) lt e = absurd (omega arith)

-- and makes its steps one by one
pub one_by_one : IsMost worked 1 1
one_by_one = record { some = leb-true 1 1 refl; block = refl }

pub may_make : MayMake worked 1 0 1
may_make = record { cut = tt; children = none }
  where
    none : (c : ℕ) (u : Parent) → c < 6 → (task_at worked.graph c).parent ≡ Some u → u.task ≡ 1
        → 0 < u.at → 1 ≤ u.at
    none c u lt is of lt′ = lt′

-- none of the later events is number n's
came : (n : ℕ) (later old before seen : History) → old ≡ seen → before ≡ later ++ seen
    → events_of n later ≡ [] → OthersCame (n ∷ []) old before
came n later old before seen is all none = record {
  later = later;
  is = all ∙ ap (λ h. later ++ h) (sym is);
  others = λ task among.
      (let E : ℕ → Type 0 = λ x. events_of x later ≡ [] in subst E (only_one n task among) none);
}

pub sees_x : (m : Moment) → PeerKnows m peer_begins (peer_seen 0) (peer_seen 1)
    → SeesOwn worked m 1 0 2 (Waited 2 1) x_before
sees_x m k = record {
  numbered = k.number_x;
  others = came 2 (Signalled 1 ((pos 5 ∷ []) ∷ []) None ∷ Dropped 0 ∷ []) (m.history 0) x_before
      (peer_seen 0) k.x refl refl;
  legal = legal_wait_x;
}

pub sees_e : (m : Moment) → PeerKnows m peer_owes_e (Waited 2 1 ∷ x_before) (peer_seen 1)
    → SeesOwn worked m 1 1 1 (put_event worked 1 1 (pos 5 ∷ [])) e_before
sees_e m k = record {
  numbered = k.number_e;
  others = came 1 (Dropped 0 ∷ []) (m.history 1) e_before (peer_seen 1) k.e refl refl;
  legal = legal_signal_e;
}

pub sees_own_e : (m : Moment) → PeerKnows m peer_exchanges (Waited 2 1 ∷ x_before) e_signalled
    → SeesOwn worked m 1 1 1 (Waited 1 1) e_signalled
sees_own_e m k = record {
  numbered = k.number_e;
  others = came 1 [] (m.history 1) e_signalled e_signalled k.e refl refl;
  legal = legal_wait_e;
}
