-- A new core, and what the readers tell.
use Rattle.std.proofs.Common.{◌≡◌, ℕ, [], ◌∷◌, Some, unwrap_or, refl, sym, ◌∙◌, ap, arith, inl, inr}
use Rattle.phase_base.specs.Limits.{AreLimits}
use Rattle.phase_base.specs.Members.{member, signal_phases, least}
use Rattle.phase_accum.specs.Operations.{Operation}
use Rattle.phase_history.specs.declared.event.Event.TheVariants.{Made}
use Rattle.phase_history.specs.Histories.{History, founder, members_of, done_of}
use Rattle.phase_registry.specs.Rosters.{Roster, roster}
use Rattle.phase_ring.specs.declared.board.Board.{Board}
use Rattle.phase_ring.specs.declared.role.Role.{Role}
use Rattle.phase_ring.specs.declared.role.Role.TheVariants.{Signaller, Waiter}
use Rattle.phase_ring.specs.Rings.{standing}
use Rattle.phase_ring.specs.Standings.{one_if_same}
use Rattle.phase_ring.specs.Boards.{IsRingAt}
use Rattle.phase_core.specs.Cores.{StandsFor, IsBoarded, IsCore, core_of}
use Rattle.phase_core.proofs.LeastCounts.{one-same}
use Rattle.phase_core.proofs.Boarded.{IsKept, done_is}

-- ---- a new core

-- a registry and a board with one task at phase 0
pub record IsNew {A : Type 0} (op : Operation A) (reg : Roster) (b : Board A) (first : ℕ) : Type 0 where
  pub stands : StandsFor op (core_of reg b) (Made first ∷ [])
  pub holds : IsCore op reg b

pub made_core : {A : Type 0} (op : Operation A) (reg : Roster) (b : Board A) (first : ℕ)
    → reg ≡ roster (member first founder ∷ []) (Some first) → AreLimits b.limits → IsRingAt op b.ring b.limits.bound b.done b.top
    → b.done ≡ 0 → b.top ≡ 0 → b.ring.base ≡ 0 → ((role : Role) (p : ℕ) → standing b.ring role p ≡ one_if_same 0 p)
    → IsNew op reg b first
made_core {A} op reg b first reg_is are kept done top base standing_is =
    let want = roster (member first founder ∷ []) (Some first) in
    let there : StandsFor op (core_of want b) (Made first ∷ []) = record {
      legal = (are, refl);
      members_are = refl;
      greatest_is = refl;
      top_is = top;
      phases_are = λ slowest p waiter behind below. absurd (omega arith);
    } in
    let boarded : IsBoarded op want.members b.ring b.limits.bound b.done b.top = record {
      kept = kept;
      done_at = inl (omega arith);
      base_at = (let w = standing_is Waiter b.ring.base in let z : one_if_same 0 b.ring.base ≡ one_if_same 0 0 = ap (one_if_same 0) base in let one = one-same 0 in omega arith);
      signallers_are = λ p. (let s = standing_is Signaller p in omega arith);
      waiters_are = λ p. (let s = standing_is Waiter p in omega arith);
    } in
    rw reg_is (record {
      stands = there;
      holds = record { history = Made first ∷ []; stands = there; boarded = inr boarded; used = refl };
    })

-- ---- readers

-- done is the least signal phase, or the top
pub done_of_core : {A : Type 0} (op : Operation A) (reg : Roster) (b : Board A) (h : History) → StandsFor op (core_of reg b) h
    → unwrap_or (least (signal_phases reg.members)) b.top ≡ done_of h
done_of_core op reg b h stands =
    ap (λ ms. unwrap_or (least (signal_phases ms)) b.top) stands.members_are
    ∙ ap (λ t. unwrap_or (least (signal_phases (members_of h))) t) stands.top_is

pub done_of_kept : {A : Type 0} (op : Operation A) (reg : Roster) (b : Board A) (h : History) → StandsFor op (core_of reg b) h
    → IsKept op reg.members b.ring b.limits.bound b.done b.top → b.done ≡ done_of h
done_of_kept op reg b h stands kept = sym kept.done_at ∙ done_of_core op reg b h stands

pub done_of_boarded : {A : Type 0} (op : Operation A) (reg : Roster) (b : Board A) (h : History) → StandsFor op (core_of reg b) h
    → IsBoarded op reg.members b.ring b.limits.bound b.done b.top → b.done ≡ done_of h
done_of_boarded op reg b h stands boarded =
    sym (done_is op reg.members b.ring b.limits.bound b.done b.top boarded) ∙ done_of_core op reg b h stands
