-- What is known of a block of signals that meets no refusal, and what it leaves.
use Rattle.std.proofs.Common.{◌≡◌, ℕ, ℤ, ◌+◌, ◌≤◌, List, ◌∷◌, [], Option, Some, None, Ok, max, length, refl, sym, ◌∙◌, ap, arith, inl, inr}
use Rattle.phase_base.specs.declared.entry.Entry.{Entry}
use Rattle.phase_base.specs.declared.limits.TheConstants.{MEMBERS_MAX, PHASES_MAX}
use Rattle.phase_base.specs.Members.{entry_of, wait_phases, least, changed_at, signalled}
use Rattle.phase_base.specs.Lists.{first_row}
use Rattle.phase_registry.specs.Rosters.{Roster, roster}
use Rattle.phase_accum.specs.declared.single.Single.{Single}
use Rattle.phase_accum.specs.Singles.{CanBeNamed}
use Rattle.phase_accum.specs.Operations.{Operation, AccumulateLaws}
use Rattle.phase_accum.specs.Parcels.{Parcel}
use Rattle.phase_history.specs.declared.event.Event.TheVariants.{Signalled}
use Rattle.phase_history.specs.Histories.{History, signal_phase}
use Rattle.phase_history.specs.Refusals.{signal_rows_before, signal_refusal}
use Rattle.phase_history.specs.Replies.{signal_reply, refused_or}
use Rattle.phase_ring.specs.declared.board.Board.{Board}
use Rattle.phase_ring.specs.Boards.{IsBoard}
use Rattle.phase_ring.specs.Blocks.{block_joined}
use Rattle.phase_ring.specs.Calls.{MaySignal, HasSignalled, IsSettled}
use Rattle.phase_ring.specs.Rings.{sents}
use Rattle.phase_core.specs.Cores.{StandsFor, IsCore, core_of}
use Rattle.phase_core.specs.Blocks.{StandForLists, block_rows}
use Rattle.phase_core.proofs.Boarded.{length-none}
use Rattle.phase_core.proofs.Replies.{phases_most, signal_phase_is}
use Rattle.phase_core.proofs.SignalRows.{block_far}
use Rattle.phase_core.proofs.SignalCore.{used_after, signal_stands, block_boarded, block_alone_on, waits_none_block}
use Rattle.phase_core.proofs.SignalReply.{BlockPassed, BlockTaken, block_passed, block_refusal_is, block_taken}

-- a core's member, whose block the rows before its phases do not refuse
pub record Met {A : Type 0} (op : Operation A) (reg : Roster) (b : Board A) (task : ℕ) (e : Entry)
    (held : List (Parcel A)) (single : Option Single) (slowest : Option ℕ) : Type 0 where
  pub core : IsCore op reg b
  pub found : entry_of reg.members task ≡ Some e
  pub few : length reg.members ≤ MEMBERS_MAX
  pub slow : slowest ≡ least (wait_phases reg.members)
  pub first : None ≡ first_row (signal_rows_before b.limits (length held) single e [])

module _ {A : Type 0} {op : Operation A} {reg : Roster} {b : Board A} {task : ℕ} {e : Entry} {held : List (Parcel A)} {single : Option Single} {slowest : Option ℕ}
    (m : Met op reg b task e held single slowest)
  where
    pub passed : BlockPassed b.limits (length held) e
    passed = block_passed b.limits (length held) single e m.first

    pub refusal : (h : History) (sends : List (List ℤ)) → StandsFor op (core_of reg b) h → StandForLists op held sends
        → signal_refusal b.limits h task sends single ≡ first_row (block_rows b.limits slowest b.ring held single e)
    refusal h sends stands holds =
        block_refusal_is op reg b h task e held sends single (length held) slowest m.core.boarded m.slow stands m.found m.few holds refl m.first

    -- the rows of its phases do not refuse it either
    module _ (row : first_row (block_rows b.limits slowest b.ring held single e) ≡ None) where
      pub within : e.signal_phase + length held ≤ PHASES_MAX
      within =
          let some = passed.some in
          let far = block_far b.limits slowest b.ring held single e some row in
          omega (arith, phases_most m.core.stands)

      pub admitted : (h : History) (sends : List (List ℤ)) → StandsFor op (core_of reg b) h → StandForLists op held sends
          → signal_refusal b.limits h task sends single ≡ None
      admitted h sends stands holds = refusal h sends stands holds ∙ row

      pub replied : (h : History) (sends : List (List ℤ)) → StandsFor op (core_of reg b) h → StandForLists op held sends
          → signal_reply b.limits h task sends single ≡ Ok e.signal_phase
      replied h sends stands holds =
          ap (λ o. refused_or o (signal_phase h task)) (admitted h sends stands holds)
          ∙ ap (λ q. Ok q) (signal_phase_is op (core_of reg b) h task e stands m.found)

      -- where no waiter is registered
      module _ (new_reg : Roster) (new : Board A) (n : ℕ) (count : n ≡ length (wait_phases reg.members)) (none : n ≡ 0) (can : CanBeNamed single)
          (reg_is : new_reg ≡ roster (changed_at task (signalled (length held)) reg.members) reg.greatest)
          (limits_is : new.limits ≡ b.limits) (ring_is : new.ring ≡ b.ring) (top_is : new.top ≡ max b.top (e.signal_phase + length held))
        where
          alone : wait_phases reg.members ≡ []
          alone = length-none (wait_phases reg.members) (sym count ∙ none)

          pub stands_alone : (h : History) (sends : List (List ℤ)) → StandsFor op (core_of reg b) h → StandForLists op held sends
              → StandsFor op (core_of new_reg new) (Signalled task sends single ∷ h)
          stands_alone h sends stands holds =
              block_alone_on op reg new_reg b new h task e held sends single stands alone m.found (admitted h sends stands holds) holds can reg_is limits_is ring_is top_is

          pub core_alone : (sends : List (List ℤ)) → StandForLists op held sends → IsCore op new_reg new
          core_alone sends holds = record {
            history = Signalled task sends single ∷ m.core.history;
            stands = stands_alone m.core.history sends m.core.stands holds;
            boarded = inl (waits_none_block reg new_reg task (length held) alone reg_is);
            used = used_after reg new_reg (changed_at task (signalled (length held)) reg.members) m.core.used reg_is;
          }

      -- while a waiter is registered
      module _ (n : ℕ) (count : n ≡ length (wait_phases reg.members)) (some : n ≡ 0 → ⊥) where
        pub taken : BlockTaken op reg b e held single
        taken = block_taken op reg b task e held single n slowest m.core.boarded count some m.slow m.found m.few passed.signals passed.some row

        pub may_signal : MaySignal e.signal_phase (e.signal_phase + length held) b
        may_signal =
            let far = within in
            let near = taken.near in
            let more = passed.some in
            record {
              low = taken.ready.low;
              later = omega arith;
              ahead = omega arith;
              far = omega arith;
              stands = taken.ready.stands;
              few = taken.ready.few;
            }

        module _ (laws : AccumulateLaws op) (new_reg : Roster) (new : Board A) (can : CanBeNamed single)
            (reg_is : new_reg ≡ roster (changed_at task (signalled (length held)) reg.members) reg.greatest)
            (moved : HasSignalled e.signal_phase (e.signal_phase + length held) b new)
            (slots : sents new.ring ≡ sents (block_joined op e.signal_phase held single b.ring))
          where
            pub stands_after : (h : History) (sends : List (List ℤ)) → StandsFor op (core_of reg b) h → StandForLists op held sends
                → StandsFor op (core_of new_reg new) (Signalled task sends single ∷ h)
            stands_after h sends stands holds =
                signal_stands op laws reg new_reg b new h task e held sends single stands taken.boarded m.found taken.base taken.near
                (admitted h sends stands holds) holds can taken.fits reg_is moved.limits moved.top slots

            pub core_after : (sends : List (List ℤ)) → StandForLists op held sends → IsBoard op new → IsSettled new → IsCore op new_reg new
            core_after sends holds kept settled = record {
              history = Signalled task sends single ∷ m.core.history;
              stands = stands_after m.core.history sends m.core.stands holds;
              boarded = inr (block_boarded op reg new_reg b new task (length held) e taken.boarded m.found passed.signals reg_is moved.base
                  moved.moves.moved moved.moves.others kept settled);
              used = used_after reg new_reg (changed_at task (signalled (length held)) reg.members) m.core.used reg_is;
            }
