-- A member that waits, on slots or for values alone.
use Rattle.std.proofs.Common.{◌≡◌, ℕ, ◌+◌, ◌<◌, ◌≤◌, ◌∷◌, true, false, Bool, Option, Some, None, length, refl, sym, ap, subst, ◌∙◌, arith, inr}
use Rattle.std.specs.Prelude.{is_some}
use Rattle.phase_base.specs.Modes.{mode_waits}
use Rattle.phase_base.specs.declared.entry.Entry.{Entry}
use Rattle.phase_base.specs.declared.limits.TheConstants.{MEMBERS_MAX}
use Rattle.phase_base.specs.Members.{entry_of, changed_at, signal_phases, least, waited}
use Rattle.phase_base.specs.Lists.{first_row}
use Rattle.phase_accum.specs.Operations.{Operation}
use Rattle.phase_history.specs.declared.event.Event.TheVariants.{Waited}
use Rattle.phase_history.specs.declared.refusal.WaitRefusal.{WaitRefusal}
use Rattle.phase_history.specs.Histories.{History}
use Rattle.phase_history.specs.Refusals.{wait_refusal, plain_wait_rows, wait_rows_at}
use Rattle.phase_history.specs.Replies.{wait_reply, refused_or, got_at, wait_block_reply, got_block_at}
use Rattle.phase_registry.specs.Rosters.{Roster}
use Rattle.phase_ring.specs.declared.board.Board.{Board}
use Rattle.phase_ring.specs.declared.store.Store.{Store}
use Rattle.phase_ring.specs.Stores.{GotFrom, IsStore, KeepsValues, MayGet, ring_of, board_shown}
use Rattle.phase_core.specs.Cores.{CoreState, StandsFor, IsBoarded, core_of}
use Rattle.phase_core.specs.PlainCores.{HasGoneOn, IsPhaser, MayPassPhases, core_shown}
use Rattle.phase_core.proofs.Boarded.{boarded_beside, waits-some, ready_to_wait}
use Rattle.phase_core.proofs.Phasers.{kept_of, not_below, shown_off, slots_phaser, values_phaser}
use Rattle.phase_core.proofs.PlainWaits.{alone_gone_on, stands_gone_on}
use Rattle.phase_core.proofs.SignalCore.{used_after}
use Rattle.phase_core.proofs.WaitCore.{Waiting, boarded_waited, few_by, stands_waited, wait_block_is, waits_reply}

-- and whether a signaller is alive
pub record Awaits {A : Type 0} (op : Operation A) (reg : Roster) (store : Store A) (task : ℕ)
    (e : Entry) (has_signaller : Bool) : Type 0 where
  pub phaser : IsPhaser op reg store
  pub found : entry_of reg.members task ≡ Some e
  pub few : length reg.members ≤ MEMBERS_MAX
  pub waits : mode_waits e.mode ≡ true
  pub has : has_signaller ≡ is_some (least (signal_phases reg.members))

module _ {A : Type 0} {op : Operation A} {reg : Roster} {store : Store A} {task : ℕ} {e : Entry}
    {has_signaller : Bool} (m : Awaits op reg store task e has_signaller)
  where
    pub here : Waiting op reg (board_shown op store) e
    here =
        let kept = kept_of op reg store m.phaser (waits-some reg.members task e m.found m.waits) in
        record {
          kept = kept;
          low = not_below reg.members (ring_of op store).base task e m.found m.waits kept.slowest;
        }

    boarded : store.is_plain ≡ false → IsBoarded op reg.members store.board.ring
        store.board.limits.bound store.board.done store.board.top
    boarded off = boarded_beside task (m.phaser.slots off) m.found m.waits

    pub one_replied : (h : History) (r : Option WaitRefusal) → StandsFor op (core_shown op reg store) h
        → r ≡ first_row (plain_wait_rows store.board.limits store.board.done has_signaller e)
        → (wait_refusal store.board.limits h task 1 ≡ r)
        × (wait_reply op.value store.board.limits h task ≡ refused_or r (got_at op.value h e.wait_phase))
    one_replied h r stands row =
        waits_reply op reg (board_shown op store) h task e has_signaller r here stands m.found m.has row

    pub block_replied : (h : History) (n : ℕ) (r : Option WaitRefusal)
        → StandsFor op (core_shown op reg store) h
        → r ≡ first_row (wait_rows_at store.board.limits store.board.done has_signaller n e)
        → (wait_refusal store.board.limits h task n ≡ r)
        × (wait_block_reply store.board.limits h task n ≡ refused_or r (got_block_at h e.wait_phase n))
    block_replied h n r stands row =
        wait_block_is op reg (board_shown op store) h task n e has_signaller r here stands m.found m.has row

    -- what the store asks of a wait
    pub is_store : IsStore op store
    is_store = record {
      slots = λ off. (boarded off).kept;
      values = λ on. (m.phaser.values on).keeps;
    }

    pub may_get : (n : ℕ) → 0 < n → e.wait_phase + n ≤ store.board.done
        → MayGet e.wait_phase (e.wait_phase + n) store
    may_get n some complete = record {
      complete = complete;
      slots = λ off. record {
        later = omega arith;
        complete = complete;
        stands = (ready_to_wait op reg.members store.board.ring store.board.limits.bound
            store.board.done store.board.top task e (boarded off) m.found m.few m.waits).stands;
        few = few_by op reg store.board task n e (boarded off) m.found m.few m.waits some;
      };
      values = λ on. not_below reg.members store.values.base task e m.found m.waits
          (m.phaser.values on).plain.slowest;
    }

    -- what a wait over so many complete phases leaves
    module _ (got : Store A) (n : ℕ) (complete : e.wait_phase + n ≤ store.board.done)
        (has_got : GotFrom op e.wait_phase (e.wait_phase + n) store got)
      where
        top_same : got.board.top ≡ store.board.top
        top_same = by store.is_plain refl
          where
            by : (is : Bool) → store.is_plain ≡ is → got.board.top ≡ store.board.top
            by true on = ap (λ (s : Store A). s.board.top) (has_got.values on)
            by false off = (has_got.slots off).waited.keeps.top

        pub may_go_on : MayPassPhases reg got task n e
        may_go_on = record {
          found = m.found;
          waits = m.waits;
          complete = omega (arith, top_same, here.kept.kept.done_top);
          far = omega (arith, top_same, here.kept.kept.top_far);
          slowest = λ on.
              let before = sym has_got.same ∙ on in
              (m.phaser.values before).plain.slowest
              ∙ ap (λ (s : Store A). Some s.values.base) (sym (has_got.values before));
          values = λ on.
              let before = sym has_got.same ∙ on in
              subst KeepsValues (sym (has_got.values before)) (m.phaser.values before).keeps;
        }

        module _ (new_reg : Roster) (new : Store A) (went : HasGoneOn reg new_reg got new task n)
          where
            boarded_after : (off : store.is_plain ≡ false) → IsBoarded op new_reg.members got.board.ring
                got.board.limits.bound got.board.done got.board.top
            boarded_after off =
                let o = has_got.slots off in
                boarded_waited op reg new_reg store.board got.board task n e (boarded off) m.found m.waits
                went.registry o.waited.keeps.done o.waited.keeps.top o.waited.moves.moved
                o.waited.moves.others o.invariant o.stops

            slots_after : (off : store.is_plain ≡ false) (h : History)
                → StandsFor op (core_of reg store.board) h → wait_refusal store.board.limits h task n ≡ None
                → StandsFor op (core_of new_reg new.board) (Waited task n ∷ h)
            slots_after off h stands none =
                let o = has_got.slots off in
                subst (λ (b : Board A). StandsFor op (core_of new_reg b) (Waited task n ∷ h))
                (sym went.board) (stands_waited op reg new_reg store.board got.board h task n e (boarded off)
                stands m.found (boarded_after off) none complete went.registry o.waited.keeps.limits
                o.waited.keeps.top o.slots)

            is_plain_after : {b : Bool} → store.is_plain ≡ b → new.is_plain ≡ b
            is_plain_after is = went.plain ∙ has_got.same ∙ is

            may_on : store.is_plain ≡ true → MayPassPhases reg store task n e
            may_on on = subst (λ (s : Store A). MayPassPhases reg s task n e) (has_got.values on) may_go_on

            went_on : store.is_plain ≡ true → HasGoneOn reg new_reg store new task n
            went_on on = subst (λ (s : Store A). HasGoneOn reg new_reg s new task n) (has_got.values on) went

            pub stands_after : (h : History) → StandsFor op (core_shown op reg store) h
                → wait_refusal store.board.limits h task n ≡ None
                → StandsFor op (core_shown op new_reg new) (Waited task n ∷ h)
            stands_after h stands none = by store.is_plain refl
              where
                by : (is : Bool) → store.is_plain ≡ is
                    → StandsFor op (core_shown op new_reg new) (Waited task n ∷ h)
                by true on =
                    let a = m.phaser.values on in
                    stands_gone_on op reg new_reg store new task n e on a (may_on on) (went_on on) h stands none
                by false off =
                    subst (λ (k : CoreState A). StandsFor op k (Waited task n ∷ h))
                    (sym (shown_off op new new_reg (is_plain_after off)))
                    (slots_after off h (subst (λ (k : CoreState A). StandsFor op k h)
                    (shown_off op store reg off) stands) none)

            pub phaser_after : ((h : History) → StandsFor op (core_shown op reg store) h
                → wait_refusal store.board.limits h task n ≡ None) → IsPhaser op new_reg new
            phaser_after accepted = by store.is_plain refl
              where
                by : (is : Bool) → store.is_plain ≡ is → IsPhaser op new_reg new
                by true on =
                    values_phaser (is_plain_after on) (alone_gone_on op reg new_reg store new task n e on
                    (m.phaser.values on) (may_on on) (went_on on) accepted)
                by false off =
                    let core = m.phaser.slots off in
                    let h = core.history in
                    let b = boarded_after off in
                    slots_phaser (is_plain_after off) (record {
                      history = Waited task n ∷ h;
                      stands = slots_after off h core.stands (accepted h (subst
                          (λ (k : CoreState A). StandsFor op k h) (sym (shown_off op store reg off)) core.stands));
                      boarded = inr (subst (λ (x : Board A). IsBoarded op new_reg.members x.ring
                          x.limits.bound x.done x.top) (sym went.board) b);
                      used = used_after reg new_reg (changed_at task (waited n) reg.members) core.used
                          went.registry;
                    })
