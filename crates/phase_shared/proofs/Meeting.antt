-- What two registrations have seen that met.
use Rattle.std.proofs.Common.{◌≡◌, ◌≢◌, ℕ, false, true, not, eqb, List, [], ◌∷◌, ◌++◌, refl, sym, subst, ap, ◌∙◌}
use Rattle.std.specs.Prelude.{◌||◌, ◌&&◌}
use Rattle.std.proofs.lemmas.Bool.{eq-eqb}
use Rattle.turn_lock.specs.declared.seat.Seat.{Seat}
use Rattle.turn_lock.specs.Seats.{seat_view}
use Rattle.phase_shared.specs.Phasers.{Entry, Parcel, CoreState, OthersCame, is_distinct}
use Rattle.phase_shared.specs.declared.seats.view.View.{View}
use Rattle.phase_shared.specs.declared.rule.Terms.{Terms}
use Rattle.phase_shared.specs.declared.seats.locked.LockedPhaser.{LockedPhaser}
use Rattle.phase_shared.specs.LockedPhasers.{locked_terms}
use Rattle.phase_shared.specs.Views.{resting, known_of}
use Rattle.phase_shared.specs.Rule.{Allows}
use Rattle.phase_shared.specs.Regs.{RegState}
use Rattle.phase_shared.specs.Steps.{IsSeatOn, HaveMet}
use Rattle.phase_shared.proofs.Opening.{Opened}
use Rattle.phase_shared.proofs.Giving.{member_after}

-- two numbers that stand in a list without repetition differ
numbers_apart : (a b : ℕ) → is_distinct (a ∷ b ∷ []) ≡ true → a ≢ b
numbers_apart a b distinct same =
    let found : eqb b a ≡ true = eq-eqb b a (sym same) in
    absurd (let z : false ≡ true = subst (λ c. (not (c || false) && is_distinct (b ∷ [])) ≡ true) found distinct in cc)

module _ {A K : Type 0} (allows : K → Allows) (phaser : LockedPhaser A K) (me you : ℕ) (entry start : Entry) where
  abbrev PhaserSeat : Type 0
  PhaserSeat = Seat (CoreState A) (Terms K) View

  -- each stands where it stood, and both have seen one history
  pub record Met (reg other : RegState A K) (s t : PhaserSeat) : Type 0 where
    pub left : IsSeatOn allows phaser me entry s
    pub right : IsSeatOn allows phaser you start t
    pub one : (known_of (seat_view s)).seen ≡ (known_of (seat_view t)).seen
    pub apart : me ≢ you
    pub begins : OthersCame (reg.number ∷ []) reg.seen (known_of (seat_view s)).seen × OthersCame (other.number ∷ []) other.seen (known_of (seat_view s)).seen

  pub met : (held held' : Parcel A) (reg other : RegState A K) (v w s t : PhaserSeat) → Opened allows phaser me entry held v reg
      → Opened allows phaser you start held' w other → HaveMet allows phaser (seat_view v) (seat_view w) s t → Met reg other s t
  met held held' reg other v w s t o p m =
      let limits = (locked_terms phaser).limits in
      let mine = ap (λ (z : View). (known_of z).speaks) o.seat.knows.rests in
      let yours = ap (λ (z : View). (known_of z).speaks) p.seat.knows.rests in
      let left : seat_view s ≡ resting m.now (me ∷ []) = m.left.knows ∙ ap (λ l. resting m.now l) mine in
      let right : seat_view t ≡ resting m.now (you ∷ []) = m.right.knows ∙ ap (λ l. resting m.now l) yours in
      let seen : (known_of (seat_view s)).seen ≡ m.now = ap (λ (z : View). (known_of z).seen) left in
      let came : OthersCame (me ∷ []) (known_of (seat_view v)).seen m.now = subst (λ (l : List ℕ). OthersCame l (known_of (seat_view v)).seen m.now) mine m.begins.0 in
      let came' : OthersCame (you ∷ []) (known_of (seat_view w)).seen m.now = subst (λ (l : List ℕ). OthersCame l (known_of (seat_view w)).seen m.now) yours m.begins.1 in
      record {
        left = record { here = m.left.here; knows = rw left (record { rests = refl; member = member_after limits me entry (known_of (seat_view v)).seen m.now came m.good.legal o.seat.knows.member; good = m.good }) };
        right = record { here = m.right.here; knows = rw right (record { rests = refl; member = member_after limits you start (known_of (seat_view w)).seen m.now came' m.good.legal p.seat.knows.member; good = m.good }) };
        one = seen ∙ sym (ap (λ (z : View). (known_of z).seen) right);
        apart = numbers_apart me you (sym (λ i. is_distinct (mine i ++ yours i)) ∙ m.distinct);
        begins = rw seen (subst (λ (r : RegState A K). OthersCame (r.number ∷ []) r.seen m.now) o.is came, subst (λ (r : RegState A K). OthersCame (r.number ∷ []) r.seen m.now) p.is came');
      }
