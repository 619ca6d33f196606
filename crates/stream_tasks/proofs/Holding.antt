-- What a task holds after a call of one of its registrations.
use Rattle.std.proofs.Common.{◌≡◌, ◌≢◌, ℕ, ◌<◌, ◌≤◌, List, [], ◌∷◌, Some, length, get_or, set, sym, ap, subst, ◌∙◌, arith, ◌⊎◌, inl, inr}
use Rattle.std.proofs.lemmas.Bool.{cases_lt}
use Rattle.std.proofs.lemmas.List.{get_or-set_same, get_or-set_other}
use Rattle.std.proofs.lemmas.Option.{slice_get_within}
use Rattle.std.specs.Prelude.{slice_get}
use Rattle.phase_history.specs.declared.event.Event.{Event}
use Rattle.phase_history.specs.Histories.{History}
use Rattle.phase_history.specs.Legal.{IsLegal}
use Rattle.phase_history.specs.Others.{OthersCame}
use Rattle.graph_base.specs.TaskLines.{IsGraph}
use Rattle.stream_lists.specs.Jobs.{Job}
use Rattle.graph_runs.specs.Moments.{Moment, limits_at}
use Rattle.stream_members.specs.Members.{Spot, limits_on}
use Rattle.stream_members.specs.AnyMembers.{member_in}
use Rattle.stream_members.specs.declared.any_member.AnyMember.{AnyMember}
use Rattle.stream_members.specs.declared.any_left.AnyLeft.{AnyLeft}
use Rattle.graph_runs.specs.Nexts.{registrations_at}
use Rattle.graph_runs.specs.TaskPlaces.{registration_at}
use Rattle.graph_runs.proofs.Reaching.{one_registration}
use Rattle.graph_runs.specs.Parts.{SeesOthers, SeesOwn, HasMovedOn}
use Rattle.stream_tasks.specs.Holds.{IsSameRegistration, HasSeenOthers, HasMade}
use Rattle.stream_tasks.specs.Tasks.{IsOn, HasLeftOn, IsHeldOn, HasHolds}
use Rattle.stream_tasks.specs.declared.hold.Hold.{Hold}
use Rattle.stream_tasks.specs.declared.hold.Hold.TheVariants.{On, Gone}

-- two numbers are the same, or are not
pub same_or_apart : (i k : ℕ) → (i < k) ⊎ (k ≤ i) → (k < i) ⊎ (i ≤ k) → (i ≡ k) ⊎ (i ≢ k)
same_or_apart i k (inl low) d = inr (λ e. omega arith)
same_or_apart i k (inr le) (inl high) = inr (λ e. omega arith)
same_or_apart i k (inr le) (inr ge) = inl (omega arith)

-- ---- one registration

-- what it has seen by others' events, in words of its task's moment
pub sees_others : (job : Job) (spots : ℕ → Spot) (m : Moment) (t p : ℕ) (old new : AnyMember)
    → IsOn job spots m t p old → HasSeenOthers old new
    → SeesOthers job m t p (member_in old).number (member_in new).seen
sees_others job spots m t p old new on s = record {
  numbered = on.numbered;
  others = subst (λ h. OthersCame ((member_in old).number ∷ []) h (member_in new).seen) on.seen
      s.others;
  legal = subst (λ l. IsLegal l (member_in new).seen) (ap limits_on on.at ∙ on.limits)
      s.same.legal;
}

-- the same of its own event
pub sees_own : (job : Job) (spots : ℕ → Spot) (m : Moment) (t p : ℕ) (event : ℕ → Event)
    (old new : AnyMember) (before : History) → IsOn job spots m t p old
    → HasMade event old new before
    → SeesOwn job m t p (member_in old).number (event (member_in old).number) before
sees_own job spots m t p event old new before on s = record {
  numbered = on.numbered;
  others = subst (λ h. OthersCame ((member_in old).number ∷ []) h before) on.seen s.others;
  legal = subst (λ h. IsLegal (limits_at job p) h) s.seen
      (subst (λ l. IsLegal l (member_in new).seen) (ap limits_on on.at ∙ on.limits) s.same.legal);
}

-- it is on its phaser still
pub on_after : (job : Job) (spots : ℕ → Spot) (m after : Moment) (t p : ℕ) (now : History)
    (old new : AnyMember) → IsOn job spots m t p old → IsSameRegistration old new
    → HasMovedOn job m after t p now → (member_in new).seen ≡ now → IsOn job spots after t p new
on_after job spots m after t p now old new on same moved is = record {
  op = same.op ∙ on.op;
  at = same.at ∙ on.at;
  limits = on.limits;
  numbered = moved.numbers p t ∙ on.numbered ∙ ap Some (sym same.number);
  seen = is ∙ sym moved.here;
}

-- ---- the others

-- another registration stays
pub held_elsewhere : (job : Job) (spots : ℕ → Spot) (m after : Moment) (t p q : ℕ) (now : History)
    (hold : Hold) → HasMovedOn job m after t p now → q ≢ p → IsHeldOn job spots m t q hold
    → IsHeldOn job spots after t q hold
held_elsewhere job spots m after t p q now (On x) moved apart on = record {
  op = on.op;
  at = on.at;
  limits = on.limits;
  numbered = moved.numbers q t ∙ on.numbered;
  seen = on.seen ∙ sym (moved.elsewhere q apart);
}
held_elsewhere job spots m after t p q now Gone moved apart on = on

-- what was seen of another phaser stays
pub left_elsewhere : (job : Job) (spots : ℕ → Spot) (m after : Moment) (t p q : ℕ) (now : History)
    (left : AnyLeft) → HasMovedOn job m after t p now → q ≢ p → HasLeftOn job spots m t q left
    → HasLeftOn job spots after t q left
left_elsewhere job spots m after t p q now left moved apart off = record {
  op = off.op;
  at = off.at;
  limits = off.limits;
  number = off.number;
  numbered = moved.numbers q t ∙ off.numbered;
  numbers = off.numbers;
  seen = off.seen ∙ sym (moved.elsewhere q apart);
}

-- ---- all of them

-- with another registration in the place of one
pub holds_move : (job : Job) (spots : ℕ → Spot) (m after : Moment) (t k p : ℕ) (now : History)
    (holds : List Hold) (lefts : List AnyLeft) (new : Hold) → IsGraph job.graph
    → t < length job.graph.tasks → k < length (registrations_at job t)
    → (registration_at job t k).phaser ≡ p → length holds ≡ length (registrations_at job t)
    → length lefts ≤ k → HasMovedOn job m after t p now → HasHolds job spots m t holds lefts
    → IsHeldOn job spots after t p new → HasHolds job spots after t (set holds k new) lefts
holds_move job spots m after t k p now holds lefts new is there few here long kept moved has on =
    record {
      on = λ i lt le. on_one i lt le
          (same_or_apart i k (cases_lt i k) (cases_lt k i));
      off = λ i left at. off_one i left at (slice_get_within lefts i left at);
    }
  where
    other : (i : ℕ) → i < length (registrations_at job t) → i ≢ k
        → (registration_at job t i).phaser ≢ p
    other i lt apart same = apart (one_registration job t i k is there lt few (same ∙ sym here))

    on_one : (i : ℕ) → i < length (registrations_at job t) → length lefts ≤ i → (i ≡ k) ⊎ (i ≢ k)
        → IsHeldOn job spots after t (registration_at job t i).phaser (get_or (set holds k new) i Gone)
    on_one i lt le (inl same) =
        let at : IsHeldOn job spots after t (registration_at job t k).phaser (get_or (set holds k new) k Gone) =
        subst (λ h. IsHeldOn job spots after t (registration_at job t k).phaser h)
        (sym (get_or-set_same holds k new Gone (omega arith)))
        (subst (λ q. IsHeldOn job spots after t q new) (sym here) on) in
        subst (λ x. IsHeldOn job spots after t (registration_at job t x).phaser (get_or (set holds k new) x Gone))
        (sym same) at
    on_one i lt le (inr apart) =
        subst (λ h. IsHeldOn job spots after t (registration_at job t i).phaser h)
        (sym (get_or-set_other holds k i new Gone apart))
        (held_elsewhere job spots m after t p (registration_at job t i).phaser now (get_or holds i Gone)
        moved (other i lt apart) (has.on i lt le))

    off_one : (i : ℕ) (left : AnyLeft) → slice_get lefts i ≡ Some left → i < length lefts
        → HasLeftOn job spots after t (registration_at job t i).phaser left
    off_one i left at less =
        left_elsewhere job spots m after t p (registration_at job t i).phaser now left moved
        (other i (omega arith) (λ e. omega arith)) (has.off i left at)
