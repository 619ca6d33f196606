-- The reply lines: one line end each, and how long they can be.
use Rattle.std.proofs.Common.{◌≡◌, ℕ, suc, ◌≤◌, ◌*◌, [], ◌∷◌, Bool, true, not, ◌==◌, List, ◌++◌, length, codes, decimal, nat_abs, ℤ, pos, negsuc, take, get_or, ◌<◌, ◌+◌, refl, sym, ◌∙◌, ap, append_assoc, arith}
use Rattle.std.proofs.lemmas.List.{length-append, take_more}
use Rattle.std.proofs.lemmas.List.Folds.{list_all-append}
use Rattle.std.specs.Fmt.{signed_decimal}
use Rattle.std.specs.List.{list_all, All}
use Rattle.std.proofs.lemmas.List.Elements.{All-head, All-tail}
use Rattle.phase_accum.specs.declared.outcome.Outcome.{Outcome}
use Rattle.phase_accum.specs.declared.outcome.Outcome.TheVariants as outcome
use Rattle.phase_accum.specs.Values.{IsInRange}
use Rattle.phase_script.proofs.Digits.{decimal_has_no_line_end, decimal_short, signed_short}
use Rattle.phase_script.specs.Numbers.{most}
use Rattle.phase_script.specs.ReplyLines.{reason_text, outcome_text, outcomes_text, reply_text, IsReply, IsOneLine}
use Rattle.phase_script.specs.declared.refusal.Refusal.{Refusal}
use Rattle.phase_script.specs.declared.refusal.Refusal.TheVariants.{NoPhaser, Made, BadBound, BadPhases, NoTask, NoSignal, TooManySends, Held, NotSingle, BadBlock, SignalTwice, Spent, Ahead, SingleDiffers, PhaseFull, NoWait, SignalFirst, NotYet, NotAllowed, NotNew, TooManyTasks}
use Rattle.phase_script.specs.ReplyLines.{WholeReply, Accepted, Signalled, Joined, Value, Empty, TooBig, Values, Ended, Refused, BadLine}

abbrev ends_no_line : List ℕ → Bool
ends_no_line bs = list_all (λ b. not (b == 10)) bs

signed_has_no_line_end : (v : ℤ) → nat_abs v ≤ most → ends_no_line (signed_decimal v) ≡ true
signed_has_no_line_end (pos n) le = decimal_has_no_line_end n le
signed_has_no_line_end (negsuc n) le = decimal_has_no_line_end (suc n) le

reason_has_no_line_end : (refusal : Refusal) → ends_no_line (reason_text refusal) ≡ true
reason_has_no_line_end NoPhaser = refl
reason_has_no_line_end Made = refl
reason_has_no_line_end BadBound = refl
reason_has_no_line_end BadPhases = refl
reason_has_no_line_end NoTask = refl
reason_has_no_line_end NoSignal = refl
reason_has_no_line_end TooManySends = refl
reason_has_no_line_end Held = refl
reason_has_no_line_end NotSingle = refl
reason_has_no_line_end BadBlock = refl
reason_has_no_line_end SignalTwice = refl
reason_has_no_line_end Spent = refl
reason_has_no_line_end Ahead = refl
reason_has_no_line_end SingleDiffers = refl
reason_has_no_line_end PhaseFull = refl
reason_has_no_line_end NoWait = refl
reason_has_no_line_end SignalFirst = refl
reason_has_no_line_end NotYet = refl
reason_has_no_line_end NotAllowed = refl
reason_has_no_line_end NotNew = refl
reason_has_no_line_end TooManyTasks = refl

outcome_has_no_line_end : (o : Outcome) → IsInRange o → ends_no_line (outcome_text o) ≡ true
outcome_has_no_line_end (outcome.Value v) range = signed_has_no_line_end v range
outcome_has_no_line_end outcome.Empty range = refl
outcome_has_no_line_end outcome.TooBig range = refl

outcomes_have_no_line_end : (os : List Outcome) → All IsInRange os → ends_no_line (outcomes_text os) ≡ true
outcomes_have_no_line_end [] range = refl
outcomes_have_no_line_end (o ∷ os) range =
    list_all-append (λ b. not (b == 10)) (outcome_text o) (outcomes_text os)
    ∙ rw (
      outcome_has_no_line_end o (All-head IsInRange o os range),
      outcomes_have_no_line_end os (All-tail IsInRange o os range),
    ) refl

pub reply_is_one_line : (reply : WholeReply) → IsReply reply → IsOneLine (reply_text reply)
unfolding reply_text
reply_is_one_line Accepted is = (codes "ok", refl, refl)
reply_is_one_line (Signalled phase) is = (
  codes "ok " ++ decimal phase,
  refl,
  decimal_has_no_line_end phase is,
)
reply_is_one_line (Joined phase) is = (
  codes "ok " ++ decimal phase,
  refl,
  decimal_has_no_line_end phase is,
)
reply_is_one_line (Value phase value) is = (
  codes "value " ++ decimal phase ++ codes " " ++ signed_decimal value,
  refl,
  rw (
    list_all-append,
    list_all-append,
    decimal_has_no_line_end phase is.0,
    signed_has_no_line_end value is.1,
  ) refl,
)
reply_is_one_line (Empty phase) is = (
  codes "empty " ++ decimal phase,
  refl,
  decimal_has_no_line_end phase is,
)
reply_is_one_line (TooBig phase) is = (
  codes "toobig " ++ decimal phase,
  refl,
  decimal_has_no_line_end phase is,
)
reply_is_one_line (Values phase outcomes) is = (
  codes "values " ++ decimal phase ++ outcomes_text outcomes,
  refl,
  rw (
    list_all-append,
    list_all-append,
    decimal_has_no_line_end phase is.0,
    outcomes_have_no_line_end outcomes is.2,
  ) refl,
)
reply_is_one_line Ended is = (codes "ended", refl, refl)
reply_is_one_line (Refused refusal) is = (
  codes "no " ++ reason_text refusal,
  refl,
  reason_has_no_line_end refusal,
)
reply_is_one_line BadLine is = (codes "bad line", refl, refl)

reason_short : (refusal : Refusal) → length (reason_text refusal) ≤ 14
reason_short NoPhaser = omega arith
reason_short Made = omega arith
reason_short BadBound = omega arith
reason_short BadPhases = omega arith
reason_short NoTask = omega arith
reason_short NoSignal = omega arith
reason_short TooManySends = omega arith
reason_short Held = omega arith
reason_short NotSingle = omega arith
reason_short BadBlock = omega arith
reason_short SignalTwice = omega arith
reason_short Spent = omega arith
reason_short Ahead = omega arith
reason_short SingleDiffers = omega arith
reason_short PhaseFull = omega arith
reason_short NoWait = omega arith
reason_short SignalFirst = omega arith
reason_short NotYet = omega arith
reason_short NotAllowed = omega arith
reason_short NotNew = omega arith
reason_short TooManyTasks = omega arith

pub outcome_short : (o : Outcome) → IsInRange o → length (outcome_text o) ≤ 20
outcome_short (outcome.Value v) range = signed_short v range
outcome_short outcome.Empty range = omega arith
outcome_short outcome.TooBig range = omega arith

outcomes_short : (os : List Outcome) → All IsInRange os → length (outcomes_text os) ≤ 21 * length os
outcomes_short [] range = omega arith
outcomes_short (o ∷ os) range =
    omega (arith, length-append (outcome_text o) (outcomes_text os), outcome_short o (All-head IsInRange o os range), outcomes_short os (All-tail IsInRange o os range))

pub reply_short : (reply : WholeReply) → IsReply reply → length (reply_text reply) ≤ 363
unfolding reply_text
reply_short Accepted is = omega arith
reply_short (Signalled phase) is = simp length-append (omega (arith, decimal_short phase is))
reply_short (Joined phase) is = simp length-append (omega (arith, decimal_short phase is))
reply_short (Value phase value) is =
    simp length-append (omega (arith, decimal_short phase is.0, signed_short value is.1))
reply_short (Empty phase) is = simp length-append (omega (arith, decimal_short phase is))
reply_short (TooBig phase) is = simp length-append (omega (arith, decimal_short phase is))
reply_short (Values phase outcomes) is =
    simp length-append (omega (arith, decimal_short phase is.0, outcomes_short outcomes is.2, is.1))
reply_short Ended is = omega arith
reply_short (Refused refusal) is = simp length-append (omega (arith, reason_short refusal))
reply_short BadLine is = omega arith

-- one more outcome is told

outcomes_text-append : (xs ys : List Outcome) → outcomes_text (xs ++ ys) ≡ outcomes_text xs ++ outcomes_text ys
outcomes_text-append [] ys = refl
outcomes_text-append (x ∷ xs) ys =
    ap (λ t. 32 ∷ (outcome_text x ++ t)) (outcomes_text-append xs ys)
    ∙ ap (λ t. 32 ∷ t) (sym (append_assoc (outcome_text x) (outcomes_text xs) (outcomes_text ys)))

pub outcomes_more : (prefix line new : List ℕ) (os : List Outcome) (i : ℕ) (d : Outcome) → i < length os
    → line ≡ prefix ++ outcomes_text (take i os) → new ≡ line ++ outcomes_text (get_or os i d ∷ [])
    → new ≡ prefix ++ outcomes_text (take (i + 1) os)
outcomes_more prefix line new os i d within told more =
    more ∙ ap (λ l. l ++ outcomes_text (get_or os i d ∷ [])) told
    ∙ append_assoc prefix (outcomes_text (take i os)) (outcomes_text (get_or os i d ∷ []))
    ∙ ap (λ t. prefix ++ t) (sym (outcomes_text-append (take i os) (get_or os i d ∷ [])))
    ∙ ap (λ l. prefix ++ outcomes_text l) (sym (take_more os i d within))
