-- The reply lines, with their line end.
use Rattle.std.specs.Prelude.{◌≡◌, ℕ, ℤ, ◌≤◌, ◌==◌, not, true, List, [], ◌∷◌, ◌++◌, length, codes, decimal, nat_abs}
use Rattle.std.specs.Fmt.{signed_decimal}
use Rattle.std.specs.List.{list_all, All}
use Rattle.phase_accum.specs.declared.outcome.Outcome.{Outcome}
use Rattle.phase_accum.specs.declared.outcome.Outcome.TheVariants as outcome
use Rattle.phase_accum.specs.Values.{IsInRange}
use Rattle.phase_script.specs.Numbers.{most}
use Rattle.phase_script.specs.declared.values.TheConstants.{VALUES_MAX}
use Rattle.phase_script.specs.declared.refusal.Refusal.{Refusal}
use Rattle.phase_script.specs.declared.refusal.Refusal.TheVariants.{NoPhaser, Made, BadBound, BadPhases, NoTask, NoSignal, TooManySends, Held, NotSingle, BadBlock, SignalTwice, Spent, Ahead, SingleDiffers, PhaseFull, NoWait, SignalFirst, NotYet, NotAllowed, NotNew, TooManyTasks}
use Rattle.phase_script.specs.declared.reply.Reply.{Reply}
use Rattle.phase_script.specs.declared.reply.Reply.TheVariants as given

-- the reply to a script line, with what a block of phases gave: the code keeps that beside a
-- `Reply`
pub data WholeReply : Type 0 where
  Accepted : WholeReply
  Signalled : (phase : ℕ) → WholeReply
  Joined : (phase : ℕ) → WholeReply
  Value : (phase : ℕ) (value : ℤ) → WholeReply
  Empty : (phase : ℕ) → WholeReply
  TooBig : (phase : ℕ) → WholeReply
  Values : (phase : ℕ) (outcomes : List Outcome) → WholeReply
  Ended : WholeReply
  Refused : (refusal : Refusal) → WholeReply
  BadLine : WholeReply

-- the reply with these outcomes beside it
abbrev pub whole_reply : List Outcome → Reply → WholeReply
whole_reply outcomes given.Accepted = Accepted
whole_reply outcomes (given.Signalled phase) = Signalled phase
whole_reply outcomes (given.Joined phase) = Joined phase
whole_reply outcomes (given.Value phase value) = Value phase value
whole_reply outcomes (given.Empty phase) = Empty phase
whole_reply outcomes (given.TooBig phase) = TooBig phase
whole_reply outcomes (given.Values phase) = Values phase outcomes
whole_reply outcomes given.Ended = Ended
whole_reply outcomes (given.Refused refusal) = Refused refusal
whole_reply outcomes given.BadLine = BadLine

-- the reply says this, whatever outcomes stand beside it
abbrev pub Tells : Reply → WholeReply → Type 0
Tells reply whole = (outcomes : List Outcome) → whole_reply outcomes reply ≡ whole

-- the text of a reason, which follows `no` and a space
abbrev pub reason_text : Refusal → List ℕ
reason_text NoPhaser = codes "phaser"
reason_text Made = codes "made"
reason_text BadBound = codes "bad-bound"
reason_text BadPhases = codes "bad-phases"
reason_text NoTask = codes "no-task"
reason_text NoSignal = codes "no-signal"
reason_text TooManySends = codes "too-many-sends"
reason_text Held = codes "held"
reason_text NotSingle = codes "not-single"
reason_text BadBlock = codes "bad-block"
reason_text SignalTwice = codes "signal-twice"
reason_text Spent = codes "spent"
reason_text Ahead = codes "ahead"
reason_text SingleDiffers = codes "single-differs"
reason_text PhaseFull = codes "phase-full"
reason_text NoWait = codes "no-wait"
reason_text SignalFirst = codes "signal-first"
reason_text NotYet = codes "not-yet"
reason_text NotAllowed = codes "not-allowed"
reason_text NotNew = codes "not-new"
reason_text TooManyTasks = codes "too-many-tasks"

-- a word, a space and the phase
abbrev pub phase_text : List ℕ → ℕ → List ℕ
phase_text name phase = name ++ codes " " ++ decimal phase ++ codes "\n"

-- the word for what a phase gave
abbrev pub outcome_text : Outcome → List ℕ
outcome_text (outcome.Value value) = signed_decimal value
outcome_text outcome.Empty = codes "empty"
outcome_text outcome.TooBig = codes "toobig"

-- the words for what phases gave, behind others
abbrev pub outcomes_text : List Outcome → List ℕ
outcomes_text [] = []
outcomes_text (outcome ∷ outcomes) = 32 ∷ (outcome_text outcome ++ outcomes_text outcomes)

-- the line that tells the reply
unfoldable pub reply_text : WholeReply → List ℕ
reply_text Accepted = codes "ok\n"
reply_text (Signalled phase) = phase_text (codes "ok") phase
reply_text (Joined phase) = phase_text (codes "ok") phase
reply_text (Value phase value) =
    codes "value " ++ decimal phase ++ codes " " ++ signed_decimal value ++ codes "\n"
reply_text (Empty phase) = phase_text (codes "empty") phase
reply_text (TooBig phase) = phase_text (codes "toobig") phase
reply_text (Values phase outcomes) =
    codes "values " ++ decimal phase ++ outcomes_text outcomes ++ codes "\n"
reply_text Ended = codes "ended\n"
reply_text (Refused refusal) = codes "no " ++ reason_text refusal ++ codes "\n"
reply_text BadLine = codes "bad line\n"

-- the numbers of the reply are within those of a script
abbrev pub IsReply : WholeReply → Type 0
IsReply (Signalled phase) = phase ≤ most
IsReply (Joined phase) = phase ≤ most
IsReply (Value phase value) = (phase ≤ most) × (nat_abs value ≤ most)
IsReply (Empty phase) = phase ≤ most
IsReply (TooBig phase) = phase ≤ most
IsReply (Values phase outcomes) =
    (phase ≤ most) × (length outcomes ≤ VALUES_MAX) × All IsInRange outcomes
IsReply _ = Unit {0}

-- the text has one line end, its last byte
abbrev pub IsOneLine : List ℕ → Type 0
IsOneLine text =
    (prefix : List ℕ) × (text ≡ prefix ++ codes "\n")
    × (list_all (λ b. not (b == 10)) prefix ≡ true)
