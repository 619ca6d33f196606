-- A script is searched for its first line that is refused.
use Rattle.std.proofs.Common.{◌≡◌, ℕ, ◌+◌, ◌<◌, ◌≤◌, Bool, true, false, List, [], ◌∷◌, ◌++◌, length, take, drop, get_or, refl, sym, ◌∙◌, ap, subst, append_assoc, append-nil, take-append-drop, length-append, length-drop, arith, inl, inr}
use Rattle.std.proofs.lemmas.Bool.{cases_lt}
use Rattle.std.proofs.lemmas.List.{take_all, take_more, length-take-le}
use Rattle.std.proofs.Math.Seq.{take-append-add}
use Rattle.phase_script.specs.Commands.{command_of}
use Rattle.phase_script.specs.Cuts.{HasNoLf}
use Rattle.phase_script.proofs.CutAtLf.{lines_after-prefix}
use Rattle.phase_script.specs.Lines.{last_line, lines_after, lines_of}
use Rattle.phase_script.specs.ReplyLines.{WholeReply, Accepted, Signalled, Joined, Value, Empty, TooBig, Values, Ended, Refused, BadLine, reply_text}
use Rattle.phase_base.specs.Lists.{without_cr}
use Rattle.phase_replay.specs.ScriptReading.{IsFirstLine, begins_as_refusal}
use Rattle.phase_replay.specs.Scripts.{ScriptState, after_line, reply_line_of, reply_of_line, start, state_after, state_from}
use Rattle.phase_replay.specs.Session.{SessionState, SessionStands}
use Rattle.phase_replay.specs.Stops.{AreLinesTaken, ScriptStopsAt, is_refusal, is_refused}
use Rattle.phase_replay.proofs.Scripted.{state_after_push}

-- ---- replies

-- a refusal is told by the letter that its line begins with
pub begins-text : (reply : WholeReply) → begins_as_refusal (reply_text reply) ≡ is_refusal reply
unfolding reply_text
begins-text Accepted = refl
begins-text (Signalled phase) = refl
begins-text (Joined phase) = refl
begins-text (Value phase value) = refl
begins-text (Empty phase) = refl
begins-text (TooBig phase) = refl
begins-text (Values phase outcomes) = refl
begins-text Ended = refl
begins-text (Refused refusal) = refl
begins-text BadLine = refl

-- so a line is refused where its reply line begins so
pub begins-refused : (state : ScriptState) (line reply : List ℕ) (begins : Bool)
    → reply ≡ reply_line_of state line → begins ≡ begins_as_refusal reply
    → begins ≡ is_refused state line
unfolding reply_line_of
begins-refused state line reply begins is told =
    told ∙ ap begins_as_refusal is ∙ begins-text (reply_of_line state (command_of line))

-- one more line that is taken
taken-push : (state : ScriptState) (lines : List (List ℕ)) (line : List ℕ) → AreLinesTaken state lines
    → is_refused (state_from state lines) line ≡ false → AreLinesTaken state (lines ++ line ∷ [])
taken-push state [] line taken here = (here, tt)
taken-push state (first ∷ lines) line taken here =
    (taken.0, taken-push (after_line state first) lines line taken.1 here)

-- ---- the first line of a text

-- it ends at the first LF
pub first-ended : (text : List ℕ) (end : ℕ) → end < length text → HasNoLf (take end text)
    → get_or text end 0 ≡ 10 → IsFirstLine text (without_cr (take end text)) (end + 1)
unfolding lines_of
first-ended text end within none lf =
    let piece : take (end + 1) text ≡ take end text ++ 10 ∷ [] =
    take_more text end 0 within ∙ ap (λ b. take end text ++ b ∷ []) lf in
    record {
      some = omega arith;
      within = omega (arith, within);
      alone = ap (lines_after []) piece ∙ lines_after-prefix [] (take end text) (10 ∷ []) none;
      whole = λ _ later.
          ap (λ l. lines_after [] (l ++ later)) piece
          ∙ ap (lines_after []) (append_assoc (take end text) (10 ∷ []) later)
          ∙ lines_after-prefix [] (take end text) (10 ∷ later) none;
    }

last-some : (text : List ℕ) → 0 < length text → last_line text ≡ without_cr text ∷ []
last-some [] some = absurd (omega (arith, some))
last-some (b ∷ bs) some = refl

-- or it is the whole text
pub first-last : (text : List ℕ) → 0 < length text → HasNoLf text
    → IsFirstLine text (without_cr text) (length text)
unfolding lines_of
first-last text some none = record {
  some = some;
  within = omega arith;
  alone = ap (lines_after []) (take_all (length text) text (omega arith))
      ∙ (ap (lines_after []) (sym (append-nil text))
      ∙ (lines_after-prefix [] text [] none ∙ last-some text some));
  whole = λ less. absurd (omega (arith, less));
}

-- ---- the search

-- the lines before this byte are taken, and the session has answered them
pub record Searches (script : List ℕ) (end number : ℕ) (session : SessionState) : Type 0 where
  pub within : end ≤ length script
  pub whole : end < length script → (later : List ℕ)
      → lines_of (take end script ++ later) ≡ lines_of (take end script) ++ lines_of later
  pub count : length (lines_of (take end script)) ≡ number
  pub few : number ≤ end
  pub stands : SessionStands session (state_after (lines_of (take end script)))
  pub taken : AreLinesTaken start (lines_of (take end script))

pub searches-start : (script : List ℕ) (session : SessionState) → SessionStands session start
    → Searches script 0 0 session
unfolding lines_of
searches-start script session stands = record {
  within = omega arith;
  whole = λ _ later. refl;
  count = refl;
  few = omega arith;
  stands = stands;
  taken = tt;
}

-- so many bytes more
take-further : (script : List ℕ) (end used : ℕ) → end ≤ length script
    → take (end + used) script ≡ take end script ++ take used (drop end script)
take-further script end used within =
    ap (take (end + used)) (sym (take-append-drop end script))
    ∙ (ap (λ n. take (n + used) (take end script ++ drop end script))
    (sym (length-take-le end script within))
    ∙ take-append-add (take end script) (drop end script) used)

-- the lines through the next one
lines-further : (script line : List ℕ) (end number used : ℕ) (session : SessionState)
    → Searches script end number session → end < length script
    → IsFirstLine (drop end script) line used
    → lines_of (take (end + used) script) ≡ lines_of (take end script) ++ line ∷ []
lines-further script line end number used session searches less first =
    ap lines_of (take-further script end used searches.within)
    ∙ (searches.whole less (take used (drop end script))
    ∙ ap (λ l. lines_of (take end script) ++ l) first.alone)

-- the next line is taken
pub searches-next : (script line : List ℕ) (end number used : ℕ) (old new : SessionState)
    → Searches script end number old → end < length script → IsFirstLine (drop end script) line used
    → is_refused (state_after (lines_of (take end script))) line ≡ false
    → SessionStands new (after_line (state_after (lines_of (take end script))) line)
    → Searches script (end + used) (number + 1) new
searches-next script line end number used old new searches less first here stands =
    let before = lines_of (take end script) in
    let piece = take used (drop end script) in
    let lines = lines-further script line end number used old searches less first in
    record {
      within = omega (arith, first.within, length-drop end script);
      whole = λ more later.
          ap (λ l. lines_of (l ++ later)) (take-further script end used searches.within)
          ∙ (ap lines_of (append_assoc (take end script) piece later)
          ∙ (searches.whole less (piece ++ later)
          ∙ (ap (λ l. before ++ l) (first.whole (omega (arith, more, length-drop end script)) later)
          ∙ (sym (append_assoc before (line ∷ []) (lines_of later))
          ∙ ap (λ l. l ++ lines_of later) (sym lines)))));
      count = ap length lines ∙ (length-append before (line ∷ []) ∙ ap (λ n. n + 1) searches.count);
      few = omega (arith, searches.few, first.some);
      stands =
          subst (SessionStands new) (sym (ap state_after lines ∙ state_after_push before line)) stands;
      taken = subst (AreLinesTaken start) (sym lines) (taken-push start before line searches.taken here);
    }

-- what is behind the first line
behind-first : (text line : List ℕ) (used : ℕ) → IsFirstLine text line used
    → (behind : List (List ℕ)) × (lines_of text ≡ line ∷ behind)
behind-first text line used first = elim (cases_lt used (length text)) [
  | inl less ↦ (
    lines_of (drop used text),
    ap lines_of (sym (take-append-drop used text)) ∙ first.whole less (drop used text),
  )
  | inr all ↦ ([], ap lines_of (sym (take_all used text (omega arith))) ∙ first.alone)
]

-- the next line is refused
pub searches-stop : (script line : List ℕ) (end number used : ℕ) (session : SessionState)
    → Searches script end number session → end < length script
    → IsFirstLine (drop end script) line used
    → is_refused (state_after (lines_of (take end script))) line ≡ true
    → ScriptStopsAt script (take (end + used) script) (number + 1)
searches-stop script line end number used session searches less first here =
    let before = lines_of (take end script) in
    let rest = behind-first (drop end script) line used first in
    record {
      before = before;
      line = line;
      behind = rest.0;
      lines_are = ap lines_of (sym (take-append-drop end script))
          ∙ (searches.whole less (drop end script) ∙ ap (λ l. before ++ l) rest.1);
      front_lines = lines-further script line end number used session searches less first;
      taken = searches.taken;
      refused = here;
      number_is = ap (λ n. n + 1) (sym searches.count);
    }
