-- What a replayer owes, as it reads, answers and ends.
use Rattle.std.proofs.Common.{◌≡◌, ℕ, List, [], ◌∷◌, ◌++◌, length, take, refl, sym, ◌∙◌, ap, subst, append_assoc, append-nil, min, arith}
use Rattle.std.proofs.lemmas.List.{length-take, nil_from_length}
use Rattle.std.specs.declared.option.Option.{Option}
use Rattle.watched_io.specs.Prefix.{AppendsPrefix}
use Rattle.watched_io.proofs.Writing.{prefix_of_prefix}
use Rattle.std.proofs.Math.Seq.{take-nil}
use Rattle.phase_replay.specs.declared.replayer.Replayer.{Replayer}
use Rattle.phase_script.specs.Cuts.{HasNoLf}
use Rattle.phase_script.proofs.CutAtLf.{lines_after-prefix}
use Rattle.phase_script.specs.Lines.{lines_after, lines_of}
use Rattle.phase_base.specs.Lists.{without_cr}
use Rattle.phase_replay.specs.Replies.{replies, replies_of}
use Rattle.phase_replay.specs.Replayer.{ReplayerOwes}
use Rattle.phase_replay.specs.Scripts.{ScriptState, start, reply_line_of, after_line}
use Rattle.phase_replay.specs.Session.{SessionStands}
use Rattle.phase_replay.proofs.Cutting.{AreAnsweredAlike, kept_alike, take-kept_more}

-- a replayer that has read nothing owes the replies to the whole script
pub owes_all : (replayer : Replayer) (script : List ℕ) → SessionStands replayer.session start → replayer.kept ≡ [] → replayer.out.items ≡ [] → ReplayerOwes replayer script (replies_of script)
unfolding replies_of lines_of
owes_all replayer script stands kept out = record {
  state = start;
  prefix = [];
  stands = stands;
  kept = kept ∙ sym (take-nil 363);
  owed_is = ap (λ waiting. waiting ++ replies start (lines_after [] script)) (sym out);
}

-- where no byte of a line is kept, none has come
length-kept : (kept prefix : List ℕ) → kept ≡ take 363 prefix → length kept ≡ min 363 (length prefix)
length-kept kept prefix e = ap length e ∙ length-take 363 prefix

-- bytes of a line are kept
pub owes_more : (old new : Replayer) (bs later owed : List ℕ) → HasNoLf bs → new.session ≡ old.session → new.out ≡ old.out
    → new.kept ≡ take 363 (old.kept ++ bs) → ReplayerOwes old (bs ++ later) owed → ReplayerOwes new later owed
owes_more old new bs later owed none session out kept owes =
    let owed_is : owed ≡ old.out.items ++ replies owes.state (lines_after (owes.prefix ++ bs) later) =
    owes.owed_is ∙ ap (λ lines. old.out.items ++ replies owes.state lines) (lines_after-prefix owes.prefix bs later none) in
    record {
      state = owes.state;
      prefix = owes.prefix ++ bs;
      stands = subst (λ s. SessionStands s owes.state) (sym session) owes.stands;
      kept = kept ∙ ap (λ k. take 363 (k ++ bs)) owes.kept ∙ take-kept_more 363 owes.prefix bs;
      owed_is = rw out owed_is;
    }

-- the reply to a line stands behind the replies that waited
pub record Answers (old new : Replayer) (line : List ℕ) : Type 0 where
  pub reply : (state : ScriptState) → SessionStands old.session state → new.out.items ≡ old.out.items ++ reply_line_of state line
  pub after : (state : ScriptState) → SessionStands old.session state → SessionStands new.session (after_line state line)
  pub begun : new.kept ≡ []

-- a line that is answered as the whole line is
owes_next : (old new : Replayer) (state : ScriptState) (line whole later owed : List ℕ) → Answers old new line → AreAnsweredAlike state line whole
    → SessionStands old.session state → owed ≡ old.out.items ++ replies state (whole ∷ lines_after [] later) → ReplayerOwes new later owed
unfolding replies
owes_next old new state line whole later owed answers alike stands owed_is =
    let out : new.out.items ≡ old.out.items ++ reply_line_of state whole =
    answers.reply state stands ∙ ap (λ reply. old.out.items ++ reply) alike.reply in
    record {
      state = after_line state whole;
      prefix = [];
      stands = subst (SessionStands new.session) alike.after (answers.after state stands);
      kept = answers.begun ∙ sym (take-nil 363);
      owed_is = rw (out, append_assoc) owed_is;
    }

-- an LF ends the line that is kept
pub owes_answered : (old new : Replayer) (line later owed : List ℕ) → line ≡ without_cr old.kept → Answers old new line
    → ReplayerOwes old (10 ∷ later) owed → ReplayerOwes new later owed
owes_answered old new line later owed cut answers owes =
    let same : without_cr (take 363 owes.prefix) ≡ line = sym (cut ∙ ap without_cr owes.kept) in
    let alike : AreAnsweredAlike owes.state line (without_cr owes.prefix) =
    subst (λ l. AreAnsweredAlike owes.state l (without_cr owes.prefix)) same (kept_alike owes.state owes.prefix) in
    owes_next old new owes.state line (without_cr owes.prefix) later owed answers alike owes.stands owes.owed_is

-- an LF ends a line of which no byte was kept before
pub owes_answered_whole : (old new : Replayer) (line end later owed : List ℕ) → length old.kept ≡ 0 → HasNoLf end → line ≡ without_cr end
    → Answers old new line → ReplayerOwes old (end ++ 10 ∷ later) owed → ReplayerOwes new later owed
owes_answered_whole old new line end later owed empty none cut answers owes =
    let long = length-kept old.kept owes.prefix owes.kept in
    let no_prefix : owes.prefix ≡ [] = nil_from_length owes.prefix (omega arith) in
    let lines : lines_after owes.prefix (end ++ 10 ∷ later) ≡ without_cr end ∷ lines_after [] later =
    lines_after-prefix owes.prefix end (10 ∷ later) none ∙ ap (λ prefix. lines_after (prefix ++ end) (10 ∷ later)) no_prefix in
    let alike : AreAnsweredAlike owes.state line (without_cr end) = record {
      reply = ap (reply_line_of owes.state) cut;
      after = ap (after_line owes.state) cut;
    } in
    owes_next old new owes.state line (without_cr end) later owed answers alike owes.stands
    (owes.owed_is ∙ ap (λ l. old.out.items ++ replies owes.state l) lines)

-- a last piece that is not empty is answered as if an LF came
lines_after-last : (prefix : List ℕ) → (length prefix ≡ 0 → ⊥) → lines_after prefix [] ≡ lines_after prefix (10 ∷ [])
lines_after-last [] some = absurd (some refl)
lines_after-last (b ∷ bs) some = refl

-- an empty one is not
lines_after-none : (prefix : List ℕ) → length prefix ≡ 0 → lines_after prefix [] ≡ []
lines_after-none [] none = refl
lines_after-none (b ∷ bs) none = absurd (omega arith)

-- with no line begun and no byte to come, the replies that wait are all that is owed
pub owes_waiting : (replayer : Replayer) (owed : List ℕ) → length replayer.kept ≡ 0 → ReplayerOwes replayer [] owed → owed ≡ replayer.out.items
unfolding replies
owes_waiting replayer owed none owes =
    let long = length-kept replayer.kept owes.prefix owes.kept in
    let no_prefix : length owes.prefix ≡ 0 = omega arith in
    let no_lines = lines_after-none owes.prefix no_prefix in
    rw no_lines at owes.owed_is ∙ append-nil replayer.out.items

-- a line begun is answered at the end as if an LF came
pub owes_last : (old new : Replayer) (owed : List ℕ) → (length old.kept ≡ 0 → ⊥) → (ReplayerOwes old (10 ∷ []) owed → ReplayerOwes new [] owed) → new.kept ≡ []
    → ReplayerOwes old [] owed → owed ≡ new.out.items
owes_last old new owed some answered begun owes =
    let long = length-kept old.kept owes.prefix owes.kept in
    let some_prefix : length owes.prefix ≡ 0 → ⊥ = λ none. some (omega arith) in
    let ended : ReplayerOwes old (10 ∷ []) owed = record {
      state = owes.state;
      prefix = owes.prefix;
      stands = owes.stands;
      kept = owes.kept;
      owed_is = owes.owed_is ∙ ap (λ lines. old.out.items ++ replies owes.state lines) (lines_after-last owes.prefix some_prefix);
    } in
    owes_waiting new owed (ap length begun) (answered ended)

-- the replies that wait are a prefix of what is owed
pub owes_prefix : (old new : Option (List ℕ)) (replayer : Replayer) (waiting later owed : List ℕ) → waiting ≡ replayer.out.items → ReplayerOwes replayer later owed
    → AppendsPrefix old new waiting → AppendsPrefix old new owed
owes_prefix old new replayer waiting later owed e owes =
    prefix_of_prefix old new waiting (replies owes.state (lines_after owes.prefix later)) owed
    (owes.owed_is ∙ ap (λ l. l ++ replies owes.state (lines_after owes.prefix later)) (sym e))

-- a replayer that has read nothing, of a script that comes in one piece
pub owes_piece : (replayer : Replayer) (script : List ℕ) → ((script : List ℕ) → ReplayerOwes replayer script (replies_of script))
    → ReplayerOwes replayer (script ++ []) (replies_of script)
owes_piece replayer script owes = subst (λ later. ReplayerOwes replayer later (replies_of script)) (sym (append-nil script)) (owes script)
