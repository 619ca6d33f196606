-- What a replay did, where the reader's bytes are known beforehand.
use Rattle.std.proofs.Common.{◌≡◌, ℕ, List, ◌++◌, None, Some, IfSome, ◌∙◌, ap, append-nil}
use Rattle.std.proofs.lemmas.Option.{IfSome_then}
use Rattle.std.specs.Io.KnownBytes.{Consumes, IsAtEnd}
use Rattle.std.specs.declared.option.Option.{Option}
use Rattle.watched_io.specs.States.{ReaderState, WriterState}
use Rattle.phase_replay.specs.Replay.{known_bytes, RepliesPrefix, RepliesWhole, ReplaysAll, ReplaysPrefix}

-- what was read and what is left are the script
consumed_is : (unread rest : Option (List ℕ)) (bs : List ℕ) → Consumes unread rest bs → IfSome unread (λ script. script ≡ bs ++ known_bytes rest)
consumed_is None rest bs p = tt
consumed_is (Some script) None bs p = absurd p
consumed_is (Some script) (Some left) bs p = p

-- at the end, what was read is the script
all_is : (unread rest : Option (List ℕ)) (bs : List ℕ) → Consumes unread rest bs → IsAtEnd rest → IfSome unread (λ script. script ≡ bs)
all_is None rest bs p q = tt
all_is (Some script) None bs p q = absurd p
all_is (Some script) (Some left) bs p q = p ∙ ap (λ l. bs ++ l) q ∙ append-nil bs

pub replayed_all : (unread rest : ReaderState) (old new : WriterState) → ReplaysAll unread rest old new → RepliesWhole unread old new
replayed_all unread rest old new replays =
    IfSome_then unread.unread (all_is unread.unread rest.unread replays.script replays.gives.read replays.ends)
    (λ script e. rw e (replays.short, replays.replied))

pub replayed_prefix : (unread rest : ReaderState) (old new : WriterState) → ReplaysPrefix unread rest old new → RepliesPrefix unread old new
replayed_prefix unread rest old new replays =
    IfSome_then unread.unread (consumed_is unread.unread rest.unread replays.script replays.gives.read) (λ script e. rw e replays.replied)
