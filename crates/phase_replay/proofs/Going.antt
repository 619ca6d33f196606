-- A replayer on its way: what is written, and what it owes still.
use Rattle.std.proofs.Common.{◌≡◌, ℕ, ◌+◌, ◌<◌, ◌≤◌, List, ◌∷◌, ◌++◌, length, take, drop, get_or, sym, ◌∙◌, ap, subst, append_assoc, take-append-drop, add-one, drop-cons, arith, length-drop, Some, None, refl, MatchOption}
use Rattle.std.specs.Io.KnownBytes.{Appends}
use Rattle.std.proofs.KnownBytes.{Appends-trans}
use Rattle.std.proofs.lemmas.List.{length-take}
use Rattle.std.specs.declared.option.Option.{Option}
use Rattle.watched_io.specs.Prefix.{AppendsPrefix}
use Rattle.phase_replay.specs.Replayer.{ReplayerOwes, Goes}
use Rattle.phase_replay.specs.declared.replayer.Replayer.{Replayer}

-- what is written is a prefix of what was owed
pub goes_stopped : (a b : Option (List ℕ)) (replayer : Replayer) (later owed : List ℕ) → Goes a b replayer later owed → AppendsPrefix a b owed
goes_stopped a b replayer later owed goes = (goes.sent, goes.rest, goes.whole, goes.appends)

-- a step further
pub goes_further : (a b c : Option (List ℕ)) (old new : Replayer) (later later' owed : List ℕ) → Goes a b old later owed
    → ((rest : List ℕ) → ReplayerOwes old later rest → Goes b c new later' rest) → Goes a c new later' owed
goes_further a b c old new later later' owed goes step =
    let next = step goes.rest goes.owes in
    record {
      sent = goes.sent ++ next.sent;
      rest = next.rest;
      whole = goes.whole ∙ ap (λ rest. goes.sent ++ rest) next.whole ∙ sym (append_assoc goes.sent next.sent next.rest);
      appends = Appends-trans a b c goes.sent next.sent goes.appends next.appends;
      owes = next.owes;
    }

-- a step that fails
pub goes_failed : (a b c : Option (List ℕ)) (replayer : Replayer) (later owed : List ℕ) → Goes a b replayer later owed
    → ((rest : List ℕ) → ReplayerOwes replayer later rest → AppendsPrefix b c rest) → AppendsPrefix a c owed
goes_failed a b c replayer later owed goes step =
    let last = step goes.rest goes.owes in (
      goes.sent ++ last.0,
      last.1,
      goes.whole ∙ ap (λ rest. goes.sent ++ rest) last.2 ∙ sym (append_assoc goes.sent last.0 last.1),
      Appends-trans a b c goes.sent last.0 goes.appends last.3,
    )

-- a step that writes nothing
pub goes_on : (a b : Option (List ℕ)) (old new : Replayer) (later later' owed : List ℕ) → Goes a b old later owed
    → ((rest : List ℕ) → ReplayerOwes old later rest → ReplayerOwes new later' rest) → Goes a b new later' owed
goes_on a b old new later later' owed goes step = record {
  sent = goes.sent;
  rest = goes.rest;
  whole = goes.whole;
  appends = goes.appends;
  owes = step goes.rest goes.owes;
}

-- bytes are those before an LF, the LF, and those behind it
cut_at : (bytes : List ℕ) (i : ℕ) → i < length bytes → get_or bytes i 0 ≡ 10 → bytes ≡ take i bytes ++ 10 ∷ drop (i + 1) bytes
cut_at bytes i h lf =
    let behind : drop i bytes ≡ 10 ∷ drop (i + 1) bytes = rw (add-one, drop-cons bytes i 0, lf) in
    sym (take-append-drop i bytes) ∙ ap (λ l. take i bytes ++ l) behind

-- a line that ends in what is left of a piece is answered
pub goes_answered : (a b : Option (List ℕ)) (old new : Replayer) (bytes : List ℕ) (i : ℕ) (later owed : List ℕ) → i < length bytes → get_or bytes i 0 ≡ 10
    → ((later rest : List ℕ) → ReplayerOwes old (take i bytes ++ 10 ∷ later) rest → ReplayerOwes new later rest)
    → Goes a b old (bytes ++ later) owed → Goes a b new (drop (i + 1) bytes ++ later) owed
goes_answered a b old new bytes i later owed h lf answered goes =
    let cut : bytes ++ later ≡ take i bytes ++ 10 ∷ (drop (i + 1) bytes ++ later) =
    ap (λ l. l ++ later) (cut_at bytes i h lf) ∙ append_assoc (take i bytes) (10 ∷ drop (i + 1) bytes) later in
    goes_on a b old new (bytes ++ later) (drop (i + 1) bytes ++ later) owed goes
    (λ rest owes. answered (drop (i + 1) bytes ++ later) rest (subst (λ l. ReplayerOwes old l rest) cut owes))

-- what is left of a piece is no longer than the piece
pub length-left : (n i limit : ℕ) (bytes : List ℕ) → length bytes ≤ limit → length (take n (drop i bytes)) ≤ limit
length-left n i limit bytes h = omega (arith, length-take n (drop i bytes), length-drop i bytes)

-- an answer that is not `Some`
pub none_said : {A : Type 0} (o : Option A) (P : Type 0) (Q : A → Type 0) → MatchOption o P Q → ((x : A) → o ≡ Some x → ⊥) → P
none_said None P Q p none = p
none_said (Some x) P Q p none = absurd (none x refl)

-- a step that writes all that was left
pub goes_ended : (a b c : Option (List ℕ)) (replayer : Replayer) (later owed : List ℕ) → Goes a b replayer later owed
    → ((rest : List ℕ) → ReplayerOwes replayer later rest → Appends b c rest) → Appends a c owed
goes_ended a b c replayer later owed goes step =
    subst (Appends a c) (sym goes.whole)
    (Appends-trans a b c goes.sent goes.rest goes.appends (step goes.rest goes.owes))
