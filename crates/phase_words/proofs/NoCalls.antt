-- Why words give no call, and what is known of words that do.
use Rattle.std.proofs.Common.{◌≡◌, ◌≢◌, ◌⊎◌, List, [], ◌∷◌, inl, inr, refl, rules, subst, sym, ◌∙◌}
use Rattle.clap.specs.Words.{HasKind, IsAmong, Kinds, Text, kind_of}
use Rattle.clap.specs.declared.error.Error.{Error}
use Rattle.clap.specs.declared.error.kind.ErrorKind.{ErrorKind}
use Rattle.clap.specs.declared.error.kind.ErrorKind.TheVariants as kind
use Rattle.phase_words.specs.CommandLine.{AreTaken, ExplainsNone, HasRefusal, HasShown, IsNoCall, IsShown, kinds_of}
use Rattle.phase_words.specs.ClapErrors.{IsToldBy}
use Rattle.phase_words.specs.declared.call.NoCall.{NoCall}
use Rattle.phase_words.specs.declared.call.NoCall.TheVariants as no_call

some-not-empty : (k : ErrorKind) (ks : Kinds) → k ∷ ks ≢ []
some-not-empty k ks = λ e. search rules

memory-not-shown : IsShown kind.OutOfMemory → ⊥
memory-not-shown (inl e) = search rules
memory-not-shown (inr e) = search rules

-- what is told of an error is why the words give no call
pub told-none : (kinds : Kinds) (error : Error) (none : NoCall) → HasKind kinds error
    → IsToldBy (kind_of error) none → ExplainsNone kinds none
told-none kinds error (no_call.Shown text) (inl memory) told =
    absurd (memory-not-shown (subst (λ (k : ErrorKind). IsShown k) memory told))
told-none kinds error (no_call.Shown text) (inr among) told =
    record { kind = kind_of error; among = among; shown = told }
told-none kinds error (no_call.Refused text) (inl memory) told = absurd (told.1 memory)
told-none kinds error (no_call.Refused text) (inr among) told = record { kind = kind_of error; among = among; other = told.0 }
told-none kinds error no_call.OutOfMemory has told = tt

pub told-no_call : (words : List Text) (error : Error) (none : NoCall) → HasKind (kinds_of words) error
    → IsToldBy (kind_of error) none → IsNoCall words none
told-no_call words error none has told = told-none (kinds_of words) error none has told

-- words with a kind of answer are not taken
none-among : (kinds : Kinds) (k : ErrorKind) → IsAmong k kinds → kinds ≡ [] → ⊥
none-among kinds k among taken = subst (λ (kinds : Kinds). IsAmong k kinds) taken among

pub shown-some : (kinds : Kinds) → HasShown kinds → kinds ≡ [] → ⊥
shown-some kinds has taken = none-among kinds has.kind has.among taken

pub refusal-some : (kinds : Kinds) → HasRefusal kinds → kinds ≡ [] → ⊥
refusal-some kinds has taken = none-among kinds has.kind has.among taken

-- kinds of which one alone is shown have no refusal
pub refusal-none-shown : (kinds : Kinds) (one : ErrorKind) → IsShown one → HasRefusal kinds → kinds ≡ one ∷ [] → ⊥
refusal-none-shown kinds one shown has alone = elim (subst (λ (kinds : Kinds). IsAmong has.kind kinds) alone has.among) [
  | inl is ↦ has.other (subst (λ (k : ErrorKind). IsShown k) (sym is) shown)
  | inr none ↦ none
]

-- and words of one kind of answer are not taken
pub one-some : (kinds : Kinds) (one : ErrorKind) → kinds ≡ one ∷ [] → kinds ≡ [] → ⊥
one-some kinds one alone taken = some-not-empty one [] (sym alone ∙ taken)

-- words are taken or not
pub none-or-some : (kinds : Kinds) → (kinds ≡ []) ⊎ (kinds ≡ [] → ⊥)
none-or-some [] = inl refl
none-or-some (k ∷ ks) = inr (some-not-empty k ks)

pub taken-or-not : (words : List Text) → AreTaken words ⊎ (AreTaken words → ⊥)
taken-or-not words = none-or-some (kinds_of words)
