-- Words that are refused: some kinds stand for them, and none is a call for help or for the version.
use Rattle.std.proofs.Common.{◌≡◌, Bool, true, false, [], ◌∷◌, inl, inr, sym, subst, ap, ◌∙◌}
use Rattle.std.specs.List.{list_any}
use Rattle.std.proofs.lemmas.Bool.{or_parts}
use Rattle.clap.specs.Words.{IsAmong, Kinds}
use Rattle.clap.specs.declared.error.kind.ErrorKind.{ErrorKind}
use Rattle.clap.specs.declared.error.kind.ErrorKind.TheVariants.{DisplayHelp, DisplayVersion}
use Rattle.phase_words.specs.CommandLine.{IsShown, Refuse}

-- whether a kind is shown
abbrev pub is_shown : ErrorKind → Bool
is_shown DisplayHelp = true
is_shown DisplayVersion = true
is_shown other = false

shown_is : (kind : ErrorKind) → IsShown kind → is_shown kind ≡ true
shown_is kind (inl help) = ap is_shown help
shown_is kind (inr version) = ap is_shown version

-- a kind that is shown is not among kinds of which none is
none_among : (kinds : Kinds) (kind : ErrorKind) → list_any is_shown kinds ≡ false → IsShown kind
    → IsAmong kind kinds → ⊥
none_among [] kind none shown among = among
none_among (one ∷ more) kind none shown (inl is) =
    let parts = or_parts (is_shown one) (list_any is_shown more) none in
    absurd (let b : true ≡ false = sym (shown_is kind shown) ∙ (ap is_shown is ∙ parts.0) in cc)
none_among (one ∷ more) kind none shown (inr rest) =
    none_among more kind (or_parts (is_shown one) (list_any is_shown more) none).1 shown rest

-- so words that have such kinds are refused
pub refused : (kinds : Kinds) (one : ErrorKind) (more : Kinds)
    → list_any is_shown (one ∷ more) ≡ false → kinds ≡ one ∷ more → Refuse kinds
refused kinds one more none e = (
  λ empty. let b : one ∷ more ≡ [] = sym e ∙ empty in cc,
  λ kind shown among.
      none_among (one ∷ more) kind none shown (subst (λ (kinds : Kinds). IsAmong kind kinds) e among),
)
