-- What clap found in the words, as what they ask for.
use Rattle.std.proofs.Common.{◌≡◌, List, Bor, Option, Some, None, option_map, unwrap_or, ℕ, refl, ap, ap₂}
use Rattle.std.proofs.lemmas.Option.{none-some}
use Rattle.clap.specs.Words.{Row, Text}

abbrev Found : Type 0
Found = Text × List Row

abbrev name_in : Text → Option Text → Text
name_in other None = other
name_in other (Some name) = name

abbrev rows_in : List Row → Option (List Row) → List Row
rows_in other None = other
rows_in other (Some rows) = rows

-- a command's name and its rows are the command
pub found-both : (o : Option Found) (name : Text) (rows : List Row)
    → option_map (λ p. p.0) o ≡ Some name → option_map (λ p. p.1) o ≡ Some rows
    → o ≡ Some (name, rows)
found-both None name rows e f = absurd (none-some name e)
found-both (Some p) name rows e f =
    ap₂ (λ n r. Some (n, r)) (ap (name_in name) e) (ap (rows_in rows) f)

-- the name of what is found
pub found-name : {B : Type 0} (f : B → Found) (o : Option B)
    → option_map (λ (p : Found). p.0) (option_map f o) ≡ option_map (λ b. (f b).0) o
found-name f None = refl
found-name f (Some b) = refl

-- the text of a value, or of another
pub now-unwrap_or : (o : Option (Bor (List ℕ))) (other : Bor (List ℕ))
    → (unwrap_or o other).now ≡ unwrap_or (option_map (λ s. s.now) o) other.now
now-unwrap_or None other = refl
now-unwrap_or (Some s) other = refl
