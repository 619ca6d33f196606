-- The folder of a name that grows by a byte.
use Rattle.std.proofs.Common.{◌≡◌, ℕ, true, false, List, [], ◌∷◌, ◌++◌, ◌||◌, ap, ◌∙◌}
use Rattle.std.specs.Prelude.{if◌then◌else◌}
use Rattle.std.specs.List.{list_any}
use Rattle.std.proofs.Math.Bool.{or-true}
use Rattle.graph_commands.specs.Folders.{folder_of, is_slash}

any-slash : (xs : List ℕ) (b : ℕ) → is_slash b ≡ true → list_any is_slash (xs ++ b ∷ []) ≡ true
any-slash [] b e = ap (λ t. t || false) e
any-slash (x ∷ xs) b e = ap (λ t. is_slash x || t) (any-slash xs b e) ∙ or-true (is_slash x)

any-other : (xs : List ℕ) (b : ℕ) → is_slash b ≡ false
    → list_any is_slash (xs ++ b ∷ []) ≡ list_any is_slash xs
any-other [] b e = ap (λ t. t || false) e
any-other (x ∷ xs) b e = ap (λ t. is_slash x || t) (any-other xs b e)

-- by a slash: it is a folder
pub folder-slash : (xs : List ℕ) (b : ℕ) → is_slash b ≡ true → folder_of (xs ++ b ∷ []) ≡ xs ++ b ∷ []
folder-slash [] b e = ap (λ t. if t || false then b ∷ [] else []) e
folder-slash (x ∷ xs) b e =
    ap (λ t. if t then x ∷ folder_of (xs ++ b ∷ []) else []) (any-slash (x ∷ xs) b e)
    ∙ ap (λ ys. x ∷ ys) (folder-slash xs b e)

-- by another
pub folder-other : (xs : List ℕ) (b : ℕ) → is_slash b ≡ false → folder_of (xs ++ b ∷ []) ≡ folder_of xs
folder-other [] b e = ap (λ t. if t || false then b ∷ [] else []) e
folder-other (x ∷ xs) b e =
    ap (λ t. if t then x ∷ folder_of (xs ++ b ∷ []) else []) (any-other (x ∷ xs) b e)
    ∙ ap (λ ys. if list_any is_slash (x ∷ xs) then x ∷ ys else []) (folder-other xs b e)
