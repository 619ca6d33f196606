-- Names that an `IndexMap` keeps, looked up by their bytes.
use Rattle.std.proofs.Common.{ℕ, ◌≡◌, List, [], ◌∷◌, ◌++◌, refl, ap, ◌∙◌, Bool, true, false, cond, Some, None, string_bytes, String, Global}
use Rattle.std.specs.Map.{lookup}
use Rattle.std.specs.Str.{bytes_eq}
use Rattle.std.specs.String.{string_eq}
use Rattle.indexmap.specs.IndexMap.{insert_entry}
use Rattle.graph_base.specs.Names.{place_of, names_of}
use Rattle.graph_base.specs.declared.place.Place.{Place}

-- names with their places, as the map keeps them
abbrev Entries : Type 0
Entries = List (String Global × Place)

pub lookup_is : (name : List ℕ) (entries : Entries)
    → lookup (λ k. bytes_eq name (string_bytes k)) entries ≡ place_of (names_of entries) name
lookup_is name [] = refl
lookup_is name (e ∷ es) =
    ap (cond (bytes_eq name (string_bytes e.0)) (Some e.1)) (lookup_is name es)

-- a name that is not there goes last
pub goes_last : (key : String Global) (p : Place) (entries : Entries)
    → place_of (names_of entries) (string_bytes key) ≡ None
    → names_of (insert_entry string_eq entries key p)
    ≡ names_of entries ++ (string_bytes key, p) ∷ []
goes_last key p [] none = refl
goes_last key p (e ∷ es) none =
    at (goes_last key p es) (bytes_eq (string_bytes key) (string_bytes e.0)) refl none
  where
    at : (place_of (names_of es) (string_bytes key) ≡ None
        → names_of (insert_entry string_eq es key p) ≡ names_of es ++ (string_bytes key, p) ∷ [])
        → (b : Bool) → bytes_eq (string_bytes key) (string_bytes e.0) ≡ b
        → cond b (Some e.1) (place_of (names_of es) (string_bytes key)) ≡ None
        → names_of (cond (bytes_eq (string_bytes key) (string_bytes e.0)) ((e.0, p) ∷ es)
        (e ∷ insert_entry string_eq es key p))
        ≡ (string_bytes e.0, e.1) ∷ (names_of es ++ (string_bytes key, p) ∷ [])
    at others true same none = absurd (cc)
    at others false same none =
        rw same (ap (λ es. (string_bytes e.0, e.1) ∷ es) (others none))

pub added : (name : List ℕ) (key : String Global) (p : Place) (old new : Entries)
    → string_bytes key ≡ name → place_of (names_of old) name ≡ None
    → new ≡ insert_entry string_eq old key p → names_of new ≡ names_of old ++ (name, p) ∷ []
added name key p old new is none e =
    let absent : place_of (names_of old) (string_bytes key) ≡ None = rw is none in
    ap names_of e ∙ goes_last key p old absent ∙ ap (λ n. names_of old ++ (n, p) ∷ []) is
