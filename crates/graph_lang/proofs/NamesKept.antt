-- A new name leaves what the others stand for, and stands for what is new.
use Rattle.std.proofs.Common.{◌≡◌, ◌⊎◌, inl, inr, List, [], ◌∷◌, ◌++◌, Bool, true, false, cond, Some, None, refl, sym, ap, ◌∙◌, subst, bytes_eq, eq-eqb, All}
use Rattle.std.proofs.lemmas.List.Elements.{All-head, All-tail, All-push, All-weaker}
use Rattle.std.proofs.lemmas.Slice.Eq.{bytes_eq-Decides}
use Rattle.std.proofs.lemmas.Option.{same_Some}
use Rattle.phase_base.specs.Words.{Word, is_name}
use Rattle.graph_base.specs.Graphs.{Graph, Named, IsPlace, is_same_place, name_among}
use Rattle.graph_base.specs.Names.{place_of}
use Rattle.graph_base.specs.TaskLines.{AreNames}
use Rattle.graph_base.specs.declared.place.Place.{Place}
use Rattle.graph_base.specs.declared.place.Place.TheVariants as place

-- ---- what a name stands for

same_bytes : (x : Word) → bytes_eq x x ≡ true
same_bytes x = (bytes_eq-Decides x x).1 refl

pub place_of-append : (names more : List Named) (x : Word) (at : Place) → place_of names x ≡ Some at
    → place_of (names ++ more) x ≡ Some at
place_of-append [] more x at e = let clash : None ≡ Some at = e in absurd (cc)
place_of-append (n ∷ ns) more x at e = next (bytes_eq x n.0) (place_of-append ns more x at) e
  where
    next : (b : Bool) → (place_of ns x ≡ Some at → place_of (ns ++ more) x ≡ Some at)
        → cond b (Some n.1) (place_of ns x) ≡ Some at
        → cond b (Some n.1) (place_of (ns ++ more) x) ≡ Some at
    next true rest e = e
    next false rest e = rest e

pub place_of-new : (names : List Named) (x : Word) (at : Place) → place_of names x ≡ None
    → place_of (names ++ (x, at) ∷ []) x ≡ Some at
place_of-new [] x at e = rw (same_bytes x) refl
place_of-new (n ∷ ns) x at e = next (bytes_eq x n.0) (place_of-new ns x at) e
  where
    next : (b : Bool) → (place_of ns x ≡ None → place_of (ns ++ (x, at) ∷ []) x ≡ Some at)
        → cond b (Some n.1) (place_of ns x) ≡ None
        → cond b (Some n.1) (place_of (ns ++ (x, at) ∷ []) x) ≡ Some at
    next true rest e = absurd (cc)
    next false rest e = rest e

-- a name that is found was there, or is the new one
pub place_of-push : (names : List Named) (name x : Word) (to at : Place)
    → place_of (names ++ (name, to) ∷ []) x ≡ Some at
    → (place_of names x ≡ Some at) ⊎ ((x ≡ name) × (to ≡ at))
place_of-push [] name x to at e = last (bytes_eq x name) refl e
  where
    last : (b : Bool) → bytes_eq x name ≡ b → cond b (Some to) None ≡ Some at
        → (place_of [] x ≡ Some at) ⊎ ((x ≡ name) × (to ≡ at))
    last true same e = inr ((bytes_eq-Decides x name).0 same, same_Some to at e)
    last false same e = absurd (cc)
place_of-push (n ∷ ns) name x to at e = next (bytes_eq x n.0) (place_of-push ns name x to at) e
  where
    next : (b : Bool)
        → (place_of (ns ++ (name, to) ∷ []) x ≡ Some at
        → (place_of ns x ≡ Some at) ⊎ ((x ≡ name) × (to ≡ at)))
        → cond b (Some n.1) (place_of (ns ++ (name, to) ∷ []) x) ≡ Some at
        → (cond b (Some n.1) (place_of ns x) ≡ Some at) ⊎ ((x ≡ name) × (to ≡ at))
    next true rest e = inl e
    next false rest e = rest e

-- what a name stands for is what some name stands for
pub place_of-All : (P : Place → Type 0) (names : List Named) (x : Word) (at : Place)
    → All (λ named. P named.1) names → place_of names x ≡ Some at → P at
place_of-All P [] x at all e = let clash : None ≡ Some at = e in absurd (cc)
place_of-All P (n ∷ ns) x at all e =
    next (bytes_eq x n.0) (place_of-All P ns x at (All-tail (λ named. P named.1) n ns all)) e
  where
    next : (b : Bool) → (place_of ns x ≡ Some at → P at)
        → cond b (Some n.1) (place_of ns x) ≡ Some at → P at
    next true rest e =
        subst P (same_Some n.1 at e) (All-head (λ named. P named.1) n ns all)
    next false rest e = rest e

-- ---- the name of a place

same_place : (at : Place) → is_same_place at at ≡ true
same_place (place.Phaser p) = eq-eqb p p refl
same_place (place.Task t) = eq-eqb t t refl

pub name_among-append : (names more : List Named) (at : Place)
    → is_name (name_among names at) ≡ true → name_among (names ++ more) at ≡ name_among names at
name_among-append [] more at is = let clash : false ≡ true = is in absurd (cc)
name_among-append (n ∷ ns) more at is =
    next (is_same_place n.1 at) (name_among-append ns more at) is
  where
    next : (b : Bool)
        → (is_name (name_among ns at) ≡ true → name_among (ns ++ more) at ≡ name_among ns at)
        → is_name (cond b n.0 (name_among ns at)) ≡ true
        → cond b n.0 (name_among (ns ++ more) at) ≡ cond b n.0 (name_among ns at)
    next true rest is = refl
    next false rest is = rest is

pub name_among-new : (names : List Named) (name : Word) (at : Place)
    → All (λ named. is_same_place named.1 at ≡ false) names
    → name_among (names ++ (name, at) ∷ []) at ≡ name
name_among-new [] name at none = rw (same_place at) refl
name_among-new (n ∷ ns) name at none =
    let Other : Named → Type 0 = λ named. is_same_place named.1 at ≡ false in
    rw (All-head Other n ns none) (name_among-new ns name at (All-tail Other n ns none))

-- ---- one more name

-- the new name is one of the grammar and stands for something new
pub record IsNewName (before : Graph) (name : Word) (to : Place) : Type 0 where
  pub is : is_name name ≡ true
  pub absent : place_of before.names name ≡ None
  pub new : (at : Place) → IsPlace before at → is_same_place at to ≡ false

new_name : (before : Graph) (name : Word) (to : Place) → AreNames before
    → IsNewName before name to → name_among (before.names ++ (name, to) ∷ []) to ≡ name
new_name before name to are new =
    let Other : Named → Type 0 = λ named. is_same_place named.1 to ≡ false in
    name_among-new before.names name to
    (All-weaker (λ named. IsPlace before named.1) Other (λ named. new.new named.1) before.names
    are.places)

old_name : (before : Graph) (more : List Named) (at : Place) → AreNames before
    → IsPlace before at → name_among (before.names ++ more) at ≡ name_among before.names at
old_name before more at are is = name_among-append before.names more at (are.names at is)

pub found-more : (before : Graph) (name : Word) (to : Place) → AreNames before
    → IsNewName before name to → (x : Word) (at : Place)
    → place_of (before.names ++ (name, to) ∷ []) x ≡ Some at
    → name_among (before.names ++ (name, to) ∷ []) at ≡ x
found-more before name to are new x at e = by (place_of-push before.names name x to at e)
  where
    by : (place_of before.names x ≡ Some at) ⊎ ((x ≡ name) × (to ≡ at))
        → name_among (before.names ++ (name, to) ∷ []) at ≡ x
    by (inl old) =
        old_name before ((name, to) ∷ []) at are
        (place_of-All (IsPlace before) before.names x at are.places old)
        ∙ are.found x at old
    by (inr (named, same)) =
        let Named_so : Place → Type 0 =
        λ at. name_among (before.names ++ (name, to) ∷ []) at ≡ name in
        subst Named_so same (new_name before name to are new) ∙ sym named

pub known-more : (before : Graph) (name : Word) (to : Place) → AreNames before
    → IsNewName before name to → (at : Place) → IsPlace before at ⊎ (to ≡ at)
    → place_of (before.names ++ (name, to) ∷ []) (name_among (before.names ++ (name, to) ∷ []) at)
    ≡ Some at
known-more before name to are new at (inl old) =
    ap (place_of (before.names ++ (name, to) ∷ [])) (old_name before ((name, to) ∷ []) at are old)
    ∙ place_of-append before.names ((name, to) ∷ []) (name_among before.names at) at
    (are.known at old)
known-more before name to are new at (inr same) =
    let Known : Place → Type 0 = λ at.
    place_of (before.names ++ (name, to) ∷ []) (name_among (before.names ++ (name, to) ∷ []) at)
    ≡ Some at in
    subst Known same (ap (place_of (before.names ++ (name, to) ∷ [])) (new_name before name to are new)
    ∙ place_of-new before.names name to new.absent)

pub names-more : (before : Graph) (name : Word) (to : Place) → AreNames before
    → IsNewName before name to → (at : Place) → IsPlace before at ⊎ (to ≡ at)
    → is_name (name_among (before.names ++ (name, to) ∷ []) at) ≡ true
names-more before name to are new at (inl old) =
    ap is_name (old_name before ((name, to) ∷ []) at are old) ∙ are.names at old
names-more before name to are new at (inr same) =
    let Is : Place → Type 0 = λ at.
    is_name (name_among (before.names ++ (name, to) ∷ []) at) ≡ true in
    subst Is same (ap is_name (new_name before name to are new) ∙ new.is)

-- a graph with one more phaser or task, of a new name
pub record AddsName (before after : Graph) (name : Word) (to : Place) : Type 0 where
  pub names : after.names ≡ before.names ++ (name, to) ∷ []
  pub here : IsPlace after to
  pub stays : (at : Place) → IsPlace before at → IsPlace after at
  pub among : (at : Place) → IsPlace after at → IsPlace before at ⊎ (to ≡ at)

pub AreNames-more : (before after : Graph) (name : Word) (to : Place) → AreNames before
    → IsNewName before name to → AddsName before after name to → AreNames after
AreNames-more before after name to are new adds =
    let Places : List Named → Type 0 = All (λ named. IsPlace after named.1) in
    let Found : List Named → Type 0 = λ names.
    (x : Word) (at : Place) → place_of names x ≡ Some at → name_among names at ≡ x in
    let Known : List Named → Type 0 = λ names.
    (at : Place) → IsPlace after at → place_of names (name_among names at) ≡ Some at in
    let Are : List Named → Type 0 = λ names.
    (at : Place) → IsPlace after at → is_name (name_among names at) ≡ true in
    let back = sym adds.names in
    record {
      places = subst Places back (All-push (λ named. IsPlace after named.1) before.names (name, to)
          (All-weaker (λ named. IsPlace before named.1) (λ named. IsPlace after named.1)
          (λ named. adds.stays named.1) before.names are.places) adds.here);
      found = subst Found back (found-more before name to are new);
      known = subst Known back (λ at is. known-more before name to are new at (adds.among at is));
      names = subst Are back (λ at is. names-more before name to are new at (adds.among at is));
    }
