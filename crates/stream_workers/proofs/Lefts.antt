-- What the founders leave behind is what the end asks for.
use Rattle.std.proofs.Common.{◌≡◌, ℕ, zero, suc, ◌<◌, List, [], ◌∷◌, length, map, Option, Some, refl, sym, ap, subst, ◌∙◌, arith}
use Rattle.std.specs.Global.{Global}
use Rattle.std.specs.Prelude.{Vec, slice_get, get_or}
use Rattle.std.proofs.lemmas.Option.{same_Some}
use Rattle.stream_lists.specs.Jobs.{Job}
use Rattle.stream_members.specs.Members.{Spot}
use Rattle.stream_members.specs.AnyMembers.{left_in}
use Rattle.stream_members.specs.declared.any_left.AnyLeft.{AnyLeft}
use Rattle.graph_runs.specs.TaskEnds.{HasFoundedAndLeft}
use Rattle.stream_tasks.specs.Openings.{HaveFoundersLeft}
use Rattle.stream_tasks.specs.declared.opening.founder.FounderLeft.{FounderLeft}
use Rattle.stream_tasks.specs.TaskLefts.{AreFoundersLeft}

-- ---- lists

get_map : {X Y : Type 0} (f : X → Y) (xs : List X) (p : ℕ) (x : X) → slice_get xs p ≡ Some x
    → slice_get (map f xs) p ≡ Some (f x)
get_map f [] p x e = absurd (cc)
get_map f (y ∷ xs) zero x e = ap (λ z. Some (f z)) (same_Some y x e)
get_map f (y ∷ xs) (suc p) x e = get_map f xs p x e

or_map : {X Y : Type 0} (f : X → Y) (xs : List X) (p : ℕ) (x : X) (d : Y) → slice_get xs p ≡ Some x
    → get_or (map f xs) p d ≡ f x
or_map f [] p x d e = absurd (cc)
or_map f (y ∷ xs) zero x d e = ap f (same_Some y x e)
or_map f (y ∷ xs) (suc p) x d e = or_map f xs p x d e

some_at : {X : Type 0} (xs : List X) (p : ℕ) → p < length xs → (x : X) × (slice_get xs p ≡ Some x)
some_at [] p lt = absurd (omega arith)
some_at (y ∷ xs) zero lt = (y, refl)
some_at (y ∷ xs) (suc p) lt = some_at xs p (omega arith)

-- ---- founders

-- the founders' lefts, with the numbers that they gave
pub are_founders : (job : Job) (spots : ℕ → Spot) (founders : List FounderLeft)
    → HaveFoundersLeft job spots founders
    → AreFoundersLeft job spots (map (λ founder. Some founder.left) founders)
    (λ p. get_or (map (λ founder. founder.gave.items) founders) p [])
are_founders job spots founders have p lt =
    let many = have.many in
    let found = some_at founders p (omega arith) in
    let one = found.0 in
    let is = have.each p one found.1 in
    let gave : get_or (map (λ founder. founder.gave.items) founders) p [] ≡ one.gave.items =
    or_map (λ founder. founder.gave.items) founders p one [] found.1 in (
      one.left,
      get_map (λ founder. Some founder.left) founders p one found.1,
      record {
        is_left = record {
          op = is.line.op_is;
          at = is.at;
          limits = is.line.limits_are;
          numbers_are = is.numbers;
        };
        legal = is.legal;
        founds = subst
            (λ g. HasFoundedAndLeft (record { number = 0; gave = g; seen = (left_in one.left).seen }))
            (sym gave) is.founded;
      },
    )

-- the numbers that they gave, list by list
lists_of : (xs : List FounderLeft)
    → map (λ g. g.items) (map (λ founder. founder.gave) xs)
    ≡ map (λ founder. founder.gave.items) xs
lists_of [] = refl
lists_of (x ∷ xs) = ap (λ more. x.gave.items ∷ more) (lists_of xs)

-- the founders' lefts of the job that is meant, as the code keeps them
pub founders_are : (job same : Job) (spots : ℕ → Spot) (founders : List FounderLeft)
    (lefts : List (Option AnyLeft)) (gave : List (Vec ℕ Global)) → job ≡ same
    → lefts ≡ map (λ founder. Some founder.left) founders
    → gave ≡ map (λ founder. founder.gave) founders → HaveFoundersLeft same spots founders
    → AreFoundersLeft job spots lefts (λ p. get_or (map (λ g. g.items) gave) p [])
founders_are job same spots founders lefts gave e lefts_are gave_are have =
    subst (λ j. AreFoundersLeft j spots lefts (λ p. get_or (map (λ g. g.items) gave) p [])) (sym e)
    (subst (λ xs. AreFoundersLeft same spots xs (λ p. get_or (map (λ g. g.items) gave) p []))
    (sym lefts_are)
    (subst (λ xs. AreFoundersLeft same spots (map (λ founder. Some founder.left) founders)
    (λ p. get_or xs p [])) (sym (ap (map (λ g. g.items)) gave_are ∙ lists_of founders))
    (are_founders same spots founders have)))
