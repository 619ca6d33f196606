-- One element of a list is set: the others stay.
use Rattle.std.proofs.Common.{◌≡◌, ◌≢◌, ℕ, ℤ, zero, suc, ◌<◌, ◌≤◌, [], ◌∷◌, Bool, true, false, cond, eqb, eq-eqb, List, Some, length, get_or, slice_get, set, refl, sym, ap, subst, ◌∙◌, arith}
use Rattle.std.specs.Prelude.{Result, Ok, Err, OnOk, OnErr, IfOk, IfErr}
use Rattle.std.specs.Vec.{with_item}
use Rattle.std.specs.declared.vec.Vec.{Vec}
use Rattle.std.proofs.Props.{props}
use Rattle.std.proofs.lemmas.List.{get_or-set_same, get_or-set_other, length-set}
use Rattle.std.proofs.lemmas.Option.{slice_get-get_or, slice_get_within, slice_get_read, get_or_from_slice_get, same_Some}
use Rattle.std.proofs.lemmas.Bool.{eqb-true}
use Rattle.phase_history.specs.Histories.{History}
use Rattle.graph_base.specs.Graphs.{phaser_at}
use Rattle.stream_lists.specs.Jobs.{Job, with_samples}
use Rattle.graph_runs.specs.Moments.{limits_at}
use Rattle.graph_runs.specs.Turned.{with_at}
use Rattle.phase_any.specs.Phasers.{PhaserStandsFor}
use Rattle.phase_any.specs.declared.any_phaser.AnyPhaser.{AnyPhaser}
use Rattle.stream_job.specs.Machines.{HasCores}

-- the element that was set
pub slice_get-set_same : {X : Type 0} (xs : List X) (i : ℕ) (x y : X) → i < length xs
    → slice_get (set xs i x) i ≡ Some y → x ≡ y
slice_get-set_same xs i x y lt found =
    sym (get_or-set_same xs i x y lt) ∙ get_or_from_slice_get (set xs i x) i y y found

-- another one
pub slice_get-set_other : {X : Type 0} (xs : List X) (i j : ℕ) (x y : X) → j ≢ i
    → slice_get (set xs i x) j ≡ Some y → slice_get xs j ≡ Some y
slice_get-set_other xs i j x y other found =
    let within = slice_get_within (set xs i x) j y found in
    let long = length-set xs i x in
    let at : get_or xs j y ≡ y =
    sym (get_or-set_other xs i j x y other) ∙ get_or_from_slice_get (set xs i x) j y y found in
    slice_get-get_or xs j y (omega arith) ∙ ap (λ z. Some z) at

-- a core that is set has the history that is set
pub set_core : (job : Job) (history : ℕ → History) (cores : List AnyPhaser) (p : ℕ)
    (core : AnyPhaser) (h : History) → HasCores job history cores
    → p < length job.graph.phasers
    → PhaserStandsFor core (phaser_at job.graph p).op (limits_at job p) h
    → HasCores job (with_at p h history) (set cores p core)
set_core job history cores p core h has there stands = record {
  many = length-set cores p core ∙ has.many;
  each = λ q other found. by q other found (eqb q p) refl;
}
  where
    Stands : AnyPhaser → ℕ → History → Type 0
    Stands x q g = PhaserStandsFor x (phaser_at job.graph q).op (limits_at job q) g

    by : (q : ℕ) (other : AnyPhaser) → slice_get (set cores p core) q ≡ Some other
        → (b : Bool) → eqb q p ≡ b → Stands other q (with_at p h history q)
    by q other found true e =
        let same : p ≡ q = sym (eqb-true q p e) in
        let many = has.many in
        let it : core ≡ other =
        slice_get-set_same cores p core other (omega arith)
        (subst (λ n. slice_get (set cores p core) n ≡ Some other) (sym same) found) in
        let here : h ≡ with_at p h history q = sym (ap (λ b. cond b h (history q)) e) in
        subst (λ g. Stands other q g) here
        (subst (λ x. Stands x q h) it (subst (λ n. Stands core n h) same stands))
    by q other found false e =
        let apart : q ≢ p = λ same. (
        let yes : eqb q p ≡ true = ap (λ n. eqb n p) same ∙ eq-eqb p p refl in
        let wrong : true ≡ false = sym yes ∙ e in cc) in
        let there : history q ≡ with_at p h history q =
        sym (ap (λ b. cond b h (history q)) e) in
        subst (λ g. Stands other q g) there
        (has.each q other (slice_get-set_other cores p q core other apart found))

-- the cores have their histories whatever samples came
pub bare_cores : {job : Job} {history : ℕ → History} {cores : List AnyPhaser}
    (s : List (List ℤ)) → HasCores (with_samples s job) history cores → HasCores job history cores
bare_cores s has = record { many = has.many; each = has.each }

pub full_cores : {job : Job} {history : ℕ → History} {cores : List AnyPhaser}
    (s : List (List ℤ)) → HasCores job history cores → HasCores (with_samples s job) history cores
full_cores s has = record { many = has.many; each = has.each }

-- what holds where a call was accepted may be weakened there
pub on_ok : {A R : Type 0} {P Q : Type 0} (r : Result A R) → (P → Q) → OnOk r P → OnOk r Q
on_ok (Ok a) f p = f p
on_ok (Err e) f p = p

-- what was read of a list, twice
pub read_same : {X : Type 0} (xs : List X) (i : ℕ) (a b : X) → i < length xs → a ≡ get_or xs i a
    → b ≡ get_or xs i b → a ≡ b
read_same xs i a b lt first second =
    same_Some a b (sym (slice_get_read xs (length xs) i a refl lt first)
    ∙ slice_get_read xs (length xs) i b refl lt second)

-- a core whose history is as it was
pub same_cores : (job : Job) (history : ℕ → History) (p : ℕ) (cores : List AnyPhaser)
    → HasCores job (with_at p (history p) history) cores → HasCores job history cores
same_cores job history p cores has = record {
  many = has.many;
  each = λ q core found. subst (PhaserStandsFor core (phaser_at job.graph q).op (limits_at job q))
      (by q (eqb q p) refl) (has.each q core found);
}
  where
    by : (q : ℕ) (b : Bool) → eqb q p ≡ b → with_at p (history p) history q ≡ history q
    by q true e =
        let same : q ≡ p = eqb-true q p e in
        ap (λ b. cond b (history p) (history q)) e ∙ ap history (sym same)
    by q false e = ap (λ b. cond b (history p) (history q)) e

-- a list of which one element was set by what was read of it
pub set_read : {X : Type 0} (f : X → X) (old now : List X) (i : ℕ) (first second : X) → now ≡ old
    → i < length old → first ≡ get_or old i first → second ≡ get_or now i second
    → set now i (f second) ≡ set old i (f first)
set_read f old now i first second same lt one two =
    let it : second ≡ first =
    read_same old i second first lt (two ∙ ap (λ xs. get_or xs i second) same) one in
    ap (λ xs. set xs i (f second)) same ∙ ap (λ x. set old i (f x)) it

-- a core that was lent stands for the history of its phaser
pub lent_core : (job : Job) (history : ℕ → History) (cores : List AnyPhaser) (p : ℕ)
    (core : AnyPhaser) → HasCores job history cores → p < length job.graph.phasers
    → core ≡ get_or cores p core
    → PhaserStandsFor core (phaser_at job.graph p).op (limits_at job p) (history p)
lent_core job history cores p core has there lent =
    let many = has.many in
    has.each p core (slice_get_read cores (length cores) p core refl (omega arith) lent)

-- what holds where a call was refused may be weakened there
pub if_ok : {A B : Type 0} {P Q : A → Type 0} (r : Result A B) → ((x : A) → P x → Q x)
    → IfOk r P → IfOk r Q
if_ok (Ok x) then p = then x p
if_ok (Err e) then p = tt

pub if_err : {A R : Type 0} {P Q : R → Type 0} (r : Result A R) → ((e : R) → P e → Q e)
    → IfErr r P → IfErr r Q
if_err (Ok a) f p = p
if_err (Err e) f p = f e p

-- ---- a vector of which an element was set to what it was

-- a vector with other items, as many
abbrev with_these : {X Z : Type 0} (v : Vec X Z) (xs : List X) → (v.len ≡ length xs) × (v.len ≤ v.cap)
    → Vec X Z
with_these v xs ok = record {
  ptr = v.ptr;
  len = v.len;
  cap = v.cap;
  alloc = v.alloc;
  items = xs;
  ok = ok;
  small = v.small;
}

these_same : {X Z : Type 0} (v : Vec X Z) (xs ys : List X) → xs ≡ ys
    → (one : (v.len ≡ length xs) × (v.len ≤ v.cap)) (two : (v.len ≡ length ys) × (v.len ≤ v.cap))
    → with_these v xs one ≡ with_these v ys two
these_same v xs ys same one =
    subst (λ zs. (two : (v.len ≡ length zs) × (v.len ≤ v.cap))
    → with_these v xs one ≡ with_these v zs two) same
    (λ two. ap (with_these v xs) (is_fact one two))
  where
    is_fact : IsProp ((v.len ≡ length xs) × (v.len ≤ v.cap))
    is_fact = Prim.hlevel props

pub same_item : {X Z : Type 0} (v : Vec X Z) (i : ℕ) (x : X) → i < length v.items
    → x ≡ get_or v.items i x → with_item v i x ≡ v
same_item {X = X} v i x lt read =
    these_same v (set v.items i x) v.items (set_same v.items i x lt read) _ v.ok
  where
    set_same : (xs : List X) (i : ℕ) (x : X) → i < length xs → x ≡ get_or xs i x → set xs i x ≡ xs
    set_same [] i x lt e = refl
    set_same (y ∷ xs) zero x lt e = ap (λ z. z ∷ xs) e
    set_same (y ∷ xs) (suc i) x lt e = ap (λ zs. y ∷ zs) (set_same xs i x (omega arith) e)

-- what holds where a call was refused may be weakened there
pub on_err : {A R : Type 0} {P Q : Type 0} (r : Result A R) → (P → Q) → OnErr r P → OnErr r Q
on_err (Ok a) f p = p
on_err (Err e) f p = f p

-- what holds anyhow holds where a call was refused
pub err_of : {A R : Type 0} {P : Type 0} (r : Result A R) → P → OnErr r P
err_of (Ok a) p = tt
err_of (Err e) p = p
