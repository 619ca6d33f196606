-- What is known of an answer.
use Rattle.std.proofs.Common.{◌≡◌, ◌⊎◌, inl, inr, Option, Some, None, refl, subst}
use Rattle.std.specs.Prelude.{Result, Ok, Err, IfOk, IfErr}
use Rattle.std.specs.Result.{result_ok}
use Rattle.phase_history.specs.Replies.{refused_or}
use Rattle.phase_shared.specs.declared.tried.Tried.{Tried}
use Rattle.phase_shared.specs.declared.tried.Tried.TheVariants.{Busy, Refused}
use Rattle.phase_shared.specs.Calls.{Tries, Refuses, tried}

-- a refused call met this refusal
pub refused_is : {A R : Type 0} (o : Option R) (answer : A) (refusal : R) → refused_or o answer ≡ Err refusal → o ≡ Some refusal
refused_is None answer refusal is = absurd (cc)
refused_is (Some other) answer refusal is = cc

-- a refused try in other words
pub Refuses-map : {R : Type 0} (same same' : Type 0) (call call' : R → Type 0) → (same → same') → ((refusal : R) → call refusal → call' refusal)
    → (tried : Tried R) → Refuses same call tried → Refuses same' call' tried
Refuses-map same same' call call' still answered Busy r = still r
Refuses-map same same' call call' still answered (Refused refusal) r = answered refusal r

-- a try in other words
pub Tries-map : {X R : Type 0} (same same' : Type 0) (call call' : Result X R → Type 0) → (same → same')
    → ((answer : Result X R) → call answer → call' answer)
    → (answer : Result X (Tried R)) → Tries same call answer → Tries same' call' answer
Tries-map same same' call call' still answered (Ok x) r = answered (Ok x) r
Tries-map same same' call call' still answered (Err tried) r =
    Refuses-map same same' (λ refusal. call (Err refusal)) (λ refusal. call' (Err refusal)) still (λ refusal. answered (Err refusal)) tried r

-- a try after which another is made: nothing came, or the call met this refusal
pub again : {X R : Type 0} (same : Type 0) (call : Result X R → Type 0) (early : R) (P : Type 0) (tried : Tried R)
    → (tried ≡ Busy) ⊎ (tried ≡ Refused early) → Tries same call (Err tried) → (same → P) → (call (Err early) → P) → P
again same call early P tried (inl is) r still answered = still (subst (Refuses same (λ refusal. call (Err refusal))) is r)
again same call early P tried (inr is) r still answered = answered (subst (Refuses same (λ refusal. call (Err refusal))) is r)

-- an answer of the core, as a try tells it
pub tries : {X R : Type 0} (same : Type 0) (call : Result X R → Type 0) (answer : Result X R) → call answer → Tries same call (tried answer)
tries same call (Ok x) is = is
tries same call (Err refusal) is = is

pub result_ok-tried : {X R : Type 0} (answer : Result X R) → result_ok (tried answer) ≡ result_ok answer
result_ok-tried (Ok x) = refl
result_ok-tried (Err refusal) = refl

pub tried_never_busy : {X R : Type 0} (answer : Result X R) → tried answer ≡ Err Busy → ⊥
tried_never_busy (Ok x) is = cc
tried_never_busy (Err refusal) is = cc

pub refused_as : {X R : Type 0} (answer : Result X R) (refusal : R) → tried answer ≡ Err (Refused refusal) → answer ≡ Err refusal
refused_as (Ok x) refusal is = absurd (cc)
refused_as (Err other) refusal is = cc

-- what is known of an answer, of whichever kind it is
pub either : {X R : Type 0} (P : Result X R → Type 0) (answer : Result X R) → IfOk answer (λ x. P (Ok x)) → IfErr answer (λ e. P (Err e)) → P answer
either P (Ok x) ok err = ok
either P (Err refusal) ok err = err
