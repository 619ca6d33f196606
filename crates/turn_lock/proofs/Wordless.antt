-- A rule that sees neither words nor the number that is told.
use Rattle.std.proofs.Common.{ℕ, Option, List}
use Rattle.turn_lock.specs.Steps.{Takes, GivesBack, Looks, Forks, Merges, Busy}
use Rattle.turn_lock.specs.WordSteps.{TakesOf, GivesOf, JoinLooks, ForksOf, MergesOf, BusyOf}

module _ {N T V : Type 0} (holds : N → Option T → List V → Type 0) (name : N) where
  -- the same rule of a lock with words
  abbrev pub with_words : N → Option T → ℕ → List ℕ → List V → Type 0
  with_words n home told words views = holds n home views

  pub takes : (k : ℕ) (v : V) (then : V → T → V → Type 0) → Takes holds name k v then → TakesOf with_words name k v then
  takes k v then step x told words views long = step x views

  pub gives : (k : ℕ) (v : V) (y : T) (told next : ℕ) (then : V → T → V → Type 0) → GivesBack holds name k v y then
      → GivesOf with_words name k v y told next then
  gives k v y told next then step words views long = step views

  pub looks : (k : ℕ) (v : V) (then : V → V → Type 0) → Looks holds name k v then → JoinLooks with_words name k v then
  looks k v then step home told words views long = step home views

  pub forks : (k : ℕ) (v left right : V) → Forks holds name k v left right → ForksOf with_words name k v left right
  forks k v left right step home told words views long = step home views

  pub merges : (k : ℕ) (v : V) (other : ℕ) (w both spent : V) → Merges holds name k v other w both spent
      → MergesOf with_words name k v other w both spent
  merges k v other w both spent step home told words views long = step home views

  pub busy : (v : V) → BusyOf with_words name v → Busy holds name v
  busy v b = record { views = b.views; number = b.number; holder = b.holder; kept = b.kept; here = b.here; other = b.other; there = b.there }
