-- Turns one after the other.
use Rattle.std.proofs.Common.{◌≡◌, ℕ, zero, suc, ◌+◌, ◌<◌, ◌≤◌, List, [], ◌∷◌, ◌++◌, Some, None, length, get_or, take, drop, refl, sym, ap, subst, ◌∙◌, arith, ◌≢◌, ◌⊎◌, inl, inr}
use Rattle.std.specs.Prelude.{Result, Ok, Err}
use Rattle.std.proofs.Math.Seq.{take-suc}
use Rattle.graph_base.specs.declared.place.Place.{Place}
use Rattle.stream_lists.specs.Jobs.{Job}
use Rattle.stream_lists.specs.Ranges.{Where}
use Rattle.graph_runs.specs.Moments.{Moment}
use Rattle.graph_runs.specs.Answers.{TooBig, after_answer, after_turns, answer_of_turn, turn_tells}
use Rattle.graph_runs.specs.Beginnings.{opening}
use Rattle.stream_job.specs.Runs.{TellsNone, TellsTooBig}
use Rattle.stream_job.specs.Turning.{after_turn_of, met_by, told_of}
use Rattle.stream_job.specs.Worlds.{WorldState, IsWorldAt}
use Rattle.stream_job.specs.declared.runs.RunTurnsFault.{RunTurnsFault}
use Rattle.stream_job.specs.declared.runs.RunTurnsFault.TheVariants as fault
use Rattle.stream_job.specs.declared.turned.Turned.{Turned}
use Rattle.stream_job.specs.declared.turned.Turned.TheVariants as turned

-- one turn more
one_turn_more : (job : Job) (m : Moment) (ts : List ℕ) (t : ℕ)
    → after_turns job m (ts ++ t ∷ [])
    ≡ after_answer job (answer_of_turn job (after_turns job m ts) t) (after_turns job m ts)
one_turn_more job m [] t = refl
one_turn_more job m (u ∷ ts) t =
    one_turn_more job (after_answer job (answer_of_turn job m u) m) ts t

-- where no value was out of range, a turn makes its event
after_turn_is : (world : WorldState) (m : Moment) (t : ℕ) → world.met ≡ None
    → after_turn_of world m t ≡ after_answer world.job (answer_of_turn world.job m t) m
after_turn_is world m t none = rw none refl

-- a turn that tells no value out of range leaves none
pub none_met : (told : Turned)
    → ((p : Place) (n : ℕ) → told ≡ turned.TooBig p n → ⊥) → met_by None told ≡ None
none_met turned.Moved never = refl
none_met turned.Blocked never = refl
none_met turned.Ended never = refl
none_met turned.Gone never = refl
none_met (turned.TooBig p n) never = absurd (never p n refl)

-- the world after one turn more
pub after_one_more : (job : Job) (turns : List ℕ) (i : ℕ) (old new : WorldState)
    → i < length turns → old.job ≡ job → new.job ≡ old.job → old.met ≡ None
    → IsWorldAt old (after_turns job (opening job) (take i turns))
    → ((m : Moment) → IsWorldAt old m → IsWorldAt new (after_turn_of old m (get_or turns i 0)))
    → IsWorldAt new (after_turns job (opening job) (take (i + 1) turns))
after_one_more job turns i old new lt same kept none at after =
    let t = get_or turns i 0 in
    let m = after_turns job (opening job) (take i turns) in
    let listed : take (i + 1) turns ≡ take i turns ++ t ∷ [] =
    ap (λ n. take n turns) (let one : i + 1 ≡ suc i = omega arith in one)
    ∙ take-suc turns i 0 lt in
    let there : after_turn_of old m t ≡ after_turns job (opening job) (take (i + 1) turns) =
    after_turn_is old m t none
    ∙ ap (λ j. after_answer j (answer_of_turn j m t) m) same
    ∙ sym (one_turn_more job (opening job) (take i turns) t)
    ∙ ap (after_turns job (opening job)) (sym listed) in
    rw there at (after m at)

-- what a world that met nothing is told
pub told_here : (job : Job) (world : WorldState) (m : Moment) (t : ℕ) (told : Turned)
    → world.job ≡ job → world.met ≡ None
    → turn_tells world.job world.met m t ≡ Some (told_of told)
    → turn_tells job None m t ≡ Some (told_of told)
told_here job world m t told same none tells =
    sym (ap (λ j. turn_tells j None m t) same)
    ∙ sym (ap (λ o. turn_tells world.job o m t) none) ∙ tells

-- all of a list
pub take_all : (xs : List ℕ) (n : ℕ) → length xs ≤ n → take n xs ≡ xs
take_all [] zero le = refl
take_all [] (suc n) le = refl
take_all (x ∷ xs) zero le = absurd (omega arith)
take_all (x ∷ xs) (suc n) le = ap (λ l. x ∷ l) (take_all xs n (omega arith))

-- a list with an end of one is cut before its end, or there
at_end : (xs before after : List ℕ) (x t : ℕ) → xs ++ x ∷ [] ≡ before ++ t ∷ after
    → ((rest : List ℕ) × (xs ≡ before ++ t ∷ rest)) ⊎ ((xs ≡ before) × (x ≡ t))
at_end [] [] after x t e = let same : x ≡ t = cc in inr (refl, same)
at_end [] (b ∷ []) after x t e =
    absurd (let wrong : [] ≡ t ∷ after = cc in cc)
at_end [] (b ∷ c ∷ before) after x t e =
    absurd (let wrong : [] ≡ c ∷ (before ++ t ∷ after) = cc in cc)
at_end (y ∷ xs) [] after x t e =
    let same : y ≡ t = cc in inl (xs, ap (λ z. z ∷ xs) same)
at_end (y ∷ xs) (b ∷ before) after x t e =
    let head : y ≡ b = cc in
    let tail : xs ++ x ∷ [] ≡ before ++ t ∷ after = cc in
    by head (at_end xs before after x t tail)
  where
    by : y ≡ b → ((rest : List ℕ) × (xs ≡ before ++ t ∷ rest)) ⊎ ((xs ≡ before) × (x ≡ t))
        → ((rest : List ℕ) × (y ∷ xs ≡ b ∷ (before ++ t ∷ rest)))
        ⊎ ((y ∷ xs ≡ b ∷ before) × (x ≡ t))
    by head (inl early) = inl (early.0, ap (λ l. y ∷ l) early.1 ∙ ap (λ z. z ∷ (before ++ t ∷ early.0)) head)
    by head (inr last) = inr (ap (λ l. y ∷ l) last.0 ∙ ap (λ z. z ∷ before) head, last.1)

-- no turns tell nothing
pub none_tell : (job : Job) → TellsNone job []
none_tell job [] task after at e = absurd (cc)
none_tell job (b ∷ before) task after at e = absurd (cc)

-- one more turn that tells no value out of range
pub none_more : (job : Job) (turns : List ℕ) (i : ℕ) (told : Turned) → i < length turns
    → ((p : Place) (n : ℕ) → told ≡ turned.TooBig p n → ⊥)
    → turn_tells job None (after_turns job (opening job) (take i turns)) (get_or turns i 0)
    ≡ Some (told_of told)
    → TellsNone job (take i turns) → TellsNone job (take (i + 1) turns)
none_more job turns i told lt never tells none before task after at e =
    by (at_end (take i turns) before after (get_or turns i 0) task (sym listed ∙ e))
  where
    listed : take (i + 1) turns ≡ take i turns ++ get_or turns i 0 ∷ []
    listed =
        ap (λ n. take n turns) (let one : i + 1 ≡ suc i = omega arith in one)
        ∙ take-suc turns i 0 lt

    small : (told : Turned) → ((p : Place) (n : ℕ) → told ≡ turned.TooBig p n → ⊥)
        → Some (told_of told) ≢ Some (TooBig at)
    small turned.Moved never same = (cc)
    small turned.Blocked never same = (cc)
    small turned.Ended never same = (cc)
    small turned.Gone never same = (cc)
    small (turned.TooBig p n) never same = never p n refl

    by : ((rest : List ℕ) × (take i turns ≡ before ++ task ∷ rest))
        ⊎ ((take i turns ≡ before) × (get_or turns i 0 ≡ task))
        → turn_tells job None (after_turns job (opening job) before) task ≢ Some (TooBig at)
    by (inl early) = none before task early.0 at early.1
    by (inr last) = λ same.
        small told never (sym tells
        ∙ ap (λ l. turn_tells job None (after_turns job (opening job) l) (get_or turns i 0)) last.0
        ∙ ap (turn_tells job None (after_turns job (opening job) before)) last.1 ∙ same)

-- the turn that tells a value out of range
pub told_too_big : (job : Job) (turns : List ℕ) (i : ℕ) (world : WorldState) (p : Place) (n : ℕ)
    → i < length turns → world.job ≡ job → world.met ≡ None → TellsNone job (take i turns)
    → turn_tells world.job world.met (after_turns job (opening job) (take i turns))
    (get_or turns i 0) ≡ Some (TooBig (p, n))
    → TellsTooBig job turns (p, n)
told_too_big job turns i world p n lt same none before tells = record {
  before = take i turns;
  task = get_or turns i 0;
  after = drop (suc i) turns;
  are = split turns i lt;
  none = before;
  tells = sym (ap (λ j. turn_tells j None (after_turns job (opening job) (take i turns))
      (get_or turns i 0)) same)
      ∙ sym (ap (λ o. turn_tells world.job o (after_turns job (opening job) (take i turns))
      (get_or turns i 0)) none)
      ∙ tells;
}
  where
    split : (xs : List ℕ) (i : ℕ) → i < length xs
        → xs ≡ take i xs ++ get_or xs i 0 ∷ drop (suc i) xs
    split [] i lt = absurd (omega arith)
    split (x ∷ xs) zero lt = refl
    split (x ∷ xs) (suc i) lt = ap (λ l. x ∷ l) (split xs i (omega arith))

abbrev where_of : {W : Type 0} → Where → Result W RunTurnsFault → Where
where_of at (Ok world) = at
where_of at (Err (fault.TooBig p n)) = (p, n)
where_of at (Err fault.OutOfMemory) = at

-- what is told of a fault is told of an equal one
pub same_fault : {W : Type 0} (job : Job) (turns : List ℕ) (p q : Place) (n k : ℕ)
    (one other : Result W RunTurnsFault) → one ≡ Err (fault.TooBig p n)
    → other ≡ Err (fault.TooBig q k) → one ≡ other → TellsTooBig job turns (p, n)
    → TellsTooBig job turns (q, k)
same_fault job turns p q n k one other is are same tells =
    subst (TellsTooBig job turns) (ap (where_of (q, k)) (sym is ∙ same ∙ are)) tells
