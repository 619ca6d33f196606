-- The moment of the whole run: what each task that came has by its own moment, and one history a
-- phaser.
use Rattle.std.proofs.Common.{◌≡◌, ℕ, ◌<◌, ◌≤◌, true, List, [], Option, Some, None, length, slice_get, ℤ, refl, sym, ap, subst, ◌∙◌, arith, ◌⊎◌, inl, inr}
use Rattle.std.proofs.lemmas.Bool.{cases_lt}
use Rattle.std.proofs.lemmas.Option.{same_Some}
use Rattle.phase_history.specs.Histories.{History}
use Rattle.phase_base.specs.Lists.{is_in}
use Rattle.graph_base.specs.TaskLines.{IsGraph}
use Rattle.stream_lists.specs.Jobs.{Job}
use Rattle.graph_runs.specs.Moments.{Moment, IsRegistered, numbers_on}
use Rattle.graph_runs.proofs.Numbers.{in_numbers, from_numbers}
use Rattle.graph_runs.specs.Beginnings.{opening}
use Rattle.graph_runs.specs.Nexts.{registrations_at}
use Rattle.graph_runs.specs.TaskPlaces.{registration_at}
use Rattle.graph_runs.specs.TaskEnds.{TaskEnd, IsChildOf, FounderEnd}
use Rattle.graph_runs.specs.RunEnds.{Ends, HasCome, IsRegisteredOn}
use Rattle.graph_runs.specs.Stops.{HasRunSoFar, IsStop}
use Rattle.graph_runs.proofs.Owns.{IsFound, found_on, has_some, HasOwn, owns_as, HasNumber, has_number}

-- a task that never came, or one that came, with its end and a moment of its own
pub data Status (job : Job) (ends : Ends) (t : ℕ) : Type 0 where
  absent : ((end : TaskEnd) → HasCome ends t end → ⊥) → Status job ends t
  came : (end : TaskEnd) → HasCome ends t end → (m : Moment) → HasOwn job m end t
      → t < length job.graph.tasks → Status job ends t

abbrev pub number_by : {job : Job} {ends : Ends} {t : ℕ} → Status job ends t → ℕ → Option ℕ
number_by {t = t} (absent never) p = None
number_by {t = t} (came end is m own there) p = m.number p t

abbrev pub begun_by : {job : Job} {ends : Ends} {t : ℕ} → Status job ends t → ℕ
begun_by {t = t} (absent never) = 0
begun_by {t = t} (came end is m own there) = m.begun t

abbrev pub offset_by : {job : Job} {ends : Ends} {t : ℕ} → Status job ends t → ℕ
offset_by {job = job} {t = t} (absent never) = (opening job).offset t
offset_by {t = t} (came end is m own there) = m.offset t

abbrev pub taken_by : {job : Job} {ends : Ends} {t : ℕ} → Status job ends t → ℕ → List ℤ
taken_by {t = t} (absent never) k = []
taken_by {t = t} (came end is m own there) k = m.taken t k

abbrev pub put_by : {job : Job} {ends : Ends} {t : ℕ} → Status job ends t → ℕ → List ℤ
put_by {t = t} (absent never) j = []
put_by {t = t} (came end is m own there) j = m.put t j

pub same_end : (ends : Ends) (t : ℕ) (one two : TaskEnd) → HasCome ends t one → HasCome ends t two
    → one ≡ two
same_end ends t one two a b =
    let some : Some (Some one) ≡ Some (Some two) = sym a ∙ b in
    same_Some one two (same_Some (Some one) (Some two) some)

module _ (job : Job) (ends : Ends) (is : IsGraph job.graph) (r : IsStop job ends) where
  pub status : (t : ℕ) → Status job ends t
  status t = by (slice_get ends t) refl
    where
      by : (o : Option (Option TaskEnd)) → slice_get ends t ≡ o → Status job ends t
      by None e = absent (λ end has. (let no : None ≡ Some (Some end) = sym e ∙ has in cc))
      by (Some None) e =
          absent (λ end has. (let no : Some None ≡ Some (Some end) = sym e ∙ has in cc))
      by (Some (Some end)) e =
          let known = r.tasks t end e in
          came end e known.2.0 (owns_as job known.2.0 end t known.0 known.2.1) known.1

  -- the history of phaser p
  history_by : (p : ℕ) → (p < length job.graph.phasers) ⊎ (length job.graph.phasers ≤ p) → History
  history_by p (inl pp) = (r.agree.phasers p pp).1
  history_by p (inr beyond) = []

  pub whole_history : ℕ → History
  whole_history p = history_by p (cases_lt p (length job.graph.phasers))

  -- what holds of each phaser's history holds of these
  pub whole_has : (Q : ℕ → FounderEnd → History → Type 0)
      → ((p : ℕ) → (pp : p < length job.graph.phasers)
      → (founder : FounderEnd) × Q p founder (r.agree.phasers p pp).1)
      → (p : ℕ) → p < length job.graph.phasers
      → (founder : FounderEnd) × Q p founder (whole_history p)
  unfolding history_by whole_history
  whole_has Q each p pp = by (cases_lt p (length job.graph.phasers))
    where
      by : (c : (p < length job.graph.phasers) ⊎ (length job.graph.phasers ≤ p))
          → (founder : FounderEnd) × Q p founder (history_by p c)
      by (inl here) = each p here
      by (inr beyond) = absurd (omega arith)

  pub has_whole : (p : ℕ) → p < length job.graph.phasers
      → (founder : FounderEnd) × HasRunSoFar job ends p founder (whole_history p)
  has_whole = whole_has (λ p founder h. HasRunSoFar job ends p founder h)
      (λ p here. ((r.agree.phasers p here).0, (r.agree.phasers p here).2))

  abbrev pub whole : Moment
  whole = record {
    history = whole_history;
    number = λ p t. number_by (status t) p;
    offset = λ t. offset_by (status t);
    begun = λ t. begun_by (status t);
    taken = λ t k. taken_by (status t) k;
    put = λ t j. put_by (status t) j;
  }

  -- ---- numbers there, and registrations

  -- a number that a task has on a phaser is one of its registrations
  pub record IsNumbered (t p n : ℕ) : Type 0 where
    pub end : TaskEnd
    pub has_come : HasCome ends t end
    pub there : t < length job.graph.tasks
    pub m : Moment
    pub own : HasOwn job m end t
    pub numbered : m.number p t ≡ Some n
    pub i : ℕ
    pub on : IsRegisteredOn job ends t i p n (m.history p)

  -- of a task that came
  pub numbered_own : (t p n : ℕ) (end : TaskEnd) → HasCome ends t end
      → t < length job.graph.tasks → (m : Moment) → HasOwn job m end t
      → m.number p t ≡ Some n → IsNumbered t p n
  numbered_own t p n end e there m own at =
      let has : HasNumber job m end t p =
      has_number job m end t p own (found_on job t p is there (own.part.ran.lines p n at)) in
      let same : has.n ≡ n = same_Some has.n n (sym has.numbered ∙ at) in
      record {
        end = end;
        has_come = e;
        there = there;
        m = m;
        own = own;
        numbered = at;
        i = has.i;
        on = record {
          end = end;
          came = e;
          few = has.few;
          phaser = has.phaser;
          number = has.number ∙ ap (λ x. Some x) same;
          saw = has.saw;
        };
      }

  pub is_numbered : (t p n : ℕ) → whole.number p t ≡ Some n → IsNumbered t p n
  is_numbered t p n at = by (status t) at
    where
      by : (s : Status job ends t) → number_by s p ≡ Some n → IsNumbered t p n
      by (absent never) e = absurd (cc)
      by (came end has m own there) e = numbered_own t p n end has there m own e

  -- and a registration tells a number
  pub number_there : (t i p n : ℕ) (end : TaskEnd) → HasCome ends t end
      → i < length (registrations_at job t) → (registration_at job t i).phaser ≡ p
      → slice_get end.numbers i ≡ Some n → whole.number p t ≡ Some n
  number_there t i p n end has few here number = by (status t)
    where
      by : (s : Status job ends t) → number_by s p ≡ Some n
      by (absent never) = absurd (never end has)
      by (came other also m own there) =
          ap (λ q. m.number q t) (sym here) ∙ own.numbered i few
          ∙ ap (λ (e : TaskEnd). slice_get e.numbers i) (same_end ends t other end also has) ∙ number

  pub begun_there : (t : ℕ) (end : TaskEnd) → HasCome ends t end → whole.begun t ≡ end.begun
  begun_there t end has = by (status t)
    where
      by : (s : Status job ends t) → begun_by s ≡ end.begun
      by (absent never) = absurd (never end has)
      by (came other also m own there) =
          own.begun ∙ ap (λ (e : TaskEnd). e.begun) (same_end ends t other end also has)

  -- a task that came is registered
  pub registered_there : (t : ℕ) (end : TaskEnd) → HasCome ends t end → IsRegistered whole t
  registered_there t end has =
      let known = r.tasks t end has in
      let few : 0 < length (registrations_at job t) = has_some job t is known.1 in
      let first : IsFound job t (registration_at job t 0).phaser =
      record { i = 0; few = few; phaser = refl } in
      let own : HasOwn job known.2.0 end t = owns_as job known.2.0 end t known.0 known.2.1 in
      let number = has_number job known.2.0 end t (registration_at job t 0).phaser own first in (
        (registration_at job t 0).phaser,
        number.n,
        number_there t number.i (registration_at job t 0).phaser number.n end has number.few
            number.phaser number.number,
      )

  -- a number that a task gave to its child is the child's
  pub number_given : (t p a : ℕ) (end : TaskEnd) → HasCome ends t end → (m : Moment)
      → HasOwn job m end t → (c : ℕ) → IsChildOf job c t → m.number p c ≡ Some a
      → whole.number p c ≡ Some a
  number_given t p a end has m own c child at =
      let given = own.given c child in
      let f : IsFound job c p = found_on job c p is child.there (given.lines p a at) in
      let number : slice_get (end.given c) f.i ≡ Some a =
      sym (given.numbered f.i f.few) ∙ ap (λ q. m.number q c) f.phaser ∙ at in
      let has_u : HasCome ends child.parent.task end =
      subst (λ x. HasCome ends x end) (sym child.by) has in
      by f number (r.agree.children c child.parent end child.there child.has has_u)
    where
      by : (f : IsFound job c p) → slice_get (end.given c) f.i ≡ Some a
          → (end.given c ≡ [])
          ⊎ ((other : TaskEnd) × HasCome ends c other × (other.numbers ≡ end.given c))
          → whole.number p c ≡ Some a
      by f number (inl empty) =
          absurd (let no : None ≡ Some a = sym (ap (λ l. slice_get l f.i) empty) ∙ number in cc)
      by f number (inr other) =
          number_there c f.i p a other.0 other.1 f.few f.phaser
          (ap (λ l. slice_get l f.i) other.2 ∙ number)

  -- ---- the numbers on a phaser

  -- a task's number is among them
  pub number_among : (t p n : ℕ) → t < length job.graph.tasks → whole.number p t ≡ Some n
      → is_in n (numbers_on job whole p) ≡ true
  number_among t p n there at =
      in_numbers (whole.number p) 0 (length job.graph.tasks) t n (omega arith) (omega arith) at

  pub among_is : (p n : ℕ) → is_in n (numbers_on job whole p) ≡ true
      → (t : ℕ) × IsNumbered t p n
  among_is p n e =
      let f = from_numbers (whole.number p) 0 (length job.graph.tasks) n e in
      (f.0, is_numbered f.0 p n f.3)
