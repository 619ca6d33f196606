-- The lists of the phasers, one after the other.
use Rattle.std.proofs.Common.{◌≡◌, ℕ, ◌+◌, List, [], ◌∷◌, ◌++◌, ℤ, length, map, Some, None, refl, sym, ap, ◌∙◌, zero-add}
use Rattle.std.specs.Prelude.{Option, get_or}
use Rattle.std.specs.Option.{option_map}
use Rattle.std.specs.List.{range_with_len, find}
use Rattle.std.proofs.lemmas.List.FromFn.{map-range_with_len_more}
use Rattle.graph_base.specs.Graphs.{phaser_at}
use Rattle.stream_lists.specs.Jobs.{Job}
use Rattle.stream_lists.specs.Spans.{lengths_of, schedule_of}
use Rattle.stream_lists.specs.Lists.{Contribution, contributions_on, value_by, list_over, number, number_in, phase_in}
use Rattle.stream_lists.specs.Ranges.{Where, output_fault_of, phase_fault_of, is_fault, first_some, fault_over}
use Rattle.phase_accum.specs.declared.outcome.Outcome.{Outcome}
use Rattle.graph_base.specs.declared.place.Place.TheVariants as place
use Rattle.stream_lists.proofs.Firsts.{first-append_some, first-append_none}

-- the members' outputs are looked at before the phases
pub fault-member : (job : Job) (above : List (List ℤ)) (p : ℕ) (w : Where)
    → first_some (map (output_fault_of job (schedule_of job) above p)
    (range_with_len 0 (length job.graph.tasks))) ≡ Some w
    → fault_over job (schedule_of job) above p ≡ Some w
fault-member job above p w e = first-append_some
    (map (output_fault_of job (schedule_of job) above p)
    (range_with_len 0 (length job.graph.tasks)))
    (phase_fault_of job (schedule_of job) above p ∷ []) w e

-- and where none of them is out of range, the phases decide
pub fault-phase : (job : Job) (above : List (List ℤ)) (p : ℕ) (members : List Contribution)
    (value : List ℤ → Outcome) (found : Option ℕ)
    → first_some (map (output_fault_of job (schedule_of job) above p)
    (range_with_len 0 (length job.graph.tasks))) ≡ None
    → members ≡ contributions_on job (schedule_of job) above p
    → value ≡ value_by (phaser_at job.graph p).op
    → find (is_fault value job (schedule_of job) members p)
    (range_with_len 0 (get_or (lengths_of job) p 0)) ≡ found
    → fault_over job (schedule_of job) above p
    ≡ option_map (λ n. (place.Phaser p, n)) found
fault-phase job above p members value found none same value_is e =
    first-append_none (map (output_fault_of job (schedule_of job) above p)
    (range_with_len 0 (length job.graph.tasks)))
    (phase_fault_of job (schedule_of job) above p ∷ []) none
    ∙ (one (phase_fault_of job (schedule_of job) above p)
    ∙ ap (option_map (λ n. (place.Phaser p, n)))
    (ap (λ ms. find (is_fault (value_by (phaser_at job.graph p).op) job (schedule_of job) ms p)
    (range_with_len 0 (get_or (lengths_of job) p 0))) (sym same)
    ∙ (ap (λ v. find (is_fault v job (schedule_of job) members p)
    (range_with_len 0 (get_or (lengths_of job) p 0))) (sym value_is) ∙ e)))
  where
    one : (o : Option Where) → first_some (o ∷ []) ≡ o
    one None = refl
    one (Some w) = refl

-- one more number
pub numbers-more : (f : ℕ → ℤ) (list : List ℤ) (n : ℕ) (v : ℤ)
    → list ≡ map f (range_with_len 0 n) → v ≡ f n → list ++ v ∷ []
    ≡ map f (range_with_len 0 (n + 1))
numbers-more f list n v is v_is =
    ap (λ xs. xs ++ v ∷ []) is
    ∙ (ap (λ w. map f (range_with_len 0 n) ++ w ∷ []) v_is
    ∙ sym (map-range_with_len_more f 0 n n (zero-add n)))

-- the numbers of the phases
pub map-number : (value : List ℤ → Outcome) (job : Job) (p : ℕ) (members : List Contribution)
    (ns : List ℕ)
    → map number (map (phase_in value job p members) ns) ≡ map (number_in value job p members) ns
map-number value job p members [] = refl
map-number value job p members (n ∷ ns) =
    ap (λ vs. number_in value job p members n ∷ vs) (map-number value job p members ns)

-- the numbers of a phaser's list
pub list-over : (job : Job) (above : List (List ℤ)) (p : ℕ) (members : List Contribution)
    (value : List ℤ → Outcome) (list : List ℤ)
    → members ≡ contributions_on job (schedule_of job) above p
    → value ≡ value_by (phaser_at job.graph p).op
    → list ≡ map (number_in value job p members) (range_with_len 0 (get_or (lengths_of job) p 0))
    → list ≡ map number (list_over job (schedule_of job) above p)
list-over job above p members value list same value_is is =
    let phases = range_with_len 0 (get_or (lengths_of job) p 0) in
    let all = contributions_on job (schedule_of job) above p in
    is
    ∙ (ap (λ ms. map (number_in value job p ms) phases) same
    ∙ (ap (λ v. map (number_in v job p all) phases) value_is
    ∙ sym (map-number (value_by (phaser_at job.graph p).op) job p all phases)))
