-- The lists of a graph over whole numbers of any size: composed as in Lists, with no range.
use Rattle.std.specs.Prelude.{ℕ, ℤ, pos, List, [], ◌∷◌, ◌++◌, length, map, Option, Some, None, get_or}
use Rattle.std.specs.List.{range_with_len, fold}
use Rattle.phase_accum.specs.Values.{sum_of, product_of, least_of, greatest_of, single_of}
use Rattle.phase_accum.specs.declared.single.Single.{Single}
use Rattle.graph_base.specs.Graphs.{phaser_at}
use Rattle.phase_base.specs.declared.operation.Op.{Op}
use Rattle.phase_base.specs.declared.operation.Op.TheVariants.{Sum, Product, Least, Greatest, Any}
use Rattle.stream_lists.specs.Jobs.{Job}
use Rattle.stream_lists.specs.Lists.{Contribution, contributions_on, sends_in, sink_over, sinks_of}
use Rattle.stream_lists.specs.Spans.{Schedule, schedule_of}

-- numbers reduced by an operation. Of no numbers the least, the greatest and the first are none
abbrev pub exact_by : Op → List ℤ → Option ℤ
exact_by Sum vs = Some (sum_of vs)
exact_by Product vs = Some (product_of vs)
exact_by Least [] = None
exact_by Least (v ∷ vs) = Some (least_of v vs)
exact_by Greatest [] = None
exact_by Greatest (v ∷ vs) = Some (greatest_of v vs)
exact_by Any [] = None
exact_by Any (v ∷ vs) = Some v

-- a phaser's single applied to what its operation gives, and 0 where that gives none
abbrev pub exact_single : Option Single → Option ℤ → ℤ
exact_single single None = pos 0
exact_single None (Some v) = v
exact_single (Some single) (Some v) = single_of single v

-- phase n of phaser p with these members
abbrev pub exact_in : Job → ℕ → List Contribution → ℕ → ℤ
exact_in job p members n =
    exact_single (phaser_at job.graph p).single
    (exact_by (phaser_at job.graph p).op (sends_in members n))

-- the list of phaser p, over those of the phasers above it
abbrev pub exact_over : Job → Schedule → List (List ℤ) → ℕ → List ℤ
exact_over job schedule above p =
    map (exact_in job p (contributions_on job schedule above p))
    (range_with_len 0 (get_or schedule.lengths p 0))

-- the lists of the first n phasers
abbrev pub exact_up_to : Job → Schedule → ℕ → List (List ℤ)
exact_up_to job schedule n =
    fold (λ above p. above ++ exact_over job schedule above p ∷ []) [] (range_with_len 0 n)

-- the lists of all phasers
abbrev pub exact_lists : Job → List (List ℤ)
exact_lists job = exact_up_to job (schedule_of job) (length job.graph.phasers)

-- each sink with its values, in the order of the lines
abbrev pub exact_lines : Job → List (ℕ × List ℤ)
exact_lines job = map (sink_over job (schedule_of job) (exact_lists job)) (sinks_of job)
