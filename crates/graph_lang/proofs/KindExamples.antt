-- Lines with two faults, computed in the definitions: the earlier kind is the one that is told.
use Rattle.std.proofs.Common.{◌≡◌, ℕ, List, [], ◌∷◌, replicate, true, false, Some, None, refl, codes}
use Rattle.phase_base.specs.declared.operation.Op.TheVariants.{Sum}
use Rattle.phase_base.specs.Words.{Word}
use Rattle.graph_text.specs.Decls.{phaser, task, source, fir, decimate, join, peer, sink, abs, clamp, BodyWords, EndWords, FilterWords}
use Rattle.graph_text.specs.declared.version.Version.TheVariants.{Two, Three}
use Rattle.graph_base.specs.Graphs.{Graph, no_phaser, no_task}
use Rattle.graph_base.specs.declared.line.Kind.TheVariants.{Split, Decimate, Sink}
use Rattle.graph_base.specs.declared.place.Place.TheVariants as place
use Rattle.graph_lang.specs.Faults.{kind_of}
use Rattle.graph_lang.specs.declared.fault.FaultKind.TheVariants.{Limit, Twice, Unknown, OutBeforeIn, BadParent, NotHeld, OverBound}

-- phaser A sum 1 / phaser B sum 1 / phaser C sum 1 / split d A -> B C
abbrev before : Graph
before = record {
  names = (codes "A", place.Phaser 0) ∷ (codes "B", place.Phaser 1) ∷ (codes "C", place.Phaser 2)
      ∷ (codes "d", place.Task 0) ∷ [];
  phasers = no_phaser ∷ no_phaser ∷ no_phaser ∷ [];
  tasks = record no_task { line = 4; kind = Split; inputs = 0 ∷ []; outputs = 1 ∷ 2 ∷ [] } ∷ [];
  files = [];
}

abbrev no_ends : EndWords
no_ends = record { by = None; until = None; block = None }

-- by d at 0
abbrev by_splitter : EndWords
by_splitter = record no_ends {
  by = Some (record { parent = codes "d"; at = codes "0"; now = false });
}

-- by none at 0
abbrev by_none : EndWords
by_none = record no_ends {
  by = Some (record { parent = codes "none"; at = codes "0"; now = false });
}

-- block=N
abbrev with_block : Word → EndWords
with_block steps = record no_ends { block = Some steps }

-- shift S taps 1
abbrev shifted : Word → FilterWords
shifted shift = record {
  delay = None;
  shift = shift;
  plus = None;
  taps = codes "1" ∷ [];
  again = [];
  single = None;
}

-- fir f A -> B shift 0 taps 1, with what is said of it
abbrev plain : FilterWords
plain = shifted (codes "0")

abbrev filter : FilterWords → BodyWords
filter words = fir (codes "A") (codes "B") words

-- as many taps of 1
abbrev taps : ℕ → List Word
taps count = replicate count (codes "1")

-- ---- one fault

none : kind_of Two before (task (codes "s") (sink (codes "B")) no_ends) ≡ None
none = refl

not_held : kind_of Two (record before { tasks = record no_task { inputs = 0 ∷ [] } ∷ [] })
    (task (codes "s") (sink (codes "B")) by_splitter) ≡ Some NotHeld
not_held = refl

-- each phaser has a bound of 1
over_bound : kind_of Two before (task (codes "s") (sink (codes "B")) (with_block (codes "2")))
    ≡ Some OverBound
over_bound = refl

over_bound_of_output : kind_of Two before
    (task (codes "s") (source (codes "s.csv") (codes "B")) (with_block (codes "2")))
    ≡ Some OverBound
over_bound_of_output = refl

as_bound : kind_of Two before (task (codes "s") (sink (codes "B")) (with_block (codes "1"))) ≡ None
as_bound = refl

no_steps : kind_of Two before (task (codes "s") (sink (codes "B")) (with_block (codes "0")))
    ≡ Some Limit
no_steps = refl

too_many_steps : kind_of Two before
    (task (codes "s") (sink (codes "B")) (with_block (codes "99999999999999999999999")))
    ≡ Some Limit
too_many_steps = refl

-- the parent is a sink that joins now
parent_joins_now : kind_of Two (record before {
  tasks = record no_task { kind = Sink; inputs = 1 ∷ []; joins_now = true } ∷ [];
})
    (task (codes "s") (sink (codes "B")) by_splitter) ≡ Some BadParent
parent_joins_now = refl

-- a decimator puts one of 1 to 65,536 values
every_few : kind_of Three before
    (task (codes "e") (decimate (codes "A") (codes "B") (codes "1")) no_ends) ≡ None
every_few = refl

every_many : kind_of Three before
    (task (codes "e") (decimate (codes "A") (codes "B") (codes "65536")) no_ends) ≡ None
every_many = refl

every_none : kind_of Three before
    (task (codes "e") (decimate (codes "A") (codes "B") (codes "0")) no_ends) ≡ Some Limit
every_none = refl

every_too_many : kind_of Three before
    (task (codes "e") (decimate (codes "A") (codes "B") (codes "65537")) no_ends) ≡ Some Limit
every_too_many = refl

-- a filter has up to 64 taps, and in the third version up to 1,024
taps_of_two : kind_of Two before (task (codes "f") (filter (record plain { taps = taps 64 })) no_ends)
    ≡ None
taps_of_two = refl

more_in_two : kind_of Two before (task (codes "f") (filter (record plain { taps = taps 65 })) no_ends)
    ≡ Some Limit
more_in_two = refl

more_in_three : kind_of Three before
    (task (codes "f") (filter (record plain { taps = taps 1024 })) no_ends) ≡ None
more_in_three = refl

too_many_in_three : kind_of Three before
    (task (codes "f") (filter (record plain { taps = taps 1025 })) no_ends) ≡ Some Limit
too_many_in_three = refl

-- up to 64 taps weigh what it put, and none of them is past its limit
again_most : kind_of Three before
    (task (codes "f") (filter (record plain { again = taps 64 })) no_ends) ≡ None
again_most = refl

again_too_many : kind_of Three before
    (task (codes "f") (filter (record plain { again = taps 65 })) no_ends) ≡ Some Limit
again_too_many = refl

again_too_large : kind_of Three before
    (task (codes "f") (filter (record plain { again = codes "-2147483648" ∷ [] })) no_ends)
    ≡ Some Limit
again_too_large = refl

-- the newest sample that it weighs is at most 65,536 old
oldest : kind_of Three before
    (task (codes "f") (filter (record plain { delay = Some (codes "65536") })) no_ends) ≡ None
oldest = refl

too_old : kind_of Three before
    (task (codes "f") (filter (record plain { delay = Some (codes "65537") })) no_ends) ≡ Some Limit
too_old = refl

-- the ends of its clamp are a range
clamp_of_filter : kind_of Three before
    (task (codes "f") (filter (record plain { single = Some (clamp (codes "1") (codes "0")) })) no_ends)
    ≡ Some Limit
clamp_of_filter = refl

single_of_filter : kind_of Three before
    (task (codes "f") (filter (record plain { single = Some abs })) no_ends) ≡ None
single_of_filter = refl

-- the parent is a decimator
parent_decimates : kind_of Two (record before {
  tasks = record no_task { kind = Decimate; inputs = 0 ∷ []; outputs = 1 ∷ []; every = 2 } ∷ [];
})
    (task (codes "s") (sink (codes "A")) by_splitter) ≡ Some BadParent
parent_decimates = refl

-- ---- two

limit_twice : kind_of Two before (phaser (codes "A") Sum (codes "0") None) ≡ Some Limit
limit_twice = refl

limit_twice_task : kind_of Two before
    (task (codes "f") (fir (codes "A") (codes "A") (shifted (codes "63"))) no_ends)
    ≡ Some Limit
limit_twice_task = refl

twice_unknown : kind_of Two before (task (codes "A") (sink (codes "D")) no_ends) ≡ Some Twice
twice_unknown = refl

unknown_order : kind_of Two before (task (codes "j") (join (codes "D" ∷ codes "C" ∷ []) (codes "B")) no_ends)
    ≡ Some Unknown
unknown_order = refl

unknown_parent : kind_of Two before
    (task (codes "f") (fir (codes "C") (codes "B") (shifted (codes "0"))) by_none)
    ≡ Some Unknown
unknown_parent = refl

order_parent : kind_of Two before
    (task (codes "f") (fir (codes "C") (codes "B") (shifted (codes "0"))) by_splitter)
    ≡ Some OutBeforeIn
order_parent = refl

exchange_above : kind_of Two before
    (task (codes "p") (peer (codes "B") (codes "A") (codes "C") (codes "1")) no_ends)
    ≡ Some OutBeforeIn
exchange_above = refl

parent_held : kind_of Two before (task (codes "s") (sink (codes "B")) by_splitter) ≡ Some BadParent
parent_held = refl

held_over : kind_of Two (record before { tasks = record no_task { inputs = 0 ∷ [] } ∷ [] })
    (task (codes "s") (sink (codes "B")) (record by_splitter { block = Some (codes "2") }))
    ≡ Some NotHeld
held_over = refl

-- a clamp's ends are turned round, and the name is declared
clamp_twice : kind_of Two before
    (phaser (codes "A") Sum (codes "1") (Some (clamp (codes "1") (codes "0"))))
    ≡ Some Limit
clamp_twice = refl
