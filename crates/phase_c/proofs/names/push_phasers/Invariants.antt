-- The names of the phasers before this one stand behind what was there.
use Rattle.std.proofs.Common.{◌≡◌, ◌++◌}
use Rattle.std.specs.List.{flat_map, range_with_len}
use Rattle.graph_base.specs.declared.place.Place.TheVariants as place
use Rattle.phase_c.specs.Names.{name_line}
use Rattle.phase_c.proofs.names.push_phasers.Given as goal

abbrev pub invariant-loop-p : goal.invariant-loop-p
invariant-loop-p l =
    l.names.items
    ≡ l.fn.names.items
    ++ flat_map (λ p. name_line l.graph (place.Phaser p)) (range_with_len 0 l.p)
