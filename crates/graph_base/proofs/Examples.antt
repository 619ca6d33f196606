-- Worked graphs, and that their lines are lines of a graph.
use Rattle.std.proofs.Common.{ℕ, ◌≡◌, ◌<◌, ◌≤◌, [], ◌∷◌, Some, None, true, refl, arith}
use Rattle.std.specs.List.{All, Contains}
use Rattle.std.proofs.lemmas.List.Elements.{All-cons, All-nil}
use Rattle.phase_base.specs.declared.operation.Op.TheVariants.{Sum}
use Rattle.graph_base.specs.declared.line.Kind.TheVariants.{Source, Decimate, Peer, Sink}
use Rattle.graph_base.specs.declared.place.Place.TheVariants as place
use Rattle.graph_base.specs.Graphs.{Graph, no_task, no_phaser, no_graph, name_at, sources_of, source_number, task_at, phaser_at}
use Rattle.graph_base.specs.TaskLines.{IsTaskLine}
use Rattle.graph_base.specs.Registrations.{registrations_of, signalled_by}
use Rattle.phase_base.specs.declared.mode.Mode.TheVariants as mode
use Rattle.phase_accum.specs.declared.single.Single.TheVariants.{Neg}

one : (P : ℕ → Type 0) (p : ℕ) → P p → All P (p ∷ [])
one P p holds = All-cons P p [] holds (All-nil P)

-- phaser X sum 4 / source s s.csv -> X / sink out X / sink late X by out at 2
abbrev late_sink : Graph
late_sink = record {
  names = (88 ∷ [], place.Phaser 0) ∷ (115 ∷ [], place.Task 0)
      ∷ (111 ∷ 117 ∷ 116 ∷ [], place.Task 1) ∷ (108 ∷ 97 ∷ 116 ∷ 101 ∷ [], place.Task 2) ∷ [];
  phasers = record { op = Sum; bound = 4; single = None } ∷ [];
  tasks = record no_task { line = 2; kind = Source; outputs = 0 ∷ [] }
      ∷ record no_task { line = 3; kind = Sink; inputs = 0 ∷ [] }
      ∷ record no_task {
        line = 4;
        kind = Sink;
        inputs = 0 ∷ [];
        parent = Some (record { task = 1; at = 2 });
        joins_now = true;
      }
      ∷ [];
  files = (115 ∷ 46 ∷ 99 ∷ 115 ∷ 118 ∷ []) ∷ [];
}

late_sink-names : name_at late_sink (place.Task 1) ≡ 111 ∷ 117 ∷ 116 ∷ []
late_sink-names = refl

late_sink-sources : sources_of late_sink ≡ 1
late_sink-sources = refl

-- its source is number 0, and one source stands above each of its sinks
late_sink-source : source_number late_sink.tasks 0 ≡ 0
late_sink-source = refl

late_sink-above : source_number late_sink.tasks 2 ≡ 1
late_sink-above = refl

-- the source signals X, which has no single
late_sink-first : IsTaskLine late_sink 0 (task_at late_sink 0)
late_sink-first = record {
  ends = (refl, refl);
  inputs = All-nil (λ p. p < 1);
  outputs = one (λ p. p < 1) 0 (omega arith);
  distinct = refl;
  in_order = All-nil (λ x. All (λ y. x < y) (0 ∷ []));
  exchange = tt;
  plain = one (λ y. (phaser_at late_sink y).single ≡ None) 0 refl;
  taps = (refl, refl);
  factor = refl;
  every = refl;
  until = tt;
  parent = tt;
  block = record {
    some = omega arith;
    kind = λ e. refl;
    inputs = All-nil (λ p. 1 ≤ (phaser_at late_sink p).bound);
    outputs = one (λ p. 1 ≤ (phaser_at late_sink p).bound) 0 (omega arith);
  };
  now = λ e. absurd (cc);
}

-- the late sink waits for X, as its parent does
late_sink-child : IsTaskLine late_sink 2 (task_at late_sink 2)
late_sink-child = record {
  ends = (refl, refl);
  inputs = one (λ p. p < 1) 0 (omega arith);
  outputs = All-nil (λ p. p < 1);
  distinct = refl;
  in_order = one (λ x. All (λ y. x < y) []) 0 (All-nil (λ y. 0 < y));
  exchange = tt;
  plain = All-nil (λ y. (phaser_at late_sink y).single ≡ None);
  taps = (refl, refl);
  factor = refl;
  every = refl;
  until = tt;
  parent = record {
    above = omega arith;
    steps = omega arith;
    kind = refl;
    child_kind = refl;
    waits = one (Contains (0 ∷ [])) 0 (0, omega arith, refl);
    signals = All-nil (Contains []);
    stays = refl;
  };
  block = record {
    some = omega arith;
    kind = λ e. refl;
    inputs = one (λ p. 1 ≤ (phaser_at late_sink p).bound) 0 (omega arith);
    outputs = All-nil (λ p. 1 ≤ (phaser_at late_sink p).bound);
  };
  now = λ e. (refl, refl);
}

-- phaser X sum 4 / phaser Y sum 4 / source s s.csv -> X / decimate d X -> Y every 3 / sink out Y
abbrev thinned : Graph
thinned = record no_graph {
  phasers = record { op = Sum; bound = 4; single = None }
      ∷ record { op = Sum; bound = 4; single = None } ∷ [];
  tasks = record no_task { line = 3; kind = Source; outputs = 0 ∷ [] }
      ∷ record no_task { line = 4; kind = Decimate; inputs = 0 ∷ []; outputs = 1 ∷ []; every = 3 }
      ∷ record no_task { line = 5; kind = Sink; inputs = 1 ∷ [] }
      ∷ [];
}

-- the decimator takes from X, signals Y, and has no taps, no factor, no parent and no block
thinned-line : IsTaskLine thinned 1 (task_at thinned 1)
thinned-line = record {
  ends = (refl, refl);
  inputs = one (λ p. p < 2) 0 (omega arith);
  outputs = one (λ p. p < 2) 1 (omega arith);
  distinct = refl;
  in_order = one (λ x. All (λ y. x < y) (1 ∷ [])) 0 (one (λ y. 0 < y) 1 (omega arith));
  exchange = tt;
  plain = one (λ y. (phaser_at thinned y).single ≡ None) 1 refl;
  taps = (refl, refl);
  factor = refl;
  every = (omega arith, omega arith);
  until = tt;
  parent = tt;
  block = record {
    some = omega arith;
    kind = λ e. refl;
    inputs = one (λ p. 1 ≤ (phaser_at thinned p).bound) 0 (omega arith);
    outputs = one (λ p. 1 ≤ (phaser_at thinned p).bound) 1 (omega arith);
  };
  now = λ e. absurd (cc);
}

-- ---- registrations

-- X, E without a single, Y, and F, which has one
abbrev four_phasers : Graph
four_phasers = record no_graph {
  phasers = no_phaser ∷ no_phaser ∷ no_phaser ∷ record no_phaser { single = Some Neg } ∷ [];
}

-- a peer waits on X, signals and waits on E, and signals Y
peer_registrations :
    registrations_of four_phasers (record no_task { kind = Peer; inputs = 0 ∷ 1 ∷ []; outputs = 2 ∷ [] })
    ≡ record { phaser = 0; mode = mode.Wait; input = Some 0; output = None }
    ∷ record { phaser = 1; mode = mode.SigWait; input = Some 1; output = Some 0 }
    ∷ record { phaser = 2; mode = mode.Sig; input = None; output = Some 1 }
    ∷ []
peer_registrations = refl

-- where E has a single, it may name it
peer_with_single :
    registrations_of four_phasers (record no_task { kind = Peer; inputs = 0 ∷ 3 ∷ []; outputs = 2 ∷ [] })
    ≡ record { phaser = 0; mode = mode.Wait; input = Some 0; output = None }
    ∷ record { phaser = 3; mode = mode.Single; input = Some 1; output = Some 0 }
    ∷ record { phaser = 2; mode = mode.Sig; input = None; output = Some 1 }
    ∷ []
peer_with_single = refl

peer_signals : signalled_by (record no_task { kind = Peer; inputs = 0 ∷ 1 ∷ []; outputs = 2 ∷ [] }) ≡ 1 ∷ 2 ∷ []
peer_signals = refl

-- a sink waits on X, and a source signals it
sink_registrations : registrations_of late_sink (task_at late_sink 2)
    ≡ record { phaser = 0; mode = mode.Wait; input = Some 0; output = None } ∷ []
sink_registrations = refl

source_registrations : registrations_of late_sink (task_at late_sink 0)
    ≡ record { phaser = 0; mode = mode.Sig; input = None; output = Some 0 } ∷ []
source_registrations = refl

-- a decimator waits on X and signals Y
decimator_registrations : registrations_of thinned (task_at thinned 1)
    ≡ record { phaser = 0; mode = mode.Wait; input = Some 0; output = None }
    ∷ record { phaser = 1; mode = mode.Sig; input = None; output = Some 0 }
    ∷ []
decimator_registrations = refl
