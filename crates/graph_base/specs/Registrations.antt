-- What a task is registered for, on each of its phasers.
use Rattle.std.specs.Prelude.{ℕ, ◌≡◌, List, [], ◌∷◌, ◌++◌, map, get_or, Some, None, is_some, option_map, if◌then◌else◌}
use Rattle.std.specs.List.{enumerate_from, filter_map}
use Rattle.phase_base.specs.Modes.{mode_waits, mode_signals}
use Rattle.phase_base.specs.declared.mode.Mode.{Mode}
use Rattle.phase_base.specs.declared.mode.Mode.TheVariants as mode
use Rattle.graph_base.specs.Graphs.{Graph, Task, phaser_at}
use Rattle.graph_base.specs.declared.line.Kind.{Kind}
use Rattle.graph_base.specs.declared.line.Kind.TheVariants.{Peer}
use Rattle.graph_base.specs.declared.line.PhaserLine.{PhaserLine}
use Rattle.graph_base.specs.declared.registration.Registration.{Registration}

-- an input by its number and its phaser: the task waits there
abbrev pub as_input : ℕ × ℕ → Registration
as_input at = record { phaser = at.1; mode = mode.Wait; input = Some at.0; output = None }

-- an output by its number and its phaser: the task signals there
abbrev pub as_output : ℕ × ℕ → Registration
as_output at = record { phaser = at.1; mode = mode.Sig; input = None; output = Some at.0 }

-- the mode in which a peer exchanges on a phaser: it names the phaser's single where there is one
abbrev pub exchange_mode : PhaserLine → Mode
exchange_mode line = if is_some line.single then mode.Single else mode.SigWait

-- a peer's exchange on phaser e: the peer signals there, and then waits
abbrev pub as_exchange : Graph → ℕ → Registration
as_exchange graph e = record {
  phaser = e;
  mode = exchange_mode (phaser_at graph e);
  input = Some 1;
  output = Some 0;
}

-- each input of a task, and then each output
abbrev pub ends_of : Task → List Registration
ends_of task = map as_input (enumerate_from 0 task.inputs)
    ++ map as_output (enumerate_from 0 task.outputs)

-- the registrations of a task, in the order in which it makes them and drops them: its inputs, then
-- its outputs; a peer's are X, E and Y
abbrev pub registrations_of : Graph → Task → List Registration
registrations_of graph task = of task.kind
  where
    of : Kind → List Registration
    of Peer = as_input (0, get_or task.inputs 0 0) ∷ as_exchange graph (get_or task.inputs 1 0)
        ∷ as_output (1, get_or task.outputs 0 0) ∷ []
    of kind = ends_of task

-- a registration that is not there
abbrev pub no_registration : Registration
no_registration = record { phaser = 0; mode = mode.Wait; input = None; output = None }

-- the phasers that a task signals, in the order in which a step does: a peer's are E and Y
abbrev pub signalled_by : Task → List ℕ
signalled_by task = of task.kind
  where
    of : Kind → List ℕ
    of Peer = get_or task.inputs 1 0 ∷ get_or task.outputs 0 0 ∷ []
    of kind = task.outputs

-- the task waits where it has an input, and signals where it has an output
pub record HasItsMode (r : Registration) : Type 0 where
  pub waits : mode_waits r.mode ≡ is_some r.input
  pub signals : mode_signals r.mode ≡ is_some r.output

-- the inputs among registrations, each by its number and its phaser
abbrev pub inputs_among : List Registration → List (ℕ × ℕ)
inputs_among registrations =
    filter_map (λ r. option_map (λ k. (k, r.phaser)) r.input) registrations

-- the outputs among registrations, each by its number and its phaser
abbrev pub outputs_among : List Registration → List (ℕ × ℕ)
outputs_among registrations =
    filter_map (λ r. option_map (λ j. (j, r.phaser)) r.output) registrations
