-- What a task is registered for: how many registrations it has, which one stands where, and that they
-- are its inputs and its outputs.
use Rattle.std.proofs.Common.{ℕ, suc, zero, ◌≡◌, ◌≢◌, ◌<◌, ◌≤◌, ◌+◌, ◌-◌, List, [], ◌∷◌, ◌++◌, length, map, get_or, Option, Some, None, refl, sym, ◌∙◌, ap, subst, arith, All}
use Rattle.std.specs.List.{enumerate_from}
use Rattle.std.proofs.lemmas.List.{length-append, length-map, map-append, append-nil, get_or-map, get_or_append_left, get_or-append_right}
use Rattle.std.proofs.lemmas.List.Elements.{filter_map-append, All-cons, All-nil, All-append}
use Rattle.std.proofs.lemmas.List.FromFn.{length-enumerate_from}
use Rattle.graph_base.specs.Graphs.{Graph, Task, phaser_at}
use Rattle.phase_accum.specs.declared.single.Single.{Single}
use Rattle.graph_base.specs.TaskLines.{HasEnds, IsTaskLine}
use Rattle.graph_base.specs.Registrations.{HasItsMode, as_input, as_output, as_exchange, ends_of, registrations_of, no_registration, signalled_by, inputs_among, outputs_among}
use Rattle.graph_base.specs.declared.line.Kind.{Kind}
use Rattle.graph_base.specs.declared.line.Kind.TheVariants.{Source, Fir, Split, Decimate, Join, Peer, Sink}
use Rattle.graph_base.specs.declared.registration.Registration.{Registration}

-- ---- of a task that is no peer

pub registrations-plain : (graph : Graph) (task : Task) → task.kind ≢ Peer → registrations_of graph task ≡ ends_of task
registrations-plain graph task other = by task.kind refl
  where
    by : (kind : Kind) → task.kind ≡ kind → registrations_of graph task ≡ ends_of task
    by Source e = rw e refl
    by Fir e = rw e refl
    by Split e = rw e refl
    by Decimate e = rw e refl
    by Join e = rw e refl
    by Peer e = absurd (other e)
    by Sink e = rw e refl

-- element number i, with its number
get_or-enumerate_from : (n : ℕ) (ps : List ℕ) (i : ℕ) → i < length ps
    → get_or (enumerate_from n ps) i (0, 0) ≡ (n + i, get_or ps i 0)
get_or-enumerate_from n [] i lt = absurd (omega arith)
get_or-enumerate_from n (p ∷ ps) zero lt = ap (λ m. (m, p)) (omega arith)
get_or-enumerate_from n (p ∷ ps) (suc i) lt =
    get_or-enumerate_from (n + 1) ps i (omega arith)
    ∙ ap (λ m. (m, get_or ps i 0)) (omega arith)

get_or-enumerated : (ps : List ℕ) (i : ℕ) → i < length ps
    → get_or (enumerate_from 0 ps) i (0, 0) ≡ (i, get_or ps i 0)
get_or-enumerated ps i lt =
    get_or-enumerate_from 0 ps i lt ∙ ap (λ n. (n, get_or ps i 0)) (omega arith)

-- input number k
pub end-input : (task : Task) (k : ℕ) → k < length task.inputs
    → get_or (ends_of task) k no_registration ≡ as_input (k, get_or task.inputs k 0)
end-input task k lt =
    let ins = enumerate_from 0 task.inputs in
    let many : length ins ≡ length task.inputs = length-enumerate_from 0 task.inputs in
    let few : k < length (map as_input ins) = omega (arith, many, length-map ins as_input) in
    get_or_append_left (map as_input ins) (map as_output (enumerate_from 0 task.outputs)) no_registration k few
    ∙ get_or-map as_input ins k (0, 0) no_registration (omega (arith, many))
    ∙ ap as_input (get_or-enumerated task.inputs k lt)

-- output number j
pub end-output : (task : Task) (k : ℕ) → length task.inputs ≤ k
    → k - length task.inputs < length task.outputs
    → get_or (ends_of task) k no_registration
    ≡ as_output (k - length task.inputs, get_or task.outputs (k - length task.inputs) 0)
end-output task k from lt =
    let ins = enumerate_from 0 task.inputs in
    let outs = enumerate_from 0 task.outputs in
    let j = k - length task.inputs in
    let many : length (map as_input ins) ≡ length task.inputs =
    length-map ins as_input ∙ length-enumerate_from 0 task.inputs in
    let there : j < length outs = omega (arith, lt, length-enumerate_from 0 task.outputs) in
    get_or-append_right (map as_input ins) (map as_output outs) (length task.inputs) k no_registration many from
    ∙ get_or-map as_output outs j (0, 0) no_registration there
    ∙ ap as_output (get_or-enumerated task.outputs j lt)

-- ---- of each task

-- how many they are
pub length-registrations : (graph : Graph) (task : Task) → HasEnds task.kind (length task.inputs) (length task.outputs)
    → length (registrations_of graph task) ≡ length task.inputs + length task.outputs
length-registrations graph task ends = by task.kind refl
  where
    many : task.kind ≢ Peer → length (registrations_of graph task) ≡ length task.inputs + length task.outputs
    many other =
        let ins = enumerate_from 0 task.inputs in
        let outs = enumerate_from 0 task.outputs in
        let is = ap length (registrations-plain graph task other) in
        let both = length-append (map as_input ins) (map as_output outs) in
        omega (
          arith,
          is,
          both,
          length-map ins as_input,
          length-map outs as_output,
          length-enumerate_from 0 task.inputs,
          length-enumerate_from 0 task.outputs,
        )

    by : (kind : Kind) → task.kind ≡ kind
        → length (registrations_of graph task) ≡ length task.inputs + length task.outputs
    by Source e = many (λ peer. absurd (let no = sym e ∙ peer in cc))
    by Fir e = many (λ peer. absurd (let no = sym e ∙ peer in cc))
    by Split e = many (λ peer. absurd (let no = sym e ∙ peer in cc))
    by Decimate e = many (λ peer. absurd (let no = sym e ∙ peer in cc))
    by Join e = many (λ peer. absurd (let no = sym e ∙ peer in cc))
    by Peer e =
        let two : (length task.inputs ≡ 2) × (length task.outputs ≡ 1) = rw e at ends in
        let three : length (registrations_of graph task) ≡ 3 = rw e refl in
        omega (arith, three, two.0, two.1)
    by Sink e = many (λ peer. absurd (let no = sym e ∙ peer in cc))

-- a peer has 3, and another task at most 9
pub few-registrations : (task : Task) → HasEnds task.kind (length task.inputs) (length task.outputs)
    → length task.inputs + length task.outputs ≤ 9
few-registrations task ends = by task.kind refl
  where
    Ends : Kind → Type 0
    Ends kind = HasEnds kind (length task.inputs) (length task.outputs)

    by : (kind : Kind) → task.kind ≡ kind → length task.inputs + length task.outputs ≤ 9
    by Source e = let is = subst Ends e ends in omega (arith, is)
    by Fir e = let is = subst Ends e ends in omega (arith, is)
    by Split e = let is = subst Ends e ends in omega (arith, is)
    by Decimate e = let is = subst Ends e ends in omega (arith, is)
    by Join e = let is = subst Ends e ends in omega (arith, is)
    by Peer e = let is = subst Ends e ends in omega (arith, is)
    by Sink e = let is = subst Ends e ends in omega (arith, is)

-- ---- what they are

abbrev phaser_of : Registration → ℕ
phaser_of r = r.phaser

map-inputs : (n : ℕ) (ps : List ℕ) → map phaser_of (map as_input (enumerate_from n ps)) ≡ ps
map-inputs n [] = refl
map-inputs n (p ∷ ps) = ap (λ qs. p ∷ qs) (map-inputs (n + 1) ps)

map-outputs : (n : ℕ) (ps : List ℕ) → map phaser_of (map as_output (enumerate_from n ps)) ≡ ps
map-outputs n [] = refl
map-outputs n (p ∷ ps) = ap (λ qs. p ∷ qs) (map-outputs (n + 1) ps)

inputs-of_inputs : (n : ℕ) (ps : List ℕ)
    → inputs_among (map as_input (enumerate_from n ps)) ≡ enumerate_from n ps
inputs-of_inputs n [] = refl
inputs-of_inputs n (p ∷ ps) = ap (λ qs. (n, p) ∷ qs) (inputs-of_inputs (n + 1) ps)

inputs-of_outputs : (n : ℕ) (ps : List ℕ) → inputs_among (map as_output (enumerate_from n ps)) ≡ []
inputs-of_outputs n [] = refl
inputs-of_outputs n (p ∷ ps) = inputs-of_outputs (n + 1) ps

outputs-of_inputs : (n : ℕ) (ps : List ℕ) → outputs_among (map as_input (enumerate_from n ps)) ≡ []
outputs-of_inputs n [] = refl
outputs-of_inputs n (p ∷ ps) = outputs-of_inputs (n + 1) ps

outputs-of_outputs : (n : ℕ) (ps : List ℕ)
    → outputs_among (map as_output (enumerate_from n ps)) ≡ enumerate_from n ps
outputs-of_outputs n [] = refl
outputs-of_outputs n (p ∷ ps) = ap (λ qs. (n, p) ∷ qs) (outputs-of_outputs (n + 1) ps)

-- a list of two, and of one, by their numbers
two : (ps : List ℕ) → length ps ≡ 2 → ps ≡ get_or ps 0 0 ∷ get_or ps 1 0 ∷ []
two [] e = absurd (omega (arith, e))
two (p ∷ []) e = absurd (omega (arith, e))
two (p ∷ q ∷ []) e = refl
two (p ∷ q ∷ r ∷ rs) e = absurd (omega (arith, e))

one : (ps : List ℕ) → length ps ≡ 1 → ps ≡ get_or ps 0 0 ∷ []
one [] e = absurd (omega (arith, e))
one (p ∷ []) e = refl
one (p ∷ q ∷ rs) e = absurd (omega (arith, e))

module _ (graph : Graph) (t : ℕ) (task : Task) (line : IsTaskLine graph t task) where
  abbrev Ends : Kind → Type 0
  Ends kind = HasEnds kind (length task.inputs) (length task.outputs)

  pub registrations-phasers : map phaser_of (registrations_of graph task) ≡ task.inputs ++ task.outputs
  registrations-phasers = by task.kind refl
    where
      plain : registrations_of graph task ≡ ends_of task
          → map phaser_of (registrations_of graph task) ≡ task.inputs ++ task.outputs
      plain is =
          let ins = map as_input (enumerate_from 0 task.inputs) in
          let outs = map as_output (enumerate_from 0 task.outputs) in
          ap (map phaser_of) is ∙ map-append phaser_of ins outs
          ∙ ap (λ xs. xs ++ map phaser_of outs) (map-inputs 0 task.inputs)
          ∙ ap (λ ys. task.inputs ++ ys) (map-outputs 0 task.outputs)

      by : (kind : Kind) → task.kind ≡ kind
          → map phaser_of (registrations_of graph task) ≡ task.inputs ++ task.outputs
      by Source e = plain (rw e refl)
      by Fir e = plain (rw e refl)
      by Split e = plain (rw e refl)
      by Decimate e = plain (rw e refl)
      by Join e = plain (rw e refl)
      by Peer e =
          let ends : (length task.inputs ≡ 2) × (length task.outputs ≡ 1) = subst Ends e line.ends in
          let three : map phaser_of (registrations_of graph task)
          ≡ (get_or task.inputs 0 0 ∷ get_or task.inputs 1 0 ∷ []) ++ (get_or task.outputs 0 0 ∷ []) =
          rw e refl in
          three ∙ ap (λ xs. xs ++ (get_or task.outputs 0 0 ∷ [])) (sym (two task.inputs ends.0))
          ∙ ap (λ ys. task.inputs ++ ys) (sym (one task.outputs ends.1))
      by Sink e = plain (rw e refl)

  pub registrations-inputs : inputs_among (registrations_of graph task) ≡ enumerate_from 0 task.inputs
  registrations-inputs = by task.kind refl
    where
      plain : registrations_of graph task ≡ ends_of task
          → inputs_among (registrations_of graph task) ≡ enumerate_from 0 task.inputs
      plain is =
          let ins = map as_input (enumerate_from 0 task.inputs) in
          let outs = map as_output (enumerate_from 0 task.outputs) in
          ap inputs_among is ∙ filter_map-append _ ins outs
          ∙ ap (λ xs. xs ++ inputs_among outs) (inputs-of_inputs 0 task.inputs)
          ∙ ap (λ ys. enumerate_from 0 task.inputs ++ ys) (inputs-of_outputs 0 task.outputs)
          ∙ append-nil (enumerate_from 0 task.inputs)

      by : (kind : Kind) → task.kind ≡ kind
          → inputs_among (registrations_of graph task) ≡ enumerate_from 0 task.inputs
      by Source e = plain (rw e refl)
      by Fir e = plain (rw e refl)
      by Split e = plain (rw e refl)
      by Decimate e = plain (rw e refl)
      by Join e = plain (rw e refl)
      by Peer e =
          let ends : (length task.inputs ≡ 2) × (length task.outputs ≡ 1) = subst Ends e line.ends in
          let both : inputs_among (registrations_of graph task)
          ≡ enumerate_from 0 (get_or task.inputs 0 0 ∷ get_or task.inputs 1 0 ∷ []) = rw e refl in
          both ∙ ap (enumerate_from 0) (sym (two task.inputs ends.0))
      by Sink e = plain (rw e refl)

  pub registrations-outputs :
      outputs_among (registrations_of graph task) ≡ enumerate_from 0 (signalled_by task)
  registrations-outputs = by task.kind refl
    where
      plain : registrations_of graph task ≡ ends_of task → signalled_by task ≡ task.outputs
          → outputs_among (registrations_of graph task) ≡ enumerate_from 0 (signalled_by task)
      plain is same =
          let ins = map as_input (enumerate_from 0 task.inputs) in
          let outs = map as_output (enumerate_from 0 task.outputs) in
          ap outputs_among is ∙ filter_map-append _ ins outs
          ∙ ap (λ xs. xs ++ outputs_among outs) (outputs-of_inputs 0 task.inputs)
          ∙ outputs-of_outputs 0 task.outputs
          ∙ ap (enumerate_from 0) (sym same)

      by : (kind : Kind) → task.kind ≡ kind
          → outputs_among (registrations_of graph task) ≡ enumerate_from 0 (signalled_by task)
      by Source e = plain (rw e refl) (rw e refl)
      by Fir e = plain (rw e refl) (rw e refl)
      by Split e = plain (rw e refl) (rw e refl)
      by Decimate e = plain (rw e refl) (rw e refl)
      by Join e = plain (rw e refl) (rw e refl)
      by Peer e = rw e refl
      by Sink e = plain (rw e refl) (rw e refl)

-- ---- their modes

modes-inputs : (n : ℕ) (ps : List ℕ) → All HasItsMode (map as_input (enumerate_from n ps))
modes-inputs n [] = All-nil HasItsMode
modes-inputs n (p ∷ ps) =
    All-cons HasItsMode (as_input (n, p)) (map as_input (enumerate_from (n + 1) ps))
    (record { waits = refl; signals = refl }) (modes-inputs (n + 1) ps)

modes-outputs : (n : ℕ) (ps : List ℕ) → All HasItsMode (map as_output (enumerate_from n ps))
modes-outputs n [] = All-nil HasItsMode
modes-outputs n (p ∷ ps) =
    All-cons HasItsMode (as_output (n, p)) (map as_output (enumerate_from (n + 1) ps))
    (record { waits = refl; signals = refl }) (modes-outputs (n + 1) ps)

mode-exchange : (graph : Graph) (e : ℕ) → HasItsMode (as_exchange graph e)
mode-exchange graph e = by (phaser_at graph e).single refl
  where
    by : (single : Option Single) → (phaser_at graph e).single ≡ single → HasItsMode (as_exchange graph e)
    by None is = record { waits = rw is refl; signals = rw is refl }
    by (Some one) is = record { waits = rw is refl; signals = rw is refl }

pub registrations-modes : (graph : Graph) (task : Task) → All HasItsMode (registrations_of graph task)
registrations-modes graph task = by task.kind refl
  where
    plain : registrations_of graph task ≡ ends_of task → All HasItsMode (registrations_of graph task)
    plain is =
        subst (All HasItsMode) (sym is)
        (All-append HasItsMode (map as_input (enumerate_from 0 task.inputs))
        (map as_output (enumerate_from 0 task.outputs)) (modes-inputs 0 task.inputs)
        (modes-outputs 0 task.outputs))

    by : (kind : Kind) → task.kind ≡ kind → All HasItsMode (registrations_of graph task)
    by Source e = plain (rw e refl)
    by Fir e = plain (rw e refl)
    by Split e = plain (rw e refl)
    by Decimate e = plain (rw e refl)
    by Join e = plain (rw e refl)
    by Peer e =
        let x = as_input (0, get_or task.inputs 0 0) in
        let exchange = as_exchange graph (get_or task.inputs 1 0) in
        let y = as_output (1, get_or task.outputs 0 0) in
        let three : registrations_of graph task ≡ x ∷ exchange ∷ y ∷ [] = rw e refl in
        subst (All HasItsMode) (sym three)
        (All-cons HasItsMode x (exchange ∷ y ∷ []) (record { waits = refl; signals = refl })
        (All-cons HasItsMode exchange (y ∷ []) (mode-exchange graph (get_or task.inputs 1 0))
        (All-cons HasItsMode y [] (record { waits = refl; signals = refl }) (All-nil HasItsMode))))
    by Sink e = plain (rw e refl)
