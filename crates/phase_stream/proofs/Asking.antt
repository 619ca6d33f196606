-- The sink of a name.
use Rattle.std.proofs.Common.{◌≡◌, ◌<◌, ◌+◌, ◌&&◌, ℕ, zero, suc, Bool, true, false, cond, List, Some, length, refl, sym, ap, ◌∙◌, arith}
use Rattle.std.specs.List.{find, range_with_len}
use Rattle.std.specs.Str.{bytes_eq}
use Rattle.std.proofs.lemmas.Bool.{and_parts}
use Rattle.std.proofs.lemmas.Option.{same_Some}
use Rattle.graph_commands.specs.GraphRuns.{sink_named}
use Rattle.graph_base.specs.Graphs.{name_at}
use Rattle.graph_base.specs.declared.place.Place.TheVariants as place
use Rattle.stream_lists.specs.Jobs.{Job}
use Rattle.stream_lists.specs.Lists.{is_sink_at}

-- the number that is found in a range is one of it, and passes
found_from : (test : ℕ → Bool) (from many n : ℕ) → find test (range_with_len from many) ≡ Some n
    → (n < from + many) × (test n ≡ true)
found_from test from zero n e = absurd (cc)
found_from test from (suc many) n e = by (test from) refl e (found_from test (from + 1) many n)
  where
    by : (b : Bool) → test from ≡ b
        → cond b (Some from) (find test (range_with_len (from + 1) many)) ≡ Some n
        → (find test (range_with_len (from + 1) many) ≡ Some n
        → (n < from + 1 + many) × (test n ≡ true))
        → (n < from + suc many) × (test n ≡ true)
    by true is e rest =
        let same : from ≡ n = same_Some from n e in
        (omega arith, ap test (sym same) ∙ is)
    by false is e rest =
        let found = rest e in
        let below = found.0 in
        (omega arith, found.1)

-- the sink of a name is a task, and a sink
pub named_is : (job : Job) (name : List ℕ) (t : ℕ) → sink_named job name ≡ Some t
    → (t < length job.graph.tasks) × (is_sink_at job t ≡ true)
named_is job name t e =
    let found = found_from
    (λ n. is_sink_at job n && bytes_eq (name_at job.graph (place.Task n)) name)
    0 (length job.graph.tasks) t e in
    let below = found.0 in
    let both = and_parts (is_sink_at job t)
    (bytes_eq (name_at job.graph (place.Task t)) name) found.1 in
    (omega arith, both.0)
