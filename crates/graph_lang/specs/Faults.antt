-- The kinds of fault of a line that is in the grammar, and their order.
use Rattle.std.specs.Prelude.{ℕ, ◌==◌, if◌then◌else◌, Bool, true, false, ◌&&◌, ◌||◌, not, nat_lt, nat_le, List, [], ◌∷◌, ◌++◌, length, get_or, Option, Some, None, is_some, unsigned_abs}
use Rattle.phase_base.specs.Lists.{first_row}
use Rattle.std.specs.List.{list_all, list_any}
use Rattle.std.specs.Option.{option_map_or}
use Rattle.std.specs.Int.Signed.{le_z}
use Rattle.std.specs.Str.{bytes_eq}
use Rattle.phase_base.specs.declared.limits.TheConstants.{BOUND_MAX}
use Rattle.phase_accum.specs.Sends.{value_max}
use Rattle.phase_base.specs.Words.{Word}
use Rattle.phase_base.specs.Numbers.{nat_value, int_value}
use Rattle.graph_text.specs.Decls.{Decl, phaser, task, FunctionWords, neg, abs, halve, clamp, ByWords, EndWords, FilterWords, BodyWords, source, fir, delay, decimate, split, join, peer, sink}
use Rattle.graph_text.specs.Versions.{has_third}
use Rattle.graph_text.specs.declared.version.Version.{Version}
use Rattle.graph_base.specs.Graphs.{Graph, Task, Named, task_at, phaser_at}
use Rattle.graph_base.specs.Names.{place_of, phaser_named, task_named}
use Rattle.graph_lang.specs.WordValues.{age_of, inputs_of, outputs_of, plus_of, task_line}
use Rattle.graph_base.specs.TaskLines.{has_children}
use Rattle.graph_base.specs.declared.limits.TheConstants.{PHASERS_MAX, TASKS_MAX, ENDS_MAX, STEPS_MAX, FACTOR_MAX, EVERY_MAX}
use Rattle.graph_base.specs.declared.line.Kind.{Kind}
use Rattle.graph_base.specs.declared.line.Kind.TheVariants as kind
use Rattle.graph_base.specs.declared.line.Parent.{Parent}
use Rattle.graph_lang.specs.declared.fault.FaultKind.{FaultKind}
use Rattle.graph_lang.specs.declared.fault.FaultKind.TheVariants.{Limit, Twice, Unknown, OutBeforeIn, BadParent, NotHeld, OverBound}
use Rattle.stream_filters.specs.declared.fir.TheConstants.{AGAIN_MAX, DELAY_MAX, FEW_TAPS_MAX, PLUS_MAX, SHIFT_MAX, TAP_MAX, TAPS_MAX}

-- ---- limits

-- whether the numbers of a function are within their limits
abbrev pub is_function_within : FunctionWords → Bool
is_function_within neg = true
is_function_within abs = true
is_function_within halve = true
is_function_within (clamp low high) = nat_le (unsigned_abs (int_value low)) value_max
    && nat_le (unsigned_abs (int_value high)) value_max && le_z (int_value low) (int_value high)

-- whether a bound is within its limits
abbrev pub is_bound_within : Word → Bool
is_bound_within bound = nat_le 1 (nat_value bound) && nat_le (nat_value bound) BOUND_MAX

-- whether the numbers of a phaser's words are within their limits
abbrev pub is_phaser_within : Word → Option FunctionWords → Bool
is_phaser_within bound single =
    is_bound_within bound && option_map_or is_function_within single true

-- whether a tap is within its limit
abbrev pub is_tap_within : Word → Bool
is_tap_within tap = nat_le (unsigned_abs (int_value tap)) TAP_MAX

-- whether what a filter adds is within its limit
abbrev pub is_plus_within : Option Word → Bool
is_plus_within plus = nat_le (unsigned_abs (plus_of plus)) PLUS_MAX

-- how many taps for samples a filter may have in a text of this version
abbrev pub most_taps : Version → ℕ
most_taps version = if has_third version then TAPS_MAX else FEW_TAPS_MAX

-- whether what a filter does beside weighing samples is within its limits, and how many taps it has
-- for what it put
abbrev pub is_form_within : FilterWords → Bool
is_form_within filter =
    nat_le (nat_value filter.shift) SHIFT_MAX && is_plus_within filter.plus
    && nat_le (age_of filter.delay) DELAY_MAX && nat_le (length filter.again) AGAIN_MAX
    && option_map_or is_function_within filter.single true

-- whether the numbers of a filter are within their limits, in a text of this version
abbrev pub is_filter_within : Version → FilterWords → Bool
is_filter_within version filter =
    is_form_within filter && nat_le (length filter.taps) (most_taps version)
    && list_all is_tap_within filter.taps && list_all is_tap_within filter.again

-- how many outputs a splitter, or inputs a joiner, may have
abbrev pub is_number_of_ends : ℕ → Bool
is_number_of_ends n = nat_le 2 n && nat_le n ENDS_MAX

-- whether the numbers of a task's words are within their limits, in a text of this version
abbrev pub is_body_within : Version → BodyWords → Bool
is_body_within version (source file output) = true
is_body_within version (fir input output filter) = is_filter_within version filter
is_body_within version (delay input output steps) = nat_le (nat_value steps) DELAY_MAX
is_body_within version (decimate input output every) =
    nat_le 1 (nat_value every) && nat_le (nat_value every) EVERY_MAX
is_body_within version (split input outputs) = is_number_of_ends (length outputs)
is_body_within version (join inputs output) = is_number_of_ends (length inputs)
is_body_within version (peer input exchange output factor) =
    nat_le (unsigned_abs (int_value factor)) FACTOR_MAX
is_body_within version (sink input) = true

-- whether a number of steps is within its limit
abbrev pub is_count_within : Word → Bool
is_count_within count = nat_le (nat_value count) STEPS_MAX

-- whether the numbers of steps behind `at`, `until` and `block=` are within their limits, which are
-- those of a bound for a block
abbrev pub are_ends_within : EndWords → Bool
are_ends_within ends = option_map_or (λ by. is_count_within by.at) ends.by true
    && option_map_or is_count_within ends.until true
    && option_map_or is_bound_within ends.block true

-- whether a number of a line of this version is past its limit, or the graph has no room for it
abbrev pub is_past_limit : Version → Graph → Decl → Bool
is_past_limit version before (phaser name operation bound single) =
    not (is_phaser_within bound single && nat_lt (length before.phasers) PHASERS_MAX)
is_past_limit version before (task name body ends) =
    not (is_body_within version body && are_ends_within ends
    && nat_lt (length before.tasks) TASKS_MAX)

-- ---- names

-- the phasers of a line
abbrev pub phasers_of : BodyWords → List Word
phasers_of body = inputs_of body ++ outputs_of body

-- whether no word stands twice
abbrev pub are_distinct : List Word → Bool
are_distinct [] = true
are_distinct (word ∷ words) = not (list_any (bytes_eq word) words) && are_distinct words

-- whether a line declares a name again, or names a phaser twice
abbrev pub is_twice : Graph → Decl → Bool
is_twice before (phaser name operation bound single) = is_some (place_of before.names name)
is_twice before (task name body ends) =
    is_some (place_of before.names name) || not (are_distinct (phasers_of body))

-- whether a phaser of that name was declared
abbrev pub is_phaser : List Named → Word → Bool
is_phaser names word = is_some (phaser_named names word)

-- whether the parent, where there is one, is a task that was declared
abbrev pub is_parent_known : List Named → Option ByWords → Bool
is_parent_known names None = true
is_parent_known names (Some by) = is_some (task_named names by.parent)

-- whether a line names a phaser or a parent that was not declared
abbrev pub is_unknown : Graph → Decl → Bool
is_unknown before (phaser name operation bound single) = false
is_unknown before (task name body ends) =
    not (list_all (is_phaser before.names) (phasers_of body)
    && is_parent_known before.names ends.by)

-- ---- the order of phasers

-- of a peer, E stands below X
abbrev pub is_exchange_below : Kind → List ℕ → Bool
is_exchange_below kind.Peer inputs = nat_lt (get_or inputs 0 0) (get_or inputs 1 0)
is_exchange_below other inputs = true

-- each output stands below each input
abbrev pub is_in_order : Task → Bool
is_in_order t = list_all (λ x. list_all (nat_lt x) t.outputs) t.inputs
    && is_exchange_below t.kind t.inputs

-- whether an output of a line does not stand below each input
abbrev pub is_out_before_in : Graph → Decl → Bool
is_out_before_in before (phaser name operation bound single) = false
is_out_before_in before (task name body ends) =
    not (is_in_order (task_line before.names 0 body ends))

-- ---- parents

-- whether the parent, where there is one, is of a kind that may have children, and does not join
-- now
abbrev pub may_be_parent : Graph → Option Parent → Bool
may_be_parent before None = true
may_be_parent before (Some parent) =
    has_children (task_at before parent.task).kind
    && not (task_at before parent.task).joins_now

-- whether the parent of a line is of a kind that has no children, or joins now
abbrev pub is_bad_parent : Graph → Decl → Bool
is_bad_parent before (phaser name operation bound single) = false
is_bad_parent before (task name body ends) =
    not (may_be_parent before (task_line before.names 0 body ends).parent)

-- whether p is one of these numbers
abbrev pub is_number_in : List ℕ → ℕ → Bool
is_number_in qs p = list_any (λ q. q == p) qs

-- whether the parent waits for what the child waits for, and signals what the child signals
abbrev pub holds_for : Graph → Task → Option Parent → Bool
holds_for before child None = true
holds_for before child (Some parent) =
    list_all (is_number_in (task_at before parent.task).inputs) child.inputs
    && list_all (is_number_in (task_at before parent.task).outputs) child.outputs

-- whether phaser y has no single
abbrev pub is_plain : Graph → ℕ → Bool
is_plain before y = not (is_some (phaser_at before y).single)

-- whether no output has a single, and the parent holds what its child needs
abbrev pub is_held : Graph → Task → Bool
is_held before t = list_all (is_plain before) t.outputs && holds_for before t t.parent

-- whether a line signals a phaser with a single, or its parent lacks what it needs
abbrev pub is_not_held : Graph → Decl → Bool
is_not_held before (phaser name operation bound single) = false
is_not_held before (task name body ends) =
    not (is_held before (task_line before.names 0 body ends))

-- ---- blocks

-- whether a block of so many steps is at most the bound of phaser p
abbrev pub is_within_bound : Graph → ℕ → ℕ → Bool
is_within_bound before block p = nat_le block (phaser_at before p).bound

-- whether the block of a task is at most the bound of each of its phasers
abbrev pub is_block_within : Graph → Task → Bool
is_block_within before t = list_all (is_within_bound before t.block) t.inputs
    && list_all (is_within_bound before t.block) t.outputs

-- whether the block of a line is above the bound of a phaser of the line
abbrev pub is_over_bound : Graph → Decl → Bool
is_over_bound before (phaser name operation bound single) = false
is_over_bound before (task name body ends) =
    not (is_block_within before (task_line before.names 0 body ends))

-- ---- the order of the kinds

-- the first kind of fault of a line of a text of this version, after the lines above it
abbrev pub kind_of : Version → Graph → Decl → Option FaultKind
kind_of version before d = first_row (
    (is_past_limit version before d, Limit)
    ∷ (is_twice before d, Twice)
    ∷ (is_unknown before d, Unknown)
    ∷ (is_out_before_in before d, OutBeforeIn)
    ∷ (is_bad_parent before d, BadParent)
    ∷ (is_not_held before d, NotHeld)
    ∷ (is_over_bound before d, OverBound)
    ∷ [])
