-- What sinks have with their starts.
use Rattle.std.proofs.Common.{◌≡◌, suc, List, [], ◌∷◌, map, refl, ap, ◌∙◌, arith}
use Rattle.std.specs.List.{All}
use Rattle.stream_lists.specs.Jobs.{Job}
use Rattle.stream_lists.specs.Lists.{lines_of, start_in, with_start}
use Rattle.stream_eval.specs.Results.{sink_output, sink_values}
use Rattle.stream_eval.specs.declared.whole.Lines.{Lines}

-- each sink has the start that the job says, beside its values
outputs-started : (job : Job) (lines : List Lines)
    → All (λ line. line.start ≡ start_in job line.task) lines
    → map sink_output lines ≡ map (with_start job) (map sink_values lines)
outputs-started job [] starts = refl
outputs-started job (line ∷ lines) starts =
    ap (λ start. (line.task, start, line.values.items) ∷ map sink_output lines)
    (starts 0 line (omega arith))
    ∙ ap (λ rest. with_start job (sink_values line) ∷ rest)
    (outputs-started job lines (λ n d lt. starts (suc n) d (omega arith)))

-- the lines of a job, each with its start
pub outputs-are : (job : Job) (lines : List Lines) → map sink_values lines ≡ lines_of job
    → All (λ line. line.start ≡ start_in job line.task) lines
    → map sink_output lines ≡ map (with_start job) (lines_of job)
outputs-are job lines values starts =
    outputs-started job lines starts ∙ ap (map (with_start job)) values
