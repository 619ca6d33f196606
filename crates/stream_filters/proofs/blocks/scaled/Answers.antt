use Rattle.std.proofs.Common.{◌≡◌, ◌∙◌}
use Rattle.std.specs.Prelude.{replicate}
use Rattle.stream_filters.proofs.Lanes.{Each2-bits, Each2-with, lanes-zip2, product-fits, product-is, short-cut}
use Rattle.stream_filters.proofs.blocks.scaled.Goals as goal

-- a product of two numbers of 32 bits
pub overflow_mul-result : goal.overflow_mul-result
overflow_mul-result c =
    let tap : c.from.result ≡ c.args.tap = c.from.ensures ∙ short-cut c.args.tap c.requires.tap in
    rw tap (Each2-bits _ c.args.samples (replicate 16 c.args.tap)
    (Each2-with _ c.args.samples 16 c.args.tap (λ x is. product-fits x c.args.tap is c.requires.tap)
    c.requires.short))

pub returns : goal.returns
returns c =
    let tap : c.from.result ≡ c.args.tap = c.from.ensures ∙ short-cut c.args.tap c.requires.tap in
    rw tap (lanes-zip2 _ _ c.args.samples (replicate 16 c.args.tap)
    (Each2-with _ c.args.samples 16 c.args.tap (λ x is. product-is x c.args.tap is c.requires.tap)
    c.requires.short))
