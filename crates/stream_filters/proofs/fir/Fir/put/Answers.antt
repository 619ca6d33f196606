use Rattle.std.proofs.Common.{rules, ◌≡◌, ◌∷◌, [], ◌++◌, FitsSigned, w64, take, ap, subst, ◌∙◌, arith}
use Rattle.std.proofs.lemmas.Int.{to_z-of_z}
use Rattle.stream_filters.specs.Filter.{put_of}
use Rattle.stream_filters.specs.WeigherFields.{window_of}
use Rattle.stream_filters.proofs.Firs.{put_value}
use Rattle.stream_filters.proofs.Lines.{window_of-push}
use Rattle.stream_filters.proofs.fir.Fir.put.Goals as goal

-- the value comes in front of those that are kept
pub returns-then-kept-gt0 : goal.returns-then-kept-gt0
returns-then-kept-gt0 c z is =
    let n = c.self.inside.weigher.form.again in
    let line = c.make_room.new.line.items in
    let fits : FitsSigned w64 c.unwrap_or.result = search rules in
    let many : c.len-kept.result ≡ n = omega (arith, c.len-kept.ensures, c.self.invariant.again) in
    let kept : window_of n line ≡ window_of n c.self.inside.puts.items =
    subst (λ m. window_of m line ≡ window_of m c.self.inside.puts.items) many c.make_room.ensures.last in
    let value : c.unwrap_or.result ≡ put_of z = c.unwrap_or.ensures ∙ put_value z c.args.answer is in
    rw (← c.self.view_is)
    (ap (λ window. record { taps = c.self.inside.weigher.taps ++ c.self.inside.again.items; form = c.self.inside.weigher.form; window = c.self.inside.weigher.window; puts = window })
    (ap (window_of n) (c.push_reserved.ensures.items ∙ ap (λ y. line ++ y ∷ []) (to_z-of_z w64 _ fits ∙ value))
    ∙ (window_of-push n line (put_of z) ∙ ap (λ window. take n (put_of z ∷ window)) kept)))
