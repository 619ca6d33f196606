-- A list that is made one by one: it has what was put so far.
use Rattle.std.proofs.Common.{◌≡◌, ℕ, ◌+◌, ◌<◌, List, [], ◌∷◌, ◌++◌, length, get_or, map, take, ℤ, pos, Bool, true, false, refl, sym, ap, ◌∙◌}
use Rattle.std.specs.Prelude.{Ok, if◌then◌else◌}
use Rattle.std.proofs.lemmas.List.{map-append, take_more}
use Rattle.stream_filters.specs.declared.form.Form.{Form}
use Rattle.stream_filters.specs.Filter.{output_after, output_behind, outputs, put_of, puts_of}
use Rattle.stream_filters.specs.FilterFields.{MadeSoFar}
use Rattle.stream_filters.specs.Range.{is_out_of_range, ranged}
use Rattle.stream_filters.proofs.Made.{ranged-ok}
use Rattle.stream_filters.proofs.Outputs.{behind-take, output_after-push, outputs-entry}

-- the output at the next sample
pub next-output : (taps : List ℤ) (form : Form) (samples list : List ℤ) (n : ℕ)
    → MadeSoFar (outputs taps form samples) list n → map put_of list ≡ list → n < length samples
    → get_or (outputs taps form samples) n (pos 0)
    ≡ output_behind taps form (take (n + 1) samples) list
next-output taps form samples list n made put lt =
    let first = take n samples in
    let x = get_or samples n (pos 0) in
    let more : take (n + 1) samples ≡ first ++ x ∷ [] = take_more samples n (pos 0) lt in
    let puts : puts_of taps form first ≡ list =
    ap (map put_of) (behind-take n taps form [] [] samples ∙ sym made.list_is) ∙ put in
    outputs-entry taps form samples n (pos 0) lt
    ∙ (ap (output_after taps form) more
    ∙ (output_after-push taps form first x
    ∙ (ap (λ l. output_behind taps form (first ++ x ∷ []) l) puts
    ∙ ap (λ l. output_behind taps form l list) (sym more))))

by_put : (b : Bool) (z : ℤ) → b ≡ false → (if b then pos 0 else z) ≡ z
by_put true z e = absurd (let wrong : true ≡ false = e in cc)
by_put false z e = refl

-- what is in range is put
pub put_of-more : (list : List ℤ) (z y : ℤ) → map put_of list ≡ list → ranged z ≡ Ok y
    → map put_of (list ++ y ∷ []) ≡ list ++ y ∷ []
put_of-more list z y put answer =
    let told = ranged-ok z y answer in
    let same : put_of y ≡ y =
    ap put_of (sym told.0) ∙ (by_put (is_out_of_range z) z told.1 ∙ told.0) in
    map-append put_of list (y ∷ [])
    ∙ (ap (λ l. l ++ put_of y ∷ []) put ∙ ap (λ v. list ++ v ∷ []) same)
