-- The prefix of a line that is kept in a buffer.
use Rattle.std.proofs.Common.{◌≡◌, ℕ, ◌+◌, ◌-◌, ◌≤◌, min, List, ◌++◌, length, take, sym, ◌∙◌, ap, append_assoc, length-append, arith}
use Rattle.std.proofs.lemmas.List.{take_at, take_min, length-take-le}
use Rattle.std.proofs.Math.Seq.{take-append-add}

-- bytes are written behind the kept ones as far as there is room
pub kept_extended : (limit : ℕ) (kept buf bytes written rest : List ℕ) (len count : ℕ) → kept ≡ take len buf → len ≤ length buf → len ≤ limit
    → count ≡ min (length bytes) (limit - len) → written ≡ take count bytes
    → take (len + count) (take len buf ++ (written ++ rest)) ≡ take limit (kept ++ bytes)
kept_extended limit kept buf bytes written rest len count e within room counted copied =
    let kept_long : length kept ≡ len = ap length e ∙ length-take-le len buf within in
    let few : count ≤ length bytes = omega arith in
    let written_long : length written ≡ count = ap length copied ∙ length-take-le count bytes few in
    let joined : take len buf ++ (written ++ rest) ≡ (kept ++ written) ++ rest =
    ap (λ l. l ++ (written ++ rest)) (sym e) ∙ sym (append_assoc kept written rest) in
    let cut : take (len + count) ((kept ++ written) ++ rest) ≡ kept ++ written =
    take_at (kept ++ written) rest (len + count) (omega (arith, length-append kept written)) in
    let same_count : count ≡ min (limit - len) (length bytes) = omega arith in
    let same : take count bytes ≡ take (limit - len) bytes = ap (λ n. take n bytes) same_count ∙ take_min (limit - len) bytes in
    let whole : length kept + (limit - len) ≡ limit = omega arith in
    ap (take (len + count)) joined ∙ cut ∙ ap (λ l. kept ++ l) (copied ∙ same) ∙ sym (take-append-add kept bytes (limit - len))
    ∙ ap (λ n. take n (kept ++ bytes)) whole
