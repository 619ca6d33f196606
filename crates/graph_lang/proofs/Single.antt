-- Lines have one reading.
use Rattle.std.proofs.Common.{ℕ, ◌≡◌, ◌+◌, List, [], ◌∷◌, ap, sym, ◌∙◌, Result, Ok, Err, true, false, inl, inr}
use Rattle.graph_text.specs.declared.version.Version.{Version}
use Rattle.graph_base.specs.Graphs.{Graph}
use Rattle.graph_lang.specs.Faults.{kind_of}
use Rattle.graph_lang.specs.Reads.{Steps, Reads, line_outcome}
use Rattle.graph_lang.specs.declared.fault.GraphFault.{GraphFault}
use Rattle.graph_text.proofs.Spelled.{one_declaration}

-- a line comes to one thing
one_step : (version : Version) (n : ℕ) (before : Graph) (line : List ℕ)
    (a b : Result Graph GraphFault) → Steps version n before line a → Steps version n before line b
    → a ≡ b
one_step version n before line a b (inl (p, x)) (inl (q, y)) = x ∙ sym y
one_step version n before line a b (inl (p, x)) (inr (inl (q, none, y))) =
    let clash : true ≡ false = sym p ∙ q in absurd (cc)
one_step version n before line a b (inl (p, x)) (inr (inr (q, e, de, y))) =
    let clash : true ≡ false = sym p ∙ q in absurd (cc)
one_step version n before line a b (inr (inl (p, none, x))) (inl (q, y)) =
    let clash : true ≡ false = sym q ∙ p in absurd (cc)
one_step version n before line a b (inr (inl (p, none, x))) (inr (inl (q, other, y))) = x ∙ sym y
one_step version n before line a b (inr (inl (p, none, x))) (inr (inr (q, e, de, y))) =
    absurd (none e de)
one_step version n before line a b (inr (inr (p, d, dd, x))) (inl (q, y)) =
    let clash : true ≡ false = sym q ∙ p in absurd (cc)
one_step version n before line a b (inr (inr (p, d, dd, x))) (inr (inl (q, none, y))) =
    absurd (none d dd)
one_step version n before line a b (inr (inr (p, d, dd, x))) (inr (inr (q, e, de, y))) =
    let same : d ≡ e = one_declaration version version _ d e dd.spells de.spells in
    x ∙ ap (λ d. line_outcome n before d (kind_of version before d)) same ∙ sym y

pub one_reading_from : (version : Version) (n : ℕ) (before : Graph) (lines : List (List ℕ))
    (a b : Result Graph GraphFault) → Reads version n before lines a
    → Reads version n before lines b → a ≡ b
one_reading_from version n before [] a b x y = x ∙ sym y
one_reading_from version n before (line ∷ lines) a b (inl (f, p, x)) (inl (g, q, y)) =
    let same : Err f ≡ Err g = one_step version n before line (Err f) (Err g) p q in
    x ∙ same ∙ sym y
one_reading_from version n before (line ∷ lines) a b (inl (f, p, x)) (inr (after, q, y)) =
    let clash : Err f ≡ Ok after = one_step version n before line (Err f) (Ok after) p q in
    absurd (cc)
one_reading_from version n before (line ∷ lines) a b (inr (after, p, x)) (inl (g, q, y)) =
    let clash : Ok after ≡ Err g = one_step version n before line (Ok after) (Err g) p q in
    absurd (cc)
one_reading_from version n before (line ∷ lines) a b (inr (after, p, x)) (inr (other, q, y)) =
    let same : Ok after ≡ Ok other = one_step version n before line (Ok after) (Ok other) p q in
    let state : after ≡ other = cc in
    one_reading_from version (n + 1) other lines a b (rw state at x) y
