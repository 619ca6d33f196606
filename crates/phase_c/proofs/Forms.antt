-- A block through a filter of any form, and what it put at the samples of the block.
use Rattle.std.proofs.Common.{◌≡◌, ℕ, zero, suc, ◌+◌, ◌<◌, ◌≤◌, not, List, [], ◌∷◌, ◌++◌, ℤ, pos, length, take, drop, get_or, sym, ap, subst, ◌∙◌, arith, append-nil, append_assoc, length-append}
use Rattle.std.specs.Prelude.{unsigned_abs, if◌then◌else◌}
use Rattle.std.proofs.lemmas.Bool.{le-leb}
use Rattle.std.proofs.lemmas.List.{length-drop, take_all}
use Rattle.phase_accum.specs.Sends.{AreSends, IsSend, value_max}
use Rattle.phase_accum.proofs.Parts.{AreSends-append_left, AreSends-append_right}
use Rattle.stream_filters.specs.Filter.{FirState, StandsFor, output_after, put_of, puts_of}
use Rattle.stream_filters.specs.declared.form.Form.{Form}
use Rattle.stream_filters.proofs.Outputs.{puts_of-push}
use Rattle.phase_c.specs.Filtered.{ShowsLast, first_outputs, output_in_block}
use Rattle.phase_c.specs.Formed.{AreOfForm, FiltersAllFormed, FiltersFormed, FiltersToFormed, ShowsStream}
use Rattle.phase_c.proofs.Streams.{keeps_shows, one_more, outputs_more}

-- ---- puts

-- what is put for an output that is in range is the output
put_of-send : (z : ℤ) → IsSend z → put_of z ≡ z
put_of-send z is =
    ap (λ b. if not b then pos 0 else z) (le-leb (unsigned_abs z) value_max is.small)

-- what is put at the first samples of a block, where their outputs are in range
puts_first : (taps : List ℤ) (form : Form) (before block : List ℤ) (n : ℕ) → n ≤ length block
    → AreSends (first_outputs taps form before block n)
    → puts_of taps form (before ++ take n block)
    ≡ puts_of taps form before ++ first_outputs taps form before block n
puts_first taps form before block zero few fits =
    ap (puts_of taps form) (append-nil before) ∙ sym (append-nil (puts_of taps form before))
puts_first taps form before block (suc n) few fits =
    let less : n < length block = omega (arith, few) in
    let z = output_in_block taps form before block n in
    let firsts = first_outputs taps form before block n in
    let was = puts_of taps form before in
    let next = one_more before block n (pos 0) less in
    let more = outputs_more taps form before block n in
    let count : n + 1 ≡ suc n = omega arith in
    let sends = subst AreSends more
    (subst (λ k. AreSends (first_outputs taps form before block k)) (sym count) fits) in
    let last = AreSends-append_right firsts (z ∷ []) sends in
    subst (λ k. puts_of taps form (before ++ take k block)
    ≡ was ++ first_outputs taps form before block k) count
    (ap (puts_of taps form) (sym next)
    ∙ (puts_of-push taps form (before ++ take n block) (get_or block n (pos 0))
    ∙ (ap (λ l. puts_of taps form (before ++ take n block) ++ put_of (output_after taps form l) ∷ []) next
    ∙ (ap (λ y. puts_of taps form (before ++ take n block) ++ y ∷ []) (put_of-send z last.0)
    ∙ (ap (λ l. l ++ z ∷ []) (puts_first taps form before block n (omega arith)
    (AreSends-append_left firsts (z ∷ []) sends))
    ∙ (append_assoc was firsts (z ∷ []) ∙ ap (λ l. was ++ l) (sym more)))))))

-- what is put at all of them
puts_all : (taps : List ℤ) (form : Form) (before block outs : List ℤ) → AreSends outs
    → outs ≡ first_outputs taps form before block (length block)
    → puts_of taps form (before ++ block) ≡ puts_of taps form before ++ outs
puts_all taps form before block outs fits is =
    ap (λ l. puts_of taps form (before ++ l)) (sym (take_all (length block) block (omega arith)))
    ∙ (puts_first taps form before block (length block) (omega arith) (subst AreSends is fits)
    ∙ ap (λ l. puts_of taps form before ++ l) (sym is))

-- as long as before
pub kept_long : (state block new : List ℤ) → new ≡ drop (length block) (state ++ block)
    → length new ≡ length state
kept_long state block new is = omega (
  arith,
  ap length is,
  length-drop (length block) (state ++ block),
  length-append state block,
)

-- ---- a filter that stands where state and puts say

module _ (taps state puts block old new : List ℤ) (count : ℕ) (fir : FirState)
    (of_form : AreOfForm taps fir.form state puts) (same : fir.taps ≡ taps)
    (stands : (before : List ℤ) → ShowsStream taps fir.form state puts before → StandsFor fir before)
    (room : length block ≤ length old)
    (written : (before : List ℤ) → StandsFor fir before
    → take count new ≡ first_outputs fir.taps fir.form before block count)
    (fits : (before : List ℤ) → StandsFor fir before → AreSends (take count new))
    (behind : drop count new ≡ drop count old)
  where
    -- what it wrote of a block is what the definition gives
    written_is : (before : List ℤ) → ShowsStream taps fir.form state puts before
        → take count new ≡ first_outputs taps fir.form before block count
    written_is before shows =
        written before (stands before shows)
        ∙ ap (λ ts. first_outputs ts fir.form before block count) same

    formed_are : FiltersFormed taps fir.form state puts block old new count
    formed_are = record {
      of_form = of_form;
      room = room;
      written = written_is;
      fits = λ before shows. fits before (stands before shows);
      behind = behind;
    }

    -- and where it met a value out of range, it was the first
    pub formed_to : count < length block
        → ((before : List ℤ) → StandsFor fir before → count < length block
        → ¬ (IsSend (output_in_block fir.taps fir.form before block count)))
        → FiltersToFormed taps fir.form state puts block old new count
    formed_to less too_big = record {
      filters = formed_are;
      less = less;
      too_big = λ before shows is. too_big before (stands before shows) less
          (subst IsSend (ap (λ ts. output_in_block ts fir.form before block count) (sym same)) is);
    }

    -- and where it wrote all, state and puts that keep the last ones go on behind it
    pub formed_all : (kept kept_puts : List ℤ) → count ≡ length block
        → kept ≡ drop (length block) (state ++ block)
        → kept_puts ≡ drop (length (take count new)) (puts ++ take count new)
        → FiltersAllFormed taps fir.form state kept puts kept_puts block old new count
    formed_all kept kept_puts all is puts_is = record {
      filters = subst (FiltersFormed taps fir.form state puts block old new) all formed_are;
      more = record {
        shows = λ before shows. record {
          samples = keeps_shows state before block kept shows.samples is;
          puts_last = subst (ShowsLast kept_puts)
              (sym (puts_all taps fir.form before block (take count new)
              (fits before (stands before shows))
              (written_is before shows ∙ ap (first_outputs taps fir.form before block) all)))
              (keeps_shows puts (puts_of taps fir.form before) (take count new) kept_puts
              shows.puts_last puts_is);
        };
        long = kept_long state block kept is;
        puts_long = kept_long puts (take count new) kept_puts puts_is;
      };
      done_is = all;
    }
