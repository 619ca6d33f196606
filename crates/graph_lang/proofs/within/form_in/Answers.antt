use Rattle.std.proofs.Common.{rules, ◌≡◌, Some, true, nat_le, length, option_map, refl, sym, ◌∙◌, arith, FitsSigned, w64, to_z-of_z}
use Rattle.std.specs.Option.{option_map_or}
use Rattle.std.proofs.lemmas.List.{length-map}
use Rattle.std.proofs.lemmas.Option.{cond_some}
use Rattle.phase_base.specs.Numbers.{nat_value}
use Rattle.stream_filters.specs.declared.fir.TheConstants.{AGAIN_MAX, DELAY_MAX, SHIFT_MAX}
use Rattle.graph_text.specs.Lines.{filter_of}
use Rattle.graph_lang.specs.WordValues.{age_of, plus_of, single_of}
use Rattle.graph_lang.specs.Faults.{is_function_within, is_plus_within}
use Rattle.graph_lang.proofs.within.form_in.Goals as goal

-- each number was read, and there are few enough taps for what was put
pub returns : goal.returns
returns c =
    let filter = filter_of c.args.words in
    let shift_read : c.shift_of.result ≡ Some c.in_ok-shift.shift = search rules in
    let plus_read : c.plus_of.result ≡ Some c.in_ok-plus.plus = search rules in
    let age_read : c.age_of.result ≡ Some c.in_ok-delay.delay = search rules in
    let single_read : c.single_in.result ≡ Some c.in_ok-single_in.field-0 = search rules in
    let shift = cond_some (nat_le (nat_value filter.shift) SHIFT_MAX) (nat_value filter.shift)
    c.in_ok-shift.shift (sym c.shift_of.ensures ∙ shift_read) in
    let plus = cond_some (is_plus_within filter.plus) (plus_of filter.plus) c.in_ok-plus.plus
    (sym c.plus_of.ensures ∙ plus_read) in
    let age = cond_some (nat_le (age_of filter.delay) DELAY_MAX) (age_of filter.delay)
    c.in_ok-delay.delay (sym c.age_of.ensures ∙ age_read) in
    let single = cond_some (option_map_or is_function_within filter.single true)
    (option_map single_of filter.single) c.in_ok-single_in.field-0
    (sym c.single_in.ensures ∙ single_read) in
    let count : length filter.again ≡ length c.args.words.again.now =
    length-map c.args.words.again.now (λ piece. piece.now) in
    let few : nat_le (length filter.again) AGAIN_MAX ≡ true =
    rw count (search (rules, arith)) in
    let fits : FitsSigned w64 c.in_ok-plus.plus = search rules in
    rw (
      to_z-of_z fits,
      shift.0,
      plus.0,
      age.0,
      few,
      single.0,
      shift.1,
      plus.1,
      age.1,
      count,
      single.1,
    ) refl
