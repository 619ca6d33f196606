-- What a box says of filters, and forms of lines, worked out.
use Rattle.std.proofs.Common.{◌≡◌, pos, negsuc, [], ◌∷◌, ◌++◌, Some, true, false, refl, codes, decimal, rules, append_assoc, append-nil}
use Rattle.std.specs.Fmt.{signed_decimal}
use Rattle.phase_accum.specs.declared.single.Single.TheVariants.{Abs}
use Rattle.stream_filters.specs.Filter.{no_form}
use Rattle.stream_filters.specs.declared.form.Form.{Form}
use Rattle.graph_lang.specs.declared.fault.FaultKind.TheVariants.{Syntax}
use Rattle.graph_text.specs.declared.version.Version.TheVariants.{One, Two, Three}
use Rattle.graph_show.specs.Drawings.{is_delay, filter_note}
use Rattle.graph_show.specs.Forms.{form_told}

-- ---- filters

-- fir low X -> Y of 3 shift 2 plus 2 taps 1 -1 again 5 single abs
whole : filter_note (record { shift = 2; plus = pos 2; delay = 3; again = 1; single = Some Abs })
    (pos 1 ∷ negsuc 0 ∷ pos 5 ∷ [])
    ≡ codes "\\nof " ++ (decimal 3 ++ (codes "\\nshift " ++ (decimal 2
    ++ (codes "\\nplus " ++ (signed_decimal (pos 2)
    ++ (codes "\\ntaps " ++ (signed_decimal (pos 1) ++ (codes " " ++ (signed_decimal (negsuc 0)
    ++ (codes "\\nagain " ++ (signed_decimal (pos 5) ++ codes "\\nabs")))))))))))
whole = search (rules, append_assoc)

-- delay d X -> Y of 3
delayed : filter_note (record no_form { delay = 3 }) (pos 1 ∷ []) ≡ codes "\\nof " ++ decimal 3
delayed = append-nil (codes "\\nof " ++ decimal 3)

-- fir f X -> Y of 3 shift 0 taps -1: no delay, since it changes the sample
turned : is_delay (record no_form { delay = 3 }) (negsuc 0 ∷ []) ≡ false
turned = refl

-- nor where it sums, remembers or applies a single
summed : is_delay (record no_form { delay = 3 }) (pos 1 ∷ pos 1 ∷ []) ≡ false
summed = refl

remembered : is_delay (record no_form { delay = 3; again = 1 }) (pos 1 ∷ pos 1 ∷ []) ≡ false
remembered = refl

rectified : is_delay (record no_form { delay = 3; single = Some Abs }) (pos 1 ∷ []) ≡ false
rectified = refl

-- ---- forms

-- what only later texts have stands in the forms of no earlier one
delay_in_two : form_told Two Syntax (codes "delay d X") ≡ []
delay_in_two = refl

delay_in_three : form_told Three Syntax (codes "delay d X")
    ≡ codes "  form: delay NAME X -> Y of D [by P at N] [until M] [block=B]\n"
delay_in_three = refl

filter_in_one : form_told One Syntax (codes "fir f X")
    ≡ codes "  form: fir NAME X -> Y shift S taps T1 T2 .. [by P at N] [until M]\n"
filter_in_one = refl

sink_in_one : form_told One Syntax (codes "sink") ≡ codes "  form: sink NAME X [by P at N] [until M]\n"
sink_in_one = refl

sink_in_two : form_told Two Syntax (codes "sink")
    ≡ codes "  form: sink NAME X [by P at N [now]] [until M] [block=B]\n"
sink_in_two = refl
