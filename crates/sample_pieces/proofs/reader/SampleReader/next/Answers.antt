-- A line is read behind what was read before it.
use Rattle.std.proofs.Common.{rules, ◌≡◌, [], ◌∷◌, ◌++◌, false, w64, to_z, of_z, refl, sym, subst}
use Rattle.std.specs.Fmt.{signed_decimal}
use Rattle.phase_accum.proofs.Parts.{send-same}
use Rattle.sample_pieces.specs.Pieces.{HasRead}
use Rattle.sample_pieces.specs.declared.reader.SampleReader.{SampleReader}
use Rattle.sample_pieces.specs.declared.step.Where.TheVariants as place
use Rattle.sample_pieces.proofs.Lines.{line_read, none_in}
use Rattle.sample_pieces.proofs.reader.SampleReader.next.Goals as goal

pub returns-in-Some-clause-found : goal.returns-in-Some-clause-found
returns-in-Some-clause-found c = λ text values has.
    let begins = c.in-Some.ensures in
    let old = c.args.self.now in
    let new : SampleReader = record { at = old.at; field = old.field; is_first = false } in
    let at : old.at ≡ place.Between = search rules in
    let empty : old.field.items ≡ [] = none_in old.field.items c.if-is_empty.ensures in
    let v = c.in-Some.line.value in
    subst (λ line. HasRead (text ++ line) (values ++ to_z w64 (of_z w64 v) ∷ []) new) (sym begins.line_is)
    (subst (λ x. HasRead (text ++ (signed_decimal v ++ 10 ∷ [])) (values ++ x ∷ []) new)
    (sym (send-same v begins.send))
    (line_read text values old new v has begins.send at empty at empty refl))
