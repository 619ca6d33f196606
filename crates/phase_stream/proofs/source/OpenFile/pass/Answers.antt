-- What was looked at of the piece, and the samples in it.
use Rattle.std.proofs.Common.{◌≡◌, ◌≤◌, ◌⊎◌, false, true, length, not, ap, ℤ, List, rules, refl, sym, subst, take, arith}
use Rattle.std.proofs.lemmas.List.{length-take-le}
use Rattle.std.specs.Prelude.{IfSome}
use Rattle.phase_stream.specs.Sources.{IsKeptOf}
use Rattle.phase_stream.proofs.Reading.{looked_all, piece_got}
use Rattle.phase_stream.proofs.source.OpenFile.pass.Goals as goal

pub returns-clause-got : goal.returns-clause-got
returns-clause-got g c = λ known values is.
    let bytes = take c.args.bytes c.args.room.now.piece in
    let taken = c.read-taken.result in
    let size = length-take-le c.args.bytes c.args.room.now.piece c.requires in
    let within = c.read-taken.ensures.bytes in
    let either = subst (λ n. (not taken.is_bad ≡ true × n ≤ taken.bytes) ⊎ (not taken.is_bad ≡ false)) (sym size) c.else-not-taken.either in
    let all : taken.is_bad ≡ false → taken.bytes ≡ length bytes =
    looked_all taken.is_bad taken.bytes (length bytes) either within in
    let size : length c.args.room.now.values ≡ 8192 = search rules in
    let long = ap (λ (l : List ℤ). length l) c.as_mut_slice.ensures.value in
    piece_got g.R.Read.remaining known values c.read-taken.new.out bytes c.args.self.now
    (record {
      input = c.args.self.now.input;
      reader = c.read-taken.new.self;
      is_bad = taken.is_bad;
      count = c.in-Some.count;
      text = c.text_behind.result;
    })
    (record { count = taken.values; is_last = false }) taken.bytes
    c.what_was_read_begins.ensures c.one_reading.ensures.apart is
    (c.read-taken.ensures.takes is.text values is.read) all refl
    (omega (arith, c.read-taken.ensures.values, c.read-taken.auto.out))
    (omega (arith, c.read-taken.ensures.values, long, size)) refl c.in-Some.ensures.1
    (c.text_behind.ensures is.text
    (subst (λ o. IfSome o (IsKeptOf is.text)) (sym c.take.ensures.value) is.kept))
