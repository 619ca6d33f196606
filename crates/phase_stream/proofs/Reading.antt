-- What a read gives behind what came before.
use Rattle.std.proofs.Common.{◌≡◌, ◌≤◌, ◌+◌, ◌++◌, ◌⊎◌, inl, inr, ℕ, ℤ, Bool, true, false, not, List, [], ◌∷◌, Option, Some, None, length, set, take, drop, refl, sym, ap, subst, ◌∙◌, arith, rules, append-nil, length-append, take-append-drop}
use Rattle.std.proofs.KnownBytes.{Consumes-kept, Consumes-nil, Consumes-trans}
use Rattle.std.proofs.lemmas.List.{append_assoc, length-take-le}
use Rattle.std.specs.Prelude.{IfSome}
use Rattle.std.specs.Io.KnownBytes.{Consumes, IsAtEnd, Keeps}
use mathlib.Core.List.{IsPrefix}
use Rattle.watched_io.specs.Files.{HasBytes}
use Rattle.watched_io.specs.Watched.{inner_of}
use Rattle.sample_pieces.specs.Pieces.{HasRead, IsBadFrom, TakesPiece}
use Rattle.sample_pieces.specs.declared.reader.SampleReader.{SampleReader}
use Rattle.graph_lang.specs.Samples.{AreRecordsOfValues, IsBadSample}
use Rattle.phase_accum.specs.Sends.{AreSends}
use Rattle.phase_accum.proofs.Parts.{AreSends-append_right}
use Rattle.phase_stream.specs.Sources.{BeginsSo, PieceGives, HasBadFrom, HasComeOf, HasFront, IsBehind, IsFront, IsKeptOf, IsOpenFile, IsTextOfFile}
use Rattle.phase_stream.specs.declared.record_text.RecordText.{RecordText}
use Rattle.phase_stream.specs.declared.source.OpenFile.{OpenFile}
use Rattle.phase_stream.specs.declared.source.TheConstants.{PIECE}
use Rattle.phase_stream.specs.declared.source.Piece.{Piece}

-- ---- fronts

-- nothing came of a file that was not read
pub nothing_came : (known : Option (List ℕ)) → HasFront known []
nothing_came known = record {
  text = [];
  front = (known, Consumes-nil known);
  begins = λ more all are. (all, refl);
}

-- a part of the front is one
pub less_front : (known rest : Option (List ℕ)) (text more : List ℕ)
    → Consumes known rest (text ++ more) → IsFront known text
less_front None rest text more e = (None, tt)
less_front (Some xs) None text more e = absurd e
less_front (Some xs) (Some ys) text more e = (Some (more ++ ys), e ∙ append_assoc text more ys)

-- the front at the end is all
pub front_whole : (known rest : Option (List ℕ)) (text : List ℕ) → Consumes known rest text
    → IsAtEnd rest → HasBytes known text
front_whole None rest text e end = tt
front_whole (Some xs) None text e end = absurd e
front_whole (Some xs) (Some ys) text e end =
    sym (e ∙ (ap (λ l. text ++ l) end ∙ append-nil text))

-- what is kept of a text at the front is of the file
pub kept_of_file : (known : Option (List ℕ)) (text : List ℕ) (kept : Option RecordText)
    → IsFront known text → IfSome kept (IsKeptOf text) → IfSome kept (IsTextOfFile known)
kept_of_file known text None front is = tt
kept_of_file known text (Some kept) front is =
    record { read = text; front = front; stands = is }

-- ---- a file that was opened

pub opened_file : {R : Type 0} (remaining : R → Option (List ℕ)) (known : Option (List ℕ))
    (file : OpenFile R) → Keeps known (remaining (inner_of file.input)) → HasRead [] [] file.reader
    → file.is_bad ≡ false → file.count ≡ 0 → IfSome file.text (IsKeptOf [])
    → IsOpenFile remaining known [] file
opened_file remaining known file keeps read good none kept = record {
  come = nothing_came known;
  good = λ e. record {
    text = [];
    consumed = Consumes-kept known known (remaining (inner_of file.input)) [] (Consumes-nil known) keeps;
    read = read;
    counted = none;
    kept = kept;
  };
  bad = λ e. absurd (cc (e, good));
  counted = none;
  kept = kept_of_file known [] file.text (known, Consumes-nil known) kept;
}

-- bytes that were read of it are still to be looked at
pub read_on : {R : Type 0} (remaining : R → Option (List ℕ)) (known : Option (List ℕ))
    (values : List ℤ) (old new : OpenFile R) (bytes : List ℕ)
    → IsBehind remaining known values [] old
    → Consumes (remaining (inner_of old.input)) (remaining (inner_of new.input)) bytes
    → new.reader ≡ old.reader → new.count ≡ old.count → new.text ≡ old.text
    → IsBehind remaining known values bytes new
read_on remaining known values old new bytes is more reader count kept = record {
  text = is.text;
  consumed = subst (λ t. Consumes known (remaining (inner_of new.input)) t)
      (ap (λ t. t ++ bytes) (append-nil is.text))
      (Consumes-trans known (remaining (inner_of old.input)) (remaining (inner_of new.input))
      (is.text ++ []) bytes is.consumed more);
  read = subst (HasRead is.text values) (sym reader) is.read;
  counted = count ∙ is.counted;
  kept = subst (λ k. IfSome k (IsKeptOf is.text)) (sym kept) is.kept;
}

-- ---- samples of a piece

-- samples that were read begin those of each text that goes on so; behind a bad record there is none
pub begins_by : (bad : Bool) (text : List ℕ) (values : List ℤ) (reader : SampleReader)
    → ((text more : List ℕ) (values all : List ℤ) (reader : SampleReader)
    → HasRead text values reader → AreRecordsOfValues (text ++ more) all → IsPrefix values all)
    → ((text : List ℕ) (values : List ℤ) (n : ℕ) → AreRecordsOfValues text values
    → IsBadSample text n → ⊥)
    → TakesPiece bad text values reader → BeginsSo text values
begins_by false text values reader law apart takes more all are =
    law text more values all reader takes are
begins_by true text values reader law apart takes more all are =
    absurd (apart (text ++ more) all (length values + 1) are (takes.1 more))

sends_by : (bad : Bool) (text : List ℕ) (values : List ℤ) (reader : SampleReader)
    → TakesPiece bad text values reader → AreSends values
sends_by false text values reader takes = takes.sends
sends_by true text values reader takes = takes.0

-- the record behind the samples that came is none
pub bad_behind : (known : Option (List ℕ)) (text : List ℕ) (n : ℕ) → IsFront known text
    → IsBadFrom text n → HasBadFrom known n
bad_behind known text n front bad = record {
  text = text;
  front = front;
  bad = subst (λ t. IsBadSample t n) (append-nil text) (bad []);
}

-- all bytes were looked at where no record is bad
pub looked_all : (bad : Bool) (looked bytes : ℕ) → (not bad ≡ true × bytes ≤ looked) ⊎ (not bad ≡ false)
    → looked ≤ bytes → bad ≡ false → looked ≡ bytes
looked_all bad looked bytes (inl past) within e = let most = past.1 in omega arith
looked_all true looked bytes (inr never) within e = search rules
looked_all false looked bytes (inr never) within e = search rules

pub piece_got : {R : Type 0} (remaining : R → Option (List ℕ)) (known : Option (List ℕ))
    (values room : List ℤ) (bytes : List ℕ) (old new : OpenFile R) (piece : Piece) (looked : ℕ)
    → ((text more : List ℕ) (values all : List ℤ) (reader : SampleReader)
    → HasRead text values reader → AreRecordsOfValues (text ++ more) all → IsPrefix values all)
    → ((text : List ℕ) (values : List ℤ) (n : ℕ) → AreRecordsOfValues text values
    → IsBadSample text n → ⊥)
    → (is : IsBehind remaining known values bytes old)
    → TakesPiece new.is_bad (is.text ++ take looked bytes) (values ++ take piece.count room) new.reader
    → (new.is_bad ≡ false → looked ≡ length bytes)
    → piece.is_last ≡ false → piece.count ≤ length room → piece.count ≤ PIECE
    → new.input ≡ old.input → new.count ≡ old.count + piece.count
    → IfSome new.text (IsKeptOf (is.text ++ bytes))
    → PieceGives remaining known values room piece new
piece_got remaining known values room bytes old new piece looked law apart is takes all more few
    small input count kept =
    let text = is.text ++ take looked bytes in
    let parts : is.text ++ bytes ≡ text ++ drop looked bytes =
    sym (append_assoc is.text (take looked bytes) (drop looked bytes)
    ∙ ap (λ l. is.text ++ l) (take-append-drop looked bytes)) in
    let consumed : Consumes known (remaining (inner_of new.input)) (text ++ drop looked bytes) =
    subst (λ w. Consumes known (remaining (inner_of w)) (text ++ drop looked bytes)) (sym input)
    (subst (λ t. Consumes known (remaining (inner_of old.input)) t) parts is.consumed) in
    let front = less_front known (remaining (inner_of new.input)) text (drop looked bytes) consumed in
    let read = values ++ take piece.count room in
    let come : HasFront known read =
    record { text = text; front = front; begins = begins_by new.is_bad text read new.reader law apart takes } in
    let counted : new.count ≡ length read =
    omega (arith, count, is.counted, length-append values (take piece.count room), length-take-le piece.count room few) in
    record {
      few = few;
      small = small;
      last = λ e. absurd (cc (e, more));
      come = subst (λ last. HasComeOf last known read) (sym more) come;
      sends = AreSends-append_right values (take piece.count room)
          (sends_by new.is_bad text read new.reader takes);
      goes_on = λ e. record {
        come = come;
        good = λ good. record {
          text = text;
          consumed = subst (λ t. Consumes known (remaining (inner_of new.input)) t)
              (ap (λ n. text ++ drop n bytes) (all good) ∙ ap (λ l. text ++ l) (none_left bytes)) consumed;
          read = subst (λ b. TakesPiece b text read new.reader) good takes;
          counted = counted;
          kept = subst (λ t. IfSome new.text (IsKeptOf t))
              (sym (ap (λ n. is.text ++ take n bytes) (all good)
              ∙ ap (λ l. is.text ++ l) (all_taken bytes))) kept;
        };
        bad = λ bad. bad_behind known text (length read + 1) front
            (subst (λ b. TakesPiece b text read new.reader) bad takes).1;
        counted = counted;
        kept = kept_of_file known (is.text ++ bytes) new.text
            (remaining (inner_of old.input), is.consumed) kept;
      };
    }
  where
    all_taken : (xs : List ℕ) → take (length xs) xs ≡ xs
    all_taken [] = refl
    all_taken (x ∷ xs) = ap (λ l. x ∷ l) (all_taken xs)

    none_left : (xs : List ℕ) → drop (length xs) xs ≡ []
    none_left [] = refl
    none_left (x ∷ xs) = none_left xs

-- ---- the end of a file

pub last_one : {R : Type 0} (remaining : R → Option (List ℕ)) (known : Option (List ℕ))
    (values room : List ℤ) (v : ℤ) (file : OpenFile R) (piece : Piece)
    → (is : IsBehind remaining known values [] file) → IsAtEnd (remaining (inner_of file.input))
    → AreRecordsOfValues is.text (values ++ v ∷ []) → take 1 room ≡ v ∷ [] → piece.count ≡ 1
    → piece.count ≤ length room → piece.is_last ≡ true → PieceGives remaining known values room piece file
last_one remaining known values room v file piece is end are there one few last = record {
  few = few;
  small = omega (arith, one);
  last = λ e. omega (arith, one);
  come = subst (λ b. HasComeOf b known (values ++ take piece.count room)) (sym last) record {
    text = is.text;
    bytes = subst (HasBytes known) (append-nil is.text)
        (front_whole known (remaining (inner_of file.input)) (is.text ++ []) is.consumed end);
    samples = subst (AreRecordsOfValues is.text)
        (sym (ap (λ n. values ++ take n room) one ∙ ap (λ l. values ++ l) there)) are;
  };
  sends = subst AreSends (sym (ap (λ n. take n room) one ∙ there))
      (AreSends-append_right values (v ∷ []) are.sends);
  goes_on = λ e. absurd (cc (e, last));
}

-- a value that was put in the first place
pub first_set : (room : List ℤ) (v : ℤ) → 1 ≤ length room → take 1 (set room 0 v) ≡ v ∷ []
first_set [] v few = absurd (omega (arith, few))
first_set (x ∷ room) v few = refl
