-- A line or a byte at a time.
use Rattle.std.proofs.Common.{◌≡◌, ◌<◌, ◌≤◌, ◌+◌, ◌-◌, ◌++◌, ◌∷◌, [], ℕ, ℤ, List, length, take, drop, set, subst, sym, ap, ◌∙◌, append_assoc, arith, take-add, take-suc-set, drop-set-lt, drop-drop, rules, w64, to_z, of_z}
use native.Mathlib.Numerals.{unary_clauses}
use Rattle.std.proofs.lemmas.List.{length-drop, length-set, take_all}
use Rattle.sample_pieces.specs.Pieces.{HasRead, Finds}
use Rattle.sample_pieces.specs.declared.reader.Found.{Found}
use Rattle.sample_pieces.specs.declared.reader.SampleReader.{SampleReader}
use Rattle.sample_pieces.proofs.reader.SampleReader.read.Goals as goal

-- more bytes of a piece
more_bytes : (text piece : List ℕ) (j size : ℕ)
    → (text ++ take j piece) ++ take size (drop j piece) ≡ text ++ take (j + size) piece
more_bytes text piece j size =
    append_assoc text (take j piece) (take size (drop j piece))
    ∙ ap (λ t. text ++ t) (sym (take-add j size piece))

-- what is left of it
rest_is : (piece : List ℕ) (n : ℕ) → take (length piece - n) (drop n piece) ≡ drop n piece
rest_is piece n = take_all (length piece - n) (drop n piece) (omega (arith, length-drop n piece))

-- what was found in the next bytes
found_next : (text piece : List ℕ) (values : List ℤ) (reader : SampleReader) (found : Found)
    (bytes size : ℕ)
    → Finds ((text ++ take bytes piece) ++ take size (take (length piece - bytes) (drop bytes piece)))
    values reader found → Finds (text ++ take (bytes + size) piece) values reader found
found_next text piece values reader found bytes size finds =
    subst (λ t. Finds t values reader found) (more_bytes text piece bytes size)
    (subst (λ (l : List ℕ). Finds ((text ++ take bytes piece) ++ take size l) values reader found)
    (rest_is piece bytes) finds)

-- a value more
one_value : (values out : List ℤ) (n : ℕ) (v : ℤ) → n < length out
    → (values ++ take n out) ++ v ∷ [] ≡ values ++ take (n + 1) (set out n v)
one_value values out n v within =
    append_assoc values (take n out) (v ∷ [])
    ∙ ap (λ t. values ++ t) (sym (simp unary_clauses (take-suc-set out n v within)))

-- what stands behind it
behind : (out old : List ℤ) (n : ℕ) (v : ℤ) → drop n out ≡ drop n old
    → drop (n + 1) (set out n v) ≡ drop (n + 1) old
behind out old n v same =
    drop-set-lt (n + 1) out n v (omega arith) ∙ sym (drop-drop 1 n out)
    ∙ ap (λ l. drop 1 l) same ∙ drop-drop 1 n old

pub loop-bytes-preserved-in-Nothing : goal.loop-bytes-preserved-in-Nothing
loop-bytes-preserved-in-Nothing c =
    let piece = c.args.piece.now in
    let bytes = c.loop-bytes.bytes in
    let size = c.next-size.result.size in (
      c.loop-bytes.invariant.0,
      c.loop-bytes.invariant.1,
      c.loop-bytes.invariant.2,
      (λ text values has.
          let before = c.loop-bytes.invariant.3 text values has in
          let now = values ++ take c.loop-bytes.values c.loop-bytes.out in
          subst (Finds (text ++ take (bytes + size) piece) now c.next-size.new.self) c.in-Nothing.is
          (found_next text piece now c.next-size.new.self c.next-size.result.found bytes size
          (c.next-size.ensures.found (text ++ take bytes piece) now before))),
      omega (
        arith,
        c.next-size.ensures.size.1,
        ap length (rest_is piece bytes),
        length-drop bytes piece,
        c.loop-bytes-test.true,
      ),
    )

pub loop-bytes-preserved : goal.loop-bytes-preserved
loop-bytes-preserved c =
    let piece = c.args.piece.now in
    let bytes = c.loop-bytes.bytes in
    let size = c.next-size.result.size in
    let out = c.loop-bytes.out in
    let n = c.loop-bytes.values in
    let v = c.in-Value.value in
    let few : n < length out = search rules in
    let v_same : to_z w64 (of_z w64 v) ≡ v = search rules in
    let same = length-set out n v in
    subst (λ x. (n + 1 ≤ length (set out n x)) × (length (set out n x) ≡ length c.args.out.now)
    × (drop (n + 1) (set out n x) ≡ drop (n + 1) c.args.out.now)
    × ((text : List ℕ) (values : List ℤ) → HasRead text values c.args.self.now
    → HasRead (text ++ take (bytes + size) piece) (values ++ take (n + 1) (set out n x))
    c.next-size.new.self)
    × (bytes + size ≤ length piece)) (sym v_same) (
      omega (arith, few, same),
      same ∙ c.loop-bytes.invariant.1,
      behind out c.args.out.now n v c.loop-bytes.invariant.2,
      (λ text values has.
          let before = c.loop-bytes.invariant.3 text values has in
          let now = values ++ take n out in
          subst (λ vs. HasRead (text ++ take (bytes + size) piece) vs c.next-size.new.self)
          (one_value values out n v few)
          (subst (Finds (text ++ take (bytes + size) piece) now c.next-size.new.self) c.in-Value.is
          (found_next text piece now c.next-size.new.self c.next-size.result.found bytes size
          (c.next-size.ensures.found (text ++ take bytes piece) now before)))),
      omega (
        arith,
        c.next-size.ensures.size.1,
        ap length (rest_is piece bytes),
        length-drop bytes piece,
        c.loop-bytes-test.true,
      ),
    )

pub returns-in-Bad-clause-takes : goal.returns-in-Bad-clause-takes
returns-in-Bad-clause-takes c = λ text values has.
    let piece = c.args.piece.now in
    let bytes = c.loop-bytes.bytes in
    let size = c.next-size.result.size in
    let before = c.loop-bytes.invariant.3 text values has in
    let now = values ++ take c.loop-bytes.values c.loop-bytes.out in (
      before.sends,
      subst (Finds (text ++ take (bytes + size) piece) now c.next-size.new.self) c.in-Bad.is
          (found_next text piece now c.next-size.new.self c.next-size.result.found bytes size
          (c.next-size.ensures.found (text ++ take bytes piece) now before)),
    )
