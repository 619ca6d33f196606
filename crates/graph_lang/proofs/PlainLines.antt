-- Lines of a word each, as csv reads them, and the values of such a text.
use Rattle.std.proofs.Common.{ℕ, zero, suc, ◌≡◌, ◌<◌, ◌≤◌, ◌==◌, inl, inr, ℤ, List, [], ◌∷◌, ◌++◌, length, ◌+◌, ◌-◌, map, take, drop, get_or, append_assoc, append-nil, refl, sym, ap, ◌∙◌, arith, Some, false}
use Rattle.std.specs.Str.Parse.{AllDigits}
use Rattle.std.specs.Fmt.{decimal, signed_decimal}
use Rattle.std.proofs.lemmas.Str.Parse.{digit_from_value}
use Rattle.std.proofs.lemmas.Bool.{ne_eqb}
use Rattle.std.proofs.lemmas.List.{drop-drop, take-append-drop, take_all, length-drop}
use Rattle.csv.specs.Machine.{Runs, next_record, step}
use Rattle.csv.specs.Reading.{AreRecords, Reached, default_config, strip_bom}
use Rattle.csv.specs.declared.parser.State.{State}
use Rattle.csv.specs.declared.parser.State.TheVariants as st
use Rattle.csv.specs.declared.parser.Action.TheVariants as act
use Rattle.csv.proofs.ReadFacts.{run-copies, not-first}
use Rattle.phase_accum.specs.Sends.{AreSends, IsSend, value_max}
use Rattle.graph_lang.specs.TextInside.{EndsLine, BeginsWithCount, BeginsWithLine, BeginsWithWord}
use Rattle.graph_lang.specs.PlainLines.{Leads}
use Rattle.graph_lang.specs.Samples.{AreRecordsOfValues, row_of}
use Rattle.graph_lang.proofs.Digits.{looks_decimal}
use lib.IntN.{pos, negsuc, neg_ℤ}

-- ---- words of digits and signs

-- each byte is one of a number
abbrev pub IsWord : List ℕ → Type 0
IsWord [] = Unit {0}
IsWord (c ∷ cs) = (44 < c) × (c < 58) × IsWord cs

pub digits-word : (ds : List ℕ) → AllDigits 10 ds → IsWord ds
digits-word [] digits = tt
digits-word (c ∷ cs) digits =
    let d = digit_from_value c digits.0 in
    (omega (arith, d), omega (arith, d), digits-word cs digits.1)

-- a value's word, which is not empty
pub record IsFullWord (word : List ℕ) : Type 0 where
  pub first : ℕ
  pub others : List ℕ
  pub word_is : word ≡ first ∷ others
  pub bytes : IsWord (first ∷ others)

decimal-word : (n : ℕ) → (ds : List ℕ) → AllDigits 10 ds → 0 < length ds → IsFullWord ds
decimal-word n [] digits some = absurd (omega arith)
decimal-word n (c ∷ cs) digits some =
    record { first = c; others = cs; word_is = refl; bytes = digits-word (c ∷ cs) digits }

pub value-word : (v : ℤ) → IsSend v → IsFullWord (signed_decimal v)
value-word (pos n) send =
    let form = looks_decimal n send.small in
    decimal-word n (decimal n) form.digits form.some
value-word (negsuc n) send =
    let form = looks_decimal (suc n) send.small in
    record {
      first = 45;
      others = decimal (suc n);
      word_is = refl;
      bytes = (omega arith, omega arith, digits-word (decimal (suc n)) form.digits);
    }

-- ---- a line of a word

pub joins : (c : ℕ) → 44 < c → step default_config st.InField c ≡ (st.InField, act.Copy)
joins c high =
    let comma : (c == 44) ≡ false = ne_eqb c 44 (λ e. omega (arith, e)) in
    let return : (c == 13) ≡ false = ne_eqb c 13 (λ e. omega (arith, e)) in
    let feed : (c == 10) ≡ false = ne_eqb c 10 (λ e. omega (arith, e)) in
    rw (comma, return, feed) refl

pub starts : (c : ℕ) → 44 < c → step default_config st.StartRecord c ≡ (st.InField, act.Copy)
starts c high =
    let comma : (c == 44) ≡ false = ne_eqb c 44 (λ e. omega (arith, e)) in
    let return : (c == 13) ≡ false = ne_eqb c 13 (λ e. omega (arith, e)) in
    let feed : (c == 10) ≡ false = ne_eqb c 10 (λ e. omega (arith, e)) in
    let quote : (c == 34) ≡ false = ne_eqb c 34 (λ e. omega (arith, e)) in
    rw (comma, return, feed, quote) refl

runs : (cs : List ℕ) → IsWord cs → Runs default_config st.InField cs
unfolding Runs
runs [] bytes = tt
runs (c ∷ cs) bytes = (joins c bytes.0, runs cs bytes.2)

-- the word joins the field, up to the line's end
word-joins : (c : ℕ) (cs tail : List ℕ) → IsWord (c ∷ cs)
    → next_record default_config st.StartRecord [] [] (c ∷ (cs ++ tail))
    ≡ next_record default_config st.InField [] (c ∷ cs) tail
unfolding next_record
word-joins c cs tail bytes =
    rw (starts c bytes.0) (run-copies default_config st.InField [] (c ∷ []) cs tail (runs cs bytes.2))

-- where the records of the rest are these, the text's are these with one in front
after-feed : (rest : List ℕ) (rows : List (List (List ℕ))) → AreRecords default_config st.StartRecord rest rows
    → AreRecords default_config st.AfterCr (10 ∷ rest) rows
unfolding Reached next_record
after-feed rest [] (s, ys, reached, none) =
    (st.AfterCr, 10 ∷ rest, (refl, refl), rw (reached.0, reached.1) none)
after-feed rest (row ∷ rows) (s, ys, reached, none) = (s, ys, reached, none)

one-more : (text rest : List ℕ) (s : State) (row : List (List ℕ)) (rows : List (List (List ℕ)))
    → next_record default_config st.StartRecord [] [] text ≡ Some (row, s, rest)
    → AreRecords default_config s rest rows → AreRecords default_config st.StartRecord text (row ∷ rows)
unfolding Reached
one-more text rest s row rows next (s2, ys, reached, none) =
    (s2, ys, ((row, s, rest), next, refl, reached), none)

line-more : (c : ℕ) (cs end rest : List ℕ) (rows : List (List (List ℕ))) → IsWord (c ∷ cs) → EndsLine end rest
    → AreRecords default_config st.StartRecord rest rows
    → AreRecords default_config st.StartRecord (c ∷ (cs ++ (end ++ rest))) (((c ∷ cs) ∷ []) ∷ rows)
unfolding next_record
line-more c cs end rest rows bytes (inl feed) records =
    one-more _ rest st.StartRecord _ rows (rw feed (word-joins c cs (10 ∷ rest) bytes)) records
line-more c cs end rest rows bytes (inr (inl both)) records =
    one-more _ (10 ∷ rest) st.AfterCr _ rows (rw both (word-joins c cs (13 ∷ 10 ∷ rest) bytes))
    (after-feed rest rows records)
line-more c cs end rest rows bytes (inr (inr none)) records =
    one-more _ [] st.StartRecord _ rows (rw (none.0, none.1) (word-joins c cs [] bytes)) (rw none.1 at records)

-- ---- the values of lines

pub leads-none : (text : List ℕ) → Leads text [] text
leads-none text more records = records

pub leads-more : (text line : List ℕ) (values : List ℤ) (v : ℤ) (size : ℕ) → BeginsWithLine line v size
    → Leads text values line → Leads text (values ++ v ∷ []) (drop size line)
leads-more text line values v size begins leads more records =
    let word = value-word v begins.send in
    let line_is : line ≡ word.first ∷ (word.others ++ (begins.line.end ++ drop size line)) =
    begins.line.text_is ∙ ap (λ (w : List ℕ). w ++ (begins.line.end ++ drop size line)) word.word_is in
    let row_is : (word.first ∷ word.others) ∷ [] ≡ row_of v = ap (λ (w : List ℕ). w ∷ []) (sym word.word_is) in
    let all = line-more word.first word.others begins.line.end (drop size line) (map row_of more) word.bytes
    begins.line.ends records in
    rw (append_assoc values (v ∷ []) more) (leads (v ∷ more) (rw (← line_is, row_is) at all))

-- what stands behind so many bytes
pub rest-is : (text : List ℕ) (n : ℕ) → take (length text - n) (drop n text) ≡ drop n text
rest-is text n = take_all (length text - n) (drop n text) (omega (arith, length-drop n text))

-- a number's digits, and then the end of a line
pub count-line : (text : List ℕ) (n size e : ℕ) → take size text ≡ decimal n → n ≤ value_max → 0 < size
    → size ≤ length text → BeginsWithWord (drop size text) [] e
    → BeginsWithCount text n (size + e)
count-line text n size e digits few some within begins =
    let left = drop-drop e size text in
    let long = length-drop size text in
    let short = begins.within in
    record {
      few = few;
      some = omega arith;
      line = record {
        end = begins.end;
        ends = rw (← left) begins.ends;
        text_is = sym (take-append-drop size text) ∙ (ap (λ (xs : List ℕ). xs ++ drop size text) digits
            ∙ ap (λ (xs : List ℕ). decimal n ++ xs) (begins.text_is
            ∙ ap (λ (xs : List ℕ). begins.end ++ xs) left));
        within = omega arith;
      };
    }

-- a minus sign, and then such a number
pub minus-line : (text : List ℕ) (n size : ℕ) → get_or text 0 0 ≡ 45 → 0 < n → BeginsWithCount (drop 1 text) n size
    → BeginsWithLine text (neg_ℤ (pos n)) (size + 1)
minus-line text zero size first some begins = absurd (omega arith)
minus-line [] n size first some begins = absurd (omega arith)
minus-line (c ∷ text) (suc n) size first some begins =
    let plus : size + 1 ≡ suc size = omega arith in
    let left : drop (size + 1) (c ∷ text) ≡ drop size text = ap (λ (k : ℕ). drop k (c ∷ text)) plus in
    record {
      send = record { small = begins.few };
      some = omega arith;
      line = record {
        end = begins.line.end;
        ends = rw left begins.line.ends;
        text_is = ap (λ (b : ℕ). b ∷ text) first ∙ rw left (ap (λ (xs : List ℕ). 45 ∷ xs) begins.line.text_is);
        within = omega (arith, begins.line.within);
      };
    }

-- one more line, at a place of the text
pub line-more-at : (text : List ℕ) (at : ℕ) (values : List ℤ) (v : ℤ) (size : ℕ)
    → BeginsWithLine (drop at text) v size → Leads text values (drop at text)
    → Leads text (values ++ v ∷ []) (drop (at + size) text)
line-more-at text at values v size begins leads =
    let left = drop-drop size at text in
    rw (← left) (leads-more text (drop at text) values v size begins leads)

-- ---- no byte order mark

not-mark : (xs : List ℕ) (c : ℕ) (cs : List ℕ) → xs ≡ c ∷ cs → c < 58 → strip_bom xs ≡ xs
not-mark xs c cs is low =
    let other : (c == 239) ≡ false = ne_eqb c 239 (λ e. omega (arith, e)) in
    rw is (not-first (c ∷ cs) (Some cs) (omega arith) other)

pub bare-more : (text : List ℕ) (at : ℕ) (v : ℤ) (size : ℕ) → BeginsWithLine (drop at text) v size
    → (0 < at → strip_bom text ≡ text) → strip_bom text ≡ text
bare-more text zero v size begins bare =
    let word = value-word v begins.send in
    let text_is : text ≡ word.first ∷ (word.others ++ (begins.line.end ++ drop size text)) =
    begins.line.text_is ∙ ap (λ (w : List ℕ). w ++ (begins.line.end ++ drop size text)) word.word_is in
    not-mark text word.first _ text_is word.bytes.1
bare-more text (suc at) v size begins bare = bare (omega arith)

pub bare-end : (text : List ℕ) (at : ℕ) → length text ≤ at → (0 < at → strip_bom text ≡ text)
    → strip_bom text ≡ text
unfolding strip_bom
bare-end [] at all bare = refl
bare-end (c ∷ text) at all bare = bare (omega arith)

-- ---- the whole text

pub samples-whole : (text : List ℕ) (values : List ℤ) → AreSends values → Leads text values []
    → strip_bom text ≡ text → AreRecordsOfValues text values
unfolding Reached next_record
samples-whole text values sends leads bare = record {
  sends = sends;
  records = rw bare (rw (append-nil values) at (leads [] (st.StartRecord, [], (refl, refl), refl)));
}
