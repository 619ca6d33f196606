-- Reading a line and spelling it agree: what is spelled is read so.
use Rattle.std.proofs.Common.{suc, ◌≡◌, ◌+◌, ◌==◌, ◌&&◌, not, nat_le, Bool, true, false, List, [], ◌∷◌, ◌++◌, length, refl, ap, sym, ◌∙◌, arith, Option, Some, None, codes, IfSome, IsTrue, ne_eqb, append-nil, append_assoc}
use Rattle.std.specs.List.{list_all, prefix_len}
use Rattle.std.proofs.Math.Seq.{take-append_seam, drop-append_seam}
use Rattle.std.specs.Str.{bytes_eq}
use Rattle.phase_base.specs.Words.{Word, is_name}
use Rattle.phase_base.specs.declared.word.TheConstants.{NAME_MAX}
use Rattle.std.proofs.lemmas.Option.{same_Some}
use Rattle.std.proofs.lemmas.Bool.{and_parts}
use Rattle.phase_base.specs.OperationWords.{operation_word}
use Rattle.phase_base.specs.declared.operation.Op.{Op}
use Rattle.phase_base.specs.declared.operation.Op.TheVariants.{Sum, Product, Least, Greatest, Any}
use Rattle.phase_base.specs.Numbers.{is_nat, is_int}
use Rattle.graph_text.specs.Decls.{Decl, phaser, task, FunctionWords, neg, abs, halve, clamp, ByWords, EndWords, FilterWords, BodyWords, source, fir, delay, decimate, split, join, peer, sink, decl_spelling, function_words, single_words, now_words, by_words, until_words, block_words, end_words, body_word, body_words, signed_words, again_words, behind_taps, filter_words, IsFunction, AreAgain, IsFilter, IsBody, IsBy, MayHaveBy, AreEnds, AreSome, IsWellFormed, IsWellFormedBy, may_have_parent, may_join_now, may_have_blocks, Spells}
use Rattle.graph_text.specs.Versions.{has_third, is_third_word}
use Rattle.graph_text.specs.declared.version.Version.{Version}
use Rattle.graph_text.specs.declared.version.Version.TheVariants.{Three}
use Rattle.graph_text.specs.WordReading.{word_at, after, begins, some_at, operation_at, clamp_at, function_named, function_at, single_at, now_at, by_at, until_at, block_number, block_at, ends_at, source_at, signed_at, again_at, applied_at, filter_at, fir_at, delay_at, decimate_at, split_at, join_at, peer_at, sink_at, body_at, phaser_words_at, task_words_at, decl_by}

-- ---- words

-- the first of these words, if there is one, does not pass
abbrev Stops : (Word → Bool) → List Word → Type 0
Stops test [] = Unit {0}
Stops test (w ∷ ws) = test w ≡ false

front-again : (test : Word → Bool) (ws after : List Word) → list_all test ws ≡ true → Stops test after
    → prefix_len test (ws ++ after) ≡ length ws
front-again test [] [] all stops = refl
front-again test [] (w ∷ after) all stops = rw stops refl
front-again test (w ∷ ws) after all stops =
    let here = and_parts (test w) (list_all test ws) all in
    let next : 1 + length ws ≡ suc (length ws) = omega arith in
    rw (here.0, front-again test ws after here.1 stops) next

some_again : (test : Word → Bool) (ws after : List Word) → AreSome test ws → Stops test after
    → some_at test (ws ++ after) ≡ Some (ws, after)
unfolding some_at
some_again test ws after are stops =
    let some : (length ws == 0) ≡ false = ne_eqb (length ws) 0 (λ e. omega (arith, e, are.0)) in
    rw (front-again test ws after are.1 stops, some, take-append_seam ws after, drop-append_seam ws after) refl

-- ---- parts of a line

operation_again : (op : Op) (ws : List Word) → operation_at (operation_word op ∷ ws) ≡ Some (op, ws)
unfolding operation_at
operation_again Sum ws = refl
operation_again Product ws = refl
operation_again Least ws = refl
operation_again Greatest ws = refl
operation_again Any ws = refl

function_again : (f : FunctionWords) (ws : List Word) → IsFunction f
    → function_at (function_words f ++ ws) ≡ Some (f, ws)
unfolding function_at function_named clamp_at word_at
function_again neg ws is = refl
function_again abs ws is = refl
function_again halve ws is = refl
function_again (clamp low high) ws is = rw (is.0, is.1) refl

-- a sign stands in front, and no word does
begins_so : (sign : Word) (ws : List Word) → bytes_eq sign sign ≡ true
    → begins sign (sign ∷ ws) ≡ true
unfolding begins
begins_so sign ws is = is

begins_nothing : (sign : Word) → begins sign [] ≡ false
unfolding begins
begins_nothing sign = refl

after_sign : (sign : Word) (ws : List Word) → bytes_eq sign sign ≡ true
    → after sign (sign ∷ ws) ≡ Some ws
unfolding after
after_sign sign ws is = rw is refl

word_again : (test : Word → Bool) (w : Word) (ws : List Word) → test w ≡ true
    → word_at test (w ∷ ws) ≡ Some (w, ws)
unfolding word_at
word_again test w ws is = rw is refl

single_again : (single : Option FunctionWords) (ws : List Word) → IfSome single IsFunction
    → begins (codes "single") ws ≡ false → single_at (single_words single ++ ws) ≡ Some (single, ws)
unfolding single_at
single_again None ws is none = rw none refl
single_again (Some f) ws is none =
    let words = function_words f ++ ws in
    rw (
      begins_so (codes "single") words refl,
      after_sign (codes "single") words refl,
      function_again f ws is,
    ) refl

single_alone : (single : Option FunctionWords) → IfSome single IsFunction
    → single_at (single_words single) ≡ Some (single, [])
single_alone single is =
    ap single_at (sym (append-nil (single_words single)))
    ∙ single_again single [] is (begins_nothing (codes "single"))

-- the words behind a parent begin with no word for one
no_parent : (until block : Option Word)
    → begins (codes "by") (until_words until ++ block_words block) ≡ false
unfolding begins
no_parent None None = refl
no_parent None (Some steps) = refl
no_parent (Some steps) block = refl

now_again : (joins now : Bool) (until block : Option Word) → (now ≡ true → joins ≡ true)
    → now_at joins (now_words now ++ (until_words until ++ block_words block))
    ≡ (now, until_words until ++ block_words block)
unfolding now_at
now_again joins true until block may = rw (may refl) refl
now_again true false None None may = refl
now_again true false None (Some steps) may = refl
now_again true false (Some steps) block may = refl
now_again false false None None may = refl
now_again false false None (Some steps) may = refl
now_again false false (Some steps) block may = refl

by_again : (allowed joins : Bool) (by : Option ByWords) (until block : Option Word)
    → IfSome by (λ by. IsBy by × ((allowed ≡ true) × (by.now ≡ true → joins ≡ true)))
    → by_at allowed joins (by_words by ++ (until_words until ++ block_words block))
    ≡ Some (by, until_words until ++ block_words block)
unfolding by_at after begins word_at
by_again true joins None until block is = rw (no_parent until block) refl
by_again false joins None until block is = refl
by_again allowed joins (Some by) until block is =
    rw (is.1.0, is.0.0, is.0.1, now_again joins by.now until block is.1.1) refl

until_again : (until block : Option Word) → IfSome until (λ steps. IsTrue (is_nat steps))
    → until_at (until_words until ++ block_words block) ≡ Some (until, block_words block)
unfolding until_at after begins word_at
until_again None None is = refl
until_again None (Some steps) is = refl
until_again (Some steps) block is = rw is refl

block_again : (allowed : Bool) (block : Option Word)
    → IfSome block (λ steps. IsTrue (is_nat steps) × (allowed ≡ true))
    → block_at allowed (block_words block) ≡ Some block
unfolding block_at block_number
block_again allowed None is = refl
block_again allowed (Some steps) is = rw (is.1, is.0) refl

ends_again : (version : Version) (body : BodyWords) (ends : EndWords) → AreEnds version body ends
    → ends_at version body (end_words ends) ≡ Some ends
unfolding ends_at
ends_again version body ends are =
    rw (
      by_again (may_have_parent body) (may_join_now version body) ends.by ends.until ends.block
          are.by,
      until_again ends.until ends.block are.until,
      block_again (may_have_blocks version body) ends.block are.block,
    ) refl

-- a list of words ends before the ends of a line
ends_stop : (test : Word → Bool) → test (codes "by") ≡ false → test (codes "until") ≡ false
    → ((steps : Word) → test (codes "block=" ++ steps) ≡ false) → (ends : EndWords)
    → Stops test (end_words ends)
ends_stop test no_by no_until no_block ends = at ends.by ends.until ends.block
  where
    at : (by : Option ByWords) (until block : Option Word)
        → Stops test (by_words by ++ (until_words until ++ block_words block))
    at None None None = tt
    at None None (Some steps) = no_block steps
    at None (Some steps) block = no_until
    at (Some by) until block = no_by

-- the word of a block is no number: its first byte is no digit
no_int : (steps : Word) → is_int (codes "block=" ++ steps) ≡ false
no_int steps = at (length (codes "block=" ++ steps) == 0)
  where
    at : (empty : Bool) → (not empty && true && false) ≡ false
    at true = refl
    at false = refl

-- the word of a block is no name: `=` is no byte of one
no_name : (steps : Word) → is_name (codes "block=" ++ steps) ≡ false
no_name steps = at (length (codes "block=" ++ steps) == 0)
    (nat_le (length (codes "block=" ++ steps)) NAME_MAX)
  where
    at : (empty few : Bool) → (not empty && few && true && false && true && true) ≡ false
    at true few = refl
    at false true = refl
    at false false = refl

-- ---- what a filter does

-- the first of these words, if there is one, is none of these signs
record AreNoSigns (ws : List Word) : Type 0 where
  again : begins (codes "again") ws ≡ false
  single : begins (codes "single") ws ≡ false

-- the ends of a line begin with none of them
ends_no_signs : (ends : EndWords) → AreNoSigns (end_words ends)
unfolding begins
ends_no_signs ends = at ends.by ends.until ends.block
  where
    at : (by : Option ByWords) (until block : Option Word)
        → AreNoSigns (by_words by ++ (until_words until ++ block_words block))
    at None None None = record { again = refl; single = refl }
    at None None (Some steps) = record { again = refl; single = refl }
    at None (Some steps) block = record { again = refl; single = refl }
    at (Some by) until block = record { again = refl; single = refl }

-- a number behind its sign, before another word
signed_again : (sign next : Word) (test : Word → Bool) (allowed : Bool) (number : Option Word)
    (ws : List Word) → bytes_eq next sign ≡ false → bytes_eq sign sign ≡ true
    → IfSome number (λ number. IsTrue (test number) × IsTrue allowed)
    → signed_at sign test allowed (signed_words sign number ++ next ∷ ws)
    ≡ Some (number, next ∷ ws)
unfolding signed_at after begins word_at
signed_again sign next test true None ws other same is = rw other refl
signed_again sign next test false None ws other same is = refl
signed_again sign next test allowed (Some number) ws other same is = rw (same, is.1, is.0) refl

-- no taps for what was put
no_again : (allowed : Bool) (ws : List Word) → begins (codes "again") ws ≡ false
    → again_at allowed ws ≡ Some ([], ws)
unfolding again_at
no_again true ws none = rw none refl
no_again false ws none = refl

-- the taps for what was put, before words that begin with no number
again_again : (version : Version) (taps ws : List Word) → AreAgain version taps → Stops is_int ws
    → begins (codes "again") ws ≡ false
    → again_at (has_third version) (again_words taps ++ ws) ≡ Some (taps, ws)
unfolding again_at
again_again version [] ws are stops none = no_again (has_third version) ws none
again_again version (tap ∷ taps) ws are stops none =
    let words = tap ∷ (taps ++ ws) in
    rw (
      are.1,
      begins_so (codes "again") words refl,
      after_sign (codes "again") words refl,
      some_again is_int (tap ∷ taps) ws (omega arith, are.0) stops,
    ) refl

-- the single of a filter, before words that begin with none
applied_again : (allowed : Bool) (single : Option FunctionWords) (ws : List Word)
    → IfSome single (λ single. IsFunction single × IsTrue allowed)
    → begins (codes "single") ws ≡ false
    → applied_at allowed (single_words single ++ ws) ≡ Some (single, ws)
unfolding applied_at
applied_again true None ws is none = single_again None ws tt none
applied_again false None ws is none = refl
applied_again allowed (Some single) ws is none = rw is.1 (single_again (Some single) ws is.0 none)

-- the taps of a filter end before what stands behind them
taps_stop : (again : List Word) (single : Option FunctionWords) (ws : List Word)
    → Stops is_int ws → Stops is_int (again_words again ++ (single_words single ++ ws))
taps_stop [] None ws stops = stops
taps_stop [] (Some single) ws stops = refl
taps_stop (tap ∷ taps) single ws stops = refl

-- a single, or what stands behind it, begins with no number and no `again`
single_stops : (single : Option FunctionWords) (ws : List Word) → Stops is_int ws
    → Stops is_int (single_words single ++ ws)
single_stops None ws stops = stops
single_stops (Some single) ws stops = refl

single_no_again : (single : Option FunctionWords) (ws : List Word) → AreNoSigns ws
    → begins (codes "again") (single_words single ++ ws) ≡ false
unfolding begins
single_no_again None ws bare = bare.again
single_no_again (Some single) ws bare = refl

-- the words of a filter before others
filter_spelled : (filter : FilterWords) (ws : List Word)
    → filter_words filter ++ ws ≡ signed_words (codes "of") filter.delay ++ codes "shift"
    ∷ filter.shift ∷ (signed_words (codes "plus") filter.plus ++ codes "taps" ∷ (filter.taps
    ++ (again_words filter.again ++ (single_words filter.single ++ ws))))
filter_spelled filter ws =
    rw (
      append_assoc (signed_words (codes "of") filter.delay) (codes "shift" ∷ filter.shift
          ∷ (signed_words (codes "plus") filter.plus
          ++ codes "taps" ∷ (filter.taps ++ behind_taps filter))) ws,
      append_assoc (signed_words (codes "plus") filter.plus)
          (codes "taps" ∷ (filter.taps ++ behind_taps filter)) ws,
      append_assoc filter.taps (behind_taps filter) ws,
      append_assoc (again_words filter.again) (single_words filter.single) ws,
    ) refl

pub filter_line : (filter : FilterWords) (ws behind : List Word)
    → ws ≡ signed_words (codes "of") filter.delay ++ codes "shift"
    ∷ filter.shift ∷ (signed_words (codes "plus") filter.plus ++ codes "taps" ∷ (filter.taps
    ++ (again_words filter.again ++ (single_words filter.single ++ behind))))
    → ws ≡ filter_words filter ++ behind
filter_line filter ws behind line = line ∙ sym (filter_spelled filter behind)

filter_again : (version : Version) (filter : FilterWords) (ws : List Word) → IsFilter version filter
    → Stops is_int ws → AreNoSigns ws
    → filter_at (has_third version) (filter_words filter ++ ws) ≡ Some (filter, ws)
unfolding filter_at
filter_again version filter ws is ints bare =
    let third = has_third version in
    let single = single_words filter.single ++ ws in
    let again = again_words filter.again ++ single in
    let plus = signed_words (codes "plus") filter.plus ++ codes "taps" ∷ (filter.taps ++ again) in
    rw (
      filter_spelled filter ws,
      signed_again (codes "of") (codes "shift") is_nat third filter.delay (filter.shift ∷ plus)
          refl refl is.delay,
      after_sign (codes "shift") (filter.shift ∷ plus) refl,
      word_again is_nat filter.shift plus is.shift,
      signed_again (codes "plus") (codes "taps") is_int third filter.plus (filter.taps ++ again)
          refl refl is.plus,
      after_sign (codes "taps") (filter.taps ++ again) refl,
      some_again is_int filter.taps again is.taps (taps_stop filter.again filter.single ws ints),
      again_again version filter.again single is.again (single_stops filter.single ws ints)
          (single_no_again filter.single ws bare),
      applied_again third filter.single ws is.single bare.single,
    ) refl

-- ---- what a task does

body_again : (version : Version) (body : BodyWords) (ws : List Word) → IsBody version body
    → Stops is_int ws → Stops is_name ws → AreNoSigns ws
    → body_at (has_third version) (body_word body) (body_words body ++ ws) ≡ Some (body, ws)
unfolding body_at source_at fir_at delay_at decimate_at split_at join_at peer_at sink_at after
    word_at
body_again version (source file output) ws is ints names bare = rw (is.0, is.1) refl
body_again version (fir input output filter) ws is ints names bare =
    rw (is.0, is.1, filter_again version filter ws is.2 ints bare) refl
body_again version (delay input output steps) ws is ints names bare = rw (is.3, is.0, is.1, is.2) refl
body_again version (decimate input output every) ws is ints names bare = rw (is.3, is.0, is.1, is.2) refl
body_again version (split input outputs) ws is ints names bare =
    rw (is.0, some_again is_name outputs ws is.1 names) refl
body_again version (join inputs output) ws is ints names bare =
    rw (
      append_assoc inputs (codes "->" ∷ output ∷ []) ws,
      some_again is_name inputs (codes "->" ∷ output ∷ ws) is.0 refl,
      is.1,
    ) refl
body_again version (peer input exchange output factor) ws is ints names bare =
    rw (is.0, is.1, is.2, is.3) refl
body_again version (sink input) ws is ints names bare = rw is refl

is_no_phaser : (body : BodyWords) → bytes_eq (body_word body) (codes "phaser") ≡ false
is_no_phaser (source file output) = refl
is_no_phaser (fir input output filter) = refl
is_no_phaser (delay input output steps) = refl
is_no_phaser (decimate input output every) = refl
is_no_phaser (split input outputs) = refl
is_no_phaser (join inputs output) = refl
is_no_phaser (peer input exchange output factor) = refl
is_no_phaser (sink input) = refl

-- what is spelled is read so
pub line_again : (declares : Word → Bool) (version : Version) (d : Decl)
    → IsWellFormedBy declares version d → decl_by declares version (decl_spelling d) ≡ Some d
unfolding decl_by phaser_words_at task_words_at word_at
line_again declares version (phaser name operation bound single) is =
    rw (
      is.0,
      operation_again operation (bound ∷ single_words single),
      is.1,
      single_alone single is.2,
    ) refl
line_again declares version (task name body ends) is =
    let ints = ends_stop is_int refl refl no_int ends in
    let names = ends_stop is_name refl refl no_name ends in
    let bare = ends_no_signs ends in
    rw (
      is_no_phaser body,
      is.0,
      body_again version body (end_words ends) is.1 ints names bare,
      ends_again version body ends is.2,
    ) refl

-- ---- all versions

-- what a line of any version may say, one of the third may say
may_join_later : (version : Version) (body : BodyWords) → may_join_now version body ≡ true
    → may_join_now Three body ≡ true
may_join_later version (source file output) may = may
may_join_later version (fir input output filter) may = may
may_join_later version (delay input output steps) may = may
may_join_later version (decimate input output every) may = may
may_join_later version (split input outputs) may = may
may_join_later version (join inputs output) may = may
may_join_later version (peer input exchange output factor) may = may
may_join_later version (sink input) may = refl

may_have_later : (version : Version) (body : BodyWords) → may_have_blocks version body ≡ true
    → may_have_blocks Three body ≡ true
may_have_later version (source file output) may = refl
may_have_later version (fir input output filter) may = refl
may_have_later version (delay input output steps) may = refl
may_have_later version (decimate input output every) may = may
may_have_later version (split input outputs) may = may
may_have_later version (join inputs output) may = may
may_have_later version (peer input exchange output factor) may = may
may_have_later version (sink input) may = refl

filter_later : (version : Version) (filter : FilterWords) → IsFilter version filter
    → IsFilter Three filter
filter_later version filter is = record {
  delay = number_later is_nat filter.delay is.delay;
  shift = is.shift;
  plus = number_later is_int filter.plus is.plus;
  taps = is.taps;
  again = again_later filter.again is.again;
  single = single_later filter.single is.single;
}
  where
    number_later : (test : Word → Bool) (number : Option Word)
        → IfSome number (λ number. IsTrue (test number) × IsTrue (has_third version))
        → IfSome number (λ number. IsTrue (test number) × IsTrue true)
    number_later test None is = tt
    number_later test (Some number) is = (is.0, refl)

    again_later : (taps : List Word) → AreAgain version taps → AreAgain Three taps
    again_later [] are = tt
    again_later (tap ∷ taps) are = (are.0, refl)

    single_later : (single : Option FunctionWords)
        → IfSome single (λ single. IsFunction single × IsTrue (has_third version))
        → IfSome single (λ single. IsFunction single × IsTrue true)
    single_later None is = tt
    single_later (Some single) is = (is.0, refl)

pub body_later : (version : Version) (body : BodyWords) → IsBody version body → IsBody Three body
body_later version (source file output) is = is
body_later version (fir input output filter) is = (is.0, is.1, filter_later version filter is.2)
body_later version (delay input output steps) is = (is.0, is.1, is.2, refl)
body_later version (decimate input output every) is = (is.0, is.1, is.2, refl)
body_later version (split input outputs) is = is
body_later version (join inputs output) is = is
body_later version (peer input exchange output factor) is = is
body_later version (sink input) is = is

ends_later : (version : Version) (body : BodyWords) (ends : EndWords) → AreEnds version body ends
    → AreEnds Three body ends
ends_later version body ends are = record {
  by = by_later ends.by are.by;
  until = are.until;
  block = block_later ends.block are.block;
}
  where
    by_later : (by : Option ByWords)
        → IfSome by (λ by. IsBy by × MayHaveBy version body by)
        → IfSome by (λ by. IsBy by × MayHaveBy Three body by)
    by_later None is = tt
    by_later (Some by) is = (is.0, (is.1.0, λ now. may_join_later version body (is.1.1 now)))

    block_later : (block : Option Word)
        → IfSome block (λ steps. IsTrue (is_nat steps) × IsTrue (may_have_blocks version body))
        → IfSome block (λ steps. IsTrue (is_nat steps) × IsTrue (may_have_blocks Three body))
    block_later None is = tt
    block_later (Some steps) is = (is.0, may_have_later version body is.1)

-- a line of any version is one of the third, where that may declare any name
pub well_formed_later : (version : Version) (d : Decl) → IsWellFormed version d
    → IsWellFormedBy is_name Three d
well_formed_later version (phaser name operation bound single) is =
    ((and_parts (is_name name) (not (has_third version && is_third_word name)) is.0).0, is.1, is.2)
well_formed_later version (task name body ends) is = (
  (and_parts (is_name name) (not (has_third version && is_third_word name)) is.0).0,
  body_later version body is.1,
  ends_later version body ends is.2,
)

-- words declare one thing at most, in whichever version
pub one_declaration : (version other : Version) (words : List Word) (d e : Decl)
    → Spells version words d → Spells other words e → d ≡ e
one_declaration version other words d e first second =
    same_Some d e
    (sym (line_again is_name Three d (well_formed_later version d first.well_formed))
    ∙ ap (decl_by is_name Three) (sym first.spelled ∙ second.spelled)
    ∙ line_again is_name Three e (well_formed_later other e second.well_formed))
