-- How the words of a line are read, one after another. What may be relied on is the spelling: the
-- laws of reading say that the two agree.
use Rattle.std.specs.Prelude.{◌==◌, ◌&&◌, Bool, true, false, List, [], ◌∷◌, length, take, drop, Option, Some, None, option_and_then, if◌then◌else◌, codes, ℕ}
use Rattle.std.specs.List.{prefix_len}
use Rattle.std.specs.Str.{bytes_eq}
use Rattle.std.specs.Borrow.{Bor}
use Rattle.phase_base.specs.Words.{Word, is_name, is_file}
use Rattle.phase_base.specs.OperationWords.{operation_of}
use Rattle.phase_base.specs.declared.operation.Op.{Op}
use Rattle.phase_base.specs.Numbers.{is_nat, is_int}
use Rattle.graph_text.specs.Decls.{Decl, phaser, task, FunctionWords, neg, abs, halve, clamp, ByWords, EndWords, FilterWords, BodyWords, source, fir, delay, decimate, split, join, peer, sink, may_have_parent, may_join_now, may_have_blocks}
use Rattle.graph_text.specs.Versions.{has_third, may_declare}
use Rattle.graph_text.specs.declared.version.Version.{Version}
use Rattle.graph_text.specs.Lines.{function_of, single_of, by_of, word_of, filter_of, body_of}
use Rattle.graph_text.specs.Plain.{plain as words_in}
use Rattle.graph_text.specs.declared.line.By.{By}
use Rattle.graph_text.specs.declared.line.Filter.{Filter}
use Rattle.graph_text.specs.declared.line.Function.{Function}
use Rattle.graph_text.specs.declared.line.Body.{Body}

-- what follows, where there is something before it
infixl 10 ◌>>=◌
abbrev pub ◌>>=◌ : {A B : Type 0} → Option A → (A → Option B) → Option B
o >>= f = option_and_then f o

-- what was read, and the words after it
abbrev pub Found : Type 0 → Type 0
Found A = A × List Word

-- ---- words

-- a word that passes the test
unfoldable pub word_at : (Word → Bool) → List Word → Option (Found Word)
word_at test [] = None
word_at test (word ∷ words) = if test word then Some (word, words) else None

-- the words after this one, which stands first
unfoldable pub after : Word → List Word → Option (List Word)
after sign [] = None
after sign (word ∷ words) = if bytes_eq word sign then Some words else None

-- whether this word stands first
unfoldable pub begins : Word → List Word → Bool
begins sign [] = false
begins sign (word ∷ words) = bytes_eq word sign

-- the words in front that pass the test, at least one, and those behind them
unfoldable pub some_at : (Word → Bool) → List Word → Option (Found (List Word))
some_at test words =
    if prefix_len test words == 0
    then None
    else Some (take (prefix_len test words) words, drop (prefix_len test words) words)

-- ---- parts of a line

-- a word that stands for an operation
unfoldable pub operation_at : List Word → Option (Found Op)
operation_at [] = None
operation_at (word ∷ words) = do
  operation ← operation_of word
  Some (operation, words)

-- the bounds of a clamp
unfoldable pub clamp_at : List Word → Option (Found FunctionWords)
clamp_at words = do
  low ← word_at is_int words
  high ← word_at is_int low.1
  Some (clamp low.0 high.0, high.1)

-- the function of a single, by its first word
unfoldable pub function_named : Word → List Word → Option (Found FunctionWords)
function_named word words =
    if bytes_eq word (codes "neg") then Some (neg, words)
    else if bytes_eq word (codes "abs") then Some (abs, words)
    else if bytes_eq word (codes "halve") then Some (halve, words)
    else if bytes_eq word (codes "clamp") then clamp_at words
    else None

-- the function of a single
unfoldable pub function_at : List Word → Option (Found FunctionWords)
function_at [] = None
function_at (word ∷ words) = function_named word words

-- a single, or none where the word for it is missing
unfoldable pub single_at : List Word → Option (Found (Option FunctionWords))
single_at words =
    if begins (codes "single") words
    then (do
      named ← after (codes "single") words
      function ← function_at named
      Some (Some function.0, function.1))
    else Some (None, words)

-- whether the task joins now: where that is not allowed, or the word for it is missing, it does not
unfoldable pub now_at : Bool → List Word → Found Bool
now_at allowed [] = (false, [])
now_at allowed (word ∷ words) =
    if allowed && bytes_eq word (codes "now") then (true, words) else (false, word ∷ words)

-- a parent, and whether the task joins now, with the words after that
abbrev pub by_with : Word → Word → Found Bool → Found (Option ByWords)
by_with parent at now = (Some (record { parent = parent; at = at; now = now.0 }), now.1)

-- a parent, or none where it is not allowed or the word for it is missing
unfoldable pub by_at : (allowed joins : Bool) → List Word → Option (Found (Option ByWords))
by_at allowed joins words =
    if allowed && begins (codes "by") words
    then (do
      named ← after (codes "by") words
      parent ← word_at is_name named
      counted ← after (codes "at") parent.1
      at ← word_at is_nat counted
      Some (by_with parent.0 at.0 (now_at joins at.1)))
    else Some (None, words)

-- a last boundary, or none where the word for it is missing
unfoldable pub until_at : List Word → Option (Found (Option Word))
until_at words =
    if begins (codes "until") words
    then (do
      counted ← after (codes "until") words
      steps ← word_at is_nat counted
      Some (Some steps.0, steps.1))
    else Some (None, words)

-- the number of a word `block=N`
unfoldable pub block_number : Word → Option Word
block_number word =
    if bytes_eq (take 6 word) (codes "block=") && is_nat (drop 6 word)
    then Some (drop 6 word)
    else None

-- the steps of a block, where that is allowed and one word is left, or none where no word is left
unfoldable pub block_at : Bool → List Word → Option (Option Word)
block_at allowed [] = Some None
block_at allowed (word ∷ []) =
    if allowed
    then (do
      steps ← block_number word
      Some (Some steps))
    else None
block_at allowed (word ∷ more ∷ words) = None

-- the optional ends, with nothing after them
unfoldable pub ends_at : Version → BodyWords → List Word → Option EndWords
ends_at version body words = do
  by ← by_at (may_have_parent body) (may_join_now version body) words
  until ← until_at by.1
  block ← block_at (may_have_blocks version body) until.1
  Some (record { by = by.0; until = until.0; block = block })

-- what a source does
unfoldable pub source_at : List Word → Option (Found BodyWords)
source_at words = do
  file ← word_at is_file words
  sent ← after (codes "->") file.1
  output ← word_at is_name sent
  Some (source file.0 output.0, output.1)

-- a number behind this sign that passes the test, or nothing where that is not allowed or the sign
-- is missing
unfoldable pub signed_at : Word → (Word → Bool) → Bool → List Word → Option (Found (Option Word))
signed_at sign test allowed words =
    if allowed && begins sign words
    then (do
      signed ← after sign words
      number ← word_at test signed
      Some (Some number.0, number.1))
    else Some (None, words)

-- the taps that weigh what a filter put, or none where that is not allowed or the word for them is
-- missing
unfoldable pub again_at : Bool → List Word → Option (Found (List Word))
again_at allowed words =
    if allowed && begins (codes "again") words
    then (do
      named ← after (codes "again") words
      some_at is_int named)
    else Some ([], words)

-- the single of a filter, or none where that is not allowed or the word for it is missing
unfoldable pub applied_at : Bool → List Word → Option (Found (Option FunctionWords))
applied_at allowed words = if allowed then single_at words else Some (None, words)

-- what a filter does, which may do more than weigh where that is allowed
unfoldable pub filter_at : Bool → List Word → Option (Found FilterWords)
filter_at more words = do
  age ← signed_at (codes "of") is_nat more words
  shifted ← after (codes "shift") age.1
  shift ← word_at is_nat shifted
  plus ← signed_at (codes "plus") is_int more shift.1
  tapped ← after (codes "taps") plus.1
  taps ← some_at is_int tapped
  again ← again_at more taps.1
  single ← applied_at more again.1
  Some (
    record {
      delay = age.0;
      shift = shift.0;
      plus = plus.0;
      taps = taps.0;
      again = again.0;
      single = single.0;
    },
    single.1,
  )

-- what a filter does, with its phasers
unfoldable pub fir_at : Bool → List Word → Option (Found BodyWords)
fir_at more words = do
  input ← word_at is_name words
  sent ← after (codes "->") input.1
  output ← word_at is_name sent
  filter ← filter_at more output.1
  Some (fir input.0 output.0 filter.0, filter.1)

-- what a delay does
unfoldable pub delay_at : List Word → Option (Found BodyWords)
delay_at words = do
  input ← word_at is_name words
  sent ← after (codes "->") input.1
  output ← word_at is_name sent
  counted ← after (codes "of") output.1
  steps ← word_at is_nat counted
  Some (delay input.0 output.0 steps.0, steps.1)

-- what a decimator does
unfoldable pub decimate_at : List Word → Option (Found BodyWords)
decimate_at words = do
  input ← word_at is_name words
  sent ← after (codes "->") input.1
  output ← word_at is_name sent
  counted ← after (codes "every") output.1
  every ← word_at is_nat counted
  Some (decimate input.0 output.0 every.0, every.1)

-- what a splitter does
unfoldable pub split_at : List Word → Option (Found BodyWords)
split_at words = do
  input ← word_at is_name words
  sent ← after (codes "->") input.1
  outputs ← some_at is_name sent
  Some (split input.0 outputs.0, outputs.1)

-- what a joiner does
unfoldable pub join_at : List Word → Option (Found BodyWords)
join_at words = do
  inputs ← some_at is_name words
  sent ← after (codes "->") inputs.1
  output ← word_at is_name sent
  Some (join inputs.0 output.0, output.1)

-- what a peer does
unfoldable pub peer_at : List Word → Option (Found BodyWords)
peer_at words = do
  input ← word_at is_name words
  exchanged ← after (codes "<->") input.1
  exchange ← word_at is_name exchanged
  sent ← after (codes "->") exchange.1
  output ← word_at is_name sent
  multiplied ← after (codes "mul") output.1
  factor ← word_at is_int multiplied
  Some (peer input.0 exchange.0 output.0 factor.0, factor.1)

-- what a sink does
unfoldable pub sink_at : List Word → Option (Found BodyWords)
sink_at words = do
  input ← word_at is_name words
  Some (sink input.0, input.1)

-- what a task does, by the first word of its line, where a delay, a decimator and a filter that
-- does more than weigh may be allowed
unfoldable pub body_at : Bool → Word → List Word → Option (Found BodyWords)
body_at more kind words =
    if bytes_eq kind (codes "source") then source_at words
    else if bytes_eq kind (codes "fir") then fir_at more words
    else if bytes_eq kind (codes "split") then split_at words
    else if bytes_eq kind (codes "join") then join_at words
    else if bytes_eq kind (codes "peer") then peer_at words
    else if bytes_eq kind (codes "sink") then sink_at words
    else if more && bytes_eq kind (codes "delay") then delay_at words
    else if more && bytes_eq kind (codes "decimate") then decimate_at words
    else None

-- ---- a line

-- the line of a phaser, behind its first word, whose name passes this test
unfoldable pub phaser_words_at : (Word → Bool) → List Word → Option Decl
phaser_words_at declares words = do
  name ← word_at declares words
  operation ← operation_at name.1
  bound ← word_at is_nat operation.1
  single ← single_at bound.1
  if length single.1 == 0 then Some (phaser name.0 operation.0 bound.0 single.0) else None

-- the line of a task, by its first word, whose name passes this test
unfoldable pub task_words_at : (Word → Bool) → Version → Word → List Word → Option Decl
task_words_at declares version kind words = do
  name ← word_at declares words
  body ← body_at (has_third version) kind name.1
  ends ← ends_at version body.0 body.1
  Some (task name.0 body.0 ends)

-- a line whose declared name passes this test
unfoldable pub decl_by : (Word → Bool) → Version → List Word → Option Decl
decl_by declares version [] = None
decl_by declares version (kind ∷ words) =
    if bytes_eq kind (codes "phaser") then phaser_words_at declares words
    else task_words_at declares version kind words

-- a line
abbrev pub decl_at : Version → List Word → Option Decl
decl_at version words = decl_by (may_declare version) version words

-- ---- what was read, with the words after it

-- a word
abbrev pub found_word : Bor (List ℕ) × Bor (List (Bor (List ℕ))) → Found Word
found_word found = (found.0.now, words_in found.1.now)

-- words
abbrev pub found_words :
    Bor (List (Bor (List ℕ))) × Bor (List (Bor (List ℕ))) → Found (List Word)
found_words found = (words_in found.0.now, words_in found.1.now)

-- an operation
abbrev pub found_operation : Op × Bor (List (Bor (List ℕ))) → Found Op
found_operation found = (found.0, words_in found.1.now)

-- a function
abbrev pub found_function : Function × Bor (List (Bor (List ℕ))) → Found FunctionWords
found_function found = (function_of found.0, words_in found.1.now)

-- a single or none
abbrev pub found_single :
    Option Function × Bor (List (Bor (List ℕ))) → Found (Option FunctionWords)
found_single found = (single_of found.0, words_in found.1.now)

-- whether a task joins now
abbrev pub found_now : Bool × Bor (List (Bor (List ℕ))) → Found Bool
found_now found = (found.0, words_in found.1.now)

-- a parent or none
abbrev pub found_by : Option By × Bor (List (Bor (List ℕ))) → Found (Option ByWords)
found_by found = (by_of found.0, words_in found.1.now)

-- a number or none
abbrev pub found_number :
    Option (Bor (List ℕ)) × Bor (List (Bor (List ℕ))) → Found (Option Word)
found_number found = (word_of found.0, words_in found.1.now)

-- what a filter does
abbrev pub found_filter : Filter × Bor (List (Bor (List ℕ))) → Found FilterWords
found_filter found = (filter_of found.0, words_in found.1.now)

-- what a task does
abbrev pub found_body : Body × Bor (List (Bor (List ℕ))) → Found BodyWords
found_body found = (body_of found.0, words_in found.1.now)
