-- The script lines: each command within its limits has exactly one, its spelling.
use Rattle.std.specs.Prelude.{ℕ, ◌≤◌, ℤ, List, [], ◌∷◌, ◌++◌, length, codes, decimal, nat_abs, bytes_eq, int_le, nat_le, ◌&&◌, if◌then◌else◌, Option, Some, None, option_and_then}
use Rattle.std.specs.Fmt.{signed_decimal}
use Rattle.std.specs.List.{All}
use Rattle.phase_base.specs.declared.mode.Mode.{Mode}
use Rattle.phase_base.specs.declared.mode.Mode.TheVariants as mode
use Rattle.phase_accum.specs.Singles.{CanBeNamed}
use Rattle.phase_accum.specs.declared.single.Single.{Single}
use Rattle.phase_accum.specs.declared.single.Single.TheVariants.{Neg, Abs, Halve, Clamp}
use Rattle.phase_script.specs.Numbers.{most, nat_of, int_of}
use Rattle.phase_script.specs.Words.{word, rest, words_of}
use Rattle.phase_base.specs.declared.operation.Op.{Op}
use Rattle.phase_base.specs.OperationWords.{operation_word, operation_of}
use Rattle.phase_script.specs.declared.command.Command.{Command}
use Rattle.phase_script.specs.declared.command.Command.TheVariants as read
use Rattle.phase_script.specs.declared.values.TheConstants.{VALUES_MAX}

-- what a script line asks for, with the values of a block: the code keeps those beside a `Command`
pub data WholeCommand : Type 0 where
  Make : (operation : Op) (bound phases : ℕ) → WholeCommand
  Add : (parent child : ℕ) (mode : Mode) → WholeCommand
  Now : (parent child : ℕ) → WholeCommand
  Send : (task : ℕ) (value : ℤ) → WholeCommand
  Signal : (task : ℕ) (single : Option Single) → WholeCommand
  Block : (task : ℕ) (values : List ℤ) → WholeCommand
  Wait : (task : ℕ) → WholeCommand
  Take : (task phases : ℕ) → WholeCommand
  Drop : (task : ℕ) → WholeCommand

-- the command with these values beside it
abbrev pub whole_command : List ℤ → Command → WholeCommand
whole_command values (read.Make operation bound phases) = Make operation bound phases
whole_command values (read.Add parent child mode) = Add parent child mode
whole_command values (read.Now parent child) = Now parent child
whole_command values (read.Send task value) = Send task value
whole_command values (read.Signal task single) = Signal task single
whole_command values (read.Block task) = Block task values
whole_command values (read.Wait task) = Wait task
whole_command values (read.Take task phases) = Take task phases
whole_command values (read.Drop task) = Drop task

-- the same, if there is one
abbrev pub maybe_whole : List ℤ → Option Command → Option WholeCommand
maybe_whole values None = None
maybe_whole values (Some command) = Some (whole_command values command)

-- ---- the one line of a command

-- the word for a mode
abbrev pub mode_text : Mode → List ℕ
mode_text mode.Sig = codes "sig"
mode_text mode.Wait = codes "wait"
mode_text mode.SigWait = codes "sigwait"
mode_text mode.Single = codes "single"

-- the words for a single
abbrev pub single_text : Single → List ℕ
single_text Neg = codes "neg"
single_text Abs = codes "abs"
single_text Halve = codes "halve"
single_text (Clamp range) =
    codes "clamp" ++ 32 ∷ (signed_decimal range.0 ++ 32 ∷ signed_decimal range.1)

-- the words for a single behind others, or nothing for none
abbrev pub maybe_single_text : Option Single → List ℕ
maybe_single_text None = []
maybe_single_text (Some single) = 32 ∷ single_text single

-- the words for values behind others
abbrev pub values_text : List ℤ → List ℕ
values_text [] = []
values_text (value ∷ values) = 32 ∷ (signed_decimal value ++ values_text values)

-- the one line that gives the command, without its line end
unfoldable pub spelling : WholeCommand → List ℕ
spelling (Make operation bound phases) =
    codes "make" ++ 32 ∷ (operation_word operation ++ 32 ∷ (decimal bound ++ 32 ∷ decimal phases))
spelling (Add parent child mode) =
    codes "add" ++ 32 ∷ (decimal parent ++ 32 ∷ (decimal child ++ 32 ∷ mode_text mode))
spelling (Now parent child) = codes "now" ++ 32 ∷ (decimal parent ++ 32 ∷ decimal child)
spelling (Send task value) = codes "send" ++ 32 ∷ (decimal task ++ 32 ∷ signed_decimal value)
spelling (Signal task single) = codes "signal" ++ 32 ∷ (decimal task ++ maybe_single_text single)
spelling (Block task values) = codes "block" ++ 32 ∷ (decimal task ++ values_text values)
spelling (Wait task) = codes "wait" ++ 32 ∷ decimal task
spelling (Take task phases) = codes "take" ++ 32 ∷ (decimal task ++ 32 ∷ decimal phases)
spelling (Drop task) = codes "drop" ++ 32 ∷ decimal task

-- the values are at least one and not too many, and each is within its limit
pub record IsBlock (values : List ℤ) : Type 0 where
  pub some : 1 ≤ length values
  pub few : length values ≤ VALUES_MAX
  pub small : All (λ value. nat_abs value ≤ most) values

-- the numbers of the command are within their limits
abbrev pub IsCommand : WholeCommand → Type 0
IsCommand (Make _ bound phases) = (bound ≤ most) × (phases ≤ most)
IsCommand (Add parent child _) = (parent ≤ most) × (child ≤ most)
IsCommand (Now parent child) = (parent ≤ most) × (child ≤ most)
IsCommand (Send task value) = (task ≤ most) × (nat_abs value ≤ most)
IsCommand (Signal task single) = (task ≤ most) × CanBeNamed single
IsCommand (Block task values) = (task ≤ most) × IsBlock values
IsCommand (Wait task) = task ≤ most
IsCommand (Take task phases) = (task ≤ most) × (1 ≤ phases) × (phases ≤ VALUES_MAX)
IsCommand (Drop task) = task ≤ most

-- ---- how a line is read

-- the ? of the definitions: the second step, if the first gave a value
infixl 10 ◌>>=◌
abbrev pub ◌>>=◌ : {A B : Type 0} → Option A → (A → Option B) → Option B
o >>= f = option_and_then f o

-- the mode that a word names
unfoldable pub mode_of : List ℕ → Option Mode
mode_of name =
    if bytes_eq name (codes "sig") then Some mode.Sig
    else if bytes_eq name (codes "wait") then Some mode.Wait
    else if bytes_eq name (codes "sigwait") then Some mode.SigWait
    else if bytes_eq name (codes "single") then Some mode.Single
    else None

-- the clamp of two ends, if the first is not above the second
abbrev pub clamp_of : ℤ → ℤ → Option Single
clamp_of low high = if int_le low high then Some (Clamp (low, high)) else None

-- the clamp whose two ends are in the text
unfoldable pub ends_of : List ℕ → Option Single
ends_of text = do
  low ← int_of (word text)
  last ← rest text
  high ← int_of last
  clamp_of low high

-- the clamp of a first word and of the text that follows it
unfoldable pub clamp_after : List ℕ → List ℕ → Option Single
clamp_after name ends = if bytes_eq name (codes "clamp") then ends_of ends else None

-- the single that a text names
unfoldable pub single_of : List ℕ → Option Single
single_of text =
    if bytes_eq text (codes "neg") then Some Neg
    else if bytes_eq text (codes "abs") then Some Abs
    else if bytes_eq text (codes "halve") then Some Halve
    else (rest text >>= clamp_after (word text))

-- a phaser with the operation, the bound and the phases in the text
unfoldable pub make_of : List ℕ → Option WholeCommand
make_of text = do
  operation ← operation_of (word text)
  numbers ← rest text
  bound ← nat_of (word numbers)
  last ← rest numbers
  phases ← nat_of last
  Some (Make operation bound phases)

-- a child of the task, under the number and in the mode in the text
unfoldable pub add_of : List ℕ → Option WholeCommand
add_of text = do
  parent ← nat_of (word text)
  words ← rest text
  child ← nat_of (word words)
  last ← rest words
  mode ← mode_of last
  Some (Add parent child mode)

-- a child that waits from now on, under the number in the text
unfoldable pub now_of : List ℕ → Option WholeCommand
now_of text = do
  parent ← nat_of (word text)
  last ← rest text
  child ← nat_of last
  Some (Now parent child)

-- the send of the value in the text
unfoldable pub send_of : List ℕ → Option WholeCommand
send_of text = do
  task ← nat_of (word text)
  last ← rest text
  value ← int_of last
  Some (Send task value)

-- a signal of the task, with the single that is in the text, where there is one
unfoldable pub signal_with : ℕ → Option (List ℕ) → Option WholeCommand
signal_with task None = Some (Signal task None)
signal_with task (Some text) = do
  single ← single_of text
  Some (Signal task (Some single))

-- the signal of the task in the text
unfoldable pub signal_of : List ℕ → Option WholeCommand
signal_of text = do
  task ← nat_of (word text)
  signal_with task (rest text)

-- the numbers that words are, if all of them are numbers
unfoldable pub ints_of : List (List ℕ) → Option (List ℤ)
ints_of [] = Some []
ints_of (word ∷ words) = do
  value ← int_of word
  values ← ints_of words
  Some (value ∷ values)

-- the values, if they are not too many
unfoldable pub few_values : List ℤ → Option (List ℤ)
few_values values = if nat_le (length values) VALUES_MAX then Some values else None

-- the values of a block whose words are in the text
unfoldable pub values_of : List ℕ → Option (List ℤ)
values_of text = do
  values ← ints_of (words_of text)
  few_values values

-- the block of the task and the values in the text
unfoldable pub block_of : List ℕ → Option WholeCommand
block_of text = do
  task ← nat_of (word text)
  words ← rest text
  values ← values_of words
  Some (Block task values)

-- a wait of the task for so many phases, at least one and not too many
unfoldable pub take_with : ℕ → ℕ → Option WholeCommand
take_with task phases =
    if nat_le 1 phases && nat_le phases VALUES_MAX then Some (Take task phases) else None

-- the take of the task and the phases in the text
unfoldable pub take_of : List ℕ → Option WholeCommand
take_of text = do
  task ← nat_of (word text)
  last ← rest text
  phases ← nat_of last
  take_with task phases

-- the wait of the task in the text
unfoldable pub wait_of : List ℕ → Option WholeCommand
wait_of text = do
  task ← nat_of text
  Some (Wait task)

-- the drop of the task in the text
unfoldable pub drop_of : List ℕ → Option WholeCommand
drop_of text = do
  task ← nat_of text
  Some (Drop task)

-- the command of a first word and of the text that follows it
unfoldable pub command_after : List ℕ → List ℕ → Option WholeCommand
command_after verb text =
    if bytes_eq verb (codes "make") then make_of text
    else if bytes_eq verb (codes "add") then add_of text
    else if bytes_eq verb (codes "now") then now_of text
    else if bytes_eq verb (codes "send") then send_of text
    else if bytes_eq verb (codes "signal") then signal_of text
    else if bytes_eq verb (codes "block") then block_of text
    else if bytes_eq verb (codes "wait") then wait_of text
    else if bytes_eq verb (codes "take") then take_of text
    else if bytes_eq verb (codes "drop") then drop_of text
    else None

-- the command that the line gives, if it is in the grammar
unfoldable pub command_of : List ℕ → Option WholeCommand
command_of line = do
  text ← rest line
  command_after (word line) text
