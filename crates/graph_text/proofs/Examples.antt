-- Worked words and lines, computed in the definitions.
use Rattle.std.proofs.Common.{◌≡◌, [], ◌∷◌, true, false, refl, codes, Some, None, is_some}
use Rattle.std.specs.List.{list_all, list_any}
use Rattle.graph_text.specs.Texts.{words_of_line, are_printable, is_ignored}
use Rattle.phase_base.specs.declared.operation.Op.TheVariants.{Sum}
use Rattle.phase_base.specs.Numbers.{is_nat, is_int}
use Rattle.graph_text.specs.Decls.{phaser, task, source, fir, delay, decimate, sink, neg, abs, halve, clamp, EndWords, FilterWords}
use Rattle.graph_text.specs.Versions.{heading_of}
use Rattle.graph_text.specs.declared.version.Version.TheVariants.{One, Two, Three}
use Rattle.graph_text.specs.WordReading.{decl_at, decl_by, phaser_words_at, task_words_at, body_at, source_at, fir_at, filter_at, signed_at, again_at, applied_at, delay_at, decimate_at, split_at, sink_at, word_at, some_at, after, begins, single_at, operation_at, function_at, function_named, clamp_at, now_at, by_at, until_at, block_number, block_at, ends_at}

-- ---- words

nats : list_all is_nat (codes "0" ∷ codes "10" ∷ codes "99999999999999999999999" ∷ []) ≡ true
nats = refl

no_nats : list_any is_nat (codes "02" ∷ codes "00" ∷ codes "-1" ∷ codes "+1" ∷ codes "1x" ∷ [] ∷ [])
    ≡ false
no_nats = refl

ints : list_all is_int (codes "0" ∷ codes "-1" ∷ codes "10" ∷ []) ≡ true
ints = refl

no_ints : list_any is_int (codes "-0" ∷ codes "--1" ∷ codes "-" ∷ codes "-02" ∷ codes "+1" ∷ [])
    ≡ false
no_ints = refl

-- ---- lines

-- a byte of no word stands in no line that is not ignored
unprintable : are_printable (97 ∷ 127 ∷ []) ≡ false
unprintable = refl

commented : is_ignored (35 ∷ 127 ∷ []) ≡ true
commented = refl

abbrev no_ends : EndWords
no_ends = record { by = None; until = None; block = None }

-- `->` may name a file
arrow_file : decl_at One (words_of_line (codes "source s -> -> X"))
    ≡ Some (task (codes "s") (source (codes "->") (codes "X")) no_ends)
unfolding decl_by task_words_at body_at source_at word_at after ends_at by_at until_at block_at begins
arrow_file = refl

halved : decl_at One (words_of_line (codes "phaser X sum 2 single halve"))
    ≡ Some (phaser (codes "X") Sum (codes "2") (Some halve))
unfolding decl_by phaser_words_at word_at operation_at single_at begins after function_at function_named
halved = refl

negated : function_at (codes "neg" ∷ []) ≡ Some (neg, [])
unfolding function_at function_named
negated = refl

magnitude : function_at (codes "abs" ∷ []) ≡ Some (abs, [])
unfolding function_at function_named
magnitude = refl

clamped : function_at (codes "clamp" ∷ codes "-1" ∷ codes "5" ∷ [])
    ≡ Some (clamp (codes "-1") (codes "5"), [])
unfolding function_at function_named clamp_at word_at
clamped = refl

-- no such operation, and no such function
mean : decl_at One (words_of_line (codes "phaser X mean 2")) ≡ None
unfolding decl_by phaser_words_at word_at operation_at
mean = refl

doubled : decl_at One (words_of_line (codes "phaser X sum 2 single double")) ≡ None
unfolding decl_by phaser_words_at word_at operation_at single_at begins after function_at function_named
doubled = refl

-- a word of the grammar is no name
sink_named_at : decl_at One (words_of_line (codes "sink at A")) ≡ None
unfolding decl_by task_words_at word_at
sink_named_at = refl

-- the ends stand in their order, and nothing after them
ends_turned : decl_at One (words_of_line (codes "sink o X until 5 by s at 1")) ≡ None
unfolding decl_by task_words_at body_at sink_at word_at ends_at by_at until_at block_at begins after
ends_turned = refl

one_more : decl_at One (words_of_line (codes "sink o X until 5 until")) ≡ None
unfolding decl_by task_words_at body_at sink_at word_at ends_at by_at until_at block_at begins after
one_more = refl

-- ---- the heading

headed : heading_of (words_of_line (codes "  graph   2")) ≡ Some Two
headed = refl

headed_three : heading_of (words_of_line (codes "graph 3")) ≡ Some Three
headed_three = refl

-- no other version, no other form of the number, and nothing behind it
unheaded : list_any (λ line. is_some (heading_of (words_of_line line)))
    (codes "graph" ∷ codes "graph 1" ∷ codes "graph 02" ∷ codes "graph 2 x" ∷ codes "Graph 2"
    ∷ codes "graph 4" ∷ [])
    ≡ false
unheaded = refl

-- ---- lines of the second version

abbrev late_ends : EndWords
late_ends = record {
  by = Some (record { parent = codes "out"; at = codes "2"; now = true });
  until = Some (codes "9");
  block = Some (codes "4");
}

late : decl_at Two (words_of_line (codes "sink late X by out at 2 now until 9 block=4"))
    ≡ Some (task (codes "late") (sink (codes "X")) late_ends)
unfolding decl_by task_words_at body_at sink_at word_at ends_at by_at now_at until_at begins after
    block_at block_number
late = refl

-- in the first version the same line is none
late_in_one : decl_at One (words_of_line (codes "sink late X by out at 2 now until 9 block=4")) ≡ None
unfolding decl_by task_words_at body_at sink_at word_at ends_at by_at now_at until_at begins after
    block_at block_number
late_in_one = refl

blocked_in_one : decl_at One (words_of_line (codes "source s s.csv -> X block=4")) ≡ None
unfolding decl_by task_words_at body_at source_at word_at ends_at by_at until_at begins after block_at
blocked_in_one = refl

-- only a sink with a parent joins now, and `now` stands directly behind the parent
now_of_a_source : decl_at Two (words_of_line (codes "source s s.csv -> X by p at 2 now")) ≡ None
unfolding decl_by task_words_at body_at source_at word_at ends_at by_at now_at until_at begins after
    block_at block_number
now_of_a_source = refl

now_alone : decl_at Two (words_of_line (codes "sink o X now")) ≡ None
unfolding decl_by task_words_at body_at sink_at word_at ends_at by_at until_at begins after
    block_at block_number
now_alone = refl

now_behind_until : decl_at Two (words_of_line (codes "sink o X by p at 2 until 5 now")) ≡ None
unfolding decl_by task_words_at body_at sink_at word_at ends_at by_at now_at until_at begins after
    block_at block_number
now_behind_until = refl

-- a block stands last, has a number, and is of no splitter
block_first : decl_at Two (words_of_line (codes "sink o X block=4 until 5")) ≡ None
unfolding decl_by task_words_at body_at sink_at word_at ends_at by_at until_at begins after block_at
block_first = refl

blocks : list_all (λ word. is_some (block_number word))
    (codes "block=0" ∷ codes "block=1" ∷ codes "block=99999999999999999999999" ∷ []) ≡ true
unfolding block_number
blocks = refl

no_blocks : list_any (λ word. is_some (block_number word))
    (codes "block" ∷ codes "block=" ∷ codes "block=01" ∷ codes "block=+1" ∷ codes "Block=1" ∷ [])
    ≡ false
unfolding block_number
no_blocks = refl

splitter_with_a_block : decl_at Two (words_of_line (codes "split d X -> A B block=2")) ≡ None
unfolding decl_by task_words_at body_at split_at word_at some_at ends_at by_at until_at begins after
    block_at
splitter_with_a_block = refl

-- the words of the second version may be names
named_now : decl_at Two (words_of_line (codes "sink now block by graph at 1"))
    ≡ Some (task (codes "now") (sink (codes "block")) (record {
      by = Some (record { parent = codes "graph"; at = codes "1"; now = false });
      until = None;
      block = None;
    }))
unfolding decl_by task_words_at body_at sink_at word_at ends_at by_at now_at until_at begins after
    block_at
named_now = refl

-- ---- lines of the third version

abbrev only_taps : FilterWords
only_taps = record {
  delay = None;
  shift = codes "2";
  plus = None;
  taps = codes "1" ∷ codes "-1" ∷ [];
  again = [];
  single = None;
}

rounded : decl_at Three (words_of_line (codes "fir f X -> Y shift 2 plus 2 taps 1 -1"))
    ≡ Some (task (codes "f") (fir (codes "X") (codes "Y")
    (record only_taps { plus = Some (codes "2") })) no_ends)
unfolding decl_by task_words_at body_at fir_at filter_at signed_at again_at applied_at single_at
    some_at word_at ends_at by_at until_at begins after block_at
rounded = refl

-- each word of a filter, and ends behind them
whole : decl_at Three (words_of_line
    (codes "fir f X -> Y of 3 shift 2 plus 2 taps 1 -1 again 5 -6 single clamp -8 7 until 9"))
    ≡ Some (task (codes "f") (fir (codes "X") (codes "Y") (record only_taps {
      delay = Some (codes "3");
      plus = Some (codes "2");
      again = codes "5" ∷ codes "-6" ∷ [];
      single = Some (clamp (codes "-8") (codes "7"));
    })) (record no_ends { until = Some (codes "9") }))
unfolding decl_by task_words_at body_at fir_at filter_at signed_at again_at applied_at single_at
    function_at function_named clamp_at some_at word_at ends_at by_at until_at begins after block_at
whole = refl

-- in their order alone
single_first : decl_at Three (words_of_line (codes "fir f X -> Y shift 2 taps 1 single abs again 1"))
    ≡ None
unfolding decl_by task_words_at body_at fir_at filter_at signed_at again_at applied_at single_at
    function_at function_named some_at word_at ends_at by_at until_at begins after block_at
    block_number
single_first = refl

-- `again` has a number
again_alone : decl_at Three (words_of_line (codes "fir f X -> Y shift 2 taps 1 again")) ≡ None
unfolding decl_by task_words_at body_at fir_at filter_at signed_at again_at some_at word_at begins
    after
again_alone = refl

-- a delay takes none of them
delay_again : decl_at Three (words_of_line (codes "delay d X -> Y of 3 again 1")) ≡ None
unfolding decl_by task_words_at body_at delay_at word_at ends_at by_at until_at begins after block_at
    block_number
delay_again = refl

-- in the second version none of them stands
again_in_two : decl_at Two (words_of_line (codes "fir f X -> Y shift 2 taps 1 again 1")) ≡ None
unfolding decl_by task_words_at body_at fir_at filter_at signed_at again_at applied_at some_at word_at
    ends_at by_at until_at begins after block_at block_number
again_in_two = refl

single_in_two : decl_at Two (words_of_line (codes "fir f X -> Y shift 2 taps 1 single abs")) ≡ None
unfolding decl_by task_words_at body_at fir_at filter_at signed_at again_at applied_at some_at word_at
    ends_at by_at until_at begins after block_at block_number
single_in_two = refl

of_in_two : decl_at Two (words_of_line (codes "fir f X -> Y of 3 shift 2 taps 1")) ≡ None
unfolding decl_by task_words_at body_at fir_at filter_at signed_at word_at begins after
of_in_two = refl

delayed : decl_at Three (words_of_line (codes "delay d X -> Y of 1000"))
    ≡ Some (task (codes "d") (delay (codes "X") (codes "Y") (codes "1000")) no_ends)
unfolding decl_by task_words_at body_at delay_at word_at ends_at by_at until_at begins after block_at
delayed = refl

decimated : decl_at Three (words_of_line (codes "decimate d X -> Y every 16 until 3"))
    ≡ Some (task (codes "d") (decimate (codes "X") (codes "Y") (codes "16"))
    (record no_ends { until = Some (codes "3") }))
unfolding decl_by task_words_at body_at decimate_at word_at ends_at by_at until_at begins after
    block_at
decimated = refl

decimated_in_two : decl_at Two (words_of_line (codes "decimate d X -> Y every 16")) ≡ None
unfolding decl_by task_words_at body_at word_at
decimated_in_two = refl

-- a decimator has neither a parent nor a block
decimated_by : decl_at Three (words_of_line (codes "decimate d X -> Y every 16 by s at 1")) ≡ None
unfolding decl_by task_words_at body_at decimate_at word_at ends_at by_at until_at begins after
    block_at
decimated_by = refl

decimated_in_blocks : decl_at Three (words_of_line (codes "decimate d X -> Y every 16 block=2"))
    ≡ None
unfolding decl_by task_words_at body_at decimate_at word_at ends_at by_at until_at begins after
    block_at
decimated_in_blocks = refl

-- in the second version neither is a line
rounded_in_two : decl_at Two (words_of_line (codes "fir f X -> Y shift 2 plus 2 taps 1 -1")) ≡ None
unfolding decl_by task_words_at body_at fir_at filter_at signed_at word_at begins after
rounded_in_two = refl

delayed_in_two : decl_at Two (words_of_line (codes "delay d X -> Y of 1000")) ≡ None
unfolding decl_by task_words_at body_at word_at
delayed_in_two = refl

-- what is added stands before the taps
plus_behind : decl_at Three (words_of_line (codes "fir f X -> Y shift 2 taps 1 plus 2")) ≡ None
unfolding decl_by task_words_at body_at fir_at filter_at signed_at again_at applied_at single_at
    some_at word_at ends_at by_at until_at begins after block_at block_number
plus_behind = refl

-- the words of the third version may be names in the second, and in the third they are none
named_delay : decl_at Two (words_of_line (codes "sink delay of"))
    ≡ Some (task (codes "delay") (sink (codes "of")) no_ends)
unfolding decl_by task_words_at body_at sink_at word_at ends_at by_at until_at begins after block_at
named_delay = refl

no_name_delay : decl_at Three (words_of_line (codes "sink delay of")) ≡ None
unfolding decl_by task_words_at word_at
no_name_delay = refl
