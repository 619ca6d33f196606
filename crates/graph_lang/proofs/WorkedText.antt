-- Worked texts: the lines of each declare the graph that is written out here, which so is well
-- formed; and a heading on the second line is a fault.
use Rattle.std.proofs.Common.{ℕ, ◌≡◌, true, false, inl, sym, ap, List, [], ◌∷◌, Some, None, Ok, Err, ◌∙◌, codes, inr, refl, pos, negsuc}
use Rattle.phase_accum.specs.declared.single.Single.TheVariants.{Clamp}
use Rattle.graph_text.specs.Texts.{is_ignored}
use Rattle.graph_text.specs.Decls.{Decl, phaser, task, clamp, source, sink, Declares}
use Rattle.graph_text.specs.WordReading.{decl_at, decl_by, task_words_at, body_at, word_at}
use Rattle.graph_text.specs.Versions.{may_declare}
use Rattle.graph_text.specs.declared.version.Version.{Version}
use Rattle.graph_text.specs.declared.version.Version.TheVariants.{One, Two}
use Rattle.graph_text.proofs.Spelled.{line_again}
use Rattle.phase_base.specs.declared.operation.Op.TheVariants.{Sum, Least}
use Rattle.graph_base.specs.declared.line.Kind.TheVariants.{Source, Sink}
use Rattle.graph_base.specs.declared.place.Place.TheVariants as place
use Rattle.graph_base.specs.Graphs.{Graph, no_graph, no_task}
use Rattle.graph_base.specs.TaskLines.{IsGraph}
use Rattle.graph_lang.specs.Reads.{ReadsText, without_heading, Steps, with_declared, line_outcome}
use Rattle.graph_lang.specs.Faults.{kind_of}
use Rattle.graph_lang.specs.declared.fault.FaultKind.TheVariants.{Syntax}
use Rattle.graph_lang.proofs.Wellformed.{reads_give_graph}

abbrev lines : List (List ℕ)
lines =
    codes "# a sink that comes later"
    ∷ codes "phaser X sum 4"
    ∷ codes "phaser Y least 2 single clamp -1 5"
    ∷ codes "  source s s.csv -> X until 9"
    ∷ codes ""
    ∷ codes "sink out X"
    ∷ codes "sink late X by out at 2"
    ∷ []

abbrev late_sink : Graph
late_sink = record {
  names = (codes "X", place.Phaser 0) ∷ (codes "Y", place.Phaser 1) ∷ (codes "s", place.Task 0)
      ∷ (codes "out", place.Task 1) ∷ (codes "late", place.Task 2) ∷ [];
  phasers = record { op = Sum; bound = 4; single = None }
      ∷ record { op = Least; bound = 2; single = Some (Clamp (negsuc 0, pos 5)) } ∷ [];
  tasks = record no_task { line = 4; kind = Source; outputs = 0 ∷ []; until = Some 9 }
      ∷ record no_task { line = 6; kind = Sink; inputs = 0 ∷ [] }
      ∷ record no_task {
        line = 7;
        kind = Sink;
        inputs = 0 ∷ [];
        parent = Some (record { task = 1; at = 2 });
      }
      ∷ [];
  files = codes "s.csv" ∷ [];
}

-- what each line declares
abbrev x : Decl
x = phaser (codes "X") Sum (codes "4") None

abbrev y : Decl
y = phaser (codes "Y") Least (codes "2") (Some (clamp (codes "-1") (codes "5")))

abbrev s : Decl
s = task (codes "s") (source (codes "s.csv") (codes "X"))
    (record { by = None; until = Some (codes "9"); block = None })

abbrev out : Decl
out = task (codes "out") (sink (codes "X")) (record { by = None; until = None; block = None })

abbrev late : Decl
late = task (codes "late") (sink (codes "X")) (record {
  by = Some (record { parent = codes "out"; at = codes "2"; now = false });
  until = None;
  block = None;
})

-- a line that is ignored
ignored : (version : Version) (n : ℕ) (before : Graph) (line : List ℕ) → is_ignored line ≡ true
    → Steps version n before line (Ok before)
ignored version n before line e = inl (e, refl)

-- a line that declares d, without fault
declared : (version : Version) (n : ℕ) (before : Graph) (line : List ℕ) (d : Decl)
    → is_ignored line ≡ false → Declares version line d → kind_of version before d ≡ None
    → Steps version n before line (Ok (with_declared before n d))
declared version n before line d words declares e =
    inr (inr (words, d, declares, sym (ap (line_outcome n before d) e)))

-- the graph after each line
abbrev with_x : Graph
with_x = with_declared no_graph 2 x

abbrev with_y : Graph
with_y = with_declared with_x 3 y

abbrev with_s : Graph
with_s = with_declared with_y 4 s

abbrev with_out : Graph
with_out = with_declared with_s 6 out

reads : ReadsText lines (Ok late_sink)
reads =
    inr (
      no_graph,
      ignored One 1 no_graph (codes "# a sink that comes later") refl,
      inr (
        with_x,
        declared One 2 no_graph (codes "phaser X sum 4") x refl x_is refl,
        inr (
          with_y,
          declared One 3 with_x (codes "phaser Y least 2 single clamp -1 5") y refl y_is refl,
          inr (
            with_s,
            declared One 4 with_y (codes "  source s s.csv -> X until 9") s refl s_is refl,
            inr (
              with_s,
              ignored One 5 with_s (codes "") refl,
              inr (
                with_out,
                declared One 6 with_s (codes "sink out X") out refl out_is refl,
                inr (
                  late_sink,
                  declared One 7 with_out (codes "sink late X by out at 2") late refl late_is refl,
                  refl,
                ),
              ),
            ),
          ),
        ),
      ),
    )
  where
    x_is : Declares One (codes "phaser X sum 4") x
    x_is = record {
      printable = refl;
      spells = record { well_formed = (refl, refl, tt); spelled = refl };
    }

    y_is : Declares One (codes "phaser Y least 2 single clamp -1 5") y
    y_is = record {
      printable = refl;
      spells = record { well_formed = (refl, refl, (refl, refl)); spelled = refl };
    }

    s_is : Declares One (codes "  source s s.csv -> X until 9") s
    s_is = record {
      printable = refl;
      spells = record {
        well_formed = (refl, (refl, refl), record { by = tt; until = refl; block = tt });
        spelled = refl;
      };
    }

    out_is : Declares One (codes "sink out X") out
    out_is = record {
      printable = refl;
      spells = record {
        well_formed = (refl, refl, record { by = tt; until = tt; block = tt });
        spelled = refl;
      };
    }

    late_is : Declares One (codes "sink late X by out at 2") late
    late_is = record {
      printable = refl;
      spells = record {
        well_formed = (
          refl,
          refl,
          record {
            by = ((refl, refl), (refl, λ now. now));
            until = tt;
            block = tt;
          },
        );
        spelled = refl;
      };
    }

late_sink-is : IsGraph late_sink
late_sink-is = reads_give_graph One lines late_sink reads

-- ---- a text of the second version

abbrev lines_of_two : List (List ℕ)
lines_of_two =
    codes "# the heading comes next"
    ∷ codes " graph  2"
    ∷ codes "phaser X sum 4"
    ∷ codes "sink out X block=4"
    ∷ codes "sink late X by out at 2 now"
    ∷ []

abbrev late_now : Graph
late_now = record {
  names = (codes "X", place.Phaser 0) ∷ (codes "out", place.Task 0) ∷ (codes "late", place.Task 1)
      ∷ [];
  phasers = record { op = Sum; bound = 4; single = None } ∷ [];
  tasks = record no_task { line = 4; kind = Sink; inputs = 0 ∷ []; block = 4 }
      ∷ record no_task {
        line = 5;
        kind = Sink;
        inputs = 0 ∷ [];
        parent = Some (record { task = 0; at = 2 });
        joins_now = true;
      }
      ∷ [];
  files = [];
}

abbrev out_in_blocks : Decl
out_in_blocks = task (codes "out") (sink (codes "X"))
    (record { by = None; until = None; block = Some (codes "4") })

abbrev late_joins : Decl
late_joins = task (codes "late") (sink (codes "X")) (record {
  by = Some (record { parent = codes "out"; at = codes "2"; now = true });
  until = None;
  block = None;
})

abbrev with_x_of_two : Graph
with_x_of_two = with_declared no_graph 3 x

abbrev with_out_of_two : Graph
with_out_of_two = with_declared with_x_of_two 4 out_in_blocks

reads_two : ReadsText lines_of_two (Ok late_now)
reads_two =
    inr (
      no_graph,
      ignored Two 1 no_graph (codes "# the heading comes next") refl,
      inr (
        no_graph,
        ignored Two 2 no_graph [] refl,
        inr (
          with_x_of_two,
          declared Two 3 no_graph (codes "phaser X sum 4") x refl x_is refl,
          inr (
            with_out_of_two,
            declared Two 4 with_x_of_two (codes "sink out X block=4") out_in_blocks refl out_is
                refl,
            inr (
              late_now,
              declared Two 5 with_out_of_two (codes "sink late X by out at 2 now") late_joins refl
                  late_is refl,
              refl,
            ),
          ),
        ),
      ),
    )
  where
    x_is : Declares Two (codes "phaser X sum 4") x
    x_is = record {
      printable = refl;
      spells = record { well_formed = (refl, refl, tt); spelled = refl };
    }

    out_is : Declares Two (codes "sink out X block=4") out_in_blocks
    out_is = record {
      printable = refl;
      spells = record {
        well_formed = (refl, refl, record { by = tt; until = tt; block = (refl, refl) });
        spelled = refl;
      };
    }

    late_is : Declares Two (codes "sink late X by out at 2 now") late_joins
    late_is = record {
      printable = refl;
      spells = record {
        well_formed = (
          refl,
          refl,
          record {
            by = ((refl, refl), (refl, λ now. refl));
            until = tt;
            block = tt;
          },
        );
        spelled = refl;
      };
    }

late_now-is : IsGraph late_now
late_now-is = reads_give_graph Two (without_heading lines_of_two) late_now reads_two

-- ---- a heading that comes late

abbrev x_of_two : Decl
x_of_two = phaser (codes "X") Sum (codes "2") None

-- the words of the heading declare nothing
heading_none : (version : Version) (d : Decl) → ¬ (Declares version (codes "graph 2") d)
unfolding decl_by task_words_at body_at word_at
heading_none version d declares =
    let spelled = ap (decl_at version) declares.spells.spelled in
    let read = line_again (may_declare version) version d declares.spells.well_formed in
    let clash : None ≡ Some d = spelled ∙ read in absurd (cc)

heading_below : ReadsText (codes "phaser X sum 2" ∷ codes "graph 2" ∷ [])
    (Err (record { line = 2; kind = Syntax }))
heading_below =
    inr (
      with_declared no_graph 1 x_of_two,
      declared One 1 no_graph (codes "phaser X sum 2") x_of_two refl x_is refl,
      inl (record { line = 2; kind = Syntax }, inr (inl (refl, heading_none One, refl)), refl),
    )
  where
    x_is : Declares One (codes "phaser X sum 2") x_of_two
    x_is = record {
      printable = refl;
      spells = record { well_formed = (refl, refl, tt); spelled = refl };
    }

-- a second heading
heading_twice : ReadsText (codes "graph 2" ∷ codes "graph 2" ∷ [])
    (Err (record { line = 2; kind = Syntax }))
heading_twice =
    inr (
      no_graph,
      ignored Two 1 no_graph [] refl,
      inl (record { line = 2; kind = Syntax }, inr (inl (refl, heading_none Two, refl)), refl),
    )
