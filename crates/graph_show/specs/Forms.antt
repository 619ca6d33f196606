-- The forms of a graph's lines, as a person is told them where a line is not in the grammar.
use Rattle.std.specs.Prelude.{ℕ, Bool, true, false, not, ◌||◌, List, [], ◌∷◌, ◌++◌, codes, get_or, if◌then◌else◌}
use Rattle.std.specs.Str.{bytes_eq}
use Rattle.graph_lang.specs.declared.fault.FaultKind.{FaultKind}
use Rattle.graph_lang.specs.declared.fault.FaultKind.TheVariants as kind
use Rattle.graph_text.specs.Texts.{words_of_line}
use Rattle.graph_text.specs.Versions.{has_second, has_third}
use Rattle.graph_text.specs.declared.version.Version.{Version}

-- the form of a filter's line, without its ends
abbrev pub fir_form : Version → List ℕ
fir_form version =
    if has_third version
    then codes "fir NAME X -> Y [of D] shift S [plus C] taps T1 T2 .. [again A1 A2 ..] [single FN]"
    else codes "fir NAME X -> Y shift S taps T1 T2 .."

-- the form of the lines that begin with this word in the third version alone, without their ends,
-- or nothing
abbrev pub third_form : List ℕ → List ℕ
third_form word =
    if bytes_eq word (codes "delay") then codes "delay NAME X -> Y of D"
    else if bytes_eq word (codes "decimate")
    then codes "decimate NAME X -> Y every V [until M]"
    else []

-- the form of the lines of a text of this version that begin with this word, without the ends that
-- go by the version, or nothing where no line does
abbrev pub form_of : Version → List ℕ → List ℕ
form_of version word =
    if bytes_eq word (codes "phaser") then codes "phaser NAME OP BOUND [single FN]"
    else if bytes_eq word (codes "source") then codes "source NAME FILE -> Y"
    else if bytes_eq word (codes "fir") then fir_form version
    else if bytes_eq word (codes "split") then codes "split NAME X -> Y0 Y1 .. [until M]"
    else if bytes_eq word (codes "join") then codes "join NAME X0 X1 .. -> Y [until M]"
    else if bytes_eq word (codes "peer") then codes "peer NAME X <-> E -> Y mul A [until M]"
    else if bytes_eq word (codes "sink") then codes "sink NAME X"
    else if has_third version then third_form word
    else []

-- the ends of a line of a text of this version: those of a sink, or of another task
abbrev pub task_ends : Version → (is_sink : Bool) → List ℕ
task_ends version is_sink =
    if not (has_second version) then codes " [by P at N] [until M]"
    else if is_sink then codes " [by P at N [now]] [until M] [block=B]"
    else codes " [by P at N] [until M] [block=B]"

-- the ends of such a line, where it may have a parent
abbrev pub ends_form : Version → List ℕ → List ℕ
ends_form version word =
    if bytes_eq word (codes "source") || bytes_eq word (codes "fir")
    || bytes_eq word (codes "delay")
    then task_ends version false
    else if bytes_eq word (codes "sink") then task_ends version true
    else []

-- the first word of a line, or nothing
abbrev pub first_word : List ℕ → List ℕ
first_word line = get_or (words_of_line line) 0 []

-- a form and its ends as a line for a person, or nothing
abbrev pub form_line : List ℕ → List ℕ → List ℕ
form_line [] ends = []
form_line (b ∷ form) ends = codes "  form: " ++ ((b ∷ form) ++ (ends ++ codes "\n"))

-- what is told of the form of a line with a fault of this kind, in a text of this version
abbrev pub form_told : Version → FaultKind → List ℕ → List ℕ
form_told version kind.Syntax line =
    form_line (form_of version (first_word line)) (ends_form version (first_word line))
form_told version kind.Limit line = []
form_told version kind.Twice line = []
form_told version kind.Unknown line = []
form_told version kind.OutBeforeIn line = []
form_told version kind.BadParent line = []
form_told version kind.NotHeld line = []
form_told version kind.OverBound line = []
form_told version kind.AnyMeets line = []
