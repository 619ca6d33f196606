-- The values of sinks, written one sink behind the other.
use Rattle.std.proofs.Common.{◌≡◌, ◌≤◌, ◌<◌, ◌+◌, ℕ, ℤ, List, [], ◌∷◌, ◌++◌, length, map, take, drop, get_or, refl, sym, ap, ◌∙◌, arith}
use Rattle.std.specs.List.{flat_map, sum_by}
use Rattle.std.proofs.lemmas.List.{take_more, flat_map_more, take_at, drop_at, drop-drop}
use Rattle.std.proofs.lemmas.List.Concat.{length-flat_map}
use Rattle.std.proofs.lemmas.List.Sums.{sum_by_more, sum_by-take-le}
use Rattle.stream_eval.specs.declared.whole.Lines.{Lines}
use Rattle.stream_eval.specs.Results.{sink_values}
use Rattle.phase_c.specs.SinkValues.{count_in, items_in}

-- the values of the first sinks and those of the next one find room where all do
pub room-more : (lines : List Lines) (i : ℕ) (d : Lines) (room : ℕ) → i < length lines
    → sum_by count_in lines ≤ room
    → length (flat_map items_in (take i lines)) + count_in (get_or lines i d) ≤ room
room-more lines i d room lt all =
    omega (
      arith,
      all,
      length-flat_map items_in (take i lines),
      sum_by_more count_in lines i d lt,
      sum_by-take-le count_in lines (i + 1),
    )

-- what stands once more values were written behind the first ones
pub written-more : (front ys old now : List ℤ) (a n : ℕ) → a ≡ length front
    → now ≡ front ++ drop a old
    → take a now ++ ys ++ drop (a + n) now ≡ front ++ ys ++ drop (a + n) old
written-more front ys old now a n place is =
    let first : take a (front ++ drop a old) ≡ front = take_at front (drop a old) a (sym place) in
    let rest : drop (a + n) (front ++ drop a old) ≡ drop (a + n) old =
    sym (drop-drop n a (front ++ drop a old))
    ∙ (ap (drop n) (drop_at front (drop a old) a (sym place)) ∙ drop-drop n a old) in
    ap (λ xs. take a xs ++ ys ++ drop (a + n) xs) is
    ∙ (ap (λ xs. xs ++ ys ++ drop (a + n) (front ++ drop a old)) first
    ∙ ap (λ xs. front ++ ys ++ xs) rest)

-- the values of one more sink
pub values-more : (lines : List Lines) (i : ℕ) (d : Lines) → i < length lines
    → flat_map items_in (take (i + 1) lines)
    ≡ flat_map items_in (take i lines) ++ items_in (get_or lines i d)
values-more lines i d lt =
    ap (flat_map items_in) (take_more lines i d lt)
    ∙ sym (flat_map_more items_in [] (take i lines) (get_or lines i d))

-- the counts and the values of lines are those of the sinks
counts-of : (lines : List Lines)
    → map count_in lines ≡ map length (map (λ line. line.1) (map sink_values lines))
counts-of [] = refl
counts-of (line ∷ lines) = ap (λ ns. count_in line ∷ ns) (counts-of lines)

values-of : (lines : List Lines) → flat_map items_in lines
    ≡ flat_map (λ values. values) (map (λ line. line.1) (map sink_values lines))
values-of [] = refl
values-of (line ∷ lines) = ap (λ xs. items_in line ++ xs) (values-of lines)

pub counts-are : (lines : List Lines) (found : List (ℕ × List ℤ)) → map sink_values lines ≡ found
    → map count_in lines ≡ map length (map (λ line. line.1) found)
counts-are lines found is =
    counts-of lines ∙ ap (λ xs. map length (map (λ line. line.1) xs)) is

pub values-are : (lines : List Lines) (found : List (ℕ × List ℤ)) → map sink_values lines ≡ found
    → flat_map items_in lines ≡ flat_map (λ values. values) (map (λ line. line.1) found)
values-are lines found is =
    values-of lines ∙ ap (λ xs. flat_map (λ values. values) (map (λ line. line.1) xs)) is
