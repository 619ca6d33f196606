-- Reading a line and spelling it agree: what is read is spelled so.
use Rattle.std.proofs.Common.{suc, ◌≡◌, ◌≤◌, ◌+◌, ◌==◌, ◌&&◌, Bool, true, false, List, [], ◌∷◌, ◌++◌, length, take, drop, refl, ap, sym, ◌∙◌, arith, Option, Some, None, cond, option_and_then, codes, subst, IfSome, IsTrue, rules, append-nil, if◌then◌else◌}
use Rattle.std.specs.List.{list_all, prefix_len}
use Rattle.std.specs.Str.{bytes_eq}
use Rattle.std.proofs.lemmas.Bool.Decides.{nat_tests}
use Rattle.std.proofs.lemmas.List.{append_assoc, take-append-drop}
use Rattle.std.proofs.lemmas.List.Folds.{length-prefix_len}
use Rattle.std.proofs.lemmas.Option.{cond_some, same_Some}
use Rattle.std.proofs.lemmas.Slice.Eq.{bytes_eq-Decides}
use Rattle.phase_base.specs.Words.{Word, is_name, is_file}
use Rattle.phase_base.specs.OperationWords.{operation_of, operation_word}
use Rattle.phase_base.specs.declared.operation.Op.{Op}
use Rattle.phase_base.proofs.OperationWords.{operation-read}
use Rattle.phase_base.specs.Numbers.{is_nat, is_int}
use Rattle.graph_text.specs.Decls.{Decl, phaser, task, FunctionWords, neg, abs, halve, ByWords, EndWords, FilterWords, BodyWords, function_words, single_words, now_words, by_words, until_words, block_words, end_words, body_word, body_words, signed_words, again_words, filter_words, IsFunction, AreAgain, IsFilter, IsBody, IsBy, AreEnds, AreSome, may_have_parent, may_join_now, may_have_blocks, Spells}
use Rattle.graph_text.specs.Versions.{has_third, may_declare}
use Rattle.graph_text.specs.declared.version.Version.{Version}
use Rattle.std.proofs.lemmas.Bool.{and_parts}
use Rattle.graph_text.proofs.Spelled.{filter_line}
use Rattle.graph_text.specs.WordReading.{Found, ◌>>=◌, word_at, after, begins, some_at, operation_at, clamp_at, function_named, function_at, single_at, now_at, by_with, by_at, until_at, block_number, block_at, ends_at, source_at, signed_at, again_at, applied_at, filter_at, fir_at, delay_at, decimate_at, split_at, join_at, peer_at, sink_at, body_at, phaser_words_at, task_words_at, decl_by, decl_at}

-- ---- words

-- a reading in two steps has read something in each
pub steps : {A B : Type 0} (f : A → Option B) (o : Option A) (y : B) → option_and_then f o ≡ Some y
    → (x : A) × (o ≡ Some x) × (f x ≡ Some y)
steps {A} {B} f None y e = absurd (cc)
steps f (Some x) y e = (x, refl, e)

-- a word, and what follows it
followed : {ws before after : List Word} (w : Word) → ws ≡ w ∷ before → before ≡ after → ws ≡ w ∷ after
followed w here e = here ∙ ap (λ ws. w ∷ ws) e

same : (a b : Word) → bytes_eq a b ≡ true → a ≡ b
same a b h = search (rules, bytes_eq-Decides a b)

none_left : (ws : List Word) → (length ws == 0) ≡ true → ws ≡ []
none_left [] h = refl
none_left (w ∷ ws) h = absurd (grind (arith, nat_tests))

word_takes : (test : Word → Bool) (ws : List Word) (x : Found Word) → word_at test ws ≡ Some x
    → (test x.0 ≡ true) × (ws ≡ x.0 ∷ x.1)
unfolding word_at
word_takes test [] x e = absurd (cc)
word_takes test (w ∷ ws) x e =
    let c = cond_some (test w) (w, ws) x e in
    let P : Found Word → Type 0 = λ x. (test x.0 ≡ true) × (w ∷ ws ≡ x.0 ∷ x.1) in
    subst P c.1 (c.0, refl)

after_takes : (sign : Word) (ws rest : List Word) → after sign ws ≡ Some rest → ws ≡ sign ∷ rest
unfolding after
after_takes sign [] rest e = absurd (cc)
after_takes sign (w ∷ ws) rest e =
    let c = cond_some (bytes_eq w sign) ws rest e in
    rw (same w sign c.0, c.1) refl

front_passes : (test : Word → Bool) (ws : List Word)
    → list_all test (take (prefix_len test ws) ws) ≡ true
front_passes test [] = refl
front_passes test (w ∷ ws) = at (test w) refl (front_passes test ws)
  where
    at : (pass : Bool) → test w ≡ pass → list_all test (take (prefix_len test ws) ws) ≡ true
        → list_all test (take (cond pass (1 + prefix_len test ws) 0) (w ∷ ws)) ≡ true
    at true pass others =
        let next : suc (prefix_len test ws) ≡ 1 + prefix_len test ws = omega arith in
        subst (λ n. list_all test (take n (w ∷ ws)) ≡ true) next (rw pass others)
    at false stop others = refl

some_takes : (test : Word → Bool) (ws : List Word) (x : Found (List Word)) → some_at test ws ≡ Some x
    → AreSome test x.0 × (ws ≡ x.0 ++ x.1)
unfolding some_at
some_takes test ws x e = at (prefix_len test ws == 0) refl e
  where
    at : (none : Bool) → (prefix_len test ws == 0) ≡ none
        → cond none None (Some (take (prefix_len test ws) ws, drop (prefix_len test ws) ws)) ≡ Some x
        → AreSome test x.0 × (ws ≡ x.0 ++ x.1)
    at true empty found = absurd (cc)
    at false some found =
        let P : Found (List Word) → Type 0 = λ x. AreSome test x.0 × (ws ≡ x.0 ++ x.1) in
        let counted : 1 ≤ prefix_len test ws = grind (arith, nat_tests) in
        let least : 1 ≤ length (take (prefix_len test ws) ws) = rw (length-prefix_len test ws) counted in
        subst P (same_Some (take (prefix_len test ws) ws, drop (prefix_len test ws) ws) x found)
        ((least, front_passes test ws), sym (take-append-drop (prefix_len test ws) ws))

-- ---- parts of a line

operation_takes : (ws : List Word) (x : Found Op) → operation_at ws ≡ Some x
    → ws ≡ operation_word x.0 ∷ x.1
unfolding operation_at
operation_takes [] x e = absurd (cc)
operation_takes (word ∷ ws) x e =
    let o = steps _ (operation_of word) x e in
    let P : Found Op → Type 0 = λ x. word ∷ ws ≡ operation_word x.0 ∷ x.1 in
    subst P (same_Some (o.0, ws) x o.2) (ap (λ w. w ∷ ws) (operation-read word o.0 o.1))

-- the words spell the function that was read, before the words that are left
TakesFunction : List Word → Option (Found FunctionWords) → Type 0
TakesFunction ws o = IfSome o (λ x. IsFunction x.0 × (ws ≡ function_words x.0 ++ x.1))

clamp_takes : (ws : List Word) (x : Found FunctionWords) → clamp_at ws ≡ Some x
    → TakesFunction (codes "clamp" ∷ ws) (Some x)
unfolding clamp_at TakesFunction
clamp_takes ws x e =
    let l = steps _ (word_at is_int ws) x e in
    let h = steps _ (word_at is_int l.0.1) x l.2 in
    let low = word_takes is_int ws l.0 l.1 in
    let high = word_takes is_int l.0.1 h.0 h.1 in
    subst (TakesFunction (codes "clamp" ∷ ws)) h.2 (
      (low.0, high.0),
      followed (codes "clamp") refl (followed l.0.0 low.1 high.1),
    )

-- a choice by the first word
by_word : (word sign : Word) (ws : List Word) (x : Found FunctionWords)
    (one other : Option (Found FunctionWords))
    → (one ≡ Some x → TakesFunction (sign ∷ ws) (Some x))
    → (other ≡ Some x → TakesFunction (word ∷ ws) (Some x))
    → (if bytes_eq word sign then one else other) ≡ Some x → TakesFunction (word ∷ ws) (Some x)
by_word word sign ws x one other takes others e = at (bytes_eq word sign) refl e
  where
    at : (is : Bool) → bytes_eq word sign ≡ is → (if is then one else other) ≡ Some x
        → TakesFunction (word ∷ ws) (Some x)
    at true is found =
        rw (same word sign is) (takes found)
    at false is found = others found

function_takes : (ws : List Word) (x : Found FunctionWords) → function_at ws ≡ Some x
    → TakesFunction ws (Some x)
unfolding function_at function_named TakesFunction
function_takes [] x e = absurd (cc)
function_takes (word ∷ ws) x e =
    by_word word (codes "neg") ws x _ _ (plain neg (tt, refl))
    (by_word word (codes "abs") ws x _ _ (plain abs (tt, refl))
    (by_word word (codes "halve") ws x _ _ (plain halve (tt, refl))
    (by_word word (codes "clamp") ws x _ _ (clamp_takes ws x) (λ none. absurd (cc))))) e
  where
    plain : (f : FunctionWords) → TakesFunction (function_words f ++ ws) (Some (f, ws))
        → Some (f, ws) ≡ Some x → TakesFunction (function_words f ++ ws) (Some x)
    plain f is found = subst (TakesFunction (function_words f ++ ws)) found is

single_takes : (ws : List Word) (x : Found (Option FunctionWords)) → single_at ws ≡ Some x
    → IfSome x.0 IsFunction × (ws ≡ single_words x.0 ++ x.1)
unfolding single_at TakesFunction
single_takes ws x e = at (begins (codes "single") ws) e
  where
    P : Option (Found (Option FunctionWords)) → Type 0
    P o = IfSome o (λ x. IfSome x.0 IsFunction × (ws ≡ single_words x.0 ++ x.1))

    at : (is_named : Bool) → cond is_named
        (after (codes "single") ws >>= (λ named. function_at named >>= (λ f. Some (Some f.0, f.1))))
        (Some (None, ws)) ≡ Some x
        → IfSome x.0 IsFunction × (ws ≡ single_words x.0 ++ x.1)
    at true found =
        let n = steps _ (after (codes "single") ws) x found in
        let f = steps _ (function_at n.0) x n.2 in
        let function = function_takes n.0 f.0 f.1 in
        subst P f.2 (
          function.0,
          after_takes (codes "single") ws n.0 n.1 ∙ ap (λ ws. codes "single" ∷ ws) function.1,
        )
    at false found = subst P found (tt, refl)

-- the words spell whether the task joins now, which is so only where that is allowed
TakesNow : Bool → List Word → Found Bool → Type 0
TakesNow allowed ws x = (x.0 ≡ true → allowed ≡ true) × (ws ≡ now_words x.0 ++ x.1)

now_takes : (allowed : Bool) (ws : List Word) → TakesNow allowed ws (now_at allowed ws)
unfolding now_at TakesNow
now_takes allowed [] = (λ e. absurd (cc), refl)
now_takes allowed (w ∷ ws) = at allowed (bytes_eq w (codes "now")) refl
  where
    at : (may is : Bool) → bytes_eq w (codes "now") ≡ is
        → TakesNow may (w ∷ ws) (if may && is then (true, ws) else (false, w ∷ ws))
    at true true e = (λ h. refl, ap (λ w. w ∷ ws) (same w (codes "now") e))
    at true false e = (λ h. refl, refl)
    at false is e = (λ h. h, refl)

-- the words spell the parent, which is there, and joins now, only where that is allowed
TakesBy : (allowed joins : Bool) → List Word → Option (Found (Option ByWords)) → Type 0
TakesBy allowed joins ws o = IfSome o (λ x.
    IfSome x.0 (λ by. IsBy by × ((allowed ≡ true) × (by.now ≡ true → joins ≡ true)))
    × (ws ≡ by_words x.0 ++ x.1))

by_takes : (allowed joins : Bool) (ws : List Word) (x : Found (Option ByWords))
    → by_at allowed joins ws ≡ Some x → TakesBy allowed joins ws (Some x)
unfolding by_at TakesBy TakesNow
by_takes allowed joins ws x e = at allowed (begins (codes "by") ws) e
  where
    at : (may is_named : Bool) → cond (may && is_named)
        (after (codes "by") ws >>= (λ named. word_at is_name named >>= (λ parent.
        after (codes "at") parent.1 >>= (λ counted. word_at is_nat counted >>= (λ at.
        Some (by_with parent.0 at.0 (now_at joins at.1)))))))
        (Some (None, ws)) ≡ Some x
        → TakesBy may joins ws (Some x)
    at true true found =
        let n = steps _ (after (codes "by") ws) x found in
        let p = steps _ (word_at is_name n.0) x n.2 in
        let c = steps _ (after (codes "at") p.0.1) x p.2 in
        let a = steps _ (word_at is_nat c.0) x c.2 in
        let parent = word_takes is_name n.0 p.0 p.1 in
        let at = word_takes is_nat c.0 a.0 a.1 in
        let now = now_takes joins a.0.1 in
        subst (TakesBy true joins ws) a.2 (
          ((parent.0, at.0), (refl, now.0)),
          followed (codes "by") (after_takes (codes "by") ws n.0 n.1)
              (followed p.0.0 parent.1
              (followed (codes "at") (after_takes (codes "at") p.0.1 c.0 c.1)
              (followed a.0.0 at.1 now.1))),
        )
    at true false found = subst (TakesBy true joins ws) found (tt, refl)
    at false named found = subst (TakesBy false joins ws) found (tt, refl)

until_takes : (ws : List Word) (x : Found (Option Word)) → until_at ws ≡ Some x
    → IfSome x.0 (λ steps. IsTrue (is_nat steps)) × (ws ≡ until_words x.0 ++ x.1)
unfolding until_at
until_takes ws x e = at (begins (codes "until") ws) e
  where
    P : Option (Found (Option Word)) → Type 0
    P o = IfSome o (λ x. IfSome x.0 (λ n. IsTrue (is_nat n)) × (ws ≡ until_words x.0 ++ x.1))

    at : (is_counted : Bool) → cond is_counted
        (after (codes "until") ws >>= (λ counted. word_at is_nat counted >>= (λ n. Some (Some n.0, n.1))))
        (Some (None, ws)) ≡ Some x
        → IfSome x.0 (λ n. IsTrue (is_nat n)) × (ws ≡ until_words x.0 ++ x.1)
    at true found =
        let c = steps _ (after (codes "until") ws) x found in
        let n = steps _ (word_at is_nat c.0) x c.2 in
        let number = word_takes is_nat c.0 n.0 n.1 in
        subst P n.2 (
          number.0,
          after_takes (codes "until") ws c.0 c.1 ∙ ap (λ ws. codes "until" ∷ ws) number.1,
        )
    at false found = subst P found (tt, refl)

-- a word with its number
number_takes : (w steps : Word) → block_number w ≡ Some steps
    → (is_nat steps ≡ true) × (w ≡ codes "block=" ++ steps)
unfolding block_number
number_takes w steps e =
    let fits = bytes_eq (take 6 w) (codes "block=") && is_nat (drop 6 w) in
    let c = cond_some fits (drop 6 w) steps e in
    let is = and_parts (bytes_eq (take 6 w) (codes "block=")) (is_nat (drop 6 w)) c.0 in
    let sign = same (take 6 w) (codes "block=") is.0 in (
      subst (λ n. is_nat n ≡ true) c.1 is.1,
      sym (take-append-drop 6 w) ∙ ap (λ front. front ++ drop 6 w) sign
          ∙ ap (λ n. codes "block=" ++ n) c.1,
    )

-- the words spell the steps of a block, which are there only where that is allowed
TakesBlock : Bool → List Word → Option (Option Word) → Type 0
TakesBlock allowed ws o = IfSome o (λ block.
    IfSome block (λ steps. IsTrue (is_nat steps) × (allowed ≡ true)) × (ws ≡ block_words block))

block_takes : (allowed : Bool) (ws : List Word) (block : Option Word)
    → block_at allowed ws ≡ Some block → TakesBlock allowed ws (Some block)
unfolding block_at TakesBlock
block_takes allowed [] block e = subst (TakesBlock allowed []) e (tt, refl)
block_takes true (w ∷ []) block e =
    let n = steps _ (block_number w) block e in
    let number = number_takes w n.0 n.1 in
    subst (TakesBlock true (w ∷ [])) n.2 ((number.0, refl), ap (λ w. w ∷ []) number.1)
block_takes false (w ∷ []) block e = absurd (cc)
block_takes allowed (w ∷ v ∷ ws) block e = absurd (cc)

ends_takes : (version : Version) (body : BodyWords) (ws : List Word) (ends : EndWords)
    → ends_at version body ws ≡ Some ends → AreEnds version body ends × (ws ≡ end_words ends)
unfolding ends_at TakesBy TakesBlock
ends_takes version body ws ends e =
    let parents = may_have_parent body in
    let joins = may_join_now version body in
    let blocks = may_have_blocks version body in
    let b = steps _ (by_at parents joins ws) ends e in
    let u = steps _ (until_at b.0.1) ends b.2 in
    let k = steps _ (block_at blocks u.0.1) ends u.2 in
    let by = by_takes parents joins ws b.0 b.1 in
    let until = until_takes b.0.1 u.0 u.1 in
    let block = block_takes blocks u.0.1 k.0 k.1 in
    let P : EndWords → Type 0 = λ ends. AreEnds version body ends × (ws ≡ end_words ends) in
    subst P (same_Some (record { by = b.0.0; until = u.0.0; block = k.0 }) ends k.2) (
      record { by = by.0; until = until.0; block = block.0 },
      by.1 ∙ ap (λ ws. by_words b.0.0 ++ ws)
          (until.1 ∙ ap (λ ws. until_words u.0.0 ++ ws) block.1),
    )

-- ---- what a task does

-- the words spell the body that was read, before the words that are left
TakesBody : Version → Word → List Word → Option (Found BodyWords) → Type 0
TakesBody version kind ws o = IfSome o (λ x.
    IsBody version x.0 × (kind ≡ body_word x.0) × (ws ≡ body_words x.0 ++ x.1))

source_takes : (version : Version) (ws : List Word) (x : Found BodyWords) → source_at ws ≡ Some x
    → TakesBody version (codes "source") ws (Some x)
unfolding source_at TakesBody
source_takes version ws x e =
    let f = steps _ (word_at is_file ws) x e in
    let s = steps _ (after (codes "->") f.0.1) x f.2 in
    let o = steps _ (word_at is_name s.0) x s.2 in
    let file = word_takes is_file ws f.0 f.1 in
    let sent = after_takes (codes "->") f.0.1 s.0 s.1 in
    let output = word_takes is_name s.0 o.0 o.1 in
    subst (TakesBody version (codes "source") ws) o.2 (
      (file.0, output.0),
      refl,
      followed f.0.0 file.1 (followed (codes "->") sent output.1),
    )

-- ---- what a filter does

signed_takes : (sign : Word) (test : Word → Bool) (allowed : Bool) (ws : List Word)
    (x : Found (Option Word)) → signed_at sign test allowed ws ≡ Some x
    → IfSome x.0 (λ number. IsTrue (test number) × IsTrue allowed)
    × (ws ≡ signed_words sign x.0 ++ x.1)
unfolding signed_at
signed_takes sign test allowed ws x e = at allowed (begins sign ws) e
  where
    P : Bool → Option (Found (Option Word)) → Type 0
    P may o = IfSome o (λ x. IfSome x.0 (λ n. IsTrue (test n) × IsTrue may)
        × (ws ≡ signed_words sign x.0 ++ x.1))

    at : (may is_signed : Bool) → cond (may && is_signed)
        (after sign ws >>= (λ signed. word_at test signed >>= (λ n. Some (Some n.0, n.1))))
        (Some (None, ws)) ≡ Some x
        → IfSome x.0 (λ number. IsTrue (test number) × IsTrue may)
        × (ws ≡ signed_words sign x.0 ++ x.1)
    at true true found =
        let a = steps _ (after sign ws) x found in
        let n = steps _ (word_at test a.0) x a.2 in
        let number = word_takes test a.0 n.0 n.1 in
        subst (P true) n.2
        ((number.0, refl), followed sign (after_takes sign ws a.0 a.1) number.1)
    at true false found = subst (P true) found (tt, refl)
    at false signed found = subst (P false) found (tt, refl)

-- the words spell the taps for what was put, which are there only where that is allowed
TakesAgain : Version → List Word → Option (Found (List Word)) → Type 0
TakesAgain version ws o = IfSome o (λ x. AreAgain version x.0 × (ws ≡ again_words x.0 ++ x.1))

again_takes : (version : Version) (ws : List Word) (x : Found (List Word))
    → again_at (has_third version) ws ≡ Some x → TakesAgain version ws (Some x)
unfolding again_at TakesAgain
again_takes version ws x e = at (has_third version) (begins (codes "again") ws) refl e
  where
    some : (allowed : Bool) → has_third version ≡ allowed → allowed ≡ true
        → (named : List Word) → ws ≡ codes "again" ∷ named → (x : Found (List Word))
        → AreSome is_int x.0 → named ≡ x.0 ++ x.1 → TakesAgain version ws (Some x)
    some allowed third is named here ([], behind) are spelled = absurd (grind (arith, are.0))
    some allowed third is named here (tap ∷ taps, behind) are spelled =
        ((are.1, third ∙ is), followed (codes "again") here spelled)

    at : (may is_named : Bool) → has_third version ≡ may → cond (may && is_named)
        (after (codes "again") ws >>= (λ named. some_at is_int named))
        (Some ([], ws)) ≡ Some x → TakesAgain version ws (Some x)
    at true true third found =
        let n = steps _ (after (codes "again") ws) x found in
        let taps = some_takes is_int n.0 x n.2 in
        some true third refl n.0 (after_takes (codes "again") ws n.0 n.1) x taps.0 taps.1
    at true false third found = subst (TakesAgain version ws) found (tt, refl)
    at false named third found = subst (TakesAgain version ws) found (tt, refl)

applied_takes : (allowed : Bool) (ws : List Word) (x : Found (Option FunctionWords))
    → applied_at allowed ws ≡ Some x
    → IfSome x.0 (λ single. IsFunction single × IsTrue allowed) × (ws ≡ single_words x.0 ++ x.1)
unfolding applied_at
applied_takes true ws x e =
    let single = single_takes ws x e in
    (allowed x.0 single.0, single.1)
  where
    allowed : (single : Option FunctionWords) → IfSome single IsFunction
        → IfSome single (λ single. IsFunction single × IsTrue true)
    allowed None is = tt
    allowed (Some single) is = (is, refl)
applied_takes false ws x e =
    let P : Option (Found (Option FunctionWords)) → Type 0 =
    λ o. IfSome o (λ x. IfSome x.0 (λ single. IsFunction single × IsTrue false)
    × (ws ≡ single_words x.0 ++ x.1)) in
    subst P e (tt, refl)

-- the words spell the filter that was read, before the words that are left
TakesFilter : Version → List Word → Option (Found FilterWords) → Type 0
TakesFilter version ws o = IfSome o (λ x.
    IsFilter version x.0 × (ws ≡ filter_words x.0 ++ x.1))

filter_takes : (version : Version) (ws : List Word) (x : Found FilterWords)
    → filter_at (has_third version) ws ≡ Some x → TakesFilter version ws (Some x)
unfolding filter_at TakesFilter TakesAgain
filter_takes version ws x e =
    let third = has_third version in
    let d = steps _ (signed_at (codes "of") is_nat third ws) x e in
    let m = steps _ (after (codes "shift") d.0.1) x d.2 in
    let n = steps _ (word_at is_nat m.0) x m.2 in
    let p = steps _ (signed_at (codes "plus") is_int third n.0.1) x n.2 in
    let t = steps _ (after (codes "taps") p.0.1) x p.2 in
    let l = steps _ (some_at is_int t.0) x t.2 in
    let a = steps _ (again_at third l.0.1) x l.2 in
    let s = steps _ (applied_at third a.0.1) x a.2 in
    let delay = signed_takes (codes "of") is_nat third ws d.0 d.1 in
    let marked = after_takes (codes "shift") d.0.1 m.0 m.1 in
    let shift = word_takes is_nat m.0 n.0 n.1 in
    let plus = signed_takes (codes "plus") is_int third n.0.1 p.0 p.1 in
    let tapped = after_takes (codes "taps") p.0.1 t.0 t.1 in
    let taps = some_takes is_int t.0 l.0 l.1 in
    let again = again_takes version l.0.1 a.0 a.1 in
    let single = applied_takes third a.0.1 s.0 s.1 in
    let filter : FilterWords = record {
      delay = d.0.0;
      shift = n.0.0;
      plus = p.0.0;
      taps = l.0.0;
      again = a.0.0;
      single = s.0.0;
    } in
    let behind = taps.1 ∙ ap (λ ws. l.0.0 ++ ws)
    (again.1 ∙ ap (λ ws. again_words a.0.0 ++ ws) single.1) in
    let summed = plus.1 ∙ ap (λ ws. signed_words (codes "plus") p.0.0 ++ ws)
    (followed (codes "taps") tapped behind) in
    let line = delay.1 ∙ ap (λ ws. signed_words (codes "of") d.0.0 ++ ws)
    (followed (codes "shift") marked (followed n.0.0 shift.1 summed)) in
    subst (TakesFilter version ws) s.2 (
      record {
        delay = delay.0;
        shift = shift.0;
        plus = plus.0;
        taps = taps.0;
        again = again.0;
        single = single.0;
      },
      filter_line filter ws s.0.1 line,
    )

fir_takes : (version : Version) (ws : List Word) (x : Found BodyWords)
    → fir_at (has_third version) ws ≡ Some x → TakesBody version (codes "fir") ws (Some x)
unfolding fir_at TakesBody TakesFilter
fir_takes version ws x e =
    let i = steps _ (word_at is_name ws) x e in
    let s = steps _ (after (codes "->") i.0.1) x i.2 in
    let o = steps _ (word_at is_name s.0) x s.2 in
    let f = steps _ (filter_at (has_third version) o.0.1) x o.2 in
    let input = word_takes is_name ws i.0 i.1 in
    let sent = after_takes (codes "->") i.0.1 s.0 s.1 in
    let output = word_takes is_name s.0 o.0 o.1 in
    let filter = filter_takes version o.0.1 f.0 f.1 in
    subst (TakesBody version (codes "fir") ws) f.2 (
      (input.0, output.0, filter.0),
      refl,
      followed i.0.0 input.1 (followed (codes "->") sent (followed o.0.0 output.1 filter.1)),
    )

delay_takes : (version : Version) (ws : List Word) (x : Found BodyWords)
    → IsTrue (has_third version) → delay_at ws ≡ Some x
    → TakesBody version (codes "delay") ws (Some x)
unfolding delay_at TakesBody
delay_takes version ws x third e =
    let i = steps _ (word_at is_name ws) x e in
    let s = steps _ (after (codes "->") i.0.1) x i.2 in
    let o = steps _ (word_at is_name s.0) x s.2 in
    let c = steps _ (after (codes "of") o.0.1) x o.2 in
    let n = steps _ (word_at is_nat c.0) x c.2 in
    let input = word_takes is_name ws i.0 i.1 in
    let sent = after_takes (codes "->") i.0.1 s.0 s.1 in
    let output = word_takes is_name s.0 o.0 o.1 in
    let counted = after_takes (codes "of") o.0.1 c.0 c.1 in
    let number = word_takes is_nat c.0 n.0 n.1 in
    subst (TakesBody version (codes "delay") ws) n.2 (
      (input.0, output.0, number.0, third),
      refl,
      followed i.0.0 input.1 (followed (codes "->") sent (followed o.0.0 output.1
          (followed (codes "of") counted number.1))),
    )

decimate_takes : (version : Version) (ws : List Word) (x : Found BodyWords)
    → IsTrue (has_third version) → decimate_at ws ≡ Some x
    → TakesBody version (codes "decimate") ws (Some x)
unfolding decimate_at TakesBody
decimate_takes version ws x third e =
    let i = steps _ (word_at is_name ws) x e in
    let s = steps _ (after (codes "->") i.0.1) x i.2 in
    let o = steps _ (word_at is_name s.0) x s.2 in
    let c = steps _ (after (codes "every") o.0.1) x o.2 in
    let n = steps _ (word_at is_nat c.0) x c.2 in
    let input = word_takes is_name ws i.0 i.1 in
    let sent = after_takes (codes "->") i.0.1 s.0 s.1 in
    let output = word_takes is_name s.0 o.0 o.1 in
    let counted = after_takes (codes "every") o.0.1 c.0 c.1 in
    let number = word_takes is_nat c.0 n.0 n.1 in
    subst (TakesBody version (codes "decimate") ws) n.2 (
      (input.0, output.0, number.0, third),
      refl,
      followed i.0.0 input.1 (followed (codes "->") sent (followed o.0.0 output.1
          (followed (codes "every") counted number.1))),
    )

split_takes : (version : Version) (ws : List Word) (x : Found BodyWords) → split_at ws ≡ Some x
    → TakesBody version (codes "split") ws (Some x)
unfolding split_at TakesBody
split_takes version ws x e =
    let i = steps _ (word_at is_name ws) x e in
    let s = steps _ (after (codes "->") i.0.1) x i.2 in
    let l = steps _ (some_at is_name s.0) x s.2 in
    let input = word_takes is_name ws i.0 i.1 in
    let sent = after_takes (codes "->") i.0.1 s.0 s.1 in
    let outputs = some_takes is_name s.0 l.0 l.1 in
    subst (TakesBody version (codes "split") ws) l.2 (
      (input.0, outputs.0),
      refl,
      followed i.0.0 input.1 (followed (codes "->") sent outputs.1),
    )

join_takes : (version : Version) (ws : List Word) (x : Found BodyWords) → join_at ws ≡ Some x
    → TakesBody version (codes "join") ws (Some x)
unfolding join_at TakesBody
join_takes version ws x e =
    let l = steps _ (some_at is_name ws) x e in
    let s = steps _ (after (codes "->") l.0.1) x l.2 in
    let o = steps _ (word_at is_name s.0) x s.2 in
    let inputs = some_takes is_name ws l.0 l.1 in
    let sent = after_takes (codes "->") l.0.1 s.0 s.1 in
    let output = word_takes is_name s.0 o.0 o.1 in
    let line = inputs.1 ∙ ap (λ ws. l.0.0 ++ ws) (followed (codes "->") sent output.1) in
    subst (TakesBody version (codes "join") ws) o.2 (
      (inputs.0, output.0),
      refl,
      line ∙ sym (append_assoc l.0.0 (codes "->" ∷ o.0.0 ∷ []) o.0.1),
    )

peer_takes : (version : Version) (ws : List Word) (x : Found BodyWords) → peer_at ws ≡ Some x
    → TakesBody version (codes "peer") ws (Some x)
unfolding peer_at TakesBody
peer_takes version ws x e =
    let i = steps _ (word_at is_name ws) x e in
    let b = steps _ (after (codes "<->") i.0.1) x i.2 in
    let c = steps _ (word_at is_name b.0) x b.2 in
    let s = steps _ (after (codes "->") c.0.1) x c.2 in
    let o = steps _ (word_at is_name s.0) x s.2 in
    let m = steps _ (after (codes "mul") o.0.1) x o.2 in
    let f = steps _ (word_at is_int m.0) x m.2 in
    let input = word_takes is_name ws i.0 i.1 in
    let both = after_takes (codes "<->") i.0.1 b.0 b.1 in
    let exchange = word_takes is_name b.0 c.0 c.1 in
    let sent = after_takes (codes "->") c.0.1 s.0 s.1 in
    let output = word_takes is_name s.0 o.0 o.1 in
    let times = after_takes (codes "mul") o.0.1 m.0 m.1 in
    let factor = word_takes is_int m.0 f.0 f.1 in
    subst (TakesBody version (codes "peer") ws) f.2 (
      (input.0, exchange.0, output.0, factor.0),
      refl,
      followed i.0.0 input.1 (followed (codes "<->") both (followed c.0.0 exchange.1
          (followed (codes "->") sent (followed o.0.0 output.1
          (followed (codes "mul") times factor.1))))),
    )

sink_takes : (version : Version) (ws : List Word) (x : Found BodyWords) → sink_at ws ≡ Some x
    → TakesBody version (codes "sink") ws (Some x)
unfolding sink_at TakesBody
sink_takes version ws x e =
    let i = steps _ (word_at is_name ws) x e in
    let input = word_takes is_name ws i.0 i.1 in
    subst (TakesBody version (codes "sink") ws) i.2 (input.0, refl, input.1)

-- a choice by the first word
by_kind : (version : Version) (allowed : Bool) (kind sign : Word) (ws : List Word)
    (x : Found BodyWords) (one other : Option (Found BodyWords))
    → (IsTrue allowed → one ≡ Some x → TakesBody version sign ws (Some x))
    → (other ≡ Some x → TakesBody version kind ws (Some x))
    → (if allowed && bytes_eq kind sign then one else other) ≡ Some x
    → TakesBody version kind ws (Some x)
by_kind version allowed kind sign ws x one other takes others e =
    at allowed (bytes_eq kind sign) refl refl e
  where
    at : (may is : Bool) → allowed ≡ may → bytes_eq kind sign ≡ is
        → (if may && is then one else other) ≡ Some x → TakesBody version kind ws (Some x)
    at true true may is found = rw (same kind sign is) (takes may found)
    at true false may is found = others found
    at false is may e found = others found

body_takes : (version : Version) (kind : Word) (ws : List Word) (x : Found BodyWords)
    → body_at (has_third version) kind ws ≡ Some x → TakesBody version kind ws (Some x)
unfolding body_at
body_takes version kind ws x e =
    by_kind version true kind (codes "source") ws x _ _ (λ yes. source_takes version ws x)
    (by_kind version true kind (codes "fir") ws x _ _ (λ yes. fir_takes version ws x)
    (by_kind version true kind (codes "split") ws x _ _ (λ yes. split_takes version ws x)
    (by_kind version true kind (codes "join") ws x _ _ (λ yes. join_takes version ws x)
    (by_kind version true kind (codes "peer") ws x _ _ (λ yes. peer_takes version ws x)
    (by_kind version true kind (codes "sink") ws x _ _ (λ yes. sink_takes version ws x)
    (by_kind version (has_third version) kind (codes "delay") ws x _ _
    (λ third. delay_takes version ws x third)
    (by_kind version (has_third version) kind (codes "decimate") ws x _ _
    (λ third. decimate_takes version ws x third)
    (λ none. absurd (cc))))))))) e

-- ---- a line

phaser_takes : (version : Version) (ws : List Word) (d : Decl)
    → phaser_words_at (may_declare version) ws ≡ Some d → Spells version (codes "phaser" ∷ ws) d
unfolding phaser_words_at
phaser_takes version ws d e =
    let n = steps _ (word_at (may_declare version) ws) d e in
    let o = steps _ (operation_at n.0.1) d n.2 in
    let b = steps _ (word_at is_nat o.0.1) d o.2 in
    let s = steps _ (single_at b.0.1) d b.2 in
    let c = cond_some (length s.0.1 == 0) (phaser n.0.0 o.0.0 b.0.0 s.0.0) d s.2 in
    let name = word_takes (may_declare version) ws n.0 n.1 in
    let operation = operation_takes n.0.1 o.0 o.1 in
    let bound = word_takes is_nat o.0.1 b.0 b.1 in
    let single = single_takes b.0.1 s.0 s.1 in
    let left : s.0.1 ≡ [] = none_left s.0.1 c.0 in
    let ends = single.1 ∙ ap (λ ws. single_words s.0.0 ++ ws) left ∙ append-nil (single_words s.0.0) in
    subst (Spells version (codes "phaser" ∷ ws)) c.1 (record {
      well_formed = (name.0, bound.0, single.0);
      spelled = ap (λ ws. codes "phaser" ∷ ws)
          (followed n.0.0 name.1
          (followed (operation_word o.0.0) operation (followed b.0.0 bound.1 ends)));
    })

task_takes : (version : Version) (kind : Word) (ws : List Word) (d : Decl)
    → task_words_at (may_declare version) version kind ws ≡ Some d → Spells version (kind ∷ ws) d
unfolding task_words_at TakesBody
task_takes version kind ws d e =
    let n = steps _ (word_at (may_declare version) ws) d e in
    let b = steps _ (body_at (has_third version) kind n.0.1) d n.2 in
    let s = steps _ (ends_at version b.0.0 b.0.1) d b.2 in
    let name = word_takes (may_declare version) ws n.0 n.1 in
    let body = body_takes version kind n.0.1 b.0 b.1 in
    let ends = ends_takes version b.0.0 b.0.1 s.0 s.1 in
    subst (Spells version (kind ∷ ws)) (same_Some (task n.0.0 b.0.0 s.0) d s.2) (record {
      well_formed = (name.0, body.0, ends.0);
      spelled = ap (λ k. k ∷ ws) body.1 ∙ ap (λ ws. body_word b.0.0 ∷ ws)
          (followed n.0.0 name.1 (body.2 ∙ ap (λ ws. body_words b.0.0 ++ ws) ends.1));
    })

-- what is read is spelled so
pub line_takes : (version : Version) (ws : List Word) (d : Decl) → decl_at version ws ≡ Some d
    → Spells version ws d
unfolding decl_by
line_takes version [] d e = absurd (cc)
line_takes version (kind ∷ ws) d e = at (bytes_eq kind (codes "phaser")) refl e
  where
    at : (is : Bool) → bytes_eq kind (codes "phaser") ≡ is
        → (if is then phaser_words_at (may_declare version) ws
        else task_words_at (may_declare version) version kind ws) ≡ Some d
        → Spells version (kind ∷ ws) d
    at true is found =
        rw (same kind (codes "phaser") is) (phaser_takes version ws d found)
    at false is found = task_takes version kind ws d found
