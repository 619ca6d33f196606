use Rattle.std.proofs.Common.{◌≡◌, ◌+◌, ◌++◌, ◌∷◌, [], ◌∙◌, true, false, take, get_or, ap, sym, arith, rules}
use Rattle.std.proofs.lemmas.List.{take_more}
use Rattle.graph_commands.specs.Folders.{folder_of, is_slash}
use Rattle.graph_commands.proofs.Slashes.{folder-other, folder-slash}
use Rattle.graph_commands.proofs.folders.folder_len.Goals as goal
use Rattle.graph_commands.proofs.folders.folder_len.Goals.{else-file-i-eq47, then-file-i-eq47}

-- one more byte, which is a slash or another
pub loop-i-preserved : goal.loop-i-preserved
loop-i-preserved c =
    let file = c.args.file.now in
    let i = c.loop-i.i in
    let b = get_or file i 0 in
    let grown : take (i + 1) file ≡ take i file ++ b ∷ [] = take_more file i 0 c.loop-i-test.true in
    elim c.if-file-i-eq47.branch [
      | then-file-i-eq47 w ↦
          let is : is_slash b ≡ true = search rules in
          let folder : folder_of (take (i + 1) file) ≡ take (i + 1) file =
          ap folder_of grown ∙ (folder-slash (take i file) b is ∙ sym grown) in
          (omega (arith, w.end-is), ap (λ n. take n file) w.end-is ∙ sym folder)
      | else-file-i-eq47 w ↦
          let other : is_slash b ≡ false = search rules in
          let folder : folder_of (take (i + 1) file) ≡ folder_of (take i file) =
          ap folder_of grown ∙ folder-other (take i file) b other in (
            omega (arith, w.end-is, c.loop-i.invariant.0),
            ap (λ n. take n file) w.end-is ∙ (c.loop-i.invariant.1 ∙ sym folder),
          )
    ]
