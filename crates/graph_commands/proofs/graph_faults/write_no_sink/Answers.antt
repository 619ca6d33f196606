use Rattle.std.proofs.Common.{◌++◌, [], map, codes}
use Rattle.std.proofs.lemmas.Result.{err_from_is_err_and, on_err_weaker, on_ok_weaker}
use Rattle.graph_show.specs.Explanations.{shown}
use Rattle.graph_commands.specs.GraphRuns.{no_sink_line}
use Rattle.graph_commands.proofs.Putting.{prefix_before}
use Rattle.graph_commands.proofs.ThreeTexts.{appends-put, prefix-put, prefix-second, prefix-third, puts-three, puts-two}
use Rattle.graph_commands.proofs.graph_faults.write_no_sink.Goals as goal

-- of the front a prefix was put
pub returns-in_err-put-clause-err : goal.returns-in_err-put-clause-err
returns-in_err-put-clause-err g c =
    let p = err_from_is_err_and c.from_residual.result c.from_residual.ensures.1 in
    rw p.1 (prefix_before _ _ [] (codes "phase: no sink ") (map shown c.args.name.now ++ codes "\n")
    (rw c.new-piece.ensures at c.in_err-put.ensures.err))

-- of the name a prefix was put
pub returns-in_err-put_shown-clause-err : goal.returns-in_err-put_shown-clause-err
returns-in_err-put_shown-clause-err g c =
    let passed_on = c.from_residual-in_err-put_shown in
    let p = err_from_is_err_and passed_on.result passed_on.ensures.1 in
    rw p.1 (prefix-second _ _ _ c.put.new.self (codes "phase: no sink ") (map shown c.args.name.now)
    (codes "\n") (rw c.new-piece.ensures at c.in_ok-put.ensures.ok)
    (rw c.as_bytes.ensures.value at c.in_err-put_shown.ensures.err))

-- the line's end is missing
pub returns-in_err-put-2-clause-err : goal.returns-in_err-put-2-clause-err
returns-in_err-put-2-clause-err g c =
    let passed_on = c.from_residual-in_err-put-2 in
    let p = err_from_is_err_and passed_on.result passed_on.ensures.1 in
    let two = puts-two _ _ _ c.put.new.self c.put_shown.new.self (codes "phase: no sink ")
    (map shown c.args.name.now) (rw c.new-piece.ensures at c.in_ok-put.ensures.ok)
    (rw c.as_bytes.ensures.value at c.in_ok-put_shown.ensures.ok) in
    rw p.1 (prefix-third _ _ _ c.put_shown.new.self (codes "phase: no sink ")
    (map shown c.args.name.now) (codes "\n") two c.in_err-put-2.ensures.err)

-- all three were put, and written
pub returns-clause-ok : goal.returns-clause-ok
returns-clause-ok g c =
    let two = puts-two _ _ _ c.put.new.self c.put_shown.new.self (codes "phase: no sink ")
    (map shown c.args.name.now) (rw c.new-piece.ensures at c.in_ok-put.ensures.ok)
    (rw c.as_bytes.ensures.value at c.in_ok-put_shown.ensures.ok) in
    let three = puts-three _ _ _ c.put_shown.new.self c.put-2.new.self (codes "phase: no sink ")
    (map shown c.args.name.now) (codes "\n") two c.in_ok-put-2.ensures.ok in
    on_ok_weaker c.hand_over.result
    (appends-put _ _ _ c.put-2.new.self (no_sink_line c.args.name.now) three) c.hand_over.ensures.ok

-- or a prefix of them was
pub returns-clause-err : goal.returns-clause-err
returns-clause-err g c =
    let two = puts-two _ _ _ c.put.new.self c.put_shown.new.self (codes "phase: no sink ")
    (map shown c.args.name.now) (rw c.new-piece.ensures at c.in_ok-put.ensures.ok)
    (rw c.as_bytes.ensures.value at c.in_ok-put_shown.ensures.ok) in
    let three = puts-three _ _ _ c.put_shown.new.self c.put-2.new.self (codes "phase: no sink ")
    (map shown c.args.name.now) (codes "\n") two c.in_ok-put-2.ensures.ok in
    on_err_weaker c.hand_over.result
    (prefix-put _ _ _ c.put-2.new.self (no_sink_line c.args.name.now) three) c.hand_over.ensures.err
