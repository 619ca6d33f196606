-- Scripts at work: their bytes, cut into lines and read, and the reply to each line, computed in the
-- definitions and compared with replies that were found by hand. The text of a number is left out: a
-- reply stands here as data.
use Rattle.std.proofs.Common.{◌≡◌, List, ℕ, [], ◌∷◌, pos, negsuc, codes, refl}
use Rattle.phase_accum.specs.declared.outcome.Outcome.TheVariants as outcome
use Rattle.phase_script.specs.declared.refusal.Refusal.TheVariants as no
use Rattle.phase_script.specs.ReplyLines.{WholeReply, Accepted, Signalled, Joined, Value, Empty, TooBig, Values, Ended, Refused, BadLine}
use Rattle.phase_script.specs.Commands.{command_of, mode_of, ends_of, clamp_after, single_of, make_of, add_of, now_of, send_of, signal_of, signal_with, ints_of, few_values, values_of, block_of, take_with, take_of, wait_of, drop_of, command_after}
use Rattle.phase_base.specs.Numbers.{nat_within, int_within}
use Rattle.phase_script.specs.Lines.{lines_of}
use Rattle.phase_replay.specs.Scripts.{ScriptState, start, reply_of_line, after_line, command_reply, after_command}

-- the replies to the lines from a state on, as data
abbrev replies_from : ScriptState → List (List ℕ) → List WholeReply
replies_from state [] = []
replies_from state (line ∷ lines) = reply_of_line state (command_of line) ∷ replies_from (after_line state line) lines

-- the replies to a script, as data
abbrev answers : List ℕ → List WholeReply
answers script = replies_from start (lines_of script)

first_run : answers (codes "make sum 2 100\nsend 0 5\nsignal 0\nwait 0\n")
    ≡ Accepted ∷ Accepted ∷ Signalled 0 ∷ Value 0 (pos 5) ∷ []
unfolding lines_of command_of mode_of ends_of clamp_after single_of make_of add_of send_of signal_of signal_with wait_of drop_of command_after nat_within int_within start after_line command_reply after_command
first_run = refl

no_lines : answers [] ≡ []
unfolding lines_of command_of mode_of ends_of clamp_after single_of make_of add_of send_of signal_of signal_with wait_of drop_of command_after nat_within int_within start after_line command_reply after_command
no_lines = refl

turns : answers (codes "make sum 2 100\nwait 0\nsignal 0\nsignal 0\nwait 0\n")
    ≡ Accepted ∷ Refused no.SignalFirst ∷ Signalled 0 ∷ Refused no.SignalTwice ∷ Value 0 (pos 0) ∷ []
unfolding lines_of command_of mode_of ends_of clamp_after single_of make_of add_of send_of signal_of signal_with wait_of drop_of command_after nat_within int_within start after_line command_reply after_command
turns = refl

sum_range : answers (codes "make sum 2 100\nsend 0 9223372036854775807\nsend 0 9223372036854775807\nsend 0 -9223372036854775807\nsignal 0\nwait 0\nsend 0 9223372036854775807\nsend 0 1\nsignal 0\nwait 0\nsend 0 -9223372036854775808\n")
    ≡ Accepted ∷ Accepted ∷ Accepted ∷ Accepted ∷ Signalled 0 ∷ Value 0 (pos 9223372036854775807)
    ∷ Accepted ∷ Accepted ∷ Signalled 1 ∷ TooBig 1 ∷ BadLine ∷ []
unfolding lines_of command_of mode_of ends_of clamp_after single_of make_of add_of send_of signal_of signal_with wait_of drop_of command_after nat_within int_within start after_line command_reply after_command
sum_range = refl

limits : answers (codes "make sum 4 2\nsignal 0\nwait 0\nsignal 0\nwait 0\nsignal 0\n")
    ≡ Accepted ∷ Signalled 0 ∷ Value 0 (pos 0) ∷ Signalled 1 ∷ Value 1 (pos 0) ∷ Refused no.Spent ∷ []
unfolding lines_of command_of mode_of ends_of clamp_after single_of make_of add_of send_of signal_of signal_with wait_of drop_of command_after nat_within int_within start after_line command_reply after_command
limits = refl

refusals : answers (codes "send 0 1\nmake sum 0 5\nmake sum 65537 5\nmake sum 1 0\nmake sum 1 4611686018427387905\nmake sum 65536 4611686018427387904\nmake sum 1 1\nsignal 5\nsend 5 1\nwait 5\n")
    ≡ Refused no.NoPhaser ∷ Refused no.BadBound ∷ Refused no.BadBound ∷ Refused no.BadPhases
    ∷ Refused no.BadPhases ∷ Accepted ∷ Refused no.Made ∷ Refused no.NoTask ∷ Refused no.NoTask
    ∷ Refused no.NoTask ∷ []
unfolding lines_of command_of mode_of ends_of clamp_after single_of make_of add_of send_of signal_of signal_with wait_of drop_of command_after nat_within int_within start after_line command_reply after_command
refusals = refl

-- a carriage return before a line feed, lines outside the grammar, a last line without its line feed
line_grammar : answers (codes "make sum 2 100\r\n wait 0\nwait  0\nwait 05\nsend 0 -0\nWait 0\n\nsend 0 -4\nsignal 0\nwait 0")
    ≡ Accepted ∷ BadLine ∷ BadLine ∷ BadLine ∷ BadLine ∷ BadLine ∷ BadLine ∷ Accepted ∷ Signalled 0
    ∷ Value 0 (negsuc 3) ∷ []
unfolding lines_of command_of mode_of ends_of clamp_after single_of make_of add_of send_of signal_of signal_with wait_of drop_of command_after nat_within int_within start after_line command_reply after_command
line_grammar = refl

sum_of_no_send : answers (codes "make sum 2 100\nsignal 0\nwait 0\n")
    ≡ Accepted ∷ Signalled 0 ∷ Value 0 (pos 0) ∷ []
unfolding lines_of command_of mode_of ends_of clamp_after single_of make_of add_of send_of signal_of signal_with wait_of drop_of command_after nat_within int_within start after_line command_reply after_command
sum_of_no_send = refl

product_of_no_send : answers (codes "make product 2 100\nsignal 0\nwait 0\n")
    ≡ Accepted ∷ Signalled 0 ∷ Value 0 (pos 1) ∷ []
unfolding lines_of command_of mode_of ends_of clamp_after single_of make_of add_of send_of signal_of signal_with wait_of drop_of command_after nat_within int_within start after_line command_reply after_command
product_of_no_send = refl

least_of_no_send : answers (codes "make least 2 100\nsignal 0\nwait 0\n")
    ≡ Accepted ∷ Signalled 0 ∷ Empty 0 ∷ []
unfolding lines_of command_of mode_of ends_of clamp_after single_of make_of add_of send_of signal_of signal_with wait_of drop_of command_after nat_within int_within start after_line command_reply after_command
least_of_no_send = refl

greatest_of_no_send : answers (codes "make greatest 2 100\nsignal 0\nwait 0\n")
    ≡ Accepted ∷ Signalled 0 ∷ Empty 0 ∷ []
unfolding lines_of command_of mode_of ends_of clamp_after single_of make_of add_of send_of signal_of signal_with wait_of drop_of command_after nat_within int_within start after_line command_reply after_command
greatest_of_no_send = refl

any_of_no_send : answers (codes "make any 2 100\nsignal 0\nwait 0\n")
    ≡ Accepted ∷ Signalled 0 ∷ Empty 0 ∷ []
unfolding lines_of command_of mode_of ends_of clamp_after single_of make_of add_of send_of signal_of signal_with wait_of drop_of command_after nat_within int_within start after_line command_reply after_command
any_of_no_send = refl

modes : answers (codes "make sum 2 100\nadd 0 1 wait\nadd 1 2 sig\nadd 0 1 sig\nadd 1 2 wait\n")
    ≡ Accepted ∷ Accepted ∷ Refused no.NotAllowed ∷ Refused no.NotNew ∷ Accepted ∷ []
unfolding lines_of command_of mode_of ends_of clamp_after single_of make_of add_of send_of signal_of signal_with wait_of drop_of command_after nat_within int_within start after_line command_reply after_command
modes = refl

members_come_and_go : answers (codes "make sum 2 100\nadd 0 1 sig\nadd 0 2 wait\ndrop 0\nsend 1 7\nsignal 1\nsignal 1\nsignal 1\nwait 2\nsignal 1\n")
    ≡ Accepted ∷ Accepted ∷ Accepted ∷ Accepted ∷ Accepted ∷ Signalled 0 ∷ Signalled 1 ∷ Refused no.Ahead ∷ Value 0 (pos 7) ∷ Signalled 2 ∷ []
unfolding lines_of command_of mode_of ends_of clamp_after single_of make_of add_of send_of signal_of signal_with wait_of drop_of command_after nat_within int_within start after_line command_reply after_command
members_come_and_go = refl

members_hold_back : answers (codes "make sum 2 100\nadd 0 1 sig\nadd 0 2 wait\nadd 0 3 wait\ndrop 0\nsignal 1\nsignal 1\nadd 1 4 sig\nwait 2\nwait 2\nwait 2\nsignal 1\nwait 3\nsend 1 5\nsignal 1\nwait 2\nsend 4 6\nsignal 4\nwait 2\nwait 3\nwait 3\n")
    ≡ Accepted ∷ Accepted ∷ Accepted ∷ Accepted ∷ Accepted ∷ Signalled 0 ∷ Signalled 1 ∷ Accepted ∷ Value 0 (pos 0) ∷ Value 1 (pos 0) ∷ Refused no.NotYet ∷ Refused no.Ahead ∷ Value 0 (pos 0) ∷ Accepted ∷ Signalled 2 ∷ Refused no.NotYet ∷ Accepted ∷ Signalled 2 ∷ Value 2 (pos 11) ∷ Value 1 (pos 0) ∷ Value 2 (pos 11) ∷ []
unfolding lines_of command_of mode_of ends_of clamp_after single_of make_of add_of send_of signal_of signal_with wait_of drop_of command_after nat_within int_within start after_line command_reply after_command
members_hold_back = refl

late_waiter : answers (codes "make sum 4 100\nadd 0 1 sig\nadd 0 2 wait\ndrop 0\nsend 1 10\nsignal 1\nsend 1 20\nsignal 1\nsend 1 30\nsignal 1\nsend 1 40\nsignal 1\nwait 2\nwait 2\nadd 2 3 wait\nwait 3\nwait 2\nwait 3\nwait 3\n")
    ≡ Accepted ∷ Accepted ∷ Accepted ∷ Accepted ∷ Accepted ∷ Signalled 0 ∷ Accepted ∷ Signalled 1 ∷ Accepted ∷ Signalled 2 ∷ Accepted ∷ Signalled 3 ∷ Value 0 (pos 10) ∷ Value 1 (pos 20) ∷ Accepted ∷ Value 2 (pos 30) ∷ Value 2 (pos 30) ∷ Value 3 (pos 40) ∷ Refused no.NotYet ∷ []
unfolding lines_of command_of mode_of ends_of clamp_after single_of make_of add_of send_of signal_of signal_with wait_of drop_of command_after nat_within int_within start after_line command_reply after_command
late_waiter = refl

last_signaller_drops : answers (codes "make sum 4 100\nadd 0 1 sig\nadd 0 2 sig\nadd 0 3 wait\ndrop 0\nsend 1 1\nsignal 1\nsend 2 10\nsignal 2\nsend 2 20\nsignal 2\nsend 2 30\nsignal 2\ndrop 2\nwait 3\nwait 3\ndrop 1\nwait 3\nwait 3\nwait 3\nwait 3\n")
    ≡ Accepted ∷ Accepted ∷ Accepted ∷ Accepted ∷ Accepted ∷ Accepted ∷ Signalled 0 ∷ Accepted ∷ Signalled 0 ∷ Accepted ∷ Signalled 1 ∷ Accepted ∷ Signalled 2 ∷ Accepted ∷ Value 0 (pos 11) ∷ Refused no.NotYet ∷ Accepted ∷ Value 1 (pos 20) ∷ Value 2 (pos 30) ∷ Ended ∷ Ended ∷ []
unfolding lines_of command_of mode_of ends_of clamp_after single_of make_of add_of send_of signal_of signal_with wait_of drop_of command_after nat_within int_within start after_line command_reply after_command
last_signaller_drops = refl

drop_gives_up_sends : answers (codes "make sum 4 100\nadd 0 1 sig\nsend 1 9\ndrop 1\nsend 0 4\nsignal 0\nwait 0\n")
    ≡ Accepted ∷ Accepted ∷ Accepted ∷ Accepted ∷ Accepted ∷ Signalled 0 ∷ Value 0 (pos 4) ∷ []
unfolding lines_of command_of mode_of ends_of clamp_after single_of make_of add_of send_of signal_of signal_with wait_of drop_of command_after nat_within int_within start after_line command_reply after_command
drop_gives_up_sends = refl

singles : answers (codes "make sum 2 100\nadd 0 1 wait\nadd 0 2 sigwait\nsend 0 5\nsignal 0 halve\nsignal 2\nsignal 2 halve\ndrop 2\nwait 0\nwait 1\n")
    ≡ Accepted ∷ Accepted ∷ Accepted ∷ Accepted ∷ Signalled 0 ∷ Refused no.SingleDiffers ∷ Refused no.NotSingle ∷ Accepted ∷ Value 0 (pos 2) ∷ Value 0 (pos 2) ∷ []
unfolding lines_of command_of mode_of ends_of clamp_after single_of make_of add_of send_of signal_of signal_with wait_of drop_of command_after nat_within int_within start after_line command_reply after_command
singles = refl

singles_in_turn : answers (codes "make least 2 100\nsignal 0 abs\nwait 0\nsend 0 -5\nsignal 0 halve\nwait 0\nsend 0 15\nsignal 0 clamp 0 10\nwait 0\nsignal 0 clamp 10 0\n")
    ≡ Accepted ∷ Signalled 0 ∷ Empty 0 ∷ Accepted ∷ Signalled 1 ∷ Value 1 (negsuc 2) ∷ Accepted ∷ Signalled 2 ∷ Value 2 (pos 10) ∷ BadLine ∷ []
unfolding lines_of command_of mode_of ends_of clamp_after single_of make_of add_of send_of signal_of signal_with wait_of drop_of command_after nat_within int_within start after_line command_reply after_command
singles_in_turn = refl

any_takes_first : answers (codes "make any 2 100\nadd 0 1 sig\nsend 0 4\nsend 1 9\nsignal 1\nsignal 0\nwait 0\n")
    ≡ Accepted ∷ Accepted ∷ Accepted ∷ Accepted ∷ Signalled 0 ∷ Signalled 0 ∷ Value 0 (pos 9) ∷ []
unfolding lines_of command_of mode_of ends_of clamp_after single_of make_of add_of send_of signal_of signal_with wait_of drop_of command_after nat_within int_within start after_line command_reply after_command
any_takes_first = refl

any_is_not_the_greatest : answers (codes "make any 2 100\nadd 0 1 sig\nsend 0 9\nsend 1 4\nsignal 1\nsignal 0\nwait 0\n")
    ≡ Accepted ∷ Accepted ∷ Accepted ∷ Accepted ∷ Signalled 0 ∷ Signalled 0 ∷ Value 0 (pos 4) ∷ []
unfolding lines_of command_of mode_of ends_of clamp_after single_of make_of add_of send_of signal_of signal_with wait_of drop_of command_after nat_within int_within start after_line command_reply after_command
any_is_not_the_greatest = refl

least_takes_least : answers (codes "make least 2 100\nadd 0 1 sig\nsend 0 4\nsend 1 9\nsignal 1\nsignal 0\nwait 0\n")
    ≡ Accepted ∷ Accepted ∷ Accepted ∷ Accepted ∷ Signalled 0 ∷ Signalled 0 ∷ Value 0 (pos 4) ∷ []
unfolding lines_of command_of mode_of ends_of clamp_after single_of make_of add_of send_of signal_of signal_with wait_of drop_of command_after nat_within int_within start after_line command_reply after_command
least_takes_least = refl

greatest_takes_greatest : answers (codes "make greatest 2 100\nadd 0 1 sig\nsend 0 9\nsend 1 4\nsignal 1\nsignal 0\nwait 0\n")
    ≡ Accepted ∷ Accepted ∷ Accepted ∷ Accepted ∷ Signalled 0 ∷ Signalled 0 ∷ Value 0 (pos 9) ∷ []
unfolding lines_of command_of mode_of ends_of clamp_after single_of make_of add_of send_of signal_of signal_with wait_of drop_of command_after nat_within int_within start after_line command_reply after_command
greatest_takes_greatest = refl

without_waiters : answers (codes "make sum 1 100\nadd 0 1 sig\nsignal 0 neg\nsignal 1\ndrop 0\nsignal 1\nsignal 1\nsignal 1\n")
    ≡ Accepted ∷ Accepted ∷ Signalled 0 ∷ Refused no.SingleDiffers ∷ Accepted ∷ Signalled 0 ∷ Signalled 1 ∷ Signalled 2 ∷ []
unfolding lines_of command_of mode_of ends_of clamp_after single_of make_of add_of send_of signal_of signal_with wait_of drop_of command_after nat_within int_within start after_line command_reply after_command
without_waiters = refl

child_between_signal_and_wait : answers (codes "make sum 2 100\nsignal 0\nadd 0 1 sigwait\nsignal 1\nwait 1\nwait 0\n")
    ≡ Accepted ∷ Signalled 0 ∷ Accepted ∷ Refused no.SignalTwice ∷ Value 0 (pos 0) ∷ Value 0 (pos 0) ∷ []
unfolding lines_of command_of mode_of ends_of clamp_after single_of make_of add_of send_of signal_of signal_with wait_of drop_of command_after nat_within int_within start after_line command_reply after_command
child_between_signal_and_wait = refl

product_range : answers (codes "make product 2 100\nsend 0 4611686018427387904\nsend 0 4\nsend 0 0\nsignal 0\nwait 0\nsend 0 4611686018427387904\nsend 0 4\nsignal 0\nwait 0\nsend 0 -7\nsend 0 1317624576693539401\nsignal 0\nwait 0\n")
    ≡ Accepted ∷ Accepted ∷ Accepted ∷ Accepted ∷ Signalled 0 ∷ Value 0 (pos 0) ∷ Accepted ∷ Accepted ∷ Signalled 1 ∷ TooBig 1 ∷ Accepted ∷ Accepted ∷ Signalled 2 ∷ Value 2 (negsuc 9223372036854775806) ∷ []
unfolding lines_of command_of mode_of ends_of clamp_after single_of make_of add_of send_of signal_of signal_with wait_of drop_of command_after nat_within int_within start after_line command_reply after_command
product_range = refl

joins_now : answers (codes "make sum 4 100\nadd 0 1 sig\nadd 0 2 wait\ndrop 0\nsend 1 10\nsignal 1\nsend 1 20\nsignal 1\nnow 2 3\nwait 3\nsignal 1\nwait 3\nwait 2\nnow 1 4\nnow 9 4\nnow 2 3\n")
    ≡ Accepted ∷ Accepted ∷ Accepted ∷ Accepted ∷ Accepted ∷ Signalled 0 ∷ Accepted ∷ Signalled 1 ∷ Joined 2 ∷ Refused no.NotYet ∷ Signalled 2 ∷ Value 2 (pos 0) ∷ Value 0 (pos 10) ∷ Refused no.NotAllowed ∷ Refused no.NoTask ∷ Refused no.NotNew ∷ []
unfolding lines_of command_of mode_of ends_of clamp_after single_of make_of add_of now_of send_of signal_of signal_with wait_of drop_of command_after nat_within int_within start after_line command_reply after_command
joins_now = refl

blocks : answers (codes "make sum 4 100\nadd 0 1 sig\nadd 0 2 wait\ndrop 0\nblock 1 5 6 7\ntake 2 2\nblock 1 8 9 10 11\nblock 1 8 9\ntake 2 5\ntake 2 4\ntake 2 1\nsend 1 3\nblock 1 4\ndrop 1\ntake 2 1\ntake 2 17\n")
    ≡ Accepted ∷ Accepted ∷ Accepted ∷ Accepted ∷ Signalled 0 ∷ Values 0 (outcome.Value (pos 5) ∷ outcome.Value (pos 6) ∷ []) ∷ Refused no.Ahead
    ∷ Signalled 3 ∷ Refused no.BadBlock ∷ Values 2 (outcome.Value (pos 7) ∷ outcome.Value (pos 8) ∷ outcome.Value (pos 9) ∷ []) ∷ Refused no.NotYet
    ∷ Accepted ∷ Refused no.Held ∷ Accepted ∷ Ended ∷ BadLine ∷ []
unfolding lines_of command_of mode_of ends_of clamp_after single_of make_of add_of now_of send_of signal_of signal_with ints_of few_values values_of block_of take_with take_of wait_of drop_of command_after nat_within int_within start after_line command_reply after_command
blocks = refl

blocks_of_none : answers (codes "make least 4 100\nadd 0 1 sig\nadd 0 2 wait\ndrop 0\nsignal 1\nblock 1 -4 9\ntake 2 4\ndrop 1\ntake 2 4\n")
    ≡ Accepted ∷ Accepted ∷ Accepted ∷ Accepted ∷ Signalled 0 ∷ Signalled 1
    ∷ Values 0 (outcome.Empty ∷ outcome.Value (negsuc 3) ∷ outcome.Value (pos 9) ∷ []) ∷ Accepted ∷ Ended ∷ []
unfolding lines_of command_of mode_of ends_of clamp_after single_of make_of add_of now_of send_of signal_of signal_with ints_of few_values values_of block_of take_with take_of wait_of drop_of command_after nat_within int_within start after_line command_reply after_command
blocks_of_none = refl

blocks_too_big : answers (codes "make sum 2 100\nadd 0 1 sig\nadd 0 2 sig\nadd 0 3 wait\ndrop 0\nblock 1 9223372036854775807 1\nblock 2 1 2\ntake 3 2\n")
    ≡ Accepted ∷ Accepted ∷ Accepted ∷ Accepted ∷ Accepted ∷ Signalled 0 ∷ Signalled 0
    ∷ Values 0 (outcome.TooBig ∷ outcome.Value (pos 3) ∷ []) ∷ []
unfolding lines_of command_of mode_of ends_of clamp_after single_of make_of add_of now_of send_of signal_of signal_with ints_of few_values values_of block_of take_with take_of wait_of drop_of command_after nat_within int_within start after_line command_reply after_command
blocks_too_big = refl

block_refusals : answers (codes "block 0 1\ntake 0 1\nmake sum 2 4\nblock 9 1 2 3\nadd 0 1 wait\nblock 1 1 2 3\nsend 0 7\nblock 0 1 2 3\nsignal 0\nblock 0 1 2 3\nblock 0 1\ntake 0 3\ntake 1 2\n")
    ≡ Refused no.NoPhaser ∷ Refused no.NoPhaser ∷ Accepted ∷ Refused no.NoTask ∷ Accepted ∷ Refused no.NoSignal ∷ Accepted ∷ Refused no.Held ∷ Signalled 0
    ∷ Refused no.BadBlock ∷ Refused no.SignalTwice ∷ Refused no.BadBlock ∷ Values 0 (outcome.Value (pos 7) ∷ []) ∷ []
unfolding lines_of command_of mode_of ends_of clamp_after single_of make_of add_of now_of send_of signal_of signal_with ints_of few_values values_of block_of take_with take_of wait_of drop_of command_after nat_within int_within start after_line command_reply after_command
block_refusals = refl
