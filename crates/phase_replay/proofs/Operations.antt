-- A phaser under one of the operations, through a command.
use Rattle.std.proofs.Common.{◌≡◌, ℤ, List, Option, Result, Ok, Err, refl, sym, ap, subst, ◌∙◌}
use Rattle.std.specs.Prelude.{IfOk, OnOk, OnErr}
use Rattle.phase_base.specs.Limits.{Limits}
use Rattle.phase_accum.specs.declared.outcome.Outcome.{Outcome}
use Rattle.phase_accum.specs.Operations.{Operation}
use Rattle.phase_accum.specs.Sums.{sum_operation}
use Rattle.phase_accum.specs.Products.{product_operation}
use Rattle.phase_accum.specs.Leasts.{least_operation}
use Rattle.phase_accum.specs.Greatests.{greatest_operation}
use Rattle.phase_accum.specs.Anys.{any_operation}
use Rattle.phase_history.specs.Histories.{History}
use Rattle.phase_script.specs.Commands.{WholeCommand}
use Rattle.phase_base.specs.declared.operation.Op.{Op}
use Rattle.phase_base.specs.declared.operation.Op.TheVariants.{Sum, Product, Least, Greatest, Any}
use Rattle.phase_script.specs.declared.reply.Reply.{Reply}
use Rattle.phase_script.specs.ReplyLines.{WholeReply, whole_reply}
use Rattle.phase_replay.specs.declared.script_phaser.ScriptPhaser.{ScriptPhaser}
use Rattle.phase_replay.specs.declared.any_phaser.AnyPhaser.{AnyPhaser}
use Rattle.phase_replay.specs.declared.any_phaser.AnyPhaser.TheVariants as phaser
use Rattle.phase_accum.specs.Values.{value_by}
use Rattle.phase_replay.specs.Scripts.{Held, phaser_reply, history_after, held_after, IsOkReply}
use Rattle.phase_replay.specs.Session.{ScriptPhaserStandsFor, AnyStandsFor}
use Rattle.phase_replay.proofs.Obeying.{RepliesTo, StandsAfter, IsOkAfter}

-- a phaser stands under an operation just where this one stands under the operation
pub record IsUnder {A : Type 0} (whole : AnyPhaser) (op : Operation A) (p : ScriptPhaser A) (v : Op) : Type 0 where
  pub values : op.value ≡ value_by v
  pub down : (operation : Op) (limits : Limits) (h : History) (held : Held)
      → AnyStandsFor whole operation limits h held → (v ≡ operation) × ScriptPhaserStandsFor op p limits h held
  pub up : (limits : Limits) (h : History) (held : Held)
      → ScriptPhaserStandsFor op p limits h held → AnyStandsFor whole v limits h held

-- ---- what follows for a command

if_ok : {A E : Type 0} (P Q : A → Type 0) (r : Result A E) → ((x : A) → P x → Q x) → IfOk r P → IfOk r Q
if_ok P Q (Ok x) f p = f x p
if_ok P Q (Err e) f p = tt

on_ok : {A E : Type 0} (P Q : Type 0) (r : Result A E) → (P → Q) → OnOk r P → OnOk r Q
on_ok P Q (Ok x) f p = f p
on_ok P Q (Err e) f p = tt

on_err : {A E : Type 0} (P Q : Type 0) (r : Result A E) → (P → Q) → OnErr r P → OnErr r Q
on_err P Q (Ok x) f p = tt
on_err P Q (Err e) f p = f p

abbrev pub AnyReplies : AnyPhaser → WholeCommand → WholeReply → Type 0
AnyReplies whole command reply = (operation : Op) (limits : Limits) (h : History) (held : Held)
    → AnyStandsFor whole operation limits h held → reply ≡ phaser_reply (value_by operation) limits h held command

abbrev pub AnyStandsAfter : AnyPhaser → AnyPhaser → WholeCommand → Type 0
AnyStandsAfter old new command = (operation : Op) (limits : Limits) (h : History) (held : Held)
    → AnyStandsFor old operation limits h held
    → AnyStandsFor new operation limits (history_after (value_by operation) limits h held command) (held_after limits h held command)

abbrev pub AnyIsOkAfter : AnyPhaser → WholeCommand → Type 0
AnyIsOkAfter whole command = (operation : Op) (limits : Limits) (h : History) (held : Held)
    → AnyStandsFor whole operation limits h held → IsOkReply (phaser_reply (value_by operation) limits h held command)

-- the value under the operation is the one of the operation
same_value : {A : Type 0} (whole : AnyPhaser) (op : Operation A) (p : ScriptPhaser A) (v operation : Op)
    → IsUnder whole op p v → v ≡ operation → op.value ≡ value_by operation
same_value whole op p v operation u is = u.values ∙ ap value_by is

pub replies_under : {A E : Type 0} (old : AnyPhaser) (op : Operation A) (p : ScriptPhaser A) (v : Op) (r : Result Reply E) (outcomes : List Outcome) (command : WholeCommand)
    → IsUnder old op p v → IfOk r (λ reply. RepliesTo op p command (whole_reply outcomes reply))
    → IfOk r (λ reply. AnyReplies old command (whole_reply outcomes reply))
replies_under old op p v r outcomes command u =
    if_ok (λ reply. RepliesTo op p command (whole_reply outcomes reply)) (λ reply. AnyReplies old command (whole_reply outcomes reply)) r (λ reply replies operation limits h held stands.
    let d = u.down operation limits h held stands in
    replies limits h held d.1
    ∙ ap (λ (value : List ℤ → Outcome). phaser_reply value limits h held command) (same_value old op p v operation u d.0))

pub stands_under : {A E : Type 0} (old new : AnyPhaser) (op : Operation A) (p q : ScriptPhaser A) (v : Op) (r : Result Reply E) (command : WholeCommand)
    → IsUnder old op p v → IsUnder new op q v → OnOk r (StandsAfter op p q command) → OnOk r (AnyStandsAfter old new command)
stands_under old new op p q v r command u w =
    on_ok (StandsAfter op p q command) (AnyStandsAfter old new command) r (λ after operation limits h held stands.
    let d = u.down operation limits h held stands in
    let V : (List ℤ → Outcome) → Type 0 = λ value. ScriptPhaserStandsFor op q limits (history_after value limits h held command) (held_after limits h held command) in
    rw d.0 at (w.up limits _ _ (subst V (same_value old op p v operation u d.0) (after limits h held d.1))))

pub ok_under : {A E : Type 0} (old : AnyPhaser) (op : Operation A) (p : ScriptPhaser A) (v : Op) (r : Result Reply E) (command : WholeCommand)
    → IsUnder old op p v → OnErr r (IsOkAfter op p command) → OnErr r (AnyIsOkAfter old command)
ok_under old op p v r command u =
    on_err (IsOkAfter op p command) (AnyIsOkAfter old command) r (λ ok operation limits h held stands.
    let d = u.down operation limits h held stands in
    let V : (List ℤ → Outcome) → Type 0 = λ value. IsOkReply (phaser_reply value limits h held command) in
    subst V (same_value old op p v operation u d.0) (ok limits h held d.1))

-- ---- the five operations

sum_down : (p : ScriptPhaser ℤ) (operation : Op) (limits : Limits) (h : History) (held : Held)
    → AnyStandsFor (phaser.Sum p) operation limits h held → (Sum ≡ operation) × ScriptPhaserStandsFor sum_operation p limits h held
unfolding AnyStandsFor
sum_down p Sum limits h held stands = (refl, stands)
sum_down p Product limits h held stands = absurd stands
sum_down p Least limits h held stands = absurd stands
sum_down p Greatest limits h held stands = absurd stands
sum_down p Any limits h held stands = absurd stands

sum_up : (p : ScriptPhaser ℤ) (limits : Limits) (h : History) (held : Held)
    → ScriptPhaserStandsFor sum_operation p limits h held → AnyStandsFor (phaser.Sum p) Sum limits h held
unfolding AnyStandsFor
sum_up p limits h held stands = stands

pub under_sum : (whole : AnyPhaser) (p : ScriptPhaser ℤ) → whole ≡ phaser.Sum p → IsUnder whole sum_operation p Sum
under_sum whole p is =
    rw is (record { values = refl; down = sum_down p; up = sum_up p })

product_down : (p : ScriptPhaser ℤ) (operation : Op) (limits : Limits) (h : History) (held : Held)
    → AnyStandsFor (phaser.Product p) operation limits h held → (Product ≡ operation) × ScriptPhaserStandsFor product_operation p limits h held
unfolding AnyStandsFor
product_down p Sum limits h held stands = absurd stands
product_down p Product limits h held stands = (refl, stands)
product_down p Least limits h held stands = absurd stands
product_down p Greatest limits h held stands = absurd stands
product_down p Any limits h held stands = absurd stands

product_up : (p : ScriptPhaser ℤ) (limits : Limits) (h : History) (held : Held)
    → ScriptPhaserStandsFor product_operation p limits h held → AnyStandsFor (phaser.Product p) Product limits h held
unfolding AnyStandsFor
product_up p limits h held stands = stands

pub under_product : (whole : AnyPhaser) (p : ScriptPhaser ℤ) → whole ≡ phaser.Product p → IsUnder whole product_operation p Product
under_product whole p is =
    rw is (record { values = refl; down = product_down p; up = product_up p })

least_down : (p : ScriptPhaser (Option ℤ)) (operation : Op) (limits : Limits) (h : History) (held : Held)
    → AnyStandsFor (phaser.Least p) operation limits h held → (Least ≡ operation) × ScriptPhaserStandsFor least_operation p limits h held
unfolding AnyStandsFor
least_down p Sum limits h held stands = absurd stands
least_down p Product limits h held stands = absurd stands
least_down p Least limits h held stands = (refl, stands)
least_down p Greatest limits h held stands = absurd stands
least_down p Any limits h held stands = absurd stands

least_up : (p : ScriptPhaser (Option ℤ)) (limits : Limits) (h : History) (held : Held)
    → ScriptPhaserStandsFor least_operation p limits h held → AnyStandsFor (phaser.Least p) Least limits h held
unfolding AnyStandsFor
least_up p limits h held stands = stands

pub under_least : (whole : AnyPhaser) (p : ScriptPhaser (Option ℤ)) → whole ≡ phaser.Least p → IsUnder whole least_operation p Least
under_least whole p is =
    rw is (record { values = refl; down = least_down p; up = least_up p })

greatest_down : (p : ScriptPhaser (Option ℤ)) (operation : Op) (limits : Limits) (h : History) (held : Held)
    → AnyStandsFor (phaser.Greatest p) operation limits h held → (Greatest ≡ operation) × ScriptPhaserStandsFor greatest_operation p limits h held
unfolding AnyStandsFor
greatest_down p Sum limits h held stands = absurd stands
greatest_down p Product limits h held stands = absurd stands
greatest_down p Least limits h held stands = absurd stands
greatest_down p Greatest limits h held stands = (refl, stands)
greatest_down p Any limits h held stands = absurd stands

greatest_up : (p : ScriptPhaser (Option ℤ)) (limits : Limits) (h : History) (held : Held)
    → ScriptPhaserStandsFor greatest_operation p limits h held → AnyStandsFor (phaser.Greatest p) Greatest limits h held
unfolding AnyStandsFor
greatest_up p limits h held stands = stands

pub under_greatest : (whole : AnyPhaser) (p : ScriptPhaser (Option ℤ)) → whole ≡ phaser.Greatest p → IsUnder whole greatest_operation p Greatest
under_greatest whole p is =
    rw is (record { values = refl; down = greatest_down p; up = greatest_up p })

any_down : (p : ScriptPhaser (Option ℤ)) (operation : Op) (limits : Limits) (h : History) (held : Held)
    → AnyStandsFor (phaser.Any p) operation limits h held → (Any ≡ operation) × ScriptPhaserStandsFor any_operation p limits h held
unfolding AnyStandsFor
any_down p Sum limits h held stands = absurd stands
any_down p Product limits h held stands = absurd stands
any_down p Least limits h held stands = absurd stands
any_down p Greatest limits h held stands = absurd stands
any_down p Any limits h held stands = (refl, stands)

any_up : (p : ScriptPhaser (Option ℤ)) (limits : Limits) (h : History) (held : Held)
    → ScriptPhaserStandsFor any_operation p limits h held → AnyStandsFor (phaser.Any p) Any limits h held
unfolding AnyStandsFor
any_up p limits h held stands = stands

pub under_any : (whole : AnyPhaser) (p : ScriptPhaser (Option ℤ)) → whole ≡ phaser.Any p → IsUnder whole any_operation p Any
under_any whole p is =
    rw is (record { values = refl; down = any_down p; up = any_up p })
