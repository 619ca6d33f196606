-- At the parent's moment, with what it says of the child.
use Rattle.graph_runs.specs.Turned.{after_register, after_register_now}
use Rattle.graph_runs.specs.TaskPlaces.{registration_at}
use Rattle.std.proofs.Common.{length, [], refl}
use Rattle.graph_runs.proofs.ChildMoments.{with_child, child_is_new, both_see, child_is_added, child_is_added_now, has_registration}
use Rattle.graph_runs.proofs.PartsLemmas.{with_history}
use Rattle.graph_runs.proofs.beginnings.children_begin.Goals as goal

pub returns-clause-begins : goal.returns-clause-begins
returns-clause-begins c = λ job m t d u is there there_d part parent of_t none.
    (with_child d m, child_is_new job m t d u is there there_d part parent of_t none)

pub returns-clause-waits : goal.returns-clause-waits
returns-clause-waits c =
    λ job m t d p n u numbers now is there there_d part joining parent of_t absent sees. (
      with_history p now m,
      both_see job m t d p n u numbers now is there there_d part joining parent of_t absent sees,
    )

pub returns-clause-registers : goal.returns-clause-registers
returns-clause-registers c =
    λ job m t d n a u at most numbers before is there there_d part stands owed begun parent of_t
    child_offset own_offset joining room sees. (
      after_register (registration_at job d (length numbers)).phaser n d a
          (registration_at job d (length numbers)).mode
          (with_history (registration_at job d (length numbers)).phaser before m),
      child_is_added job m t d n a u at most numbers before is there there_d part stands owed begun
          parent of_t joining room
          (record { numbered = sees.numbered; others = sees.others; legal = sees.legal.0 })
          child_offset own_offset sees.legal.1,
    )

pub returns-clause-registers_now : goal.returns-clause-registers_now
returns-clause-registers_now c =
    λ job m t d n a u at most before is there there_d part stands owed begun parent of_t joins
    own_offset joining sees. (
      after_register_now (registration_at job d 0).phaser n d a
          (with_history (registration_at job d 0).phaser before m),
      child_is_added_now job m t d n a u at most [] before is there there_d part stands owed begun
          parent of_t joining (has_registration job d is there_d joins)
          (record { numbered = sees.numbered; others = sees.others; legal = sees.legal.0 })
          joins refl sees.legal.1,
    )
