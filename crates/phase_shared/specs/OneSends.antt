-- The rule of the example: every signal has exactly one send.
use Rattle.std.specs.Prelude.{◌≡◌, ℤ, List, [], ◌∷◌, length}
use Rattle.phase_shared.specs.declared.one_send.OneSend.{OneSend}
use Rattle.phase_shared.specs.Rule.{Allows}

-- one phase is signalled, with one send
pub record HasOneSend (lists : List (List ℤ)) : Type 0 where
  pub sends : List ℤ
  pub one_phase : lists ≡ sends ∷ []
  pub one_send : length sends ≡ 1

-- the signals of one send are allowed, after any history
abbrev pub allows_one_send : OneSend → Allows
allows_one_send rule h task lists single = HasOneSend lists
