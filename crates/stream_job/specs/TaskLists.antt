-- Lists of tasks in memory.
use Rattle.std.specs.Prelude.{◌≡◌, ℕ, ◌<◌, ◌≤◌, ◌==◌, Bool, false, List, get_or, length, eqb}
use Rattle.std.specs.List.{list_any, All, IsDistinct}
use Rattle.graph_base.specs.declared.limits.TheConstants.{TASKS_MAX}
use Rattle.smallvec.specs.SmallVec.{SmallVec}

-- each task of a graph has room in the list, and stands there once, where its mark says so
pub record IsTaskList (list : SmallVec ℕ) (stands : List Bool) : Type 0 where
  pub room : TASKS_MAX ≤ list.capacity
  pub distinct : IsDistinct eqb list.items
  pub below : All (λ t. t < TASKS_MAX) list.items
  pub many : length stands ≡ TASKS_MAX
  pub marked : (t : ℕ) → get_or stands t false ≡ list_any (λ u. u == t) list.items
