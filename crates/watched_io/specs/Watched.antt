-- What a `Watched` is to its callers: the reader or writer in it, whether a call of it failed, and
-- how many bytes its reads gave.
use Rattle.std.specs.Prelude.{◌≡◌, ℕ, ◌+◌, min, Bool}
use Rattle.watched_io.specs.declared.watched.TheConstants.{BYTES_COUNTED_MAX}
use Rattle.watched_io.specs.declared.watched.Watched.{Watched}

-- the reader or the writer itself
abbrev pub inner_of : {T : Type 0} → Watched T → T
inner_of watched = watched.inner

-- whether a call has failed since `new`
abbrev pub has_failed_of : {T : Type 0} → Watched T → Bool
has_failed_of watched = watched.has_failed

-- how many bytes the reads have given since `new`, as far as they are counted
abbrev pub count_of : {T : Type 0} → Watched T → ℕ
count_of watched = watched.count

-- n bytes more are counted, as far as a count goes
abbrev pub CountsUp : ℕ → ℕ → ℕ → Type 0
CountsUp old new n = min BYTES_COUNTED_MAX new ≡ min BYTES_COUNTED_MAX (old + n)
