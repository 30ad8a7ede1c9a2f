-- What the devices in memory hold, and what their calls do.
use Rattle.std.specs.Prelude.{◌≡◌, ℕ, ◌+◌, ◌==◌, min, Bool, true, false, List, length, take, drop, ◌++◌, nat_lt, Result, Ok, Err, ◌||◌}
use Rattle.std.specs.List.{list_any}
use Rattle.text_devices.specs.Causes.{risen}

-- bytes that come at most so many a call; the calls whose numbers are listed fail
pub record ListSourceState : Type 0 where
  pub left : List ℕ
  pub most : ℕ
  pub fail : List ℕ
  pub calls : ℕ
  pub faults : ℕ

-- bytes that were taken, at most so many a call; `room` bytes fit in all
pub record ListSinkState : Type 0 where
  pub written : List ℕ
  pub room : ℕ
  pub most : ℕ
  pub fail : List ℕ
  pub calls : ℕ
  pub faults : ℕ

-- whether the call after so many is listed
abbrev pub is_failing : List ℕ → ℕ → Bool
is_failing fail calls = list_any (λ number. number == risen calls) fail

-- how many bytes a read moves into a buffer
abbrev pub read_count : ListSourceState → List ℕ → ℕ
read_count source buffer = min (min (length buffer) source.most) (length source.left)

-- how many bytes of a piece a write takes, where it doesn't fail
abbrev pub write_count : ListSinkState → List ℕ → ℕ
write_count sink piece = min (length piece) sink.most

-- a write fails at a listed call, and where the bytes don't fit
abbrev pub is_refusing : ListSinkState → List ℕ → Bool
is_refusing sink piece = is_failing sink.fail sink.calls || nat_lt sink.room (length sink.written + write_count sink piece)

-- a source whose read failed
abbrev pub after_failed_read : ListSourceState → ListSourceState
after_failed_read source = record source { calls = risen source.calls; faults = risen source.faults }

-- a source that has given so many bytes
abbrev pub after_giving : ListSourceState → ℕ → ListSourceState
after_giving source count = record source { left = drop count source.left; calls = risen source.calls }

-- a sink whose write failed
abbrev pub after_failed_write : ListSinkState → ListSinkState
after_failed_write sink = record sink { calls = risen sink.calls; faults = risen sink.faults }

-- a sink that has taken these bytes
abbrev pub after_taking : ListSinkState → List ℕ → ListSinkState
after_taking sink taken = record sink { written = sink.written ++ taken; calls = risen sink.calls }

-- what a read of a list answers and leaves
abbrev pub ReadsList : {E : Type 0} → ListSourceState → ListSourceState → List ℕ → Result ℕ E → Type 0
ReadsList old new buffer (Ok count) =
    (is_failing old.fail old.calls ≡ false) × (count ≡ read_count old buffer) × (new ≡ after_giving old count)
ReadsList old new buffer (Err e) = (is_failing old.fail old.calls ≡ true) × (new ≡ after_failed_read old)

-- what a write to a list answers and leaves
abbrev pub WritesList : {E : Type 0} → ListSinkState → ListSinkState → List ℕ → Result ℕ E → Type 0
WritesList old new piece (Ok count) =
    (is_refusing old piece ≡ false) × (count ≡ write_count old piece) × (new ≡ after_taking old (take count piece))
WritesList old new piece (Err e) = (is_refusing old piece ≡ true) × (new ≡ after_failed_write old)
