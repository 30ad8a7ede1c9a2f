-- The keys of notes.
use Rattle.std.specs.Prelude.{◌≡◌, ℕ, ◌<◌, List, length, map, nat_lt, slice_index, slice_set, if◌then◌else◌}
use Rattle.pair_notes.specs.declared.index.Entry.{Entry}
use Rattle.pair_notes.specs.declared.index.Index.{Index}

-- the key under which each note was put last, also where the tree was emptied since
abbrev pub keys_of : Index → List ℕ
keys_of index = map (λ (e : Entry). e.key) index.entries.items

-- the keys once a note was put under one; the last of all numbers stands for no note
abbrev pub with_key : List ℕ → ℕ → ℕ → List ℕ
with_key keys i key = if nat_lt i 4294967295 then slice_set keys i key else keys

-- where there is a note with this number, it was put under the key
abbrev pub IsUnder : Index → ℕ → ℕ → Type 0
IsUnder index key i = i < length (keys_of index) → slice_index (keys_of index) i ≡ key
