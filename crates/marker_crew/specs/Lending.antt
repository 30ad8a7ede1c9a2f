-- What a crew ends as, where its notes were lent.
use Rattle.std.specs.Prelude.{List, length, slice_set}
use Rattle.std.specs.List.{refill}
use Rattle.std.specs.Borrow.{Array, Fml, Lends, MutBor}
use Rattle.pair_notes.specs.Notes.{NotesState}
use Rattle.pair_notes.specs.contracts.notes.Pairs.{the_row as notes_row}
use Rattle.marker_crew.specs.contracts.crew.Crew.{the_row}
use Rattle.marker_crew.specs.Crews.{CrewState}

-- the owner's notes are those that r shows last
abbrev pub LendsOwnNotes : MutBor CrewState → MutBor NotesState → Fml
LendsOwnNotes c r = Lends the_row notes_row c r (λ n. record c.now { notes = slice_set c.now.notes 0 n })

-- the notes are those that r shows last, which are as many
abbrev pub LendsNotes : MutBor CrewState → MutBor (List NotesState) → Fml
LendsNotes c r = Lends the_row (Array notes_row 0) c r (λ all. record c.now { notes = refill (length c.now.notes) c.now.notes all })
