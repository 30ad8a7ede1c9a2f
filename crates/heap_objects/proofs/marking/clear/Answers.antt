use Rattle.std.proofs.Common.{◌≡◌, ℕ, ◌+◌, ◌<◌, false, List, [], ◌∷◌, length, map, drop, refl, sym, subst, arith}
use Rattle.std.specs.List.{All}
use Rattle.std.proofs.lemmas.List.{length-map}
use Rattle.std.proofs.lemmas.List.Elements.{All-cons}
use Rattle.marker_crew.specs.Notes.{NotesState, notes_cleared, group_at}
use Rattle.mark_worklist.specs.declared.marking.Marking.{Marking}
use Rattle.marker_crew.specs.Crews.{CrewState}
use Rattle.heap_objects.specs.declared.marking.Grey.{Grey}
use Rattle.heap_objects.specs.Marking.{IsClear, IsCleared, grey_of}
use Rattle.heap_objects.proofs.marking.clear.Goals as goal

all_cleared : (groups : List NotesState) → All IsCleared (map notes_cleared groups)
all_cleared [] = λ k d low. absurd (omega (arith, low))
all_cleared (x ∷ groups) = All-cons IsCleared (notes_cleared x) (map notes_cleared groups) (record { none_noted = refl; unrefused = refl }) (all_cleared groups)

first_cleared : (groups : List NotesState) → 0 < length groups → IsCleared (group_at (map notes_cleared groups) 0)
first_cleared [] some = absurd (omega (arith, some))
first_cleared (x ∷ groups) some = record { none_noted = refl; unrefused = refl }

others_cleared : (groups : List NotesState) → All IsCleared (drop 1 (map notes_cleared groups))
others_cleared [] = all_cleared []
others_cleared (x ∷ groups) = all_cleared groups

others_many : (groups : List NotesState) (markers : ℕ) → length groups ≡ markers + 1 → length (drop 1 (map notes_cleared groups)) ≡ markers
others_many [] markers many = absurd (omega (arith, many))
others_many (x ∷ groups) markers many = omega (arith, many, length-map groups notes_cleared)

pub returns-clause-clear : goal.returns-clause-clear
returns-clause-clear c =
    let grey : Grey = c.args.grey.now in
    let m : Marking = record grey.marking { overflow = false } in
    subst (λ (x : CrewState). IsClear (grey_of (record grey { marking = m; crew = x }))) (sym c.clear_notes.ensures) (record {
      off = c.requires.off;
      unrefused = refl;
      none_listed = c.requires.list;
      whole = c.requires.whole;
      unshared = c.requires.unshared;
      own = first_cleared grey.crew.notes (omega (arith, c.requires.groups));
      others = others_cleared grey.crew.notes;
      many = others_many grey.crew.notes grey.crew.markers c.requires.groups;
      none_running = c.requires.home;
    })
