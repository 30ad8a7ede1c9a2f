-- The groups of notes, of which the first one grew.
use Rattle.std.proofs.Common.{◌≡◌, ℕ, zero, suc, ◌<◌, false, List, [], ◌∷◌, length, refl, inl, inr, arith}
use Rattle.std.specs.Prelude.{slice_set}
use mathlib.Core.Logic.{◌⊎◌}
use Rattle.gc_graph.specs.State.{ObjectType}
use Rattle.marker_core.specs.declared.states.Body.{Body}
use Rattle.pair_notes.specs.declared.notes.Note.{Note}
use Rattle.pair_notes.specs.BodyGraph.{BodyHasPair}
use Rattle.mark_worklist.specs.Refusals.{TellsRefused}
use Rattle.mark_worklist.specs.Told.{told_same}
use Rattle.pair_notes.specs.Notes.{NotesState, NotesGrow, group_at, refusals_in, IsNotedIn}

-- what the groups hold after it
pub record GroupsGrow (types : List ObjectType) (bodies : List Body) (old new : List NotesState) (first : NotesState) : Type 0 where
  pub many : length new ≡ length old
  pub own : group_at new 0 ≡ first
  pub kept : (note : Note) → IsNotedIn old note → IsNotedIn new note
  pub pairs : (note : Note) → IsNotedIn new note → IsNotedIn old note ⊎ BodyHasPair types bodies note.holder note.word
  pub overflow : ((i : ℕ) → i < length new → (group_at new i).overflow ≡ false) → (i : ℕ) → i < length old → (group_at old i).overflow ≡ false
  pub told : (i : ℕ) → TellsRefused (refusals_in (group_at old i)) (refusals_in (group_at new i))

pub first_grows : (types : List ObjectType) (bodies : List Body) (groups : List NotesState) (g : NotesState) → 0 < length groups
    → NotesGrow types bodies (group_at groups 0) g → GroupsGrow types bodies groups (slice_set groups 0 g) g
first_grows types bodies [] g own grow = absurd (omega (arith, own))
first_grows types bodies (f ∷ groups) g own grow = record {
  many = refl;
  own = refl;
  kept = kept;
  pairs = pairs;
  overflow = overflow;
  told = told;
} where
  kept : (note : Note) → IsNotedIn (f ∷ groups) note → IsNotedIn (g ∷ groups) note
  kept note (zero, low, there) = (zero, low, grow.kept note there)
  kept note (suc i, low, there) = (suc i, low, there)

  pairs : (note : Note) → IsNotedIn (g ∷ groups) note → IsNotedIn (f ∷ groups) note ⊎ BodyHasPair types bodies note.holder note.word
  pairs note (zero, low, there) = elim (grow.pairs note there) [ inl before ↦ inl (zero, low, before) | inr pair ↦ inr pair ]
  pairs note (suc i, low, there) = inl (suc i, low, there)

  overflow : ((i : ℕ) → i < length (g ∷ groups) → (group_at (g ∷ groups) i).overflow ≡ false) → (i : ℕ) → i < length (f ∷ groups)
      → (group_at (f ∷ groups) i).overflow ≡ false
  overflow fine zero low = grow.overflow (fine zero low)
  overflow fine (suc i) low = fine (suc i) low

  told : (i : ℕ) → TellsRefused (refusals_in (group_at (f ∷ groups) i)) (refusals_in (group_at (g ∷ groups) i))
  told zero = grow.told
  told (suc i) = told_same (refusals_in (group_at groups i))
