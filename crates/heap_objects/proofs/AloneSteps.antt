-- Marking is under way after a step that the owner did while no marker ran.
use Rattle.std.proofs.Common.{◌≡◌, ℕ, ◌+◌, ◌<◌, List, [], ◌∷◌, length, set, drop, get_or, refl, ap, ap₂, ◌∙◌, inl, inr, arith}
use mathlib.Core.Logic.{◌⊎◌}
use Rattle.std.specs.List.{Contains, sum_by}
use Rattle.std.proofs.lemmas.List.{get_or_default, get_or-set_same}
use Rattle.gc_graph.specs.State.{ObjectType}
use Rattle.gc_graph.specs.declared.kind.Kind.TheVariants.{Pair}
use Rattle.type_table.specs.Types.{declared_kinds}
use Rattle.mark_worklist.specs.Refusals.{TellsRefused, refusals_of}
use Rattle.mark_worklist.specs.declared.marking.Marking.{Marking}
use Rattle.marker_core.specs.declared.states.Body.{Body}
use Rattle.page_words.specs.Seat.{SeatView}
use Rattle.mark_worklist.specs.Shares.{ShareState}
use Rattle.marker_crew.specs.Note.{Note}
use Rattle.marker_crew.specs.BodyGraph.{BodyHasPair}
use Rattle.marker_crew.specs.Fields.{field_at_offset}
use Rattle.atomic_pause.specs.Fixpoint.{Mode, mode_of}
use Rattle.marker_crew.specs.Marking.{MarksOn, traced_count}
use Rattle.marker_crew.specs.Notes.{NotesState, no_notes, group_at, refusals_in}
use Rattle.atomic_pause.specs.UnderWay.{IsOfTraced, IsUnderWay}
use Rattle.marker_crew.specs.Crews.{Marker}
use Rattle.heap_objects.specs.declared.marking.Grey.{Grey}
use Rattle.heap_objects.specs.Crews.{IsStepped}
use Rattle.heap_objects.specs.Marking.{GreyView, grey_of}
use Rattle.heap_objects.specs.Marks.{CrewIsLent}
use Rattle.heap_objects.proofs.ToldSums.{told_shifted, told_behind}

-- ---- the owner's notes

pub own_is : (groups : List NotesState) (x : NotesState) → 0 < length groups → get_or groups 0 x ≡ group_at groups 0
own_is groups x some = get_or_default groups 0 x no_notes some

others_set : (groups : List NotesState) (x : NotesState) → drop 1 (set groups 0 x) ≡ drop 1 groups
others_set [] x = refl
others_set (y ∷ groups) x = refl

-- what is kept once the marking state and the owner's notes have changed
pub grey_stepped : (grey : Grey) (m : Marking) (x : NotesState) → 0 < length grey.crew.notes
    → grey_of (record grey { marking = m; crew = record grey.crew { notes = set grey.crew.notes 0 x } }) ≡ record (grey_of grey) { marking = m; notes = x }
grey_stepped grey m x some =
    ap₂ (λ (n : NotesState) (others : List NotesState). record (grey_of grey) { marking = m; notes = n; others = others })
    (get_or-set_same grey.crew.notes 0 x no_notes some) (others_set grey.crew.notes x)

-- ---- the step

-- the offset of a pair is none of the header's
pair_behind : (types : List ObjectType) (bodies : List Body) (p offset : ℕ) → BodyHasPair types bodies p offset → offset ≡ 0 → ⊥
pair_behind types bodies p offset (b, there, at, pair) none = (let field = field_at_offset Pair (declared_kinds types b.ty) offset pair in omega (arith, field.2, none))

empty_of : (shares : List ShareState) → length shares ≡ 0 → shares ≡ []
empty_of [] none = refl
empty_of (s ∷ shares) none = absurd (omega (arith, none))

pub has_stepped_alone : (types : List ObjectType) (v w : SeatView) (g : GreyView) (m : Marking) (x : NotesState) (n : ℕ) → g.running ≡ [] → CrewIsLent v g → IsUnderWay w m x
    → MarksOn v w → mode_of m ≡ mode_of g.marking
    → ((note : Note) → Contains x.notes note → Contains g.notes.notes note ⊎ IsOfTraced types w note)
    → traced_count w ≡ traced_count v + n → TellsRefused (refusals_of g.marking) (refusals_of m) → TellsRefused (refusals_in g.notes) (refusals_in x)
    → IsStepped v g w (record g { marking = m; notes = x }) n
has_stepped_alone types v w g m x n calm crew way kept mode noted counted pushes notes =
    let home = crew.home calm in
    record {
      same = record { heap = kept.heap; types = kept.types; on = kept.on; bodies = kept.bodies; filled = kept.filled; dead = kept.dead; may = kept.may };
      way = way;
      crew = record {
        lent = kept.lent ∙ crew.lent;
        home = λ none. record {
          whole = ap (λ (o : Mode). o.whole) mode ∙ home.whole;
          unshared = λ no_markers. empty_of m.list.shares (ap (λ (o : Mode). o.shares) mode ∙ ap length (home.unshared no_markers));
          paired = λ note there itself. elim (noted note there) [
            | inl before ↦ home.paired note before itself
            | inr pair ↦ pair_behind types w.bodies note.holder note.word pair.0 itself
          ];
          others = home.others;
          many = home.many;
        };
        out = λ some. absurd (omega (arith, some, ap length calm));
      };
      counted = counted;
      pushes = told_shifted g.earlier (refusals_of g.marking) (refusals_of m) pushes;
      notes = told_behind (sum_by (λ (y : NotesState). y.refused) g.others + sum_by (λ (b : Marker). b.notes.refused) g.running) (refusals_in g.notes) (refusals_in x) notes;
      found = λ some. absurd (omega (arith, some, ap length calm));
      took = λ some. absurd (omega (arith, some, ap length calm));
      rest = refl;
    }
