-- Where no type has a pair, no pair is noted, and tracing reads the strong fields alone.
use Rattle.std.proofs.Common.{◌≡◌, ℕ, ◌<◌, List, [], length, set, sym, ap, ◌∙◌, subst, inl, arith}
use Rattle.std.specs.List.{Contains}
use Rattle.std.proofs.lemmas.List.{set-get_or}
use Rattle.gc_graph.specs.State.{ObjectType}
use Rattle.gc_graph.specs.declared.kind.Kind.{Kind}
use Rattle.gc_graph.specs.declared.kind.Kind.TheVariants.{Strong, Pair}
use Rattle.mark_worklist.specs.Told.{told_same}
use Rattle.type_table.specs.Types.{declared_kinds, offsets_of_kind}
use Rattle.type_table.specs.TracedWords.{traced_words_of}
use Rattle.type_table.specs.TracedLaws.{strong_told, pairs_told, all_strong}
use Rattle.marker_core.specs.declared.states.Body.{Body}
use Rattle.marker_core.specs.Hands.{traced_offsets}
use Rattle.page_words.specs.BodyPlaces.{known_type}
use Rattle.page_words.specs.Roles.{kinds_fit, traced_fit}
use Rattle.page_words.specs.Seat.{SeatView, IsView}
use Rattle.pair_notes.specs.BodyGraph.{AreReferences, HasType, HaveNoPairs}
use Rattle.pair_notes.specs.InHand.{traced_in}
use Rattle.pair_notes.specs.declared.notes.Note.{Note}
use Rattle.pair_notes.specs.Notes.{NotesState, NotesGrow, HasPairsNoted, group_at, refusals_in, no_notes}

pub nothing_noted : (types : List ObjectType) (bodies : List Body) (s : NotesState) → NotesGrow types bodies s s
nothing_noted types bodies s = record {
  kept = λ note there. there;
  pairs = λ note there. inl there;
  overflow = λ fine. fine;
  told = told_same (refusals_in s);
}

pub none_noted : (types : List ObjectType) (v w : SeatView) (place : ℕ) → AreReferences types v.bodies → HaveNoPairs types → w.bodies ≡ v.bodies
    → (is_noted : Note → Type 0) → HasPairsNoted types w place is_noted
none_noted types v w place have none same is_noted offset b k x there at told key value =
    let ty : b.ty < length types = have.typed b (subst (λ (bs : List Body). Contains bs b) same there) in
    absurd (omega (arith, subst (λ (offsets : List ℕ). told.0 < length offsets) (none b.ty ty) told.1))

pub same_groups : (groups : List NotesState) → 0 < length groups → set groups 0 (group_at groups 0) ≡ groups
same_groups groups own = set-get_or groups 0 no_notes

strong_alone : (kinds : List Kind) → offsets_of_kind Pair kinds ≡ [] → offsets_of_kind Strong kinds ≡ traced_offsets 2 kinds
strong_alone kinds none =
    strong_told kinds ∙ sym (all_strong (traced_words_of kinds) (sym (pairs_told kinds) ∙ none)) ∙ traced_fit 2 kinds

-- the strong fields of an object's type are all that the hand comes to
pub all_traced : (types : List ObjectType) (v : SeatView) (place ty : ℕ) (told : List ℕ) → IsView v → v.types ≡ types → HaveNoPairs types
    → HasType v.bodies place ty → told ≡ offsets_of_kind Strong (declared_kinds types ty) → traced_in v.types ty ≡ told
all_traced types v place ty told view known none has is =
    let low : ty < length types = omega (arith, known_type v view has.0 has.1, has.3, ap length known) in
    ap (λ ts. traced_in ts ty) known ∙ ap (traced_offsets 2) (kinds_fit types ty) ∙ sym (strong_alone (declared_kinds types ty) (none ty low)) ∙ sym is
