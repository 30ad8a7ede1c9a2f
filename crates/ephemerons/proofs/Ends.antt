-- How marking comes to its end.
use Rattle.std.proofs.Common.{◌≡◌, ℕ, ◌+◌, ◌-◌, ◌<◌, ◌^◌, true, List, [], length, get_or, Some, None, refl, ap, inl, inr, arith, not}
use Rattle.std.specs.List.{Contains, range_with_len}
use Rattle.std.proofs.lemmas.Bool.{cases_Bool}
use Rattle.std.proofs.lemmas.List.FromFn.{length-range_with_len}
use Rattle.std.proofs.lemmas.List.Sums.{count_by-le-length}
use Rattle.gc_graph.specs.State.{ObjectType}
use Rattle.gc_graph.specs.declared.kind.Kind.TheVariants.{Strong, Pair}
use Rattle.marker_core.specs.Bodies.{IsPlace, holds}
use Rattle.marker_core.specs.declared.states.Body.{Body}
use Rattle.page_words.specs.Seat.{SeatView, IsView}
use Rattle.pair_notes.specs.declared.notes.Note.{Note}
use Rattle.pair_notes.specs.BodyGraph.{pair_offsets, word_at}
use Rattle.pair_notes.specs.Marking.{IsOver, TracedNameMarked}
use Rattle.pair_notes.specs.Notes.{NotesState, IsNotedIn, note_of}
use Rattle.ephemerons.specs.Fixpoint.{IsAccounted, NoteIsSettled, IsSettledAt, untraced_places}
use Rattle.pair_notes.specs.BodyLeads.{offset_told, named_word, value_word}

-- few enough to count
pub few_untraced : (v : SeatView) → IsView v → untraced_places v < 2 ^ 32
few_untraced v view =
    omega (arith, count_by-le-length (λ p. not (holds v.traced p)) (range_with_len 0 v.count), length-range_with_len 0 v.count, view.count)

module _ (types : List ObjectType) (v : SeatView) (view : IsView v) (named : TracedNameMarked types v)
    (no_grey : (p : ℕ) → holds v.marked p ≡ true → holds v.traced p ≡ true) where
  -- a marked value of each pair with a marked key closes the marked set
  closes : ((p : ℕ) → (b : Body) (offset k w : ℕ) → Contains v.bodies b → b.place ≡ p → Contains (pair_offsets types b) offset → word_at b offset ≡ k + 1
      → word_at b (offset + 1) ≡ w + 1 → holds v.marked p ≡ true → holds v.marked k ≡ true → holds v.marked w ≡ true) → IsOver types v
  closes pairs = record {
    no_grey = no_grey;
    closed = record {
      strong = λ b i there marked role some.
          named b.place (no_grey b.place marked) b (i + 2) (get_or b.fields i 0 - 1) there refl (offset_told types b i Strong refl role)
          (named_word b i some);
      pairs = λ b i there marked role key key_marked value.
          pairs b.place b (i + 2) (get_or b.fields i 0 - 1) (get_or b.fields (i + 1) 0 - 1) there refl (offset_told types b i Pair refl role)
          (named_word b i key) (value_word b i value) marked key_marked;
    };
  }

pub over_walked : (types : List ObjectType) (v : SeatView) → IsView v → TracedNameMarked types v
    → ((p : ℕ) → IsPlace v.bodies p → IsSettledAt types v p) → IsOver types v
over_walked types v view named settled =
    closes types v view named (λ p marked. (settled p (view.marked_are_bodies p marked) 0).traced refl marked)
    (λ p b offset k w there at pair key value marked key_marked.
    (settled p (b, there, at) offset).value b k w there at pair key value marked key_marked)

pub over_settled : (types : List ObjectType) (v : SeatView) (list : List ℕ) (groups : List NotesState) → IsView v → TracedNameMarked types v → list ≡ []
    → ((note : Note) → IsNotedIn groups note → NoteIsSettled types v note) → IsAccounted types None v list groups → IsOver types v
over_settled types v list groups view named empty settled known =
    closes types v view named no_grey (λ p b offset k w there at pair key value marked key_marked.
    elim (known.pairs p (no_grey p marked) offset b k w there at pair key value) [
      | inl done ↦ done
      | inr noted ↦ (settled (note_of p offset) noted).value b k w there at pair key value marked key_marked
    ]) where
      no_hand : (p : ℕ) → None ≡ Some p → ⊥
      no_hand p is = cc

      no_grey : (p : ℕ) → holds v.marked p ≡ true → holds v.traced p ≡ true
      no_grey p marked = elim (cases_Bool (holds v.traced p)) [
        | inl traced ↦ traced
        | inr untraced ↦ elim (known.grey p marked untraced) [
          | inl hand ↦ absurd (no_hand p hand)
          | inr or_else ↦ elim or_else [
            | inl listed ↦ absurd (omega (arith, listed.1, ap length empty))
            | inr noted ↦ (settled (note_of p 0) noted).traced refl marked
          ]
        ]
      ]
