-- The strong fields and the pairs of an object, one after another in the order of their offsets.
use Rattle.std.proofs.Common.{◌≡◌, ℕ, ◌<◌, false, List, [], ◌∷◌, length, get_or, take, drop, Some, refl, sym, ap, ◌∙◌, subst, inl, inr, arith}
use Rattle.std.specs.List.{Contains}
use Rattle.std.proofs.lemmas.List.{get_or-map, get_or-take, get_or_default, length-take}
use Rattle.std.proofs.lemmas.List.Elements.{Contains-get_or}
use Rattle.gc_graph.specs.Members.{Contains-cons_cases}
use Rattle.gc_graph.specs.declared.kind.Kind.TheVariants.{Strong, Pair}
use Rattle.gc_graph.specs.State.{ObjectType}
use Rattle.type_table.specs.declared.traced.TracedWord.{TracedWord}
use Rattle.type_table.specs.declared.traced.TracedWord.TheVariants.{StrongAt, PairAt}
use Rattle.type_table.specs.Types.{declared_kinds, offsets_of_kind}
use Rattle.type_table.specs.TracedWords.{traced_words_of, offset_in}
use Rattle.type_table.specs.TracedLaws.{strong_told, pairs_told, strong_there, strong_back, pair_there, pair_back}
use Rattle.mark_worklist.specs.declared.marking.Marking.{Marking}
use Rattle.marker_core.specs.declared.states.Body.{Body}
use Rattle.marker_core.specs.declared.states.Part.TheVariants.{Read}
use Rattle.marker_core.specs.Bodies.{kinds_of_type}
use Rattle.marker_core.specs.Hands.{traced_offsets}
use Rattle.page_words.specs.BodyPlaces.{same_body}
use Rattle.page_words.specs.Roles.{kind_lists}
use Rattle.page_words.specs.Seat.{SeatView, IsView}
use Rattle.pair_notes.specs.BodyGraph.{HasType, pair_offsets}
use Rattle.pair_notes.specs.Marking.{HasStrongMarked}
use Rattle.pair_notes.specs.Notes.{NotesState, NotesGrow, HasPairsNoted, note_of}
use Rattle.pair_notes.specs.InHand.{IsAtWord, IsWordTraced, hand_over, traced_in}
use Rattle.ephemerons.specs.Fixpoint.{ListsMarks}
use Rattle.pair_notes.specs.HandPath.{hand_at_each, rising, told_offsets, told_length}
use Rattle.ephemerons.proofs.MarkSteps.{same_bodies}
use Rattle.ephemerons.proofs.StrongWords.{at_strong_field, at_pair_field, all_named, target_stays}

-- no pair that was told before is told again
pub told_apart : (types : List ObjectType) (ty : ℕ) (told : List TracedWord) → told ≡ traced_words_of (declared_kinds types ty) → (i : ℕ) → i < length told
    → (offset : ℕ) → Contains (take i told) (PairAt offset) → Contains (get_or told i (StrongAt 0) ∷ []) (PairAt offset) → ⊥
told_apart types ty told is i low offset early here =
    let offsets : List ℕ = traced_offsets 2 (kinds_of_type (kind_lists types) ty) in
    let long : length offsets ≡ length told = told_length types ty told is in
    let j : ℕ = early.0 in
    let before : j < i = omega (arith, early.1, length-take i told) in
    let same : get_or told j (StrongAt 0) ≡ PairAt offset =
    get_or_default told j (StrongAt 0) (PairAt offset) (omega arith) ∙ sym (get_or-take i told j (PairAt offset) before) ∙ early.2 in
    let last : get_or told i (StrongAt 0) ≡ PairAt offset = elim (Contains-cons_cases (get_or told i (StrongAt 0)) [] (PairAt offset) here) [
      | inl is_here ↦ is_here
      | inr later ↦ absurd (omega (arith, later.1))
    ] in
    let at_j : get_or offsets j 0 ≡ offset = offset_at j (omega arith) ∙ ap offset_in same in
    let at_i : get_or offsets i 0 ≡ offset = offset_at i low ∙ ap offset_in last in
    omega (arith, at_j, at_i, rising 2 (kinds_of_type (kind_lists types) ty) i j 0 before (omega (arith, long))) where
      offset_at : (k : ℕ) → k < length told → get_or (traced_in types ty) k 0 ≡ offset_in (get_or told k (StrongAt 0))
      offset_at k below = ap (λ l. get_or l k 0) (told_offsets types ty told is) ∙ get_or-map offset_in told k (StrongAt 0) 0 below

-- u is the view at first, and v has the same objects, of the same types
module _ (u v : SeatView) (bodies : v.bodies ≡ u.bodies) (types : v.types ≡ u.types) (place ty : ℕ) (has : HasType u.bodies place ty)
    (told : List TracedWord) (is : told ≡ traced_words_of (declared_kinds u.types ty)) where
  at_word : (word : TracedWord) → Contains told word → v.hand ≡ Some (record { place = place; ty = ty; next = offset_in word; part = Read }) → IsAtWord v place word
  at_word (StrongAt offset) there hand =
      at_strong_field u v bodies types place ty has offset
      (subst (λ l. Contains l offset) (sym (strong_told (declared_kinds u.types ty)))
      (strong_there (traced_words_of (declared_kinds u.types ty)) offset (subst (λ l. Contains l (StrongAt offset)) is there))) hand
  at_word (PairAt offset) there hand =
      at_pair_field u v bodies types place ty has offset
      (subst (λ l. Contains l offset) (sym (pairs_told (declared_kinds u.types ty)))
      (pair_there (traced_words_of (declared_kinds u.types ty)) offset (subst (λ l. Contains l (PairAt offset)) is there))) hand

  pub at_each_word : (i : ℕ) → i < length told → v.hand ≡ hand_over place ty (drop i (traced_in u.types ty)) → IsAtWord v place (get_or told i (StrongAt 0))
  at_each_word i low hand =
      let all : List ℕ = traced_in u.types ty in
      let within : i < length all = omega (arith, told_length u.types ty told is) in
      let offset : get_or all i 0 ≡ offset_in (get_or told i (StrongAt 0)) =
      ap (λ l. get_or l i 0) (told_offsets u.types ty told is) ∙ get_or-map offset_in told i (StrongAt 0) 0 low in
      at_word (get_or told i (StrongAt 0)) (Contains-get_or told i (StrongAt 0) low)
      (hand_at_each all v place ty i within hand ∙ ap (λ o. Some (record { place = place; ty = ty; next = o; part = Read })) offset)

-- what was done stays so
pub word_stays : (types : List ObjectType) (v w : SeatView) (m n : Marking) (place : ℕ) (old new : NotesState) (word : TracedWord) → ListsMarks v m w n
    → NotesGrow types v.bodies old new → IsWordTraced types v place old word → IsWordTraced types w place new word
word_stays types v w m n place old new (StrongAt offset) marks grow done = target_stays v w m n place offset marks done
word_stays types v w m n place old new (PairAt offset) marks grow done = λ fine b k x there at pair key value.
    elim (done (grow.overflow fine) b k x (subst (λ bs. Contains bs b) (same_bodies v w m n marks) there) at pair key value) [
      | inl marked ↦ inl (marks.marked x marked)
      | inr noted ↦ inr (grow.kept (note_of place offset) noted)
    ]

-- ---- all words are done

module _ (u w : SeatView) (place ty : ℕ) (told : List TracedWord) (notes : NotesState) (view : IsView u) (has : HasType u.bodies place ty)
    (is : told ≡ traced_words_of (declared_kinds u.types ty)) (bodies : w.bodies ≡ u.bodies)
    (done : (word : TracedWord) → Contains told word → IsWordTraced u.types w place notes word) where
  pub strong_done : HasStrongMarked u.types w place
  strong_done =
      all_named u w place ty (offsets_of_kind Strong (declared_kinds u.types ty)) view has refl bodies
      (λ offset there. done (StrongAt offset)
      (subst (λ l. Contains l (StrongAt offset)) (sym is)
      (strong_back (traced_words_of (declared_kinds u.types ty)) offset (subst (λ l. Contains l offset) (strong_told (declared_kinds u.types ty)) there))))

  pub pairs_done : notes.overflow ≡ false → HasPairsNoted u.types w place (Contains notes.notes)
  pairs_done fine offset b k x there at pair key value =
      let first : Contains u.bodies b = subst (λ bs. Contains bs b) bodies there in
      let one : b ≡ has.0 = same_body u b has.0 view first has.1 (at ∙ sym has.2) in
      let among : Contains (offsets_of_kind Pair (declared_kinds u.types ty)) offset =
      subst (λ l. Contains l offset) (ap (λ (c : Body). pair_offsets u.types c) one ∙ ap (λ t. offsets_of_kind Pair (declared_kinds u.types t)) has.3) pair in
      done (PairAt offset)
      (subst (λ l. Contains l (PairAt offset)) (sym is)
      (pair_back (traced_words_of (declared_kinds u.types ty)) offset (subst (λ l. Contains l offset) (pairs_told (declared_kinds u.types ty)) among))) fine b k x there at pair
      key value
