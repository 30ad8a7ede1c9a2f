-- The hand of a marker along the traced words of the object in it.
use Rattle.std.proofs.Common.{◌≡◌, ℕ, ◌+◌, ◌<◌, List, [], length, get_or, drop, Some, sym, ap, ◌∙◌, subst, arith}
use Rattle.std.specs.List.{Contains}
use Rattle.std.proofs.lemmas.List.{get_or-map}
use Rattle.std.proofs.lemmas.List.Elements.{Contains-get_or}
use Rattle.gc_graph.specs.declared.kind.Kind.TheVariants.{Strong, Pair}
use Rattle.gc_graph.specs.State.{ObjectType}
use Rattle.type_table.specs.declared.traced.TracedWord.{TracedWord}
use Rattle.type_table.specs.declared.traced.TracedWord.TheVariants.{StrongAt, PairAt}
use Rattle.type_table.specs.Types.{declared_kinds}
use Rattle.type_table.specs.TracedWords.{traced_words_of, offset_in}
use Rattle.type_table.specs.TracedLaws.{strong_told, pairs_told, strong_there, pair_there}
use Rattle.marker_core.specs.declared.states.Body.{Body}
use Rattle.marker_core.specs.declared.states.Part.TheVariants.{Read}
use Rattle.marker_core.specs.declared.states.Role.TheVariants.{StrongWord, KeyWord}
use Rattle.marker_core.specs.Hands.{role_at_hand, hand_moved, each_hand}
use Rattle.page_words.specs.Roles.{kind_lists}
use Rattle.page_words.specs.Markers.{MarkerSeatView}
use Rattle.pair_notes.specs.BodyLeads.{role_of_offset}
use Rattle.pair_notes.specs.HandPath.{hand_each, hand_next, told_offsets, told_length}
use Rattle.pair_notes.specs.InHand.{hand_over, traced_in}
use Rattle.marker_crew.specs.Hands.{MarkerIsAtWord, marker_moved_on}

-- an object of a type, of whose place and words nothing is said
abbrev of_type : ℕ → Body
of_type ty = record { place = 0; ty = ty; size = 0; serial = 0; fields = [] }

module _ (types : List ObjectType) (v : MarkerSeatView) (same : v.types ≡ types) (place ty : ℕ) (told : List TracedWord) (is : told ≡ traced_words_of (declared_kinds types ty)) where
  at_word : (word : TracedWord) → Contains told word → v.hand ≡ Some (record { place = place; ty = ty; next = offset_in word; part = Read }) → MarkerIsAtWord v place word
  at_word (StrongAt offset) there hand = record {
    ty = ty;
    is = hand;
    role_is =
        subst (λ (ts : List ObjectType). role_at_hand (kind_lists ts) (record { place = place; ty = ty; next = offset; part = Read }) ≡ StrongWord) (sym same)
        (role_of_offset types (of_type ty) Strong offset
        (subst (λ l. Contains l offset) (sym (strong_told (declared_kinds types ty)))
        (strong_there (traced_words_of (declared_kinds types ty)) offset (subst (λ l. Contains l (StrongAt offset)) is there))));
  }
  at_word (PairAt offset) there hand = record {
    ty = ty;
    is = hand;
    role_is =
        subst (λ (ts : List ObjectType). role_at_hand (kind_lists ts) (record { place = place; ty = ty; next = offset; part = Read }) ≡ KeyWord) (sym same)
        (role_of_offset types (of_type ty) Pair offset
        (subst (λ l. Contains l offset) (sym (pairs_told (declared_kinds types ty)))
        (pair_there (traced_words_of (declared_kinds types ty)) offset (subst (λ l. Contains l (PairAt offset)) is there))));
  }

  pub at_each_word : (i : ℕ) → i < length told → v.hand ≡ hand_over place ty (drop i (traced_in types ty)) → MarkerIsAtWord v place (get_or told i (StrongAt 0))
  at_each_word i low hand =
      let all : List ℕ = traced_in types ty in
      let within : i < length all = omega (arith, told_length types ty told is) in
      let offset : get_or all i 0 ≡ offset_in (get_or told i (StrongAt 0)) =
      ap (λ l. get_or l i 0) (told_offsets types ty told is) ∙ get_or-map offset_in told i (StrongAt 0) 0 low in
      at_word (get_or told i (StrongAt 0)) (Contains-get_or told i (StrongAt 0) low)
      (hand ∙ hand_each all place ty i within ∙ ap (λ o. Some (record { place = place; ty = ty; next = o; part = Read })) offset)

  -- and once it has moved on
  pub at_next_word : (w : MarkerSeatView) (i : ℕ) → i < length told → v.hand ≡ hand_over place ty (drop i (traced_in types ty)) → w.hand ≡ marker_moved_on v
      → w.hand ≡ hand_over place ty (drop (i + 1) (traced_in types ty))
  at_next_word w i low hand moved =
      let within : i < length (traced_in types ty) = omega (arith, told_length types ty told is) in
      moved ∙ ap (λ ts. each_hand (hand_moved (kind_lists ts)) v.hand) same
      ∙ ap (each_hand (hand_moved (kind_lists types))) (hand ∙ hand_each (traced_in types ty) place ty i within)
      ∙ hand_next types place ty i Read within
