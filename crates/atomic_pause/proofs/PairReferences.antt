-- Once the weak fields of marked bodies are cleared, the words of their pairs still refer to bodies.
use Rattle.std.proofs.Common.{◌≡◌, ℕ, zero, suc, ◌+◌, ◌<◌, ◌≤◌, Bool, true, false, List, [], ◌∷◌, length, get_or, map, refl, sym, ap, ◌∙◌, subst, inl, inr, cond}
use Rattle.gc_graph.specs.declared.kind.Kind.{Kind}
use Rattle.gc_graph.specs.declared.kind.Kind.TheVariants.{Strong, Weak, Pair, Plain}
use Rattle.gc_graph.specs.State.{ObjectType}
use Rattle.gc_graph.specs.Fields.{field_words}
use Rattle.gc_graph.specs.Members.{Contains-map, Contains-map_some}
use Rattle.type_table.specs.Types.{declared_kinds}
use Rattle.type_table.specs.Layouts.{kinds_of_words}
use Rattle.marker_core.specs.Bodies.{IsReference, holds}
use Rattle.marker_core.specs.declared.states.Body.{Body}
use Rattle.page_words.specs.Bodies.{kind_in}
use Rattle.page_words.specs.Seat.{SeatView}
use Rattle.weak_clearing.specs.Clearing.{HasReferencesOf, MarkedHaveReferencesOf, clear_words, clear_body, with_weak_cleared}

-- there are as many words as before, and those of pairs are the same
length-clear_words : (marked : List ℕ) (kinds : List Kind) (words : List ℕ) → length (clear_words marked kinds words) ≡ length words
length-clear_words marked [] words = refl
length-clear_words marked (kind ∷ kinds) [] = refl
length-clear_words marked (kind ∷ kinds) (w ∷ words) = ap suc (length-clear_words marked kinds words)

pair_word_stays : (marked : List ℕ) (kinds : List Kind) (words : List ℕ) (i : ℕ) → get_or kinds i Plain ≡ Pair
    → get_or (clear_words marked kinds words) i 0 ≡ get_or words i 0
pair_word_stays marked [] words i pair = refl
pair_word_stays marked (kind ∷ kinds) [] i pair = refl
pair_word_stays marked (Strong ∷ kinds) (w ∷ words) zero pair = refl
pair_word_stays marked (Weak ∷ kinds) (w ∷ words) zero pair = cc
pair_word_stays marked (Pair ∷ kinds) (w ∷ words) zero pair = refl
pair_word_stays marked (Plain ∷ kinds) (w ∷ words) zero pair = refl
pair_word_stays marked (kind ∷ kinds) (w ∷ words) (suc i) pair = pair_word_stays marked kinds words i pair

-- what a cleared body has as before
record StaysOf (types : List ObjectType) (old new : Body) : Type 0 where
  place : new.place ≡ old.place
  ty : new.ty ≡ old.ty
  size : length new.fields ≡ length old.fields
  pairs : (i : ℕ) → kind_in types old i ≡ Pair → get_or new.fields i 0 ≡ get_or old.fields i 0

body_stays : (types : List ObjectType) (marked : List ℕ) (b : Body) → StaysOf types b (clear_body types marked b)
body_stays types marked b = go (holds marked b.place) where
  kinds : List Kind
  kinds = kinds_of_words (declared_kinds types b.ty)

  cleared : Body
  cleared = record b { fields = clear_words marked kinds b.fields }

  go : (flag : Bool) → StaysOf types b (cond flag cleared b)
  go true = record {
    place = refl;
    ty = refl;
    size = length-clear_words marked kinds b.fields;
    pairs = λ i pair. pair_word_stays marked kinds b.fields i pair;
  }
  go false = record { place = refl; ty = refl; size = refl; pairs = λ i pair. refl }

reference_stays : (types : List ObjectType) (marked : List ℕ) (bodies : List Body) (w : ℕ) → IsReference bodies w → IsReference (map (clear_body types marked) bodies) w
reference_stays types marked bodies w is = elim is [
  | inl null ↦ inl null
  | inr named ↦ inr (
    clear_body types marked named.0,
    Contains-map (clear_body types marked) bodies named.0 named.1,
    named.2 ∙ ap (λ p. p + 1) (sym (body_stays types marked named.0).place),
  )
]

pair_references_stay : (v : SeatView) → MarkedHaveReferencesOf Pair v → MarkedHaveReferencesOf Pair (with_weak_cleared v)
pair_references_stay v are b there marked =
    let from = Contains-map_some (clear_body v.types v.marked) v.bodies b there in
    let old : Body = from.0 in
    let stays : StaysOf v.types old b = subst (StaysOf v.types old) from.2 (body_stays v.types v.marked old) in
    let has : HasReferencesOf Pair v.types v.bodies old = are old from.1 (subst (λ p. holds v.marked p ≡ true) stays.place marked) in
    record {
      typed = subst (λ t. t < length v.types) (sym stays.ty) has.typed;
      whole = subst (λ t. field_words (declared_kinds v.types t) ≤ length b.fields) (sym stays.ty)
          (subst (λ n. field_words (declared_kinds v.types old.ty) ≤ n) (sym stays.size) has.whole);
      named = λ i told.
          let kind : kind_in v.types old i ≡ Pair = sym (ap (λ t. get_or (kinds_of_words (declared_kinds v.types t)) i Plain) stays.ty) ∙ told in
          reference_stays v.types v.marked v.bodies (get_or b.fields i 0) (subst (IsReference v.bodies) (sym (stays.pairs i kind)) (has.named i kind));
    }

pub pairs_still_refer : (v new : SeatView) → new ≡ with_weak_cleared v → MarkedHaveReferencesOf Pair v → MarkedHaveReferencesOf Pair new
pairs_still_refer v new cleared are = subst (MarkedHaveReferencesOf Pair) (sym cleared) (pair_references_stay v are)
