-- Bodies in which some words became null.
use Rattle.std.proofs.Common.{◌≡◌, ℕ, zero, suc, ◌+◌, ◌<◌, ◌≤◌, true, cond, List, [], ◌∷◌, length, get_or, set, map, refl, sym, ap, ◌∙◌, subst, inl, inr, arith, ◌-◌}
use mathlib.Core.Logic.{◌⊎◌}
use Rattle.std.proofs.lemmas.Bool.{cond_both, cases_eq, cases_lt}
use Rattle.std.proofs.lemmas.List.{get_or-set_same, get_or-set_other, length-set, get_or_past}
use Rattle.gc_graph.specs.declared.kind.Kind.{Kind}
use Rattle.gc_graph.specs.declared.kind.Kind.TheVariants.{Strong, Weak, Pair, Plain}
use Rattle.gc_graph.specs.State.{ObjectType}
use Rattle.gc_graph.specs.Fields.{field_words}
use Rattle.object_headers.specs.Offsets.{reference_to}
use Rattle.type_table.specs.Types.{declared_kinds}
use Rattle.type_table.specs.Layouts.{kinds_of_words}
use Rattle.marker_core.specs.Bodies.{IsReference, holds}
use Rattle.marker_core.specs.declared.states.Body.{Body}
use Rattle.page_words.specs.Seat.{SeatView, with_bodies}
use Rattle.weak_clearing.specs.declared.weak_handles.WeakHandles.{WeakHandles}
use Rattle.weak_clearing.specs.declared.weak_handles.WeakHandles.TheVariants.{Fields, Pairs}
use Rattle.weak_clearing.specs.Clearing.{names_unmarked, clear_word, clear_words, clear_pair_words, HasReferencesOf, MarkedHaveReferencesOf}
use Rattle.weak_clearing.specs.Steps.{nulled, words_cleared_at, clear_words_of, clear_handles}
use Rattle.gc_graph.specs.Members.{Contains-map, Contains-map_some}
use Rattle.weak_clearing.proofs.HandleWords.{clear_listed}

-- as many words, each of which stayed or is null
pub record AreLessened (old new : List ℕ) : Type 0 where
  pub many : length new ≡ length old
  pub each : (i : ℕ) → (get_or new i 0 ≡ 0) ⊎ (get_or new i 0 ≡ get_or old i 0)

same_words : (words : List ℕ) → AreLessened words words
same_words words = record { many = refl; each = λ i. inr refl }

then_lessened : (a b c : List ℕ) → AreLessened a b → AreLessened b c → AreLessened a c
then_lessened a b c x y = record {
  many = y.many ∙ x.many;
  each = λ i. elim (y.each i) [
    | inl null ↦ inl null
    | inr same ↦ elim (x.each i) [ inl null ↦ inl (same ∙ null) | inr old ↦ inr (same ∙ old) ]
  ];
}

one_lessened : (w x : ℕ) (words rest : List ℕ) → (x ≡ 0) ⊎ (x ≡ w) → AreLessened words rest → AreLessened (w ∷ words) (x ∷ rest)
one_lessened w x words rest one is = record { many = ap suc is.many; each = each } where
  each : (i : ℕ) → (get_or (x ∷ rest) i 0 ≡ 0) ⊎ (get_or (x ∷ rest) i 0 ≡ get_or (w ∷ words) i 0)
  each zero = one
  each (suc i) = is.each i

-- ---- words cleared by their kinds

null_or_same : (t : ℕ) (marked : List ℕ) (w : ℕ) → (cond (names_unmarked marked t) 0 w ≡ 0) ⊎ (cond (names_unmarked marked t) 0 w ≡ w)
null_or_same t marked w = cond_both (names_unmarked marked t) 0 w (λ x. (x ≡ 0) ⊎ (x ≡ w)) (λ _. inl refl) (λ _. inr refl)

word_lessened : (marked : List ℕ) (kind : Kind) (w : ℕ) → (clear_word marked kind w ≡ 0) ⊎ (clear_word marked kind w ≡ w)
word_lessened marked Weak w = null_or_same w marked w
word_lessened marked Strong w = inr refl
word_lessened marked Pair w = inr refl
word_lessened marked Plain w = inr refl

weak_lessened : (marked : List ℕ) (kinds : List Kind) (words : List ℕ) → AreLessened words (clear_words marked kinds words)
weak_lessened marked [] words = same_words words
weak_lessened marked (kind ∷ kinds) [] = same_words []
weak_lessened marked (kind ∷ kinds) (w ∷ words) =
    one_lessened w (clear_word marked kind w) words (clear_words marked kinds words) (word_lessened marked kind w) (weak_lessened marked kinds words)

pairs_lessened : (marked : List ℕ) (kinds : List Kind) (words : List ℕ) → AreLessened words (clear_pair_words marked kinds words)
pairs_lessened marked [] words = same_words words
pairs_lessened marked (kind ∷ kinds) [] = same_words []
pairs_lessened marked (Strong ∷ kinds) (w ∷ words) = one_lessened w w words (clear_pair_words marked kinds words) (inr refl) (pairs_lessened marked kinds words)
pairs_lessened marked (Weak ∷ kinds) (w ∷ words) = one_lessened w w words (clear_pair_words marked kinds words) (inr refl) (pairs_lessened marked kinds words)
pairs_lessened marked (Plain ∷ kinds) (w ∷ words) = one_lessened w w words (clear_pair_words marked kinds words) (inr refl) (pairs_lessened marked kinds words)
pairs_lessened marked (Pair ∷ kinds) (k ∷ []) = same_words (k ∷ [])
pairs_lessened marked (Pair ∷ kinds) (k ∷ w ∷ words) =
    let rest : List ℕ = clear_pair_words marked kinds words in
    let value : ℕ = cond (names_unmarked marked k) 0 w in
    one_lessened k (cond (names_unmarked marked k) 0 k) (w ∷ words) (value ∷ rest) (null_or_same k marked k)
    (one_lessened w value words rest (null_or_same k marked w) (pairs_lessened marked kinds words))

words_lessened : (handles : WeakHandles) (marked : List ℕ) (kinds : List Kind) (words : List ℕ) → AreLessened words (clear_words_of handles marked kinds words)
words_lessened Fields marked kinds words = weak_lessened marked (kinds_of_words kinds) words
words_lessened Pairs marked kinds words = pairs_lessened marked kinds words

-- ---- words cleared handle by handle

null_lessened : (n : ℕ) (words : List ℕ) → AreLessened words (set words n 0)
null_lessened n words = record {
  many = length-set words n 0;
  each = λ i. elim (cases_eq i n) [
    | inl here ↦ elim (cases_lt n (length words)) [
      | inl low ↦ inl (ap (λ j. get_or (set words n 0) j 0) here ∙ get_or-set_same words n 0 0 low)
      | inr past ↦ inl (get_or_past (set words n 0) i 0 (omega (arith, here, length-set words n 0)))
    ]
    | inr other ↦ inr (get_or-set_other words n i 0 0 other)
  ];
}

nulled_lessened : (handles : WeakHandles) (n : ℕ) (words : List ℕ) → AreLessened words (nulled handles n words)
nulled_lessened Fields n words = null_lessened n words
nulled_lessened Pairs n words =
    then_lessened words (set words (n + 1) 0) (set (set words (n + 1) 0) n 0) (null_lessened (n + 1) words) (null_lessened n (set words (n + 1) 0))

handle_lessened : (handles : WeakHandles) (marked : List ℕ) (n : ℕ) (words : List ℕ) → AreLessened words (words_cleared_at handles marked n words)
handle_lessened handles marked n words =
    cond_both (names_unmarked marked (get_or words n 0)) (nulled handles n words) words (AreLessened words) (λ _. nulled_lessened handles n words) (λ _. same_words words)

pub listed_lessened : (handles : WeakHandles) (marked offsets words : List ℕ) → AreLessened words (clear_listed handles marked offsets words)
listed_lessened handles marked [] words = same_words words
listed_lessened handles marked (o ∷ offsets) words =
    let first : List ℕ = words_cleared_at handles marked (o - 2) words in
    then_lessened words first (clear_listed handles marked offsets first) (handle_lessened handles marked (o - 2) words)
    (listed_lessened handles marked offsets first)

-- ---- bodies

-- the body, with some of its words null
pub record IsLessened (old new : Body) : Type 0 where
  pub place : new.place ≡ old.place
  pub ty : new.ty ≡ old.ty
  pub size : new.size ≡ old.size
  pub words : AreLessened old.fields new.fields

pub itself_lessened : (b : Body) → IsLessened b b
itself_lessened b = record { place = refl; ty = refl; size = refl; words = same_words b.fields }

pub with_fields : (b : Body) (fields : List ℕ) → AreLessened b.fields fields → IsLessened b (record b { fields = fields })
with_fields b fields is = record { place = refl; ty = refl; size = refl; words = is }

pub body_lessened : (handles : WeakHandles) (types : List ObjectType) (marked : List ℕ) (b : Body) → IsLessened b (clear_handles handles types marked b)
body_lessened handles types marked b =
    let cleared : List ℕ = clear_words_of handles marked (declared_kinds types b.ty) b.fields in
    cond_both (holds marked b.place) (record b { fields = cleared }) b (IsLessened b)
    (λ _. with_fields b cleared (words_lessened handles marked (declared_kinds types b.ty) b.fields)) (λ _. itself_lessened b)

module _ (f : Body → Body) (less : (b : Body) → IsLessened b (f b)) where
  pub reference_stays : (bodies : List Body) (w : ℕ) → IsReference bodies w → IsReference (map f bodies) w
  reference_stays bodies w is = elim is [
    | inl null ↦ inl null
    | inr named ↦ inr (f named.0, Contains-map f bodies named.0 named.1, named.2 ∙ ap reference_to (sym (less named.0).place))
  ]

  pub word_stays_reference : (bodies : List Body) (b : Body) (i : ℕ) → IsReference bodies (get_or b.fields i 0) → IsReference (map f bodies) (get_or (f b).fields i 0)
  word_stays_reference bodies b i is = elim ((less b).words.each i) [
    | inl null ↦ inl null
    | inr same ↦ subst (IsReference (map f bodies)) (sym same) (reference_stays bodies (get_or b.fields i 0) is)
  ]

  pub has_still : (kind : Kind) (types : List ObjectType) (bodies : List Body) (b : Body) → HasReferencesOf kind types bodies b
      → HasReferencesOf kind types (map f bodies) (f b)
  has_still kind types bodies b has = record {
    typed = subst (λ ty. ty < length types) (sym (less b).ty) has.typed;
    whole = subst (λ ty. field_words (declared_kinds types ty) ≤ length (f b).fields) (sym (less b).ty)
        (subst (λ n. field_words (declared_kinds types b.ty) ≤ n) (sym (less b).words.many) has.whole);
    named = λ i is. word_stays_reference bodies b i (has.named i (ap (λ ty. get_or (kinds_of_words (declared_kinds types ty)) i Plain) (sym (less b).ty) ∙ is));
  }

  pub references_stay : (kind : Kind) (v : SeatView) → MarkedHaveReferencesOf kind v → MarkedHaveReferencesOf kind (with_bodies v (map f v.bodies))
  references_stay kind v have b there marked =
      let from = Contains-map_some f v.bodies b there in
      let was : holds v.marked from.0.place ≡ true = ap (holds v.marked) (sym (less from.0).place ∙ ap (λ (x : Body). x.place) from.2) ∙ marked in
      subst (HasReferencesOf kind v.types (map f v.bodies)) from.2 (has_still kind v.types v.bodies from.0 (have from.0 from.1 was))
