-- The step that publishes an object, told by the words that were filled.
use Rattle.std.proofs.Common.{◌≡◌, ℕ, zero, suc, ◌+◌, ◌-◌, ◌<◌, ◌≤◌, ◌^◌, List, [], ◌∷◌, length, get_or, drop, Bool, true, false, not, ◌&&◌, ◌||◌, eqb, leb, ltb, min, refl, sym, ap, ◌∙◌, subst, inl, inr, arith, Contains}
use Rattle.std.specs.List.{list_any, list_all, range_with_len, slice_range}
use Rattle.std.proofs.lemmas.Bool.{cases_Bool, cases_lt, both_ways, and_parts, and_from, not_from_false, eqb-true, eq-eqb, ltb-true, lt-ltb, le-leb}
use Rattle.std.proofs.lemmas.Grind.{same_number_lists}
use Rattle.std.proofs.lemmas.List.{length-take, length-drop, get_or-take, get_or-drop}
use Rattle.gc_graph.specs.Members.{any_from, in_range}
use Rattle.object_headers.specs.Layout.{header_word}
use Rattle.marker_core.specs.declared.states.Body.{Body}
use Rattle.marker_core.specs.declared.states.MarkerView.{MarkerView}
use Rattle.marker_core.specs.Layout.{type_in, size_in, with_start}
use Rattle.marker_core.specs.Bodies.{field_word_count, refers, kinds_of_type, word_in, role_in, end_of, body_has_word, in_body}
use Rattle.marker_core.specs.Seats.{SeatSide, core_of, with_view}
use Rattle.marker_core.specs.SeatSteps.{overlaps, is_whole_object, is_new_serial, seat_published}
use Rattle.marker_core.specs.MutatorSteps.{body_at, is_in_free_words, can_publish}
use Rattle.marker_core.specs.Step.{core_step}
use Rattle.marker_core.specs.Core.{IsCoreOk}
use Rattle.marker_core.specs.SeatLaws.{IsReadyToPublish, PublishesAreSteps}
use Rattle.marker_core.proofs.Members.{none_from}
use Rattle.marker_core.proofs.Headers.{type_of_header}
use Rattle.marker_core.proofs.SeatSteps.{taken}
use Rattle.marker_core.proofs.SeatEnds.{all_same}

all_true : {X : Type 0} (xs : List X) → list_all (λ (x : X). true) xs ≡ true
all_true [] = refl
all_true (x ∷ xs) = all_true xs

-- a test that each member passes
pub all_from : {X : Type 0} (p : X → Bool) (xs : List X) → ((x : X) → Contains xs x → p x ≡ true) → list_all p xs ≡ true
all_from p xs each = all_same p (λ x. true) xs each ∙ all_true xs

size_of_header : (ty size : ℕ) → ty < 16384 → size_in (header_word true false false ty size) ≡ size
size_of_header ty size small = omega arith

module _ (v : SeatSide) (words : List ℕ) (markers : List MarkerView) (ok : IsCoreOk (core_of v words markers)) (b : Body) (ready : IsReadyToPublish v b) where
  abbrev header : ℕ
  header = get_or words b.place 0

  filled_word : (a w : ℕ) → Contains v.mutator.filled (a, w) → get_or words a 0 ≡ w
  filled_word a w h = ok.filled_match.word (a, w) h

  header_is : header ≡ header_word true false false b.ty b.size
  header_is = filled_word b.place (header_word true false false b.ty b.size) ready.header

  small : b.ty < 16384
  small = omega (arith, ready.whole.ty, ok.are_types.few)

  type_is : type_in header ≡ b.ty
  type_is = ap type_in header_is ∙ type_of_header false false b.ty b.size small

  size_is : size_in header ≡ b.size
  size_is = ap size_in header_is ∙ size_of_header b.ty b.size small

  serial_is : get_or words (b.place + 1) 0 ≡ b.serial
  serial_is = filled_word (b.place + 1) b.serial ready.serial

  abbrev told : List ℕ
  told = slice_range words (b.place + 2) (b.place + b.size)

  told_long : length told ≡ length b.fields
  told_long =
      let long : length told ≡ min (b.place + b.size - (b.place + 2)) (length words - (b.place + 2)) =
      length-take (b.place + b.size - (b.place + 2)) (drop (b.place + 2) words)
      ∙ ap (min (b.place + b.size - (b.place + 2))) (length-drop (b.place + 2) words)
      in
      omega (arith, long, ready.whole.inside, ready.whole.fields, ok.has_room.length_is)

  told_at : (i : ℕ) → i < length told → get_or told i 0 ≡ get_or b.fields i 0
  told_at i below =
      let within : i < length b.fields = omega (arith, below, told_long) in
      get_or-take (b.place + b.size - (b.place + 2)) (drop (b.place + 2) words) i 0 (omega (arith, within, ready.whole.fields))
      ∙ get_or-drop (b.place + 2) words i 0 ∙ filled_word (b.place + 2 + i) (word_in b i) (ready.fields i within)

  fields_are : told ≡ b.fields
  fields_are = same_number_lists told b.fields told_long told_at

  -- the words tell of this body
  body_is : body_at words b.place ≡ b
  body_is =
      ap
      (λ z. record {
        place = b.place;
        ty = type_in header;
        size = z;
        serial = get_or words (b.place + 1) 0;
        fields = slice_range words (b.place + 2) (b.place + z);
      }) size_is
      ∙ ap (λ fields. record { place = b.place; ty = type_in header; size = b.size; serial = get_or words (b.place + 1) 0; fields = fields }) fields_are
      ∙ ap (λ serial. record { place = b.place; ty = type_in header; size = b.size; serial = serial; fields = b.fields }) serial_is
      ∙ ap (λ ty. record { place = b.place; ty = ty; size = b.size; serial = b.serial; fields = b.fields }) type_is

  null_test : (i : ℕ) → Contains (range_with_len 0 (length b.fields)) i → (not (refers (role_in v.types b i)) || eqb (word_in b i) 0) ≡ true
  null_test i h = elim (cases_Bool (refers (role_in v.types b i))) [
    | inr plain ↦ ap (λ t. not t || eqb (word_in b i) 0) plain
    | inl reference ↦
        ap (λ t. not t || eqb (word_in b i) 0) reference
        ∙ eq-eqb (word_in b i) 0 (ready.null i (omega (arith, (in_range 0 (length b.fields) i h).1)) reference)
  ]

  whole_object : is_whole_object v.types header b ≡ true
  whole_object =
      and_from _ _
      (and_from _ _
      (and_from _ _
      (and_from _ _ (eq-eqb header (header_word true false false b.ty b.size) header_is) (lt-ltb b.ty (length v.types) ready.whole.ty))
      (le-leb (2 + field_word_count (kinds_of_type v.types b.ty)) b.size ready.whole.room))
      (lt-ltb b.size (2 ^ 26) ready.whole.size))
      (all_from (λ i. not (refers (role_in v.types b i)) || eqb (word_in b i) 0) (range_with_len 0 (length b.fields)) null_test)

  -- no body shares a word with it
  word_shared : (a : ℕ) (c : Body) → Contains v.mutator.bodies c → b.place ≤ a → a < end_of b → c.place ≤ a → a < end_of c → ⊥
  word_shared a c h low high from to =
      both_ways (in_body v.mutator.bodies a) (ready.apart a low high)
      (any_from (body_has_word a) v.mutator.bodies c h (and_from (leb c.place a) (ltb a (end_of c)) (le-leb c.place a from) (lt-ltb a (end_of c) to)))

  none_overlaps : list_any (overlaps b) v.mutator.bodies ≡ false
  none_overlaps = none_from (overlaps b) v.mutator.bodies (λ c h shares.
      let both = and_parts (ltb b.place (end_of c)) (ltb c.place (end_of b)) shares in
      let first = ltb-true b.place (end_of c) both.0 in
      let second = ltb-true c.place (end_of b) both.1 in
      elim (cases_lt b.place c.place) [
        | inl before ↦ word_shared c.place c h (omega (arith, before)) second (omega arith) (omega (arith, (ok.bodies_are_whole c h).fields))
        | inr after ↦ word_shared b.place c h (omega arith) (omega (arith, ready.whole.fields)) after first
      ])

  is_filled : ℕ → ℕ → Bool
  is_filled a w = list_any (λ (f : ℕ × ℕ). eqb f.0 a && eqb f.1 (get_or words a 0)) v.mutator.filled

  filled_at : (a w : ℕ) → Contains v.mutator.filled (a, w)
      → list_any (λ (f : ℕ × ℕ). eqb f.0 a && eqb f.1 (get_or words a 0)) v.mutator.filled ≡ true
  filled_at a w h =
      any_from (λ (f : ℕ × ℕ). eqb f.0 a && eqb f.1 (get_or words a 0)) v.mutator.filled (a, w) h
      (and_from (eqb a a) (eqb w (get_or words a 0)) (eq-eqb a a refl) (eq-eqb w (get_or words a 0) (sym (filled_word a w h))))

  filled_test : (i : ℕ) → Contains (range_with_len 0 b.size) i
      → list_any (λ (f : ℕ × ℕ). eqb f.0 (b.place + i) && eqb f.1 (get_or words (b.place + i) 0)) v.mutator.filled ≡ true
  filled_test zero h =
      subst (λ a. list_any (λ (f : ℕ × ℕ). eqb f.0 a && eqb f.1 (get_or words a 0)) v.mutator.filled ≡ true) (omega arith)
      (filled_at b.place (header_word true false false b.ty b.size) ready.header)
  filled_test (suc zero) h = filled_at (b.place + 1) b.serial ready.serial
  filled_test (suc (suc i)) h =
      let within : i < length b.fields = (let below = (in_range 0 b.size (suc (suc i)) h).1 in omega (arith, below, ready.whole.fields)) in
      subst (λ a. list_any (λ (f : ℕ × ℕ). eqb f.0 a && eqb f.1 (get_or words a 0)) v.mutator.filled ≡ true) (omega arith)
      (filled_at (b.place + 2 + i) (word_in b i) (ready.fields i within))

  free_words : is_in_free_words (core_of v words markers) b ≡ true
  free_words =
      and_from _ _
      (and_from _ _ (le-leb (end_of b) v.count ready.whole.inside) (not_from_false (list_any (overlaps b) v.mutator.bodies) none_overlaps))
      (all_from (λ i. list_any (λ (f : ℕ × ℕ). eqb f.0 (b.place + i) && eqb f.1 (get_or words (b.place + i) 0)) v.mutator.filled) (range_with_len 0 b.size)
      filled_test)

  new_serial : is_new_serial v.mutator.bodies b.serial ≡ true
  new_serial =
      and_from (ltb b.serial (2 ^ 32)) (not (list_any (λ (c : Body). eqb c.serial b.serial) v.mutator.bodies)) (lt-ltb b.serial (2 ^ 32) ready.number)
      (not_from_false (list_any (λ (c : Body). eqb c.serial b.serial) v.mutator.bodies)
      (none_from (λ (c : Body). eqb c.serial b.serial) v.mutator.bodies (λ c h same. ready.unused c h (eqb-true c.serial b.serial same))))

  pub publish_allowed : can_publish (core_of v words markers) b.place ≡ true
  publish_allowed =
      subst
      (λ (x : Body). (is_whole_object v.types header x && is_in_free_words (core_of v words markers) x && is_new_serial v.mutator.bodies x.serial) ≡ true)
      (sym body_is) (and_from _ _ (and_from _ _ whole_object free_words) new_serial)

pub publishes_are_steps : PublishesAreSteps
unfolding core_step
publishes_are_steps v b ready words markers ok =
    taken (can_publish (core_of v words markers) b.place) _ _ (publish_allowed v words markers ok b ready)
    (ap (λ (x : Body). core_of (with_view v (seat_published v x)) (with_start v.count words b.place) markers) (body_is v words markers ok b ready))
