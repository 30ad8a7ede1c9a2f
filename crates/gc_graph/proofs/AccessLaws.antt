-- What was written is read back.
use Rattle.std.proofs.Common.{◌≡◌, ℕ, ◌+◌, ◌<◌, ◌≤◌, Bool, true, false, true≢false, List, [], ◌∷◌, length, get_or, set, Option, Some, None, refl, sym, ap, ◌∙◌, subst, arith}
use Rattle.std.proofs.lemmas.List.{get_or-set_same, get_or-set_other, length-set}
use Rattle.gc_graph.specs.declared.kind.Kind.{Kind}
use Rattle.gc_graph.specs.declared.kind.Kind.TheVariants.{Strong, Weak, Pair, Plain}
use Rattle.gc_graph.specs.declared.kind.Value.{Value}
use Rattle.gc_graph.specs.declared.kind.Value.TheVariants.{Null, Word}
use Rattle.gc_graph.specs.declared.line.Line.{Line}
use Rattle.gc_graph.specs.declared.line.Line.TheVariants as L
use Rattle.gc_graph.specs.State.{Setup, State, Node, no_node, node_at}
use Rattle.gc_graph.specs.Fields.{words_of_kind, field_count, kind_of_field, word_of_field, value_at, content_of, is_reference, is_weak, is_pair, is_plain}
use Rattle.gc_graph.specs.May.{read_node}
use Rattle.gc_graph.specs.Outcomes.{answered, slot_at, with_slot}
use Rattle.gc_graph.specs.ObjectSteps.{first_word, with_node, StepSet, StepPair, StepPut, StepGet, StepKey, StepVal, StepWord, part_of, IsNumber, IsRead}
use Rattle.gc_graph.specs.AccessLaw.{IsGiven, beside}
use Rattle.gc_graph.specs.Valid.{IsValid}
use Rattle.gc_graph.specs.NodeNumbers.{live_below}
use Rattle.gc_graph.proofs.Sound.{sound_from}
use Rattle.gc_graph.proofs.ValidHandles.{slot_is_root}
use Rattle.gc_graph.proofs.ValidCases.{IsFound}
use Rattle.gc_graph.proofs.FieldWrites.{with_values}
use Rattle.gc_graph.proofs.FieldPlaces.{words_within, ok_field, then_field}

-- ---- what a read gives

read_slots : (weak : Bool) (s : State) (n : ℕ) → (read_node weak s n).slots ≡ s.slots
read_slots true s n = refl
read_slots false s n = refl

-- the slot of the state that this was put into
pub slot_put : (new s : State) (r : ℕ) (content : Option ℕ) (slots : List (Option ℕ)) → new ≡ answered (with_slot s r content) → s.slots ≡ slots
    → r < length slots → slot_at new r ≡ content
slot_put new s r content slots e same l =
    ap (λ (x : State). slot_at x r) e ∙ get_or-set_same s.slots r content None (subst (λ ss. r < length ss) (sym same) l)

pub given : (weak : Bool) (s new : State) (content : Option ℕ) (r : ℕ) (lines : List Line) → r < length s.slots
    → IsRead weak s (content_of content) r lines new → IsGiven content r lines new
given weak s new None r lines l h = (h.0, slot_put new s r None s.slots h.1 refl l)
given weak s new (Some n) r lines l h = (h.0, slot_put new (read_node weak s n) r (Some n) s.slots h.1 (read_slots weak s n) l)

-- ---- a written object

module _ (setup : Setup) (old mid : State) (p n : ℕ) (values : List Value) (valid : IsValid setup old) (slot : slot_at old p ≡ Some n)
    (after : mid ≡ answered (with_node old n (with_values (node_at old.nodes n) values))) where
  below : n < length old.nodes
  below = live_below old.nodes n (slot_is_root setup old p n (sound_from setup old valid) slot).live

  at : node_at mid.nodes n ≡ with_values (node_at old.nodes n) values
  at = ap (λ (s : State). node_at s.nodes n) after ∙ get_or-set_same old.nodes n (with_values (node_at old.nodes n) values) no_node below

  slots_stay : mid.slots ≡ old.slots
  slots_stay = ap (λ (s : State). s.slots) after

  room : (r : ℕ) → r < length old.slots → r < length mid.slots
  room r l = subst (λ ss. r < length ss) (sym slots_stay) l

  still_found : (allowed : Kind → Bool) (f : ℕ) → IsFound allowed old p f n → IsFound allowed mid p f n
  still_found allowed f found = record {
    slot = ap (λ slots. get_or slots p None) slots_stay ∙ slot;
    there = subst (λ (x : Node). f < field_count x) (sym at) found.there;
    allows = ap (λ (x : Node). allowed (kind_of_field x.object f)) at ∙ found.allows;
  }

  word_is : (f k : ℕ) → value_at (node_at mid.nodes n) (first_word mid n f + k) ≡ get_or values (first_word old n f + k) Null
  word_is f k = ap (λ (x : Node). value_at x (word_of_field x.object f + k)) at

  first_is : (f : ℕ) → value_at (node_at mid.nodes n) (first_word mid n f) ≡ get_or values (first_word old n f) Null
  first_is f = ap (λ (x : Node). value_at x (word_of_field x.object f)) at

-- the words of a field that was found lie within its object
found_within : (setup : Setup) (s : State) (allowed : Kind → Bool) (p f n : ℕ) → IsValid setup s → IsFound allowed s p f n
    → first_word s n f + words_of_kind (kind_of_field (node_at s.nodes n).object f) ≤ length (node_at s.nodes n).object.values
found_within setup s allowed p f n valid found =
    words_within setup (length s.nodes) (node_at s.nodes n) f
    (valid.typed n no_node (live_below s.nodes n (slot_is_root setup s p n (sound_from setup s valid) found.slot).live)) found.there

pub one_or_more : (kind : Kind) → 1 ≤ words_of_kind kind
one_or_more Strong = omega arith
one_or_more Weak = omega arith
one_or_more Pair = omega arith
one_or_more Plain = omega arith

pub two_in_pair : (kind : Kind) → is_pair kind ≡ true → words_of_kind kind ≡ 2
two_in_pair Strong e = absurd (true≢false (sym e))
two_in_pair Weak e = absurd (true≢false (sym e))
two_in_pair Pair e = refl
two_in_pair Plain e = absurd (true≢false (sym e))

first_within : (setup : Setup) (s : State) (allowed : Kind → Bool) (p f n : ℕ) → IsValid setup s → IsFound allowed s p f n
    → first_word s n f < length (node_at s.nodes n).object.values
first_within setup s allowed p f n valid found =
    omega (arith, found_within setup s allowed p f n valid found, one_or_more (kind_of_field (node_at s.nodes n).object f))

second_within : (setup : Setup) (s : State) (p f n : ℕ) → IsValid setup s → IsFound is_pair s p f n
    → first_word s n f + 1 < length (node_at s.nodes n).object.values
second_within setup s p f n valid found =
    omega (arith, found_within setup s is_pair p f n valid found, two_in_pair (kind_of_field (node_at s.nodes n).object f) found.allows)

-- ---- fields

part_is : (first second : Option ℕ) → part_of first second ≡ content_of (beside first second)
part_is None second = refl
part_is (Some n) None = refl
part_is (Some n) (Some m) = refl

module _ (setup : Setup) (old mid new : State) (valid : IsValid setup old) where
  pub set_given : (p f r : ℕ) (content : Option ℕ) (lines : List Line) → r < length old.slots → StepSet old p f (content_of content) (L.Fine ∷ []) mid
      → StepGet mid p f r lines new → IsGiven content r lines new
  set_given p f r content lines l h k =
      let d = ok_field is_reference old mid p f _ h in
      let n : ℕ = d.0 in
      let found : IsFound is_reference old p f n = d.1 in
      let values : List Value = set (node_at old.nodes n).object.values (first_word old n f) (content_of content) in
      let still = still_found setup old mid p n values valid found.slot d.2.1 is_reference f found in
      let is = first_is setup old mid p n values valid found.slot d.2.1 f ∙ get_or-set_same (node_at old.nodes n).object.values (first_word old n f)
      (content_of content) Null (first_within setup old is_reference p f n valid found) in
      let weak : Bool = is_weak (kind_of_field (node_at mid.nodes n).object f) in
      given weak mid new content r lines (room setup old mid p n values valid found.slot d.2.1 r l)
      (subst (λ v. IsRead weak mid v r lines new) is (then_field is_reference mid new p f n lines _ still k))

  pub put_read : (p f w : ℕ) (lines : List Line) → StepPut old p f w (L.Fine ∷ []) mid → StepWord mid p f lines new → lines ≡ L.Word w ∷ []
  put_read p f w lines h k =
      let d = ok_field is_plain old mid p f _ h in
      let n : ℕ = d.0 in
      let found : IsFound is_plain old p f n = d.1 in
      let values : List Value = set (node_at old.nodes n).object.values (first_word old n f) (Word w) in
      let still = still_found setup old mid p n values valid found.slot d.2.1 is_plain f found in
      let is = first_is setup old mid p n values valid found.slot d.2.1 f ∙ get_or-set_same (node_at old.nodes n).object.values (first_word old n f)
      (Word w) Null (first_within setup old is_plain p f n valid found) in
      (subst (λ v. IsNumber mid v lines new) is (then_field is_plain mid new p f n lines _ still k)).0

  -- what a pair holds
  pair_values : ℕ → ℕ → Option ℕ → Option ℕ → List Value
  pair_values n f key value =
      set (set (node_at old.nodes n).object.values (first_word old n f) (part_of key value)) (first_word old n f + 1) (part_of value key)

  pub key_given : (p f r : ℕ) (key value : Option ℕ) (lines : List Line) → r < length old.slots → StepPair old p f key value (L.Fine ∷ []) mid
      → StepKey mid p f r lines new → IsGiven (beside key value) r lines new
  unfolding pair_values
  key_given p f r key value lines l h k =
      let d = ok_field is_pair old mid p f _ h in
      let n : ℕ = d.0 in
      let found : IsFound is_pair old p f n = d.1 in
      let values : List Value = pair_values n f key value in
      let still = still_found setup old mid p n values valid found.slot d.2.1 is_pair f found in
      let is = first_is setup old mid p n values valid found.slot d.2.1 f
      ∙ get_or-set_other (set (node_at old.nodes n).object.values (first_word old n f) (part_of key value)) (first_word old n f + 1) (first_word old n f)
      (part_of value key) Null (λ e. omega (arith, e))
      ∙ get_or-set_same (node_at old.nodes n).object.values (first_word old n f) (part_of key value) Null (first_within setup old is_pair p f n valid found)
      ∙ part_is key value in
      given true mid new (beside key value) r lines (room setup old mid p n values valid found.slot d.2.1 r l)
      (subst (λ v. IsRead true mid v r lines new) is (then_field is_pair mid new p f n lines _ still k))

  pub value_given : (p f r : ℕ) (key value : Option ℕ) (lines : List Line) → r < length old.slots → StepPair old p f key value (L.Fine ∷ []) mid
      → StepVal mid p f r lines new → IsGiven (beside value key) r lines new
  unfolding pair_values
  value_given p f r key value lines l h k =
      let d = ok_field is_pair old mid p f _ h in
      let n : ℕ = d.0 in
      let found : IsFound is_pair old p f n = d.1 in
      let firsts : List Value = set (node_at old.nodes n).object.values (first_word old n f) (part_of key value) in
      let values : List Value = pair_values n f key value in
      let still = still_found setup old mid p n values valid found.slot d.2.1 is_pair f found in
      let long = length-set (node_at old.nodes n).object.values (first_word old n f) (part_of key value) in
      let inside = second_within setup old p f n valid found in
      let is = word_is setup old mid p n values valid found.slot d.2.1 f 1
      ∙ get_or-set_same firsts (first_word old n f + 1) (part_of value key) Null (omega (arith, long, inside)) ∙ part_is value key in
      given true mid new (beside value key) r lines (room setup old mid p n values valid found.slot d.2.1 r l)
      (subst (λ v. IsRead true mid v r lines new) is (then_field is_pair mid new p f n lines _ still k))
