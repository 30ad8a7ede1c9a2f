-- One handle of a body cleared.
use Rattle.std.proofs.Common.{◌≡◌, ℕ, zero, suc, not, ◌+◌, ◌-◌, ◌≤◌, Bool, true, false, cond, List, get_or, set, refl, sym, ap, ◌∙◌, subst, inl, inr, arith, eqb}
use Rattle.std.specs.List.{Contains}
use Rattle.std.proofs.lemmas.Bool.{cases_Bool, cond_both, cond-true, cond-false, eqb-true}
use Rattle.gc_graph.specs.declared.kind.Kind.{Kind}
use Rattle.gc_graph.specs.declared.kind.Kind.TheVariants.{Weak, Pair}
use Rattle.type_table.specs.Types.{declared_kinds, offsets_of_kind}
use Rattle.marker_core.specs.Bodies.{IsReference, holds}
use Rattle.marker_core.specs.declared.states.Body.{Body}
use Rattle.page_words.specs.Seat.{SeatView, with_bodies}
use Rattle.member_fields.specs.Words.{HasFieldWord, HasPair, IsWordIn, with_word_in, written, pair_written}
use Rattle.weak_clearing.specs.declared.weak_handles.WeakHandles.{WeakHandles}
use Rattle.weak_clearing.specs.declared.weak_handles.WeakHandles.TheVariants.{Fields, Pairs}
use Rattle.weak_clearing.specs.Clearing.{names_unmarked}
use Rattle.weak_clearing.specs.Steps.{HasHandle, nulled, words_cleared_at, clear_handle_in, handle_cleared}
use Rattle.weak_clearing.proofs.Lists.{map_same, map_after, map_stays}

-- ---- what a reference names

pub names_none : (marked : List ℕ) (w : ℕ) → w ≡ 0 → names_unmarked marked w ≡ false
names_none marked w null = ap (names_unmarked marked) null

pub names_one : (marked : List ℕ) (w : ℕ) → (w ≡ 0 → ⊥) → names_unmarked marked w ≡ not (holds marked (w - 1))
names_one marked zero some = absurd (some refl)
names_one marked (suc place) some =
    let same : place ≡ suc place - 1 = omega arith in
    ap (λ p. not (holds marked p)) same

-- ---- a handle is a weak field's word, or a pair

pub field_word : (is_so : Kind → Bool) (v : SeatView) (holder word : ℕ) → is_so Weak ≡ true → HasHandle Fields v holder word → HasFieldWord is_so v holder word
field_word is_so v holder word passes has = record {
  body = has.body;
  there = has.there;
  place = has.place;
  first = has.first;
  last = omega (arith, has.last);
  kind = ap is_so has.kind ∙ passes;
}

pub whole_pair : (v : SeatView) (holder word : ℕ) → HasHandle Pairs v holder word → HasPair v holder word
whole_pair v holder word has =
    let same : word ≡ word - 2 + 2 = omega (arith, has.first) in
    record {
      body = has.body;
      there = has.there;
      place = has.place;
      first = has.first;
      last = omega (arith, has.last);
      key = subst (Contains (offsets_of_kind Pair (declared_kinds v.types has.body.ty))) same has.told;
    }

-- what is read of its first word is a reference
pub reads_reference : (handles : WeakHandles) (v : SeatView) (holder word w : ℕ) → HasHandle handles v holder word → IsWordIn v holder word w → IsReference v.bodies w
reads_reference handles v holder word w has is = subst (IsReference v.bodies) (sym (is has.body has.there has.place)) has.reference

-- ---- what is left of it

-- what is done to the body at a place, and then again
pub at_twice : (place : ℕ) (f g : Body → Body) (b : Body) → (g b).place ≡ b.place
    → (let c : Body = cond (eqb b.place place) (g b) b in cond (eqb c.place place) (f c) c) ≡ cond (eqb b.place place) (f (g b)) b
at_twice place f g b same =
    let again : Body → Body = λ x. cond (eqb x.place place) (f x) x in
    elim (cases_Bool (eqb b.place place)) [
      | inl here ↦ ap again (cond-true (eqb b.place place) (g b) b here)
          ∙ cond-true (eqb (g b).place place) (f (g b)) (g b) (ap (λ n. eqb n place) same ∙ here)
          ∙ sym (cond-true (eqb b.place place) (f (g b)) b here)
      | inr off ↦ ap again (cond-false (eqb b.place place) (g b) b off) ∙ cond-false (eqb b.place place) (f b) b off
          ∙ sym (cond-false (eqb b.place place) (f (g b)) b off)
    ]

module _ (v : SeatView) (holder word w : ℕ) (is : IsWordIn v holder word w) where
  named_by : (t : Bool) (b : Body) → Contains v.bodies b → names_unmarked v.marked w ≡ t → eqb b.place holder ≡ true
      → names_unmarked v.marked (get_or b.fields (word - 2) 0) ≡ t
  named_by t b there named here = ap (names_unmarked v.marked) (sym (is b there (eqb-true b.place holder here))) ∙ named

  kept : (handles : WeakHandles) (b : Body) → Contains v.bodies b → names_unmarked v.marked w ≡ false → clear_handle_in handles v.marked holder word b ≡ b
  kept handles b there named =
      cond_both (eqb b.place holder) (record b { fields = words_cleared_at handles v.marked (word - 2) b.fields }) b (λ c. c ≡ b)
      (λ here. ap (λ t. (let x : Body = record b { fields = cond t (nulled handles (word - 2) b.fields) b.fields } in x)) (named_by false b there named here))
      (λ _. refl)

  -- a handle that names no unmarked body stays
  pub handle_stays : (handles : WeakHandles) → names_unmarked v.marked w ≡ false → v ≡ handle_cleared handles v holder word
  handle_stays handles named =
      ap (λ (bs : List Body). with_bodies v bs)
      (sym (map_stays (clear_handle_in handles v.marked holder word) v.bodies (λ b there. kept handles b there named)))

  null_body : (handles : WeakHandles) (b : Body) → Contains v.bodies b → names_unmarked v.marked w ≡ true
      → cond (eqb b.place holder) (record b { fields = nulled handles (word - 2) b.fields }) b ≡ clear_handle_in handles v.marked holder word b
  null_body handles b there named =
      let null : Body = record b { fields = nulled handles (word - 2) b.fields } in
      let cleared : Body = record b { fields = words_cleared_at handles v.marked (word - 2) b.fields } in
      with_flag (eqb b.place holder) null cleared b
      (λ here. ap (λ t. (let x : Body = record b { fields = cond t (nulled handles (word - 2) b.fields) b.fields } in x)) (sym (named_by true b there named here))) where
        with_flag : (t : Bool) (x y z : Body) → (t ≡ true → x ≡ y) → cond t x z ≡ cond t y z
        with_flag true x y z same = same refl
        with_flag false x y z same = refl

  -- a weak field that names one becomes null
  pub field_nulled : names_unmarked v.marked w ≡ true → written v holder word 0 ≡ handle_cleared Fields v holder word
  field_nulled named =
      ap (λ (bs : List Body). with_bodies v bs)
      (map_same (with_word_in holder word 0) (clear_handle_in Fields v.marked holder word) v.bodies (λ b there. null_body Fields b there named))

  -- and so do both words of a pair whose key names one
  pub pair_nulled : 2 ≤ word → names_unmarked v.marked w ≡ true → pair_written v holder word 0 0 ≡ handle_cleared Pairs v holder word
  pair_nulled first named =
      ap (λ (bs : List Body). with_bodies v bs)
      (map_after (with_word_in holder word 0) (with_word_in holder (word + 1) 0) v.bodies
      ∙ map_same (λ b. with_word_in holder word 0 (with_word_in holder (word + 1) 0 b)) (clear_handle_in Pairs v.marked holder word) v.bodies
      (λ b there. both_words b ∙ null_body Pairs b there named)) where
        next : word + 1 - 2 ≡ word - 2 + 1
        next = omega (arith, first)

        both_words : (b : Body) → with_word_in holder word 0 (with_word_in holder (word + 1) 0 b)
            ≡ cond (eqb b.place holder) (record b { fields = nulled Pairs (word - 2) b.fields }) b
        both_words b =
            at_twice holder (λ x. record x { fields = set x.fields (word - 2) 0 }) (λ x. record x { fields = set x.fields (word + 1 - 2) 0 }) b refl
            ∙ ap (λ i. cond (eqb b.place holder) (record b { fields = set (set b.fields i 0) (word - 2) 0 }) b) next
