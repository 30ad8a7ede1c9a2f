-- The parts of the calls on pairs: what holds between the value's store and the key's.
use Rattle.std.proofs.Common.{◌≡◌, ℕ, ◌+◌, ◌-◌, Bool, true, false, not, cond, ◌&&◌, List, map, eqb, refl, sym, ap, ◌∙◌, subst, inl, inr}
use mathlib.Core.Logic.{◌⊎◌}
use Rattle.std.specs.Prelude.{◌↔◌}
use Rattle.std.proofs.lemmas.Bool.{cases_eq, ne_eqb, true≢false}
use Rattle.gc_graph.specs.Members.{pushed_is_held}
use Rattle.mark_worklist.specs.declared.marking.Marking.{Marking}
use Rattle.gc_graph.specs.declared.kind.Kind.TheVariants.{Pair}
use Rattle.type_table.specs.FieldLaw.{FieldsStandApart}
use Rattle.type_table.specs.Types.{is_kind}
use Rattle.marker_core.specs.declared.states.Body.{Body}
use Rattle.marker_core.specs.Bodies.{IsReference, holds, with_word}
use Rattle.page_words.specs.Seat.{SeatView, IsView, stored, rewritten, marked_at, with_bodies}
use Rattle.member_fields.specs.Words.{HasWordOfSomeKind, HasPair, IsWordIn, with_word_in, written, pair_written}
use Rattle.member_fields.specs.Barrier.{IsReadyToStore, MayKeep, MayKeepNamed, HasBarrier, asks_for_mark}
use Rattle.member_fields.specs.Keys.{TakesKey}
use Rattle.member_fields.proofs.PairWords.{one_value, key_word, value_word, kinds_of_pairs, pair_kept, reference_kept}
use Rattle.member_fields.proofs.Writes.{rewritten_word, word_written}
use Rattle.member_fields.proofs.Stored.{null_written}
use Rattle.member_fields.proofs.Barriers.{over_written, ready_marked}

-- ---- a key after its value

seen_marked : (v : SeatView) (value : ℕ) (was wanted : Bool) → asks_for_mark v value ≡ wanted → v.on ≡ true
    → (value ≡ 0) ⊎ (holds (cond wanted (marked_at v (value - 1) was) v).seen (value - 1) ≡ true)
seen_marked v value was true is on = inr (pushed_is_held v.seen (value - 1))
seen_marked v value was false is on = elim (cases_eq value 0) [
  | inl null ↦ inl null
  | inr some ↦ absurd (true≢false (sym (ap (λ b. b && not (eqb value 0)) on ∙ ap not (ne_eqb value 0 some)) ∙ is))
]

-- what holds of the view once the value was stored and marked
takes_marked : (v : SeatView) (holder word key value a : ℕ) (was wanted : Bool) → IsReadyToStore v → HasPair v holder word → MayKeep v holder
    → IsReference v.bodies key → MayKeepNamed v key → IsWordIn v holder (word + 1) value → (key ≡ 0) ↔ (value ≡ 0)
    → (v.on ≡ true → (value ≡ 0) ⊎ (holds (cond wanted (marked_at v a was) v).seen (value - 1) ≡ true))
    → TakesKey (cond wanted (marked_at v a was) v) holder word key
takes_marked v holder word key value a was false ready pair own reference kept is both seen = record {
  ready = ready;
  pair = pair;
  holder_kept = own;
  names = reference;
  key_kept = kept;
  both = λ told in_it. one_value v holder word key value told pair is in_it both;
  seen = λ told in_it on.
      subst (λ w. (w ≡ 0) ⊎ (holds v.seen (w - 1) ≡ true)) (is pair.body pair.there pair.place ∙ sym (in_it pair.body pair.there pair.place)) (seen on);
}
takes_marked v holder word key value a was true ready pair own reference kept is both seen = record {
  ready = ready_marked v a was true ready;
  pair = record { body = pair.body; there = pair.there; place = pair.place; first = pair.first; last = pair.last; key = pair.key };
  holder_kept = own;
  names = reference;
  key_kept = kept;
  both = λ told in_it. one_value v holder word key value told pair is in_it both;
  seen = λ told in_it on.
      subst (λ w. (w ≡ 0) ⊎ (holds (marked_at v a was).seen (w - 1) ≡ true)) (is pair.body pair.there pair.place ∙ sym (in_it pair.body pair.there pair.place)) (seen on);
}

pub takes_key : (value : ℕ) (v : SeatView) (m : Marking) (s : SeatView) (n : Marking) (holder word key : ℕ) → HasBarrier value v m s n → IsReadyToStore v
    → HasPair v holder word → MayKeep v holder → IsReference v.bodies key → MayKeepNamed v key → IsWordIn v holder (word + 1) value
    → (key ≡ 0) ↔ (value ≡ 0) → TakesKey s holder word key
takes_key value v m s n holder word key h ready pair own reference kept is both =
    subst (λ (u : SeatView). TakesKey u holder word key) (sym h.marked)
    (takes_marked v holder word key value (value - 1) (not h.fresh) (asks_for_mark v value) ready pair own reference kept is both
    (seen_marked v value (not h.fresh) (asks_for_mark v value) refl))

-- ---- the parts of the call on pairs

-- the view in which the value of the pair alone was written
abbrev pub value_written : SeatView → ℕ → ℕ → ℕ → SeatView
value_written v holder word value = written v holder (word + 1) value

pub has_value : FieldsStandApart → (v : SeatView) (holder word : ℕ) → HasPair v holder word → HasWordOfSomeKind v holder (word + 1)
has_value law v holder word pair = (is_kind Pair, value_word v holder word (kinds_of_pairs law v) pair)

pub value_barrier : FieldsStandApart → (v : SeatView) (holder word value : ℕ) (m : Marking) (first s : SeatView) (n : Marking) → IsView v → HasPair v holder word
    → IsReadyToStore v → first ≡ stored v (holder + (word + 1)) value → HasBarrier value first m s n
    → HasBarrier value (value_written v holder word value) m s n
value_barrier law v holder word value m first s n is pair ready e h =
    over_written v holder (word + 1) value m s n is (has_value law v holder word pair) ready.no_pending
    (subst (λ (u : SeatView). HasBarrier value u m s n) e h)

pub pair_takes : FieldsStandApart → (v : SeatView) (holder word key value : ℕ) (m : Marking) (s : SeatView) (n : Marking) → IsView v → HasPair v holder word
    → IsReadyToStore v → MayKeep v holder → IsReference v.bodies key → MayKeepNamed v key → (key ≡ 0) ↔ (value ≡ 0)
    → HasBarrier value (value_written v holder word value) m s n → TakesKey s holder word key
pair_takes law v holder word key value m s n is pair ready own reference kept both h =
    takes_key value (value_written v holder word value) m s n holder word key h
    (record { no_hand = ready.no_hand; no_pending = ready.no_pending }) (pair_kept v holder word holder (word + 1) value pair) own
    (reference_kept v holder (word + 1) value key reference) kept (word_written v is holder (word + 1) value (has_value law v holder word pair)) both

pair_stored : (v : SeatView) (holder word value : ℕ) → HasPair (rewritten v (holder + (word + 1)) value) holder word
    → HasPair (stored v (holder + (word + 1)) value) holder word
pair_stored v holder word value pair =
    record { body = pair.body; there = pair.there; place = pair.place; first = pair.first; last = pair.last; key = pair.key }

-- both words by their addresses, where the bodies lie apart once the value was stored
pub pair_addresses : FieldsStandApart → (v : SeatView) (holder word key value : ℕ) (first : SeatView) → IsView v → IsView first → HasPair v holder word
    → first ≡ stored v (holder + (word + 1)) value
    → pair_written v holder word key value ≡ rewritten (rewritten v (holder + (word + 1)) value) (holder + word) key
pair_addresses law v holder word key value first is is_first pair e =
    let a : ℕ = holder + (word + 1) in
    let mid : value_written v holder word value ≡ rewritten v a value =
    sym (rewritten_word v holder (word + 1) value is (has_value law v holder word pair)) in
    let bodies : first.bodies ≡ (value_written v holder word value).bodies =
    ap (λ (u : SeatView). u.bodies) e ∙ sym (ap (λ (u : SeatView). u.bodies) mid) in
    let last : HasPair first holder word =
    subst (λ (u : SeatView). HasPair u holder word) (sym e)
    (pair_stored v holder word value (subst (λ (u : SeatView). HasPair u holder word) mid (pair_kept v holder word holder (word + 1) value pair))) in
    let key_last : (rewritten first (holder + word) key).bodies ≡ (written first holder word key).bodies =
    ap (λ (u : SeatView). u.bodies)
    (rewritten_word first holder word key is_first (is_kind Pair, key_word first holder word (kinds_of_pairs law first) last)) in
    sym (ap (λ (u : SeatView). rewritten u (holder + word) key) (sym mid)
    ∙ ap (λ (bodies : List Body). with_bodies v bodies)
    (sym (ap (λ (bodies : List Body). map (with_word (holder + word) key) bodies) bodies) ∙ key_last
    ∙ ap (λ (bodies : List Body). map (with_word_in holder word key) bodies) bodies))

-- ---- the call that clears a pair

pub value_nulled : FieldsStandApart → (v : SeatView) (holder word : ℕ) (first : SeatView) → IsView v → HasPair v holder word
    → first ≡ stored v (holder + (word + 1)) 0 → first ≡ value_written v holder word 0
value_nulled law v holder word first is pair e = e ∙ null_written v holder (word + 1) is (has_value law v holder word pair)

-- a null key goes beside a null value
pub takes_nothing : FieldsStandApart → (v : SeatView) (holder word : ℕ) → IsView v → IsReadyToStore v → HasPair v holder word → MayKeep v holder
    → TakesKey (value_written v holder word 0) holder word 0
takes_nothing law v holder word is ready pair own =
    takes_marked (value_written v holder word 0) holder word 0 0 0 true false (record { no_hand = ready.no_hand; no_pending = ready.no_pending })
    (pair_kept v holder word holder (word + 1) 0 pair) own (inl refl) (λ on. inl refl)
    (word_written v is holder (word + 1) 0 (has_value law v holder word pair)) (λ e. e, λ e. e) (λ on. inl refl)
