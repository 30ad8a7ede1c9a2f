-- What the barrier of a store makes of the view.
use Rattle.std.proofs.Common.{◌≡◌, ℕ, ◌+◌, ◌-◌, Bool, true, false, not, cond, ◌&&◌, None, eqb, refl, sym, ap, ◌∙◌, subst, inl, inr}
use Rattle.std.proofs.lemmas.Bool.{cases_Bool, true≢false}
use Rattle.mark_worklist.specs.declared.marking.Marking.{Marking}
use Rattle.marker_core.specs.Hands.{hand_after_mark, each_hand}
use Rattle.marker_core.specs.SeatSteps.{settled}
use Rattle.page_words.specs.Roles.{kind_lists}
use Rattle.page_words.specs.Seat.{SeatView, IsView, stored, marked_at}
use Rattle.member_fields.specs.Words.{HasWordOfSomeKind, written}
use Rattle.member_fields.specs.Barrier.{IsReadyToStore, HasBarrier, asks_for_mark}
use Rattle.member_fields.proofs.Stored.{barrier_over}

pub unwanted_off : (v : SeatView) (w : ℕ) → v.on ≡ false → asks_for_mark v w ≡ false
unwanted_off v w off = ap (λ on. on && not (eqb w 0)) off

-- ---- what it leaves

pub off_stays : (w : ℕ) (v : SeatView) (m : Marking) (s : SeatView) (n : Marking) → v.on ≡ false → HasBarrier w v m s n → (s ≡ v) × (n ≡ m)
off_stays w v m s n off h =
    let none : asks_for_mark v w ≡ false = unwanted_off v w off in
    let stale : h.fresh ≡ false = elim (cases_Bool h.fresh) [ inl is ↦ absurd (true≢false (sym (h.wanted is) ∙ none)) | inr is ↦ is ] in
    (h.marked ∙ ap (λ b. cond b (marked_at v (w - 1) (not h.fresh)) v) none, h.unlisted stale)

pub ready_marked : (v : SeatView) (a : ℕ) (was wanted : Bool) → IsReadyToStore v → IsReadyToStore (cond wanted (marked_at v a was) v)
ready_marked v a was false ready = ready
ready_marked v a was true ready = record {
  no_hand = ap (each_hand (hand_after_mark (kind_lists v.types) a)) ready.no_hand;
  no_pending = ap (λ p. settled p a) ready.no_pending;
}

pub ready_after : (w : ℕ) (v : SeatView) (m : Marking) (s : SeatView) (n : Marking) → IsReadyToStore v → HasBarrier w v m s n → IsReadyToStore s
ready_after w v m s n ready h = subst IsReadyToStore (sym h.marked) (ready_marked v (w - 1) (not h.fresh) (asks_for_mark v w) ready)

bodies_marked : (v : SeatView) (a : ℕ) (was wanted : Bool) → (cond wanted (marked_at v a was) v).bodies ≡ v.bodies
bodies_marked v a was false = refl
bodies_marked v a was true = refl

pub bodies_after : (w : ℕ) (v : SeatView) (m : Marking) (s : SeatView) (n : Marking) → HasBarrier w v m s n → s.bodies ≡ v.bodies
bodies_after w v m s n h = ap (λ (u : SeatView). u.bodies) h.marked ∙ bodies_marked v (w - 1) (not h.fresh) (asks_for_mark v w)

heap_marked : (v : SeatView) (a : ℕ) (was wanted : Bool) → (cond wanted (marked_at v a was) v).heap ≡ v.heap
heap_marked v a was false = refl
heap_marked v a was true = refl

pub heap_after : (w : ℕ) (v : SeatView) (m : Marking) (s : SeatView) (n : Marking) → HasBarrier w v m s n → s.heap ≡ v.heap
heap_after w v m s n h = ap (λ (u : SeatView). u.heap) h.marked ∙ heap_marked v (w - 1) (not h.fresh) (asks_for_mark v w)

-- ---- over the view in which the words were written

pub over_written : (v : SeatView) (holder word w : ℕ) (m : Marking) (s : SeatView) (n : Marking) → IsView v → HasWordOfSomeKind v holder word
    → v.pending ≡ None → HasBarrier w (stored v (holder + word) w) m s n → HasBarrier w (written v holder word w) m s n
over_written v holder word w m s n is has none h = record {
  fresh = h.fresh;
  wanted = h.wanted;
  alone = h.alone;
  marked = barrier_over v holder word w s is has none (not h.fresh) h.marked;
  listed = h.listed;
  unlisted = h.unlisted;
  told = h.told;
}

written_marked : (v : SeatView) (a : ℕ) (was wanted : Bool) (holder word w : ℕ)
    → written (cond wanted (marked_at v a was) v) holder word w ≡ cond wanted (marked_at (written v holder word w) a was) (written v holder word w)
written_marked v a was false holder word w = refl
written_marked v a was true holder word w = refl

-- a key that was written after the barrier leaves it
pub key_after : (value : ℕ) (v : SeatView) (m : Marking) (s : SeatView) (n : Marking) (holder word key : ℕ) (t : SeatView) → HasBarrier value v m s n
    → t ≡ written s holder word key → HasBarrier value (written v holder word key) m t n
key_after value v m s n holder word key t h e = record {
  fresh = h.fresh;
  wanted = h.wanted;
  alone = h.alone;
  marked =
      e
      ∙ ap (λ (u : SeatView). written u holder word key) h.marked
      ∙ written_marked v (value - 1) (not h.fresh) (asks_for_mark v value) holder word key;
  listed = h.listed;
  unlisted = h.unlisted;
  told = h.told;
}
