-- The mark that a barrier sets.
use Rattle.std.proofs.Common.{◌≡◌, ℕ, ◌+◌, ◌-◌, true, false, not, cond, ◌&&◌, eqb, sym, ap, ◌∙◌, subst, true≢false, arith}
use Rattle.std.proofs.lemmas.Bool.{ne_eqb}
use Rattle.mark_worklist.specs.Refusals.{PushesOrTells, TellsRefused, refusals_of}
use Rattle.mark_worklist.specs.declared.marking.Marking.{Marking}
use Rattle.marker_core.specs.Bodies.{holds}
use Rattle.page_words.specs.Seat.{SeatView, marked_at}
use Rattle.member_fields.specs.Barrier.{HasBarrier, asks_for_mark}

pub fresh_barrier : (v s : SeatView) (m n : Marking) (w a : ℕ) → v.on ≡ true → w ≡ a + 1 → s ≡ marked_at v a false
    → (v.lent ≡ 0 → true ≡ not (holds v.marked a)) → PushesOrTells m n a → TellsRefused (refusals_of m) (refusals_of n) → HasBarrier w v m s n
fresh_barrier v s m n w a on names view alone listed told =
    let at : a ≡ w - 1 = omega (arith, names) in
    let wanted : asks_for_mark v w ≡ true = ap (λ b. b && not (eqb w 0)) on ∙ ap not (ne_eqb w 0 (λ null. omega (arith, null, names))) in
    record {
      fresh = true;
      wanted = λ _. wanted;
      alone = λ lent. alone lent ∙ ap (λ p. not (holds v.marked p)) at ∙ sym (ap (λ b. b && not (holds v.marked (w - 1))) wanted);
      marked = view ∙ ap (λ p. marked_at v p false) at ∙ sym (ap (λ b. cond b (marked_at v (w - 1) false) v) wanted);
      listed = λ _. subst (PushesOrTells m n) at listed;
      unlisted = λ stale. absurd (true≢false stale);
      told = told;
    }
