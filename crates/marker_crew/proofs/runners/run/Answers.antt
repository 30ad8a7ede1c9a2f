use Rattle.std.proofs.Common.{◌≡◌, ◌+◌, length, sym, ap, ◌∙◌, subst, inl, inr, arith}
use Rattle.page_words.specs.Seat.{Heap}
use Rattle.mark_worklist.specs.Shares.{taken_by_share}
use Rattle.marker_crew.specs.Crews.{Marker, HasDrained}
use Rattle.marker_crew.proofs.runners.run.Goals as goal

pub returns : goal.returns
returns g c =
    let count : c.count.result ≡ c.begun.inside.seat.count =
    c.count.ensures.count ∙ ap (λ (x : Heap). x.count) (sym c.requires.heap) ∙ ap (λ (x : Marker). x.seat.count) (sym c.begun.view_is) in
    subst (λ (b : Marker). HasDrained b (record {
      seat = c.drain-drained.new.seat;
      share = c.drain-drained.new.share;
      notes = c.drain-drained.new.notes;
      drained = c.drain-drained.result;
    })) c.begun.view_is (record {
      works = c.drain-drained.ensures.works;
      taken = c.drain-drained.ensures.taken;
      hand = c.drain-drained.ensures.hand;
      most = omega (arith, c.drain-drained.ensures.most, count);
      done = c.drain-drained.ensures.done;
      more = λ told. elim (c.drain-drained.ensures.more told) [
        | inl halted ↦ inl halted
        | inr all ↦ inr (all ∙ ap (λ n. length (taken_by_share c.begun.inside.share) + n) count)
      ];
    })
