use Rattle.std.proofs.Common.{rules, arith, ◌≡◌, ℕ, ◌+◌, List, subst, sym, ap, ◌∙◌}
use Rattle.page_words.specs.Seat.{SeatView}
use Rattle.pair_notes.specs.Marking.{traced_count}
use Rattle.pair_notes.specs.Notes.{NotesState, IsNotedIn}
use Rattle.ephemerons.specs.Fixpoint.{IsGround, stage}
use Rattle.ephemerons.proofs.Ends.{few_untraced}
use Rattle.ephemerons.proofs.TrueOfViews.{are_references, traced_name_marked}
use Rattle.ephemerons.proofs.closing.fixpoint.Goals as goal

pub close-requires : goal.close-requires
close-requires g c = record {
  ready = record {
    heap = c.requires.heap;
    ground =
        subst (λ (gs : List NotesState). IsGround c.args.types.now (stage c.args.seat.now c.args.marking.now gs 0)) (sym c.begin_indexes.ensures) (record {
          on = c.requires.on;
          told = c.requires.marking ∙ c.requires.on;
          whole = c.requires.whole;
          known = sym c.requires.types;
          alone = c.requires.alone;
          references = are_references c.args.seat.now c.bodies_lie_apart.ensures c.requires.on c.args.types.now (sym c.requires.types);
          traced_name_marked =
              traced_name_marked c.args.seat.now c.bodies_lie_apart.ensures c.requires.on c.args.types.now (sym c.requires.types) c.requires.alone;
          listed = c.requires.listed;
          noted = c.requires.noted;
          own = c.requires.own;
          few = omega (arith, few_untraced c.args.seat.now c.bodies_lie_apart.ensures);
        });
  };
}

-- what was counted of the seat behind the tracer is so of the seat that was lent to it
counted_behind : (u v w : SeatView) (n : ℕ) → w ≡ v → traced_count v + 0 ≡ traced_count u + n → traced_count w ≡ traced_count u + n
counted_behind u v w n same counted = ap traced_count same ∙ omega (arith, counted)

pub returns-clause-counted : goal.returns-clause-counted
returns-clause-counted g c differ =
    counted_behind c.args.seat.now c.close.new.self.seat.now c.seat-1.given.0 _ (search rules) (c.close.ensures.works.counted differ)

pub returns-clause-noted : goal.returns-clause-noted
returns-clause-noted g c note there =
    let still = c.close.ensures.works.noted note (subst (λ (gs : List NotesState). IsNotedIn gs note) (sym c.begin_indexes.ensures) there) in
    search rules
