use Rattle.std.proofs.Common.{◌≡◌, ℕ, ◌+◌, ◌*◌, ◌/◌, ◌<◌, List, [], length, ltb, eqb, arith, refl, ap, sym, ◌∙◌, subst}
use Rattle.std.proofs.lemmas.Bool.{lt-ltb, le-ltb}
use Rattle.gc_graph.specs.State.{ObjectType}
use Rattle.marker_core.specs.Matching.{IsWhole}
use Rattle.page_words.specs.BodyPlaces.{whole_body}
use Rattle.page_words.specs.Roles.{kind_lists}
use Rattle.page_words.specs.Seat.{Heap, SeatView, unlooked}
use Rattle.type_table.specs.Types.{declared_kinds, offsets_of_kind}
use Rattle.weak_clearing.specs.Clearing.{MarkedHaveReferencesOf}
use Rattle.weak_clearing.specs.Steps.{kind_of_handles, block_cleared}
use Rattle.page_words.specs.Looking.{looks_same, looks_on, looks_from}
use Rattle.weak_clearing.proofs.BlockWalk.{below_next, below_apart}
use Rattle.weak_clearing.proofs.NoHandles.{none_cleared}
use Rattle.weak_clearing.proofs.ObjectWalk.{where_references, where_none, where_after, where_all}
use Rattle.weak_clearing.proofs.walk.clear_handles.Goals as goal

pub loop-block-init : goal.loop-block-init
loop-block-init c = record {
  cleared = ap unlooked (where_none c.args.handles c.args.seat.now (λ a. ltb a (64 * 0)) (λ b there. le-ltb b.place (64 * 0) (omega arith)));
  looked = looks_same c.args.seat.now c.args.seat.now refl;
}

pub clear_block-requires-clause-references : goal.clear_block-requires-clause-references
clear_block-requires-clause-references c =
    subst (MarkedHaveReferencesOf (kind_of_handles c.args.handles)) (sym (ap unlooked c.starts_in-starts.ensures.view ∙ c.loop-block.invariant.cleared))
    (where_references c.args.handles (kind_of_handles c.args.handles) c.args.seat.now (λ a. ltb a (64 * c.loop-block.block)) c.requires.references)

pub loop-block-preserved : goal.loop-block-preserved
loop-block-preserved c =
    let block : ℕ = c.loop-block.block in
    record {
      cleared =
          c.clear_block.ensures.cleared
          ∙ ap (λ (v : SeatView). block_cleared c.args.handles v block) (ap unlooked c.starts_in-starts.ensures.view ∙ c.loop-block.invariant.cleared)
          ∙ ap unlooked (where_after c.args.handles c.args.seat.now (λ a. ltb a (64 * block)) (λ a. eqb (a / 64) block) (λ a. ltb a (64 * (block + 1)))
          (below_apart block) (below_next block));
      looked =
          looks_on c.args.seat.now c.loop-block.seat c.clear_block.new.seat c.loop-block.invariant.looked
          (looks_from c.loop-block.seat c.starts_in-starts.new.seat c.clear_block.new.seat c.starts_in-starts.ensures.view c.clear_block.ensures.looked);
    }

pub returns-clause-cleared : goal.returns-clause-cleared
returns-clause-cleared c =
    c.loop-block.invariant.cleared
    ∙ ap unlooked (where_all c.args.handles c.args.seat.now (λ a. ltb a (64 * c.loop-block.block)) (λ b there.
    let whole : IsWhole c.args.seat.now.count (kind_lists c.args.seat.now.types) b = whole_body c.args.seat.now c.bodies_lie_apart.ensures b there in
    lt-ltb b.place (64 * c.loop-block.block) (omega (arith, whole.inside, whole.fields, ap (λ (h : Heap). h.count) c.requires.heap, c.count-block-end.ensures.valid.bits, c.count-block-end.ensures.count, ap (λ (h : Heap). h.count) (c.deref.ensures ∙ c.words.ensures)))))

pub returns-then-not-are_in-clause-cleared : goal.returns-then-not-are_in-clause-cleared
returns-then-not-are_in-clause-cleared c =
    ap unlooked (none_cleared c.args.handles c.args.seat.now c.requires.references
    (subst (λ (ts : List ObjectType). (ty : ℕ) → ty < length ts → offsets_of_kind (kind_of_handles c.args.handles) (declared_kinds ts ty) ≡ []) c.requires.types
    (c.are_in.ensures.none c.if-not-are_in.true)))
