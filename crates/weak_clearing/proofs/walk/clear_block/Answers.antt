use Rattle.std.proofs.Common.{◌≡◌, ℕ, ◌+◌, ◌*◌, ◌/◌, ◌%◌, ◌<◌, ◌≤◌, ◌^◌, bit_and, eqb, inl, inr, arith, refl, ap, sym, ◌∙◌, subst, rules}
use Rattle.std.specs.Int.{bit_at, bit_not, trailing_zeros}
use mir.Syntax.{w64}
use Rattle.std.proofs.lemmas.Bool.{cases_eq}
use Rattle.std.proofs.lemmas.Nat.{and_le_l}
use Rattle.std.proofs.lemmas.Nat.Bits.{bit_at-zero, bit_at-trailing_zeros, bit_at_clear_same, bit_at_clear_other}
use Rattle.marker_core.specs.Bodies.{IsPlace}
use Rattle.page_words.specs.Seat.{Heap, SeatView, unlooked}
use Rattle.weak_clearing.specs.Clearing.{MarkedHaveReferencesOf}
use Rattle.weak_clearing.specs.Steps.{kind_of_handles, body_cleared}
use Rattle.weak_clearing.proofs.BlockWalk.{is_passed, still_left, none_left, one_passed, not_next}
use Rattle.weak_clearing.proofs.ObjectWalk.{where_references, where_place, where_none, where_same, where_after}
use Rattle.page_words.specs.Looking.{looks_same, looks_on}
use Rattle.weak_clearing.proofs.walk.clear_block.Goals as goal

pub loop-left-init : goal.loop-left-init
loop-left-init c = record {
  cleared = ap unlooked (where_none c.args.handles c.args.seat.now (is_passed c.args.block c.args.starts) (λ b there. still_left c.args.block c.args.starts b.place (λ here.
      (c.requires.starts (b.place % 64) (omega arith)).1
      (let at : b.place ≡ 64 * c.args.block + b.place % 64 = omega (arith, here) in (b, there, at)))));
  looked = looks_same c.args.seat.now c.args.seat.now refl;
  starts = λ i few set. set;
}

pub clear_object-requires-clause-references : goal.clear_object-requires-clause-references
clear_object-requires-clause-references c =
    subst (MarkedHaveReferencesOf (kind_of_handles c.args.handles)) (sym c.loop-left.invariant.cleared)
    (where_references c.args.handles (kind_of_handles c.args.handles) c.args.seat.now (is_passed c.args.block c.loop-left.left) c.requires.references)

-- the lowest bit that is left
lowest : (left : ℕ) → (left ≡ 0 → ⊥) → left < 2 ^ 64 → (trailing_zeros w64 left < 64) × (bit_at left (trailing_zeros w64 left) ≡ 1)
lowest left some fits =
    let found = bit_at-trailing_zeros w64 left (omega (arith, some)) fits in
    (found.0, found.1)

pub overflow_mul-block : goal.overflow_mul-block
overflow_mul-block c =
    let inside : 64 * c.args.block < 2 ^ 32 = omega (arith, c.bodies_lie_apart.ensures.count, ap (λ (h : Heap). h.count) c.requires.heap, c.requires.block) in
    search rules

pub overflow_add-block : goal.overflow_add-block
overflow_add-block c =
    let low = lowest c.loop-left.left c.loop-left-test.true (omega arith) in
    let inside : 64 * c.args.block + trailing_zeros w64 c.loop-left.left < 2 ^ 32 = omega (arith, low.0, c.bodies_lie_apart.ensures.count, ap (λ (h : Heap). h.count) c.requires.heap, c.requires.block) in
    search rules

pub clear_object-requires-clause-start : goal.clear_object-requires-clause-start
clear_object-requires-clause-start c =
    let low = lowest c.loop-left.left c.loop-left-test.true (omega arith) in
    let start : ℕ = trailing_zeros w64 c.loop-left.left in
    subst (λ (v : SeatView). IsPlace v.bodies (64 * c.args.block + start)) (sym c.loop-left.invariant.cleared)
    (where_place c.args.handles c.args.seat.now (is_passed c.args.block c.loop-left.left) (64 * c.args.block + start)
    ((c.requires.starts start low.0).0 (c.loop-left.invariant.starts start low.0 low.1)))

-- the bits that are left once the one at `start` is taken out
abbrev rest_of : ℕ → ℕ → ℕ
rest_of left start = bit_and left (bit_not w64 (1 * 2 ^ start % 2 ^ 64))

pub loop-left-smaller : goal.loop-left-smaller
loop-left-smaller c =
    let left : ℕ = c.loop-left.left in
    let start : ℕ = trailing_zeros w64 left in
    let low = lowest left c.loop-left-test.true (omega arith) in
    let most : rest_of left start ≤ left = and_le_l left (bit_not w64 (1 * 2 ^ start % 2 ^ 64)) in
    let other : rest_of left start ≡ left → ⊥ = (λ same. omega (arith, low.1, ap (λ n. bit_at n start) same, bit_at_clear_same w64 left start low.0)) in
    omega (arith, most, other)

pub loop-left-preserved : goal.loop-left-preserved
loop-left-preserved c =
    let left : ℕ = c.loop-left.left in
    let start : ℕ = trailing_zeros w64 left in
    let low = lowest left c.loop-left-test.true (omega arith) in
    let clear : bit_at (rest_of left start) start ≡ 0 = bit_at_clear_same w64 left start low.0 in
    let others = bit_at_clear_other w64 left start low.0 in
    record {
      cleared =
          c.clear_object.ensures.cleared
          ∙ ap (λ (v : SeatView). body_cleared c.args.handles v (64 * c.args.block + start)) c.loop-left.invariant.cleared
          ∙ ap unlooked (where_after c.args.handles c.args.seat.now (is_passed c.args.block left) (λ a. eqb a (64 * c.args.block + start)) (is_passed c.args.block (rest_of left start))
          (λ a. not_next c.args.block left start a low.0 low.1)
          (λ a. one_passed c.args.block left (rest_of left start) start a low.0 low.1 clear others));
      looked = looks_on c.args.seat.now c.loop-left.seat c.clear_object.new.seat c.loop-left.invariant.looked c.clear_object.ensures.looked;
      starts = λ i few set. elim (cases_eq i start) [
        | inl here ↦ absurd (omega (arith, set, clear, ap (bit_at (rest_of left start)) here))
        | inr other ↦ c.loop-left.invariant.starts i few (sym (others i few other) ∙ set)
      ];
    }

pub returns-clause-cleared : goal.returns-clause-cleared
returns-clause-cleared c =
    c.loop-left.invariant.cleared
    ∙ ap unlooked (where_same c.args.handles c.args.seat.now (is_passed c.args.block c.loop-left.left) (λ a. eqb (a / 64) c.args.block)
    (λ a. sym (none_left c.args.block c.loop-left.left a (λ i. ap (λ n. bit_at n i) c.loop-left-test.false ∙ bit_at-zero i))))
