use Rattle.std.proofs.Common.{◌≡◌, ◌<◌, ◌+◌, ℕ, zero, suc, length, get_or, replicate, refl, ◌∙◌, arith}
use Rattle.std.proofs.Transfers.{starts_with_of_eq}
use Rattle.std.proofs.lemmas.List.{get_or_default}
use Rattle.cross_thread_region.specs.PlacedNodes.{weak_place_below}
use Rattle.atomic_pause.proofs.region_clearing.dead_places.Goals as goal

none_told : (n x p : ℕ) → get_or (replicate n 0) x 0 ≡ p + 1 → ⊥
none_told zero x p is = absurd (omega (arith, is))
none_told (suc n) zero p is = absurd (omega (arith, is))
none_told (suc n) (suc x) p is = none_told n x p is

pub loop-i-init : goal.loop-i-init
loop-i-init c = record {
  len = refl;
  view = refl;
  looked = starts_with_of_eq c.args.seat.now.looked c.args.seat.now.looked refl;
  told = λ x p low is unmarked. absurd (omega (arith, low));
  only = λ x p is. absurd (none_told 32 x p is);
}

pub returns-clause-dead : goal.returns-clause-dead
returns-clause-dead c = λ x p is unmarked.
    let low : x < c.loop-i.i = omega (arith, weak_place_below c.args.held.now.history x p is, c.loop-i-test.false) in
    let inside : x < length c.loop-i.dead = omega (arith, weak_place_below c.args.held.now.history x p is, c.loop-i.invariant.len) in
    (x, inside, get_or_default c.loop-i.dead x (p + 1) 0 inside ∙ c.loop-i.invariant.told x p low is unmarked)

pub returns-clause-only : goal.returns-clause-only
returns-clause-only c = λ p there. c.loop-i.invariant.only there.0 p (get_or_default c.loop-i.dead there.0 0 (p + 1) there.1 ∙ there.2)
