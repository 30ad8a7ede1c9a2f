-- Passes between calls.
use Rattle.std.proofs.Common.{◌≡◌, ℕ, zero, suc, ◌+◌, ◌%◌, ◌^◌, ◌<◌, ◌≤◌, ◌==◌, ◌∷◌, map, inl, arith, Bool, true, false, List, [], Option, Some, None, refl, sym, ap, subst}
use mathlib.Core.Option.{some, some-injective, some-ne-none}
use Rattle.region_lock.specs.declared.views.LockView.{LockView}
use Rattle.atomic_table.specs.Table.{opening}
use Rattle.std.proofs.lemmas.List.Elements.{All-nil}
use Rattle.region_lock.specs.Counts.{num, Each}
use Rattle.region_lock.specs.Rule.{IsInTurn, IsViewIn, first_view}
use Rattle.region_lock.specs.Passes.{turn_of, turn_if}
use Rattle.region_lock.proofs.OtherViews.{continues_none, none_joined, view_idle}

module _ {E : Type 0} where
  turn_told : (b : Bool) (t : ℕ) (found : List E) → turn_if b t found ≡ None → b ≡ false
  turn_told true t found e = absurd (cc)
  turn_told false t found e = refl

  -- a pass without a turn doesn't hold the value
  pub no_turn : (v : LockView E) → turn_of v ≡ None → v.holds ≡ false
  no_turn v e = turn_told v.holds (v.ticket % 2 ^ 64) v.found e

module _ {V E : Type 0} (entries : V → List E) (names : E → ℕ) where
  -- a lock that was made holds its rule
  pub opens : (value : V) (slots : List (Option V)) → slots ≡ Some value ∷ [] → entries value ≡ []
      → IsInTurn entries names (opening (0 ∷ 0 ∷ 0 ∷ []) slots (first_view {E = E}))
  opens value slots e none_told = record {
    served = 0;
    next = 0;
    told = [];
    words = refl;
    line = refl;
    differ = λ t. omega arith;
    each = first_only;
    home = inl (refl, value, ap (λ (xs : List (Option V)). map some xs) e, none_told);
    roster = record {
      first = first_view;
      at = refl;
      zero = refl;
      lives = refl;
      all = λ n. refl;
      once = λ n. at_most_one (0 == n);
      total = refl;
      few = All-nil (λ n. n < 2 ^ 32);
    };
  }
    where
      at_most_one : (b : Bool) → num b + 0 ≤ 1
      at_most_one true = omega arith
      at_most_one false = omega arith

      first_only : Each (IsViewIn names 0 0 []) (first_view {E = E} ∷ [])
      first_only zero v at =
          subst (IsViewIn names 0 0 []) (some-injective first_view v at)
          (view_idle names 0 0 [] first_view refl refl (λ lives. continues_none names 0 [] []) (none_joined names))
      first_only (suc i) v at = absurd (some-ne-none v (sym at))
