-- What a claim makes of the view, and what a look at a header tells of an item.
use Rattle.std.proofs.Common.{◌≡◌, ℕ, ◌++◌, Bool, true, false, cond, eqb, List, [], ◌∷◌, refl, sym, ap, ◌∙◌, subst, inl, inr}
use mathlib.Core.Logic.{◌⊎◌}
use Rattle.std.specs.List.{Contains}
use Rattle.std.proofs.lemmas.Bool.{cond-true, cond-false, eqb-true}
use Rattle.std.proofs.lemmas.List.Elements.{Contains-push}
use Rattle.marker_core.specs.declared.states.MarkerView.{MarkerView}
use Rattle.marker_core.specs.Hands.{hand_claimed}
use Rattle.marker_core.specs.Layout.{has_traced, type_in}
use Rattle.page_words.specs.Roles.{kind_lists}
use Rattle.page_words.specs.Markers.{MarkerSeatView, with_marker, claimed_as, start_read, stop_read}
use Rattle.pair_notes.specs.HandPath.{hand_first}
use Rattle.pair_notes.specs.InHand.{hand_over, traced_in}
use Rattle.marker_crew.specs.Stages.{KeepsItems, MarkerOnlyLooks}
use Rattle.marker_crew.proofs.Working.{keeps_more}

module _ (v u : MarkerSeatView) (a header found : ℕ) (is : u ≡ claimed_as v a header found) where
  abbrev taken : MarkerView
  taken = record v.marker { traced = v.traced ++ a ∷ []; hand = hand_claimed (kind_lists v.types) a found }

  abbrev failed : MarkerView
  failed = record v.marker {
    done = cond (has_traced found) (v.done ++ a ∷ []) v.done;
    missed = cond (has_traced found) v.missed (v.missed ++ a ∷ []);
  }

  claimed : eqb found header ≡ true → u ≡ with_marker v taken
  claimed same = is ∙ ap (with_marker v) (cond-true (eqb found header) taken failed same)

  missed : eqb found header ≡ false → u ≡ with_marker v failed
  missed other = is ∙ ap (with_marker v) (cond-false (eqb found header) taken failed other)

  -- ---- it succeeded

  pub claimed_heap : eqb found header ≡ true → u.heap ≡ v.heap
  claimed_heap same = ap (λ (x : MarkerSeatView). x.heap) (claimed same)

  pub claimed_types : eqb found header ≡ true → u.types ≡ v.types
  claimed_types same = ap (λ (x : MarkerSeatView). x.types) (claimed same)

  pub claimed_marked : eqb found header ≡ true → u.marked ≡ v.marked
  claimed_marked same = ap (λ (x : MarkerSeatView). x.marked) (claimed same)

  pub claimed_traced : eqb found header ≡ true → u.traced ≡ v.traced ++ a ∷ []
  claimed_traced same = ap (λ (x : MarkerSeatView). x.traced) (claimed same)

  pub claimed_noted : eqb found header ≡ true → u.noted ≡ v.noted
  claimed_noted same = ap (λ (x : MarkerSeatView). x.noted) (claimed same)

  pub claimed_done : eqb found header ≡ true → u.done ≡ v.done
  claimed_done same = ap (λ (x : MarkerSeatView). x.done) (claimed same)

  pub claimed_missed : eqb found header ≡ true → u.missed ≡ v.missed
  claimed_missed same = ap (λ (x : MarkerSeatView). x.missed) (claimed same)

  -- the object is in hand at its first traced word
  pub claimed_hand : eqb found header ≡ true → u.hand ≡ hand_over a (type_in header) (traced_in u.types (type_in header))
  claimed_hand same =
      ap (λ (x : MarkerSeatView). x.hand) (claimed same)
      ∙ ap (hand_claimed (kind_lists v.types) a) (eqb-true found header same)
      ∙ hand_first v.types a (type_in header)
      ∙ ap (λ ts. hand_over a (type_in header) (traced_in ts (type_in header))) (sym (claimed_types same))

  -- ---- it failed

  joined : (b : Bool) (done missed : List ℕ) → Contains (cond b (done ++ a ∷ []) done) a ⊎ Contains (cond b missed (missed ++ a ∷ [])) a
  joined true done missed = inl (Contains-push done a)
  joined false done missed = inr (Contains-push missed a)

  -- the object was found traced, or is missed
  pub failed_is : eqb found header ≡ false → Contains u.done a ⊎ Contains u.missed a
  failed_is other =
      subst (λ (x : MarkerSeatView). Contains x.done a ⊎ Contains x.missed a) (sym (missed other)) (joined (has_traced found) v.done v.missed)

  kept : (b : Bool) (xs more : List ℕ) → KeepsItems xs (cond b (xs ++ more) xs)
  kept true xs more = keeps_more xs (xs ++ more) more refl
  kept false xs more = λ x there. there

  kept_else : (b : Bool) (xs more : List ℕ) → KeepsItems xs (cond b xs (xs ++ more))
  kept_else true xs more = λ x there. there
  kept_else false xs more = keeps_more xs (xs ++ more) more refl

  pub failed_looks : eqb found header ≡ false → MarkerOnlyLooks v u
  failed_looks other = record {
    heap = ap (λ (x : MarkerSeatView). x.heap) (missed other);
    types = ap (λ (x : MarkerSeatView). x.types) (missed other);
    marked = ap (λ (x : MarkerSeatView). x.marked) (missed other);
    traced = ap (λ (x : MarkerSeatView). x.traced) (missed other);
    noted = ap (λ (x : MarkerSeatView). x.noted) (missed other);
    done = λ x there. subst (λ (s : MarkerSeatView). Contains s.done x) (sym (missed other)) (kept (has_traced found) v.done (a ∷ []) x there);
    missed = λ x there. subst (λ (s : MarkerSeatView). Contains s.missed x) (sym (missed other)) (kept_else (has_traced found) v.missed (a ∷ []) x there);
  }

  pub failed_hand : eqb found header ≡ false → u.hand ≡ v.hand
  failed_hand other = ap (λ (x : MarkerSeatView). x.hand) (missed other)

  pub failed_known : eqb found header ≡ false → u.known ≡ v.known
  failed_known other = ap (λ (x : MarkerSeatView). x.known) (missed other)

-- ---- a start bit, and the stop word

start_kept : (b : Bool) (xs more : List ℕ) → KeepsItems xs (cond b xs (xs ++ more))
start_kept true xs more = λ x there. there
start_kept false xs more = keeps_more xs (xs ++ more) more refl

pub start_looks : (v u : MarkerSeatView) (a : ℕ) (set : Bool) → u ≡ start_read v a set → MarkerOnlyLooks v u
start_looks v u a set is = record {
  heap = ap (λ (x : MarkerSeatView). x.heap) is;
  types = ap (λ (x : MarkerSeatView). x.types) is;
  marked = ap (λ (x : MarkerSeatView). x.marked) is;
  traced = ap (λ (x : MarkerSeatView). x.traced) is;
  noted = ap (λ (x : MarkerSeatView). x.noted) is;
  done = λ x there. subst (λ (s : MarkerSeatView). Contains s.done x) (sym is) there;
  missed = λ x there. subst (λ (s : MarkerSeatView). Contains s.missed x) (sym is) (start_kept set v.missed (a ∷ []) x there);
}

-- where no object starts, the place is missed
pub start_missed : (v u : MarkerSeatView) (a : ℕ) → u ≡ start_read v a false → Contains u.missed a
start_missed v u a is = subst (λ (s : MarkerSeatView). Contains s.missed a) (sym is) (Contains-push v.missed a)

pub stop_looks : (v u : MarkerSeatView) (stop : Bool) → u ≡ stop_read v stop → MarkerOnlyLooks v u
stop_looks v u stop is = record {
  heap = ap (λ (x : MarkerSeatView). x.heap) is;
  types = ap (λ (x : MarkerSeatView). x.types) is;
  marked = ap (λ (x : MarkerSeatView). x.marked) is;
  traced = ap (λ (x : MarkerSeatView). x.traced) is;
  noted = ap (λ (x : MarkerSeatView). x.noted) is;
  done = λ x there. subst (λ (s : MarkerSeatView). Contains s.done x) (sym is) there;
  missed = λ x there. subst (λ (s : MarkerSeatView). Contains s.missed x) (sym is) there;
}
