-- Lending a seat and taking it back keep the rule of the table.
use Rattle.std.proofs.Common.{◌≡◌, ℕ, zero, suc, ◌+◌, ◌/◌, ◌<◌, List, [], ◌∷◌, ◌++◌, map, length, get_or, set, Bool, true, false, not, ◌&&◌, eqb, None, refl, sym, ap, ◌∙◌, subst, inl, inr, arith}
use mathlib.Core.Option.{some}
use lib.ListN.{get_elem?}
use Rattle.std.proofs.lemmas.Bool.{cases_Bool, cond-true, cond-false, and_from, and_parts, both_ways, ne_eqb, true_from_ne_false}
use Rattle.std.proofs.lemmas.List.{map-append, set-get_or}
use Rattle.std.proofs.Math.Seq.{get_or-append_seam}
use Rattle.atomic_table.proofs.Lists.{set_again}
use Rattle.atomic_table.specs.Table.{State, Me, keeps, Allows, Splits, Joins}
use Rattle.marker_core.specs.declared.states.MarkerView.{MarkerView}
use Rattle.marker_core.specs.declared.states.MutatorView.{MutatorView}
use Rattle.marker_core.specs.declared.steps.CoreStep.TheVariants.{Split, Join}
use Rattle.marker_core.specs.Core.{IsCoreOk}
use Rattle.marker_core.specs.Laws.{StepsKeep}
use Rattle.marker_core.specs.MarkerFacts.{LentWhileOn}
use Rattle.marker_core.specs.MarkerLaws.{SplitsAreSteps, JoinsAreSteps}
use Rattle.marker_core.specs.MarkerSeats.{seat_lent, seat_joined}
use Rattle.marker_core.specs.SeatFacts.{ViewsAreOk}
use Rattle.marker_core.specs.Seats.{core_of}
use Rattle.marker_core.specs.Views.{fresh_view, spent_view, view_at}
use Rattle.page_words.specs.Heaps.{IsCount, AreWords}
use Rattle.page_words.specs.MarkerRule.{out_view, IsMarker, lender_view, lent_view, given_view, impossible_view, taken_back, taker_view, LooksAgain}
use Rattle.page_words.specs.Rule.{RuleView, side_of, turned_to, owner_view, marker_view, IsCore, IsOwner}
use Rattle.page_words.proofs.Owning.{Owned, owned}
use Rattle.page_words.proofs.MarkerSeats.{marker_at, later_set}

-- ---- a seat is lent

module _ (keep : StepsKeep) (law : SplitsAreSteps) (me : Me (Unit {0}) RuleView) (mine : IsOwner me) (on : me.0.mutator.on ≡ true) where
  lent_ok : (words : List ℕ) (markers : List MarkerView) → IsCoreOk (core_of (side_of me.0) words markers)
      → IsCoreOk (core_of (side_of (lender_view me.0)) words (markers ++ fresh_view ∷ []))
  lent_ok words markers ok =
      keep (core_of (side_of me.0) words markers) (core_of (side_of (lender_view me.0)) words (markers ++ fresh_view ∷ [])) Split ok
      (law (side_of me.0) words markers on)

  lender_owns : lender_view me.0 ≡ owner_view (lender_view me.0)
  lender_owns = ap (λ (v : RuleView). turned_to v (seat_lent (side_of me.0))) mine.owns

  pub lends : (id : ℕ) → Splits IsCore id me.0 (lender_view me.0) (lent_view me.0)
  lends id s is here =
      let o : Owned s id me.0 = owned s is id me.0 here mine.owns in
      let f : MarkerView → RuleView = marker_view me.0 in (
        lender_view me.0,
        o.markers ++ fresh_view ∷ [],
        ap (λ (xs : List RuleView). set xs id (lender_view me.0) ++ lent_view me.0 ∷ []) o.views
            ∙ ap (λ k. set (me.0 ∷ map f o.markers) k (lender_view me.0) ++ lent_view me.0 ∷ []) o.first
            ∙ ap (λ (xs : List RuleView). lender_view me.0 ∷ xs) (sym (map-append f o.markers (fresh_view ∷ [])))
            ∙ ap (λ (x : RuleView). x ∷ map f (o.markers ++ fresh_view ∷ [])) lender_owns,
        lent_ok s.words o.markers o.ok,
      )

  -- both seats are sure of it by the state of which the mutator's was
  pub lender_is : IsOwner (lender_view me.0, me.1)
  lender_is = record {
    empty = mine.empty;
    owns = lender_owns;
    sure = record {
      count = mine.sure.count;
      words = mine.sure.words;
      markers = mine.sure.markers ++ fresh_view ∷ [];
      ok = lent_ok mine.sure.words mine.sure.markers mine.sure.ok;
      none_noted = λ off. absurd (both_ways me.0.mutator.on off on);
    };
  }

  pub lent_is : IsMarker (lent_view me.0, [])
  lent_is = record {
    empty = refl;
    owns = refl;
    sure = record {
      count = mine.sure.count;
      out = refl;
      mutator = seat_lent (side_of me.0);
      words = mine.sure.words;
      markers = mine.sure.markers ++ fresh_view ∷ [];
      number = length mine.sure.markers;
      ok = lent_ok mine.sure.words mine.sure.markers mine.sure.ok;
      there = get_or-append_seam mine.sure.markers fresh_view [] spent_view;
    };
  }

-- ---- a seat is given back

-- where marking goes on and a seat is lent, what was known becomes the mutator's
taken : (v : RuleView) (given : MarkerView) → v.mutator.on ≡ true → 0 < v.mutator.lent → taken_back v given ≡ seat_joined (side_of v) given
taken v given on more =
    cond-true (v.mutator.on && not (eqb v.mutator.lent 0)) (seat_joined (side_of v) given) impossible_view
    (and_from v.mutator.on (not (eqb v.mutator.lent 0)) on (ap not (ne_eqb v.mutator.lent 0 (λ none. omega (arith, none, more)))))

-- a seat that is not the first is a marker's, whatever the first one's view is now
later_of : (v both : RuleView) (markers : List MarkerView) (id : ℕ) (w : RuleView) → get_elem? (both ∷ map (marker_view v) markers) id ≡ some w
    → (id ≡ 0 → ⊥) → (k : ℕ) × (id ≡ suc k) × (marker_view v (view_at markers k) ≡ w)
later_of v both markers zero w e apart = absurd (apart refl)
later_of v both markers (suc k) w e apart = (k, refl, marker_at v markers k w e)

pub takes_back : StepsKeep → JoinsAreSteps → LentWhileOn → (v w : RuleView) (id other : ℕ) → v ≡ owner_view v → w ≡ out_view w → w.marker.spent ≡ false
    → w.marker.hand ≡ None → Joins IsCore id v other w (taker_view v w) given_view
takes_back keep law lending v w id other owns out lives none s is here apart there =
    let o : Owned s id v = owned s is id v here owns in
    let f : MarkerView → RuleView = marker_view v in
    let both : RuleView = taker_view v w in
    let first : set s.views id both ≡ both ∷ map f o.markers =
    ap (λ (xs : List RuleView). set xs id both) o.views ∙ ap (λ k. set (v ∷ map f o.markers) k both) o.first in
    let at = later_of v both o.markers other w (subst (λ (vs : List RuleView). get_elem? vs other ≡ some w) first there) (λ zeroth. apart (zeroth ∙ sym o.first)) in
    let k : ℕ = at.0 in
    let m : MarkerView = view_at o.markers k in
    let same : m ≡ w.marker = ap (λ (x : RuleView). x.marker) at.2 in
    let lives_there : m.spent ≡ false = ap (λ (x : MarkerView). x.spent) same ∙ lives in
    let none_there : m.hand ≡ None = ap (λ (x : MarkerView). x.hand) same ∙ none in
    let lends = lending (side_of v) s.words o.markers k o.ok lives_there in
    let joined : MutatorView = seat_joined (side_of v) m in
    let markers : List MarkerView = set o.markers k spent_view in
    let kept : IsCoreOk (core_of (side_of (turned_to v joined)) s.words markers) =
    keep (core_of (side_of v) s.words o.markers) (core_of (side_of (turned_to v joined)) s.words markers) (Join k) o.ok
    (law (side_of v) s.words o.markers k lives_there none_there) in
    let turn : joined ≡ taken_back v w.marker = ap (seat_joined (side_of v)) same ∙ sym (taken v w.marker lends.0 lends.1) in (
      both,
      markers,
      later_set (set s.views id both) other k f both given_view spent_view o.markers first at.1 refl
          ∙ ap (λ (x : RuleView). turned_to x (taken_back v w.marker) ∷ map f markers) owns,
      subst (λ (j : MutatorView). IsCoreOk (core_of (side_of (turned_to v j)) s.words markers)) turn kept,
    )

-- ---- the mutator's seat looks again

-- where no marking goes on the view says that a seat is lent, which is in no state
pub tells_on : (v : RuleView) (given : MarkerView) → (taken_back v given).on ≡ false → (taken_back v given).lent ≡ 1
tells_on v given off =
    let test : Bool = v.mutator.on && not (eqb v.mutator.lent 0) in
    elim (cases_Bool test) [
      | inl goes ↦
          absurd (both_ways v.mutator.on
          (sym (ap (λ (m : MutatorView). m.on) (cond-true test (seat_joined (side_of v) given) impossible_view goes)) ∙ off)
          (and_parts v.mutator.on (not (eqb v.mutator.lent 0)) goes).0)
      | inr stops ↦ ap (λ (m : MutatorView). m.lent) (cond-false test (seat_joined (side_of v) given) impossible_view stops)
    ]

-- what a look leaves
same_state : (s : State (Unit {0}) RuleView) (id at : ℕ) (v : RuleView) → get_elem? s.views id ≡ some v
    → s ≡ record { words = set s.words at (get_or s.words at 0); homes = s.homes; views = set s.views id v }
same_state s id at v here =
    ap (λ ws. record { words = ws; homes = s.homes; views = s.views }) (sym (set-get_or s.words at 0))
    ∙ ap (λ vs. record { words = set s.words at (get_or s.words at 0); homes = s.homes; views = vs }) (sym (set_again s.views id v here))

pub looks_again : ViewsAreOk → (me : Me (Unit {0}) RuleView) (slots id at : ℕ) → me.1 ≡ [] → IsCount me.0.count → me.0 ≡ owner_view me.0
    → (me.0.mutator.on ≡ false → me.0.mutator.lent ≡ 1) → Allows IsCore slots id me at (λ n. n) (λ _ after. LooksAgain me.0 after)
looks_again views_ok me slots id at empty count owns tells s is homes here small =
    let o : Owned s id me.0 = owned s is id me.0 here owns in
    let on : me.0.mutator.on ≡ true = true_from_ne_false me.0.mutator.on (λ off.
    let none = ((views_ok (side_of me.0) s.words o.markers o.ok).at_rest off).none_lent in
    omega (arith, none, tells off)) in (
      me.0,
      keeps,
      tt,
      subst IsCore (same_state s id at me.0 here) is,
      record {
        owner = record {
          empty = empty;
          owns = owns;
          sure = record {
            count = count;
            words = s.words;
            markers = o.markers;
            ok = o.ok;
            none_noted = λ off. absurd (both_ways me.0.mutator.on off on);
          };
        };
        view = refl;
        on = on;
      },
    )

-- once a seat was taken back
pub looks_after : ViewsAreOk → (old : Me (Unit {0}) RuleView) (w : RuleView) → IsOwner old → (me : Me (Unit {0}) RuleView) → me ≡ (taker_view old.0 w, old.1)
    → (slots id at : ℕ) → Allows IsCore slots id me at (λ n. n) (λ _ after. LooksAgain me.0 after)
looks_after views_ok old w mine me e slots id at =
    subst (λ (x : Me (Unit {0}) RuleView). Allows IsCore slots id x at (λ n. n) (λ _ after. LooksAgain x.0 after)) (sym e)
    (looks_again views_ok (taker_view old.0 w, old.1) slots id at mine.empty mine.sure.count
    (ap (λ (v : RuleView). turned_to v (taken_back old.0 w.marker)) mine.owns) (tells_on old.0 w.marker))

pub some_word : (count words : ℕ) → AreWords count words → 0 < words
some_word count words are = omega (arith, are.words)

pub stop_within : (count words : ℕ) → AreWords count words → count + count / 64 < words
stop_within count words are = omega (arith, are.words)
