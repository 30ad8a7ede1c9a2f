-- While no marking goes on there are no hands, and no view but the mutator's knows anything.
use Rattle.std.proofs.Common.{◌≡◌, ℕ, List, get_or, true, Option, Some, None, sym, ap, ◌∙◌, subst, inl, inr, arith, Contains}
use Rattle.std.specs.List.{sum_by}
use Rattle.std.proofs.lemmas.Bool.{false≢true}
use Rattle.std.proofs.lemmas.List.Elements.{Contains-get_or}
use Rattle.std.proofs.lemmas.List.Sums.{sum_by-le}
use Rattle.gc_graph.specs.declared.kind.Kind.{Kind}
use Rattle.marker_core.specs.declared.states.Body.{Body}
use Rattle.marker_core.specs.declared.states.CoreState.{CoreState}
use Rattle.marker_core.specs.declared.states.Hand.{Hand}
use Rattle.marker_core.specs.declared.states.MarkerView.{MarkerView}
use Rattle.marker_core.specs.Bodies.{holds}
use Rattle.marker_core.specs.Views.{times, IsHand}
use Rattle.marker_core.specs.Tracing.{HandsAreBodies}
use Rattle.marker_core.specs.Core.{IsCoreOk}
use Rattle.marker_core.proofs.Members.{nothing_in}

pub none_in : (views : List MarkerView) (f : MarkerView → ℕ) → ((v : MarkerView) → Contains views v → f v ≡ 0) → sum_by f views ≡ 0
none_in views f none =
    omega (arith, sum_by-le f 0 views (λ k d l. let zero = none (get_or views k d) (Contains-get_or views k d l) in omega (arith, zero)))

-- no view is out
module _ (s : CoreState) (ok : IsCoreOk s) (spent : (v : MarkerView) → Contains s.markers v → v.spent ≡ true) where
  pub no_marks : (x : ℕ) → sum_by (λ v. times x v.marked) s.markers ≡ 0
  no_marks x = none_in s.markers (λ v. times x v.marked) (λ v h. ap (times x) (ok.quiet_while_off.spent_views v h (spent v h)).marked)

  pub no_traces : (x : ℕ) → sum_by (λ v. times x v.traced) s.markers ≡ 0
  no_traces x = none_in s.markers (λ v. times x v.traced) (λ v h. ap (times x) (ok.quiet_while_off.spent_views v h (spent v h)).traced)

  pub no_marker_hand : (h : Hand) → (v : MarkerView) × Contains s.markers v × (v.hand ≡ Some h) → ⊥
  no_marker_hand h held =
      let emptied = ok.quiet_while_off.spent_views held.0 held.1 (spent held.0 held.1) in
      let e : None ≡ Some h = sym emptied.hand ∙ held.2 in
      cc

  pub no_hands : s.mutator.hand ≡ None → (h : Hand) → IsHand s.mutator s.markers h → ⊥
  no_hands none h held = elim held [
    | inl own ↦ (let e : None ≡ Some h = sym none ∙ own in cc)
    | inr other ↦ no_marker_hand h other
  ]

  pub nothing_known : (v : MarkerView) (a : ℕ) → Contains s.markers v → holds v.known a ≡ true → ⊥
  nothing_known v a h known =
      let emptied = ok.quiet_while_off.spent_views v h (spent v h) in
      false≢true (ap (λ places. holds places a) (sym emptied.known) ∙ known)

  pub nothing_noted : (p offset : ℕ) → (v : MarkerView) × Contains s.markers v × Contains v.noted (p, offset) → ⊥
  nothing_noted p offset note =
      let emptied = ok.quiet_while_off.spent_views note.0 note.1 (spent note.0 note.1) in
      nothing_in (p, offset) (subst (λ l. Contains l (p, offset)) emptied.noted note.2)

  pub nothing_done : (a : ℕ) → (v : MarkerView) × Contains s.markers v × (holds v.done a ≡ true) → ⊥
  nothing_done a done =
      let emptied = ok.quiet_while_off.spent_views done.0 done.1 (spent done.0 done.1) in
      false≢true (ap (λ places. holds places a) (sym emptied.done) ∙ done.2)

  -- so whatever is asked of hands holds
  pub hands_of_none : (types : List (List Kind)) (bodies : List Body) (marks : ℕ → ℕ) (pending : Option ℕ) (may : List ℕ) → s.mutator.hand ≡ None
      → HandsAreBodies types bodies marks pending may (IsHand s.mutator s.markers) s.markers
  hands_of_none types bodies marks pending may none = record {
    known = λ v a h known. absurd (nothing_known v a h known);
    hands = λ h held. absurd (no_hands none h held);
  }
