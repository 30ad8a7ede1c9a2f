-- A marker's view is lent, or given back: what is true of every state stays.
use Rattle.std.proofs.Common.{◌≡◌, ℕ, ◌+◌, ◌-◌, List, [], ◌∷◌, ◌++◌, set, true, false, not, cond, Some, None, refl, sym, ap, ◌∙◌, subst, inl, inr, arith, Contains}
use Rattle.std.specs.List.{sum_by}
use Rattle.std.specs.Option.{is_none}
use Rattle.std.proofs.lemmas.Bool.{both_ways, and_parts, not-true, false≢true}
use Rattle.std.proofs.lemmas.List.Elements.{Contains-append_left, Contains-append_right, Contains-append_cases, Contains-push_cases}
use Rattle.std.proofs.lemmas.List.Sums.{sum_by_push}
use Rattle.marker_core.specs.declared.states.CoreState.{CoreState}
use Rattle.marker_core.specs.declared.states.Hand.{Hand}
use Rattle.marker_core.specs.declared.states.MarkerView.{MarkerView}
use Rattle.marker_core.specs.declared.states.MutatorView.{MutatorView}
use Rattle.marker_core.specs.Bodies.{holds}
use Rattle.marker_core.specs.CycleSteps.{can_split, split, can_join, core_joined}
use Rattle.marker_core.specs.Views.{times, marks_at, traces_at, IsHand, IsNoted, fresh_view, spent_view, view_at}
use Rattle.marker_core.specs.Matching.{IsEmptied}
use Rattle.marker_core.specs.Core.{IsCoreOk}
use Rattle.marker_core.proofs.Members.{nothing_in, holds_append_cases, still_in_or_overwritten}
use Rattle.marker_core.proofs.Counts.{times_append}
use Rattle.marker_core.proofs.Tricolour.{strong_same, pairs_same}
use Rattle.marker_core.proofs.Claims.{is_none_tells}
use Rattle.marker_core.proofs.Retold.{with_lists, retold_ok, is_out, is_there, is_view, is_on, sum_after, view_cases}

-- ---- a view is lent

module _ (s : CoreState) (ok : IsCoreOk s) (on : s.mutator.on ≡ true) where
  abbrev more : List MarkerView
  more = s.markers ++ fresh_view ∷ []

  abbrev lender : MutatorView
  lender = record s.mutator { lent = s.mutator.lent + 1 }

  lent_goes : (g : Hand) → IsHand s.mutator s.markers g → IsHand lender more g
  lent_goes g is = elim is [
    | inl own ↦ inl own
    | inr other ↦ inr (other.0, Contains-append_left s.markers (fresh_view ∷ []) other.0 other.1, other.2)
  ]

  lent_comes : (g : Hand) → IsHand lender more g → IsHand s.mutator s.markers g
  lent_comes g is = elim is [
    | inl own ↦ inl own
    | inr other ↦ elim (Contains-push_cases s.markers fresh_view other.0 other.1) [
      | inl was ↦ inr (other.0, was, other.2)
      | inr same ↦ (let e : None ≡ Some g = ap (λ (v : MarkerView). v.hand) same ∙ other.2 in cc)
    ]
  ]

  pub split_state : IsCoreOk (split s)
  split_state =
      let may = ok.may_is_closed on in
      let marks = marks_at s.mutator s.markers in
      let traces = traces_at s.mutator s.markers in
      retold_ok s ok on s.mutator.marked s.mutator.traced s.mutator.noted s.mutator.done s.mutator.missed (s.mutator.lent + 1) more
      (record {
        marks_same = λ x. let sums = sum_by_push (λ v. times x v.marked) s.markers fresh_view in omega (arith, sums);
        traces_same = λ x. let sums = sum_by_push (λ v. times x v.traced) s.markers fresh_view in omega (arith, sums);
        strong =
            strong_same s.types s.mutator.bodies marks traces s.mutator.pending (IsHand s.mutator s.markers) (IsHand lender more) lent_goes
            (ok.strong_targets_accounted on);
        pairs =
            pairs_same s.types s.mutator.bodies marks traces s.mutator.pending (IsHand s.mutator s.markers) (IsHand lender more) lent_goes
            (IsNoted s.mutator s.markers) (IsNoted lender more)
            (λ p o note. elim note [
              | inl own ↦ inl own
              | inr other ↦ inr (other.0, Contains-append_left s.markers (fresh_view ∷ []) other.0 other.1, other.2)
            ])
            (ok.pairs_accounted on);
        noted = λ p o note. elim note [
          | inl own ↦ ok.noted_are_pairs on p o (inl own)
          | inr other ↦ elim (Contains-push_cases s.markers fresh_view other.0 other.1) [
            | inl was ↦ ok.noted_are_pairs on p o (inr (other.0, was, other.2))
            | inr same ↦ absurd (nothing_in (p, o) (subst (λ (v : MarkerView). Contains v.noted (p, o)) (sym same) other.2))
          ]
        ];
        known = λ v a h known. elim (Contains-push_cases s.markers fresh_view v h) [
          | inl was ↦ ok.hands_are_bodies.known v a was known
          | inr same ↦ absurd (false≢true (ap (λ (u : MarkerView). holds u.known a) same ∙ known))
        ];
        fits = λ h is. ok.hands_are_bodies.hands h (lent_comes h is);
        hands_in = λ h is. may.hands_in h (lent_comes h is);
        loaded_in = λ h t is loaded. may.loaded_in h t (lent_comes h is) loaded;
        done = λ x done. elim done [
          | inl own ↦ may.done_are_traced x (inl own)
          | inr other ↦ elim (Contains-push_cases s.markers fresh_view other.0 other.1) [
            | inl was ↦ may.done_are_traced x (inr (other.0, was, other.2))
            | inr same ↦ absurd (false≢true (ap (λ (u : MarkerView). holds u.done x) same ∙ other.2))
          ]
        ];
        quiet = record {
          no_pending = λ off. absurd (both_ways s.mutator.on off on);
          no_hand = λ off. absurd (both_ways s.mutator.on off on);
          no_views = λ off. absurd (both_ways s.mutator.on off on);
          no_dead = ok.quiet_while_off.no_dead;
          lent_views =
              ap (λ n. n + 1) ok.quiet_while_off.lent_views ∙ sym (sum_by_push is_out s.markers fresh_view);
          spent_views = λ v h spent. elim (Contains-push_cases s.markers fresh_view v h) [
            | inl was ↦ ok.quiet_while_off.spent_views v was spent
            | inr same ↦ absurd (false≢true (ap (λ (u : MarkerView). u.spent) same ∙ spent))
          ];
          halted_views = λ v h halted. elim (Contains-push_cases s.markers fresh_view v h) [
            | inl was ↦ ok.quiet_while_off.halted_views v was halted
            | inr same ↦ absurd (false≢true (ap (λ (u : MarkerView). u.halted) same ∙ halted))
          ];
        };
      })

pub split_ok : (s : CoreState) → IsCoreOk s → can_split s ≡ true → IsCoreOk (split s)
split_ok s ok can = split_state s ok can

-- ---- a view is given back

one_less : {old new : ℕ} (before after : ℕ) → after + old ≡ before + new → old ≡ 1 → new ≡ 0 → before - 1 ≡ after
one_less before after sums old new = omega arith

module _ (s : CoreState) (ok : IsCoreOk s) (k : ℕ) (out : (view_at s.markers k).spent ≡ false) (no_hand : (view_at s.markers k).hand ≡ None) where
  abbrev view : MarkerView
  view = view_at s.markers k

  abbrev views : List MarkerView
  views = set s.markers k spent_view

  abbrev taker : MutatorView
  taker =
      with_lists s.mutator (s.mutator.marked ++ view.marked) (s.mutator.traced ++ view.traced) (s.mutator.noted ++ view.noted)
      (s.mutator.done ++ view.done) (s.mutator.missed ++ view.missed) (s.mutator.lent - 1)

  join_goes : (g : Hand) → IsHand s.mutator s.markers g → IsHand taker views g
  join_goes g is = elim is [
    | inl own ↦ inl own
    | inr other ↦ elim (still_in_or_overwritten s.markers k spent_view other.0 spent_view (is_there s ok k out) other.1) [
      | inl at ↦ (let e : None ≡ Some g = sym no_hand ∙ ap (λ (v : MarkerView). v.hand) (sym at) ∙ other.2 in cc)
      | inr still ↦ inr (other.0, still, other.2)
    ]
  ]

  join_comes : (g : Hand) → IsHand taker views g → IsHand s.mutator s.markers g
  join_comes g is = elim is [
    | inl own ↦ inl own
    | inr other ↦ elim (view_cases s ok k out spent_view other.0 other.1) [
      | inl at ↦ (let e : None ≡ Some g = ap (λ (v : MarkerView). v.hand) (sym at) ∙ other.2 in cc)
      | inr was ↦ inr (other.0, was, other.2)
    ]
  ]

  nothing_is_out : IsEmptied spent_view
  nothing_is_out = record { known = refl; marked = refl; traced = refl; noted = refl; hand = refl; done = refl; halted = refl }

  pub joined_state : IsCoreOk (core_joined s k)
  joined_state =
      let on = is_on s ok k out in
      let may = ok.may_is_closed on in
      let marks = marks_at s.mutator s.markers in
      let traces = traces_at s.mutator s.markers in
      let was_in_view = is_view s ok k out in
      retold_ok s ok on (s.mutator.marked ++ view.marked) (s.mutator.traced ++ view.traced) (s.mutator.noted ++ view.noted)
      (s.mutator.done ++ view.done) (s.mutator.missed ++ view.missed) (s.mutator.lent - 1) views
      (record {
        marks_same = λ x.
            let sums = sum_after s ok k out spent_view (λ v. times x v.marked) in
            omega (arith, sums, times_append x s.mutator.marked view.marked);
        traces_same = λ x.
            let sums = sum_after s ok k out spent_view (λ v. times x v.traced) in
            omega (arith, sums, times_append x s.mutator.traced view.traced);
        strong =
            strong_same s.types s.mutator.bodies marks traces s.mutator.pending (IsHand s.mutator s.markers) (IsHand taker views) join_goes
            (ok.strong_targets_accounted on);
        pairs =
            pairs_same s.types s.mutator.bodies marks traces s.mutator.pending (IsHand s.mutator s.markers) (IsHand taker views) join_goes
            (IsNoted s.mutator s.markers) (IsNoted taker views)
            (λ p o note. elim note [
              | inl own ↦ inl (Contains-append_left s.mutator.noted view.noted (p, o) own)
              | inr other ↦ elim (still_in_or_overwritten s.markers k spent_view other.0 spent_view (is_there s ok k out) other.1) [
                | inl at ↦
                    inl (Contains-append_right s.mutator.noted view.noted (p, o)
                    (subst (λ (v : MarkerView). Contains v.noted (p, o)) at other.2))
                | inr still ↦ inr (other.0, still, other.2)
              ]
            ])
            (ok.pairs_accounted on);
        noted = λ p o note. elim note [
          | inl own ↦ elim (Contains-append_cases s.mutator.noted view.noted (p, o) own) [
            | inl mine ↦ ok.noted_are_pairs on p o (inl mine)
            | inr theirs ↦ ok.noted_are_pairs on p o (inr (view, was_in_view, theirs))
          ]
          | inr other ↦ elim (view_cases s ok k out spent_view other.0 other.1) [
            | inl at ↦ absurd (nothing_in (p, o) (subst (λ (v : MarkerView). Contains v.noted (p, o)) at other.2))
            | inr was ↦ ok.noted_are_pairs on p o (inr (other.0, was, other.2))
          ]
        ];
        known = λ v a h known. elim (view_cases s ok k out spent_view v h) [
          | inl at ↦ absurd (false≢true (ap (λ (u : MarkerView). holds u.known a) (sym at) ∙ known))
          | inr was ↦ ok.hands_are_bodies.known v a was known
        ];
        fits = λ h is. ok.hands_are_bodies.hands h (join_comes h is);
        hands_in = λ h is. may.hands_in h (join_comes h is);
        loaded_in = λ h t is loaded. may.loaded_in h t (join_comes h is) loaded;
        done = λ x done. elim done [
          | inl own ↦ elim (holds_append_cases s.mutator.done view.done x own) [
            | inl mine ↦ may.done_are_traced x (inl mine)
            | inr theirs ↦ may.done_are_traced x (inr (view, was_in_view, theirs))
          ]
          | inr other ↦ elim (view_cases s ok k out spent_view other.0 other.1) [
            | inl at ↦ absurd (false≢true (ap (λ (u : MarkerView). holds u.done x) (sym at) ∙ other.2))
            | inr was ↦ may.done_are_traced x (inr (other.0, was, other.2))
          ]
        ];
        quiet = record {
          no_pending = λ off. absurd (both_ways s.mutator.on off on);
          no_hand = λ off. absurd (both_ways s.mutator.on off on);
          no_views = λ off. absurd (both_ways s.mutator.on off on);
          no_dead = ok.quiet_while_off.no_dead;
          lent_views =
              let outs = sum_after s ok k out spent_view is_out in
              let one : is_out view ≡ 1 = ap (λ b. cond (not b) 1 0) out in
              let none : is_out spent_view ≡ 0 = refl in
              ap (λ n. n - 1) ok.quiet_while_off.lent_views ∙ one_less (sum_by is_out s.markers) (sum_by is_out views) outs one none;
          spent_views = λ v h spent. elim (view_cases s ok k out spent_view v h) [
            | inl at ↦ subst IsEmptied (sym at) nothing_is_out
            | inr was ↦ ok.quiet_while_off.spent_views v was spent
          ];
          halted_views = λ v h halted. elim (view_cases s ok k out spent_view v h) [
            | inl at ↦ absurd (false≢true (ap (λ (u : MarkerView). u.halted) (sym at) ∙ halted))
            | inr was ↦ ok.quiet_while_off.halted_views v was halted
          ];
        };
      })

pub join_ok : (s : CoreState) → IsCoreOk s → (k : ℕ) → can_join s k ≡ true → IsCoreOk (core_joined s k)
join_ok s ok k can =
    let tests = and_parts (not (view_at s.markers k).spent) (is_none (view_at s.markers k).hand) can in
    joined_state s ok k (not-true (view_at s.markers k).spent tests.0) (is_none_tells (view_at s.markers k).hand tests.1)
