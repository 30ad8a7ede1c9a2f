-- Where marking has come to its end the marked set is closed.
use Rattle.std.proofs.Common.{◌≡◌, ℕ, ◌+◌, ◌-◌, ◌<◌, true, None, Some, sym, ◌∙◌, inl, inr, arith}
use Rattle.gc_graph.specs.Reach.{ReachIsLeast}
use Rattle.marker_core.specs.declared.states.CoreState.{CoreState}
use Rattle.marker_core.specs.Bodies.{word_in}
use Rattle.marker_core.specs.Views.{marks_at, IsHand}
use Rattle.marker_core.specs.Closed.{IsClosedOver}
use Rattle.marker_core.specs.Tracing.{IsCovered, IsInHand}
use Rattle.marker_core.specs.Core.{IsCoreOk}
use Rattle.marker_core.specs.Laws.{IsMarkingSettled, is_marked_in, SettledHasEnded}
use Rattle.marker_core.proofs.Counts.{some_is_true, true_is_some}
use Rattle.marker_core.proofs.Reached.{reach_over_law}
use Rattle.marker_core.proofs.Turns.{all_name_bodies}

module _ (s : CoreState) (ok : IsCoreOk s) (ends : IsMarkingSettled s) where
  abbrev marks : ℕ → ℕ
  marks = marks_at s.mutator s.markers

  -- a covered target that isn't null is marked
  marked_target : (w : ℕ) → 0 < w → IsCovered marks s.mutator.pending w → is_marked_in s (w - 1) ≡ true
  marked_target w some covered = elim covered [
    | inl null ↦ absurd (omega arith)
    | inr other ↦ elim other [
      | inl marked ↦ some_is_true (marks (w - 1)) marked
      | inr waits ↦ (let none : None ≡ Some (w - 1) = sym ends.pending ∙ waits in cc)
    ]
  ]

  no_hand : (p offset : ℕ) → IsInHand (IsHand s.mutator s.markers) p offset → ⊥
  no_hand p offset held = ends.hands held.0 held.1

  pub marked_closes : IsClosedOver s.types s.mutator.bodies (is_marked_in s)
  marked_closes = record {
    strong = λ b i h marked role some.
        elim (ok.strong_targets_accounted ends.on b i h (ends.traced b.place (true_is_some (marks b.place) marked)) role) [
          | inl covered ↦ marked_target (word_in b i) some covered
          | inr held ↦ absurd (no_hand b.place (i + 2) held)
        ];
    pairs = λ b i h marked role key key_marked value.
        elim (ok.pairs_accounted ends.on b i h (ends.traced b.place (true_is_some (marks b.place) marked)) role) [
          | inl null ↦ absurd (omega (arith, null))
          | inr some ↦ elim some [
            | inl covered ↦ marked_target (word_in b (i + 1)) value covered
            | inr other ↦ elim other [
              | inl note ↦ elim (ends.noted b i h role key note) [
                | inl unmarked ↦ (let one = true_is_some (marks (word_in b i - 1)) key_marked in absurd (omega (arith, unmarked)))
                | inr rest ↦ elim rest [
                  | inl null ↦ absurd (omega (arith, null))
                  | inr one ↦ some_is_true (marks (word_in b (i + 1) - 1)) one
                ]
              ]
              | inr held ↦ absurd (no_hand b.place (i + 2) held)
            ]
          ]
        ];
  }

pub settled_has_ended : ReachIsLeast → SettledHasEnded
settled_has_ended law s ok ends =
    let least = reach_over_law law s.count s.types s.mutator.bodies in
    record {
      closed = marked_closes s ok ends;
      within_may = λ a marked. (ok.may_is_closed ends.on).marked_in a (true_is_some (marks_at s.mutator s.markers a) marked);
      holds_reach = λ roots all a reached.
          (least roots ok.bodies_are_whole ok.bodies_lie_apart (all_name_bodies s ok ends.on)).least (is_marked_in s) (marked_closes s ok ends) all a reached;
    }
