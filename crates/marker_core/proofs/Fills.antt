-- A word that is filled outside the bodies keeps what is true of every state.
use Rattle.std.proofs.Common.{◌≡◌, ◌≢◌, ℕ, ◌<◌, List, ◌∷◌, get_or, set, filter, Bool, true, false, not, eqb, ltb, sym, ◌∙◌, subst, inl, inr, Contains}
use mathlib.Core.Logic.{◌⊎◌}
use Rattle.std.proofs.lemmas.Bool.{and_parts, not-true, eqb-false, ltb-true}
use Rattle.std.proofs.lemmas.List.{get_or-set_same, get_or-set_other}
use Rattle.std.proofs.lemmas.List.Elements.{All-weaker, filter_passes}
use Rattle.std.proofs.lemmas.List.Kept.{AllPairs-cons, AllPairs-filter}
use Rattle.marker_core.specs.declared.states.CoreState.{CoreState}
use Rattle.marker_core.specs.Bodies.{in_body}
use Rattle.marker_core.specs.Views.{marks_at, traces_at}
use Rattle.marker_core.specs.MutatorSteps.{can_fill, core_filled}
use Rattle.marker_core.specs.Matching.{FilledMatch}
use Rattle.marker_core.specs.Core.{IsCoreOk}
use Rattle.gc_graph.specs.Members.{Contains-cons_cases, was_in, has_passed}
use Rattle.marker_core.proofs.Apart.{two_words}
use Rattle.marker_core.proofs.Frames.{room_kept, within_words, stop_kept, starts_kept, headers_kept, serials_kept, fields_kept, heads_beside, tails_beside}

abbrev elsewhere : ℕ → ℕ × ℕ → Bool
elsewhere a f = not (eqb f.0 a)

module _ (s : CoreState) (ok : IsCoreOk s) (a w : ℕ) (below : a < s.count) (out : in_body s.mutator.bodies a ≡ false) where
  abbrev now : List (ℕ × ℕ)
  now = (a, w) ∷ filter (elsewhere a) s.mutator.filled

  -- a filled word is the new one, or an older one elsewhere
  new_or_old : (f : ℕ × ℕ) → Contains now f → ((a, w) ≡ f) ⊎ (Contains s.mutator.filled f × (f.0 ≡ a → ⊥))
  new_or_old f h = elim (Contains-cons_cases (a, w) (filter (elsewhere a) s.mutator.filled) f h) [
    | inl same ↦ inl same
    | inr rest ↦ inr (
      was_in (elsewhere a) s.mutator.filled f rest,
      eqb-false f.0 a (not-true (eqb f.0 a) (has_passed (elsewhere a) s.mutator.filled f rest)),
    )
  ]

  still_filled : FilledMatch s.count (set s.words a w) s.mutator.bodies now
  still_filled = record {
    inside = λ f h. elim (new_or_old f h) [
      | inl same ↦ subst (λ (g : ℕ × ℕ). g.0 < s.count) same below
      | inr old ↦ ok.filled_match.inside f old.0
    ];
    outside = λ f h. elim (new_or_old f h) [
      | inl same ↦ subst (λ (g : ℕ × ℕ). in_body s.mutator.bodies g.0 ≡ false) same out
      | inr old ↦ ok.filled_match.outside f old.0
    ];
    word = λ f h. elim (new_or_old f h) [
      | inl same ↦
          subst (λ (g : ℕ × ℕ). get_or (set s.words a w) g.0 0 ≡ g.1) same
          (get_or-set_same s.words a w 0 (within_words s.count s.words a ok.has_room below))
      | inr old ↦ get_or-set_other s.words a f.0 w 0 old.1 ∙ ok.filled_match.word f old.0
    ];
    once =
        AllPairs-cons (λ (f g : ℕ × ℕ). f.0 ≢ g.0) (a, w) (filter (elsewhere a) s.mutator.filled)
        (All-weaker (λ (g : ℕ × ℕ). elsewhere a g ≡ true) (λ (g : ℕ × ℕ). a ≢ g.0)
        (λ g passes e. eqb-false g.0 a (not-true (eqb g.0 a) passes) (sym e)) (filter (elsewhere a) s.mutator.filled)
        (filter_passes (elsewhere a) s.mutator.filled))
        (AllPairs-filter (λ (f g : ℕ × ℕ). f.0 ≢ g.0) (elsewhere a) s.mutator.filled ok.filled_match.once);
  }

  filled_state : IsCoreOk (core_filled s a w)
  filled_state =
      let now_words = set s.words a w in
      let bodies = s.mutator.bodies in
      let tails = tails_beside s.words bodies a w out in
      record {
        are_types = ok.are_types;
        has_room = room_kept s.count s.words a w ok.has_room;
        bodies_are_whole = ok.bodies_are_whole;
        bodies_lie_apart = ok.bodies_lie_apart;
        serials_differ = ok.serials_differ;
        headers_match =
            headers_kept s.count s.types s.words now_words bodies ok.bodies_are_whole (marks_at s.mutator s.markers)
            (traces_at s.mutator s.markers) (heads_beside s.words bodies a w out (two_words s.count s.types bodies ok.bodies_are_whole))
            ok.headers_match;
        serials_match = serials_kept s.count s.types s.words now_words bodies ok.bodies_are_whole tails ok.serials_match;
        starts_match = starts_kept s.count s.words bodies a w below ok.starts_match;
        fields_match = fields_kept s.count s.types s.words now_words bodies ok.bodies_are_whole tails ok.fields_match;
        filled_match = still_filled;
        references_name_bodies = ok.references_name_bodies;
        quiet_while_off = record {
          no_pending = ok.quiet_while_off.no_pending;
          no_hand = ok.quiet_while_off.no_hand;
          no_views = ok.quiet_while_off.no_views;
          no_dead = ok.quiet_while_off.no_dead;
          lent_views = ok.quiet_while_off.lent_views;
          spent_views = ok.quiet_while_off.spent_views;
          halted_views = λ v h halted. stop_kept s.count s.words a w below ∙ ok.quiet_while_off.halted_views v h halted;
        };
        traced_are_marked = ok.traced_are_marked;
        marks_counted_once = ok.marks_counted_once;
        strong_targets_accounted = ok.strong_targets_accounted;
        pairs_accounted = ok.pairs_accounted;
        noted_are_pairs = ok.noted_are_pairs;
        hands_are_bodies = ok.hands_are_bodies;
        may_is_closed = ok.may_is_closed;
      }

pub fill_ok : (s : CoreState) → IsCoreOk s → (a w : ℕ) → can_fill s a ≡ true → IsCoreOk (core_filled s a w)
fill_ok s ok a w can =
    let tests = and_parts (ltb a s.count) (not (in_body s.mutator.bodies a)) can in
    filled_state s ok a w (ltb-true a s.count tests.0) (not-true (in_body s.mutator.bodies a) tests.1)
