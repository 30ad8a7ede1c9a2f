-- An object's mark and traced bit are cleared while no marking goes on: what is true of every state stays.
use Rattle.std.proofs.Common.{◌≡◌, ℕ, ◌+◌, ◌≤◌, get_or, true, false, not, ltb, sym, ap, ◌∙◌, inl, inr, arith}
use Rattle.std.specs.List.{sum_by}
use Rattle.std.proofs.lemmas.Bool.{cases_eq, both_ways, and_parts, not-true}
use Rattle.object_headers.specs.Layout.{header_word, word_with_mark, word_with_traced}
use Rattle.marker_core.specs.declared.states.CoreState.{CoreState}
use Rattle.marker_core.specs.declared.states.MutatorView.{MutatorView}
use Rattle.marker_core.specs.Bodies.{is_place}
use Rattle.marker_core.specs.MutatorSteps.{can_unmark, unmarked}
use Rattle.marker_core.specs.Views.{times, marks_at, traces_at}
use Rattle.marker_core.specs.Core.{IsCoreOk}
use Rattle.marker_core.proofs.Counts.{times_without_same, times_without_other, none_is_false}
use Rattle.marker_core.proofs.Headers.{mark_in_header, traced_in_header}
use Rattle.marker_core.proofs.Rewords.{Rewords, header_written}
use Rattle.marker_core.proofs.Quiet.{no_marks, no_traces, hands_of_none}

module _ (s : CoreState) (ok : IsCoreOk s) (off : s.mutator.on ≡ false) (a : ℕ) (place : is_place s.mutator.bodies a ≡ true) where
  abbrev after : MutatorView
  after = (unmarked s a).mutator

  abbrev marks : ℕ → ℕ
  marks = marks_at after s.markers

  abbrev traces : ℕ → ℕ
  traces = traces_at after s.markers

  no_marks_here : marks a ≡ 0
  no_marks_here = omega (arith, times_without_same a s.mutator.marked, no_marks s ok (ok.quiet_while_off.no_views off) a)

  no_traces_here : traces a ≡ 0
  no_traces_here = omega (arith, times_without_same a s.mutator.traced, no_traces s ok (ok.quiet_while_off.no_views off) a)

  other_marks : (x : ℕ) → (x ≡ a → ⊥) → marks x ≡ marks_at s.mutator s.markers x
  other_marks x apart = ap (λ n. n + sum_by (λ v. times x v.marked) s.markers) (times_without_other a x s.mutator.marked apart)

  other_traces : (x : ℕ) → (x ≡ a → ⊥) → traces x ≡ traces_at s.mutator s.markers x
  other_traces x apart = ap (λ n. n + sum_by (λ v. times x v.traced) s.markers) (times_without_other a x s.mutator.traced apart)

  words_after : Rewords s (unmarked s a).words marks traces
  words_after =
      header_written s ok a (word_with_traced false (word_with_mark false (get_or s.words a 0))) place marks traces
      (λ x apart. (other_marks x apart, other_traces x apart))
      (λ b h at.
      let mark : ltb 0 (marks b.place) ≡ false = none_is_false (marks b.place) (ap marks at ∙ no_marks_here) in
      let traced : ltb 0 (traces b.place) ≡ false = none_is_false (traces b.place) (ap traces at ∙ no_traces_here) in
      let m = ltb 0 (marks_at s.mutator s.markers b.place) in
      let t = ltb 0 (traces_at s.mutator s.markers b.place) in
      ap (λ p. word_with_traced false (word_with_mark false (get_or s.words p 0))) (sym at)
      ∙ ap (λ w. word_with_traced false (word_with_mark false w)) (ok.headers_match b h)
      ∙ ap (word_with_traced false) (mark_in_header false m t b.ty b.size) ∙ traced_in_header false false t b.ty b.size
      ∙ ap (λ u. header_word true u false b.ty b.size) (sym mark) ∙ ap (λ u. header_word true (ltb 0 (marks b.place)) u b.ty b.size) (sym traced))

  fewer_marks : (x : ℕ) → marks x ≤ marks_at s.mutator s.markers x
  fewer_marks x = elim (cases_eq x a) [
    | inl same ↦ (let none : marks x ≡ 0 = ap marks same ∙ no_marks_here in omega arith)
    | inr apart ↦ (let kept = other_marks x apart in omega arith)
  ]

  pub unmarked_state : IsCoreOk (unmarked s a)
  unmarked_state =
      let words = words_after in
      record {
        are_types = ok.are_types;
        has_room = words.room;
        bodies_are_whole = ok.bodies_are_whole;
        bodies_lie_apart = ok.bodies_lie_apart;
        serials_differ = ok.serials_differ;
        headers_match = words.headers;
        serials_match = words.serials;
        starts_match = words.starts;
        fields_match = words.fields;
        filled_match = words.filled;
        references_name_bodies = ok.references_name_bodies;
        quiet_while_off = record {
          no_pending = ok.quiet_while_off.no_pending;
          no_hand = ok.quiet_while_off.no_hand;
          no_views = ok.quiet_while_off.no_views;
          no_dead = ok.quiet_while_off.no_dead;
          lent_views = ok.quiet_while_off.lent_views;
          spent_views = ok.quiet_while_off.spent_views;
          halted_views = λ v h halted. words.stop ∙ ok.quiet_while_off.halted_views v h halted;
        };
        traced_are_marked = λ x.
            let was = ok.traced_are_marked x in
            elim (cases_eq x a) [
              | inl same ↦ (let none : traces x ≡ 0 = ap traces same ∙ no_traces_here in omega arith)
              | inr apart ↦ (let kept = other_marks x apart in let more = other_traces x apart in omega arith)
            ];
        marks_counted_once = record {
          once = λ x. omega (arith, fewer_marks x, ok.marks_counted_once.once x);
          are_bodies = λ x some. ok.marks_counted_once.are_bodies x (omega (arith, fewer_marks x));
          dead_are_unmarked = λ x dead.
              let was = ok.marks_counted_once.dead_are_unmarked x dead in
              (was.0, omega (arith, fewer_marks x, was.1));
        };
        strong_targets_accounted = λ on. absurd (both_ways s.mutator.on off on);
        pairs_accounted = λ on. absurd (both_ways s.mutator.on off on);
        noted_are_pairs = λ on. absurd (both_ways s.mutator.on off on);
        hands_are_bodies =
            hands_of_none s ok (ok.quiet_while_off.no_views off) s.types s.mutator.bodies marks s.mutator.pending s.mutator.may
            (ok.quiet_while_off.no_hand off);
        may_is_closed = λ on. absurd (both_ways s.mutator.on off on);
      }

pub unmark_ok : (s : CoreState) → IsCoreOk s → (a : ℕ) → can_unmark s a ≡ true → IsCoreOk (unmarked s a)
unmark_ok s ok a can =
    let tests = and_parts (not s.mutator.on) (is_place s.mutator.bodies a) can in
    unmarked_state s ok (not-true s.mutator.on tests.0) a tests.1
