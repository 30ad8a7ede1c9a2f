-- What belongs together with the words after one of them was written.
use Rattle.std.proofs.Common.{◌≡◌, ℕ, ◌<◌, List, get_or, set, true, sym, ◌∙◌, subst, arith, Contains}
use Rattle.marker_core.specs.declared.states.Body.{Body}
use Rattle.marker_core.specs.declared.states.CoreState.{CoreState}
use Rattle.marker_core.specs.Layout.{stop_at}
use Rattle.marker_core.specs.Bodies.{is_place}
use Rattle.marker_core.specs.Views.{marks_at, traces_at}
use Rattle.marker_core.specs.Matching.{HasRoom, HeadersMatch, SerialsMatch, StartsMatch, FieldsMatch, FilledMatch}
use Rattle.marker_core.specs.Core.{IsCoreOk}
use Rattle.marker_core.proofs.Apart.{body_of_place, place_below, outside_body, two_words}
use Rattle.marker_core.proofs.Frames.{HeaderIs, room_kept, within_words, stop_kept, starts_kept, serials_kept, fields_kept, filled_kept, tails_past_header, headers_rewritten}

pub record Rewords (s : CoreState) (words : List ℕ) (marks traces : ℕ → ℕ) : Type 0 where
  pub room : HasRoom s.count words
  pub headers : HeadersMatch words marks traces s.mutator.bodies
  pub serials : SerialsMatch words s.mutator.bodies
  pub starts : StartsMatch s.count words s.mutator.bodies
  pub fields : FieldsMatch words s.mutator.bodies
  pub filled : FilledMatch s.count words s.mutator.bodies s.mutator.filled
  pub stop : get_or words (stop_at s.count) 0 ≡ get_or s.words (stop_at s.count) 0

-- the header at a is written
pub header_written : (s : CoreState) → IsCoreOk s → (a w : ℕ) → is_place s.mutator.bodies a ≡ true → (marks traces : ℕ → ℕ)
    → ((x : ℕ) → (x ≡ a → ⊥) → (marks x ≡ marks_at s.mutator s.markers x) × (traces x ≡ traces_at s.mutator s.markers x))
    → ((b : Body) → Contains s.mutator.bodies b → b.place ≡ a → HeaderIs marks traces w b) → Rewords s (set s.words a w) marks traces
header_written s ok a w place marks traces others new =
    let bodies = s.mutator.bodies in
    let at = body_of_place bodies a place in
    let below : a < s.count = place_below s.count s.types bodies a ok.bodies_are_whole place in
    let two = two_words s.count s.types bodies ok.bodies_are_whole at.0 at.1 in
    let written : Rewords s (set s.words at.0.place w) marks traces = record {
      room = room_kept s.count s.words at.0.place w ok.has_room;
      headers =
          headers_rewritten s.count s.types s.words bodies ok.bodies_are_whole ok.bodies_lie_apart at.0 at.1 w
          (marks_at s.mutator s.markers) (traces_at s.mutator s.markers) marks traces
          (within_words s.count s.words at.0.place ok.has_room (omega (arith, at.2))) ok.headers_match
          (λ x other. others x (λ e. other (e ∙ sym at.2))) (λ b h e. new b h (e ∙ at.2));
      serials =
          serials_kept s.count s.types s.words (set s.words at.0.place w) bodies ok.bodies_are_whole
          (tails_past_header s.count s.types s.words bodies ok.bodies_are_whole ok.bodies_lie_apart at.0 at.1 w) ok.serials_match;
      starts = starts_kept s.count s.words bodies at.0.place w (omega (arith, at.2)) ok.starts_match;
      fields =
          fields_kept s.count s.types s.words (set s.words at.0.place w) bodies ok.bodies_are_whole
          (tails_past_header s.count s.types s.words bodies ok.bodies_are_whole ok.bodies_lie_apart at.0 at.1 w) ok.fields_match;
      filled =
          filled_kept s.count s.words bodies s.mutator.filled at.0.place w
          (λ f h e. outside_body bodies f.0 at.0 (ok.filled_match.outside f h) at.1 0 (omega arith) (omega (arith, e))) ok.filled_match;
      stop = stop_kept s.count s.words at.0.place w (omega (arith, at.2));
    } in
    subst (λ x. Rewords s (set s.words x w) marks traces) at.2 written
