-- What is true of every state that steps lead to.
use Rattle.std.specs.Prelude.{◌≡◌, true, slice_index}
use Rattle.marker_core.specs.declared.states.CoreState.{CoreState}
use Rattle.marker_core.specs.Layout.{stop_at}
use Rattle.marker_core.specs.Views.{marks_at, traces_at, IsHand, IsNoted, IsHeaderRead}
use Rattle.marker_core.specs.Matching.{AreTypes, HasRoom, AreWhole, LieApart, SerialsDiffer, HeadersMatch, SerialsMatch, StartsMatch, FieldsMatch, FilledMatch, ReferencesNameBodies, QuietWhileOff}
use Rattle.marker_core.specs.Tracing.{StrongAccounted, PairsAccounted, NotedArePairs, HandsAreBodies, MayIsClosed, TracedAreMarked, MarksCountedOnce}

-- words, bodies and views belong together, and while marking goes on every traced body is accounted for, and what is noted are
-- pairs of bodies
pub record IsCoreOk (s : CoreState) : Type 0 where
  pub are_types : AreTypes s.types
  pub has_room : HasRoom s.count s.words
  pub bodies_are_whole : AreWhole s.count s.types s.mutator.bodies
  pub bodies_lie_apart : LieApart s.mutator.bodies
  pub serials_differ : SerialsDiffer s.mutator.bodies
  pub headers_match :
      HeadersMatch s.words (marks_at s.mutator s.markers) (traces_at s.mutator s.markers) s.mutator.bodies
  pub serials_match : SerialsMatch s.words s.mutator.bodies
  pub starts_match : StartsMatch s.count s.words s.mutator.bodies
  pub fields_match : FieldsMatch s.words s.mutator.bodies
  pub filled_match : FilledMatch s.count s.words s.mutator.bodies s.mutator.filled
  pub references_name_bodies : ReferencesNameBodies s.types s.mutator.bodies s.mutator.dead
  pub quiet_while_off :
      QuietWhileOff s.mutator.on s.mutator.pending s.mutator.hand s.mutator.dead s.mutator.lent s.markers
      (slice_index s.words (stop_at s.count))
  pub traced_are_marked : TracedAreMarked (marks_at s.mutator s.markers) (traces_at s.mutator s.markers)
  pub marks_counted_once : MarksCountedOnce s.mutator.bodies (marks_at s.mutator s.markers) s.mutator.dead
  pub strong_targets_accounted :
      s.mutator.on ≡ true
      → StrongAccounted s.types s.mutator.bodies (marks_at s.mutator s.markers) (traces_at s.mutator s.markers) s.mutator.pending
      (IsHand s.mutator s.markers)
  pub pairs_accounted :
      s.mutator.on ≡ true
      → PairsAccounted s.types s.mutator.bodies (marks_at s.mutator s.markers) (traces_at s.mutator s.markers) s.mutator.pending
      (IsHand s.mutator s.markers) (IsNoted s.mutator s.markers)
  pub noted_are_pairs : s.mutator.on ≡ true → NotedArePairs s.types s.mutator.bodies (IsNoted s.mutator s.markers)
  pub hands_are_bodies :
      HandsAreBodies s.types s.mutator.bodies (marks_at s.mutator s.markers) s.mutator.pending s.mutator.may
      (IsHand s.mutator s.markers) s.markers
  pub may_is_closed :
      s.mutator.on ≡ true
      → MayIsClosed s.types s.mutator.bodies (marks_at s.mutator s.markers) (traces_at s.mutator s.markers) s.mutator.pending
      s.mutator.may s.mutator.seen (IsHand s.mutator s.markers) (IsHeaderRead s.mutator s.markers)
