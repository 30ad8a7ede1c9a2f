use Rattle.std.proofs.Common.{◌≡◌, ℕ, ◌||◌, List, get_or, refl, sym, ap, ◌∙◌, subst, inl, inr, arith}
use Rattle.std.specs.List.{Contains}
use Rattle.std.proofs.lemmas.List.{get_or_default}
use Rattle.gc_graph.specs.declared.kind.Kind.TheVariants.{Pair}
use Rattle.type_table.specs.Types.{declared_kinds, offsets_of_kind}
use Rattle.marker_core.specs.declared.states.Body.{Body}
use Rattle.page_words.specs.BodyPlaces.{same_body}
use Rattle.pair_notes.specs.BodyGraph.{HasType}
use Rattle.pair_notes.specs.Notes.{note_of}
use Rattle.page_words.specs.Seat.{SeatView}
use Rattle.ephemerons.specs.Fixpoint.{Stage, NoteIsSettled}
use Rattle.ephemerons.specs.Tracers.{stage_of}
use Rattle.ephemerons.proofs.OnlyLooks.{ground_looked, looks_none}
use Rattle.ephemerons.proofs.PairWords.{told_pair}
use Rattle.ephemerons.proofs.Looks.{joined, settled_stays, looks_more}
use Rattle.ephemerons.proofs.Tracers.{same_types, Keeps-then, Searches-then}
use Rattle.ephemerons.proofs.tracer.Tracer.settle_pairs.Goals.{then-found, else-found}
use Rattle.ephemerons.proofs.tracer.Tracer.settle_pairs.Goals as goal

pub pair_words-pairs-requires : goal.pair_words-pairs-requires
pair_words-pairs-requires g c =
    let has : HasType c.args.self.now.seat.now.bodies c.args.a c.type_of-ty.result = c.type_of-ty.ensures.body in
    omega (arith, c.requires.ready.ground.references.typed has.0 has.1, has.3)

pub loop-word-init : goal.loop-word-init
loop-word-init g c =
    let tracer = c.args.self.now in
    record {
      keeps = record {
        space = refl;
        types = refl;
        seat = refl;
        marking = refl;
        groups = refl;
        ready = record {
          heap = ap (λ (v : SeatView). v.heap) c.type_of-ty.ensures.view ∙ c.requires.ready.heap;
          ground =
              ground_looked tracer.seat.now c.type_of-ty.new.seat c.type_of-ty.ensures.view tracer.types.now tracer.marking.now
              tracer.groups.now tracer.traced c.requires.ready.ground;
        };
      };
      looks =
          looks_none tracer.seat.now c.type_of-ty.new.seat c.type_of-ty.ensures.view tracer.types.now tracer.marking.now
          tracer.groups.now tracer.traced;
      settled = λ none k low. absurd (omega arith);
    }

pub settle_pair-more-requires-clause-pair : goal.settle_pair-more-requires-clause-pair
settle_pair-more-requires-clause-pair g c =
    rw (same_types c.loop-word.invariant.keeps, c.loop-word.invariant.looks.works.kept.bodies)
    (told_pair c.args.self.now.types.now c.args.self.now.seat.now.bodies c.args.a c.type_of-ty.result c.loop-word.word-index c.pair_words-pairs.result.now
    c.type_of-ty.ensures.body c.pair_words-pairs.ensures c.loop-word-test.true)

pub loop-word-preserved : goal.loop-word-preserved
loop-word-preserved g c =
    let tracer = c.args.self.now in
    let either : c.if-found.found ≡ (c.loop-word.found || c.settle_pair-more.result) = joined c.loop-word.found c.settle_pair-more.result c.if-found.found
    (elim c.if-found.branch [ then-found w ↦ inl (w.if-found.true, w.found-is) | else-found w ↦ inr (w.if-found.false, w.found-is) ]) in
    let keeps = c.loop-word.invariant.keeps in
    let before : Stage = stage_of c.loop-word.self in
    let after : Stage = stage_of c.settle_pair-more.new.self in
    record {
      keeps = Keeps-then tracer c.loop-word.self c.settle_pair-more.new.self keeps c.settle_pair-more.ensures.keeps;
      looks = rw either (Searches-then tracer c.loop-word.self c.settle_pair-more.new.self keeps c.loop-word.found c.settle_pair-more.result
          c.loop-word.invariant.looks c.settle_pair-more.ensures.looks);
      settled = λ none. looks_more
          (λ (s : Stage) (k : ℕ). NoteIsSettled tracer.types.now s.view (note_of c.args.a (get_or c.pair_words-pairs.result.now k 0)))
          (λ s t same k settled. settled_stays tracer.types.now s t same (note_of c.args.a (get_or c.pair_words-pairs.result.now k 0)) settled) before after
          c.loop-word.found c.settle_pair-more.result c.loop-word.word-index c.loop-word.invariant.settled c.settle_pair-more.ensures.looks.still
          (λ off. rw (same_types keeps) at c.settle_pair-more.ensures.settled off) (sym either ∙ none);
    }

pub returns-clause-settled : goal.returns-clause-settled
returns-clause-settled g c none offset has =
    let tracer = c.args.self.now in
    let told : List ℕ = c.pair_words-pairs.result.now in
    let first : Contains tracer.seat.now.bodies has.0 = rw c.loop-word.invariant.looks.works.kept.bodies at has.1 in
    let known : HasType tracer.seat.now.bodies c.args.a c.type_of-ty.result = c.type_of-ty.ensures.body in
    let one : known.0 ≡ has.0 = same_body tracer.seat.now known.0 has.0 c.bodies_lie_apart.ensures known.1 first (known.2 ∙ sym has.2) in
    let ty : c.type_of-ty.result ≡ has.0.ty = sym known.3 ∙ ap (λ (b : Body). b.ty) one in
    let among : Contains told offset =
    subst (λ l. Contains l offset) (sym (c.pair_words-pairs.ensures ∙ ap (λ t. offsets_of_kind Pair (declared_kinds tracer.types.now t)) ty)) has.3 in
    subst (λ o. NoteIsSettled tracer.types.now c.loop-word.self.seat.now (note_of c.args.a o)) (get_or_default told among.0 0 offset among.1 ∙ among.2)
    (c.loop-word.invariant.settled none among.0 (omega (arith, among.1, c.loop-word-test.false)))
