use Rattle.std.proofs.Common.{◌≡◌, ℕ, List, [], ◌∷◌, ◌++◌, ◌+◌, length, drop, ap, ◌∙◌, sym, subst, inl, inr, refl, arith}
use Rattle.std.specs.List.{Contains}
use Rattle.std.proofs.Math.Seq.{drop-append_seam}
use Rattle.std.proofs.lemmas.List.{length_push}
use Rattle.std.proofs.lemmas.List.Elements.{Contains-push, Contains-push_cases}
use Rattle.gc_graph.specs.declared.kind.Kind.TheVariants.{Strong}
use Rattle.gc_graph.specs.State.{ObjectType}
use Rattle.type_table.specs.Types.{declared_kinds, offsets_of_kind}
use Rattle.pair_notes.specs.Marking.{GrowsWithin, HasStrongMarked, HasTargetMarked}
use Rattle.pair_notes.specs.InHand.{hand_over, traced_in}
use Rattle.ephemerons.specs.Fixpoint.{with_held}
use Rattle.ephemerons.specs.ListedMarks.{ListsMarks-then}
use Rattle.pair_notes.specs.HandPath.{hand_at_first, hand_at_next, hand_at_end}
use Rattle.ephemerons.proofs.MarkSteps.{same_bodies, same_types}
use Rattle.ephemerons.proofs.NoPairs.{all_traced}
use Rattle.ephemerons.proofs.StrongWords.{at_strong_field, all_named, target_stays, within_then}
use Rattle.ephemerons.proofs.strong_fields.trace_strong.Goals as goal

pub trace_words-requires-clause-first : goal.trace_words-requires-clause-first
trace_words-requires-clause-first g c = (
  c.in-Some.last.now ∷ [],
  all_traced c.args.types.now c.args.seat.now c.args.place c.args.ty c.strong_words-strong.result.now c.bodies_lie_apart.ensures c.requires.types
      c.requires.pairless c.requires.body c.strong_words-strong.ensures ∙ c.in-Some.ensures.cases.0,
)

pub trace_words-requires-clause-hand : goal.trace_words-requires-clause-hand
trace_words-requires-clause-hand g c = hand_at_first c.args.seat.now.types c.args.seat.now c.args.place c.args.ty refl c.requires.hand

pub trace_strong_word-requires-clause-hand : goal.trace_strong_word-requires-clause-hand
trace_strong_word-requires-clause-hand g c =
    let u = c.args.seat.now in
    let v = c.trace_words.new.seat in
    let last = c.in-Some.last.now in
    let told : List ℕ = c.strong_words-strong.result.now in
    let all : traced_in u.types c.args.ty ≡ c.in-Some.others.now ++ last ∷ [] =
    all_traced c.args.types.now u c.args.place c.args.ty told c.bodies_lie_apart.ensures c.requires.types c.requires.pairless c.requires.body
    c.strong_words-strong.ensures ∙ c.in-Some.ensures.cases.0 in
    let strong : told ≡ offsets_of_kind Strong (declared_kinds u.types c.args.ty) =
    c.strong_words-strong.ensures ∙ ap (λ (ts : List ObjectType). offsets_of_kind Strong (declared_kinds ts c.args.ty)) (sym c.requires.types) in
    at_strong_field u v (same_bodies u v c.args.marking.now c.trace_words.new.marking c.trace_words.ensures.marks)
    (same_types u v c.args.marking.now c.trace_words.new.marking c.trace_words.ensures.marks) c.args.place c.args.ty c.requires.body last
    (subst (λ l. Contains l last) (sym c.in-Some.ensures.cases.0 ∙ strong) (Contains-push c.in-Some.others.now last))
    (c.trace_words.ensures.hand
    ∙ ap (hand_over c.args.place c.args.ty) (ap (drop (length c.in-Some.others.now)) all ∙ drop-append_seam c.in-Some.others.now (last ∷ [])))

pub returns-in-Some-clause-marks : goal.returns-in-Some-clause-marks
returns-in-Some-clause-marks g c =
    ListsMarks-then c.args.seat.now c.trace_words.new.seat c.trace_strong_word.new.seat c.args.marking.now c.trace_words.new.marking
    (with_held c.trace_strong_word.result c.trace_words.new.marking) c.trace_words.ensures.marks
    (c.trace_strong_word.ensures.marks c.trace_words.new.marking)

pub returns-in-Some-clause-within : goal.returns-in-Some-clause-within
returns-in-Some-clause-within g c =
    let u = c.args.seat.now in
    let v = c.trace_words.new.seat in
    within_then c.args.types.now u v c.trace_strong_word.new.seat c.args.marking.now c.trace_words.new.marking
    (same_types u v c.args.marking.now c.trace_words.new.marking c.trace_words.ensures.marks ∙ c.requires.types) c.trace_words.ensures.marks
    (subst (λ (ts : List ObjectType). GrowsWithin ts u v) c.requires.types c.trace_words.ensures.within) c.trace_strong_word.ensures.within

pub returns-in-Some-clause-strong : goal.returns-in-Some-clause-strong
returns-in-Some-clause-strong g c =
    let u = c.args.seat.now in
    let v = c.trace_words.new.seat in
    let w = c.trace_strong_word.new.seat in
    let after = with_held c.trace_strong_word.result c.trace_words.new.marking in
    let strong : c.strong_words-strong.result.now ≡ offsets_of_kind Strong (declared_kinds u.types c.args.ty) =
    c.strong_words-strong.ensures ∙ ap (λ (ts : List ObjectType). offsets_of_kind Strong (declared_kinds ts c.args.ty)) (sym c.requires.types) in
    subst (λ (ts : List ObjectType). HasStrongMarked ts w c.args.place) c.requires.types
    (all_named u w c.args.place c.args.ty c.strong_words-strong.result.now c.bodies_lie_apart.ensures c.requires.body strong
    (same_bodies u w c.args.marking.now after (returns-in-Some-clause-marks g c))
    (λ o there. elim (Contains-push_cases c.in-Some.others.now c.in-Some.last.now o (subst (λ (l : List ℕ). Contains l o) c.in-Some.ensures.cases.0 there)) [
      | inl earlier ↦ target_stays v w c.trace_words.new.marking after c.args.place o (c.trace_strong_word.ensures.marks c.trace_words.new.marking)
          (c.trace_words.ensures.named o earlier)
      | inr here ↦ subst (HasTargetMarked w c.args.place) here c.trace_strong_word.ensures.named
    ]))

pub returns-in-Some-clause-hand : goal.returns-in-Some-clause-hand
returns-in-Some-clause-hand g c =
    let u = c.args.seat.now in
    let v = c.trace_words.new.seat in
    let w = c.trace_strong_word.new.seat in
    let others : List ℕ = c.in-Some.others.now in
    let all : traced_in u.types c.args.ty ≡ others ++ c.in-Some.last.now ∷ [] =
    all_traced c.args.types.now u c.args.place c.args.ty c.strong_words-strong.result.now c.bodies_lie_apart.ensures c.requires.types c.requires.pairless
    c.requires.body c.strong_words-strong.ensures ∙ c.in-Some.ensures.cases.0 in
    let many : length (traced_in u.types c.args.ty) ≡ length others + 1 = ap length all ∙ length_push others c.in-Some.last.now in
    hand_at_end (traced_in u.types c.args.ty) w c.args.place c.args.ty (length others + 1) (omega (arith, many))
    (hand_at_next u.types v w c.args.place c.args.ty (length others)
    (same_types u v c.args.marking.now c.trace_words.new.marking c.trace_words.ensures.marks) (omega (arith, many)) c.trace_words.ensures.hand
    c.trace_strong_word.ensures.hand)

pub returns-in-None-clause-strong : goal.returns-in-None-clause-strong
returns-in-None-clause-strong g c =
    let u = c.args.seat.now in
    let strong : c.strong_words-strong.result.now ≡ offsets_of_kind Strong (declared_kinds u.types c.args.ty) =
    c.strong_words-strong.ensures ∙ ap (λ (ts : List ObjectType). offsets_of_kind Strong (declared_kinds ts c.args.ty)) (sym c.requires.types) in
    subst (λ (ts : List ObjectType). HasStrongMarked ts u c.args.place) c.requires.types
    (all_named u u c.args.place c.args.ty c.strong_words-strong.result.now c.bodies_lie_apart.ensures c.requires.body strong refl
    (λ o there. absurd (omega (arith, there.1, c.in-None.ensures.cases))))

pub returns-in-None-clause-hand : goal.returns-in-None-clause-hand
returns-in-None-clause-hand g c =
    let u = c.args.seat.now in
    let all : traced_in u.types c.args.ty ≡ c.strong_words-strong.result.now =
    all_traced c.args.types.now u c.args.place c.args.ty c.strong_words-strong.result.now c.bodies_lie_apart.ensures c.requires.types c.requires.pairless
    c.requires.body c.strong_words-strong.ensures in
    hand_at_end (traced_in u.types c.args.ty) u c.args.place c.args.ty 0 (omega (arith, ap length all, c.in-None.ensures.cases))
    (hand_at_first u.types u c.args.place c.args.ty refl c.requires.hand)
