use Rattle.std.proofs.Common.{◌≡◌, ℕ, List, [], ◌∷◌, get_or, take, ap, ◌∙◌, sym, subst, inl, inr, refl, arith}
use Rattle.std.specs.List.{Contains}
use Rattle.std.proofs.lemmas.List.{take_all, take_more}
use Rattle.gc_graph.specs.Members.{Contains-take_more_cases}
use Rattle.gc_graph.specs.State.{ObjectType}
use Rattle.type_table.specs.declared.traced.TracedWord.{TracedWord}
use Rattle.type_table.specs.declared.traced.TracedWord.TheVariants.{StrongAt}
use Rattle.type_table.specs.Types.{declared_kinds}
use Rattle.type_table.specs.TracedWords.{traced_words_of}
use Rattle.pair_notes.specs.Marking.{GrowsWithin, HasStrongMarked}
use Rattle.pair_notes.specs.Notes.{NotesGrow, HasPairsNoted}
use Rattle.pair_notes.specs.InHand.{IsWordTraced, traced_in}
use Rattle.ephemerons.specs.Traces.{Traces}
use Rattle.ephemerons.specs.LookedAt.{IsLookedAt, LooksWithin}
use Rattle.ephemerons.specs.LookedPlaces.{looked_nowhere, looks_then}
use Rattle.ephemerons.specs.ListedMarks.{ListsMarks-then}
use Rattle.pair_notes.specs.HandPath.{hand_at_first, hand_at_next, hand_at_end, told_length}
use Rattle.ephemerons.proofs.Holding.{ListsMarks-same}
use Rattle.ephemerons.proofs.MarkSteps.{same_bodies, same_types}
use Rattle.ephemerons.proofs.NoPairs.{nothing_noted}
use Rattle.ephemerons.proofs.NoteSteps.{NotesGrow-then}
use Rattle.ephemerons.proofs.Traced.{Traces-none, Traces-then}
use Rattle.ephemerons.proofs.StrongWords.{within_then}
use Rattle.ephemerons.proofs.TracedFields.{told_apart, at_each_word, word_stays, strong_done, pairs_done}
use Rattle.ephemerons.proofs.tracing.trace_fields.Goals as goal

pub loop-word-init : goal.loop-word-init
loop-word-init g c = record {
  marks = ListsMarks-same c.args.seat.now c.args.marking.now;
  within = λ test closed held p marked. held p marked;
  notes = nothing_noted c.args.seat.now.types c.args.seat.now.bodies c.args.notes.now;
  done = λ word there. absurd (omega (arith, there.1));
  told = Traces-none c.args.seat.now c.args.notes.now c.args.place;
  looked = looked_nowhere (IsLookedAt c.args.seat.now.types c.args.seat.now) c.args.seat.now c.args.seat.now refl;
  hand = hand_at_first c.args.seat.now.types c.args.seat.now c.args.place c.args.ty refl c.requires.hand;
}

pub trace_word-requires-clause-hand : goal.trace_word-requires-clause-hand
trace_word-requires-clause-hand g c =
    let u = c.args.seat.now in
    let v = c.loop-word.seat in
    at_each_word u v (same_bodies u v c.args.marking.now c.loop-word.marking c.loop-word.invariant.marks)
    (same_types u v c.args.marking.now c.loop-word.marking c.loop-word.invariant.marks) c.args.place c.args.ty c.requires.body
    c.traced_words-traced.result.now
    (c.traced_words-traced.ensures ∙ ap (λ (ts : List ObjectType). traced_words_of (declared_kinds ts c.args.ty)) (sym c.requires.types)) c.loop-word.word-index
    c.loop-word-test.true c.loop-word.invariant.hand

pub loop-word-preserved : goal.loop-word-preserved
loop-word-preserved g c =
    let u = c.args.seat.now in
    let v = c.loop-word.seat in
    let w = c.trace_word.new.seat in
    let i : ℕ = c.loop-word.word-index in
    let told : List TracedWord = c.traced_words-traced.result.now in
    let marks = c.loop-word.invariant.marks in
    let types = same_types u v c.args.marking.now c.loop-word.marking marks in
    let bodies = same_bodies u v c.args.marking.now c.loop-word.marking marks in
    let is : told ≡ traced_words_of (declared_kinds u.types c.args.ty) =
    c.traced_words-traced.ensures ∙ ap (λ (ts : List ObjectType). traced_words_of (declared_kinds ts c.args.ty)) (sym c.requires.types) in
    let grow : NotesGrow u.types v.bodies c.loop-word.notes c.trace_word.new.notes =
    subst (λ (ts : List ObjectType). NotesGrow ts v.bodies c.loop-word.notes c.trace_word.new.notes) types c.trace_word.ensures.notes in
    record {
      marks = ListsMarks-then u v w c.args.marking.now c.loop-word.marking c.trace_word.new.marking marks c.trace_word.ensures.marks;
      within = within_then u.types u v w c.args.marking.now c.loop-word.marking types marks c.loop-word.invariant.within c.trace_word.ensures.within;
      notes = NotesGrow-then u.types u.bodies c.args.notes.now c.loop-word.notes c.trace_word.new.notes c.loop-word.invariant.notes
          (subst (λ bs. NotesGrow u.types bs c.loop-word.notes c.trace_word.new.notes) bodies grow);
      done = λ word among. elim (Contains-take_more_cases told i (StrongAt 0) word c.loop-word-test.true among) [
        | inl earlier ↦ word_stays u.types v w c.loop-word.marking c.trace_word.new.marking c.args.place c.loop-word.notes c.trace_word.new.notes word
            c.trace_word.ensures.marks grow (c.loop-word.invariant.done word earlier)
        | inr here ↦ subst (IsWordTraced u.types w c.args.place c.trace_word.new.notes) here
            (subst (λ (ts : List ObjectType). IsWordTraced ts w c.args.place c.trace_word.new.notes (get_or told i (StrongAt 0))) types c.trace_word.ensures.done)
      ];
      told = subst (Traces u c.args.notes.now w c.trace_word.new.notes c.args.place) (sym (take_more told i (StrongAt 0) c.loop-word-test.true))
          (Traces-then u v w c.args.notes.now c.loop-word.notes c.trace_word.new.notes c.args.place (take i told) (get_or told i (StrongAt 0) ∷ []) bodies
          marks.marked c.trace_word.ensures.marks.marked grow.overflow (told_apart u.types c.args.ty told is i c.loop-word-test.true) c.loop-word.invariant.told
          c.trace_word.ensures.told);
      looked = looks_then u.types u v w (same_bodies v w c.loop-word.marking c.trace_word.new.marking c.trace_word.ensures.marks)
          c.trace_word.ensures.marks.marked c.loop-word.invariant.looked
          (subst (λ (ts : List ObjectType). LooksWithin ts v w) types c.trace_word.ensures.looked);
      hand = hand_at_next u.types v w c.args.place c.args.ty i types (omega (arith, c.loop-word-test.true, told_length u.types c.args.ty told is))
          c.loop-word.invariant.hand c.trace_word.ensures.hand;
    }

pub returns-clause-within : goal.returns-clause-within
returns-clause-within g c =
    subst (λ (ts : List ObjectType). GrowsWithin ts c.args.seat.now c.loop-word.seat) c.requires.types c.loop-word.invariant.within

pub returns-clause-strong : goal.returns-clause-strong
returns-clause-strong g c =
    let u = c.args.seat.now in
    let w = c.loop-word.seat in
    let told : List TracedWord = c.traced_words-traced.result.now in
    subst (λ (ts : List ObjectType). HasStrongMarked ts w c.args.place) c.requires.types
    (strong_done u w c.args.place c.args.ty told c.loop-word.notes c.bodies_lie_apart.ensures c.requires.body
    (c.traced_words-traced.ensures ∙ ap (λ (ts : List ObjectType). traced_words_of (declared_kinds ts c.args.ty)) (sym c.requires.types))
    (same_bodies u w c.args.marking.now c.loop-word.marking c.loop-word.invariant.marks)
    (λ word there. c.loop-word.invariant.done word (subst (λ l. Contains l word) (sym (take_all c.loop-word.word-index told (omega arith))) there)))

pub returns-clause-pairs : goal.returns-clause-pairs
returns-clause-pairs g c fine =
    let u = c.args.seat.now in
    let w = c.loop-word.seat in
    let told : List TracedWord = c.traced_words-traced.result.now in
    subst (λ (ts : List ObjectType). HasPairsNoted ts w c.args.place (Contains c.loop-word.notes.notes)) c.requires.types
    (pairs_done u w c.args.place c.args.ty told c.loop-word.notes c.bodies_lie_apart.ensures c.requires.body
    (c.traced_words-traced.ensures ∙ ap (λ (ts : List ObjectType). traced_words_of (declared_kinds ts c.args.ty)) (sym c.requires.types))
    (same_bodies u w c.args.marking.now c.loop-word.marking c.loop-word.invariant.marks)
    (λ word there. c.loop-word.invariant.done word (subst (λ l. Contains l word) (sym (take_all c.loop-word.word-index told (omega arith))) there)) fine)

pub returns-clause-told : goal.returns-clause-told
returns-clause-told g c =
    let told : List TracedWord = c.traced_words-traced.result.now in
    subst (Traces c.args.seat.now c.args.notes.now c.loop-word.seat c.loop-word.notes c.args.place)
    (take_all c.loop-word.word-index told (omega arith) ∙ c.traced_words-traced.ensures) c.loop-word.invariant.told

pub returns-clause-hand : goal.returns-clause-hand
returns-clause-hand g c =
    let u = c.args.seat.now in
    let told : List TracedWord = c.traced_words-traced.result.now in
    let is : told ≡ traced_words_of (declared_kinds u.types c.args.ty) =
    c.traced_words-traced.ensures ∙ ap (λ (ts : List ObjectType). traced_words_of (declared_kinds ts c.args.ty)) (sym c.requires.types) in
    hand_at_end (traced_in u.types c.args.ty) c.loop-word.seat c.args.place c.args.ty c.loop-word.word-index
    (omega (arith, c.loop-word-test.false, told_length u.types c.args.ty told is)) c.loop-word.invariant.hand

pub returns-clause-looked : goal.returns-clause-looked
returns-clause-looked g c =
    subst (λ (ts : List ObjectType). LooksWithin ts c.args.seat.now c.loop-word.seat) c.requires.types c.loop-word.invariant.looked
