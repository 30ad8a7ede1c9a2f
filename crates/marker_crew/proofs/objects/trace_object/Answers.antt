use Rattle.std.proofs.Common.{◌≡◌, List, ap, ◌∙◌, arith}
use Rattle.type_table.specs.declared.traced.TracedWord.{TracedWord}
use Rattle.type_table.specs.Types.{declared_kinds}
use Rattle.type_table.specs.TracedWords.{traced_words_of}
use Rattle.gc_graph.specs.State.{ObjectType}
use Rattle.pair_notes.specs.HandPath.{hand_last, told_length}
use Rattle.pair_notes.specs.InHand.{traced_in}
use Rattle.marker_crew.specs.Stages.{drain_stage}
use Rattle.marker_crew.proofs.TracedWords.{at_each_word, at_next_word}
use Rattle.marker_crew.proofs.Working.{Works-then}
use Rattle.marker_crew.proofs.objects.trace_object.Goals as goal

pub trace_word-requires-clause-hand : goal.trace_word-requires-clause-hand
trace_word-requires-clause-hand c =
    let types : List ObjectType = c.args.seat.now.types in
    let told : List TracedWord = c.traced_words-word-items.result.now in
    at_each_word types c.loop-word.seat c.loop-word.invariant.works.later.types c.args.place c.args.ty told
    (c.traced_words-word-items.ensures ∙ ap (λ (ts : List ObjectType). traced_words_of (declared_kinds ts c.args.ty)) c.requires.types) c.loop-word.word-index
    c.loop-word-test.true c.loop-word.invariant.hand

pub loop-word-preserved : goal.loop-word-preserved
loop-word-preserved c =
    let types : List ObjectType = c.args.seat.now.types in
    let told : List TracedWord = c.traced_words-word-items.result.now in
    record {
      works = Works-then (drain_stage c.args.seat.now c.args.share.now c.args.notes.now c.args.drained.now)
          (drain_stage c.loop-word.seat c.loop-word.share c.loop-word.notes c.loop-word.drained)
          (drain_stage c.trace_word.new.seat c.trace_word.new.share c.trace_word.new.notes c.trace_word.new.drained) c.loop-word.invariant.works
          c.trace_word.ensures.works;
      taken = c.trace_word.ensures.taken ∙ c.loop-word.invariant.taken;
      hand = at_next_word types c.loop-word.seat c.loop-word.invariant.works.later.types c.args.place c.args.ty told
          (c.traced_words-word-items.ensures ∙ ap (λ (ts : List ObjectType). traced_words_of (declared_kinds ts c.args.ty)) c.requires.types) c.trace_word.new.seat
          c.loop-word.word-index c.loop-word-test.true c.loop-word.invariant.hand c.trace_word.ensures.hand;
      count = c.trace_word.ensures.count ∙ c.loop-word.invariant.count;
    }

pub returns-clause-hand : goal.returns-clause-hand
returns-clause-hand c =
    let types : List ObjectType = c.args.seat.now.types in
    let told : List TracedWord = c.traced_words-word-items.result.now in
    let is : told ≡ traced_words_of (declared_kinds types c.args.ty) =
    c.traced_words-word-items.ensures ∙ ap (λ (ts : List ObjectType). traced_words_of (declared_kinds ts c.args.ty)) c.requires.types in
    c.loop-word.invariant.hand
    ∙ hand_last (traced_in types c.args.ty) c.args.place c.args.ty c.loop-word.word-index
    (omega (arith, c.loop-word-test.false, told_length types c.args.ty told is))
