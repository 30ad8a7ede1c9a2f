use Rattle.std.proofs.Common.{◌≡◌, ℕ, List, Option, None, get_or, sym, ◌∙◌, ap}
use Rattle.gc_graph.specs.declared.kind.Value.{Value}
use Rattle.gc_graph.specs.State.{Node}
use Rattle.gc_graph.specs.ObjectSteps.{part_of}
use Rattle.heap_cycle.specs.Nodes.{place_of, word_of}
use Rattle.heap_cycle.specs.Handles.{slot_part}
use Rattle.heap_cycle.specs.declared.parts.Parts.{Parts}
use Rattle.heap_cycle.specs.Parts.{IsReady}
use Rattle.heap_cycle.specs.Ties.{slot_place, slot_live}
use Rattle.heap_engine.proofs.PairAnswers.{slots_are_parts, slot_part_word}
use Rattle.heap_engine.proofs.KeptSlots.{part_kept}
use Rattle.heap_engine.proofs.pairs.pair.Goals as goal

pub write_pair-requires-clause-both : goal.write_pair-requires-clause-both
write_pair-requires-clause-both c =
    let nodes : List Node = c.args.parts.now.objects.nodes in
    let k : Option ℕ = get_or c.args.parts.now.handles.slots c.args.k None in
    let v : Option ℕ = get_or c.args.parts.now.handles.slots c.args.v None in
    rw (c.part.ensures.value, c.part-2.ensures.value)
    (slots_are_parts nodes k v (slot_live c.args.parts.now c.args.k c.requires.ready)
    (slot_live c.args.parts.now c.args.v c.requires.ready))

-- the word of a part, where the slots hold the places of what they name
part_word_is : (s : Parts) (q other w : ℕ) (x : Value) → IsReady s → w ≡ slot_part (get_or s.handles.places q None) (get_or s.handles.places other None)
    → x ≡ part_of (get_or s.handles.slots q None) (get_or s.handles.slots other None) → w ≡ word_of (place_of s.objects.nodes) x
part_word_is s q other w x ready word value =
    word ∙ ap (λ place. slot_part place (get_or s.handles.places other None)) (slot_place s q ready.tied)
    ∙ ap (slot_part _) (slot_place s other ready.tied)
    ∙ slot_part_word s.objects.nodes (get_or s.handles.slots q None) (get_or s.handles.slots other None) ∙ sym (ap (word_of (place_of s.objects.nodes)) value)

pub write_pair-requires-clause-key : goal.write_pair-requires-clause-key
write_pair-requires-clause-key c =
    part_word_is c.args.parts.now c.args.k c.args.v c.part.result.word c.part.result.value.value c.requires.ready c.part.ensures.word c.part.ensures.value

pub write_pair-requires-clause-value : goal.write_pair-requires-clause-value
write_pair-requires-clause-value c =
    part_word_is c.args.parts.now c.args.v c.args.k c.part-2.result.word c.part-2.result.value.value c.requires.ready c.part-2.ensures.word
    c.part-2.ensures.value

pub write_pair-requires-clause-key_kept : goal.write_pair-requires-clause-key_kept
write_pair-requires-clause-key_kept c = part_kept c.args.parts.now c.args.k c.args.v c.part.result.word c.requires.ready c.part.ensures.word

pub write_pair-requires-clause-value_kept : goal.write_pair-requires-clause-value_kept
write_pair-requires-clause-value_kept c = part_kept c.args.parts.now c.args.v c.args.k c.part-2.result.word c.requires.ready c.part-2.ensures.word
