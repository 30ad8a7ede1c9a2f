use Rattle.std.proofs.Common.{None, get_or, sym, subst, ◌∙◌, ap}
use Rattle.heap_cycle.specs.Fields.{IsLiveReference}
use Rattle.heap_cycle.specs.Handles.{slot_word}
use Rattle.heap_cycle.specs.Ties.{slot_place, slot_live}
use Rattle.heap_engine.proofs.FieldAnswers.{content_live, content_word}
use Rattle.heap_engine.proofs.KeptSlots.{content_kept}
use Rattle.heap_engine.proofs.fields.set.Goals as goal

pub write-requires-clause-value : goal.write-requires-clause-value
write-requires-clause-value c =
    subst (IsLiveReference c.args.parts.now.objects.nodes) (sym c.content-content.ensures.value)
    (content_live c.args.parts.now.objects.nodes (get_or c.args.parts.now.handles.slots c.args.q None)
    (slot_live c.args.parts.now c.args.q c.requires.ready))

pub write-requires-clause-word : goal.write-requires-clause-word
write-requires-clause-word c =
    rw c.content-content.ensures.value
    (c.content-content.ensures.word
    ∙ ap slot_word (slot_place c.args.parts.now c.args.q c.requires.ready.tied)
    ∙ content_word c.args.parts.now.objects.nodes (get_or c.args.parts.now.handles.slots c.args.q None))

pub write-requires-clause-kept : goal.write-requires-clause-kept
write-requires-clause-kept c = content_kept c.args.parts.now c.args.q c.content-content.result.word c.requires.ready c.content-content.ensures.word
