use Rattle.std.proofs.Common.{◌<◌, List, length, ap, ◌∙◌, rules}
use Rattle.pair_notes.specs.declared.index.Entry.{Entry}
use Rattle.pair_notes.proofs.Kept.{same_keys}
use Rattle.pair_notes.proofs.index.Index.link_below.Goals as goal

pub returns-then-next : goal.returns-then-next
returns-then-next c =
    let entries : List Entry = c.loop-bit.self.entries.items in
    let low : c.loop-bit.at < length entries = search rules in
    same_keys entries c.loop-bit.at c.set_child.new.self c.index_mut.result.now low
    (c.set_child.ensures ∙ ap (λ (e : Entry). e.key) c.index_mut.ensures.value) ∙ c.loop-bit.invariant
