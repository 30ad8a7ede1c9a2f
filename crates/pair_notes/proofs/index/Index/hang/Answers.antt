use Rattle.std.proofs.Common.{◌<◌, List, length, set, ap, ◌∙◌, arith, rules}
use Rattle.std.proofs.lemmas.List.{length-set}
use Rattle.pair_notes.specs.declared.index.Entry.{Entry}
use Rattle.pair_notes.proofs.Kept.{same_keys}
use Rattle.pair_notes.proofs.index.Index.hang.Goals as goal

pub returns-then-new-len : goal.returns-then-new-len
returns-then-new-len c =
    let entries : List Entry = c.args.self.now.entries.items in
    let old : Entry = c.index_mut.result.now in
    let hung : Entry = record old { older = c.index.result.now.older } in
    let mid : List Entry = set entries c.args.new hung in
    let first : Entry = c.index_mut-then-new-len.result.now in
    let low : c.args.new < length entries = search rules in
    let first_low : c.args.first < length entries = search rules in
    let first_there : c.args.first < length mid = omega (arith, first_low, length-set entries c.args.new hung) in
    same_keys mid c.args.first (record first { older = c.args.new }) first first_there (ap (λ (e : Entry). e.key) c.index_mut-then-new-len.ensures.value)
    ∙ same_keys entries c.args.new hung old low (ap (λ (e : Entry). e.key) c.index_mut.ensures.value)
