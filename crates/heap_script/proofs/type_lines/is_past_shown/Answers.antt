use Rattle.std.proofs.Common.{◌≡◌, ◌&&◌, nat_lt, true, length, sym, ap, ◌∙◌}
use Rattle.heap_script.proofs.TypeWords.{some_length}
use Rattle.gc_graph.specs.Fields.{field_words}
use Rattle.heap_script.proofs.type_lines.is_past_shown.Goals as goal

pub returns-then-not-is_empty : goal.returns-then-not-is_empty
returns-then-not-is_empty c =
    let some : nat_lt 0 (length c.args.callbacks.now) ≡ true = some_length c.args.callbacks.now (sym c.is_empty.ensures ∙ c.if-not-is_empty.true) in
    ap (λ n. nat_lt 64 n) c.field_words.ensures ∙ sym (ap (λ b. b && nat_lt 64 (field_words c.args.kinds.now)) some)
