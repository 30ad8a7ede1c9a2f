use Rattle.std.proofs.Common.{◌++◌, ◌∷◌, [], map, sym, ap, ◌∙◌, arith}
use Rattle.std.specs.List.{range_with_len}
use Rattle.std.proofs.lemmas.List.FromFn.{map-range_with_len_more}
use Rattle.gc_graph.specs.declared.kind.Kind.TheVariants.{Strong}
use Rattle.type_table.specs.Types.{offset_of}
use Rattle.type_table.proofs.Offsets.{offset_few, next_offset}
use Rattle.type_table.proofs.layout.offsets_of.Goals as goal

pub overflow_add-next : goal.overflow_add-next
overflow_add-next c = omega (arith, offset_few c.args.kinds.now c.loop-kind.kind-index (omega arith))

pub loop-kind-preserved : goal.loop-kind-preserved
loop-kind-preserved c = record {
  next = omega (arith, next_offset c.args.kinds.now c.loop-kind.kind-index Strong c.loop-kind-test.true, c.words_of-next.ensures.value, c.loop-kind.invariant.next);
  done = c.in_ok-push.ensures.items
      ∙ ap (λ ys. ys ++ c.loop-kind.next ∷ []) c.loop-kind.invariant.done
      ∙ ap (λ n. map (offset_of c.args.kinds.now) (range_with_len 0 c.loop-kind.kind-index) ++ n ∷ []) c.loop-kind.invariant.next
      ∙ sym (map-range_with_len_more (offset_of c.args.kinds.now) 0 c.loop-kind.kind-index c.loop-kind.kind-index (omega arith));
}
