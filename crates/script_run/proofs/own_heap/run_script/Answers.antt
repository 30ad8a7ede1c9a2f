use Rattle.std.proofs.Common.{◌≡◌, length, ◌∙◌, sym, subst}
use Rattle.type_table.specs.Faults.{AreGoodTypes}
use Rattle.callback_table.specs.Table.{callback_kinds}
use Rattle.heap_engine.specs.Objects.{HaveCallbacks}
use Rattle.script_run.proofs.Runnable.{have_callbacks, types_are_good}
use Rattle.script_run.proofs.own_heap.run_script.Goals as goal

pub table_of-requires : goal.table_of-requires
table_of-requires g c =
    subst (λ n. AreGoodTypes n c.into_parts-types.result.0.items) (sym c.len.ensures)
    (subst (AreGoodTypes (length (callback_kinds c.args.callbacks.now))) (sym c.into_parts-types.ensures.types) (types_are_good _ c.args.script c.requires.runnable))

pub new-requires-2-clause-called : goal.new-requires-2-clause-called
new-requires-2-clause-called g c κs live =
    let same : c.in-Ok-table_of.table ≡ c.args.script.types = c.in-Ok-table_of.ensures ∙ c.into_parts-types.ensures.types in
    subst (HaveCallbacks (length (callback_kinds c.args.callbacks.now))) (sym same) (have_callbacks _ c.args.script c.requires.runnable)
