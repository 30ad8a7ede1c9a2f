use Rattle.callback_table.specs.Table.{callback_kinds}
use Rattle.heap_objects.proofs.kinds.of.Given as goal

abbrev pub ghost-chosen : goal.ghost-chosen
ghost-chosen d a = callback_kinds a.about.now
