use Rattle.heap_region.proofs.owned.OwnedRegion.history.Given as goal

abbrev pub ghost-chosen : goal.ghost-chosen
ghost-chosen a = a.about.now.taken
