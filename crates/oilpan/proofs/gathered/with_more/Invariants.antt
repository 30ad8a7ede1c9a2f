use Rattle.std.proofs.Common.{[], ◌∷◌, ◌++◌}
use Rattle.oilpan.proofs.gathered.with_more.Given as goal

abbrev pub ghost-chosen : goal.ghost-chosen
ghost-chosen t a = a.about.now.all.now.value ++ a.about.now.more.now ∷ []
