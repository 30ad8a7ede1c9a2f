use Rattle.std.proofs.Common.{[]}
use Rattle.oilpan.proofs.gathered.nothing.Given as goal

abbrev pub ghost-chosen : goal.ghost-chosen
ghost-chosen t a = []
