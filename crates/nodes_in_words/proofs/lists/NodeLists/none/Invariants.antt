use Rattle.std.proofs.Common.{[]}
use Rattle.nodes_in_words.proofs.lists.NodeLists.none.Given as goal

abbrev pub ghost-chosen : goal.ghost-chosen
ghost-chosen a = []
