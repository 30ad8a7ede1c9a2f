-- A view that is taken out and put back, and lists to which nothing is added.
use Rattle.std.proofs.lemmas.List.{set-set, append-nil}

pub ruleset view_sets = (set-set, append-nil)
