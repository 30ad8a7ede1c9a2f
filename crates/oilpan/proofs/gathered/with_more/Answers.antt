use borrow.Author.Rules.{lives}
use Rattle.oilpan.proofs.gathered.with_more.Goals as goal

pub chosen-requires : goal.chosen-requires
chosen-requires g c κs within = search (lives, within) depth 24
