use Rattle.script_generator.proofs.Powers.{powers_are_of_two}
use Rattle.script_generator.proofs.laws.powers_are_of_two.Goals as goal

pub returns : goal.returns
returns c = powers_are_of_two
