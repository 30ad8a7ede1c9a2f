use Rattle.script_generator.proofs.Ranges.{generated_is_in_ranges}
use Rattle.script_generator.proofs.laws.generated_is_in_ranges.Goals as goal

pub returns : goal.returns
returns c = generated_is_in_ranges
