-- Each call is for a later document.
use Rattle.std.proofs.Common.{◌-◌}
use Rattle.weak_cache.proofs.story.+with_documents.Given as goal

abbrev pub decreases-with_documents : goal.decreases-with_documents
decreases-with_documents g l = 3 - l.number
