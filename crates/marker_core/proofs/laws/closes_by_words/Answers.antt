use Rattle.marker_core.proofs.Leads.{closes_by_words}
use Rattle.marker_core.proofs.laws.closes_by_words.Goals as goal

pub returns : goal.returns
returns c = closes_by_words
