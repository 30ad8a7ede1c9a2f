use Rattle.std.proofs.Common.{true}
use Rattle.marker_core.specs.Idle.{idle_view}
use Rattle.marker_core.specs.Views.{spent_view}
use Rattle.page_words.proofs.words.Words.new.Given as goal

abbrev pub ghost-chosen : goal.ghost-chosen
ghost-chosen a = record { owner = true; count = a.about.now.count; types = a.about.now.types.now; mutator = idle_view; marker = spent_view }
