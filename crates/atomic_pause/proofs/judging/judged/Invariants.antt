use Rattle.marker_core.specs.Bodies.{holds}
use Rattle.prefinalizer_effects.specs.Judgement.{nodes_after}
use Rattle.prefinalizer_effects.specs.PlacesInWords.{kept_of}
use Rattle.atomic_pause.proofs.judging.judged.Given as goal

abbrev pub ghost-chosen : goal.ghost-chosen
ghost-chosen a = nodes_after (kept_of (holds a.about.now.seat.now.marked) a.about.now.nodes.now.value) a.about.now.nodes.now.value
