use Rattle.std.proofs.Common.{ap, ◌∙◌}
use Rattle.heap_roots.specs.Handles.{HandlesView}
use Rattle.heap_roots.proofs.handles.Handles.pause.Goals as goal

pub pause-result-requires-clause-slots : goal.pause-result-requires-clause-slots
pause-result-requires-clause-slots g c = (
  c.args.self.now.slots,
  record {
    live = c.requires.live;
    places_are = ap (λ (h : HandlesView). h.places) c.self.view_is ∙ c.requires.slots;
  },
)

pub pause-result-requires-clause-weak : goal.pause-result-requires-clause-weak
pause-result-requires-clause-weak g c = (
  c.args.self.now.weak,
  record {
    live = c.requires.weak_live;
    places_are = ap (λ (h : HandlesView). h.weak_places) c.self.view_is ∙ c.requires.weak;
  },
)
