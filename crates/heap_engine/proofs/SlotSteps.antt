-- The step of a weak read.
use Rattle.std.proofs.Common.{◌≡◌, ℕ, true, [], ◌∷◌, get_or, Option, None, option_map, sym, ap, ◌∙◌}
use Rattle.std.specs.Prelude.{MatchOption}
use Rattle.gc_graph.specs.declared.line.Line.{Line}
use Rattle.gc_graph.specs.declared.line.Line.TheVariants as L
use Rattle.gc_graph.specs.Fields.{content_of}
use Rattle.gc_graph.specs.Outcomes.{answered}
use Rattle.gc_graph.specs.HandleSteps.{StepRead}
use Rattle.heap_cycle.specs.Nodes.{place_of}
use Rattle.heap_cycle.specs.Handles.{put_in, HandlesView}
use Rattle.heap_cycle.specs.declared.parts.Parts.{Parts}
use Rattle.heap_cycle.specs.Parts.{state_of}
use Rattle.heap_engine.specs.FieldSteps.{HasRead}
use Rattle.heap_engine.proofs.SlotReads.{content_names, content_target, slot_read}

pub step_read : (s mid : Parts) (after : HandlesView) (w p : ℕ) (target : Option (ℕ × ℕ)) (told : Line)
    → target ≡ option_map (λ (n : ℕ). (place_of s.objects.nodes n, n)) (get_or s.handles.weak w None) → MatchOption target (told ≡ L.Null) (λ (t : ℕ × ℕ). told ≡ L.Node t.1)
    → HasRead true s mid target → after ≡ put_in mid.handles p target → StepRead (state_of s) w p (told ∷ []) (answered (state_of (record mid { handles = after })))
step_read s mid after w p target told read line has put =
    let slot : Option ℕ = get_or s.handles.weak w None in
    slot_read true s mid after p (content_of slot) target told (content_names slot)
    (read ∙ ap (option_map (λ (n : ℕ). (place_of s.objects.nodes n, n))) (sym (content_target slot))) line has put
