use Rattle.std.proofs.Common.{ℕ, Bool, List, inl, inr}
use Rattle.gc_graph.specs.declared.phase.Phase.{Phase}
use Rattle.gc_graph.specs.declared.phase.Phase.TheVariants.{Idle, Marking, Sweeping}
use Rattle.heap_roots.specs.Marks.{GoesOnOrRests, HasMarks}
use Rattle.heap_roots.specs.Objects.{ObjectsView}
use Rattle.heap_cycle.proofs.crew.join_crew.Goals as goal

-- marking goes on in its own phase alone
goes_on_or_rests : (phase : Phase) (limit : ℕ) (may : List Bool) (o : ObjectsView) → HasMarks phase limit may o → GoesOnOrRests o
goes_on_or_rests Idle limit may o marks = inr marks.0
goes_on_or_rests Marking limit may o marks = inl (may, marks)
goes_on_or_rests Sweeping limit may o marks = inr marks.0

pub join_crew-requires : goal.join_crew-requires
join_crew-requires g c = record { marks = goes_on_or_rests _ _ _ _ c.requires.tied.marks }
