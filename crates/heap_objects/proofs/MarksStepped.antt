-- The objects after a step of marking.
use Rattle.std.proofs.Common.{◌≡◌, ℕ, ◌+◌, ◌≤◌, Bool, false, List, length, refl, sym, ap, ◌∙◌, subst, arith}
use Rattle.std.proofs.lemmas.List.Sums.{count_by-le-length}
use Rattle.gc_graph.specs.declared.action.ActionKind.{ActionKind}
use Rattle.gc_graph.specs.State.{Shape, ObjectType, Node}
use Rattle.mark_worklist.specs.Refusals.{TellsRefused}
use Rattle.mark_worklist.specs.Told.{told_then}
use Rattle.marker_core.specs.declared.states.Body.{Body}
use Rattle.marker_core.specs.Bodies.{holds}
use Rattle.page_words.specs.Seat.{SeatView}
use Rattle.marker_crew.specs.Marking.{traced_count}
use Rattle.heap_objects.specs.Crews.{IsStepped}
use Rattle.heap_objects.specs.Marking.{GreyView, pushes_in, notes_in}
use Rattle.heap_objects.specs.Marks.{CrewIsLent, HasMarking}
use Rattle.heap_objects.proofs.CrewStays.{crew_told}
use Rattle.heap_objects.proofs.MarksKept.{may_same}
use Rattle.heap_objects.proofs.MarksStored.{view_in}
use Rattle.heap_objects.proofs.Unlooked.{way_told, may_is, may_told}

-- ---- a step

pub traced_few : (v w : SeatView) (count : ℕ) → w.bodies ≡ v.bodies → count ≡ length v.bodies → traced_count w ≤ count
traced_few v w count same is = omega (arith, count_by-le-length (λ (b : Body). holds w.traced b.place) w.bodies, ap length same, is)

pub has_stepped : (shape : Shape) (types : List ObjectType) (callbacks : List ActionKind) (nodes : List Node) (v w : SeatView) (g k : GreyView) (n : ℕ) (may : List Bool)
    → IsStepped v g w k n → HasMarking may (view_in shape types callbacks nodes v g)
    → HasMarking may (view_in shape types callbacks nodes w (record k { traced = g.traced + n }))
has_stepped shape types callbacks nodes v w g k n may stepped h =
    let now : GreyView = record g { marking = k.marking; notes = k.notes; traced = g.traced + n; found = k.found } in
    subst (λ (x : GreyView). HasMarking may (view_in shape types callbacks nodes w (record x { traced = g.traced + n }))) (sym stepped.rest) (record {
      under_way = way_told w k.marking k.notes stepped.way;
      crew = crew_told w now (counting w (record g { marking = k.marking; notes = k.notes; found = k.found }) (g.traced + n) (subst (CrewIsLent w) stepped.rest stepped.crew));
      may_is = may_told nodes w may (may_same nodes nodes v w may refl (λ i. refl) (λ i. refl) stepped.same.may (may_is nodes v may h.may_is));
      counted = stepped.counted ∙ ap (λ i. i + n) h.counted;
      pushes_told = told_then (record { told = false; count = g.since.pushes }) (pushes_in g) (pushes_in now) h.pushes_told (subst (λ (x : GreyView). TellsRefused (pushes_in g) (pushes_in x)) stepped.rest stepped.pushes);
      notes_told = told_then (record { told = false; count = g.since.notes }) (notes_in g) (notes_in now) h.notes_told (subst (λ (x : GreyView). TellsRefused (notes_in g) (notes_in x)) stepped.rest stepped.notes);
    })
  where
    -- where the markers are is not told by how many objects were traced
    counting : (u : SeatView) (x : GreyView) (traced : ℕ) → CrewIsLent u x → CrewIsLent u (record x { traced = traced })
    counting u x traced is = record {
      lent = is.lent;
      home = λ none. (let home = is.home none in record { whole = home.whole; unshared = home.unshared; paired = home.paired; others = home.others; many = home.many });
      out = λ some. (let out = is.out some in record {
        many = out.many;
        shared = out.shared;
        first = out.first;
        fresh = out.fresh;
        family = out.family;
        began = out.began;
        others = out.others;
        refused = out.refused;
        since = out.since;
        put = out.put;
        marked = out.marked;
        taken = out.taken;
        lone = out.lone;
      });
    }
