use Rattle.std.proofs.Common.{List, ap, ◌∙◌, sym, subst}
use Rattle.gc_graph.specs.State.{Node}
use Rattle.gc_graph.specs.Valid.{AreLive}
use Rattle.cross_thread_region.specs.declared.chronicle.PlacedEntry.{PlacedEntry}
use Rattle.cross_thread_region.specs.PlacedNodes.{strong_is_told, strong_place_below}
use Rattle.heap_region.specs.AmongNodes.{IsAmong}
use Rattle.std.specs.Prelude.{Contains, ◌+◌}
use Rattle.heap_region.specs.Marks.{NameRoots, TellsRoots}
use Rattle.heap_roots.specs.Handles.{HandlesView}
use Rattle.heap_roots.specs.Roots.{roots_in}
use Rattle.heap_roots.proofs.RegionRoots.{slot_among, roots_live, tells_roots}
use Rattle.heap_roots.proofs.handles.Handles.begin.Goals as goal

pub begin-requires : goal.begin-requires
begin-requires g c =
    let nodes : List Node = c.args.objects.now.nodes in
    let handles : HandlesView = c.args.self.now in
    let history : List PlacedEntry = c.args.region.now.taken in
    let shared = c.requires.1.1.0 in
    let live = c.requires.1.1.1.1.1.1.1.0 in
    let roots : AreLive nodes g.roots =
    subst (AreLive nodes) (sym c.requires.0) (roots_live nodes handles history live c.requires.1.1.1.1.1.1.1.1 shared) in
    let names : NameRoots nodes g.roots c.self.inside.strong = record {
      slots = handles.slots;
      named = record { live = live; places_are = ap (λ (h : HandlesView). h.places) c.self.view_is ∙ c.requires.1.1.1.1.1.1.0 };
      among = λ n is. subst (λ roots. IsAmong roots n) (sym c.requires.0) (slot_among handles history n is);
    } in
    let tells : TellsRoots nodes g.roots c.args.told.now =
    subst (λ roots. TellsRoots nodes roots c.args.told.now) (sym c.requires.0)
    (subst (TellsRoots nodes (roots_in handles history)) (sym c.requires.1.0) (tells_roots nodes handles history shared)) in
    (c.requires.1.1.1.0, (c.requires.1.1.1.1.0, (c.requires.1.1.1.1.1.0, (roots, (names, tells)))))

pub returns-clause-shared : goal.returns-clause-shared
returns-clause-shared g c = λ x p is.
    let history : List PlacedEntry = c.args.region.now.taken in
    c.begin.ensures.told p (subst (λ l. Contains l (p + 1)) (sym c.requires.1.0) (strong_is_told history 32 x p (strong_place_below history x p is) is))
