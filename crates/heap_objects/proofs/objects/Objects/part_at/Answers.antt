use Rattle.std.specs.Arc.{arc_value}
use Rattle.std.proofs.Common.{List, sym, ap, ◌∙◌}
use Rattle.gc_graph.specs.State.{Setup, Node}
use Rattle.heap_objects.specs.declared.field.Part.TheVariants as P
use Rattle.heap_objects.specs.Fields.{part_in}
use Rattle.heap_objects.specs.Objects.{target_in}
use Rattle.heap_objects.specs.PairFields.{has_pair, reads_part}
use Rattle.heap_objects.proofs.objects.Objects.part_at.Goals as goal

pub read_pair-key-requires-clause-pair : goal.read_pair-key-requires-clause-pair
read_pair-key-requires-clause-pair c =
    let setup : Setup = record { shape = c.self.inside.space.shape; markers = c.self.inside.grey.crew.markers; types = (arc_value c.self.inside.types); callbacks = c.self.inside.kinds.value } in
    let is = rw (← c.self.view_is) at c.requires.field in
    has_pair setup c.self.inside.nodes.value c.self.inside.seat is.0 is.1 c.args.field c.fields_stand_apart.ensures (rw (← c.self.view_is) at c.requires.valid)
    c.self.invariant.held.bodies c.self.invariant.known is.2 c.requires.pair

pub named_by-requires : goal.named_by-requires
named_by-requires c =
    let setup : Setup = record { shape = c.self.inside.space.shape; markers = c.self.inside.grey.crew.markers; types = (arc_value c.self.inside.types); callbacks = c.self.inside.kinds.value } in
    let nodes : List Node = c.self.inside.nodes.value in
    let is = rw (← c.self.view_is) at c.requires.field in
    record {
      reference = (
        part_in P.Key nodes is.0 is.1,
        reads_part setup nodes c.self.inside.seat is.0 is.1 c.args.field P.Key c.read_pair-key.result.0 (rw (← c.self.view_is) at c.requires.valid)
            c.self.invariant.held.bodies is.2 c.requires.pair c.read_pair-key.ensures.key,
      );
    }

pub named_by-requires-in-Value : goal.named_by-requires-in-Value
named_by-requires-in-Value c =
    let setup : Setup = record { shape = c.self.inside.space.shape; markers = c.self.inside.grey.crew.markers; types = (arc_value c.self.inside.types); callbacks = c.self.inside.kinds.value } in
    let nodes : List Node = c.self.inside.nodes.value in
    let is = rw (← c.self.view_is) at c.requires.field in
    record {
      reference = (
        part_in P.Value nodes is.0 is.1,
        reads_part setup nodes c.self.inside.seat is.0 is.1 c.args.field P.Value c.read_pair-key.result.1 (rw (← c.self.view_is) at c.requires.valid)
            c.self.invariant.held.bodies is.2 c.requires.pair c.read_pair-key.ensures.value,
      );
    }

pub returns-in-Key-clause-target : goal.returns-in-Key-clause-target
returns-in-Key-clause-target c = rw (← c.self.view_is) (λ n f is.
    let setup : Setup = record { shape = c.self.inside.space.shape; markers = c.self.inside.grey.crew.markers; types = (arc_value c.self.inside.types); callbacks = c.self.inside.kinds.value } in
    let nodes : List Node = c.self.inside.nodes.value in
    c.named_by.ensures.target (part_in P.Key nodes n f)
    (reads_part setup nodes c.self.inside.seat n f c.args.field P.Key c.read_pair-key.result.0 (rw (← c.self.view_is) at c.requires.valid)
    c.self.invariant.held.bodies is c.requires.pair c.read_pair-key.ensures.key)
    ∙ ap (λ part. target_in nodes (part_in part nodes n f)) (sym c.in-Key.is))

pub returns-in-Value-clause-target : goal.returns-in-Value-clause-target
returns-in-Value-clause-target c = rw (← c.self.view_is) (λ n f is.
    let setup : Setup = record { shape = c.self.inside.space.shape; markers = c.self.inside.grey.crew.markers; types = (arc_value c.self.inside.types); callbacks = c.self.inside.kinds.value } in
    let nodes : List Node = c.self.inside.nodes.value in
    c.named_by-in-Value.ensures.target (part_in P.Value nodes n f)
    (reads_part setup nodes c.self.inside.seat n f c.args.field P.Value c.read_pair-key.result.1 (rw (← c.self.view_is) at c.requires.valid)
    c.self.invariant.held.bodies is c.requires.pair c.read_pair-key.ensures.value)
    ∙ ap (λ part. target_in nodes (part_in part nodes n f)) (sym c.in-Value.is))
