-- Steps of a tracer that follow one another.
use Rattle.std.proofs.Common.{◌≡◌, Bool, ◌||◌, List, None, ap, ◌∙◌, subst}
use Rattle.gc_graph.specs.State.{ObjectType}
use Rattle.page_words.specs.Seat.{Heap}
use Rattle.ephemerons.specs.declared.tracer.Tracer.{Tracer}
use Rattle.ephemerons.specs.Fixpoint.{Looks, Works}
use Rattle.ephemerons.specs.LookedAt.{LooksOnward}
use Rattle.ephemerons.specs.Tracers.{Keeps, Advances, Searches, GoesOnward, stage_of}
use Rattle.ephemerons.proofs.Looks.{Looks-then}
use Rattle.ephemerons.proofs.Onward.{onward_then}
use Rattle.ephemerons.proofs.Stages.{Works-then}

pub same_types : {B : Type 0} {words_of : B → Heap} {a b : Tracer B} → Keeps words_of a b → b.types.now ≡ a.types.now
same_types keeps = ap (λ t. t.now) keeps.types

module _ {B : Type 0} {words_of : B → Heap} (a b c : Tracer B) (first : Keeps words_of a b) where
  pub Keeps-then : Keeps words_of b c → Keeps words_of a c
  Keeps-then second = record {
    space = second.space ∙ first.space;
    types = second.types ∙ first.types;
    seat = second.seat ∙ first.seat;
    marking = second.marking ∙ first.marking;
    groups = second.groups ∙ first.groups;
    ready = second.ready;
  }

  pub Advances-then : Advances a b → Advances b c → Advances a c
  Advances-then x y =
      Works-then a.types.now None _ _ _ x (subst (λ (ts : List ObjectType). Works ts None (stage_of b) (stage_of c)) (same_types first) y)

  pub Searches-then : (f g : Bool) → Searches a b f → Searches b c g → Searches a c (f || g)
  Searches-then f g x y =
      Looks-then a.types.now None _ _ _ f g x (subst (λ (ts : List ObjectType). Looks ts None (stage_of b) (stage_of c) g) (same_types first) y)

  pub GoesOnward-then : Advances b c → GoesOnward a b → GoesOnward b c → GoesOnward a c
  GoesOnward-then y x z =
      onward_then a.types.now _ _ _ y.kept x (subst (λ (ts : List ObjectType). LooksOnward ts (stage_of b) (stage_of c)) (same_types first) z)
