-- Objects stay prepared where headers were looked at. A lemma that the crates above cite too, since a crate's proofs/ can't be
-- cited from another.
use Rattle.std.proofs.Common.{List, ap, ◌∙◌, sym, subst}
use Rattle.gc_graph.specs.State.{ObjectType, Node}
use Rattle.page_words.specs.Seat.{SeatView, OnlyLooked}
use Rattle.nodes_in_words.specs.Space.{SpaceView, IsSpaceOf}
use Rattle.nodes_in_words.specs.LookedNodes.{held_looked}
use Rattle.nodes_in_words.specs.Places.{BodiesAreJudged}
use Rattle.prefinalizer_effects.specs.Prepared.{IsPrepared}

-- objects that are prepared for prefinalizers still are where headers were looked at
pub prepared_looked : (space : SpaceView) (types : List ObjectType) (v w : SeatView) (nodes : List Node) → OnlyLooked v w
    → IsPrepared space types v nodes → IsPrepared space types w nodes
prepared_looked space types v w nodes same ready = record {
  known = ap (λ (x : SeatView). x.types) same ∙ ready.known;
  laid = subst (IsSpaceOf space) (sym same) ready.laid;
  off = ap (λ (x : SeatView). x.on) same ∙ ready.off;
  held = held_looked nodes v w same ready.held;
  few = ready.few;
  typed = ready.typed;
  named = ready.named;
  judged = subst BodiesAreJudged (sym same) ready.judged;
}
