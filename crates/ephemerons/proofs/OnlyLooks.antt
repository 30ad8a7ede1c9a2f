-- Headers were looked at, and nothing else has changed.
use Rattle.std.proofs.Common.{◌≡◌, ℕ, List, false, None, sym, ap, ◌∙◌, subst}
use Rattle.std.proofs.lemmas.Bool.{true≢false}
use Rattle.gc_graph.specs.State.{ObjectType}
use Rattle.mark_worklist.specs.declared.marking.Marking.{Marking}
use Rattle.page_words.specs.Seat.{SeatView, IsAlone, OnlyLooked}
use Rattle.pair_notes.specs.Marking.{GrowsWithin}
use Rattle.pair_notes.specs.Notes.{NotesState}
use Rattle.ephemerons.specs.Fixpoint.{IsGround, Looks, stage, without_looks}
use Rattle.ephemerons.proofs.Looks.{looked_ground, looked_works}
use Rattle.ephemerons.proofs.Stages.{Works-same}

module _ (u v : SeatView) (same : OnlyLooked u v) where
  alone_looked : IsAlone u → IsAlone v
  alone_looked alone = record {
    no_hand = ap (λ (x : SeatView). x.hand) same ∙ alone.no_hand;
    no_pending = ap (λ (x : SeatView). x.pending) same ∙ alone.no_pending;
    none_lent = ap (λ (x : SeatView). x.lent) same ∙ alone.none_lent;
  }

  -- what grows from the one grows from the other
  pub grows_from : (types : List ObjectType) (w : SeatView) → GrowsWithin types v w → GrowsWithin types u w
  grows_from types w within = subst (λ (x : SeatView). GrowsWithin types x w) same within

  module _ (types : List ObjectType) (m : Marking) (groups : List NotesState) (n : ℕ) where
    pub stage_looked : without_looks (stage v m groups n) ≡ without_looks (stage u m groups n)
    stage_looked = ap (λ (x : SeatView). without_looks (stage x m groups n)) same

    pub ground_looked : IsGround types (stage u m groups n) → IsGround types (stage v m groups n)
    ground_looked ground = looked_ground types (stage u m groups n) (stage v m groups n) stage_looked (alone_looked ground.alone) ground

    pub looks_none : Looks types None (stage u m groups n) (stage v m groups n) false
    looks_none = record {
      works = looked_works types None (stage u m groups n) (stage v m groups n) stage_looked (Works-same types (stage u m groups n));
      lighter = λ found. absurd (true≢false (sym found));
      still = λ _. stage_looked;
    }
