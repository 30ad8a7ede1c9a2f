-- What a call leaves of the heap's own state: it is at rest, and valid.
use Rattle.std.proofs.Common.{◌≡◌, ℕ, Bool, true, List, None, sym, subst, get_or}
use Rattle.std.proofs.Math.Logic.{∥∥₁_map}
use Rattle.gc_graph.specs.declared.command.Command.{Command}
use Rattle.gc_graph.specs.declared.line.Line.{Line}
use Rattle.gc_graph.specs.declared.region.Entry.{Entry}
use Rattle.gc_graph.specs.State.{Setup, State}
use Rattle.gc_graph.specs.Outcomes.{slot_at}
use Rattle.gc_graph.specs.Commands.{WritesSlot}
use Rattle.gc_graph.specs.Valid.{IsValid}
use Rattle.oilpan.specs.Asked.{IsAsked}
use Rattle.oilpan.specs.Rest.{IsAtRest, IsRegionAtRest}
use Rattle.oilpan.specs.Region.{WritesRegion}
use Rattle.oilpan.specs.declared.sharing.Sharing.{Sharing}
use Rattle.oilpan.proofs.Regions.{region_still}
use Rattle.oilpan.proofs.Resting.{rest_same, rest_given, rest_nulled}

module _ (setup after : Setup) (same : after ≡ setup) (old new : State) (command : Command) (piece : List Entry) (lines : List Line) (line : Line)
    (asked : IsAsked setup old new command piece lines line) where
  to : (taken : List Bool) → IsAtRest setup new taken → IsAtRest after new taken
  to taken h = subst (λ s. IsAtRest s new taken) (sym same) h

  pub valid : ∥ IsValid setup old ∥₁ → ∥ IsValid after new ∥₁
  valid h = subst (λ s. ∥ IsValid s new ∥₁) (sym same) (∥∥₁_map h asked.valid)

  pub still : (taken : List Bool) → IsAtRest setup old taken → ((z : ℕ) → WritesSlot command z → ⊥) → IsAtRest after new taken
  still taken rest none = to taken (rest_same setup old new command piece lines line asked taken rest none)

  pub given : (taken : List Bool) → IsAtRest setup old taken → (q : ℕ) → ((z : ℕ) → WritesSlot command z → z ≡ q) → get_or taken q true ≡ true
      → IsAtRest after new taken
  given taken rest q one is = to taken (rest_given setup old new command piece lines line asked taken rest q one is)

  pub nulled : (taken : List Bool) → IsAtRest setup old taken → (q : ℕ) → ((z : ℕ) → WritesSlot command z → z ≡ q) → slot_at new q ≡ None
      → IsAtRest after new taken
  nulled taken rest q one null = to taken (rest_nulled setup old new command piece lines line asked taken rest q one null)

  -- no slot of the region was written
  pub apart : (taken : List Bool) → IsAtRest setup old taken → (shared : List Sharing) → IsRegionAtRest old shared → ((z : ℕ) → WritesRegion command z → ⊥)
      → IsRegionAtRest new shared
  apart taken rest shared region none = region_still old new command (asked.region rest.running) shared region none
