-- Which headers a precise pause looks at until marking ends.
use Rattle.std.proofs.Common.{◌≡◌, ℕ, true, List, ◌++◌, length, drop, Some, ap, ◌∙◌, inl}
use Rattle.std.proofs.KnownBytes.{starts_with_rest}
use Rattle.std.specs.Io.{StartsWith}
use Rattle.gc_graph.specs.State.{ObjectType}
use Rattle.marker_core.specs.Bodies.{holds}
use Rattle.page_words.specs.Seat.{SeatView}
use Rattle.cross_thread_region.specs.declared.chronicle.PlacedEntry.{PlacedEntry}
use Rattle.cross_thread_region.specs.Histories.{strong_place}
use Rattle.ephemerons.specs.LookedAt.{IsLookedAt, LooksOnlyAt, LooksWithin}
use Rattle.ephemerons.specs.LookedPlaces.{looked_nowhere, looked_then, looked_as}
use Rattle.atomic_pause.specs.Marking.{IsSharedPlace, LooksEarlyAt}

-- the strong slots are visited (u), then those of the region (r) and no stack (w), and marking is brought to its end (y)
pub looked_out : (types : List ObjectType) (history : List PlacedEntry) (v u r w y : SeatView) → u.looked ≡ v.looked
    → LooksOnlyAt (IsSharedPlace history) u r → w.looked ≡ r.looked → ((x p : ℕ) → strong_place history x ≡ Some p → holds r.marked p ≡ true)
    → ((p : ℕ) → holds r.marked p ≡ true → holds w.marked p ≡ true) → ((p : ℕ) → holds w.marked p ≡ true → holds y.marked p ≡ true)
    → LooksWithin types w y → LooksWithin types v y
looked_out types history v u r w y visit share scan shared scanned closed close =
    looked_then (IsLookedAt types y) v u y (looked_nowhere (IsLookedAt types y) v u visit)
    (looked_then (IsLookedAt types y) u r y
    (looked_as (IsSharedPlace history) (IsLookedAt types y) u r (λ p at. inl (closed p (scanned p (shared at.0 p at.1)))) share)
    (looked_then (IsLookedAt types y) r w y (looked_nowhere (IsLookedAt types y) r w scan) close))

-- marking was brought to its end (y), and after that headers were looked at too (z)
pub looked_early : (is_so : ℕ → Type 0) (types : List ObjectType) (v y z : SeatView) → y.early ≡ length y.looked → StartsWith z.looked y.looked → z.early ≡ y.early
    → ((p : ℕ) → IsLookedAt types y p → is_so p) → LooksWithin types v y → LooksEarlyAt is_so v z
looked_early is_so types v y z early after still each looks =
    let rest : List ℕ = drop (length y.looked) z.looked in
    record {
      more = looks.more;
      rest = rest;
      grown = starts_with_rest z.looked y.looked after ∙ ap (λ l. l ++ rest) looks.grown;
      early = still ∙ early ∙ ap length looks.grown;
      each = λ p there. each p (looks.each p there);
    }
