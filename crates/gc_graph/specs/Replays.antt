-- What a history makes of the region's slots, of one piece and the next: the slots, the start, and whether it is legal;
-- and there are always as many slots.
use Rattle.std.proofs.Common.{◌≡◌, ℕ, suc, ◌/◌, Bool, List, [], ◌∷◌, ◌++◌, length, refl, ap, ◌∙◌}
use Rattle.std.proofs.lemmas.List.{length-set}
use Rattle.gc_graph.specs.declared.region.Entry.{Entry}
use Rattle.gc_graph.specs.declared.region.Op.{Op}
use Rattle.gc_graph.specs.declared.region.Op.TheVariants as O
use Rattle.gc_graph.specs.State.{RegionSlot}
use Rattle.gc_graph.specs.History.{cleared_by, region_after, replayed, started_after, started_through, IsLegalFrom}

-- ---- two pieces, one after the other

-- the slots after two pieces of a history are what the second makes of those after the first
pub replayed-append : (region : List RegionSlot) (xs ys : List Entry) → replayed region (xs ++ ys) ≡ replayed (replayed region xs) ys
replayed-append region [] ys = refl
replayed-append region (x ∷ xs) ys = replayed-append (region_after region x.op) xs ys

-- whether a start still awaits its pause after two pieces of a history is what the second makes of what the first left
pub started-append : (started : Bool) (xs ys : List Entry) → started_through started (xs ++ ys) ≡ started_through (started_through started xs) ys
started-append started [] ys = refl
started-append started (x ∷ xs) ys = started-append (started_after started x.op) xs ys

-- a legal piece of a history and one that is legal from where it ends are legal as one
pub legal-append : (region : List RegionSlot) (started : Bool) (xs ys : List Entry) → IsLegalFrom region started xs
    → IsLegalFrom (replayed region xs) (started_through started xs) ys → IsLegalFrom region started (xs ++ ys)
legal-append region started [] ys a b = b
legal-append region started (x ∷ xs) ys a b = (a.0, a.1, legal-append (region_after region x.op) (started_after started x.op) xs ys a.2 b)

-- ---- how many slots there are

pub cleared_length : (mask : ℕ) (region : List RegionSlot) → length (cleared_by mask region) ≡ length region
cleared_length mask [] = refl
cleared_length mask (slot ∷ region) = ap suc (cleared_length (mask / 2) region)

-- an entry leaves the region as many slots as it had
pub region_after_length : (region : List RegionSlot) (op : Op) → length (region_after region op) ≡ length region
region_after_length region (O.Export x n) = length-set region x _
region_after_length region (O.Import x) = refl
region_after_length region O.Start = refl
region_after_length region (O.Pause cleared) = cleared_length cleared region
region_after_length region (O.Copy x y) = length-set region y _
region_after_length region (O.Clear x) = length-set region x _
region_after_length region (O.Weaken x) = length-set region x _
region_after_length region (O.Upgrade x y) = length-set region y _

-- a history leaves the region as many slots as it had
pub replayed_length : (region : List RegionSlot) (history : List Entry) → length (replayed region history) ≡ length region
replayed_length region [] = refl
replayed_length region (entry ∷ history) = replayed_length (region_after region entry.op) history ∙ region_after_length region entry.op
