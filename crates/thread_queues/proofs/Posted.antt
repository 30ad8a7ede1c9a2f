-- The totals published since threads went.
use Rattle.std.proofs.Common.{◌≡◌, List, [], ◌∷◌, ◌++◌, refl}
use Rattle.heap_stats.specs.declared.totals.Totals.{Totals}
use Rattle.thread_queues.specs.Queues.{posted}
use Rattle.thread_queues.specs.Runs.{first_ordinal}

-- the first of them
abbrev pub first_at : List Totals → Totals → Totals
first_at [] last = last
first_at (t ∷ since) last = t

pub first_since : (since : List Totals) (last : Totals) → first_ordinal since last ≡ (first_at since last).ordinal
first_since [] last = refl
first_since (t ∷ since) last = refl

-- and those behind it
pub split_at : (since : List Totals) (last : Totals) → (after : List Totals) × (posted since last ≡ first_at since last ∷ after)
split_at [] last = ([], refl)
split_at (t ∷ since) last = (since ++ last ∷ [], refl)

-- one more publication leaves the first one
pub first_stays : (since : List Totals) (last next : Totals) → first_ordinal (posted since last) next ≡ first_ordinal since last
first_stays [] last next = refl
first_stays (t ∷ since) last next = refl
