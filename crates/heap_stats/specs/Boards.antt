-- What contracts see of the publisher and of the passes, and how totals follow one another.
use Rattle.std.specs.Prelude.{ℕ, ◌<◌, ◌≤◌, List, [], ◌∷◌, ◌++◌, All, ⊤}
use Rattle.atomic_table.specs.Seated.{TableId}
use Rattle.heap_stats.specs.declared.totals.Totals.{Totals}

-- the publisher: its board, the totals that it published last, and all that it published, in order
pub record PublisherView : Type 0 where
  pub board : TableId
  pub last : Totals
  pub published : List Totals

-- a pass: its board, the ordinal of the totals that it was lent with, the ordinal that it has seen last, and the totals that it has read, in order
pub record ReaderView : Type 0 where
  pub board : TableId
  pub from : ℕ
  pub seen : ℕ
  pub read : List Totals

-- what stands on a new board
abbrev pub zeros : Totals
zeros = record { ordinal = 0; objects = 0; used = 0; finalised = 0 }

-- the publisher of a new board: the zeros count as the first totals that it published
abbrev pub first_publisher : TableId → PublisherView
first_publisher board = record { board = board; last = zeros; published = zeros ∷ [] }

-- the publisher after it published these totals
abbrev pub with_published : PublisherView → Totals → PublisherView
with_published p totals = record p { last = totals; published = p.published ++ totals ∷ [] }

-- a pass that the publisher lends: it has seen the totals published last
abbrev pub lent_from : PublisherView → ReaderView
lent_from p = record { board = p.board; from = p.last.ordinal; seen = p.last.ordinal; read = [] }

-- the pass after it read these totals
abbrev pub with_read : ReaderView → Totals → ReaderView
with_read p totals = record p { seen = totals.ordinal; read = p.read ++ totals ∷ [] }

-- each ordinal is smaller than all behind it
abbrev pub Rise : List Totals → Type 0
Rise [] = ⊤
Rise (t ∷ ts) = All (λ (u : Totals). t.ordinal < u.ordinal) ts × Rise ts

-- no ordinal is greater than one behind it
abbrev pub NeverFall : List Totals → Type 0
NeverFall [] = ⊤
NeverFall (t ∷ ts) = All (λ (u : Totals). t.ordinal ≤ u.ordinal) ts × NeverFall ts
