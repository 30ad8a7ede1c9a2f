-- What is true of the board at every step, and what each call does to the view of the pass that makes it.
use Rattle.std.specs.Prelude.{◌≡◌, ℕ, ◌≤◌, true, false, List, [], ◌∷◌, ◌++◌, All, Contains}
use mathlib.Core.Option.{some}
use lib.ListN.{get_elem?}
use Rattle.atomic_table.specs.Seated.{TableId}
use Rattle.heap_stats.specs.declared.totals.Totals.{Totals}
use Rattle.heap_stats.specs.declared.views.BoardView.{BoardView}
use Rattle.heap_stats.specs.Boards.{PublisherView, ReaderView, zeros, Rise, NeverFall}

-- ---- views

-- the publisher that a view tells
abbrev pub publisher_view : TableId → BoardView → PublisherView
publisher_view board v = record { board = board; last = v.last; published = v.published }

-- the pass that a view tells
abbrev pub reader_view : TableId → BoardView → ReaderView
reader_view board v = record { board = board; from = v.from; seen = v.seen; read = v.read }

-- the publisher's view of a new board
abbrev pub first_view : BoardView
first_view = record { writes = true; last = zeros; published = zeros ∷ []; from = 0; seen = 0; read = []; taken = [] }

-- a view that knows nothing
abbrev pub blank : BoardView
blank = record { writes = false; last = zeros; published = []; from = 0; seen = 0; read = []; taken = [] }

-- it has published these totals
abbrev pub publishing : BoardView → Totals → BoardView
publishing v totals = record v { last = totals; published = v.published ++ totals ∷ []; seen = totals.ordinal }

-- it has read these totals
abbrev pub reading : BoardView → Totals → BoardView
reading v totals = record v { seen = totals.ordinal; read = v.read ++ totals ∷ [] }

-- the view of a pass that the publisher lends
abbrev pub lent : BoardView → BoardView
lent v = record blank { from = v.last.ordinal; seen = v.last.ordinal }

-- the publisher's view, to which a pass with view w came back
abbrev pub taking : BoardView → BoardView → BoardView
taking v w = record v { taken = w.read }

-- ---- what calls tell

-- totals were found that are no older than what the view had seen, and it has read them
abbrev pub IsReading : BoardView → Totals → BoardView → Type 0
IsReading before found after = (before.seen ≤ found.ordinal) × (after ≡ reading before found)

-- nothing changed, and what the pass taken back last had read was published
pub record IsLooking (before after : BoardView) : Type 0 where
  pub same : after ≡ before
  pub taken : All (Contains before.published) before.taken

-- ---- what is true between calls

-- of the publisher's view: what was published rises, and ends with the totals published last
pub record IsPublisher (v : BoardView) : Type 0 where
  pub writes : v.writes ≡ true
  pub rise : Rise v.published
  pub last : (before : List Totals) × (v.published ≡ before ++ v.last ∷ [])

-- of a reader's view: what it has read lies between the ordinals that it was lent with and has seen last, and stands in order
pub record IsReader (v : BoardView) : Type 0 where
  pub reads : v.writes ≡ false
  pub from : v.from ≤ v.seen
  pub later : All (λ (t : Totals). v.from ≤ t.ordinal) v.read
  pub below : All (λ (t : Totals). t.ordinal ≤ v.seen) v.read
  pub order : NeverFall v.read

-- of each view, where these totals stand on the board and all of these were published
pub record IsViewOn (now : Totals) (published : List Totals) (at : ℕ) (v : BoardView) : Type 0 where
  pub writer : v.writes ≡ true → (at ≡ 0) × (v.last ≡ now) × (v.published ≡ published)
  pub seen : v.seen ≤ now.ordinal
  pub read : All (Contains published) v.read
  pub taken : All (Contains published) v.taken

-- the rule: what stands on the board was published, and so was all that any view has read; only the first view publishes
pub record IsOnBoard (now : Totals) (views : List BoardView) : Type 0 where
  pub published : List Totals
  pub within : Contains published now
  pub each : (i : ℕ) (v : BoardView) → get_elem? views i ≡ some v → IsViewOn now published i v
