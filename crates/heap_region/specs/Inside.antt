-- What the crate's own code cites: what is true of the region's fields between two calls.
use Rattle.std.specs.Prelude.{◌≡◌, ℕ, ◌≤◌, Bool, true, false, List, [], ◌++◌, length, map, take, drop, All, Contains, Option, Some, option_map, if◌then◌else◌}
use Rattle.gc_graph.specs.declared.line.Line.{Line}
use Rattle.gc_graph.specs.declared.line.Line.TheVariants as L
use Rattle.gc_graph.specs.declared.region.Entry.{Entry}
use Rattle.gc_graph.specs.RegionSteps.{Answer, HasDone, entries_by}
use Rattle.cross_thread_region.specs.declared.chronicle.PlacedEntry.{PlacedEntry}
use Rattle.cross_thread_region.specs.Calls.{HeldView, PassView, RegionView}
use Rattle.cross_thread_region.specs.Histories.{entries_of}
use Rattle.thread_queues.specs.Going.{AreOut}
use Rattle.thread_queues.specs.Queues.{QueuesView, queue_in, threads_in}

-- what was taken of the history: the first entries that the pass has seen
abbrev pub taken_of : PassView → ℕ → List PlacedEntry
taken_of pass taken = take taken pass.seen

-- the lines that a join tells before its last one: what the orders were answered, and then the entries behind those that were told
-- before
abbrev pub lines_told : Bool → List Line → ℕ → List PlacedEntry → List Line
lines_told telling replies shown taken = if telling then replies ++ map (λ entry. L.Entry entry) (entries_of (drop shown taken)) else []

-- the entry is the owner's
abbrev pub IsOwners : Entry → Type 0
IsOwners entry = entry.thread ≡ 0

-- the pass is the first one of a region of 32 slots, and has the turn in which this is held, if something is
pub record IsOwnersPass (region : RegionView) (pass : PassView) (held : Option HeldView) : Type 0 where
  pub lock : pass.lock ≡ region.lock
  pub first : pass.number ≡ 0
  pub slots : region.slots ≡ 32
  pub turn : pass.turn ≡ option_map (λ h. (h.ticket, h.history)) held

-- a join holds all that its pass has seen, which was taken, while it has lines to tell and no join is awaited
pub record IsHeld (pass : PassView) (queues : QueuesView) (held : HeldView) (taken shown : ℕ) : Type 0 where
  pub all_seen : held.history ≡ pass.seen
  pub all_taken : taken ≡ length pass.seen
  pub joined : queues.awaiting ≡ false
  pub tells : lines_told true queues.replies shown (taken_of pass taken) ≡ [] → ⊥

-- the threads that run went, and are away: their passes had seen, behind what joins have told, entries of the owner alone
pub record HaveStarted (queues : QueuesView) (told : List PlacedEntry) : Type 0 where
  pub away : queues.away ≡ true
  pub all : queues.running ≡ threads_in queues.queues
  pub seen : (p : PassView) → Contains queues.passes p → (rest : List PlacedEntry) × (p.seen ≡ told ++ rest) × All IsOwners (entries_of rest)

-- thread j has done the first of its orders: these are its entries among those that were taken and that no join has told
abbrev pub HasBegunIn : QueuesView → List Entry → ℕ → Type 0
HasBegunIn queues untold j = (n : ℕ) × (answers : List Answer) × HasDone j (take n (queue_in queues.queues j)) answers (entries_by j untold)

-- the pass is the owner's, and those of threads that are away are out; what was taken are the first entries that the pass has seen, and,
-- until the region is closed, the others name passes that are out; entries that no join has told are the owner's while no join is awaited,
-- and else the threads that run are away, or, where the region is closed, those that were taken are of their first orders
pub record IsOwned
    (region : RegionView) (pass : PassView) (queues : QueuesView) (held : Option HeldView) (taken printed shown : ℕ) (closed : Bool) : Type 0 where
  pub owner : IsOwnersPass region pass held
  pub holds : (h : HeldView) → held ≡ Some h → IsHeld pass queues h taken shown
  pub outs : AreOut region pass queues
  pub few : taken ≤ length pass.seen
  pub ahead : closed ≡ false → All (λ (p : PlacedEntry). Contains pass.out p.entry.thread) (drop taken pass.seen)
  pub printed_few : printed ≤ taken
  pub shown_few : shown ≤ taken
  pub none_out : queues.awaiting ≡ false → pass.out ≡ []
  pub none_run : queues.awaiting ≡ false → queues.running ≡ []
  pub owners : queues.awaiting ≡ false → All IsOwners (entries_of (drop printed (taken_of pass taken)))
  pub started : queues.awaiting ≡ true → closed ≡ false → HaveStarted queues (take printed pass.seen)
  pub begun : closed ≡ true → (j : ℕ) → Contains queues.running j → HasBegunIn queues (entries_of (drop printed (taken_of pass taken))) j
