-- Regions and passes, and what a call with a pass makes of them.
use Rattle.std.specs.Prelude.{◌≡◌, ◌≢◌, ◌⊎◌, ℕ, List, [], ◌∷◌, ◌++◌, length, take, Some, None, All}
use Rattle.atomic_table.specs.Seated.{TableId}
use Rattle.gc_graph.specs.declared.region.Op.{Op}
use Rattle.gc_graph.specs.declared.region.Reply.{Reply}
use Rattle.gc_graph.specs.declared.region.Reply.TheVariants as R
use Rattle.gc_graph.specs.History.{reply_of, IsLegal}
use Rattle.gc_graph.specs.Outcomes.{IsThreadOp}
use Rattle.region_lock.specs.Passes.{PassState}
use Rattle.region_lock.specs.Rule as Lock
use Rattle.cross_thread_region.specs.declared.chronicle.PlacedEntry.{PlacedEntry}
use Rattle.cross_thread_region.specs.Histories.{entries_of, slots_of}

-- a region: how many slots it has, and which lock its history is behind
pub record RegionView : Type 0 where
  pub slots : ℕ
  pub lock : TableId

-- a pass is one of the lock: its number, what it has seen of the history, the numbers of the passes that were split off it and not
-- joined, and the turn that it has
abbrev pub PassView : Type 0
PassView = PassState PlacedEntry

-- the number that an entry names: that of the pass with which it was made
abbrev pub named : PlacedEntry → ℕ
named placed = placed.entry.thread

-- these entries are the first ones of the history
abbrev pub Begins : List PlacedEntry → List PlacedEntry → Type 0
Begins seen history = take (length seen) history ≡ seen

-- an entry whose number isn't 0 is an order of a thread: exports, imports, starts and pauses are the owner's
abbrev pub AreByRight : List PlacedEntry → Type 0
AreByRight history = All (λ (p : PlacedEntry). p.entry.thread ≢ 0 → IsThreadOp p.entry.op) history

-- the history goes on with what the pass has not seen: no entry of that names the pass, and where the pass is the first one each
-- names a pass that is out
abbrev pub Continues : PassView → List PlacedEntry → Type 0
Continues pass history = Lock.Continues named pass.number pass.seen pass.out history

-- a call may be made with the pass: it is one of the region's lock, and has no turn
pub record IsPassReady (region : RegionView) (pass : PassView) : Type 0 where
  pub lock : pass.lock ≡ region.lock
  pub free : pass.turn ≡ None

-- at its turn the pass finds this history, which is legal
pub record Finds (pass : PassView) (history : List PlacedEntry) : Type 0 where
  pub goes_on : Continues pass history
  pub legal : IsLegal (entries_of history)
  pub right : AreByRight history

-- ---- calls

-- the entry of a call with a pass of this number: its reply is the one that a region of one thread gives at this point of the history
abbrev pub placed_entry_of : ℕ → List PlacedEntry → Op → ℕ → PlacedEntry
placed_entry_of number history op place = record {
  entry = record { thread = number; op = op; reply = reply_of (slots_of history) op };
  place = place;
}

-- the history with the next entry of the first pass
abbrev pub history_with_own : List PlacedEntry → Op → ℕ → List PlacedEntry
history_with_own history op place = history ++ placed_entry_of 0 history op place ∷ []

-- the pass has seen this history
abbrev pub seeing : PassView → List PlacedEntry → PassView
seeing pass history = record pass { seen = history }

-- memory was wanting: the pass has seen the history, in which no entry was made
pub record IsCallRefused (old : PassView) (history : List PlacedEntry) (reply : Reply) (new : PassView) : Type 0 where
  pub reply_is : reply ≡ R.NoMemory
  pub pass : new ≡ seeing old history

-- the entry is the next one of the history, which stays legal, and the pass has seen it all
pub record IsEntered (old : PassView) (history : List PlacedEntry) (placed : PlacedEntry) (reply : Reply) (new : PassView) : Type 0 where
  pub reply_is : reply ≡ placed.entry.reply
  pub pass : new ≡ seeing old (history ++ placed ∷ [])
  pub legal : IsLegal (entries_of (history ++ placed ∷ []))

-- a call finds a history and makes its entry there, or memory was wanting
pub record IsCallAnswered (old : PassView) (op : Op) (place : ℕ) (reply : Reply) (new : PassView) : Type 0 where
  pub history : List PlacedEntry
  pub finds : Finds old history
  pub answer : IsCallRefused old history reply new ⊎ IsEntered old history (placed_entry_of old.number history op place) reply new

-- ---- turns

-- what is held in a turn: its ticket's word, and the history
pub record HeldView : Type 0 where
  pub ticket : ℕ
  pub history : List PlacedEntry

-- the pass has the turn in which this is held
abbrev pub with_turn : PassView → HeldView → PassView
with_turn pass held = record pass { turn = Some (held.ticket, held.history) }

-- the pass has given its turn back, and has seen this history
abbrev pub after_turn : PassView → List PlacedEntry → PassView
after_turn pass history = record pass { seen = history; turn = None }
