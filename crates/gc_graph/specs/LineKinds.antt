-- What a line tells.
use Rattle.std.specs.Prelude.{Bool, true, false}
use Rattle.gc_graph.specs.declared.line.Line.{Line}
use Rattle.gc_graph.specs.declared.line.Line.TheVariants as L

-- nothing was done: a refusal, or want of memory
abbrev pub tells_that_nothing_was_done : Line → Bool
tells_that_nothing_was_done (L.Refused why) = true
tells_that_nothing_was_done L.Memory = true
tells_that_nothing_was_done other = false

-- a node that was read, or null
abbrev pub tells_node : Line → Bool
tells_node (L.Node n) = true
tells_node L.Null = true
tells_node other = false

-- `ok`
abbrev pub tells_ok : Line → Bool
tells_ok L.Fine = true
tells_ok other = false

-- a new object, or that the heap is full
abbrev pub tells_place : Line → Bool
tells_place (L.Placed n a) = true
tells_place L.Full = true
tells_place other = false

-- a pause, or a callback that ran in it
abbrev pub tells_of_pause : Line → Bool
tells_of_pause (L.Pause kept dead crew traced walked) = true
tells_of_pause (L.WeakCall n d) = true
tells_of_pause (L.Prefinalise n c) = true
tells_of_pause other = false

-- what threads did, and how many were joined
abbrev pub tells_of_threads : Line → Bool
tells_of_threads (L.Reply j reply) = true
tells_of_threads (L.ReplyTotals j o n u f) = true
tells_of_threads (L.Entry entry) = true
tells_of_threads (L.Joined m) = true
tells_of_threads other = false

-- a plain word that was read
abbrev pub tells_word : Line → Bool
tells_word (L.Word w) = true
tells_word other = false

-- that a collection was started
abbrev pub tells_start : Line → Bool
tells_start L.Started = true
tells_start other = false

-- a step of marking
abbrev pub tells_step : Line → Bool
tells_step (L.Step t done) = true
tells_step other = false

-- how far a sweep came
abbrev pub tells_sweep : Line → Bool
tells_sweep (L.Swept c) = true
tells_sweep other = false

-- the totals
abbrev pub tells_objects : Line → Bool
tells_objects (L.Objects n u g) = true
tells_objects other = false

-- that an order waits
abbrev pub tells_queued : Line → Bool
tells_queued L.Queued = true
tells_queued other = false

-- how many threads go
abbrev pub tells_going : Line → Bool
tells_going (L.Going m) = true
tells_going other = false

-- an order's reply, or an entry of the history
abbrev pub tells_of_orders : Line → Bool
tells_of_orders (L.Reply j reply) = true
tells_of_orders (L.ReplyTotals j o n u f) = true
tells_of_orders (L.Entry entry) = true
tells_of_orders other = false

-- how many were joined
abbrev pub tells_joined : Line → Bool
tells_joined (L.Joined m) = true
tells_joined other = false
