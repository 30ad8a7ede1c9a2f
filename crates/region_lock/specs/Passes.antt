-- What contracts see of a pass, and what the calls do to it.
use Rattle.std.specs.Prelude.{◌≡◌, ℕ, ◌%◌, ◌^◌, ◌<◌, Bool, true, false, List, [], length, ◌∷◌, ◌++◌, All, Option, Some, None}
use Rattle.atomic_table.specs.Table.{Me}
use Rattle.atomic_table.specs.Seated.{TableId}
use Rattle.region_lock.specs.declared.views.LockView.{LockView}
use Rattle.region_lock.specs.declared.passes.Held.{Held}
use Rattle.region_lock.specs.Rule.{Continues}
use Rattle.region_lock.specs.Plays.{longer, without}

-- a pass: its lock, its number, the entries that it has seen, the numbers of the passes that are out, and its turn, which is the ticket's word and the entries found
pub record PassState (E : Type 0) : Type 0 where
  pub lock : TableId
  pub number : ℕ
  pub seen : List E
  pub out : List ℕ
  pub turn : Option (ℕ × List E)

module _ {E : Type 0} where
  -- a turn, where there is one
  abbrev pub turn_if : Bool → ℕ → List E → Option (ℕ × List E)
  turn_if true ticket found = Some (ticket, found)
  turn_if false ticket found = None

  -- the turn that a view tells
  abbrev pub turn_of : LockView E → Option (ℕ × List E)
  turn_of v = turn_if v.holds (v.ticket % 2 ^ 64) v.found

  -- the pass that a view tells
  abbrev pub pass_state : TableId → LockView E → PassState E
  pass_state lock v = record { lock = lock; number = v.number; seen = v.seen; out = v.out; turn = turn_of v }

  -- the first pass of a new lock
  abbrev pub first_state : TableId → PassState E
  first_state lock = record { lock = lock; number = 0; seen = []; out = []; turn = None }

  -- a pass with number n that is split off p
  abbrev pub split_off : PassState E → ℕ → PassState E
  split_off p n = record { lock = p.lock; number = n; seen = p.seen; out = []; turn = None }

  -- p, off which a pass with number n was split
  abbrev pub with_out : PassState E → ℕ → PassState E
  with_out p n = record p { out = n ∷ p.out }

  -- p, to which q came back: it has seen the longer of both lists, and q's number is no longer out
  abbrev pub joined_with : PassState E → PassState E → PassState E
  joined_with p q = record p { seen = longer p.seen q.seen; out = without q.number p.out }

-- what a seat carries between calls: the slot, whose value the turn has, or nothing
abbrev pub carried_by : {V : Type 0} → Bool → List (ℕ × Option V)
carried_by true = (0, None) ∷ []
carried_by false = []

-- what is true of a seat between calls
pub record IsPass {V E : Type 0} (me : Me (Option V) (LockView E)) : Type 0 where
  pub lives : me.0.spent ≡ false
  pub waits : me.0.waits ≡ me.0.holds
  pub small : me.0.number < 2 ^ 32
  pub carries : me.1 ≡ carried_by me.0.holds

module _ {V E : Type 0} (entries : V → List E) (names : E → ℕ) where
  -- the value was taken with the pass, its entries begin with all that the pass has seen, and their number is known
  pub record IsTaken (old : PassState E) (held : Held V) (new : PassState E) : Type 0 where
    pub pass : new ≡ record old { turn = Some (held.ticket, entries held.value) }
    pub seen : Continues names old.number old.seen old.out (entries held.value)
    pub counted : held.count ≡ length (entries held.value) % 2 ^ 64

  -- the value was taken with this pass; its entries begin with those found, each new one behind them names the pass, and each was counted
  pub record MayBeGiven (pass : PassState E) (held : Held V) : Type 0 where
    pub found : List E
    pub turn : pass.turn ≡ Some (held.ticket, found)
    pub new : List E
    pub all : entries held.value ≡ found ++ new
    pub own : All (λ e. names e ≡ pass.number) new
    pub counted : held.count ≡ length (entries held.value) % 2 ^ 64

  -- the pass after it gave the value back: it has seen its entries
  abbrev pub given : PassState E → Held V → PassState E
  given pass held = record pass { seen = entries held.value; turn = None }
