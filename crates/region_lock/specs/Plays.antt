-- What each step does to the view of the seat that takes it, and what it needs.
use Rattle.std.specs.Prelude.{◌≡◌, ◌≢◌, ◌⊎◌, ℕ, ◌+◌, ◌%◌, ◌^◌, ◌++◌, All, true, false, List, [], ◌∷◌, length, filter, not, ◌==◌, nat_lt, if◌then◌else◌, Option, Some}
use Rattle.atomic_table.specs.Table.{Me}
use Rattle.region_lock.specs.declared.views.LockView.{LockView}
use Rattle.region_lock.specs.Rule.{first_view, Continues, BeginsOther}

-- the numbers but for n
abbrev pub without : ℕ → List ℕ → List ℕ
without n numbers = filter (λ m. not (m == n)) numbers

module _ {E : Type 0} where
  -- it has drawn this ticket
  abbrev pub drawn : LockView E → ℕ → LockView E
  drawn v t = record v { waits = true; ticket = t }

  -- it holds the slot, whose value has these entries
  abbrev pub taken : LockView E → List E → LockView E
  taken v found = record v { holds = true; found = found }

  -- it has told the entries of the value that is back in the slot, and has seen them
  abbrev pub raised : LockView E → List E → LockView E
  raised v found = record v { found = found; seen = found }

  -- it has given the slot back, and its ticket was served
  abbrev pub idle : LockView E → LockView E
  idle v = record v { waits = false; holds = false }

  -- the first view, off which one with number n was split
  abbrev pub lender : LockView E → ℕ → LockView E
  lender v n = record v { out = n ∷ v.out }

  -- the view that was split off: it has seen what the first one has
  abbrev pub lent : LockView E → ℕ → LockView E
  lent v n = record first_view { number = n; seen = v.seen }

  -- a view that was given back
  abbrev pub gone : LockView E
  gone = record first_view { spent = true }

  -- the other list where it is longer, else the own one
  abbrev pub longer : List E → List E → List E
  longer seen other = if nat_lt (length seen) (length other) then other else seen

  -- the first view after a join: it has seen the longer of both lists, and keeps what the two brought
  abbrev pub taker : LockView E → LockView E → LockView E
  taker v w = record v { seen = longer v.seen w.seen; out = without w.number v.out; own = v.seen; others = w.seen; was_out = v.out; back = w.number }

module _ {V E : Type 0} where
  -- a ticket was drawn, and its word was found
  abbrev pub IsDrawn : Me (Option V) (LockView E) → ℕ → Me (Option V) (LockView E) → Type 0
  IsDrawn before found after = (t : ℕ) × (t % 2 ^ 64 ≡ found) × (after ≡ (drawn before.0 t, before.1))

  -- the next ticket is served, and nothing is held
  abbrev pub IsServed : Me (Option V) (LockView E) → Me (Option V) (LockView E) → Type 0
  IsServed before after = after ≡ (idle before.0, [])

module _ {V E : Type 0} (entries : V → List E) (names : E → ℕ) where
  -- the own ticket is served, and the slot is held with its value; what the view had seen begins the value's entries
  pub record HasTurn (before : Me (Option V) (LockView E)) (after : Me (Option V) (LockView E)) : Type 0 where
    pub value : V
    pub me : after ≡ (taken before.0 (entries value), (0, Some value) ∷ before.1)
    pub seen : Continues names before.0.number before.0.seen before.0.out (entries value)

  -- a look at the serving word: the own ticket stands there and the slot is held, or another one does and nothing changed
  abbrev pub IsWaited : Me (Option V) (LockView E) → ℕ → Me (Option V) (LockView E) → Type 0
  IsWaited before found after =
      ((found ≡ before.0.ticket % 2 ^ 64) × HasTurn before after) ⊎ ((found ≢ before.0.ticket % 2 ^ 64) × (after ≡ before))

module _ {V E : Type 0} (names : E → ℕ) where
  -- a look at the count word: it tells the length of what a holder found, and what the rule says of the last join
  pub record IsCounted (before : Me (Option V) (LockView E)) (found : ℕ) (after : Me (Option V) (LockView E)) : Type 0 where
    pub me : after ≡ before
    pub count : before.0.holds ≡ true → found ≡ length before.0.found % 2 ^ 64
    pub joined : BeginsOther names before.0.back before.0.own before.0.others before.0.was_out

module _ {V E : Type 0} (entries : V → List E) where
  -- the entries of the value that is back in the slot were told
  abbrev pub IsRaised : Me (Option V) (LockView E) → Me (Option V) (LockView E) → Type 0
  IsRaised before after = (x : V) × (before.1 ≡ (0, Some x) ∷ []) × (after ≡ (raised before.0 (entries x), before.1))

-- ---- what steps need

module _ {V E : Type 0} where
  -- the view has a ticket, whose word this is, and holds nothing
  pub record IsWaiting (me : Me (Option V) (LockView E)) (word : ℕ) : Type 0 where
    pub lives : me.0.spent ≡ false
    pub waits : me.0.waits ≡ true
    pub free : me.0.holds ≡ false
    pub ticket : word ≡ me.0.ticket % 2 ^ 64
    pub empty : me.1 ≡ []

module _ {V E : Type 0} (entries : V → List E) (names : E → ℕ) where
  -- the value that is back in the slot has the entries found and behind them some that name this view; this is the word of how many
  pub record MayRaise (me : Me (Option V) (LockView E)) (word : ℕ) : Type 0 where
    pub lives : me.0.spent ≡ false
    pub holds : me.0.holds ≡ true
    pub value : V
    pub carried : me.1 ≡ (0, Some value) ∷ []
    pub new : List E
    pub all : entries value ≡ me.0.found ++ new
    pub own : All (λ e. names e ≡ me.0.number) new
    pub word_is : word ≡ length (entries value) % 2 ^ 64

module _ {V E : Type 0} (entries : V → List E) where
  -- the value that is back in the slot has just the entries that were told; this is the word of the next ticket
  pub record MayServe (me : Me (Option V) (LockView E)) (word : ℕ) : Type 0 where
    pub holds : me.0.holds ≡ true
    pub value : V
    pub carried : me.1 ≡ (0, Some value) ∷ []
    pub all : entries value ≡ me.0.found
    pub word_is : word ≡ (me.0.ticket + 1) % 2 ^ 64
