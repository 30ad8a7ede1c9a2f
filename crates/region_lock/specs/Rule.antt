-- What is true of the lock's table at every step.
use Rattle.std.specs.Prelude.{◌≡◌, ◌≢◌, ◌⊎◌, ℕ, ◌+◌, ◌%◌, ◌^◌, ◌<◌, ◌≤◌, ◌&&◌, not, Bool, true, false, List, [], ◌∷◌, ◌++◌, length, All, Contains, ◌==◌, Option, Some}
use mathlib.Core.Option.{some, none}
use lib.ListN.{get_elem?}
use Rattle.atomic_table.specs.Table.{State}
use Rattle.region_lock.specs.declared.views.LockView.{LockView}
use Rattle.region_lock.specs.Counts.{count, times, Each}

-- the view of the first pass, before it did anything
abbrev pub first_view : {E : Type 0} → LockView E
first_view = record {
  spent = false;
  number = 0;
  seen = [];
  out = [];
  waits = false;
  ticket = 0;
  holds = false;
  found = [];
  own = [];
  others = [];
  was_out = [];
  back = 0;
}

module _ {E : Type 0} where
  -- it has a ticket that was not served
  abbrev pub is_waiting : LockView E → Bool
  is_waiting v = v.waits

  -- it holds the slot
  abbrev pub is_holding : LockView E → Bool
  is_holding v = v.holds

  -- it was not given back
  abbrev pub is_living : LockView E → Bool
  is_living v = not v.spent

  -- it was not given back and has this number
  abbrev pub is_numbered : ℕ → LockView E → Bool
  is_numbered n v = not v.spent && (v.number == n)

  -- it has this ticket
  abbrev pub has_ticket : ℕ → LockView E → Bool
  has_ticket t v = v.waits && (v.ticket == t)

module _ {E : Type 0} (names : E → ℕ) where
  -- what a pass with this number has seen begins these entries; none of the rest names the pass, and for the first pass, number 0, each of them names one that is out
  pub record Continues (number : ℕ) (seen : List E) (out : List ℕ) (entries : List E) : Type 0 where
    pub rest : List E
    pub all : entries ≡ seen ++ rest
    pub others : All (λ e. names e ≢ number) rest
    pub outs : number ≡ 0 → All (λ e. Contains out (names e)) rest

  -- of what the first pass and one with this number had seen, one begins the other; what only one of them had seen isn't the other's, and what only the second had names numbers that were out
  abbrev pub BeginsOther : ℕ → List E → List E → List ℕ → Type 0
  BeginsOther number own others out =
      ((rest : List E) × (others ≡ own ++ rest) × All (λ e. Contains out (names e)) rest × All (λ e. names e ≢ 0) rest)
      ⊎ ((rest : List E) × (own ≡ others ++ rest) × All (λ e. names e ≢ number) rest)

  -- what is true of each view, where the ticket served has its turn, the ticket next is drawn next, and others find the entries told
  pub record IsViewIn (served next : ℕ) (told : List E) (v : LockView E) : Type 0 where
    pub idle : v.spent ≡ true → v.waits ≡ false
    pub line : v.waits ≡ true → (served ≤ v.ticket) × (v.ticket < next)
    pub turn : v.holds ≡ true → (v.waits ≡ true) × (v.ticket ≡ served) × (v.found ≡ told)
    pub seen : v.spent ≡ false → Continues v.number v.seen v.out told
    pub joined : BeginsOther v.back v.own v.others v.was_out

-- the first view has out just the numbers of the others that were not given back, each once and never 0
pub record IsRoster {E : Type 0} (views : List (LockView E)) : Type 0 where
  pub first : LockView E
  pub at : get_elem? views 0 ≡ some first
  pub zero : first.number ≡ 0
  pub lives : first.spent ≡ false
  pub all : (n : ℕ) → count (is_numbered n) views ≡ times n (0 ∷ first.out)
  pub once : (n : ℕ) → times n (0 ∷ first.out) ≤ 1
  pub total : count is_living views ≡ 1 + length first.out
  pub few : All (λ n. n < 2 ^ 32) first.out

-- the slot is in the table, and its value has the entries told; or one view holds it
abbrev pub IsHome : {V E : Type 0} → (V → List E) → List (mathlib.Core.Option.Option (Option V)) → List (LockView E) → List E → Type 0
IsHome {V} entries homes views told =
    ((count is_holding views ≡ 0) × (x : V) × (homes ≡ some (Some x) ∷ []) × (entries x ≡ told)) ⊎ ((count is_holding views ≡ 1) × (homes ≡ none ∷ []))

-- the rule: the words tell next, served and the length of told; each ticket between is one view's; the slot is home or with the view whose ticket is served
pub record IsInTurn {V E : Type 0} (entries : V → List E) (names : E → ℕ) (s : State (Option V) (LockView E)) : Type 0 where
  pub served : ℕ
  pub next : ℕ
  pub told : List E
  pub words : s.words ≡ next % 2 ^ 64 ∷ served % 2 ^ 64 ∷ length told % 2 ^ 64 ∷ []
  pub line : served + count is_waiting s.views ≡ next
  pub differ : (t : ℕ) → count (has_ticket t) s.views ≤ 1
  pub each : Each (IsViewIn names served next told) s.views
  pub home : IsHome entries s.homes s.views told
  pub roster : IsRoster s.views
