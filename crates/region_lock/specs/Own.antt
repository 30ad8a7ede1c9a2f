-- Lemmas for the crates above: the entries that name one number, and what a join makes of them.
use Rattle.std.specs.Prelude.{length, ◌≡◌, ◌≢◌, ℕ, List, [], ◌∷◌, ◌++◌, All, Contains, filter, ◌==◌}
use Rattle.std.proofs.Common.{sym, ap, ◌∙◌, cond, refl, Bool, arith, ⊎_elim, subst}
use Rattle.std.proofs.lemmas.Bool.{ne_eqb, cases_lt, lt-ltb, le-ltb}
use Rattle.std.proofs.lemmas.List.{append-nil, length-append}
use Rattle.std.proofs.lemmas.List.Elements.{All-head, All-tail, filter-append}
use Rattle.region_lock.specs.Rule.{Continues, BeginsOther}
use Rattle.region_lock.specs.Plays.{longer}

module _ {E : Type 0} where
  -- a list that goes on is the longer one
  pub longer_other : (own other mid : List E) → other ≡ own ++ mid → longer own other ≡ other
  longer_other own other [] e = ⊎_elim
      (λ lt. ap (λ b. cond b other own) (lt-ltb (length own) (length other) lt))
      (λ ge. ap (λ b. cond b other own) (le-ltb (length own) (length other) ge) ∙ sym (e ∙ append-nil own))
      (cases_lt (length own) (length other))
  longer_other own other (x ∷ mid) e =
      ap (λ b. cond b other own) (lt-ltb (length own) (length other) (omega (arith, ap length e, length-append own (x ∷ mid))))

  -- the own list, where it goes on from the other one, is the longer one
  pub longer_own : (own other mid : List E) → own ≡ other ++ mid → longer own other ≡ own
  longer_own own other mid e = ap (λ b. cond b other own) (le-ltb (length own) (length other) (omega (arith, ap length e, length-append other mid)))

module _ {E : Type 0} (names : E → ℕ) where
  -- the entries that name a number, in order
  abbrev pub entries_naming : ℕ → List E → List E
  entries_naming number entries = filter (λ e. names e == number) entries

  -- where no entry names the number, none is left
  pub none_naming : (number : ℕ) (rest : List E) → All (λ e. names e ≢ number) rest → entries_naming number rest ≡ []
  none_naming number [] h = refl
  none_naming number (e ∷ rest) h =
      ap (λ (b : Bool). cond b (e ∷ entries_naming number rest) (entries_naming number rest)) (ne_eqb (names e) number (All-head (λ e. names e ≢ number) e rest h))
      ∙ none_naming number rest (All-tail (λ e. names e ≢ number) e rest h)

  -- what a pass finds has no further entry of its own
  pub own_entries : (number : ℕ) (seen : List E) (out : List ℕ) (found : List E) → Continues names number seen out found
      → entries_naming number found ≡ entries_naming number seen
  own_entries number seen out found c =
      ap (entries_naming number) c.all ∙ filter-append (λ e. names e == number) seen c.rest
      ∙ ap (λ l. entries_naming number seen ++ l) (none_naming number c.rest c.others) ∙ append-nil (entries_naming number seen)

  -- entries behind, which name others, add none
  pub none_after : (number : ℕ) (seen rest : List E) → All (λ e. names e ≢ number) rest → entries_naming number (seen ++ rest) ≡ entries_naming number seen
  none_after number seen rest h =
      filter-append (λ e. names e == number) seen rest
      ∙ ap (λ l. entries_naming number seen ++ l) (none_naming number rest h) ∙ append-nil (entries_naming number seen)

  -- what names numbers that were out names no other number
  none_of : (k : ℕ) (out : List ℕ) (rest : List E) → (Contains out k → ⊥) → All (λ e. Contains out (names e)) rest → All (λ e. names e ≢ k) rest
  none_of k out rest gone h i d l same = gone (subst (Contains out) same (h i d l))

  -- a join brings the first pass no entry of its own
  pub joined_first : (number : ℕ) (own others : List E) (out : List ℕ) → BeginsOther names number own others out
      → entries_naming 0 (longer own others) ≡ entries_naming 0 own
  joined_first number own others out b = ⊎_elim
      (λ m. ap (entries_naming 0) (longer_other own others m.0 m.1 ∙ m.1) ∙ none_after 0 own m.0 m.3)
      (λ m. ap (entries_naming 0) (longer_own own others m.0 m.1))
      b

  -- and of the other's entries just those that the other had seen
  pub joined_other : (number : ℕ) (own others : List E) (out : List ℕ) → BeginsOther names number own others out
      → entries_naming number (longer own others) ≡ entries_naming number others
  joined_other number own others out b = ⊎_elim
      (λ m. ap (entries_naming number) (longer_other own others m.0 m.1))
      (λ m. ap (entries_naming number) (longer_own own others m.0 m.1 ∙ m.1) ∙ none_after number others m.0 m.2)
      b

  -- of a number that was not out a join brings nothing
  pub joined_gone : (k number : ℕ) (own others : List E) (out : List ℕ) → (Contains out k → ⊥) → BeginsOther names number own others out
      → entries_naming k (longer own others) ≡ entries_naming k own
  joined_gone k number own others out gone b = ⊎_elim
      (λ m. ap (entries_naming k) (longer_other own others m.0 m.1 ∙ m.1) ∙ none_after k own m.0 (none_of k out m.0 gone m.2))
      (λ m. ap (entries_naming k) (longer_own own others m.0 m.1))
      b

  -- what a join adds to the entries that the first pass had seen names numbers that were out
  pub joined_begins : (number : ℕ) (own others : List E) (out : List ℕ) → BeginsOther names number own others out
      → (rest : List E) × (longer own others ≡ own ++ rest) × All (λ e. Contains out (names e)) rest
  joined_begins number own others out b = ⊎_elim
      (λ m. (m.0, longer_other own others m.0 m.1 ∙ m.1, m.2))
      (λ m. ([], longer_own own others m.0 m.1 ∙ sym (append-nil own), λ i d l. absurd (omega (arith, l))))
      b
