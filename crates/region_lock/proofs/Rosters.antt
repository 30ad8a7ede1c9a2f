-- The first pass and the numbers that it has out.
use Rattle.std.proofs.Common.{◌≡◌, ◌≢◌, ℕ, zero, suc, ◌+◌, ◌^◌, ◌<◌, ◌≤◌, ◌==◌, ◌&&◌, not, true, false, List, [], ◌∷◌, length, All, Contains, set, refl, sym, ap, ◌∙◌, subst, ⊎_elim, arith}
use mathlib.Core.Option.{some, some-injective, some-ne-none}
use lib.ListN.{get_elem?}
use Rattle.std.proofs.lemmas.Bool.{true≢false, eq-eqb, and_from}
use Rattle.atomic_table.proofs.Lists.{set_else}
use Rattle.region_lock.specs.declared.views.LockView.{LockView}
use Rattle.region_lock.specs.Counts.{count, times, Each}
use Rattle.region_lock.specs.Rule.{IsRoster, is_numbered, is_living, is_waiting, IsViewIn}
use Rattle.region_lock.proofs.Counting.{count_same, only_one, one_passes, count-le, pigeons, times_some, times_no}

module _ {E : Type 0} where
  numbered : (v : LockView E) (n : ℕ) → v.spent ≡ false → v.number ≡ n → is_numbered n v ≡ true
  numbered v n lives same = and_from (not v.spent) (v.number == n) (ap not lives) (eq-eqb v.number n same)

  -- who is who doesn't change where a view keeps its number and what it has out
  pub roster_same : (views : List (LockView E)) (i : ℕ) (v w : LockView E) → IsRoster views → get_elem? views i ≡ some v → w.number ≡ v.number
      → w.spent ≡ v.spent → w.out ≡ v.out
      → IsRoster (set views i w)
  roster_same views zero v w r at number spent out =
      let same : r.first ≡ v = some-injective r.first v (sym r.at ∙ at) in
      let outs : r.first.out ≡ w.out = ap (λ (x : LockView E). x.out) same ∙ sym out in record {
        first = w;
        at = set_first views w v at;
        zero = number ∙ ap (λ (x : LockView E). x.number) (sym same) ∙ r.zero;
        lives = spent ∙ ap (λ (x : LockView E). x.spent) (sym same) ∙ r.lives;
        all = λ n. count_same (is_numbered n) views 0 v w at (sees n) ∙ r.all n ∙ ap (λ (ns : List ℕ). times n (0 ∷ ns)) outs;
        once = λ n. subst (λ (ns : List ℕ). times n (0 ∷ ns) ≤ 1) outs (r.once n);
        total = count_same is_living views 0 v w at (ap not spent) ∙ r.total ∙ ap (λ (ns : List ℕ). 1 + length ns) outs;
        few = subst (All (λ n. n < 2 ^ 32)) outs r.few;
      }
    where
      set_first : (views : List (LockView E)) (w v : LockView E) → get_elem? views 0 ≡ some v → get_elem? (set views 0 w) 0 ≡ some w
      set_first [] w v at = absurd (some-ne-none v (sym at))
      set_first (x ∷ xs) w v at = refl

      sees : (n : ℕ) → is_numbered n w ≡ is_numbered n v
      sees n = ap (λ b. not b && (w.number == n)) spent ∙ ap (λ k. not v.spent && (k == n)) number
  roster_same views (suc i) v w r at number spent out = record {
    first = r.first;
    at = set_else views (suc i) 0 w (λ e. omega (arith, e)) ∙ r.at;
    zero = r.zero;
    lives = r.lives;
    all = λ n. count_same (is_numbered n) views (suc i) v w at (ap (λ b. not b && (w.number == n)) spent ∙ ap (λ k. not v.spent && (k == n)) number) ∙ r.all n;
    once = r.once;
    total = count_same is_living views (suc i) v w at (ap not spent) ∙ r.total;
    few = r.few;
  }

  one_numbered : (views : List (LockView E)) (n : ℕ) → IsRoster views → count (is_numbered n) views ≤ 1
  one_numbered views n r = subst (λ k. k ≤ 1) (sym (r.all n)) (r.once n)

  -- two views that aren't spent have two numbers
  pub roster_apart : (views : List (LockView E)) (i j : ℕ) (v w : LockView E) → IsRoster views → get_elem? views i ≡ some v → v.spent ≡ false
      → get_elem? views j ≡ some w → w.spent ≡ false → j ≢ i → v.number ≢ w.number
  roster_apart views i j v w r at lives there too apart same =
      apart (sym (only_one (is_numbered v.number) views i j v w (one_numbered views v.number r)
      at (numbered v v.number lives refl) there (numbered w v.number too (sym same))))

  -- the view with number 0 is the first
  pub roster_first : (views : List (LockView E)) (i : ℕ) (v : LockView E) → IsRoster views → get_elem? views i ≡ some v → v.spent ≡ false → v.number ≡ 0 → i ≡ 0
  roster_first views i v r at lives zeroth =
      only_one (is_numbered 0) views i 0 v r.first (one_numbered views 0 r) at (numbered v 0 lives zeroth) r.at (numbered r.first 0 r.lives r.zero)

  -- the first has the others' numbers out
  pub roster_out : (views : List (LockView E)) (i j : ℕ) (v w : LockView E) → IsRoster views → get_elem? views i ≡ some v → v.spent ≡ false → v.number ≡ 0
      → get_elem? views j ≡ some w → w.spent ≡ false → j ≢ i → Contains v.out w.number
  roster_out views i j v w r at lives zeroth there too apart =
      let low : i ≡ 0 = roster_first views i v r at lives zeroth in
      let same : r.first ≡ v = some-injective r.first v (sym r.at ∙ ap (get_elem? views) (sym low) ∙ at) in
      let ne : 0 ≢ w.number = λ e. roster_apart views i j v w r at lives there too apart (zeroth ∙ e) in
      let some_there : 0 < count (is_numbered w.number) views = one_passes (is_numbered w.number) views j w there (numbered w w.number too refl) in
      subst (λ (x : LockView E). Contains x.out w.number) same
      (times_some w.number r.first.out (omega (arith, some_there, r.all w.number, times_no w.number 0 r.first.out ne)))

  -- there are fewer tickets than a word has values
  pub few_wait : (names : E → ℕ) (served next : ℕ) (told : List E) (views : List (LockView E)) → IsRoster views
      → Each (IsViewIn names served next told) views → count is_waiting views ≤ 1 + 2 ^ 32
  few_wait names served next told views r each =
      let a = count-le is_waiting is_living views (λ i v at waits. living v (λ spent. true≢false (sym waits ∙ (each i v at).idle spent))) in
      let b = pigeons (2 ^ 32) r.first.out r.few (λ k. fewer k r.first.out (r.once k)) in
      omega (arith, a, b, r.total)
    where
      living : (v : LockView E) → (v.spent ≡ true → ⊥) → is_living v ≡ true
      living v h = ⊎_elim (λ e. absurd (h e)) (λ e. ap not e) (Rattle.std.proofs.lemmas.Bool.cases_Bool v.spent)

      fewer : (k : ℕ) (ns : List ℕ) → times k (0 ∷ ns) ≤ 1 → times k ns ≤ 1
      fewer k ns h = omega (arith, h)
