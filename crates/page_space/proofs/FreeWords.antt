-- How many words belong to no object, where the words of one object come or go.
use Rattle.std.proofs.Common.{◌≡◌, ℕ, zero, suc, ◌+◌, ◌<◌, ◌≤◌, true, false, List, refl, ap, inl, inr, arith, cond}
use Rattle.std.specs.List.{list_any}
use Rattle.std.proofs.lemmas.Bool.{cases_lt}
use Rattle.gc_graph.specs.Placement.{Extent}
use Rattle.page_space.specs.Pages.{covers, free_words}

-- apart from the words from a up to end, which are taken in the one and free in the other, the same words are taken
pub record TakesMore (more fewer : List Extent) (a end : ℕ) : Type 0 where
  pub order : a ≤ end
  pub taken : (x : ℕ) → a ≤ x → x < end → list_any (covers x) more ≡ true
  pub free : (x : ℕ) → a ≤ x → x < end → list_any (covers x) fewer ≡ false
  pub below : (x : ℕ) → x < a → list_any (covers x) more ≡ list_any (covers x) fewer
  pub above : (x : ℕ) → end ≤ x → list_any (covers x) more ≡ list_any (covers x) fewer

-- how the two counts differ before, within and after these words
record Lag (more fewer a end n : ℕ) : Type 0 where
  before : n ≤ a → more ≡ fewer
  within : a ≤ n → n ≤ end → more + n ≡ fewer + a
  after : end ≤ n → more + end ≡ fewer + a

lag : (more fewer : List Extent) (a end : ℕ) → TakesMore more fewer a end → (n : ℕ) → Lag (free_words more n) (free_words fewer n) a end n
lag more fewer a end t zero =
    let order : a ≤ end = t.order in
    record { before = λ _. refl; within = λ l h. omega arith; after = λ l. omega arith }
lag more fewer a end t (suc n) =
    let order : a ≤ end = t.order in
    let rest : Lag (free_words more n) (free_words fewer n) a end n = lag more fewer a end t n in
    let word = λ (es : List Extent). let k : ℕ = cond (list_any (covers n) es) 0 1 in k in
    let one : free_words more (suc n) ≡ free_words more n + word more = refl in
    let two : free_words fewer (suc n) ≡ free_words fewer n + word fewer = refl in
    elim (cases_lt n a) [
      | inl low ↦
          (let same : word more ≡ word fewer = ap (λ b. let k : ℕ = cond b 0 1 in k) (t.below n low) in
          let so_far : free_words more n ≡ free_words fewer n = rest.before (omega arith) in
          record { before = λ l. omega arith; within = λ l h. omega arith; after = λ l. omega arith })
      | inr high ↦ elim (cases_lt n end) [
        | inl inside ↦
            (let none : word more ≡ 0 = ap (λ b. let k : ℕ = cond b 0 1 in k) (t.taken n high inside) in
            let some : word fewer ≡ 1 = ap (λ b. let k : ℕ = cond b 0 1 in k) (t.free n high inside) in
            let so_far : free_words more n + n ≡ free_words fewer n + a = rest.within high (omega arith) in
            record { before = λ l. absurd (omega arith); within = λ l h. omega arith; after = λ l. omega arith })
        | inr over ↦
            (let same : word more ≡ word fewer = ap (λ b. let k : ℕ = cond b 0 1 in k) (t.above n over) in
            let so_far : free_words more n + end ≡ free_words fewer n + a = rest.after over in
            record { before = λ l. absurd (omega arith); within = λ l h. absurd (omega arith); after = λ l. omega arith })
      ]
    ]

pub free_differs : (more fewer : List Extent) (a size count : ℕ) → TakesMore more fewer a (a + size) → a + size ≤ count
    → free_words more count + size ≡ free_words fewer count
free_differs more fewer a size count t within =
    let ends : free_words more count + (a + size) ≡ free_words fewer count + a = (lag more fewer a (a + size) t count).after within in
    omega arith
