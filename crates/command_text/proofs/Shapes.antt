-- Numbers made into commands, one lemma for each number of them.
use Rattle.std.proofs.Common.{◌≡◌, ℕ, zero, suc, ◌==◌, Some, None, cond, List, [], ◌∷◌, ◌++◌, take, refl, sym, ◌∙◌, arith}
use Rattle.std.proofs.lemmas.Bool.{cond-false, ne_eqb}
use Rattle.gc_graph.specs.declared.command.Command.{Command}
use Rattle.gc_graph.specs.declared.command.Command.TheVariants as C
use Rattle.gc_graph.specs.declared.command.Want.{Want}
use Rattle.gc_graph.specs.declared.command.Order.{Order}
use Rattle.gc_graph.specs.Forms.{none, one, two, three, new_command, set_command, pair_command, sweep_command, threads_command, by_want, order_of_none, order_of_one, order_of_two}

-- where there is another number of them, none is made
other : (count n : ℕ) (command : Command) → (count ≡ n → ⊥) → cond (count == n) (Some command) None ≡ None
other count n command ne = cond-false (count == n) (Some command) None (ne_eqb count n ne)

pub makes_none : (count : ℕ) (a b c d : ℕ) (command : Command)
    → cond (count == 0) (Some command) None ≡ none command (take count (a ∷ b ∷ c ∷ d ∷ 0 ∷ []))
makes_none zero a b c d command = refl
makes_none (suc n) a b c d command = other (suc n) 0 command (λ e. omega (arith, e))

pub makes_one : (count : ℕ) (a b c d : ℕ) (make : ℕ → Command)
    → cond (count == 1) (Some (make a)) None ≡ one make (take count (a ∷ b ∷ c ∷ d ∷ 0 ∷ []))
makes_one zero a b c d make = refl
makes_one (suc zero) a b c d make = refl
makes_one (suc (suc n)) a b c d make = other (suc (suc n)) 1 (make a) (λ e. omega (arith, e))

pub makes_two : (count : ℕ) (a b c d : ℕ) (make : ℕ → ℕ → Command)
    → cond (count == 2) (Some (make a b)) None ≡ two make (take count (a ∷ b ∷ c ∷ d ∷ 0 ∷ []))
makes_two zero a b c d make = refl
makes_two (suc zero) a b c d make = refl
makes_two (suc (suc zero)) a b c d make = refl
makes_two (suc (suc (suc n))) a b c d make = other (suc (suc (suc n))) 2 (make a b) (λ e. omega (arith, e))

pub makes_three : (count : ℕ) (a b c d : ℕ) (make : ℕ → ℕ → ℕ → Command)
    → cond (count == 3) (Some (make a b c)) None ≡ three make (take count (a ∷ b ∷ c ∷ d ∷ 0 ∷ []))
makes_three zero a b c d make = refl
makes_three (suc zero) a b c d make = refl
makes_three (suc (suc zero)) a b c d make = refl
makes_three (suc (suc (suc zero))) a b c d make = refl
makes_three (suc (suc (suc (suc n)))) a b c d make = other (suc (suc (suc (suc n)))) 3 (make a b c) (λ e. omega (arith, e))

pub makes_order_of_none : (count : ℕ) (a b c d : ℕ) (order : Order)
    → cond (count == 1) (Some (C.At a order)) None ≡ order_of_none order (take count (a ∷ b ∷ c ∷ d ∷ 0 ∷ []))
makes_order_of_none zero a b c d order = refl
makes_order_of_none (suc zero) a b c d order = refl
makes_order_of_none (suc (suc n)) a b c d order = other (suc (suc n)) 1 (C.At a order) (λ e. omega (arith, e))

pub makes_order_of_one : (count : ℕ) (a b c d : ℕ) (make : ℕ → Order)
    → cond (count == 2) (Some (C.At a (make b))) None ≡ order_of_one make (take count (a ∷ b ∷ c ∷ d ∷ 0 ∷ []))
makes_order_of_one zero a b c d make = refl
makes_order_of_one (suc zero) a b c d make = refl
makes_order_of_one (suc (suc zero)) a b c d make = refl
makes_order_of_one (suc (suc (suc n))) a b c d make = other (suc (suc (suc n))) 2 (C.At a (make b)) (λ e. omega (arith, e))

pub makes_order_of_two : (count : ℕ) (a b c d : ℕ) (make : ℕ → ℕ → Order)
    → cond (count == 3) (Some (C.At a (make b c))) None ≡ order_of_two make (take count (a ∷ b ∷ c ∷ d ∷ 0 ∷ []))
makes_order_of_two zero a b c d make = refl
makes_order_of_two (suc zero) a b c d make = refl
makes_order_of_two (suc (suc zero)) a b c d make = refl
makes_order_of_two (suc (suc (suc zero))) a b c d make = refl
makes_order_of_two (suc (suc (suc (suc n)))) a b c d make =
    other (suc (suc (suc (suc n)))) 3 (C.At a (make b c)) (λ e. omega (arith, e))

-- ---- none is made of another number of numbers

pub new_of_others : (count : ℕ) (a b c d : ℕ) → (count ≡ 2 → ⊥) → (count ≡ 3 → ⊥) → None ≡ new_command (take count (a ∷ b ∷ c ∷ d ∷ 0 ∷ []))
new_of_others zero a b c d two three = refl
new_of_others (suc zero) a b c d two three = refl
new_of_others (suc (suc zero)) a b c d two three = absurd (two refl)
new_of_others (suc (suc (suc zero))) a b c d two three = absurd (three refl)
new_of_others (suc (suc (suc (suc n)))) a b c d two three = refl

pub set_of_others : (count : ℕ) (a b c d : ℕ) → (count ≡ 3 → ⊥) → None ≡ set_command (take count (a ∷ b ∷ c ∷ d ∷ 0 ∷ []))
set_of_others zero a b c d three = refl
set_of_others (suc zero) a b c d three = refl
set_of_others (suc (suc zero)) a b c d three = refl
set_of_others (suc (suc (suc zero))) a b c d three = absurd (three refl)
set_of_others (suc (suc (suc (suc n)))) a b zero d three = refl
set_of_others (suc (suc (suc (suc n)))) a b (suc c) d three = refl

pub pair_of_others : (count : ℕ) (a b c d : ℕ) → (count ≡ 4 → ⊥) → None ≡ pair_command (take count (a ∷ b ∷ c ∷ d ∷ 0 ∷ []))
pair_of_others zero a b c d four = refl
pair_of_others (suc zero) a b c d four = refl
pair_of_others (suc (suc zero)) a b c d four = refl
pair_of_others (suc (suc (suc zero))) a b zero d four = refl
pair_of_others (suc (suc (suc zero))) a b (suc c) d four = refl
pair_of_others (suc (suc (suc (suc zero)))) a b c d four = absurd (four refl)
pair_of_others (suc (suc (suc (suc (suc n))))) a b zero zero four = refl
pair_of_others (suc (suc (suc (suc (suc n))))) a b zero (suc d) four = refl
pair_of_others (suc (suc (suc (suc (suc n))))) a b (suc c) zero four = refl
pair_of_others (suc (suc (suc (suc (suc n))))) a b (suc c) (suc d) four = refl

pub threads_of_others : (count : ℕ) (a b c d : ℕ) → (count ≡ 1 → ⊥) → None ≡ threads_command (take count (a ∷ b ∷ c ∷ d ∷ 0 ∷ []))
threads_of_others zero a b c d one = refl
threads_of_others (suc zero) a b c d one = absurd (one refl)
threads_of_others (suc (suc n)) zero b c d one = refl
threads_of_others (suc (suc n)) (suc a) b c d one = refl

pub want_of_others : (count : ℕ) (a b c d : ℕ) (make : Want → Command) → (count ≡ 1 → ⊥)
    → None ≡ by_want make (take count (a ∷ b ∷ c ∷ d ∷ 0 ∷ []))
want_of_others zero a b c d make one = refl
want_of_others (suc zero) a b c d make one = absurd (one refl)
want_of_others (suc (suc n)) zero b c d make one = refl
want_of_others (suc (suc n)) (suc a) b c d make one = refl

pub ruleset shapes = (
  makes_none,
  makes_one,
  makes_two,
  makes_three,
  makes_order_of_none,
  makes_order_of_one,
  makes_order_of_two,
  new_of_others,
  set_of_others,
  pair_of_others,
  threads_of_others,
  want_of_others,
)

-- ---- with a wide number at the end

three_of_more : (a b c n : ℕ) (more : List ℕ) (make : ℕ → ℕ → ℕ → Command) → three make (a ∷ b ∷ c ∷ (more ++ n ∷ [])) ≡ None
three_of_more a b c n [] make = refl
three_of_more a b c n (d ∷ more) make = refl

one_of_more : (a n : ℕ) (more : List ℕ) (make : ℕ → Command) → one make (a ∷ (more ++ n ∷ [])) ≡ None
one_of_more a n [] make = refl
one_of_more a n (b ∷ more) make = refl

sweep_of_more : (a n : ℕ) (more : List ℕ) → None ≡ sweep_command (a ∷ (more ++ n ∷ []))
sweep_of_more zero n [] = refl
sweep_of_more zero n (b ∷ more) = refl
sweep_of_more (suc a) n [] = refl
sweep_of_more (suc a) n (b ∷ more) = refl

pub makes_put : (count : ℕ) (a b c d n : ℕ) (make : ℕ → ℕ → ℕ → Command)
    → cond (count == 2) (Some (make a b n)) None ≡ three make (take count (a ∷ b ∷ c ∷ d ∷ 0 ∷ []) ++ n ∷ [])
makes_put zero a b c d n make = refl
makes_put (suc zero) a b c d n make = refl
makes_put (suc (suc zero)) a b c d n make = refl
makes_put (suc (suc (suc k))) a b c d n make =
    other (suc (suc (suc k))) 2 (make a b n) (λ e. omega (arith, e)) ∙ sym (three_of_more a b c n (take k (d ∷ 0 ∷ [])) make)

pub makes_wide : (count : ℕ) (a b c d n : ℕ) (make : ℕ → Command)
    → cond (count == 0) (Some (make n)) None ≡ one make (take count (a ∷ b ∷ c ∷ d ∷ 0 ∷ []) ++ n ∷ [])
makes_wide zero a b c d n make = refl
makes_wide (suc k) a b c d n make =
    other (suc k) 0 (make n) (λ e. omega (arith, e)) ∙ sym (one_of_more a n (take k (b ∷ c ∷ d ∷ 0 ∷ [])) make)

pub sweep_of_others : (count : ℕ) (a b c d n : ℕ) → (count ≡ 0 → ⊥) → None ≡ sweep_command (take count (a ∷ b ∷ c ∷ d ∷ 0 ∷ []) ++ n ∷ [])
sweep_of_others zero a b c d n some = absurd (some refl)
sweep_of_others (suc k) a b c d n some = sweep_of_more a n (take k (b ∷ c ∷ d ∷ 0 ∷ []))

pub ruleset wide_shapes = (makes_put, makes_wide, sweep_of_others)
