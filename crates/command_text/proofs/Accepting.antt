-- A command takes any numbers of which there are as many as it takes ones; a pair, where not one alone is null.
use Rattle.std.proofs.Common.{◌≡◌, ℕ, zero, suc, true, false, Option, List, [], ◌∷◌, length, replicate, refl, sym, subst}
use Rattle.std.specs.Prelude.{is_some}
use Rattle.gc_graph.specs.declared.command.Command.{Command}
use Rattle.gc_graph.specs.declared.command.Command.TheVariants as C
use Rattle.gc_graph.specs.declared.command.Want.{Want}
use Rattle.gc_graph.specs.declared.command.Order.{Order}
use Rattle.gc_graph.specs.Forms.{none, one, two, three, new_command, set_command, sweep_command, threads_command, by_want, order_of_none, order_of_one, order_of_two}
use Rattle.command_text.specs.declared.making.SmallForm.{SmallForm}
use Rattle.command_text.specs.declared.making.SmallForm.TheVariants as F
use Rattle.command_text.specs.declared.making.OrderForm.{OrderForm}
use Rattle.command_text.specs.declared.making.OrderForm.TheVariants as O
use Rattle.command_text.specs.declared.wide.WideForm.{WideForm}
use Rattle.command_text.specs.declared.wide.WideForm.TheVariants as W
use Rattle.command_text.specs.declared.forms.Make.{Make}
use Rattle.command_text.specs.declared.forms.Make.TheVariants as M
use Rattle.command_text.specs.Rows.{order_command_of, small_command_of, wide_command_of, command_of, makes_pair, takes}

-- it takes ones, as many as there are numbers
abbrev Ones : (List ℕ → Option Command) → List ℕ → Type 0
Ones make numbers = is_some (make (replicate (length numbers) 1)) ≡ true

abbrev Takes : (List ℕ → Option Command) → List ℕ → Type 0
Takes make numbers = is_some (make numbers) ≡ true

take_none : (command : Command) (xs : List ℕ) → Ones (none command) xs → Takes (none command) xs
take_none command [] h = refl
take_none command (a ∷ xs) h = h

take_one : (make : ℕ → Command) (xs : List ℕ) → Ones (one make) xs → Takes (one make) xs
take_one make [] h = h
take_one make (a ∷ []) h = refl
take_one make (a ∷ b ∷ xs) h = h

take_two : (make : ℕ → ℕ → Command) (xs : List ℕ) → Ones (two make) xs → Takes (two make) xs
take_two make [] h = h
take_two make (a ∷ []) h = h
take_two make (a ∷ b ∷ []) h = refl
take_two make (a ∷ b ∷ c ∷ xs) h = h

take_three : (make : ℕ → ℕ → ℕ → Command) (xs : List ℕ) → Ones (three make) xs → Takes (three make) xs
take_three make [] h = h
take_three make (a ∷ []) h = h
take_three make (a ∷ b ∷ []) h = h
take_three make (a ∷ b ∷ c ∷ []) h = refl
take_three make (a ∷ b ∷ c ∷ d ∷ xs) h = h

take_new : (xs : List ℕ) → Ones new_command xs → Takes new_command xs
take_new [] h = h
take_new (a ∷ []) h = h
take_new (a ∷ b ∷ []) h = refl
take_new (a ∷ b ∷ c ∷ []) h = refl
take_new (a ∷ b ∷ c ∷ d ∷ xs) h = h

take_set : (xs : List ℕ) → Ones set_command xs → Takes set_command xs
take_set [] h = h
take_set (a ∷ []) h = h
take_set (a ∷ b ∷ []) h = h
take_set (a ∷ b ∷ zero ∷ []) h = refl
take_set (a ∷ b ∷ suc c ∷ []) h = refl
take_set (a ∷ b ∷ zero ∷ d ∷ xs) h = h
take_set (a ∷ b ∷ suc c ∷ d ∷ xs) h = h

take_sweep : (xs : List ℕ) → Ones sweep_command xs → Takes sweep_command xs
take_sweep [] h = h
take_sweep (zero ∷ []) h = refl
take_sweep (suc a ∷ []) h = refl
take_sweep (zero ∷ b ∷ xs) h = h
take_sweep (suc a ∷ b ∷ xs) h = h

take_threads : (xs : List ℕ) → Ones threads_command xs → Takes threads_command xs
take_threads [] h = h
take_threads (zero ∷ []) h = refl
take_threads (suc a ∷ []) h = refl
take_threads (zero ∷ b ∷ xs) h = h
take_threads (suc a ∷ b ∷ xs) h = h

take_want : (make : Want → Command) (xs : List ℕ) → Ones (by_want make) xs → Takes (by_want make) xs
take_want make [] h = h
take_want make (zero ∷ []) h = refl
take_want make (suc a ∷ []) h = refl
take_want make (zero ∷ b ∷ xs) h = h
take_want make (suc a ∷ b ∷ xs) h = h

take_order_of_none : (order : Order) (xs : List ℕ) → Ones (order_of_none order) xs → Takes (order_of_none order) xs
take_order_of_none order [] h = h
take_order_of_none order (a ∷ []) h = refl
take_order_of_none order (a ∷ b ∷ xs) h = h

take_order_of_one : (make : ℕ → Order) (xs : List ℕ) → Ones (order_of_one make) xs → Takes (order_of_one make) xs
take_order_of_one make [] h = h
take_order_of_one make (a ∷ []) h = h
take_order_of_one make (a ∷ b ∷ []) h = refl
take_order_of_one make (a ∷ b ∷ c ∷ xs) h = h

take_order_of_two : (make : ℕ → ℕ → Order) (xs : List ℕ) → Ones (order_of_two make) xs → Takes (order_of_two make) xs
take_order_of_two make [] h = h
take_order_of_two make (a ∷ []) h = h
take_order_of_two make (a ∷ b ∷ []) h = h
take_order_of_two make (a ∷ b ∷ c ∷ []) h = refl
take_order_of_two make (a ∷ b ∷ c ∷ d ∷ xs) h = h

take_order : (form : OrderForm) (xs : List ℕ) → Ones (order_command_of form) xs → Takes (order_command_of form) xs
take_order O.Copy xs h = take_order_of_two _ xs h
take_order O.Clear xs h = take_order_of_one _ xs h
take_order O.Weaken xs h = take_order_of_one _ xs h
take_order O.Upgrade xs h = take_order_of_two _ xs h
take_order O.Totals xs h = take_order_of_none _ xs h

take_small : (form : SmallForm) (xs : List ℕ) → makes_pair (M.Small form) ≡ false → Ones (small_command_of form) xs → Takes (small_command_of form) xs
take_small (F.Bare form) xs p h = take_none _ xs h
take_small (F.One form) xs p h = take_one _ xs h
take_small (F.Two form) xs p h = take_two _ xs h
take_small (F.Three form) xs p h = take_three _ xs h
take_small F.New xs p h = take_new xs h
take_small F.Set xs p h = take_set xs h
take_small F.Pair xs p h = cc
take_small F.Threads xs p h = take_threads xs h
take_small F.GcFinish xs p h = take_want (λ w. C.GcFinish w) xs h
take_small F.GcNow xs p h = take_want (λ w. C.GcNow w) xs h
take_small (F.At form) xs p h = take_order form xs h

take_wide : (form : WideForm) (xs : List ℕ) → Ones (wide_command_of form) xs → Takes (wide_command_of form) xs
take_wide W.Put xs h = take_three _ xs h
take_wide W.PushPlain xs h = take_one _ xs h
take_wide W.Sweep xs h = take_sweep xs h

taken : (make : Make) (xs : List ℕ) → makes_pair make ≡ false → Ones (command_of make) xs → Takes (command_of make) xs
taken (M.Small form) xs p h = take_small form xs p h
taken (M.Wide form) xs p h = take_wide form xs h

-- as many numbers as the command takes make it
pub accepts : (make : Make) (xs : List ℕ) (n : ℕ) → makes_pair make ≡ false → length xs ≡ n → takes make n ≡ true
    → is_some (command_of make xs) ≡ true
accepts make xs n p e h = taken make xs p (subst (λ k. takes make k ≡ true) (sym e) h)
