-- Each form of the table says commands with numbers in their ranges.
use Rattle.std.proofs.Common.{◌≡◌, ℕ, zero, suc, ◌<◌, Bool, true, false, cond, List, [], ◌∷◌, ◌++◌, length, Option, Some, None, refl, sym, ap, ◌∙◌, subst, arith}
use Rattle.std.specs.Prelude.{nat_lt, codes, ⊤}
use Rattle.std.proofs.lemmas.Option.{same_Some}
use Rattle.std.proofs.lemmas.List.{append-nil}
use Rattle.gc_graph.specs.declared.command.Command.{Command}
use Rattle.gc_graph.specs.declared.command.Command.TheVariants as C
use Rattle.gc_graph.specs.declared.command.Order.{Order}
use Rattle.gc_graph.specs.declared.command.Order.TheVariants as Q
use Rattle.gc_graph.specs.declared.command.Want.{Want}
use Rattle.gc_graph.specs.declared.command.Want.TheVariants.{Precise, Conservative}
use Rattle.gc_graph.specs.Lawful.{IsAllowed, IsAllowedOrder}
use Rattle.gc_graph.specs.Words.{is_text}
use Rattle.gc_graph.specs.Forms.{Place, Row, Form, thread, none, one, two, three, new_command, set_command, pair_command, sweep_command, threads_command, by_want, order_of_none, order_of_one, order_of_two, rows, gc_rows, at_rows, row_named, form_of, form_after_gc, form_after_at, plain_form, gc_form, at_form}
use Rattle.gc_graph.specs.Forms.Form.{Missing, Unknown, Known}
use Rattle.gc_graph.specs.Reasons.{Bounds}
use Rattle.gc_graph.proofs.SaidNumbers.{FitsFirst, IsFrom, IsFromOr, Fit}

-- the command that such numbers say is allowed
abbrev Allows : ℕ → (List ℕ → Type 0) → (List ℕ → Option Command) → Type 0
Allows types fits command = (numbers : List ℕ) (c : Command) → fits numbers → command numbers ≡ Some c → IsAllowed types c

-- no number is left
abbrev End : List ℕ → Type 0
End numbers = numbers ≡ []

not_the_end : (n : ℕ) (numbers : List ℕ) → n ∷ numbers ≡ [] → ⊥
not_the_end n numbers e = cc

is_said : (types : ℕ) (a c : Command) → Some a ≡ Some c → IsAllowed types a → IsAllowed types c
is_said types a c e allowed = subst (IsAllowed types) (same_Some a c e) allowed

-- ---- by the shape of a form

allows_none : (types : ℕ) (command : Command) → IsAllowed types command → Allows types End (none command)
allows_none types command allowed [] c fits e = is_said types command c e allowed
allows_none types command allowed (a ∷ more) c fits e = cc

allows_one : (types : ℕ) (A : ℕ → Type 0) (make : ℕ → Command) → ((a : ℕ) → A a → IsAllowed types (make a))
    → Allows types (FitsFirst A End) (one make)
allows_one types A make allowed [] c fits e = absurd fits
allows_one types A make allowed (a ∷ []) c fits e = is_said types (make a) c e (allowed a fits.0)
allows_one types A make allowed (a ∷ b ∷ more) c fits e = cc

allows_two : (types : ℕ) (A B : ℕ → Type 0) (make : ℕ → ℕ → Command) → ((a b : ℕ) → A a → B b → IsAllowed types (make a b))
    → Allows types (FitsFirst A (FitsFirst B End)) (two make)
allows_two types A B make allowed [] c fits e = absurd fits
allows_two types A B make allowed (a ∷ []) c fits e = absurd fits.1
allows_two types A B make allowed (a ∷ b ∷ []) c fits e = is_said types (make a b) c e (allowed a b fits.0 fits.1.0)
allows_two types A B make allowed (a ∷ b ∷ d ∷ more) c fits e = cc

allows_three : (types : ℕ) (A B D : ℕ → Type 0) (make : ℕ → ℕ → ℕ → Command)
    → ((a b d : ℕ) → A a → B b → D d → IsAllowed types (make a b d))
    → Allows types (FitsFirst A (FitsFirst B (FitsFirst D End))) (three make)
allows_three types A B D make allowed [] c fits e = absurd fits
allows_three types A B D make allowed (a ∷ []) c fits e = absurd fits.1
allows_three types A B D make allowed (a ∷ b ∷ []) c fits e = absurd fits.1.1
allows_three types A B D make allowed (a ∷ b ∷ d ∷ []) c fits e = is_said types (make a b d) c e (allowed a b d fits.0 fits.1.0 fits.1.1.0)
allows_three types A B D make allowed (a ∷ b ∷ d ∷ n ∷ more) c fits e = cc

-- ---- the forms with a shape of their own

allows_new : (types : ℕ) → Allows types (FitsFirst (IsFrom 0 256) (FitsFirst (IsFrom 0 types) End)) new_command
allows_new types [] c fits e = absurd fits
allows_new types (p ∷ []) c fits e = absurd fits.1
allows_new types (p ∷ t ∷ []) c fits e = is_said types (C.New p t 0) c e (fits.0.1, fits.1.0.1, omega arith)
allows_new types (p ∷ t ∷ x ∷ more) c fits e = absurd (not_the_end x more fits.1.1)

allows_new_with : (types : ℕ)
    → Allows types (FitsFirst (IsFrom 0 256) (FitsFirst (IsFrom 0 types) (FitsFirst (IsFrom 0 33554433) End))) new_command
allows_new_with types [] c fits e = absurd fits
allows_new_with types (p ∷ []) c fits e = absurd fits.1
allows_new_with types (p ∷ t ∷ []) c fits e = absurd fits.1.1
allows_new_with types (p ∷ t ∷ x ∷ []) c fits e =
    is_said types (C.New p t x) c e (fits.0.1, fits.1.0.1, omega (arith, fits.1.1.0.1))
allows_new_with types (p ∷ t ∷ x ∷ n ∷ more) c fits e = cc

allows_set : (types : ℕ)
    → Allows types (FitsFirst (IsFrom 0 256) (FitsFirst (IsFrom 0 67108864) (FitsFirst (IsFromOr 0 256) End))) set_command
allows_set types [] c fits e = absurd fits
allows_set types (p ∷ []) c fits e = absurd fits.1
allows_set types (p ∷ f ∷ []) c fits e = absurd fits.1.1
allows_set types (p ∷ f ∷ zero ∷ []) c fits e = is_said types (C.SetNull p f) c e (fits.0.1, fits.1.0.1)
allows_set types (p ∷ f ∷ suc q ∷ []) c fits e = is_said types (C.Set p f q) c e (fits.0.1, fits.1.0.1, fits.1.1.0.1)
allows_set types (p ∷ f ∷ q ∷ n ∷ more) c fits e = absurd (not_the_end n more fits.1.1.1)

allows_pair : (types : ℕ) → Allows types (FitsFirst (IsFrom 0 256) (FitsFirst (IsFrom 0 67108864)
    (FitsFirst (IsFromOr 0 256) (FitsFirst (IsFromOr 0 256) End)))) pair_command
allows_pair types [] c fits e = absurd fits
allows_pair types (p ∷ []) c fits e = absurd fits.1
allows_pair types (p ∷ f ∷ []) c fits e = absurd fits.1.1
allows_pair types (p ∷ f ∷ k ∷ []) c fits e = absurd fits.1.1.1
allows_pair types (p ∷ f ∷ zero ∷ zero ∷ []) c fits e = is_said types (C.PairNull p f) c e (fits.0.1, fits.1.0.1)
allows_pair types (p ∷ f ∷ suc k ∷ suc v ∷ []) c fits e =
    is_said types (C.Pair p f k v) c e (fits.0.1, fits.1.0.1, fits.1.1.0.1, fits.1.1.1.0.1)
allows_pair types (p ∷ f ∷ zero ∷ suc v ∷ []) c fits e = cc
allows_pair types (p ∷ f ∷ suc k ∷ zero ∷ []) c fits e = cc
allows_pair types (p ∷ f ∷ k ∷ v ∷ n ∷ more) c fits e = absurd (not_the_end n more fits.1.1.1.1)

allows_sweep : (types : ℕ) → Allows types (FitsFirst (IsFromOr 1 4294967296) End) sweep_command
allows_sweep types [] c fits e = absurd fits
allows_sweep types (zero ∷ []) c fits e = is_said types C.SweepAll c e tt
allows_sweep types (suc n ∷ []) c fits e = is_said types (C.Sweep n) c e (fits.0.0, fits.0.1)
allows_sweep types (n ∷ m ∷ more) c fits e = absurd (not_the_end m more fits.1)

allows_threads : (types : ℕ) → Allows types (FitsFirst (λ n. ⊤) End) threads_command
allows_threads types [] c fits e = absurd fits
allows_threads types (zero ∷ []) c fits e = is_said types C.ThreadsGo c e tt
allows_threads types (suc n ∷ []) c fits e = is_said types C.ThreadsJoin c e tt
allows_threads types (n ∷ m ∷ more) c fits e = absurd (not_the_end m more fits.1)

allows_want : (types : ℕ) (make : Want → Command) → ((want : Want) → IsAllowed types (make want))
    → Allows types (FitsFirst (λ n. ⊤) End) (by_want make)
allows_want types make allowed [] c fits e = absurd fits
allows_want types make allowed (zero ∷ []) c fits e = is_said types (make Precise) c e (allowed Precise)
allows_want types make allowed (suc n ∷ []) c fits e = is_said types (make Conservative) c e (allowed Conservative)
allows_want types make allowed (n ∷ m ∷ more) c fits e = absurd (not_the_end m more fits.1)

-- ---- orders

thread_fits : (types j : ℕ) (order : Order) → IsFrom 1 9 j → IsAllowedOrder order → IsAllowed types (C.At j order)
thread_fits types j order fits allowed = (fits.0, omega (arith, fits.1), allowed)

allows_order_of_none : (types : ℕ) (order : Order) → IsAllowedOrder order → Allows types (FitsFirst (IsFrom 1 9) End) (order_of_none order)
allows_order_of_none types order allowed [] c fits e = absurd fits
allows_order_of_none types order allowed (j ∷ []) c fits e = is_said types (C.At j order) c e (thread_fits types j order fits.0 allowed)
allows_order_of_none types order allowed (j ∷ n ∷ more) c fits e = cc

allows_order_of_one : (types : ℕ) (make : ℕ → Order) → ((x : ℕ) → x < 32 → IsAllowedOrder (make x))
    → Allows types (FitsFirst (IsFrom 1 9) (FitsFirst (IsFrom 0 32) End)) (order_of_one make)
allows_order_of_one types make allowed [] c fits e = absurd fits
allows_order_of_one types make allowed (j ∷ []) c fits e = absurd fits.1
allows_order_of_one types make allowed (j ∷ x ∷ []) c fits e =
    is_said types (C.At j (make x)) c e (thread_fits types j (make x) fits.0 (allowed x fits.1.0.1))
allows_order_of_one types make allowed (j ∷ x ∷ n ∷ more) c fits e = cc

allows_order_of_two : (types : ℕ) (make : ℕ → ℕ → Order) → ((x y : ℕ) → x < 32 → y < 32 → IsAllowedOrder (make x y))
    → Allows types (FitsFirst (IsFrom 1 9) (FitsFirst (IsFrom 0 32) (FitsFirst (IsFrom 0 32) End))) (order_of_two make)
allows_order_of_two types make allowed [] c fits e = absurd fits
allows_order_of_two types make allowed (j ∷ []) c fits e = absurd fits.1
allows_order_of_two types make allowed (j ∷ x ∷ []) c fits e = absurd fits.1.1
allows_order_of_two types make allowed (j ∷ x ∷ y ∷ []) c fits e =
    is_said types (C.At j (make x y)) c e (thread_fits types j (make x y) fits.0 (allowed x y fits.1.0.1 fits.1.1.0.1))
allows_order_of_two types make allowed (j ∷ x ∷ y ∷ n ∷ more) c fits e = cc

-- ---- the tables

-- the commands of a row, whose numbers stand after others in the ranges of these places, are allowed
record IsAllowedRow (bounds : Bounds) (front : List Place) (row : Row) : Type 0 where
  least : Allows bounds.types (Fit bounds (front ++ row.places)) row.command
  most : Allows bounds.types (Fit bounds (front ++ (row.places ++ row.optional))) row.command

-- each row is so
abbrev AreAllowed : Bounds → List Place → List Row → Type 0
AreAllowed bounds front [] = ⊤
AreAllowed bounds front (row ∷ rows) = IsAllowedRow bounds front row × AreAllowed bounds front rows

-- a row of which no place may be left out
whole_row : (bounds : Bounds) (front : List Place) (row : Row) → row.optional ≡ [] → Allows bounds.types (Fit bounds (front ++ row.places)) row.command
    → IsAllowedRow bounds front row
whole_row bounds front row none least = record {
  least = least;
  most =
      subst (λ (places : List Place). Allows bounds.types (Fit bounds (front ++ places)) row.command)
      (sym (append-nil row.places) ∙ ap (λ (more : List Place). row.places ++ more) (sym none)) least;
}

rows_allowed : (bounds : Bounds) → AreAllowed bounds [] rows
rows_allowed bounds =
    let t : ℕ = bounds.types in (
      record { least = allows_new t; most = allows_new_with t },
      (
        whole_row bounds [] _ refl (allows_set t),
        (
          whole_row bounds [] _ refl (allows_pair t),
          (
            whole_row bounds [] _ refl (allows_three t _ _ _ (λ p f n. C.Put p f n) (λ p f n a b d. (a.1, b.1, d.1))),
            (
              whole_row bounds [] _ refl (allows_two t _ _ (λ p f. C.Word p f) (λ p f a b. (a.1, b.1))),
              (
                whole_row bounds [] _ refl (allows_three t _ _ _ (λ p f q. C.Get p f q) (λ p f q a b d. (a.1, b.1, d.1))),
                (
                  whole_row bounds [] _ refl (allows_three t _ _ _ (λ p f q. C.Key p f q) (λ p f q a b d. (a.1, b.1, d.1))),
                  (
                    whole_row bounds [] _ refl (allows_three t _ _ _ (λ p f q. C.Val p f q) (λ p f q a b d. (a.1, b.1, d.1))),
                    (
                      whole_row bounds [] _ refl (allows_two t _ _ (λ p q. C.Copy p q) (λ p q a b. (a.1, b.1))),
                      (
                        whole_row bounds [] _ refl (allows_one t _ (λ p. C.Drop p) (λ p a. a.1)),
                        (
                          whole_row bounds [] _ refl (allows_two t _ _ (λ w p. C.Weak w p) (λ w p a b. (a.1, b.1))),
                          (
                            whole_row bounds [] _ refl (allows_two t _ _ (λ w p. C.Read w p) (λ w p a b. (a.1, b.1))),
                            (
                              whole_row bounds [] _ refl (allows_two t _ _ (λ p o. C.Push p o) (λ p o a b. (a.1, b.1))),
                              (
                                whole_row bounds [] _ refl (allows_one t _ (λ n. C.PushPlain n) (λ n a. a.1)),
                                (
                                  whole_row bounds [] _ refl (allows_none t C.Pop tt),
                                  (
                                    whole_row bounds [] _ refl (allows_two t _ _ (λ i q. C.Peek i q) (λ i q a b. (a.1, b.1))),
                                    (
                                      whole_row bounds [] _ refl (allows_sweep t),
                                      (
                                        whole_row bounds [] _ refl (allows_none t C.Stat tt),
                                        (
                                          whole_row bounds [] _ refl (allows_two t _ _ (λ p x. C.Export p x) (λ p x a b. (a.1, b.1))),
                                          (
                                            whole_row bounds [] _ refl (allows_two t _ _ (λ x p. C.Import x p) (λ x p a b. (a.1, b.1))),
                                            (
                                              whole_row bounds [] _ refl (allows_threads t),
                                              tt,
                                            ),
                                          ),
                                        ),
                                      ),
                                    ),
                                  ),
                                ),
                              ),
                            ),
                          ),
                        ),
                      ),
                    ),
                  ),
                ),
              ),
            ),
          ),
        ),
      ),
    )

gc_rows_allowed : (bounds : Bounds) → AreAllowed bounds [] gc_rows
gc_rows_allowed bounds =
    let t : ℕ = bounds.types in (
      whole_row bounds [] _ refl (allows_none t C.GcStart tt),
      (
        whole_row bounds [] _ refl (allows_one t _ (λ n. C.GcStep n) (λ n a. (a.0, a.1))),
        (
          whole_row bounds [] _ refl (allows_want t (λ want. C.GcFinish want) (λ want. tt)),
          (
            whole_row bounds [] _ refl (allows_want t (λ want. C.GcNow want) (λ want. tt)),
            tt,
          ),
        ),
      ),
    )

at_rows_allowed : (bounds : Bounds) → AreAllowed bounds (thread ∷ []) at_rows
at_rows_allowed bounds =
    let t : ℕ = bounds.types in (
      whole_row bounds (thread ∷ []) _ refl (allows_order_of_two t (λ x y. Q.Copy x y) (λ x y a b. (a, b))),
      (
        whole_row bounds (thread ∷ []) _ refl (allows_order_of_one t (λ x. Q.Clear x) (λ x a. a)),
        (
          whole_row bounds (thread ∷ []) _ refl (allows_order_of_one t (λ x. Q.Weaken x) (λ x a. a)),
          (
            whole_row bounds (thread ∷ []) _ refl (allows_order_of_two t (λ x y. Q.Upgrade x y) (λ x y a b. (a, b))),
            (
              whole_row bounds (thread ∷ []) _ refl (allows_order_of_none t Q.Totals tt),
              tt,
            ),
          ),
        ),
      ),
    )

-- ---- the form of a line

-- the row that a word chooses is allowed
abbrev IsAllowedIfAny : Bounds → List Place → Option Row → Type 0
IsAllowedIfAny bounds front None = ⊤
IsAllowedIfAny bounds front (Some row) = IsAllowedRow bounds front row

picked : (bounds : Bounds) (front : List Place) (row : Row) (other : Option Row) (is : Bool) → IsAllowedRow bounds front row
    → IsAllowedIfAny bounds front other → IsAllowedIfAny bounds front (cond is (Some row) other)
picked bounds front row other true x y = x
picked bounds front row other false x y = y

chosen : (bounds : Bounds) (front : List Place) (word : List ℕ) (table : List Row) → AreAllowed bounds front table
    → IsAllowedIfAny bounds front (row_named word table)
chosen bounds front word [] all = tt
chosen bounds front word (row ∷ table) all =
    picked bounds front row (row_named word table) (is_text word row.name) all.0 (chosen bounds front word table all.1)

-- the commands of a form are allowed
abbrev pub IsAllowedForm : Bounds → Form → Type 0
IsAllowedForm bounds (Missing places) = ⊤
IsAllowedForm bounds Unknown = ⊤
IsAllowedForm bounds (Known places command) =
    (numbers : List ℕ) (c : Command) → Fit bounds places numbers → command numbers ≡ Some c → IsAllowed bounds.types c

by_count : (bounds : Bounds) (front : List Place) (row : Row) (more : Bool) → IsAllowedRow bounds front row
    → Allows bounds.types (Fit bounds (front ++ cond more (row.places ++ row.optional) row.places)) row.command
by_count bounds front row true allowed = allowed.most
by_count bounds front row false allowed = allowed.least

plain_allowed : (bounds : Bounds) (words : ℕ) (row : Option Row) → IsAllowedIfAny bounds [] row → IsAllowedForm bounds (plain_form words row)
plain_allowed bounds words None allowed = tt
plain_allowed bounds words (Some row) allowed = by_count bounds [] row (nat_lt (length row.places) words) allowed

gc_allowed : (bounds : Bounds) (words : ℕ) (row : Option Row) → IsAllowedIfAny bounds [] row → IsAllowedForm bounds (gc_form words row)
gc_allowed bounds words None allowed = tt
gc_allowed bounds words (Some row) allowed = by_count bounds [] row (nat_lt (length row.places) words) allowed

at_allowed : (bounds : Bounds) (words : ℕ) (row : Option Row) → IsAllowedIfAny bounds (thread ∷ []) row → IsAllowedForm bounds (at_form words row)
at_allowed bounds words None allowed = tt
at_allowed bounds words (Some row) allowed = by_count bounds (thread ∷ []) row (nat_lt (length row.places) words) allowed

after_gc_allowed : (bounds : Bounds) (words : List (List ℕ)) → IsAllowedForm bounds (form_after_gc words)
after_gc_allowed bounds [] = tt
after_gc_allowed bounds (second ∷ rest) =
    gc_allowed bounds (length rest) (row_named second gc_rows) (chosen bounds [] second gc_rows (gc_rows_allowed bounds))

after_at_allowed : (bounds : Bounds) (words : List (List ℕ)) → IsAllowedForm bounds (form_after_at words)
after_at_allowed bounds [] = tt
after_at_allowed bounds (j ∷ []) = tt
after_at_allowed bounds (j ∷ third ∷ rest) =
    at_allowed bounds (length rest) (row_named third at_rows) (chosen bounds (thread ∷ []) third at_rows (at_rows_allowed bounds))

form_picked : (bounds : Bounds) (b c : Bool) (gc at plain : Form) → IsAllowedForm bounds gc → IsAllowedForm bounds at
    → IsAllowedForm bounds plain → IsAllowedForm bounds (cond b gc (cond c at plain))
form_picked bounds true c gc at plain x y z = x
form_picked bounds false true gc at plain x y z = y
form_picked bounds false false gc at plain x y z = z

pub form_allowed : (bounds : Bounds) (words : List (List ℕ)) → IsAllowedForm bounds (form_of words)
form_allowed bounds [] = tt
form_allowed bounds (first ∷ rest) =
    form_picked bounds (is_text first (codes "gc")) (is_text first (codes "at")) (form_after_gc rest) (form_after_at rest) (plain_form (length rest) (row_named first rows)) (after_gc_allowed bounds rest)
    (after_at_allowed bounds rest)
    (plain_allowed bounds (length rest) (row_named first rows) (chosen bounds [] first rows (rows_allowed bounds)))
