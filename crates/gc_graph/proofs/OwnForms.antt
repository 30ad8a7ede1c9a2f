-- The forms whose commands are none of threads.
use Rattle.std.proofs.Common.{◌≡◌, ℕ, zero, suc, Bool, true, false, cond, List, [], ◌∷◌, length, Option, Some, None, refl, sym, ap, ◌∙◌}
use Rattle.std.specs.Prelude.{codes, ⊤}
use Rattle.std.proofs.lemmas.Bool.{true≢false}
use Rattle.std.proofs.lemmas.Option.{same_Some, none-some}
use Rattle.gc_graph.specs.declared.command.Command.{Command}
use Rattle.gc_graph.specs.declared.command.Command.TheVariants as C
use Rattle.gc_graph.specs.declared.command.Want.{Want}
use Rattle.gc_graph.specs.Words.{is_text}
use Rattle.gc_graph.specs.Forms.{Row, row, Form, none, one, two, three, new_command, set_command, pair_command, sweep_command, by_want, rows, gc_rows, row_named, form_after_gc, plain_form, gc_form}
use Rattle.gc_graph.specs.Reasons.{command_by}
use Rattle.gc_graph.specs.ThreadLaw.{is_of_threads}

-- ---- the rows whose commands are none of threads

-- whatever the numbers are
abbrev pub SaysOwn : (List ℕ → Option Command) → Type 0
SaysOwn command = (numbers : List ℕ) (c : Command) → command numbers ≡ Some c → is_of_threads c ≡ false

is_own : (a c : Command) → is_of_threads a ≡ false → Some a ≡ Some c → is_of_threads c ≡ false
is_own a c own e = ap is_of_threads (sym (same_Some a c e)) ∙ own

own_none : (command : Command) → is_of_threads command ≡ false → SaysOwn (none command)
own_none command own [] c e = is_own command c own e
own_none command own (a ∷ more) c e = absurd (none-some c e)

own_one : (make : ℕ → Command) → ((a : ℕ) → is_of_threads (make a) ≡ false) → SaysOwn (one make)
own_one make own [] c e = absurd (none-some c e)
own_one make own (a ∷ []) c e = is_own (make a) c (own a) e
own_one make own (a ∷ b ∷ more) c e = absurd (none-some c e)

own_two : (make : ℕ → ℕ → Command) → ((a b : ℕ) → is_of_threads (make a b) ≡ false) → SaysOwn (two make)
own_two make own [] c e = absurd (none-some c e)
own_two make own (a ∷ []) c e = absurd (none-some c e)
own_two make own (a ∷ b ∷ []) c e = is_own (make a b) c (own a b) e
own_two make own (a ∷ b ∷ d ∷ more) c e = absurd (none-some c e)

own_three : (make : ℕ → ℕ → ℕ → Command) → ((a b d : ℕ) → is_of_threads (make a b d) ≡ false) → SaysOwn (three make)
own_three make own [] c e = absurd (none-some c e)
own_three make own (a ∷ []) c e = absurd (none-some c e)
own_three make own (a ∷ b ∷ []) c e = absurd (none-some c e)
own_three make own (a ∷ b ∷ d ∷ []) c e = is_own (make a b d) c (own a b d) e
own_three make own (a ∷ b ∷ d ∷ n ∷ more) c e = absurd (none-some c e)

own_new : SaysOwn new_command
own_new [] c e = absurd (none-some c e)
own_new (p ∷ []) c e = absurd (none-some c e)
own_new (p ∷ t ∷ []) c e = is_own (C.New p t 0) c refl e
own_new (p ∷ t ∷ x ∷ []) c e = is_own (C.New p t x) c refl e
own_new (p ∷ t ∷ x ∷ n ∷ more) c e = absurd (none-some c e)

own_set : SaysOwn set_command
own_set (p ∷ f ∷ zero ∷ []) c e = is_own (C.SetNull p f) c refl e
own_set (p ∷ f ∷ suc q ∷ []) c e = is_own (C.Set p f q) c refl e
own_set numbers c e = absurd (none-some c e)

own_pair : SaysOwn pair_command
own_pair (p ∷ f ∷ zero ∷ zero ∷ []) c e = is_own (C.PairNull p f) c refl e
own_pair (p ∷ f ∷ suc k ∷ suc v ∷ []) c e = is_own (C.Pair p f k v) c refl e
own_pair numbers c e = absurd (none-some c e)

own_sweep : SaysOwn sweep_command
own_sweep (zero ∷ []) c e = is_own C.SweepAll c refl e
own_sweep (suc n ∷ []) c e = is_own (C.Sweep n) c refl e
own_sweep numbers c e = absurd (none-some c e)

own_want : (make : Want → Command) → ((want : Want) → is_of_threads (make want) ≡ false) → SaysOwn (by_want make)
own_want make own (zero ∷ []) c e = is_own (make _) c (own _) e
own_want make own (suc n ∷ []) c e = is_own (make _) c (own _) e
own_want make own numbers c e = absurd (none-some c e)

-- the row of this word, if it is in the table, says such commands
abbrev pub AreOwn : List ℕ → List Row → Type 0
AreOwn word [] = ⊤
AreOwn word (row ∷ table) = (is_text word row.name ≡ true → SaysOwn row.command) × AreOwn word table

pub own_rows : (first : List ℕ) → is_text first (codes "threads") ≡ false → AreOwn first rows
own_rows first out = (λ e. own_new, (λ e. own_set, (λ e. own_pair, (λ e. own_three (λ p f n. C.Put p f n) (λ p f n. refl), (λ e. own_two (λ p f. C.Word p f) (λ p f. refl), (λ e. own_three (λ p f q. C.Get p f q) (λ p f q. refl), (λ e. own_three (λ p f q. C.Key p f q) (λ p f q. refl), (λ e. own_three (λ p f q. C.Val p f q) (λ p f q. refl), (λ e. own_two (λ p q. C.Copy p q) (λ p q. refl), (λ e. own_one (λ p. C.Drop p) (λ p. refl), (λ e. own_two (λ w p. C.Weak w p) (λ w p. refl), (λ e. own_two (λ w p. C.Read w p) (λ w p. refl), (λ e. own_two (λ p o. C.Push p o) (λ p o. refl), (λ e. own_one (λ n. C.PushPlain n) (λ n. refl), (λ e. own_none C.Pop refl, (λ e. own_two (λ i q. C.Peek i q) (λ i q. refl), (λ e. own_sweep, (λ e. own_none C.Stat refl, (λ e. own_two (λ p x. C.Export p x) (λ p x. refl), (λ e. own_two (λ x p. C.Import x p) (λ x p. refl), (λ e. absurd (true≢false (sym e ∙ out)), tt)))))))))))))))))))))

own_gc_rows : (word : List ℕ) → AreOwn word gc_rows
own_gc_rows word = (λ e. own_none C.GcStart refl, (λ e. own_one (λ n. C.GcStep n) (λ n. refl), (λ e. own_want (λ w. C.GcFinish w) (λ w. refl), (λ e. own_want (λ w. C.GcNow w) (λ w. refl), tt))))

-- the row that a word chooses says such commands
abbrev pub IsOwnIfAny : Option Row → Type 0
IsOwnIfAny None = ⊤
IsOwnIfAny (Some row) = SaysOwn row.command

picked : (row : Row) (other : Option Row) (is : Bool) → (is ≡ true → SaysOwn row.command) → IsOwnIfAny other → IsOwnIfAny (cond is (Some row) other)
picked row other true x y = x refl
picked row other false x y = y

pub chosen : (word : List ℕ) (table : List Row) → AreOwn word table → IsOwnIfAny (row_named word table)
chosen word [] all = tt
chosen word (row ∷ table) all = picked row (row_named word table) (is_text word row.name) all.0 (chosen word table all.1)

abbrev pub IsOwnForm : Form → Type 0
IsOwnForm form = (words : List (List ℕ)) (c : Command) → command_by form words ≡ Some c → is_of_threads c ≡ false

pub plain_own : (n : ℕ) (row : Option Row) → IsOwnIfAny row → IsOwnForm (plain_form n row)
plain_own n None own words c e = absurd (none-some c e)
plain_own n (Some row) own words c e = own _ c e

gc_own : (n : ℕ) (row : Option Row) → IsOwnIfAny row → IsOwnForm (gc_form n row)
gc_own n None own words c e = absurd (none-some c e)
gc_own n (Some row) own words c e = own _ c e

pub after_gc_own : (words : List (List ℕ)) → IsOwnForm (form_after_gc words)
after_gc_own [] words c e = absurd (none-some c e)
after_gc_own (second ∷ rest) words c e =
    gc_own (length rest) (row_named second gc_rows) (chosen second gc_rows (own_gc_rows second)) words c e

pub form_own : (b at : Bool) (gc order plain : Form) → at ≡ false → IsOwnForm gc → IsOwnForm plain
    → IsOwnForm (cond b gc (cond at order plain))
form_own true at gc order plain out x y words c e = x words c e
form_own false true gc order plain out x y words c e = absurd (true≢false out)
form_own false false gc order plain out x y words c e = y words c e
