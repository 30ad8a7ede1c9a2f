-- Which lines give orders, let threads go or join them: exactly those whose commands do.
use Rattle.std.proofs.Common.{◌≡◌, ℕ, ◌||◌, Bool, true, false, cond, List, [], ◌∷◌, ◌++◌, length, Option, Some, None, refl, sym, ap, ◌∙◌, subst, inl, inr, arith}
use mathlib.Core.Logic.{◌⊎◌}
use Rattle.std.specs.Prelude.{codes, nat_lt, ⊤}
use Rattle.std.specs.Cmp.Lexicographic.{bytes_decides}
use Rattle.std.proofs.lemmas.Bool.{or_parts, not-false, true≢false, eqb-true}
use Rattle.std.proofs.lemmas.Option.{none-some}
use Rattle.std.proofs.lemmas.List.{append-nil}
use Rattle.gc_graph.specs.declared.command.Command.{Command}
use Rattle.gc_graph.specs.declared.command.Command.TheVariants as C
use Rattle.gc_graph.specs.declared.command.Order.{Order}
use Rattle.gc_graph.specs.declared.command.Order.TheVariants as Q
use Rattle.gc_graph.specs.Words.{is_text}
use Rattle.gc_graph.specs.Forms.{Row, row, none, one, threads_command, order_of_none, order_of_one, order_of_two, rows, at_rows, row_named, places_of, form_after_gc, form_after_at, plain_form, at_form}
use Rattle.gc_graph.specs.Forms.Place.{Either}
use Rattle.gc_graph.specs.Reasons.{Bounds, command_by, command_of_words}
use Rattle.gc_graph.specs.Script.{is_order, is_go, is_join}
use Rattle.gc_graph.specs.ThreadLaw.{is_of_threads}
use Rattle.gc_graph.proofs.SaidWords.{AreFaultless}
use Rattle.gc_graph.proofs.OwnForms.{own_rows, chosen, plain_own, after_gc_own, form_own}

-- ---- a line, and what it says

-- nothing, or an order
abbrev pub SaysOrder : Option Command → Type 0
SaysOrder None = ⊤
SaysOrder (Some (C.At j order)) = ⊤
SaysOrder (Some command) = ⊥

pub record IsOrderLine (words : List (List ℕ)) (said : Option Command) : Type 0 where
  pub is : is_order words ≡ true
  pub says : SaysOrder said

pub record IsGoLine (words : List (List ℕ)) (said : Option Command) : Type 0 where
  pub no_order : is_order words ≡ false
  pub is : is_go words ≡ true
  pub says : said ≡ Some C.ThreadsGo

pub record IsJoinLine (words : List (List ℕ)) (said : Option Command) : Type 0 where
  pub no_order : is_order words ≡ false
  pub no_go : is_go words ≡ false
  pub is : is_join words ≡ true
  pub says : said ≡ Some C.ThreadsJoin

pub record IsOwnLine (words : List (List ℕ)) (said : Option Command) : Type 0 where
  pub no_order : is_order words ≡ false
  pub no_go : is_go words ≡ false
  pub no_join : is_join words ≡ false
  pub says : (c : Command) → said ≡ Some c → is_of_threads c ≡ false

-- the line is of one of these kinds
abbrev pub IsLine : List (List ℕ) → Option Command → Type 0
IsLine words said = IsOrderLine words said ⊎ (IsGoLine words said ⊎ (IsJoinLine words said ⊎ IsOwnLine words said))

-- ---- orders

abbrev SaysOrders : (List ℕ → Option Command) → Type 0
SaysOrders command = (numbers : List ℕ) → SaysOrder (command numbers)

orders_of_none : (order : Order) → SaysOrders (order_of_none order)
orders_of_none order (j ∷ []) = tt
orders_of_none order numbers = tt

orders_of_one : (make : ℕ → Order) → SaysOrders (order_of_one make)
orders_of_one make (j ∷ x ∷ []) = tt
orders_of_one make numbers = tt

orders_of_two : (make : ℕ → ℕ → Order) → SaysOrders (order_of_two make)
orders_of_two make (j ∷ x ∷ y ∷ []) = tt
orders_of_two make numbers = tt

abbrev AreOrders : List Row → Type 0
AreOrders [] = ⊤
AreOrders (row ∷ table) = SaysOrders row.command × AreOrders table

at_rows_order : AreOrders at_rows
at_rows_order = (orders_of_two (λ x y. Q.Copy x y), (orders_of_one (λ x. Q.Clear x), (orders_of_one (λ x. Q.Weaken x), (orders_of_two (λ x y. Q.Upgrade x y), (orders_of_none Q.Totals, tt)))))

-- the row that a word chooses says orders
abbrev AreOrdersIfAny : Option Row → Type 0
AreOrdersIfAny None = ⊤
AreOrdersIfAny (Some row) = SaysOrders row.command

order_picked : (row : Row) (other : Option Row) (is : Bool) → SaysOrders row.command → AreOrdersIfAny other → AreOrdersIfAny (cond is (Some row) other)
order_picked row other true x y = x
order_picked row other false x y = y

order_chosen : (word : List ℕ) (table : List Row) → AreOrders table → AreOrdersIfAny (row_named word table)
order_chosen word [] all = tt
order_chosen word (row ∷ table) all =
    order_picked row (row_named word table) (is_text word row.name) all.0 (order_chosen word table all.1)

at_orders : (n : ℕ) (words : List (List ℕ)) (row : Option Row) → AreOrdersIfAny row → SaysOrder (command_by (at_form n row) words)
at_orders n words None h = tt
at_orders n words (Some row) h = h _

order_line : (rest : List (List ℕ)) → SaysOrder (command_of_words (codes "at" ∷ rest))
order_line [] = tt
order_line (j ∷ []) = tt
order_line (j ∷ third ∷ rest) =
    at_orders (length rest) (codes "at" ∷ j ∷ third ∷ rest) (row_named third at_rows) (order_chosen third at_rows at_rows_order)

-- ---- starts and joins

one_place : (row : Row) (more : Bool) → row.optional ≡ [] → length (cond more (row.places ++ row.optional) row.places) ≡ length row.places
one_place row true none = ap length (ap (λ places. row.places ++ places) none ∙ append-nil row.places)
one_place row false none = refl

abbrev threads_row : Row
threads_row = row (codes "threads") (Either (codes "go") (codes "join") ∷ []) threads_command

threads_line : (word : List ℕ) (go join : Bool) → is_text word (codes "go") ≡ go → is_text word (codes "join") ≡ join → (go || join) ≡ true
    → IsLine (codes "threads" ∷ word ∷ []) (command_of_words (codes "threads" ∷ word ∷ []))
threads_line word true join g j one =
    inr (inl (record { no_order = refl; is = g; says = ap (λ b. threads_command ((cond b 0 1) ∷ [])) g }))
threads_line word false true g j one =
    inr (inr (inl (record { no_order = refl; no_go = g; is = j; says = ap (λ b. threads_command ((cond b 0 1) ∷ [])) g })))
threads_line word false false g j one = absurd (true≢false (sym one))

threads_say : (version : ℕ) (bounds : Bounds) (rest : List (List ℕ)) → AreFaultless version bounds (codes "threads" ∷ rest)
    → IsLine (codes "threads" ∷ rest) (command_of_words (codes "threads" ∷ rest))
threads_say version bounds [] f = absurd (true≢false f.count)
threads_say version bounds (word ∷ []) f =
    threads_line word _ _ refl refl (not-false _ (or_parts _ false f.known).0)
threads_say version bounds (word ∷ next ∷ more) f =
    let one = one_place threads_row (nat_lt 1 (length (word ∷ next ∷ more))) refl in
    let same : length (word ∷ next ∷ more) ≡ length (places_of threads_row (length (word ∷ next ∷ more))) = eqb-true _ _ (not-false _ f.count) in
    absurd (omega (arith, same, one))

-- ---- the line

own_line : (first : List ℕ) (rest : List (List ℕ)) → is_text first (codes "at") ≡ false → is_text first (codes "threads") ≡ false
    → IsOwnLine (first ∷ rest) (command_of_words (first ∷ rest))
own_line first rest at threads = record {
  no_order = at;
  no_go = rw threads refl;
  no_join = rw threads refl;
  says = λ c e.
      form_own (is_text first (codes "gc")) (is_text first (codes "at")) (form_after_gc rest) (form_after_at rest) (plain_form (length rest) (row_named first rows)) at (after_gc_own rest)
      (plain_own (length rest) (row_named first rows) (chosen first rows (own_rows first threads))) (first ∷ rest) c e;
}

line_by : (version : ℕ) (bounds : Bounds) (first : List ℕ) (rest : List (List ℕ)) (at threads : Bool) → is_text first (codes "at") ≡ at
    → is_text first (codes "threads") ≡ threads → AreFaultless version bounds (first ∷ rest) → IsLine (first ∷ rest) (command_of_words (first ∷ rest))
line_by version bounds first rest true threads a t f =
    let same : first ≡ codes "at" = (bytes_decides first (codes "at")).0 a in
    subst (λ word. IsLine (word ∷ rest) (command_of_words (word ∷ rest))) (sym same) (inl (record { is = refl; says = order_line rest }))
line_by version bounds first rest false true a t f =
    let same : first ≡ codes "threads" = (bytes_decides first (codes "threads")).0 t in
    subst (λ word. IsLine (word ∷ rest) (command_of_words (word ∷ rest))) (sym same)
    (threads_say version bounds rest (subst (λ word. AreFaultless version bounds (word ∷ rest)) same f))
line_by version bounds first rest false false a t f = inr (inr (inr (own_line first rest a t)))

pub line_of_words : (version : ℕ) (bounds : Bounds) (words : List (List ℕ)) → AreFaultless version bounds words → IsLine words (command_of_words words)
line_of_words version bounds [] f = inr (inr (inr (record { no_order = refl; no_go = refl; no_join = refl; says = λ c e. absurd (none-some c e) })))
line_of_words version bounds (first ∷ rest) f = line_by version bounds first rest (is_text first (codes "at")) (is_text first (codes "threads")) refl refl f
