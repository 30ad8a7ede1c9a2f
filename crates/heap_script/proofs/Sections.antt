-- Which words give the threads their orders, and which commands they say.
use Rattle.std.proofs.Common.{◌≡◌, ℕ, zero, suc, ◌||◌, Bool, true, false, not, cond, Option, Some, None, List, [], ◌∷◌, length, refl, sym, ap, ◌∙◌, subst, inl, inr, ◌⊎◌}
use Rattle.std.specs.Prelude.{codes, is_some, unwrap_or, nat_lt, ◌&&◌}
use Rattle.std.specs.List.{list_all}
use Rattle.std.specs.Cmp.Lexicographic.{bytes_decides}
use Rattle.std.proofs.lemmas.Bool.{true≢false, cases_Bool, cond-true, cond-false, or_cases, or_parts, and_left, and_parts, not-false, not-true}
use Rattle.gc_graph.specs.declared.command.Command.{Command}
use Rattle.gc_graph.specs.declared.command.Command.TheVariants as C
use Rattle.gc_graph.specs.Words.{is_text}
use Rattle.gc_graph.specs.Forms.{Place, Row, rows, gc_rows, at_rows, row_named, places_of, plain_form, gc_form, at_form, form_after_gc, form_after_at, form_of, threads_command}
use Rattle.gc_graph.specs.Forms.Place.{Either}
use Rattle.gc_graph.specs.Forms.Form.{Known}
use Rattle.gc_graph.specs.Reasons.{Reason, Bounds, all_say, rest_of, first_is, has_unknown_word, command_by, command_of_words, reason_of_command}
use Rattle.gc_graph.specs.Reasons.Reason.{UnknownWord}
use Rattle.gc_graph.specs.Script.{is_order, is_go, is_join}
use Rattle.command_text.specs.PlainForms.{form_of_plain}

-- ---- commands

abbrev pub is_at : Command → Bool
is_at (C.At j order) = true
is_at command = false

abbrev pub is_threads_go : Command → Bool
is_threads_go C.ThreadsGo = true
is_threads_go command = false

abbrev pub is_threads_join : Command → Bool
is_threads_join C.ThreadsJoin = true
is_threads_join command = false

-- the command is none of these, or an order
pub record IsPlain (order : Bool) (command : Command) : Type 0 where
  pub at : is_at command ≡ order
  pub go : is_threads_go command ≡ false
  pub join : is_threads_join command ≡ false

-- the words of orders and of the threads are those of such commands
pub record HasPlace (words : List (List ℕ)) (command : Command) : Type 0 where
  pub order : is_order words ≡ is_at command
  pub go : is_go words ≡ is_threads_go command
  pub join : is_join words ≡ is_threads_join command

some_is : (a b : Command) → Some a ≡ Some b → a ≡ b
some_is a b e = ap (λ o. unwrap_or o a) e

nothing : {X : Type 0} (c : Command) → None ≡ Some c → X
nothing c e = absurd (true≢false (sym (ap is_some e)))

-- ---- by the rows

-- no command, or one that is none of the threads', and an order or not
abbrev is_plain : Bool → Option Command → Bool
is_plain order None = true
is_plain order (Some command) = cond order (is_at command) (not (is_at command)) && (not (is_threads_go command) && not (is_threads_join command))

-- a row makes such commands of these numbers
abbrev makes_plain : Bool → List ℕ → Row → Bool
makes_plain order numbers row = is_plain order (row.command numbers)

-- a row makes no order, or it is that of the threads
abbrev is_plain_unless_threads : List ℕ → Row → Bool
is_plain_unless_threads numbers row = is_text row.name (codes "threads") || makes_plain false numbers row

-- so do all rows, whatever the numbers: what a row makes hangs on how many there are, up to four, and on whether the first, third and fourth are 0
plain_rows : (numbers : List ℕ) → list_all (is_plain_unless_threads numbers) rows ≡ true
plain_rows [] = refl
plain_rows (zero ∷ []) = refl
plain_rows (suc a ∷ []) = refl
plain_rows (zero ∷ b ∷ []) = refl
plain_rows (suc a ∷ b ∷ []) = refl
plain_rows (zero ∷ b ∷ zero ∷ []) = refl
plain_rows (zero ∷ b ∷ suc c ∷ []) = refl
plain_rows (suc a ∷ b ∷ zero ∷ []) = refl
plain_rows (suc a ∷ b ∷ suc c ∷ []) = refl
plain_rows (zero ∷ b ∷ zero ∷ zero ∷ []) = refl
plain_rows (zero ∷ b ∷ zero ∷ suc d ∷ []) = refl
plain_rows (zero ∷ b ∷ suc c ∷ zero ∷ []) = refl
plain_rows (zero ∷ b ∷ suc c ∷ suc d ∷ []) = refl
plain_rows (suc a ∷ b ∷ zero ∷ zero ∷ []) = refl
plain_rows (suc a ∷ b ∷ zero ∷ suc d ∷ []) = refl
plain_rows (suc a ∷ b ∷ suc c ∷ zero ∷ []) = refl
plain_rows (suc a ∷ b ∷ suc c ∷ suc d ∷ []) = refl
plain_rows (zero ∷ b ∷ zero ∷ zero ∷ e ∷ more) = refl
plain_rows (zero ∷ b ∷ zero ∷ suc d ∷ e ∷ more) = refl
plain_rows (zero ∷ b ∷ suc c ∷ zero ∷ e ∷ more) = refl
plain_rows (zero ∷ b ∷ suc c ∷ suc d ∷ e ∷ more) = refl
plain_rows (suc a ∷ b ∷ zero ∷ zero ∷ e ∷ more) = refl
plain_rows (suc a ∷ b ∷ zero ∷ suc d ∷ e ∷ more) = refl
plain_rows (suc a ∷ b ∷ suc c ∷ zero ∷ e ∷ more) = refl
plain_rows (suc a ∷ b ∷ suc c ∷ suc d ∷ e ∷ more) = refl

plain_gc_rows : (numbers : List ℕ) → list_all (makes_plain false numbers) gc_rows ≡ true
plain_gc_rows [] = refl
plain_gc_rows (zero ∷ []) = refl
plain_gc_rows (suc a ∷ []) = refl
plain_gc_rows (zero ∷ b ∷ more) = refl
plain_gc_rows (suc a ∷ b ∷ more) = refl

order_rows : (numbers : List ℕ) → list_all (makes_plain true numbers) at_rows ≡ true
order_rows [] = refl
order_rows (j ∷ []) = refl
order_rows (j ∷ a ∷ []) = refl
order_rows (j ∷ a ∷ b ∷ []) = refl
order_rows (j ∷ a ∷ b ∷ c ∷ more) = refl

row_found : (test : Row → Bool) (word : List ℕ) (rows : List Row) (row : Row) → list_all test rows ≡ true → row_named word rows ≡ Some row
    → (test row ≡ true) × (is_text word row.name ≡ true)
row_found test word [] row all e = absurd (true≢false (sym (ap is_some e)))
row_found test word (r ∷ rs) row all e =
    let parts = and_parts (test r) (list_all test rs) all in
    let same : is_text word r.name ≡ true → r ≡ row =
    λ so. ap (λ o. unwrap_or o r) (sym (cond-true (is_text word r.name) (Some r) (row_named word rs) so) ∙ e) in
    elim (cases_Bool (is_text word r.name)) [
      | inl so ↦ subst (λ (x : Row). (test x ≡ true) × (is_text word x.name ≡ true)) (same so) (parts.0, so)
      | inr off ↦ row_found test word rs row parts.1 (sym (cond-false (is_text word r.name) (Some r) (row_named word rs) off) ∙ e)
    ]

as_ordered : (order at : Bool) → cond order at (not at) ≡ true → at ≡ order
as_ordered true at e = e
as_ordered false at e = not-true at e

made : (order : Bool) (numbers : List ℕ) (row : Row) (c : Command) → makes_plain order numbers row ≡ true → row.command numbers ≡ Some c
    → IsPlain order c
made order numbers row c so e =
    let parts = and_parts (cond order (is_at c) (not (is_at c))) (not (is_threads_go c) && not (is_threads_join c)) (sym (ap (is_plain order) e) ∙ so) in
    let threads = and_parts (not (is_threads_go c)) (not (is_threads_join c)) parts.1 in
    record {
      at = as_ordered order (is_at c) parts.0;
      go = not-true (is_threads_go c) threads.0;
      join = not-true (is_threads_join c) threads.1;
    }

-- ---- by the first word

gc_row : (word : List ℕ) (words : ℕ) (rest : List (List ℕ)) (c : Command) (found : Option Row) → row_named word gc_rows ≡ found
    → command_by (gc_form words found) rest ≡ Some c → IsPlain false c
gc_row word words rest c None is e = nothing c e
gc_row word words rest c (Some row) is e = made false _ row c (row_found (makes_plain false _) word gc_rows row (plain_gc_rows _) is).0 e

at_row : (word : List ℕ) (words : ℕ) (rest : List (List ℕ)) (c : Command) (found : Option Row) → row_named word at_rows ≡ found
    → command_by (at_form words found) rest ≡ Some c → IsPlain true c
at_row word words rest c None is e = nothing c e
at_row word words rest c (Some row) is e = made true _ row c (row_found (makes_plain true _) word at_rows row (order_rows _) is).0 e

plain_row : (word : List ℕ) (words : ℕ) (rest : List (List ℕ)) (c : Command) (found : Option Row) → row_named word rows ≡ found
    → is_text word (codes "threads") ≡ false → command_by (plain_form words found) rest ≡ Some c → IsPlain false c
plain_row word words rest c None is other e = nothing c e
plain_row word words rest c (Some row) is other e =
    let numbers : List ℕ = all_say (places_of row words) (rest_of rest) in
    let found = row_found (is_plain_unless_threads numbers) word rows row (plain_rows numbers) is in
    elim (or_cases (is_text row.name (codes "threads")) (makes_plain false numbers row) found.0) [
      | inl threads ↦ absurd (true≢false (sym threads ∙ ap (λ w. is_text w (codes "threads")) (sym ((bytes_decides word row.name).0 found.1)) ∙ other))
      | inr makes ↦ made false numbers row c makes e
    ]

after_gc : (rest : List (List ℕ)) (c : Command) → command_by (form_after_gc rest) (codes "gc" ∷ rest) ≡ Some c → IsPlain false c
after_gc [] c e = nothing c e
after_gc (second ∷ rest) c e = gc_row second (length rest) (codes "gc" ∷ second ∷ rest) c (row_named second gc_rows) refl e

after_at : (rest : List (List ℕ)) (c : Command) → command_by (form_after_at rest) (codes "at" ∷ rest) ≡ Some c → IsPlain true c
after_at [] c e = nothing c e
after_at (j ∷ []) c e = nothing c e
after_at (j ∷ third ∷ rest) c e = at_row third (length rest) (codes "at" ∷ j ∷ third ∷ rest) c (row_named third at_rows) refl e

-- ---- the threads

either_way : {X : Type 0} (b : Bool) (x : X) → cond b x x ≡ x
either_way true x = refl
either_way false x = refl

abbrev go_or_join : List Place
go_or_join = Either (codes "go") (codes "join") ∷ []

threads_form : (rest : List (List ℕ)) → form_of (codes "threads" ∷ rest) ≡ Known go_or_join threads_command
threads_form rest = ap (λ places. Known places threads_command) (either_way (nat_lt 1 (length rest)) go_or_join)

abbrev GoesOrJoins : List ℕ → Type 0
GoesOrJoins word = (is_text word (codes "go") ≡ true) ⊎ (is_text word (codes "join") ≡ true)

known_unless : (b : Bool) (rest : Option Reason) → cond b (Some UnknownWord) rest ≡ None → b ≡ false
known_unless true rest e = absurd (true≢false (ap is_some e))
known_unless false rest e = refl

threads_second : (bounds : Bounds) (second : List ℕ) (more : List (List ℕ))
    → reason_of_command bounds (codes "threads" ∷ second ∷ more) ≡ None → GoesOrJoins second
threads_second bounds second more fine =
    let words : List (List ℕ) = codes "threads" ∷ second ∷ more in
    let known : has_unknown_word (form_of words) words ≡ false = known_unless (has_unknown_word (form_of words) words) _ fine in
    let at : (not (is_text second (codes "go") || is_text second (codes "join")) || false) ≡ false =
    sym (ap (λ form. has_unknown_word form words) (threads_form (second ∷ more))) ∙ known in
    or_cases (is_text second (codes "go")) (is_text second (codes "join"))
    (not-false (is_text second (codes "go") || is_text second (codes "join"))
    (or_parts (not (is_text second (codes "go") || is_text second (codes "join"))) false at).0)

-- what the numbers of such a line say
threads_says : (second : List ℕ) (more : List (List ℕ)) (c : Command) → command_of_words (codes "threads" ∷ second ∷ more) ≡ Some c
    → threads_command ((cond (is_text second (codes "go")) 0 1) ∷ []) ≡ Some c
threads_says second more c e =
    sym (ap (λ form. command_by form (codes "threads" ∷ second ∷ more)) (threads_form (second ∷ more))) ∙ e

threads_place : (second : List ℕ) (more : List (List ℕ)) (c : Command) → GoesOrJoins second
    → threads_command ((cond (is_text second (codes "go")) 0 1) ∷ []) ≡ Some c → HasPlace (codes "threads" ∷ second ∷ more) c
threads_place second more c (inl go) e =
    let is : second ≡ codes "go" = (bytes_decides second (codes "go")).0 go in
    let command : C.ThreadsGo ≡ c = some_is C.ThreadsGo c (sym (ap (λ w. threads_command ((cond (is_text w (codes "go")) 0 1) ∷ [])) is) ∙ e) in
    subst (λ w. HasPlace (codes "threads" ∷ w ∷ more) c) (sym is)
    (subst (HasPlace (codes "threads" ∷ codes "go" ∷ more)) command (record { order = refl; go = refl; join = refl }))
threads_place second more c (inr join) e =
    let is : second ≡ codes "join" = (bytes_decides second (codes "join")).0 join in
    let command : C.ThreadsJoin ≡ c = some_is C.ThreadsJoin c (sym (ap (λ w. threads_command ((cond (is_text w (codes "go")) 0 1) ∷ [])) is) ∙ e) in
    subst (λ w. HasPlace (codes "threads" ∷ w ∷ more) c) (sym is)
    (subst (HasPlace (codes "threads" ∷ codes "join" ∷ more)) command (record { order = refl; go = refl; join = refl }))

after_threads : (bounds : Bounds) (rest : List (List ℕ)) (c : Command) → reason_of_command bounds (codes "threads" ∷ rest) ≡ None
    → command_of_words (codes "threads" ∷ rest) ≡ Some c → HasPlace (codes "threads" ∷ rest) c
after_threads bounds [] c fine e = nothing c e
after_threads bounds (second ∷ more) c fine e =
    threads_place second more c (threads_second bounds second more fine) (threads_says second more c e)

-- ---- the whole line

-- words of which the first is none of the threads', for a command that is no order, or for an order
other_place : (first : List ℕ) (rest : List (List ℕ)) (order : Bool) (c : Command) → is_text first (codes "at") ≡ order
    → is_text first (codes "threads") ≡ false → IsPlain order c → HasPlace (first ∷ rest) c
other_place first rest order c at threads p = record {
  order = at ∙ sym p.at;
  go = and_left (is_text first (codes "threads")) (first_is (codes "go") rest) threads ∙ sym p.go;
  join = and_left (is_text first (codes "threads")) (first_is (codes "join") rest) threads ∙ sym p.join;
}

as_text : (first text : List ℕ) (rest : List (List ℕ)) → is_text first text ≡ true → first ∷ rest ≡ text ∷ rest
as_text first text rest is = ap (λ w. w ∷ rest) ((bytes_decides first text).0 is)

by_first : (bounds : Bounds) (first : List ℕ) (rest : List (List ℕ)) (c : Command) → is_text first (codes "type") ≡ false
    → reason_of_command bounds (first ∷ rest) ≡ None → command_of_words (first ∷ rest) ≡ Some c → HasPlace (first ∷ rest) c
by_first bounds first rest c type fine e =
    elim (cases_Bool (is_text first (codes "gc"))) [
      | inl gc ↦ subst (λ ws. HasPlace ws c) (sym (as_text first (codes "gc") rest gc))
          (other_place (codes "gc") rest false c refl refl (after_gc rest c (sym (ap command_of_words (as_text first (codes "gc") rest gc)) ∙ e)))
      | inr no_gc ↦ elim (cases_Bool (is_text first (codes "at"))) [
        | inl at ↦ subst (λ ws. HasPlace ws c) (sym (as_text first (codes "at") rest at))
            (other_place (codes "at") rest true c refl refl (after_at rest c (sym (ap command_of_words (as_text first (codes "at") rest at)) ∙ e)))
        | inr no_at ↦ elim (cases_Bool (is_text first (codes "threads"))) [
          | inl threads ↦
              (let is = as_text first (codes "threads") rest threads in
              subst (λ ws. HasPlace ws c) (sym is)
              (after_threads bounds rest c (sym (ap (reason_of_command bounds) is) ∙ fine) (sym (ap command_of_words is) ∙ e)))
          | inr no_threads ↦ other_place first rest false c no_at no_threads
              (plain_row first (length rest) (first ∷ rest) c (row_named first rows) refl no_threads
              (sym (ap (λ form. command_by form (first ∷ rest)) (form_of_plain first rest no_gc no_at)) ∙ e))
        ]
      ]
    ]

pub has_place : (bounds : Bounds) (words : List (List ℕ)) (c : Command) → first_is (codes "type") words ≡ false
    → reason_of_command bounds words ≡ None → command_of_words words ≡ Some c → HasPlace words c
has_place bounds [] c type fine e = nothing c e
has_place bounds (first ∷ rest) c type fine e = by_first bounds first rest c type fine e
