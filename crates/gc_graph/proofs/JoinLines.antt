-- The lines of a join: who answers, in which order, and for which orders.
use Rattle.std.proofs.Common.{◌≡◌, ◌≢◌, ℕ, zero, suc, ◌<◌, ◌≤◌, ◌==◌, true, false, List, [], ◌∷◌, ◌++◌, map, filter, get_or, Option, Some, None, refl, sym, ap, ◌∙◌, subst, inl, inr, arith, Contains, All, cond}
use Rattle.std.specs.Prelude.{⊤}
use Rattle.std.specs.List.{AllPairs, filter_map, flat_map}
use Rattle.std.specs.List.Sorted.{IsNonDecreasingBy, IsStrictlyIncreasing}
use Rattle.std.proofs.lemmas.Bool.{cases_eq, eq-eqb, ne_eqb}
use Rattle.std.proofs.lemmas.List.Elements.{All-nil, All-cons, All-tail, All-weaker, All-append, All-map, filter-append}
use Rattle.std.proofs.lemmas.List.{append-nil, map-append}
use Rattle.std.proofs.lemmas.List.Kept.{AllPairs-from_increasing}
use Rattle.gc_graph.specs.declared.command.Order.{Order}
use Rattle.gc_graph.specs.declared.command.Order.TheVariants as Q
use Rattle.gc_graph.specs.declared.line.Line.{Line}
use Rattle.gc_graph.specs.declared.line.Line.TheVariants as L
use Rattle.gc_graph.specs.declared.region.Entry.{Entry}
use Rattle.gc_graph.specs.declared.region.Op.{Op}
use Rattle.gc_graph.specs.declared.region.Reply.{Reply}
use Rattle.gc_graph.specs.declared.region.Reply.TheVariants as P
use Rattle.gc_graph.specs.RegionSteps.{Answer, op_of, entry_of, AnswersOrder, HasDone, reply_line}
use Rattle.gc_graph.specs.RegionSteps.Answer.{Replied, Told}
use Rattle.gc_graph.specs.JoinLaw.{is_answer_of, tells_totals, asks_totals, reply_told, stand_of, entries_in}
use Rattle.gc_graph.specs.Members.{Contains-cons, Contains-cons_cases}
use Rattle.gc_graph.proofs.ThreadNumbers.{all_flat}

-- ---- the line of one answer

answer_test : (j k : ℕ) (answer : Answer) → is_answer_of j (reply_line k answer) ≡ (k == j)
answer_test j k (Replied reply) = refl
answer_test j k (Told o n u f) = refl

stand_of_answer : (k : ℕ) (answer : Answer) → stand_of (reply_line k answer) ≡ k
stand_of_answer k (Replied reply) = refl
stand_of_answer k (Told o n u f) = refl

kind_of_answer : (j : ℕ) (order : Order) (answer : Answer) → AnswersOrder (op_of order) answer → tells_totals (reply_line j answer) ≡ asks_totals order
kind_of_answer j (Q.Copy x y) (Replied reply) a = refl
kind_of_answer j (Q.Copy x y) (Told o n u f) a = absurd a
kind_of_answer j (Q.Clear x) (Replied reply) a = refl
kind_of_answer j (Q.Clear x) (Told o n u f) a = absurd a
kind_of_answer j (Q.Weaken x) (Replied reply) a = refl
kind_of_answer j (Q.Weaken x) (Told o n u f) a = absurd a
kind_of_answer j (Q.Upgrade x y) (Replied reply) a = refl
kind_of_answer j (Q.Upgrade x y) (Told o n u f) a = absurd a
kind_of_answer j Q.Totals (Replied reply) a = absurd a
kind_of_answer j Q.Totals (Told o n u f) a = refl

-- a thread that has done its orders answers totals just where they are asked for
pub kinds_of_answers : (j : ℕ) (orders : List Order) (answers : List Answer) (entries : List Entry) → HasDone j orders answers entries
    → map tells_totals (map (reply_line j) answers) ≡ map asks_totals orders
kinds_of_answers j [] [] entries h = refl
kinds_of_answers j (order ∷ orders) (answer ∷ answers) entries h =
    ap (λ b. b ∷ map tells_totals (map (reply_line j) answers)) (kind_of_answer j order answer h.1)
    ∙ ap (λ bs. asks_totals order ∷ bs) (kinds_of_answers j orders answers h.0 h.3)
kinds_of_answers j [] (answer ∷ answers) entries h = absurd h
kinds_of_answers j (order ∷ orders) [] entries h = absurd h

-- ---- the replies of one thread, and its entries

abbrev replies_in : List Entry → List Reply
replies_in entries = map (λ (entry : Entry). entry.reply) entries

reply_of_answer : (j : ℕ) (op : Option Op) (answer : Answer) (rest : List Line) → AnswersOrder op answer
    → filter_map reply_told (reply_line j answer ∷ rest) ≡ replies_in (entry_of j op answer) ++ filter_map reply_told rest
reply_of_answer j (Some op) (Replied P.NoMemory) rest a = refl
reply_of_answer j (Some op) (Replied P.Done) rest a = refl
reply_of_answer j (Some op) (Replied P.Null) rest a = refl
reply_of_answer j (Some op) (Replied (P.Node n)) rest a = refl
reply_of_answer j (Some op) (Told o n u f) rest a = absurd a
reply_of_answer j None (Replied reply) rest a = absurd a
reply_of_answer j None (Told o n u f) rest a = refl

-- a thread that has done its orders replies what its entries have
pub replies_of_answers : (j : ℕ) (orders : List Order) (answers : List Answer) (entries : List Entry) → HasDone j orders answers entries
    → filter_map reply_told (map (reply_line j) answers) ≡ replies_in entries
replies_of_answers j [] [] entries h = sym (ap replies_in h)
replies_of_answers j (order ∷ orders) (answer ∷ answers) entries h =
    let first : List Entry = entry_of j (op_of order) answer in
    reply_of_answer j (op_of order) answer (map (reply_line j) answers) h.1
    ∙ ap (λ rs. replies_in first ++ rs) (replies_of_answers j orders answers h.0 h.3)
    ∙ sym (map-append (λ (entry : Entry). entry.reply) first h.0) ∙ sym (ap replies_in h.2)
replies_of_answers j [] (answer ∷ answers) entries h = absurd h
replies_of_answers j (order ∷ orders) [] entries h = absurd h

-- ---- the answers of one thread among all

all_of : (j : ℕ) (answers : List Answer) → filter (is_answer_of j) (map (reply_line j) answers) ≡ map (reply_line j) answers
all_of j [] = refl
all_of j (answer ∷ answers) =
    let passes : is_answer_of j (reply_line j answer) ≡ true = answer_test j j answer ∙ eq-eqb j j refl in
    let rest : List Line = filter (is_answer_of j) (map (reply_line j) answers) in
    ap (λ b. cond b (reply_line j answer ∷ rest) rest) passes ∙ ap (λ ls. reply_line j answer ∷ ls) (all_of j answers)

none_of : (j k : ℕ) (answers : List Answer) → k ≢ j → filter (is_answer_of j) (map (reply_line k) answers) ≡ []
none_of j k [] other = refl
none_of j k (answer ∷ answers) other =
    let fails : is_answer_of j (reply_line k answer) ≡ false = answer_test j k answer ∙ ne_eqb k j other in
    let rest : List Line = filter (is_answer_of j) (map (reply_line k) answers) in
    ap (λ b. cond b (reply_line k answer ∷ rest) rest) fails ∙ none_of j k answers other

pub none_of_entries : (j : ℕ) (entries : List Entry) → filter (is_answer_of j) (map (λ entry. L.Entry entry) entries) ≡ []
none_of_entries j [] = refl
none_of_entries j (entry ∷ entries) = none_of_entries j entries

-- each number is below the later ones
abbrev pub AreUp : List ℕ → Type 0
AreUp [] = ⊤
AreUp (j ∷ js) = All (λ k. j < k) js × AreUp js

ups : (js : List ℕ) → AllPairs (λ j k. j < k) js → AreUp js
ups [] h = tt
ups (j ∷ js) h = (λ i d low. h 0 (suc i) d (omega arith) (omega arith), ups js (λ a b d l m. h (suc a) (suc b) d (omega arith) (omega arith)))

pub up_from : (js : List ℕ) → IsStrictlyIncreasing js → AreUp js
up_from js h = ups js (AllPairs-from_increasing js h)

module _ (answers : ℕ → List Answer) where
  abbrev pub told : List ℕ → List Line
  told js = flat_map (λ j. map (reply_line j) (answers j)) js

  pub none_told : (j : ℕ) (js : List ℕ) → (Contains js j → ⊥) → filter (is_answer_of j) (told js) ≡ []
  none_told j [] out = refl
  none_told j (k ∷ js) out =
      let first : filter (is_answer_of j) (map (reply_line k) (answers k)) ≡ [] = none_of j k (answers k) (λ same. out (0, omega arith, same)) in
      filter-append (is_answer_of j) (map (reply_line k) (answers k)) (told js)
      ∙ ap (λ ls. ls ++ filter (is_answer_of j) (told js)) first ∙ none_told j js (λ c. out (Contains-cons k js j c))

  not_later : (j : ℕ) (js : List ℕ) → All (λ k. j < k) js → Contains js j → ⊥
  not_later j js h c = (let less : j < j = subst (λ k. j < k) c.2 (h c.0 j c.1) in omega (arith, less))

  pub all_told : (j : ℕ) (js : List ℕ) → AreUp js → Contains js j → filter (is_answer_of j) (told js) ≡ map (reply_line j) (answers j)
  all_told j [] up c = absurd (omega (arith, c.1))
  all_told j (k ∷ js) up c =
      filter-append (is_answer_of j) (map (reply_line k) (answers k)) (told js)
      ∙ elim (cases_eq k j) [
        | inl same ↦
            subst (λ n. filter (is_answer_of n) (map (reply_line k) (answers k)) ++ filter (is_answer_of n) (told js) ≡ map (reply_line n) (answers n)) same
            (ap (λ ls. ls ++ filter (is_answer_of k) (told js)) (all_of k (answers k))
            ∙ ap (λ ls. map (reply_line k) (answers k) ++ ls) (none_told k js (not_later k js up.0))
            ∙ append-nil (map (reply_line k) (answers k)))
        | inr other ↦
            ap (λ ls. ls ++ filter (is_answer_of j) (told js)) (none_of j k (answers k) other)
            ∙ all_told j js up.1 (elim (Contains-cons_cases k js j c) [ inl here ↦ absurd (other here) | inr later ↦ later ])
      ]

-- ---- the order of the lines

abbrev Rises : List Line → Type 0
Rises [] = ⊤
Rises (x ∷ xs) = All (λ y. stand_of x ≤ stand_of y) xs × Rises xs

rises-append : (limit : ℕ) (xs ys : List Line) → Rises xs → Rises ys → All (λ x. stand_of x ≤ limit) xs → All (λ y. limit ≤ stand_of y) ys → Rises (xs ++ ys)
rises-append limit [] ys h k low high = k
rises-append limit (x ∷ xs) ys h k low high =
    let first : stand_of x ≤ limit = low 0 x (omega arith) in (
      All-append (λ y. stand_of x ≤ stand_of y) xs ys h.0 (All-weaker (λ y. limit ≤ stand_of y) (λ y. stand_of x ≤ stand_of y) (λ y l. omega arith) ys high),
      rises-append limit xs ys h.1 k (All-tail (λ y. stand_of y ≤ limit) x xs low) high,
    )

-- lines that stand at the same place
level : (stand : ℕ) (xs : List Line) → All (λ x. stand_of x ≡ stand) xs → Rises xs
level stand [] h = tt
level stand (x ∷ xs) h =
    let first : stand_of x ≡ stand = h 0 x (omega arith) in (
      All-weaker (λ y. stand_of y ≡ stand) (λ y. stand_of x ≤ stand_of y) (λ y e. omega (arith, e, first)) xs (All-tail (λ y. stand_of y ≡ stand) x xs h),
      level stand xs (All-tail (λ y. stand_of y ≡ stand) x xs h),
    )

stands : (k : ℕ) (answers : List Answer) → All (λ x. stand_of x ≡ k) (map (reply_line k) answers)
stands k answers = All-map (λ x. stand_of x ≡ k) (reply_line k) answers (λ i d low. stand_of_answer k _)

told_from : (answers : ℕ → List Answer) (limit : ℕ) (js : List ℕ) → All (λ k. limit ≤ k) js → All (λ y. limit ≤ stand_of y) (told answers js)
told_from answers limit js high =
    all_flat (λ y. limit ≤ stand_of y) (λ k. map (reply_line k) (answers k)) js
    (λ i d low. All-weaker (λ y. stand_of y ≡ get_or js i d) (λ y. limit ≤ stand_of y) (λ y e. (let l = high i d low in omega (arith, l, e)))
    (map (reply_line (get_or js i d)) (answers (get_or js i d))) (stands (get_or js i d) (answers (get_or js i d))))

told_to : (answers : ℕ → List Answer) (limit : ℕ) (js : List ℕ) → All (λ k. k ≤ limit) js → All (λ y. stand_of y ≤ limit) (told answers js)
told_to answers limit js few =
    all_flat (λ y. stand_of y ≤ limit) (λ k. map (reply_line k) (answers k)) js
    (λ i d low. All-weaker (λ y. stand_of y ≡ get_or js i d) (λ y. stand_of y ≤ limit) (λ y e. (let l = few i d low in omega (arith, l, e)))
    (map (reply_line (get_or js i d)) (answers (get_or js i d))) (stands (get_or js i d) (answers (get_or js i d))))

told_rises : (answers : ℕ → List Answer) (js : List ℕ) → AreUp js → Rises (told answers js)
told_rises answers [] up = tt
told_rises answers (k ∷ js) up =
    rises-append k (map (reply_line k) (answers k)) (told answers js) (level k (map (reply_line k) (answers k)) (stands k (answers k)))
    (told_rises answers js up.1)
    (All-weaker (λ x. stand_of x ≡ k) (λ x. stand_of x ≤ k) (λ x e. omega (arith, e)) (map (reply_line k) (answers k)) (stands k (answers k)))
    (told_from answers k js (All-weaker (λ j. k < j) (λ j. k ≤ j) (λ j l. omega (arith, l)) js up.0))

by_index : (xs : List Line) → Rises xs → IsNonDecreasingBy stand_of xs
by_index [] h i j d le low = absurd (omega (arith, low))
by_index (x ∷ xs) h zero zero d le low = omega arith
by_index (x ∷ xs) h zero (suc j) d le low = h.0 j d (omega (arith, low))
by_index (x ∷ xs) h (suc i) zero d le low = absurd (omega (arith, le))
by_index (x ∷ xs) h (suc i) (suc j) d le low = by_index xs h.1 i j d (omega (arith, le)) (omega (arith, low))

-- answers of threads below 9, entries, and a count
pub join_rises : (answers : ℕ → List Answer) (js : List ℕ) (entries : List Entry) (m : ℕ) → AreUp js → All (λ k. k ≤ 8) js
    → IsNonDecreasingBy stand_of (told answers js ++ map (λ entry. L.Entry entry) entries ++ L.Joined m ∷ [])
join_rises answers js entries m up few =
    let middle : All (λ x. stand_of x ≡ 9) (map (λ entry. L.Entry entry) entries) = All-map (λ x. stand_of x ≡ 9) (λ entry. L.Entry entry) entries (λ i d low. refl) in
    let first : Rises (told answers js ++ map (λ entry. L.Entry entry) entries) =
    rises-append 9 (told answers js) (map (λ entry. L.Entry entry) entries) (told_rises answers js up) (level 9 (map (λ entry. L.Entry entry) entries) middle)
    (All-weaker (λ x. stand_of x ≤ 8) (λ x. stand_of x ≤ 9) (λ x l. omega (arith, l)) (told answers js) (told_to answers 8 js few))
    (All-weaker (λ x. stand_of x ≡ 9) (λ x. 9 ≤ stand_of x) (λ x e. omega (arith, e)) (map (λ entry. L.Entry entry) entries) middle) in
    let early : All (λ x. stand_of x ≤ 10) (told answers js ++ map (λ entry. L.Entry entry) entries) =
    All-append (λ x. stand_of x ≤ 10) (told answers js) (map (λ entry. L.Entry entry) entries)
    (All-weaker (λ x. stand_of x ≤ 8) (λ x. stand_of x ≤ 10) (λ x l. omega (arith, l)) (told answers js) (told_to answers 8 js few))
    (All-weaker (λ x. stand_of x ≡ 9) (λ x. stand_of x ≤ 10) (λ x e. omega (arith, e)) (map (λ entry. L.Entry entry) entries) middle) in
    by_index (told answers js ++ map (λ entry. L.Entry entry) entries ++ L.Joined m ∷ [])
    (rises-append 10 (told answers js ++ map (λ entry. L.Entry entry) entries) (L.Joined m ∷ []) first (All-nil (λ y. 10 ≤ stand_of y), tt) early
    (All-cons (λ y. 10 ≤ stand_of y) (L.Joined m) [] (omega arith) (All-nil (λ y. 10 ≤ stand_of y))))

-- ---- the entries among the lines

pub entries_in-append : (xs ys : List Line) → entries_in (xs ++ ys) ≡ entries_in xs ++ entries_in ys
entries_in-append [] ys = refl
entries_in-append (L.Entry entry ∷ xs) ys = ap (λ es. entry ∷ es) (entries_in-append xs ys)
entries_in-append (other ∷ xs) ys = entries_in-append xs ys

pub entries_told : (entries : List Entry) → entries_in (map (λ entry. L.Entry entry) entries) ≡ entries
entries_told [] = refl
entries_told (entry ∷ entries) = ap (λ es. entry ∷ es) (entries_told entries)

answer_tells_none : (k : ℕ) (answer : Answer) (rest : List Line) → entries_in (reply_line k answer ∷ rest) ≡ entries_in rest
answer_tells_none k (Replied reply) rest = refl
answer_tells_none k (Told o n u f) rest = refl

answers_tell_none : (k : ℕ) (answers : List Answer) (rest : List Line) → entries_in (map (reply_line k) answers ++ rest) ≡ entries_in rest
answers_tell_none k [] rest = refl
answers_tell_none k (answer ∷ answers) rest =
    answer_tells_none k answer (map (reply_line k) answers ++ rest) ∙ answers_tell_none k answers rest

pub all_tell_none : (answers : ℕ → List Answer) (js : List ℕ) → entries_in (told answers js) ≡ []
all_tell_none answers [] = refl
all_tell_none answers (k ∷ js) = answers_tell_none k (answers k) (told answers js) ∙ all_tell_none answers js
