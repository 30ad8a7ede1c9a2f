-- The callbacks of a list, one after the other.
use Rattle.std.proofs.Common.{◌≡◌, ℕ, ◌<◌, ◌≤◌, ◌==◌, ◌&&◌, ◌||◌, Bool, true, false, not, cond, Some, None, List, [], ◌∷◌, ◌++◌, length, drop, map, refl, sym, ap, ◌∙◌, subst, inl, inr, arith}
use Rattle.std.specs.Prelude.{codes, nat_lt, nat_le, unwrap_or, is_some}
use Rattle.std.specs.List.{list_all, list_any}
use Rattle.std.proofs.lemmas.Bool.{true≢false, cases_Bool, cond-true, cond-false, and_from, and_left, and_right, and_parts, and_cases, or_cases, or_parts, or_from, or_left, or_right, not_from_true, not_from_false, ltb-true, ltb-false, lt-ltb, le-ltb, le-leb, eq-eqb, ne_eqb}
use Rattle.std.proofs.lemmas.List.{length_push, map_push, length-map, append-nil}
use Rattle.std.proofs.lemmas.List.Folds.{list_all-append, list_any-append}
use Rattle.gc_graph.specs.Words.{is_text, is_number, value_after}
use Rattle.gc_graph.specs.Forms.{before_weak, from_weak}
use Rattle.gc_graph.specs.Reasons.{value_of, is_beyond}
use Rattle.line_words.specs.Cursor.{line_words, lines_after, IsLineEnd}
use Rattle.heap_script.specs.declared.type_lines.Callbacks.{Callbacks}
use Rattle.heap_script.specs.TypeLines.{AreCallbacks, AreNumbers, are_over, ended_by, left_by}
use Rattle.heap_script.proofs.WeakWords.{numbers_ended, numbers_stopped, no_number}

-- ---- a word that was read as a number

pub number_is : (value : ℕ) (word : List ℕ) → Some value ≡ cond (is_number word) (Some (value_after 0 word)) None
    → (is_number word ≡ true) × (value ≡ value_of word)
number_is value word e = elim (cases_Bool (is_number word)) [
  | inl so ↦ (so, ap (λ o. unwrap_or o 0) (e ∙ cond-true (is_number word) (Some (value_after 0 word)) None so))
  | inr off ↦ absurd (true≢false (ap is_some (e ∙ cond-false (is_number word) (Some (value_after 0 word)) None off)))
]

-- or as none
number_not : (word : List ℕ) → None ≡ cond (is_number word) (Some (value_after 0 word)) None → is_number word ≡ false
number_not word e = elim (cases_Bool (is_number word)) [
  | inl so ↦ absurd (true≢false (sym (ap is_some (e ∙ cond-true (is_number word) (Some (value_after 0 word)) None so))))
  | inr off ↦ off
]

-- ---- one word more

plain_more : (taken : List (List ℕ)) (word : List ℕ) → list_all is_number taken ≡ true → is_number word ≡ true
    → list_all is_number (taken ++ word ∷ []) ≡ true
plain_more taken word all one =
    list_all-append is_number taken (word ∷ []) ∙ and_from (list_all is_number taken) (is_number word && true) all (and_from (is_number word) true one refl)

any_more : (callbacks : ℕ) (taken : List (List ℕ)) (word : List ℕ)
    → list_any (is_beyond 0 callbacks) (taken ++ word ∷ []) ≡ (list_any (is_beyond 0 callbacks) taken || (is_beyond 0 callbacks word || false))
any_more callbacks taken word = list_any-append (is_beyond 0 callbacks) taken (word ∷ [])

over_stays : (callbacks : ℕ) (taken : List (List ℕ)) (word : List ℕ) → are_over callbacks taken ≡ true → are_over callbacks (taken ++ word ∷ []) ≡ true
over_stays callbacks taken word over =
    let many : Bool = nat_lt 16 (length (taken ++ word ∷ [])) in
    let any : Bool = list_any (is_beyond 0 callbacks) (taken ++ word ∷ []) in
    elim (or_cases (nat_lt 16 (length taken)) (list_any (is_beyond 0 callbacks) taken) over) [
      | inl more ↦ or_left many any (lt-ltb 16 (length (taken ++ word ∷ [])) (omega (arith, ltb-true 16 (length taken) more, length_push taken word)))
      | inr one ↦ or_right many any (any_more callbacks taken word
          ∙ or_left (list_any (is_beyond 0 callbacks) taken) (is_beyond 0 callbacks word || false) one)
    ]

within_is : (callbacks : ℕ) (word : List ℕ) → value_of word < callbacks → is_beyond 0 callbacks word ≡ false
within_is callbacks word low =
    and_right (is_number word) (not (nat_le 0 (value_of word) && nat_lt (value_of word) callbacks))
    (not_from_true (nat_le 0 (value_of word) && nat_lt (value_of word) callbacks)
    (and_from (nat_le 0 (value_of word)) (nat_lt (value_of word) callbacks) (le-leb 0 (value_of word) (omega arith)) (lt-ltb (value_of word) callbacks low)))

beyond_is : (callbacks : ℕ) (word : List ℕ) → is_number word ≡ true → callbacks ≤ value_of word → is_beyond 0 callbacks word ≡ true
beyond_is callbacks word number high =
    and_from (is_number word) (not (nat_le 0 (value_of word) && nat_lt (value_of word) callbacks)) number
    (not_from_false (nat_le 0 (value_of word) && nat_lt (value_of word) callbacks)
    (and_right (nat_le 0 (value_of word)) (nat_lt (value_of word) callbacks) (le-ltb (value_of word) callbacks high)))

-- not over before, and room for one more that is there
not_over_more : (callbacks : ℕ) (taken : List (List ℕ)) (word : List ℕ) → are_over callbacks taken ≡ false → length taken < 16
    → value_of word < callbacks → are_over callbacks (taken ++ word ∷ []) ≡ false
not_over_more callbacks taken word over room low =
    let parts = or_parts (nat_lt 16 (length taken)) (list_any (is_beyond 0 callbacks) taken) over in
    or_from (nat_lt 16 (length (taken ++ word ∷ []))) (list_any (is_beyond 0 callbacks) (taken ++ word ∷ []))
    (le-ltb 16 (length (taken ++ word ∷ [])) (omega (arith, length_push taken word, room)))
    (any_more callbacks taken word
    ∙ or_from (list_any (is_beyond 0 callbacks) taken) (is_beyond 0 callbacks word || false) parts.1
    (or_from (is_beyond 0 callbacks word) false (within_is callbacks word low) refl))

-- a callback that is kept
pub one_kept : (callbacks : ℕ) (taken : List (List ℕ)) (word numbers : List ℕ) (over : Bool) (value : ℕ) → AreCallbacks callbacks taken numbers over
    → Some value ≡ cond (is_number word) (Some (value_after 0 word)) None → (nat_lt value callbacks && nat_lt (length numbers) 16) ≡ true
    → AreCallbacks callbacks (taken ++ word ∷ []) (numbers ++ value ∷ []) over
one_kept callbacks taken word numbers over value called number kept =
    let is = number_is value word number in
    let parts = and_parts (nat_lt value callbacks) (nat_lt (length numbers) 16) kept in
    let low : value_of word < callbacks = subst (λ v. v < callbacks) is.1 (ltb-true value callbacks parts.0) in
    record {
      plain = plain_more taken word called.plain is.0;
      over_is = elim (cases_Bool over) [
        | inl so ↦ so ∙ sym (over_stays callbacks taken word (sym called.over_is ∙ so))
        | inr off ↦
            (let room : length taken < 16 =
            omega (arith, ltb-true (length numbers) 16 parts.1, ap length (called.numbers_are off), length-map taken value_of) in
            off ∙ sym (not_over_more callbacks taken word (sym called.over_is ∙ off) room low))
      ];
      numbers_are = λ off.
          ap (λ (ns : List ℕ). ns ++ value ∷ []) (called.numbers_are off)
          ∙ ap (λ (v : ℕ). map value_of taken ++ v ∷ []) is.1
          ∙ sym (map_push value_of taken word);
    }

-- a callback that is over
pub one_over : (callbacks : ℕ) (taken : List (List ℕ)) (word numbers : List ℕ) (over : Bool) (value : ℕ) → AreCallbacks callbacks taken numbers over
    → Some value ≡ cond (is_number word) (Some (value_after 0 word)) None → (nat_lt value callbacks && nat_lt (length numbers) 16) ≡ false
    → AreCallbacks callbacks (taken ++ word ∷ []) numbers true
one_over callbacks taken word numbers over value called number past =
    let is = number_is value word number in
    let many : Bool = nat_lt 16 (length (taken ++ word ∷ [])) in
    let any : Bool = list_any (is_beyond 0 callbacks) (taken ++ word ∷ []) in
    record {
      plain = plain_more taken word called.plain is.0;
      over_is = elim (cases_Bool over) [
        | inl so ↦ sym (over_stays callbacks taken word (sym called.over_is ∙ so))
        | inr off ↦ elim (and_cases (nat_lt value callbacks) (nat_lt (length numbers) 16) past) [
          | inl high ↦
              (let beyond : callbacks ≤ value_of word = subst (λ v. callbacks ≤ v) is.1 (ltb-false value callbacks high) in
              sym (or_right many any (any_more callbacks taken word
              ∙ or_right (list_any (is_beyond 0 callbacks) taken) (is_beyond 0 callbacks word || false)
              (or_left (is_beyond 0 callbacks word) false (beyond_is callbacks word is.0 beyond)))))
          | inr full ↦
              (let more : 16 < length (taken ++ word ∷ []) =
              omega (arith, ltb-false (length numbers) 16 full, ap length (called.numbers_are off), length-map taken value_of, length_push taken word) in
              sym (or_left many any (lt-ltb 16 (length (taken ++ word ∷ [])) more)))
        ]
      ];
      numbers_are = λ off. absurd (true≢false off);
    }

-- there are none exactly where none is kept and none is over
none_read : (callbacks : ℕ) (taken : List (List ℕ)) (numbers : List ℕ) (over : Bool) → AreCallbacks callbacks taken numbers over
    → (length numbers == 0 && not over) ≡ (length taken == 0)
none_read callbacks [] numbers over called =
    let off : over ≡ false = called.over_is in
    let none : length numbers ≡ 0 = ap length (called.numbers_are off) in
    and_from (length numbers == 0) (not over) (eq-eqb (length numbers) 0 none) (ap not off)
none_read callbacks (word ∷ words) numbers over called = elim (cases_Bool over) [
  | inl so ↦ and_right (length numbers == 0) (not over) (ap not so) ∙ sym (ne_eqb (length (word ∷ words)) 0 (λ e. omega (arith, e)))
  | inr off ↦
      (let some : length numbers ≡ length (word ∷ words) = ap length (called.numbers_are off) ∙ length-map (word ∷ words) value_of in
      and_left (length numbers == 0) (not over) (ne_eqb (length numbers) 0 (λ e. omega (arith, some, e)))
      ∙ sym (ne_eqb (length (word ∷ words)) 0 (λ e. omega (arith, e))))
]

-- ---- where a list ends

-- at the end of the line
pub read_to_end : (callbacks : ℕ) (stops : Bool) (bytes : List ℕ) (from at : ℕ) (taken : List (List ℕ)) (numbers : List ℕ) (over : Bool)
    (list : Callbacks) → line_words (drop from bytes) ≡ taken ++ line_words (drop at bytes) → line_words (drop at bytes) ≡ []
    → IsLineEnd bytes from list.end → AreCallbacks callbacks taken numbers over → list.numbers.items ≡ numbers → list.over ≡ over
    → list.bare ≡ (length numbers == 0 && not over) → list.weak ≡ false → AreNumbers callbacks stops bytes from list
read_to_end callbacks stops bytes from at taken numbers over list whole none ends called items over_is bare weak =
    let words : line_words (drop from bytes) ≡ taken = whole ∙ ap (λ (ws : List (List ℕ)). taken ++ ws) none ∙ append-nil taken in
    let parts = numbers_ended stops taken called.plain in
    let ended : ended_by stops (line_words (drop from bytes)) ≡ taken = ap (ended_by stops) words ∙ parts.0 in
    record {
      called = subst (λ ws. AreCallbacks callbacks ws list.numbers.items list.over) (sym ended)
          (subst (λ ns. AreCallbacks callbacks taken ns list.over) (sym items) (subst (λ b. AreCallbacks callbacks taken numbers b) (sym over_is) called));
      bare = bare ∙ none_read callbacks taken numbers over called ∙ ap (λ (ws : List (List ℕ)). length ws == 0) (sym ended);
      ended = record {
        line = λ e. (ap (left_by stops) words ∙ parts.1, ends);
        weak = λ e. absurd (true≢false (sym e ∙ weak));
        order = ends.order;
        within = ends.within;
        same = ends.same;
      };
    }

-- at the word `weak`
pub read_to_weak : (callbacks : ℕ) (stops : Bool) (bytes : List ℕ) (from at : ℕ) (taken : List (List ℕ)) (word numbers : List ℕ) (over : Bool)
    (list : Callbacks) → line_words (drop from bytes) ≡ taken ++ line_words (drop at bytes)
    → line_words (drop at bytes) ≡ word ∷ line_words (drop list.end bytes) → (stops && is_text word (codes "weak")) ≡ true
    → from ≤ list.end → list.end ≤ length bytes → lines_after (drop from bytes) ≡ lines_after (drop list.end bytes)
    → AreCallbacks callbacks taken numbers over → list.numbers.items ≡ numbers → list.over ≡ over
    → list.bare ≡ (length numbers == 0 && not over) → list.weak ≡ true → AreNumbers callbacks stops bytes from list
read_to_weak callbacks stops bytes from at taken word numbers over list whole next is order within same called items over_is bare weak =
    let rest : List (List ℕ) = line_words (drop list.end bytes) in
    let words : line_words (drop from bytes) ≡ taken ++ word ∷ rest = whole ∙ ap (λ (ws : List (List ℕ)). taken ++ ws) next in
    let both = and_parts stops (is_text word (codes "weak")) is in
    let parts = numbers_stopped taken rest word called.plain both.1 in
    let ended : ended_by stops (line_words (drop from bytes)) ≡ taken =
    ap (λ b. ended_by b (line_words (drop from bytes))) both.0 ∙ ap before_weak words ∙ parts.0 in
    record {
      called = subst (λ ws. AreCallbacks callbacks ws list.numbers.items list.over) (sym ended)
          (subst (λ ns. AreCallbacks callbacks taken ns list.over) (sym items) (subst (λ b. AreCallbacks callbacks taken numbers b) (sym over_is) called));
      bare = bare ∙ none_read callbacks taken numbers over called ∙ ap (λ (ws : List (List ℕ)). length ws == 0) (sym ended);
      ended = record {
        line = λ e. absurd (true≢false (sym weak ∙ e));
        weak = λ e. ap (λ b. left_by b (line_words (drop from bytes))) both.0 ∙ ap from_weak words ∙ parts.1;
        order = order;
        within = within;
        same = same;
      };
    }

-- at a word that is none of both
pub read_to_fault : (callbacks : ℕ) (stops : Bool) (bytes : List ℕ) (from at end : ℕ) (taken : List (List ℕ)) (word numbers : List ℕ) (over : Bool)
    → line_words (drop from bytes) ≡ taken ++ line_words (drop at bytes) → line_words (drop at bytes) ≡ word ∷ line_words (drop end bytes)
    → AreCallbacks callbacks taken numbers over → None ≡ cond (is_number word) (Some (value_after 0 word)) None
    → (stops && is_text word (codes "weak")) ≡ false → list_all is_number (ended_by stops (line_words (drop from bytes))) ≡ false
read_to_fault callbacks stops bytes from at end taken word numbers over whole next called none other =
    ap (λ ws. list_all is_number (ended_by stops ws)) (whole ∙ ap (λ (ws : List (List ℕ)). taken ++ ws) next)
    ∙ no_number stops taken (line_words (drop end bytes)) word called.plain (number_not word none) other
