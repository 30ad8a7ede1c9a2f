-- Slots that are cleared one after the other.
use Rattle.std.proofs.Common.{◌≡◌, ℕ, ◌+◌, ◌<◌, ◌≤◌, Bool, true, List, [], ◌∷◌, ◌++◌, length, get_or, take, drop, set, map, Option, Some, None, refl, sym, ap, ◌∙◌, subst, cond, append_assoc, arith}
use Rattle.std.proofs.lemmas.List.{drop_more, drop-set-lt, take_more_set, take_all, drop_all, append-nil}
use Rattle.gc_graph.specs.Pause.{clear_slot}
use Rattle.persistent_slots.specs.Clearing.{AsksInTurn, ClearsOne, ClearsInTurn, AnswersInTurn}

split_at : (items : List (Option ℕ)) (i : ℕ) (slot : Option ℕ) → slot ≡ get_or items i slot → i < length items
    → drop i items ≡ slot ∷ drop (i + 1) items
split_at items i slot e l = drop_more items i slot l ∙ ap (λ first. first ∷ drop (i + 1) items) (sym e)

module _ {F : Type 0} (pre : F → ℕ → Type 0) (step : F → ℕ → Bool → F → Type 0) where
  asks_one : (test : F) (slot : Option ℕ) (slots : List (Option ℕ)) → AsksInTurn pre step test (slot ∷ slots)
      → AsksInTurn pre step test (slot ∷ [])
  asks_one test None slots h = tt
  asks_one test (Some place) slots h = (h.0, λ answer next s. tt)

  asks_rest : (test : F) (slot : Option ℕ) (slots : List (Option ℕ)) (new : Option ℕ) (next : F) → AsksInTurn pre step test (slot ∷ slots)
      → ClearsOne step test slot new next → AsksInTurn pre step next slots
  asks_rest test None slots new next h one = subst (λ t. AsksInTurn pre step t slots) (sym one.1) h
  asks_rest test (Some place) slots new next h one = h.1 one.0 next one.1

  -- the test may be asked of the slot at i
  pub asks_at : (test : F) (items : List (Option ℕ)) (i : ℕ) (slot : Option ℕ) → slot ≡ get_or items i slot → i < length items
      → AsksInTurn pre step test (drop i items) → AsksInTurn pre step test (slot ∷ [])
  asks_at test items i slot e l h = asks_one test slot (drop (i + 1) items) (subst (AsksInTurn pre step test) (split_at items i slot e l) h)

  -- and of those after it, once it was
  pub asks_on : (test : F) (items : List (Option ℕ)) (i : ℕ) (slot new : Option ℕ) (next : F) → slot ≡ get_or items i slot → i < length items
      → AsksInTurn pre step test (drop i items) → ClearsOne step test slot new next → AsksInTurn pre step next (drop (i + 1) (set items i new))
  asks_on test items i slot new next e l h one =
      subst (AsksInTurn pre step next) (sym (drop-set-lt (i + 1) items i new (omega arith)))
      (asks_rest test slot (drop (i + 1) items) new next (subst (AsksInTurn pre step test) (split_at items i slot e l) h) one)

module _ {F : Type 0} (step : F → ℕ → Bool → F → Type 0) where
  pub cleared_one : (test : F) (slot : Option ℕ) (place : ℕ) (answer : Bool) (next : F) → slot ≡ Some place → step test place answer next
      → answer ≡ true → ClearsOne step test slot None next
  cleared_one test slot place answer next is s dead =
      subst (λ old. ClearsOne step test old None next) (sym is) (answer, s, ap (λ b. cond b None (Some place)) (sym dead))

  -- what calls from now on make of the slots at i and after, all calls made of all slots
  pub record IsClearedTo (first : F) (slots : List (Option ℕ)) (test : F) (items : List (Option ℕ)) (i : ℕ) : Type 0 where
    pub so_far : (rest : List (Option ℕ)) → ClearsInTurn step test (drop i items) rest → ClearsInTurn step first slots (take i items ++ rest)

  pub cleared_to_none : (first : F) (slots : List (Option ℕ)) → IsClearedTo first slots first slots 0
  cleared_to_none first slots = record { so_far = λ rest h. h }

  pub cleared_on : (first : F) (slots : List (Option ℕ)) (test : F) (items : List (Option ℕ)) (i : ℕ) (slot new : Option ℕ) (next : F)
      → slot ≡ get_or items i slot → i < length items → IsClearedTo first slots test items i → ClearsOne step test slot new next
      → IsClearedTo first slots next (set items i new) (i + 1)
  cleared_on first slots test items i slot new next e l done one = record {
    so_far = λ rest h.
        subst (ClearsInTurn step first slots)
        (sym (append_assoc (take i items) (new ∷ []) rest) ∙ ap (λ front. front ++ rest) (sym (take_more_set items i new l)))
        (done.so_far (new ∷ rest)
        (subst (λ olds. ClearsInTurn step test olds (new ∷ rest)) (sym (split_at items i slot e l))
        (next, one, subst (λ olds. ClearsInTurn step next olds rest) (drop-set-lt (i + 1) items i new (omega arith)) h)));
  }

  pub cleared_to_all : (first : F) (old slots : List (Option ℕ)) (test : F) (items : List (Option ℕ)) (i : ℕ) → slots ≡ old → length items ≤ i
      → IsClearedTo first slots test items i → ClearsInTurn step first old items
  cleared_to_all first old slots test items i same past done =
      subst (λ olds. ClearsInTurn step first olds items) same
      (subst (ClearsInTurn step first slots) (append-nil (take i items) ∙ take_all i items past)
      (done.so_far [] (subst (λ olds. ClearsInTurn step test olds []) (sym (drop_all i items past)) tt)))

  -- a test that answers by a rule clears by that rule
  pub cleared_by : (rule : ℕ → Bool) (test : F) (old new : List (Option ℕ)) → AnswersInTurn step rule test old → ClearsInTurn step test old new
      → new ≡ map (clear_slot rule) old
  cleared_by rule test [] [] answers h = refl
  cleared_by rule test [] (y ∷ ys) answers h = absurd h
  cleared_by rule test (x ∷ xs) [] answers h = absurd h
  cleared_by rule test (None ∷ xs) (y ∷ ys) answers h =
      ap (λ z. z ∷ ys) h.1.0
      ∙ ap (λ zs. None ∷ zs) (cleared_by rule h.0 xs ys (subst (λ t. AnswersInTurn step rule t xs) (sym h.1.1) answers) h.2)
  cleared_by rule test (Some place ∷ xs) (y ∷ ys) answers h =
      let told = answers h.1.0 h.0 h.1.1 in
      ap (λ z. z ∷ ys) (h.1.2 ∙ ap (λ b. cond b None (Some place)) told.0)
      ∙ ap (λ zs. clear_slot rule (Some place) ∷ zs) (cleared_by rule h.0 xs ys told.1 h.2)
