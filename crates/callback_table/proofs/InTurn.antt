-- The masks of places are asked for in turn.
use Rattle.std.proofs.Common.{◌≡◌, ℕ, List, [], ◌∷◌, ◌++◌, Option, Some, None, refl, sym, ap, ◌∙◌, subst}
use Rattle.std.proofs.lemmas.List.{map-append}
use Rattle.callback_table.specs.Asking.{AsksInTurn, MayBeAsked, AnswersInTurn}
use Rattle.callback_table.specs.WeakRegistry.{WeakRegistration, places_of, left_by, AreLeftByAnswers}

module _ {F : Type 0} (step : F → ℕ → Option ℕ → F → Type 0) where
  -- ---- what may be asked

  pub asks_first : (pre : F → ℕ → Type 0) (mask : F) (place : ℕ) (places : List ℕ) → AsksInTurn pre step mask (place ∷ places)
      → MayBeAsked pre step mask (place ∷ [])
  asks_first pre mask place places h = record { in_turn = (h.0, λ answer next s. tt) }

  asks_after : (pre : F → ℕ → Type 0) (mask next : F) (place : ℕ) (places : List ℕ) (answers : List (Option ℕ))
      → AsksInTurn pre step mask (place ∷ places) → AnswersInTurn step mask (place ∷ []) answers next → AsksInTurn pre step next places
  asks_after pre mask next place places [] h one = absurd one
  asks_after pre mask next place places (answer ∷ []) h one =
      subst (λ (m : F). AsksInTurn pre step m places) (sym one.2) (h.1 answer one.0 one.1)
  asks_after pre mask next place places (answer ∷ other ∷ answers) h one = absurd one.2

  -- once it was asked for the first place, it may be asked for the others
  pub asks_rest : (pre : F → ℕ → Type 0) (mask next : F) (entry : WeakRegistration) (new : List WeakRegistration) (places : List ℕ)
      → AsksInTurn pre step mask (entry.place ∷ places) → AreLeftByAnswers step mask next (entry ∷ []) new → AsksInTurn pre step next places
  asks_rest pre mask next entry new places h one = asks_after pre mask next entry.place places one.answers h one.in_turn

  -- ---- what is answered

  answers-append : (first middle last : F) (ps qs : List ℕ) (xs ys : List (Option ℕ)) → AnswersInTurn step first ps xs middle
      → AnswersInTurn step middle qs ys last → AnswersInTurn step first (ps ++ qs) (xs ++ ys) last
  answers-append first middle last [] qs [] ys a b = subst (λ (m : F). AnswersInTurn step m qs ys last) a b
  answers-append first middle last [] qs (x ∷ xs) ys a b = absurd a
  answers-append first middle last (p ∷ ps) qs [] ys a b = absurd a
  answers-append first middle last (p ∷ ps) qs (x ∷ xs) ys a b = (a.0, a.1, answers-append a.0 middle last ps qs xs ys a.2 b)

  left_by-append : (first last : F) (xs ys : List (Option ℕ)) (es fs : List WeakRegistration) → AnswersInTurn step first (places_of es) xs last
      → left_by (xs ++ ys) (es ++ fs) ≡ left_by xs es ++ left_by ys fs
  left_by-append first last [] ys [] fs a = refl
  left_by-append first last (x ∷ xs) ys [] fs a = absurd a
  left_by-append first last [] ys (e ∷ es) fs a = absurd a
  left_by-append first last (None ∷ xs) ys (e ∷ es) fs a = left_by-append a.0 last xs ys es fs a.2
  left_by-append first last (Some m ∷ xs) ys (e ∷ es) fs a = ap (λ more. record e { mask = m } ∷ more) (left_by-append a.0 last xs ys es fs a.2)

  -- before the first place nothing is answered
  pub none_left : (first : F) → AreLeftByAnswers step first first [] []
  none_left first = record { answers = []; in_turn = refl; left = refl }

  -- the answers to some places, and then to those after them
  pub left-append : (first middle last : F) (es fs ms ns : List WeakRegistration) → AreLeftByAnswers step first middle es ms
      → AreLeftByAnswers step middle last fs ns → AreLeftByAnswers step first last (es ++ fs) (ms ++ ns)
  left-append first middle last es fs ms ns a b = record {
    answers = a.answers ++ b.answers;
    in_turn =
        subst (λ places. AnswersInTurn step first places (a.answers ++ b.answers) last) (sym (map-append (λ entry. entry.place) es fs))
        (answers-append first middle last (places_of es) (places_of fs) a.answers b.answers a.in_turn b.in_turn);
    left =
        ap (λ front. front ++ ns) a.left ∙ ap (λ back. left_by a.answers es ++ back) b.left
        ∙ sym (left_by-append first middle a.answers b.answers es fs a.in_turn);
  }
