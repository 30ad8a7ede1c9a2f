-- What the calls of a share make of what it put and took.
use Rattle.std.proofs.Common.{◌≡◌, ℕ, zero, suc, ◌+◌, ◌<◌, List, [], ◌∷◌, ◌++◌, length, map, get_or, set, Option, None, Some, MatchOption, true, false, refl, sym, ap, ◌∙◌, subst, inl, inr, arith}
use mathlib.Core.Logic.{◌⊎◌}
use Rattle.std.specs.List.{Contains, flat_map}
use Rattle.std.specs.Option.{is_some}
use Rattle.std.proofs.lemmas.Bool.{true≢false}
use Rattle.std.proofs.lemmas.List.{length-append, length-map}
use Rattle.std.proofs.lemmas.List.Elements.{Contains-append_left, Contains-append_right, Contains-append_cases, Contains-push, Contains-push_cases}
use Rattle.std.proofs.lemmas.List.Folds.{flat_map-map}
use Rattle.mark_worklist.specs.Ends.{OtherState}
use Rattle.mark_worklist.specs.Shares.{ShareState, IsSameShare, taken_by_share, share_pushed, popped, refused_once, Stole, StoleNone}
use Rattle.marker_crew.specs.Drains.{IsIdle, IsOneTaken}

-- ---- it has the same lists

pub same_pushed : (h k : ShareState) (a : ℕ) → k ≡ share_pushed h a → IsSameShare h k
same_pushed h k a is = subst (IsSameShare h) (sym is) (record { number = refl; own = refl; parts = refl; even = λ even. even; others = refl })

pub same_refused : (h k : ShareState) → k ≡ refused_once h → IsSameShare h k
same_refused h k is = subst (IsSameShare h) (sym is) (record { number = refl; own = refl; parts = refl; even = λ even. even; others = refl })

-- ---- what it took

-- the items of several lists
abbrev items : List (List ℕ) → List ℕ
items xss = flat_map (λ xs. xs) xss

-- one item more in one of the lists is one more, and no other
one_in : (xss : List (List ℕ)) (p a b : ℕ) → p < length xss → Contains (items (set xss p (get_or xss p [] ++ a ∷ []))) b → Contains (items xss) b ⊎ (b ≡ a)
one_in [] p a b low there = absurd (omega (arith, low))
one_in (xs ∷ xss) zero a b low there = elim (Contains-append_cases (xs ++ a ∷ []) (items xss) b there) [
  | inl here ↦ elim (Contains-push_cases xs a b here) [
    | inl old ↦ inl (Contains-append_left xs (items xss) b old)
    | inr same ↦ inr (sym same)
  ]
  | inr later ↦ inl (Contains-append_right xs (items xss) b later)
]
one_in (xs ∷ xss) (suc p) a b low there = elim (Contains-append_cases xs (items (set xss p (get_or xss p [] ++ a ∷ []))) b there) [
  | inl here ↦ inl (Contains-append_left xs (items xss) b here)
  | inr later ↦ elim (one_in xss p a b (omega (arith, low)) later) [
    | inl old ↦ inl (Contains-append_right xs (items xss) b old)
    | inr same ↦ inr same
  ]
]

in_one : (xss : List (List ℕ)) (p a b : ℕ) → Contains (items xss) b → Contains (items (set xss p (get_or xss p [] ++ a ∷ []))) b
in_one [] p a b there = there
in_one (xs ∷ xss) zero a b there = elim (Contains-append_cases xs (items xss) b there) [
  | inl here ↦ Contains-append_left (xs ++ a ∷ []) (items xss) b (Contains-append_left xs (a ∷ []) b here)
  | inr later ↦ Contains-append_right (xs ++ a ∷ []) (items xss) b later
]
in_one (xs ∷ xss) (suc p) a b there = elim (Contains-append_cases xs (items xss) b there) [
  | inl here ↦ Contains-append_left xs (items (set xss p (get_or xss p [] ++ a ∷ []))) b here
  | inr later ↦ Contains-append_right xs (items (set xss p (get_or xss p [] ++ a ∷ []))) b (in_one xss p a b later)
]

one_there : (xss : List (List ℕ)) (p a : ℕ) → p < length xss → Contains (items (set xss p (get_or xss p [] ++ a ∷ []))) a
one_there [] p a low = absurd (omega (arith, low))
one_there (xs ∷ xss) zero a low = Contains-append_left (xs ++ a ∷ []) (items xss) a (Contains-push xs a)
one_there (xs ∷ xss) (suc p) a low =
    Contains-append_right xs (items (set xss p (get_or xss p [] ++ a ∷ []))) a (one_there xss p a (omega (arith, low)))

one_longer : (xss : List (List ℕ)) (p a : ℕ) → p < length xss → length (items (set xss p (get_or xss p [] ++ a ∷ []))) ≡ length (items xss) + 1
one_longer [] p a low = absurd (omega (arith, low))
one_longer (xs ∷ xss) zero a low =
    omega (arith, length-append (xs ++ a ∷ []) (items xss), length-append xs (a ∷ []), length-append xs (items xss))
one_longer (xs ∷ xss) (suc p) a low =
    omega (
      arith,
      length-append xs (items (set xss p (get_or xss p [] ++ a ∷ []))),
      length-append xs (items xss),
      one_longer xss p a (omega (arith, low)),
    )

taken_from : (h : ShareState) → taken_by_share h ≡ h.own.hand.taken ++ items (map (λ (e : OtherState). e.taken) h.others)
taken_from h = ap (λ xs. h.own.hand.taken ++ xs) (sym (flat_map-map (λ (xs : List ℕ). xs) (λ (e : OtherState). e.taken) h.others))

-- ---- an item is popped, or stolen

pub popped_is : (h k : ShareState) (a : ℕ) → k ≡ popped h a → IsOneTaken h a k
popped_is h k a is =
    let others : List ℕ = flat_map (λ (e : OtherState). e.taken) h.others in
    let now : taken_by_share k ≡ (h.own.hand.taken ++ a ∷ []) ++ others = ap taken_by_share is in
    record {
      count = omega (
        arith,
        ap length now,
        length-append (h.own.hand.taken ++ a ∷ []) others,
        length-append h.own.hand.taken (a ∷ []),
        length-append h.own.hand.taken others,
      );
      kept = λ b there. subst (λ l. Contains l b) (sym now) (elim (Contains-append_cases h.own.hand.taken others b there) [
        | inl own ↦ Contains-append_left (h.own.hand.taken ++ a ∷ []) others b (Contains-append_left h.own.hand.taken (a ∷ []) b own)
        | inr other ↦ Contains-append_right (h.own.hand.taken ++ a ∷ []) others b other
      ]);
      there = subst (λ l. Contains l a) (sym now) (Contains-append_left (h.own.hand.taken ++ a ∷ []) others a (Contains-push h.own.hand.taken a));
      only = λ b there. elim (Contains-append_cases (h.own.hand.taken ++ a ∷ []) others b (subst (λ l. Contains l b) now there)) [
        | inl own ↦ elim (Contains-push_cases h.own.hand.taken a b own) [
          | inl old ↦ inl (Contains-append_left h.own.hand.taken others b old)
          | inr same ↦ inr (sym same)
        ]
        | inr other ↦ inl (Contains-append_right h.own.hand.taken others b other)
      ];
    }

stolen_is : (h k : ShareState) (a : ℕ) → Stole h a k → IsOneTaken h a k
stolen_is h k a stole =
    let before : List (List ℕ) = map (λ (e : OtherState). e.taken) h.others in
    let own : k.own.hand.taken ≡ h.own.hand.taken = ap (λ (s : ShareState). s.own.hand.taken) stole.rest in
    let now : taken_by_share k ≡ h.own.hand.taken ++ items (set before stole.place (get_or before stole.place [] ++ a ∷ [])) =
    taken_from k ∙ ap (λ xs. xs ++ items (map (λ (e : OtherState). e.taken) k.others)) own ∙ ap (λ xss. h.own.hand.taken ++ items xss) stole.taken in
    let low : stole.place < length before = omega (arith, stole.within, length-map h.others (λ (e : OtherState). e.taken)) in
    record {
      count = omega (
        arith,
        ap length now,
        ap length (taken_from h),
        length-append h.own.hand.taken (items (set before stole.place (get_or before stole.place [] ++ a ∷ []))),
        length-append h.own.hand.taken (items before),
        one_longer before stole.place a low,
      );
      kept = λ b there. subst (λ l. Contains l b) (sym now) (elim (Contains-append_cases h.own.hand.taken (items before) b
          (subst (λ l. Contains l b) (taken_from h) there)) [
            | inl old ↦ Contains-append_left h.own.hand.taken (items (set before stole.place (get_or before stole.place [] ++ a ∷ []))) b old
            | inr other ↦ Contains-append_right h.own.hand.taken (items (set before stole.place (get_or before stole.place [] ++ a ∷ []))) b
                (in_one before stole.place a b other)
          ]);
      there = subst (λ l. Contains l a) (sym now)
          (Contains-append_right h.own.hand.taken (items (set before stole.place (get_or before stole.place [] ++ a ∷ []))) a
          (one_there before stole.place a low));
      only = λ b there. elim (Contains-append_cases h.own.hand.taken (items (set before stole.place (get_or before stole.place [] ++ a ∷ []))) b
          (subst (λ l. Contains l b) now there)) [
            | inl old ↦ inl (subst (λ l. Contains l b) (sym (taken_from h)) (Contains-append_left h.own.hand.taken (items before) b old))
            | inr other ↦ elim (one_in before stole.place a b low other) [
              | inl old ↦ inl (subst (λ l. Contains l b) (sym (taken_from h)) (Contains-append_right h.own.hand.taken (items before) b old))
              | inr same ↦ inr same
            ]
          ];
    }

-- ---- nothing is found

same_taken : (old new : List OtherState) → length new ≡ length old → ((k : ℕ) (d : OtherState) → k < length old → (get_or new k d).taken ≡ (get_or old k d).taken)
    → flat_map (λ (e : OtherState). e.taken) new ≡ flat_map (λ (e : OtherState). e.taken) old
same_taken [] [] as_many each = refl
same_taken [] (f ∷ new) as_many each = absurd (omega (arith, as_many))
same_taken (e ∷ old) [] as_many each = absurd (omega (arith, as_many))
same_taken (e ∷ old) (f ∷ new) as_many each =
    ap (λ xs. xs ++ flat_map (λ (x : OtherState). x.taken) new) (each 0 e (omega arith))
    ∙ ap (λ xs. e.taken ++ xs) (same_taken old new (omega (arith, as_many)) (λ k d low. each (suc k) d (omega (arith, low))))

none_stolen : (h k : ShareState) → StoleNone h k → taken_by_share k ≡ taken_by_share h
none_stolen h k none =
    ap (λ xs. xs ++ flat_map (λ (e : OtherState). e.taken) k.others) (ap (λ (s : ShareState). s.own.hand.taken) none.rest)
    ∙ ap (λ xs. h.own.hand.taken ++ xs) (same_taken h.others k.others none.as_many (λ i d low. (none.each i d low).taken))

-- ---- a pop that found nothing, and then a steal

taken_after : (h k l : ShareState) (a : ℕ) → taken_by_share k ≡ taken_by_share h → IsOneTaken k a l → IsOneTaken h a l
taken_after h k l a same is = record {
  count = omega (arith, is.count, ap length same);
  kept = λ b there. is.kept b (subst (λ xs. Contains xs b) (sym same) there);
  there = is.there;
  only = λ b there. elim (is.only b there) [ inl old ↦ inl (subst (λ xs. Contains xs b) same old) | inr one ↦ inr one ];
}

pub then_stolen : (h k l : ShareState) (found : Option ℕ) → k ≡ record h { pop_found_none = true } → MatchOption found (StoleNone k l) (λ a. Stole k a l)
    → MatchOption found ((taken_by_share l ≡ taken_by_share h) × IsIdle l) (λ a. IsOneTaken h a l)
then_stolen h k l None pop none = (
  none_stolen k l none ∙ ap taken_by_share pop,
  (ap (λ (s : ShareState). s.pop_found_none) none.rest ∙ ap (λ (s : ShareState). s.pop_found_none) pop, ap (λ (s : ShareState). s.steal_found_none) none.rest),
)
then_stolen h k l (Some a) pop stole = taken_after h k l a (ap taken_by_share pop) (stolen_is k l a stole)

-- ---- one look after another

pub then_found : (h k l : ShareState) (found : Option ℕ) → taken_by_share k ≡ taken_by_share h → MatchOption found ((taken_by_share l ≡ taken_by_share k) × IsIdle l) (λ a. IsOneTaken k a l)
    → MatchOption found ((taken_by_share l ≡ taken_by_share h) × IsIdle l) (λ a. IsOneTaken h a l)
then_found h k l None same none = (none.0 ∙ same, none.1)
then_found h k l (Some a) same taken = taken_after h k l a same taken

pub found_none : (h l : ShareState) (found : Option ℕ) → is_some found ≡ false → MatchOption found ((taken_by_share l ≡ taken_by_share h) × IsIdle l) (λ a. IsOneTaken h a l)
    → (taken_by_share l ≡ taken_by_share h) × IsIdle l
found_none h l None none told = told
found_none h l (Some a) none told = absurd (true≢false none)
