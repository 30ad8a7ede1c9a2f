-- The first number that is no callback.
use Rattle.std.proofs.Common.{◌≡◌, ℕ, zero, suc, ◌<◌, ◌≤◌, Bool, true, false, cond, not, ◌&&◌, eqb, ltb, List, [], ◌∷◌, ◌++◌, length, get_or, Option, Some, None, refl, sym, ap, ◌∙◌, inl, inr, arith, All, MatchOption}
use Rattle.std.specs.List.{list_all, position, position_or_len, find}
use Rattle.std.specs.Option.{option_or}
use Rattle.std.proofs.lemmas.Bool.{cases_lt, cond-true, cond-false, lt-ltb, le-ltb, ltb-false, ltb-true, true≢false}
use Rattle.std.proofs.Math.Dec.{eqb-suc-zero}
use Rattle.std.proofs.lemmas.Option.{none-some}
use Rattle.std.proofs.lemmas.List.Folds.{find-append}
use Rattle.std.proofs.lemmas.List.Sums.{position_or_len_is, fails_before_first, AllPass-from_list_all}
use Rattle.gc_graph.specs.Fields.{field_words}
use Rattle.gc_graph.specs.State.{ObjectType}
use Rattle.type_table.specs.declared.faults.TypeFault.{TypeFault}
use Rattle.type_table.specs.declared.faults.TypeFault.TheVariants.{TooManyTypes, TooManyFields, NoCallback, TooManyWords, NoMemory}
use Rattle.type_table.specs.Faults.{is_too_wide, called_of, is_no_callback, names_none, is_over_words, HasMaskedWords, AreGoodTypes, IsFaultOfTypes, IsUnknownOf, IsOverWordsOf}

-- ---- the first place

pub first_at : {X : Type 0} (p : X → Bool) (xs : List X) (i : ℕ) (d : X) → i < length xs → ((k : ℕ) → k < i → p (get_or xs k d) ≡ false)
    → p (get_or xs i d) ≡ true → position p xs ≡ Some i
first_at p xs i d low before here =
    let at : position_or_len p xs ≡ i = position_or_len_is p xs i d (omega arith) before (λ l. here) in
    ap (λ n. cond (ltb n (length xs)) (Some n) None) at ∙ cond-true (ltb i (length xs)) (Some i) None (lt-ltb i (length xs) low)

pub first_nowhere : {X : Type 0} (p : X → Bool) (xs : List X) (n : ℕ) (d : X) → length xs ≤ n → ((k : ℕ) → k < n → p (get_or xs k d) ≡ false) → position p xs ≡ None
first_nowhere p xs n d past before =
    let at : position_or_len p xs ≡ length xs = position_or_len_is p xs (length xs) d (omega arith) (λ k l. before k (omega arith)) (λ l. absurd (omega arith)) in
    ap (λ n. cond (ltb n (length xs)) (Some n) None) at
    ∙ cond-false (ltb (length xs) (length xs)) (Some (length xs)) None (le-ltb (length xs) (length xs) (omega arith))

pub nowhere : {X : Type 0} (p : X → Bool) (xs : List X) (k : ℕ) (d : X) → position p xs ≡ None → k < length xs → p (get_or xs k d) ≡ false
nowhere p xs k d none low =
    elim (cases_lt (position_or_len p xs) (length xs)) [
      | inl l ↦ absurd (none-some (position_or_len p xs) (sym none ∙ cond-true (ltb (position_or_len p xs) (length xs)) (Some (position_or_len p xs)) None (lt-ltb _ _ l)))
      | inr h ↦ fails_before_first p xs k d (omega arith)
    ]

-- ---- the numbers of one type

abbrev is_known : ℕ → ℕ → Bool
is_known callbacks number = ltb number callbacks

one_more : (b rest : Bool) (callback : ℕ) (o : Option ℕ) (number : ℕ) → cond (not b) (Some number) o ≡ Some callback → (o ≡ Some callback → not rest ≡ true)
    → not (b && rest) ≡ true
one_more true rest callback o number e later = later e
one_more false rest callback o number e later = refl

pub found_in : (callbacks : ℕ) (numbers : List ℕ) (callback : ℕ) → find (is_no_callback callbacks) numbers ≡ Some callback
    → not (list_all (is_known callbacks) numbers) ≡ true
found_in callbacks [] callback e = absurd (none-some callback e)
found_in callbacks (number ∷ numbers) callback e =
    one_more (is_known callbacks number) (list_all (is_known callbacks) numbers) callback (find (is_no_callback callbacks) numbers) number e
    (found_in callbacks numbers callback)

one_less : (b rest : Bool) (o : Option ℕ) (number : ℕ) → cond (not b) (Some number) o ≡ None → (o ≡ None → not rest ≡ false) → not (b && rest) ≡ false
one_less true rest o number e later = later e
one_less false rest o number e later = absurd (none-some number (sym e))

pub none_in : (callbacks : ℕ) (numbers : List ℕ) → find (is_no_callback callbacks) numbers ≡ None → not (list_all (is_known callbacks) numbers) ≡ false
none_in callbacks [] e = refl
none_in callbacks (number ∷ numbers) e =
    one_less (is_known callbacks number) (list_all (is_known callbacks) numbers) (find (is_no_callback callbacks) numbers) number e (none_in callbacks numbers)

-- the numbers of two lists
pub found_in_both : (callbacks : ℕ) (numbers more others others_more : List ℕ) (r : Option ℕ) → r ≡ find (is_no_callback callbacks) numbers
    → numbers ≡ others → more ≡ others_more
    → option_or r (find (is_no_callback callbacks) more) ≡ find (is_no_callback callbacks) (others ++ others_more)
found_in_both callbacks numbers more others others_more r e same also =
    ap (λ o. option_or o (find (is_no_callback callbacks) more)) (e ∙ ap (find (is_no_callback callbacks)) same)
    ∙ ap (λ xs. option_or (find (is_no_callback callbacks) others) (find (is_no_callback callbacks) xs)) also
    ∙ sym (find-append (is_no_callback callbacks) others others_more)

-- ---- all types

not_not : (b : Bool) → not b ≡ false → b ≡ true
not_not true e = refl
not_not false e = absurd (true≢false e)

pub narrow_of : (types : List ObjectType) → position is_too_wide types ≡ None → All (λ type. length type.kinds ≤ 64) types
narrow_of types wide k d low = ltb-false 64 _ (nowhere is_too_wide types k d wide low)

known_of : (callbacks : ℕ) (types : List ObjectType) → position (names_none callbacks) types ≡ None
    → All (λ type. All (λ number. number < callbacks) (called_of type)) types
known_of callbacks types unknown k d low i e in' =
    let all = not_not (list_all (is_known callbacks) (called_of (get_or types k d))) (nowhere (names_none callbacks) types k d unknown low) in
    ltb-true _ callbacks (AllPass-from_list_all (is_known callbacks) (called_of (get_or types k d)) all i e in')

few_words : (count words : ℕ) → (not (eqb count 0) && ltb 64 words) ≡ false → 0 < count → words ≤ 64
few_words zero words e some = absurd (omega (arith, some))
few_words (suc count) words e some = ltb-false 64 words (ap (λ b. not b && ltb 64 words) (sym (eqb-suc-zero count)) ∙ e)

masked_of : (types : List ObjectType) → position is_over_words types ≡ None → All HasMaskedWords types
masked_of types over k d low =
    few_words (length (get_or types k d).weak_callbacks) (field_words (get_or types k d).kinds) (nowhere is_over_words types k d over low)

pub judged : (callbacks : ℕ) (types : List ObjectType) (r : Option TypeFault) → length types ≤ 16383 → position is_too_wide types ≡ None
    → position (names_none callbacks) types ≡ None → MatchOption r (position is_over_words types ≡ None) (IsOverWordsOf types)
    → MatchOption r (AreGoodTypes callbacks types) (IsFaultOfTypes callbacks types)
judged callbacks types None few wide unknown over =
    record { few = few; narrow = narrow_of types wide; known = known_of callbacks types unknown; masked = masked_of types over }
judged callbacks types (Some (TooManyTypes n)) few wide unknown over = absurd over
judged callbacks types (Some (TooManyFields n)) few wide unknown over = absurd over
judged callbacks types (Some (NoCallback ty c)) few wide unknown over = absurd over
judged callbacks types (Some (TooManyWords ty)) few wide unknown over =
    (record { few = few; narrow = narrow_of types wide; known = known_of callbacks types unknown; first = over }, λ e. cc)
judged callbacks types (Some NoMemory) few wide unknown over = absurd over

pub unknown_told : (callbacks : ℕ) (types : List ObjectType) (fault : TypeFault) → length types ≤ 16383 → position is_too_wide types ≡ None
    → IsUnknownOf callbacks types fault → IsFaultOfTypes callbacks types fault
unknown_told callbacks types (TooManyTypes n) few wide unknown = absurd unknown
unknown_told callbacks types (TooManyFields n) few wide unknown = absurd unknown
unknown_told callbacks types (NoCallback ty c) few wide unknown =
    (record { few = few; narrow = narrow_of types wide; first = unknown.0; number = unknown.1 }, λ e. cc)
unknown_told callbacks types (TooManyWords ty) few wide unknown = absurd unknown
unknown_told callbacks types NoMemory few wide unknown = absurd unknown

pub same_found : (callbacks : ℕ) (type other : ObjectType) (r : Option ℕ) → type ≡ other → r ≡ find (is_no_callback callbacks) (called_of type)
    → find (is_no_callback callbacks) (called_of other) ≡ r
same_found callbacks type other r same e = ap (λ t. find (is_no_callback callbacks) (called_of t)) (sym same) ∙ sym e
