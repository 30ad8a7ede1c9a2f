-- What is said of the words of an object, kind by kind, and what a write keeps of it.
use Rattle.std.proofs.Common.{◌≡◌, ℕ, zero, suc, ◌+◌, ◌-◌, ◌<◌, true, false, true≢false, List, [], ◌∷◌, length, get_or, set, take, All, sym, arith}
use Rattle.std.proofs.lemmas.List.Elements.{All-set}
use Rattle.std.proofs.lemmas.List.Sums.{sum_by-cons}
use Rattle.gc_graph.specs.declared.kind.Kind.{Kind}
use Rattle.gc_graph.specs.declared.kind.Kind.TheVariants.{Strong, Weak, Pair, Plain}
use Rattle.gc_graph.specs.declared.kind.Value.{Value}
use Rattle.gc_graph.specs.declared.kind.Value.TheVariants.{Null}
use Rattle.gc_graph.specs.Fields.{words_of_kind, field_words, is_pair}
use Rattle.gc_graph.specs.Valid.{IsReferenceBelow, IsPlainWord, ArePaired, HaveKinds}

-- the first word of a field
abbrev pub word_at : List Kind → ℕ → ℕ
word_at [] f = f
word_at (kind ∷ kinds) zero = zero
word_at (Strong ∷ kinds) (suc f) = suc (word_at kinds f)
word_at (Weak ∷ kinds) (suc f) = suc (word_at kinds f)
word_at (Pair ∷ kinds) (suc f) = suc (suc (word_at kinds f))
word_at (Plain ∷ kinds) (suc f) = suc (word_at kinds f)

pub word_at_is : (kinds : List Kind) (f : ℕ) → field_words (take f kinds) + (f - length kinds) ≡ word_at kinds f
word_at_is [] zero = omega arith
word_at_is [] (suc f) = omega arith
word_at_is (kind ∷ kinds) zero = omega arith
word_at_is (Strong ∷ kinds) (suc f) = omega (arith, sum_by-cons words_of_kind Strong (take f kinds), word_at_is kinds f)
word_at_is (Weak ∷ kinds) (suc f) = omega (arith, sum_by-cons words_of_kind Weak (take f kinds), word_at_is kinds f)
word_at_is (Pair ∷ kinds) (suc f) = omega (arith, sum_by-cons words_of_kind Pair (take f kinds), word_at_is kinds f)
word_at_is (Plain ∷ kinds) (suc f) = omega (arith, sum_by-cons words_of_kind Plain (take f kinds), word_at_is kinds f)

-- the strong, weak and plain words and the pairs are as is said of each
abbrev pub Each : (Value → Type 0) → (Value → Type 0) → (Value → Type 0) → (Value → Value → Type 0) → List Kind → List Value → Type 0
Each S W N P (Strong ∷ kinds) (value ∷ values) = S value × Each S W N P kinds values
Each S W N P (Weak ∷ kinds) (value ∷ values) = W value × Each S W N P kinds values
Each S W N P (Pair ∷ kinds) (key ∷ value ∷ values) = P key value × Each S W N P kinds values
Each S W N P (Pair ∷ kinds) (key ∷ []) = ⊥
Each S W N P (Plain ∷ kinds) (value ∷ values) = N value × Each S W N P kinds values
Each S W N P (kind ∷ kinds) [] = ⊥
Each S W N P [] values = All N values

-- a value may stand in a field of the kind
abbrev pub Suits : (Value → Type 0) → (Value → Type 0) → (Value → Type 0) → Kind → Value → Type 0
Suits S W N Strong value = S value
Suits S W N Weak value = W value
Suits S W N Pair value = ⊥
Suits S W N Plain value = N value

module _ (S W N : Value → Type 0) (P : Value → Value → Type 0) where
  pub write_one : (kinds : List Kind) (values : List Value) (f : ℕ) (value : Value)
      → Suits S W N (get_or kinds f Plain) value → Each S W N P kinds values → Each S W N P kinds (set values (word_at kinds f) value)
  write_one [] values f value a h = All-set N values f value a h
  write_one (Strong ∷ kinds) [] f value a h = absurd h
  write_one (Weak ∷ kinds) [] f value a h = absurd h
  write_one (Pair ∷ kinds) [] f value a h = absurd h
  write_one (Plain ∷ kinds) [] f value a h = absurd h
  write_one (Strong ∷ kinds) (x ∷ xs) zero value a h = (a, h.1)
  write_one (Weak ∷ kinds) (x ∷ xs) zero value a h = (a, h.1)
  write_one (Pair ∷ kinds) (x ∷ xs) zero value a h = absurd a
  write_one (Plain ∷ kinds) (x ∷ xs) zero value a h = (a, h.1)
  write_one (Strong ∷ kinds) (x ∷ xs) (suc f) value a h = (h.0, write_one kinds xs f value a h.1)
  write_one (Weak ∷ kinds) (x ∷ xs) (suc f) value a h = (h.0, write_one kinds xs f value a h.1)
  write_one (Pair ∷ kinds) (x ∷ []) (suc f) value a h = absurd h
  write_one (Pair ∷ kinds) (x ∷ y ∷ xs) (suc f) value a h = (h.0, write_one kinds xs f value a h.1)
  write_one (Plain ∷ kinds) (x ∷ xs) (suc f) value a h = (h.0, write_one kinds xs f value a h.1)

  pub write_pair : (kinds : List Kind) (values : List Value) (f : ℕ) (key value : Value)
      → is_pair (get_or kinds f Plain) ≡ true → P key value → Each S W N P kinds values
      → Each S W N P kinds (set (set values (word_at kinds f) key) (suc (word_at kinds f)) value)
  write_pair [] values f key value a p h = absurd (true≢false (sym a))
  write_pair (Strong ∷ kinds) [] f key value a p h = absurd h
  write_pair (Weak ∷ kinds) [] f key value a p h = absurd h
  write_pair (Pair ∷ kinds) [] f key value a p h = absurd h
  write_pair (Plain ∷ kinds) [] f key value a p h = absurd h
  write_pair (Strong ∷ kinds) (x ∷ xs) zero key value a p h = absurd (true≢false (sym a))
  write_pair (Weak ∷ kinds) (x ∷ xs) zero key value a p h = absurd (true≢false (sym a))
  write_pair (Plain ∷ kinds) (x ∷ xs) zero key value a p h = absurd (true≢false (sym a))
  write_pair (Pair ∷ kinds) (x ∷ []) f key value a p h = absurd h
  write_pair (Pair ∷ kinds) (x ∷ y ∷ xs) zero key value a p h = (p, h.1)
  write_pair (Strong ∷ kinds) (x ∷ xs) (suc f) key value a p h = (h.0, write_pair kinds xs f key value a p h.1)
  write_pair (Weak ∷ kinds) (x ∷ xs) (suc f) key value a p h = (h.0, write_pair kinds xs f key value a p h.1)
  write_pair (Pair ∷ kinds) (x ∷ y ∷ xs) (suc f) key value a p h = (h.0, write_pair kinds xs f key value a p h.1)
  write_pair (Plain ∷ kinds) (x ∷ xs) (suc f) key value a p h = (h.0, write_pair kinds xs f key value a p h.1)

  pub read_one : (kinds : List Kind) (values : List Value) (f : ℕ) → is_pair (get_or kinds f Plain) ≡ false
      → word_at kinds f < length values → Each S W N P kinds values → Suits S W N (get_or kinds f Plain) (get_or values (word_at kinds f) Null)
  read_one [] values f a l h = h f Null l
  read_one (Strong ∷ kinds) [] f a l h = absurd h
  read_one (Weak ∷ kinds) [] f a l h = absurd h
  read_one (Pair ∷ kinds) [] f a l h = absurd h
  read_one (Plain ∷ kinds) [] f a l h = absurd h
  read_one (Strong ∷ kinds) (x ∷ xs) zero a l h = h.0
  read_one (Weak ∷ kinds) (x ∷ xs) zero a l h = h.0
  read_one (Pair ∷ kinds) (x ∷ xs) zero a l h = absurd (true≢false a)
  read_one (Plain ∷ kinds) (x ∷ xs) zero a l h = h.0
  read_one (Strong ∷ kinds) (x ∷ xs) (suc f) a l h = read_one kinds xs f a (omega arith) h.1
  read_one (Weak ∷ kinds) (x ∷ xs) (suc f) a l h = read_one kinds xs f a (omega arith) h.1
  read_one (Pair ∷ kinds) (x ∷ []) (suc f) a l h = absurd h
  read_one (Pair ∷ kinds) (x ∷ y ∷ xs) (suc f) a l h = read_one kinds xs f a (omega arith) h.1
  read_one (Plain ∷ kinds) (x ∷ xs) (suc f) a l h = read_one kinds xs f a (omega arith) h.1

-- ---- what a typed object's words are

pub record IsPairBelow (bound : ℕ) (key value : Value) : Type 0 where
  pub key_is : IsReferenceBelow bound key
  pub value_is : IsReferenceBelow bound value
  pub paired : ArePaired key value

abbrev pub Typed : ℕ → List Kind → List Value → Type 0
Typed bound kinds values = Each (IsReferenceBelow bound) (IsReferenceBelow bound) IsPlainWord (IsPairBelow bound) kinds values

pub typed_from : (bound : ℕ) (kinds : List Kind) (values : List Value) → HaveKinds bound kinds values → Typed bound kinds values
typed_from bound [] values h = h
typed_from bound (Strong ∷ kinds) [] h = absurd h
typed_from bound (Weak ∷ kinds) [] h = absurd h
typed_from bound (Pair ∷ kinds) [] h = absurd h
typed_from bound (Plain ∷ kinds) [] h = absurd h
typed_from bound (Strong ∷ kinds) (x ∷ xs) h = (h.0, typed_from bound kinds xs h.1)
typed_from bound (Weak ∷ kinds) (x ∷ xs) h = (h.0, typed_from bound kinds xs h.1)
typed_from bound (Pair ∷ kinds) (x ∷ []) h = absurd h
typed_from bound (Pair ∷ kinds) (x ∷ y ∷ xs) h = (record { key_is = h.0; value_is = h.1; paired = h.2 }, typed_from bound kinds xs h.3)
typed_from bound (Plain ∷ kinds) (x ∷ xs) h = (h.0, typed_from bound kinds xs h.1)

pub kinds_from : (bound : ℕ) (kinds : List Kind) (values : List Value) → Typed bound kinds values → HaveKinds bound kinds values
kinds_from bound [] values h = h
kinds_from bound (Strong ∷ kinds) [] h = absurd h
kinds_from bound (Weak ∷ kinds) [] h = absurd h
kinds_from bound (Pair ∷ kinds) [] h = absurd h
kinds_from bound (Plain ∷ kinds) [] h = absurd h
kinds_from bound (Strong ∷ kinds) (x ∷ xs) h = (h.0, kinds_from bound kinds xs h.1)
kinds_from bound (Weak ∷ kinds) (x ∷ xs) h = (h.0, kinds_from bound kinds xs h.1)
kinds_from bound (Pair ∷ kinds) (x ∷ []) h = absurd h
kinds_from bound (Pair ∷ kinds) (x ∷ y ∷ xs) h = (h.0.key_is, h.0.value_is, h.0.paired, kinds_from bound kinds xs h.1)
kinds_from bound (Plain ∷ kinds) (x ∷ xs) h = (h.0, kinds_from bound kinds xs h.1)
