-- The types of objects and the lists of kinds of the step machine fit: what the kinds of a type's fields tell of an object's
-- words is what their roles tell.
use Rattle.std.proofs.Common.{◌≡◌, ℕ, zero, suc, ◌+◌, ◌<◌, false, not, List, [], ◌∷◌, length, map, take, get_or, refl, sym, ap, ◌∙◌, inl, inr, arith}
use Rattle.std.proofs.lemmas.Bool.{cases_lt, true≢false}
use Rattle.std.proofs.lemmas.List.{get_or-map, get_or_past, length-map}
use Rattle.std.proofs.lemmas.List.Sums.{sum_by-cons}
use Rattle.gc_graph.specs.declared.kind.Kind.{Kind}
use Rattle.gc_graph.specs.declared.kind.Kind.TheVariants.{Strong, Weak, Pair, Plain}
use Rattle.gc_graph.specs.State.{ObjectType, no_type}
use Rattle.gc_graph.specs.Fields.{is_plain, words_of_kind, field_words}
use Rattle.type_table.specs.Types.{declared_kinds, kind_of}
use Rattle.type_table.specs.Layouts.{kinds_of_words}
use Rattle.type_table.specs.TracedWords.{traced_from, offset_in}
use Rattle.marker_core.specs.declared.states.Role.{Role}
use Rattle.marker_core.specs.declared.states.Role.TheVariants.{StrongWord, WeakWord, KeyWord, ValueWord, PlainWord}
use Rattle.marker_core.specs.Bodies.{refers, role_at, kinds_of_type, field_word_count}
use Rattle.marker_core.specs.Hands.{traced_offsets}

-- the kinds of the fields of each type
abbrev pub kind_lists : List ObjectType → List (List Kind)
kind_lists types = map (λ type. type.kinds) types

-- the kinds of a type's fields are the same in the step machine's lists and in the table of types
pub kinds_fit : (types : List ObjectType) (ty : ℕ) → kinds_of_type (kind_lists types) ty ≡ declared_kinds types ty
kinds_fit types ty = elim (cases_lt ty (length types)) [
  | inl low ↦ get_or-map (λ (type : ObjectType). type.kinds) types ty no_type [] low
  | inr past ↦
      get_or_past (kind_lists types) ty [] (omega (arith, past, length-map types (λ (type : ObjectType). type.kinds)))
      ∙ sym (ap (λ (type : ObjectType). type.kinds) (get_or_past types ty no_type past))
]

-- the kind of the field whose word has the role
abbrev pub kind_of_role : Role → Kind
kind_of_role StrongWord = Strong
kind_of_role WeakWord = Weak
kind_of_role KeyWord = Pair
kind_of_role ValueWord = Pair
kind_of_role PlainWord = Plain

-- the kind of the field to which a word belongs is that of the word's role, and past the fields both are plain
pub kind_is_role : (kinds : List Kind) (i : ℕ) → get_or (kinds_of_words kinds) i Plain ≡ kind_of_role (role_at kinds i)
kind_is_role [] i = refl
kind_is_role (Strong ∷ kinds) zero = refl
kind_is_role (Strong ∷ kinds) (suc i) = kind_is_role kinds i
kind_is_role (Weak ∷ kinds) zero = refl
kind_is_role (Weak ∷ kinds) (suc i) = kind_is_role kinds i
kind_is_role (Pair ∷ kinds) zero = refl
kind_is_role (Pair ∷ kinds) (suc zero) = refl
kind_is_role (Pair ∷ kinds) (suc (suc i)) = kind_is_role kinds i
kind_is_role (Plain ∷ kinds) zero = refl
kind_is_role (Plain ∷ kinds) (suc i) = kind_is_role kinds i

role_refers : (role : Role) → refers role ≡ not (is_plain (kind_of_role role))
role_refers StrongWord = refl
role_refers WeakWord = refl
role_refers KeyWord = refl
role_refers ValueWord = refl
role_refers PlainWord = refl

-- a word refers exactly where the kind of its field is not plain
pub refers_by_kind : (kinds : List Kind) (i : ℕ) → refers (role_at kinds i) ≡ not (is_plain (get_or (kinds_of_words kinds) i Plain))
refers_by_kind kinds i = role_refers (role_at kinds i) ∙ ap (λ kind. not (is_plain kind)) (sym (kind_is_role kinds i))

-- ---- the first words of fields

-- the role of a field's first word
abbrev pub first_role : Kind → Role
first_role Strong = StrongWord
first_role Weak = WeakWord
first_role Pair = KeyWord
first_role Plain = PlainWord

-- how many words come before a declared field's
abbrev pub words_before : List Kind → ℕ → ℕ
words_before kinds field = field_words (take field kinds)

words_more : (kind : Kind) (kinds : List Kind) (field : ℕ) → words_before (kind ∷ kinds) (suc field) ≡ words_of_kind kind + words_before kinds field
words_more kind kinds field = sum_by-cons words_of_kind kind (take field kinds)

-- the first word of a declared field has the role with which a field of its kind begins
pub role_of_field : (kinds : List Kind) (field : ℕ) → field < length kinds → role_at kinds (words_before kinds field) ≡ first_role (kind_of kinds field)
role_of_field [] field declared = absurd (omega arith)
role_of_field (Strong ∷ kinds) zero declared = refl
role_of_field (Weak ∷ kinds) zero declared = refl
role_of_field (Pair ∷ kinds) zero declared = refl
role_of_field (Plain ∷ kinds) zero declared = refl
role_of_field (Strong ∷ kinds) (suc field) declared =
    let more : words_before (Strong ∷ kinds) (suc field) ≡ suc (words_before kinds field) = omega (arith, words_more Strong kinds field) in
    ap (role_at (Strong ∷ kinds)) more ∙ role_of_field kinds field (omega arith)
role_of_field (Weak ∷ kinds) (suc field) declared =
    let more : words_before (Weak ∷ kinds) (suc field) ≡ suc (words_before kinds field) = omega (arith, words_more Weak kinds field) in
    ap (role_at (Weak ∷ kinds)) more ∙ role_of_field kinds field (omega arith)
role_of_field (Pair ∷ kinds) (suc field) declared =
    let more : words_before (Pair ∷ kinds) (suc field) ≡ suc (suc (words_before kinds field)) = omega (arith, words_more Pair kinds field) in
    ap (role_at (Pair ∷ kinds)) more ∙ role_of_field kinds field (omega arith)
role_of_field (Plain ∷ kinds) (suc field) declared =
    let more : words_before (Plain ∷ kinds) (suc field) ≡ suc (words_before kinds field) = omega (arith, words_more Plain kinds field) in
    ap (role_at (Plain ∷ kinds)) more ∙ role_of_field kinds field (omega arith)

-- a role that begins a field tells the field's kind
kind_itself_again : (kind : Kind) → kind_of_role (first_role kind) ≡ kind
kind_itself_again Strong = refl
kind_itself_again Weak = refl
kind_itself_again Pair = refl
kind_itself_again Plain = refl

one_kind : (x y : Kind) → first_role x ≡ first_role y → x ≡ y
one_kind x y e = sym (kind_itself_again x) ∙ ap kind_of_role e ∙ kind_itself_again y

begins_none : (kind : Kind) → is_plain kind ≡ false → PlainWord ≡ first_role kind → ⊥
begins_none Strong is e = cc
begins_none Weak is e = cc
begins_none Pair is e = cc
begins_none Plain is e = true≢false is

never_a_value : (kind : Kind) → ValueWord ≡ first_role kind → ⊥
never_a_value Strong e = cc
never_a_value Weak e = cc
never_a_value Pair e = cc
never_a_value Plain e = cc

-- the field is a declared one of the kind, and its first word has the number i
pub record IsFirstOf (kinds : List Kind) (kind : Kind) (i field : ℕ) : Type 0 where
  pub declared : field < length kinds
  pub kind_is : kind_of kinds field ≡ kind
  pub number : i ≡ words_before kinds field

-- so it is where a field of another kind comes before the others
one_later : (before : Kind) (kinds : List Kind) (kind : Kind) (i j : ℕ) → j ≡ words_of_kind before + i → (field : ℕ) × IsFirstOf kinds kind i field
    → (field : ℕ) × IsFirstOf (before ∷ kinds) kind j field
one_later before kinds kind i j at found = (
  suc found.0,
  record {
    declared = omega (arith, found.1.declared);
    kind_is = found.1.kind_is;
    number = omega (arith, at, found.1.number, words_more before kinds found.0);
  },
)

first_there : (first : Kind) (kinds : List Kind) (kind : Kind) → first_role first ≡ first_role kind → (field : ℕ) × IsFirstOf (first ∷ kinds) kind 0 field
first_there first kinds kind e = (0, record { declared = omega arith; kind_is = one_kind first kind e; number = refl })

-- a word with a role that begins fields of a kind that isn't plain is the first of a declared field of that kind
pub field_of_role : (kinds : List Kind) (i : ℕ) (kind : Kind) → is_plain kind ≡ false → role_at kinds i ≡ first_role kind
    → (field : ℕ) × IsFirstOf kinds kind i field
field_of_role [] i kind is e = absurd (begins_none kind is e)
field_of_role (Strong ∷ kinds) zero kind is e = first_there Strong kinds kind e
field_of_role (Weak ∷ kinds) zero kind is e = first_there Weak kinds kind e
field_of_role (Pair ∷ kinds) zero kind is e = first_there Pair kinds kind e
field_of_role (Plain ∷ kinds) zero kind is e = first_there Plain kinds kind e
field_of_role (Pair ∷ kinds) (suc zero) kind is e = absurd (never_a_value kind e)
field_of_role (Strong ∷ kinds) (suc i) kind is e = one_later Strong kinds kind i (suc i) (omega arith) (field_of_role kinds i kind is e)
field_of_role (Weak ∷ kinds) (suc i) kind is e = one_later Weak kinds kind i (suc i) (omega arith) (field_of_role kinds i kind is e)
field_of_role (Plain ∷ kinds) (suc i) kind is e = one_later Plain kinds kind i (suc i) (omega arith) (field_of_role kinds i kind is e)
field_of_role (Pair ∷ kinds) (suc (suc i)) kind is e = one_later Pair kinds kind i (suc (suc i)) (omega arith) (field_of_role kinds i kind is e)

-- ---- how many words the fields take

-- fields of these kinds take as many words in the step machine's count as in the graph's
pub word_count_is : (kinds : List Kind) → field_word_count kinds ≡ field_words kinds
word_count_is [] = refl
word_count_is (Strong ∷ kinds) = omega (arith, word_count_is kinds, sum_by-cons words_of_kind Strong kinds)
word_count_is (Weak ∷ kinds) = omega (arith, word_count_is kinds, sum_by-cons words_of_kind Weak kinds)
word_count_is (Pair ∷ kinds) = omega (arith, word_count_is kinds, sum_by-cons words_of_kind Pair kinds)
word_count_is (Plain ∷ kinds) = omega (arith, word_count_is kinds, sum_by-cons words_of_kind Plain kinds)

-- ---- what tracing reads

-- the machine's hand stops at the words that the table tells
pub traced_fit : (offset : ℕ) (kinds : List Kind) → map offset_in (traced_from offset kinds) ≡ traced_offsets offset kinds
traced_fit offset [] = refl
traced_fit offset (Strong ∷ kinds) = ap (λ xs. offset ∷ xs) (traced_fit (offset + 1) kinds)
traced_fit offset (Weak ∷ kinds) = traced_fit (offset + 1) kinds
traced_fit offset (Pair ∷ kinds) = ap (λ xs. offset ∷ xs) (traced_fit (offset + 2) kinds)
traced_fit offset (Plain ∷ kinds) = traced_fit (offset + 1) kinds
