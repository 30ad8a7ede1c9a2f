-- What a body leads to by its words and in the object that it stands for: a test that is closed over bodies holds of what the
-- objects of its members lead to.
use Rattle.std.proofs.Common.{◌≡◌, ℕ, ◌+◌, ◌-◌, ◌<◌, Bool, true, false, List, get_or, refl, sym, ap, ◌∙◌, subst, inl, inr, arith}
use mathlib.Core.Logic.{◌⊎◌}
use Rattle.std.specs.List.{Contains}
use Rattle.gc_graph.specs.declared.kind.Kind.{Kind}
use Rattle.gc_graph.specs.declared.kind.Kind.TheVariants.{Strong, Pair}
use Rattle.gc_graph.specs.Fields.{is_plain}
use Rattle.gc_graph.specs.Leading.{IsLed}
use Rattle.gc_graph.specs.State.{ObjectType, no_type}
use Rattle.page_words.specs.Types.{declared_kinds, offsets_of_kind}
use Rattle.page_words.specs.MachineBodies.{role_at, role_in}
use Rattle.page_words.specs.Closed.{IsClosedOver}
use Rattle.page_words.specs.Body.{Body}
use Rattle.page_words.specs.Roles.{kind_lists, kinds_fit, words_before, first_role, role_of_field, field_of_role}
use Rattle.pair_notes.specs.BodyGraph.{strong_offsets, pair_offsets, word_at, object_in}
use Rattle.pair_notes.specs.Fields.{NamesIn, first_of, field_at_offset, offset_of_field, field_of_strong, strong_of_field}
use Rattle.pair_notes.specs.PairFields.{PairsIn, field_of_pair, pair_of_field}

-- ---- what an offset and a role tell of one another

-- the first word of a field is to the machine what the field's kind says
pub role_of_offset : (types : List ObjectType) (b : Body) (kind : Kind) (offset : ℕ) → Contains (offsets_of_kind kind (declared_kinds types b.ty)) offset
    → role_in (kind_lists types) b (offset - 2) ≡ first_role kind
role_of_offset types b kind offset there =
    let kinds = declared_kinds types b.ty in
    let field = field_at_offset kind kinds offset there in
    let number : offset - 2 ≡ words_before kinds field.0 = omega (arith, field.2) in
    ap (λ ks. role_at ks (offset - 2)) (kinds_fit types b.ty) ∙ ap (role_at kinds) number ∙ role_of_field kinds field.0 field.1.low
    ∙ ap first_role field.1.is

-- a word whose role begins a field of the kind is told among the offsets of that kind
pub offset_told : (types : List ObjectType) (b : Body) (i : ℕ) (kind : Kind) → is_plain kind ≡ false → role_in (kind_lists types) b i ≡ first_role kind
    → Contains (offsets_of_kind kind (declared_kinds types b.ty)) (i + 2)
offset_told types b i kind is role =
    let kinds = declared_kinds types b.ty in
    let found = field_of_role kinds i kind is (ap (λ ks. role_at ks i) (sym (kinds_fit types b.ty)) ∙ role) in
    subst (Contains (offsets_of_kind kind kinds)) (omega (arith, found.1.number))
    (offset_of_field kind kinds found.0 (record { low = found.1.declared; is = found.1.kind_is }))

-- a field word that isn't null, as the word at its offset
pub named_word : (b : Body) (i : ℕ) → 0 < get_or b.fields i 0 → word_at b (i + 2) ≡ get_or b.fields i 0 - 1 + 1
named_word b i some =
    let at : i + 2 - 2 ≡ i = omega arith in
    let more : get_or b.fields i 0 ≡ get_or b.fields i 0 - 1 + 1 = omega arith in
    ap (λ j. get_or b.fields j 0) at ∙ more

-- and the word after it
pub value_word : (b : Body) (i : ℕ) → 0 < get_or b.fields (i + 1) 0 → word_at b (i + 2 + 1) ≡ get_or b.fields (i + 1) 0 - 1 + 1
value_word b i some =
    let at : i + 2 + 1 ≡ i + 1 + 2 = omega arith in
    ap (word_at b) at ∙ named_word b (i + 1) some

-- ---- what the object of a body leads to

-- the body leads on by one of its strong fields, or by one of its pairs
pub record LeadsOn (types : List ObjectType) (test : ℕ → Bool) (b : Body) (q : ℕ) : Type 0 where
  pub by : ((offset : ℕ) × Contains (strong_offsets types b) offset × (word_at b offset ≡ q + 1))
      ⊎ ((offset : ℕ) × (k : ℕ) × Contains (pair_offsets types b) offset × (word_at b offset ≡ k + 1) × (word_at b (offset + 1) ≡ q + 1) × (test k ≡ true))

strong_led : (types : List ObjectType) (test : ℕ → Bool) (b : Body) (offset q : ℕ) → Contains (strong_offsets types b) offset → word_at b offset ≡ q + 1
    → IsLed test (object_in types b) q
strong_led types test b offset q there is =
    let kinds : List Kind = (get_or types b.ty no_type).kinds in
    let field = field_at_offset Strong kinds offset there in
    let at : offset - 2 ≡ first_of kinds field.0 + 0 = omega (arith, field.2) in
    inl (strong_of_field kinds q field.0 b.fields field.1 (ap (λ n. get_or b.fields n 0) (sym at) ∙ is))

pair_led : (types : List ObjectType) (test : ℕ → Bool) (b : Body) (offset k q : ℕ) → Contains (pair_offsets types b) offset → word_at b offset ≡ k + 1
    → word_at b (offset + 1) ≡ q + 1 → test k ≡ true → IsLed test (object_in types b) q
pair_led types test b offset k q there key value passes =
    let kinds : List Kind = (get_or types b.ty no_type).kinds in
    let field = field_at_offset Pair kinds offset there in
    let at : offset - 2 ≡ first_of kinds field.0 + 0 = omega (arith, field.2) in
    let after : offset + 1 - 2 ≡ first_of kinds field.0 + 1 = omega (arith, field.2) in
    inr (k, pair_of_field kinds k q field.0 b.fields field.1 (ap (λ n. get_or b.fields n 0) (sym at) ∙ key) (ap (λ n. get_or b.fields n 0) (sym after) ∙ value), passes)

led_on : (types : List ObjectType) (test : ℕ → Bool) (b : Body) (q : ℕ) → IsLed test (object_in types b) q → LeadsOn types test b q
led_on types test b q led =
    let kinds : List Kind = (get_or types b.ty no_type).kinds in
    elim led [
      | inl strong ↦
          (let names : NamesIn kinds b.fields q = field_of_strong kinds q b.fields strong in
          let at : 2 + first_of kinds names.index - 2 ≡ first_of kinds names.index + 0 = omega arith in
          record { by = inl (2 + first_of kinds names.index, offset_of_field Strong kinds names.index names.field, ap (λ n. get_or b.fields n 0) at ∙ names.word) })
      | inr pair ↦
          (let names : PairsIn kinds b.fields pair.0 q = field_of_pair kinds pair.0 q b.fields pair.1 in
          let at : 2 + first_of kinds names.index - 2 ≡ first_of kinds names.index + 0 = omega arith in
          let after : 2 + first_of kinds names.index + 1 - 2 ≡ first_of kinds names.index + 1 = omega arith in
          record {
            by = inr (
              2 + first_of kinds names.index,
              pair.0,
              offset_of_field Pair kinds names.index names.field,
              ap (λ n. get_or b.fields n 0) at ∙ names.key,
              ap (λ n. get_or b.fields n 0) after ∙ names.value,
              pair.2,
            );
          })
    ]

-- ---- closed over bodies

-- what a strong field of a member names is a member
pub strong_within_closed : (types : List ObjectType) (bodies : List Body) (test : ℕ → Bool) (b : Body) (offset q : ℕ)
    → IsClosedOver (kind_lists types) bodies test → Contains bodies b → test b.place ≡ true → Contains (strong_offsets types b) offset
    → word_at b offset ≡ q + 1 → test q ≡ true
strong_within_closed types bodies test b offset q closed there member strong names =
    let target : get_or b.fields (offset - 2) 0 - 1 ≡ q = omega (arith, names) in
    subst (λ p. test p ≡ true) target
    (closed.strong b (offset - 2) there member (role_of_offset types b Strong offset strong) (omega (arith, names)))

-- and so is the value of a pair of a member whose key is one
pub pair_within_closed : (types : List ObjectType) (bodies : List Body) (test : ℕ → Bool) (b : Body) (offset k q : ℕ)
    → IsClosedOver (kind_lists types) bodies test → Contains bodies b → test b.place ≡ true → Contains (pair_offsets types b) offset
    → word_at b offset ≡ k + 1 → word_at b (offset + 1) ≡ q + 1 → test k ≡ true → test q ≡ true
pair_within_closed types bodies test b offset k q closed there member pair key value key_member =
    let field = field_at_offset Pair (declared_kinds types b.ty) offset pair in
    let next : offset + 1 - 2 ≡ offset - 2 + 1 = omega (arith, field.2) in
    let at_value : get_or b.fields (offset - 2 + 1) 0 ≡ q + 1 = ap (λ i. get_or b.fields i 0) (sym next) ∙ value in
    let named : get_or b.fields (offset - 2) 0 - 1 ≡ k = omega (arith, key) in
    let target : get_or b.fields (offset - 2 + 1) 0 - 1 ≡ q = omega (arith, at_value) in
    subst (λ p. test p ≡ true) target
    (closed.pairs b (offset - 2) there member (role_of_offset types b Pair offset pair) (omega (arith, key))
    (subst (λ p. test p ≡ true) (sym named) key_member) (omega (arith, at_value)))

-- so is what the object of a member leads to
pub led_within : (types : List ObjectType) (bodies : List Body) (test : ℕ → Bool) (b : Body) (q : ℕ) → IsClosedOver (kind_lists types) bodies test
    → Contains bodies b → test b.place ≡ true → IsLed test (object_in types b) q → test q ≡ true
led_within types bodies test b q closed there member led = elim (led_on types test b q led).by [
  | inl strong ↦ strong_within_closed types bodies test b strong.0 q closed there member strong.1 strong.2
  | inr pair ↦ pair_within_closed types bodies test b pair.0 pair.1 q closed there member pair.2 pair.3 pair.4 pair.5
]

-- and a test of which that is so is closed
pub closed_from : (types : List ObjectType) (bodies : List Body) (test : ℕ → Bool)
    → ((b : Body) (q : ℕ) → Contains bodies b → test b.place ≡ true → IsLed test (object_in types b) q → test q ≡ true)
    → IsClosedOver (kind_lists types) bodies test
closed_from types bodies test leads = record {
  strong = λ b i there member role some.
      leads b (get_or b.fields i 0 - 1) there member
      (strong_led types test b (i + 2) (get_or b.fields i 0 - 1) (offset_told types b i Strong refl role) (named_word b i some));
  pairs = λ b i there member role key key_member value.
      leads b (get_or b.fields (i + 1) 0 - 1) there member
      (pair_led types test b (i + 2) (get_or b.fields i 0 - 1) (get_or b.fields (i + 1) 0 - 1) (offset_told types b i Pair refl role)
      (named_word b i key) (value_word b i value) key_member);
}
