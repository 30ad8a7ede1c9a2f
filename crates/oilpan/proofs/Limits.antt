-- What holds of types in which no limit is met.
use Rattle.std.proofs.Common.{◌≡◌, ℕ, ◌<◌, ◌≤◌, ◌++◌, ◌&&◌, Bool, false, not, true≢false, eqb, ltb, List, [], length, get_or, Some, None, refl, sym, subst, ap, ◌∙◌, inl, inr, arith, All, length-append}
use Rattle.std.specs.List.{position, position_or_len}
use Rattle.std.proofs.lemmas.Bool.{cases_lt, cond-true, lt-ltb, ltb-false}
use Rattle.std.proofs.lemmas.List.{get_or-map, get_or_append_left, length-map}
use Rattle.std.proofs.lemmas.List.Elements.{All-map, All-nil}
use Rattle.std.proofs.lemmas.List.Quantifiers.{position-Some}
use Rattle.std.proofs.lemmas.List.Sums.{fails_before_first}
use Rattle.std.proofs.lemmas.Option.{none-some}
use Rattle.gc_graph.specs.Fields.{field_words}
use Rattle.gc_graph.specs.State.{ObjectType, no_type}
use Rattle.type_table.specs.declared.faults.TypeFault.{TypeFault}
use Rattle.type_table.specs.declared.faults.TypeFault.TheVariants as F
use Rattle.type_table.specs.Faults.{AreGoodTypes, IsTypeFault, is_over_words}
use Rattle.heap_engine.specs.Objects.{HaveCallbacks}
use Rattle.oilpan.specs.DeclaredTypes.{DeclaredObject, type_of, types_of, named_of, named_all}
use Rattle.oilpan.specs.TypesErrors.{is_overcalled}

nowhere : {X : Type 0} (p : X → Bool) (xs : List X) (k : ℕ) (d : X) → position p xs ≡ None → k < length xs → p (get_or xs k d) ≡ false
nowhere p xs k d none low =
    elim (cases_lt (position_or_len p xs) (length xs)) [
      | inl l ↦ absurd (none-some (position_or_len p xs) (sym none ∙ cond-true (ltb (position_or_len p xs) (length xs)) (Some (position_or_len p xs)) None (lt-ltb _ _ l)))
      | inr h ↦ fails_before_first p xs k d (omega arith)
    ]

first_of : (numbers others : List ℕ) (callbacks : ℕ) → All (λ number. number < callbacks) (numbers ++ others) → All (λ number. number < callbacks) numbers
first_of numbers others callbacks all i d low =
    subst (λ number. number < callbacks) (get_or_append_left numbers others d i low) (all i d (omega (arith, length-append numbers others)))

-- the type names no weak callbacks
abbrev pub HasNone : ObjectType → Type 0
HasNone type = type.weak_callbacks ≡ []

pub called : (callbacks : ℕ) (types : List ObjectType) → AreGoodTypes callbacks types → position is_overcalled types ≡ None → All HasNone types
    → HaveCallbacks callbacks types
called callbacks types good none none_weak = record {
  few = λ k d low. ltb-false 16 _ (nowhere is_overcalled types k d none low);
  known = λ k d low i e here. first_of (get_or types k d).prefinalizers (get_or types k d).weak_callbacks callbacks (good.known k d low) i e here;
  few_weak = λ k d low. omega (arith, ap length (none_weak k d low));
  weak = record {
    known = λ k d low. subst (All (λ callback. callback < callbacks)) (sym (none_weak k d low)) (All-nil (λ callback. callback < callbacks));
    shown = λ k d low some. absurd (some (none_weak k d low));
  };
}

-- declared types name none
pub none_declared : (objects : List DeclaredObject) → All HasNone (types_of objects)
none_declared objects = All-map HasNone type_of objects (λ k d low. refl)

-- ---- the faults of declared types

pub none_over_words : (callbacks : ℕ) (objects : List DeclaredObject) (types : List ObjectType) (fault : TypeFault) (ty : ℕ) → types ≡ types_of objects
    → IsTypeFault callbacks types fault → fault ≡ F.TooManyWords ty → ⊥
none_over_words callbacks objects types fault ty same cause is =
    let over : position is_over_words types ≡ Some ty = (subst (IsTypeFault callbacks types) is cause).first in
    let first = position-Some is_over_words types ty no_type over in
    let none : (get_or types ty no_type).weak_callbacks ≡ [] = subst (All HasNone) (sym same) (none_declared objects) ty no_type first.0 in
    true≢false (sym first.1 ∙ ap (λ numbers. not (eqb (length numbers) 0) && ltb 64 (field_words (get_or types ty no_type).kinds)) none)

no_object : DeclaredObject
no_object = record { name = []; fields = []; prefinalizers = [] }

pub narrow_names : (objects : List DeclaredObject) → All (λ type. length type.kinds ≤ 64) (types_of objects) → All (λ o. length o.fields ≤ 64) (named_all objects)
narrow_names objects narrow k d low =
    let here : k < length objects = omega (arith, length-map objects named_of) in
    let o : DeclaredObject = get_or objects k no_object in
    let named : get_or (named_all objects) k d ≡ named_of o = get_or-map named_of objects k no_object d here in
    let typed : get_or (types_of objects) k no_type ≡ type_of o = get_or-map type_of objects k no_object no_type here in
    let most : length (get_or (types_of objects) k no_type).kinds ≤ 64 = narrow k no_type (omega (arith, length-map objects type_of)) in
    omega (arith, ap (λ n. length n.fields) named, ap (λ t. length t.kinds) typed, length-map o.fields (λ f. f.kind))
