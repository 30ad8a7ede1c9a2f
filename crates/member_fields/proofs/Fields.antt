-- Each store of a field is one that the step machine allows.
use Rattle.std.proofs.Common.{◌≡◌, ℕ, ◌+◌, ◌-◌, ◌<◌, ◌≤◌, true, false, get_or, sym, ap, ◌∙◌, subst, inl, inr, arith}
use mathlib.Core.Logic.{◌⊎◌}
use Rattle.std.proofs.lemmas.Bool.{true≢false}
use Rattle.gc_graph.specs.declared.kind.Kind.TheVariants.{Pair}
use Rattle.type_table.specs.Types.{declared_kinds}
use Rattle.type_table.specs.FieldLaw.{FieldsStandApart}
use Rattle.marker_core.specs.declared.states.Body.{Body}
use Rattle.marker_core.specs.declared.states.Role.{Role}
use Rattle.marker_core.specs.declared.states.Role.TheVariants.{KeyWord, ValueWord}
use Rattle.marker_core.specs.Bodies.{IsReference, fields_at, end_of, role_at, role_in, refers, word_in}
use Rattle.marker_core.specs.SeatSteps.{seat_can_store, key_fits}
use Rattle.page_words.specs.Bodies.{IsPlainWordAt, is_reference_word}
use Rattle.page_words.specs.Roles.{kind_lists, kinds_fit, kind_of_role, refers_by_kind}
use Rattle.page_words.specs.Seat.{SeatView, IsView, side}
use Rattle.member_fields.specs.Words.{HasLoneWord, HasPair}
use Rattle.member_fields.specs.Barrier.{IsReadyToStore, MayKeep, MayKeepNamed}
use Rattle.member_fields.specs.Keys.{TakesKey}
use Rattle.member_fields.proofs.Roles.{kind_told, key_role, value_role}
use Rattle.member_fields.proofs.Allowed.{store_allowed, no_key_fits, some_key_fits}
use Rattle.member_fields.proofs.PairWords.{told_value}

pub lone_allowed : (v : SeatView) (holder word w : ℕ) → IsView v → IsReadyToStore v → HasLoneWord v holder word → MayKeep v holder
    → IsPlainWordAt v.types v.bodies (holder + word) ⊎ (IsReference v.bodies w × MayKeepNamed v w) → seat_can_store (side v) (holder + word) w ≡ true
lone_allowed v holder word w is ready (is_so, apart, has) own fits =
    let b : Body = has.body in
    let a : ℕ = holder + word in
    let low : fields_at b ≤ a = omega (arith, has.place, has.first) in
    let high : a < end_of b = omega (arith, has.place, has.last) in
    let at : a - fields_at b ≡ word - 2 = omega (arith, has.place, has.first) in
    let role : Role = role_in (kind_lists v.types) b (a - fields_at b) in
    let told : kind_of_role role ≡ Pair → ⊥ = λ e.
    apart (ap is_so (sym (kind_told v b (word - 2) ∙ ap (λ n. kind_of_role (role_in (kind_lists v.types) b n)) (sym at) ∙ e)) ∙ has.kind) in
    store_allowed v b a w ready (subst (MayKeep v) (sym has.place) own)
    (record {
      there = has.there;
      low = low;
      high = high;
      reference = λ refer. elim fits [
        | inl plain ↦
            (let one : plain.0 ≡ b = is.apart plain.0 b a plain.1 has.there (omega (arith, plain.2)) plain.3 (omega (arith, low)) high in
            absurd (true≢false (sym refer ∙ ap (λ kinds. refers (role_at kinds (a - fields_at b))) (kinds_fit v.types b.ty)
            ∙ refers_by_kind (declared_kinds v.types b.ty) (a - fields_at b)
            ∙ subst (λ (c : Body). is_reference_word v.types c (a - fields_at c) ≡ false) one plain.4)))
        | inr both ↦ both
      ];
      key = no_key_fits v.on v.seen role w (word_in b (a - fields_at b + 1)) (λ e. told (ap kind_of_role e));
    })

value_no_key : (role : Role) → role ≡ ValueWord → role ≡ KeyWord → ⊥
value_no_key role value key = let e : ValueWord ≡ KeyWord = sym value ∙ key in cc

pub value_allowed : FieldsStandApart → (v : SeatView) (holder word value : ℕ) → IsReadyToStore v → HasPair v holder word → MayKeep v holder
    → IsReference v.bodies value → MayKeepNamed v value → seat_can_store (side v) (holder + (word + 1)) value ≡ true
value_allowed law v holder word value ready has own reference kept =
    let b : Body = has.body in
    let a : ℕ = holder + (word + 1) in
    let at : a - fields_at b ≡ word - 2 + 1 = omega (arith, has.place, has.first) in
    let role : Role = role_in (kind_lists v.types) b (a - fields_at b) in
    let is_value : role ≡ ValueWord = ap (role_in (kind_lists v.types) b) at ∙ value_role law v b (word - 2) has.key in
    store_allowed v b a value ready (subst (MayKeep v) (sym has.place) own)
    (record {
      there = has.there;
      low = omega (arith, has.place, has.first);
      high = omega (arith, has.place, has.last);
      reference = λ _. (reference, kept);
      key = no_key_fits v.on v.seen role value (word_in b (a - fields_at b + 1)) (value_no_key role is_value);
    })

pub key_allowed : FieldsStandApart → (v : SeatView) (holder word key : ℕ) → IsView v → TakesKey v holder word key
    → seat_can_store (side v) (holder + word) key ≡ true
key_allowed law v holder word key is takes =
    let has : HasPair v holder word = takes.pair in
    let b : Body = has.body in
    let a : ℕ = holder + word in
    let at : a - fields_at b ≡ word - 2 = omega (arith, has.place, has.first) in
    let value : ℕ = get_or b.fields (word - 2 + 1) 0 in
    let told = told_value v holder word is has in
    store_allowed v b a key takes.ready (subst (MayKeep v) (sym has.place) takes.holder_kept)
    (record {
      there = has.there;
      low = omega (arith, has.place, has.first);
      high = omega (arith, has.place, has.last);
      reference = λ _. (takes.names, takes.key_kept);
      key =
          ap (λ n. key_fits v.on v.seen (role_in (kind_lists v.types) b n) key (word_in b (n + 1))) at
          ∙ ap (λ role. key_fits v.on v.seen role key value) (key_role law v b (word - 2) has.key)
          ∙ some_key_fits v.on v.seen key value (λ null. (takes.both value told).0 null) (λ on. takes.seen value told on);
    })
