-- What the step machine takes the words of each kind for.
use Rattle.std.proofs.Common.{◌≡◌, ℕ, ◌+◌, false, List, refl, sym, ap, ◌∙◌, arith}
use Rattle.gc_graph.specs.declared.kind.Kind.{Kind}
use Rattle.gc_graph.specs.declared.kind.Kind.TheVariants.{Strong, Pair}
use Rattle.type_table.specs.Types.{declared_kinds, is_kind}
use Rattle.type_table.specs.KindLaws.{same_kind}
use Rattle.type_table.specs.FieldLaw.{FieldsStandApart, BeginsAt}
use Rattle.marker_core.specs.declared.states.Body.{Body}
use Rattle.marker_core.specs.declared.states.Role.{Role}
use Rattle.marker_core.specs.declared.states.Role.TheVariants.{StrongWord, WeakWord, KeyWord, ValueWord, PlainWord}
use Rattle.marker_core.specs.Bodies.{role_at, role_in, keeps, kinds_of_type}
use Rattle.marker_core.specs.RoleOrder.{value_after_key}
use Rattle.page_words.specs.Bodies.{IsKeyWord, kind_in}
use Rattle.page_words.specs.Roles.{kind_lists, kinds_fit, kind_of_role, kind_is_role, role_of_field, first_role, words_before}
use Rattle.page_words.specs.Seat.{SeatView}

-- the kind of a word is that of its role
pub kind_told : (v : SeatView) (b : Body) (i : ℕ) → kind_in v.types b i ≡ kind_of_role (role_in (kind_lists v.types) b i)
kind_told v b i =
    kind_is_role (declared_kinds v.types b.ty) i ∙ ap (λ kinds. kind_of_role (role_at kinds i)) (sym (kinds_fit v.types b.ty))

-- what keeps what it names is a strong word or one of a pair
pub keeps_none : (role : Role) → (kind_of_role role ≡ Strong → ⊥) → (kind_of_role role ≡ Pair → ⊥) → keeps role ≡ false
keeps_none StrongWord strong pair = absurd (strong refl)
keeps_none ValueWord strong pair = absurd (pair refl)
keeps_none WeakWord strong pair = refl
keeps_none KeyWord strong pair = refl
keeps_none PlainWord strong pair = refl

-- ---- pairs

pub key_role : FieldsStandApart → (v : SeatView) (b : Body) (i : ℕ) → IsKeyWord v.types b i → role_in (kind_lists v.types) b i ≡ KeyWord
key_role law v b i key =
    let kinds : List Kind = declared_kinds v.types b.ty in
    let found = law.begin (is_kind Pair) kinds (i + 2) key in
    let first : BeginsAt (is_kind Pair) kinds (i + 2) found.0 = found.1 in
    let at : i ≡ words_before kinds found.0 = omega (arith, first.offset_is, first.declared) in
    ap (λ ks. role_at ks i) (kinds_fit v.types b.ty)
    ∙ ap (role_at kinds) at
    ∙ role_of_field kinds found.0 first.declared
    ∙ ap first_role (same_kind Pair _ first.kind)

pub value_role : FieldsStandApart → (v : SeatView) (b : Body) (i : ℕ) → IsKeyWord v.types b i → role_in (kind_lists v.types) b (i + 1) ≡ ValueWord
value_role law v b i key =
    value_after_key (kinds_of_type (kind_lists v.types) b.ty) i (key_role law v b i key)
