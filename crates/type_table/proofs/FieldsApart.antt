-- The fields of a kind begin at the offsets that are told of it, and no word belongs to two fields.
use Rattle.std.proofs.Common.{◌≡◌, ℕ, zero, suc, ◌+◌, ◌-◌, ◌<◌, ◌≤◌, Bool, List, length, take, sym, ap, subst, inl, inr, arith}
use Rattle.std.specs.List.{Contains, filter, range_with_len}
use Rattle.std.proofs.lemmas.Bool.{cases_lt}
use Rattle.std.proofs.lemmas.List.{take_all, get_or_past}
use Rattle.std.proofs.lemmas.List.Sums.{sum_by_more}
use Rattle.gc_graph.specs.declared.kind.Kind.{Kind}
use Rattle.gc_graph.specs.declared.kind.Kind.TheVariants.{Plain}
use Rattle.gc_graph.specs.Fields.{words_of_kind, field_words}
use Rattle.gc_graph.specs.Members.{Contains-map, Contains-map_some, was_in, has_passed, stays_in, in_range, to_range}
use Rattle.type_table.specs.Types.{kind_of, offset_of, is_field, offsets_where, IsWordOfField}
use Rattle.type_table.specs.FieldLaw.{BeginsAt}

-- ---- where fields begin

pub begins_at : (is_so : Kind → Bool) (kinds : List Kind) (offset : ℕ) → Contains (offsets_where is_so kinds) offset → (field : ℕ) × BeginsAt is_so kinds offset field
begins_at is_so kinds offset there =
    let all : List ℕ = range_with_len 0 (length kinds) in
    let w = Contains-map_some (offset_of kinds) (filter (is_field is_so kinds) all) offset there in
    let declared = in_range 0 (length kinds) w.0 (was_in (is_field is_so kinds) all w.0 w.1) in
    (w.0, record { declared = omega (arith, declared.1); kind = has_passed (is_field is_so kinds) all w.0 w.1; offset_is = sym w.2 })

pub told_at : (is_so : Kind → Bool) (kinds : List Kind) (offset field : ℕ) → BeginsAt is_so kinds offset field → Contains (offsets_where is_so kinds) offset
told_at is_so kinds offset field at =
    let all : List ℕ = range_with_len 0 (length kinds) in
    subst (Contains (offsets_where is_so kinds)) (sym at.offset_is)
    (Contains-map (offset_of kinds) (filter (is_field is_so kinds) all) field
    (stays_in (is_field is_so kinds) all field (to_range 0 (length kinds) field (omega arith) (omega (arith, at.declared))) at.kind))

-- ---- no word belongs to two fields

one_step : (kinds : List Kind) (field : ℕ) → offset_of kinds (field + 1) ≡ offset_of kinds field + words_of_kind (kind_of kinds field)
one_step kinds field = elim (cases_lt field (length kinds)) [
  | inl low ↦ omega (arith, low, sum_by_more words_of_kind kinds field Plain low)
  | inr past ↦
      (let more : field_words (take (field + 1) kinds) ≡ field_words kinds = ap field_words (take_all (field + 1) kinds (omega arith)) in
      let same : field_words (take field kinds) ≡ field_words kinds = ap field_words (take_all field kinds past) in
      let plain : words_of_kind (kind_of kinds field) ≡ 1 = ap words_of_kind (get_or_past kinds field Plain past) in
      omega (arith, more, same, plain, past))
]

later_begins : (kinds : List Kind) (field gap : ℕ) → offset_of kinds field + words_of_kind (kind_of kinds field) ≤ offset_of kinds (field + 1 + gap)
later_begins kinds field zero = let e : field + 1 + 0 ≡ field + 1 = omega arith in omega (arith, ap (offset_of kinds) e, one_step kinds field)
later_begins kinds field (suc gap) =
    let e : field + 1 + suc gap ≡ field + 1 + gap + 1 = omega arith in
    omega (arith, ap (offset_of kinds) e, one_step kinds (field + 1 + gap), later_begins kinds field gap)

never_below : (kinds : List Kind) (field other word : ℕ) → IsWordOfField kinds field word → IsWordOfField kinds other word → field < other → ⊥
never_below kinds field other word is also below =
    let e : field + 1 + (other - (field + 1)) ≡ other = omega arith in
    omega (arith, is.last, also.first, later_begins kinds field (other - (field + 1)), ap (offset_of kinds) e)

pub one_field : (kinds : List Kind) (field other word : ℕ) → IsWordOfField kinds field word → IsWordOfField kinds other word → field ≡ other
one_field kinds field other word is also = elim (cases_lt field other) [
  | inl below ↦ absurd (never_below kinds field other word is also below)
  | inr not_below ↦ elim (cases_lt other field) [
    | inl above ↦ absurd (never_below kinds other field word also is above)
    | inr neither ↦ omega arith
  ]
]
