-- The strong words and pairs of a type, one after the other.
use Rattle.std.proofs.Common.{◌≡◌, ℕ, zero, suc, ◌+◌, ◌-◌, ◌<◌, ◌≤◌, List, [], ◌∷◌, true, false, ltb, Option, Some, None, refl, sym, ap, ◌∙◌, inl, inr, arith}
use mathlib.Core.Logic.{◌⊎◌}
use Rattle.std.specs.List.{find}
use Rattle.std.specs.Option.{option_map}
use Rattle.std.proofs.lemmas.Bool.{cases_Bool, false≢true, cond-true, cond-false, ltb-true, ltb-false}
use Rattle.std.proofs.lemmas.Option.{same_Some}
use Rattle.gc_graph.specs.declared.kind.Kind.{Kind}
use Rattle.gc_graph.specs.declared.kind.Kind.TheVariants.{Strong, Weak, Pair, Plain}
use Rattle.marker_core.specs.declared.states.Hand.{Hand}
use Rattle.marker_core.specs.declared.states.Part.TheVariants.{Read}
use Rattle.marker_core.specs.Bodies.{role_at, is_traced_role, kinds_of_type}
use Rattle.marker_core.specs.Hands.{traced_offsets, hand_past}

abbrev next_past : ℕ → List ℕ → Option ℕ
next_past offset offsets = find (λ next. ltb offset next) offsets

-- the number of the word at the offset p, counted from `at`
abbrev IsTracedAt : ℕ → List Kind → ℕ → Type 0
IsTracedAt at kinds p = (i : ℕ) × (p ≡ at + i) × (is_traced_role (role_at kinds i) ≡ true)

head_cases : (offset at p : ℕ) (rest : List ℕ) → next_past offset (at ∷ rest) ≡ Some p
    → ((offset < at) × (at ≡ p)) ⊎ (next_past offset rest ≡ Some p)
head_cases offset at p rest h = elim (cases_Bool (ltb offset at)) [
  | inl past ↦ inl (ltb-true offset at past, same_Some at p (sym (cond-true (ltb offset at) (Some at) (next_past offset rest) past) ∙ h))
  | inr before ↦ inr (sym (cond-false (ltb offset at) (Some at) (next_past offset rest) before) ∙ h)
]

-- what is found is past the offset, and is traced
found_past : (kinds : List Kind) (at offset p : ℕ) → next_past offset (traced_offsets at kinds) ≡ Some p → (offset < p) × IsTracedAt at kinds p
found_past [] at offset p h = cc
found_past (Strong ∷ kinds) at offset p h = elim (head_cases offset at p (traced_offsets (at + 1) kinds) h) [
  | inl here ↦ (omega (arith, here.0, here.1), (0, omega (arith, here.1), refl))
  | inr rest ↦ (let found = found_past kinds (at + 1) offset p rest in (found.0, (suc found.1.0, omega (arith, found.1.1), found.1.2)))
]
found_past (Pair ∷ kinds) at offset p h = elim (head_cases offset at p (traced_offsets (at + 2) kinds) h) [
  | inl here ↦ (omega (arith, here.0, here.1), (0, omega (arith, here.1), refl))
  | inr rest ↦
      (let found = found_past kinds (at + 2) offset p rest in (found.0, (suc (suc found.1.0), omega (arith, found.1.1), found.1.2)))
]
found_past (Weak ∷ kinds) at offset p h =
    let found = found_past kinds (at + 1) offset p h in (found.0, (suc found.1.0, omega (arith, found.1.1), found.1.2))
found_past (Plain ∷ kinds) at offset p h =
    let found = found_past kinds (at + 1) offset p h in (found.0, (suc found.1.0, omega (arith, found.1.1), found.1.2))

abbrev FoundBy : ℕ → List ℕ → ℕ → Type 0
FoundBy offset offsets most = (p : ℕ) × (next_past offset offsets ≡ Some p) × (p ≤ most)

here_or_later : (offset at most : ℕ) (rest : List ℕ) → at ≤ most → (ltb offset at ≡ false → FoundBy offset rest most) → FoundBy offset (at ∷ rest) most
here_or_later offset at most rest within later = elim (cases_Bool (ltb offset at)) [
  | inl past ↦ (at, cond-true (ltb offset at) (Some at) (next_past offset rest) past, within)
  | inr before ↦
      (let found = later before in
      (found.0, cond-false (ltb offset at) (Some at) (next_past offset rest) before ∙ found.1, found.2))
]

-- a traced word past the offset is not passed over
least_past : (kinds : List Kind) (at offset i : ℕ) → is_traced_role (role_at kinds i) ≡ true → offset < at + i
    → FoundBy offset (traced_offsets at kinds) (at + i)
least_past [] at offset i role past = absurd (false≢true role)
least_past (Strong ∷ kinds) at offset zero role past =
    here_or_later offset at (at + 0) (traced_offsets (at + 1) kinds) (omega arith)
    (λ before. absurd (omega (arith, ltb-false offset at before)))
least_past (Strong ∷ kinds) at offset (suc i) role past =
    here_or_later offset at (at + suc i) (traced_offsets (at + 1) kinds) (omega arith)
    (λ before. let found = least_past kinds (at + 1) offset i role (omega arith) in (found.0, found.1, omega (arith, found.2)))
least_past (Pair ∷ kinds) at offset zero role past =
    here_or_later offset at (at + 0) (traced_offsets (at + 2) kinds) (omega arith)
    (λ before. absurd (omega (arith, ltb-false offset at before)))
least_past (Pair ∷ kinds) at offset (suc zero) role past = absurd (false≢true role)
least_past (Pair ∷ kinds) at offset (suc (suc i)) role past =
    here_or_later offset at (at + suc (suc i)) (traced_offsets (at + 2) kinds) (omega arith)
    (λ before. let found = least_past kinds (at + 2) offset i role (omega arith) in (found.0, found.1, omega (arith, found.2)))
least_past (Weak ∷ kinds) at offset zero role past = absurd (false≢true role)
least_past (Weak ∷ kinds) at offset (suc i) role past =
    let found = least_past kinds (at + 1) offset i role (omega arith) in (found.0, found.1, omega (arith, found.2))
least_past (Plain ∷ kinds) at offset zero role past = absurd (false≢true role)
least_past (Plain ∷ kinds) at offset (suc i) role past =
    let found = least_past kinds (at + 1) offset i role (omega arith) in (found.0, found.1, omega (arith, found.2))

-- ---- hands

abbrev pub read_at : ℕ → ℕ → ℕ → Hand
read_at place ty next = record { place = place; ty = ty; next = next; part = Read }

-- what a hand past an offset is
pub record IsPast (types : List (List Kind)) (place ty offset : ℕ) (h : Hand) : Type 0 where
  pub is : h ≡ read_at place ty h.next
  pub past : offset < h.next
  pub past_serial : 2 ≤ h.next
  pub at_hand : is_traced_role (role_at (kinds_of_type types ty) (h.next - 2)) ≡ true

mapped : (f : ℕ → Hand) (o : Option ℕ) (h : Hand) → option_map f o ≡ Some h → (n : ℕ) × (o ≡ Some n) × (f n ≡ h)
mapped f None h e = cc
mapped f (Some n) h e = (n, refl, same_Some (f n) h e)

pub hand_past_is : (types : List (List Kind)) (place ty offset : ℕ) (h : Hand) → hand_past types place ty offset ≡ Some h → IsPast types place ty offset h
hand_past_is types place ty offset h e =
    let at = mapped (read_at place ty) (next_past offset (traced_offsets 2 (kinds_of_type types ty))) h e in
    let found = found_past (kinds_of_type types ty) 2 offset at.0 at.1 in
    let next : at.0 ≡ h.next = ap (λ (g : Hand). g.next) at.2 in
    record {
      is = sym at.2 ∙ ap (read_at place ty) next;
      past = omega (arith, found.0);
      past_serial = omega (arith, found.1.1);
      at_hand = ap (λ j. is_traced_role (role_at (kinds_of_type types ty) j)) (omega (arith, found.1.1)) ∙ found.1.2;
    }

-- a traced word past the offset is at or past the next hand
pub hand_past_finds : (types : List (List Kind)) (place ty offset i : ℕ) → is_traced_role (role_at (kinds_of_type types ty) i) ≡ true → offset < i + 2
    → (h : Hand) × (hand_past types place ty offset ≡ Some h) × (h.place ≡ place) × (h.next ≤ i + 2)
hand_past_finds types place ty offset i role past =
    let found = least_past (kinds_of_type types ty) 2 offset i role (omega arith) in
    (read_at place ty found.0, ap (option_map (read_at place ty)) found.1, refl, omega (arith, found.2))
