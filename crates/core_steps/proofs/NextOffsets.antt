-- The first strong word or pair past an offset, field by field.
use Rattle.std.proofs.Common.{◌≡◌, ℕ, ◌+◌, List, [], ◌∷◌, Bool, true, false, ◌&&◌, ltb, Option, Some, ap, ◌∙◌, arith}
use Rattle.std.specs.List.{find}
use Rattle.std.proofs.lemmas.Bool.{cond-true, cond-false}
use Rattle.gc_graph.specs.declared.kind.Kind.{Kind}
use Rattle.gc_graph.specs.declared.kind.Kind.TheVariants.{Strong, Weak, Pair, Plain}
use Rattle.marker_core.specs.Bodies.{role_at, is_traced_role, field_word_count}
use Rattle.marker_core.specs.Hands.{traced_offsets}

abbrev pub next_of : ℕ → ℕ → List Kind → Option ℕ
next_of offset at kinds = find (λ next. ltb offset next) (traced_offsets at kinds)

abbrev pub is_next : Kind → ℕ → ℕ → Bool
is_next kind offset at = is_traced_role (role_at (kind ∷ []) 0) && ltb offset at

-- the first field is the next one, or the search goes on past it
pub next_here : (kind : Kind) (kinds : List Kind) (offset at : ℕ) → is_next kind offset at ≡ true → next_of offset at (kind ∷ kinds) ≡ Some at
next_here Strong kinds offset at h = cond-true (ltb offset at) (Some at) (next_of offset (at + 1) kinds) h
next_here Pair kinds offset at h = cond-true (ltb offset at) (Some at) (next_of offset (at + 2) kinds) h
next_here Weak kinds offset at h = cc
next_here Plain kinds offset at h = cc

pub next_later : (kind : Kind) (kinds : List Kind) (offset at : ℕ) → is_next kind offset at ≡ false
    → next_of offset at (kind ∷ kinds) ≡ next_of offset (at + field_word_count (kind ∷ [])) kinds
next_later Strong kinds offset at h =
    cond-false (ltb offset at) (Some at) (next_of offset (at + 1) kinds) h ∙ ap (λ n. next_of offset n kinds) (omega arith)
next_later Pair kinds offset at h =
    cond-false (ltb offset at) (Some at) (next_of offset (at + 2) kinds) h ∙ ap (λ n. next_of offset n kinds) (omega arith)
next_later Weak kinds offset at h = ap (λ n. next_of offset n kinds) (omega arith)
next_later Plain kinds offset at h = ap (λ n. next_of offset n kinds) (omega arith)

pub ruleset next_offset = (next_here, next_later)
