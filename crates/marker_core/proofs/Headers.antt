-- What header words tell, and how a bit of one changes.
use Rattle.std.proofs.Common.{◌≡◌, ℕ, ◌<◌, List, get_or, Bool, true, false, ltb, ap, ◌∙◌, arith, Contains}
use Rattle.std.proofs.lemmas.Bool.{eq-eqb, ne_eqb}
use Rattle.object_headers.specs.Layout.{header_word, word_with_mark, word_with_traced}
use Rattle.marker_core.specs.declared.states.Body.{Body}
use Rattle.marker_core.specs.Layout.{has_mark, has_traced, type_in, is_marked, is_traced}
use Rattle.marker_core.specs.Matching.{HeadersMatch}

pub mark_of_header : (mark traced : Bool) (ty size : ℕ) → has_mark (header_word true mark traced ty size) ≡ mark
mark_of_header true true ty size = eq-eqb _ 1 (omega arith)
mark_of_header true false ty size = eq-eqb _ 1 (omega arith)
mark_of_header false true ty size = ne_eqb _ 1 (λ e. omega arith)
mark_of_header false false ty size = ne_eqb _ 1 (λ e. omega arith)

pub traced_of_header : (mark traced : Bool) (ty size : ℕ) → has_traced (header_word true mark traced ty size) ≡ traced
traced_of_header true true ty size = eq-eqb _ 1 (omega arith)
traced_of_header true false ty size = ne_eqb _ 1 (λ e. omega arith)
traced_of_header false true ty size = eq-eqb _ 1 (omega arith)
traced_of_header false false ty size = ne_eqb _ 1 (λ e. omega arith)

pub type_of_header : (mark traced : Bool) (ty size : ℕ) → ty < 16384 → type_in (header_word true mark traced ty size) ≡ ty
type_of_header true true ty size small = omega arith
type_of_header true false ty size small = omega arith
type_of_header false true ty size small = omega arith
type_of_header false false ty size small = omega arith

pub mark_in_header : (on mark traced : Bool) (ty size : ℕ)
    → word_with_mark on (header_word true mark traced ty size) ≡ header_word true on traced ty size
mark_in_header true true true ty size = omega arith
mark_in_header true true false ty size = omega arith
mark_in_header true false true ty size = omega arith
mark_in_header true false false ty size = omega arith
mark_in_header false true true ty size = omega arith
mark_in_header false true false ty size = omega arith
mark_in_header false false true ty size = omega arith
mark_in_header false false false ty size = omega arith

pub traced_in_header : (on mark traced : Bool) (ty size : ℕ)
    → word_with_traced on (header_word true mark traced ty size) ≡ header_word true mark on ty size
traced_in_header true true true ty size = omega arith
traced_in_header true true false ty size = omega arith
traced_in_header true false true ty size = omega arith
traced_in_header true false false ty size = omega arith
traced_in_header false true true ty size = omega arith
traced_in_header false true false ty size = omega arith
traced_in_header false false true ty size = omega arith
traced_in_header false false false ty size = omega arith

module _ (words : List ℕ) (marks traces : ℕ → ℕ) (bodies : List Body) (matches : HeadersMatch words marks traces bodies) where
  pub mark_tells : (b : Body) → Contains bodies b → is_marked words b.place ≡ ltb 0 (marks b.place)
  mark_tells b h =
      ap has_mark (matches b h) ∙ mark_of_header (ltb 0 (marks b.place)) (ltb 0 (traces b.place)) b.ty b.size

  pub traced_tells : (b : Body) → Contains bodies b → is_traced words b.place ≡ ltb 0 (traces b.place)
  traced_tells b h =
      ap has_traced (matches b h) ∙ traced_of_header (ltb 0 (marks b.place)) (ltb 0 (traces b.place)) b.ty b.size

  pub type_tells : (b : Body) → Contains bodies b → b.ty < 16384 → type_in (get_or words b.place 0) ≡ b.ty
  type_tells b h small =
      ap type_in (matches b h) ∙ type_of_header (ltb 0 (marks b.place)) (ltb 0 (traces b.place)) b.ty b.size small
