-- The place of a new object is free: it lies in the heap, and apart from the objects that are there.
use Rattle.std.proofs.Common.{◌≡◌, ℕ, zero, suc, ◌+◌, ◌*◌, ◌<◌, ◌≤◌, true≢false, List, [], ◌∷◌, Contains, Some, refl, sym, ap, subst, inl, inr, arith, add-mul, mul-le-mul_right, if◌then◌else◌}
use mathlib.Core.Logic.{◌⊎◌}
use Rattle.std.proofs.lemmas.Bool.{cases_lt, cond_both}
use Rattle.gc_graph.specs.State.{Shape, Node, node_at, is_there, size_of}
use Rattle.gc_graph.specs.Placement.{Extent, extent_of, extents_of, IsTaken, IsRun, Fits, StartsEmptyRun, IsPlaceFor}
use Rattle.gc_graph.specs.Valid.{IsThere, word_count}

-- so many words from a lie in the heap, and none of them belongs to an object
pub record IsFreeAt (shape : Shape) (extents : List Extent) (size a : ℕ) : Type 0 where
  pub inside : a + size ≤ word_count shape
  pub free : (x : ℕ) → a ≤ x → x < a + size → IsTaken extents x → ⊥

fits_free : (shape : Shape) (pages : ℕ) (extents : List Extent) (size a : ℕ) → pages ≤ shape.pages → Fits shape pages extents size a → IsFreeAt shape extents size a
fits_free shape pages extents size a most h =
    let page : ℕ = h.1.0 in
    let below : page < pages = h.1.1 in
    let run : IsRun shape.page_words extents size page a = h.1.2 in
    let last : a + size ≤ (page + 1) * shape.page_words = run.last in
    let next : page + 1 ≤ shape.pages = omega arith in
    let all : (page + 1) * shape.page_words ≤ shape.pages * shape.page_words = mul-le-mul_right shape.page_words next in
    record { inside = omega arith; free = run.free }

-- the page of a run in which a word lies
pub page_of : (words page count x : ℕ) → page * words ≤ x → x < (page + count) * words
    → (i : ℕ) × (i < count) × ((page + i) * words ≤ x) × (x < (page + i + 1) * words)
page_of words page zero x low high = absurd (let same : page + zero ≡ page = omega arith in let e : (page + zero) * words ≡ page * words = ap (λ p. p * words) same in omega arith)
page_of words page (suc c) x low high =
    elim (cases_lt x ((page + c) * words)) [
      | inl under ↦ (let found = page_of words page c x low under in let less : found.0 < c = found.1 in (found.0, omega arith, found.2, found.3))
      | inr past ↦
          (let same : page + suc c ≡ page + c + 1 = omega arith in
          let e : (page + suc c) * words ≡ (page + c + 1) * words = ap (λ p. p * words) same in
          (c, omega arith, past, omega arith))
    ]

empty_free : (shape : Shape) (extents : List Extent) (size a : ℕ) → StartsEmptyRun shape extents size a → IsFreeAt shape extents size a
empty_free shape extents size a h =
    let words : ℕ = shape.page_words in
    let enough : size ≤ h.count * words = h.enough.0 in
    let first : a ≡ h.page * words = h.first in
    let sum : (h.page + h.count) * words ≡ h.page * words + h.count * words = add-mul h.page h.count words in
    let all : (h.page + h.count) * words ≤ shape.pages * words = mul-le-mul_right words h.within in
    record {
      inside = omega arith;
      free = λ x low high taken.
          let found = page_of words h.page h.count x (omega arith) (omega arith) in
          h.empty found.0 found.1 (x, found.2, found.3, taken);
    }

pub place_free : (shape : Shape) (pages : ℕ) (extents : List Extent) (size a : ℕ) → pages ≤ shape.pages → IsPlaceFor shape pages extents size (Some a)
    → IsFreeAt shape extents size a
place_free shape pages extents size a most h =
    elim h [ inl fits ↦ fits_free shape pages extents size a most fits.0 | inr run ↦ empty_free shape extents size a run.2.0 ]

-- ---- the words of a node

contains_more : (e first : Extent) (extents : List Extent) → Contains extents e → Contains (first ∷ extents) e
contains_more e first extents h = let l = h.1 in (suc h.0, omega arith, h.2)

pub contains_extent : (nodes : List Node) (n : ℕ) → IsThere nodes n → Contains (extents_of nodes) (extent_of (node_at nodes n))
contains_extent [] n there = absurd (true≢false (sym there))
contains_extent (node ∷ nodes) zero there =
    subst (λ b. Contains (if b then extent_of node ∷ extents_of nodes else extents_of nodes) (extent_of node)) (sym there) (0, omega arith, refl)
contains_extent (node ∷ nodes) (suc n) there =
    let rest : Contains (extents_of nodes) (extent_of (node_at nodes n)) = contains_extent nodes n there in
    cond_both (is_there node.life) (extent_of node ∷ extents_of nodes) (extents_of nodes) (λ list. Contains list (extent_of (node_at nodes n)))
    (λ e. contains_more (extent_of (node_at nodes n)) (extent_of node) (extents_of nodes) rest) (λ e. rest)

pub free_apart : (shape : Shape) (nodes : List Node) (size a n : ℕ) → IsFreeAt shape (extents_of nodes) size a → 0 < size → IsThere nodes n
    → (a + size ≤ (node_at nodes n).place) ⊎ ((node_at nodes n).place + size_of (node_at nodes n) ≤ a)
free_apart shape nodes size a n free some there =
    let node : Node = node_at nodes n in
    let contains : Contains (extents_of nodes) (extent_of node) = contains_extent nodes n there in
    elim (cases_lt node.place (a + size)) [
      | inr after ↦ inl after
      | inl starts ↦
          elim (cases_lt a (node.place + size_of node)) [
            | inr before ↦ inr before
            | inl ends ↦
                elim (cases_lt a node.place) [
                  | inl later ↦ absurd (free.free node.place (omega arith) starts (extent_of node, contains, (omega arith, omega arith)))
                  | inr sooner ↦ absurd (free.free a (omega arith) (omega arith) (extent_of node, contains, (sooner, ends)))
                ]
          ]
    ]
