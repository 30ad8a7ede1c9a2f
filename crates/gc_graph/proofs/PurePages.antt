-- Pages are pure: which objects share a page with a new one, and the bucket of a page.
use Rattle.std.proofs.Common.{◌≡◌, ℕ, zero, suc, ◌+◌, ◌*◌, ◌<◌, ◌≤◌, true, List, [], ◌∷◌, Contains, ap, ◌∙◌, subst, Some, inl, inr, arith, add-mul}
use Rattle.std.proofs.lemmas.Bool.{cond_both}
use Rattle.gc_graph.specs.State.{Shape, Node, node_at, is_there, size_of}
use Rattle.gc_graph.specs.Placement.{Extent, extent_of, extents_of, IsTaken, bucket_of, PageHasBucket, IsRun, Fits, StartsEmptyRun, IsPlaceFor}
use Rattle.gc_graph.specs.Pages.{IsInPage, bucket_of_node, ArePure}
use Rattle.gc_graph.specs.Valid.{IsThere}
use Rattle.gc_graph.specs.PageNumbers.{same_page, small_bucket}
use Rattle.gc_graph.proofs.FreePlaces.{page_of, contains_extent}

-- ---- the words of a node, and back

-- the words belong to a node that is there
pub record IsExtentOf (nodes : List Node) (e : Extent) : Type 0 where
  pub node : ℕ
  pub there : IsThere nodes node
  pub same : extent_of (node_at nodes node) ≡ e

later_extent : (node : Node) (nodes : List Node) (e : Extent) → IsExtentOf nodes e → IsExtentOf (node ∷ nodes) e
later_extent node nodes e h = record { node = suc h.node; there = h.there; same = h.same }

first_extent : (node : Node) (nodes : List Node) (e : Extent) (rest : List Extent) → is_there node.life ≡ true → (Contains rest e → IsExtentOf nodes e)
    → Contains (extent_of node ∷ rest) e → IsExtentOf (node ∷ nodes) e
first_extent node nodes e rest there more (zero, l, is) = record { node = 0; there = there; same = is }
first_extent node nodes e rest there more (suc i, l, is) = later_extent node nodes e (more (i, omega arith, is))

pub node_of_extent : (nodes : List Node) (e : Extent) → Contains (extents_of nodes) e → IsExtentOf nodes e
node_of_extent [] e h = absurd (omega (arith, h.1))
node_of_extent (node ∷ nodes) e h =
    cond_both (is_there node.life) (extent_of node ∷ extents_of nodes) (extents_of nodes) (λ list. Contains list e → IsExtentOf (node ∷ nodes) e)
    (λ there c. first_extent node nodes e (extents_of nodes) there (node_of_extent nodes e) c)
    (λ gone c. later_extent node nodes e (node_of_extent nodes e c)) h

-- a node in the page that has the bucket
pub record IsBucketNode (words : ℕ) (nodes : List Node) (page bucket : ℕ) : Type 0 where
  pub node : ℕ
  pub in_page : IsInPage words (node_at nodes node) page
  pub is : bucket_of_node words (node_at nodes node) ≡ bucket

pub bucket_node : (words : ℕ) (nodes : List Node) (page bucket : ℕ) → PageHasBucket words (extents_of nodes) page bucket → IsBucketNode words nodes page bucket
bucket_node words nodes page bucket h =
    let found : IsExtentOf nodes h.0 = node_of_extent nodes h.0 h.2 in
    let place : (node_at nodes found.node).place ≡ h.0.place = ap (λ (x : Extent). x.place) found.same in
    let size : size_of (node_at nodes found.node) ≡ h.0.size = ap (λ (x : Extent). x.size) found.same in
    let begins : h.0.place ≤ h.1 = h.3.0 in
    let ends : h.1 < h.0.place + h.0.size = h.3.1 in
    record {
      node = found.node;
      in_page = record { there = found.there; word = h.1; first = h.4; last = h.5; has = (omega arith, omega arith) };
      is = ap (bucket_of words) size ∙ h.6;
    }

-- a node in a page uses it
pub page_is_used : (words : ℕ) (nodes : List Node) (page n : ℕ) (h : IsInPage words (node_at nodes n) page) → IsTaken (extents_of nodes) h.word
page_is_used words nodes page n h = (extent_of (node_at nodes n), contains_extent nodes n h.there, h.has)

-- ---- which objects share a page with a new one

-- a node in a page of the words from a is of the size's bucket, and they aren't large
abbrev pub SharesWell : ℕ → List Node → ℕ → ℕ → Type 0
SharesWell words nodes size a =
    (page x n : ℕ) → page * words ≤ x → x < (page + 1) * words → a ≤ x → x < a + size → IsInPage words (node_at nodes n) page
    → (bucket_of_node words (node_at nodes n) ≡ bucket_of words size) × (bucket_of words size ≡ 4 → ⊥)

pub fit_shares : (shape : Shape) (pages : ℕ) (nodes : List Node) (size a : ℕ) → ArePure shape.page_words nodes
    → Fits shape pages (extents_of nodes) size a → SharesWell shape.page_words nodes size a
fit_shares shape pages nodes size a pure h page x n first last low high in_page =
    let words : ℕ = shape.page_words in
    let run : IsRun words (extents_of nodes) size h.1.0 a = h.1.2 in
    let from : h.1.0 * words ≤ a = run.first in
    let until : a + size ≤ (h.1.0 + 1) * words = run.last in
    let same : page ≡ h.1.0 = same_page words page h.1.0 x first last (omega arith) (omega arith) in
    let own : IsBucketNode words nodes h.1.0 (bucket_of words size) = bucket_node words nodes h.1.0 (bucket_of words size) run.bucket in
    (pure.one_bucket h.1.0 n own.node (subst (IsInPage words (node_at nodes n)) same in_page) own.in_page ∙ own.is, small_bucket words size h.0)

empty_shares : (shape : Shape) (nodes : List Node) (size a : ℕ) → StartsEmptyRun shape (extents_of nodes) size a
    → SharesWell shape.page_words nodes size a
empty_shares shape nodes size a h page x n first last low high in_page =
    let words : ℕ = shape.page_words in
    let from : a ≡ h.page * words = h.first in
    let enough : size ≤ h.count * words = h.enough.0 in
    let sum : (h.page + h.count) * words ≡ h.page * words + h.count * words = add-mul h.page h.count words in
    let found = page_of words h.page h.count x (omega arith) (omega arith) in
    let same : page ≡ h.page + found.0 = same_page words page (h.page + found.0) x first last found.2 found.3 in
    let there : IsInPage words (node_at nodes n) (h.page + found.0) = subst (IsInPage words (node_at nodes n)) same in_page in
    absurd (h.empty found.0 found.1 (there.word, there.first, there.last, page_is_used words nodes (h.page + found.0) n there))

pub place_shares : (shape : Shape) (pages : ℕ) (nodes : List Node) (size a : ℕ) → ArePure shape.page_words nodes
    → IsPlaceFor shape pages (extents_of nodes) size (Some a) → SharesWell shape.page_words nodes size a
place_shares shape pages nodes size a pure h =
    elim h [ inl fits ↦ fit_shares shape pages nodes size a pure fits.0 | inr run ↦ empty_shares shape nodes size a run.2.0 ]
