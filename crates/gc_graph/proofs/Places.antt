-- Placement gives free words, and a page where the size may go.
use Rattle.std.proofs.Common.{◌≡◌, ℕ, zero, suc, ◌+◌, ◌*◌, ◌/◌, ◌<◌, ◌≤◌, ◌&&◌, List, refl, sym, ◌∙◌, subst, inl, inr, arith, add-mul, mul-le-mul_right, leb, ltb}
use Rattle.std.proofs.lemmas.Bool.{cases_lt, and_parts, leb-true, ltb-true}
use Rattle.gc_graph.specs.State.{Shape, Node, node_at, is_there, size_of}
use Rattle.gc_graph.specs.Placement.{extent_of, extents_of, IsRun, Fits, IsPageCount, StartsEmptyRun}
use Rattle.gc_graph.specs.Pages.{IsInPage, ArePure}
use Rattle.gc_graph.specs.PlacementLaw.{AreFree, GoesBySize, PlacementIsFree, PagesHaveOneBucket}
use Rattle.gc_graph.proofs.Sound.{IsSound, sound_from}
use Rattle.gc_graph.proofs.FreePlaces.{contains_extent, IsFreeAt, place_free}
use Rattle.gc_graph.proofs.PurePages.{page_is_used, IsBucketNode, bucket_node, SharesWell, fit_shares}
use Rattle.gc_graph.proofs.ValidSweeps.{sweeps_sound}

-- free words are words of no node that is there
are_free : (shape : Shape) (nodes : List Node) (size a : ℕ) → IsFreeAt shape (extents_of nodes) size a → AreFree nodes size a
are_free shape nodes size a free n x low high c =
    let node : Node = node_at nodes n in
    let there = and_parts (is_there node.life) (leb node.place x && ltb x (node.place + size_of node)) c in
    let both = and_parts (leb node.place x) (ltb x (node.place + size_of node)) there.1 in
    free.free x low high
    (extent_of node, contains_extent nodes n there.0, (leb-true node.place x both.0, ltb-true x (node.place + size_of node) both.1))

-- ---- by the size

fit_by_size : (shape : Shape) (pages : ℕ) (nodes : List Node) (size a : ℕ) → ArePure shape.page_words nodes → pages ≤ shape.pages → 0 < size
    → Fits shape pages (extents_of nodes) size a → GoesBySize shape nodes size a
fit_by_size shape pages nodes size a pure most some h =
    let page : ℕ = h.1.0 in
    let below : page < pages = h.1.1 in
    let run : IsRun shape.page_words (extents_of nodes) size page a = h.1.2 in
    let first : page * shape.page_words ≤ a = run.first in
    let last : a + size ≤ (page + 1) * shape.page_words = run.last in
    let shares : SharesWell shape.page_words nodes size a = fit_shares shape pages nodes size a pure h in
    inl (
      h.0,
      record {
        lies = record { page = page; within = omega arith; first = first; last = last };
        one_bucket = λ n k. (shares page a n first (omega arith) (omega arith) (omega arith) k).0;
      },
    )

-- a run of pages that is enough for at most half a page has one
one_page : (words size count : ℕ) → 0 < size → size ≤ words / 2 → IsPageCount words size count → count ≡ 1
one_page words size zero some small enough = absurd (omega (arith, enough.0))
one_page words size (suc zero) some small enough = refl
one_page words size (suc (suc more)) some small enough =
    let two : 2 * words ≤ suc (suc more) * words = mul-le-mul_right words (omega arith) in
    absurd (omega (arith, enough.1))

empty_by_size : (shape : Shape) (nodes : List Node) (size a : ℕ) → 0 < size → StartsEmptyRun shape (extents_of nodes) size a
    → GoesBySize shape nodes size a
empty_by_size shape nodes size a some h =
    let words : ℕ = shape.page_words in
    let first : a ≡ h.page * words = h.first in
    let nobody : (i n : ℕ) → i < h.count → IsInPage words (node_at nodes n) (h.page + i) → ⊥ =
    (λ i n l k. h.empty i l (k.word, k.first, k.last, page_is_used words nodes (h.page + i) n k)) in
    elim (cases_lt (words / 2) size) [
      | inl large ↦ inr (
        large,
        record {
          takes = record { page = h.page; count = h.count; within = h.within; first = h.first; enough = h.enough.0; least = h.enough.1 };
          empty = nobody;
        },
      )
      | inr small ↦
          (let one : h.count ≡ 1 = one_page words size h.count some small h.enough in
          let within : h.page + h.count ≤ shape.pages = h.within in
          let next : (h.page + 1) * words ≡ h.page * words + 1 * words = add-mul h.page 1 words in
          inl (
            small,
            record {
              lies = record { page = h.page; within = omega arith; first = omega arith; last = omega arith };
              one_bucket = λ n k. absurd (nobody 0 n (omega arith) (subst (IsInPage words (node_at nodes n)) (omega arith) k));
            },
          ))
    ]

pub placement_is_free : PlacementIsFree
placement_is_free setup old mid size a numbers valid some p =
    let sound : IsSound setup mid = sweeps_sound setup old mid old.phase p.pages numbers (sound_from setup old valid) p.within p.swept in (
      elim p.placed [
        | inl fits ↦ fit_by_size setup.shape p.pages mid.nodes size a sound.heap.pure p.within some fits.0
        | inr empty ↦ empty_by_size setup.shape mid.nodes size a some empty.2.0
      ],
      are_free setup.shape mid.nodes size a (place_free setup.shape p.pages (extents_of mid.nodes) size a p.within p.placed),
    )

pub pages_have_one_bucket : PagesHaveOneBucket
pages_have_one_bucket setup s page one other valid h k =
    let words : ℕ = setup.shape.page_words in
    let m : IsBucketNode words s.nodes page one = bucket_node words s.nodes page one h in
    let n : IsBucketNode words s.nodes page other = bucket_node words s.nodes page other k in
    sym m.is ∙ valid.pure.one_bucket page m.node n.node m.in_page n.in_page ∙ n.is
