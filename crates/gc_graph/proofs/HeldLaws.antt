-- What is told to be held is what the nodes that are there have: their number, their words and their pages.
use Rattle.std.proofs.Common.{◌≡◌, ℕ, suc, ◌+◌, ◌<◌, ◌≤◌, Bool, true, false, List, [], ◌∷◌, length, filter, get_or, refl, sym, ap, ◌∙◌, arith, cond}
use Rattle.std.specs.List.{count_by, sum_by, range_with_len}
use Rattle.std.specs.List.Sorted.{IsStrictlyIncreasing}
use Rattle.std.proofs.lemmas.List.FromFn.{get_or-range_with_len, length-range_with_len}
use Rattle.std.proofs.lemmas.List.Kept.{IsStrictlyIncreasing-filter}
use Rattle.std.proofs.lemmas.List.Sums.{sum_by-cons, length-filter}
use Rattle.gc_graph.specs.State.{Shape, Node, node_at, is_there, size_of, objects_of, used_of}
use Rattle.gc_graph.specs.Placement.{Extent, extents_of, UsesPage, IsUsedPages}
use Rattle.gc_graph.specs.Pages.{IsInPage}
use Rattle.gc_graph.specs.Members.{was_in, has_passed, stays_in, in_range, below_ranged}
use Rattle.gc_graph.specs.NodeNumbers.{there_below}
use Rattle.gc_graph.specs.HeldLaw.{AreThere, AreInUse, HoldsSoMuch, StatsTellWhatIsHeld, EndsTellWhatIsHeld}
use Rattle.gc_graph.proofs.PurePages.{IsExtentOf, node_of_extent, page_is_used}

-- ---- sums over the items of a list, by their numbers

pub up_range : (n : ℕ) → IsStrictlyIncreasing (range_with_len 0 n)
up_range n k low =
    let whole = length-range_with_len 0 n in
    let one = get_or-range_with_len 0 n k 0 (omega (arith, low, whole)) in
    let next = get_or-range_with_len 0 n (k + 1) 0 (omega (arith, low, whole)) in
    omega (arith, one, next)

sum_chosen : {X : Type 0} (f : X → ℕ) (b : Bool) (x : X) (rest : List X) → sum_by f (cond b (x ∷ rest) rest) ≡ cond b (f x) 0 + sum_by f rest
sum_chosen f true x rest = sum_by-cons f x rest
sum_chosen f false x rest = omega arith

sum_filter : {X : Type 0} (f : X → ℕ) (p : X → Bool) (xs : List X) → sum_by f (filter p xs) ≡ sum_by (λ x. cond (p x) (f x) 0) xs
sum_filter f p [] = refl
sum_filter f p (x ∷ xs) =
    sum_chosen f (p x) x (filter p xs) ∙ ap (λ n. cond (p x) (f x) 0 + n) (sum_filter f p xs) ∙ sym (sum_by-cons (λ y. cond (p y) (f y) 0) x xs)

sum_from : {X : Type 0} (g : X → ℕ) (at : ℕ → X) (d : X) (a : ℕ) (xs : List X) → ((i : ℕ) → at (a + i) ≡ get_or xs i d)
    → sum_by (λ i. g (at i)) (range_with_len a (length xs)) ≡ sum_by g xs
sum_from g at d a [] same = refl
sum_from g at d a (x ∷ xs) same =
    let here : at a ≡ x = ap at (omega arith) ∙ same 0 in
    let rest : sum_by (λ i. g (at i)) (range_with_len (a + 1) (length xs)) ≡ sum_by g xs =
    sum_from g at d (a + 1) xs (λ i. ap at (omega arith) ∙ same (suc i)) in
    sum_by-cons (λ i. g (at i)) a (range_with_len (a + 1) (length xs)) ∙ ap (λ n. n + sum_by (λ i. g (at i)) (range_with_len (a + 1) (length xs))) (ap g here)
    ∙ ap (λ n. g x + n) rest ∙ sym (sum_by-cons g x xs)

sum_at : {X : Type 0} (g : X → ℕ) (d : X) (xs : List X) → sum_by (λ i. g (get_or xs i d)) (range_with_len 0 (length xs)) ≡ sum_by g xs
sum_at g d xs = sum_from g (λ i. get_or xs i d) d 0 xs (λ i. ap (λ k. get_or xs k d) (omega arith))

count_at : {X : Type 0} (p : X → Bool) (d : X) (xs : List X) → length (filter (λ i. p (get_or xs i d)) (range_with_len 0 (length xs))) ≡ count_by p xs
count_at p d xs = length-filter (λ i. p (get_or xs i d)) (range_with_len 0 (length xs)) ∙ sum_at (λ x. cond (p x) 1 0) d xs

-- ---- nodes

abbrev there_of : List Node → List ℕ
there_of nodes = filter (λ n. is_there (node_at nodes n).life) (range_with_len 0 (length nodes))

are_there : (nodes : List Node) → AreThere nodes (there_of nodes)
are_there nodes = record {
  ascending = IsStrictlyIncreasing-filter (λ n. is_there (node_at nodes n).life) (range_with_len 0 (length nodes)) (up_range (length nodes));
  each = λ n c. has_passed (λ n. is_there (node_at nodes n).life) (range_with_len 0 (length nodes)) n c;
  whole = λ n there.
      stays_in (λ n. is_there (node_at nodes n).life) (range_with_len 0 (length nodes)) n (below_ranged (length nodes) n (there_below nodes n there)) there;
}

-- ---- pages

in_page : (shape : Shape) (nodes : List Node) (page : ℕ) → UsesPage shape (extents_of nodes) page
    → (n : ℕ) × IsInPage shape.page_words (node_at nodes n) page
in_page shape nodes page h =
    let taken = h.3 in
    let found : IsExtentOf nodes taken.0 = node_of_extent nodes taken.0 taken.1 in
    let place : (node_at nodes found.node).place ≡ taken.0.place = ap (λ (x : Extent). x.place) found.same in
    let size : size_of (node_at nodes found.node) ≡ taken.0.size = ap (λ (x : Extent). x.size) found.same in
    let begins : taken.0.place ≤ h.0 = taken.2.0 in
    let ends : h.0 < taken.0.place + taken.0.size = taken.2.1 in
    (found.node, record { there = found.there; word = h.0; first = h.1; last = h.2; has = (omega arith, omega arith) })

is_set : (b : Bool) → (b ≡ false → ⊥) → b ≡ true
is_set true out = refl
is_set false out = absurd (out refl)

module _ (shape : Shape) (nodes : List Node) (g : ℕ) (h : IsUsedPages shape (extents_of nodes) g) where
  abbrev set_pages : List ℕ
  set_pages = filter (λ page. get_or h.flags page false) (range_with_len 0 (length h.flags))

  are_in_use : AreInUse shape nodes set_pages
  are_in_use =
      let whole : length h.flags ≡ shape.pages = h.whole in
      let all : List ℕ = range_with_len 0 (length h.flags) in
      let test : ℕ → Bool = λ page. get_or h.flags page false in
      record {
        ascending = IsStrictlyIncreasing-filter test all (up_range (length h.flags));
        within = λ page c. (let low = (in_range 0 (length h.flags) page (was_in test all page c)).1 in omega (arith, low, whole));
        each = λ page c. in_page shape nodes page (h.used page (has_passed test all page c));
        whole = λ page n low k.
            stays_in test all page (below_ranged (length h.flags) page (omega (arith, low, whole)))
            (is_set (test page) (λ off. h.empty page low off (k.word, k.first, k.last, page_is_used shape.page_words nodes page n k)));
      }

  holds : HoldsSoMuch shape nodes (objects_of nodes) (used_of nodes) g
  holds = record {
    numbers = there_of nodes;
    there = are_there nodes;
    objects_are = sym (count_at (λ (n : Node). is_there n.life) _ nodes);
    words_are =
        sym (sum_filter (λ n. size_of (node_at nodes n)) (λ n. is_there (node_at nodes n).life) (range_with_len 0 (length nodes))
        ∙ sum_at (λ (n : Node). cond (is_there n.life) (size_of n) 0) _ nodes);
    used = set_pages;
    in_use = are_in_use;
    pages_are = h.count ∙ sym (count_at (λ flag. flag) false h.flags);
  }

pub stats_tell_what_is_held : StatsTellWhatIsHeld
stats_tell_what_is_held setup old new piece lines h =
    (objects_of old.nodes, used_of old.nodes, h.1.0, h.1.2, holds setup.shape old.nodes h.1.0 h.1.1)

pub ends_tell_what_is_held : EndsTellWhatIsHeld
ends_tell_what_is_held setup s end h =
    (objects_of s.nodes, used_of s.nodes, h.0, h.2, holds setup.shape s.nodes h.0 h.1, refl)
