-- The stack holds the addresses and places of its words while the nodes stay, and its pointers are found by their places.
use Rattle.std.proofs.Common.{◌≡◌, ℕ, zero, suc, ◌+◌, ◌-◌, ◌<◌, All, List, [], ◌∷◌, ◌++◌, length, map, reverse, take, drop, Some, None, refl, sym, ap, ◌∙◌, arith}
use Rattle.std.specs.List.{slice_get}
use Rattle.std.proofs.lemmas.List.{length_push, reverse-append, take_all, take-append-le}
use Rattle.std.proofs.lemmas.List.Elements.{All-head, All-tail, All-cons}
use Rattle.gc_graph.specs.State.{Node, StackWord, node_at, size_of, IsLive, stack_targets}
use Rattle.gc_graph.specs.State.StackWord.{Pointer, Number}
use Rattle.gc_graph.specs.May.{address_of}
use Rattle.gc_graph.specs.Valid.{AreLive}
use Rattle.heap_region.specs.Nodes.{place_of}
use Rattle.heap_region.specs.Objects.{IsLiveAt, StaysAt}
use Rattle.heap_roots.specs.Stack.{StackView, pointed_place, PointsInside, HoldsWords, without_last}

-- ---- the nodes stay

words_stay : (old new : List Node) (words : List StackWord) → All (StaysAt old new) (stack_targets words)
    → (map (address_of new) words ≡ map (address_of old) words) × (map (pointed_place new) words ≡ map (pointed_place old) words)
words_stay old new [] stay = (refl, refl)
words_stay old new (Pointer n offset ∷ words) stay =
    let here : place_of new n ≡ place_of old n = (All-head (StaysAt old new) n (stack_targets words) stay).0 in
    let rest = words_stay old new words (All-tail (StaysAt old new) n (stack_targets words) stay) in (
      ap (λ a. (a + offset) ∷ map (address_of new) words) here ∙ ap (λ l. (place_of old n + offset) ∷ l) rest.0,
      ap (λ a. Some a ∷ map (pointed_place new) words) here ∙ ap (λ l. Some (place_of old n) ∷ l) rest.1,
    )
words_stay old new (Number w ∷ words) stay =
    let rest = words_stay old new words stay in
    (ap (λ l. w ∷ l) rest.0, ap (λ l. None ∷ l) rest.1)

inside_still : (old new : List Node) (words : List StackWord) → All (StaysAt old new) (stack_targets words) → All (PointsInside old) words → All (PointsInside new) words
inside_still old new [] stay inside = λ k d low. absurd (omega (arith, low))
inside_still old new (Pointer n offset ∷ words) stay inside =
    let size : size_of (node_at new n) ≡ size_of (node_at old n) = (All-head (StaysAt old new) n (stack_targets words) stay).1 in
    let here : offset < size_of (node_at old n) = All-head (PointsInside old) (Pointer n offset) words inside in
    All-cons (PointsInside new) (Pointer n offset) words (omega (arith, size, here))
    (inside_still old new words (All-tail (StaysAt old new) n (stack_targets words) stay) (All-tail (PointsInside old) (Pointer n offset) words inside))
inside_still old new (Number w ∷ words) stay inside =
    All-cons (PointsInside new) (Number w) words tt (inside_still old new words stay (All-tail (PointsInside old) (Number w) words inside))

-- the stack holds its words while what they point to stays
pub words_held : (old new : List Node) (s : StackView) → All (StaysAt old new) (stack_targets s.words) → HoldsWords old s → HoldsWords new s
words_held old new s stay held =
    let same = words_stay old new s.words stay in
    record {
      addresses = held.addresses ∙ sym (ap reverse same.0);
      places = held.places ∙ sym (ap reverse same.1);
      inside = inside_still old new s.words stay held.inside;
    }

-- ---- the last word is taken away

module _ {X : Type 0} where
  all_but_last : (xs : List X) → take (length (reverse xs) - 1) (reverse xs) ≡ reverse (drop 1 xs)
  all_but_last [] = refl
  all_but_last (x ∷ xs) =
      let same : reverse (x ∷ xs) ≡ reverse xs ++ x ∷ [] = reverse-append (x ∷ []) xs in
      let count : length (reverse xs ++ x ∷ []) - 1 ≡ length (reverse xs) = omega (arith, length_push (reverse xs) x) in
      ap (λ (ys : List X). take (length ys - 1) ys) same ∙ ap (λ n. take n (reverse xs ++ x ∷ [])) count
      ∙ take-append-le (length (reverse xs)) (reverse xs) (x ∷ []) (omega arith) ∙ take_all (length (reverse xs)) (reverse xs) (omega arith)

  drop_one : {Y : Type 0} (f : X → Y) (xs : List X) → map f (drop 1 xs) ≡ drop 1 (map f xs)
  drop_one f [] = refl
  drop_one f (x ∷ xs) = refl

  all_after_first : (P : X → Type 0) (xs : List X) → All P xs → All P (drop 1 xs)
  all_after_first P [] all = all
  all_after_first P (x ∷ xs) all = All-tail P x xs all

popped_from : {X Y : Type 0} (f : X → Y) (words : List X) (held : List Y) → held ≡ reverse (map f words) → take (length held - 1) held ≡ reverse (map f (drop 1 words))
popped_from f words held is =
    ap (λ ys. take (length ys - 1) ys) is ∙ all_but_last (map f words) ∙ ap reverse (sym (drop_one f words))

-- the stack holds the words that are left
pub words_popped : (nodes : List Node) (s : StackView) → HoldsWords nodes s → HoldsWords nodes (without_last s)
words_popped nodes s held = record {
  addresses = popped_from (address_of nodes) s.words s.addresses held.addresses;
  places = popped_from (pointed_place nodes) s.words s.places held.places;
  inside = all_after_first (PointsInside nodes) s.words held.inside;
}

-- ---- a word is looked at

-- where a word has a place, it is a pointer to the live node there
pub pointer_at : (nodes : List Node) (words : List StackWord) (i a : ℕ) → AreLive nodes (stack_targets words) → slice_get (map (pointed_place nodes) words) i ≡ Some (Some a)
    → (n offset : ℕ) × (slice_get words i ≡ Some (Pointer n offset)) × IsLiveAt nodes n a
pointer_at nodes [] i a live is = cc
pointer_at nodes (Pointer n offset ∷ words) zero a live is =
    (n, offset, refl, (All-head (IsLive nodes) n (stack_targets words) live, (let same : place_of nodes n ≡ a = cc in same)))
pointer_at nodes (Number w ∷ words) zero a live is = (let never : None ≡ Some a = cc in cc)
pointer_at nodes (Pointer n offset ∷ words) (suc i) a live is = pointer_at nodes words i a (All-tail (IsLive nodes) n (stack_targets words) live) is
pointer_at nodes (Number w ∷ words) (suc i) a live is = pointer_at nodes words i a live is

-- where it has none, it is a number
pub number_without_place : (nodes : List Node) (words : List StackWord) (i : ℕ) → slice_get (map (pointed_place nodes) words) i ≡ Some None → (w : ℕ) × (slice_get words i ≡ Some (Number w))
number_without_place nodes [] i is = cc
number_without_place nodes (Pointer n offset ∷ words) zero is = (let never : Some (place_of nodes n) ≡ None = cc in cc)
number_without_place nodes (Number w ∷ words) zero is = (w, refl)
number_without_place nodes (Pointer n offset ∷ words) (suc i) is = number_without_place nodes words i is
number_without_place nodes (Number w ∷ words) (suc i) is = number_without_place nodes words i is

pub no_word : (nodes : List Node) (words : List StackWord) (i : ℕ) → slice_get (map (pointed_place nodes) words) i ≡ None → slice_get words i ≡ None
no_word nodes [] i is = refl
no_word nodes (word ∷ words) zero is = cc
no_word nodes (word ∷ words) (suc i) is = no_word nodes words i is
