-- Placement in an open sweep, page by page.
use Rattle.std.proofs.Common.{◌≡◌, ℕ, suc, ◌+◌, ◌*◌, ◌<◌, ◌≤◌, true, List, [], ◌∷◌, ◌++◌, map, Option, Some, None, refl, sym, ap, ◌∙◌, subst, inl, inr, arith, cond, ltb, eqb, mul-le-mul_right}
use Rattle.std.specs.List.{Contains}
use Rattle.std.specs.Prelude.{IfSome, IfNone}
use Rattle.std.proofs.lemmas.Bool.{cases_Bool, cases_lt, cond_both, cond-false, lt-ltb, ltb-true, ne_eqb}
use Rattle.gc_graph.specs.declared.phase.Phase.{Phase}
use Rattle.gc_graph.specs.declared.phase.Phase.TheVariants.{Idle, Marking, Sweeping}
use Rattle.gc_graph.specs.State.{Shape, State, Node, Life, node_at, is_there, IsDead}
use Rattle.gc_graph.specs.State.Life.{Live, Dead, Gone}
use Rattle.gc_graph.specs.Placement.{Extent, extent_of, extents_of, IsRun, Fits, StartsEmptyRun, IsLowest, IsNowhere, IsPlaceFor, IsPlacement}
use Rattle.gc_graph.specs.Sweep.{buried, finalise, phase_at, pages_swept_in, swept_pages, AreDeadInOrder, SweepsInPhase, SweepsTo}
use Rattle.gc_graph.specs.SweepLaw.{SweepsJoin, SweepIsOne}
use Rattle.gc_graph.specs.Valid.{IsSettled}
use Rattle.heap_roots.specs.Space.{FitsBetween}
use Rattle.heap_cycle.specs.Finalising.{IsSearched}
use Rattle.gc_graph.specs.FinalisedNodes.{there_earlier}
use Rattle.gc_graph.specs.Members.{Contains-cons, Contains-cons_cases}

from_all : (shape : Shape) (pages : ℕ) (es : List Extent) (size a : ℕ) → FitsBetween shape 0 pages es size a → Fits shape pages es size a
from_all shape pages es size a fits = (fits.0, (fits.1.0, fits.1.2, fits.1.3))

to_all : (shape : Shape) (pages : ℕ) (es : List Extent) (size a : ℕ) → Fits shape pages es size a → FitsBetween shape 0 pages es size a
to_all shape pages es size a fits = (fits.0, (fits.1.0, omega arith, fits.1.1, fits.1.2))

-- ---- where nothing is to be swept

buried_same : (l : Life) → (l ≡ Dead → ⊥) → buried l ≡ l
buried_same Live alive = refl
buried_same Dead alive = absurd (alive refl)
buried_same Gone alive = refl

-- a node that isn't dead below the limit stays as it is
finalise_same : (limit : ℕ) (x : Node) → (x.life ≡ Dead → limit ≤ x.place) → finalise limit x ≡ x
finalise_same limit x high =
    cond_both (ltb x.place limit) (record x { life = buried x.life }) x (λ y. y ≡ x)
    (λ below.
    ap (λ l. (let y : Node = record x { life = l } in y))
    (buried_same x.life (λ dead. absurd (omega (arith, ltb-true x.place limit below, high dead)))))
    (λ past. refl)

none_finalised : (limit : ℕ) (nodes : List Node) → ((n : ℕ) → IsDead nodes n → limit ≤ (node_at nodes n).place) → map (finalise limit) nodes ≡ nodes
none_finalised limit [] high = refl
none_finalised limit (x ∷ nodes) high =
    ap (λ y. y ∷ map (finalise limit) nodes) (finalise_same limit x (high 0))
    ∙ ap (λ ns. x ∷ ns) (none_finalised limit nodes (λ n dead. high (suc n) dead))

none_dead : (nodes : List Node) (limit : ℕ) → ((n : ℕ) → IsDead nodes n → limit ≤ (node_at nodes n).place) → AreDeadInOrder nodes limit []
none_dead nodes limit high = record {
  dead = λ k d l. absurd (omega (arith, l));
  whole = λ n is. absurd (omega (arith, is.below, high n is.dead));
  ascending = λ i j l m. absurd (omega (arith, m));
}

sweeps_nothing_in : (phase : Phase) (shape : Shape) (s : State) → s.phase ≡ phase → IsSettled shape phase s.cursor s.nodes
    → SweepsInPhase phase shape s (pages_swept_in phase shape.pages s.cursor) [] s
sweeps_nothing_in Idle shape s is settled = (refl, refl)
sweeps_nothing_in Marking shape s is settled = (refl, refl)
sweeps_nothing_in Sweeping shape s is settled =
    let limit : ℕ = s.cursor * shape.page_words in
    let build : List Node → Phase → ℕ → State = λ nodes ph finalised. record s { nodes = nodes; phase = ph; finalised = finalised } in
    let phase : s.phase ≡ phase_at shape s.cursor =
    is ∙ sym (cond-false (eqb s.cursor shape.pages) Idle Sweeping (ne_eqb s.cursor shape.pages (λ end. omega (arith, settled.0, end)))) in
    record {
      finalised = none_dead s.nodes limit settled.1;
      after =
          ap (λ nodes. build nodes s.phase s.finalised) (sym (none_finalised limit s.nodes settled.1))
          ∙ ap (λ ph. build (map (finalise limit) s.nodes) ph s.finalised) phase
          ∙ ap (build (map (finalise limit) s.nodes) (phase_at shape s.cursor)) (let none : s.finalised ≡ s.finalised + 0 = omega arith in none);
    }

-- a sweep to the pages that are swept already changes nothing
pub sweeps_nothing : (shape : Shape) (s : State) → IsSettled shape s.phase s.cursor s.nodes → SweepsTo shape s (swept_pages shape s) [] s
sweeps_nothing shape s settled = sweeps_nothing_in s.phase shape s refl settled

swept_within_in : (phase : Phase) (shape : Shape) (cursor : ℕ) (nodes : List Node) → IsSettled shape phase cursor nodes
    → pages_swept_in phase shape.pages cursor ≤ shape.pages
swept_within_in Idle shape cursor nodes settled = omega arith
swept_within_in Marking shape cursor nodes settled = omega arith
swept_within_in Sweeping shape cursor nodes settled = omega (arith, settled.0)

-- no more pages are swept than there are
pub swept_within : (shape : Shape) (s : State) → IsSettled shape s.phase s.cursor s.nodes → swept_pages shape s ≤ shape.pages
swept_within shape s settled = swept_within_in s.phase shape s.cursor s.nodes settled

-- ---- the pages that are swept already

-- the object fits in none of the pages that are swept already: the search begins
pub search_begins : (shape : Shape) (s : State) (size : ℕ) → SweepIsOne → IsSettled shape s.phase s.cursor s.nodes
    → IsNowhere (FitsBetween shape 0 (swept_pages shape s) (extents_of s.nodes) size) → IsSearched shape s size (swept_pages shape s) [] s
search_begins shape s size one settled none =
    let pages : ℕ = swept_pages shape s in
    record {
      forward = omega arith;
      within = swept_within shape s settled;
      swept = sweeps_nothing shape s settled;
      nowhere = λ fewer before t least most goes a fits.
          let same : fewer ≡ pages = omega (arith, least, most) in
          let there : SweepsTo shape s pages before t = subst (λ n. SweepsTo shape s n before t) same goes in
          let is : t ≡ s = (one shape s t s pages before [] there (sweeps_nothing shape s settled)).1 in
          let fits_now : Fits shape pages (extents_of s.nodes) size a =
          subst (λ n. Fits shape n (extents_of s.nodes) size a) same (subst (λ (u : State). Fits shape fewer (extents_of u.nodes) size a) is fits) in
          none a (to_all shape pages (extents_of s.nodes) size a fits_now);
    }

-- the object fits in the pages that are swept already: nothing is swept
pub found_at_once : (shape : Shape) (s : State) (size a : ℕ) → IsSettled shape s.phase s.cursor s.nodes
    → IsLowest (FitsBetween shape 0 (swept_pages shape s) (extents_of s.nodes) size) a → IsPlacement shape s size [] s (Some a)
found_at_once shape s size a settled found =
    let pages : ℕ = swept_pages shape s in
    record {
      pages = pages;
      forward = omega arith;
      within = swept_within shape s settled;
      swept = sweeps_nothing shape s settled;
      no_sooner = λ fewer before mid least less goes. absurd (omega (arith, least, less));
      placed = inl (
        from_all shape pages (extents_of s.nodes) size a found.0,
        λ b low fits. found.1 b low (to_all shape pages (extents_of s.nodes) size b fits),
      );
    }

-- ---- a page makes no room in those before it

-- an extent of one list is one of the other, where the two first nodes have the same, and so for the others
extent_kept : (x y : Node) (es ds : List Extent) (e : Extent) → extent_of x ≡ extent_of y → (extent_of x ≡ e → is_there x.life ≡ true → is_there y.life ≡ true)
    → (Contains es e → Contains ds e) → Contains (cond (is_there x.life) (extent_of x ∷ es) es) e → Contains (cond (is_there y.life) (extent_of y ∷ ds) ds) e
extent_kept x y es ds e same stays rest c =
    let among : Contains es e → Contains (cond (is_there y.life) (extent_of y ∷ ds) ds) e = λ old.
    cond_both (is_there y.life) (extent_of y ∷ ds) ds (λ l. Contains l e) (λ there. Contains-cons (extent_of y) ds e (rest old)) (λ gone. rest old) in
    elim (cases_Bool (is_there x.life)) [
      | inl there ↦ elim (Contains-cons_cases (extent_of x) es e (subst (λ b. Contains (cond b (extent_of x ∷ es) es) e) there c)) [
        | inl here ↦ subst (λ b. Contains (cond b (extent_of y ∷ ds) ds) e) (sym (stays here there)) (0, omega arith, sym same ∙ here)
        | inr later ↦ among later
      ]
      | inr gone ↦ among (subst (λ b. Contains (cond b (extent_of x ∷ es) es) e) gone c)
    ]

same_extent : (limit more : ℕ) (x : Node) → extent_of (finalise limit x) ≡ extent_of (finalise more x)
same_extent limit more x =
    cond_both (ltb x.place limit) (record x { life = buried x.life }) x (λ y. extent_of y ≡ extent_of (finalise more x))
    (λ below. cond_both (ltb x.place more) (record x { life = buried x.life }) x (λ y. extent_of x ≡ extent_of y) (λ is. refl) (λ is. refl))
    (λ past. cond_both (ltb x.place more) (record x { life = buried x.life }) x (λ y. extent_of x ≡ extent_of y) (λ is. refl) (λ is. refl))

-- below the end of the shorter sweep a node is the same after both
there_later : (limit more : ℕ) (x : Node) → limit ≤ more → x.place < limit → is_there (finalise limit x).life ≡ true → is_there (finalise more x).life ≡ true
there_later limit more x l low there =
    subst (λ b. is_there (cond b (record x { life = buried x.life }) x).life ≡ true) (lt-ltb x.place limit low ∙ sym (lt-ltb x.place more (omega (arith, l)))) there

place_finalised : (limit : ℕ) (x : Node) → (finalise limit x).place ≡ x.place
place_finalised limit x =
    cond_both (ltb x.place limit) (record x { life = buried x.life }) x (λ y. y.place ≡ x.place) (λ below. refl) (λ past. refl)

extent_sooner : (limit more : ℕ) (nodes : List Node) (e : Extent) → limit ≤ more
    → Contains (extents_of (map (finalise more) nodes)) e → Contains (extents_of (map (finalise limit) nodes)) e
extent_sooner limit more [] e l c = c
extent_sooner limit more (x ∷ nodes) e l c =
    extent_kept (finalise more x) (finalise limit x) (extents_of (map (finalise more) nodes)) (extents_of (map (finalise limit) nodes)) e
    (same_extent more limit x) (λ is. there_earlier limit more x l) (extent_sooner limit more nodes e l) c

extent_later : (limit more : ℕ) (nodes : List Node) (e : Extent) → limit ≤ more → e.place < limit
    → Contains (extents_of (map (finalise limit) nodes)) e → Contains (extents_of (map (finalise more) nodes)) e
extent_later limit more [] e l low c = c
extent_later limit more (x ∷ nodes) e l low c =
    extent_kept (finalise limit x) (finalise more x) (extents_of (map (finalise limit) nodes)) (extents_of (map (finalise more) nodes)) e
    (same_extent limit more x)
    (λ is. there_later limit more x l (omega (arith, low, ap (λ (d : Extent). d.place) is, place_finalised limit x)))
    (extent_later limit more nodes e l low) c

-- room in a page below the end of the shorter sweep was there after this one already
run_sooner : (limit more : ℕ) (nodes : List Node) (words size page a : ℕ) → limit ≤ more → (page + 1) * words ≤ limit
    → IsRun words (extents_of (map (finalise more) nodes)) size page a → IsRun words (extents_of (map (finalise limit) nodes)) size page a
run_sooner limit more nodes words size page a l within run =
    let has = run.bucket in
    record {
      bucket = (has.0, has.1, extent_sooner limit more nodes has.0 l has.2, has.3, has.4, has.5, has.6);
      first = run.first;
      last = run.last;
      free = λ x low high taken.
          run.free x low high (taken.0, extent_later limit more nodes taken.0 l (omega (arith, taken.2.0, high, run.last, within)) taken.1, taken.2);
    }

run_sooner_in : (phase : Phase) (shape : Shape) (old mid next : State) (size k page a : ℕ) (numbers others : List ℕ) → pages_swept_in phase shape.pages old.cursor ≤ k
    → k < shape.pages → page < k → SweepsInPhase phase shape old k numbers mid → SweepsInPhase phase shape old (k + 1) others next
    → IsRun shape.page_words (extents_of next.nodes) size page a → IsRun shape.page_words (extents_of mid.nodes) size page a
run_sooner_in Idle shape old mid next size k page a numbers others least below under swept goes run = absurd (omega (arith, least, below))
run_sooner_in Marking shape old mid next size k page a numbers others least below under swept goes run = absurd (omega (arith, least, below))
run_sooner_in Sweeping shape old mid next size k page a numbers others least below under swept goes run =
    let words : ℕ = shape.page_words in
    subst (λ (s : State). IsRun words (extents_of s.nodes) size page a) (sym swept.after)
    (run_sooner (k * words) ((k + 1) * words) old.nodes words size page a (mul-le-mul_right words (omega arith)) (mul-le-mul_right words (omega (arith, under)))
    (subst (λ (s : State). IsRun words (extents_of s.nodes) size page a) goes.after run))

-- ---- the next page

sweeps_on : (shape : Shape) (old mid next : State) (size k : ℕ) (numbers more : List ℕ) → SweepsJoin → IsSearched shape old size k numbers mid → k < shape.pages
    → SweepsTo shape mid (k + 1) more next → SweepsTo shape old (k + 1) (numbers ++ more) next
sweeps_on shape old mid next size k numbers more join searched below goes =
    join shape old mid next k (k + 1) numbers more (omega arith) (omega (arith, below)) searched.swept goes

-- where the object fits after one page more, it fits in this page
fits_in_last : (shape : Shape) (old mid next : State) (size k a : ℕ) (numbers more : List ℕ) → SweepsJoin → IsSearched shape old size k numbers mid → k < shape.pages
    → SweepsTo shape mid (k + 1) more next → Fits shape (k + 1) (extents_of next.nodes) size a → FitsBetween shape k (k + 1) (extents_of next.nodes) size a
fits_in_last shape old mid next size k a numbers more join searched below goes fits =
    let page : ℕ = fits.1.0 in
    elim (cases_lt page k) [
      | inl under ↦
          (let there : SweepsTo shape old (k + 1) (numbers ++ more) next = sweeps_on shape old mid next size k numbers more join searched below goes in
          let run : IsRun shape.page_words (extents_of mid.nodes) size page a =
          run_sooner_in old.phase shape old mid next size k page a numbers (numbers ++ more) searched.forward below under searched.swept there fits.1.2 in
          absurd (searched.nowhere k numbers mid searched.forward (omega arith) searched.swept a (fits.0, (page, under, run))))
      | inr over ↦ (fits.0, (page, over, fits.1.1, fits.1.2))
    ]

-- the object doesn't fit in the next page: the search goes on
pub search_goes_on : (shape : Shape) (old mid next : State) (size k : ℕ) (numbers more : List ℕ) → SweepsJoin → SweepIsOne → IsSearched shape old size k numbers mid
    → k < shape.pages → SweepsTo shape mid (k + 1) more next → IsNowhere (FitsBetween shape k (k + 1) (extents_of next.nodes) size)
    → IsSearched shape old size (k + 1) (numbers ++ more) next
search_goes_on shape old mid next size k numbers more join one searched below goes none =
    let there : SweepsTo shape old (k + 1) (numbers ++ more) next = sweeps_on shape old mid next size k numbers more join searched below goes in
    record {
      forward = omega (arith, searched.forward);
      within = omega (arith, below);
      swept = there;
      nowhere = λ fewer before s least most to a fits.
          elim (cases_lt k fewer) [
            | inr sooner ↦ searched.nowhere fewer before s least sooner to a fits
            | inl last ↦
                (let same : fewer ≡ k + 1 = omega (arith, last, most) in
                let is : s ≡ next = (one shape old s next (k + 1) before (numbers ++ more) (subst (λ n. SweepsTo shape old n before s) same to) there).1 in
                let fits_now : Fits shape (k + 1) (extents_of next.nodes) size a =
                subst (λ n. Fits shape n (extents_of next.nodes) size a) same (subst (λ (t : State). Fits shape fewer (extents_of t.nodes) size a) is fits) in
                none a (fits_in_last shape old mid next size k a numbers more join searched below goes fits_now))
          ];
    }

-- the object fits in the next page: it is placed there
pub found_in_page : (shape : Shape) (old mid next : State) (size k a : ℕ) (numbers more : List ℕ) → SweepsJoin → IsSearched shape old size k numbers mid
    → k < shape.pages → SweepsTo shape mid (k + 1) more next → IsLowest (FitsBetween shape k (k + 1) (extents_of next.nodes) size) a
    → IsPlacement shape old size (numbers ++ more) next (Some a)
found_in_page shape old mid next size k a numbers more join searched below goes found = record {
  pages = k + 1;
  forward = omega (arith, searched.forward);
  within = omega (arith, below);
  swept = sweeps_on shape old mid next size k numbers more join searched below goes;
  no_sooner = λ fewer before s least less to. searched.nowhere fewer before s least (omega (arith, less)) to;
  placed = inl (
    (found.0.0, (found.0.1.0, found.0.1.2, found.0.1.3)),
    λ b low fits. found.1 b low (fits_in_last shape old mid next size k b numbers more join searched below goes fits),
  );
}

-- ---- after the last page

empty_place : (shape : Shape) (es : List Extent) (size : ℕ) (place : Option ℕ) → IsNowhere (Fits shape shape.pages es size)
    → IfSome place (IsLowest (StartsEmptyRun shape es size)) → IfNone place (IsNowhere (StartsEmptyRun shape es size)) → IsPlaceFor shape shape.pages es size place
empty_place shape es size (Some a) nowhere found none = inr (refl, nowhere, found)
empty_place shape es size None nowhere found none = (refl, nowhere, none)

-- the object fits in no page of its bucket: it goes to the lowest empty run, or nowhere
pub found_empty : (shape : Shape) (old mid : State) (size : ℕ) (numbers : List ℕ) (place : Option ℕ) → IsSearched shape old size shape.pages numbers mid
    → IfSome place (IsLowest (StartsEmptyRun shape (extents_of mid.nodes) size)) → IfNone place (IsNowhere (StartsEmptyRun shape (extents_of mid.nodes) size))
    → IsPlacement shape old size numbers mid place
found_empty shape old mid size numbers place searched found none = record {
  pages = shape.pages;
  forward = searched.forward;
  within = searched.within;
  swept = searched.swept;
  no_sooner = λ fewer before s least less to. searched.nowhere fewer before s least (omega (arith, less)) to;
  placed = empty_place shape (extents_of mid.nodes) size place
      (searched.nowhere shape.pages numbers mid searched.forward (omega arith) searched.swept) found none;
}
