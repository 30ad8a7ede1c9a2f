-- Sweeps by pages, and the one placement on the way.
use Rattle.std.proofs.Common.{◌≡◌, ℕ, ◌+◌, ◌-◌, ◌*◌, ◌/◌, ◌<◌, ◌≤◌, ◌==◌, nat_lt, true, List, [], ◌++◌, length, map, Option, Some, None, Contains, refl, sym, ap, ◌∙◌, subst, inl, inr, arith, length-append, mul-le-mul_right}
use Rattle.std.proofs.lemmas.Bool.{cases_lt, cases_eq, cases_order, cond-true, cond-false, cond_both, lt-ltb, ne_eqb}
use Rattle.std.proofs.lemmas.List.{append-nil}
use Rattle.gc_graph.specs.declared.phase.Phase.{Phase}
use Rattle.gc_graph.specs.declared.phase.Phase.TheVariants.{Idle, Marking, Sweeping}
use Rattle.gc_graph.specs.State.{Shape, State, Node, node_at, is_there}
use Rattle.gc_graph.specs.Sweep.{swept_pages, pages_swept_in, AreDeadInOrder, buried, finalise, phase_at, swept_state, ContinuesSweep, SweepsInPhase, SweepsTo}
use Rattle.gc_graph.specs.Placement.{Extent, extent_of, extents_of, IsTaken, IsRun, Fits, StartsEmptyRun, IsLowest, IsNowhere, IsPlaceFor, IsPlacement}
use Rattle.gc_graph.specs.SweepLaw.{SweepsJoin, IsSplit, SweepsSplit, SweepIsOne, PlacedInLastPage, PlacementIsOne}
use Rattle.gc_graph.specs.FinalisedNodes.{finalised_at, there_earlier}
use Rattle.gc_graph.proofs.Sweeps.{swept_phase}
use Rattle.gc_graph.proofs.FreePlaces.{contains_extent}
use Rattle.gc_graph.proofs.PurePages.{IsExtentOf, node_of_extent}
use Rattle.gc_graph.proofs.SweepOrders.{same_dead, finalised_more, joined, front_of, back_of, front, back, cut_whole}

later_page : (shape : Shape) (pages more : ℕ) → pages ≤ more → pages * shape.page_words ≤ more * shape.page_words
later_page shape pages more l = mul-le-mul_right shape.page_words l

-- the state after two sweeps
swept_twice : (shape : Shape) (old : State) (pages more : ℕ) (first second : List ℕ) → pages ≤ more
    → swept_state shape (swept_state shape old pages first) more second ≡ swept_state shape old more (first ++ second)
swept_twice shape old pages more first second l =
    let whole : length (first ++ second) ≡ length first + length second = length-append first second in
    let count : old.finalised + length first + length second ≡ old.finalised + length (first ++ second) = omega arith in
    ap (λ (nodes : List Node).
    record old { nodes = nodes; phase = phase_at shape more; cursor = more; finalised = old.finalised + length first + length second })
    (finalised_more (pages * shape.page_words) (more * shape.page_words) old.nodes (later_page shape pages more l))
    ∙ ap (λ (n : ℕ).
    record old { nodes = map (finalise (more * shape.page_words)) old.nodes; phase = phase_at shape more; cursor = more; finalised = n }) count

phase_of : (shape : Shape) (old mid : State) (pages : ℕ) (first : List ℕ) → ContinuesSweep shape old pages first mid → mid.phase ≡ phase_at shape pages
phase_of shape old mid pages first h = ap (λ (s : State). s.phase) h.after

still_sweeping : (shape : Shape) (pages : ℕ) → (pages ≡ shape.pages → ⊥) → phase_at shape pages ≡ Sweeping
still_sweeping shape pages ne = cond-false (pages == shape.pages) Idle Sweeping (ne_eqb pages shape.pages ne)

-- ---- joined

join_ended : (shape : Shape) (old mid new : State) (pages more : ℕ) (first second : List ℕ) → pages ≡ more → ContinuesSweep shape old pages first mid
    → (second ≡ []) × (new ≡ mid) → ContinuesSweep shape old more (first ++ second) new
join_ended shape old mid new pages more first second same h k =
    subst (λ m. ContinuesSweep shape old m (first ++ second) new) same
    (subst (λ ns. ContinuesSweep shape old pages ns new) (sym (ap (λ zs. first ++ zs) k.0 ∙ append-nil first))
    (subst (λ (s : State). ContinuesSweep shape old pages first s) (sym k.1) h))

join_open : (shape : Shape) (old mid new : State) (pages more : ℕ) (first second : List ℕ) → pages ≤ more → ContinuesSweep shape old pages first mid
    → ContinuesSweep shape mid more second new → ContinuesSweep shape old more (first ++ second) new
join_open shape old mid new pages more first second l h k =
    let low : ℕ = pages * shape.page_words in
    let high : ℕ = more * shape.page_words in
    let after : AreDeadInOrder (map (finalise (pages * shape.page_words)) old.nodes) (more * shape.page_words) second =
    subst (λ (s : State). AreDeadInOrder s.nodes (more * shape.page_words) second) h.after k.finalised in
    record {
      finalised =
          joined old.nodes (pages * shape.page_words) (more * shape.page_words) (later_page shape pages more l) first second h.finalised after;
      after = k.after ∙ ap (λ (s : State). swept_state shape s more second) h.after ∙ swept_twice shape old pages more first second l;
    }

join_in : (phase : Phase) (shape : Shape) (old mid new : State) (pages more : ℕ) (first second : List ℕ) → old.phase ≡ phase → pages ≤ more
    → more ≤ shape.pages → SweepsInPhase phase shape old pages first mid → SweepsTo shape mid more second new
    → SweepsInPhase phase shape old more (first ++ second) new
join_in Idle shape old mid new pages more first second e l m h k =
    let after = subst (λ p. SweepsInPhase p shape mid more second new) (ap (λ (s : State). s.phase) h.1 ∙ e) k in
    (ap (λ zs. zs ++ second) h.0 ∙ after.0, after.1 ∙ h.1)
join_in Marking shape old mid new pages more first second e l m h k =
    let after = subst (λ p. SweepsInPhase p shape mid more second new) (ap (λ (s : State). s.phase) h.1 ∙ e) k in
    (ap (λ zs. zs ++ second) h.0 ∙ after.0, after.1 ∙ h.1)
join_in Sweeping shape old mid new pages more first second e l m h k =
    elim (cases_eq pages shape.pages) [
      | inl end ↦
          (let idle : mid.phase ≡ Idle = phase_of shape old mid pages first h ∙ ap (phase_at shape) end ∙ swept_phase shape in
          join_ended shape old mid new pages more first second (omega arith) h (subst (λ p. SweepsInPhase p shape mid more second new) idle k))
      | inr other ↦
          (let open_still : mid.phase ≡ Sweeping = phase_of shape old mid pages first h ∙ still_sweeping shape pages other in
          join_open shape old mid new pages more first second l h (subst (λ p. SweepsInPhase p shape mid more second new) open_still k))
    ]

pub sweeps_join : SweepsJoin
sweeps_join shape old mid new pages more first second l m h k = join_in old.phase shape old mid new pages more first second refl l m h k

-- ---- split

split_nothing : (phase : Phase) (shape : Shape) (old new : State) (pages more : ℕ) (numbers : List ℕ)
    → SweepsInPhase phase shape old pages [] old → SweepsInPhase phase shape old more [] new → old.phase ≡ phase → numbers ≡ []
    → IsSplit shape old pages more numbers new
split_nothing phase shape old new pages more numbers h k e none = record {
  first = [];
  second = [];
  mid = old;
  sweeps = subst (λ p. SweepsInPhase p shape old pages [] old) (sym e) h;
  goes_on = subst (λ p. SweepsInPhase p shape old more [] new) (sym e) k;
  joined = none;
}

split_in : (phase : Phase) (shape : Shape) (old new : State) (pages more : ℕ) (numbers : List ℕ) → old.phase ≡ phase → pages < more
    → more ≤ shape.pages → SweepsInPhase phase shape old more numbers new → IsSplit shape old pages more numbers new
split_in Idle shape old new pages more numbers e l m h = split_nothing Idle shape old new pages more numbers (refl, refl) (refl, h.1) e h.0
split_in Marking shape old new pages more numbers e l m h = split_nothing Marking shape old new pages more numbers (refl, refl) (refl, h.1) e h.0
split_in Sweeping shape old new pages more numbers e l m h =
    let below : pages * shape.page_words ≤ more * shape.page_words = later_page shape pages more (omega arith) in
    let first : List ℕ = front_of old.nodes (pages * shape.page_words) (more * shape.page_words) below numbers h.finalised in
    let second : List ℕ = back_of old.nodes (pages * shape.page_words) (more * shape.page_words) below numbers h.finalised in
    let whole : numbers ≡ first ++ second = cut_whole old.nodes (pages * shape.page_words) (more * shape.page_words) below numbers h.finalised in
    let other : pages ≡ shape.pages → ⊥ = (λ same. omega arith) in
    record {
      first = first;
      second = second;
      mid = swept_state shape old pages first;
      sweeps = subst (λ p. SweepsInPhase p shape old pages first (swept_state shape old pages first)) (sym e)
          (record {
            finalised = front old.nodes (pages * shape.page_words) (more * shape.page_words) below numbers h.finalised;
            after = refl;
          });
      goes_on = subst (λ p. SweepsInPhase p shape (swept_state shape old pages first) more second new) (sym (still_sweeping shape pages other))
          (record {
            finalised = back old.nodes (pages * shape.page_words) (more * shape.page_words) below numbers h.finalised;
            after = h.after ∙ ap (swept_state shape old more) whole ∙ sym (swept_twice shape old pages more first second (omega arith));
          });
      joined = whole;
    }

pub sweeps_split : SweepsSplit
sweeps_split shape old new pages more numbers l m h = split_in old.phase shape old new pages more numbers refl l m h

-- ---- one sweep

one_in : (phase : Phase) (shape : Shape) (old new other : State) (pages : ℕ) (numbers others : List ℕ) → SweepsInPhase phase shape old pages numbers new
    → SweepsInPhase phase shape old pages others other → (numbers ≡ others) × (new ≡ other)
one_in Idle shape old new other pages numbers others h k = (h.0 ∙ sym k.0, h.1 ∙ sym k.1)
one_in Marking shape old new other pages numbers others h k = (h.0 ∙ sym k.0, h.1 ∙ sym k.1)
one_in Sweeping shape old new other pages numbers others h k =
    let same : numbers ≡ others = same_dead old.nodes (pages * shape.page_words) numbers others h.finalised k.finalised in
    (same, h.after ∙ ap (swept_state shape old pages) same ∙ sym k.after)

pub sweep_is_one : SweepIsOne
sweep_is_one shape old new other pages numbers others h k = one_in old.phase shape old new other pages numbers others h k

-- ---- one placement

lowest_is_one : (P : ℕ → Type 0) (a b : ℕ) → IsLowest P a → IsLowest P b → a ≡ b
lowest_is_one P a b h k =
    elim (cases_order a b) [
      | inl same ↦ same
      | inr other ↦ elim other [ inl under ↦ absurd (k.1 a under h.0) | inr over ↦ absurd (h.1 b over k.0) ]
    ]

place_is_one : (shape : Shape) (pages : ℕ) (extents : List Extent) (size : ℕ) (place elsewhere : Option ℕ) → IsPlaceFor shape pages extents size place
    → IsPlaceFor shape pages extents size elsewhere → place ≡ elsewhere
place_is_one shape pages extents size None None h k = refl
place_is_one shape pages extents size (Some a) None h k =
    elim h [ inl fits ↦ absurd (k.1 a fits.0) | inr run ↦ absurd (k.2 a run.2.0) ]
place_is_one shape pages extents size None (Some b) h k =
    elim k [ inl fits ↦ absurd (h.1 b fits.0) | inr run ↦ absurd (h.2 b run.2.0) ]
place_is_one shape pages extents size (Some a) (Some b) h k =
    elim h [
      | inl fits ↦ elim k [
        | inl other ↦ ap Some (lowest_is_one (Fits shape pages extents size) a b fits other)
        | inr run ↦ absurd (run.1 a fits.0)
      ]
      | inr run ↦ elim k [
        | inl fits ↦ absurd (run.1 b fits.0)
        | inr other ↦ ap Some (lowest_is_one (StartsEmptyRun shape extents size) a b run.2 other.2)
      ]
    ]

-- where not all pages are swept, the object fits
fits_early : (shape : Shape) (pages : ℕ) (extents : List Extent) (size : ℕ) (place : Option ℕ) → IsPlaceFor shape pages extents size place
    → pages < shape.pages → IsNowhere (Fits shape pages extents size) → ⊥
fits_early shape pages extents size None h l none = let all : pages ≡ shape.pages = h.0 in omega arith
fits_early shape pages extents size (Some a) h l none =
    elim h [ inl fits ↦ none a fits.0 | inr run ↦ (let all : pages ≡ shape.pages = run.0 in omega arith) ]

too_early : (shape : Shape) (old mid other : State) (size : ℕ) (numbers others : List ℕ) (place elsewhere : Option ℕ)
    → (p : IsPlacement shape old size numbers mid place) → (q : IsPlacement shape old size others other elsewhere) → p.pages < q.pages → ⊥
too_early shape old mid other size numbers others place elsewhere p q l =
    let most : q.pages ≤ shape.pages = q.within in
    fits_early shape p.pages (extents_of mid.nodes) size place p.placed (omega arith) (q.no_sooner p.pages numbers mid p.forward l p.swept)

pub placement_is_one : PlacementIsOne
placement_is_one shape old mid other size numbers others place elsewhere p q =
    elim (cases_order p.pages q.pages) [
      | inl same ↦
          (let one = sweep_is_one shape old mid other p.pages numbers others p.swept (subst (λ n. SweepsTo shape old n others other) (sym same) q.swept) in
          let there : IsPlaceFor shape p.pages (extents_of mid.nodes) size elsewhere =
          subst (λ n. IsPlaceFor shape n (extents_of mid.nodes) size elsewhere) (sym same)
          (subst (λ (s : State). IsPlaceFor shape q.pages (extents_of s.nodes) size elsewhere) (sym one.1) q.placed) in
          (one.0, one.1, place_is_one shape p.pages (extents_of mid.nodes) size place elsewhere p.placed there))
      | inr apart ↦ elim apart [
        | inl before ↦ absurd (too_early shape old mid other size numbers others place elsewhere p q before)
        | inr after ↦ absurd (too_early shape old other mid size others numbers elsewhere place q p after)
      ]
    ]

-- ---- the last page

-- a node below both addresses is the same after either sweep
below_both : (limit more : ℕ) (x : Node) → x.place < limit → limit ≤ more → finalise limit x ≡ finalise more x
below_both limit more x low l =
    cond-true (nat_lt x.place limit) (record x { life = buried x.life }) x (lt-ltb x.place limit low)
    ∙ sym (cond-true (nat_lt x.place more) (record x { life = buried x.life }) x (lt-ltb x.place more (omega arith)))

same_extent : (limit : ℕ) (x : Node) → extent_of (finalise limit x) ≡ extent_of x
same_extent limit x =
    cond_both (nat_lt x.place limit) (record x { life = buried x.life }) x (λ y. extent_of y ≡ extent_of x) (λ e. refl) (λ e. refl)

module _ (nodes : List Node) (limit more : ℕ) (l : limit ≤ more) where
  abbrev Early : List Node
  Early = map (finalise limit) nodes

  abbrev Late : List Node
  Late = map (finalise more) nodes

  extents_agree : (n : ℕ) → extent_of (node_at Early n) ≡ extent_of (node_at Late n)
  extents_agree n =
      ap extent_of (finalised_at limit nodes n) ∙ same_extent limit (node_at nodes n) ∙ sym (same_extent more (node_at nodes n))
      ∙ sym (ap extent_of (finalised_at more nodes n))

  -- what is there after the longer sweep is there after the shorter one
  extent_earlier : (e : Extent) → Contains (extents_of Late) e → Contains (extents_of Early) e
  extent_earlier e c =
      let found : IsExtentOf Late e = node_of_extent Late e c in
      let late : is_there (finalise more (node_at nodes found.node)).life ≡ true =
      subst (λ (x : Node). is_there x.life ≡ true) (finalised_at more nodes found.node) found.there in
      let early : is_there (node_at Early found.node).life ≡ true =
      subst (λ (x : Node). is_there x.life ≡ true) (sym (finalised_at limit nodes found.node)) (there_earlier limit more (node_at nodes found.node) l late) in
      subst (Contains (extents_of Early)) (extents_agree found.node ∙ found.same) (contains_extent Early found.node early)

  -- a word below the shorter sweep's end is taken after both, or after neither
  taken_later : (a : ℕ) → a < limit → IsTaken (extents_of Early) a → IsTaken (extents_of Late) a
  taken_later a low taken =
      let found : IsExtentOf Early taken.0 = node_of_extent Early taken.0 taken.1 in
      let place : extent_of (node_at nodes found.node) ≡ taken.0 =
      sym (ap extent_of (finalised_at limit nodes found.node) ∙ same_extent limit (node_at nodes found.node)) ∙ found.same in
      let begins : taken.0.place ≤ a = taken.2.0 in
      let at : (node_at nodes found.node).place ≡ taken.0.place = ap (λ (e : Extent). e.place) place in
      let same : node_at Early found.node ≡ node_at Late found.node =
      finalised_at limit nodes found.node ∙ below_both limit more (node_at nodes found.node) (omega arith) l ∙ sym (finalised_at more nodes found.node) in
      let there : is_there (node_at Late found.node).life ≡ true = subst (λ (x : Node). is_there x.life ≡ true) same found.there in (
        taken.0,
        subst (Contains (extents_of Late)) (sym (extents_agree found.node) ∙ found.same) (contains_extent Late found.node there),
        taken.2,
      )

  run_earlier : (words size page a : ℕ) → (page + 1) * words ≤ limit → IsRun words (extents_of Late) size page a → IsRun words (extents_of Early) size page a
  run_earlier words size page a within run =
      let has = run.bucket in
      let last : a + size ≤ (page + 1) * words = run.last in
      record {
        bucket = (has.0, has.1, extent_earlier has.0 has.2, has.3, has.4, has.5, has.6);
        first = run.first;
        last = run.last;
        free = λ x low high taken. run.free x low high (taken_later x (omega arith) taken);
      }

-- an object that fits in a page before the last fits already where the last isn't swept
fit_earlier : (shape : Shape) (nodes : List Node) (fewer pages size a page : ℕ) → fewer ≤ pages → size ≤ shape.page_words / 2 → page < fewer
    → IsRun shape.page_words (extents_of (map (finalise (pages * shape.page_words)) nodes)) size page a
    → Fits shape fewer (extents_of (map (finalise (fewer * shape.page_words)) nodes)) size a
fit_earlier shape nodes fewer pages size a page l small under run = (
  small,
  (
    page,
    under,
    run_earlier nodes (fewer * shape.page_words) (pages * shape.page_words) (later_page shape fewer pages l) shape.page_words size page a
        (mul-le-mul_right shape.page_words (omega arith)) run,
  ),
)

last_in : (phase : Phase) (shape : Shape) (old mid : State) (size a b : ℕ) (numbers : List ℕ) → old.phase ≡ phase
    → (p : IsPlacement shape old size numbers mid (Some a)) → SweepsInPhase phase shape old p.pages numbers mid
    → pages_swept_in phase shape.pages old.cursor < p.pages → Fits shape p.pages (extents_of mid.nodes) size b
    → ((p.pages - 1) * shape.page_words ≤ a) × (a + size ≤ p.pages * shape.page_words)
last_in Idle shape old mid size a b numbers e p h l fits = let most : p.pages ≤ shape.pages = p.within in absurd (omega arith)
last_in Marking shape old mid size a b numbers e p h l fits = let most : p.pages ≤ shape.pages = p.within in absurd (omega arith)
last_in Sweeping shape old mid size a b numbers e p h l fits =
    let pages : ℕ = p.pages in
    let fewer : ℕ = pages - 1 in
    let most : pages ≤ shape.pages = p.within in
    let split : IsSplit shape old fewer pages numbers mid = sweeps_split shape old mid fewer pages numbers (omega arith) most p.swept in
    let before : ContinuesSweep shape old fewer split.first split.mid = subst (λ q. SweepsInPhase q shape old fewer split.first split.mid) e split.sweeps in
    let cursor : swept_pages shape old ≡ old.cursor = ap (λ q. pages_swept_in q shape.pages old.cursor) e in
    let nowhere : IsNowhere (Fits shape fewer (extents_of split.mid.nodes) size) =
    p.no_sooner fewer split.first split.mid (omega arith) (omega arith) split.sweeps in
    elim p.placed [
      | inl found ↦
          (let page : ℕ = found.0.1.0 in
          let below : page < pages = found.0.1.1 in
          let run : IsRun shape.page_words (extents_of mid.nodes) size page a = found.0.1.2 in
          let first : page * shape.page_words ≤ a = run.first in
          let last : a + size ≤ (page + 1) * shape.page_words = run.last in
          elim (cases_lt page fewer) [
            | inl under ↦ absurd (nowhere a
                (subst (λ (s : State). Fits shape fewer (extents_of s.nodes) size a) (sym before.after)
                (fit_earlier shape old.nodes fewer pages size a page (omega arith) found.0.0 under
                (subst (λ (s : State). IsRun shape.page_words (extents_of s.nodes) size page a) h.after run))))
            | inr over ↦
                (let same : page ≡ fewer = omega arith in
                let next : page + 1 ≡ pages = omega arith in
                (subst (λ q. q * shape.page_words ≤ a) same first, subst (λ q. a + size ≤ q * shape.page_words) next last))
          ])
      | inr empty ↦ absurd (empty.1 b fits)
    ]

pub placed_in_last_page : PlacedInLastPage
placed_in_last_page shape old mid size a b numbers p l fits = last_in old.phase shape old mid size a b numbers refl p p.swept l fits
