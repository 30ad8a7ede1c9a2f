-- Pages are swept one by one until a new object fits in one of them.
use Rattle.std.proofs.Common.{◌≡◌, ℕ, ◌+◌, ◌-◌, ◌*◌, ◌<◌, ◌≤◌, List, [], length, take, Option, Some, refl, sym, ap, ◌∙◌, subst, arith, mul-le-mul_right}
use Rattle.std.specs.Prelude.{IfSome, IfNone}
use Rattle.std.proofs.lemmas.List.{length-map}
use Rattle.gc_graph.specs.Placement.{StartsEmptyRun, IsLowest, IsNowhere, IsPlacement, extents_of}
use Rattle.gc_graph.specs.Shapes.{IsShape}
use Rattle.gc_graph.specs.State.{Setup, State, Shape}
use Rattle.gc_graph.specs.Sweep.{finalise, swept_pages, SweepsTo}
use Rattle.gc_graph.specs.SweepLaw.{SweepsJoin, SweepIsOne}
use Rattle.gc_graph.specs.ValidLaw.{StepKeepsValid}
use Rattle.callback_table.specs.declared.registrations.LastRegistered.{LastRegistered}
use Rattle.callback_table.specs.Registrations.{weakly_without}
use Rattle.heap_roots.specs.Space.{FitsBetween}
use Rattle.heap_roots.specs.Sweeping.{SweepView, cursor_at}
use Rattle.heap_cycle.specs.Changes.{SweepsParts}
use Rattle.heap_roots.specs.Finalising.{AreFewTold}
use Rattle.heap_cycle.specs.Finalising.{IsSearched}
use Rattle.heap_cycle.specs.declared.parts.Parts.{Parts}
use Rattle.heap_roots.specs.Objects.{ObjectsView}
use Rattle.heap_cycle.specs.Views.{CycleView}
use Rattle.heap_cycle.specs.Parts.{setup_of, state_of, unregistered, IsReady}
use Rattle.heap_cycle.proofs.PlacementSteps.{found_at_once, search_begins, search_goes_on, found_in_page, found_empty}
use Rattle.heap_cycle.proofs.SweepSteps.{parts_sweep, parts_ready, still_open}

-- what the parts are once pages were swept on the way to a place
pub record IsOnTheWay (s mid : Parts) (size : ℕ) (told : List ℕ) : Type 0 where
  pub ready : IsReady mid
  pub searched : IsSearched s.objects.shape (state_of s) size mid.cycle.sweep.cursor told (state_of mid)
  pub few : AreFewTold mid.objects.shape (cursor_at mid.objects.shape mid.cycle.sweep) mid.objects.seat told
  pub setup : setup_of mid ≡ setup_of s
  pub made : length mid.objects.nodes ≡ length s.objects.nodes
  pub ordinal : mid.cycle.rest.ordinal ≡ s.cycle.rest.ordinal

-- a sweep leaves registrations that are no part of the state yet
pub left_out : (s : Parts) (new : ObjectsView) (after : CycleView) (last : LastRegistered) (pages : ℕ) (before told : List ℕ) → SweepsParts s.objects new s.cycle after pages before told
    → SweepsParts s.objects new (unregistered last s).cycle (unregistered last (record s { objects = new; cycle = after })).cycle pages before told
left_out s new after last pages before told is = record {
  setup = is.setup;
  nodes = is.nodes;
  phase = is.phase;
  sweep = is.sweep;
  registered = ap (λ es. take (length es - last.prefinalizers) es) is.registered;
  weakly = ap (weakly_without last) is.weakly;
  ran = is.ran;
  rest = is.rest;
  marks = is.marks;
  grey = is.grey;
}

-- ---- before a page is swept

pub placed_at_once : (s : Parts) (size a : ℕ) (told : List ℕ) → IsReady s → told ≡ []
    → IsLowest (FitsBetween s.objects.shape 0 s.cycle.sweep.cursor (extents_of s.objects.nodes) size) a → IsPlacement s.objects.shape (state_of s) size told (state_of s) (Some a)
placed_at_once s size a told ready empty found =
    subst (λ numbers. IsPlacement s.objects.shape (state_of s) size numbers (state_of s) (Some a)) (sym empty)
    (found_at_once s.objects.shape (state_of s) size a ready.valid.settled
    (subst (λ k. IsLowest (FitsBetween s.objects.shape 0 k (extents_of s.objects.nodes) size) a) ready.tied.sweep.cursor_is found))

pub begins : (s : Parts) (size : ℕ) (told : List ℕ) → SweepIsOne → IsReady s → told ≡ []
    → AreFewTold s.objects.shape (cursor_at s.objects.shape s.cycle.sweep) s.objects.seat told
    → IsNowhere (FitsBetween s.objects.shape 0 s.cycle.sweep.cursor (extents_of s.objects.nodes) size) → IsOnTheWay s s size told
begins s size told one ready empty few nowhere =
    let shape : Shape = s.objects.shape in
    let at : s.cycle.sweep.cursor ≡ swept_pages shape (state_of s) = ready.tied.sweep.cursor_is in
    record {
      ready = ready;
      searched = subst (λ k. IsSearched shape (state_of s) size k told (state_of s)) (sym at)
          (subst (λ numbers. IsSearched shape (state_of s) size (swept_pages shape (state_of s)) numbers (state_of s)) (sym empty)
          (search_begins shape (state_of s) size one ready.valid.settled
          (subst (λ k. IsNowhere (FitsBetween shape 0 k (extents_of s.objects.nodes) size)) at nowhere)));
      few = few;
      setup = refl;
      made = refl;
      ordinal = refl;
    }

-- ---- a page more

module _ (s mid : Parts) (new : ObjectsView) (after : CycleView) (size : ℕ) (told later : List ℕ) (way : IsOnTheWay s mid size told)
    (left : mid.cycle.sweep.cursor < s.objects.shape.pages) (is : SweepsParts mid.objects new mid.cycle after (mid.cycle.sweep.cursor + 1) told later) where
  abbrev swept : Parts
  swept = record mid { objects = new; cycle = after }

  shapes : mid.objects.shape ≡ s.objects.shape
  shapes = ap (λ (st : Setup). st.shape) way.setup

  abbrev next : ℕ
  next = mid.cycle.sweep.cursor + 1

  goes : SweepsTo s.objects.shape (state_of mid) next is.nodes.numbers (state_of swept)
  goes =
      subst (λ (sh : Shape). SweepsTo sh (state_of mid) next is.nodes.numbers (state_of swept)) shapes
      (parts_sweep mid new after next told later (still_open mid way.ready (omega (arith, left, ap (λ (sh : Shape). sh.pages) shapes))) is)

  pub swept_ready : StepKeepsValid → IsShape s.objects.shape → IsReady swept
  swept_ready law shape =
      let low : mid.cycle.sweep.cursor < mid.objects.shape.pages = omega (arith, left, ap (λ (sh : Shape). sh.pages) shapes) in
      parts_ready mid new after next told later law (subst IsShape (sym shapes) shape) way.ready (still_open mid way.ready low) (omega arith) (omega (arith, low)) is

  pub swept_made : length new.nodes ≡ length s.objects.nodes
  swept_made = ap length is.nodes.nodes ∙ length-map mid.objects.nodes (finalise (next * mid.objects.shape.page_words)) ∙ way.made

  pub goes_on : StepKeepsValid → SweepsJoin → SweepIsOne → IsShape s.objects.shape → AreFewTold mid.objects.shape (cursor_at mid.objects.shape after.sweep) new.seat later
      → IsNowhere (FitsBetween s.objects.shape mid.cycle.sweep.cursor next (extents_of new.nodes) size) → IsOnTheWay s swept size later
  goes_on law join one shape few nowhere =
      let cursor : after.sweep.cursor ≡ next = ap (λ (w : SweepView). w.cursor) is.sweep in
      record {
        ready = swept_ready law shape;
        searched = subst (λ k. IsSearched s.objects.shape (state_of s) size k later (state_of swept)) (sym cursor)
            (subst (λ numbers. IsSearched s.objects.shape (state_of s) size next numbers (state_of swept)) (sym is.nodes.follow)
            (search_goes_on s.objects.shape (state_of s) (state_of mid) (state_of swept) size mid.cycle.sweep.cursor told is.nodes.numbers join one way.searched left goes nowhere));
        few = subst (λ (st : Setup). AreFewTold st.shape (cursor_at st.shape after.sweep) new.seat later) (sym is.setup) few;
        setup = is.setup ∙ way.setup;
        made = swept_made;
        ordinal = ap (λ (st : State). st.ordinal) is.rest ∙ way.ordinal;
      }

  pub placed_in_page : SweepsJoin → (a : ℕ) → IsLowest (FitsBetween s.objects.shape mid.cycle.sweep.cursor next (extents_of new.nodes) size) a
      → IsPlacement s.objects.shape (state_of s) size later (state_of swept) (Some a)
  placed_in_page join a found =
      subst (λ numbers. IsPlacement s.objects.shape (state_of s) size numbers (state_of swept) (Some a)) (sym is.nodes.follow)
      (found_in_page s.objects.shape (state_of s) (state_of mid) (state_of swept) size mid.cycle.sweep.cursor a told is.nodes.numbers join way.searched left goes found)

-- the same, where registrations are left out, and for the page that was searched
module _ (s mid : Parts) (new : ObjectsView) (after : CycleView) (last : LastRegistered) (size page : ℕ) (told later : List ℕ)
    (way : IsOnTheWay (unregistered last s) (unregistered last mid) size told) (cursor : mid.cycle.sweep.cursor ≡ page) (left : page < s.objects.shape.pages)
    (is : SweepsParts mid.objects new mid.cycle after (mid.cycle.sweep.cursor + 1) told later) where
  -- the parts after the page
  abbrev after_page : Parts
  after_page = unregistered last (record mid { objects = new; cycle = after })

  remains : mid.cycle.sweep.cursor < s.objects.shape.pages
  remains = omega (arith, cursor, left)

  parts : SweepsParts mid.objects new (unregistered last mid).cycle after_page.cycle (mid.cycle.sweep.cursor + 1) told later
  parts = left_out mid new after last (mid.cycle.sweep.cursor + 1) told later is

  new_shape : new.shape ≡ s.objects.shape
  new_shape = ap (λ (st : Setup). st.shape) (is.setup ∙ way.setup)

  pub page_ready : StepKeepsValid → IsShape s.objects.shape → IsReady after_page
  page_ready law shape = swept_ready (unregistered last s) (unregistered last mid) new after_page.cycle size told later way remains parts law shape

  pub page_made : length new.nodes ≡ length s.objects.nodes
  page_made = swept_made (unregistered last s) (unregistered last mid) new after_page.cycle size told later way remains parts

  pub page_goes_on : StepKeepsValid → SweepsJoin → SweepIsOne → IsShape s.objects.shape → AreFewTold mid.objects.shape (cursor_at mid.objects.shape after.sweep) new.seat later
      → IsNowhere (FitsBetween new.shape page (page + 1) (extents_of new.nodes) size) → IsOnTheWay (unregistered last s) after_page size later
  page_goes_on law join one shape few nowhere =
      goes_on (unregistered last s) (unregistered last mid) new after_page.cycle size told later way remains parts law join one shape few
      (subst (λ k. IsNowhere (FitsBetween s.objects.shape k (k + 1) (extents_of new.nodes) size)) (sym cursor)
      (subst (λ (sh : Shape). IsNowhere (FitsBetween sh page (page + 1) (extents_of new.nodes) size)) new_shape nowhere))

  pub page_placed : SweepsJoin → (a : ℕ) → IsLowest (FitsBetween new.shape page (page + 1) (extents_of new.nodes) size) a
      → IsPlacement s.objects.shape (state_of (unregistered last s)) size later (state_of after_page) (Some a)
  page_placed join a found =
      placed_in_page (unregistered last s) (unregistered last mid) new after_page.cycle size told later way remains parts join a
      (subst (λ k. IsLowest (FitsBetween s.objects.shape k (k + 1) (extents_of new.nodes) size) a) (sym cursor)
      (subst (λ (sh : Shape). IsLowest (FitsBetween sh page (page + 1) (extents_of new.nodes) size) a) new_shape found))

-- ---- all pages are swept

pub placed_last : (s mid : Parts) (size : ℕ) (told : List ℕ) (place : Option ℕ) → setup_of mid ≡ setup_of s
    → IsSearched s.objects.shape (state_of s) size s.objects.shape.pages told (state_of mid) → IfSome place (IsLowest (StartsEmptyRun mid.objects.shape (extents_of mid.objects.nodes) size))
    → IfNone place (IsNowhere (StartsEmptyRun mid.objects.shape (extents_of mid.objects.nodes) size)) → IsPlacement s.objects.shape (state_of s) size told (state_of mid) place
placed_last s mid size told place setup searched found none =
    let shapes : mid.objects.shape ≡ s.objects.shape = ap (λ (st : Setup). st.shape) setup in
    found_empty s.objects.shape (state_of s) (state_of mid) size told place searched
    (subst (λ (sh : Shape). IfSome place (IsLowest (StartsEmptyRun sh (extents_of mid.objects.nodes) size))) shapes found)
    (subst (λ (sh : Shape). IfNone place (IsNowhere (StartsEmptyRun sh (extents_of mid.objects.nodes) size))) shapes none)

-- ---- where a place lies

pub between_low : (shape : Shape) (nodes : ObjectsView) (size from to a : ℕ) → FitsBetween shape from to (extents_of nodes.nodes) size a → 2 ≤ size → a < to * shape.page_words
between_low shape nodes size from to a fits some =
    let run = fits.1.3 in
    let up : (fits.1.0 + 1) * shape.page_words ≤ to * shape.page_words = mul-le-mul_right shape.page_words (omega (arith, fits.1.2)) in
    omega (arith, run.last, up, some)
