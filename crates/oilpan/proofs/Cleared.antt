-- What holds once slots that a thread has cleared are free again.
use Rattle.std.proofs.Common.{◌≡◌, ◌≢◌, ◌<◌, ℕ, Bool, true≢false, List, length, Some, sym, ap, ◌∙◌, subst, inl, inr, get_or, arith, All, Contains}
use Rattle.std.proofs.lemmas.Bool.{cases_lt}
use Rattle.std.proofs.lemmas.List.{get_or_past, get_or_default}
use Rattle.std.proofs.lemmas.List.Elements.{All-nil}
use Rattle.gc_graph.specs.declared.line.Line.{Line}
use Rattle.gc_graph.specs.declared.command.Order.{Order}
use Rattle.gc_graph.specs.declared.command.Order.TheVariants as Q
use Rattle.gc_graph.specs.State.{Setup, State}
use Rattle.gc_graph.specs.State.RegionSlot.{Vacant}
use Rattle.gc_graph.specs.Outcomes.{slot_at, weak_slot_at}
use Rattle.gc_graph.specs.History.{region_slot}
use Rattle.gc_graph.specs.HandleLaw.{while_live}
use Rattle.gc_graph.specs.RegionSteps.{queue_of}
use Rattle.oilpan.specs.declared.handles.Root.{Root}
use Rattle.oilpan.specs.declared.handles.WeakRoot.{WeakRoot}
use Rattle.oilpan.specs.declared.handles.SharedRoot.{SharedRoot}
use Rattle.oilpan.specs.declared.sharing.Sharing.{Sharing}
use Rattle.oilpan.specs.declared.sharing.Sharing.TheVariants.{Free, Released}
use Rattle.oilpan.specs.Handles.{Holds, Watches, Shares}
use Rattle.oilpan.specs.Rest.{IsOwners, ClearsReleased, IsAtRest, IsRegionAtRest}
use Rattle.oilpan.proofs.Regions.{clears_from, clears_to}
use Rattle.oilpan.specs.Clearing.{told_cleared, HaveRun, AreFreed}

-- ---- flags

-- a slot that was given back is one of those that there are
pub released_low : (shared : List Sharing) (x : ℕ) → get_or shared x Free ≡ Released → x < length shared
released_low shared x is = elim (cases_lt x (length shared)) [
  | inl low ↦ low
  | inr past ↦ absurd (let free : get_or shared x Free ≡ Free = get_or_past shared x Free past in let no : ⊥ = cc in no)
]

pub cleared_low : (old new : State) (shared : List Sharing) (lines : List Line) → HaveRun old shared lines new → (x : ℕ) (line : Line) → Contains lines line
    → told_cleared line ≡ Some x → x < length shared
cleared_low old new shared lines run x line c is = released_low shared x (run.cleared x line c is).released

pub none_released : (shared : List Sharing) → ((z : ℕ) → get_or shared z Free ≢ Released) → Contains shared Released → ⊥
none_released shared none c = none c.0 (get_or_default shared c.0 Free Released c.1 ∙ c.2)

-- ---- the heap

module _ (old new : State) (before after : List Sharing) (lines : List Line) (run : HaveRun old before lines new) (freed : AreFreed lines before after)
    (rest : IsRegionAtRest old before) where
  still_free : (z : ℕ) → get_or after z Free ≡ Free → region_slot new.region z ≡ Vacant
  still_free z is = elim (freed z) [
    | inl same ↦
        (let free : get_or before z Free ≡ Free = sym same ∙ is in
        run.others z (λ e. let no : ⊥ = cc in no) ∙ rest.free z free)
    | inr told ↦ (run.cleared z told.1.0 told.1.1 told.1.2).null
  ]

  still_clears : (j k : ℕ) (order : Order) → k < length (queue_of new j) → ClearsReleased before order → ClearsReleased after order
  still_clears j k (Q.Clear x) low h = elim (freed x) [
    | inl same ↦ clears_to after x (same ∙ clears_from before x h)
    | inr told ↦ absurd (let none : length (queue_of new j) ≡ 0 = ap length ((run.cleared x told.1.0 told.1.1 told.1.2).done j) in omega (arith, low, none))
  ]
  still_clears j k order low h = absurd (true≢false (sym h))

  pub region_cleared : IsRegionAtRest new after
  region_cleared = record {
    slots = run.slots ∙ rest.slots;
    queues = run.queues;
    free = still_free;
    orders = λ j k d low. still_clears j k (get_or (queue_of new j) k d) low (run.orders j k d low);
    awaiting = ap (λ (s : State). s.awaiting) run.same ∙ rest.awaiting;
    told = subst (All IsOwners) (sym (ap (λ (s : State). s.unprinted) run.same)) (All-nil IsOwners);
  }

  pub share_kept : (o : SharedRoot) → Shares old before o → Shares new after o
  share_kept o h = record {
    given = elim (freed o.slot) [
      | inl same ↦ same ∙ h.given
      | inr told ↦
          absurd (let given = h.given in let released : get_or before o.slot Free ≡ Released = (run.cleared o.slot told.1.0 told.1.1 told.1.2).released in
          let no : ⊥ = cc in no)
    ];
    names = run.others o.slot (λ e. let given = h.given in let no : ⊥ = cc in no) ∙ h.names;
  }

  -- a slot that was given back, and is no longer, is null
  pub null_now : (z : ℕ) → get_or before z Free ≡ Released → get_or after z Free ≢ Released → region_slot new.region z ≡ Vacant
  null_now z is gone = elim (freed z) [
    | inl same ↦ absurd (gone (same ∙ is))
    | inr told ↦ (run.cleared z told.1.0 told.1.1 told.1.2).null
  ]

  pub rest_cleared : (setup : Setup) (taken : List Bool) → IsAtRest setup old taken → IsAtRest setup new taken
  rest_cleared setup taken h = record {
    pages = h.pages;
    slots = ap (λ (s : State). length s.slots) run.same ∙ h.slots;
    weak = ap (λ (s : State). length s.weak) run.same ∙ h.weak;
    stack = ap (λ (s : State). s.stack) run.same ∙ h.stack;
    running = ap (λ (s : State). s.running) run.same ∙ h.running;
    free = λ z is. ap (λ (s : State). slot_at s z) run.same ∙ h.free z is;
  }

  pub nodes_kept : new.nodes ≡ old.nodes
  nodes_kept = ap (λ (s : State). s.nodes) run.same

  pub root_kept : (o : Root) → Holds old o → Holds new o
  root_kept o h = ap (λ (s : State). slot_at s o.slot) run.same ∙ h

  pub watch_kept : (flags : List Bool) (o : WeakRoot) → Watches old flags o → Watches new flags o
  watch_kept flags o h = record {
    given = h.given;
    tells = record {
      made = subst (λ ns. o.node < length ns) (sym nodes_kept) h.tells.made;
      names =
          ap (λ (s : State). weak_slot_at s o.slot) run.same ∙ h.tells.names ∙ ap (λ ns. while_live ns o.node) (sym nodes_kept);
    };
  }
