-- A pause makes the owner's entry, and all that its pass has seen is taken.
use Rattle.std.specs.Arc.{arc_value}
use Rattle.std.proofs.Common.{◌≡◌, ◌≢◌, ℕ, ◌+◌, ◌-◌, Bool, false, true, List, [], ◌∷◌, ◌++◌, length, take, None, refl, sym, ap, ◌∙◌, subst, arith}
use Rattle.std.specs.Prelude.{Contains, option_map}
use Rattle.std.proofs.Math.Seq.{take-length}
use Rattle.std.proofs.lemmas.List.{append-nil, length-append, map-append}
use Rattle.std.proofs.lemmas.List.Elements.{All-cons, All-head, All-nil, All-tail}
use Rattle.gc_graph.specs.declared.region.Op.{Op}
use Rattle.gc_graph.specs.declared.region.Op.TheVariants as O
use Rattle.gc_graph.specs.declared.region.Entry.{Entry}
use Rattle.gc_graph.specs.History.{IsLegal, IsLegalFrom, NamesWeakSlots, region_after, started_after}
use Rattle.gc_graph.specs.Outcomes.{IsThreadOp}
use Rattle.gc_graph.specs.Pause.{dying_slots}
use Rattle.gc_graph.specs.State.{Node, RegionSlot}
use Rattle.cross_thread_region.specs.declared.chronicle.PlacedEntry.{PlacedEntry}
use Rattle.cross_thread_region.specs.Calls.{AreByRight, Finds, HeldView, PassView, placed_entry_of}
use Rattle.cross_thread_region.specs.Histories.{entries_of, is_started, slots_of}
use Rattle.cross_thread_region.specs.OrdersStay.{started_on}
use Rattle.heap_objects.specs.Pausing.{IsPausable, IsPausedRegion, found_before}
use Rattle.heap_region.specs.declared.owned.OwnedRegion.TheInside.{Inside}
use Rattle.heap_region.specs.Calls.{HasEntered, HasPauseEntry}
use Rattle.heap_region.specs.Handled.{IsHandled}
use Rattle.heap_region.specs.Inside.{taken_of}
use Rattle.heap_region.specs.Owned.{OwnedView, found_of}
use Rattle.heap_region.proofs.CallEnds.{HasLookedOn, HasMade, has_entered, stays_owned}
use Rattle.heap_region.proofs.Fields.{AreOwned, called_fields, owned_view}
use Rattle.heap_region.proofs.Found.{are_orders, handled_at, others, out_above, whole}

-- the pause behind a history
abbrev pub pause_after : List Node → List PlacedEntry → Op
pause_after nodes history = O.Pause (dying_slots nodes (slots_of history))

-- a pass has seen what it has seen
pub seen_itself : (pass : PassView) → IsLegal (entries_of pass.seen) → AreByRight pass.seen → Finds pass pass.seen
seen_itself pass legal right = record {
  goes_on = record {
    rest = [];
    all = sym (append-nil pass.seen);
    others = All-nil (λ (p : PlacedEntry). p.entry.thread ≡ pass.number → ⊥);
    outs = λ first. All-nil (λ (p : PlacedEntry). Contains pass.out p.entry.thread);
  };
  legal = legal;
  right = right;
}

legal_first : (region : List RegionSlot) (started : Bool) (xs ys : List Entry) → IsLegalFrom region started (xs ++ ys) → IsLegalFrom region started xs
legal_first region started [] ys legal = tt
legal_first region started (x ∷ xs) ys legal = (legal.0, legal.1, legal_first (region_after region x.op) (started_after started x.op) xs ys legal.2)

right_first : (xs ys : List PlacedEntry) → AreByRight (xs ++ ys) → AreByRight xs
right_first xs ys right = All_before xs ys right where
  All_before : (xs ys : List PlacedEntry) → AreByRight (xs ++ ys) → AreByRight xs
  All_before [] ys right = All-nil (λ (p : PlacedEntry). p.entry.thread ≢ 0 → IsThreadOp p.entry.op)
  All_before (x ∷ xs) ys right =
      All-cons (λ (p : PlacedEntry). p.entry.thread ≢ 0 → IsThreadOp p.entry.op) x xs
      (All-head (λ (p : PlacedEntry). p.entry.thread ≢ 0 → IsThreadOp p.entry.op) x (xs ++ ys) right)
      (All_before xs ys (All-tail (λ (p : PlacedEntry). p.entry.thread ≢ 0 → IsThreadOp p.entry.op) x (xs ++ ys) right))

module _ (r : Inside) (owned : AreOwned r) (opened : r.closed ≡ false) (quiet : r.held ≡ None) (legal : IsLegal (entries_of r.pass.seen)) (right : AreByRight r.pass.seen) where
  abbrev itself : Finds r.pass r.pass.seen
  itself = seen_itself r.pass legal right

  abbrev ahead : List PlacedEntry
  ahead = others r owned opened r.pass.seen itself

  seen_is : r.pass.seen ≡ taken_of r.pass r.taken ++ (ahead ++ [])
  seen_is = whole r owned opened r.pass.seen itself ∙ ap (λ xs. taken_of r.pass r.taken ++ xs) (sym (append-nil ahead))

  -- what the owner's pass has seen may be paused with
  pub may_pause : (nodes : List Node) → IsHandled nodes (taken_of r.pass r.taken) → is_started (taken_of r.pass r.taken) ≡ true → IsPausable nodes (arc_value r.region) r.pass
  may_pause nodes handled started =
      let long : length r.pass.seen ≡ length (taken_of r.pass r.taken) + length ahead =
      ap length (whole r owned opened r.pass.seen itself) ∙ length-append (taken_of r.pass r.taken) ahead in
      let all : IsHandled nodes r.pass.seen =
      subst (IsHandled nodes) (take-length r.pass.seen)
      (subst (λ h. IsHandled nodes (take (length r.pass.seen) h)) (sym seen_is)
      (handled_at nodes (taken_of r.pass r.taken) ahead [] (length r.pass.seen) handled (are_orders r owned opened r.pass.seen itself) (omega (arith, long)) (omega (arith, long)))) in
      record {
        ready = record { lock = owned.owner.lock; free = owned.owner.turn ∙ ap (λ held. option_map (λ (h : HeldView). (h.ticket, h.history)) held) quiet };
        first = owned.owner.first;
        started = ap is_started (whole r owned opened r.pass.seen itself)
            ∙ started_on (taken_of r.pass r.taken) ahead (are_orders r owned opened r.pass.seen itself) ∙ started;
        live = all.live;
        placed = all.placed;
      }

  module _ (nodes : List Node) (passed : PassView) (paused : IsPausedRegion nodes r.pass passed) (legal_now : IsLegal (entries_of passed.seen)) (right_now : AreByRight passed.seen) where
    abbrev history : List PlacedEntry
    history = r.pass.seen ++ paused.others

    grown_by : passed.seen ≡ history ++ placed_entry_of 0 history (pause_after nodes history) 0 ∷ []
    grown_by = ap (λ (p : PassView). p.seen) paused.seen

    pub has_made : HasMade r (pause_after nodes history) 0 passed
    has_made = record {
      owned = owned;
      opened = opened;
      quiet = quiet;
      history = history;
      finds = record {
        goes_on = record {
          rest = paused.others;
          all = refl;
          others = λ k d low same. out_above r owned opened _ (paused.outs k d low) (same ∙ owned.owner.first);
          outs = λ first. paused.outs;
        };
        legal = legal_first _ _ (entries_of history) _
            (subst IsLegal (map-append (λ (p : PlacedEntry). p.entry) history _) (subst (λ h. IsLegal (entries_of h)) grown_by legal_now));
        right = right_first history _ (subst AreByRight grown_by right_now);
      };
      entered = paused.seen;
    }

    pub has_looked_on : HasLookedOn passed passed
    has_looked_on = record { found = seen_itself passed legal_now right_now; pass = refl }

    module _ (count : ℕ) (is : count ≡ length passed.seen) where
      abbrev new : OwnedView
      new = owned_view (called_fields r passed count)

      -- what the pause found
      pub found_is : found_of new ≡ found_before passed
      found_is = ap (λ h. take (length h - 1) h) (ap (λ n. take n passed.seen) is ∙ take-length passed.seen)

      pub has_pause_entry : HasPauseEntry nodes (owned_view r) new
      has_pause_entry =
          let found : history ≡ found_of new = sym (found_is ∙ paused.before) in
          record {
            entry = subst (λ h. HasEntered (pause_after nodes h) 0 (owned_view r) new) found (has_entered has_made has_looked_on count is);
            weak = subst (λ h. NamesWeakSlots (dying_slots nodes (slots_of h)) (slots_of h)) found paused.weak;
          }

      pub still_owned : AreOwned (called_fields r passed count)
      still_owned = stays_owned has_made has_looked_on count is
