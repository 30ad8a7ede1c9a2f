-- A call of the owner: its entry is made behind what it found, and all of that is taken.
use Rattle.std.proofs.Common.{refl, ◌≡◌, ℕ, ◌+◌, ◌<◌, ◌≤◌, false, List, [], ◌∷◌, ◌++◌, length, take, drop, All, None, sym, ap, ◌∙◌, subst, inl, inr, arith}
use Rattle.std.specs.Arc.{arc_value}
use Rattle.std.specs.Prelude.{Contains, is_some, option_map}
use Rattle.std.proofs.Math.Seq.{drop-append_seam, take-append_seam}
use Rattle.std.proofs.lemmas.List.{append_assoc, drop-append-le, length-append, map-append}
use Rattle.std.proofs.lemmas.List.Elements.{All-append, All-cons, All-nil}
use Rattle.gc_graph.specs.declared.line.Line.{Line}
use Rattle.gc_graph.specs.declared.region.Op.{Op}
use Rattle.gc_graph.specs.declared.region.Reply.{Reply}
use Rattle.gc_graph.specs.declared.region.Reply.TheVariants as R
use Rattle.gc_graph.specs.History.{reply_of}
use Rattle.gc_graph.specs.State.{Node}
use Rattle.cross_thread_region.specs.declared.chronicle.PlacedEntry.{PlacedEntry}
use Rattle.cross_thread_region.specs.Calls.{Finds, HeldView, IsCallAnswered, IsPassReady, PassView, history_with_own, placed_entry_of, seeing}
use Rattle.cross_thread_region.specs.Histories.{entries_of, slots_of}
use Rattle.heap_objects.specs.Objects.{ObjectsView}
use Rattle.heap_region.specs.declared.owned.OwnedRegion.TheInside.{Inside}
use Rattle.heap_region.specs.Calls.{HasEntered}
use Rattle.heap_region.specs.Handled.{IsHandled, LooksAgain}
use Rattle.heap_region.specs.Inside.{IsOwners, lines_told, taken_of}
use Rattle.heap_region.specs.Owned.{OwnedView}
use Rattle.heap_region.specs.Taking.{HasLooked}
use Rattle.heap_region.proofs.Beginnings.{none_named}
use Rattle.heap_region.proofs.Fields.{AreOwned, called_fields, owned_view}
use Rattle.heap_region.proofs.Found.{are_orders, are_out, handled_at, is_found, others, taken_len, whole}
use Rattle.heap_region.proofs.OwnedOn.{grown}

-- the entry was made behind the history found, which the pass has then seen
pub record HasMade (r : Inside) (op : Op) (place : ℕ) (mid : PassView) : Type 0 where
  pub owned : AreOwned r
  pub opened : r.closed ≡ false
  pub quiet : r.held ≡ None
  pub history : List PlacedEntry
  pub finds : Finds r.pass history
  pub entered : mid ≡ seeing r.pass (history_with_own history op place)

-- a call for which there was memory makes its entry
pub entered_at : (pass : PassView) (op : Op) (place : ℕ) (reply : Reply) (mid : PassView) (answered : IsCallAnswered pass op place reply mid)
    → (reply ≡ R.NoMemory → ⊥) → pass.number ≡ 0 → mid ≡ seeing pass (history_with_own answered.history op place)
entered_at pass op place reply mid answered remembered first = elim answered.answer [
  | inl refused ↦ absurd (remembered refused.reply_is)
  | inr entered ↦ entered.pass ∙ ap (λ n. seeing pass (answered.history ++ placed_entry_of n answered.history op place ∷ [])) first
]

pub has_made : (r : Inside) (op : Op) (place : ℕ) (reply : Reply) (mid : PassView) → AreOwned r → r.closed ≡ false → r.held ≡ None
    → IsCallAnswered r.pass op place reply mid → (reply ≡ R.NoMemory → ⊥) → HasMade r op place mid
has_made r op place reply mid owned opened quiet answered remembered = record {
  owned = owned;
  opened = opened;
  quiet = quiet;
  history = answered.history;
  finds = answered.finds;
  entered = entered_at r.pass op place reply mid answered remembered owned.owner.first;
}

-- its reply is that of a region of one thread
pub reply_made : (pass : PassView) (op : Op) (place : ℕ) (reply : Reply) (mid : PassView) (answered : IsCallAnswered pass op place reply mid)
    → (reply ≡ R.NoMemory → ⊥) → reply ≡ reply_of (slots_of answered.history) op
reply_made pass op place reply mid answered remembered = elim answered.answer [
  | inl refused ↦ absurd (remembered refused.reply_is)
  | inr entered ↦ entered.reply_is
]

-- more may have been seen since
pub record HasLookedOn (mid after : PassView) : Type 0 where
  pub found : Finds mid after.seen
  pub pass : after ≡ seeing mid after.seen

module _ {r : Inside} {op : Op} {place : ℕ} {mid : PassView} (made : HasMade r op place mid) where
  abbrev own : PlacedEntry
  own = placed_entry_of 0 made.history op place

  abbrev found : List PlacedEntry
  found = others r made.owned made.opened made.history made.finds

  mid_seen : mid.seen ≡ taken_of r.pass r.taken ++ (found ++ own ∷ [])
  mid_seen =
      ap (λ (p : PassView). p.seen) made.entered ∙ ap (λ h. h ++ own ∷ []) (whole r made.owned made.opened made.history made.finds)
      ∙ append_assoc (taken_of r.pass r.taken) found (own ∷ [])

  pub mid_long : length mid.seen ≡ r.taken + (length found + 1)
  mid_long = omega (arith, ap length mid_seen, length-append (taken_of r.pass r.taken) (found ++ own ∷ []), length-append found (own ∷ []), taken_len r made.owned)

  pub few_taken : r.taken ≤ length mid.seen
  few_taken = omega (arith, mid_long)

  -- a call may be made again
  pub still_ready : IsPassReady (arc_value r.region) mid
  still_ready = record {
    lock = ap (λ (p : PassView). p.lock) made.entered ∙ made.owned.owner.lock;
    free = ap (λ (p : PassView). p.turn) made.entered ∙ made.owned.owner.turn ∙ ap (λ held. option_map (λ (h : HeldView). (h.ticket, h.history)) held) made.quiet;
  }

  -- then the objects may be looked at as the entries read them
  pub may_look : (nodes : List Node) → IsHandled nodes (taken_of r.pass r.taken) → (k : ℕ) → r.taken ≤ k → k < length mid.seen → IsHandled nodes (take k mid.seen)
  may_look nodes handled k above below =
      subst (λ h. IsHandled nodes (take k h)) (sym mid_seen)
      (handled_at nodes (taken_of r.pass r.taken) found (own ∷ []) k handled (are_orders r made.owned made.opened made.history made.finds)
      (omega (arith, above, taken_len r made.owned)) (omega (arith, below, mid_long, taken_len r made.owned)))

  -- what was taken is the same of what the pass has seen now
  same_taken : take r.taken mid.seen ≡ taken_of r.pass r.taken
  same_taken =
      ap (take r.taken) mid_seen ∙ ap (λ n. take n (taken_of r.pass r.taken ++ (found ++ own ∷ []))) (sym (taken_len r made.owned))
      ∙ take-append_seam (taken_of r.pass r.taken) (found ++ own ∷ [])

  module _ {after : PassView} (on : HasLookedOn mid after) where
    -- all that is ahead of the entry
    abbrev later : List PlacedEntry
    later = on.found.goes_on.rest

    after_seen : after.seen ≡ r.pass.seen ++ (made.finds.goes_on.rest ++ (own ∷ [] ++ later))
    after_seen =
        on.found.goes_on.all ∙ ap (λ (p : PassView). p.seen ++ later) made.entered
        ∙ ap (λ h. (h ++ own ∷ []) ++ later) made.finds.goes_on.all
        ∙ append_assoc (r.pass.seen ++ made.finds.goes_on.rest) (own ∷ []) later
        ∙ append_assoc r.pass.seen made.finds.goes_on.rest (own ∷ [] ++ later)

    after_is : after ≡ seeing r.pass after.seen
    after_is = on.pass ∙ ap (λ (p : PassView). seeing p after.seen) made.entered

    pub all_taken : take (length mid.seen) after.seen ≡ mid.seen
    all_taken = ap (take (length mid.seen)) on.found.goes_on.all ∙ take-append_seam mid.seen later

    -- the owner's are those that no join has told, where no join is awaited
    own_owners : r.threads.awaiting ≡ false → All IsOwners (entries_of (drop r.printed mid.seen))
    own_owners still =
        let none : found ≡ [] =
        none_named (λ (p : PlacedEntry). p.entry.thread) found
        (subst (λ out. All (λ (p : PlacedEntry). Contains out p.entry.thread) found) (made.owned.none_out still)
        (are_out r made.owned made.opened made.history made.finds)) in
        let seen : mid.seen ≡ taken_of r.pass r.taken ++ own ∷ [] = mid_seen ∙ ap (λ fs. taken_of r.pass r.taken ++ (fs ++ own ∷ [])) none in
        let split : entries_of (drop r.printed mid.seen) ≡ entries_of (drop r.printed (taken_of r.pass r.taken)) ++ own.entry ∷ [] =
        ap (λ h. entries_of (drop r.printed h)) seen
        ∙ ap entries_of (drop-append-le r.printed (taken_of r.pass r.taken) (own ∷ []) (omega (arith, made.owned.printed_few, taken_len r made.owned)))
        ∙ map-append (λ (p : PlacedEntry). p.entry) (drop r.printed (taken_of r.pass r.taken)) (own ∷ []) in
        subst (All IsOwners) (sym split)
        (All-append IsOwners (entries_of (drop r.printed (taken_of r.pass r.taken))) (own.entry ∷ []) (made.owned.owners still)
        (All-cons IsOwners own.entry [] refl (All-nil IsOwners)))

    pub stays_owned : (count : ℕ) → count ≡ length mid.seen → AreOwned (called_fields r after count)
    stays_owned count is =
        let long : length after.seen ≡ length mid.seen + length later = ap length on.found.goes_on.all ∙ length-append mid.seen later in
        subst (λ n. AreOwned (called_fields r after n)) (sym is)
        (grown r made.owned made.quiet made.opened after (made.finds.goes_on.rest ++ (own ∷ [] ++ later)) (length mid.seen)
        (after_is ∙ ap (seeing r.pass) after_seen) few_taken (subst (λ h. length mid.seen ≤ length h) after_seen (omega (arith, long)))
        (subst (λ h. All (λ (p : PlacedEntry). Contains r.pass.out p.entry.thread) (drop (length mid.seen) h)) after_seen
        (subst (All (λ (p : PlacedEntry). Contains r.pass.out p.entry.thread)) (sym (ap (drop (length mid.seen)) on.found.goes_on.all ∙ drop-append_seam mid.seen later))
        (subst (λ (p : PassView). All (λ (q : PlacedEntry). Contains p.out q.entry.thread) later) made.entered
        (on.found.goes_on.outs (ap (λ (p : PassView). p.number) made.entered ∙ made.owned.owner.first)))))
        (λ still.
        subst (λ h. All IsOwners (entries_of (drop r.printed (take (length mid.seen) h)))) after_seen
        (subst (λ h. All IsOwners (entries_of (drop r.printed h))) (sym all_taken) (own_owners still))))

    -- so it was entered
    pub has_entered : (count : ℕ) → count ≡ length mid.seen → HasEntered op place (owned_view r) (owned_view (called_fields r after count))
    has_entered count is =
        let new : OwnedView = owned_view (called_fields r after count) in
        let silent : (taken : List PlacedEntry) → lines_told (is_some r.held) r.threads.replies r.shown taken ≡ [] =
        λ taken. ap (λ held. lines_told (is_some held) r.threads.replies r.shown taken) made.quiet in
        record {
          others = found;
          found = is_found r made.owned made.opened made.history made.finds;
          taken = ap (λ n. take n after.seen) is ∙ all_taken ∙ ap (λ (p : PassView). p.seen) made.entered
              ∙ ap (λ h. history_with_own h op place) (whole r made.owned made.opened made.history made.finds);
          rest = ap (λ out. record new { out = out }) (ap (λ (p : PassView). p.out) after_is)
              ∙ ap (λ (ls : List Line). record new { out = r.pass.out; told = ls }) (silent new.taken ∙ sym (silent (taken_of r.pass r.taken)));
        }

    -- what was looked at is what the call has taken
    pub looks_again : (count : ℕ) → count ≡ length mid.seen → (objects looked : ObjectsView)
        → HasLooked objects (take r.taken mid.seen) (entries_of (drop r.taken mid.seen)) looked
        → LooksAgain objects (owned_view r) (owned_view (called_fields r after count)) looked
    looks_again count is objects looked looks =
        let new : OwnedView = owned_view (called_fields r after count) in
        let taken : new.taken ≡ mid.seen = ap (λ n. take n after.seen) is ∙ all_taken in
        let piece : entries_of (drop r.taken mid.seen) ≡ entries_of (drop (length (taken_of r.pass r.taken)) new.taken) =
        ap (λ n. entries_of (drop n mid.seen)) (sym (taken_len r made.owned)) ∙ ap (λ h. entries_of (drop (length (taken_of r.pass r.taken)) h)) (sym taken) in
        let now : HasLooked objects (taken_of r.pass r.taken) (entries_of (drop (length (taken_of r.pass r.taken)) new.taken)) looked =
        subst (λ es. HasLooked objects (taken_of r.pass r.taken) es looked) piece
        (subst (λ h. HasLooked objects h (entries_of (drop r.taken mid.seen)) looked) same_taken looks) in
        record { others = now.others; marks = now.marks }
