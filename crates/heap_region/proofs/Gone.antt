-- Threads go: their passes have seen what the owner's has.
use Rattle.std.proofs.Common.{◌≡◌, ℕ, true, false, List, ◌++◌, take, drop, All, None, Some, sym, ap, ◌∙◌, subst}
use Rattle.std.specs.Arc.{arc_value}
use Rattle.std.specs.List.{Contains}
use Rattle.std.proofs.lemmas.Bool.{true≢false}
use Rattle.std.proofs.lemmas.List.{append-nil, take-append-drop}
use Rattle.std.proofs.lemmas.List.Elements.{All-contains, All-nil}
use Rattle.cross_thread_region.specs.declared.chronicle.PlacedEntry.{PlacedEntry}
use Rattle.cross_thread_region.specs.Calls.{PassView}
use Rattle.thread_queues.specs.Going.{AreOut, HaveBegun}
use Rattle.thread_queues.specs.Queues.{QueuesView, threads_in}
use Rattle.heap_region.specs.declared.owned.OwnedRegion.TheInside.{Inside}
use Rattle.heap_region.specs.Inside.{HaveStarted, taken_of}
use Rattle.heap_region.proofs.Beginnings.{none_named}
use Rattle.heap_region.proofs.Fields.{AreOwned}

module _ (r : Inside) (owned : AreOwned r) (still : r.threads.awaiting ≡ false) (opened : r.closed ≡ false) where
  -- the pass has seen no more than was taken
  all_taken : r.pass.seen ≡ taken_of r.pass r.taken
  all_taken =
      sym (take-append-drop r.taken r.pass.seen)
      ∙ ap (λ rest. taken_of r.pass r.taken ++ rest)
      (none_named (λ (p : PlacedEntry). p.entry.thread) (drop r.taken r.pass.seen)
      (subst (λ out. All (λ (p : PlacedEntry). Contains out p.entry.thread) (drop r.taken r.pass.seen)) (owned.none_out still) (owned.ahead opened)))
      ∙ append-nil (taken_of r.pass r.taken)

  -- what joins have told, and behind it entries of the owner
  split : r.pass.seen ≡ take r.printed r.pass.seen ++ drop r.printed (taken_of r.pass r.taken)
  split = sym (take-append-drop r.printed r.pass.seen) ∙ ap (λ xs. take r.printed r.pass.seen ++ drop r.printed xs) all_taken

  module _ (quiet : r.held ≡ None) (gone : QueuesView) (out : List ℕ) (queues : gone.queues ≡ r.threads.queues) (running : gone.running ≡ threads_in r.threads.queues)
      (awaiting : gone.awaiting ≡ true) (away : gone.away ≡ true) (began : HaveBegun r.threads.queues r.pass.seen gone.passes) where
    have_started : HaveStarted gone (take r.printed r.pass.seen)
    have_started = record {
      away = away;
      all = running ∙ ap threads_in (sym queues);
      seen = λ p there. (
        drop r.printed (taken_of r.pass r.taken),
        All-contains (λ (q : PassView). q.seen ≡ r.pass.seen) gone.passes p began.seen there ∙ split,
        owned.owners still,
      );
    }

    pub has_gone : AreOut (arc_value r.region) (record r.pass { out = out }) gone → AreOwned (record r { pass = record r.pass { out = out }; threads = gone })
    has_gone outs = record {
      owner = record { lock = owned.owner.lock; first = owned.owner.first; slots = owned.owner.slots; turn = owned.owner.turn };
      holds = λ h held. absurd (let never : Some h ≡ None = sym held ∙ quiet in cc);
      outs = outs;
      few = owned.few;
      ahead = λ still_open.
          subst (λ rest. All (λ (p : PlacedEntry). Contains out p.entry.thread) rest)
          (sym (none_named (λ (p : PlacedEntry). p.entry.thread) (drop r.taken r.pass.seen)
          (subst (λ outs. All (λ (p : PlacedEntry). Contains outs p.entry.thread) (drop r.taken r.pass.seen)) (owned.none_out still) (owned.ahead opened))))
          (All-nil (λ (p : PlacedEntry). Contains out p.entry.thread));
      printed_few = owned.printed_few;
      shown_few = owned.shown_few;
      none_out = λ calm. absurd (true≢false (sym awaiting ∙ calm));
      none_run = λ calm. absurd (true≢false (sym awaiting ∙ calm));
      owners = λ calm. absurd (true≢false (sym awaiting ∙ calm));
      started = λ awaits still_open. have_started;
      begun = λ shut. absurd (true≢false (sym shut ∙ opened));
    }
