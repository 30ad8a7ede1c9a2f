-- What is true of the region's fields between two calls stays true where the pass has seen more, and more was taken.
use Rattle.std.proofs.Common.{refl, ◌≡◌, ℕ, ◌≤◌, true, false, List, [], ◌++◌, length, take, drop, All, Option, Some, None, sym, ◌∙◌, subst, arith}
use Rattle.std.specs.Prelude.{Contains, is_some}
use Rattle.std.proofs.lemmas.Bool.{true≢false}
use Rattle.std.proofs.lemmas.List.{take-append-le}
use Rattle.cross_thread_region.specs.declared.chronicle.PlacedEntry.{PlacedEntry}
use Rattle.cross_thread_region.specs.Calls.{HeldView, PassView, seeing}
use Rattle.cross_thread_region.specs.Histories.{entries_of}
use Rattle.thread_queues.specs.Queues.{QueuesView}
use Rattle.heap_region.specs.declared.owned.OwnedRegion.TheInside.{Inside}
use Rattle.heap_region.specs.Inside.{HaveStarted, IsHeld, IsOwners, lines_told, taken_of}
use Rattle.heap_region.proofs.Fields.{AreOwned, called_fields, owned_view}

none_held : (held : Option HeldView) (pass : PassView) (queues : QueuesView) (taken shown : ℕ) → ((h : HeldView) → held ≡ Some h → IsHeld pass queues h taken shown)
    → lines_told (is_some held) queues.replies shown (taken_of pass taken) ≡ [] → held ≡ None
none_held None pass queues taken shown holds quiet = refl
none_held (Some h) pass queues taken shown holds quiet = absurd ((holds h refl).tells quiet)

-- nothing is held where nothing is told
pub not_held : (r : Inside) → AreOwned r → (owned_view r).told ≡ [] → r.held ≡ None
not_held r owned quiet = none_held r.held r.pass r.threads r.taken r.shown owned.holds quiet

none_at : (held : Option HeldView) → ((h : HeldView) → held ≡ Some h → ⊥) → held ≡ None
none_at None never = refl
none_at (Some h) never = absurd (never h refl)

-- nor where a join is awaited
pub not_held_yet : (r : Inside) → AreOwned r → r.threads.awaiting ≡ true → r.held ≡ None
not_held_yet r owned awaits = none_at r.held (λ h is. true≢false (sym awaits ∙ (owned.holds h is).joined))

module _ (r : Inside) (owned : AreOwned r) (quiet : r.held ≡ None) (opened : r.closed ≡ false) where
  pub printed_seen : r.printed ≤ length r.pass.seen
  printed_seen = omega (arith, owned.printed_few, owned.few)

  pub grown : (passed : PassView) (more : List PlacedEntry) (taken : ℕ) → passed ≡ seeing r.pass (r.pass.seen ++ more) → r.taken ≤ taken
      → taken ≤ length (r.pass.seen ++ more) → All (λ (p : PlacedEntry). Contains r.pass.out p.entry.thread) (drop taken (r.pass.seen ++ more))
      → (r.threads.awaiting ≡ false → All IsOwners (entries_of (drop r.printed (take taken (r.pass.seen ++ more)))))
      → AreOwned (called_fields r passed taken)
  grown passed more taken is above below ahead owners =
      subst (λ (p : PassView). AreOwned (called_fields r p taken)) (sym is)
      (record {
        owner = record { lock = owned.owner.lock; first = owned.owner.first; slots = owned.owner.slots; turn = owned.owner.turn };
        holds = λ h held. absurd (let never : Some h ≡ None = sym held ∙ quiet in cc);
        outs = record { ready = owned.outs.ready; others = owned.outs.others; numbers = owned.outs.numbers; once = owned.outs.once; running = owned.outs.running };
        few = below;
        ahead = λ still_open. ahead;
        printed_few = omega (arith, owned.printed_few, above);
        shown_few = omega (arith, owned.shown_few, above);
        none_out = owned.none_out;
        none_run = owned.none_run;
        owners = owners;
        started = λ awaits still_open.
            subst (HaveStarted r.threads) (sym (take-append-le r.printed r.pass.seen more printed_seen)) (owned.started awaits still_open);
        begun = λ shut. absurd (true≢false (sym shut ∙ opened));
      })
