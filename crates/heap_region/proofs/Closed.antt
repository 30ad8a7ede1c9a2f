-- The passes of threads are joined as the region is closed, and what was taken stays.
use Rattle.std.proofs.Common.{◌≡◌, ◌≢◌, ℕ, true, false, List, [], ◌++◌, length, take, drop, map, reverse, All, None, Some, refl, sym, ap, ◌∙◌, subst, inl, inr, arith}
use Rattle.std.specs.Arc.{arc_value}
use Rattle.std.specs.List.{Contains}
use Rattle.std.proofs.lemmas.Bool.{cases_Bool, true≢false}
use Rattle.std.proofs.lemmas.List.{length-append, take-append-le}
use Rattle.std.proofs.lemmas.List.Elements.{All-nil}
use Rattle.gc_graph.specs.declared.line.Line.{Line}
use Rattle.cross_thread_region.specs.declared.chronicle.PlacedEntry.{PlacedEntry}
use Rattle.cross_thread_region.specs.Calls.{HeldView, IsPassReady, PassView, RegionView}
use Rattle.cross_thread_region.specs.Histories.{entries_of}
use Rattle.thread_queues.specs.Going.{AreOut, Descend, HaveReturned}
use Rattle.thread_queues.specs.Queues.{QueuesView}
use Rattle.heap_region.specs.declared.owned.OwnedRegion.TheInside.{Inside}
use Rattle.heap_region.specs.Inside.{HasBegunIn, IsOwners, taken_of}
use Rattle.heap_region.proofs.Fields.{AreOwned}
use Rattle.heap_region.proofs.Meeting.{has_begun}

-- where no pass is out and none is held
pub none_are_out : (region : RegionView) (pass : PassView) (queues : QueuesView) → pass.out ≡ [] → queues.passes ≡ [] → AreOut region pass queues
none_are_out region pass queues out passes = record {
  ready = subst (All (IsPassReady region)) (sym passes) (All-nil (IsPassReady region));
  others = subst (All (λ (p : PassView). p.number ≢ 0)) (sym passes) (All-nil (λ (p : PassView). p.number ≢ 0));
  numbers = out ∙ ap (λ (ps : List PassView). reverse (map (λ (p : PassView). p.number) ps)) (sym passes);
  once = subst Descend (sym out) tt;
  running = subst (All (Contains queues.running)) (sym out) (All-nil (Contains queues.running));
}

module _ (r : Inside) (owned : AreOwned r) where
  -- the threads that run have begun their orders, as far as what was taken tells
  pub all_begun : ((awaits : r.threads.awaiting ≡ true) → r.closed ≡ false
      → (seen : List PlacedEntry) × (replies : List Line) × HaveReturned r.threads r.pass seen replies) → (j : ℕ)
      → Contains r.threads.running j → HasBegunIn r.threads (entries_of (drop r.printed (taken_of r.pass r.taken))) j
  all_begun meets j runs = elim (cases_Bool r.threads.awaiting) [
    | inl awaits ↦
        elim (cases_Bool r.closed) [
          | inl shut ↦ owned.begun shut j runs
          | inr opened ↦ (let m = meets awaits opened in has_begun r owned awaits opened m.0 m.1 m.2 j runs)
        ]
    | inr still ↦ absurd (let there : Contains [] j = subst (λ (js : List ℕ). Contains js j) (owned.none_run still) runs in omega (arith, there.1))
  ]

  module _ (quiet : r.held ≡ None) (seen rest : List PlacedEntry) (grown : seen ≡ r.pass.seen ++ rest) (replies : List Line)
      (returns : r.threads.awaiting ≡ true → r.closed ≡ false → HaveReturned r.threads r.pass seen replies) where
    taken_stays : take r.taken seen ≡ taken_of r.pass r.taken
    taken_stays = ap (take r.taken) grown ∙ take-append-le r.taken r.pass.seen rest owned.few

    -- once they were joined, and nothing was held
    pub closed_joined : AreOwned (record r {
      pass = record r.pass { seen = seen; out = [] };
      threads = record r.threads { away = false; replies = replies; passes = [] };
      closed = true;
    })
    closed_joined = record {
      owner = record { lock = owned.owner.lock; first = owned.owner.first; slots = owned.owner.slots; turn = owned.owner.turn };
      holds = λ h held. absurd (let never : Some h ≡ None = sym held ∙ quiet in cc);
      outs = none_are_out (arc_value r.region) (record r.pass { seen = seen; out = [] }) (record r.threads { away = false; replies = replies; passes = [] }) refl refl;
      few = omega (arith, owned.few, ap length grown, length-append r.pass.seen rest);
      ahead = λ still_open. absurd (true≢false still_open);
      printed_few = owned.printed_few;
      shown_few = owned.shown_few;
      none_out = λ still. refl;
      none_run = owned.none_run;
      owners = λ still. subst (λ h. All IsOwners (entries_of (drop r.printed h))) (sym taken_stays) (owned.owners still);
      started = λ awaits still_open. absurd (true≢false still_open);
      begun = λ shut j runs.
          subst (λ h. HasBegunIn r.threads (entries_of (drop r.printed h)) j) (sym taken_stays) (all_begun (λ awaits opened. (seen, replies, returns awaits opened)) j runs);
    }

  -- or where a join holds the history, so that none runs
  pub closed_held : (h : HeldView) → r.held ≡ Some h → AreOwned (record r { closed = true })
  closed_held h held =
      let joined : r.threads.awaiting ≡ false = (owned.holds h held).joined in
      record {
        owner = owned.owner;
        holds = owned.holds;
        outs = owned.outs;
        few = owned.few;
        ahead = λ still_open. absurd (true≢false still_open);
        printed_few = owned.printed_few;
        shown_few = owned.shown_few;
        none_out = owned.none_out;
        none_run = owned.none_run;
        owners = owned.owners;
        started = λ awaits still_open. absurd (true≢false still_open);
        begun = λ shut j runs.
            absurd (let there : Contains [] j = subst (λ (js : List ℕ). Contains js j) (owned.none_run joined) runs in omega (arith, there.1));
      }
