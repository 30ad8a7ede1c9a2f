use Rattle.std.proofs.Common.{◌≡◌, ◌++◌, ℕ, not, true, false, List, [], Option, Some, None, refl, sym, ap, ◌∙◌, subst, inl, inr}
use Rattle.std.specs.Prelude.{is_some}
use Rattle.std.specs.List.{Contains}
use Rattle.std.proofs.lemmas.Bool.{cases_Bool, true≢false}
use Rattle.std.proofs.lemmas.List.{append-nil}
use Rattle.gc_graph.specs.declared.line.Line.{Line}
use Rattle.cross_thread_region.specs.declared.chronicle.PlacedEntry.{PlacedEntry}
use Rattle.cross_thread_region.specs.Calls.{HeldView, PassView}
use Rattle.thread_queues.specs.Going.{HaveReturned}
use Rattle.thread_queues.specs.Queues.{QueuesView}
use Rattle.heap_region.specs.declared.owned.OwnedRegion.TheInside.{Inside}
use Rattle.heap_region.specs.Owned.{OwnedView, HasBegun}
use Rattle.heap_region.proofs.Closed.{all_begun, closed_held, closed_joined}
use Rattle.heap_region.proofs.Fields.{AreOwned}
use Rattle.heap_region.proofs.owned.OwnedRegion.close.Goals as goal
use Rattle.heap_region.proofs.owned.OwnedRegion.close.Goals.{then-is_none, else-is_none}

nothing : (held : Option HeldView) → is_some held ≡ false → held ≡ None
nothing None is = refl
nothing (Some h) is = absurd (true≢false is)

something : (held : Option HeldView) → is_some held ≡ true → (h : HeldView) × (held ≡ Some h)
something None is = absurd (true≢false (sym is))
something (Some h) is = (h, refl)

-- what a dismissal adds to what the pass has seen
grown_by : (queues : QueuesView) (pass now : PassView) (replies : List Line) → (queues.away ≡ true → HaveReturned queues pass now.seen replies)
    → (queues.away ≡ false → now ≡ pass) → (rest : List PlacedEntry) × (now.seen ≡ pass.seen ++ rest)
grown_by queues pass now replies away here = elim (cases_Bool queues.away) [
  | inl gone ↦ (let r = away gone in (r.met.rest, r.met.grown))
  | inr back ↦ ([], ap (λ (p : PassView). p.seen) (here back) ∙ sym (append-nil pass.seen))
]

pub invariant_of-self : goal.invariant_of-self
invariant_of-self g c =
    let r = c.self.inside in
    elim c.if-is_none.branch [
      | then-is_none w ↦
          let quiet : r.held ≡ None = nothing r.held (c.is_none.ensures ∙ ap not w.if-is_none.true) in
          let more = grown_by r.threads r.pass w.dismiss.new.pass w.dismiss.new.self.replies w.dismiss.ensures.returned w.dismiss.ensures.same in
          subst (λ (x : Inside). AreOwned (record x { closed = true })) (sym w.self-inside-is)
          (subst (λ (pass : PassView). AreOwned (record r { pass = pass; threads = w.dismiss.new.self; closed = true })) (sym w.dismiss.ensures.pass)
          (subst (λ (queues : QueuesView). AreOwned (record r { pass = record r.pass { seen = w.dismiss.new.pass.seen; out = [] }; threads = queues; closed = true }))
          (sym w.dismiss.ensures.dismissed)
          (closed_joined r c.self.invariant quiet w.dismiss.new.pass.seen more.0 more.1 w.dismiss.new.self.replies
          (λ awaits opened. w.dismiss.ensures.returned (c.self.invariant.started awaits opened).away))))
      | else-is_none w ↦
          let held = something r.held (c.is_none.ensures ∙ ap not w.if-is_none.false) in
          subst (λ (x : Inside). AreOwned (record x { closed = true })) (sym w.self-inside-is) (closed_held r c.self.invariant held.0 held.1)
    ]

pub returns-clause-begun : goal.returns-clause-begun
returns-clause-begun g c =
    let r = c.self.inside in
    subst (λ (v : OwnedView). (j : ℕ) → Contains v.running j → HasBegun v j) c.self.view_is
    (all_begun r c.self.invariant (λ awaits opened. elim c.if-is_none.branch [
      | then-is_none w ↦ (w.dismiss.new.pass.seen, w.dismiss.new.self.replies, w.dismiss.ensures.returned (c.self.invariant.started awaits opened).away)
      | else-is_none w ↦
          let held = something r.held (c.is_none.ensures ∙ ap not w.if-is_none.false) in
          absurd (true≢false (sym awaits ∙ (c.self.invariant.holds held.0 held.1).joined))
    ]))
