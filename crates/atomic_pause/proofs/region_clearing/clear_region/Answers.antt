use Rattle.std.proofs.Common.{rules, ◌≡◌, ◌+◌, ℕ, Bool, not, List, refl, sym, ap, ◌∙◌, subst, inl, inr, eqb}
use Rattle.std.specs.Prelude.{⊤}
use Rattle.std.specs.List.{Contains, list_any}
use Rattle.std.proofs.lemmas.Bool.{true≢false, cases_Bool, eq-eqb, eqb-true}
use Rattle.gc_graph.specs.Members.{any_from, any_member}
use Rattle.gc_graph.specs.History.{NamesWeakSlots}
use Rattle.marker_core.specs.Bodies.{holds}
use Rattle.persistent_slots.specs.Steady.{may_be_asked, answers_by}
use Rattle.cross_thread_region.specs.Calls.{after_turn}
use Rattle.cross_thread_region.specs.Histories.{slots_of}
use Rattle.cross_thread_region.specs.Pauses.{history_paused, dying_of}
use Rattle.cross_thread_region.specs.DyingSlots.{same_dying}
use Rattle.atomic_pause.proofs.region_clearing.clear_region.Goals as goal

pub pause_end-requires-clause-asks : goal.pause_end-requires-clause-asks
pause_end-requires-clause-asks c =
    may_be_asked _ _ (λ test. ⊤) (λ place. ⊤) (λ test place known fit. search rules) (λ test place answer next known s. tt) _ _ tt (λ k d l. tt)

-- whether a place is told
told_rule : List ℕ → ℕ → Bool
told_rule dead p = list_any (λ w. eqb w (p + 1)) dead

exactly : (c : goal.After-pause_end) → c.pause_end.result ≡ dying_of (told_rule c.dead_places-dead.result) c.args.held.history
unfolding told_rule
exactly c =
    c.pause_end.ensures.exactly (told_rule c.dead_places-dead.result)
    (answers_by _ (λ test. test.0.now ≡ c.dead_places-dead.result) (told_rule c.dead_places-dead.result) (λ test place answer next known s. search rules)
    (λ test place answer next known s. search rules) _ _ refl)

-- and it is told exactly where it is the place of a weak slot that isn't marked
unmarked : (c : goal.After-pause_end) → dying_of (told_rule c.dead_places-dead.result) c.args.held.history ≡ dying_of (λ a. not (holds c.args.seat.now.marked a)) c.args.held.history
unfolding told_rule
unmarked c =
    let dead : List ℕ = c.dead_places-dead.result in
    let marked : ℕ → Bool = holds c.args.seat.now.marked in
    same_dying (told_rule dead) (λ a. not (marked a)) c.args.held.history (λ x p is. elim (cases_Bool (told_rule dead p)) [
      | inl told ↦
          (let w = any_member (λ n. eqb n (p + 1)) dead told in
          let there : Contains dead (p + 1) = subst (Contains dead) (eqb-true w.0 (p + 1) w.2) w.1 in
          told ∙ sym (ap not (c.dead_places-dead.ensures.only p there)))
      | inr other ↦ elim (cases_Bool (marked p)) [
        | inl kept ↦ other ∙ sym (ap not kept)
        | inr gone ↦ absurd (true≢false (sym (any_from (λ n. eqb n (p + 1)) dead (p + 1) (c.dead_places-dead.ensures.dead x p is gone) (eq-eqb (p + 1) (p + 1) refl)) ∙ other))
      ]
    ])

cleared : (c : goal.After-pause_end) → c.pause_end.result ≡ dying_of (λ a. not (holds c.args.seat.now.marked a)) c.args.held.history
cleared c = exactly c ∙ unmarked c

pub returns-clause-pass : goal.returns-clause-pass
returns-clause-pass c = c.pause_end.ensures.pass ∙ ap (λ mask. after_turn c.args.pass.now (history_paused c.args.held.history mask)) (cleared c)

pub returns-clause-weak : goal.returns-clause-weak
returns-clause-weak c = subst (λ mask. NamesWeakSlots mask (slots_of c.args.held.history)) (cleared c) c.pause_end.ensures.weak
