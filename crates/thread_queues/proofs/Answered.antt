-- The totals that a thread's replies tell.
use Rattle.std.proofs.Common.{◌≡◌, ℕ, ◌≤◌, List, [], ◌∷◌, ◌++◌, map, All, Contains, sym, ap, subst, inl, inr, arith}
use Rattle.std.proofs.lemmas.List.Elements.{All-contains}
use Rattle.gc_graph.specs.Lawful.{TotalsNeverFall}
use Rattle.gc_graph.specs.Members.{Contains-head, Contains-cons, Contains-cons_cases}
use Rattle.gc_graph.specs.RegionSteps.{Answer, reply_line}
use Rattle.gc_graph.specs.RegionSteps.Answer.{Replied, Told}
use Rattle.gc_graph.specs.declared.line.Line.{Line}
use Rattle.gc_graph.specs.declared.line.Line.TheVariants as L
use Rattle.heap_stats.specs.Boards.{NeverFall, Rise}
use Rattle.heap_stats.specs.LaterTotals.{among_later}
use Rattle.heap_stats.specs.declared.totals.Totals.{Totals}
use Rattle.thread_queues.specs.Falling.{both_fall_not, none_falls, one_falls_not}
use Rattle.thread_queues.specs.Orders.{totals_in}

-- these totals
abbrev pub totals_with : ℕ → ℕ → ℕ → ℕ → Totals
totals_with o n u f = record { ordinal = o; objects = n; used = u; finalised = f }

-- a reply that tells totals is of the thread, and tells some of those that its answers tell
pub told_in : (j k o n u f : ℕ) (answers : List Answer) → Contains (map (reply_line j) answers) (L.ReplyTotals k o n u f)
    → (k ≡ j) × Contains (totals_in answers) (totals_with o n u f)
told_in j k o n u f [] there = absurd (omega (arith, there.1))
told_in j k o n u f (Replied reply ∷ answers) there =
    elim (Contains-cons_cases (L.Reply j reply) (map (reply_line j) answers) (L.ReplyTotals k o n u f) there) [
      | inl here ↦ cc
      | inr later ↦ told_in j k o n u f answers later
    ]
told_in j k o n u f (Told a b c d ∷ answers) there =
    elim (Contains-cons_cases (L.ReplyTotals j a b c d) (map (reply_line j) answers) (L.ReplyTotals k o n u f) there) [
      | inl here ↦ (
        sym (ap number here),
        subst (Contains (totals_with a b c d ∷ totals_in answers)) (ap totals here) (Contains-head (totals_with a b c d) (totals_in answers)),
      )
      | inr later ↦ (
          let rest = told_in j k o n u f answers later in
          (rest.0, Contains-cons (totals_with a b c d) (totals_in answers) (totals_with o n u f) rest.1)
          )
    ]
  where
    number : Line → ℕ
    number (L.ReplyTotals m o2 n2 u2 f2) = m
    number _ = 0

    totals : Line → Totals
    totals (L.ReplyTotals m o2 n2 u2 f2) = totals_with o2 n2 u2 f2
    totals _ = totals_with 0 0 0 0

-- where the totals never get older, those of the replies don't
pub never_older : (j : ℕ) (answers : List Answer) → NeverFall (totals_in answers) → TotalsNeverFall (map (reply_line j) answers)
never_older j [] fall = none_falls [] (λ k o n u f there. absurd (omega (arith, there.1)))
never_older j (Replied reply ∷ answers) fall =
    both_fall_not (L.Reply j reply ∷ []) (map (reply_line j) answers) (one_falls_not (L.Reply j reply)) (never_older j answers fall)
    (λ k o n u f o2 n2 u2 f2 here there. elim (Contains-cons_cases (L.Reply j reply) [] (L.ReplyTotals k o n u f) here) [
      | inl same ↦ cc
      | inr never ↦ absurd (omega (arith, never.1))
    ])
never_older j (Told a b c d ∷ answers) fall =
    both_fall_not (L.ReplyTotals j a b c d ∷ []) (map (reply_line j) answers) (one_falls_not (L.ReplyTotals j a b c d)) (never_older j answers fall.1)
    (λ k o n u f o2 n2 u2 f2 here there.
    let first = told_in j k o n u f (Told a b c d ∷ []) here in
    let later = told_in j k o2 n2 u2 f2 answers there in
    let same : totals_with a b c d ≡ totals_with o n u f = elim (Contains-cons_cases (totals_with a b c d) [] (totals_with o n u f) first.1) [
      | inl e ↦ e
      | inr never ↦ absurd (omega (arith, never.1))
    ] in
    omega (
      arith,
      ap (λ (t : Totals). t.ordinal) same,
      All-contains (λ (t : Totals). a ≤ t.ordinal) (totals_in answers) (totals_with o2 n2 u2 f2) fall.0 later.1,
    ))

-- and where all were published, and none before one of these, each is that one or one published later
pub told_since : (published before after : List Totals) (first : Totals) (j : ℕ) (answers : List Answer) → published ≡ before ++ first ∷ after → Rise published
    → All (Contains published) (totals_in answers) → All (λ (t : Totals). first.ordinal ≤ t.ordinal) (totals_in answers) → (k o n u f : ℕ)
    → Contains (map (reply_line j) answers) (L.ReplyTotals k o n u f) → Contains (first ∷ after) (totals_with o n u f)
told_since published before after first j answers is rise within later k o n u f there =
    let told = told_in j k o n u f answers there in
    among_later before after first (totals_with o n u f) (subst Rise is rise)
    (subst (λ l. Contains l (totals_with o n u f)) is (All-contains (Contains published) (totals_in answers) (totals_with o n u f) within told.1))
    (All-contains (λ (t : Totals). first.ordinal ≤ t.ordinal) (totals_in answers) (totals_with o n u f) later told.1)
