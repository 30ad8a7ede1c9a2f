-- The steps on the board keep its rule.
use Rattle.std.proofs.Common.{◌≡◌, ℕ, zero, suc, ◌<◌, ◌≤◌, true, false, List, [], ◌∷◌, ◌++◌, set, All, Contains, refl, sym, ap, ◌∙◌, subst, ⊎_elim, arith, le_refl}
use mathlib.Core.Option.{some, some-injective, some-ne-none}
use lib.ListN.{get_elem?}
use Rattle.std.proofs.lemmas.Bool.{true≢false, false_from_ne_true}
use Rattle.std.proofs.lemmas.List.Elements.{All-nil, All-push, Contains-append_left, Contains-push}
use Rattle.crossbeam_utils.specs.Register.{Turns, Forks, Merges}
use Rattle.atomic_table.proofs.Lists.{at_set, at_snoc, set_again, set_else}
use Rattle.heap_stats.specs.declared.totals.Totals.{Totals}
use Rattle.heap_stats.specs.declared.views.BoardView.{BoardView}
use Rattle.heap_stats.specs.Boards.{zeros}
use Rattle.heap_stats.specs.Rule.{IsViewOn, IsOnBoard, IsReading, IsLooking, first_view, blank, publishing, reading, lent, taking}

-- ---- views on the board

-- a view that doesn't publish and has read nothing is on the board, where it has seen no more than stands there
unread_on : (now : Totals) (published : List Totals) (i : ℕ) (v : BoardView) → v.writes ≡ false → v.seen ≤ now.ordinal → v.read ≡ [] → v.taken ≡ []
    → IsViewOn now published i v
unread_on now published i v silent seen read taken = record {
  writer = λ writes. absurd (true≢false (sym writes ∙ silent));
  seen = seen;
  read = subst (All (Contains published)) (sym read) (All-nil (Contains published));
  taken = subst (All (Contains published)) (sym taken) (All-nil (Contains published));
}

blank_on : (now : Totals) (published : List Totals) (i : ℕ) → IsViewOn now published i blank
blank_on now published i = unread_on now published i blank refl (omega arith) refl refl

-- a reader's view is on the board wherever it stands among the views
moved_on : (now : Totals) (published : List Totals) (i j : ℕ) (v : BoardView) → v.writes ≡ false → IsViewOn now published i v → IsViewOn now published j v
moved_on now published i j v silent on = record {
  writer = λ writes. absurd (true≢false (sym writes ∙ silent));
  seen = on.seen;
  read = on.read;
  taken = on.taken;
}

-- a reader's view stays on the board where more is published
reader_stays : (now new : Totals) (published : List Totals) (i : ℕ) (v : BoardView) → IsViewOn now published i v → v.writes ≡ false → now.ordinal ≤ new.ordinal
    → IsViewOn new (published ++ new ∷ []) i v
reader_stays now new published i v on silent up = record {
  writer = λ writes. absurd (true≢false (sym writes ∙ silent));
  seen = omega (arith, on.seen, up);
  read = λ k d low. Contains-append_left published (new ∷ []) _ (on.read k d low);
  taken = λ k d low. Contains-append_left published (new ∷ []) _ (on.taken k d low);
}

-- the publisher's view after it published
publisher_goes_on : (now new : Totals) (published : List Totals) (i : ℕ) (v : BoardView) → IsViewOn now published i v → v.writes ≡ true
    → IsViewOn new (published ++ new ∷ []) i (publishing v new)
publisher_goes_on now new published i v on writes =
    let own = on.writer writes in
    record {
      writer = λ yes. (own.0, refl, ap (λ (l : List Totals). l ++ new ∷ []) own.2);
      seen = le_refl new.ordinal;
      read = λ k d low. Contains-append_left published (new ∷ []) _ (on.read k d low);
      taken = λ k d low. Contains-append_left published (new ∷ []) _ (on.taken k d low);
    }

-- ---- a new board

pub opens : IsOnBoard zeros (first_view ∷ [])
opens = record {
  published = zeros ∷ [];
  within = (0, omega arith, refl);
  each = first;
}
  where
    first : (i : ℕ) (v : BoardView) → get_elem? (first_view ∷ []) i ≡ some v → IsViewOn zeros (zeros ∷ []) i v
    first zero v at = subst (IsViewOn zeros (zeros ∷ []) 0) (some-injective first_view v at) (record {
      writer = λ yes. (refl, refl, refl);
      seen = omega arith;
      read = All-nil (Contains (zeros ∷ []));
      taken = All-nil (Contains (zeros ∷ []));
    })
    first (suc i) v at = absurd (some-ne-none v (sym at))

-- ---- steps on the words

pub publishes : (pass : ℕ) (v : BoardView) (new : Totals) → v.writes ≡ true → v.last.ordinal < new.ordinal
    → Turns IsOnBoard pass v (λ _. new) (λ before _ y after. after ≡ publishing before y)
publishes pass v new writes greater now views rule at =
    let on : IsViewOn now rule.published pass v = rule.each pass v at in
    let own = on.writer writes in
    let up : now.ordinal ≤ new.ordinal = omega (arith, greater, ap (λ (t : Totals). t.ordinal) own.1) in (
      publishing v new,
      record {
        published = rule.published ++ new ∷ [];
        within = Contains-push rule.published new;
        each = λ i u there. ⊎_elim
            (λ here. subst (IsViewOn new (rule.published ++ new ∷ []) i) here.1
            (subst (λ (j : ℕ). IsViewOn new (rule.published ++ new ∷ []) j (publishing v new)) (sym here.0) (publisher_goes_on now new rule.published pass v on writes)))
            (λ other. reader_stays now new rule.published i u (rule.each i u other.1)
            (false_from_ne_true u.writes (λ too. other.0 (((rule.each i u other.1).writer too).0 ∙ sym own.0))) up)
            (at_set views pass i (publishing v new) u there);
      },
      refl,
    )

pub reads : (pass : ℕ) (v : BoardView) → v.writes ≡ false → Turns IsOnBoard pass v (λ x. x) (λ before found _ after. IsReading before found after)
reads pass v silent now views rule at =
    let on : IsViewOn now rule.published pass v = rule.each pass v at in (
      reading v now,
      record {
        published = rule.published;
        within = rule.within;
        each = λ i u there. ⊎_elim
            (λ here. subst (IsViewOn now rule.published i) here.1 (record {
              writer = λ writes. absurd (true≢false (sym writes ∙ silent));
              seen = le_refl now.ordinal;
              read = All-push (Contains rule.published) v.read now on.read rule.within;
              taken = on.taken;
            }))
            (λ other. rule.each i u other.1)
            (at_set views pass i (reading v now) u there);
      },
      (on.seen, refl),
    )

pub looks : (pass : ℕ) (v : BoardView) → v.writes ≡ true → Turns IsOnBoard pass v (λ x. x) (λ before _ _ after. IsLooking before after)
looks pass v writes now views rule at =
    let on : IsViewOn now rule.published pass v = rule.each pass v at in (
      v,
      subst (IsOnBoard now) (sym (set_again views pass v at)) rule,
      record { same = refl; taken = subst (λ (l : List Totals). All (Contains l) v.taken) (sym (on.writer writes).2) on.taken },
    )

-- ---- passes that come and go

pub lends : (pass : ℕ) (v : BoardView) → v.writes ≡ true → Forks IsOnBoard pass v v (lent v)
lends pass v writes now views rule at =
    let on : IsViewOn now rule.published pass v = rule.each pass v at in
    let same : set views pass v ≡ views = set_again views pass v at in
    record {
      published = rule.published;
      within = rule.within;
      each = λ i u there. ⊎_elim
          (λ old. rule.each i u (ap (λ (l : List BoardView). get_elem? l i) (sym same) ∙ old))
          (λ new. subst (IsViewOn now rule.published i) new
          (unread_on now rule.published i (lent v) refl (omega (arith, ap (λ (t : Totals). t.ordinal) (on.writer writes).1)) refl refl))
          (at_snoc (set views pass v) (lent v) u i there);
    }

pub moves_out : (pass : ℕ) (v : BoardView) → v.writes ≡ false → Forks IsOnBoard pass v blank v
moves_out pass v silent now views rule at = record {
  published = rule.published;
  within = rule.within;
  each = λ i u there. ⊎_elim
      (λ old. ⊎_elim
      (λ here. subst (IsViewOn now rule.published i) here.1 (blank_on now rule.published i))
      (λ other. rule.each i u other.1)
      (at_set views pass i blank u old))
      (λ new. subst (IsViewOn now rule.published i) new (moved_on now rule.published pass i v silent (rule.each pass v at)))
      (at_snoc (set views pass blank) v u i there);
}

pub takes_back : (pass : ℕ) (v : BoardView) (other : ℕ) (w : BoardView) → Merges IsOnBoard pass v other w (taking v w) blank
takes_back pass v other w now views rule at apart there =
    let on : IsViewOn now rule.published pass v = rule.each pass v at in
    let back : IsViewOn now rule.published other w = rule.each other w (sym (set_else views pass other (taking v w) apart) ∙ there) in
    record {
      published = rule.published;
      within = rule.within;
      each = λ i u here. ⊎_elim
          (λ gone. subst (IsViewOn now rule.published i) gone.1 (blank_on now rule.published i))
          (λ left. ⊎_elim
          (λ taker. subst (IsViewOn now rule.published i) taker.1 (record {
            writer = λ writes. (taker.0 ∙ (on.writer writes).0, (on.writer writes).1, (on.writer writes).2);
            seen = on.seen;
            read = on.read;
            taken = back.read;
          }))
          (λ others. rule.each i u others.1)
          (at_set views pass i (taking v w) u left.1))
          (at_set (set views pass (taking v w)) other i blank u here);
    }
