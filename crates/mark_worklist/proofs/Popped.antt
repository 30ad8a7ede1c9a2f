-- A pop from joined lists, of which it is known what is left.
use Rattle.std.proofs.Common.{rules, ◌≡◌, ℕ, suc, ◌+◌, ◌≤◌, ◌<◌, Bool, true, false, List, [], ◌∷◌, ◌++◌, length, set, None, Some, refl, sym, ap, ◌∙◌, subst, inl, inr, arith, ◌==◌, cond}
use Rattle.std.specs.List.{All, Contains, count_by, flat_map, sum_by}
use Rattle.gc_graph.specs.Members.{Contains-cons, Contains-head}
use Rattle.std.proofs.lemmas.Bool.{cases_Bool, cases_eq, eqb-true}
use Rattle.std.proofs.lemmas.List.{length-append, length-set, get_or-set_same, get_or-set_other}
use Rattle.std.proofs.lemmas.List.Elements.{All-set}
use Rattle.std.proofs.lemmas.List.Sums.{sum_by-cons, sum_by-set}
use Rattle.mark_worklist.specs.Hands.{all_parts, laid, drawn, HasLeft, WasEmpty}
use Rattle.mark_worklist.specs.Shares.{ShareState, put_of, taken_by_share, moved_of, times_listed, IsSameShare}
use Rattle.mark_worklist.specs.Families.{at, nobody}
use Rattle.mark_worklist.specs.Kept.{same-share}
use Rattle.mark_worklist.specs.Joining.{put_by, taken_by, with_own_taken, EndsAreJoined, IsLeftAfter, IsSameList, IsPopped, IsTakenOrLeft, KnowLeft, TookOne}
use Rattle.mark_worklist.proofs.Items.{all-counted, count-append, count-of_all, laid-are, drawn-are}
use Rattle.mark_worklist.proofs.Steps.{left-none}

-- ---- what joined shares have taken

sum-le : (f g : ShareState → ℕ) (xs : List ShareState) → ((k : ℕ) → k < length xs → f (at xs k) ≤ g (at xs k)) → sum_by f xs ≤ sum_by g xs
sum-le f g [] each = omega arith
sum-le f g (x ∷ xs) each = omega (arith, sum_by-cons f x xs, sum_by-cons g x xs, each 0 (omega arith), sum-le f g xs (λ k l. each (suc k) (omega (arith, l))))

-- of no items more were taken than put
taken-le : (shares : List ShareState) (asked : ℕ → Bool) → EndsAreJoined shares → KnowLeft shares → count_by asked (taken_by shares) ≤ count_by asked (put_by shares)
taken-le shares asked joined known =
    let le = sum-le (λ s. count_by asked (drawn s.own.hand)) (λ s. count_by asked (laid s.own.hand)) shares (λ k l. (let left = known.each k nobody l in omega (arith, left.1 asked))) in
    omega (arith, le, known.even asked, laid-are shares asked, drawn-are shares asked joined)

-- ---- an item is in a list

one-of : (a : ℕ) → times_listed a (a ∷ []) ≡ 1
one-of a = search rules

is-in : (a : ℕ) (items : List ℕ) → 0 < times_listed a items → Contains items a
is-in a [] some = absurd (omega (arith, some))
is-in a (x ∷ xs) some = elim (cases_Bool (x == a)) [
  | inl this ↦ subst (λ y. Contains (y ∷ xs) a) (sym (eqb-true x a this)) (Contains-head a xs)
  | inr other ↦ Contains-cons x xs a (is-in a xs (omega (arith, some, sum_by-cons (λ y. cond (y == a) 1 0) x xs, ap {B = ℕ} (λ t. cond t 1 0) other)))
]

-- ---- one item was taken

abbrev woken : ShareState → ShareState
woken s = record s { pop_found_none = false; steal_found_none = false }

module _ (old new : List ShareState) (a : ℕ) (took : TookOne old a new) where
  abbrev taker : ShareState
  taker = with_own_taken (at old took.place) a

  abbrev step : List ShareState
  step = set old took.place taker

  some-step : 0 < length step
  some-step = omega (arith, took.within, length-set old took.place taker)

  total : (f : ShareState → ℕ) → f (woken (at step 0)) ≡ f (at step 0) → sum_by f new + f (at old took.place) ≡ sum_by f old + f taker
  total f same =
      let one = sum_by-set f old took.place taker nobody took.within in
      let two = sum_by-set f step 0 (woken (at step 0)) nobody some-step in
      let all = ap (sum_by f) took.all in
      omega (arith, one, two, all, same)

  -- items of a kind that the call leaves
  same-items : (items : ShareState → List ℕ) → items taker ≡ items (at old took.place) → items (woken (at step 0)) ≡ items (at step 0)
      → (asked : ℕ → Bool) → count_by asked (flat_map items new) ≡ count_by asked (flat_map items old)
  same-items items same wakes asked =
      let all = total (λ s. count_by asked (items s)) (ap (count_by asked) wakes) in
      omega (arith, all, ap (count_by asked) same, count-of_all asked items new, count-of_all asked items old)

  put-same : (asked : ℕ → Bool) → count_by asked (put_by new) ≡ count_by asked (put_by old)
  put-same = same-items put_of refl refl

  -- the first share has the same lists, also where the item was of its own
  first-same : IsSameShare (at old 0) (at step 0)
  first-same = elim (cases_eq took.place 0) [
    | inl first ↦
        (let is : at step 0 ≡ taker = ap (at step) (sym first) ∙ get_or-set_same old took.place taker nobody took.within in
        subst (IsSameShare (at old 0)) (sym is) (subst (λ s. IsSameShare s taker) (ap (at old) first) (record { number = refl; own = refl; parts = refl; even = λ even. even; others = refl })))
    | inr other ↦ subst (IsSameShare (at old 0)) (sym (get_or-set_other old took.place 0 taker nobody (λ e. other (sym e)))) (same-share (at old 0))
  ]

  pub same-list-yet : IsSameList old new
  same-list-yet =
      let s = first-same in
      let first = ap (λ l. at l 0) took.all ∙ get_or-set_same step 0 (woken (at step 0)) nobody some-step in
      record {
        as_many = ap length took.all ∙ length-set step 0 (woken (at step 0)) ∙ length-set old took.place taker;
        first = subst (IsSameShare (at old 0)) (sym first) (record { number = s.number; own = s.own; parts = s.parts; even = s.even; others = s.others });
      }

  taken-more : (asked : ℕ → Bool) → count_by asked (taken_by new) ≡ count_by asked (taken_by old) + count_by asked (a ∷ [])
  taken-more asked =
      let f : ShareState → ℕ = λ s. count_by asked (taken_by_share s) in
      let s = at old took.place in
      let others : List ℕ = flat_map (λ e. e.taken) s.others in
      omega (
        arith,
        total f refl,
        count-of_all asked taken_by_share new,
        count-of_all asked taken_by_share old,
        count-append asked (s.own.hand.taken ++ a ∷ []) others,
        count-append asked s.own.hand.taken (a ∷ []),
        count-append asked s.own.hand.taken others,
      )

  keeps : (P : ShareState → Type 0) → (P (at step 0) → P (woken (at step 0))) → P taker → All P old → All P new
  keeps P wakes holds all =
      let stepped : All P step = All-set P old took.place taker holds all in
      subst (All P) (sym took.all) (All-set P step 0 (woken (at step 0)) (wakes (stepped 0 nobody some-step)) stepped)

  module _ (joined : EndsAreJoined old) (known : KnowLeft old) (left : HasLeft taker.own.hand) where
    joined-yet : EndsAreJoined new
    joined-yet = record {
      whole = keeps (λ s. s.own.hand.parts ≡ all_parts) (λ h. h) (joined.whole took.place nobody took.within) joined.whole;
      apart = keeps (λ s. s.others ≡ []) (λ h. h) (joined.apart took.place nobody took.within) joined.apart;
    }

    known-yet : KnowLeft new
    known-yet = record {
      each = keeps (λ s. HasLeft s.own.hand) (λ h. h) left known.each;
      even = λ asked. same-items (λ s. s.own.hand.brought) refl refl asked ∙ known.even asked ∙ sym (same-items moved_of refl refl asked);
    }

    left-after : (items : List ℕ) → IsTakenOrLeft old items → IsLeftAfter new (Some a) items
    left-after items taken =
        let this : ℕ → Bool = λ i. i == a in (
          is-in a items (omega (arith, taken.even a, put-same this, taken-more this, one-of a, taken-le new this joined-yet known-yet)),
          λ before after is. record {
            even = λ item.
                let asked : ℕ → Bool = λ i. i == item in
                omega (
                  arith,
                  taken.even item,
                  put-same asked,
                  taken-more asked,
                  ap (count_by asked) is,
                  count-append asked before (a ∷ after),
                  count-append asked (a ∷ []) after,
                  count-append asked before after,
                );
            as_many =
                let all : ℕ → Bool = λ i. true in
                omega (
                  arith,
                  taken.as_many,
                  put-same all,
                  taken-more all,
                  all-counted (put_by new),
                  all-counted (put_by old),
                  all-counted (taken_by new),
                  all-counted (taken_by old),
                  ap length is,
                  length-append before (a ∷ after),
                  length-append before after,
                  all-counted (a ∷ []),
                );
          },
        )

    pub popped-one : IsPopped old (Some a) new
    popped-one = record {
      joined = joined-yet;
      known = known-yet;
      none = λ none. absurd (search rules);
      left = left-after;
    }

-- ---- none was found

module _ (old : List ShareState) (some : 0 < length old) (joined : EndsAreJoined old) (known : KnowLeft old) (empty : All (λ s. WasEmpty s.own.hand) old) where
  abbrev first : ShareState
  first = record (at old 0) { pop_found_none = true }

  abbrev after : List ShareState
  after = set old 0 first

  put-le : (asked : ℕ → Bool) → count_by asked (put_by old) ≤ count_by asked (taken_by old)
  put-le asked =
      let le = sum-le (λ s. count_by asked (laid s.own.hand)) (λ s. count_by asked (drawn s.own.hand)) old (λ k l.
      omega (arith, left-none (at old k).own.hand (joined.whole k nobody l) (empty k nobody l) asked)) in
      omega (arith, le, known.even asked, laid-are old asked, drawn-are old asked joined)

  still : (items : ShareState → List ℕ) → items first ≡ items (at old 0) → (asked : ℕ → Bool) → count_by asked (flat_map items after) ≡ count_by asked (flat_map items old)
  still items same asked =
      let set-one = sum_by-set (λ s. count_by asked (items s)) old 0 first nobody some in
      omega (arith, set-one, ap (count_by asked) same, count-of_all asked items after, count-of_all asked items old)

  put-still : (asked : ℕ → Bool) → count_by asked (put_by after) ≡ count_by asked (put_by old)
  put-still = still put_of refl

  taken-still : (asked : ℕ → Bool) → count_by asked (taken_by after) ≡ count_by asked (taken_by old)
  taken-still = still taken_by_share refl

  no-items : (items : List ℕ) → length items ≡ 0 → items ≡ []
  no-items [] none = refl
  no-items (x ∷ xs) none = absurd (omega (arith, none))

  pub popped-none : IsPopped old None after
  popped-none = record {
    joined = record {
      whole = All-set (λ s. s.own.hand.parts ≡ all_parts) old 0 first (joined.whole 0 nobody some) joined.whole;
      apart = All-set (λ s. s.others ≡ []) old 0 first (joined.apart 0 nobody some) joined.apart;
    };
    known = record {
      each = All-set (λ s. HasLeft s.own.hand) old 0 first (known.each 0 nobody some) known.each;
      even = λ asked. still (λ s. s.own.hand.brought) refl asked ∙ known.even asked ∙ sym (still moved_of refl asked);
    };
    none = λ _. record {
      even = λ item.
          let asked : ℕ → Bool = λ i. i == item in
          omega (arith, put-le asked, taken-le old asked joined known, put-still asked, taken-still asked);
      as_many =
          let all : ℕ → Bool = λ i. true in
          omega (arith, put-le all, taken-le old all joined known, put-still all, taken-still all, all-counted (put_by after), all-counted (taken_by after));
    };
    left = λ items taken.
        let all : ℕ → Bool = λ i. true in
        no-items items (omega (arith, taken.as_many, put-le all, all-counted (put_by old), all-counted (taken_by old)));
  }
