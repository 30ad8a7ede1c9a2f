-- Each step of an end keeps the rule.
use Rattle.std.proofs.Common.{◌≡◌, ℕ, zero, suc, ◌+◌, ◌<◌, ◌≤◌, Bool, List, [], ◌∷◌, ◌++◌, length, set, Option, None, Some, MatchOption, refl, sym, ap, ◌∙◌, subst, arith}
use mathlib.Core.Option.{some, some-ne-none}
use lib.ListN.{get_elem?}
use Rattle.std.specs.List.{All, count_by}
use Rattle.std.proofs.lemmas.List.{append_assoc}
use Rattle.std.proofs.lemmas.List.Sums.{sum_by-append, sum_by_push}
use Rattle.std.proofs.lemmas.List.Elements.{All-set, All-append}
use Rattle.crossbeam_deque.specs.Tasks.{Pushes, Takes, TakesBatch, Finds, FindsFew, Forks, Merges, Learns}
use Rattle.mark_worklist.specs.declared.rule.Hand.{Hand}
use Rattle.mark_worklist.specs.Hands.{hand, all_parts, laid, drawn, one_part_from, with_put, with_taken, with_brought, with_moved, hands_joined, IsIdleWithoutParts, IsBalanced, WasEmpty, HasLeft, IsLeft, TookWhole}
use Rattle.mark_worklist.proofs.Balance.{sum-set, is-there, at-port, alone}

-- how many items that are asked for came onto the list at an end, and left it there
abbrev puts : (ℕ → Bool) → Hand → ℕ
puts asked h = count_by asked (laid h)

abbrev takes : (ℕ → Bool) → Hand → ℕ
takes asked h = count_by asked (drawn h)

append : (asked : ℕ → Bool) (xs ys : List ℕ) → count_by asked (xs ++ ys) ≡ count_by asked xs + count_by asked ys
append asked xs ys = sum_by-append _ xs ys

busy : (h : Hand) → 0 < h.parts → IsIdleWithoutParts h
busy h some_part none = absurd (omega (arith, some_part, none))

all-one : (w : Hand) → IsIdleWithoutParts w → All IsIdleWithoutParts (w ∷ [])
all-one w idle zero d l = idle
all-one w idle (suc k) d l = absurd (omega (arith, l))

pub begins : IsBalanced [] (hand all_parts [] [] ∷ [])
begins = record { whole = refl; even = λ asked. refl; partless = all-one (hand all_parts [] []) (λ none. (refl, refl)) }

-- items that come at the back are more that came onto the list at one end
laid-more : (port : ℕ) (v w : Hand) (xs : List ℕ) → w.parts ≡ v.parts → ((asked : ℕ → Bool) → puts asked w ≡ puts asked v + count_by asked xs)
    → drawn w ≡ drawn v → 0 < v.parts → Pushes IsBalanced port v xs (λ u. u ≡ w)
laid-more port v w xs parts more same some_part items hands b at = (
  w,
  record {
    whole = (let s = sum-set (λ h. h.parts) hands port v w at in omega (arith, s, b.whole, parts));
    even = λ asked.
        let s = sum-set (puts asked) hands port v w at in
        let t = sum-set (takes asked) hands port v w at in
        omega (arith, s, t, b.even asked, more asked, ap (count_by asked) same, append asked items xs);
    partless = All-set IsIdleWithoutParts hands port w (busy w (omega (arith, some_part, parts))) b.partless;
  },
  refl,
)

pub puts-one : (port : ℕ) (v : Hand) (xs : List ℕ) → 0 < v.parts → Pushes IsBalanced port v xs (λ w. w ≡ with_put v xs)
puts-one port v xs =
    laid-more port v (with_put v xs) xs refl (λ asked. omega (arith, append asked (v.put ++ xs) v.brought, append asked v.put xs, append asked v.put v.brought)) refl

pub brings-some : (port : ℕ) (v : Hand) (xs : List ℕ) → 0 < v.parts → Pushes IsBalanced port v xs (λ w. w ≡ with_brought v xs)
brings-some port v xs =
    laid-more port v (with_brought v xs) xs refl (λ asked. omega (arith, append asked v.put (v.brought ++ xs), append asked v.brought xs, append asked v.put v.brought)) refl

-- items that leave at the front are more that left the list at one end
drawn-more : (port : ℕ) (v : Hand) (most : ℕ) (after : List ℕ → Hand) → ((xs : List ℕ) → (after xs).parts ≡ v.parts) → ((xs : List ℕ) → laid (after xs) ≡ laid v)
    → ((xs : List ℕ) (asked : ℕ → Bool) → takes asked (after xs) ≡ takes asked v + count_by asked xs) → 0 < v.parts → Takes IsBalanced port v most (λ xs w. w ≡ after xs)
drawn-more port v most after parts same more some_part xs items hands _ _ b at =
    let w = after xs in (
      w,
      record {
        whole = (let s = sum-set (λ h. h.parts) hands port v w at in omega (arith, s, b.whole, parts xs));
        even = λ asked.
            let s = sum-set (puts asked) hands port v w at in
            let t = sum-set (takes asked) hands port v w at in
            omega (arith, s, t, b.even asked, more xs asked, ap (count_by asked) (same xs), append asked xs items);
        partless = All-set IsIdleWithoutParts hands port w (busy w (omega (arith, some_part, parts xs))) b.partless;
      },
      refl,
    )

pub takes-some : (port : ℕ) (v : Hand) (most : ℕ) → 0 < v.parts → Takes IsBalanced port v most (λ xs w. w ≡ with_taken v xs)
takes-some port v most = drawn-more port v most (with_taken v) (λ xs. refl) (λ xs. refl)
    (λ xs asked. omega (arith, append asked (v.taken ++ xs) v.moved, append asked v.taken xs, append asked v.taken v.moved))

moves-some : (port : ℕ) (v : Hand) (most : ℕ) → 0 < v.parts → Takes IsBalanced port v most (λ xs w. w ≡ with_moved v xs)
moves-some port v most = drawn-more port v most (with_moved v) (λ xs. refl) (λ xs. refl)
    (λ xs asked. omega (arith, append asked v.taken (v.moved ++ xs), append asked v.moved xs, append asked v.taken v.moved))

-- a batch may go on, an item a step
pub moves-batch : (port : ℕ) (v : Hand) (most : ℕ) → 0 < v.parts → TakesBatch IsBalanced port v most (λ u xs w. w ≡ with_moved u xs)
moves-batch port v most some_part = (
  moves-some port v most some_part,
  λ xs u is. (
    moves-some port u 1 (subst (λ (h : Hand). 0 < h.parts) (sym is) some_part),
    λ ys w more. more ∙ ap (λ h. with_moved h ys) is ∙ ap (λ l. record v { moved = l }) (append_assoc v.moved xs ys),
  ),
)

there-now : (hands : List Hand) (port : ℕ) (v w : Hand) → get_elem? hands port ≡ some v → get_elem? (set hands port w) port ≡ some w
there-now [] port v w at = absurd (some-ne-none v (sym at))
there-now (x ∷ xs) zero v w at = refl
there-now (x ∷ xs) (suc port) v w at = there-now xs port v w at

pub totals : (port : ℕ) (v : Hand) → v.parts ≡ all_parts → Learns IsBalanced port v (IsLeft v)
totals port v whole items hands b at asked =
    let all = b.whole ∙ sym whole in
    let s = alone (puts asked) (λ h idle none. ap (count_by asked) (idle none).0) hands port v at b.partless all in
    let t = alone (takes asked) (λ h idle none. ap (count_by asked) (idle none).1) hands port v at b.partless all in
    omega (arith, s, t, b.even asked)

-- the end with all parts knows after it took an item what is left
pub pops-one : (port : ℕ) (v : Hand) → 0 < v.parts → Takes IsBalanced port v 1 (TookWhole v)
pops-one port v some_part xs items hands many few b at =
    let now = takes-some port v 1 some_part xs items hands many few b at in
    let w : Hand = with_taken v xs in (
      now.0,
      now.1,
      record {
        taken = now.2;
        left = λ whole. subst HasLeft (sym now.2) (items, totals port w whole items (set hands port w) (subst (λ x. IsBalanced items (set hands port x)) now.2 now.1) (there-now hands port v w at));
      },
    )

pub finds-none : (port : ℕ) (v : Hand) → Finds IsBalanced port v (WasEmpty v)
finds-none port v hands b at = (hands, b, is-there hands port v at)

no-items : (items : List ℕ) → length items ≤ 0 → items ≡ []
no-items [] few = refl
no-items (x ∷ xs) few = absurd (omega (arith, few))

pub finds-few : (port : ℕ) (v : Hand) → FindsFew IsBalanced 0 port v (WasEmpty v)
finds-few port v items hands few b at = (hands, subst (λ l. IsBalanced l hands) (no-items items few) b, is-there hands port v at)

pub cuts : (port : ℕ) (v : Hand) → 1 < v.parts → Forks IsBalanced port v (one_part_from v) (hand 1 [] [])
cuts port v more items hands b at =
    let left : Hand = one_part_from v in
    let right : Hand = hand 1 [] [] in
    record {
      whole = (
          let s = sum-set (λ h. h.parts) hands port v left at in
          omega (arith, s, b.whole, more, sum_by_push (λ h. h.parts) (set hands port left) right));
      even = λ asked.
          let s = sum-set (puts asked) hands port v left at in
          let t = sum-set (takes asked) hands port v left at in
          omega (arith, s, t, b.even asked, sum_by_push (puts asked) (set hands port left) right, sum_by_push (takes asked) (set hands port left) right);
      partless = All-append IsIdleWithoutParts (set hands port left) (right ∷ []) (All-set IsIdleWithoutParts hands port left (busy left (omega (arith, more))) b.partless)
          (all-one right (busy right (omega arith)));
    }

pub joins : (port : ℕ) (v : Hand) (other : ℕ) (u : Hand) → 0 < v.parts → Merges IsBalanced port v other u (hands_joined v u) (hand 0 [] [])
joins port v other u some_part items hands b at apart at' =
    let both : Hand = hands_joined v u in
    let spent : Hand = hand 0 [] [] in
    let now : List Hand = set hands port both in
    record {
      whole = (
          let s = sum-set (λ h. h.parts) hands port v both at in
          let t = sum-set (λ h. h.parts) now other u spent at' in
          omega (arith, s, t, b.whole));
      even = λ asked.
          let s = sum-set (puts asked) hands port v both at in
          let s' = sum-set (puts asked) now other u spent at' in
          let t = sum-set (takes asked) hands port v both at in
          let t' = sum-set (takes asked) now other u spent at' in
          omega (
            arith,
            s,
            s',
            t,
            t',
            b.even asked,
            append asked (v.put ++ u.put) (v.brought ++ u.brought),
            append asked v.put u.put,
            append asked v.brought u.brought,
            append asked v.put v.brought,
            append asked u.put u.brought,
            append asked (v.taken ++ u.taken) (v.moved ++ u.moved),
            append asked v.taken u.taken,
            append asked v.moved u.moved,
            append asked v.taken v.moved,
            append asked u.taken u.moved,
          );
      partless = All-set IsIdleWithoutParts now other spent (λ none. (refl, refl)) (All-set IsIdleWithoutParts hands port both (busy both (omega (arith, some_part))) b.partless);
    }

-- at an end with all parts as much came onto the list as left it, where that was empty
pub left-none : (v : Hand) → v.parts ≡ all_parts → WasEmpty v → IsLeft v []
left-none v whole (hands, b, there) = (let at = at-port hands v there in totals at.0 v whole [] hands b at.1)

-- what follows from each answer of a call follows from the call
pub follows : {T : Type 0} (o : Option T) (A A' : Type 0) (B B' : T → Type 0) → (A → A') → ((a : T) → B a → B' a) → MatchOption o A B → MatchOption o A' B'
follows None A A' B B' f g h = f h
follows (Some a) A A' B B' f g h = g a h
