-- The registrations for whose masks was asked, of which those that stay stand at the front.
use Rattle.std.proofs.Common.{◌≡◌, ℕ, ◌+◌, ◌<◌, ◌≤◌, List, [], ◌∷◌, ◌++◌, Option, length, get_or, take, drop, set, inl, inr, sym, ap, ◌∙◌, subst, arith, length-set, get_or-set_same}
use Rattle.std.specs.List.{sum_by, swap}
use Rattle.std.proofs.lemmas.Bool.{cases_lt}
use Rattle.std.proofs.lemmas.List.{drop_more, take_more, take_more_set, take-set, take-set-le, drop-set-lt, map_push, append-nil}
use Rattle.std.proofs.lemmas.List.Edits.{swap_is, length-swap}
use Rattle.std.proofs.lemmas.List.Sums.{sum_by-cons, sum_by_push}
use Rattle.std.proofs.lemmas.Grind.{drop_more_same}
use Rattle.callback_table.specs.declared.weak_registry.WeakRegistered.{WeakRegistered}
use Rattle.callback_table.specs.WeakRegistry.{WeakRegistration, weak_registration_of, weak_registrations_of, AreLeftByAnswers}
use Rattle.callback_table.proofs.InTurn.{left-append}

-- ---- the item at i is changed and changes places with the one at k

module _ {X : Type 0} (items : List X) (k i : ℕ) (x : X) (before : k ≤ i) (within : i < length items) where
  swapped : swap (set items i x) k i ≡ set (set (set items i x) k x) i (get_or (set items i x) k x)
  swapped =
      sym (swap_is (set items i x) k i x (omega (arith, length-set items i x)) (omega (arith, length-set items i x)))
      ∙ ap (λ y. set (set (set items i x) k y) i (get_or (set items i x) k x)) (get_or-set_same items i x x within)

  taken : take (k + 1) (set (set (set items i x) k x) i (get_or (set items i x) k x)) ≡ take k (set items i x) ++ x ∷ []
  taken =
      elim (cases_lt k i) [
        | inl earlier ↦
            take-set-le (k + 1) (set (set items i x) k x) i (get_or (set items i x) k x) (omega arith)
            ∙ take_more_set (set items i x) k x (omega (arith, length-set items i x))
        | inr same ↦
            (let e : i ≡ k = omega arith in
            subst (λ j. take (j + 1) (set (set (set items i x) j x) i (get_or (set items i x) j x)) ≡ take j (set items i x) ++ x ∷ []) e
            (take_more_set (set (set items i x) i x) i (get_or (set items i x) i x)
            (omega (arith, length-set (set items i x) i x, length-set items i x))
            ∙ ap (λ front. front ++ get_or (set items i x) i x ∷ []) (take-set (set items i x) i x)
            ∙ ap (λ y. take i (set items i x) ++ y ∷ []) (get_or-set_same items i x x within)))
      ]

  pub take_swapped : take (k + 1) (swap (set items i x) k i) ≡ take k items ++ x ∷ []
  take_swapped = ap (take (k + 1)) swapped ∙ taken ∙ ap (λ front. front ++ x ∷ []) (take-set-le k items i x before)

  pub drop_swapped : drop (i + 1) (swap (set items i x) k i) ≡ drop (i + 1) items
  drop_swapped =
      ap (drop (i + 1)) swapped ∙ drop-set-lt (i + 1) (set (set items i x) k x) i (get_or (set items i x) k x) (omega arith)
      ∙ drop-set-lt (i + 1) (set items i x) k x (omega arith) ∙ drop-set-lt (i + 1) items i x (omega arith)

-- ---- the registrations before i are done

-- how many callbacks a registration has
abbrev pub callback_count : WeakRegistered → ℕ
callback_count entry = length entry.callbacks.items

-- of the old entries those before i were asked for. Those of them that stay stand before `kept`, and those from i on wait where they stood
pub record AreAskedTo {F : Type 0} (step : F → ℕ → Option ℕ → F → Type 0) (first : F) (old : List WeakRegistered) (mask : F)
    (items : List WeakRegistered) (i kept calls : ℕ) : Type 0 where
  pub left : AreLeftByAnswers step first mask (weak_registrations_of (take i old)) (weak_registrations_of (take kept items))
  pub waiting : drop i items ≡ drop i old
  pub inside : kept ≤ i
  pub length_is : length items ≡ length old
  pub counted : calls ≡ sum_by callback_count (take kept items)
  pub fits : calls + sum_by callback_count (drop i old) ≤ sum_by callback_count old

module _ {F : Type 0} (step : F → ℕ → Option ℕ → F → Type 0) where
  left_on : (first mask next : F) (es es' ms ms' ns : List WeakRegistration) (e : WeakRegistration) → AreLeftByAnswers step first mask es ms
      → AreLeftByAnswers step mask next (e ∷ []) ns → es' ≡ es ++ e ∷ [] → ms' ≡ ms ++ ns → AreLeftByAnswers step first next es' ms'
  left_on first mask next es es' ms ms' ns e a b es_are ms_are =
      subst (λ (l : List WeakRegistration). AreLeftByAnswers step first next l ms') (sym es_are)
      (subst (λ (l : List WeakRegistration). AreLeftByAnswers step first next (es ++ e ∷ []) l) (sym ms_are)
      (left-append step first mask next es (e ∷ []) ms ns a b))

module _ {F : Type 0} (step : F → ℕ → Option ℕ → F → Type 0) (first : F) (old : List WeakRegistered) (mask : F) (items : List WeakRegistered)
    (i kept calls : ℕ) (done : AreAskedTo step first old mask items i kept calls) (within : i < length old) (e : WeakRegistered)
    (read : e ≡ get_or items i e) where
  inside_items : i < length items
  inside_items = omega (arith, done.length_is)

  pub entry_is : drop i old ≡ e ∷ drop (i + 1) old
  entry_is =
      sym done.waiting ∙ drop_more items i e inside_items ∙ ap (λ x. x ∷ drop (i + 1) items) (sym read)
      ∙ ap (λ more. e ∷ more) (drop_more_same items old i done.waiting)

  read_old : get_or old i e ≡ e
  read_old = let here = drop_more old i e within in let there = entry_is in cc

  asked_are : weak_registrations_of (take (i + 1) old) ≡ weak_registrations_of (take i old) ++ weak_registration_of e ∷ []
  asked_are =
      ap weak_registrations_of (take_more old i e within)
      ∙ map_push weak_registration_of (take i old) (get_or old i e) ∙ ap (λ x. weak_registrations_of (take i old) ++ weak_registration_of x ∷ []) read_old

  callbacks_waiting : sum_by callback_count (drop i old) ≡ callback_count e + sum_by callback_count (drop (i + 1) old)
  callbacks_waiting = ap (sum_by callback_count) entry_is ∙ sum_by-cons callback_count e (drop (i + 1) old)

  pub one_gone : (next : F) (changed : WeakRegistered) (after : List WeakRegistered) (kept_then calls_then : ℕ)
      → AreLeftByAnswers step mask next (weak_registration_of e ∷ []) [] → after ≡ set items i changed → kept_then ≡ kept → calls_then ≡ calls
      → AreAskedTo step first old next after (i + 1) kept_then calls_then
  one_gone next changed after kept_then calls_then answered is kept_is calls_is =
      let front : take kept_then after ≡ take kept items =
      ap (λ n. take n after) kept_is ∙ ap (take kept) is ∙ take-set-le kept items i changed done.inside in
      record {
        left =
            left_on step first mask next _ _ _ _ _ _ done.left answered asked_are
            (ap weak_registrations_of front ∙ sym (append-nil (weak_registrations_of (take kept items))));
        waiting = ap (drop (i + 1)) is ∙ drop-set-lt (i + 1) items i changed (omega arith) ∙ drop_more_same items old i done.waiting;
        inside = omega (arith, done.inside);
        length_is = ap length is ∙ length-set items i changed ∙ done.length_is;
        counted = calls_is ∙ done.counted ∙ ap (sum_by callback_count) (sym front);
        fits = omega (arith, done.fits, callbacks_waiting);
      }

  pub one_kept : (next : F) (changed : WeakRegistered) (after : List WeakRegistered) (kept_then calls_then : ℕ)
      → AreLeftByAnswers step mask next (weak_registration_of e ∷ []) (weak_registration_of changed ∷ []) → after ≡ swap (set items i changed) kept i
      → kept_then ≡ kept + 1 → calls_then ≡ calls + callback_count changed → changed.callbacks ≡ e.callbacks
      → AreAskedTo step first old next after (i + 1) kept_then calls_then
  one_kept next changed after kept_then calls_then answered is kept_is calls_is same =
      let front : take kept_then after ≡ take kept items ++ changed ∷ [] =
      ap (λ n. take n after) kept_is ∙ ap (take (kept + 1)) is ∙ take_swapped items kept i changed done.inside inside_items in
      let as_many : callback_count changed ≡ callback_count e = ap (λ callbacks. length callbacks.items) same in
      record {
        left =
            left_on step first mask next _ _ _ _ _ _ done.left answered asked_are
            (ap weak_registrations_of front ∙ map_push weak_registration_of (take kept items) changed);
        waiting = ap (drop (i + 1)) is ∙ drop_swapped items kept i changed done.inside inside_items ∙ drop_more_same items old i done.waiting;
        inside = omega (arith, done.inside);
        length_is = ap length is ∙ length-swap (set items i changed) kept i ∙ length-set items i changed ∙ done.length_is;
        counted = omega (arith, done.counted, ap (sum_by callback_count) front, sum_by_push callback_count (take kept items) changed);
        fits = omega (arith, done.fits, as_many, callbacks_waiting);
      }
