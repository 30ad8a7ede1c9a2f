-- What a list keeps, through pushes and pops.
use Rattle.std.proofs.Common.{◌≡◌, ℕ, ◌<◌, ◌≤◌, Bool, true, false, List, [], ◌∷◌, ◌++◌, length, set, Option, None, Some, refl, sym, ap, ◌∙◌, subst, inl, inr, arith, ◌&&◌}
use Rattle.std.specs.Prelude.{Result, Ok, Err, OnOk, IfErr}
use Rattle.std.proofs.lemmas.Bool.{true≢false, cases_Bool}
use Rattle.std.proofs.lemmas.List.{append-nil, append_assoc, length-append, get_or-set_same}
use Rattle.mark_worklist.specs.Families.{at, nobody}
use Rattle.mark_worklist.specs.Shares.{ShareState, share_pushed, put_of, refused_once, last_count}
use Rattle.mark_worklist.specs.Lists.{as_own, list_refused_once, IsOneMore, IsPutOnList}
use Rattle.mark_worklist.specs.Left.{shares_in, list_state_of, IsListKept}
use Rattle.mark_worklist.specs.OneMore.{at_the_end}

-- what follows from each answer of a call follows from the call
pub on_ok : {T E : Type 0} (r : Result T E) (A B : Type 0) → (A → B) → OnOk r A → OnOk r B
on_ok (Ok x) A B f h = f h
on_ok (Err x) A B f h = h

pub if_err : {T E : Type 0} (r : Result T E) (A B : E → Type 0) → ((x : E) → A x → B x) → IfErr r A → IfErr r B
if_err (Ok x) A B f h = h
if_err (Err x) A B f h = f x h

-- ---- an address is taken from the owner's vector

module _ (new items : List ℕ) (a refused : ℕ) (idle : Bool) (shared : Option (List ShareState)) (left : List ℕ) (all : items ≡ new ++ a ∷ []) where
  whole_in : (out : Bool) → (list_state_of out items refused idle shared left).whole ≡ true → out ≡ false
  whole_in true whole = absurd (true≢false (sym whole))
  whole_in false whole = refl

  some_there : left ++ items ≡ [] → ⊥
  some_there none = (let n = ap length none in let m = ap length all in omega (arith, n, m, length-append left items, length-append new (a ∷ [])))

  pub first_kept : (out : Bool) → (list_state_of out items refused idle shared left).whole ≡ true → IsListKept out items idle shared left → IsListKept out new idle shared left
  first_kept true whole kept = absurd (true≢false (sym whole))
  first_kept false whole kept = (kept.0, λ idles. absurd (some_there (kept.1 idles)))

  pub first_one : (out : Bool) → (list_state_of out items refused idle shared left).whole ≡ true
      → IsOneMore (list_state_of out new refused idle shared left).items a (list_state_of out items refused idle shared left).items
  first_one true whole = absurd (true≢false (sym whole))
  first_one false whole = record {
    before = left ++ new;
    after = [];
    others = sym (append-nil (left ++ new));
    all = ap (λ l. left ++ l) all ∙ sym (append_assoc left new (a ∷ []));
  }

  pub first_awake : (out : Bool) → (list_state_of out items refused idle shared left).whole ≡ true → IsListKept out items idle shared left
      → (list_state_of out new refused idle shared left).idle ≡ false
  first_awake true whole kept = absurd (true≢false (sym whole))
  first_awake false whole kept = elim (cases_Bool idle) [ inl idles ↦ absurd (some_there (kept.1 idles)) | inr awake ↦ awake ]

-- ---- shares are out

pub shares_there : (out : Bool) (items : List ℕ) (idle : Bool) (shared : Option (List ShareState)) (left : List ℕ) → out ≡ true → IsListKept out items idle shared left
    → shared ≡ Some (shares_in shared)
shares_there false items idle shared left is kept = absurd (true≢false (sym is))
shares_there true items idle None left is kept = absurd kept
shares_there true items idle (Some shares) left is kept = refl

module _ (items : List ℕ) (refused : ℕ) (idle : Bool) (shared after : Option (List ShareState)) (left : List ℕ) (a : ℕ) (some : 0 < length (shares_in shared)) where
  abbrev own : ShareState
  own = at (shares_in shared) 0

  changed : (change : ShareState → ShareState) → after ≡ Some (set (shares_in shared) 0 (change own)) → at (shares_in after) 0 ≡ change own
  changed change is = ap (λ o. at (shares_in o) 0) is ∙ get_or-set_same (shares_in shared) 0 (change own) nobody some

  pub pushed_out : (out : Bool) → out ≡ true → after ≡ Some (set (shares_in shared) 0 (share_pushed own a))
      → IsPutOnList (list_state_of out items refused idle shared left) a (list_state_of out items refused idle after left)
  pushed_out false is done = absurd (true≢false (sym is))
  pushed_out true is done =
      let now = changed (λ s. share_pushed s a) done in
      record {
        items = subst (λ s. IsOneMore (put_of own) a (put_of s)) (sym now) (at_the_end (put_of own) a);
        awake = ap (λ (s : ShareState). s.pop_found_none && s.steal_found_none) now;
        refused = ap (λ (s : ShareState). s.refused) now;
        whole = refl;
        shares = ap shares_in done;
      }

  pub refused_out : (out : Bool) → out ≡ true → after ≡ Some (set (shares_in shared) 0 (refused_once own))
      → list_state_of out items refused idle after left ≡ list_refused_once (list_state_of out items refused idle shared left)
  refused_out false is done = absurd (true≢false (sym is))
  refused_out true is done =
      let now = changed refused_once done in
      ap (λ o. as_own (shares_in o)) done
      ∙ ap (λ (s : ShareState). record {
        items = put_of s;
        refused = s.refused;
        idle = s.pop_found_none && s.steal_found_none;
        shares = set (shares_in shared) 0 (refused_once own);
        whole = false;
      }) (get_or-set_same (shares_in shared) 0 (refused_once own) nobody some)

  pub fits_out : (out : Bool) → out ≡ true → own.refused ≤ last_count → (list_state_of out items refused idle shared left).refused ≤ last_count
  fits_out false is fits = absurd (true≢false (sym is))
  fits_out true is fits = fits
