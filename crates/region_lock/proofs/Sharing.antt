-- Splitting and joining passes keeps the rule of the lock's table.
use Rattle.std.proofs.Common.{◌≡◌, ◌≢◌, ℕ, ◌+◌, ◌^◌, ◌<◌, ◌≤◌, ◌==◌, ◌&&◌, not, Bool, false, List, [], ◌∷◌, ◌++◌, length, All, Contains, Option, get_or, set, refl, sym, ap, ◌∙◌, subst, inl, inr, ⊎_elim, arith}
use mathlib.Core.Option.{some, none, some-injective, some-ne-none}
use lib.ListN.{get_elem?}
use Rattle.std.proofs.lemmas.Bool.{true≢false, cases_eq, eq-eqb, ne_eqb}
use Rattle.std.proofs.lemmas.List.Elements.{All-cons}
use Rattle.atomic_table.specs.Table.{State, Splits, Joins}
use Rattle.atomic_table.proofs.Lists.{set_else}
use Rattle.region_lock.specs.declared.views.LockView.{LockView}
use Rattle.region_lock.specs.Counts.{num, count, times, Each}
use Rattle.region_lock.specs.Rule.{IsInTurn, IsViewIn, IsHome, IsRoster, Continues, BeginsOther, is_waiting, is_holding, is_living, is_numbered, has_ticket}
use Rattle.region_lock.specs.Plays.{lender, lent, gone, taker, longer, without}
use Rattle.region_lock.proofs.Counting.{count_set, count_same, count_push, each_set, each_push, times_zero, Contains-cons, All_after, All_before, line_up, without-length, without-times, without-none, All_without, in_without}
use Rattle.region_lock.specs.Own.{longer_other, longer_own}
use Rattle.region_lock.proofs.OtherViews.{view_idle, none_joined}
use Rattle.region_lock.proofs.Rosters.{roster_first}

module _ {E : Type 0} where
  -- the first's view after a split
  split_roster : (views : List (LockView E)) (v : LockView E) (n : ℕ) → IsRoster views → get_elem? views 0 ≡ some v → n ≢ 0 → n < 2 ^ 32 → (Contains v.out n → ⊥)
      → IsRoster (set views 0 (lender v n) ++ lent v n ∷ [])
  split_roster [] v n r at above low new = absurd (some-ne-none v (sym at))
  split_roster (x ∷ views) v n r at above low new =
      let same : r.first ≡ v = some-injective r.first v (sym r.at ∙ at) in
      let outs : r.first.out ≡ v.out = ap (λ (y : LockView E). y.out) same in
      let all_before : List (LockView E) = x ∷ views in
      let all_left : List (LockView E) = set all_before 0 (lender v n) in
      record {
        first = lender v n;
        at = refl;
        zero = ap (λ (y : LockView E). y.number) (sym same) ∙ r.zero;
        lives = ap (λ (y : LockView E). y.spent) (sym same) ∙ r.lives;
        all = λ k. (let a = count_push (is_numbered k) all_left (lent v n) in
            let b = count_same (is_numbered k) all_before 0 v (lender v n) at refl in
            let c : count (is_numbered k) all_before ≡ times k (0 ∷ v.out) = r.all k ∙ ap (λ (ns : List ℕ). times k (0 ∷ ns)) outs in
            let d : times k (0 ∷ n ∷ v.out) ≡ times k (0 ∷ v.out) + num (n == k) = omega arith in
            a ∙ ap (λ j. j + num (n == k)) (b ∙ c) ∙ sym d);
        once = λ k. (let c : times k (0 ∷ v.out) ≤ 1 = subst (λ (ns : List ℕ). times k (0 ∷ ns) ≤ 1) outs (r.once k) in ⊎_elim
            (λ e. (let z : times k v.out ≡ 0 = ap (λ j. times j v.out) (sym e) ∙ times_zero n v.out new in
            let f : num (0 == k) ≡ 0 = ap num (ne_eqb 0 k (λ q. above (e ∙ sym q))) in
            let g : num (n == k) ≡ 1 = ap num (eq-eqb n k e) in omega arith))
            (λ ne. (let g : num (n == k) ≡ 0 = ap num (ne_eqb n k ne) in omega arith))
            (cases_eq n k));
        total = (let a = count_push is_living all_left (lent v n) in
            let b = count_same is_living all_before 0 v (lender v n) at refl in
            let c : count is_living all_before ≡ 1 + length v.out = r.total ∙ ap (λ (ns : List ℕ). 1 + length ns) outs in omega arith);
        few = All-cons (λ m. m < 2 ^ 32) n v.out low (subst (All (λ m. m < 2 ^ 32)) outs r.few);
      }

-- ---- a join

-- the first's number and those that are out, without one that was there
times_left : (n k : ℕ) (out : List ℕ) → n ≢ 0 → times n (0 ∷ out) ≡ 1 → times k (0 ∷ without n out) + num (n == k) ≡ times k (0 ∷ out)
times_left n k out above one = ⊎_elim
    (λ e. (let none_left : times k (without n out) ≡ 0 = ap (λ j. times j (without n out)) (sym e) ∙ without-none n out in
    let other : num (0 == k) ≡ 0 = ap (λ j. num (0 == j)) (sym e) ∙ ap num (ne_eqb 0 n (λ q. above (sym q))) in
    let same : num (n == k) ≡ 1 = ap num (eq-eqb n k e) in
    let there : times k (0 ∷ out) ≡ 1 = ap (λ j. times j (0 ∷ out)) (sym e) ∙ one in omega arith))
    (λ ne. (let other : num (n == k) ≡ 0 = ap num (ne_eqb n k ne) in omega (arith, without-times n k out (λ e. ne (sym e)))))
    (cases_eq n k)

module _ {E : Type 0} where
  -- what is to be shown of what the first one has seen
  abbrev Joined : (E → ℕ) → LockView E → LockView E → List E → Type 0
  Joined names v w told = Continues names v.number (longer v.seen w.seen) (without w.number v.out) told × BeginsOther names w.number v.seen w.seen v.out

  -- where the other one has seen as much or more
  other_goes_on : (names : E → ℕ) (v w : LockView E) (told mid : List E) → v.number ≡ 0 → w.seen ≡ v.seen ++ mid
      → (a : Continues names v.number v.seen v.out told) (b : Continues names w.number w.seen w.out told) → a.rest ≡ mid ++ b.rest → Joined names v w told
  other_goes_on names v w told mid zeroth e a b rests =
      let outs : All (λ x. Contains v.out (names x)) (mid ++ b.rest) = subst (All (λ x. Contains v.out (names x))) rests (a.outs zeroth) in
      let others : All (λ x. names x ≢ v.number) (mid ++ b.rest) = subst (All (λ x. names x ≢ v.number)) rests a.others in
      let later : All (λ x. Contains v.out (names x)) b.rest = All_after (λ x. Contains v.out (names x)) mid b.rest outs in (
        record {
          rest = b.rest;
          all = b.all ∙ ap (λ (l : List E). l ++ b.rest) (sym (longer_other v.seen w.seen mid e));
          others = All_after (λ x. names x ≢ v.number) mid b.rest others;
          outs = λ z k d low. in_without w.number (names (get_or b.rest k d)) v.out (b.others k d low) (later k d low);
        },
        inl (
          mid,
          e,
          All_before (λ x. Contains v.out (names x)) mid b.rest outs,
          subst (λ n. All (λ x. names x ≢ n) mid) zeroth (All_before (λ x. names x ≢ v.number) mid b.rest others),
        ),
      )

  -- where the first one has
  first_goes_on : (names : E → ℕ) (v w : LockView E) (told mid : List E) → v.number ≡ 0 → v.seen ≡ w.seen ++ mid
      → (a : Continues names v.number v.seen v.out told) (b : Continues names w.number w.seen w.out told) → b.rest ≡ mid ++ a.rest → Joined names v w told
  first_goes_on names v w told mid zeroth e a b rests =
      let others : All (λ x. names x ≢ w.number) (mid ++ a.rest) = subst (All (λ x. names x ≢ w.number)) rests b.others in
      let later : All (λ x. names x ≢ w.number) a.rest = All_after (λ x. names x ≢ w.number) mid a.rest others in (
        record {
          rest = a.rest;
          all = a.all ∙ ap (λ (l : List E). l ++ a.rest) (sym (longer_own v.seen w.seen mid e));
          others = a.others;
          outs = λ z k d low. in_without w.number (names (get_or a.rest k d)) v.out (later k d low) (a.outs zeroth k d low);
        },
        inr (mid, e, All_before (λ x. names x ≢ w.number) mid a.rest others),
      )

  joined_seen : (names : E → ℕ) (v w : LockView E) (told : List E) → v.number ≡ 0
      → Continues names v.number v.seen v.out told → Continues names w.number w.seen w.out told → Joined names v w told
  joined_seen names v w told zeroth a b = ⊎_elim
      (λ m. other_goes_on names v w told m.0 zeroth m.1 a b m.2)
      (λ m. first_goes_on names v w told m.0 zeroth m.1 a b m.2)
      (line_up v.seen a.rest w.seen b.rest (sym a.all ∙ b.all))

  -- one with the number of the view that came back is gone
  numbers_left : (old : List (LockView E)) (v w : LockView E) (other k : ℕ) → get_elem? old 0 ≡ some v → w.spent ≡ false
      → get_elem? (set old 0 (taker v w)) other ≡ some w
      → count (is_numbered k) (set (set old 0 (taker v w)) other gone) + num (w.number == k) ≡ count (is_numbered k) old
  numbers_left old v w other k at too there =
      let a = count_set (is_numbered k) (set old 0 (taker v w)) other w gone there in
      let b = count_same (is_numbered k) old 0 v (taker v w) at refl in
      let c : num (is_numbered k w) ≡ num (w.number == k) = ap (λ y. num (not y && (w.number == k))) too in
      let d : num (is_numbered k (gone {E = E})) ≡ 0 = refl in omega arith

  living_left : (old : List (LockView E)) (v w : LockView E) (other : ℕ) → get_elem? old 0 ≡ some v → w.spent ≡ false
      → get_elem? (set old 0 (taker v w)) other ≡ some w
      → count is_living (set (set old 0 (taker v w)) other gone) + 1 ≡ count is_living old
  living_left old v w other at too there =
      let a = count_set is_living (set old 0 (taker v w)) other w gone there in
      let b = count_same is_living old 0 v (taker v w) at refl in
      let c : num (is_living w) ≡ 1 = ap (λ y. num (not y)) too in
      let d : num (is_living (gone {E = E})) ≡ 0 = refl in omega arith

  join_roster : (old : List (LockView E)) (v : LockView E) (other : ℕ) (w : LockView E) → IsRoster old → get_elem? old 0 ≡ some v → v.number ≡ 0
      → w.spent ≡ false → w.number ≢ 0
      → get_elem? (set old 0 (taker v w)) other ≡ some w → other ≢ 0 → IsRoster (set (set old 0 (taker v w)) other gone)
  join_roster [] v other w r at zeroth too later there apart = absurd (some-ne-none v (sym at))
  join_roster (x ∷ views) v other w r at zeroth too later there apart =
      let old : List (LockView E) = x ∷ views in
      let same : r.first ≡ v = some-injective r.first v (sym r.at ∙ at) in
      let outs : r.first.out ≡ v.out = ap (λ (y : LockView E). y.out) same in
      let n : ℕ = w.number in
      let counted : (k : ℕ) → count (is_numbered k) (set (set old 0 (taker v w)) other gone) + num (n == k) ≡ times k (0 ∷ v.out) =
      λ k. numbers_left old v w other k at too there ∙ r.all k ∙ ap (λ (ns : List ℕ). times k (0 ∷ ns)) outs in
      let once : (k : ℕ) → times k (0 ∷ v.out) ≤ 1 = λ k. subst (λ (ns : List ℕ). times k (0 ∷ ns) ≤ 1) outs (r.once k) in
      let here : num (n == n) ≡ 1 = ap num (eq-eqb n n refl) in
      let one : times n (0 ∷ v.out) ≡ 1 = omega (arith, counted n, once n) in
      let not_first : num (0 == n) ≡ 0 = ap num (ne_eqb 0 n (λ e. later (sym e))) in
      let all : count is_living old ≡ 1 + length v.out = r.total ∙ ap (λ (ns : List ℕ). 1 + length ns) outs in
      record {
        first = taker v w;
        at = set_else (set old 0 (taker v w)) other 0 gone (λ e. apart (sym e));
        zero = zeroth;
        lives = ap (λ (y : LockView E). y.spent) (sym same) ∙ r.lives;
        all = λ k. omega (arith, counted k, times_left n k v.out later one);
        once = λ k. omega (arith, times_left n k v.out later one, once k);
        total = omega (arith, living_left old v w other at too there, without-length n v.out);
        few = All_without (λ m. m < 2 ^ 32) n v.out (subst (All (λ m. m < 2 ^ 32)) outs r.few);
      }

module _ {V E : Type 0} (entries : V → List E) (names : E → ℕ) where
  home_counts : (homes : List (mathlib.Core.Option.Option (Option V))) (views after : List (LockView E)) (told : List E)
      → count is_holding after ≡ count is_holding views
      → IsHome entries homes views told → IsHome entries homes after told
  home_counts homes views after told e h = ⊎_elim (λ home. inl (e ∙ home.0, home.1, home.2, home.3)) (λ out. inr (e ∙ out.0, out.1)) h

  -- each view after a split
  each_split : (s : State (Option V) (LockView E)) (is : IsInTurn entries names s) (id : ℕ) (v : LockView E) (n : ℕ) → get_elem? s.views id ≡ some v → v.spent ≡ false → v.number ≡ 0
      → n ≢ 0 → (Contains v.out n → ⊥) → Each (IsViewIn names is.served is.next is.told) (set s.views id (lender v n) ++ lent v n ∷ [])
  each_split s is id v n here lives zeroth above new =
      let Holds : LockView E → Type 0 = IsViewIn names is.served is.next is.told in
      let r : Holds v = is.each id v here in
      let c : Continues names v.number v.seen v.out is.told = r.seen lives in
      each_push Holds (set s.views id (lender v n)) (lent v n)
      (each_set Holds Holds s.views id (lender v n) is.each (λ j y apart there old. old)
      (record {
        idle = r.idle;
        line = r.line;
        turn = r.turn;
        seen = λ living. record {
          rest = c.rest;
          all = c.all;
          others = c.others;
          outs = λ e k d less. Contains-cons n v.out (names (get_or c.rest k d)) (c.outs e k d less);
        };
        joined = r.joined;
      }))
      (view_idle names is.served is.next is.told (lent v n) refl refl
      (λ living. record {
        rest = c.rest;
        all = c.all;
        others = λ k d less e. new (subst (Contains v.out) e (c.outs zeroth k d less));
        outs = λ e. absurd (above e);
      })
      (none_joined names))

  pub splits : (id : ℕ) (v : LockView E) (n : ℕ) → v.spent ≡ false → v.number ≡ 0 → n ≢ 0 → n < 2 ^ 32 → (Contains v.out n → ⊥)
      → Splits (IsInTurn entries names) id v (lender v n) (lent v n)
  splits id v n lives zeroth above low new s is here =
      let left : List (LockView E) = set s.views id (lender v n) in
      let same_count : (p : LockView E → Bool) → p (lender v n) ≡ p v → p (lent v n) ≡ false → count p (left ++ lent v n ∷ []) ≡ count p s.views =
      λ p same no. (let a = count_push p left (lent v n) in let b = count_same p s.views id v (lender v n) here same in
      let f : num (p (lent v n)) ≡ 0 = ap num no in omega arith) in
      record {
        served = is.served;
        next = is.next;
        told = is.told;
        words = is.words;
        line = ap (λ k. is.served + k) (same_count is_waiting refl refl) ∙ is.line;
        differ = λ t. subst (λ k. k ≤ 1) (sym (same_count (has_ticket t) refl refl)) (is.differ t);
        each = each_split s is id v n here lives zeroth above new;
        home = home_counts s.homes s.views (left ++ lent v n ∷ []) is.told (same_count is_holding refl refl) is.home;
        roster = (let first = roster_first s.views id v is.roster here lives zeroth in
            subst (λ i. IsRoster (set s.views i (lender v n) ++ lent v n ∷ [])) (sym first)
            (split_roster s.views v n is.roster (subst (λ i. get_elem? s.views i ≡ some v) first here) above low new));
      }

  pub joins : (id : ℕ) (v : LockView E) (other : ℕ) (w : LockView E) → v.spent ≡ false → v.number ≡ 0 → w.spent ≡ false → w.number ≢ 0
      → w.waits ≡ false → w.holds ≡ false
      → Joins (IsInTurn entries names) id v other w (taker v w) gone
  joins id v other w lives zeroth too later free empty s is here apart there =
      let both : LockView E = taker v w in
      let mid_views : List (LockView E) = set s.views id both in
      let at_other : get_elem? s.views other ≡ some w = sym (set_else s.views id other both apart) ∙ there in
      let r : IsViewIn names is.served is.next is.told v = is.each id v here in
      let q : IsViewIn names is.served is.next is.told w = is.each other w at_other in
      let j = joined_seen names v w is.told zeroth (r.seen lives) (q.seen too) in
      let same_count : (p : LockView E → Bool) → p both ≡ p v → p w ≡ false → p gone ≡ false → count p (set mid_views other gone) ≡ count p s.views =
      λ p same no none_gone. (let a = count_set p mid_views other w gone there in let b = count_same p s.views id v both here same in
      let f : num (p w) ≡ 0 = ap num no in let g : num (p gone) ≡ 0 = ap num none_gone in omega arith) in
      record {
        served = is.served;
        next = is.next;
        told = is.told;
        words = is.words;
        line = ap (λ k. is.served + k) (same_count is_waiting refl free refl) ∙ is.line;
        differ = λ t. subst (λ k. k ≤ 1) (sym (same_count (has_ticket t) refl (ap (λ b. b && (w.ticket == t)) free) refl)) (is.differ t);
        each = each_set (IsViewIn names is.served is.next is.told) (IsViewIn names is.served is.next is.told) mid_views other gone
            (each_set (IsViewIn names is.served is.next is.told) (IsViewIn names is.served is.next is.told) s.views id both is.each (λ k y ne at old. old)
            (record {
              idle = r.idle;
              line = r.line;
              turn = r.turn;
              seen = λ living. j.0;
              joined = j.1;
            }))
            (λ k y ne at old. old)
            (view_idle names is.served is.next is.told gone refl refl (λ living. absurd (true≢false living)) (none_joined names));
        home = home_counts s.homes s.views (set mid_views other gone) is.told (same_count is_holding refl empty refl) is.home;
        roster = (let first = roster_first s.views id v is.roster here lives zeroth in
            subst (λ i. IsRoster (set (set s.views i both) other gone)) (sym first)
            (join_roster s.views v other w is.roster (subst (λ i. get_elem? s.views i ≡ some v) first here) zeroth too later
            (subst (λ i. get_elem? (set s.views i both) other ≡ some w) first there) (λ e. apart (e ∙ sym first))));
      }
