-- The steps of a pass keep the rule of the lock's table.
use Rattle.std.proofs.Common.{◌≡◌, ◌≢◌, ℕ, ◌+◌, ◌%◌, ◌^◌, ◌<◌, ◌≤◌, ◌==◌, ◌&&◌, true, false, List, [], ◌∷◌, ◌++◌, length, All, Contains, Option, Some, get_or, set, refl, sym, ap, ◌∙◌, subst, inl, inr, ⊎_elim, arith}
use mathlib.Core.Option.{some, none, some-injective, some-ne-none}
use lib.ListN.{get_elem?}
use Rattle.std.proofs.lemmas.Bool.{true≢false, cases_Bool, cases_eq, eq-eqb, ne_eqb, eqb-true, and_from, and_parts}
use Rattle.std.proofs.lemmas.List.{set-get_or}
use Rattle.atomic_table.specs.Table.{State, Me, Allows, keeps, takes, gives, homes_after, stepped}
use Rattle.atomic_table.proofs.Lists.{set_again, one_turn}
use Rattle.region_lock.specs.declared.views.LockView.{LockView}
use Rattle.region_lock.specs.Counts.{num, count, Each}
use Rattle.region_lock.specs.Rule.{IsInTurn, IsViewIn, IsHome, IsRoster, BeginsOther, is_waiting, is_holding, has_ticket}
use Rattle.region_lock.specs.Plays.{drawn, taken, raised, idle, IsDrawn, IsWaiting, IsWaited, HasTurn, IsCounted, IsRaised, IsServed, MayRaise, MayServe}
use Rattle.region_lock.proofs.Counting.{count_set, count_same, none_pass, only_one, one_passes, each_set, some_passes}
use Rattle.region_lock.proofs.OtherViews.{view_idle, view_drawn, view_raised, view_served, continues_none}
use Rattle.region_lock.proofs.Rosters.{roster_same, roster_apart, roster_out, few_wait}

module _ {V E : Type 0} (entries : V → List E) (names : E → ℕ) where
  word_at : (s : State (Option V) (LockView E)) (i : ℕ) (is : IsInTurn entries names s)
      → get_or s.words i 0 ≡ get_or (is.next % 2 ^ 64 ∷ is.served % 2 ^ 64 ∷ length is.told % 2 ^ 64 ∷ []) i 0
  word_at s i is = ap (λ (ws : List ℕ). get_or ws i 0) is.words

  -- ---- a ticket is drawn

  tickets_drawn : (views : List (LockView E)) (i next : ℕ) (v : LockView E) → get_elem? views i ≡ some v → v.waits ≡ false
      → ((t : ℕ) → count (has_ticket t) views ≤ 1) → Each (λ x. x.waits ≡ true → x.ticket < next) views
      → (t : ℕ) → count (has_ticket t) (set views i (drawn v next)) ≤ 1
  tickets_drawn views i next v at free differ below t =
      let before : num (has_ticket t v) ≡ 0 = ap (λ b. num (b && (v.ticket == t))) free in
      let h = count_set (has_ticket t) views i v (drawn v next) at in
      ⊎_elim
      (λ e. let none_has : count (has_ticket t) views ≡ 0 = none_pass (has_ticket t) views (λ j x there. ⊎_elim
      (λ has. absurd (let p = and_parts x.waits (x.ticket == t) has in omega (arith, below j x there p.0, eqb-true x.ticket t p.1, e)))
      (λ no. no)
      (cases_Bool (has_ticket t x))) in
      let after : num (has_ticket t (drawn v next)) ≡ 1 = ap num (eq-eqb next t e) in omega arith)
      (λ ne. let after : num (has_ticket t (drawn v next)) ≡ 0 = ap num (ne_eqb next t ne) in omega (arith, differ t))
      (cases_eq next t)

  home_same : (homes : List (mathlib.Core.Option.Option (Option V))) (views : List (LockView E)) (told : List E) (i : ℕ) (v w : LockView E)
      → get_elem? views i ≡ some v
      → w.holds ≡ v.holds → IsHome entries homes views told → IsHome entries homes (set views i w) told
  home_same homes views told i v w at same h =
      let e = count_same is_holding views i v w at same in
      ⊎_elim (λ home. inl (e ∙ home.0, home.1, home.2, home.3)) (λ out. inr (e ∙ out.0, out.1)) h

  pub draws : (slots id : ℕ) (me : Me (Option V) (LockView E)) → me.0.spent ≡ false → me.0.waits ≡ false → me.0.holds ≡ false
      → Allows (IsInTurn entries names) slots id me 0 (λ n. (n + 1) % 2 ^ 64) (λ found after. IsDrawn me found after)
  draws slots id me lives free empty s is homes here small =
      let v : LockView E = me.0 in
      let w : LockView E = drawn v is.next in
      let r : IsViewIn names is.served is.next is.told v = is.each id v here in (
        w,
        keeps,
        tt,
        record {
          served = is.served;
          next = is.next + 1;
          told = is.told;
          words = ap (λ (ws : List ℕ). set ws 0 ((get_or ws 0 0 + 1) % 2 ^ 64)) is.words
              ∙ ap (λ n. n ∷ is.served % 2 ^ 64 ∷ length is.told % 2 ^ 64 ∷ []) (more is.next);
          line = (let h = count_set is_waiting s.views id v w here in let f : num v.waits ≡ 0 = ap num free in omega (arith, is.line));
          differ = tickets_drawn s.views id is.next v here free is.differ (λ j x there waits. ((is.each j x there).line waits).1);
          each = each_set (IsViewIn names is.served is.next is.told) (IsViewIn names is.served (is.next + 1) is.told) s.views id w is.each
              (λ j x apart there old. view_drawn names is.served is.next is.told x old)
              (record {
                idle = λ spent. absurd (true≢false (sym spent ∙ lives));
                line = λ waits. (omega (arith, is.line), omega arith);
                turn = λ holds. absurd (true≢false (sym holds ∙ empty));
                seen = r.seen;
                joined = r.joined;
              });
          home = home_same s.homes s.views is.told id v w here refl is.home;
          roster = roster_same s.views id v w is.roster here refl refl refl;
        },
        (is.next, sym (word_at s 0 is), refl),
      )
    where
      more : (n : ℕ) → (n % 2 ^ 64 + 1) % 2 ^ 64 ≡ (n + 1) % 2 ^ 64
      more n = omega arith

  -- ---- a look

  -- what a look that finds nothing leaves
  same_state : (s : State (Option V) (LockView E)) (id at : ℕ) (v : LockView E) → get_elem? s.views id ≡ some v
      → s ≡ record { words = set s.words at (get_or s.words at 0); homes = s.homes; views = set s.views id v }
  same_state s id at v here =
      ap (λ ws. record { words = ws; homes = s.homes; views = s.views }) (sym (set-get_or s.words at 0))
      ∙ ap (λ vs. record { words = set s.words at (get_or s.words at 0); homes = s.homes; views = vs }) (sym (set_again s.views id v here))

  pub looks : (slots id : ℕ) (me : Me (Option V) (LockView E))
      → Allows (IsInTurn entries names) slots id me 2 (λ n. n) (λ found after. IsCounted names me found after)
  looks slots id me s is homes here small =
      let r : IsViewIn names is.served is.next is.told me.0 = is.each id me.0 here in (
        me.0,
        keeps,
        tt,
        subst (IsInTurn entries names) (same_state s id 2 me.0 here) is,
        record {
          me = refl;
          count = λ holds. word_at s 2 is ∙ ap (λ (l : List E). length l % 2 ^ 64) (sym (r.turn holds).2);
          joined = r.joined;
        },
      )

  -- ---- a wait

  -- whoever holds the value has the ticket that is served
  free_turn : (s : State (Option V) (LockView E)) (is : IsInTurn entries names s) (id : ℕ) (v : LockView E) → get_elem? s.views id ≡ some v
      → v.waits ≡ true → v.ticket ≡ is.served
      → v.holds ≡ false → (x : V) × (s.homes ≡ some (Some x) ∷ []) × (entries x ≡ is.told) × (count is_holding s.views ≡ 0)
  free_turn s is id v here waits served free = ⊎_elim
      (λ home. (home.1, home.2, home.3, home.0))
      (λ out.
      let h = some_passes is_holding s.views (omega (arith, out.0)) in
      let t = (is.each h.0 h.1 h.2).turn h.3 in
      let same : id ≡ h.0 = only_one (has_ticket is.served) s.views id h.0 v h.1 (is.differ is.served) here
      (and_from v.waits (v.ticket == is.served) waits (eq-eqb v.ticket is.served served)) h.2
      (and_from h.1.waits (h.1.ticket == is.served) t.0 (eq-eqb h.1.ticket is.served t.1)) in
      let one : v ≡ h.1 = some-injective v h.1 (sym here ∙ ap (get_elem? s.views) same ∙ h.2) in
      absurd (true≢false (sym h.3 ∙ ap (λ (y : LockView E). y.holds) (sym one) ∙ free)))
      is.home

  served_one : (s : State (Option V) (LockView E)) (is : IsInTurn entries names s) (id : ℕ) (v : LockView E) → get_elem? s.views id ≡ some v → v.waits ≡ true
      → is.served % 2 ^ 64 ≡ v.ticket % 2 ^ 64 → is.served ≡ v.ticket
  served_one s is id v here waits e =
      let l = (is.each id v here).line waits in
      one_turn is.served v.ticket (2 ^ 64) l.0 (omega (arith, l.1, is.line, few_wait names is.served is.next is.told s.views is.roster is.each)) e

  takes_turn : (id : ℕ) (me : Me (Option V) (LockView E)) (word : ℕ) → IsWaiting me word
      → (s : State (Option V) (LockView E)) (is : IsInTurn entries names s) → get_elem? s.views id ≡ some me.0
      → get_or s.words 1 0 ≡ me.0.ticket % 2 ^ 64 → (x : V) × (get_elem? s.homes 0 ≡ some (some (Some x)))
      × IsInTurn entries names record { words = set s.words 1 (get_or s.words 1 0); homes = set s.homes 0 none; views = set s.views id (taken me.0 (entries x)) }
      × HasTurn entries names me (taken me.0 (entries x), (0, Some x) ∷ me.1)
  takes_turn id me word may s is here found =
      let v : LockView E = me.0 in
      let r : IsViewIn names is.served is.next is.told v = is.each id v here in
      let mine : v.ticket ≡ is.served = sym (served_one s is id v here may.waits (sym (word_at s 1 is) ∙ found)) in
      let home = free_turn s is id v here may.waits mine may.free in
      let x : V = home.0 in
      let told : entries x ≡ is.told = home.2 in
      let w : LockView E = taken v (entries x) in (
        x,
        ap (λ hs. get_elem? hs 0) home.1,
        record {
          served = is.served;
          next = is.next;
          told = is.told;
          words = set-get_or s.words 1 0 ∙ is.words;
          line = ap (λ k. is.served + k) (count_same is_waiting s.views id v w here refl) ∙ is.line;
          differ = λ t. subst (λ n. n ≤ 1) (sym (count_same (has_ticket t) s.views id v w here refl)) (is.differ t);
          each = each_set (IsViewIn names is.served is.next is.told) (IsViewIn names is.served is.next is.told) s.views id w is.each (λ j y apart there old. old)
              (record {
                idle = r.idle;
                line = r.line;
                turn = λ holds. (may.waits, mine, told);
                seen = r.seen;
                joined = r.joined;
              });
          home = inr (held_by s.views id v w here may.free refl home.3, ap (λ hs. set hs 0 none) home.1);
          roster = roster_same s.views id v w is.roster here refl refl refl;
        },
        record { value = x; me = refl; seen = subst (Rattle.region_lock.specs.Rule.Continues names v.number v.seen v.out) (sym told) (r.seen may.lives) },
      )
    where
      held_by : (views : List (LockView E)) (i : ℕ) (v w : LockView E) → get_elem? views i ≡ some v → v.holds ≡ false → w.holds ≡ true
          → count is_holding views ≡ 0 → count is_holding (set views i w) ≡ 1
      held_by views i v w at free holds nobody =
          let h = count_set is_holding views i v w at in let f : num v.holds ≡ 0 = ap num free in let g : num w.holds ≡ 1 = ap num holds in omega (arith, nobody)

  pub waits : (slots id : ℕ) (me : Me (Option V) (LockView E)) (word : ℕ) → IsWaiting me word
      → Allows (IsInTurn entries names) slots id me 1 (λ n. n) (λ found after. IsWaited entries names me found after)
  waits slots id me word may s is homes here small = ⊎_elim
      (λ e. let t = takes_turn id me word may s is here e in (taken me.0 (entries t.0), takes 0 (Some t.0), t.1, t.2, inl (e, t.3)))
      (λ ne. (me.0, keeps, tt, subst (IsInTurn entries names) (same_state s id 1 me.0 here) is, inr (ne, refl)))
      (cases_eq (get_or s.words 1 0) (me.0.ticket % 2 ^ 64))

  -- ---- the count is raised

  others_free : (s : State (Option V) (LockView E)) (is : IsInTurn entries names s) (i j : ℕ) (v w : LockView E) → get_elem? s.views i ≡ some v → v.holds ≡ true
      → get_elem? s.views j ≡ some w → j ≢ i → w.holds ≡ false
  others_free s is i j v w at holds there apart = ⊎_elim
      (λ too. absurd (apart (sym (only_one is_holding s.views i j v w (out_once s is i v at holds) at holds there too))))
      (λ free. free) (cases_Bool w.holds)
    where
      out_once : (s : State (Option V) (LockView E)) (is : IsInTurn entries names s) (i : ℕ) (v : LockView E) → get_elem? s.views i ≡ some v
          → v.holds ≡ true → count is_holding s.views ≤ 1
      out_once s is i v at holds = ⊎_elim (λ home. omega (arith, home.0)) (λ out. omega (arith, out.0)) is.home

  is_out : (s : State (Option V) (LockView E)) (is : IsInTurn entries names s) (i : ℕ) (v : LockView E) → get_elem? s.views i ≡ some v → v.holds ≡ true
      → (count is_holding s.views ≡ 1) × (s.homes ≡ none ∷ [])
  is_out s is i v at holds = ⊎_elim (λ home. absurd (omega (arith, home.0, one_passes is_holding s.views i v at holds))) (λ out. out) is.home

  -- each view, after this one told new entries
  each_raised : (s : State (Option V) (LockView E)) (is : IsInTurn entries names s) (id : ℕ) (v : LockView E) (new : List E)
      → get_elem? s.views id ≡ some v → v.spent ≡ false → v.holds ≡ true
      → All (λ e. names e ≡ v.number) new → Each (IsViewIn names is.served is.next (is.told ++ new)) (set s.views id (raised v (is.told ++ new)))
  each_raised s is id v new here lives holds own =
      let r : IsViewIn names is.served is.next is.told v = is.each id v here in
      let t = r.turn holds in
      let es : List E = is.told ++ new in
      each_set (IsViewIn names is.served is.next is.told) (IsViewIn names is.served is.next es) s.views id (raised v es) is.each
      (λ j y apart there old. view_raised names is.served is.next is.told new y old (others_free s is id j v y here holds there apart)
      (λ lives' k d low same. roster_apart s.views id j v y is.roster here lives there lives' apart (sym (own k d low) ∙ same))
      (λ lives' zeroth k d low. subst (Contains y.out) (sym (own k d low)) (roster_out s.views j id y v is.roster there lives' zeroth here lives (λ e. apart (sym e)))))
      (record {
        idle = r.idle;
        line = r.line;
        turn = λ holding. (t.0, t.1, refl);
        seen = λ living. continues_none names v.number es v.out;
        joined = r.joined;
      })

  pub raises : (slots id : ℕ) (me : Me (Option V) (LockView E)) (word : ℕ) → MayRaise entries names me word
      → Allows (IsInTurn entries names) slots id me 2 (λ _. word) (λ _ after. IsRaised entries me after)
  raises slots id me word may s is homes here small =
      let v : LockView E = me.0 in
      let r : IsViewIn names is.served is.next is.told v = is.each id v here in
      let t = r.turn may.holds in
      let es : List E = entries may.value in
      let all : es ≡ is.told ++ may.new = may.all ∙ ap (λ (l : List E). l ++ may.new) t.2 in
      let w : LockView E = raised v es in
      let out = is_out s is id v here may.holds in (
        w,
        keeps,
        tt,
        record {
          served = is.served;
          next = is.next;
          told = es;
          words = ap (λ (ws : List ℕ). set ws 2 word) is.words ∙ ap (λ n. is.next % 2 ^ 64 ∷ is.served % 2 ^ 64 ∷ n ∷ []) may.word_is;
          line = ap (λ k. is.served + k) (count_same is_waiting s.views id v w here refl) ∙ is.line;
          differ = λ k. subst (λ n. n ≤ 1) (sym (count_same (has_ticket k) s.views id v w here refl)) (is.differ k);
          each = subst (λ (l : List E). Each (IsViewIn names is.served is.next l) (set s.views id (raised v l))) (sym all)
              (each_raised s is id v may.new here may.lives may.holds may.own);
          home = inr (count_same is_holding s.views id v w here refl ∙ out.0, out.1);
          roster = roster_same s.views id v w is.roster here refl refl refl;
        },
        (may.value, may.carried, refl),
      )

  -- ---- the next ticket is served

  -- each view, after this one's ticket was served
  each_served : (s : State (Option V) (LockView E)) (is : IsInTurn entries names s) (id : ℕ) (v : LockView E) → get_elem? s.views id ≡ some v → v.holds ≡ true
      → Each (IsViewIn names (is.served + 1) is.next is.told) (set s.views id (idle v))
  each_served s is id v here holds =
      let r : IsViewIn names is.served is.next is.told v = is.each id v here in
      let t = r.turn holds in
      each_set (IsViewIn names is.served is.next is.told) (IsViewIn names (is.served + 1) is.next is.told) s.views id (idle v) is.each
      (λ j y apart there old. view_served names is.served is.next is.told y old (others_free s is id j v y here holds there apart)
      (λ waits same. apart (sym (only_one (has_ticket is.served) s.views id j v y (is.differ is.served) here
      (and_from v.waits (v.ticket == is.served) t.0 (eq-eqb v.ticket is.served t.1)) there
      (and_from y.waits (y.ticket == is.served) waits (eq-eqb y.ticket is.served same))))))
      (view_idle names (is.served + 1) is.next is.told (idle v) refl refl r.seen r.joined)

  pub serves : (slots id : ℕ) (me : Me (Option V) (LockView E)) (word : ℕ) → MayServe entries me word
      → Allows (IsInTurn entries names) slots id me 1 (λ _. word) (λ _ after. IsServed me after)
  serves slots id me word may s is homes here small =
      let v : LockView E = me.0 in
      let r : IsViewIn names is.served is.next is.told v = is.each id v here in
      let t = r.turn may.holds in
      let w : LockView E = idle v in
      let out = is_out s is id v here may.holds in (
        w,
        gives,
        tt,
        record {
          served = is.served + 1;
          next = is.next;
          told = is.told;
          words = ap (λ (ws : List ℕ). set ws 1 word) is.words
              ∙ ap (λ n. is.next % 2 ^ 64 ∷ n ∷ length is.told % 2 ^ 64 ∷ []) (may.word_is ∙ ap (λ n. (n + 1) % 2 ^ 64) t.1);
          line = (let h = count_set is_waiting s.views id v w here in let f : num v.waits ≡ 1 = ap num t.0 in omega (arith, is.line));
          differ = λ k. (let h = count_set (has_ticket k) s.views id v w here in omega (arith, is.differ k));
          each = each_served s is id v here may.holds;
          home = inl (
            (let h = count_set is_holding s.views id v w here in let f : num v.holds ≡ 1 = ap num may.holds in omega (arith, out.0)),
            may.value,
            ap (λ (c : List (ℕ × Option V)). Rattle.atomic_table.specs.Table.put_back s.homes c) may.carried ∙ ap (λ hs. set hs 0 (some (Some may.value))) out.1,
            may.all ∙ t.2,
          );
          roster = roster_same s.views id v w is.roster here refl refl refl;
        },
        ap (λ (c : List (ℕ × Option V)). (w, Rattle.atomic_table.specs.Table.rest c)) may.carried,
      )
