-- Each step of the linking of shares.
use Rattle.std.proofs.Common.{◌≡◌, ◌≢◌, ◌≤◌, ℕ, zero, suc, ◌+◌, ◌<◌, List, [], ◌∷◌, ◌++◌, length, map, set, take, get_or, refl, sym, ap, ap₂, ◌∙◌, subst, inl, inr, arith}
use Rattle.std.specs.List.{All, insert, remove}
use Rattle.std.proofs.lemmas.List.{length-set, length-map, map-append, get_or-set_same, get_or-set_other, get_or_default, get_or-map, take_all}
use Rattle.std.proofs.Math.Seq.{map-set_same}
use Rattle.std.proofs.lemmas.List.Elements.{All-append}
use Rattle.std.proofs.lemmas.List.Edits.{length-remove}
use Rattle.std.proofs.lemmas.Bool.{cases_lt, cases_eq}
use Rattle.mark_worklist.specs.Hands.{all_parts}
use Rattle.mark_worklist.specs.Ends.{OtherState, one_part_less}
use Rattle.mark_worklist.specs.Shares.{ShareState}
use Rattle.mark_worklist.specs.Families.{alone, at, names_of, nobody, GaveEnd, IsFresh, IsShareOf}
use Rattle.mark_worklist.specs.Linking.{lists_of, HasLinks, IsLinked}
use Rattle.mark_worklist.proofs.Others.{none-left, others-more, others-same}

-- an end from which nothing was taken
all-one : (P : OtherState → Type 0) (e : OtherState) → P e → All P (e ∷ [])
all-one P e holds zero d l = holds
all-one P e holds (suc k) d l = absurd (omega (arith, l))

module _ (old : List ShareState) (i j : ℕ) (x y : ShareState) (apart : j ≢ i) where
  abbrev now : List ShareState
  now = set (set old i x) j y

  pub length-two : length now ≡ length old
  length-two = length-set (set old i x) j y ∙ length-set old i x

  pub at-second : j < length old → at now j ≡ y
  at-second within = get_or-set_same (set old i x) j y nobody (omega (arith, within, length-set old i x))

  pub at-first : i < length old → at now i ≡ x
  at-first within = get_or-set_other (set old i x) j i y nobody (λ same. apart (sym same)) ∙ get_or-set_same old i x nobody within

  pub at-third : (k : ℕ) → k ≢ i → k ≢ j → at now k ≡ at old k
  at-third k other third = get_or-set_other (set old i x) j k y nobody third ∙ get_or-set_other old i k x nobody other

  pub lists-two : x.own.list ≡ (at old i).own.list → y.own.list ≡ (at old j).own.list → lists_of now ≡ lists_of old
  lists-two first second = map-set_same (λ s. s.own.list) (set old i x) j y nobody (second ∙ ap (λ s. s.own.list) (sym (get_or-set_other old i j x nobody apart)))
      ∙ map-set_same (λ s. s.own.list) old i x nobody first

module _ (names : List (ℕ × ℕ)) (giver taker : ℕ) (few : length names ≤ all_parts) (apart : taker ≢ giver) (in-g : giver < length names) (in-t : taker < length names) where
  pub has-parts : (s : ShareState) → HasLinks names giver taker giver s → 1 < s.own.hand.parts
  has-parts s h = elim (cases_lt giver taker) [
    | inl before ↦ omega (arith, h.gave_more refl before, in-t, few)
    | inr after ↦ (let less : taker < giver = omega (arith, after, apart) in omega (arith, h.gave_some refl after, less, in-g, few))
  ]

  taker-has : (g t : ShareState) (seen : ℕ) → get_or names giver g.own.list ≡ g.own.list → HasLinks names giver taker taker t
      → HasLinks names giver (taker + 1) taker (record t { others = t.others ++ record { list = g.own.list; taken = []; moved = []; seen = seen } ∷ [] })
  taker-has g t seen own h = record {
    number = h.number;
    own = h.own;
    more = λ l. map-append (λ e. e.list) t.others (record { list = g.own.list; taken = []; moved = []; seen = seen } ∷ []) ∙ ap (λ l. l ++ g.own.list ∷ []) (h.less (omega arith))
        ∙ ap (λ y. remove (take giver names) taker ++ y ∷ []) (sym own) ∙ sym (others-more names giver taker g.own.list in-g apart);
    less = λ l. absurd (omega (arith, l));
    gave_all = h.gave_all;
    gave_some = λ same. absurd (apart same);
    gave_more = λ same. absurd (apart same);
    gave_none = h.gave_none;
    fresh = record {
      put = h.fresh.put;
      taken = h.fresh.taken;
      stolen = All-append (λ e. e.taken ≡ []) t.others _ h.fresh.stolen (all-one (λ e. e.taken ≡ []) (record { list = g.own.list; taken = []; moved = []; seen = seen }) refl);
      brought = h.fresh.brought;
      moved = h.fresh.moved;
      moved_there = All-append (λ e. e.moved ≡ []) t.others _ h.fresh.moved_there (all-one (λ e. e.moved ≡ []) (record { list = g.own.list; taken = []; moved = []; seen = seen }) refl);
      refused = h.fresh.refused;
      no_pop = h.fresh.no_pop;
      no_steal = h.fresh.no_steal;
    };
  }

  giver-has : (s : ShareState) → HasLinks names giver taker giver s → HasLinks names giver (taker + 1) giver (record s { own = one_part_less s.own })
  giver-has s h = record {
    number = h.number;
    own = h.own;
    more = λ l. h.more (omega (arith, l, apart));
    less = λ l. h.less (omega (arith, l));
    gave_all = λ l. absurd (omega (arith, l));
    gave_some = λ same l. omega (arith, h.gave_some refl (omega (arith, l)), has-parts s h);
    gave_more = λ same l. omega (arith, h.gave_more refl (omega (arith, l, apart)), has-parts s h);
    gave_none = λ l. absurd (omega (arith, l));
    fresh = record {
      put = h.fresh.put;
      taken = h.fresh.taken;
      stolen = h.fresh.stolen;
      brought = h.fresh.brought;
      moved = h.fresh.moved;
      moved_there = h.fresh.moved_there;
      refused = h.fresh.refused;
      no_pop = h.fresh.no_pop;
      no_steal = h.fresh.no_steal;
    };
  }

  third-has : (k : ℕ) (s : ShareState) → k ≢ giver → k ≢ taker → HasLinks names giver taker k s → HasLinks names giver (taker + 1) k s
  third-has k s other third h = record {
    number = h.number;
    own = h.own;
    more = λ l. h.more (omega (arith, l, third));
    less = λ l. h.less (omega (arith, l));
    gave_all = h.gave_all;
    gave_some = λ same. absurd (other same);
    gave_more = λ same. absurd (other same);
    gave_none = h.gave_none;
    fresh = h.fresh;
  }

  pub links : (old new : List ShareState) → IsLinked names giver taker old → GaveEnd old giver taker new → IsLinked names giver (taker + 1) new
  links old new h gave =
      let g = at old giver in
      let t = at old taker in
      let g' : ShareState = record g { own = one_part_less g.own } in
      let t' : ShareState = record t { others = t.others ++ record { list = g.own.list; taken = []; moved = []; seen = gave.seen } ∷ [] } in
      let has-g = h.each giver in-g in
      let has-t = h.each taker in-t in
      subst (IsLinked names giver (taker + 1)) (sym gave.all) (record {
        as_many = length-two old giver taker g' t' apart ∙ h.as_many;
        each = λ k l. elim (cases_eq k taker) [
          | inl is ↦ subst (λ j. HasLinks names giver (taker + 1) j (at (set (set old giver g') taker t') j)) (sym is)
              (subst (HasLinks names giver (taker + 1) taker) (sym (at-second old giver taker g' t' apart (omega (arith, in-t, h.as_many)))) (taker-has g t gave.seen has-g.own has-t))
          | inr third ↦ elim (cases_eq k giver) [
            | inl is ↦ subst (λ j. HasLinks names giver (taker + 1) j (at (set (set old giver g') taker t') j)) (sym is)
                (subst (HasLinks names giver (taker + 1) giver) (sym (at-first old giver taker g' t' apart (omega (arith, in-g, h.as_many)))) (giver-has g has-g))
            | inr other ↦ subst (HasLinks names giver (taker + 1) k) (sym (at-third old giver taker g' t' apart k other third)) (third-has k (at old k) other third (h.each k l))
          ]
        ];
      })

  pub same-lists : (old new : List ShareState) → GaveEnd old giver taker new → lists_of new ≡ lists_of old
  same-lists old new gave = ap lists_of gave.all ∙ lists-two old giver taker _ _ apart refl refl

-- the giver has its own list already
pub passes : (names : List (ℕ × ℕ)) (d : ℕ) (shares : List ShareState) → IsLinked names d d shares → IsLinked names d (d + 1) shares
passes names d shares h = record {
  as_many = h.as_many;
  each = λ k l. let s = h.each k l in record {
    number = s.number;
    own = s.own;
    more = λ m. elim (cases_lt k d) [
      | inl before ↦ s.more before
      | inr after ↦ (let is : k ≡ d = omega (arith, m, after) in
          s.less after ∙ subst (λ j. remove (take d names) j ≡ remove (take (d + 1) names) j) (sym is) (sym (others-same names d)))
    ];
    less = λ m. s.less (omega (arith, m));
    gave_all = s.gave_all;
    gave_some = λ same m. absurd (omega (arith, m));
    gave_more = λ same m. omega (arith, s.gave_some same (omega arith));
    gave_none = s.gave_none;
    fresh = s.fresh;
  };
}

-- all have the giver's list
pub goes-on : (names : List (ℕ × ℕ)) (d : ℕ) (shares : List ShareState) → d < length names → IsLinked names d (length names) shares → IsLinked names (d + 1) 0 shares
goes-on names d shares within h = record {
  as_many = h.as_many;
  each = λ k l. let s = h.each k l in record {
    number = s.number;
    own = s.own;
    more = λ m. absurd (omega (arith, m));
    less = λ m. s.more l;
    gave_all = λ m. elim (cases_lt k d) [
      | inl before ↦ s.gave_all before
      | inr after ↦ s.gave_more (omega (arith, m, after)) within
    ];
    gave_some = λ same m. omega (arith, s.gave_none (omega (arith, same)));
    gave_more = λ same m. absurd (omega (arith, m));
    gave_none = λ m. s.gave_none (omega (arith, m));
    fresh = s.fresh;
  };
}

-- what the two changes of a gift make
pub gave-end : (old : List ShareState) (giver taker : ℕ) (a b x y : ShareState) (e : OtherState) → giver < length old → taker < length old → taker ≢ giver
    → a ≡ get_or old giver a → x ≡ record a { own = one_part_less a.own } → b ≡ get_or (set old giver x) taker b
    → y ≡ record b { others = b.others ++ e ∷ [] } → e.list ≡ a.own.list → (e.taken ≡ []) × (e.moved ≡ []) → GaveEnd old giver taker (set (set old giver x) taker y)
gave-end old giver taker a b x y e in-g in-t apart a-is x-is b-is y-is list none =
    let ga : a ≡ at old giver = a-is ∙ get_or_default old giver a nobody in-g in
    let gb : b ≡ at old taker = b-is ∙ get_or-set_other old giver taker x b apart ∙ get_or_default old taker b nobody in-t in
    let e' : OtherState = record { list = (at old giver).own.list; taken = []; moved = []; seen = e.seen } in
    let ge : e ≡ e' = ap₂ (λ l t. record { list = l; taken = t; moved = e.moved; seen = e.seen }) (list ∙ ap (λ s. s.own.list) ga) none.0
    ∙ ap (λ m. record { list = (at old giver).own.list; taken = []; moved = m; seen = e.seen }) none.1 in
    let gx = x-is ∙ ap (λ (s : ShareState). record s { own = one_part_less s.own }) ga in
    let gy = y-is ∙ ap (λ (s : ShareState). record s { others = s.others ++ e ∷ [] }) gb ∙ ap (λ z. record (at old taker) { others = (at old taker).others ++ z ∷ [] }) ge in
    record { seen = e.seen; all = ap₂ (λ v w. set (set old giver v) taker w) gx gy }

-- a share that knows no other has no links
pub begins : (shares : List ShareState) → ((k : ℕ) → k < length shares → at shares k ≡ alone k (at shares k).own.list) → IsLinked (lists_of shares) 0 0 shares
begins shares each = record {
  as_many = sym (length-map shares (λ s. s.own.list));
  each = λ k l. let within : k < length shares = omega (arith, l, length-map shares (λ s. s.own.list)) in
      let is = each k within in
      record {
        number = ap (λ s. s.number) is;
        own = get_or-map (λ s. s.own.list) shares k nobody (at shares k).own.list within;
        more = λ m. absurd (omega (arith, m));
        less = λ m. ap (λ s. map (λ e. e.list) s.others) is ∙ sym (none-left k);
        gave_all = λ m. absurd (omega (arith, m));
        gave_some = λ same m. (let p = ap (λ s. s.own.hand.parts) is in omega (arith, p));
        gave_more = λ same m. absurd (omega (arith, m));
        gave_none = λ m. ap (λ s. s.own.hand.parts) is;
        fresh = subst IsFresh (sym is) (record {
          put = refl;
          taken = refl;
          stolen = λ j d m. absurd (omega (arith, m));
          brought = refl;
          moved = refl;
          moved_there = λ j d m. absurd (omega (arith, m));
          refused = refl;
          no_pop = refl;
          no_steal = refl;
        });
      };
}

first-of : (names : List (ℕ × ℕ)) (own : ℕ × ℕ) → 0 < length names → get_or names 0 own ≡ own → insert (remove names 0) 0 own ≡ names
first-of [] own some is = absurd (omega (arith, some))
first-of (x ∷ xs) own some is = ap (λ y. y ∷ xs) (sym is)

-- once all lists went to all, these are the shares of a family
module _ (names : List (ℕ × ℕ)) (shares : List ShareState) (few : length names ≤ all_parts) (h : IsLinked names (length names) 0 shares) where
  whole : (k : ℕ) → remove (take (length names) names) k ≡ remove names k
  whole k = ap (λ l. remove l k) (take_all (length names) names (omega arith))

  pub are-names : 0 < length names → names_of (at shares 0) ≡ names
  are-names some =
      let s = h.each 0 some in
      ap₂ (λ l i. insert l i (at shares 0).own.list) (s.less (omega arith) ∙ whole 0) s.number ∙ first-of names (at shares 0).own.list some s.own

  pub is-share : (k : ℕ) → k < length names → IsShareOf names (at shares k)
  is-share k l =
      let s = h.each k l in
      let others = s.less (omega arith) ∙ whole k in record {
        few = few;
        within = omega (arith, s.number, l);
        own = ap (λ j. get_or names j (at shares k).own.list) s.number ∙ s.own;
        others = others ∙ ap (remove names) (sym s.number);
        parts = omega (arith, s.gave_all l, sym (length-map (at shares k).others (λ e. e.list)) ∙ ap length others, length-remove names k l);
      }

  pub first-ends : 0 < length names → length (at shares 0).others + 1 ≡ length names
  first-ends some =
      let s = h.each 0 some in
      let others = ap length (s.less (omega arith) ∙ whole 0) in
      omega (arith, others, length-map (at shares 0).others (λ e. e.list), length-remove names 0 some)
