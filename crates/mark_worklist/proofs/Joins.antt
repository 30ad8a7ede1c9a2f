-- Each step of the joining of shares.
use Rattle.std.proofs.Common.{◌≡◌, ◌≢◌, ℕ, ◌+◌, ◌<◌, List, [], ◌∷◌, ◌++◌, length, map, set, take, drop, get_or, refl, sym, ap, ap₂, ◌∙◌, subst, inl, inr, arith}
use Rattle.std.specs.List.{remove}
use Rattle.std.proofs.lemmas.List.{length-map, length-append, map-append, get_or-set_other, get_or_default}
use Rattle.std.proofs.lemmas.Bool.{cases_lt, cases_eq}
use Rattle.mark_worklist.specs.Ends.{OtherState}
use Rattle.mark_worklist.specs.Shares.{ShareState}
use Rattle.mark_worklist.specs.Families.{at, nobody, with_joined, GaveBack}
use Rattle.mark_worklist.specs.Joining.{EndsAreJoined, AreOpen, IsPartJoined, ArePartJoined}
use Rattle.mark_worklist.proofs.Others.{none-left, others-more, others-same}
use Rattle.mark_worklist.proofs.Links.{length-two, at-first, at-second, at-third}

last-same : {X : Type 0} (xs ys : List X) (a b : X) → xs ++ a ∷ [] ≡ ys ++ b ∷ [] → a ≡ b
last-same [] [] a b e = ap (λ l. get_or l 0 a) e
last-same [] (y ∷ ys) a b e = let n = ap length e in absurd (omega (arith, n, length-append ys (b ∷ [])))
last-same (x ∷ xs) [] a b e = let n = ap length e in absurd (omega (arith, n, length-append xs (a ∷ [])))
last-same (x ∷ xs) (y ∷ ys) a b e = last-same xs ys a b (ap (drop 1) e)

rest-same : {X : Type 0} (xs ys : List X) (a b : X) → xs ++ a ∷ [] ≡ ys ++ b ∷ [] → xs ≡ ys
rest-same [] [] a b e = refl
rest-same [] (y ∷ ys) a b e = let n = ap length e in absurd (omega (arith, n, length-append ys (b ∷ [])))
rest-same (x ∷ xs) [] a b e = let n = ap length e in absurd (omega (arith, n, length-append xs (a ∷ [])))
rest-same (x ∷ xs) (y ∷ ys) a b e = ap₂ (λ z l. z ∷ l) (ap (λ l. get_or l 0 x) e) (rest-same xs ys a b (ap (drop 1) e))

none-mapped : {X Y : Type 0} (f : X → Y) (xs : List X) → map f xs ≡ [] → xs ≡ []
none-mapped f [] e = refl
none-mapped f (x ∷ xs) e = let n = ap length e in absurd (omega (arith, n))

-- what the two changes make, by which an end goes back
pub gave-back : (old : List ShareState) (giver owner : ℕ) (a b x y : ShareState) (e : OtherState) → giver < length old → owner < length old → giver ≢ owner
    → a ≡ get_or old giver a → x ≡ record a { others = x.others } → a.others ≡ x.others ++ e ∷ [] → b ≡ get_or (set old giver x) owner b → y ≡ with_joined b e
    → GaveBack old giver owner (set (set old giver x) owner y)
gave-back old giver owner a b x y e in-g in-o apart a-is x-is last b-is y-is =
    let ga : a ≡ at old giver = a-is ∙ get_or_default old giver a nobody in-g in
    let gb : b ≡ at old owner = b-is ∙ get_or-set_other old giver owner x b (λ same. apart (sym same)) ∙ get_or_default old owner b nobody in-o in
    record {
      rest = x.others;
      end = e;
      last = ap (λ s. s.others) (sym ga) ∙ last;
      all = ap₂ (λ v w. set (set old giver v) owner w) (x-is ∙ ap (λ (s : ShareState). record s { others = x.others }) ga) (y-is ∙ ap (λ s. with_joined s e) gb);
    }

module _ (names : List (ℕ × ℕ)) (d p : ℕ) (apart : p ≢ d) (in-d : d < length names) (in-p : p < length names) where
  module _ (o s : ShareState) (of-o : IsPartJoined names d p d o) (of-s : IsPartJoined names d p p s) where
    ends-in : map (λ e. e.list) s.others ≡ remove (take d names) p ++ o.own.list ∷ []
    ends-in = of-s.has (omega arith) ∙ others-more names d p o.own.list in-d apart ∙ ap (λ y. remove (take d names) p ++ y ∷ []) of-o.own

    pub has-end : 0 < length s.others
    has-end = let n = ap length ends-in in omega (arith, n, length-map s.others (λ e. e.list), length-append (remove (take d names) p) (o.own.list ∷ []))

    pub end-list : (rest : List OtherState) (end : OtherState) → s.others ≡ rest ++ end ∷ [] → end.list ≡ o.own.list
    end-list rest end is = last-same (map (λ e. e.list) rest) (remove (take d names) p) end.list o.own.list
        (sym (map-append (λ e. e.list) rest (end ∷ [])) ∙ ap (map (λ e. e.list)) (sym is) ∙ ends-in)

    rest-lists : (rest : List OtherState) (end : OtherState) → s.others ≡ rest ++ end ∷ [] → map (λ e. e.list) rest ≡ remove (take d names) p
    rest-lists rest end is = rest-same (map (λ e. e.list) rest) (remove (take d names) p) end.list o.own.list
        (sym (map-append (λ e. e.list) rest (end ∷ [])) ∙ ap (map (λ e. e.list)) (sym is) ∙ ends-in)

    giver-has : (rest : List OtherState) (end : OtherState) → s.others ≡ rest ++ end ∷ [] → IsPartJoined names d (p + 1) p (record s { others = rest })
    giver-has rest end is = record {
      number = of-s.number;
      own = of-s.own;
      gave = λ l. rest-lists rest end is;
      has = λ l. absurd (omega (arith, l));
      whole = of-s.whole;
      some = λ same. absurd (apart same);
      more = λ same. absurd (apart same);
      none = of-s.none;
    }

  owner-has : (o : ShareState) (end : OtherState) → IsPartJoined names d p d o → IsPartJoined names d (p + 1) d (with_joined o end)
  owner-has o end h = record {
    number = h.number;
    own = h.own;
    gave = λ l. h.gave (omega (arith, l, apart));
    has = λ l. h.has (omega (arith, l));
    whole = λ l. absurd (omega (arith, l));
    some = λ same l. omega (arith, h.some refl (omega (arith, l)));
    more = λ same l. omega (arith, h.more refl (omega (arith, l, apart)));
    none = λ l. absurd (omega (arith, l));
  }

  third-has : (k : ℕ) (s : ShareState) → k ≢ p → k ≢ d → IsPartJoined names d p k s → IsPartJoined names d (p + 1) k s
  third-has k s other third h = record {
    number = h.number;
    own = h.own;
    gave = λ l. h.gave (omega (arith, l, other));
    has = λ l. h.has (omega (arith, l));
    whole = h.whole;
    some = λ same. absurd (third same);
    more = λ same. absurd (third same);
    none = h.none;
  }

  pub goes-back : (old new : List ShareState) → ArePartJoined names d p old → GaveBack old p d new → ArePartJoined names d (p + 1) new
  goes-back old new h gave =
      let s = at old p in
      let o = at old d in
      let s' : ShareState = record s { others = gave.rest } in
      let o' = with_joined o gave.end in
      let of-o = h.each d in-d in
      let of-s = h.each p in-p in
      let apart' : d ≢ p = λ same. apart (sym same) in
      subst (ArePartJoined names d (p + 1)) (sym gave.all) (record {
        as_many = length-two old p d s' o' apart' ∙ h.as_many;
        each = λ k l. elim (cases_eq k d) [
          | inl is ↦ subst (λ j. IsPartJoined names d (p + 1) j (at (set (set old p s') d o') j)) (sym is)
              (subst (IsPartJoined names d (p + 1) d) (sym (at-second old p d s' o' apart' (omega (arith, in-d, h.as_many)))) (owner-has o gave.end of-o))
          | inr third ↦ elim (cases_eq k p) [
            | inl is ↦ subst (λ j. IsPartJoined names d (p + 1) j (at (set (set old p s') d o') j)) (sym is)
                (subst (IsPartJoined names d (p + 1) p) (sym (at-first old p d s' o' apart' (omega (arith, in-p, h.as_many)))) (giver-has o s of-o of-s gave.rest gave.end gave.last))
            | inr other ↦ subst (IsPartJoined names d (p + 1) k) (sym (at-third old p d s' o' apart' k other third)) (third-has k (at old k) other third (h.each k l))
          ]
        ];
      })

-- the owner has no end of its own list to give back
pub passes : (names : List (ℕ × ℕ)) (d : ℕ) (shares : List ShareState) → ArePartJoined names d d shares → ArePartJoined names d (d + 1) shares
passes names d shares h = record {
  as_many = h.as_many;
  each = λ k l. let s = h.each k l in record {
    number = s.number;
    own = s.own;
    gave = λ m. elim (cases_lt k d) [
      | inl before ↦ s.gave before
      | inr after ↦ (let is : k ≡ d = omega (arith, m, after) in
          s.has after ∙ subst (λ j. remove (take (d + 1) names) j ≡ remove (take d names) j) (sym is) (others-same names d))
    ];
    has = λ m. s.has (omega (arith, m));
    whole = s.whole;
    some = λ same m. absurd (omega (arith, m));
    more = λ same m. omega (arith, s.some same (omega arith));
    none = s.none;
  };
}

pub begins : (names : List (ℕ × ℕ)) (d : ℕ) (shares : List ShareState) → AreOpen names (d + 1) shares → ArePartJoined names d 0 shares
begins names d shares h = record {
  as_many = h.as_many;
  each = λ k l. let s = h.each k l in record {
    number = s.number;
    own = s.own;
    gave = λ m. absurd (omega (arith, m));
    has = λ m. s.others;
    whole = λ m. s.whole (omega (arith, m));
    some = λ same m. omega (arith, s.none (omega (arith, same)));
    more = λ same m. absurd (omega (arith, m));
    none = λ m. s.none (omega (arith, m));
  };
}

pub ends : (names : List (ℕ × ℕ)) (d : ℕ) (shares : List ShareState) → d < length names → ArePartJoined names d (length names) shares → AreOpen names d shares
ends names d shares within h = record {
  as_many = h.as_many;
  each = λ k l. let s = h.each k l in record {
    number = s.number;
    own = s.own;
    others = s.gave l;
    whole = λ m. elim (cases_lt d k) [
      | inl behind ↦ s.whole behind
      | inr not_behind ↦ omega (arith, s.more (omega (arith, m, not_behind)) within)
    ];
    none = s.none;
  };
}

-- once all lists have their ends back, the shares are joined
pub joined-all : (names : List (ℕ × ℕ)) (shares : List ShareState) → AreOpen names 0 shares → EndsAreJoined shares
joined-all names shares h = record {
  whole = λ k x l. ap (λ s. s.own.hand.parts) (get_or_default shares k x nobody l) ∙ (h.each k (omega (arith, l, h.as_many))).whole (omega arith);
  apart = λ k x l. ap (λ s. s.others) (get_or_default shares k x nobody l)
      ∙ none-mapped (λ e. e.list) (at shares k).others ((h.each k (omega (arith, l, h.as_many))).others ∙ none-left k);
}
