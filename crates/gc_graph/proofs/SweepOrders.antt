-- The dead nodes below an address, in order: there is one such list, and it is cut at each lower address.
use Rattle.std.proofs.Common.{◌≡◌, ℕ, zero, suc, ◌+◌, ◌-◌, ◌<◌, ◌≤◌, List, [], ◌∷◌, ◌++◌, length, get_or, take, drop, map, true, nat_lt, Contains, refl, sym, ap, ◌∙◌, subst, inl, inr, arith, length-append, length-drop, length-take}
use Rattle.std.specs.Prelude.{slice_index}
use Rattle.std.proofs.lemmas.Bool.{cases_lt, cond-true, cond_both, lt-ltb, ltb-true, ltb-false}
use Rattle.std.proofs.lemmas.List.{get_or-take, get_or-drop, get_or_append_left, take-append-drop}
use Rattle.std.proofs.Math.Seq.{get_or-append_right}
use Rattle.std.proofs.lemmas.Grind.{get_or_default_zero}
use mathlib.Core.Logic.{◌⊎◌}
use Rattle.std.proofs.lemmas.List.Elements.{All-append, Contains-append_left, Contains-append_right}
use Rattle.gc_graph.specs.State.{Node, Life, node_at}
use Rattle.gc_graph.specs.State.Life.{Live, Dead, Gone}
use Rattle.gc_graph.specs.Sweep.{IsDeadBelow, AreDeadInOrder, finalise, buried}
use Rattle.gc_graph.specs.FinalisedNodes.{finalised_at}
use Rattle.gc_graph.proofs.ValidSweeps.{never_dead}

-- ---- ascending lists

abbrev pub IsUp : (ℕ → ℕ) → List ℕ → Type 0
IsUp f xs = (i j : ℕ) → i < j → j < length xs → f (slice_index xs i) < f (slice_index xs j)

pub up_tail : (f : ℕ → ℕ) (x : ℕ) (xs : List ℕ) → IsUp f (x ∷ xs) → IsUp f xs
up_tail f x xs up i j l m = up (suc i) (suc j) (omega arith) (omega arith)

-- the first of an ascending list is below each other
pub up_first : (f : ℕ → ℕ) (x n : ℕ) (xs : List ℕ) → IsUp f (x ∷ xs) → Contains xs n → f x < f n
up_first f x n xs up h =
    subst (λ m. f x < f m) (sym (get_or_default_zero xs h.0 n h.1) ∙ h.2) (up 0 (suc h.0) (omega arith) (let l = h.1 in omega arith))

pub first_or_rest : (x n : ℕ) (xs : List ℕ) → Contains (x ∷ xs) n → (x ≡ n) ⊎ Contains xs n
first_or_rest x n xs (zero, l, is) = inl is
first_or_rest x n xs (suc i, l, is) = inr (i, omega arith, is)

pub rest_of : (x n : ℕ) (xs : List ℕ) → Contains xs n → Contains (x ∷ xs) n
rest_of x n xs h = let l = h.1 in (suc h.0, omega arith, h.2)

only_rest : (f : ℕ → ℕ) (x n : ℕ) (xs ys : List ℕ) → IsUp f (x ∷ xs) → Contains xs n → Contains (x ∷ ys) n → Contains ys n
only_rest f x n xs ys up h k =
    elim (first_or_rest x n ys k) [
      | inl same ↦ (let less : f x < f n = up_first f x n xs up h in let e : f x ≡ f n = ap f same in absurd (omega arith))
      | inr rest ↦ rest
    ]

pub nothing_in : (n : ℕ) → Contains [] n → ⊥
nothing_in n h = let l = h.1 in absurd (omega arith)

-- ascending lists with the same members are the same
pub same_up : (f : ℕ → ℕ) (xs ys : List ℕ) → IsUp f xs → IsUp f ys → ((n : ℕ) → Contains xs n → Contains ys n)
    → ((n : ℕ) → Contains ys n → Contains xs n) → xs ≡ ys
same_up f [] [] up other there back = refl
same_up f [] (y ∷ ys) up other there back = absurd (nothing_in y (back y (0, omega arith, refl)))
same_up f (x ∷ xs) [] up other there back = absurd (nothing_in x (there x (0, omega arith, refl)))
same_up f (x ∷ xs) (y ∷ ys) up other there back =
    let first : x ≡ y =
    elim (first_or_rest y x ys (there x (0, omega arith, refl))) [
      | inl same ↦ sym same
      | inr later ↦ elim (first_or_rest x y xs (back y (0, omega arith, refl))) [
        | inl same ↦ same
        | inr after ↦
            (let one : f y < f x = up_first f y x ys other later in let two : f x < f y = up_first f x y xs up after in absurd (omega arith))
      ]
    ] in
    let rest : xs ≡ ys =
    same_up f xs ys (up_tail f x xs up) (up_tail f y ys other)
    (λ n h. only_rest f x n xs ys up h (subst (λ z. Contains (z ∷ ys) n) (sym first) (there n (rest_of x n xs h))))
    (λ n h. only_rest f y n ys xs other h (subst (λ z. Contains (z ∷ xs) n) first (back n (rest_of y n ys h)))) in
    ap (λ z. z ∷ xs) first ∙ ap (λ zs. y ∷ zs) rest

pub member_dead : (nodes : List Node) (limit n : ℕ) (numbers : List ℕ) → AreDeadInOrder nodes limit numbers → Contains numbers n → IsDeadBelow nodes limit n
member_dead nodes limit n numbers h k = subst (IsDeadBelow nodes limit) k.2 (h.dead k.0 n k.1)

pub same_dead : (nodes : List Node) (limit : ℕ) (xs ys : List ℕ) → AreDeadInOrder nodes limit xs → AreDeadInOrder nodes limit ys → xs ≡ ys
same_dead nodes limit xs ys h k =
    same_up (λ n. (node_at nodes n).place) xs ys h.ascending k.ascending (λ n c. k.whole n (member_dead nodes limit n xs h c))
    (λ n c. h.whole n (member_dead nodes limit n ys k c))

-- ---- cut at a lower address

-- the place in an ascending list from which no value is below the bound
pub record IsCut (f : ℕ → ℕ) (limit k : ℕ) (xs : List ℕ) (most : ℕ) : Type 0 where
  pub within : k ≤ most
  pub below : (i : ℕ) → i < k → f (slice_index xs i) < limit
  pub above : (i : ℕ) → k ≤ i → i < most → limit ≤ f (slice_index xs i)

pub cut : (f : ℕ → ℕ) (limit : ℕ) (xs : List ℕ) (most : ℕ) → most ≤ length xs → IsUp f xs → (k : ℕ) × IsCut f limit k xs most
cut f limit xs zero l up = (0, record { within = omega arith; below = λ i m. absurd (omega arith); above = λ i m n. absurd (omega arith) })
cut f limit xs (suc most) l up =
    let earlier = cut f limit xs most (omega arith) up in
    let k : ℕ = earlier.0 in
    let is : IsCut f limit k xs most = earlier.1 in
    let within : k ≤ most = is.within in
    elim (cases_lt (f (slice_index xs most)) limit) [
      | inl low ↦ (
        suc most,
        record {
          within = omega arith;
          below = λ i m. elim (cases_lt i most) [
            | inl under ↦ (let less : f (slice_index xs i) < f (slice_index xs most) = up i most under (omega arith) in omega arith)
            | inr over ↦ (let same : i ≡ most = omega arith in subst (λ j. f (slice_index xs j) < limit) (sym same) low)
          ];
          above = λ i m n. absurd (omega arith);
        },
      )
      | inr high ↦ (
        k,
        record {
          within = omega arith;
          below = is.below;
          above = λ i m n. elim (cases_lt i most) [
            | inl under ↦ is.above i m under
            | inr over ↦ (let same : i ≡ most = omega arith in subst (λ j. limit ≤ f (slice_index xs j)) (sym same) high)
          ];
        },
      )
    ]

-- ---- a sweep's nodes

pub same_finalised : (limit : ℕ) (x : Node) → ((finalise limit x).place ≡ x.place)
same_finalised limit x = cond_both (nat_lt x.place limit) (record x { life = buried x.life }) x (λ y. y.place ≡ x.place) (λ e. refl) (λ e. refl)

buried_twice : (x : Life) → buried (buried x) ≡ buried x
buried_twice Live = refl
buried_twice Dead = refl
buried_twice Gone = refl

pub finalise_more : (limit more : ℕ) (x : Node) → limit ≤ more → finalise more (finalise limit x) ≡ finalise more x
finalise_more limit more x l =
    cond_both (nat_lt x.place limit) (record x { life = buried x.life }) x (λ y. finalise more y ≡ finalise more x)
    (λ e.
    (let low : x.place < limit = ltb-true x.place limit e in
    let both : nat_lt x.place more ≡ true = lt-ltb x.place more (omega arith) in
    cond-true (nat_lt x.place more) (record x { life = buried (buried x.life) }) (record x { life = buried x.life }) both
    ∙ ap (λ life. record x { life = life }) (buried_twice x.life)
    ∙ sym (cond-true (nat_lt x.place more) (record x { life = buried x.life }) x both)))
    (λ e. refl)

pub finalised_more : (limit more : ℕ) (nodes : List Node) → limit ≤ more → map (finalise more) (map (finalise limit) nodes) ≡ map (finalise more) nodes
finalised_more limit more [] l = refl
finalised_more limit more (x ∷ nodes) l = ap (λ y. y ∷ map (finalise more) (map (finalise limit) nodes)) (finalise_more limit more x l) ∙ ap (λ ys. finalise more x ∷ ys) (finalised_more limit more nodes l)

-- ---- the dead nodes of a sweep, and those of the sweep after it

dead_before : (limit : ℕ) (x : Node) → (finalise limit x).life ≡ Dead → (x.life ≡ Dead) × (limit ≤ x.place)
dead_before limit x =
    cond_both (nat_lt x.place limit) (record x { life = buried x.life }) x (λ y. y.life ≡ Dead → (x.life ≡ Dead) × (limit ≤ x.place))
    (λ e d. absurd (never_dead x.life d)) (λ e d. (d, ltb-false x.place limit e))

dead_still : (limit : ℕ) (x : Node) → x.life ≡ Dead → limit ≤ x.place → (finalise limit x).life ≡ Dead
dead_still limit x dead high =
    cond_both (nat_lt x.place limit) (record x { life = buried x.life }) x (λ y. y.life ≡ Dead)
    (λ e. (let low : x.place < limit = ltb-true x.place limit e in absurd (omega arith))) (λ e. dead)

module _ (nodes : List Node) (limit more : ℕ) (l : limit ≤ more) where
  abbrev Mid : List Node
  Mid = map (finalise limit) nodes

  abbrev place_of : ℕ → ℕ
  place_of n = (node_at nodes n).place

  same_place : (n : ℕ) → (node_at Mid n).place ≡ place_of n
  same_place n = ap (λ (x : Node). x.place) (finalised_at limit nodes n) ∙ same_finalised limit (node_at nodes n)

  mid_before : (n : ℕ) → IsDeadBelow Mid more n → IsDeadBelow nodes more n × (limit ≤ place_of n)
  mid_before n h =
      let was = dead_before limit (node_at nodes n) (ap (λ (x : Node). x.life) (sym (finalised_at limit nodes n)) ∙ h.dead) in
      let below : (node_at Mid n).place < more = h.below in
      let place : (node_at Mid n).place ≡ place_of n = same_place n in
      (record { dead = was.0; below = omega arith }, was.1)

  mid_after : (n : ℕ) → IsDeadBelow nodes more n → limit ≤ place_of n → IsDeadBelow Mid more n
  mid_after n h high =
      let place : (node_at Mid n).place ≡ place_of n = same_place n in
      let below : place_of n < more = h.below in
      record {
        dead = ap (λ (x : Node). x.life) (finalised_at limit nodes n) ∙ dead_still limit (node_at nodes n) h.dead high;
        below = omega arith;
      }

  lower : (n : ℕ) → IsDeadBelow nodes limit n → IsDeadBelow nodes more n
  lower n h = let below : place_of n < limit = h.below in record { dead = h.dead; below = omega arith }

  -- ---- joined

  module _ (first second : List ℕ) (h : AreDeadInOrder nodes limit first) (k : AreDeadInOrder Mid more second) where
    join_up : IsUp place_of (first ++ second)
    join_up i j less most =
        let whole : length (first ++ second) ≡ length first + length second = length-append first second in
        elim (cases_lt j (length first)) [
          | inl both ↦
              (let up : place_of (slice_index first i) < place_of (slice_index first j) = h.ascending i j less both in
              let at_i : slice_index (first ++ second) i ≡ slice_index first i = get_or_append_left first second 0 i (omega arith) in
              let at_j : slice_index (first ++ second) j ≡ slice_index first j = get_or_append_left first second 0 j both in
              subst (λ a. place_of a < place_of (slice_index (first ++ second) j)) (sym at_i)
              (subst (λ b. place_of (slice_index first i) < place_of b) (sym at_j) up))
          | inr over ↦
              (let at_j : slice_index (first ++ second) j ≡ slice_index second (j - length first) = get_or-append_right first second j 0 over in
              elim (cases_lt i (length first)) [
                | inl under ↦
                    (let at_i : slice_index (first ++ second) i ≡ slice_index first i = get_or_append_left first second 0 i under in
                    let low : place_of (slice_index first i) < limit = (h.dead i 0 under).below in
                    let high : limit ≤ place_of (slice_index second (j - length first)) = (mid_before _ (k.dead (j - length first) 0 (omega arith))).1 in
                    subst (λ a. place_of a < place_of (slice_index (first ++ second) j)) (sym at_i)
                    (subst (λ b. place_of (slice_index first i) < place_of b) (sym at_j) (omega arith)))
                | inr past ↦
                    (let at_i : slice_index (first ++ second) i ≡ slice_index second (i - length first) = get_or-append_right first second i 0 past in
                    let up : (node_at Mid (slice_index second (i - length first))).place < (node_at Mid (slice_index second (j - length first))).place =
                    k.ascending (i - length first) (j - length first) (omega arith) (omega arith) in
                    let one : (node_at Mid (slice_index second (i - length first))).place ≡ place_of (slice_index second (i - length first)) = same_place _ in
                    let two : (node_at Mid (slice_index second (j - length first))).place ≡ place_of (slice_index second (j - length first)) = same_place _ in
                    subst (λ a. place_of a < place_of (slice_index (first ++ second) j)) (sym at_i)
                    (subst (λ b. place_of (slice_index second (i - length first)) < place_of b) (sym at_j) (omega arith)))
              ])
        ]

    pub joined : AreDeadInOrder nodes more (first ++ second)
    joined = record {
      dead =
          All-append (IsDeadBelow nodes more) first second (λ i d m. lower _ (h.dead i d m)) (λ i d m. (mid_before _ (k.dead i d m)).0);
      whole = λ n dead. elim (cases_lt (place_of n) limit) [
        | inl low ↦ Contains-append_left first second n (h.whole n (record { dead = dead.dead; below = low }))
        | inr high ↦ Contains-append_right first second n (k.whole n (mid_after n dead high))
      ];
      ascending = join_up;
    }

  -- ---- split

  module _ (numbers : List ℕ) (h : AreDeadInOrder nodes more numbers) where
    abbrev Cut : (k : ℕ) × IsCut place_of limit k numbers (length numbers)
    Cut = cut place_of limit numbers (length numbers) (omega arith) h.ascending

    abbrev Point : ℕ
    Point = Cut.0

    short : Point ≤ length numbers
    short = Cut.1.within

    index_of : (n : ℕ) → Contains numbers n → (i : ℕ) × (i < length numbers) × (slice_index numbers i ≡ n)
    index_of n c = (c.0, c.1, sym (get_or_default_zero numbers c.0 n c.1) ∙ c.2)

    abbrev pub front_of : List ℕ
    front_of = take Point numbers

    abbrev pub back_of : List ℕ
    back_of = drop Point numbers

    length_front : length (take Point numbers) ≡ Point
    length_front = let m = short in length-take Point numbers ∙ omega arith

    length_back : length (drop Point numbers) + Point ≡ length numbers
    length_back = let m = short in let e = length-drop Point numbers in omega arith

    pub front : AreDeadInOrder nodes limit (take Point numbers)
    front = record {
      dead = λ i d m.
          let whole = length_front in
          let within = short in
          let here : i < Point = omega arith in
          let all : i < length numbers = omega arith in
          subst (IsDeadBelow nodes limit) (sym (get_or-take Point numbers i d here))
          (record {
            dead = (h.dead i d all).dead;
            below = subst (λ n. place_of n < limit) (sym (get_or_default_zero numbers i d all)) (Cut.1.below i here);
          });
      whole = λ n dead.
          let low : place_of n < limit = dead.below in
          let found = index_of n (h.whole n (lower n dead)) in
          let at : slice_index numbers found.0 ≡ n = found.2 in
          let whole = length_front in
          elim (cases_lt found.0 Point) [
            | inl here ↦ (found.0, omega arith, get_or-take Point numbers found.0 n here ∙ get_or_default_zero numbers found.0 n found.1 ∙ at)
            | inr past ↦
                (let high : limit ≤ place_of n = subst (λ m. limit ≤ place_of m) at (Cut.1.above found.0 past found.1) in absurd (omega arith))
          ];
      ascending = λ i j less most.
          let whole = length_front in
          let within = short in
          subst (λ a. place_of a < place_of (slice_index (take Point numbers) j)) (sym (get_or-take Point numbers i 0 (omega arith)))
          (subst (λ b. place_of (slice_index numbers i) < place_of b) (sym (get_or-take Point numbers j 0 (omega arith)))
          (h.ascending i j less (omega arith)));
    }

    pub back : AreDeadInOrder Mid more (drop Point numbers)
    back = record {
      dead = λ i d m.
          let whole = length_back in
          let all : Point + i < length numbers = omega arith in
          subst (IsDeadBelow Mid more) (sym (get_or-drop Point numbers i d))
          (mid_after _ (h.dead (Point + i) d all)
          (subst (λ n. limit ≤ place_of n) (sym (get_or_default_zero numbers (Point + i) d all)) (Cut.1.above (Point + i) (omega arith) all)));
      whole = λ n dead.
          let was = mid_before n dead in
          let found = index_of n (h.whole n was.0) in
          let at : slice_index numbers found.0 ≡ n = found.2 in
          let whole = length_back in
          elim (cases_lt found.0 Point) [
            | inl here ↦
                (let low : place_of n < limit = subst (λ m. place_of m < limit) at (Cut.1.below found.0 here) in
                let high : limit ≤ place_of n = was.1 in
                absurd (omega arith))
            | inr past ↦
                (let j : ℕ = found.0 - Point in
                let same : Point + (found.0 - Point) ≡ found.0 = omega arith in (
                  found.0 - Point,
                  omega arith,
                  get_or-drop Point numbers (found.0 - Point) n ∙ ap (λ i. get_or numbers i n) same ∙ get_or_default_zero numbers found.0 n found.1 ∙ at,
                ))
          ];
      ascending = λ i j less most.
          let whole = length_back in
          let up : place_of (slice_index numbers (Point + i)) < place_of (slice_index numbers (Point + j)) =
          h.ascending (Point + i) (Point + j) (omega arith) (omega arith) in
          let one : (node_at Mid (slice_index numbers (Point + i))).place ≡ place_of (slice_index numbers (Point + i)) = same_place _ in
          let two : (node_at Mid (slice_index numbers (Point + j))).place ≡ place_of (slice_index numbers (Point + j)) = same_place _ in
          subst (λ a. (node_at Mid a).place < (node_at Mid (slice_index (drop Point numbers) j)).place) (sym (get_or-drop Point numbers i 0))
          (subst (λ b. (node_at Mid (slice_index numbers (Point + i))).place < (node_at Mid b).place) (sym (get_or-drop Point numbers j 0)) (omega arith));
    }

    pub cut_whole : numbers ≡ take Point numbers ++ drop Point numbers
    cut_whole = sym (take-append-drop Point numbers)
