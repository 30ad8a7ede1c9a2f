-- Two objects at the ends of a heap: there is room for them, and calls that mark leave them what they are.
use Rattle.std.proofs.Common.{◌≡◌, ℕ, zero, suc, ◌&&◌, Bool, true, false, not, cond, List, [], ◌∷◌, ◌++◌, None, refl, sym, ap, ◌∙◌, subst, inl, inr, arith}
use Rattle.std.proofs.lemmas.Bool.{cond_both, true≢false}
use Rattle.gc_graph.specs.Members.{Contains-head, Contains-cons, Contains-cons_cases, pushed_is_held}
use Rattle.gc_graph.specs.Placement.{Extent}
use Rattle.gc_graph.specs.State.{Shape}
use Rattle.marker_core.specs.declared.states.Body.{Body}
use Rattle.marker_core.specs.Bodies.{IsPlace, holds, without}
use Rattle.marker_core.specs.Hands.{each_hand, hand_after_mark, hand_claimed, hand_past}
use Rattle.marker_core.specs.Layout.{type_in}
use Rattle.marker_core.specs.SeatSteps.{is_grey, settled}
use Rattle.page_words.specs.Roles.{kind_lists}
use Rattle.page_words.specs.Seat.{SeatView, OnlyLooked, TellsWordAt, is_grey_at, marked_at, claimed_at, begun, ended, unmarked_at}
use Rattle.page_space.specs.Occupying.{new_body}
use Rattle.page_space.specs.Space.{SpaceView, IsSeatOf, IsFreePlace, extents_of_bodies}
use Rattle.words_trials.specs.Ends.{AreEnds, IsEnd, end_body, end_bodies}
use Rattle.words_trials.proofs.NoFields.{two_types}

-- ---- where they go

abbrev pub one_page : Shape
one_page = record { pages = 1; page_words = 256 }

abbrev pub first_extent : Extent
first_extent = record { place = 0; size = 3 }

-- beside the first one there is room up to the end of the page
pub last_fits : IsFreePlace one_page (first_extent ∷ []) 3 253
last_fits = inl (
  omega arith,
  (
    0,
    omega arith,
    record {
      bucket = (first_extent, 0, Contains-head first_extent [], (omega arith, omega arith), omega arith, omega arith, refl);
      first = omega arith;
      last = omega arith;
      free = λ x low high taken. elim (Contains-cons_cases first_extent [] taken.0 taken.1) [
        | inl same ↦ absurd (omega (arith, taken.2.1, low, ap (λ (e : Extent). e.place) same, ap (λ (e : Extent). e.size) same))
        | inr none ↦ absurd (omega (arith, none.1))
      ];
    },
  ),
)

pub last_free : (space : SpaceView) (bodies : List Body) (a : ℕ) → space.shape ≡ one_page → bodies ≡ new_body a 1 3 7 ∷ [] → a ≡ 0
    → IsFreePlace space.shape (extents_of_bodies bodies) 3 253
last_free space bodies a shape are is =
    subst (λ s. IsFreePlace s (extents_of_bodies bodies) 3 253) (sym shape)
    (subst (λ bs. IsFreePlace one_page (extents_of_bodies bs) 3 253) (sym (are ∙ ap (λ p. new_body p 1 3 7 ∷ []) is)) last_fits)

-- ---- what they are

pub end_place : (v : SeatView) (first last a : ℕ) → v.bodies ≡ end_bodies first last → IsEnd a → IsPlace v.bodies a
end_place v first last a are is =
    subst (λ (bodies : List Body). IsPlace bodies a) (sym are) (elim is [
      | inl low ↦ (end_body 0 7 first, Contains-head (end_body 0 7 first) (end_body 253 8 last ∷ []), sym low)
      | inr high ↦ (
        end_body 253 8 last,
        Contains-cons (end_body 0 7 first) (end_body 253 8 last ∷ []) (end_body 253 8 last) (Contains-head (end_body 253 8 last) []),
        sym high,
      )
    ])

pub end_kept : (v : SeatView) (a : ℕ) → holds v.may 0 ≡ true → holds v.may 253 ≡ true → IsEnd a → holds v.may a ≡ true
end_kept v a first last is = elim is [
  | inl low ↦ ap (holds v.may) low ∙ first
  | inr high ↦ ap (holds v.may) high ∙ last
]

-- ---- while marking goes on

-- the two with what is marked and what is traced
abbrev pub AreGoing : SpaceView → SeatView → List ℕ → List ℕ → Type 0
AreGoing space v m t =
    IsSeatOf space v × (v.count ≡ 256) × (v.types ≡ two_types) × (v.on ≡ true) × (v.bodies ≡ end_bodies 5 9) × (v.marked ≡ m)
    × (v.traced ≡ t) × (v.hand ≡ None) × (v.pending ≡ None) × (v.lent ≡ 0) × (holds v.may 0 ≡ true) × (holds v.may 253 ≡ true)

pub going : (space : SpaceView) (v : SeatView) → AreEnds space v true 5 9 → AreGoing space v v.marked v.marked
going space v are = (are.0, are.1, are.2, are.3, are.4, refl, are.5, are.6, are.7, are.8, (are.9 refl).0, (are.9 refl).1)

pub gone : (space : SpaceView) (v : SeatView) (m t : List ℕ) → AreGoing space v m t → t ≡ m → AreEnds space v true 5 9
gone space v m t are same = (are.0, are.1, are.2, are.3, are.4, are.6 ∙ same ∙ sym are.5, are.7, are.8, are.9, λ _. (are.10, are.11))

abbrev pub marked_too : List ℕ → ℕ → List ℕ
marked_too m a = cond (holds m a) m (m ++ a ∷ [])

abbrev pub traced_too : List ℕ → List ℕ → ℕ → List ℕ
traced_too m t a = cond (holds m a && not (holds t a)) (t ++ a ∷ []) t

as_told : (m : List ℕ) (a : ℕ) (held result : Bool) → result ≡ not held → cond (not result) m (m ++ a ∷ []) ≡ cond held m (m ++ a ∷ [])
as_told m a true result is = ap (λ r. cond (not r) m (m ++ a ∷ [])) is
as_told m a false result is = ap (λ r. cond (not r) m (m ++ a ∷ [])) is

pub marked_goes : (space : SpaceView) (v w : SeatView) (m t : List ℕ) (a : ℕ) (result : Bool) → AreGoing space v m t → w ≡ marked_at v a (not result)
    → (v.lent ≡ 0 → result ≡ not (holds v.marked a)) → AreGoing space w (marked_too m a) t
marked_goes space v w m t a result are is fresh =
    let told : result ≡ not (holds m a) = fresh are.9 ∙ ap (λ l. not (holds l a)) are.5 in (
      ap (λ (x : SeatView). x.heap) is ∙ are.0,
      ap (λ (x : SeatView). x.count) is ∙ are.1,
      ap (λ (x : SeatView). x.types) is ∙ are.2,
      ap (λ (x : SeatView). x.on) is ∙ are.3,
      ap (λ (x : SeatView). x.bodies) is ∙ are.4,
      ap (λ (x : SeatView). x.marked) is ∙ ap (λ l. cond (not result) l (l ++ a ∷ [])) are.5 ∙ as_told m a (holds m a) result told,
      ap (λ (x : SeatView). x.traced) is ∙ are.6,
      ap (λ (x : SeatView). x.hand) is ∙ ap (each_hand (hand_after_mark (kind_lists v.types) a)) are.7,
      ap (λ (x : SeatView). x.pending) is ∙ ap (λ p. settled p a) are.8,
      ap (λ (x : SeatView). x.lent) is ∙ are.9,
      ap (λ (x : SeatView). holds x.may 0) is ∙ are.10,
      ap (λ (x : SeatView). holds x.may 253) is ∙ are.11,
    )

-- an object without fields is never in hand
no_hand : (a ty : ℕ) → hand_past (kind_lists two_types) a ty 1 ≡ None
no_hand a zero = refl
no_hand a (suc zero) = refl
no_hand a (suc (suc ty)) = refl

pub claimed_goes : (space : SpaceView) (v w : SeatView) (m t : List ℕ) (a : ℕ) (result : Bool) → AreGoing space v m t
    → (found : ℕ) × TellsWordAt v a found × (result ≡ is_grey found) × (w ≡ claimed_at v a found) → (v.lent ≡ 0 → result ≡ is_grey_at v a)
    → AreGoing space w m (traced_too m t a)
claimed_goes space v w m t a result are claimed fresh =
    let found : ℕ = claimed.0 in
    let is : w ≡ claimed_at v a found = claimed.3 in
    let grey : is_grey found ≡ (holds m a && not (holds t a)) =
    sym claimed.2 ∙ fresh are.9 ∙ ap (λ l. holds l a && not (holds v.traced a)) are.5 ∙ ap (λ l. holds m a && not (holds l a)) are.6 in
    let empty : hand_claimed (kind_lists v.types) a found ≡ None =
    ap (λ types. hand_claimed (kind_lists types) a found) are.2 ∙ no_hand a (type_in found) in (
      ap (λ (x : SeatView). x.heap) is ∙ are.0,
      ap (λ (x : SeatView). x.count) is ∙ are.1,
      ap (λ (x : SeatView). x.types) is ∙ are.2,
      ap (λ (x : SeatView). x.on) is ∙ are.3,
      ap (λ (x : SeatView). x.bodies) is ∙ are.4,
      ap (λ (x : SeatView). x.marked) is ∙ are.5,
      ap (λ (x : SeatView). x.traced) is ∙ ap (λ g. cond g (v.traced ++ a ∷ []) v.traced) grey
          ∙ ap (λ l. cond (holds m a && not (holds t a)) (l ++ a ∷ []) l) are.6,
      ap (λ (x : SeatView). x.hand) is
          ∙ cond_both (is_grey found) (hand_claimed (kind_lists v.types) a found) v.hand (λ hand. hand ≡ None) (λ _. empty) (λ _. are.7),
      ap (λ (x : SeatView). x.pending) is ∙ are.8,
      ap (λ (x : SeatView). x.lent) is ∙ are.9,
      ap (λ (x : SeatView). holds x.may 0) is ∙ are.10,
      ap (λ (x : SeatView). holds x.may 253) is ∙ are.11,
    )

-- two marks and two claims trace just what they mark
both_ways : (m : List ℕ) (a : ℕ) (held : Bool) → holds m a ≡ held
    → traced_too (marked_too (marked_too m a) a) (traced_too (marked_too (marked_too m a) a) m a) a ≡ marked_too (marked_too m a) a
both_ways m a true is =
    let once : marked_too m a ≡ m = ap (λ h. cond h m (m ++ a ∷ [])) is in
    let twice : marked_too (marked_too m a) a ≡ m = ap (λ l. marked_too l a) once ∙ once in
    let none : traced_too m m a ≡ m = ap (λ h. cond (h && not h) (m ++ a ∷ []) m) is in
    ap (λ l. traced_too l (traced_too l m a) a) twice ∙ ap (λ t. traced_too m t a) none ∙ none ∙ sym twice
both_ways m a false is =
    let more : List ℕ = m ++ a ∷ [] in
    let there : holds more a ≡ true = pushed_is_held m a in
    let once : marked_too m a ≡ more = ap (λ h. cond h m (m ++ a ∷ [])) is in
    let still : marked_too more a ≡ more = ap (λ h. cond h more (more ++ a ∷ [])) there in
    let twice : marked_too (marked_too m a) a ≡ more = ap (λ l. marked_too l a) once ∙ still in
    let first : traced_too more m a ≡ more =
    ap (λ h. cond (h && not (holds m a)) (m ++ a ∷ []) m) there ∙ ap (λ h. cond (not h) (m ++ a ∷ []) m) is in
    let none : traced_too more more a ≡ more = ap (λ h. cond (h && not h) (more ++ a ∷ []) more) there in
    ap (λ l. traced_too l (traced_too l m a) a) twice ∙ ap (λ t. traced_too more t a) first ∙ none ∙ sym twice

pub traced_are_marked : (m : List ℕ) (a : ℕ)
    → traced_too (marked_too (marked_too m a) a) (traced_too (marked_too (marked_too m a) a) m a) a ≡ marked_too (marked_too m a) a
traced_are_marked m a = both_ways m a (holds m a) refl

-- ---- marking begins and ends, and headers are looked at

pub begun_ends : (space : SpaceView) (v w : SeatView) → AreEnds space v false 5 9 → w ≡ begun v (0 ∷ 253 ∷ []) → holds w.may 0 ≡ true
    → holds w.may 253 ≡ true → AreEnds space w true 5 9
begun_ends space v w are is low high = (
  ap (λ (x : SeatView). x.heap) is ∙ are.0,
  ap (λ (x : SeatView). x.count) is ∙ are.1,
  ap (λ (x : SeatView). x.types) is ∙ are.2,
  ap (λ (x : SeatView). x.on) is,
  ap (λ (x : SeatView). x.bodies) is ∙ are.4,
  ap (λ (x : SeatView). x.traced) is ∙ are.5 ∙ sym (ap (λ (x : SeatView). x.marked) is),
  ap (λ (x : SeatView). x.hand) is ∙ are.6,
  ap (λ (x : SeatView). x.pending) is ∙ are.7,
  ap (λ (x : SeatView). x.lent) is ∙ are.8,
  λ _. (low, high),
)

pub ended_ends : (space : SpaceView) (v w : SeatView) → AreEnds space v true 5 9 → w ≡ ended v → AreEnds space w false 5 9
ended_ends space v w are is = (
  ap (λ (x : SeatView). x.heap) is ∙ are.0,
  ap (λ (x : SeatView). x.count) is ∙ are.1,
  ap (λ (x : SeatView). x.types) is ∙ are.2,
  ap (λ (x : SeatView). x.on) is,
  ap (λ (x : SeatView). x.bodies) is ∙ are.4,
  ap (λ (x : SeatView). x.traced) is ∙ are.5 ∙ sym (ap (λ (x : SeatView). x.marked) is),
  ap (λ (x : SeatView). x.hand) is ∙ are.6,
  ap (λ (x : SeatView). x.pending) is ∙ are.7,
  ap (λ (x : SeatView). x.lent) is ∙ are.8,
  λ on. absurd (true≢false (sym on)),
)

pub unmarked_ends : (space : SpaceView) (v w : SeatView) (a : ℕ) → AreEnds space v false 5 9 → w ≡ unmarked_at v a → AreEnds space w false 5 9
unmarked_ends space v w a are is = (
  ap (λ (x : SeatView). x.heap) is ∙ are.0,
  ap (λ (x : SeatView). x.count) is ∙ are.1,
  ap (λ (x : SeatView). x.types) is ∙ are.2,
  ap (λ (x : SeatView). x.on) is ∙ are.3,
  ap (λ (x : SeatView). x.bodies) is ∙ are.4,
  ap (λ (x : SeatView). x.traced) is ∙ ap (λ l. without l a) are.5 ∙ sym (ap (λ (x : SeatView). x.marked) is),
  ap (λ (x : SeatView). x.hand) is ∙ are.6,
  ap (λ (x : SeatView). x.pending) is ∙ are.7,
  ap (λ (x : SeatView). x.lent) is ∙ are.8,
  λ on. absurd (true≢false (sym on)),
)

pub looked_ends : (space : SpaceView) (v w : SeatView) (on : Bool) → OnlyLooked v w → AreEnds space v on 5 9 → AreEnds space w on 5 9
looked_ends space v w on same are = subst (λ (u : SeatView). AreEnds space u on 5 9) (sym same) are
