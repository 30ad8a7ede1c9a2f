-- How marking ends.
use Rattle.std.proofs.Common.{◌≡◌, ℕ, ◌+◌, Bool, true, false, List, [], ◌∷◌, None, refl, sym, ap, ◌∙◌, subst, inl, inr, arith, cond}
use mathlib.Core.Logic.{◌⊎◌}
use Rattle.std.specs.List.{count_by}
use Rattle.std.proofs.lemmas.Bool.{true≢false, cases_Bool}
use Rattle.std.proofs.lemmas.List.Sums.{sum_by-cons}
use Rattle.gc_graph.specs.State.{ObjectType}
use Rattle.mark_worklist.specs.declared.marking.Marking.{Marking}
use Rattle.marker_core.specs.Bodies.{holds}
use Rattle.marker_core.specs.declared.states.Body.{Body}
use Rattle.marker_core.specs.Closed.{IsClosedOver}
use Rattle.page_words.specs.Roles.{kind_lists}
use Rattle.page_words.specs.Seat.{SeatView, IsView, ended}
use Rattle.ephemerons.specs.Marking.{MarksOn, GrowsWithin, IsOver, traced_count}
use Rattle.ephemerons.specs.Notes.{NotesState}
use Rattle.ephemerons.specs.UnderWay.{IsReadyToEnd}
use Rattle.ephemerons.specs.LookedAt.{LooksWithin}
use Rattle.ephemerons.specs.LookedPlaces.{lookable_yet}
use Rattle.ephemerons.specs.Fixpoint.{IsAccounted, IsUnrefused}
use Rattle.atomic_pause.specs.Marking.{IsMarkedIn, MarksReachable, marked_count}

count_agrees : (bodies : List Body) (p q : ℕ → Bool) → ((x : ℕ) → p x ≡ q x) → count_by (λ (b : Body). p b.place) bodies ≡ count_by (λ (b : Body). q b.place) bodies
count_agrees [] p q same = refl
count_agrees (b ∷ bodies) p q same =
    sum_by-cons (λ (c : Body). cond (p c.place) 1 0) b bodies
    ∙ ap (λ t. cond t 1 0 + count_by (λ (c : Body). p c.place) bodies) (same b.place)
    ∙ ap (λ n. cond (q b.place) 1 0 + n) (count_agrees bodies p q same)
    ∙ sym (sum_by-cons (λ (c : Body). cond (q c.place) 1 0) b bodies)

-- ---- the end

black_or_white : (types : List ObjectType) (v : SeatView) → IsView v → v.lent ≡ 0 → IsOver types v → (p : ℕ) → holds v.traced p ≡ holds v.marked p
black_or_white types v view alone over p =
    elim (cases_Bool (holds v.marked p)) [
      | inl marked ↦ over.no_grey p marked ∙ sym marked
      | inr white ↦ elim (cases_Bool (holds v.traced p)) [
        | inl traced ↦ absurd (true≢false (sym (view.traced_are_marked alone p traced) ∙ white))
        | inr not_traced ↦ not_traced ∙ sym white
      ]
    ]

-- what was traced before and what the fixpoint traced are as many objects as are marked
pub kept_are_counted : (types : List ObjectType) (w x y : SeatView) (n : ℕ) → IsView x → x.lent ≡ 0 → IsOver types x → traced_count x ≡ traced_count w + n
    → y ≡ ended x → traced_count w + n ≡ marked_count y
kept_are_counted types w x y n view alone over counted ends =
    let all : traced_count x ≡ marked_count x = count_agrees x.bodies (holds x.traced) (holds x.marked) (black_or_white types x view alone over) in
    let last : marked_count y ≡ marked_count x = ap marked_count ends in
    omega (arith, counted, all, last)

-- from what is marked (w), through what that leads to (x), to the end of marking (y)
pub marks_reachable : (types : List ObjectType) (w x y : SeatView) → MarksOn w x → IsOver types x → GrowsWithin types w x → y ≡ ended x
    → MarksReachable types (IsMarkedIn w) (IsMarkedIn w) w y
marks_reachable types w x y led over grows ends =
    subst (λ (z : SeatView). MarksReachable types (IsMarkedIn w) (IsMarkedIn w) w z) (sym ends) (record {
      heap = led.heap;
      known = led.types;
      off = refl;
      bodies = led.bodies;
      roots = λ p marked. led.marked p marked;
      closed = over.closed;
      least = λ test closed held p marked. grows test (subst (λ bs. IsClosedOver (kind_lists types) bs test) led.bodies closed) held p marked;
      dead = refl;
    })

-- the end of marking looks at nothing
pub looks_ended : (types : List ObjectType) (w x y : SeatView) → y ≡ ended x → LooksWithin types w x → LooksWithin types w y
looks_ended types w x y ends looks =
    subst (λ (z : SeatView). LooksWithin types w z) (sym ends)
    (record { more = looks.more; grown = looks.grown; each = λ p there. lookable_yet types x (ended x) refl (λ q marked. marked) p (looks.each p there) })

-- ---- what the fixpoint asks for

-- where nothing was refused no walk is asked for
pub unwalked : (walk : Bool) (fine : Type 0) → (walk ≡ true → fine → ⊥) → fine → walk ≡ false
unwalked walk fine refused is = elim (cases_Bool walk) [ inl so ↦ absurd (refused so is) | inr not_so ↦ not_so ]

-- list and notes account for all that is left, unless something was refused, and then the heap is walked
pub walked_or_listed : (types : List ObjectType) (w : SeatView) (m : Marking) (groups : List NotesState) (walk : Bool) → IsReadyToEnd types w m groups
    → (walk ≡ false → IsUnrefused m.overflow groups) → (walk ≡ true) ⊎ IsAccounted types None w m.list.items groups
walked_or_listed types w m groups walk ready whole = elim (cases_Bool walk) [ inl refused ↦ inl refused | inr fine ↦ inr (ready.accounted (whole fine)) ]
