-- What was looked at stays so, and comes first.
use Rattle.std.proofs.Common.{◌≡◌, ℕ, [], ◌∷◌, ◌++◌, refl, ap, subst}
use Rattle.std.proofs.Transfers.{starts_with_of_eq, starts_with_of_append, starts_with_trans}
use Rattle.std.proofs.lemmas.Bool.{cond_both}
use Rattle.std.specs.Io.{StartsWith}
use Rattle.marker_core.specs.Bodies.{is_place}
use Rattle.marker_core.specs.declared.states.Why.TheVariants.{Read}
use Rattle.page_words.specs.Seat.{SeatView, loaded}

-- no header was looked at
pub looks_as : (v w : SeatView) → w.looked ≡ v.looked → StartsWith w.looked v.looked
looks_as v w same = starts_with_of_eq w.looked v.looked same

-- the view is the same
pub looks_same : (v w : SeatView) → w ≡ v → StartsWith w.looked v.looked
looks_same v w same = looks_as v w (ap (λ (x : SeatView). x.looked) same)

-- one header was looked at
pub looks_at : (v w : SeatView) (a : ℕ) → w.looked ≡ v.looked ++ a ∷ [] → StartsWith w.looked v.looked
looks_at v w a is = starts_with_of_append w.looked v.looked (a ∷ []) is

-- one look after another
pub looks_on : (u v w : SeatView) → StartsWith v.looked u.looked → StartsWith w.looked v.looked → StartsWith w.looked u.looked
looks_on u v w first next = starts_with_trans w.looked v.looked u.looked next first

-- from a view that is the same
pub looks_from : (u v w : SeatView) → v ≡ u → StartsWith w.looked v.looked → StartsWith w.looked u.looked
looks_from u v w same next = subst (λ (x : SeatView). StartsWith w.looked x.looked) same next

-- a word was read
pub looks_read : (v w : SeatView) (a found : ℕ) → w ≡ loaded v a Read found → StartsWith w.looked v.looked
looks_read v w a found is =
    looks_on v (loaded v a Read found) w
    (cond_both (is_place v.bodies a) (v.looked ++ a ∷ []) v.looked (λ looked. StartsWith looked v.looked)
    (λ _. starts_with_of_append (v.looked ++ a ∷ []) v.looked (a ∷ []) refl) (λ _. starts_with_of_eq v.looked v.looked refl))
    (looks_same (loaded v a Read found) w is)
