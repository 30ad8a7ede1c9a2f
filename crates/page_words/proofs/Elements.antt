-- What is so of each member is so of all elements.
use Rattle.std.proofs.Common.{List, get_or, All, Contains}
use Rattle.std.proofs.lemmas.List.Elements.{Contains-get_or}

pub members_are : {X : Type 0} (P : X → Type 0) (xs : List X) → ((x : X) → Contains xs x → P x) → All P xs
members_are P xs each k d low = each (get_or xs k d) (Contains-get_or xs k d low)
