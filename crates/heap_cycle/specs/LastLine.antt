-- The last of some lines.
use Rattle.std.proofs.Common.{◌≡◌, ◌-◌, ◌<◌, suc, List, [], ◌∷◌, ◌++◌, length, refl, ap, ◌∙◌, arith}
use Rattle.std.specs.List.{slice_get}
use Rattle.std.proofs.lemmas.List.{length-append}
use Rattle.gc_graph.specs.declared.line.Line.{Line}

past_first : (x : Line) (ys : List Line) → 0 < length ys → slice_get (x ∷ ys) (length (x ∷ ys) - 1) ≡ slice_get ys (length ys - 1)
past_first x [] some = absurd (omega (arith, some))
past_first x (y ∷ ys) some =
    ap (slice_get (x ∷ y ∷ ys)) (let same : length (x ∷ y ∷ ys) - 1 ≡ suc (length ys) = omega arith in same)
    ∙ ap (slice_get (y ∷ ys)) (let same : length ys ≡ length (y ∷ ys) - 1 = omega arith in same)

-- what stands before some lines leaves which is the last
pub last_behind : (xs ys : List Line) → 0 < length ys → slice_get (xs ++ ys) (length (xs ++ ys) - 1) ≡ slice_get ys (length ys - 1)
last_behind [] ys some = refl
last_behind (x ∷ xs) ys some = past_first x (xs ++ ys) (omega (arith, some, length-append xs ys)) ∙ last_behind xs ys some
