-- The lines of an outcome that tells a node, those of the callbacks that a pause ran, and the last one.
use Rattle.std.proofs.Common.{◌≡◌, ℕ, ◌+◌, ◌-◌, ◌<◌, ◌==◌, not, Bool, true, false, List, [], ◌∷◌, ◌++◌, length, map, Option, Some, None, refl, ap, ◌∙◌, subst, arith}
use mathlib.Core.Logic.{◌⊎◌}
use Rattle.std.proofs.Common.{inl, inr}
use Rattle.std.specs.List.{slice_get}
use Rattle.std.specs.Option.{option_to_list}
use Rattle.std.proofs.lemmas.Bool.{cases_Bool, eqb-true}
use Rattle.std.proofs.lemmas.List.{length-append, length-map}
use Rattle.gc_graph.specs.declared.line.Line.{Line}
use Rattle.gc_graph.specs.declared.line.Line.TheVariants as L
use Rattle.gc_graph.specs.Outcomes.{finalise_lines}
use Rattle.heap_cycle.specs.LastLine.{last_behind}
use Rattle.heap_cycle.specs.Printed.{all_ran, count_ran, ran_lines, TellsNode}
use Rattle.heap_cycle.specs.Views.{Ran}

first_is : (x l : Line) (xs : List Line) → x ∷ xs ≡ l ∷ [] → x ≡ l
first_is x l xs e = cc

-- as many lines as callbacks that ran
pub count_lines : (ran : Ran) → length (all_ran ran) ≡ count_ran ran
count_lines ran =
    omega (
      arith,
      length-append (map (λ (r : ℕ × ℕ). L.WeakCall r.0 r.1) ran.weak) (map (λ (r : ℕ × ℕ). L.Prefinalise r.0 r.1) ran.prefinalised),
      length-map ran.weak (λ (r : ℕ × ℕ). L.WeakCall r.0 r.1),
      length-map ran.prefinalised (λ (r : ℕ × ℕ). L.Prefinalise r.0 r.1),
    )

-- the first of them tells a node
first_tells : (weak prefinalised : List (ℕ × ℕ)) (l : Line) → 0 < length weak + length prefinalised
    → map (λ (r : ℕ × ℕ). L.WeakCall r.0 r.1) weak ++ map (λ (r : ℕ × ℕ). L.Prefinalise r.0 r.1) prefinalised ≡ l ∷ [] → TellsNode l
first_tells [] [] l some is = absurd (omega (arith, some))
first_tells [] (r ∷ prefinalised) l some is = subst TellsNode (first_is (L.Prefinalise r.0 r.1) l _ is) tt
first_tells (r ∷ weak) prefinalised l some is = subst TellsNode (first_is (L.WeakCall r.0 r.1) l _ is) tt

-- a line and others behind it are not alone
not_alone : (x l : Line) (ls : List Line) → 0 < length ls → x ∷ ls ≡ l ∷ [] → ⊥
not_alone x l ls some is = (let one : length (x ∷ ls) ≡ 1 = ap length is in omega (arith, one, some))

-- where a node was finalised or a callback ran, a line that is alone tells a node
pub alone_tells : (numbers : List ℕ) (last : Option Line) (runs : Bool) (ran : Ran) (l : Line) → (0 < length numbers) ⊎ ((runs ≡ true) × (0 < count_ran ran))
    → finalise_lines numbers ++ (option_to_list last ++ ran_lines runs ran) ≡ l ∷ [] → TellsNode l
alone_tells (n ∷ numbers) last runs ran l why is = subst TellsNode (first_is (L.Finalise n) l _ is) tt
alone_tells [] None false ran l why is = cc
alone_tells [] None true ran l (inl some) is = absurd (omega (arith, some))
alone_tells [] None true ran l (inr some) is = first_tells ran.weak ran.prefinalised l some.1 is
alone_tells [] (Some x) runs ran l (inl some) is = absurd (omega (arith, some))
alone_tells [] (Some x) false ran l (inr ran_some) is = cc
alone_tells [] (Some x) true ran l (inr ran_some) is = absurd (not_alone x l (all_ran ran) (omega (arith, count_lines ran, ran_some.1)) is)

no_lines : (lines : List Line) → length lines ≡ 0 → [] ≡ lines
no_lines [] none = refl
no_lines (l ∷ lines) none = absurd (omega (arith, none))

-- where none ran, to tell them all is to tell none
pub all_told : (ran : Ran) → ran_lines (not (count_ran ran == 0)) ran ≡ ran_lines true ran
all_told ran = elim (cases_Bool (count_ran ran == 0)) [
  | inl none ↦
      ap (λ b. ran_lines (not b) ran) none
      ∙ no_lines (all_ran ran) (count_lines ran ∙ eqb-true (count_ran ran) 0 none)
  | inr some ↦ ap (λ b. ran_lines (not b) ran) some
]

-- ---- the last line

-- where callbacks are told, it is that of the last one
pub last_ran : (numbers : List ℕ) (last : Option Line) (ran : Ran) (line : Line) → 0 < count_ran ran → slice_get (all_ran ran) (count_ran ran - 1) ≡ Some line
    → slice_get (finalise_lines numbers ++ (option_to_list last ++ ran_lines true ran)) (length (finalise_lines numbers ++ (option_to_list last ++ ran_lines true ran)) - 1)
    ≡ Some line
last_ran numbers last ran line some is =
    last_behind (finalise_lines numbers) (option_to_list last ++ all_ran ran) (omega (arith, some, count_lines ran, length-append (option_to_list last) (all_ran ran)))
    ∙ last_behind (option_to_list last) (all_ran ran) (omega (arith, some, count_lines ran)) ∙ ap (λ n. slice_get (all_ran ran) (n - 1)) (count_lines ran) ∙ is

-- and else the one that ended the outcome
pub last_alone : (numbers : List ℕ) (line : Line) → slice_get (finalise_lines numbers ++ line ∷ []) (length (finalise_lines numbers ++ line ∷ []) - 1) ≡ Some line
last_alone numbers line = last_behind (finalise_lines numbers) (line ∷ []) (omega arith)
