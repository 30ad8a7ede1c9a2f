-- The lines that a join tells before its last one: they tell no finalised node, no start, no pause and no step.
use Rattle.std.proofs.Common.{◌≡◌, ℕ, zero, suc, ◌-◌, ◌<◌, ◌≤◌, Bool, List, [], ◌∷◌, ◌++◌, length, take, map, Option, Some, None, All, refl, sym, ap, ◌∙◌, subst, inl, inr, arith}
use Rattle.std.proofs.Math.Seq.{take-append_seam}
use mathlib.Core.Logic.{◌⊎◌}
use Rattle.std.specs.List.{Contains, slice_get}
use Rattle.std.specs.Option.{option_to_list}
use Rattle.std.proofs.lemmas.List.{length-append, length-map}
use Rattle.std.proofs.lemmas.List.Elements.{All-append, All-contains, All-head, All-map, All-tail, Contains-append_cases}
use Rattle.gc_graph.specs.declared.line.Line.{Line}
use Rattle.gc_graph.specs.declared.line.Line.TheVariants as L
use Rattle.gc_graph.specs.declared.phase.Phase.{Phase}
use Rattle.gc_graph.specs.declared.region.Entry.{Entry}
use Rattle.gc_graph.specs.Outcomes.{finalise_lines}
use Rattle.gc_graph.specs.RegionSteps.{Answer, reply_line}
use Rattle.gc_graph.specs.RegionSteps.Answer.{Replied, Told}
use Rattle.std.specs.List.{flat_map}
use Rattle.heap_cycle.specs.Owned.{IsToldLine}
use Rattle.heap_cycle.specs.Refused.{RefusalsTold}
use Rattle.heap_cycle.specs.Views.{Ran}
use Rattle.heap_cycle.specs.Printed.{Printed, TellsNode, finalised_in, later_lines, outcome_lines, ran_lines}
use Rattle.heap_cycle.specs.Walks.{IsWalkToldIn}
use Rattle.heap_engine.specs.CarriedOut.{IsOfJoin}

-- ---- replies and entries

replies_told : (answers : ℕ → List Answer) (js : List ℕ) → All IsToldLine (flat_map (λ j. map (reply_line j) (answers j)) js)
replies_told answers [] = λ k d low. absurd (omega (arith, low))
replies_told answers (j ∷ js) = All-append IsToldLine (map (reply_line j) (answers j)) _ (of_thread (answers j)) (replies_told answers js) where
  is_one : (answer : Answer) → IsToldLine (reply_line j answer)
  is_one (Replied reply) = tt
  is_one (Told o n u f) = tt

  of_thread : (told : List Answer) → All IsToldLine (map (reply_line j) told)
  of_thread told = All-map IsToldLine (reply_line j) told (λ k d low. is_one _)

-- the answers of threads, and entries behind them, are such lines
pub all_told : (answers : ℕ → List Answer) (js : List ℕ) (entries : List Entry)
    → All IsToldLine (flat_map (λ j. map (reply_line j) (answers j)) js ++ map (λ entry. L.Entry entry) entries)
all_told answers js entries =
    All-append IsToldLine (flat_map (λ j. map (reply_line j) (answers j)) js) (map (λ entry. L.Entry entry) entries) (replies_told answers js)
    (All-map IsToldLine (λ (entry : Entry). L.Entry entry) entries (λ k d low. tt))

-- ---- what they don't tell

not_finalised : (line : Line) (lines : List Line) → IsToldLine line → finalised_in (line ∷ lines) ≡ finalised_in lines
not_finalised (L.Finalise k) lines is = absurd is
not_finalised _ lines is = refl

-- no finalised node
pub finalised_behind : (told rest : List Line) → All IsToldLine told → finalised_in (told ++ rest) ≡ finalised_in rest
finalised_behind [] rest all = refl
finalised_behind (line ∷ told) rest all =
    not_finalised line (told ++ rest) (All-head IsToldLine line told all) ∙ finalised_behind told rest (All-tail IsToldLine line told all)

passed_by : (phase : Phase) (old new : RefusalsTold) (line : Line) (lines : List Line) → IsToldLine line → IsWalkToldIn phase old new lines
    → IsWalkToldIn phase old new (line ∷ lines)
passed_by phase old new (L.Pause kept dead crew traced walked) lines is told = absurd is
passed_by phase old new L.Started lines is told = absurd is
passed_by phase old new _ lines is told = told

-- nothing of refusals
pub walk_behind : (phase : Phase) (old new : RefusalsTold) (told rest : List Line) → All IsToldLine told → IsWalkToldIn phase old new rest
    → IsWalkToldIn phase old new (told ++ rest)
walk_behind phase old new [] rest all goes = goes
walk_behind phase old new (line ∷ told) rest all goes =
    passed_by phase old new line (told ++ rest) (All-head IsToldLine line told all)
    (walk_behind phase old new told rest (All-tail IsToldLine line told all) goes)

-- no start
pub started_behind : (told rest : List Line) → All IsToldLine told → Contains (told ++ rest) L.Started → Contains rest L.Started
started_behind told rest all there = elim (Contains-append_cases told rest L.Started there) [
  | inl before ↦ absurd (All-contains IsToldLine told L.Started all before)
  | inr behind ↦ behind
]

-- and no step
pub stepped_behind : (told rest : List Line) (t : ℕ) (done : Bool) → All IsToldLine told → told ++ rest ≡ L.Step t done ∷ [] → rest ≡ L.Step t done ∷ []
stepped_behind [] rest t done all is = is
stepped_behind (line ∷ told) rest t done all is =
    absurd (subst IsToldLine (let here : line ≡ L.Step t done = cc in here) (All-head IsToldLine line told all))

-- ---- which line stands where

pub get_first : (xs ys : List Line) (i : ℕ) (line : Line) → slice_get xs i ≡ Some line → slice_get (xs ++ ys) i ≡ Some line
get_first [] ys i line is = (let never : None ≡ Some line = is in cc)
get_first (x ∷ xs) ys zero line is = is
get_first (x ∷ xs) ys (suc i) line is = get_first xs ys i line is

pub get_later : (xs ys : List Line) (i : ℕ) → length xs ≤ i → slice_get (xs ++ ys) i ≡ slice_get ys (i - length xs)
get_later [] ys i low = ap (slice_get ys) (let same : i ≡ i - 0 = omega arith in same)
get_later (x ∷ xs) ys zero low = absurd (omega (arith, low))
get_later (x ∷ xs) ys (suc i) low =
    get_later xs ys i (omega (arith, low)) ∙ ap (slice_get ys) (let same : i - length xs ≡ suc i - suc (length xs) = omega arith in same)

-- ---- the finalised nodes of an outcome, whose lines come first

-- they are not more than its lines
pub finalised_few : (told : List Line) (o : Printed) (ran : Ran) → length o.numbers ≤ length (told ++ outcome_lines o ran)
finalised_few told o ran =
    omega (
      arith,
      length-append told (outcome_lines o ran),
      length-append (finalise_lines o.numbers) (later_lines o ran),
      length-map o.numbers (λ n. L.Finalise n),
    )

-- after a join there are none, and else a join's lines are not told
pub finalised_first : (told : List Line) (o : Printed) (ran : Ran) → (told ≡ []) ⊎ IsOfJoin o
    → take (length o.numbers) (told ++ outcome_lines o ran) ≡ finalise_lines o.numbers
finalised_first told o ran (inl quiet) =
    ap (λ ls. take (length o.numbers) (ls ++ outcome_lines o ran)) quiet
    ∙ ap (λ n. take n (outcome_lines o ran)) (sym (length-map o.numbers (λ n. L.Finalise n))) ∙ take-append_seam (finalise_lines o.numbers) (later_lines o ran)
finalised_first told o ran (inr join) =
    ap (λ (ns : List ℕ). take (length ns) (told ++ outcome_lines o ran)) join.numbers ∙ sym (ap finalise_lines join.numbers)

-- ---- an outcome of one line

-- where a join tells some lines they are not all
pub joined_long : (told : List Line) (o : Printed) (ran : Ran) → 0 < length told → (told ≡ []) ⊎ IsOfJoin o → (line : Line)
    → told ++ outcome_lines o ran ≡ line ∷ [] → TellsNode line
joined_long told o ran some (inl quiet) line is = absurd (omega (arith, some, ap length quiet))
joined_long told o ran some (inr join) line is =
    let last : length (option_to_list o.last) ≡ 1 = ap (λ (l : Option Line). length (option_to_list l)) join.last in
    absurd (omega (
      arith,
      some,
      ap length is,
      last,
      length-append told (outcome_lines o ran),
      length-append (finalise_lines o.numbers) (later_lines o ran),
      length-append (option_to_list o.last) (ran_lines o.calls_back ran),
    ))

-- and where it tells none the outcome's are all
pub none_told : (told : List Line) → length told ≤ 0 → told ≡ []
none_told [] low = refl
none_told (line ∷ told) low = absurd (omega (arith, low))
