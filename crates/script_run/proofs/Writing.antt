-- Text that is written piece by piece.
use Rattle.std.proofs.Common.{◌≡◌, ℕ, zero, suc, ◌+◌, ◌<◌, ◌≤◌, List, [], ◌∷◌, ◌++◌, length, get_or, take, drop, Option, Some, None, refl, sym, ap, ◌∙◌, subst, arith}
use Rattle.std.specs.List.{slice_get}
use Rattle.std.specs.Prelude.{replicate}
use Rattle.std.proofs.lemmas.List.{append-nil, append_assoc, take-append-drop, take_all, length-replicate}
use Rattle.std.proofs.lemmas.Grind.{flat_map-append}
use Rattle.gc_graph.specs.declared.line.Line.{Line}
use Rattle.gc_graph.specs.declared.line.Line.TheVariants as L
use Rattle.gc_graph.specs.Outcomes.{finalise_lines}
use Rattle.gc_graph.specs.Report.{line_bytes, lines_bytes, type_lines}
use Rattle.text_devices.specs.Devices.{Grew, GrewByFront}
use Rattle.script_run.specs.Printed.{counted_lines}

pub grew_by_none : (a : Option (List ℕ)) → Grew a a []
grew_by_none None = refl
grew_by_none (Some old) = ap Some (sym (append-nil old))

pub grew : (a b c : Option (List ℕ)) (s t : List ℕ) → Grew a b s → Grew b c t → Grew a c (s ++ t)
grew None b c s t x y = subst (λ o. Grew o c t) x y
grew (Some old) b c s t x y = subst (λ o. Grew o c t) x y ∙ ap Some (append_assoc old s t)

pub grew_front : (a b c : Option (List ℕ)) (s t : List ℕ) → Grew a b s → GrewByFront b c t → GrewByFront a c (s ++ t)
grew_front a b c s t x y = (s ++ y.0, y.1, ap (λ u. s ++ u) y.2 ∙ sym (append_assoc s y.0 y.1), grew a b c s y.0 x y.3)

pub longer : (a c : Option (List ℕ)) (s t : List ℕ) → GrewByFront a c s → GrewByFront a c (s ++ t)
longer a c s t y = (y.0, y.1 ++ t, ap (λ u. u ++ t) y.2 ∙ append_assoc y.0 y.1 t, y.3)

-- ---- lines

module _ {X : Type 0} where
  take_at_get : (xs : List X) (i : ℕ) (x : X) → slice_get xs i ≡ Some x → take (suc i) xs ≡ take i xs ++ x ∷ []
  take_at_get [] i x e = cc
  take_at_get (y ∷ ys) zero x e = ap (λ z. z ∷ []) (let q : y ≡ x = cc in q)
  take_at_get (y ∷ ys) (suc i) x e = ap (λ zs. y ∷ zs) (take_at_get ys i x e)

pub one_line : (line : Line) → lines_bytes (line ∷ []) ≡ line_bytes line
one_line line = append-nil (line_bytes line)

lines_to : (lines : List Line) (i : ℕ) (line : Line) → slice_get lines i ≡ Some line
    → lines_bytes (take (suc i) lines) ≡ lines_bytes (take i lines) ++ line_bytes line
lines_to lines i line e =
    ap lines_bytes (take_at_get lines i line e)
    ∙ flat_map-append line_bytes (take i lines) (line ∷ [])
    ∙ ap (λ u. lines_bytes (take i lines) ++ u) (one_line line)

pub line_more : (a b c : Option (List ℕ)) (lines : List Line) (i j : ℕ) (line : Line) → slice_get lines i ≡ Some line → i + 1 ≡ j
    → Grew a b (lines_bytes (take i lines)) → Grew b c (line_bytes line) → Grew a c (lines_bytes (take j lines))
line_more a b c lines i j line e next x y =
    let s : j ≡ suc i = omega arith in
    subst (λ u. Grew a c u) (sym (ap (λ k. lines_bytes (take k lines)) s ∙ lines_to lines i line e)) (grew a b c _ _ x y)

pub line_fails : (a b c : Option (List ℕ)) (lines : List Line) (i : ℕ) (line : Line) → slice_get lines i ≡ Some line
    → Grew a b (lines_bytes (take i lines)) → GrewByFront b c (line_bytes line) → GrewByFront a c (lines_bytes lines)
line_fails a b c lines i line e x y =
    let whole : lines_bytes lines ≡ lines_bytes (take (suc i) lines) ++ lines_bytes (drop (suc i) lines) =
    ap lines_bytes (sym (take-append-drop (suc i) lines)) ∙ flat_map-append line_bytes (take (suc i) lines) (drop (suc i) lines) in
    let front : GrewByFront a c (lines_bytes (take (suc i) lines)) =
    subst (λ u. GrewByFront a c u) (sym (lines_to lines i line e)) (grew_front a b c _ _ x y) in
    subst (λ u. GrewByFront a c u) (sym whole) (longer a c _ _ front)

pub lines_whole : (a b : Option (List ℕ)) (lines : List Line) (i : ℕ) → length lines ≤ i → Grew a b (lines_bytes (take i lines))
    → Grew a b (lines_bytes lines)
lines_whole a b lines i le x = subst (λ (ls : List Line). Grew a b (lines_bytes ls)) (take_all i lines le) x

-- ---- type lines

numbered_at : {T : Type 0} (types : List T) (i t n : ℕ) → i < length types → t + i ≡ n → slice_get (type_lines t types) i ≡ Some (L.TypeLine n)
numbered_at [] i t n low is = absurd (omega arith)
numbered_at (x ∷ types) zero t n low is = ap (λ k. Some (L.TypeLine k)) (let same : t ≡ n = omega arith in same)
numbered_at (x ∷ types) (suc i) t n low is = numbered_at types i (t + 1) n (omega arith) (omega arith)

numbered_count : {T : Type 0} (types : List T) (t : ℕ) → length (type_lines t types) ≡ length types
numbered_count [] t = refl
numbered_count (x ∷ types) t = omega (arith, numbered_count types (t + 1))

pub type_line_at : (count t : ℕ) → t < count → slice_get (counted_lines count) t ≡ Some (L.TypeLine t)
type_line_at count t low =
    numbered_at (replicate count zero) t 0 t (omega (arith, length-replicate count zero)) (omega arith)

pub type_line_count : (count : ℕ) → length (counted_lines count) ≡ count
type_line_count count = numbered_count (replicate count zero) 0 ∙ length-replicate count zero

same_lines : {T : Type 0} (types : List T) (t : ℕ) → type_lines t (replicate (length types) zero) ≡ type_lines t types
same_lines [] t = refl
same_lines (x ∷ types) t = ap (λ (more : List Line). L.TypeLine t ∷ more) (same_lines types (t + 1))

-- the types matter only by their number
pub counted_are_types : {T : Type 0} (types : List T) (count : ℕ) → count ≡ length types → counted_lines count ≡ type_lines 0 types
counted_are_types types count is = ap counted_lines is ∙ same_lines types 0

-- the first lines, of which not all were taken
pub front_fails : (a c : Option (List ℕ)) (lines front : List Line) (n : ℕ) → take n lines ≡ front → GrewByFront a c (lines_bytes front)
    → GrewByFront a c (lines_bytes lines)
front_fails a c lines front n is x =
    let whole : lines_bytes lines ≡ lines_bytes front ++ lines_bytes (drop n lines) =
    ap lines_bytes (sym (take-append-drop n lines)) ∙ flat_map-append line_bytes (take n lines) (drop n lines)
    ∙ ap (λ (ls : List Line). lines_bytes ls ++ lines_bytes (drop n lines)) is in
    subst (λ u. GrewByFront a c u) (sym whole) (longer a c _ _ x)

-- ---- lines of finalised nodes

pub finalise_at : (numbers : List ℕ) (i d : ℕ) → i < length numbers → slice_get (finalise_lines numbers) i ≡ Some (L.Finalise (get_or numbers i d))
finalise_at [] i d low = absurd (omega arith)
finalise_at (n ∷ numbers) zero d low = refl
finalise_at (n ∷ numbers) (suc i) d low = finalise_at numbers i d (omega arith)
