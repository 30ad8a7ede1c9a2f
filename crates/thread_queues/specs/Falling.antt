-- For crates above: lines whose totals never get older.
use Rattle.std.proofs.Common.{◌≡◌, ℕ, ◌-◌, ◌<◌, ◌≤◌, List, [], ◌∷◌, ◌++◌, length, Some, slice_get, refl, sym, ap, ◌∙◌, arith, ⊎_elim}
use Rattle.std.specs.Prelude.{Contains}
use Rattle.std.proofs.Math.ListN.{get_or-append}
use Rattle.std.proofs.lemmas.Bool.{cases_lt}
use Rattle.std.proofs.lemmas.List.{length-append, get_or-append_right}
use Rattle.std.proofs.lemmas.Option.{slice_get-get_or, slice_get_within, get_or_from_slice_get}
use Rattle.gc_graph.specs.Lawful.{TotalsNeverFall}
use Rattle.gc_graph.specs.declared.line.Line.{Line}
use Rattle.gc_graph.specs.declared.line.Line.TheVariants as L

-- no line tells totals
abbrev pub TellNoTotals : List Line → Type 0
TellNoTotals lines = (j o n u f : ℕ) → Contains lines (L.ReplyTotals j o n u f) → ⊥

held : (lines : List Line) (i : ℕ) (l : Line) → slice_get lines i ≡ Some l → Contains lines l
held lines i l at = (i, slice_get_within lines i l at, get_or_from_slice_get lines i l l at)

-- those without totals
pub none_falls : (lines : List Line) → TellNoTotals lines → TotalsNeverFall lines
none_falls lines none a b j o n u f o2 n2 u2 f2 before first second = absurd (none j o n u f (held lines a (L.ReplyTotals j o n u f) first))

-- one line
pub one_falls_not : (l : Line) → TotalsNeverFall (l ∷ [])
one_falls_not l a b j o n u f o2 n2 u2 f2 before first second =
    absurd (omega (arith, before, slice_get_within (l ∷ []) b (L.ReplyTotals j o2 n2 u2 f2) second))

module _ (xs ys : List Line) where
  at_first : (i : ℕ) (l : Line) → i < length xs → slice_get (xs ++ ys) i ≡ Some l → slice_get xs i ≡ Some l
  at_first i l low at =
      slice_get-get_or xs i l low ∙ ap Some (sym (get_or-append xs ys l i low) ∙ get_or_from_slice_get (xs ++ ys) i l l at)

  at_later : (i : ℕ) (l : Line) → length xs ≤ i → slice_get (xs ++ ys) i ≡ Some l → slice_get ys (i - length xs) ≡ Some l
  at_later i l high at =
      let within : i < length (xs ++ ys) = slice_get_within (xs ++ ys) i l at in
      let low : i - length xs < length ys = omega (arith, within, length-append xs ys, high) in
      slice_get-get_or ys (i - length xs) l low
      ∙ ap Some (sym (get_or-append_right xs ys (length xs) i l refl high) ∙ get_or_from_slice_get (xs ++ ys) i l l at)

  -- two parts, where the second one tells none that are older
  pub both_fall_not : TotalsNeverFall xs → TotalsNeverFall ys
      → ((j o n u f o2 n2 u2 f2 : ℕ) → Contains xs (L.ReplyTotals j o n u f) → Contains ys (L.ReplyTotals j o2 n2 u2 f2) → o ≤ o2)
      → TotalsNeverFall (xs ++ ys)
  both_fall_not first second between a b j o n u f o2 n2 u2 f2 before at_a at_b = ⊎_elim
      (λ b_low. first a b j o n u f o2 n2 u2 f2 before
      (at_first a (L.ReplyTotals j o n u f) (omega (arith, before, b_low)) at_a) (at_first b (L.ReplyTotals j o2 n2 u2 f2) b_low at_b))
      (λ b_high. ⊎_elim
      (λ a_low. between j o n u f o2 n2 u2 f2
      (held xs a (L.ReplyTotals j o n u f) (at_first a (L.ReplyTotals j o n u f) a_low at_a))
      (held ys (b - length xs) (L.ReplyTotals j o2 n2 u2 f2) (at_later b (L.ReplyTotals j o2 n2 u2 f2) b_high at_b)))
      (λ a_high. second (a - length xs) (b - length xs) j o n u f o2 n2 u2 f2 (omega (arith, before, a_high))
      (at_later a (L.ReplyTotals j o n u f) a_high at_a) (at_later b (L.ReplyTotals j o2 n2 u2 f2) b_high at_b))
      (cases_lt a (length xs)))
      (cases_lt b (length xs))

  -- and where it tells none
  pub still_fall_not : TotalsNeverFall xs → TellNoTotals ys → TotalsNeverFall (xs ++ ys)
  still_fall_not first none = both_fall_not first (none_falls ys none) (λ j o n u f o2 n2 u2 f2 here there. absurd (none j o2 n2 u2 f2 there))
