-- How many words the fields of a type have.
use Rattle.std.proofs.Common.{◌≡◌, ℕ, ◌*◌, ◌≤◌, ◌==◌, nat_lt, true, false, List, [], ◌∷◌, length, get_or, take, arith}
use Rattle.std.proofs.lemmas.Bool.{true≢false, lt-ltb}
use Rattle.std.proofs.lemmas.List.Sums.{sum_by-le, sum_by-take-le}
use Rattle.gc_graph.specs.declared.kind.Kind.{Kind}
use Rattle.gc_graph.specs.declared.kind.Kind.TheVariants.{Strong, Weak, Pair, Plain}
use Rattle.gc_graph.specs.Fields.{words_of_kind, field_words}

one_or_two : (kind : Kind) → words_of_kind kind ≤ 2
one_or_two Strong = omega arith
one_or_two Weak = omega arith
one_or_two Pair = omega arith
one_or_two Plain = omega arith

pub words_so_far : (kinds : List Kind) (n : ℕ) → field_words (take n kinds) ≤ 2 * length kinds
words_so_far kinds n =
    omega (arith, sum_by-le words_of_kind 2 kinds (λ k d low. one_or_two (get_or kinds k d)), sum_by-take-le words_of_kind kinds n)

-- a list that isn't empty has some
pub some_length : (numbers : List ℕ) → (length numbers == 0) ≡ false → nat_lt 0 (length numbers) ≡ true
some_length [] none = absurd (true≢false none)
some_length (number ∷ numbers) some = lt-ltb 0 (length (number ∷ numbers)) (omega arith)
