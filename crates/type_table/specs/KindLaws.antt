-- What tests of kinds tell, and how many words have a kind.
use Rattle.std.proofs.Common.{◌≡◌, true, List, length, refl, sym, ◌∙◌, replicate}
use Rattle.std.proofs.lemmas.Bool.{true≢false}
use Rattle.std.proofs.lemmas.List.{length-replicate}
use Rattle.std.proofs.lemmas.List.Concat.{length-flat_map}
use Rattle.gc_graph.specs.declared.kind.Kind.{Kind}
use Rattle.gc_graph.specs.declared.kind.Kind.TheVariants.{Strong, Weak, Pair, Plain}
use Rattle.gc_graph.specs.Fields.{words_of_kind, field_words}
use Rattle.type_table.specs.Types.{is_kind}
use Rattle.type_table.specs.Layouts.{kinds_of_words}

-- a kind that passes the test for a kind is that kind
pub same_kind : (wanted kind : Kind) → is_kind wanted kind ≡ true → kind ≡ wanted
same_kind Strong Strong is = refl
same_kind Weak Weak is = refl
same_kind Pair Pair is = refl
same_kind Plain Plain is = refl
same_kind wanted kind is = absurd (true≢false (sym is))

-- each kind passes the test for itself
pub kind_itself : (kind : Kind) → is_kind kind kind ≡ true
kind_itself Strong = refl
kind_itself Weak = refl
kind_itself Pair = refl
kind_itself Plain = refl

-- as many words have a kind as the declared fields have words
pub length-kinds_of_words : (kinds : List Kind) → length (kinds_of_words kinds) ≡ field_words kinds
length-kinds_of_words kinds = length-flat_map (λ kind. replicate (words_of_kind kind) kind) kinds ∙ simp length-replicate
