-- Words that hold references, of the values of an object.
use Rattle.std.proofs.Common.{◌≡◌, ℕ, zero, suc, false, List, [], ◌∷◌, get_or, map}
use Rattle.std.specs.List.{All}
use Rattle.std.proofs.lemmas.Bool.{true≢false}
use Rattle.std.proofs.lemmas.List.Elements.{All-head, All-tail}
use Rattle.gc_graph.specs.declared.kind.Kind.{Kind}
use Rattle.gc_graph.specs.declared.kind.Kind.TheVariants.{Strong, Weak, Pair, Plain}
use Rattle.gc_graph.specs.declared.kind.Value.{Value}
use Rattle.gc_graph.specs.Fields.{is_plain}
use Rattle.gc_graph.specs.Valid.{HaveKinds, IsReferenceBelow}
use Rattle.type_table.specs.Layouts.{kinds_of_words}
use Rattle.marker_core.specs.Bodies.{IsReference}
use Rattle.page_words.specs.Seat.{SeatView}
use Rattle.nodes_in_words.specs.Nodes.{word_of}

-- the words of an object's values that hold references, where values that are so refer to bodies
module _ (place : ℕ → ℕ) (v : SeatView) (bound : ℕ) (Named : Value → Type 0)
    (refers : (x : Value) → Named x → IsReferenceBelow bound x → IsReference v.bodies (word_of place x)) where
  pub reference_word : (kinds : List Kind) (values : List Value) (i : ℕ) → HaveKinds bound kinds values
      → All Named values → is_plain (get_or (kinds_of_words kinds) i Plain) ≡ false → IsReference v.bodies (get_or (map (word_of place) values) i 0)
  reference_word [] values i have named told = absurd (true≢false told)
  reference_word (Strong ∷ kinds) [] i have named told = absurd have
  reference_word (Weak ∷ kinds) [] i have named told = absurd have
  reference_word (Pair ∷ kinds) [] i have named told = absurd have
  reference_word (Plain ∷ kinds) [] i have named told = absurd have
  reference_word (Strong ∷ kinds) (x ∷ values) zero have named told = refers x (All-head Named x values named) have.0
  reference_word (Strong ∷ kinds) (x ∷ values) (suc i) have named told = reference_word kinds values i have.1 (All-tail Named x values named) told
  reference_word (Weak ∷ kinds) (x ∷ values) zero have named told = refers x (All-head Named x values named) have.0
  reference_word (Weak ∷ kinds) (x ∷ values) (suc i) have named told = reference_word kinds values i have.1 (All-tail Named x values named) told
  reference_word (Plain ∷ kinds) (x ∷ values) zero have named told = absurd (true≢false told)
  reference_word (Plain ∷ kinds) (x ∷ values) (suc i) have named told = reference_word kinds values i have.1 (All-tail Named x values named) told
  reference_word (Pair ∷ kinds) (key ∷ []) i have named told = absurd have
  reference_word (Pair ∷ kinds) (key ∷ x ∷ values) zero have named told = refers key (All-head Named key (x ∷ values) named) have.0
  reference_word (Pair ∷ kinds) (key ∷ x ∷ values) (suc zero) have named told =
      refers x (All-head Named x values (All-tail Named key (x ∷ values) named)) have.1
  reference_word (Pair ∷ kinds) (key ∷ x ∷ values) (suc (suc i)) have named told =
      reference_word kinds values i have.3 (All-tail Named x values (All-tail Named key (x ∷ values) named)) told
