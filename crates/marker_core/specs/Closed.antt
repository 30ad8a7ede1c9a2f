-- What bodies lead to, closed sets of places, and what roots reach.
use Rattle.std.specs.Prelude.{◌≡◌, ℕ, zero, suc, ◌+◌, ◌-◌, ◌==◌, ◌<◌, ◌||◌, not, Bool, true, List, [], ◌∷◌, length, map, filter, Option, Some, None, Contains}
use Rattle.std.specs.List.{list_all, find, range_with_len}
use Rattle.gc_graph.specs.declared.kind.Kind.{Kind}
use Rattle.gc_graph.specs.declared.kind.Kind.TheVariants.{Pair, Plain}
use Rattle.gc_graph.specs.declared.kind.Value.{Value}
use Rattle.gc_graph.specs.declared.kind.Value.TheVariants.{Null, Ref, Word}
use Rattle.gc_graph.specs.Graph.{Object, no_object, has}
use Rattle.gc_graph.specs.Reach.{Reach}
use Rattle.marker_core.specs.declared.states.Body.{Body}
use Rattle.marker_core.specs.declared.states.Role.{Role}
use Rattle.marker_core.specs.declared.states.Role.TheVariants.{StrongWord, KeyWord}
use Rattle.marker_core.specs.Bodies.{field_word_count, kinds_of_type, word_in, role_in, places, is_place, place_named}

-- ---- closed: it has what the strong words of its members name, and the value of each of their pairs whose key it has

-- the set that passes the test is closed over the bodies
pub record IsClosedOver (types : List (List Kind)) (bodies : List Body) (test : ℕ → Bool) : Type 0 where
  pub strong :
      (b : Body) (i : ℕ) → Contains bodies b → test b.place ≡ true → role_in types b i ≡ StrongWord → 0 < word_in b i
      → test (place_named (word_in b i)) ≡ true
  pub pairs :
      (b : Body) (i : ℕ) → Contains bodies b → test b.place ≡ true → role_in types b i ≡ KeyWord → 0 < word_in b i
      → test (place_named (word_in b i)) ≡ true → 0 < word_in b (i + 1) → test (place_named (word_in b (i + 1))) ≡ true

-- the same as a test, word by word
abbrev pub word_closes : (ℕ → Bool) → Role → ℕ → ℕ → Bool
word_closes test StrongWord w next = (w == 0) || test (place_named w)
word_closes test KeyWord w next = (w == 0) || not (test (place_named w)) || (next == 0) || test (place_named next)
word_closes test role w next = true

-- a body that passes has only words that close
abbrev pub body_closes : List (List Kind) → (ℕ → Bool) → Body → Bool
body_closes types test b =
    not (test b.place)
    || list_all (λ i. word_closes test (role_in types b i) (word_in b i) (word_in b (i + 1))) (range_with_len 0 (length b.fields))

-- each body closes
abbrev pub closes_over : List (List Kind) → (ℕ → Bool) → List Body → Bool
closes_over types test bodies = list_all (body_closes types test) bodies

-- ---- the graph that bodies stand for: its node a is the body at a

-- the value of a reference word
abbrev pub reference : ℕ → Value
reference zero = Null
reference (suc p) = Ref p

-- the values of field words of these kinds
abbrev pub values_of : List Kind → List ℕ → List Value
values_of [] words = map (λ w. Word w) words
values_of (Pair ∷ kinds) (key ∷ value ∷ words) = reference key ∷ reference value ∷ values_of kinds words
values_of (Pair ∷ kinds) words = []
values_of (Plain ∷ kinds) (w ∷ words) = Word w ∷ values_of kinds words
values_of (kind ∷ kinds) (w ∷ words) = reference w ∷ values_of kinds words
values_of (kind ∷ kinds) [] = []

-- the object of the graph for which a body stands
abbrev pub object_of : List (List Kind) → Body → Object
object_of types b = record {
  ty = b.ty;
  extra = length b.fields - field_word_count (kinds_of_type types b.ty);
  kinds = kinds_of_type types b.ty;
  values = values_of (kinds_of_type types b.ty) b.fields;
}

-- the node for a body, or one without fields where there is none
abbrev pub address_node : List (List Kind) → Option Body → Object
address_node types None = no_object
address_node types (Some b) = object_of types b

-- the graph with a node for each address
abbrev pub address_graph : ℕ → List (List Kind) → List Body → List Object
address_graph count types bodies = map (λ a. address_node types (find (λ b. b.place == a) bodies)) (range_with_len 0 count)

-- the places that the roots reach
unfoldable pub reach_over : ℕ → List (List Kind) → List Body → List ℕ → List ℕ
reach_over count types bodies roots =
    filter (λ a. has (Reach (address_graph count types bodies) (filter (is_place bodies) roots)) a) (places bodies)
