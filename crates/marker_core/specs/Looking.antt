-- What bodies lead to, looked at body by body and word by word. The law of closing tells that it is what their nodes lead to.
use Rattle.std.specs.Prelude.{ℕ, ◌+◌, ◌==◌, ◌&&◌, ◌||◌, not, Bool, false, List, length}
use Rattle.std.specs.List.{list_any, range_with_len}
use Rattle.gc_graph.specs.declared.kind.Kind.{Kind}
use Rattle.gc_graph.specs.Graph.{has}
use Rattle.object_headers.specs.Offsets.{reference_to}
use Rattle.marker_core.specs.declared.states.Body.{Body}
use Rattle.marker_core.specs.declared.states.Role.{Role}
use Rattle.marker_core.specs.declared.states.Role.TheVariants.{StrongWord, KeyWord}
use Rattle.marker_core.specs.Bodies.{word_in, role_in, place_named}

-- the word leads to n: a strong one that names it, or the key of a pair that passes and whose value names it
abbrev pub word_leads : (ℕ → Bool) → Role → ℕ → ℕ → ℕ → Bool
word_leads test StrongWord w next n = w == reference_to n
word_leads test KeyWord w next n = not (w == 0) && test (place_named w) && (next == reference_to n)
word_leads test role w next n = false

-- some word of the body leads to n
abbrev pub some_word_leads : List (List Kind) → (ℕ → Bool) → Body → ℕ → Bool
some_word_leads types test b n =
    list_any (λ i. word_leads test (role_in types b i) (word_in b i) (word_in b (i + 1)) n) (range_with_len 0 (length b.fields))

-- a body of the set leads to n
abbrev pub by_body : List (List Kind) → List Bool → ℕ → Body → Bool
by_body types set n b = has set b.place && some_word_leads types (has set) b n

-- n is in the set, or a body of it leads there
abbrev pub is_pulled : List (List Kind) → List Body → List Bool → ℕ → Bool
is_pulled types bodies set n = has set n || list_any (by_body types set n) bodies
