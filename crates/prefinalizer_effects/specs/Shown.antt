-- What a prefinalizer is shown of a body (`include/cppgc/prefinalizer.h`).
use Rattle.std.specs.Prelude.{ℕ, ◌==◌, List, [], ◌∷◌, take, if◌then◌else◌}
use Rattle.gc_graph.specs.declared.kind.Kind.{Kind}
use Rattle.gc_graph.specs.declared.kind.Kind.TheVariants.{Strong, Weak, Pair, Plain}
use Rattle.gc_graph.specs.State.{ObjectType}
use Rattle.type_table.specs.Types.{declared_kinds}
use Rattle.type_table.specs.Layouts.{kinds_of_words}
use Rattle.marker_core.specs.declared.states.Body.{Body}

-- 0 stands for a null reference, and 1 for any other
abbrev pub shown_reference : ℕ → ℕ
shown_reference w = if w == 0 then 0 else 1

-- a plain word is shown as it is, and of a reference whether it is null
abbrev pub shown_field_word : Kind → ℕ → ℕ
shown_field_word Strong w = shown_reference w
shown_field_word Weak w = shown_reference w
shown_field_word Pair w = shown_reference w
shown_field_word Plain w = w

-- what is shown of words of these kinds; a word without a kind isn't shown
abbrev pub shown_of_kinds : List Kind → List ℕ → List ℕ
shown_of_kinds [] words = []
shown_of_kinds (kind ∷ kinds) [] = []
shown_of_kinds (kind ∷ kinds) (w ∷ words) = shown_field_word kind w ∷ shown_of_kinds kinds words

-- the words of the body's declared fields are shown, the first 64 of them at most
abbrev pub shown_body_words : List ObjectType → Body → List ℕ
shown_body_words types b = take 64 (shown_of_kinds (kinds_of_words (declared_kinds types b.ty)) b.fields)
