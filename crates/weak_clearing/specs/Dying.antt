-- Which shown words of a body are weak ones that weak clearing sets to null (`include/cppgc/visitor.h`, `WeakCallback`).
use Rattle.std.specs.Prelude.{◌≡◌, ℕ, ◌≤◌, Bool, false, List, [], ◌∷◌, Option, Some, None, if◌then◌else◌, Contains}
use Rattle.gc_graph.specs.declared.kind.Kind.{Kind}
use Rattle.gc_graph.specs.declared.kind.Kind.TheVariants.{Strong, Weak, Pair, Plain}
use Rattle.gc_graph.specs.Fields.{field_words}
use Rattle.gc_graph.specs.Pause.{mask_of}
use Rattle.gc_graph.specs.State.{ObjectType}
use Rattle.type_table.specs.Types.{declared_kinds}
use Rattle.type_table.specs.Layouts.{kinds_of_words}
use Rattle.marker_core.specs.Bodies.{holds}
use Rattle.marker_core.specs.declared.states.Body.{Body}
use Rattle.page_words.specs.Seat.{SeatView}
use Rattle.weak_clearing.specs.Clearing.{names_unmarked}

-- of the words of a field, by its kind, only a weak one's may name a body that is not marked and be cleared
abbrev pub is_dying : List ℕ → Kind → ℕ → Bool
is_dying marked Weak w = names_unmarked marked w
is_dying marked Strong w = false
is_dying marked Pair w = false
is_dying marked Plain w = false

-- the same of the words of a body one by one, where these are the kinds of the first of them; a word without a kind isn't shown
abbrev pub dying_flags : List ℕ → List Kind → List ℕ → List Bool
dying_flags marked [] words = []
dying_flags marked (kind ∷ kinds) [] = []
dying_flags marked (kind ∷ kinds) (w ∷ words) = is_dying marked kind w ∷ dying_flags marked kinds words

-- the number with the bit 2^i for each word i of the body's declared fields that is dying
abbrev pub dying_mask : List ObjectType → List ℕ → Body → ℕ
dying_mask types marked b = mask_of (dying_flags marked (kinds_of_words (declared_kinds types b.ty)) b.fields)

-- there is such a number of a marked body alone
abbrev pub dying_of : SeatView → Body → Option ℕ
dying_of v b = if holds v.marked b.place then Some (dying_mask v.types v.marked b) else None

-- the body at a place has at most 64 words of declared fields, so that all of them are shown
abbrev pub HasShownFields : SeatView → ℕ → Type 0
HasShownFields v place = (b : Body) → Contains v.bodies b → b.place ≡ place → field_words (declared_kinds v.types b.ty) ≤ 64
