-- The handles of a heap, and how calls on them change these.
use Rattle.std.specs.Prelude.{ℕ, List, Option, Some, None, option_map, slice_set, slice_index_or}
use Rattle.gc_graph.specs.State.{StackWord}
use Rattle.object_headers.specs.Offsets.{reference_to}
use Rattle.heap_roots.specs.Stack.{StackView, stack_with_word, without_last}

-- the strong slots and the weak ones: the place in each, and the node that each names; and the stack
pub record HandlesView : Type 0 where
  pub places : List (Option ℕ)
  pub slots : List (Option ℕ)
  pub weak_places : List (Option ℕ)
  pub weak : List (Option ℕ)
  pub stack : StackView

-- ---- what a slot holds, as a word

-- the reference word of what a slot holds
abbrev pub slot_word : Option ℕ → ℕ
slot_word None = 0
slot_word (Some place) = reference_to place

-- the reference word of what a slot holds, as one part of a pair whose other part another slot holds: null where either is
abbrev pub slot_part : Option ℕ → Option ℕ → ℕ
slot_part None other = 0
slot_part (Some place) None = 0
slot_part (Some place) (Some other) = reference_to place

-- ---- what calls change

-- slot p holds the place and the number of the target, where there is one
abbrev pub put_in : HandlesView → ℕ → Option (ℕ × ℕ) → HandlesView
put_in h p target = record h {
  places = slice_set h.places p (option_map (λ t. t.0) target);
  slots = slice_set h.slots p (option_map (λ t. t.1) target);
}

-- slot q holds what slot p holds
abbrev pub copied_in : HandlesView → ℕ → ℕ → HandlesView
copied_in h p q = record h {
  places = slice_set h.places q (slice_index_or h.places p None);
  slots = slice_set h.slots q (slice_index_or h.slots p None);
}

-- weak slot w holds what slot p holds
abbrev pub weakened_in : HandlesView → ℕ → ℕ → HandlesView
weakened_in h w p = record h {
  weak_places = slice_set h.weak_places w (slice_index_or h.places p None);
  weak = slice_set h.weak w (slice_index_or h.slots p None);
}

-- the word is the last of the stack, with its address and its place
abbrev pub pushed_in : HandlesView → StackWord → ℕ → Option ℕ → HandlesView
pushed_in h word address place = record h { stack = stack_with_word h.stack word address place }

-- the last word of the stack was taken away
abbrev pub popped_in : HandlesView → HandlesView
popped_in h = record h { stack = without_last h.stack }
