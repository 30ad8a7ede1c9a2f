-- A full heap: what a new object that found no place leaves as it was.
use Rattle.std.proofs.Common.{◌≡◌, ℕ, Bool, true, false, true≢false, List, [], ◌∷◌, ◌++◌, length, All, Contains, Option, Some, None, refl, sym, subst, inl, inr}
use Rattle.std.specs.Prelude.{MatchOption}
use Rattle.std.proofs.lemmas.List.Elements.{All-nil, All-cons, All-append, All-contains}
use Rattle.gc_graph.specs.declared.line.Line.{Line}
use Rattle.gc_graph.specs.declared.line.Line.TheVariants as L
use Rattle.gc_graph.specs.declared.region.Entry.{Entry}
use Rattle.gc_graph.specs.State.{Setup, State}
use Rattle.gc_graph.specs.Fields.{size_of_type}
use Rattle.gc_graph.specs.Sweep.{SweepsTo}
use Rattle.gc_graph.specs.Placement.{IsPlacement}
use Rattle.gc_graph.specs.Outcomes.{finalise_lines}
use Rattle.gc_graph.specs.ObjectSteps.{IsFull, IsMade}
use Rattle.gc_graph.specs.RefusalLaw.{IsLeftFull, FullLeavesRest}

abbrev is_full : Line → Bool
is_full L.Full = true
is_full other = false

abbrev IsOther : Line → Type 0
IsOther line = is_full line ≡ false

others_finalised : (numbers : List ℕ) → All IsOther (finalise_lines numbers)
others_finalised [] = All-nil IsOther
others_finalised (n ∷ numbers) = All-cons IsOther (L.Finalise n) (finalise_lines numbers) refl (others_finalised numbers)

others_end : (numbers : List ℕ) (line : Line) → IsOther line → All IsOther (finalise_lines numbers ++ line ∷ [])
others_end numbers line other =
    All-append IsOther (finalise_lines numbers) (line ∷ []) (others_finalised numbers) (All-cons IsOther line [] other (All-nil IsOther))

not_full : (lines told : List Line) → told ≡ lines → All IsOther lines → Contains told L.Full → ⊥
not_full lines told is others full = true≢false (All-contains IsOther told L.Full (subst (All IsOther) (sym is) others) full)

left_full : (setup : Setup) (old mid new : State) (p t e : ℕ) (piece : List Entry) (lines : List Line) (numbers : List ℕ) (place : Option ℕ) → piece ≡ []
    → IsPlacement setup.shape old (size_of_type setup t e) numbers mid place
    → MatchOption place (IsFull mid numbers lines new) (λ a. IsMade setup mid p t e numbers lines new a) → Contains lines L.Full
    → IsLeftFull setup old piece lines new
left_full setup old mid new p t e piece lines numbers None taken placed done full = record {
  numbers = numbers;
  swept = mid;
  ended = subst (λ pages. SweepsTo setup.shape old pages numbers mid) placed.placed.0 placed.swept;
  lines_are = done.lines_are;
  taken = taken;
  after = done.after;
}
left_full setup old mid new p t e piece lines numbers (Some a) taken placed done full =
    absurd (not_full (finalise_lines numbers ++ L.Placed (length mid.nodes) a ∷ []) lines done.lines_are
    (others_end numbers (L.Placed (length mid.nodes) a) refl) full)

pub full_leaves_rest : FullLeavesRest
full_leaves_rest setup old new p t e piece lines h full = elim h.1 [
  | inl memory ↦ absurd (not_full (L.Memory ∷ []) lines memory.1.0 (others_end [] L.Memory refl) full)
  | inr made ↦ left_full setup old made.mid new p t e piece lines made.numbers made.place h.0 made.placed made.done full
]
