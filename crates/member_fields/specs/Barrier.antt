-- What is asked of the view for a store while marking may go on, and what the barrier of a store does.
use Rattle.std.specs.Prelude.{◌≡◌, ◌⊎◌, ℕ, ◌==◌, ◌&&◌, not, Bool, true, false, None, if◌then◌else◌}
use Rattle.mark_worklist.specs.Refusals.{PushesOrTells, TellsRefused, refusals_of}
use Rattle.mark_worklist.specs.declared.marking.Marking.{Marking}
use Rattle.marker_core.specs.Bodies.{holds, place_named}
use Rattle.page_words.specs.Seat.{SeatView, marked_at}

-- ---- what is asked

-- nothing is in hand, and nothing waits for its mark
pub record IsReadyToStore (v : SeatView) : Type 0 where
  pub no_hand : v.hand ≡ None
  pub no_pending : v.pending ≡ None

-- while marking goes on, the object at the place may be kept
abbrev pub MayKeep : SeatView → ℕ → Type 0
MayKeep v place = v.on ≡ true → holds v.may place ≡ true

-- while marking goes on, the object that the reference names may be kept; null names none
abbrev pub MayKeepNamed : SeatView → ℕ → Type 0
MayKeepNamed v w = v.on ≡ true → (w ≡ 0) ⊎ (holds v.may (place_named w) ≡ true)

-- ---- what the barrier does

-- the reference names an object while marking goes on: so that has to be marked
abbrev pub asks_for_mark : SeatView → ℕ → Bool
asks_for_mark v w = v.on && not (w == 0)

-- the object that the reference names is marked where it has to be, which had the mark already or not
abbrev pub target_marked : SeatView → ℕ → Bool → SeatView
target_marked v w was = if asks_for_mark v w then marked_at v (place_named w) was else v

-- after a store, what the word names is marked where it has to be, and no other object; it is pushed where the mark is fresh,
-- set by this call, and nothing else is; a refused push is told
pub record HasBarrier (target : ℕ) (old : SeatView) (before : Marking) (new : SeatView) (after : Marking) : Type 0 where
  pub fresh : Bool
  pub wanted : fresh ≡ true → asks_for_mark old target ≡ true
  pub alone : old.lent ≡ 0 → fresh ≡ (asks_for_mark old target && not (holds old.marked (place_named target)))
  pub marked : new ≡ target_marked old target (not fresh)
  pub listed : fresh ≡ true → PushesOrTells before after (place_named target)
  pub unlisted : fresh ≡ false → after ≡ before
  pub told : TellsRefused (refusals_of before) (refusals_of after)
