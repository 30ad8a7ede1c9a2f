-- What is asked of the store of a pair's key.
use Rattle.std.specs.Prelude.{◌≡◌, ◌⊎◌, ◌↔◌, ℕ, ◌+◌, true}
use Rattle.marker_core.specs.Bodies.{IsReference, holds, place_named}
use Rattle.page_words.specs.Seat.{SeatView}
use Rattle.member_fields.specs.Words.{HasPair, IsWordIn}
use Rattle.member_fields.specs.Barrier.{IsReadyToStore, MayKeep, MayKeepNamed}

-- the pair's value is null exactly where the key is, and while marking goes on it was seen with its mark
pub record TakesKey (v : SeatView) (holder word key : ℕ) : Type 0 where
  pub ready : IsReadyToStore v
  pub pair : HasPair v holder word
  pub holder_kept : MayKeep v holder
  pub names : IsReference v.bodies key
  pub key_kept : MayKeepNamed v key
  pub both : (value : ℕ) → IsWordIn v holder (word + 1) value → (key ≡ 0) ↔ (value ≡ 0)
  pub seen :
      (value : ℕ) → IsWordIn v holder (word + 1) value → v.on ≡ true
      → (value ≡ 0) ⊎ (holds v.seen (place_named value) ≡ true)
