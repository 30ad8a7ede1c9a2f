-- A body in which one word was written lies where it lay.
use Rattle.std.proofs.Common.{◌≡◌, ℕ, ◌+◌, ◌-◌, set, true, false, refl}
use Rattle.std.proofs.lemmas.Bool.{cond_both}
use Rattle.marker_core.specs.declared.states.Body.{Body}
use Rattle.marker_core.specs.Bodies.{has_field, with_word}

-- the body with w in its field word at a
abbrev pub body_rewritten : ℕ → ℕ → Body → Body
body_rewritten a w b = record b { fields = set b.fields (a - (b.place + 2)) w }

-- what is true of a body rewritten, where it has the word, and as it was, where not, is true of it after the write
pub by_word : (P : Body → Type 0) (a w : ℕ) (b : Body) → (has_field a b ≡ true → P (body_rewritten a w b)) → (has_field a b ≡ false → P b) → P (with_word a w b)
by_word P a w b on off = cond_both (has_field a b) (set b.fields (a - (b.place + 2)) w) b.fields (λ fields. P (record b { fields = fields })) on off

-- a body lies where it lay after a write of a word
pub same_place : (a w : ℕ) (b : Body) → (with_word a w b).place ≡ b.place
same_place a w b = refl

pub same_size : (a w : ℕ) (b : Body) → (with_word a w b).size ≡ b.size
same_size a w b = refl
