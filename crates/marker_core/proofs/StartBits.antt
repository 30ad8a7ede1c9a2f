-- One start bit is set or cleared, and the others stay.
use Rattle.std.proofs.Common.{◌≡◌, ℕ, ◌-◌, ◌%◌, ◌<◌, ◌≤◌, ◌^◌, List, length, get_or, set, true, false, eqb, bit_and, bit_or, min, max, sym, ap, ◌∙◌, inl, inr, arith}
use Rattle.std.specs.Int.{bit_at}
use mir.Syntax.{w64}
use Rattle.std.proofs.lemmas.Bool.{cases_eq, eq-eqb, ne_eqb}
use Rattle.std.proofs.lemmas.List.{get_or-set_same, get_or-set_other}
use Rattle.std.proofs.lemmas.Nat.{pow_below}
use Rattle.std.proofs.lemmas.Nat.Bits.{bit_at_or, bit_at_and, bit_at_not, bit_at-pow_same, bit_at-pow_other, bit_at-lt}
use Rattle.marker_core.specs.declared.states.CoreState.{CoreState}
use Rattle.marker_core.specs.Layout.{bitmap_at, stop_at, bit_is_set, is_start, with_start, without_start}
use Rattle.marker_core.specs.Views.{marks_at, traces_at}
use Rattle.marker_core.specs.Matching.{HasRoom, HeadersMatch, SerialsMatch, FieldsMatch, FilledMatch}
use Rattle.marker_core.specs.Core.{IsCoreOk}
use Rattle.marker_core.proofs.Frames.{room_kept, headers_kept, serials_kept, fields_kept, filled_kept, heads_before, tails_before}

set_here : (word k : ℕ) → bit_is_set (bit_or word (2 ^ k)) k ≡ true
set_here word k =
    let bits : bit_at (bit_or word (2 ^ k)) k ≡ max (bit_at word k) (bit_at (2 ^ k) k) = bit_at_or word (2 ^ k) k in
    let one : bit_at (2 ^ k) k ≡ 1 = bit_at-pow_same k in
    let low : bit_at word k < 2 = bit_at-lt word k in
    let is : bit_at (bit_or word (2 ^ k)) k ≡ 1 = omega (arith, bits, one, low) in
    eq-eqb _ 1 is

set_elsewhere : (word k i : ℕ) → (i ≡ k → ⊥) → bit_is_set (bit_or word (2 ^ k)) i ≡ bit_is_set word i
set_elsewhere word k i other =
    let bits : bit_at (bit_or word (2 ^ k)) i ≡ max (bit_at word i) (bit_at (2 ^ k) i) = bit_at_or word (2 ^ k) i in
    let none : bit_at (2 ^ k) i ≡ 0 = bit_at-pow_other k i other in
    let is : bit_at (bit_or word (2 ^ k)) i ≡ bit_at word i = omega (arith, bits, none) in
    ap (λ n. eqb n 1) is

abbrev all_but : ℕ → ℕ
all_but k = 18446744073709551615 - 2 ^ k

cleared_here : (word k : ℕ) → k < 64 → bit_is_set (bit_and word (all_but k)) k ≡ false
cleared_here word k small =
    let bits : bit_at (bit_and word (all_but k)) k ≡ min (bit_at word k) (bit_at (all_but k) k) = bit_at_and word (all_but k) k in
    let mask : bit_at (all_but k) k ≡ 1 - bit_at (2 ^ k) k = bit_at_not w64 (2 ^ k) k (pow_below k 64 small) small in
    let one : bit_at (2 ^ k) k ≡ 1 = bit_at-pow_same k in
    let is : bit_at (bit_and word (all_but k)) k ≡ 0 = omega (arith, bits, mask, one) in
    ne_eqb _ 1 (λ e. let wrong : 0 ≡ 1 = sym is ∙ e in omega arith)

cleared_elsewhere : (word k i : ℕ) → k < 64 → i < 64 → (i ≡ k → ⊥) → bit_is_set (bit_and word (all_but k)) i ≡ bit_is_set word i
cleared_elsewhere word k i small low other =
    let bits : bit_at (bit_and word (all_but k)) i ≡ min (bit_at word i) (bit_at (all_but k) i) = bit_at_and word (all_but k) i in
    let mask : bit_at (all_but k) i ≡ 1 - bit_at (2 ^ k) i = bit_at_not w64 (2 ^ k) i (pow_below k 64 small) low in
    let none : bit_at (2 ^ k) i ≡ 0 = bit_at-pow_other k i other in
    let below : bit_at word i < 2 = bit_at-lt word i in
    let is : bit_at (bit_and word (all_but k)) i ≡ bit_at word i = omega (arith, bits, mask, none, below) in
    ap (λ n. eqb n 1) is

module _ (s : CoreState) (ok : IsCoreOk s) (a : ℕ) (below : a < s.count) where
  within : bitmap_at s.count a < length s.words
  within = omega (arith, ok.has_room.length_is, ok.has_room.bits)

  -- where a word of start bits changes at one bit alone, the others stay
  other_start : (w p : ℕ) → ((i : ℕ) → i < 64 → (i ≡ a % 64 → ⊥) → bit_is_set w i ≡ bit_is_set (get_or s.words (bitmap_at s.count a) 0) i)
      → (p ≡ a → ⊥) → is_start s.count (set s.words (bitmap_at s.count a) w) p ≡ is_start s.count s.words p
  other_start w p kept other = elim (cases_eq (bitmap_at s.count p) (bitmap_at s.count a)) [
    | inl same ↦
        (let bit : (p % 64 ≡ a % 64) → ⊥ = λ e. other (omega arith) in
        let now : get_or (set s.words (bitmap_at s.count a) w) (bitmap_at s.count p) 0 ≡ w =
        ap (λ x. get_or (set s.words (bitmap_at s.count a) w) x 0) same ∙ get_or-set_same s.words (bitmap_at s.count a) w 0 within
        in
        let was : get_or s.words (bitmap_at s.count a) 0 ≡ get_or s.words (bitmap_at s.count p) 0 = ap (λ x. get_or s.words x 0) (sym same) in
        ap (λ n. bit_is_set n (p % 64)) now ∙ kept (p % 64) (omega arith) bit ∙ ap (λ n. bit_is_set n (p % 64)) was)
    | inr apart ↦ ap (λ n. bit_is_set n (p % 64)) (get_or-set_other s.words (bitmap_at s.count a) (bitmap_at s.count p) w 0 apart)
  ]

  own_start : (w : ℕ) → is_start s.count (set s.words (bitmap_at s.count a) w) a ≡ bit_is_set w (a % 64)
  own_start w = ap (λ n. bit_is_set n (a % 64)) (get_or-set_same s.words (bitmap_at s.count a) w 0 within)

  pub start_is_set : is_start s.count (with_start s.count s.words a) a ≡ true
  start_is_set = own_start (bit_or (get_or s.words (bitmap_at s.count a) 0) (2 ^ (a % 64))) ∙ set_here (get_or s.words (bitmap_at s.count a) 0) (a % 64)

  pub other_start_set : (p : ℕ) → (p ≡ a → ⊥) → is_start s.count (with_start s.count s.words a) p ≡ is_start s.count s.words p
  other_start_set p other =
      let word = get_or s.words (bitmap_at s.count a) 0 in
      other_start (bit_or word (2 ^ (a % 64))) p (λ i low apart. set_elsewhere word (a % 64) i apart) other

  pub start_is_cleared : is_start s.count (without_start s.count s.words a) a ≡ false
  start_is_cleared =
      let word = get_or s.words (bitmap_at s.count a) 0 in
      own_start (bit_and word (all_but (a % 64))) ∙ cleared_here word (a % 64) (omega arith)

  pub other_start_cleared : (p : ℕ) → (p ≡ a → ⊥) → is_start s.count (without_start s.count s.words a) p ≡ is_start s.count s.words p
  other_start_cleared p other =
      let word = get_or s.words (bitmap_at s.count a) 0 in
      other_start (bit_and word (all_but (a % 64))) p (λ i low apart. cleared_elsewhere word (a % 64) i (omega arith) low apart) other

-- what else belongs to the words after a word of start bits was written
pub record Besides (s : CoreState) (words : List ℕ) : Type 0 where
  pub room : HasRoom s.count words
  pub headers : HeadersMatch words (marks_at s.mutator s.markers) (traces_at s.mutator s.markers) s.mutator.bodies
  pub serials : SerialsMatch words s.mutator.bodies
  pub fields : FieldsMatch words s.mutator.bodies
  pub filled : FilledMatch s.count words s.mutator.bodies s.mutator.filled
  pub heap : (x : ℕ) → x < s.count → get_or words x 0 ≡ get_or s.words x 0
  pub stop : get_or words (stop_at s.count) 0 ≡ get_or s.words (stop_at s.count) 0

pub bitmap_written : (s : CoreState) → IsCoreOk s → (a w : ℕ) → a < s.count → Besides s (set s.words (bitmap_at s.count a) w)
bitmap_written s ok a w below =
    let at = bitmap_at s.count a in
    let now = set s.words at w in
    let bodies = s.mutator.bodies in
    let past : s.count ≤ at = omega arith in
    let bits = ok.has_room.bits in
    record {
      room = room_kept s.count s.words at w ok.has_room;
      headers =
          headers_kept s.count s.types s.words now bodies ok.bodies_are_whole (marks_at s.mutator s.markers) (traces_at s.mutator s.markers)
          (heads_before s.count s.types s.words bodies ok.bodies_are_whole at w past) ok.headers_match;
      serials =
          serials_kept s.count s.types s.words now bodies ok.bodies_are_whole
          (tails_before s.count s.types s.words bodies ok.bodies_are_whole at w past) ok.serials_match;
      fields =
          fields_kept s.count s.types s.words now bodies ok.bodies_are_whole
          (tails_before s.count s.types s.words bodies ok.bodies_are_whole at w past) ok.fields_match;
      filled =
          filled_kept s.count s.words bodies s.mutator.filled at w (λ f h e. let inside = ok.filled_match.inside f h in omega arith)
          ok.filled_match;
      heap = λ x inside. get_or-set_other s.words at x w 0 (λ e. omega arith);
      stop = get_or-set_other s.words at (stop_at s.count) w 0 (λ e. omega arith);
    }
