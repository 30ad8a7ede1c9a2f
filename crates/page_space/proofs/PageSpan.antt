-- The addresses of a page, and the pages of an object.
use Rattle.std.proofs.Common.{◌≡◌, ℕ, ◌+◌, ◌-◌, ◌*◌, ◌/◌, ◌%◌, ◌<◌, ◌≤◌, true, inl, inr, arith}
use Rattle.std.proofs.lemmas.Bool.{cases_lt}
use Rattle.std.proofs.lemmas.Nat.{mod_below}
use Rattle.std.proofs.Math.Nat.{mul-le-mul_right, div-mul-le_self, div-add-mod}
use Rattle.gc_graph.specs.Placement.{Extent, HasWord}
use Rattle.gc_graph.specs.PageNumbers.{next_page, page_before, same_page}
use Rattle.page_space.specs.Pages.{is_in_page}
use Rattle.gap_bounds.specs.Spans.{between_parts, between_from}

-- an address lies in its page
pub page_of : (w a : ℕ) → 0 < w → (a / w * w ≤ a) × (a < (a / w + 1) * w)
page_of w a some =
    let whole : w * (a / w) + a % w ≡ a = div-add-mod a w in
    let rest : a % w < w = mod_below a w some in
    (omega arith, omega (arith, next_page w (a / w)))

-- the pages of two addresses
pub page_order : (w a b : ℕ) → 0 < w → a ≤ b → a / w ≤ b / w
page_order w a b some l =
    elim (cases_lt (b / w) (a / w)) [
      | inl less ↦
          (let low : (a / w * w ≤ a) × (a < (a / w + 1) * w) = page_of w a some in
          let high : (b / w * w ≤ b) × (b < (b / w + 1) * w) = page_of w b some in
          absurd (omega (arith, page_before w (b / w) (a / w) less)))
      | inr order ↦ order
    ]

pub page_is : (w page a : ℕ) → 0 < w → page * w ≤ a → a < (page + 1) * w → a / w ≡ page
page_is w page a some first last =
    let own : (a / w * w ≤ a) × (a < (a / w + 1) * w) = page_of w a some in
    same_page w (a / w) page a own.0 own.1 first last

-- the page of an address within the first so many pages
pub page_inside : (w pages a : ℕ) → 0 < w → a < pages * w → a / w < pages
page_inside w pages a some inside =
    let own : (a / w * w ≤ a) × (a < (a / w + 1) * w) = page_of w a some in
    elim (cases_lt (a / w) pages) [
      | inl below ↦ below
      | inr past ↦ absurd (omega (arith, mul-le-mul_right w past))
    ]

-- an object with a word in the page
pub in_page_from : (w page : ℕ) (e : Extent) (a : ℕ) → 0 < w → HasWord e a → page * w ≤ a → a < (page + 1) * w → is_in_page w page e ≡ true
in_page_from w page e a some covers first last =
    let from : e.place ≤ a = covers.0 in
    let to : a < e.place + e.size = covers.1 in
    let is : a / w ≡ page = page_is w page a some first last in
    between_from (e.place / w) ((e.place + e.size - 1) / w + 1) page (omega (arith, page_order w e.place a some from))
    (omega (arith, page_order w a (e.place + e.size - 1) some (omega arith)))

pub in_page_word : (w page : ℕ) (e : Extent) → 0 < w → 0 < e.size → is_in_page w page e ≡ true
    → (a : ℕ) × HasWord e a × (page * w ≤ a) × (a < (page + 1) * w)
in_page_word w page e some size h =
    let parts : (e.place / w ≤ page) × (page < (e.place + e.size - 1) / w + 1) = between_parts _ _ page h in
    let own : (e.place / w * w ≤ e.place) × (e.place < (e.place / w + 1) * w) = page_of w e.place some in
    let last : (e.place + e.size - 1) / w * w ≤ e.place + e.size - 1 = div-mul-le_self (e.place + e.size - 1) w in
    let up : page * w ≤ (e.place + e.size - 1) / w * w = mul-le-mul_right w (let l : page < (e.place + e.size - 1) / w + 1 = parts.1 in omega arith) in
    let over : (e.place / w + 1) * w ≤ (page + 1) * w = mul-le-mul_right w (let l : e.place / w ≤ page = parts.0 in omega arith) in
    elim (cases_lt e.place (page * w)) [
      | inl before ↦ (page * w, (omega arith, omega arith), omega arith, omega (arith, next_page w page))
      | inr after ↦ (e.place, (omega arith, omega arith), after, omega arith)
    ]
