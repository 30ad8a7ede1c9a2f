-- A word stays one where headers were looked at. Lemmas that the crates above cite too, since a crate's proofs/ can't be cited
-- from another.
use Rattle.std.proofs.Common.{ℕ, ◌-◌, Bool, ap, ◌∙◌, sym, subst}
use Rattle.std.specs.List.{Contains}
use Rattle.gc_graph.specs.declared.kind.Kind.{Kind}
use Rattle.page_words.specs.Bodies.{IsKeyWord, kind_in}
use Rattle.page_words.specs.Seat.{SeatView, OnlyLooked}
use Rattle.member_fields.specs.Words.{HasFieldWord, HasPair, IsWordIn}

-- an object's field word of a kind that passes the test is still one where headers were looked at
pub word_looked : (is_so : Kind → Bool) (v w : SeatView) (holder word : ℕ) → OnlyLooked v w → HasFieldWord is_so v holder word → HasFieldWord is_so w holder word
word_looked is_so v w holder word same has = record {
  body = has.body;
  there = subst (λ bs. Contains bs has.body) (ap (λ (x : SeatView). x.bodies) (sym same)) has.there;
  place = has.place;
  first = has.first;
  last = has.last;
  kind = ap (λ (x : SeatView). is_so (kind_in x.types has.body (word - 2))) same ∙ has.kind;
}

-- an object's pair is still one where headers were looked at
pub pair_looked : (v w : SeatView) (holder word : ℕ) → OnlyLooked v w → HasPair v holder word → HasPair w holder word
pair_looked v w holder word same has = record {
  body = has.body;
  there = subst (λ bs. Contains bs has.body) (ap (λ (x : SeatView). x.bodies) (sym same)) has.there;
  place = has.place;
  first = has.first;
  last = has.last;
  key = subst (λ ts. IsKeyWord ts has.body (word - 2)) (ap (λ (x : SeatView). x.types) (sym same)) has.key;
}

-- what a word holds it held
pub word_from : (v w : SeatView) (holder word x : ℕ) → OnlyLooked v w → IsWordIn w holder word x → IsWordIn v holder word x
word_from v w holder word x same is = subst (λ (z : SeatView). IsWordIn z holder word x) same is
