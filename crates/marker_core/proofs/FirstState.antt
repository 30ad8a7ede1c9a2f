-- What is true of every state is true of the first.
use Rattle.std.proofs.Common.{◌≡◌, ℕ, ◌+◌, ◌*◌, ◌/◌, ◌%◌, ◌<◌, ◌^◌, List, get_or, replicate, false, refl, sym, ap, ◌∙◌, inl, inr, arith}
use Rattle.std.specs.Int.{bit_at}
use Rattle.std.proofs.lemmas.Bool.{ne_eqb, false≢true, cases_lt}
use Rattle.std.proofs.lemmas.List.{length-replicate, get_or-replicate, get_or_past}
use Rattle.std.proofs.lemmas.Nat.Bits.{bit_at-zero}
use Rattle.gc_graph.specs.declared.kind.Kind.{Kind}
use Rattle.marker_core.specs.Layout.{stop_at, bitmap_at, bit_is_set}
use Rattle.marker_core.specs.Matching.{AreTypes}
use Rattle.marker_core.specs.Core.{IsCoreOk}
use Rattle.marker_core.specs.Idle.{idle_state}
use Rattle.marker_core.proofs.Members.{nothing_in}

abbrev zeros : ℕ → List ℕ
zeros n = replicate n 0

zero_word : (n i : ℕ) → get_or (zeros n) i 0 ≡ 0
zero_word n i = elim (cases_lt i n) [
  | inl below ↦ get_or-replicate n i 0 0 below
  | inr past ↦ get_or_past (zeros n) i 0 (omega (arith, length-replicate {A = ℕ} n 0))
]

no_bit : (k : ℕ) → bit_is_set 0 k ≡ false
no_bit k = let none : bit_at 0 k ≡ 0 = bit_at-zero k in ne_eqb _ 1 (λ e. let wrong : 0 ≡ 1 = sym none ∙ e in omega arith)

pub idle_ok : (count : ℕ) (types : List (List Kind)) → count < 2 ^ 32 → count ≡ 64 * (count / 64) → AreTypes types → IsCoreOk (idle_state count types)
idle_ok count types small bits are = record {
  are_types = are;
  has_room = record { small = small; bits = bits; length_is = length-replicate (stop_at count + 1) 0 };
  bodies_are_whole = λ b h. absurd (nothing_in b h);
  bodies_lie_apart = λ i j d before within. absurd (omega arith);
  serials_differ = λ i j d before within. absurd (omega arith);
  headers_match = λ b h. absurd (nothing_in b h);
  serials_match = λ b h. absurd (nothing_in b h);
  starts_match = λ a below. ap (λ w. bit_is_set w (a % 64)) (zero_word (stop_at count + 1) (bitmap_at count a)) ∙ no_bit (a % 64);
  fields_match = λ b i h. absurd (nothing_in b h);
  filled_match = record {
    inside = λ f h. absurd (nothing_in f h);
    outside = λ f h. absurd (nothing_in f h);
    word = λ f h. absurd (nothing_in f h);
    once = λ i j d before within. absurd (omega arith);
  };
  references_name_bodies = λ b i h. absurd (nothing_in b h);
  quiet_while_off = record {
    no_pending = λ off. refl;
    no_hand = λ off. refl;
    no_views = λ off v h. absurd (nothing_in v h);
    no_dead = λ on. refl;
    lent_views = refl;
    spent_views = λ v h. absurd (nothing_in v h);
    halted_views = λ v h. absurd (nothing_in v h);
  };
  traced_are_marked = λ a. omega arith;
  marks_counted_once = record {
    once = λ a. omega arith;
    are_bodies = λ a some. absurd (omega arith);
    dead_are_unmarked = λ a dead. absurd (false≢true dead);
  };
  strong_targets_accounted = λ on. absurd (false≢true on);
  pairs_accounted = λ on. absurd (false≢true on);
  noted_are_pairs = λ on. absurd (false≢true on);
  hands_are_bodies = record {
    known = λ v a h. absurd (nothing_in v h);
    hands = λ h held. elim held [
      | inl own ↦ cc
      | inr other ↦ absurd (nothing_in other.0 other.1)
    ];
  };
  may_is_closed = λ on. absurd (false≢true on);
}
