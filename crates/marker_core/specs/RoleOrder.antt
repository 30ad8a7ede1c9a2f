-- In which order the words of a pair stand. A lemma that the crates above cite too, since a crate's proofs/ can't be cited from
-- another.
use Rattle.std.proofs.Common.{◌≡◌, ℕ, zero, suc, ◌+◌, List, [], ◌∷◌, refl, ap, ◌∙◌, arith}
use Rattle.gc_graph.specs.declared.kind.Kind.{Kind}
use Rattle.gc_graph.specs.declared.kind.Kind.TheVariants.{Strong, Weak, Pair, Plain}
use Rattle.marker_core.specs.declared.states.Role.TheVariants.{KeyWord, ValueWord}
use Rattle.marker_core.specs.Bodies.{role_at}

-- a pair's value comes after its key
pub value_after_key : (kinds : List Kind) (i : ℕ) → role_at kinds i ≡ KeyWord → role_at kinds (i + 1) ≡ ValueWord
value_after_key kinds i h = ap (role_at kinds) next ∙ after kinds i h where
  next : i + 1 ≡ suc i
  next = omega arith

  after : (kinds : List Kind) (i : ℕ) → role_at kinds i ≡ KeyWord → role_at kinds (suc i) ≡ ValueWord
  after [] i h = cc
  after (Strong ∷ kinds) zero h = cc
  after (Strong ∷ kinds) (suc i) h = after kinds i h
  after (Weak ∷ kinds) zero h = cc
  after (Weak ∷ kinds) (suc i) h = after kinds i h
  after (Plain ∷ kinds) zero h = cc
  after (Plain ∷ kinds) (suc i) h = after kinds i h
  after (Pair ∷ kinds) zero h = refl
  after (Pair ∷ kinds) (suc zero) h = cc
  after (Pair ∷ kinds) (suc (suc i)) h = after kinds i h
