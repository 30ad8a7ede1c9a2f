-- The nodes after a sweep up to an address.
use Rattle.std.proofs.Common.{◌≡◌, ℕ, Bool, true, false, List, length, map, refl, sym, ap, ◌∙◌, subst, cond, ltb}
use Rattle.std.proofs.lemmas.List.{length-map}
use Rattle.gc_graph.specs.State.{Node, Life, node_at, is_live, size_of}
use Rattle.gc_graph.specs.State.Life.{Live, Dead, Gone}
use Rattle.gc_graph.specs.Sweep.{buried, finalise}
use Rattle.atomic_pause.specs.Nodes.{place_of}
use Rattle.atomic_pause.specs.WeakHolders.{StayHolders}
use Rattle.gc_graph.specs.FinalisedNodes.{finalised_at}

-- the life of a node there, afterwards
abbrev pub life_below : ℕ → Node → Life
life_below limit x = cond (ltb x.place limit) (buried x.life) x.life

pub finalise_is : (limit : ℕ) (x : Node) → finalise limit x ≡ record x { life = life_below limit x }
finalise_is limit x = go (ltb x.place limit) where
  go : (b : Bool) → cond b (record x { life = buried x.life }) x ≡ record x { life = cond b (buried x.life) x.life }
  go true = refl
  go false = refl

pub node_is : (limit : ℕ) (nodes : List Node) (n : ℕ) → node_at (map (finalise limit) nodes) n ≡ record (node_at nodes n) { life = life_below limit (node_at nodes n) }
node_is limit nodes n = finalised_at limit nodes n ∙ finalise_is limit (node_at nodes n)

pub place-finalised : (limit : ℕ) (nodes : List Node) (n : ℕ) → place_of (map (finalise limit) nodes) n ≡ place_of nodes n
place-finalised limit nodes n = ap (λ (x : Node). x.place) (node_is limit nodes n)

pub size-finalised : (limit : ℕ) (nodes : List Node) (n : ℕ) → size_of (node_at (map (finalise limit) nodes) n) ≡ size_of (node_at nodes n)
size-finalised limit nodes n = ap size_of (node_is limit nodes n)

-- finalising leaves those that live
live_buried : (l : Life) → is_live (buried l) ≡ is_live l
live_buried Live = refl
live_buried Dead = refl
live_buried Gone = refl

live_below : (b : Bool) (l : Life) → is_live (cond b (buried l) l) ≡ is_live l
live_below true l = live_buried l
live_below false l = refl

-- so whoever has weak callbacks stays registered
pub holders-finalised : (limit : ℕ) (old new : List Node) → new ≡ map (finalise limit) old → StayHolders old new
holders-finalised limit old new is = subst (StayHolders old) (sym is) (record {
  whole = length-map old (finalise limit);
  place = place-finalised limit old;
  ty = λ n. ap (λ (x : Node). x.object.ty) (node_is limit old n);
  live = λ n. ap (λ (x : Node). is_live x.life) (node_is limit old n) ∙ live_below (ltb (node_at old n).place limit) (node_at old n).life;
})

pub life-finalised : (limit : ℕ) (nodes : List Node) (n : ℕ) → (node_at (map (finalise limit) nodes) n).life ≡ life_below limit (node_at nodes n)
life-finalised limit nodes n = ap (λ (x : Node). x.life) (node_is limit nodes n)
