-- The nodes after a sweep, and which of them are there.
use Rattle.std.proofs.Common.{◌≡◌, ℕ, zero, suc, ◌<◌, ◌≤◌, nat_lt, map, Bool, true, false, List, [], ◌∷◌, refl, sym, ap, arith, cond, ltb}
use Rattle.std.proofs.lemmas.Bool.{cond_both, ltb-true, ltb-false}
use Rattle.gc_graph.specs.State.{Node, Life, node_at, no_node, is_there}
use Rattle.gc_graph.specs.State.Life.{Live, Dead, Gone}
use Rattle.gc_graph.specs.Sweep.{finalise, buried}

pub same_either : (b : Bool) (node : Node) → node.life ≡ buried node.life → cond b (record node { life = buried node.life }) node ≡ node
same_either true node e = ap (λ l. record node { life = l }) (sym e)
same_either false node e = refl

-- the node after the sweep
pub finalised_at : (limit : ℕ) (nodes : List Node) (n : ℕ) → node_at (map (finalise limit) nodes) n ≡ finalise limit (node_at nodes n)
finalised_at limit [] n = sym (same_either (ltb 0 limit) no_node refl)
finalised_at limit (node ∷ nodes) zero = refl
finalised_at limit (node ∷ nodes) (suc n) = finalised_at limit nodes n

pub there_before : (x : Life) → is_there (buried x) ≡ true → is_there x ≡ true
there_before Live e = e
there_before Dead e = refl
there_before Gone e = e

-- who is there after a longer sweep is there after a shorter one
pub there_earlier : (limit more : ℕ) (x : Node) → limit ≤ more → is_there (finalise more x).life ≡ true → is_there (finalise limit x).life ≡ true
there_earlier limit more x l =
    cond_both (nat_lt x.place more) (record x { life = buried x.life }) x (λ y. is_there y.life ≡ true → is_there (finalise limit x).life ≡ true)
    (λ e there.
    cond_both (nat_lt x.place limit) (record x { life = buried x.life }) x (λ y. is_there y.life ≡ true) (λ f. there) (λ f. there_before x.life there))
    (λ e there.
    cond_both (nat_lt x.place limit) (record x { life = buried x.life }) x (λ y. is_there y.life ≡ true)
    (λ f. (let high : more ≤ x.place = ltb-false x.place more e in let low : x.place < limit = ltb-true x.place limit f in absurd (omega arith)))
    (λ f. there))
