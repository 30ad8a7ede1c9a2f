use Rattle.std.proofs.Common.{◌≡◌, ℕ, Option, Some, None, refl, sym, ap, ◌∙◌}
use Rattle.std.specs.Prelude.{option_map}
use Rattle.gc_graph.specs.declared.region.Reply.TheVariants as R
use Rattle.gc_graph.specs.History.{node_of, region_slot, reply_with}
use Rattle.cross_thread_region.specs.Histories.{place_at, place_told, slots_of}
use Rattle.heap_region.proofs.calls.target_told.Goals as goal

-- the place and the number, where there is a node
abbrev target_at : ℕ → Option ℕ → Option (ℕ × ℕ)
target_at place node = option_map (λ n. (place, n)) node

node_told : (node : Option ℕ) (at place n : ℕ) → R.Node n ≡ reply_with node → place ≡ at → target_at place (Some n) ≡ target_at at node
node_told None at place n is same = absurd (cc)
node_told (Some m) at place n is same =
    ap (λ p. target_at p (Some n)) same ∙ ap (λ k. target_at at (Some k)) (let number : n ≡ m = cc in number)

none_told : (node : Option ℕ) (at place : ℕ) → ((n : ℕ) → reply_with node ≡ R.Node n → ⊥) → target_at place None ≡ target_at at node
none_told None at place never = refl
none_told (Some m) at place never = absurd (never m refl)

pub returns-in-Node : goal.returns-in-Node
returns-in-Node c history slot reply place =
    node_told (node_of (region_slot (slots_of history) slot)) (place_at history slot) c.args.place c.in-Node.number (sym c.in-Node.is ∙ reply)
    (place ∙ ap (λ r. place_told r history slot) c.in-Node.is)

pub returns-in_default : goal.returns-in_default
returns-in_default c history slot reply place =
    none_told (node_of (region_slot (slots_of history) slot)) (place_at history slot) c.args.place (λ n is. c.in_default.not-Node n (reply ∙ is))
