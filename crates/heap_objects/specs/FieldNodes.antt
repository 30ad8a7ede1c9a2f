-- The nodes after a field got a value.
use Rattle.std.proofs.Common.{◌≡◌, ℕ, zero, suc, ◌+◌, List, [], ◌∷◌, length, set, Option, Some, None, refl, ap, ◌∙◌}
use Rattle.std.proofs.lemmas.List.{length-set}
use Rattle.gc_graph.specs.declared.kind.Value.{Value}
use Rattle.gc_graph.specs.State.{Node, node_at, is_live, size_of}
use Rattle.gc_graph.specs.Fields.{word_of_field, with_value}
use Rattle.atomic_pause.specs.Nodes.{place_of}
use Rattle.heap_objects.specs.Objects.{written_in, paired_in, StaysAt}
use Rattle.atomic_pause.specs.NodeChanges.{place_set}
use Rattle.atomic_pause.specs.WeakHolders.{StayHolders}

-- word f of node n got the value
abbrev pub with_field : List Node → ℕ → ℕ → Value → List Node
with_field nodes n f x = set nodes n (with_value (node_at nodes n) f x)

pub place-field : (nodes : List Node) (n f : ℕ) (x : Value) (m : ℕ) → place_of (with_field nodes n f x) m ≡ place_of nodes m
place-field [] n f x m = refl
place-field (y ∷ nodes) zero f x zero = refl
place-field (y ∷ nodes) zero f x (suc m) = refl
place-field (y ∷ nodes) (suc n) f x zero = refl
place-field (y ∷ nodes) (suc n) f x (suc m) = place-field nodes n f x m

pub life-field : (nodes : List Node) (n f : ℕ) (x : Value) (m : ℕ) → (node_at (with_field nodes n f x) m).life ≡ (node_at nodes m).life
life-field [] n f x m = refl
life-field (y ∷ nodes) zero f x zero = refl
life-field (y ∷ nodes) zero f x (suc m) = refl
life-field (y ∷ nodes) (suc n) f x zero = refl
life-field (y ∷ nodes) (suc n) f x (suc m) = life-field nodes n f x m

pub size-set : (nodes : List Node) (n : ℕ) (y : Node) (m : ℕ) → size_of y ≡ size_of (node_at nodes n) → size_of (node_at (set nodes n y) m) ≡ size_of (node_at nodes m)
size-set [] n y m is = refl
size-set (x ∷ nodes) zero y zero is = is
size-set (x ∷ nodes) zero y (suc m) is = refl
size-set (x ∷ nodes) (suc n) y zero is = refl
size-set (x ∷ nodes) (suc n) y (suc m) is = size-set nodes n y m is

pub length-field : (nodes : List Node) (n f : ℕ) (x : Value) → length (with_field nodes n f x) ≡ length nodes
length-field nodes n f x = length-set nodes n (with_value (node_at nodes n) f x)

-- what is written where
pub size_field : (node : Node) (f : ℕ) (x : Value) → size_of (with_value node f x) ≡ size_of node
size_field node f x = ap (λ n. 2 + n) (length-set node.object.values f x)

pub stays-written : (nodes : List Node) (slot : Option ℕ) (f : ℕ) (x : Value) (m : ℕ) → StaysAt nodes (written_in nodes slot f x) m
stays-written nodes None f x m = (refl, refl)
stays-written nodes (Some n) f x m =
    let i : ℕ = word_of_field (node_at nodes n).object f in
    (place-field nodes n i x m, size-set nodes n (with_value (node_at nodes n) i x) m (size_field (node_at nodes n) i x))

pub length-written : (nodes : List Node) (slot : Option ℕ) (f : ℕ) (x : Value) → length (written_in nodes slot f x) ≡ length nodes
length-written nodes None f x = refl
length-written nodes (Some n) f x = length-field nodes n (word_of_field (node_at nodes n).object f) x

ty-set : (nodes : List Node) (n : ℕ) (y : Node) (m : ℕ) → y.object.ty ≡ (node_at nodes n).object.ty → (node_at (set nodes n y) m).object.ty ≡ (node_at nodes m).object.ty
ty-set [] n y m is = refl
ty-set (x ∷ nodes) zero y zero is = is
ty-set (x ∷ nodes) zero y (suc m) is = refl
ty-set (x ∷ nodes) (suc n) y zero is = refl
ty-set (x ∷ nodes) (suc n) y (suc m) is = ty-set nodes n y m is

life-set : (nodes : List Node) (n : ℕ) (y : Node) (m : ℕ) → y.life ≡ (node_at nodes n).life → (node_at (set nodes n y) m).life ≡ (node_at nodes m).life
life-set [] n y m is = refl
life-set (x ∷ nodes) zero y zero is = is
life-set (x ∷ nodes) zero y (suc m) is = refl
life-set (x ∷ nodes) (suc n) y zero is = refl
life-set (x ∷ nodes) (suc n) y (suc m) is = life-set nodes n y m is

-- whoever has weak callbacks stays registered when a node gets other values
holders-set : (nodes : List Node) (n : ℕ) (y : Node) → y.place ≡ place_of nodes n → y.object.ty ≡ (node_at nodes n).object.ty → y.life ≡ (node_at nodes n).life
    → StayHolders nodes (set nodes n y)
holders-set nodes n y place ty life = record {
  whole = length-set nodes n y;
  place = λ m. place_set nodes n y m place;
  ty = λ m. ty-set nodes n y m ty;
  live = λ m. ap is_live (life-set nodes n y m life);
}

pub holders_same : (nodes : List Node) → StayHolders nodes nodes
holders_same nodes = record { whole = refl; place = λ n. refl; ty = λ n. refl; live = λ n. refl }

pub holders-written : (nodes : List Node) (slot : Option ℕ) (f : ℕ) (x : Value) → StayHolders nodes (written_in nodes slot f x)
holders-written nodes None f x = holders_same nodes
holders-written nodes (Some n) f x = holders-set nodes n (with_value (node_at nodes n) (word_of_field (node_at nodes n).object f) x) refl refl refl

-- ---- a pair

-- the node after the pair whose first word is i got key and value
abbrev pub pair_node : Node → ℕ → Value → Value → Node
pair_node node i key value = with_value (with_value node i key) (i + 1) value

-- the pair of node n whose first word is i got key and value
abbrev pub with_pair : List Node → ℕ → ℕ → Value → Value → List Node
with_pair nodes n i key value = set nodes n (pair_node (node_at nodes n) i key value)

pub length-pair : (nodes : List Node) (n i : ℕ) (key value : Value) → length (with_pair nodes n i key value) ≡ length nodes
length-pair nodes n i key value = length-set nodes n (pair_node (node_at nodes n) i key value)

pub stays-paired : (nodes : List Node) (slot : Option ℕ) (f : ℕ) (key value : Value) (m : ℕ) → StaysAt nodes (paired_in nodes slot f key value) m
stays-paired nodes None f key value m = (refl, refl)
stays-paired nodes (Some n) f key value m =
    let x : Node = node_at nodes n in
    let i : ℕ = word_of_field x.object f in
    let y : Node = pair_node x i key value in
    (place_set nodes n y m refl, size-set nodes n y m (size_field (with_value x i key) (i + 1) value ∙ size_field x i key))

pub length-paired : (nodes : List Node) (slot : Option ℕ) (f : ℕ) (key value : Value) → length (paired_in nodes slot f key value) ≡ length nodes
length-paired nodes None f key value = refl
length-paired nodes (Some n) f key value = length-pair nodes n (word_of_field (node_at nodes n).object f) key value

pub holders-paired : (nodes : List Node) (slot : Option ℕ) (f : ℕ) (key value : Value) → StayHolders nodes (paired_in nodes slot f key value)
holders-paired nodes None f key value = holders_same nodes
holders-paired nodes (Some n) f key value =
    holders-set nodes n (pair_node (node_at nodes n) (word_of_field (node_at nodes n).object f) key value) refl refl refl
