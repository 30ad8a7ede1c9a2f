-- What the callbacks of a pause keep, the weak ones and the prefinalizers, and what their lines are like.
use Rattle.std.proofs.Common.{◌≡◌, ℕ, ◌<◌, ◌==◌, ◌&&◌, not, true, List, [], ◌∷◌, length, map, get_or, All, arith}
use Rattle.std.specs.List.{range_with_len, flat_map}
use Rattle.std.proofs.lemmas.Bool.{cond_both}
use Rattle.std.proofs.lemmas.List.FromFn.{get_or-range_with_len, length-range_with_len}
use Rattle.std.proofs.lemmas.List.Elements.{All-nil, All-head, All-tail, All-map, All-append, All-weaker}
use Rattle.gc_graph.specs.declared.action.Action.{Action}
use Rattle.gc_graph.specs.declared.action.ActionKind.{ActionKind}
use Rattle.gc_graph.specs.declared.line.Line.{Line}
use Rattle.gc_graph.specs.declared.line.Line.TheVariants as L
use Rattle.gc_graph.specs.State.{ObjectType, Node, Registration, node_at, no_type, is_live}
use Rattle.gc_graph.specs.Actions.{shown_words, action_of, acted}
use Rattle.gc_graph.specs.Pause.{kind_of_callback, prefinalised, prefinalise_lines}
use Rattle.gc_graph.specs.WeakCalls.{WeakCall, dying_mask, weak_call, calls_for, weak_calls, shown_under, called, weakcall_lines}
use Rattle.gc_graph.specs.Paused.{callback_lines}

-- what each action keeps of the nodes
module _ (P : List Node → Type 0) (step : (nodes : List Node) (n : ℕ) (action : Action) → P nodes → P (acted nodes n action)) (callbacks : List ActionKind) where
  pub called_keep : (calls : List WeakCall) (nodes : List Node) → P nodes → P (called callbacks calls nodes)
  called_keep [] nodes h = h
  called_keep (c ∷ more) nodes h =
      called_keep more _
      (step nodes c.node (action_of (kind_of_callback callbacks c.callback) (shown_under c.mask (shown_words (node_at nodes c.node)))) h)

  prefinalised_keep : (registrations : List Registration) (nodes : List Node) → P nodes → P (prefinalised callbacks registrations nodes)
  prefinalised_keep [] nodes h = h
  prefinalised_keep (r ∷ more) nodes h =
      prefinalised_keep more _ (step nodes r.node (action_of (kind_of_callback callbacks r.callback) (shown_words (node_at nodes r.node))) h)

  -- the callbacks of a pause keep it
  pub callbacks_keep : (calls : List WeakCall) (registrations : List Registration) (nodes : List Node) → P nodes
      → P (prefinalised callbacks registrations (called callbacks calls nodes))
  callbacks_keep calls registrations nodes h = prefinalised_keep registrations (called callbacks calls nodes) (called_keep calls nodes h)

-- what holds of each line of a callback
pub each_callback_line : (P : Line → Type 0) → ((n d : ℕ) → P (L.WeakCall n d)) → ((n c : ℕ) → P (L.Prefinalise n c)) → (calls : List WeakCall)
    (registrations : List Registration) → All P (callback_lines calls registrations)
each_callback_line P weak last calls registrations =
    All-append P (weakcall_lines calls) (prefinalise_lines registrations)
    (All-map P (λ (c : WeakCall). L.WeakCall c.node c.callback) calls (λ i d low. weak _ _))
    (All-map P (λ (r : Registration). L.Prefinalise r.node r.callback) registrations (λ i d low. last _ _))

-- ---- which weak callbacks run

pub range_below : (n : ℕ) → All (λ k. k < n) (range_with_len 0 n)
range_below n k d l = let long = length-range_with_len 0 n in let inside : k < n = omega arith in omega (arith, get_or-range_with_len 0 n k d inside)

all_joined : {X Y : Type 0} (P : Y → Type 0) (f : X → List Y) (xs : List X) → All (λ x. All P (f x)) xs → All P (flat_map f xs)
all_joined P f [] h = All-nil P
all_joined P f (x ∷ xs) h =
    All-append P (f x) (flat_map f xs) (All-head (λ y. All P (f y)) x xs h) (all_joined P f xs (All-tail (λ y. All P (f y)) x xs h))

-- what holds of each call, where it does of the calls that a node's type lists
pub each_call : (P : WeakCall → Type 0) (types : List ObjectType) (nodes : List Node)
    → ((n : ℕ) → n < length nodes → is_live (node_at nodes n).life && not (dying_mask nodes n == 0) ≡ true
    → All (λ d. P (weak_call n (dying_mask nodes n) d)) (get_or types (node_at nodes n).object.ty no_type).weak_callbacks)
    → All P (weak_calls types nodes)
each_call P types nodes listed =
    all_joined P (calls_for types nodes) (range_with_len 0 (length nodes))
    (All-weaker (λ n. n < length nodes) (λ n. All P (calls_for types nodes n))
    (λ n low. cond_both (is_live (node_at nodes n).life && not (dying_mask nodes n == 0))
    (map (weak_call n (dying_mask nodes n)) (get_or types (node_at nodes n).object.ty no_type).weak_callbacks) [] (All P)
    (λ on. All-map P (weak_call n (dying_mask nodes n)) _ (listed n low on)) (λ off. All-nil P))
    (range_with_len 0 (length nodes)) (range_below (length nodes)))
