-- The kinds of callbacks, and what one registration that is run does.
use Rattle.std.proofs.Common.{◌≡◌, ℕ, ◌<◌, Bool, true, cond, List, length, map, get_or, sym, ap, ◌∙◌, arith}
use Rattle.std.proofs.lemmas.List.{get_or-map, length-map}
use Rattle.gc_graph.specs.declared.action.Action.{Action}
use Rattle.gc_graph.specs.declared.action.ActionKind.{ActionKind}
use Rattle.gc_graph.specs.declared.action.ActionKind.TheVariants as K
use Rattle.gc_graph.specs.State.{Node}
use Rattle.gc_graph.specs.Actions.{acted, action_of}

-- the kind of callback i, read from the callbacks
pub kind_at : {X : Type 0} (kind : X → ActionKind) (xs : List X) (i : ℕ) (x : X) → i < length (map kind xs) → x ≡ get_or xs i x
    → kind x ≡ get_or (map kind xs) i K.Nothing
kind_at kind xs i x l e =
    let within : i < length xs = omega (arith, length-map xs kind) in
    ap kind e ∙ sym (get_or-map kind xs i x K.Nothing within)

-- the answer to what is shown is the action that is done
pub does : (old now : List Node) (n : ℕ) (action : Action) (kind : ActionKind) (told shown : List ℕ) → now ≡ old → action ≡ action_of kind told
    → told ≡ shown → acted now n action ≡ acted old n (action_of kind shown)
does old now n action kind told shown same answer shows =
    ap (λ nodes. acted nodes n action) same ∙ ap (acted old n) (answer ∙ ap (action_of kind) shows)

pub when_true : (test : Bool) (then other after : List Node) → test ≡ true → after ≡ then → after ≡ cond test then other
when_true test then other after is e = e ∙ sym (ap (λ b. cond b then other) is)
