-- Callbacks that run one after the other, each under its mask. Under none, they are prefinalizers.
use Rattle.std.proofs.Common.{◌≡◌, ℕ, ◌<◌, ◌+◌, ◌/◌, ◌%◌, cond, nat_eq, List, [], ◌∷◌, ◌++◌, map, take, drop, set, get_or, length, refl, sym, ap, ◌∙◌, subst, append_assoc, arith}
use Rattle.std.proofs.lemmas.List.{map_push, drop_more, take_more_set, drop-set-lt}
use Rattle.gc_graph.specs.declared.action.ActionKind.{ActionKind}
use Rattle.gc_graph.specs.State.{Node, Registration, node_at}
use Rattle.gc_graph.specs.Actions.{acted, action_of, shown_words}
use Rattle.gc_graph.specs.Pause.{kind_of_callback, prefinalised}
use Rattle.gc_graph.specs.WeakCalls.{WeakCall, shown_under, weak_call, called}
use Rattle.callback_table.proofs.Looks.{LooksAlike, alike_same, alike_on, acted_alike}

pub shown_under_none : (words : List ℕ) → shown_under 0 words ≡ words
shown_under_none [] = refl
shown_under_none (word ∷ words) = ap (λ more. word ∷ more) (shown_under_none words)

-- the words before i are shown under the mask, and what is left of it is for those from i on
pub one_more_shown : (mask rest : ℕ) (start words : List ℕ) (i word : ℕ) → i < length words
    → cond (nat_eq (rest % 2) 0) (get_or words i 0) 2 ≡ word → shown_under mask start ≡ take i words ++ shown_under rest (drop i words)
    → (after : List ℕ) → after ≡ set words i word → shown_under mask start ≡ take (i + 1) after ++ shown_under (rest / 2) (drop (i + 1) after)
one_more_shown mask rest start words i word within is so_far after set_is =
    so_far ∙ ap (λ from_i. take i words ++ shown_under rest from_i) (drop_more words i 0 within)
    ∙ ap (λ shown. take i words ++ shown ∷ shown_under (rest / 2) (drop (i + 1) words)) is
    ∙ sym (append_assoc (take i words) (word ∷ []) (shown_under (rest / 2) (drop (i + 1) words)))
    ∙ ap (λ front. front ++ shown_under (rest / 2) (drop (i + 1) words)) (sym (take_more_set words i word within))
    ∙ ap (λ back. take (i + 1) (set words i word) ++ shown_under (rest / 2) back) (sym (drop-set-lt (i + 1) words i word (omega arith)))
    ∙ ap (λ all. take (i + 1) all ++ shown_under (rest / 2) (drop (i + 1) all)) (sym set_is)

-- ---- calls one after the other

pub called-append : (kinds : List ActionKind) (first second : List WeakCall) (nodes : List Node)
    → called kinds (first ++ second) nodes ≡ called kinds second (called kinds first nodes)
called-append kinds [] second nodes = refl
called-append kinds (c ∷ first) second nodes =
    called-append kinds first second
    (acted nodes c.node (action_of (kind_of_callback kinds c.callback) (shown_under c.mask (shown_words (node_at nodes c.node)))))

pub called_alike : (kinds : List ActionKind) (calls : List WeakCall) (nodes : List Node) → LooksAlike nodes (called kinds calls nodes)
called_alike kinds [] nodes = alike_same nodes
called_alike kinds (c ∷ more) nodes =
    let action = action_of (kind_of_callback kinds c.callback) (shown_under c.mask (shown_words (node_at nodes c.node))) in
    alike_on nodes (acted nodes c.node action) (called kinds more (acted nodes c.node action)) (acted_alike nodes c.node action)
    (called_alike kinds more (acted nodes c.node action))

-- ---- prefinalizers

-- the call of a prefinalizer
abbrev pub unmasked : Registration → WeakCall
unmasked r = weak_call r.node 0 r.callback

pub prefinalised_is_called : (kinds : List ActionKind) (rs : List Registration) (nodes : List Node)
    → prefinalised kinds rs nodes ≡ called kinds (map unmasked rs) nodes
prefinalised_is_called kinds [] nodes = refl
prefinalised_is_called kinds (r ∷ more) nodes =
    prefinalised_is_called kinds more (acted nodes r.node (action_of (kind_of_callback kinds r.callback) (shown_words (node_at nodes r.node))))
    ∙ ap (λ words. called kinds (map unmasked more) (acted nodes r.node (action_of (kind_of_callback kinds r.callback) words)))
    (sym (shown_under_none (shown_words (node_at nodes r.node))))

pub prefinalised_last : (kinds : List ActionKind) (rs : List Registration) (r : Registration) (nodes : List Node)
    → prefinalised kinds (rs ++ r ∷ []) nodes ≡ prefinalised kinds (r ∷ []) (prefinalised kinds rs nodes)
prefinalised_last kinds rs r nodes =
    prefinalised_is_called kinds (rs ++ r ∷ []) nodes ∙ ap (λ calls. called kinds calls nodes) (map_push unmasked rs r)
    ∙ called-append kinds (map unmasked rs) (unmasked r ∷ []) nodes
    ∙ ap (called kinds (unmasked r ∷ [])) (sym (prefinalised_is_called kinds rs nodes))
    ∙ sym (prefinalised_is_called kinds (r ∷ []) (prefinalised kinds rs nodes))

pub prefinalised_alike : (kinds : List ActionKind) (rs : List Registration) (nodes : List Node) → LooksAlike nodes (prefinalised kinds rs nodes)
prefinalised_alike kinds rs nodes = subst (LooksAlike nodes) (sym (prefinalised_is_called kinds rs nodes)) (called_alike kinds (map unmasked rs) nodes)
