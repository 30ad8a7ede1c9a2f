-- What a new object is.
use Rattle.std.proofs.Common.{◌≡◌, ℕ, ◌<◌, true, false, true≢false, Bool, List, [], ◌∷◌, ◌++◌, length, Some, Contains, All, refl, sym, ap, ◌∙◌, subst, inl, inr}
use Rattle.std.proofs.lemmas.List.{get_or_push}
use Rattle.std.proofs.lemmas.List.Elements.{All-nil, All-cons, All-contains, Contains-append_cases}
use Rattle.gc_graph.specs.declared.line.Line.{Line}
use Rattle.gc_graph.specs.declared.line.Line.TheVariants as L
use Rattle.gc_graph.specs.State.{Setup, State, Node, no_node, node_at, type_at}
use Rattle.gc_graph.specs.Fields.{new_node}
use Rattle.gc_graph.specs.Actions.{shown}
use Rattle.gc_graph.specs.Outcomes.{finalise_lines}
use Rattle.gc_graph.specs.ObjectSteps.{with_new, IsMade}
use Rattle.gc_graph.specs.Members.{Contains-cons_cases}
use Rattle.gc_graph.specs.AccessLaw.{IsNew, NewObjectsAreEmpty}
use Rattle.gc_graph.proofs.StepCases.{match_option}
use Rattle.gc_graph.proofs.NewObjects.{nulls_all}
use Rattle.gc_graph.proofs.AccessLaws.{slot_put}
use Rattle.gc_graph.proofs.StepFrames.{Keeps, keeps_sweep}

-- ---- the line of a new object

abbrev is_placed : Line → Bool
is_placed (L.Placed n a) = true
is_placed other = false

none_placed : (numbers : List ℕ) → All (λ line. is_placed line ≡ false) (finalise_lines numbers)
none_placed [] = All-nil _
none_placed (n ∷ numbers) = All-cons (λ line. is_placed line ≡ false) (L.Finalise n) (finalise_lines numbers) refl (none_placed numbers)

-- the line that tells a place is the last one
pub told_last : (numbers : List ℕ) (lines : List Line) (last : Line) (n a : ℕ) → lines ≡ finalise_lines numbers ++ last ∷ [] → Contains lines (L.Placed n a)
    → last ≡ L.Placed n a
told_last numbers lines last n a e c =
    elim (Contains-append_cases (finalise_lines numbers) (last ∷ []) (L.Placed n a) (subst (λ ls. Contains ls (L.Placed n a)) e c)) [
      | inl early ↦
          absurd (true≢false (All-contains (λ line. is_placed line ≡ false) (finalise_lines numbers) (L.Placed n a) (none_placed numbers) early))
      | inr late ↦ elim (Contains-cons_cases last [] (L.Placed n a) late) [
        | inl here ↦ here
        | inr later ↦ absurd (true≢false (All-contains (λ line. is_placed line ≡ false) [] (L.Placed n a) (All-nil _) later))
      ]
    ]

-- ---- the law

made_new : (setup : Setup) (old mid new : State) (p t e n a b : ℕ) (numbers : List ℕ) (lines : List Line) → p < length old.slots → Keeps old mid
    → IsMade setup mid p t e numbers lines new b → Contains lines (L.Placed n a) → IsNew setup old p t e n a new
made_new setup old mid new p t e n a b numbers lines l kept made c =
    let line : L.Placed (length mid.nodes) b ≡ L.Placed n a = told_last numbers lines (L.Placed (length mid.nodes) b) n a made.lines_are c in
    let number : n ≡ length mid.nodes = cc in
    let place : b ≡ a = cc in
    let node : node_at new.nodes n ≡ new_node setup t e b =
    ap (λ (s : State). node_at s.nodes n) made.after ∙ get_or_push mid.nodes (new_node setup t e b) no_node n (sym number) in
    record {
      next = number ∙ kept.count;
      live = ap (λ (x : Node). x.life) node;
      place = ap (λ (x : Node). x.place) node ∙ place;
      ty = ap (λ (x : Node). x.object.ty) node;
      extra = ap (λ (x : Node). x.object.extra) node;
      kinds = ap (λ (x : Node). x.object.kinds) node;
      empty = subst (λ (x : Node). All (λ value. shown value ≡ 0) x.object.values) (sym node)
          (nulls_all (λ value. shown value ≡ 0) refl refl (type_at setup t).kinds e);
      slot = slot_put new (with_new setup mid t e b) p (Some (length mid.nodes)) old.slots made.after kept.slots l ∙ ap (λ k. Some k) (sym number);
    }

pub no_place : (told : Line) (n a : ℕ) → is_placed told ≡ false → told ≡ L.Placed n a → ⊥
no_place told n a e is = true≢false (sym (ap is_placed is) ∙ e)

pub new_objects_are_empty : NewObjectsAreEmpty
new_objects_are_empty setup old new p t e n a piece lines l h c = elim h.1 [
  | inl m ↦ absurd (no_place L.Memory n a refl (told_last [] lines L.Memory n a m.1.0 c))
  | inr made ↦
      match_option made.place _ _ (IsNew setup old p t e n a new)
      (λ full. absurd (no_place L.Full n a refl (told_last made.numbers lines L.Full n a full.lines_are c)))
      (λ b done.
      made_new setup old made.mid new p t e n a b made.numbers lines l
      (keeps_sweep setup.shape old made.mid made.placed.pages made.numbers made.placed.swept) done c) made.done
]
