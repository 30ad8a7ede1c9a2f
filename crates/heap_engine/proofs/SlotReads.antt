-- Reads of references: what slot q gets, and what a weak read keeps.
use Rattle.std.proofs.Common.{◌≡◌, ℕ, ◌+◌, Bool, true, List, [], ◌∷◌, Option, option_map, Some, None, IfSome, refl, sym, ap, ◌∙◌, subst}
use Rattle.std.specs.Prelude.{MatchOption}
use Rattle.gc_graph.specs.declared.kind.Value.{Value}
use Rattle.gc_graph.specs.declared.kind.Value.TheVariants.{Null, Ref, Word}
use Rattle.gc_graph.specs.declared.line.Line.{Line}
use Rattle.gc_graph.specs.declared.line.Line.TheVariants as L
use Rattle.gc_graph.specs.declared.phase.Phase.{Phase}
use Rattle.gc_graph.specs.State.{State, Node}
use Rattle.gc_graph.specs.Fields.{content_of, target_of}
use Rattle.gc_graph.specs.May.{weakly_read}
use Rattle.gc_graph.specs.Outcomes.{answered, with_slot}
use Rattle.gc_graph.specs.ObjectSteps.{IsRead}
use Rattle.heap_cycle.specs.Nodes.{place_of}
use Rattle.heap_cycle.specs.Fields.{IsLiveReference}
use Rattle.heap_cycle.specs.Objects.{target_in, refusals_told_of, IsLiveAt}
use Rattle.heap_cycle.specs.Refused.{RefusalsTold}
use Rattle.heap_cycle.specs.Handles.{put_in, HandlesView}
use Rattle.heap_cycle.specs.declared.parts.Parts.{Parts}
use Rattle.heap_cycle.specs.Parts.{setup_of, state_of, counted, AreTied, IsFrame}
use Rattle.heap_cycle.specs.Ties.{manned_grey, tied_slot}
use Rattle.heap_cycle.specs.Walks.{IsWalkTold}
use Rattle.heap_engine.specs.FieldSteps.{HasRead, after_read}
use Rattle.heap_engine.proofs.Tellings.{told_by, tells_same}

-- ---- what is read

-- the value is no number
abbrev pub NamesOrNull : Value → Type 0
NamesOrNull x = (w : ℕ) → x ≡ Word w → ⊥

pub live_names : (nodes : List Node) (x : Value) → IsLiveReference nodes x → NamesOrNull x
live_names nodes Null live = λ w is. cc
live_names nodes (Ref n) live = λ w is. cc
live_names nodes (Word v) live = absurd live

pub content_names : (slot : Option ℕ) → NamesOrNull (content_of slot)
content_names None = λ w is. cc
content_names (Some n) = λ w is. cc

pub content_target : (slot : Option ℕ) → target_of (content_of slot) ≡ slot
content_target None = refl
content_target (Some n) = refl

there : (nodes : List Node) (x : Value) → IsLiveReference nodes x → IfSome (target_in nodes x) (λ (t : ℕ × ℕ). IsLiveAt nodes t.1 t.0)
there nodes Null live = tt
there nodes (Ref n) live = (live, refl)
there nodes (Word w) live = absurd live

-- the object that is named is there
pub target_live : (nodes : List Node) (x : Value) (target : Option (ℕ × ℕ)) → IsLiveReference nodes x → target ≡ target_in nodes x → IfSome target (λ (t : ℕ × ℕ). IsLiveAt nodes t.1 t.0)
target_live nodes x target live is = subst (λ (o : Option (ℕ × ℕ)). IfSome o (λ (t : ℕ × ℕ). IsLiveAt nodes t.1 t.0)) (sym is) (there nodes x live)

target_numbers : (nodes : List Node) (content : Option ℕ) → option_map (λ (t : ℕ × ℕ). t.1) (option_map (λ (m : ℕ). (place_of nodes m, m)) content) ≡ content
target_numbers nodes None = refl
target_numbers nodes (Some m) = refl

target_places : (nodes : List Node) (content : Option ℕ)
    → option_map (λ (t : ℕ × ℕ). t.0) (option_map (λ (m : ℕ). (place_of nodes m, m)) content)
    ≡ option_map (place_of nodes) (option_map (λ (t : ℕ × ℕ). t.1) (option_map (λ (m : ℕ). (place_of nodes m, m)) content))
target_places nodes None = refl
target_places nodes (Some m) = refl

-- ---- a weak read

weak_state : (s mid : Parts) (target : Option (ℕ × ℕ)) → MatchOption target (mid ≡ s) (λ (t : ℕ × ℕ). state_of mid ≡ weakly_read (state_of s) t.1)
    → state_of mid ≡ after_read true (state_of s) (option_map (λ (t : ℕ × ℕ). t.1) target)
weak_state s mid None is = ap state_of is
weak_state s mid (Some t) is = is

-- what `read_weakly` of `heap_cycle` leaves
pub weak_read : (s mid : Parts) (target : Option (ℕ × ℕ)) → MatchOption target (mid ≡ s) (λ (t : ℕ × ℕ). state_of mid ≡ weakly_read (state_of s) t.1) → AreTied mid
    → mid.objects.nodes ≡ s.objects.nodes → setup_of mid ≡ setup_of s → mid.objects.grey ≡ s.objects.grey
    → mid ≡ record s { objects = mid.objects; cycle = record s.cycle { rest = mid.cycle.rest } } → mid.cycle.rest.ordinal ≡ s.cycle.rest.ordinal → HasRead true s mid target
weak_read s mid target state tied nodes setup grey others ordinal = record {
  state = weak_state s mid target state;
  tied = tied;
  nodes = nodes;
  setup = setup;
  grey = grey;
  handles = ap (λ (x : Parts). x.handles) others;
  region = ap (λ (x : Parts). x.region) others;
  ordinal = ordinal;
}

-- ---- slot q gets it

value_read : (weak : Bool) (s : State) (nodes : List Node) (x : Value) (q : ℕ) (told : Line) → NamesOrNull x
    → MatchOption (target_in nodes x) (told ≡ L.Null) (λ (t : ℕ × ℕ). told ≡ L.Node t.1) → IsRead weak s x q (told ∷ []) (answered (with_slot (after_read weak s (target_of x)) q (target_of x)))
value_read weak s nodes Null q told names is = (ap (λ l. l ∷ []) is, refl)
value_read weak s nodes (Ref n) q told names is = (ap (λ l. l ∷ []) is, refl)
value_read weak s nodes (Word w) q told names is = absurd (names w refl)

pub slot_read : (weak : Bool) (s mid : Parts) (after : HandlesView) (q : ℕ) (x : Value) (target : Option (ℕ × ℕ)) (told : Line) → NamesOrNull x → target ≡ target_in s.objects.nodes x
    → MatchOption target (told ≡ L.Null) (λ (t : ℕ × ℕ). told ≡ L.Node t.1) → HasRead weak s mid target → after ≡ put_in mid.handles q target
    → IsRead weak (state_of s) x q (told ∷ []) (answered (state_of (record mid { handles = after })))
slot_read weak s mid after q x target told names is line has put =
    let st : State = state_of s in
    let number : option_map (λ (t : ℕ × ℕ). t.1) target ≡ target_of x = ap (option_map (λ (t : ℕ × ℕ). t.1)) is ∙ target_numbers s.objects.nodes (target_of x) in
    let done : IsRead weak st x q (told ∷ []) (answered (with_slot (after_read weak st (target_of x)) q (target_of x))) =
    value_read weak st s.objects.nodes x q told names (subst (λ (t : Option (ℕ × ℕ)). MatchOption t (told ≡ L.Null) (λ (w : ℕ × ℕ). told ≡ L.Node w.1)) is line) in
    let to : answered (with_slot (after_read weak st (target_of x)) q (target_of x)) ≡ answered (state_of (record mid { handles = after })) =
    ap (λ content. answered (with_slot (after_read weak st content) q content)) (sym number)
    ∙ ap (λ (t : State). answered (with_slot t q (option_map (λ (t : ℕ × ℕ). t.1) target))) (sym has.state)
    ∙ ap (λ (k : HandlesView). answered (state_of (record mid { handles = k }))) (sym put) in
    subst (λ (t : State). IsRead weak st x q (told ∷ []) t) to done

-- a line that tells a target tells of no refusal
told_same : (phase : Phase) (old new : RefusalsTold) (target : Option (ℕ × ℕ)) (told : Line) → new ≡ old → MatchOption target (told ≡ L.Null) (λ (t : ℕ × ℕ). told ≡ L.Node t.1)
    → IsWalkTold phase old new told
told_same phase old new None told same is = subst (IsWalkTold phase old new) (sym is) (tells_same phase old new same)
told_same phase old new (Some t) told same is = subst (IsWalkTold phase old new) (sym is) (tells_same phase old new same)

-- where a slot then gets the target, no more changes
pub put_frame : (s mid : Parts) (after : HandlesView) (q : ℕ) (target : Option (ℕ × ℕ)) (content : Option ℕ) (told : Line) → mid.objects.nodes ≡ s.objects.nodes → setup_of mid ≡ setup_of s
    → mid.objects.grey ≡ s.objects.grey → mid.cycle.rest.ordinal ≡ s.cycle.rest.ordinal → AreTied s → AreTied mid
    → target ≡ option_map (λ (m : ℕ). (place_of s.objects.nodes m, m)) content → after ≡ put_in mid.handles q target
    → MatchOption target (told ≡ L.Null) (λ (t : ℕ × ℕ). told ≡ L.Node t.1) → IsFrame s (counted (record mid { handles = after })) told
put_frame s mid after q target content told nodes setup grey ordinal before tied is put line =
    let at : target ≡ option_map (λ (m : ℕ). (place_of mid.objects.nodes m, m)) content =
    is ∙ ap (λ (ns : List Node). option_map (λ (m : ℕ). (place_of ns m, m)) content) (sym nodes) in
    record {
      setup = setup;
      ordinal = ap (λ k. k + 1) ordinal;
      tied = subst (λ (k : HandlesView). AreTied (counted (record mid { handles = k }))) (sym put)
          (tied_slot mid q target
          (subst (λ (t : Option (ℕ × ℕ)). option_map (λ (x : ℕ × ℕ). x.0) t ≡ option_map (place_of mid.objects.nodes) (option_map (λ (x : ℕ × ℕ). x.1) t)) (sym at)
          (target_places mid.objects.nodes content)) tied);
      manned = manned_grey s mid before tied grey;
      refused = told_same s.cycle.phase (refusals_told_of s.objects) (refusals_told_of mid.objects) target told (told_by s.objects mid.objects grey) line;
    }

-- a slot got what was read, and no more
pub read_frame : (weak : Bool) (s mid : Parts) (after : HandlesView) (q : ℕ) (target : Option (ℕ × ℕ)) (content : Option ℕ) (told : Line) → AreTied s → HasRead weak s mid target
    → target ≡ option_map (λ (m : ℕ). (place_of s.objects.nodes m, m)) content → after ≡ put_in mid.handles q target
    → MatchOption target (told ≡ L.Null) (λ (t : ℕ × ℕ). told ≡ L.Node t.1) → IsFrame s (counted (record mid { handles = after })) told
read_frame weak s mid after q target content told before has is put line = put_frame s mid after q target content told has.nodes has.setup has.grey has.ordinal before has.tied is put line
