-- What the lines of each command tell of nodes' lives.
use Rattle.std.proofs.Common.{◌≡◌, ◌≢◌, ℕ, ◌*◌, ◌<◌, ◌≤◌, nat_lt, List, [], ◌∷◌, ◌++◌, length, map, set, All, Contains, refl, sym, ap, ◌∙◌, subst, inl, inr, arith}
use Rattle.std.proofs.lemmas.Bool.{cases_eq, cond_both, cond-true, lt-ltb, ltb-true}
use Rattle.std.proofs.lemmas.List.{get_or-set_same, get_or-set_other, length-set, length-map}
use Rattle.std.proofs.lemmas.List.Elements.{All-nil, All-cons, All-head, All-tail, All-contains, Contains-append_cases}
use Rattle.gc_graph.specs.declared.line.Line.{Line}
use Rattle.gc_graph.specs.declared.line.Line.TheVariants as L
use Rattle.gc_graph.specs.declared.phase.Phase.{Phase}
use Rattle.gc_graph.specs.declared.phase.Phase.TheVariants.{Idle, Marking, Sweeping}
use Rattle.gc_graph.specs.State.{Shape, State, Node, no_node, node_at, IsDead}
use Rattle.gc_graph.specs.State.Life.{Dead, Gone}
use Rattle.gc_graph.specs.Sweep.{IsDeadBelow, AreDeadInOrder, buried, finalise, SweepsInPhase, SweepsTo}
use Rattle.gc_graph.specs.Outcomes.{finalise_lines}
use Rattle.gc_graph.specs.FinalisedNodes.{finalised_at}
use Rattle.gc_graph.proofs.Sweeps.{alive_stays}
use Rattle.gc_graph.proofs.NodeWrites.{IsLikeNode, like_same, LookSame, look_same}
use Rattle.gc_graph.proofs.SweepOrders.{IsUp, up_tail, up_first, first_or_rest, rest_of, nothing_in, member_dead}
use Rattle.gc_graph.specs.NodeNumbers.{dead_below}
use Rattle.gc_graph.proofs.Lives.{event_of, StaysPut, IsBuried, Tells, AreTold, line_cases, told_append}
use Rattle.gc_graph.proofs.Lives.Event.{Nothing}

-- what the lines of a step tell: how the nodes became the others; the finalised were dead before it; a new node isn't dead
pub record StepTells (old : List Node) (said : List Line) (new : List Node) : Type 0 where
  pub told : AreTold old said new
  pub dead : (n : ℕ) → Contains said (L.Finalise n) → IsDead old n
  pub made : (n : ℕ) → length old ≤ n → IsDead new n → ⊥

-- ---- a sweep

abbrev buried_node : List Node → ℕ → List Node
buried_node nodes n = set nodes n (record (node_at nodes n) { life = Gone })

bury_one : (nodes : List Node) (n : ℕ) → IsDead nodes n → IsBuried nodes n (buried_node nodes n)
bury_one nodes n dead =
    let node : Node = record (node_at nodes n) { life = Gone } in
    let at : node_at (set nodes n node) n ≡ node = get_or-set_same nodes n node no_node (dead_below nodes n dead) in
    record {
      whole = length-set nodes n node;
      dead = dead;
      gone = ap (λ (x : Node). x.life) at;
      put = record { place = ap (λ (x : Node). x.place) at; size = ap (λ (x : Node). length x.object.values) at; ty = ap (λ (x : Node). x.object.ty) at };
      others = λ m ne. subst (IsLikeNode (node_at nodes m)) (sym (get_or-set_other nodes n m node no_node ne)) (like_same (node_at nodes m));
    }

-- of the nodes these are buried, and the others are as they were
record AreBuried (nodes : List Node) (numbers : List ℕ) (after : List Node) : Type 0 where
  whole : length after ≡ length nodes
  dead : (n : ℕ) → Contains numbers n → IsDead nodes n
  gone : (n : ℕ) → Contains numbers n → ((node_at after n).life ≡ Gone) × StaysPut (node_at nodes n) (node_at after n)
  others : (n : ℕ) → (Contains numbers n → ⊥) → IsLikeNode (node_at nodes n) (node_at after n)

bury_rest : (f : ℕ → ℕ) (nodes after : List Node) (n : ℕ) (numbers : List ℕ) → IsUp f (n ∷ numbers) → AreBuried nodes (n ∷ numbers) after
    → AreBuried (buried_node nodes n) numbers after
bury_rest f nodes after n numbers up h =
    let first : IsDead nodes n = h.dead n (0, omega arith, refl) in
    let mid : IsBuried nodes n (buried_node nodes n) = bury_one nodes n first in
    let fresh : (m : ℕ) → Contains numbers m → m ≢ n =
    (λ m c same. (let less : f n < f m = up_first f n m numbers up c in let e : f m ≡ f n = ap f same in omega arith)) in
    let kept : (m : ℕ) → m ≢ n → node_at nodes m ≡ node_at (buried_node nodes n) m =
    (λ m ne. sym (get_or-set_other nodes n m (record (node_at nodes n) { life = Gone }) no_node ne)) in
    record {
      whole = h.whole ∙ sym mid.whole;
      dead = λ m c. ap (λ (x : Node). x.life) (sym (kept m (fresh m c))) ∙ h.dead m (rest_of n m numbers c);
      gone = λ m c.
          let gone = h.gone m (rest_of n m numbers c) in
          (gone.0, subst (λ x. StaysPut x (node_at after m)) (kept m (fresh m c)) gone.1);
      others = λ m out. elim (cases_eq m n) [
        | inl same ↦
            (let gone = h.gone n (0, omega arith, refl) in
            subst (λ k. IsLikeNode (node_at (buried_node nodes n) k) (node_at after k)) (sym same)
            (record {
              place = gone.1.place ∙ sym mid.put.place;
              size = gone.1.size ∙ sym mid.put.size;
              life = gone.0 ∙ sym mid.gone;
              ty = gone.1.ty ∙ sym mid.put.ty;
            }))
        | inr other ↦
            subst (λ x. IsLikeNode x (node_at after m)) (kept m other)
            (h.others m (λ c. elim (first_or_rest n m numbers c) [ inl same ↦ other (sym same) | inr rest ↦ out rest ]))
      ];
    }

bury_all : (f : ℕ → ℕ) (numbers : List ℕ) (nodes after : List Node) → IsUp f numbers → AreBuried nodes numbers after
    → AreTold nodes (finalise_lines numbers) after
bury_all f [] nodes after up h = record { whole = h.whole; like = λ m. h.others m (λ c. nothing_in m c) }
bury_all f (n ∷ numbers) nodes after up h = record {
  mid = buried_node nodes n;
  tells = bury_one nodes n (h.dead n (0, omega arith, refl));
  after = bury_all f numbers (buried_node nodes n) after (up_tail f n numbers up) (bury_rest f nodes after n numbers up h);
}

put_finalised : (limit : ℕ) (x : Node) → StaysPut x (finalise limit x)
put_finalised limit x =
    cond_both (nat_lt x.place limit) (record x { life = buried x.life }) x (StaysPut x) (λ e. record { place = refl; size = refl; ty = refl })
    (λ e. record { place = refl; size = refl; ty = refl })

gone_finalised : (limit : ℕ) (x : Node) → x.life ≡ Dead → x.place < limit → (finalise limit x).life ≡ Gone
gone_finalised limit x dead low =
    ap (λ (y : Node). y.life) (cond-true (nat_lt x.place limit) (record x { life = buried x.life }) x (lt-ltb x.place limit low)) ∙ ap buried dead

like_finalised : (limit : ℕ) (x : Node) → (x.life ≡ Dead → x.place < limit → ⊥) → IsLikeNode x (finalise limit x)
like_finalised limit x out =
    cond_both (nat_lt x.place limit) (record x { life = buried x.life }) x (IsLikeNode x)
    (λ e. record { place = refl; size = refl; life = sym (alive_stays x.life (λ dead. out dead (ltb-true x.place limit e))); ty = refl }) (λ e. like_same x)

swept_buried : (nodes : List Node) (limit : ℕ) (numbers : List ℕ) → AreDeadInOrder nodes limit numbers
    → AreBuried nodes numbers (map (finalise limit) nodes)
swept_buried nodes limit numbers h = record {
  whole = length-map nodes (finalise limit);
  dead = λ n c. (member_dead nodes limit n numbers h c).dead;
  gone = λ n c.
      let dead : IsDeadBelow nodes limit n = member_dead nodes limit n numbers h c in (
        ap (λ (x : Node). x.life) (finalised_at limit nodes n) ∙ gone_finalised limit (node_at nodes n) dead.dead dead.below,
        subst (StaysPut (node_at nodes n)) (sym (finalised_at limit nodes n)) (put_finalised limit (node_at nodes n)),
      );
  others = λ n out.
      subst (IsLikeNode (node_at nodes n)) (sym (finalised_at limit nodes n))
      (like_finalised limit (node_at nodes n) (λ dead low. out (h.whole n (record { dead = dead; below = low }))));
}

-- ---- lines that tell nothing of nodes

abbrev pub IsQuiet : Line → Type 0
IsQuiet said = event_of said ≡ Nothing

pub quiet_told : (lines : List Line) (old new : List Node) → All IsQuiet lines → LookSame old new → AreTold old lines new
quiet_told [] old new h look = look
quiet_told (said ∷ lines) old new h look = record {
  mid = old;
  tells = subst (λ e. Tells old e old) (sym (All-head IsQuiet said lines h)) (look_same old);
  after = quiet_told lines old new (All-tail IsQuiet said lines h) look;
}

abbrev pub FinalisesNone : List Line → Type 0
FinalisesNone lines = (n : ℕ) → Contains lines (L.Finalise n) → ⊥

finalising_is_told : (n : ℕ) → IsQuiet (L.Finalise n) → ⊥
finalising_is_told n e = cc

pub quiet_finalises_none : (lines : List Line) → All IsQuiet lines → FinalisesNone lines
quiet_finalises_none lines h n c = finalising_is_told n (All-contains IsQuiet lines (L.Finalise n) h c)

pub quiet_one : (said : Line) → IsQuiet said → All IsQuiet (said ∷ [])
quiet_one said e = All-cons IsQuiet said [] e (All-nil IsQuiet)

-- ---- steps

pub none_made : (old new : List Node) → length new ≤ length old → (n : ℕ) → length old ≤ n → IsDead new n → ⊥
none_made old new l n past dead = let below : n < length new = dead_below new n dead in omega arith

pub tells_quiet : (old new : List Node) (said : Line) → IsQuiet said → LookSame old new → StepTells old (said ∷ []) new
tells_quiet old new said e look = record {
  told = quiet_told (said ∷ []) old new (quiet_one said e) look;
  dead = λ n c. absurd (quiet_finalises_none (said ∷ []) (quiet_one said e) n c);
  made = none_made old new (omega (arith, look.whole));
}

-- what a sweep told, and then lines that finalise nobody
pub tells_more : (old mid new : List Node) (first second : List Line) → StepTells old first mid → length mid ≡ length old → AreTold mid second new
    → FinalisesNone second → ((n : ℕ) → length mid ≤ n → IsDead new n → ⊥) → StepTells old (first ++ second) new
tells_more old mid new first second h same told none made = record {
  told = told_append old mid new first second h.told told;
  dead = λ n c. elim (Contains-append_cases first second (L.Finalise n) c) [ inl early ↦ h.dead n early | inr late ↦ absurd (none n late) ];
  made = λ n past dead. made n (omega arith) dead;
}

number_of : (m n : ℕ) → L.Finalise m ≡ L.Finalise n → m ≡ n
number_of m n e = cc

finalised_member : (numbers : List ℕ) (n : ℕ) → Contains (finalise_lines numbers) (L.Finalise n) → Contains numbers n
finalised_member [] n c = absurd (omega (arith, c.1))
finalised_member (m ∷ numbers) n c =
    elim (line_cases (L.Finalise m) (L.Finalise n) (finalise_lines numbers) c) [
      | inl same ↦ (0, omega arith, number_of m n same)
      | inr later ↦ rest_of m n numbers (finalised_member numbers n later)
    ]

pub record IsSweepTold (old : List Node) (numbers : List ℕ) (mid : List Node) : Type 0 where
  pub tells : StepTells old (finalise_lines numbers) mid
  pub whole : length mid ≡ length old

none_told : (old mid : State) (numbers : List ℕ) → numbers ≡ [] → mid ≡ old → IsSweepTold old.nodes numbers mid.nodes
none_told old mid numbers none same =
    subst (λ (s : State). IsSweepTold old.nodes numbers s.nodes) (sym same)
    (subst (λ ns. IsSweepTold old.nodes ns old.nodes) (sym none) (record {
      tells = record {
        told = look_same old.nodes;
        dead = λ n c. absurd (omega (arith, c.1));
        made = none_made old.nodes old.nodes (omega arith);
      };
      whole = refl;
    }))

told_in : (phase : Phase) (shape : Shape) (old mid : State) (pages : ℕ) (numbers : List ℕ) → SweepsInPhase phase shape old pages numbers mid
    → IsSweepTold old.nodes numbers mid.nodes
told_in Idle shape old mid pages numbers h = none_told old mid numbers h.0 h.1
told_in Marking shape old mid pages numbers h = none_told old mid numbers h.0 h.1
told_in Sweeping shape old mid pages numbers h =
    let limit : ℕ = pages * shape.page_words in
    let buried : AreBuried old.nodes numbers (map (finalise (pages * shape.page_words)) old.nodes) =
    swept_buried old.nodes (pages * shape.page_words) numbers h.finalised in
    let told : IsSweepTold old.nodes numbers (map (finalise (pages * shape.page_words)) old.nodes) = record {
      tells = record {
        told =
            bury_all (λ n. (node_at old.nodes n).place) numbers old.nodes (map (finalise (pages * shape.page_words)) old.nodes) h.finalised.ascending buried;
        dead = λ n c. buried.dead n (finalised_member numbers n c);
        made = none_made old.nodes (map (finalise (pages * shape.page_words)) old.nodes) (omega (arith, buried.whole));
      };
      whole = buried.whole;
    } in
    subst (λ (s : State). IsSweepTold old.nodes numbers s.nodes) (sym h.after) told

pub sweep_told : (shape : Shape) (old mid : State) (pages : ℕ) (numbers : List ℕ) → SweepsTo shape old pages numbers mid
    → IsSweepTold old.nodes numbers mid.nodes
sweep_told shape old mid pages numbers h = told_in old.phase shape old mid pages numbers h
