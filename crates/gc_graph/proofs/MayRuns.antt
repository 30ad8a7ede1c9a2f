-- What may be kept stays within its bound over whole runs.
use Rattle.std.proofs.Common.{◌≡◌, ℕ, Bool, true, false, List, [], ◌∷◌, ◌++◌, All, Option, Some, None, refl, sym, ap, ◌∙◌, subst, inl, inr}
use Rattle.gc_graph.specs.declared.command.Command.{Command}
use Rattle.gc_graph.specs.declared.command.Want.{Want}
use Rattle.gc_graph.specs.declared.kind.Value.TheVariants.{Ref, Word}
use Rattle.gc_graph.specs.declared.line.Line.{Line}
use Rattle.gc_graph.specs.declared.line.Refusal.{Refusal}
use Rattle.gc_graph.specs.declared.line.Refusal.TheVariants as R
use Rattle.gc_graph.specs.declared.phase.Phase.{Phase}
use Rattle.gc_graph.specs.declared.phase.Phase.TheVariants.{Idle, Marking, Sweeping}
use Rattle.gc_graph.specs.declared.region.Entry.{Entry}
use Rattle.gc_graph.specs.declared.region.Op.{Op}
use Rattle.gc_graph.specs.declared.region.Op.TheVariants as O
use Rattle.gc_graph.specs.Graph.{Object}
use Rattle.gc_graph.specs.State.{Setup, State, Node, node_at, IsLive, graph_of}
use Rattle.gc_graph.specs.Fields.{new_node, kind_of_field, with_value, content_of}
use Rattle.gc_graph.specs.May.{may_with_read, may_with_new}
use Rattle.gc_graph.specs.Sweep.{SweepsInPhase}
use Rattle.gc_graph.specs.Outcomes.{answered, IsRefused, IsMemory, took, slot_at, owner_entry, with_entry, AreOthers, IsThreadOp}
use Rattle.gc_graph.specs.ObjectSteps.{first_word, part_of, IsChanged, with_node, StepNew, IsRead}
use Rattle.gc_graph.specs.CycleSteps.{is_marking, is_sweeping, is_stack_refused, StepGcStart, StepGcFinish, StepGcNow, StepSweepTo}
use Rattle.gc_graph.specs.RegionSteps.{TakesOwn, StepExport, StepImport, StepThreadsJoin}
use Rattle.gc_graph.specs.MayLaw.{HasStarted, entry_reads}
use Rattle.gc_graph.specs.Commands.{own_reads, told}
use Rattle.gc_graph.proofs.StepCases.{match_option, match_bool}
use Rattle.gc_graph.proofs.FieldWrites.{with_pair, one_written, pair_written, suits_reference, suits_plain}
use Rattle.gc_graph.proofs.Follows.{Anything}
use Rattle.gc_graph.proofs.Since.{Since, StrongSince, PairSince}
use Rattle.gc_graph.proofs.Sound.{SlotNames, IsSound, IsFollowed}
use Rattle.gc_graph.proofs.ValidCases.{bool_is}
use Rattle.gc_graph.proofs.ValidHandles.{Root}
use Rattle.gc_graph.proofs.Effects.{Effect, line_of_effect, with_effect, Fits}
use Rattle.gc_graph.proofs.Effects.Effect.{Gets, Sets, Puts, Pairs}
use Rattle.gc_graph.proofs.ValidRegion.{others_sound, took_own}
use Rattle.gc_graph.proofs.MayGrows.{IsKeptUp, before}
use Rattle.gc_graph.proofs.MayEntries.{More, followed, in_may_of, Kept, same_kept, weak_read_kept, took_kept, own_kept, written_kept, new_kept}

module _ (setup : Setup) (start : State) (begun : HasStarted setup start) where
  -- what a command makes of a bound, where it reads these
  pub record Goes (old : State) (command : Command) (piece : List Entry) (lines : List Line) (new : State) : Type 0 where
    pub goes : (reads after : List ℕ) → More reads after → More (own_reads old command lines) after → More (entry_reads old.region piece) after
        → Kept setup start begun reads old → Kept setup start begun after new

  module _ (old new : State) (command : Command) (piece : List Entry) (lines : List Line) where
    pub still : (x : State) → new ≡ x → x.nodes ≡ old.nodes → x.may ≡ old.may → Goes old command piece lines new
    still x e n m = record {
      goes = λ reads after more own entries kept.
          same_kept setup start begun reads after old new more (ap (λ (s : State). s.nodes) e ∙ n) (ap (λ (s : State). s.may) e ∙ m) kept;
    }

    pub refused : (why : Refusal) → IsRefused why old lines new → Goes old command piece lines new
    refused why h = still (answered old) h.1 refl refl

    pub memory : IsMemory old lines new → Goes old command piece lines new
    memory h = still (answered old) h.1 refl refl

    weakly : (n q : ℕ) → old.phase ≡ Marking → IsSound setup old → IsLive old.nodes n → own_reads old command lines ≡ told lines
        → IsRead true old (Ref n) q lines new → Goes old command piece lines new
    weakly n q on g live own h = record {
      goes = λ reads after more from entries kept.
          (let one : More (n ∷ []) after = subst (λ xs. More xs after) (own ∙ ap told h.0) from in
          same_kept setup start begun after after (record old { may = may_with_read old.phase (graph_of old.nodes) old.may n }) new (λ k e. e)
          (ap (λ (s : State). s.nodes) h.1) (ap (λ (s : State). s.may) h.1)
          (weak_read_kept setup start begun reads after old n on g live more one kept));
    }

    -- a command writes a field of a node
    writes : (n : ℕ) (node : Node) → IsChanged old n node lines new
        → ((may : List Bool) → ((m : ℕ) → Since old.may (before setup start begun m) (node_at old.nodes m).object.kinds (node_at old.nodes m).object.values)
        → Since old.may (before setup start begun n) node.object.kinds node.object.values)
        → Goes old command piece lines new
    writes n node h since = record {
      goes = λ reads after more own entries kept.
          (let up = same_kept setup start begun reads after old old more refl refl kept in
          same_kept setup start begun after after (with_node old n node) new (λ k e. e) (ap (λ (s : State). s.nodes) h.1) (ap (λ (s : State). s.may) h.1)
          (written_kept setup start begun after old.nodes old.may n node up (since old.may up.edges)));
    }

    -- ---- values that slots hold

    slot_since : (o : Object) (content : Option ℕ) → old.phase ≡ Marking → SlotNames (Root old) content → StrongSince old.may o (content_of content)
    slot_since o None on h = tt
    slot_since o (Some m) on h = inr (in_may_of old.phase old.may m on h.in_may)

    parts_since : (o : Object) (key value : Option ℕ) → old.phase ≡ Marking → SlotNames (Root old) value
        → PairSince old.may o (part_of key value) (part_of value key)
    parts_since o None None on h = tt
    parts_since o None (Some m) on h = tt
    parts_since o (Some k) None on h = tt
    parts_since o (Some k) (Some m) on h = inr (in_may_of old.phase old.may m on h.in_may)

    -- ---- plain commands

    pub effect_goes : (effect : Effect) → old.phase ≡ Marking → IsSound setup old → Fits old command lines effect → lines ≡ line_of_effect effect ∷ []
        → new ≡ answered (with_effect old effect) → Goes old command piece lines new
    effect_goes (Gets true q n) on g fits is e = weakly n q on g (fits.node setup g) (fits.reads refl) (is, e)
    effect_goes (Gets false q n) on g fits is e = still _ e refl refl
    effect_goes (Sets n f content) on g fits is e =
        (let o : Object = before setup start begun n in
        let S = StrongSince old.may o in
        let P = PairSince old.may o in
        let object : Object = (node_at old.nodes n).object in
        writes n (with_value (node_at old.nodes n) (first_word old n f) (content_of content)) (is, e)
        (λ may edges. one_written S Anything Anything P object f (content_of content)
        (suits_reference S Anything Anything P object f (kind_of_field object f) (content_of content) fits.0.allows (slot_since o content on (fits.1 setup g)) tt)
        (edges n)))
    effect_goes (Puts n f w) on g fits is e =
        (let o : Object = before setup start begun n in
        let S = StrongSince old.may o in
        let P = PairSince old.may o in
        let object : Object = (node_at old.nodes n).object in
        writes n (with_value (node_at old.nodes n) (first_word old n f) (Word w)) (is, e)
        (λ may edges. one_written S Anything Anything P object f (Word w)
        (suits_plain S Anything Anything P object f (kind_of_field object f) (Word w) fits.0.allows tt) (edges n)))
    effect_goes (Pairs n f key value) on g fits is e =
        (let o : Object = before setup start begun n in
        writes n (with_pair (node_at old.nodes n) (first_word old n f) (part_of key value) (part_of value key)) (is, e)
        (λ may edges. pair_written (StrongSince old.may o) Anything Anything (PairSince old.may o) (node_at old.nodes n).object f (part_of key value)
        (part_of value key) fits.0.allows (parts_since o key value on (fits.1 setup g).1) (edges n)))
    effect_goes effect on g fits is e = still (answered (with_effect old effect)) e refl refl

    -- ---- what doesn't go on while marking does

    pub sweep_goes : (pages : ℕ) → old.phase ≡ Marking → StepSweepTo setup old pages lines new → Goes old command piece lines new
    sweep_goes pages on h =
        bool_is (is_sweeping old.phase) _ _ (Goes old command piece lines new) (λ yes s. (let q = ap is_sweeping on in absurd cc)) (λ not r. refused R.Phase r) h

    pub start_goes : old.phase ≡ Marking → StepGcStart setup old piece lines new → Goes old command piece lines new
    start_goes on h =
        bool_is (is_marking old.phase) _ _ (Goes old command piece lines new) (λ yes r. refused R.Phase r.1) (λ not s. (let q = ap is_marking on in absurd cc)) h

    pub now_goes : (want : Want) → old.phase ≡ Marking → StepGcNow setup want old piece lines new → Goes old command piece lines new
    now_goes want on h =
        bool_is (is_marking old.phase) _ _ (Goes old command piece lines new) (λ yes r. refused R.Phase r.1) (λ not s. (let q = ap is_marking on in absurd cc)) h

    pub finish_goes : (want : Want) → new.phase ≡ Marking → StepGcFinish setup want old piece lines new → Goes old command piece lines new
    finish_goes want on h =
        match_bool (is_marking old.phase) _ _ (Goes old command piece lines new)
        (λ rest. match_bool (is_stack_refused want old.stack) _ _ (Goes old command piece lines new) (λ r. refused R.Stack r.1)
        (λ f. (let over : new.phase ≡ Sweeping = ap (λ (s : State). s.phase) f.2 ∙ ap (λ (s : State). s.phase) f.1.done.after in absurd cc)) rest)
        (λ r. refused R.Phase r.1) h

    -- ---- a new object

    unswept : (phase : Phase) (mid : State) (pages : ℕ) (numbers : List ℕ) → phase ≡ Marking → SweepsInPhase phase setup.shape old pages numbers mid → mid ≡ old
    unswept Idle mid pages numbers on h = cc
    unswept Marking mid pages numbers on h = h.1
    unswept Sweeping mid pages numbers on h = cc

    made_goes : (mid : State) (t extra place : ℕ) (x : State) → old.phase ≡ Marking → IsSound setup old → mid ≡ old → new ≡ x
        → x.nodes ≡ mid.nodes ++ new_node setup t extra place ∷ [] → x.may ≡ may_with_new mid.phase mid.may → Goes old command piece lines new
    made_goes mid t extra place x on g same e nodes may = record {
      goes = λ reads after more own entries kept.
          (let f : IsFollowed old.nodes old.may = followed old.phase old.nodes old.may on g.may in
          subst (λ ns. IsKeptUp setup start begun after ns new.may)
          (sym (ap (λ (s : State). s.nodes) e ∙ nodes ∙ ap (λ (s : State). s.nodes ++ new_node setup t extra place ∷ []) same))
          (subst (λ m. IsKeptUp setup start begun after (old.nodes ++ new_node setup t extra place ∷ []) m)
          (sym (ap (λ (s : State). s.may) e ∙ may ∙ ap (λ (s : State). may_with_new s.phase s.may) same ∙ ap (λ ph. may_with_new ph old.may) on))
          (new_kept setup start begun after old.nodes old.may t extra place f.whole (same_kept setup start begun reads after old old more refl refl kept))));
    }

    pub new_goes : (p t extra : ℕ) → old.phase ≡ Marking → IsSound setup old → StepNew setup old p t extra lines new → Goes old command piece lines new
    new_goes p t extra on g h = elim h [
      | inl m ↦ memory m.1
      | inr made ↦
          (let same : made.mid ≡ old = unswept old.phase made.mid made.placed.pages made.numbers on made.placed.swept in
          match_option made.place _ _ (Goes old command piece lines new)
          (λ full. still _ full.after (ap (λ (s : State). s.nodes) same) (ap (λ (s : State). s.may) same))
          (λ a done. made_goes made.mid t extra a _ on g same done.after refl refl)
          made.done)
    ]

    -- ---- the region

    ops_of : (s : State) (entries : List Entry) → AreOthers s entries → All (λ (entry : Entry). IsThreadOp entry.op) entries
    ops_of s entries h k d l = (h k d l).1

    owns : (op : Op) (others : List Entry) → old.phase ≡ Marking → IsSound setup old → TakesOwn old op piece others
        → new.nodes ≡ (took old piece).nodes → new.may ≡ (took old piece).may → Goes old command piece lines new
    owns op others on g takes nodes may = record {
      goes = λ reads after more own entries kept.
          (let last : Entry = owner_entry (took old others) op in
          let from : More (entry_reads old.region (others ++ last ∷ [])) after = subst (λ es. More (entry_reads old.region es) after) takes.piece_is entries in
          let at : took old piece ≡ with_entry (took old others) last = took_own old others piece op takes.piece_is in
          same_kept setup start begun after after (with_entry (took old others) last) new (λ k e. e)
          (nodes ∙ ap (λ (s : State). s.nodes) at) (may ∙ ap (λ (s : State). s.may) at)
          (own_kept setup start begun reads after old others last on (ops_of old others takes.others) g
          (others_sound setup old others takes.others g) more from kept));
    }

    pub export_goes : (p x : ℕ) → old.phase ≡ Marking → IsSound setup old → StepExport old p x piece lines new → Goes old command piece lines new
    export_goes p x on g h =
        match_option (slot_at old p) _ _ (Goes old command piece lines new) (λ r. refused R.Null r.1)
        (λ n done. elim done [
          | inl m ↦ memory m.1
          | inr e ↦ owns (O.Export x n) e.before on g e.takes (ap (λ (s : State). s.nodes) e.after) (ap (λ (s : State). s.may) e.after)
        ]) h

    pub import_goes : (x p : ℕ) → old.phase ≡ Marking → IsSound setup old → StepImport old x p piece lines new → Goes old command piece lines new
    import_goes x p on g h = elim h [
      | inl m ↦ memory m.1
      | inr i ↦ owns (O.Import x) i.before on g i.takes (ap (λ (s : State). s.nodes) i.after) (ap (λ (s : State). s.may) i.after)
    ]

    pub join_goes : old.phase ≡ Marking → IsSound setup old → StepThreadsJoin old piece lines new → Goes old command piece lines new
    join_goes on g h = record {
      goes = λ reads after more own entries kept.
          same_kept setup start begun after after (took old piece) new (λ k e. e) (ap (λ (s : State). s.nodes) h.after) (ap (λ (s : State). s.may) h.after)
          (took_kept setup start begun reads after old piece on (ops_of old piece h.others) g more entries kept);
    }
