-- For which nodes a pause runs weak callbacks, what they are shown, and what they meet.
use Rattle.std.proofs.Common.{◌≡◌, ℕ, zero, suc, ◌+◌, ◌*◌, ◌/◌, ◌%◌, ◌<◌, ◌==◌, ◌&&◌, not, Bool, true, false, List, [], ◌∷◌, ◌++◌, length, map, get_or, filter, refl, sym, ap, ◌∙◌, arith, append_assoc, if◌then◌else◌}
use Rattle.std.specs.List.{flat_map, range_with_len}
use Rattle.std.proofs.lemmas.Bool.{true≢false, and_parts, and_from, cond_both, ne_eqb, not_from_false}
use Rattle.std.proofs.lemmas.List.{map-append}
use Rattle.std.proofs.lemmas.List.Elements.{All-contains}
use Rattle.std.proofs.lemmas.List.Kept.{IsStrictlyIncreasing-filter}
use Rattle.std.proofs.lemmas.Simd.{map-map}
use Rattle.gc_graph.specs.declared.kind.Kind.{Kind}
use Rattle.gc_graph.specs.declared.kind.Kind.TheVariants.{Strong, Weak, Pair, Plain}
use Rattle.gc_graph.specs.declared.kind.Value.{Value}
use Rattle.gc_graph.specs.declared.kind.Value.TheVariants.{Null}
use Rattle.gc_graph.specs.declared.line.Line.{Line}
use Rattle.gc_graph.specs.declared.line.Line.TheVariants as L
use Rattle.gc_graph.specs.Graph.{Object}
use Rattle.gc_graph.specs.State.{Setup, State, ObjectType, Node, Registration, node_at, no_type, type_at, is_live, is_dead}
use Rattle.gc_graph.specs.Fields.{kind_of_field, word_of_field}
use Rattle.gc_graph.specs.Outcomes.{finalise_lines}
use Rattle.gc_graph.specs.Actions.{shown_words, action_of, acted}
use Rattle.gc_graph.specs.Pause.{is_dead_at, names_dead, mask_of, kind_of_callback, run_order, prefinalise_lines}
use Rattle.gc_graph.specs.WeakCalls.{WeakCall, dying_words, dying_mask, weak_call, calls_for, weak_calls, shown_under, weakcall_lines}
use Rattle.gc_graph.specs.Paused.{callback_lines}
use Rattle.gc_graph.specs.WeakCallLaw.{LosesWord, LosesSome, tells_weak_callback, RunsWeakCallbacks, PausesRunWeakCallbacks, ShowsWhatIsLost, CallsShowWhatIsLost, WeakCallbacksMeetWhatIsLeft}
use Rattle.gc_graph.specs.Members.{has_passed, stays_in, below_ranged}
use Rattle.gc_graph.specs.NodeNumbers.{live_below}
use Rattle.gc_graph.proofs.Shapes.{word_at, word_at_is}
use Rattle.gc_graph.proofs.RegionLaws.{other_flags}
use Rattle.gc_graph.proofs.WeakReads.{true_is_live}
use Rattle.gc_graph.proofs.ClearingLaws.{named}
use Rattle.gc_graph.proofs.HeldLaws.{up_range}
use Rattle.gc_graph.proofs.Called.{each_call}
use Rattle.gc_graph.proofs.PauseRuns.{IsRun, passing, pause_runs}
use Rattle.gc_graph.proofs.PrefinalizerLaws.{prefinalizers_told}

-- ---- flags and the number that stands for them

some_flag : (flags : List Bool) → 0 < mask_of flags → (i : ℕ) × (get_or flags i false ≡ true)
some_flag [] some = absurd (omega (arith, some))
some_flag (true ∷ flags) some = (0, refl)
some_flag (false ∷ flags) some = let rest = some_flag flags (omega (arith, some)) in (suc rest.0, rest.1)

flag_counts : (flags : List Bool) (i : ℕ) → get_or flags i false ≡ true → 0 < mask_of flags
flag_counts [] i on = absurd (true≢false (sym on))
flag_counts (true ∷ flags) i on = omega arith
flag_counts (false ∷ flags) zero on = absurd (true≢false (sym on))
flag_counts (false ∷ flags) (suc i) on = omega (arith, flag_counts flags i on)

counted : (n : ℕ) → 0 < n → not (n == 0) ≡ true
counted n some = not_from_false (n == 0) (ne_eqb n 0 (λ none. omega (arith, some, none)))

counts : (n : ℕ) → not (n == 0) ≡ true → 0 < n
counts zero some = absurd (true≢false (sym some))
counts (suc n) some = omega arith

lowest_is : (flag : Bool) (rest : ℕ) (word : ℕ) → (if ((if flag then 1 else 0) + 2 * rest) % 2 == 0 then word else 2) ≡ (if flag then 2 else word)
lowest_is true rest word = (let e : (1 + 2 * rest) % 2 ≡ 1 = omega arith in ap (λ k. if k == 0 then word else 2) e)
lowest_is false rest word = (let e : (0 + 2 * rest) % 2 ≡ 0 = omega arith in ap (λ k. if k == 0 then word else 2) e)

-- ---- what is shown

shown_count : (mask : ℕ) (words : List ℕ) → length (shown_under mask words) ≡ length words
shown_count mask [] = refl
shown_count mask (word ∷ words) = ap suc (shown_count (mask / 2) words)

shown_at : (flags : List Bool) (words : List ℕ) (i : ℕ) → i < length words
    → get_or (shown_under (mask_of flags) words) i 0 ≡ (if get_or flags i false then 2 else get_or words i 0)
shown_at flags [] i low = absurd (omega (arith, low))
shown_at [] (word ∷ words) zero low = refl
shown_at [] (word ∷ words) (suc i) low = shown_at [] words i (omega (arith, low))
shown_at (flag ∷ flags) (word ∷ words) zero low = lowest_is flag (mask_of flags) word
shown_at (flag ∷ flags) (word ∷ words) (suc i) low =
    ap (λ mask. get_or (shown_under mask words) i 0) (other_flags flag (mask_of flags)) ∙ shown_at flags words i (omega (arith, low))

-- ---- which words are lost

module _ (dead : ℕ → Bool) where
  weak_flag : (kinds : List Kind) (values : List Value) (f : ℕ) → get_or kinds f Plain ≡ Weak
      → get_or (dying_words dead kinds values) (word_at kinds f) false ≡ names_dead dead (get_or values (word_at kinds f) Null)
  weak_flag [] values f e = absurd cc
  weak_flag (Strong ∷ kinds) [] f e = refl
  weak_flag (Weak ∷ kinds) [] f e = refl
  weak_flag (Pair ∷ kinds) [] f e = refl
  weak_flag (Plain ∷ kinds) [] f e = refl
  weak_flag (Strong ∷ kinds) (x ∷ xs) zero e = absurd cc
  weak_flag (Weak ∷ kinds) (x ∷ xs) zero e = refl
  weak_flag (Plain ∷ kinds) (x ∷ xs) zero e = absurd cc
  weak_flag (Pair ∷ kinds) (x ∷ xs) zero e = absurd cc
  weak_flag (Pair ∷ kinds) (x ∷ []) (suc f) e = refl
  weak_flag (Strong ∷ kinds) (x ∷ xs) (suc f) e = weak_flag kinds xs f e
  weak_flag (Weak ∷ kinds) (x ∷ xs) (suc f) e = weak_flag kinds xs f e
  weak_flag (Plain ∷ kinds) (x ∷ xs) (suc f) e = weak_flag kinds xs f e
  weak_flag (Pair ∷ kinds) (x ∷ y ∷ xs) (suc f) e = weak_flag kinds xs f e

  -- a weak field that has word i, which names a dead node
  abbrev IsLostAt : List Kind → List Value → ℕ → Type 0
  IsLostAt kinds values i = (f : ℕ) × (get_or kinds f Plain ≡ Weak) × (word_at kinds f ≡ i) × (names_dead dead (get_or values i Null) ≡ true)

  flagged : (kinds : List Kind) (values : List Value) (i : ℕ) → get_or (dying_words dead kinds values) i false ≡ true → IsLostAt kinds values i
  flagged [] values i on = absurd (true≢false (sym on))
  flagged (Strong ∷ kinds) [] i on = absurd (true≢false (sym on))
  flagged (Weak ∷ kinds) [] i on = absurd (true≢false (sym on))
  flagged (Pair ∷ kinds) [] i on = absurd (true≢false (sym on))
  flagged (Plain ∷ kinds) [] i on = absurd (true≢false (sym on))
  flagged (Weak ∷ kinds) (x ∷ xs) zero on = (0, refl, refl, on)
  flagged (Strong ∷ kinds) (x ∷ xs) zero on = absurd (true≢false (sym on))
  flagged (Plain ∷ kinds) (x ∷ xs) zero on = absurd (true≢false (sym on))
  flagged (Pair ∷ kinds) (x ∷ []) zero on = absurd (true≢false (sym on))
  flagged (Pair ∷ kinds) (x ∷ []) (suc i) on = absurd (true≢false (sym on))
  flagged (Pair ∷ kinds) (x ∷ y ∷ xs) zero on = absurd (true≢false (sym on))
  flagged (Pair ∷ kinds) (x ∷ y ∷ xs) (suc zero) on = absurd (true≢false (sym on))
  flagged (Weak ∷ kinds) (x ∷ xs) (suc i) on = let w = flagged kinds xs i on in (suc w.0, w.1, ap suc w.2, w.3)
  flagged (Strong ∷ kinds) (x ∷ xs) (suc i) on = let w = flagged kinds xs i on in (suc w.0, w.1, ap suc w.2, w.3)
  flagged (Plain ∷ kinds) (x ∷ xs) (suc i) on = let w = flagged kinds xs i on in (suc w.0, w.1, ap suc w.2, w.3)
  flagged (Pair ∷ kinds) (x ∷ y ∷ xs) (suc (suc i)) on = let w = flagged kinds xs i on in (suc w.0, w.1, ap (λ k. suc (suc k)) w.2, w.3)

module _ (nodes : List Node) (n : ℕ) where
  abbrev Held : Object
  Held = (node_at nodes n).object

  abbrev Flags : List Bool
  Flags = dying_words (is_dead_at nodes) Held.kinds Held.values

  lost_from : (i : ℕ) → get_or Flags i false ≡ true → LosesWord nodes nodes n i
  lost_from i on =
      let w = flagged (is_dead_at nodes) Held.kinds Held.values i on in
      let d = named nodes (get_or Held.values i Null) w.3 in
      record { field = w.0; weak = w.1; word_is = word_at_is Held.kinds w.0 ∙ w.2; target = d.0; names = d.1; dead = d.2 }

  lost_to : (i : ℕ) → LosesWord nodes nodes n i → get_or Flags i false ≡ true
  lost_to i h =
      let at : word_at Held.kinds h.field ≡ i = sym (word_at_is Held.kinds h.field) ∙ h.word_is in
      ap (λ k. get_or Flags k false) (sym at) ∙ weak_flag (is_dead_at nodes) Held.kinds Held.values h.field h.weak
      ∙ ap (λ k. names_dead (is_dead_at nodes) (get_or Held.values k Null)) at ∙ ap (names_dead (is_dead_at nodes)) h.names ∙ ap is_dead h.dead

  -- the condition under which the node's callbacks run
  abbrev Runs : Bool
  Runs = is_live (node_at nodes n).life && not (dying_mask nodes n == 0)

  loses_from : Runs ≡ true → LosesSome nodes nodes n
  loses_from on =
      let both = and_parts (is_live (node_at nodes n).life) (not (dying_mask nodes n == 0)) on in
      let some = some_flag Flags (counts (dying_mask nodes n) both.1) in
      record { lives = true_is_live (node_at nodes n).life both.0; word = some.0; loses = lost_from some.0 some.1 }

  loses_to : LosesSome nodes nodes n → Runs ≡ true
  loses_to h =
      and_from (is_live (node_at nodes n).life) (not (dying_mask nodes n == 0)) (ap is_live h.lives)
      (counted (dying_mask nodes n) (flag_counts Flags h.word (lost_to h.word h.loses)))

-- the same is lost of nodes that have the same objects, and the same lives after
module _ (nodes after others later : List Node) (objects : (n : ℕ) → (node_at nodes n).object ≡ (node_at others n).object)
    (lives : (n : ℕ) → (node_at after n).life ≡ (node_at later n).life) where
  same_word : (n i : ℕ) → LosesWord nodes after n i → LosesWord others later n i
  same_word n i h = record {
    field = h.field;
    weak = ap (λ (o : Object). kind_of_field o h.field) (sym (objects n)) ∙ h.weak;
    word_is = ap (λ (o : Object). word_of_field o h.field) (sym (objects n)) ∙ h.word_is;
    target = h.target;
    names = ap (λ (o : Object). get_or o.values i Null) (sym (objects n)) ∙ h.names;
    dead = sym (lives h.target) ∙ h.dead;
  }

  same_loss : (n : ℕ) → LosesSome nodes after n → LosesSome others later n
  same_loss n h = record { lives = sym (lives n) ∙ h.lives; word = h.word; loses = same_word n h.word h.loses }

-- ---- the lines

module _ (types : List ObjectType) (nodes : List Node) where
  abbrev line_of : WeakCall → Line
  line_of c = L.WeakCall c.node c.callback

  abbrev listed : ℕ → List ℕ
  listed n = (get_or types (node_at nodes n).object.ty no_type).weak_callbacks

  abbrev told_of : ℕ → List Line
  told_of n = map (λ d. L.WeakCall n d) (listed n)

  one_told : (runs : Bool) (n : ℕ) (rest : List ℕ)
      → map line_of (if runs then map (weak_call n (dying_mask nodes n)) (listed n) else []) ++ flat_map told_of rest
      ≡ flat_map told_of (if runs then n ∷ rest else rest)
  one_told true n rest = ap (λ ls. ls ++ flat_map told_of rest) (map-map line_of (weak_call n (dying_mask nodes n)) (listed n))
  one_told false n rest = refl

  calls_told : (ns : List ℕ) → map line_of (flat_map (calls_for types nodes) ns) ≡ flat_map told_of (filter (Runs nodes) ns)
  calls_told [] = refl
  calls_told (n ∷ ns) =
      map-append line_of (calls_for types nodes n) (flat_map (calls_for types nodes) ns)
      ∙ ap (λ ls. map line_of (calls_for types nodes n) ++ ls) (calls_told ns)
      ∙ one_told (Runs nodes n) n (filter (Runs nodes) ns)

weak_of_run : (calls : List WeakCall) (registrations : List Registration)
    → filter tells_weak_callback (callback_lines calls registrations) ≡ weakcall_lines calls
weak_of_run [] [] = refl
weak_of_run [] (r ∷ registrations) = weak_of_run [] registrations
weak_of_run (c ∷ calls) registrations = ap (λ ls. L.WeakCall c.node c.callback ∷ ls) (weak_of_run calls registrations)

-- ---- a pause

those_that_lose : (setup : Setup) (old : State) (lines : List Line) (new : State) → IsRun setup old lines new → RunsWeakCallbacks setup old lines new
those_that_lose setup old lines new h =
    let nodes : List Node = h.judged_nodes in
    let calls : List WeakCall = weak_calls setup.types nodes in
    let all : List ℕ = range_with_len 0 (length nodes) in
    let holders : List ℕ = filter (Runs nodes) all in
    let told : filter tells_weak_callback lines ≡ weakcall_lines calls =
    passing tells_weak_callback (λ n. refl) h.numbers h.line lines _ h.no_weak h.lines_are ∙ weak_of_run calls (run_order nodes old.registrations) in
    record {
      holders = holders;
      just = λ n. (
        λ c. same_loss nodes nodes old.nodes new.nodes h.objects (λ m. sym (h.lives m)) n (loses_from nodes n (has_passed (Runs nodes) all n c)),
        λ loses. (let some = same_loss old.nodes new.nodes nodes nodes (λ m. sym (h.objects m)) h.lives n loses in
            stays_in (Runs nodes) all n (below_ranged (length nodes) n (live_below nodes n some.lives)) (loses_to nodes n some)),
      );
      ascending = IsStrictlyIncreasing-filter (Runs nodes) all (up_range (length nodes));
      told =
          told ∙ calls_told setup.types nodes all
          ∙ (λ i. flat_map (λ n. map (λ d. L.WeakCall n d) (type_at setup (h.objects n i).ty).weak_callbacks) holders);
      before = finalise_lines h.numbers ++ h.line ∷ [];
      order =
          h.lines_are ∙ sym (append_assoc (finalise_lines h.numbers) (h.line ∷ []) (callback_lines calls (run_order nodes old.registrations)))
          ∙ ap (λ ls. (finalise_lines h.numbers ++ h.line ∷ []) ++ (ls ++ prefinalise_lines (run_order nodes old.registrations))) (sym told)
          ∙ ap (λ ls. (finalise_lines h.numbers ++ h.line ∷ []) ++ (filter tells_weak_callback lines ++ ls)) (sym (prefinalizers_told setup old lines new h));
    }

pub pauses_run : PausesRunWeakCallbacks
pauses_run setup old new want piece lines kept dead crew traced walked valid step there =
    those_that_lose setup old lines new (pause_runs setup old new want piece lines kept dead crew traced walked valid step there)

-- ---- the calls

shows : (nodes : List Node) (c : WeakCall) → c.mask ≡ dying_mask nodes c.node → ShowsWhatIsLost nodes c
shows nodes c is = record {
  count = λ words. shown_count c.mask words;
  lost = λ words i low loses.
      ap (λ mask. get_or (shown_under mask words) i 0) is ∙ shown_at (Flags nodes c.node) words i low
      ∙ ap (λ b. if b then 2 else get_or words i 0) (lost_to nodes c.node i loses);
  left = λ words i low keeps.
      ap (λ mask. get_or (shown_under mask words) i 0) is ∙ shown_at (Flags nodes c.node) words i low
      ∙ cond_both (get_or (Flags nodes c.node) i false) 2 (get_or words i 0) (λ w. w ≡ get_or words i 0)
      (λ on. absurd (keeps (lost_from nodes c.node i on))) (λ off. refl);
}

pub calls_show_what_is_lost : CallsShowWhatIsLost
calls_show_what_is_lost types nodes c there =
    shows nodes c (All-contains (λ (call : WeakCall). call.mask ≡ dying_mask nodes call.node) (weak_calls types nodes) c
    (each_call (λ call. call.mask ≡ dying_mask nodes call.node) types nodes (λ n low on k d l. refl)) there)

pub weak_callbacks_meet_what_is_left : WeakCallbacksMeetWhatIsLeft
weak_callbacks_meet_what_is_left callbacks [] c nodes = refl
weak_callbacks_meet_what_is_left callbacks (x ∷ earlier) c nodes =
    weak_callbacks_meet_what_is_left callbacks earlier c
    (acted nodes x.node (action_of (kind_of_callback callbacks x.callback) (shown_under x.mask (shown_words (node_at nodes x.node)))))
