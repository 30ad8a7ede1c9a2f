-- Registrations run from the last to the first, so far.
use Rattle.std.proofs.Common.{◌≡◌, ℕ, ◌+◌, ◌-◌, ◌<◌, ◌≤◌, ◌≢◌, Bool, true, false, List, [], ◌∷◌, ◌++◌, length, get_or, set, drop, map, filter, reverse, not, All, refl, sym, ap, ◌∙◌, subst, cond, arith, length-set, get_or-set_other, length-append}
use Rattle.std.proofs.lemmas.List.{drop_more, map_push}
use Rattle.std.proofs.lemmas.Grind.{reverse_onto, drop-set_at}
use Rattle.gc_graph.specs.declared.action.ActionKind.{ActionKind}
use Rattle.gc_graph.specs.State.{Node, Registration}
use Rattle.gc_graph.specs.Pause.{dies, run_order, prefinalised}
use Rattle.callback_table.specs.declared.registry.Registered.{Registered}
use Rattle.callback_table.specs.Registry.{registration_of, registrations_of, pair_of, pairs_run, entries_left, IsRegistered}
use Rattle.callback_table.proofs.Looks.{LooksAlike, dead_alike, stands_alike}
use Rattle.callback_table.proofs.Masking.{prefinalised_last, prefinalised_alike}

-- ---- one more registration

order_more : (nodes : List Node) (r : Registration) (rs : List Registration) → dies nodes r ≡ true
    → run_order nodes (r ∷ rs) ≡ run_order nodes rs ++ r ∷ []
order_more nodes r rs dead =
    ap (λ b. reverse (cond b (r ∷ filter (dies nodes) rs) (filter (dies nodes) rs))) dead ∙ reverse_onto (filter (dies nodes) rs) r []

order_same : (nodes : List Node) (r : Registration) (rs : List Registration) → dies nodes r ≡ false → run_order nodes (r ∷ rs) ≡ run_order nodes rs
order_same nodes r rs alive = ap (λ b. reverse (cond b (r ∷ filter (dies nodes) rs) (filter (dies nodes) rs))) alive

left_same : (nodes : List Node) (e : Registered) (es : List Registered) → dies nodes (registration_of e) ≡ true
    → entries_left nodes (e ∷ es) ≡ entries_left nodes es
left_same nodes e es dead = ap (λ b. cond (not b) (e ∷ entries_left nodes es) (entries_left nodes es)) dead

left_more : (nodes : List Node) (e : Registered) (es : List Registered) → dies nodes (registration_of e) ≡ false
    → entries_left nodes (e ∷ es) ≡ e ∷ entries_left nodes es
left_more nodes e es alive = ap (λ b. cond (not b) (e ∷ entries_left nodes es) (entries_left nodes es)) alive

-- ---- the registrations from i on are done

-- of the old entries those from i on were run or stand from `kept` on, and those before i wait where they stood
pub record IsRun (kinds : List ActionKind) (start : List Node) (old : List Registered) (i : ℕ) (nodes : List Node) (ran : List (ℕ × ℕ))
    (items : List Registered) (kept : ℕ) : Type 0 where
  pub nodes_are : nodes ≡ prefinalised kinds (run_order start (registrations_of (drop i old))) start
  pub ran_are : ran ≡ pairs_run start (drop i old)
  pub left_are : drop kept items ≡ entries_left start (drop i old)
  pub waiting : (k : ℕ) (d : Registered) → k < i → get_or items k d ≡ get_or old k d
  pub counted : length ran + i ≡ kept
  pub inside : kept ≤ length items
  pub length_is : length items ≡ length old

module _ (kinds : List ActionKind) (start : List Node) (old : List Registered) (i : ℕ) (nodes : List Node) (ran : List (ℕ × ℕ))
    (items : List Registered) (kept : ℕ) (e : Registered) (j : ℕ) (up : j ≡ i + 1) (done : IsRun kinds start old j nodes ran items kept)
    (within : i < length old) (read : e ≡ get_or items i e) where
  abbrev run : IsRun kinds start old (i + 1) nodes ran items kept
  run = subst (λ n. IsRun kinds start old n nodes ran items kept) up done

  entry_is : drop i old ≡ e ∷ drop (i + 1) old
  entry_is = drop_more old i e within ∙ ap (λ x. x ∷ drop (i + 1) old) (sym (run.waiting i e (omega arith)) ∙ sym read)

  alike_so_far : LooksAlike start nodes
  alike_so_far =
      subst (LooksAlike start) (sym run.nodes_are) (prefinalised_alike kinds (run_order start (registrations_of (drop (i + 1) old))) start)

  -- what is known of a registration at the start is known when it is looked at
  pub registered_now : (callbacks : ℕ) → All (IsRegistered start callbacks) old → IsRegistered nodes callbacks e
  registered_now callbacks all =
      let then : IsRegistered start callbacks e =
      subst (IsRegistered start callbacks) (sym (run.waiting i e (omega arith)) ∙ sym read) (all i e within) in
      record { stands = stands_alike start nodes e.place e.node alike_so_far then.stands; known = then.known }

  dies_then : (dead : Bool) → dead ≡ dies nodes (registration_of e) → dies start (registration_of e) ≡ dead
  dies_then dead told = sym (dead_alike start nodes e.node alike_so_far) ∙ sym told

  pub one_run : (dead : Bool) (after : List Node) (ran_then : List (ℕ × ℕ)) → dead ≡ true → dead ≡ dies nodes (registration_of e)
      → after ≡ cond dead (prefinalised kinds (registration_of e ∷ []) nodes) nodes → ran_then ≡ ran ++ (e.node, e.callback) ∷ []
      → IsRun kinds start old i after ran_then items kept
  one_run dead after ran_then is told does pushed =
      let dies_start : dies start (registration_of e) ≡ true = dies_then dead told ∙ is in
      let order : run_order start (registrations_of (drop i old))
      ≡ run_order start (registrations_of (drop (i + 1) old)) ++ registration_of e ∷ [] =
      ap (λ es. run_order start (registrations_of es)) entry_is ∙ order_more start (registration_of e) (registrations_of (drop (i + 1) old)) dies_start in
      record {
        nodes_are =
            does ∙ ap (λ b. cond b (prefinalised kinds (registration_of e ∷ []) nodes) nodes) is
            ∙ ap (prefinalised kinds (registration_of e ∷ [])) run.nodes_are
            ∙ sym (prefinalised_last kinds (run_order start (registrations_of (drop (i + 1) old))) (registration_of e) start)
            ∙ ap (λ rs. prefinalised kinds rs start) (sym order);
        ran_are =
            pushed ∙ ap (λ ps. ps ++ (e.node, e.callback) ∷ []) run.ran_are
            ∙ sym (map_push pair_of (run_order start (registrations_of (drop (i + 1) old))) (registration_of e)) ∙ ap (map pair_of) (sym order);
        left_are = run.left_are ∙ sym (left_same start e (drop (i + 1) old) dies_start) ∙ ap (entries_left start) (sym entry_is);
        waiting = λ k d l. run.waiting k d (omega arith);
        counted = omega (arith, run.counted, ap length pushed, length-append ran ((e.node, e.callback) ∷ []));
        inside = run.inside;
        length_is = run.length_is;
      }

  pub one_kept : (dead : Bool) (after : List Node) → dead ≡ false → dead ≡ dies nodes (registration_of e)
      → after ≡ cond dead (prefinalised kinds (registration_of e ∷ []) nodes) nodes
      → IsRun kinds start old i after ran (set items (kept - 1) e) (kept - 1)
  one_kept dead after is told does =
      let stays : dies start (registration_of e) ≡ false = dies_then dead told ∙ is in
      let order : run_order start (registrations_of (drop i old)) ≡ run_order start (registrations_of (drop (i + 1) old)) =
      ap (λ es. run_order start (registrations_of es)) entry_is ∙ order_same start (registration_of e) (registrations_of (drop (i + 1) old)) stays in
      let at : kept - 1 < length items = omega (arith, run.counted, run.inside) in
      let next : kept - 1 + 1 ≡ kept = omega (arith, run.counted) in
      record {
        nodes_are =
            does ∙ ap (λ b. cond b (prefinalised kinds (registration_of e ∷ []) nodes) nodes) is ∙ run.nodes_are
            ∙ ap (λ rs. prefinalised kinds rs start) (sym order);
        ran_are = run.ran_are ∙ ap (map pair_of) (sym order);
        left_are =
            drop-set_at items (kept - 1) (kept - 1) e refl at ∙ ap (λ n. e ∷ drop n items) next ∙ ap (λ es. e ∷ es) run.left_are
            ∙ sym (left_more start e (drop (i + 1) old) stays) ∙ ap (entries_left start) (sym entry_is);
        waiting = λ k d l. (let ne : k ≢ kept - 1 = omega (arith, run.counted) in get_or-set_other items (kept - 1) k e d ne ∙ run.waiting k d (omega arith));
        counted = omega (arith, run.counted);
        inside = omega (arith, run.inside, length-set items (kept - 1) e);
        length_is = length-set items (kept - 1) e ∙ run.length_is;
      }

-- once none waits, those that stand are those that are left
pub left_at_end : (kinds : List ActionKind) (start : List Node) (old : List Registered) (i : ℕ) (nodes : List Node) (ran : List (ℕ × ℕ))
    (items : List Registered) (kept : ℕ) → i ≡ 0 → IsRun kinds start old i nodes ran items kept → drop kept items ≡ entries_left start old
left_at_end kinds start old i nodes ran items kept none run = run.left_are ∙ ap (λ n. entries_left start (drop n old)) none
