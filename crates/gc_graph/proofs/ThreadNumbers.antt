-- The numbers of the lines of threads: orders, starts and joins.
use Rattle.std.proofs.Common.{◌≡◌, ℕ, ◌+◌, ◌-◌, ◌*◌, ◌<◌, ◌≤◌, ◌==◌, Bool, true, false, true≢false, List, [], ◌∷◌, ◌++◌, length, map, get_or, set, All, Option, Some, None, refl, sym, ap, ◌∙◌, subst, inl, inr, arith, nat_lt, ltb-true, lt-ltb, eq-eqb, cond, if◌then◌else◌}
use mathlib.Core.Logic.{◌⊎◌}
use Rattle.std.specs.Prelude.{⊤}
use Rattle.std.specs.List.{Contains, filter, flat_map, range_with_len}
use Rattle.std.proofs.lemmas.Bool.{cases_lt, cases_eq, cond_both}
use Rattle.std.proofs.lemmas.List.{length_push, append-nil, get_or_past, get_or-set_same, get_or-set_other, set_past}
use Rattle.std.proofs.lemmas.List.FromFn.{get_or-range_with_len, length-range_with_len}
use Rattle.std.proofs.lemmas.List.Elements.{All-nil, All-cons, All-head, All-tail, All-append, All-push, All-set, All-map, All-weaker, All-filter, filter_passes, All-contains, All-contains_itself}
use Rattle.std.proofs.lemmas.List.Concat.{flat_map-cons}
use Rattle.std.proofs.lemmas.List.Sums.{count_by-le-length, length-filter}
use Rattle.gc_graph.specs.declared.command.Command.{Command}
use Rattle.gc_graph.specs.declared.command.Command.TheVariants as C
use Rattle.gc_graph.specs.declared.command.Order.{Order}
use Rattle.gc_graph.specs.declared.command.Order.TheVariants as Q
use Rattle.gc_graph.specs.declared.line.Line.{Line}
use Rattle.gc_graph.specs.declared.line.Line.TheVariants as L
use Rattle.gc_graph.specs.declared.region.Entry.{Entry}
use Rattle.gc_graph.specs.declared.region.Op.{Op}
use Rattle.gc_graph.specs.declared.region.Op.TheVariants as O
use Rattle.gc_graph.specs.declared.region.Reply.TheVariants as P
use Rattle.gc_graph.specs.State.{Setup, State}
use Rattle.gc_graph.specs.CycleSteps.{is_marking}
use Rattle.gc_graph.specs.History.{IsLegalFrom}
use Rattle.gc_graph.specs.Outcomes.{took}
use Rattle.gc_graph.specs.RegionSteps.{queue_of, queued, StepAt, threads_with_orders, StepThreadsGo, Answer, op_of, entry_of, AnswersOrder, HasDone, reply_line, entries_by, joined, is_running, StepThreadsJoin}
use Rattle.gc_graph.specs.RegionSteps.Answer.{Replied, Told}
use Rattle.gc_graph.specs.Lawful.{IsAllowedOrder}
use Rattle.gc_graph.specs.ReadBack.{numbers_of_op, numbers_of_reply, IsOf64Bits}
use Rattle.gc_graph.specs.NumbersLaw.{IsWithinLimits}
use Rattle.gc_graph.specs.Members.{stays_in}
use Rattle.gc_graph.proofs.Sound.{IsSound}
use Rattle.gc_graph.proofs.Few.{Small, small_none, small_one, small_two, IsQueued, IsKnown, took_few}
use Rattle.gc_graph.proofs.StepNumbers.{IsCounted, nearly, TellsTotalsTo, IsGood, answered_few, one, still, memory}
use Rattle.gc_graph.proofs.Collections.{took_running}

-- ---- what a list has after one element is written, and what a filter keeps

written_at : {X : Type 0} (P : X → Type 0) (xs : List X) (n m : ℕ) (x d : X) → P x → P (get_or xs m d) → P (get_or (set xs n x) m d)
written_at P xs n m x d here there =
    elim (cases_eq m n) [
      | inr other ↦ subst P (sym (get_or-set_other xs n m x d other)) there
      | inl same ↦ elim (cases_lt n (length xs)) [
        | inl l ↦ subst P (sym (ap (λ k. get_or (set xs n x) k d) same ∙ get_or-set_same xs n x d l)) here
        | inr past ↦ subst P (sym (ap (λ ys. get_or ys m d) (set_past xs n x past))) there
      ]
    ]

filter_head : {X : Type 0} (P : X → Type 0) (b : Bool) (x : X) (rest : List X) → b ≡ true → All P (cond b (x ∷ rest) rest) → P x
filter_head P true x rest e h = All-head P x rest h
filter_head P false x rest e h = absurd (true≢false (sym e))

filter_tail : {X : Type 0} (P : X → Type 0) (b : Bool) (x : X) (rest : List X) → All P (cond b (x ∷ rest) rest) → All P rest
filter_tail P true x rest h = All-tail P x rest h
filter_tail P false x rest h = h

-- what holds of each that passes
filter_back : {X : Type 0} (p : X → Bool) (P : X → Type 0) (xs : List X) → All P (filter p xs) → All (λ x. p x ≡ true → P x) xs
filter_back p P [] h = All-nil (λ x. p x ≡ true → P x)
filter_back p P (x ∷ xs) h =
    All-cons (λ y. p y ≡ true → P y) x xs (λ e. filter_head P (p x) x (filter p xs) e h) (filter_back p P xs (filter_tail P (p x) x (filter p xs) h))

all_after : {X : Type 0} (P : X → Type 0) (xs ys : List X) → All P (xs ++ ys) → All P ys
all_after P [] ys h = h
all_after P (x ∷ xs) ys h = all_after P xs ys (All-tail P x (xs ++ ys) h)

pub all_flat : {X Y : Type 0} (P : Y → Type 0) (f : X → List Y) (xs : List X) → All (λ x. All P (f x)) xs → All P (flat_map f xs)
all_flat P f [] h = All-nil P
all_flat P f (x ∷ xs) h =
    subst (All P) (sym (flat_map-cons f x xs))
    (All-append P (f x) (flat_map f xs) (All-head (λ y. All P (f y)) x xs h) (all_flat P f xs (All-tail (λ y. All P (f y)) x xs h)))

-- ---- what a thread has done

abbrev ReplySmall : Entry → Type 0
ReplySmall entry = All Small (numbers_of_reply entry.reply)

abbrev OpSmall : Entry → Type 0
OpSmall entry = All Small (numbers_of_op entry.op)

abbrev AnswerSmall : Answer → Type 0
AnswerSmall (Replied reply) = All Small (numbers_of_reply reply)
AnswerSmall (Told o n u f) = ⊤

answer_small : (j : ℕ) (op : Option Op) (answer : Answer) (rest : List Entry) → AnswersOrder op answer → All ReplySmall (entry_of j op answer ++ rest)
    → AnswerSmall answer
answer_small j op (Told o n u f) rest a h = tt
answer_small j None (Replied reply) rest a h = absurd a
answer_small j (Some op) (Replied P.NoMemory) rest a h = small_none
answer_small j (Some op) (Replied P.Done) rest a h = small_none
answer_small j (Some op) (Replied P.Null) rest a h = small_none
answer_small j (Some op) (Replied (P.Node n)) rest a h = All-head ReplySmall (record { thread = j; op = op; reply = P.Node n }) rest h

answers_small : (j : ℕ) (orders : List Order) (answers : List Answer) (entries : List Entry) → HasDone j orders answers entries → All ReplySmall entries
    → All AnswerSmall answers
answers_small j [] [] entries h small = All-nil AnswerSmall
answers_small j [] (a ∷ more) entries h small = absurd h
answers_small j (o ∷ os) [] entries h small = absurd h
answers_small j (o ∷ os) (a ∷ more) entries h small =
    let whole : All ReplySmall (entry_of j (op_of o) a ++ h.0) = subst (All ReplySmall) h.2 small in
    All-cons AnswerSmall a more (answer_small j (op_of o) a h.0 h.1 whole)
    (answers_small j os more h.0 h.3 (all_after ReplySmall (entry_of j (op_of o) a) h.0 whole))

op_entries : (j : ℕ) (op : Op) (answer : Answer) → All Small (numbers_of_op op) → All OpSmall (entry_of j (Some op) answer)
op_entries j op (Replied P.NoMemory) small = All-nil OpSmall
op_entries j op (Replied P.Done) small = All-cons OpSmall _ [] small (All-nil OpSmall)
op_entries j op (Replied P.Null) small = All-cons OpSmall _ [] small (All-nil OpSmall)
op_entries j op (Replied (P.Node n)) small = All-cons OpSmall _ [] small (All-nil OpSmall)
op_entries j op (Told o n u f) small = All-nil OpSmall

no_entries : (j : ℕ) (answer : Answer) → All OpSmall (entry_of j None answer)
no_entries j (Replied reply) = All-nil OpSmall
no_entries j (Told o n u f) = All-nil OpSmall

order_entries : (j : ℕ) (order : Order) (answer : Answer) → IsAllowedOrder order → All OpSmall (entry_of j (op_of order) answer)
order_entries j (Q.Copy x y) answer a = op_entries j (O.Copy x y) answer (small_two x y (let l = a.0 in omega arith) (let l = a.1 in omega arith))
order_entries j (Q.Clear x) answer a = op_entries j (O.Clear x) answer (small_one x (omega arith))
order_entries j (Q.Weaken x) answer a = op_entries j (O.Weaken x) answer (small_one x (omega arith))
order_entries j (Q.Upgrade x y) answer a = op_entries j (O.Upgrade x y) answer (small_two x y (let l = a.0 in omega arith) (let l = a.1 in omega arith))
order_entries j Q.Totals answer a = no_entries j answer

ops_small : (j : ℕ) (orders : List Order) (answers : List Answer) (entries : List Entry) → HasDone j orders answers entries → All IsAllowedOrder orders
    → All OpSmall entries
ops_small j [] [] entries h allowed = subst (All OpSmall) (sym h) (All-nil OpSmall)
ops_small j [] (a ∷ more) entries h allowed = absurd h
ops_small j (o ∷ os) [] entries h allowed = absurd h
ops_small j (o ∷ os) (a ∷ more) entries h allowed =
    subst (All OpSmall) (sym h.2)
    (All-append OpSmall (entry_of j (op_of o) a) h.0 (order_entries j o a (All-head IsAllowedOrder o os allowed))
    (ops_small j os more h.0 h.3 (All-tail IsAllowedOrder o os allowed)))

-- ---- queues

queue_allowed : (queues : List (List Order)) (j : ℕ) → All (λ orders. All IsAllowedOrder orders) queues → All IsAllowedOrder (get_or queues j [])
queue_allowed queues j h =
    elim (cases_lt j (length queues)) [
      | inl l ↦ h j [] l
      | inr past ↦ subst (All IsAllowedOrder) (sym (get_or_past queues j [] past)) (All-nil IsAllowedOrder)
    ]

longer : (orders : List Order) (order : Order) → 0 < length (orders ++ order ∷ [])
longer orders order = omega (arith, length_push orders order)

module _ (setup : Setup) (limits : IsWithinLimits setup) (k : ℕ) (low : k < 1000000) (old new : State) (command : Command) (piece : List Entry)
    (lines : List Line) (h : IsCounted k old) (g : IsSound setup old) where
  abbrev Good : Type 0
  Good = IsGood k command old lines new

  still_queued : (j i : ℕ) (order : Order) → IsQueued old.queues i → IsQueued (set old.queues (j - 1) (queue_of old j ++ order ∷ [])) i
  still_queued j i order q = record {
    from = q.from;
    to = q.to;
    some = written_at (λ orders. 0 < length orders) old.queues (j - 1) (i - 1) (queue_of old j ++ order ∷ []) [] (longer (queue_of old j) order) q.some;
  }

  pub at_good : (j : ℕ) (order : Order) → IsAllowedOrder order → StepAt old j order lines new → Good
  at_good j order allowed step = elim step [
    | inl m ↦ memory setup limits k low old new command lines h g m
    | inr d ↦
        still setup limits k low old new command lines h g (queued old j order) L.Queued refl
        (record {
          nodes_few = h.nodes_few;
          commands_few = h.commands_few;
          finalised_few = h.finalised_few;
          words = h.words;
          callbacks = h.callbacks;
          shared = record {
            slots = h.shared.slots;
            orders = All-set (λ orders. All IsAllowedOrder orders) old.queues (j - 1) (queue_of old j ++ order ∷ [])
                (All-push IsAllowedOrder (queue_of old j) order (queue_allowed old.queues (j - 1) h.shared.orders) allowed) h.shared.orders;
            threads_few = h.shared.threads_few;
            threads = λ i c. still_queued j i order (h.shared.threads i c);
            entries = h.shared.entries;
          };
        })
        d.1 d.0 small_none
  ]

  -- ---- the start of the threads

  abbrev Waits : ℕ → Bool
  Waits j = nat_lt 0 (length (queue_of old j))

  in_range : All (λ j. (1 ≤ j) × (j ≤ 8)) (range_with_len 1 8)
  in_range i d l =
      let long = length-range_with_len 1 8 in
      let inside : i < 8 = omega arith in
      (omega (arith, get_or-range_with_len 1 8 i d inside), omega (arith, get_or-range_with_len 1 8 i d inside))

  waits : All (IsQueued old.queues) (threads_with_orders old)
  waits i d l =
      let both = All-filter Waits (λ j. (1 ≤ j) × (j ≤ 8)) (range_with_len 1 8) in_range i d l in
      record { from = both.0; to = both.1; some = ltb-true 0 _ (filter_passes Waits (range_with_len 1 8) i d l) }

  in_all : (j : ℕ) → 1 ≤ j → j ≤ 8 → Contains (range_with_len 1 8) j
  in_all j from to =
      let long = length-range_with_len 1 8 in
      (j - 1, omega arith, get_or-range_with_len 1 8 (j - 1) j (omega arith) ∙ (let e : 1 + (j - 1) ≡ j = omega arith in e))

  runs_on : (j : ℕ) → Contains old.running j → Contains (threads_with_orders old) j
  runs_on j c =
      let q : IsQueued old.queues j = h.shared.threads j c in
      stays_in Waits (range_with_len 1 8) j (in_all j q.from q.to) (lt-ltb 0 (length (queue_of old j)) q.some)

  known_on : (entry : Entry) → IsKnown old.running entry → IsKnown (threads_with_orders old) entry
  known_on entry known = elim known [ inl small ↦ inl small | inr r ↦ inr (runs_on entry.thread r.0, r.1) ]

  pub go_good : command ≡ C.ThreadsGo → StepThreadsGo old lines new → Good
  go_good is step = elim step [
    | inl m ↦ still setup limits k low old new command lines h g (record old { awaiting = true }) L.Memory refl h m.1 m.0 small_none
    | inr d ↦
        (let few : length (threads_with_orders old) ≤ 8 =
        (let e = length-filter Waits (range_with_len 1 8) in let l = count_by-le-length Waits (range_with_len 1 8) in let long = length-range_with_len 1 8 in
        omega arith) in
        let gone : State = record old { running = threads_with_orders old; awaiting = true } in
        let counted : IsCounted k gone = record {
          nodes_few = h.nodes_few;
          commands_few = h.commands_few;
          finalised_few = h.finalised_few;
          words = h.words;
          callbacks = h.callbacks;
          shared = record {
            slots = h.shared.slots;
            orders = h.shared.orders;
            threads_few = few;
            threads = λ j c. All-contains (IsQueued old.queues) (threads_with_orders old) j waits c;
            entries = All-weaker (IsKnown old.running) (IsKnown (threads_with_orders old)) known_on old.unprinted h.shared.entries;
          };
        } in
        record {
          few = subst (λ (s : State). IsCounted (k + 1) s) (sym d.1) (answered_few k gone (nearly k gone counted));
          numbers =
              inl (one setup limits k low old new command lines h g (L.Going (length (threads_with_orders old))) d.0
              (small_one (length (threads_with_orders old)) (omega arith)));
          runs = inl is;
        })
  ]

  -- ---- the join

  abbrev After : State
  After = took old piece

  joined_few : IsCounted k After → IsCounted k (joined After)
  joined_few few = record {
    nodes_few = few.nodes_few;
    commands_few = few.commands_few;
    finalised_few = few.finalised_few;
    words = few.words;
    callbacks = few.callbacks;
    shared = record {
      slots = few.shared.slots;
      orders =
          All-map (λ orders. All IsAllowedOrder orders) (λ j. if is_running After j then [] else queue_of After j) (range_with_len 1 8)
          (λ i d l. cond_both (is_running After _) [] (queue_of After _) (All IsAllowedOrder) (λ e. All-nil IsAllowedOrder)
          (λ e. queue_allowed After.queues _ few.shared.orders));
      threads_few = omega arith;
      threads = λ j c. absurd (let l = c.1 in omega arith);
      entries = All-nil (IsKnown []);
    };
  }

  abbrev Fits : Line → Type 0
  Fits line = IsOf64Bits line ⊎ TellsTotalsTo old.running line

  thread_small : (j : ℕ) → Contains old.running j → Small j
  thread_small j c = (let to = (h.shared.threads j c).to in omega arith)

  known_reply : (entry : Entry) → IsKnown old.running entry → ReplySmall entry
  known_reply entry known = elim known [
    | inl small ↦
        all_after Small (numbers_of_op entry.op) (numbers_of_reply entry.reply)
        (All-tail Small entry.thread (numbers_of_op entry.op ++ numbers_of_reply entry.reply) small)
    | inr r ↦ r.1
  ]

  reply_fits : (j : ℕ) (answer : Answer) → Contains old.running j → AnswerSmall answer → Fits (reply_line j answer)
  reply_fits j (Replied reply) c small = inl (All-cons Small j (numbers_of_reply reply) (thread_small j c) small)
  reply_fits j (Told o n u f) c small = inr (c, thread_small j c)

  module _ (d : StepThreadsJoin old piece lines new) (entries : All (IsKnown old.running) After.unprinted) where
    done : (j : ℕ) → Contains old.running j → HasDone j (queue_of old j) (d.answers j) (entries_by j After.unprinted)
    done j c = d.done j c

    replies : All Fits (flat_map (λ j. map (reply_line j) (d.answers j)) old.running)
    replies =
        all_flat Fits (λ j. map (reply_line j) (d.answers j)) old.running
        (All-weaker (Contains old.running) (λ j. All Fits (map (reply_line j) (d.answers j)))
        (λ j c. All-map Fits (reply_line j) (d.answers j)
        (All-weaker AnswerSmall (λ answer. Fits (reply_line j answer)) (λ answer small. reply_fits j answer c small) (d.answers j)
        (answers_small j (queue_of old j) (d.answers j) (entries_by j After.unprinted) (done j c)
        (All-filter (λ (entry : Entry). entry.thread == j) ReplySmall After.unprinted
        (All-weaker (IsKnown old.running) ReplySmall known_reply After.unprinted entries)))))
        old.running (All-contains_itself old.running))

    op_of_thread : (i : ℕ) (e : Entry) → i < length After.unprinted → Contains old.running (get_or After.unprinted i e).thread
        → OpSmall (get_or After.unprinted i e)
    op_of_thread i e l c =
        let j : ℕ = (get_or After.unprinted i e).thread in
        filter_back (λ (entry : Entry). entry.thread == j) OpSmall After.unprinted
        (ops_small j (queue_of old j) (d.answers j) (entries_by j After.unprinted) (done j c) (queue_allowed old.queues (j - 1) h.shared.orders)) i e l
        (eq-eqb j j refl)

    entry_lines : All Fits (map (λ entry. L.Entry entry) After.unprinted)
    entry_lines =
        All-map Fits (λ entry. L.Entry entry) After.unprinted
        (λ i e l. elim (entries i e l) [
          | inl small ↦ inl small
          | inr r ↦
              inl (All-cons Small (get_or After.unprinted i e).thread _ (thread_small _ r.0)
              (All-append Small (numbers_of_op (get_or After.unprinted i e).op) (numbers_of_reply (get_or After.unprinted i e).reply)
              (op_of_thread i e l r.0) r.1))
        ])

    joined_lines : All Fits lines
    joined_lines =
        let told : List Line = flat_map (λ j. map (reply_line j) (d.answers j)) old.running in
        let made : List Line = map (λ entry. L.Entry entry) After.unprinted in
        subst (All Fits) (sym d.lines_are)
        (All-append Fits (told ++ made) (L.Joined (length old.running) ∷ []) (All-append Fits told made replies entry_lines)
        (All-cons Fits (L.Joined (length old.running)) [] (inl (small_one (length old.running) (let l = h.shared.threads_few in omega arith))) (All-nil Fits)))

  pub join_good : command ≡ C.ThreadsJoin → StepThreadsJoin old piece lines new → Good
  join_good is d =
      let legal : IsLegalFrom old.region (is_marking old.phase) (piece ++ []) = subst (IsLegalFrom old.region (is_marking old.phase)) (sym (append-nil piece)) d.legal in
      let few : IsCounted k After = took_few setup k k (16777216 * k) (omega arith) old piece [] (is_marking old.phase) h g d.others legal in
      let entries : All (IsKnown old.running) After.unprinted = subst (λ running. All (IsKnown running) After.unprinted) (took_running old piece) few.shared.entries in
      record {
        few = subst (λ (s : State). IsCounted (k + 1) s) (sym d.after) (answered_few k (joined After) (nearly k (joined After) (joined_few few)));
        numbers = inr (is, joined_lines d entries);
        runs = inr (inr (ap (λ (s : State). s.running) d.after));
      }
