-- The threads whose queues aren't empty, up to one of them.
use Rattle.std.proofs.Common.{◌≡◌, ℕ, ◌+◌, ◌-◌, ◌<◌, Bool, true, false, List, [], ◌∷◌, ◌++◌, length, get_or, refl, sym, ap, ◌∙◌, subst, inl, inr, arith, cond, ltb, Contains}
use Rattle.std.specs.List.{All, filter, flat_map, range_with_len}
use Rattle.std.proofs.lemmas.Bool.{cases_Bool, lt-ltb, le-ltb}
use Rattle.std.proofs.lemmas.List.{append-nil, length-append, map-id}
use Rattle.std.proofs.lemmas.List.FromFn.{filter_of_map_range_with_len_more}
use Rattle.std.proofs.lemmas.List.Concat.{flat_map-append}
use Rattle.std.proofs.lemmas.List.Elements.{All-cons}
use Rattle.gc_graph.specs.declared.command.Order.{Order}
use Rattle.gc_graph.specs.declared.line.Line.{Line}
use Rattle.gc_graph.specs.Members.{Contains-head, Contains-cons, was_in, stays_in, in_range, to_range}
use Rattle.thread_queues.specs.Queues.{queue_in, threads_in}
use Rattle.thread_queues.specs.Orders.{out_after}

-- whether the queue of thread j isn't empty
abbrev pub has_orders : List (List Order) → ℕ → Bool
has_orders queues j = ltb 0 (length (queue_in queues j))

-- of the first i threads those whose queues aren't empty
abbrev pub threads_to : List (List Order) → ℕ → List ℕ
threads_to queues i = filter (has_orders queues) (range_with_len 1 i)

-- the next thread is one of them, or not
pub threads_next : (queues : List (List Order)) (i : ℕ)
    → threads_to queues (i + 1) ≡ threads_to queues i ++ filter (has_orders queues) ((i + 1) ∷ [])
threads_next queues i =
    let last : 1 + i ≡ i + 1 = omega arith in
    ap (filter (has_orders queues)) (sym (map-id (range_with_len 1 (i + 1))))
    ∙ filter_of_map_range_with_len_more (has_orders queues) (λ (j : ℕ). j) 1 i (i + 1) last
    ∙ ap (λ xs. filter (has_orders queues) xs ++ filter (has_orders queues) ((i + 1) ∷ [])) (map-id (range_with_len 1 i))

-- one more thread where the next queue isn't empty
pub one_more : (queues : List (List Order)) (i : ℕ) → has_orders queues (i + 1) ≡ true → length (threads_to queues (i + 1)) ≡ length (threads_to queues i) + 1
one_more queues i has =
    ap length (threads_next queues i) ∙ length-append (threads_to queues i) (filter (has_orders queues) ((i + 1) ∷ []))
    ∙ ap (λ b. length (threads_to queues i) + length (cond b ((i + 1) ∷ []) [])) has

-- and none where it is
pub none_more : (queues : List (List Order)) (i : ℕ) → has_orders queues (i + 1) ≡ false → length (threads_to queues (i + 1)) ≡ length (threads_to queues i)
none_more queues i has =
    let none : length (threads_to queues i) + 0 ≡ length (threads_to queues i) = omega arith in
    ap length (threads_next queues i) ∙ length-append (threads_to queues i) (filter (has_orders queues) ((i + 1) ∷ []))
    ∙ ap (λ b. length (threads_to queues i) + length (cond b ((i + 1) ∷ []) [])) has ∙ none

-- the queue of the next thread
pub next_queue : (queues : List (List Order)) (i : ℕ) → queue_in queues (i + 1) ≡ get_or queues i []
next_queue queues i = let e : i + 1 - 1 ≡ i = omega arith in ap (λ k. get_or queues k []) e

-- the queue of the next thread, of which its length is known, isn't empty
pub next_has : (queues : List (List Order)) (i : ℕ) → 0 < length (get_or queues i []) → has_orders queues (i + 1) ≡ true
next_has queues i l = ap (λ q. ltb 0 (length q)) (next_queue queues i) ∙ lt-ltb 0 _ l

-- or is
pub next_none : (queues : List (List Order)) (i : ℕ) → length (get_or queues i []) ≡ 0 → has_orders queues (i + 1) ≡ false
next_none queues i l = ap (λ q. ltb 0 (length q)) (next_queue queues i) ∙ le-ltb 0 _ (omega (arith, l))

-- a thread whose queue isn't empty is one of them
pub has_to_go : (queues : List (List Order)) (i : ℕ) → i < 8 → has_orders queues (i + 1) ≡ true → Contains (threads_in queues) (i + 1)
has_to_go queues i low has = stays_in (has_orders queues) (range_with_len 1 8) (i + 1) (to_range 1 8 (i + 1) (omega arith) (omega (arith, low))) has

-- so each number that is out after it went is
pub running_next : (queues : List (List Order)) (i : ℕ) (orders : List Order) (out : List ℕ) → i < 8 → queue_in queues (i + 1) ≡ orders
    → All (Contains (threads_in queues)) out → All (Contains (threads_in queues)) (out_after (i + 1) orders out)
running_next queues i orders out low is all = elim (cases_Bool (ltb 0 (length orders))) [
  | inl has ↦
      subst (λ b. All (Contains (threads_in queues)) (cond b ((i + 1) ∷ out) out)) (sym has)
      (All-cons (Contains (threads_in queues)) (i + 1) out (has_to_go queues i low (ap (λ q. ltb 0 (length q)) is ∙ has)) all)
  | inr empty ↦ subst (λ b. All (Contains (threads_in queues)) (cond b ((i + 1) ∷ out) out)) (sym empty) all
]

-- ---- what is told of each of them

flat_same : (f g : ℕ → List Line) (xs : List ℕ) → ((x : ℕ) → Contains xs x → f x ≡ g x) → flat_map f xs ≡ flat_map g xs
flat_same f g [] same = refl
flat_same f g (x ∷ xs) same =
    ap (λ l. l ++ flat_map f xs) (same x (Contains-head x xs)) ∙ ap (λ l. g x ++ l) (flat_same f g xs (λ y c. same y (Contains-cons x xs y c)))

flat_one : (p : ℕ → Bool) (g : ℕ → List Line) (j : ℕ) → (p j ≡ false → g j ≡ []) → flat_map g (filter p (j ∷ [])) ≡ g j
flat_one p g j none = elim (cases_Bool (p j)) [
  | inl is ↦ ap (λ b. flat_map g (cond b (j ∷ []) [])) is ∙ append-nil (g j)
  | inr not ↦ ap (λ b. flat_map g (cond b (j ∷ []) [])) not ∙ sym (none not)
]

-- what is told of the next one comes last
pub flat_next : (queues : List (List Order)) (f g : ℕ → List Line) (i : ℕ) → ((k : ℕ) → k < i + 1 → g k ≡ f k)
    → (has_orders queues (i + 1) ≡ false → g (i + 1) ≡ []) → flat_map g (threads_to queues (i + 1)) ≡ flat_map f (threads_to queues i) ++ g (i + 1)
flat_next queues f g i same none =
    ap (flat_map g) (threads_next queues i) ∙ flat_map-append g (threads_to queues i) (filter (has_orders queues) ((i + 1) ∷ []))
    ∙ ap (λ l. l ++ flat_map g (filter (has_orders queues) ((i + 1) ∷ [])))
    (flat_same g f (threads_to queues i) (λ x c. same x (omega (arith, (in_range 1 i x (was_in (has_orders queues) (range_with_len 1 i) x c)).1))))
    ∙ ap (λ l. flat_map f (threads_to queues i) ++ l) (flat_one (has_orders queues) g (i + 1) none)
