-- Lists of registrations: what joins them, and what a pause takes away.
use Rattle.std.proofs.Common.{◌≡◌, ℕ, ◌-◌, ◌<◌, ◌==◌, Bool, true, false, true≢false, not, All, List, [], ◌∷◌, ◌++◌, length, map, filter, take, drop, cond, refl, sym, ap, ◌∙◌, arith}
use Rattle.std.proofs.lemmas.List.{append-nil, length-append, length-map, map-append}
use Rattle.std.proofs.lemmas.List.Elements.{All-head, All-tail, All-nil, All-cons}
use Rattle.std.proofs.Math.Seq.{take-append_seam, drop-append_seam}
use Rattle.gc_graph.specs.declared.line.Line.TheVariants as L
use Rattle.gc_graph.specs.State.{Setup, Node, Registration, IsLive, type_at}
use Rattle.gc_graph.specs.Pause.{dies, run_order, prefinalise_lines}
use Rattle.gc_graph.specs.Paused.{callback_lines}
use Rattle.gc_graph.specs.WeakCalls.{WeakCall, weakcall_lines}
use Rattle.callback_table.specs.declared.registrations.LastRegistered.{LastRegistered}
use Rattle.callback_table.specs.LastRegistrations.{weakly_taken, weakly_placed}
use Rattle.callback_table.specs.Registrations.{weakly_registered_all, last_of, weakly_without, weakly_placed_last}
use Rattle.callback_table.specs.WeakRegistry.{WeakRegistration, weakly_registered, pair_called}
use Rattle.callback_table.specs.declared.registry.Registered.{Registered}
use Rattle.callback_table.specs.Registry.{registration_of, registrations_of, registered, placed_at, pair_of, pairs_run, entries_left}
use Rattle.heap_cycle.specs.Changes.{placed_last}
use Rattle.heap_cycle.specs.declared.parts.Parts.{Parts}
use Rattle.heap_cycle.specs.Parts.{setup_of, registered_in, unregistered}
use Rattle.heap_cycle.specs.Printed.{all_ran}

-- ---- a new object's

placed_each : (n place : ℕ) (cs : List ℕ) → map (placed_at place) (map (registered n 0) cs) ≡ map (registered n place) cs
placed_each n place [] = refl
placed_each n place (c ∷ cs) = ap (λ es. registered n place c ∷ es) (placed_each n place cs)

before_last : (n : ℕ) (xs : List Registered) (cs : List ℕ) → length (xs ++ map (registered n 0) cs) - length cs ≡ length xs
before_last n xs cs = omega (arith, length-append xs (map (registered n 0) cs), length-map cs (registered n 0))

-- the last registrations got their place
placed_is : (n place : ℕ) (xs : List Registered) (cs : List ℕ) → placed_last (length cs) place (xs ++ map (registered n 0) cs) ≡ xs ++ map (registered n place) cs
placed_is n place xs cs =
    let ys : List Registered = map (registered n 0) cs in
    ap (λ k. take k (xs ++ ys) ++ map (placed_at place) (drop k (xs ++ ys))) (before_last n xs cs)
    ∙ ap (λ front. front ++ map (placed_at place) (drop (length xs) (xs ++ ys))) (take-append_seam xs ys)
    ∙ ap (λ back. xs ++ map (placed_at place) back) (drop-append_seam xs ys)
    ∙ ap (λ back. xs ++ back) (placed_each n place cs)

-- or they were taken away
taken_away : (n : ℕ) (xs : List Registered) (cs : List ℕ)
    → take (length (xs ++ map (registered n 0) cs) - length cs) (xs ++ map (registered n 0) cs) ≡ xs
taken_away n xs cs =
    let ys : List Registered = map (registered n 0) cs in ap (λ k. take k (xs ++ ys)) (before_last n xs cs) ∙ take-append_seam xs ys

-- the registration of the callback for the node
abbrev registration_for : ℕ → ℕ → Registration
registration_for n c = record { node = n; callback = c }

without_places : (n place : ℕ) (cs : List ℕ) → map registration_of (map (registered n place) cs) ≡ map (registration_for n) cs
without_places n place [] = refl
without_places n place (c ∷ cs) = ap (λ rs. registration_for n c ∷ rs) (without_places n place cs)

-- callbacks registered for a node after others add one registration each, without the node's place
pub registrations_join : (n place : ℕ) (xs : List Registered) (cs : List ℕ)
    → registrations_of (xs ++ map (registered n place) cs) ≡ registrations_of xs ++ map (registration_for n) cs
registrations_join n place xs cs =
    map-append registration_of xs (map (registered n place) cs) ∙ ap (λ rs. registrations_of xs ++ rs) (without_places n place cs)

-- ---- those of live nodes

-- where the registrations of entries are all of live nodes, so are the entries
pub live_entries : (nodes : List Node) (entries : List Registered) → All (λ r. IsLive nodes r.node) (registrations_of entries) → All (λ e. IsLive nodes e.node) entries
live_entries nodes [] live = All-nil (λ (e : Registered). IsLive nodes e.node)
live_entries nodes (e ∷ entries) live =
    All-cons (λ (e : Registered). IsLive nodes e.node) e entries (All-head (λ (r : Registration). IsLive nodes r.node) (registration_of e) (registrations_of entries) live)
    (live_entries nodes entries (All-tail (λ (r : Registration). IsLive nodes r.node) (registration_of e) (registrations_of entries) live))

-- ---- at a pause

one_left : (e : Registered) (entries : List Registered) (rs : List Registration) (kept : Bool) → registrations_of entries ≡ rs
    → registrations_of (cond kept (e ∷ entries) entries) ≡ cond kept (registration_of e ∷ rs) rs
one_left e entries rs true same = ap (λ more. registration_of e ∷ more) same
one_left e entries rs false same = same

left_by : (keep : Registration → Bool) (entries : List Registered) → registrations_of (filter (λ e. keep (registration_of e)) entries) ≡ filter keep (registrations_of entries)
left_by keep [] = refl
left_by keep (e ∷ entries) = one_left e (filter (λ x. keep (registration_of x)) entries) (filter keep (registrations_of entries)) (keep (registration_of e)) (left_by keep entries)

-- the registrations that are left
pub registrations_left : (nodes : List Node) (entries : List Registered)
    → registrations_of (entries_left nodes entries) ≡ filter (λ r. not (dies nodes r)) (registrations_of entries)
registrations_left nodes entries = left_by (λ r. not (dies nodes r)) entries

lines_of_pairs : (rs : List Registration) → map (λ r. L.Prefinalise r.0 r.1) (map pair_of rs) ≡ prefinalise_lines rs
lines_of_pairs [] = refl
lines_of_pairs (r ∷ rs) = ap (λ ls. L.Prefinalise r.node r.callback ∷ ls) (lines_of_pairs rs)

lines_of_calls : (calls : List WeakCall) → map (λ r. L.WeakCall r.0 r.1) (map pair_called calls) ≡ weakcall_lines calls
lines_of_calls [] = refl
lines_of_calls (c ∷ calls) = ap (λ ls. L.WeakCall c.node c.callback ∷ ls) (lines_of_calls calls)

-- the lines of those that ran
pub lines_ran : (nodes : List Node) (calls : List WeakCall) (entries : List Registered)
    → all_ran (record { weak = map pair_called calls; prefinalised = pairs_run nodes entries })
    ≡ callback_lines calls (run_order nodes (registrations_of entries))
lines_ran nodes calls entries =
    ap (λ ls. ls ++ map (λ r. L.Prefinalise r.0 r.1) (pairs_run nodes entries)) (lines_of_calls calls)
    ∙ ap (λ ls. weakcall_lines calls ++ ls) (lines_of_pairs (run_order nodes (registrations_of entries)))

-- ---- while the new object has no place yet

-- how many of the last registrations are those of the type
abbrev pub last_of_type : Parts → ℕ → LastRegistered
last_of_type s t = last_of (type_at (setup_of s) t).prefinalizers (type_at (setup_of s) t).weak_callbacks

-- without the registrations of the new object, the parts are as they were
pub left_out_before : (s now : Parts) (t : ℕ) (last : LastRegistered) → now ≡ registered_in s t 0 → last ≡ last_of_type s t → unregistered last now ≡ s
left_out_before s now t last registers counted =
    let n : ℕ = length s.objects.nodes in
    let numbers : List ℕ = (type_at (setup_of s) t).prefinalizers in
    let weak : List ℕ = (type_at (setup_of s) t).weak_callbacks in
    let joined : Parts = registered_in s t 0 in
    ap (unregistered last) registers ∙ ap (λ l. unregistered l joined) counted
    ∙ ap (λ (es : List Registered). record s { cycle = record s.cycle { registered = es; weakly = weakly_without (last_of numbers weak) joined.cycle.weakly } })
    (taken_away n s.cycle.registered numbers)
    ∙ ap (λ (es : List WeakRegistration). record s { cycle = record s.cycle { weakly = es } }) (weakly_taken n numbers weak s.cycle.weakly)

-- once it has its place, they are registered with it
pub joined_after : (s now mid : Parts) (t place : ℕ) (last : LastRegistered) → now ≡ registered_in s t 0 → last ≡ last_of_type s t
    → mid.cycle.registered ≡ now.cycle.registered → mid.cycle.weakly ≡ now.cycle.weakly → setup_of mid ≡ setup_of s
    → length mid.objects.nodes ≡ length s.objects.nodes
    → record mid.cycle {
      registered = placed_last last.prefinalizers place mid.cycle.registered;
      weakly = weakly_placed_last last place mid.cycle.weakly;
    } ≡ (registered_in (unregistered last mid) t place).cycle
joined_after s now mid t place last registers counted same also setup made =
    let n : ℕ = length s.objects.nodes in
    let numbers : List ℕ = (type_at (setup_of s) t).prefinalizers in
    let weak : List ℕ = (type_at (setup_of s) t).weak_callbacks in
    let all : mid.cycle.registered ≡ s.cycle.registered ++ map (registered n 0) numbers = same ∙ ap (λ (k : Parts). k.cycle.registered) registers in
    let all_weak : mid.cycle.weakly ≡ s.cycle.weakly ++ weakly_registered_all n 0 weak = also ∙ ap (λ (k : Parts). k.cycle.weakly) registers in
    let placed : placed_last last.prefinalizers place mid.cycle.registered ≡ s.cycle.registered ++ map (registered n place) numbers =
    ap (placed_last last.prefinalizers place) all
    ∙ ap (λ (l : LastRegistered). placed_last l.prefinalizers place (s.cycle.registered ++ map (registered n 0) numbers)) counted
    ∙ placed_is n place s.cycle.registered numbers in
    let kept : take (length mid.cycle.registered - last.prefinalizers) mid.cycle.registered ≡ s.cycle.registered =
    ap (λ (es : List Registered). take (length es - last.prefinalizers) es) all
    ∙ ap (λ (l : LastRegistered). take (length (s.cycle.registered ++ map (registered n 0) numbers) - l.prefinalizers) (s.cycle.registered ++ map (registered n 0) numbers)) counted
    ∙ taken_away n s.cycle.registered numbers in
    let weakly_placed_is : weakly_placed_last last place mid.cycle.weakly ≡ s.cycle.weakly ++ weakly_registered_all n place weak =
    ap (weakly_placed_last last place) all_weak ∙ ap (λ l. weakly_placed_last l place (s.cycle.weakly ++ weakly_registered_all n 0 weak)) counted
    ∙ weakly_placed n place numbers weak s.cycle.weakly in
    let weakly_kept : weakly_without last mid.cycle.weakly ≡ s.cycle.weakly =
    ap (weakly_without last) all_weak ∙ ap (λ l. weakly_without l (s.cycle.weakly ++ weakly_registered_all n 0 weak)) counted
    ∙ weakly_taken n numbers weak s.cycle.weakly in
    let after : (registered_in (unregistered last mid) t place).cycle.registered ≡ s.cycle.registered ++ map (registered n place) numbers =
    ap (λ es. es ++ map (registered (length mid.objects.nodes) place) (type_at (setup_of mid) t).prefinalizers) kept
    ∙ ap (λ m. s.cycle.registered ++ map (registered m place) (type_at (setup_of mid) t).prefinalizers) made
    ∙ ap (λ (st : Setup). s.cycle.registered ++ map (registered n place) (type_at st t).prefinalizers) setup in
    let weakly_after : (registered_in (unregistered last mid) t place).cycle.weakly ≡ s.cycle.weakly ++ weakly_registered_all n place weak =
    ap (λ es. es ++ weakly_registered_all (length mid.objects.nodes) place (type_at (setup_of mid) t).weak_callbacks) weakly_kept
    ∙ ap (λ m. s.cycle.weakly ++ weakly_registered_all m place (type_at (setup_of mid) t).weak_callbacks) made
    ∙ ap (λ (st : Setup). s.cycle.weakly ++ weakly_registered_all n place (type_at st t).weak_callbacks) setup in
    ap (λ (es : List Registered). record mid.cycle { registered = es; weakly = weakly_placed_last last place mid.cycle.weakly }) (placed ∙ sym after)
    ∙ ap (λ (es : List WeakRegistration). record mid.cycle { registered = (registered_in (unregistered last mid) t place).cycle.registered; weakly = es })
    (weakly_placed_is ∙ sym weakly_after)

some_last : (none : Bool) (e : WeakRegistration) → not none ≡ true → 0 < length (cond none [] (e ∷ []))
some_last true e is = absurd (true≢false (sym is))
some_last false e is = omega arith

-- where the type has weak callbacks, they are the last registration until the object has its place
pub last_there : (s now mid : Parts) (t : ℕ) (last : LastRegistered) → now ≡ registered_in s t 0 → last ≡ last_of_type s t
    → mid.cycle.weakly ≡ now.cycle.weakly → last.weakly ≡ true → 0 < length mid.cycle.weakly
last_there s now mid t last registers counted also weakly =
    let n : ℕ = length s.objects.nodes in
    let weak : List ℕ = (type_at (setup_of s) t).weak_callbacks in
    let some : 0 < length (weakly_registered_all n 0 weak) =
    some_last (length weak == 0) (weakly_registered n 0 weak) (sym (ap (λ (l : LastRegistered). l.weakly) counted) ∙ weakly) in
    let all : mid.cycle.weakly ≡ s.cycle.weakly ++ weakly_registered_all n 0 weak = also ∙ ap (λ (k : Parts). k.cycle.weakly) registers in
    omega (arith, some, ap length all, length-append s.cycle.weakly (weakly_registered_all n 0 weak))

-- a type without callbacks registers none
pub none_registered : (s : Parts) (t : ℕ) → (type_at (setup_of s) t).prefinalizers ≡ [] → (type_at (setup_of s) t).weak_callbacks ≡ [] → s ≡ registered_in s t 0
none_registered s t none none_weak =
    let n : ℕ = length s.objects.nodes in
    sym (ap (λ numbers. record s {
      cycle = record s.cycle {
        registered = s.cycle.registered ++ map (registered n 0) numbers;
        weakly = s.cycle.weakly ++ weakly_registered_all n 0 (type_at (setup_of s) t).weak_callbacks;
      };
    }) none
    ∙ ap (λ numbers. record s {
      cycle = record s.cycle { registered = s.cycle.registered ++ []; weakly = s.cycle.weakly ++ weakly_registered_all n 0 numbers };
    }) none_weak
    ∙ ap (λ (es : List Registered). record s { cycle = record s.cycle { registered = es; weakly = s.cycle.weakly ++ [] } }) (append-nil s.cycle.registered)
    ∙ ap (λ (es : List WeakRegistration). record s { cycle = record s.cycle { weakly = es } }) (append-nil s.cycle.weakly))
