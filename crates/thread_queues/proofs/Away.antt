-- Threads that are away, and those that are here.
use Rattle.std.proofs.Common.{◌≡◌, ℕ, suc, zero, ◌+◌, ◌<◌, ◌≤◌, List, [], ◌∷◌, ◌++◌, length, get_or, set, take, All, Contains, Option, Some, None, refl, sym, ap, ◌∙◌, subst, inl, inr, arith}
use Rattle.std.proofs.lemmas.Bool.{cases_eq}
use Rattle.std.proofs.lemmas.List.{append-nil, get_or-set_other, get_or-set_same, take_more, take_more_set}
use Rattle.std.proofs.lemmas.List.Concat.{flat_map-append}
use Rattle.std.proofs.lemmas.List.Elements.{All-push, Contains-append_left, Contains-append_right}
use Rattle.gc_graph.specs.Members.{Contains-head}
use Rattle.cross_thread_region.specs.Calls.{PassView}
use Rattle.thread_queues.specs.Queues.{ThreadView, pass_begun, passes_of}
use Rattle.thread_queues.specs.declared.working.OwnPasses.{OwnPasses}

none_begun : (run : Option OwnPasses) → pass_begun run ≡ [] → run ≡ None
none_begun None e = refl
none_begun (Some own) e = cc

nil_first : (xs ys : List PassView) → xs ++ ys ≡ [] → xs ≡ []
nil_first [] ys e = refl
nil_first (x ∷ xs) ys e = cc

nil_second : (xs ys : List PassView) → xs ++ ys ≡ [] → ys ≡ []
nil_second [] ys e = e
nil_second (x ∷ xs) ys e = cc

-- where no pass is out each thread is here
pub all_here : (threads : List ThreadView) (i : ℕ) (t : ThreadView) → passes_of threads ≡ [] → i < length threads → (get_or threads i t).run ≡ None
all_here [] i t none low = absurd (omega (arith, low))
all_here (first ∷ threads) zero t none low = none_begun first.run (nil_first (pass_begun first.run) (passes_of threads) none)
all_here (first ∷ threads) (suc i) t none low =
    all_here threads i t (nil_second (pass_begun first.run) (passes_of threads) none) (omega (arith, low))

-- and where each is here none is out
pub none_out_here : (threads : List ThreadView) → ((i : ℕ) (t : ThreadView) → i < length threads → (get_or threads i t).run ≡ None) → passes_of threads ≡ []
none_out_here [] here = refl
none_out_here (first ∷ threads) here =
    ap (λ (run : Option OwnPasses). pass_begun run ++ passes_of threads) (here 0 first (omega arith))
    ∙ none_out_here threads (λ i t low. here (suc i) t (omega (arith, low)))

-- the pass of a thread that is away is one of them
pub pass_among : (threads : List ThreadView) (i : ℕ) (t : ThreadView) (own : OwnPasses) → i < length threads → (get_or threads i t).run ≡ Some own
    → Contains (passes_of threads) own.region
pass_among [] i t own low is = absurd (omega (arith, low))
pass_among (first ∷ threads) zero t own low is =
    Contains-append_left (pass_begun first.run) (passes_of threads) own.region
    (subst (λ (run : Option OwnPasses). Contains (pass_begun run) own.region) (sym is) (Contains-head own.region []))
pass_among (first ∷ threads) (suc i) t own low is =
    Contains-append_right (pass_begun first.run) (passes_of threads) own.region (pass_among threads i t own (omega (arith, low)) is)

-- the passes of one more thread
passes_push : (threads : List ThreadView) (t : ThreadView) → passes_of (threads ++ t ∷ []) ≡ passes_of threads ++ pass_begun t.run
passes_push threads t =
    flat_map-append (λ (thread : ThreadView). pass_begun thread.run) threads (t ∷ []) ∙ ap (λ l. passes_of threads ++ l) (append-nil (pass_begun t.run))

pub passes_next : (threads : List ThreadView) (i : ℕ) (new : ThreadView) → i < length threads
    → passes_of (take (i + 1) (set threads i new)) ≡ passes_of (take i threads) ++ pass_begun new.run
passes_next threads i new low = ap passes_of (take_more_set threads i new low) ∙ passes_push (take i threads) new

pub passes_more : (threads : List ThreadView) (i : ℕ) (t : ThreadView) → i < length threads
    → passes_of (take (i + 1) threads) ≡ passes_of (take i threads) ++ pass_begun (get_or threads i t).run
passes_more threads i t low = ap passes_of (take_more threads i t low) ∙ passes_push (take i threads) (get_or threads i t)

-- ---- what is true of each of them, up to one or from one on

module _ (P : ℕ → ThreadView → Type 0) (threads : List ThreadView) (i : ℕ) (new : ThreadView) (low : i < length threads) where
  -- it is true of one more
  pub up_to_next : ((k : ℕ) (t : ThreadView) → k < i → P k (get_or threads k t)) → P i new
      → (k : ℕ) (t : ThreadView) → k < i + 1 → P k (get_or (set threads i new) k t)
  up_to_next before here k t below = elim (cases_eq k i) [
    | inl same ↦ subst (λ n. P n (get_or (set threads i new) n t)) (sym same) (subst (P i) (sym (get_or-set_same threads i new t low)) here)
    | inr apart ↦ subst (P k) (sym (get_or-set_other threads i k new t apart)) (before k t (omega (arith, below, apart)))
  ]

  -- and still of those behind
  pub from_next : ((k : ℕ) (t : ThreadView) → i ≤ k → k < 8 → P k (get_or threads k t))
      → (k : ℕ) (t : ThreadView) → i + 1 ≤ k → k < 8 → P k (get_or (set threads i new) k t)
  from_next behind k t above below =
      subst (P k) (sym (get_or-set_other threads i k new t (λ same. omega (arith, above, same)))) (behind k t (omega (arith, above)) below)

-- what is true of the first ones is true of one more
pub all_next : (P : ThreadView → Type 0) (threads : List ThreadView) (i : ℕ) (new : ThreadView) → i < length threads → All P (take i threads) → P new
    → All P (take (i + 1) (set threads i new))
all_next P threads i new low all here = subst (All P) (sym (take_more_set threads i new low)) (All-push P (take i threads) new all here)
