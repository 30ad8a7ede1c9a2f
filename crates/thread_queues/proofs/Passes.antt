-- The passes of threads, from their split to their join.
use Rattle.std.proofs.Common.{◌≡◌, ◌≢◌, ℕ, ◌+◌, ◌<◌, ◌≤◌, List, [], ◌∷◌, ◌++◌, length, map, reverse, refl, sym, ap, ◌∙◌, subst, arith, cond, eqb, not, Contains}
use Rattle.std.specs.List.{All, filter}
use Rattle.std.proofs.lemmas.Bool.{eq-eqb, ne_eqb}
use Rattle.std.proofs.lemmas.List.{map_push, reverse-append}
use Rattle.std.proofs.lemmas.List.Elements.{All-nil, All-cons, All-head, All-tail, All-push, All-take, All-weaker, All-contains, Contains-push}
use Rattle.std.proofs.Math.Seq.{take-append_seam}
use Rattle.cross_thread_region.specs.Calls.{RegionView, PassView, IsPassReady}
use Rattle.cross_thread_region.specs.Passes.{joined_with}
use Rattle.thread_queues.specs.Going.{Descend}
use Rattle.thread_queues.specs.Orders.{IsOwn, HasOut, HasOutBelow}

-- the numbers of passes, the last one first
abbrev numbers_of : List PassView → List ℕ
numbers_of passes = reverse (map (λ (p : PassView). p.number) passes)

numbers_push : (passes : List PassView) (own : PassView) → numbers_of (passes ++ own ∷ []) ≡ own.number ∷ numbers_of passes
numbers_push passes own =
    ap reverse (map_push (λ (p : PassView). p.number) passes own) ∙ reverse-append (map (λ (p : PassView). p.number) passes) (own.number ∷ [])

-- ---- split off

-- one more pass is out
pub out_next : (region : RegionView) (pass split own : PassView) (passes : List PassView) (thread : ℕ) → HasOutBelow region pass passes thread
    → split ≡ record pass { out = thread ∷ pass.out } → 1 ≤ thread → IsOwn region own thread → HasOutBelow region split (passes ++ own ∷ []) (thread + 1)
out_next region pass split own passes thread o is above its =
    let out : split.out ≡ thread ∷ pass.out = ap (λ (p : PassView). p.out) is in record {
      out = record {
        ready = All-push (IsPassReady region) passes own o.out.ready its.ready;
        others = All-push (λ (p : PassView). p.number ≢ 0) passes own o.out.others (λ none. omega (arith, none, its.number_is, above));
        numbers =
            out ∙ ap (λ n. n ∷ pass.out) (sym its.number_is) ∙ ap (λ l. own.number ∷ l) o.out.numbers ∙ sym (numbers_push passes own);
        once = subst Descend (sym out) (o.low, o.out.once);
      };
      low =
          subst (All (λ n. n < thread + 1)) (sym out)
          (All-cons (λ n. n < thread + 1) thread pass.out (omega arith)
          (All-weaker (λ n. n < thread) (λ n. n < thread + 1) (λ n less. omega (arith, less)) pass.out o.low));
    }

-- and none is where a thread has no orders
pub out_same : (region : RegionView) (pass : PassView) (passes : List PassView) (thread : ℕ) → HasOutBelow region pass passes thread
    → HasOutBelow region pass passes (thread + 1)
out_same region pass passes thread o = record {
  out = o.out;
  low = All-weaker (λ n. n < thread) (λ n. n < thread + 1) (λ n less. omega (arith, less)) pass.out o.low;
}

-- before the first thread goes none is
pub none_out : (region : RegionView) (pass : PassView) (passes : List PassView) → pass.out ≡ [] → passes ≡ [] → HasOutBelow region pass passes 1
none_out region pass passes alone none =
    subst (λ ps. HasOutBelow region pass ps 1) (sym none)
    (record {
      out = record {
        ready = All-nil (IsPassReady region);
        others = All-nil (λ (p : PassView). p.number ≢ 0);
        numbers = alone;
        once = subst Descend (sym alone) tt;
      };
      low = subst (All (λ n. n < 1)) (sym alone) (All-nil (λ n. n < 1));
    })

-- what a pass has out that differs from another one in that alone
pub all_out : (P : ℕ → Type 0) (pass new : PassView) (out : List ℕ) → new ≡ record pass { out = out } → All P out → All P new.out
all_out P pass new out is all = subst (All P) (sym (ap (λ (p : PassView). p.out) is)) all

-- a pass that differs from another one only in what it has out, and then from that one's
pub out_alone : (begun pass new : PassView) (out : List ℕ) → pass ≡ record begun { out = pass.out } → new ≡ record pass { out = out }
    → new ≡ record begun { out = new.out }
out_alone begun pass new out before is =
    is ∙ ap (λ (p : PassView). record p { out = out }) before
    ∙ ap (λ (o : List ℕ). record begun { out = o }) (sym (ap (λ (p : PassView). p.out) is))

-- ---- joined

kept_below : (n : ℕ) (numbers : List ℕ) → All (λ m. m < n) numbers → filter (λ m. not (eqb m n)) numbers ≡ numbers
kept_below n [] low = refl
kept_below n (m ∷ numbers) low =
    let apart : m ≢ n = λ same. omega (arith, same, All-head (λ m. m < n) m numbers low) in
    ap (λ b. cond (not b) (m ∷ filter (λ k. not (eqb k n)) numbers) (filter (λ k. not (eqb k n)) numbers)) (ne_eqb m n apart)
    ∙ ap (λ l. m ∷ l) (kept_below n numbers (All-tail (λ m. m < n) m numbers low))

last_left : (n : ℕ) (numbers : List ℕ) → All (λ m. m < n) numbers → filter (λ m. not (eqb m n)) (n ∷ numbers) ≡ numbers
last_left n numbers low =
    ap (λ b. cond (not b) (n ∷ filter (λ m. not (eqb m n)) numbers) (filter (λ m. not (eqb m n)) numbers)) (eq-eqb n n refl) ∙ kept_below n numbers low

first_of : (P : PassView → Type 0) (left : List PassView) (own : PassView) → All P (left ++ own ∷ []) → All P left
first_of P left own all = subst (All P) (take-append_seam left (own ∷ [])) (All-take P (length left) (left ++ own ∷ []) all)

module _ (region : RegionView) (pass own : PassView) (passes left : List PassView) (is : passes ≡ left ++ own ∷ []) (o : HasOut region pass passes) where
  numbers_out : pass.out ≡ own.number ∷ numbers_of left
  numbers_out = o.numbers ∙ ap numbers_of is ∙ numbers_push left own

  once_out : Descend (own.number ∷ numbers_of left)
  once_out = subst Descend numbers_out o.once

  -- the last one may be joined
  pub last_ready : IsPassReady region own
  last_ready = All-contains (IsPassReady region) passes own o.ready (subst (λ ps. Contains ps own) (sym is) (Contains-push left own))

  pub last_other : own.number ≢ 0
  last_other =
      All-contains (λ (p : PassView). p.number ≢ 0) passes own o.others (subst (λ ps. Contains ps own) (sym is) (Contains-push left own))

  -- when it is joined the others are out
  pub out_joined : (joined : PassView) → joined ≡ joined_with pass own → HasOut region joined left
  out_joined joined j =
      let numbers : joined.out ≡ numbers_of left =
      ap (λ (p : PassView). p.out) j ∙ ap (filter (λ m. not (eqb m own.number))) numbers_out ∙ last_left own.number (numbers_of left) once_out.0 in record {
        ready = first_of (IsPassReady region) left own (subst (All (IsPassReady region)) is o.ready);
        others = first_of (λ (p : PassView). p.number ≢ 0) left own (subst (All (λ (p : PassView). p.number ≢ 0)) is o.others);
        numbers = numbers;
        once = subst Descend (sym numbers) once_out.1;
      }

-- when all are joined none is out
pub none_left : (region : RegionView) (pass : PassView) (passes : List PassView) → HasOut region pass passes → passes ≡ [] → pass.out ≡ []
none_left region pass passes o none = o.numbers ∙ ap numbers_of none
