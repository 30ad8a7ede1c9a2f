-- What becomes of the last weak registration: taken away, or placed. Lemmas that the crates above cite too, since a crate's proofs/
-- can't be cited from another.
use Rattle.std.proofs.Common.{◌≡◌, ℕ, ◌-◌, ◌==◌, Bool, true, false, not, List, [], ◌∷◌, ◌++◌, length, map, take, drop, cond, refl, ap, ◌∙◌, arith}
use Rattle.std.proofs.lemmas.List.{length-append, append-nil}
use Rattle.std.proofs.Math.Seq.{take-append_seam, drop-append_seam}
use Rattle.callback_table.specs.Registrations.{weakly_registered_all, last_of, weakly_without, weakly_placed_last}
use Rattle.callback_table.specs.WeakRegistry.{WeakRegistration, weakly_registered, weakly_placed_at}

one_before : (x : WeakRegistration) (xs : List WeakRegistration) → length (xs ++ x ∷ []) - 1 ≡ length xs
one_before x xs = omega (arith, length-append xs (x ∷ []))

placed_one : (n place : ℕ) (xs : List WeakRegistration) (cs : List ℕ) (none : Bool)
    → (let ys : List WeakRegistration = xs ++ cond none [] (weakly_registered n 0 cs ∷ []) in
    cond (not none) (take (length ys - 1) ys ++ map (weakly_placed_at place) (drop (length ys - 1) ys)) ys)
    ≡ xs ++ cond none [] (weakly_registered n place cs ∷ [])
placed_one n place xs cs true = refl
placed_one n place xs cs false =
    let last : WeakRegistration = weakly_registered n 0 cs in
    let ys : List WeakRegistration = xs ++ last ∷ [] in
    ap (λ k. take k ys ++ map (weakly_placed_at place) (drop k ys)) (one_before last xs)
    ∙ ap (λ front. front ++ map (weakly_placed_at place) (drop (length xs) ys)) (take-append_seam xs (last ∷ []))
    ∙ ap (λ back. xs ++ map (weakly_placed_at place) back) (drop-append_seam xs (last ∷ []))

taken_one : (n : ℕ) (xs : List WeakRegistration) (cs : List ℕ) (none : Bool)
    → (let ys : List WeakRegistration = xs ++ cond none [] (weakly_registered n 0 cs ∷ []) in cond (not none) (take (length ys - 1) ys) ys) ≡ xs
taken_one n xs cs true = append-nil xs
taken_one n xs cs false =
    ap (λ k. take k (xs ++ weakly_registered n 0 cs ∷ [])) (one_before (weakly_registered n 0 cs) xs)
    ∙ take-append_seam xs (weakly_registered n 0 cs ∷ [])

-- the weak callbacks of a node that has no place yet, taken away again
pub weakly_taken : (node : ℕ) (prefinalizers weak : List ℕ) (entries : List WeakRegistration)
    → weakly_without (last_of prefinalizers weak) (entries ++ weakly_registered_all node 0 weak) ≡ entries
weakly_taken node prefinalizers weak entries = taken_one node entries weak (length weak == 0)

-- and once they have their place
pub weakly_placed : (node place : ℕ) (prefinalizers weak : List ℕ) (entries : List WeakRegistration)
    → weakly_placed_last (last_of prefinalizers weak) place (entries ++ weakly_registered_all node 0 weak)
    ≡ entries ++ weakly_registered_all node place weak
weakly_placed node place prefinalizers weak entries = placed_one node place entries weak (length weak == 0)
