-- Reading piece by piece.
use Rattle.std.proofs.Common.{◌≡◌, ℕ, ◌+◌, ◌-◌, ◌≤◌, List, [], ◌++◌, length, take, drop, Option, Some, None, refl, sym, ap, ◌∙◌, subst, arith}
use Rattle.std.proofs.lemmas.List.{take_all, drop-drop, length-append, length-take-le, length-drop}
use Rattle.std.proofs.Math.Seq.{take-add}
use Rattle.text_devices.specs.Devices.{Takes, TakesFrom, IsReadFrom, IsReadUpTo}

-- one more piece
more : (old bytes rest buffer piece : List ℕ) (n : ℕ) → bytes ≡ take (length bytes) old → length bytes ≤ length old
    → TakesFrom (drop (length bytes) old) rest buffer n → piece ≡ take n buffer
    → (bytes ++ piece ≡ take (length (bytes ++ piece)) old) × (length (bytes ++ piece) ≤ length old) × (rest ≡ drop (length (bytes ++ piece)) old)
more old bytes rest buffer piece n e low t is =
    let p : piece ≡ take n (drop (length bytes) old) = is ∙ t.moved in
    let l : length piece ≡ n = ap length p ∙ length-take-le n (drop (length bytes) old) t.within in
    let whole : length (bytes ++ piece) ≡ length bytes + n = omega (arith, length-append bytes piece) in
    let ld : length (drop (length bytes) old) ≡ length old - length bytes = length-drop (length bytes) old in (
      ap (λ b. b ++ piece) e ∙ ap (λ q. take (length bytes) old ++ q) p ∙ sym (take-add (length bytes) n old) ∙ ap (λ k. take k old) (sym whole),
      omega (arith, t.within),
      t.rest ∙ drop-drop n (length bytes) old ∙ ap (λ k. drop k old) (sym whole),
    )

pub read_more : (old now after : Option (List ℕ)) (bytes buffer piece : List ℕ) (n : ℕ)
    → IsReadUpTo old now bytes → Takes now after buffer n → piece ≡ take n buffer → IsReadUpTo old after (bytes ++ piece)
read_more None now after bytes buffer piece n r t is = subst (λ o. Takes o after buffer n) r t
read_more (Some old) now after bytes buffer piece n r t is =
    let u = subst (λ o. Takes o after buffer n) r.2 t in
    let m = more old bytes u.0 buffer piece n r.0 r.1 u.2 is in
    (m.0, m.1, u.1 ∙ ap Some m.2)

pub read_to_end : (old now after : Option (List ℕ)) (bytes buffer : List ℕ) (limit : ℕ) → length bytes ≤ limit
    → IsReadUpTo old now bytes → Takes now after buffer 0 → IsReadFrom old after limit bytes
read_to_end None now after bytes buffer limit low r t = subst (λ o. Takes o after buffer 0) r t
read_to_end (Some old) now after bytes buffer limit low r t =
    let u = subst (λ o. Takes o after buffer 0) r.2 t in
    let none : drop (length bytes) old ≡ [] = u.2.end refl in
    let le : length old ≤ length bytes = omega (arith, length-drop (length bytes) old, ap length none) in (
      r.0 ∙ take_all (length bytes) old le ∙ sym (take_all (limit + 1) old (omega arith)),
      u.1 ∙ ap Some u.2.rest,
    )
