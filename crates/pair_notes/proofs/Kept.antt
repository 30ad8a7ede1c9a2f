-- Keys that stay, where a note changes in something else.
use Rattle.std.proofs.Common.{◌≡◌, ℕ, zero, suc, ◌<◌, List, [], ◌∷◌, length, get_or, set, map, ap, arith}
use Rattle.pair_notes.specs.declared.index.Entry.{Entry}

-- the keys of these
abbrev pub keys_in : List Entry → List ℕ
keys_in entries = map (λ (e : Entry). e.key) entries

pub same_keys : (entries : List Entry) (i : ℕ) (e d : Entry) → i < length entries → e.key ≡ (get_or entries i d).key → keys_in (set entries i e) ≡ keys_in entries
same_keys [] i e d low same = absurd (omega arith)
same_keys (x ∷ entries) zero e d low same = ap (λ k. k ∷ keys_in entries) same
same_keys (x ∷ entries) (suc i) e d low same = ap (λ ks. x.key ∷ ks) (same_keys entries i e d (omega arith) same)
