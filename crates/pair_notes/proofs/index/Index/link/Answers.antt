use Rattle.std.proofs.Common.{◌≡◌, ℕ, ◌<◌, List, nat_lt, set, refl, sym, ap, ◌∙◌, arith}
use Rattle.std.proofs.lemmas.Bool.{cond-true, lt-ltb}
use Rattle.std.proofs.lemmas.List.{map-set}
use Rattle.pair_notes.specs.declared.index.Entry.{Entry}
use Rattle.pair_notes.specs.Keys.{keys_of, with_key}
use Rattle.pair_notes.proofs.Kept.{keys_in}
use Rattle.pair_notes.proofs.index.Index.link.Goals as goal

-- the keys with the one that is put under the number
put : (entries : List Entry) (keys : List ℕ) (i key : ℕ) (e : Entry) → keys ≡ keys_in entries → e.key ≡ key → i < 4294967295
    → keys_in (set entries i e) ≡ with_key keys i key
put entries keys i key e are is small =
    map-set (λ (x : Entry). x.key) entries i e
    ∙ ap (λ k. set (keys_in entries) i k) is
    ∙ ap (λ ks. set ks i key) (sym are)
    ∙ sym (cond-true (nat_lt i 4294967295) (set keys i key) keys (lt-ltb i 4294967295 small))

pub returns-then-self : goal.returns-then-self
returns-then-self c = put c.args.self.now.entries.items (keys_of c.args.self.now) c.args.i c.args.key c.unlinked.result refl c.unlinked.ensures (omega arith)

pub returns-else-self : goal.returns-else-self
returns-else-self c =
    c.link_below.ensures
    ∙ put c.args.self.now.entries.items (keys_of c.args.self.now) c.args.i c.args.key c.unlinked.result refl c.unlinked.ensures (omega arith)
