-- What is true of a view that does nothing, and what stays true of one at the steps of others.
use Rattle.std.proofs.Common.{◌≡◌, ◌≢◌, ℕ, ◌+◌, true, false, List, [], ◌++◌, All, Contains, refl, sym, ap, ◌∙◌, inl, arith}
use Rattle.std.proofs.lemmas.Bool.{true≢false}
use Rattle.std.proofs.lemmas.List.{append_assoc, append-nil}
use Rattle.std.proofs.lemmas.List.Elements.{All-append, All-nil}
use Rattle.region_lock.specs.declared.views.LockView.{LockView}
use Rattle.region_lock.specs.Rule.{Continues, BeginsOther, IsViewIn}

module _ {E : Type 0} (names : E → ℕ) where
  pub continues_more : (number : ℕ) (seen : List E) (out : List ℕ) (told new : List E) → Continues names number seen out told
      → All (λ e. names e ≢ number) new → (number ≡ 0 → All (λ e. Contains out (names e)) new) → Continues names number seen out (told ++ new)
  continues_more number seen out told new c others outs = record {
    rest = c.rest ++ new;
    all = ap (λ (l : List E). l ++ new) c.all ∙ append_assoc seen c.rest new;
    others = All-append (λ e. names e ≢ number) c.rest new c.others others;
    outs = λ zeroth. All-append (λ e. Contains out (names e)) c.rest new (c.outs zeroth) (outs zeroth);
  }

  pub continues_none : (number : ℕ) (told : List E) (out : List ℕ) → Continues names number told out told
  continues_none number told out = record {
    rest = [];
    all = sym (append-nil told);
    others = All-nil (λ e. names e ≢ number);
    outs = λ zeroth. All-nil (λ e. Contains out (names e));
  }

  -- no join was made yet
  pub none_joined : BeginsOther names 0 [] [] []
  none_joined = inl ([], refl, All-nil (λ e. Contains [] (names e)), All-nil (λ e. names e ≢ 0))

  -- a view without a ticket
  pub view_idle : (served next : ℕ) (told : List E) (v : LockView E) → v.waits ≡ false → v.holds ≡ false
      → (v.spent ≡ false → Continues names v.number v.seen v.out told)
      → BeginsOther names v.back v.own v.others v.was_out → IsViewIn names served next told v
  view_idle served next told v free empty seen joined = record {
    idle = λ spent. free;
    line = λ waits. absurd (true≢false (sym waits ∙ free));
    turn = λ holds. absurd (true≢false (sym holds ∙ empty));
    seen = seen;
    joined = joined;
  }

  -- a ticket is drawn by another one
  pub view_drawn : (served next : ℕ) (told : List E) (v : LockView E) → IsViewIn names served next told v → IsViewIn names served (next + 1) told v
  view_drawn served next told v r = record {
    idle = r.idle;
    line = λ w. ((r.line w).0, omega (arith, (r.line w).1));
    turn = r.turn;
    seen = r.seen;
    joined = r.joined;
  }

  -- another one raises the count
  pub view_raised : (served next : ℕ) (told new : List E) (v : LockView E) → IsViewIn names served next told v → v.holds ≡ false
      → (v.spent ≡ false → All (λ e. names e ≢ v.number) new) → (v.spent ≡ false → v.number ≡ 0 → All (λ e. Contains v.out (names e)) new)
      → IsViewIn names served next (told ++ new) v
  view_raised served next told new v r free others outs = record {
    idle = r.idle;
    line = r.line;
    turn = λ holds. absurd (true≢false (sym holds ∙ free));
    seen = λ lives. continues_more v.number v.seen v.out told new (r.seen lives) (others lives) (outs lives);
    joined = r.joined;
  }

  -- another one's ticket was served
  pub view_served : (served next : ℕ) (told : List E) (v : LockView E) → IsViewIn names served next told v → v.holds ≡ false
      → (v.waits ≡ true → v.ticket ≢ served) → IsViewIn names (served + 1) next told v
  view_served served next told v r free other = record {
    idle = r.idle;
    line = λ w. (omega (arith, (r.line w).0, other w), (r.line w).1);
    turn = λ holds. absurd (true≢false (sym holds ∙ free));
    seen = r.seen;
    joined = r.joined;
  }
