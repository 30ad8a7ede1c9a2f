-- What the lines of a command tell of nodes' lives: who is made, dies, goes, and is read.
use Rattle.std.proofs.Common.{◌≡◌, ◌≢◌, ℕ, zero, suc, ◌+◌, ◌<◌, ◌≤◌, List, [], ◌∷◌, ◌++◌, length, Contains, refl, sym, ap, ◌∙◌, subst, inl, inr, arith}
use mathlib.Core.Logic.{◌⊎◌}
use Rattle.std.proofs.lemmas.Bool.{cases_lt, cases_eq}
use Rattle.gc_graph.specs.declared.line.Line.{Line}
use Rattle.gc_graph.specs.declared.line.Line.TheVariants as L
use Rattle.gc_graph.specs.State.{Node, node_at, is_there, IsLive, IsDead}
use Rattle.gc_graph.specs.State.Life.{Live, Dead, Gone}
use Rattle.gc_graph.specs.Valid.{IsThere, AreApart}
use Rattle.gc_graph.specs.NodeNumbers.{gone_not_live, gone_not_dead, live_not_dead, dead_below}
use Rattle.gc_graph.proofs.NodeWrites.{IsLikeNode, like_more, LookSame, look_same, look_more}

-- ---- what a line tells

pub data Event : Type 0 where
  Placing : ℕ → ℕ → Event
  Finalising : ℕ → Event
  Pausing : Event
  Reading : ℕ → Event
  Nothing : Event

abbrev pub event_of : Line → Event
event_of (L.Placed n a) = Placing n a
event_of (L.Finalise n) = Finalising n
event_of (L.Pause kept dead crew traced walked) = Pausing
event_of (L.Node n) = Reading n
event_of said = Nothing

-- the node has its words where it had them, and its type
pub record StaysPut (x y : Node) : Type 0 where
  pub place : y.place ≡ x.place
  pub size : length y.object.values ≡ length x.object.values
  pub ty : y.object.ty ≡ x.object.ty

pub record IsMadeBy (old : List Node) (n a : ℕ) (new : List Node) : Type 0 where
  pub number : n ≡ length old
  pub whole : length new ≡ length old + 1
  pub others : (m : ℕ) → m < length old → IsLikeNode (node_at old m) (node_at new m)
  pub live : IsLive new n
  pub at : (node_at new n).place ≡ a
  pub apart : (m : ℕ) → IsThere old m → AreApart (node_at new n) (node_at new m)

pub record IsBuried (old : List Node) (n : ℕ) (new : List Node) : Type 0 where
  pub whole : length new ≡ length old
  pub dead : IsDead old n
  pub gone : (node_at new n).life ≡ Gone
  pub put : StaysPut (node_at old n) (node_at new n)
  pub others : (m : ℕ) → m ≢ n → IsLikeNode (node_at old m) (node_at new m)

-- as it was, or condemned
pub record IsJudged (x y : Node) : Type 0 where
  pub put : StaysPut x y
  pub life : (y.life ≡ x.life) ⊎ ((x.life ≡ Live) × (y.life ≡ Dead))

pub record AreJudged (old new : List Node) : Type 0 where
  pub whole : length new ≡ length old
  pub each : (m : ℕ) → IsJudged (node_at old m) (node_at new m)

pub record IsReadOf (old : List Node) (n : ℕ) (new : List Node) : Type 0 where
  pub live : IsLive old n
  pub look : LookSame old new

abbrev pub Tells : List Node → Event → List Node → Type 0
Tells old (Placing n a) new = IsMadeBy old n a new
Tells old (Finalising n) new = IsBuried old n new
Tells old Pausing new = AreJudged old new
Tells old (Reading n) new = IsReadOf old n new
Tells old Nothing new = LookSame old new

-- the lines tell, one after another, how the nodes became the others
pub record IsTold (old : List Node) (said : Line) (rest : List Node → Type 0) : Type 0 where
  pub mid : List Node
  pub tells : Tells old (event_of said) mid
  pub after : rest mid

abbrev pub AreTold : List Node → List Line → List Node → Type 0
AreTold old [] new = LookSame old new
AreTold old (said ∷ lines) new = IsTold old said (λ mid. AreTold mid lines new)

-- ---- where the words lie

put_like : (x y : Node) → IsLikeNode x y → StaysPut x y
put_like x y h = record { place = h.place; size = h.size; ty = h.ty }

pub put_same : (x : Node) → StaysPut x x
put_same x = record { place = refl; size = refl; ty = refl }

put_more : (x y z : Node) → StaysPut x y → StaysPut y z → StaysPut x z
put_more x y z h k = record { place = k.place ∙ h.place; size = k.size ∙ h.size; ty = k.ty ∙ h.ty }

-- ---- one event

grows_at : (e : Event) (old new : List Node) → Tells old e new → length old ≤ length new
grows_at (Placing n a) old new h = omega (arith, h.whole)
grows_at (Finalising n) old new h = omega (arith, h.whole)
grows_at Pausing old new h = omega (arith, h.whole)
grows_at (Reading n) old new h = omega (arith, h.look.whole)
grows_at Nothing old new h = omega (arith, h.whole)

gone_at : (e : Event) (old new : List Node) (n : ℕ) → n < length old → (node_at old n).life ≡ Gone → Tells old e new → (node_at new n).life ≡ Gone
gone_at (Placing m a) old new n l gone h = (h.others n l).life ∙ gone
gone_at (Finalising m) old new n l gone h =
    elim (cases_eq n m) [
      | inl same ↦ subst (λ k. (node_at new k).life ≡ Gone) (sym same) h.gone
      | inr other ↦ (h.others n other).life ∙ gone
    ]
gone_at Pausing old new n l gone h =
    elim (h.each n).life [ inl same ↦ same ∙ gone | inr died ↦ absurd (gone_not_live _ gone died.0) ]
gone_at (Reading m) old new n l gone h = (h.look.like n).life ∙ gone
gone_at Nothing old new n l gone h = (h.like n).life ∙ gone

put_at : (e : Event) (old new : List Node) (n : ℕ) → n < length old → Tells old e new → StaysPut (node_at old n) (node_at new n)
put_at (Placing m a) old new n l h = put_like _ _ (h.others n l)
put_at (Finalising m) old new n l h =
    elim (cases_eq n m) [
      | inl same ↦ subst (λ k. StaysPut (node_at old k) (node_at new k)) (sym same) h.put
      | inr other ↦ put_like _ _ (h.others n other)
    ]
put_at Pausing old new n l h = (h.each n).put
put_at (Reading m) old new n l h = put_like _ _ (h.look.like n)
put_at Nothing old new n l h = put_like _ _ (h.like n)

-- who is gone was gone, or is finalised
went_at : (e : Event) (old new : List Node) (n : ℕ) → n < length new → (node_at new n).life ≡ Gone → Tells old e new
    → ((n < length old) × ((node_at old n).life ≡ Gone)) ⊎ (e ≡ Finalising n)
went_at (Placing m a) old new n l gone h =
    elim (cases_lt n (length old)) [
      | inl under ↦ inl (under, sym (h.others n under).life ∙ gone)
      | inr past ↦
          (let same : n ≡ m = omega (arith, h.whole, h.number) in
          absurd (gone_not_live _ gone (subst (IsLive new) (sym same) h.live)))
    ]
went_at (Finalising m) old new n l gone h =
    elim (cases_eq n m) [
      | inl same ↦ inr (ap Finalising (sym same))
      | inr other ↦ inl (omega (arith, h.whole), sym (h.others n other).life ∙ gone)
    ]
went_at Pausing old new n l gone h =
    elim (h.each n).life [
      | inl same ↦ inl (omega (arith, h.whole), sym same ∙ gone)
      | inr died ↦ absurd (gone_not_dead _ gone died.1)
    ]
went_at (Reading m) old new n l gone h = inl (omega (arith, h.look.whole), sym (h.look.like n).life ∙ gone)
went_at Nothing old new n l gone h = inl (omega (arith, h.whole), sym (h.like n).life ∙ gone)

-- a new number is that of a placement
made_at : (e : Event) (old new : List Node) (n : ℕ) → length old ≤ n → n < length new → Tells old e new → (a : ℕ) × (e ≡ Placing n a)
made_at (Placing m a) old new n past l h =
    let same : m ≡ n = omega (arith, h.whole, h.number) in
    (a, ap (λ k. Placing k a) same)
made_at (Finalising m) old new n past l h = absurd (omega (arith, h.whole))
made_at Pausing old new n past l h = absurd (omega (arith, h.whole))
made_at (Reading m) old new n past l h = absurd (omega (arith, h.look.whole))
made_at Nothing old new n past l h = absurd (omega (arith, h.whole))

-- who is dead was dead, or a pause was told
pub died_at : (e : Event) (old new : List Node) (n : ℕ) → IsDead new n → Tells old e new → IsDead old n ⊎ (e ≡ Pausing)
died_at (Placing m a) old new n dead h =
    elim (cases_lt n (length old)) [
      | inl under ↦ inl (sym (h.others n under).life ∙ dead)
      | inr past ↦
          (let below : n < length new = dead_below new n dead in
          let same : n ≡ m = omega (arith, h.whole, h.number) in
          absurd (live_not_dead _ (subst (IsLive new) (sym same) h.live) dead))
    ]
died_at (Finalising m) old new n dead h =
    elim (cases_eq n m) [
      | inl same ↦ absurd (gone_not_dead _ (subst (λ k. (node_at new k).life ≡ Gone) (sym same) h.gone) dead)
      | inr other ↦ inl (sym (h.others n other).life ∙ dead)
    ]
died_at Pausing old new n dead h = inr refl
died_at (Reading m) old new n dead h = inl (sym (h.look.like n).life ∙ dead)
died_at Nothing old new n dead h = inl (sym (h.like n).life ∙ dead)

-- ---- lines

pub line_cases : (first said : Line) (lines : List Line) → Contains (first ∷ lines) said → (first ≡ said) ⊎ Contains lines said
line_cases first said lines (zero, l, is) = inl is
line_cases first said lines (suc i, l, is) = inr (i, omega arith, is)

pub line_first : (said : Line) (lines : List Line) → Contains (said ∷ lines) said
line_first said lines = (0, omega arith, refl)

pub line_later : (first said : Line) (lines : List Line) → Contains lines said → Contains (first ∷ lines) said
line_later first said lines h = let l = h.1 in (suc h.0, omega arith, h.2)

tells_by : (e : Event) (said : Line) (old mid : List Node) → event_of said ≡ e → Tells old (event_of said) mid → Tells old e mid
tells_by e said old mid same h = subst (λ x. Tells old x mid) same h

pub told_grows : (old new : List Node) (lines : List Line) → AreTold old lines new → length old ≤ length new
told_grows old new [] h = omega (arith, h.whole)
told_grows old new (said ∷ lines) h =
    let first : length old ≤ length h.mid = grows_at (event_of said) old h.mid h.tells in
    let rest : length h.mid ≤ length new = told_grows h.mid new lines h.after in
    omega arith

pub told_gone : (old new : List Node) (lines : List Line) (n : ℕ) → n < length old → (node_at old n).life ≡ Gone → AreTold old lines new
    → (node_at new n).life ≡ Gone
told_gone old new [] n l gone h = (h.like n).life ∙ gone
told_gone old new (said ∷ lines) n l gone h =
    let first : length old ≤ length h.mid = grows_at (event_of said) old h.mid h.tells in
    told_gone h.mid new lines n (omega arith) (gone_at (event_of said) old h.mid n l gone h.tells) h.after

pub told_put : (old new : List Node) (lines : List Line) (n : ℕ) → n < length old → AreTold old lines new → StaysPut (node_at old n) (node_at new n)
told_put old new [] n l h = put_like _ _ (h.like n)
told_put old new (said ∷ lines) n l h =
    let first : length old ≤ length h.mid = grows_at (event_of said) old h.mid h.tells in
    put_more (node_at old n) (node_at h.mid n) (node_at new n) (put_at (event_of said) old h.mid n l h.tells) (told_put h.mid new lines n (omega arith) h.after)

-- a number that was placed isn't placed again
pub not_placed : (old new : List Node) (lines : List Line) (n a : ℕ) → n < length old → AreTold old lines new → Contains lines (L.Placed n a) → ⊥
not_placed old new [] n a l h c = absurd (omega (arith, c.1))
not_placed old new (said ∷ lines) n a l h c =
    let first : length old ≤ length h.mid = grows_at (event_of said) old h.mid h.tells in
    elim (line_cases said (L.Placed n a) lines c) [
      | inl same ↦
          (let made : IsMadeBy old n a h.mid = tells_by (Placing n a) said old h.mid (ap event_of same) h.tells in
          omega (arith, made.number))
      | inr later ↦ not_placed h.mid new lines n a (omega arith) h.after later
    ]

-- who is gone isn't finalised again
pub not_finalised : (old new : List Node) (lines : List Line) (n : ℕ) → n < length old → (node_at old n).life ≡ Gone → AreTold old lines new
    → Contains lines (L.Finalise n) → ⊥
not_finalised old new [] n l gone h c = absurd (omega (arith, c.1))
not_finalised old new (said ∷ lines) n l gone h c =
    let first : length old ≤ length h.mid = grows_at (event_of said) old h.mid h.tells in
    elim (line_cases said (L.Finalise n) lines c) [
      | inl same ↦
          (let buried : IsBuried old n h.mid = tells_by (Finalising n) said old h.mid (ap event_of same) h.tells in
          gone_not_dead _ gone buried.dead)
      | inr later ↦ not_finalised h.mid new lines n (omega arith) (gone_at (event_of said) old h.mid n l gone h.tells) h.after later
    ]

-- and isn't read
pub not_read : (old new : List Node) (lines : List Line) (n : ℕ) → n < length old → (node_at old n).life ≡ Gone → AreTold old lines new
    → Contains lines (L.Node n) → ⊥
not_read old new [] n l gone h c = absurd (omega (arith, c.1))
not_read old new (said ∷ lines) n l gone h c =
    let first : length old ≤ length h.mid = grows_at (event_of said) old h.mid h.tells in
    elim (line_cases said (L.Node n) lines c) [
      | inl same ↦
          (let read : IsReadOf old n h.mid = tells_by (Reading n) said old h.mid (ap event_of same) h.tells in
          gone_not_live _ gone read.live)
      | inr later ↦ not_read h.mid new lines n (omega arith) (gone_at (event_of said) old h.mid n l gone h.tells) h.after later
    ]

finalise_line : (said : Line) (n : ℕ) → event_of said ≡ Finalising n → said ≡ L.Finalise n
finalise_line (L.Finalise m) n e = cc
finalise_line said n e = cc

-- who is gone was gone, or its finalisation was told
pub went : (old new : List Node) (lines : List Line) (n : ℕ) → n < length new → (node_at new n).life ≡ Gone → AreTold old lines new
    → ((n < length old) × ((node_at old n).life ≡ Gone)) ⊎ Contains lines (L.Finalise n)
went old new [] n l gone h = inl (omega (arith, h.whole), sym (h.like n).life ∙ gone)
went old new (said ∷ lines) n l gone h =
    elim (went h.mid new lines n l gone h.after) [
      | inr later ↦ inr (line_later said (L.Finalise n) lines later)
      | inl before ↦ elim (went_at (event_of said) old h.mid n before.0 before.1 h.tells) [
        | inl old_gone ↦ inl old_gone
        | inr is ↦
            inr (subst (λ l. Contains (l ∷ lines) (L.Finalise n)) (sym (finalise_line said n is)) (line_first (L.Finalise n) lines))
      ]
    ]

placed_line : (said : Line) (n a : ℕ) → event_of said ≡ Placing n a → said ≡ L.Placed n a
placed_line (L.Placed m b) n a e = cc
placed_line said n a e = cc

-- a new number was placed
pub was_placed : (old new : List Node) (lines : List Line) (n : ℕ) → length old ≤ n → n < length new → AreTold old lines new
    → (a : ℕ) × Contains lines (L.Placed n a)
was_placed old new [] n past l h = absurd (omega (arith, h.whole))
was_placed old new (said ∷ lines) n past l h =
    elim (cases_lt n (length h.mid)) [
      | inl now ↦
          (let made = made_at (event_of said) old h.mid n past now h.tells in
          (made.0, subst (λ s. Contains (s ∷ lines) (L.Placed n made.0)) (sym (placed_line said n made.0 made.1)) (line_first (L.Placed n made.0) lines)))
      | inr later ↦
          (let rest = was_placed h.mid new lines n later l h.after in
          (rest.0, line_later said (L.Placed n rest.0) lines rest.1))
    ]

-- ---- two lists of lines

there_same : (old mid : List Node) (m : ℕ) → LookSame old mid → IsThere old m → IsThere mid m
there_same old mid m look there = ap is_there (look.like m).life ∙ there

put_before : (old mid new : List Node) (m : ℕ) → LookSame old mid → StaysPut (node_at mid m) (node_at new m) → StaysPut (node_at old m) (node_at new m)
put_before old mid new m look h = put_more (node_at old m) (node_at mid m) (node_at new m) (put_like _ _ (look.like m)) h

-- what is told of nodes is told of those that look the same
tells_alike : (e : Event) (old mid new : List Node) → LookSame old mid → Tells mid e new → Tells old e new
tells_alike (Placing n a) old mid new look h = record {
  number = h.number ∙ look.whole;
  whole = h.whole ∙ ap (λ k. k + 1) look.whole;
  others = λ m l. like_more _ _ _ (look.like m) (h.others m (omega (arith, look.whole)));
  live = h.live;
  at = h.at;
  apart = λ m there. h.apart m (there_same old mid m look there);
}
tells_alike (Finalising n) old mid new look h = record {
  whole = h.whole ∙ look.whole;
  dead = sym (look.like n).life ∙ h.dead;
  gone = h.gone;
  put = put_before old mid new n look h.put;
  others = λ m ne. like_more _ _ _ (look.like m) (h.others m ne);
}
tells_alike Pausing old mid new look h = record {
  whole = h.whole ∙ look.whole;
  each = λ m. record {
    put = put_before old mid new m look (h.each m).put;
    life = elim (h.each m).life [
      | inl same ↦ inl (same ∙ (look.like m).life)
      | inr died ↦ inr (sym (look.like m).life ∙ died.0, died.1)
    ];
  };
}
tells_alike (Reading n) old mid new look h = record { live = sym (look.like n).life ∙ h.live; look = look_more old mid new look h.look }
tells_alike Nothing old mid new look h = look_more old mid new look h

told_alike : (old mid new : List Node) (lines : List Line) → LookSame old mid → AreTold mid lines new → AreTold old lines new
told_alike old mid new [] look h = look_more old mid new look h
told_alike old mid new (said ∷ lines) look h =
    record { mid = h.mid; tells = tells_alike (event_of said) old mid h.mid look h.tells; after = h.after }

pub told_append : (old mid new : List Node) (first second : List Line) → AreTold old first mid → AreTold mid second new → AreTold old (first ++ second) new
told_append old mid new [] second h k = told_alike old mid new second h k
told_append old mid new (said ∷ first) second h k =
    record { mid = h.mid; tells = h.tells; after = told_append h.mid mid new first second h.after k }

-- the lines before one, what it tells, and the lines after it
pub record IsToldAt (old : List Node) (before : List Line) (said : Line) (after : List Line) (new : List Node) : Type 0 where
  pub at : List Node
  pub next : List Node
  pub first : AreTold old before at
  pub tells : Tells at (event_of said) next
  pub rest : AreTold next after new

pub told_at : (old new : List Node) (before : List Line) (said : Line) (after : List Line) → AreTold old (before ++ said ∷ after) new
    → IsToldAt old before said after new
told_at old new [] said after h = record { at = old; next = h.mid; first = look_same old; tells = h.tells; rest = h.after }
told_at old new (l ∷ before) said after h =
    let rest : IsToldAt h.mid before said after new = told_at h.mid new before said after h.after in
    record {
      at = rest.at;
      next = rest.next;
      first = record { mid = h.mid; tells = h.tells; after = rest.first };
      tells = rest.tells;
      rest = rest.rest;
    }
