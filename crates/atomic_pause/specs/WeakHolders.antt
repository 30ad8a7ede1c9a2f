-- Weak callbacks stay registered while nodes keep their places, their types and whether they live, and a new node's join the others.
use Rattle.std.proofs.Common.{◌≡◌, ℕ, zero, suc, ◌+◌, ◌<◌, ◌==◌, ◌&&◌, not, Bool, true, false, All, List, [], ◌∷◌, ◌++◌, length, get_or, map, filter, cond, refl, sym, ap, ◌∙◌, subst, inl, inr, arith}
use Rattle.std.specs.List.{range_with_len}
use Rattle.std.proofs.lemmas.Bool.{cases_Bool}
use Rattle.std.proofs.lemmas.List.{length_push, map-append, append-nil, get_or_append_left, get_or_push}
use Rattle.std.proofs.lemmas.List.Elements.{All-head, All-tail, filter-append}
use Rattle.std.proofs.lemmas.List.FromFn.{length-range_with_len, get_or-range_with_len}
use Rattle.gc_graph.specs.State.{ObjectType, Node, node_at, no_node, no_type, is_live}
use Rattle.callback_table.specs.Registrations.{weakly_registered_all}
use Rattle.callback_table.specs.WeakRegistry.{WeakRegistration, weakly_registered}
use Rattle.prefinalizer_effects.specs.Nodes.{place_of}
use Rattle.atomic_pause.specs.WeakCalling.{weak_callbacks_of, is_weak_holder, weak_holders, registration_at, without_mask, AreOfHolders}

-- the nodes lie where they lay, with their types, and those that lived live
pub record StayHolders (old new : List Node) : Type 0 where
  pub whole : length new ≡ length old
  pub place : (n : ℕ) → place_of new n ≡ place_of old n
  pub ty : (n : ℕ) → (node_at new n).object.ty ≡ (node_at old n).object.ty
  pub live : (n : ℕ) → is_live (node_at new n).life ≡ is_live (node_at old n).life

module _ (types : List ObjectType) (old new : List Node) (same : StayHolders old new) where
  same_callbacks : (n : ℕ) → weak_callbacks_of types old n ≡ weak_callbacks_of types new n
  same_callbacks n = ap (λ ty. (get_or types ty no_type).weak_callbacks) (sym (same.ty n))

  same_entry : (n : ℕ) → registration_at types old n ≡ registration_at types new n
  same_entry n =
      ap (λ p. weakly_registered n p (weak_callbacks_of types old n)) (sym (same.place n)) ∙ ap (weakly_registered n (place_of new n)) (same_callbacks n)

  same_holder : (n : ℕ) → is_weak_holder types old n ≡ is_weak_holder types new n
  same_holder n =
      ap (λ live. live && not (length (weak_callbacks_of types old n) == 0)) (sym (same.live n))
      ∙ ap (λ (cs : List ℕ). is_live (node_at new n).life && not (length cs == 0)) (same_callbacks n)

  -- so they stay registered
  pub holders_stay : (entries : List WeakRegistration) → AreOfHolders types old entries → AreOfHolders types new entries
  holders_stay entries registered =
      registered ∙ ap (λ entry. map entry (weak_holders types old)) (λ i. λ n. same_entry n i)
      ∙ ap (λ test. map (registration_at types new) (filter test (range_with_len 0 (length old)))) (λ i. λ n. same_holder n i)
      ∙ ap (λ count. map (registration_at types new) (filter (is_weak_holder types new) (range_with_len 0 count))) (sym same.whole)

-- ---- a new node

agree : (p q : ℕ → Bool) (f g : ℕ → WeakRegistration) (ns : List ℕ) → All (λ n. (p n ≡ q n) × (f n ≡ g n)) ns → map f (filter p ns) ≡ map g (filter q ns)
agree p q f g [] same = refl
agree p q f g (n ∷ ns) same =
    let Same : ℕ → Type 0 = λ m. (p m ≡ q m) × (f m ≡ g m) in
    let here = All-head Same n ns same in
    let rest : map f (filter p ns) ≡ map g (filter q ns) = agree p q f g ns (All-tail Same n ns same) in
    ap (λ b. map f (cond b (n ∷ filter p ns) (filter p ns))) here.0
    ∙ elim (cases_Bool (q n)) [
      | inl passes ↦
          ap (λ b. map f (cond b (n ∷ filter p ns) (filter p ns))) passes ∙ ap (λ e. e ∷ map f (filter p ns)) here.1 ∙ ap (λ es. g n ∷ es) rest
          ∙ sym (ap (λ b. map g (cond b (n ∷ filter q ns) (filter q ns))) passes)
      | inr fails ↦
          ap (λ b. map f (cond b (n ∷ filter p ns) (filter p ns))) fails ∙ rest ∙ sym (ap (λ b. map g (cond b (n ∷ filter q ns) (filter q ns))) fails)
    ]

range_more : (a n : ℕ) → range_with_len a (suc n) ≡ range_with_len a n ++ (a + n) ∷ []
range_more a zero = ap (λ b. b ∷ []) (let e : a ≡ a + 0 = omega arith in e)
range_more a (suc n) = ap (λ l. a ∷ l) (range_more (a + 1) n ∙ ap (λ b. range_with_len (a + 1) n ++ b ∷ []) (let e : a + 1 + n ≡ a + suc n = omega arith in e))

one_more : (none : Bool) (n : ℕ) (f : ℕ → WeakRegistration) → map f (cond (not none) (n ∷ []) []) ≡ cond none [] (f n ∷ [])
one_more true n f = refl
one_more false n f = refl

no_mask : (none : Bool) (e : WeakRegistration) → map without_mask (cond none [] (e ∷ [])) ≡ cond none [] (without_mask e ∷ [])
no_mask true e = refl
no_mask false e = refl

module _ (types : List ObjectType) (nodes : List Node) (x : Node) (live : is_live x.life ≡ true) where
  abbrev joined : List Node
  joined = nodes ++ x ∷ []

  old_node : (n : ℕ) → n < length nodes → node_at joined n ≡ node_at nodes n
  old_node n low = get_or_append_left nodes (x ∷ []) no_node n low

  new_node_is : node_at joined (length nodes) ≡ x
  new_node_is = get_or_push nodes x no_node (length nodes) refl

  olds_agree : All (λ n. (is_weak_holder types joined n ≡ is_weak_holder types nodes n) × (registration_at types joined n ≡ registration_at types nodes n))
      (range_with_len 0 (length nodes))
  olds_agree i d low =
      let within : i < length nodes = omega (arith, low, length-range_with_len 0 (length nodes)) in
      let at : get_or (range_with_len 0 (length nodes)) i d ≡ i = get_or-range_with_len 0 (length nodes) i d within ∙ (let e : 0 + i ≡ i = omega arith in e) in
      subst (λ n. (is_weak_holder types joined n ≡ is_weak_holder types nodes n) × (registration_at types joined n ≡ registration_at types nodes n)) (sym at) (
        ap (λ (y : Node). is_live y.life && not (length (get_or types y.object.ty no_type).weak_callbacks == 0)) (old_node i within),
        ap (λ (y : Node). weakly_registered i y.place (get_or types y.object.ty no_type).weak_callbacks) (old_node i within),
      )

  abbrev numbers : List ℕ
  numbers = (get_or types x.object.ty no_type).weak_callbacks

  last_agrees : map (registration_at types joined) (filter (is_weak_holder types joined) (length nodes ∷ [])) ≡ weakly_registered_all (length nodes) x.place numbers
  last_agrees =
      ap (λ (y : Node). map (registration_at types joined) (cond (is_live y.life && not (length (get_or types y.object.ty no_type).weak_callbacks == 0)) (length nodes ∷ []) [])) new_node_is
      ∙ ap (λ b. map (registration_at types joined) (cond (b && not (length numbers == 0)) (length nodes ∷ []) [])) live
      ∙ one_more (length numbers == 0) (length nodes) (registration_at types joined)
      ∙ ap (λ (y : Node). cond (length numbers == 0) [] (weakly_registered (length nodes) y.place (get_or types y.object.ty no_type).weak_callbacks ∷ [])) new_node_is

  -- the weak callbacks of a new node join the others
  pub holder_joins : (entries : List WeakRegistration) → AreOfHolders types nodes entries
      → AreOfHolders types joined (entries ++ weakly_registered_all (length nodes) x.place numbers)
  holder_joins entries registered =
      map-append without_mask entries (weakly_registered_all (length nodes) x.place numbers)
      ∙ ap (λ back. map without_mask entries ++ back) (no_mask (length numbers == 0) (weakly_registered (length nodes) x.place numbers))
      ∙ ap (λ front. front ++ weakly_registered_all (length nodes) x.place numbers) registered
      ∙ sym (ap (λ count. map (registration_at types joined) (filter (is_weak_holder types joined) (range_with_len 0 count))) (length_push nodes x ∙ (let e : length nodes + 1 ≡ suc (length nodes) = omega arith in e))
      ∙ ap (λ ns. map (registration_at types joined) (filter (is_weak_holder types joined) ns))
      (range_more 0 (length nodes) ∙ ap (λ m. range_with_len 0 (length nodes) ++ m ∷ []) (let e : 0 + length nodes ≡ length nodes = omega arith in e))
      ∙ ap (map (registration_at types joined)) (filter-append (is_weak_holder types joined) (range_with_len 0 (length nodes)) (length nodes ∷ []))
      ∙ map-append (registration_at types joined) (filter (is_weak_holder types joined) (range_with_len 0 (length nodes))) (filter (is_weak_holder types joined) (length nodes ∷ []))
      ∙ ap (λ front. front ++ map (registration_at types joined) (filter (is_weak_holder types joined) (length nodes ∷ [])))
      (agree (is_weak_holder types joined) (is_weak_holder types nodes) (registration_at types joined) (registration_at types nodes) (range_with_len 0 (length nodes)) olds_agree)
      ∙ ap (λ back. map (registration_at types nodes) (weak_holders types nodes) ++ back) last_agrees)
