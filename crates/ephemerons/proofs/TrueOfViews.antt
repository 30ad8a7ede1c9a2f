-- What is true of every view while marking goes on: references name objects, and what traced objects name is marked.
use Rattle.std.proofs.Common.{◌≡◌, ℕ, ◌+◌, ◌-◌, ◌≤◌, true, List, length, eqb, sym, ap, subst, inl, inr, arith}
use Rattle.std.specs.List.{Contains}
use Rattle.std.proofs.lemmas.Bool.{or_cases, eqb-true, cases_eq}
use Rattle.gc_graph.specs.declared.kind.Kind.TheVariants.{Strong, Pair}
use Rattle.gc_graph.specs.Fields.{field_words}
use Rattle.gc_graph.specs.State.{ObjectType}
use Rattle.type_table.specs.Types.{declared_kinds}
use Rattle.marker_core.specs.declared.states.Body.{Body}
use Rattle.marker_core.specs.declared.states.Role.TheVariants.{ValueWord}
use Rattle.marker_core.specs.Bodies.{IsReference, holds, names_body, is_place, refers, role_in, kinds_of_type, field_word_count, word_in}
use Rattle.marker_core.specs.RoleOrder.{value_after_key}
use Rattle.page_words.specs.BodyPlaces.{known_type, whole_body}
use Rattle.page_words.specs.PlaceTests.{place_of_test}
use Rattle.page_words.specs.Roles.{kind_lists, kinds_fit, word_count_is}
use Rattle.page_words.specs.Seat.{SeatView, IsView, IsAlone}
use Rattle.pair_notes.specs.BodyGraph.{AreReferences, pair_offsets, word_at}
use Rattle.pair_notes.specs.Marking.{TracedNameMarked}
use Rattle.pair_notes.specs.Fields.{field_at_offset}
use Rattle.pair_notes.specs.BodyLeads.{role_of_offset}

-- a reference that names a body, as a word of the body
named_reference : (bodies : List Body) (w : ℕ) → names_body bodies w ≡ true → IsReference bodies w
named_reference bodies w names = elim (or_cases (eqb w 0) (is_place bodies (w - 1)) names) [
  | inl null ↦ inl (eqb-true w 0 null)
  | inr place ↦ elim (cases_eq w 0) [
    | inl null ↦ inl null
    | inr some ↦ (let at = place_of_test bodies (w - 1) place in inr (at.0, at.1, omega (arith, at.2)))
  ]
]

module _ (v : SeatView) (view : IsView v) (on : v.on ≡ true) where
  -- nothing is dead
  word_refers : (b : Body) (i : ℕ) → Contains v.bodies b → refers (role_in (kind_lists v.types) b i) ≡ true → IsReference v.bodies (word_in b i)
  word_refers b i there is =
      named_reference v.bodies (word_in b i) (view.references b i there (ap (λ (l : List ℕ). holds l b.place) (view.marking on).no_dead) is)

  value_refers : (b : Body) (offset : ℕ) → Contains v.bodies b → Contains (pair_offsets v.types b) offset → IsReference v.bodies (word_at b (offset + 1))
  value_refers b offset there pair =
      let field = field_at_offset Pair (declared_kinds v.types b.ty) offset pair in
      let next : offset + 1 - 2 ≡ offset - 2 + 1 = omega (arith, field.2) in
      let role : role_in (kind_lists v.types) b (offset - 2 + 1) ≡ ValueWord =
      value_after_key (kinds_of_type (kind_lists v.types) b.ty) (offset - 2) (role_of_offset v.types b Pair offset pair) in
      subst (λ i. IsReference v.bodies (word_in b i)) (sym next) (word_refers b (offset - 2 + 1) there (ap refers role))

  fields_there : (b : Body) → Contains v.bodies b → field_words (declared_kinds v.types b.ty) ≤ length b.fields
  fields_there b there =
      let whole = whole_body v view b there in
      omega (arith, whole.room, whole.fields, word_count_is (declared_kinds v.types b.ty), ap field_word_count (kinds_fit v.types b.ty))

  pub are_references : (types : List ObjectType) → v.types ≡ types → AreReferences types v.bodies
  are_references types known = subst (λ ts. AreReferences ts v.bodies) known (record {
    typed = λ b there. known_type v view b there;
    whole = fields_there;
    named = λ b offset there strong. word_refers b (offset - 2) there (ap refers (role_of_offset v.types b Strong offset strong));
    keys = λ b offset there pair. word_refers b (offset - 2) there (ap refers (role_of_offset v.types b Pair offset pair));
    values = value_refers;
  })

  pub traced_name_marked : (types : List ObjectType) → v.types ≡ types → IsAlone v → TracedNameMarked types v
  traced_name_marked types known alone =
      subst (λ ts. TracedNameMarked ts v) known
      (λ p traced b offset q there at strong names.
      (let target : word_in b (offset - 2) - 1 ≡ q = omega (arith, names) in
      subst (λ x. holds v.marked x ≡ true) target
      ((view.marking on).traced_targets alone.none_lent alone.no_hand alone.no_pending b (offset - 2) there
      (subst (λ x. holds v.traced x ≡ true) (sym at) traced) (role_of_offset v.types b Strong offset strong) (omega (arith, names)))))
