-- What a program declares of its objects.
use Rattle.std.specs.Prelude.{ℕ, List, [], ◌∷◌, ◌++◌, map}
use Rattle.gc_graph.specs.declared.kind.Kind.{Kind}
use Rattle.gc_graph.specs.State.{ObjectType}

-- a field: its name, in bytes, and its kind
pub record DeclaredField : Type 0 where
  pub name : List ℕ
  pub kind : Kind

-- an object: its name, in bytes, its fields, and the callbacks that are its prefinalizers
pub record DeclaredObject : Type 0 where
  pub name : List ℕ
  pub fields : List DeclaredField
  pub prefinalizers : List ℕ

-- the names of an object and of its fields
pub record NamedObject : Type 0 where
  pub name : List ℕ
  pub fields : List DeclaredField

-- an object that is being declared, and those before it
pub record Declaring : Type 0 where
  pub before : List DeclaredObject
  pub object : DeclaredObject

-- the objects before it, and the object
abbrev pub with_last : Declaring → List DeclaredObject
with_last d = d.before ++ d.object ∷ []

-- an object without fields and prefinalizers after those before it
abbrev pub begun : List ℕ → List DeclaredObject → Declaring
begun name before = record { before = before; object = record { name = name; fields = []; prefinalizers = [] } }

-- one field more, the last one
abbrev pub add_field : Kind → List ℕ → DeclaredObject → DeclaredObject
add_field kind name o = record o { fields = o.fields ++ record { name = name; kind = kind } ∷ [] }

-- one prefinalizer more, the last one
abbrev pub add_prefinalizer : ℕ → DeclaredObject → DeclaredObject
add_prefinalizer number o = record o { prefinalizers = o.prefinalizers ++ number ∷ [] }

-- the object that is being declared has one field more
abbrev pub with_field : Kind → List ℕ → Declaring → Declaring
with_field kind name d = record d { object = add_field kind name d.object }

-- it has one prefinalizer more
abbrev pub with_prefinalizer : ℕ → Declaring → Declaring
with_prefinalizer number d = record d { object = add_prefinalizer number d.object }

-- the kinds of fields
abbrev pub kinds_of : List DeclaredField → List Kind
kinds_of fields = map (λ f. f.kind) fields

-- the type of an object: the kinds of its fields, and its prefinalizers, in their order; it has no weak callbacks
abbrev pub type_of : DeclaredObject → ObjectType
type_of o = record { kinds = kinds_of o.fields; prefinalizers = o.prefinalizers; weak_callbacks = [] }

-- the types of objects, by number
abbrev pub types_of : List DeclaredObject → List ObjectType
types_of objects = map type_of objects

-- the names of a declared object
abbrev pub named_of : DeclaredObject → NamedObject
named_of o = record { name = o.name; fields = o.fields }

-- the names of declared objects, by number
abbrev pub named_all : List DeclaredObject → List NamedObject
named_all objects = map named_of objects
