-- What a pause left of the parts that it was lent to change, in the order in which they stand in `Parts`.

-- the owner's access to the words
abbrev pub seat_left : {A B : Type 0} → A × B → A
seat_left x = x.0

-- the nodes
abbrev pub nodes_left : {A B C : Type 0} → A × (B × C) → B
nodes_left x = x.1.0

-- the owner's marking state
abbrev pub marking_left : {A B C D : Type 0} → A × (B × (C × D)) → C
marking_left x = x.1.1.0

-- the weak slots
abbrev pub weak_left : {A B C D E : Type 0} → A × (B × (C × (D × E))) → D
weak_left x = x.1.1.1.0

-- the registered prefinalizers
abbrev pub registry_left : {A B C D E F : Type 0} → A × (B × (C × (D × (E × F)))) → E
registry_left x = x.1.1.1.1.0

-- the registered weak callbacks
abbrev pub weak_calls_left : {A B C D E F G : Type 0} → A × (B × (C × (D × (E × (F × G))))) → F
weak_calls_left x = x.1.1.1.1.1.0

-- the owner's pass
abbrev pub pass_left : {A B C D E F G H : Type 0} → A × (B × (C × (D × (E × (F × (G × H)))))) → G
pass_left x = x.1.1.1.1.1.1.0
