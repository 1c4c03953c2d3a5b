-- The columns of the primitive tables that have a role, by their names in any case (MIL-STD-2407, 5.2.2, primitives).
use Rattle.std.specs.Prelude.{ℕ, Bool, true, false, List, [], ◌∷◌, codes}
use Rattle.vpf_triplet.specs.declared.kinds.Kind.{Kind}
use Rattle.vpf_triplet.specs.declared.kinds.Kind.TheVariants as kinds
use Rattle.vpf_table.specs.SeenWord.{SeenWord}
use Rattle.vpf_table.specs.SeenWord.TheVariants as words
use Rattle.vpf_prims.specs.declared.roles.Wants.{Wants}
use Rattle.vpf_prims.specs.declared.roles.Wants.TheVariants as wants
use Rattle.vpf_prims.specs.declared.roles.Role.{Role as LentRole}

-- a role: the name of its column, what is wanted of it, and whether it may be left out
pub record Role : Type 0 where
  pub name : List ℕ
  pub wants : Wants
  pub optional : Bool

-- a role of the code, its name as a list
abbrev pub role_of : LentRole → Role
role_of r = record { name = r.name.now; wants = r.wants; optional = r.optional }

-- a number: S or I
abbrev pub is_number : Kind → Bool
is_number kinds.S = true
is_number kinds.I = true
is_number kind = false

-- a reference to a primitive: a number or a triplet id
abbrev pub is_reference : Kind → Bool
is_reference kinds.S = true
is_reference kinds.I = true
is_reference kinds.K = true
is_reference kind = false

-- a mark: S
abbrev pub is_mark : Kind → Bool
is_mark kinds.S = true
is_mark kind = false

-- text
abbrev pub is_text : Kind → Bool
is_text kinds.T = true
is_text kinds.L = true
is_text kinds.M = true
is_text kinds.N = true
is_text kind = false

-- the kinds that a role allows
abbrev pub suits : Wants → Kind → Bool
suits wants.Number kind = is_number kind
suits wants.Reference kind = is_reference kind
suits wants.Mark kind = is_mark kind
suits wants.Text kind = is_text kind

-- the word for what a role wants
abbrev pub wanted_word : Wants → SeenWord
wanted_word wants.Number = words.Number
wanted_word wants.Reference = words.Reference
wanted_word wants.Mark = words.Mark
wanted_word wants.Text = words.Text

-- the role of a number
abbrev pub number_role : List ℕ → Role
number_role name = record { name = name; wants = wants.Number; optional = false }

-- the role of a reference
abbrev pub reference_role : List ℕ → Role
reference_role name = record { name = name; wants = wants.Reference; optional = false }

-- the role of a mark, which may be left out
abbrev pub mark_role : List ℕ → Role
mark_role name = record { name = name; wants = wants.Mark; optional = true }

-- the role of a text
abbrev pub text_role : List ℕ → Role
text_role name = record { name = name; wants = wants.Text; optional = false }

-- the roles of edges, in the order in which they are looked at
abbrev pub edge_roles : List Role
edge_roles =
    number_role (codes "id")
    ∷ reference_role (codes "start_node")
    ∷ reference_role (codes "end_node")
    ∷ reference_role (codes "right_face")
    ∷ reference_role (codes "left_face")
    ∷ reference_role (codes "right_edge")
    ∷ reference_role (codes "left_edge")
    ∷ mark_role (codes "tile_line") ∷ []

-- the roles of faces
abbrev pub face_roles : List Role
face_roles =
    number_role (codes "id")
    ∷ reference_role (codes "ring_ptr") ∷ []

-- the roles of rings
abbrev pub ring_roles : List Role
ring_roles =
    number_role (codes "id")
    ∷ reference_role (codes "face_id")
    ∷ reference_role (codes "start_edge") ∷ []

-- the roles of connected nodes
abbrev pub node_roles : List Role
node_roles =
    number_role (codes "id")
    ∷ reference_role (codes "first_edge") ∷ []

-- the roles of entity nodes
abbrev pub entity_roles : List Role
entity_roles =
    number_role (codes "id")
    ∷ reference_role (codes "containing_face") ∷ []

-- the roles of the table of tiles
abbrev pub tileref_roles : List Role
tileref_roles =
    number_role (codes "id")
    ∷ text_role (codes "tile_name") ∷ []

-- the roles of a plan
abbrev pub plan_roles : List Role
plan_roles =
    number_role (codes "id")
    ∷ number_role (codes "tile_id") ∷ []

-- the roles of a feature class schema table
abbrev pub class_roles : List Role
class_roles =
    text_role (codes "feature_class")
    ∷ text_role (codes "table1")
    ∷ text_role (codes "table1_key")
    ∷ text_role (codes "table2")
    ∷ text_role (codes "table2_key") ∷ []

-- the roles of a feature table
abbrev pub feature_roles : List Role
feature_roles =
    number_role (codes "id") ∷ []
