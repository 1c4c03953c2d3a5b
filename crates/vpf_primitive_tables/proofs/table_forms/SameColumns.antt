-- New kinds and new values for the columns of the same names are for the same columns.
use Rattle.std.proofs.Common.{◌≡◌, ℕ, List, ◌++◌, map, Option, Some, None, codes, refl}
use Rattle.std.specs.Option.{option_map, option_to_list}
use Rattle.std.proofs.lemmas.List.{map-append}
use Rattle.vpf_triplet.specs.declared.kinds.Kind.{Kind}
use Rattle.vpf_triplet.specs.declared.kinds.Kind.TheVariants as kinds
use Rattle.vpf_value.specs.Values.{Value}
use Rattle.vpf_head.specs.Head.{Col, place_of}
use Rattle.vpf_write.specs.declared.revise.changes.NewKind.{NewKind}
use Rattle.vpf_write.specs.Revise.Revising.{NewValue}
use Rattle.vpf_primitive_tables.specs.TableForms.Forms.{EdgeValues, edge_kinds_of, edge_values_of, named_kind, named_value, natural_value, pair_kinds, pair_values}

-- the new kinds and the new values are for the same columns
abbrev pub AreForSame : List NewKind → List NewValue → Type 0
AreForSame news changes = map (λ (kind : NewKind). kind.column) news ≡ map (λ (new : NewValue). new.column) changes

one_same : (o : Option ℕ) (kind : Kind) (v : Value)
    → AreForSame (option_to_list (option_map (λ (c : ℕ). record { column = c; kind = kind }) o)) (option_to_list (option_map (λ (c : ℕ). record { column = c; value = v }) o))
one_same None kind v = refl
one_same (Some c) kind v = refl

-- those for the column of a name
named_same : (columns : List Col) (name : List ℕ) (kind : Kind) (v : Value) → AreForSame (named_kind columns name kind) (named_value columns name v)
named_same columns name kind v = one_same (place_of name columns) kind v

-- and one after another
both_same : (a b : List NewKind) (c d : List NewValue) → AreForSame a c → AreForSame b d → AreForSame (a ++ b) (c ++ d)
both_same a b c d e f = rw (map-append (λ (kind : NewKind). kind.column) a b, map-append (λ (new : NewValue). new.column) c d, e, f) refl

-- ids and one other column
pub pair_same : (name : List ℕ) (columns : List Col) (k n : ℕ) → AreForSame (pair_kinds name columns) (pair_values name columns k n)
pair_same name columns k n =
    both_same (named_kind columns (codes "id") kinds.I) (named_kind columns name kinds.I) (named_value columns (codes "id") (natural_value k)) (named_value columns name (natural_value n))
    (named_same columns (codes "id") kinds.I (natural_value k)) (named_same columns name kinds.I (natural_value n))

-- the columns of edges
pub edge_same : (kind : Kind) (columns : List Col) (k : ℕ) (v : EdgeValues) → AreForSame (edge_kinds_of kind columns) (edge_values_of columns k v)
edge_same kind columns k v =
    both_same _ _ _ _ (named_same columns (codes "id") kinds.I (natural_value k))
    (both_same _ _ _ _ (named_same columns (codes "start_node") kind v.start_node)
    (both_same _ _ _ _ (named_same columns (codes "end_node") kind v.end_node)
    (both_same _ _ _ _ (named_same columns (codes "right_face") kind v.right_face)
    (both_same _ _ _ _ (named_same columns (codes "left_face") kind v.left_face)
    (both_same _ _ _ _ (named_same columns (codes "right_edge") kind v.right_edge)
    (named_same columns (codes "left_edge") kind v.left_edge))))))
