-- The bytes of headers are read as the headers that are meant, and these are short.
use Rattle.std.proofs.Common.{[], ◌≡◌, ◌≤◌, ◌∷◌, length, refl, codes, arith}
use Rattle.std.specs.Fmt.{decimal}
use Rattle.std.proofs.lemmas.Fmt.{decimal_digit}
use Rattle.vpf_head.specs.Canonical.{canonical_text, columns_text, column_text}
use Rattle.vpf_vectors.specs.Heads.{face_head, node_head, plan_head, tileref_head, edge_head, ring_head}
use Rattle.vpf_vectors.specs.Inner.Writing.{HasPairs}

pub one : decimal 1 ≡ 49 ∷ []
one = decimal_digit 1 (omega arith)

pub short_faces : length (canonical_text face_head) ≤ 1000
unfolding canonical_text columns_text column_text
short_faces = rw one (omega arith)

pub short_nodes : length (canonical_text node_head) ≤ 1000
unfolding canonical_text columns_text column_text
short_nodes = rw one (omega arith)

pub short_plan : length (canonical_text plan_head) ≤ 1000
unfolding canonical_text columns_text column_text
short_plan = rw one (omega arith)

pub faces_have_pairs : HasPairs face_head
faces_have_pairs = record { description = codes "Faces"; id = codes "Id"; name = codes "ring_ptr"; text = codes "Ring"; is = refl; short = short_faces }

pub nodes_have_pairs : HasPairs node_head
nodes_have_pairs = record { description = codes "Nodes"; id = codes "Id"; name = codes "first_edge"; text = codes "Edge"; is = refl; short = short_nodes }

pub plan_has_pairs : HasPairs plan_head
plan_has_pairs = record { description = codes "Plan"; id = codes "Face"; name = codes "tile_id"; text = codes "Tile"; is = refl; short = short_plan }

pub eight : decimal 8 ≡ 56 ∷ []
eight = decimal_digit 8 (omega arith)

pub short_tileref : length (canonical_text tileref_head) ≤ 1000
unfolding canonical_text columns_text column_text
short_tileref = rw (one, eight) (omega arith)

pub short_edges : length (canonical_text edge_head) ≤ 1000
unfolding canonical_text columns_text column_text
short_edges = rw one (omega arith)

pub short_rings : length (canonical_text ring_head) ≤ 1000
unfolding canonical_text columns_text column_text
short_rings = rw one (omega arith)
