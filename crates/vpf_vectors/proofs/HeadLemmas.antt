-- The bytes of headers are read as the headers that are meant, and these are short.
use Rattle.std.proofs.Common.{◌≡◌, refl, Result, Ok, Err}
use Rattle.std.specs.Prelude.{IsOk}
use Rattle.vpf_head.specs.Items.{text_at, item_at, name_at}
use Rattle.vpf_head.specs.Reading.{header_of, head_at, columns_at, column_at, narrative_at, key_at, count_at, kind_at, fresh_name_at}
use Rattle.vpf_vectors.specs.declared.headers.TheConstants.{TILEREF, EDGES, FACES, RINGS, NODES, PLAN}
use Rattle.vpf_vectors.specs.Heads.{tileref_head, edge_head, face_head, ring_head, node_head, plan_head}

pub tileref_read : header_of TILEREF.now ≡ Ok (tileref_head, 62)
unfolding header_of head_at columns_at column_at narrative_at key_at count_at kind_at fresh_name_at text_at item_at name_at
tileref_read = refl

pub edges_read : header_of EDGES.now ≡ Ok (edge_head, 234)
unfolding header_of head_at columns_at column_at narrative_at key_at count_at kind_at fresh_name_at text_at item_at name_at
edges_read = refl

pub faces_read : header_of FACES.now ≡ Ok (face_head, 61)
unfolding header_of head_at columns_at column_at narrative_at key_at count_at kind_at fresh_name_at text_at item_at name_at
faces_read = refl

pub rings_read : header_of RINGS.now ≡ Ok (ring_head, 89)
unfolding header_of head_at columns_at column_at narrative_at key_at count_at kind_at fresh_name_at text_at item_at name_at
rings_read = refl

pub nodes_read : header_of NODES.now ≡ Ok (node_head, 63)
unfolding header_of head_at columns_at column_at narrative_at key_at count_at kind_at fresh_name_at text_at item_at name_at
nodes_read = refl

pub plan_read : header_of PLAN.now ≡ Ok (plan_head, 61)
unfolding header_of head_at columns_at column_at narrative_at key_at count_at kind_at fresh_name_at text_at item_at name_at
plan_read = refl

ok_from : {T E : Type 0} (r : Result T E) (x : T) → r ≡ Ok x → IsOk r
ok_from (Ok y) x e = refl
ok_from (Err p) x e = absurd cc

pub tileref_ok : IsOk (header_of TILEREF.now)
tileref_ok = ok_from (header_of TILEREF.now) (tileref_head, 62) tileref_read

pub edges_ok : IsOk (header_of EDGES.now)
edges_ok = ok_from (header_of EDGES.now) (edge_head, 234) edges_read

pub faces_ok : IsOk (header_of FACES.now)
faces_ok = ok_from (header_of FACES.now) (face_head, 61) faces_read

pub rings_ok : IsOk (header_of RINGS.now)
rings_ok = ok_from (header_of RINGS.now) (ring_head, 89) rings_read

pub nodes_ok : IsOk (header_of NODES.now)
nodes_ok = ok_from (header_of NODES.now) (node_head, 63) nodes_read

pub plan_ok : IsOk (header_of PLAN.now)
plan_ok = ok_from (header_of PLAN.now) (plan_head, 61) plan_read
