-- The numbers of the grid's rows are small, and there are few of them.
use Rattle.std.proofs.Common.{ℕ, ◌+◌, ◌*◌, ◌/◌, ◌≤◌, length, map, sym, subst, arith}
use Rattle.std.specs.List.{range_with_len}
use Rattle.std.proofs.lemmas.Nat.{mul-le}
use Rattle.std.proofs.lemmas.List.FromFn.{length-range_with_len, length-map-range_with_len}
use Rattle.vpf_vectors.specs.Cells.Numbers.{nodes, faces, edges}
use Rattle.vpf_vectors.specs.Cells.Rows.{row_of_edge, grid_ring_row, first_edge, tile_of, edge_rows, face_rows, ring_rows, node_rows, plan_rows}
use Rattle.vpf_vectors.specs.Library.{tiles}

-- how many there are
pub few_nodes : (n : ℕ) → n ≤ 200 → nodes n ≤ 50000
unfolding nodes
few_nodes n h = let m : (n + 1) * (n + 1) ≤ 201 * 201 = mul-le (n + 1) (n + 1) 201 201 (omega arith) (omega arith) in omega arith

pub few_faces : (n : ℕ) → n ≤ 200 → faces n ≤ 50000
unfolding faces
few_faces n h = let m : n * n ≤ 200 * 200 = mul-le n n 200 200 h h in omega arith

pub few_edges : (n : ℕ) → n ≤ 200 → edges n ≤ 100000
unfolding edges
few_edges n h = let m : n * (n + 1) ≤ 200 * 201 = mul-le n (n + 1) 200 201 h (omega arith) in omega arith

pub few_tiles : (n : ℕ) → n ≤ 200 → tiles n ≤ 100000
unfolding tiles
few_tiles n h = let m : n / 2 * (n / 2) ≤ 100 * 100 = mul-le (n / 2) (n / 2) 100 100 (omega arith) (omega arith) in omega arith

pub edges_are_few : (n : ℕ) → n ≤ 200 → length (edge_rows n) ≤ 100000
edges_are_few n h = subst (λ k. k ≤ 100000) (sym (length-map-range_with_len (row_of_edge n) 1 (edges n))) (few_edges n h)

pub faces_are_few : (n : ℕ) → n ≤ 200 → 1 + length (face_rows n) ≤ 100000
faces_are_few n h = let f = few_faces n h in let l = length-range_with_len 1 (faces n) in omega (arith, l)

pub rings_are_few : (n : ℕ) → n ≤ 200 → length (ring_rows n) ≤ 100000
rings_are_few n h = let f = few_faces n h in let l = length-map-range_with_len grid_ring_row 1 (faces n) in omega (arith, l)

pub nodes_are_few : (n : ℕ) → n ≤ 200 → 1 + length (node_rows n) ≤ 100000
nodes_are_few n h = let f = few_nodes n h in let l = length-map-range_with_len (first_edge n) 1 (nodes n) in omega (arith, l)

pub homes_are_few : (n : ℕ) → n ≤ 200 → 2 + length (plan_rows n) ≤ 100000
homes_are_few n h = let m : n * n ≤ 200 * 200 = mul-le n n 200 200 h h in let l = length-map-range_with_len (tile_of n) 2 (n * n) in omega (arith, l)
