-- What the writing of these tables asks for: small numbers, and the columns of pairs.
use Rattle.std.specs.Prelude.{◌≡◌, ℕ, ◌≤◌, List, [], ◌∷◌, length}
use Rattle.vpf_head.specs.Canonical.{canonical_text}
use Rattle.vpf_head.specs.Head.{Head}
use Rattle.vpf_vectors.specs.declared.cells.rows.EdgeRow.{EdgeRow}
use Rattle.vpf_vectors.specs.declared.cells.rows.RingRow.{RingRow}
use Rattle.vpf_vectors.specs.Heads.{plain_head, ids, numbers}
use Rattle.vpf_vectors.specs.declared.numbers.TheConstants.{MOST_NUMBER}

-- no number of a grid is greater
abbrev pub IsGridNumber : ℕ → Type 0
IsGridNumber k = k ≤ MOST_NUMBER

-- the numbers of an edge are small
pub record IsSmallEdge (row : EdgeRow) : Type 0 where
  pub start_node : IsGridNumber row.start_node
  pub end_node : IsGridNumber row.end_node
  pub right_face : IsGridNumber row.right_face
  pub left_face : IsGridNumber row.left_face
  pub right_edge : IsGridNumber row.right_edge
  pub left_edge : IsGridNumber row.left_edge

-- the numbers of a ring are small
pub record IsSmallRingRow (row : RingRow) : Type 0 where
  pub face_id : IsGridNumber row.face_id
  pub start_edge : IsGridNumber row.start_edge

-- a short header of an id and a number
pub record HasPairs (h : Head) : Type 0 where
  pub description : List ℕ
  pub id : List ℕ
  pub name : List ℕ
  pub text : List ℕ
  pub is : h ≡ plain_head description (ids id ∷ numbers name text ∷ [])
  pub short : length (canonical_text h) ≤ 1000
