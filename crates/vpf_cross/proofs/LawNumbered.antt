-- What rows that are numbered name is there, in this tile and in others.
use Rattle.std.proofs.Common.{◌≡◌, ℕ, ◌≤◌, Bool, true, false, refl, sym, ap, ◌∙◌, subst, inl, inr, arith, Option, Some, None}
use Rattle.vpf_triplet.specs.declared.triplets.Triplet.{Triplet}
use Rattle.vpf_darts.specs.Darts.{tile_in, edge_in}
use Rattle.vpf_prims.specs.References.{id_of}
use Rattle.vpf_prims.specs.Primitives.{EdgePrimitive, Library, is_there, has_tables, node_count, edge_count, face_count}
use Rattle.vpf_prims.specs.Numbering.{IsRowOf, IsPlain, IsCross, IsReference, IsFace, IsEdgeOf}
use Rattle.vpf_prims.specs.Tables.{TileTables}
use Rattle.vpf_prims.specs.Coverages.{CoverageTables, tile_at}
use Rattle.vpf_wing.specs.Links.{Beyond, link_of, links_of, edge_of_dart, wing_by, node_by, face_by}
use Rattle.vpf_prims.specs.Libraries.{primitives_in, library_of}
use Rattle.vpf_wing.specs.Inner.DartLaws.{IsThere, has-there, none_is_some, same_some, never_both}
use Rattle.vpf_cross.specs.Inner.Laws.{AreNumbered}

-- a tile that has tables, by its tables
tables_there : (o : Option TileTables) → is_there (primitives_in o) ≡ true → (T : TileTables) × (o ≡ Some T)
tables_there None h = absurd (never_both false h refl)
tables_there (Some T) h = (T, refl)

pub tables_of_tile : (c : CoverageTables) (t : ℕ) → has_tables (library_of c) t ≡ true → (T : TileTables) × (tile_at c t ≡ Some T)
tables_of_tile c t h = tables_there (tile_at c t) h

pub tile_has_tables : (c : CoverageTables) (t : ℕ) (T : TileTables) → tile_at c t ≡ Some T → has_tables (library_of c) t ≡ true
tile_has_tables c t T e = ap (λ o. is_there (primitives_in o)) e

-- the row of a dart
pub dart_row : (c : CoverageTables) → AreNumbered (library_of c) → (d : ℕ) → (links_of (library_of c)).has d ≡ true → (T : TileTables)
    → tile_at c (tile_in d) ≡ Some T
    → IsEdgeOf (library_of c) (tile_in d) (edge_in d) (edge_of_dart (library_of c) d)
dart_row c numbered d has T e =
    let i : IsThere (library_of c) d = has-there (library_of c) d has in
    (numbered (tile_in d) (tile_has_tables c (tile_in d) T e)).edges (edge_in d) (i.from_one, i.to_count)

-- a reference that goes on in another tile
pub record GoesOn (L : Library) (count : ℕ → ℕ) (t : ℕ) (r : Triplet) (p : Beyond) : Type 0 where
  pub here : IsRowOf (count t) (id_of r)
  pub other : p.tile ≡ t → ⊥
  pub has : has_tables L p.tile ≡ true
  pub row : IsRowOf (count p.tile) p.id

pub cross_on : (L : Library) (count : ℕ → ℕ) (t low : ℕ) (r : Triplet) (p : Beyond) → 1 ≤ low → IsCross L count t low r → (link_of r).out ≡ Some p
    → GoesOn L count t r p
cross_on L count t low r p one c out =
    let is : id_of r ≡ c.id = ap id_of c.is in
    let same : Some (record { tile = c.tile; id = c.ext }) ≡ Some p = sym (ap (λ (x : Triplet). (link_of x).out) c.is) ∙ out in
    let q = same_some (record { tile = c.tile; id = c.ext }) p same in
    let tile : c.tile ≡ p.tile = ap (λ (b : Beyond). b.tile) q in
    let id : c.ext ≡ p.id = ap (λ (b : Beyond). b.id) q in
    let low' = c.from_low in
    let high = c.to_last in
    let row : IsRowOf (count c.tile) c.ext = (omega arith, omega arith) in
    record {
      here = subst (IsRowOf (count t)) (sym is) c.here;
      other = λ e. c.other (tile ∙ e);
      has = subst (λ s. has_tables L s ≡ true) tile c.there;
      row = subst (λ s. IsRowOf (count s) p.id) tile (subst (IsRowOf (count c.tile)) id row);
    }

plain_on : (low last : ℕ) (r : Triplet) (p : Beyond) → IsPlain low last r → (link_of r).out ≡ Some p → ⊥
plain_on low last r p i out = none_is_some p (sym (ap (λ (x : Triplet). (link_of x).out) i.is) ∙ out)

pub reference_on : (L : Library) (count : ℕ → ℕ) (t : ℕ) (r : Triplet) (p : Beyond) → IsReference L count t r → (link_of r).out ≡ Some p → GoesOn L count t r p
reference_on L count t r p (inl i) out = absurd (plain_on 1 (count t) r p i out)
reference_on L count t r p (inr c) out = cross_on L count t 1 r p (omega arith) c out

pub face_on : (L : Library) (t : ℕ) (r : Triplet) (p : Beyond) → IsFace L t r → (link_of r).out ≡ Some p → GoesOn L (face_count L) t r p
face_on L t r p (inl i) out = absurd (plain_on 1 (face_count L t) r p i out)
face_on L t r p (inr c) out = cross_on L (face_count L) t 2 r p (omega arith) c.0 out

-- a reference is to a row of its tile
pub reference_here : (L : Library) (count : ℕ → ℕ) (t : ℕ) (r : Triplet) → IsReference L count t r → IsRowOf (count t) (id_of r)
reference_here L count t r (inl i) =
    let e : id_of r ≡ i.id = ap id_of i.is in
    let a = i.from_low in
    let b = i.to_last in
    (omega arith, omega arith)
reference_here L count t r (inr c) = let e : id_of r ≡ c.id = ap id_of c.is in subst (IsRowOf (count t)) (sym e) c.here

-- what a row names by its sides
pub node_named : (L : Library) (t k : ℕ) (e : EdgePrimitive) (m : Bool) → IsEdgeOf L t k e → IsReference L (node_count L) t (node_by m e)
node_named L t k e true i = i.start_node
node_named L t k e false i = i.end_node

pub wing_named : (L : Library) (t k : ℕ) (e : EdgePrimitive) (m : Bool) → IsEdgeOf L t k e → IsReference L (edge_count L) t (wing_by m e)
wing_named L t k e true i = i.left_edge
wing_named L t k e false i = i.right_edge

pub face_named : (L : Library) (t k : ℕ) (e : EdgePrimitive) (m : Bool) → IsEdgeOf L t k e → IsFace L t (face_by m e)
face_named L t k e true i = i.left_face
face_named L t k e false i = i.right_face
