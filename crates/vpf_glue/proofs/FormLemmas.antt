-- Tables that are written like those of the first tile are those of the glued coverage.
use Rattle.std.proofs.Common.{◌≡◌, Option, None, Some, Result, Ok, Err, codes, refl, sym, ap, ◌∙◌}
use Rattle.std.specs.Prelude.{IfOk}
use Rattle.std.specs.Option.{option_map}
use Rattle.vpf_triplet.specs.declared.kinds.Kind.TheVariants.{I}
use Rattle.vpf_table.specs.Grid.{Grid}
use Rattle.vpf_prims.specs.Coverages.{CoverageTables}
use Rattle.vpf_prims.specs.Reading.{PrimitiveTables}
use Rattle.vpf_primitive_tables.specs.Inner.TableForms.Models.{EdgesLike, PairsLike}
use Rattle.vpf_glue.specs.declared.glued_tables.forms.GluedForms.{GluedForms}
use Rattle.vpf_glue.specs.GluedTables.Grids.{first_end, glued_edge_grid, glued_entity_grid, glued_face_grid, glued_node_grid, glued_ring_grid, glued_tables}
use Rattle.vpf_glue.specs.Inner.Forms.{tables_by}

abbrev pub end_like : Grid → PairsLike
end_like table = record { table = table; name = codes "containing_face" }

ends_same : (c : CoverageTables) (o : Option Grid) → option_map (λ (end : PairsLike). glued_entity_grid end.table c) (option_map end_like o) ≡ option_map (λ (end : Grid). glued_entity_grid end c) o
ends_same c None = refl
ends_same c (Some end) = refl

all_same : (edg edg' fac fac' rng rng' cnd cnd' : Grid) (end end' : Option Grid) → edg ≡ edg' → fac ≡ fac' → rng ≡ rng' → cnd ≡ cnd' → end ≡ end'
    → (let t : PrimitiveTables = record { edg = edg; fac = fac; rng = rng; cnd = cnd; end = end } in t) ≡ record { edg = edg'; fac = fac'; rng = rng'; cnd = cnd'; end = end' }
all_same edg edg' fac fac' rng rng' cnd cnd' end end' a b d e f = cc

pub forms_same : {E : Type 0} (r : Result GluedForms E) (first : PrimitiveTables) (c : CoverageTables) (end : Option Grid) → end ≡ first_end c.tiles
    → IfOk r (λ f. f.edg ≡ record { table = first.edg; references = I }) → IfOk r (λ f. f.fac ≡ record { table = first.fac; name = codes "ring_ptr" })
    → IfOk r (λ f. f.rng ≡ first.rng) → IfOk r (λ f. f.cnd ≡ record { table = first.cnd; name = codes "first_edge" })
    → IfOk r (λ f. f.end ≡ option_map end_like end) → IfOk r (λ f. tables_by f c ≡ glued_tables first c)
forms_same (Err e) first c end is a b d n x = tt
forms_same (Ok f) first c end is a b d n x =
    all_same (glued_edge_grid f.edg.table c) (glued_edge_grid first.edg c) (glued_face_grid f.fac.table c) (glued_face_grid first.fac c) (glued_ring_grid f.rng c) (glued_ring_grid first.rng c)
    (glued_node_grid f.cnd.table c) (glued_node_grid first.cnd c) (option_map (λ (end : PairsLike). glued_entity_grid end.table c) f.end) (option_map (λ (end : Grid). glued_entity_grid end c) (first_end c.tiles))
    (ap (λ (e : EdgesLike). glued_edge_grid e.table c) a) (ap (λ (p : PairsLike). glued_face_grid p.table c) b) (ap (λ (g : Grid). glued_ring_grid g c) d) (ap (λ (p : PairsLike). glued_node_grid p.table c) n)
    (ap (option_map (λ (end : PairsLike). glued_entity_grid end.table c)) x ∙ ends_same c end ∙ ap (option_map (λ (end : Grid). glued_entity_grid end c)) is)
