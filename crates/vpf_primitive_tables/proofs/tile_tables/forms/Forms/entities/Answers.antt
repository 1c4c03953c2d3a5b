use Rattle.std.proofs.Common.{◌∙◌, ℕ, List, Option, Some, Err, Ok, codes, length, refl, ap, sym, subst}
use Rattle.std.specs.Prelude.{All}
use Rattle.vpf_prims.specs.Numbering.{IsRowOf}
use Rattle.vpf_prims.specs.Primitives.{entities_in}
use Rattle.vpf_table.specs.Grid.{Grid}
use Rattle.vpf_tiling.specs.Presence.{containing_face, held_entities, holds_entity, local_face}
use Rattle.vpf_tiling.specs.Ranks.{numbered}
use Rattle.vpf_cutting.specs.Inner.Cuts.{plan_by}
use Rattle.vpf_primitive_tables.specs.TileTables.Grids.{WritesWhere, entities_made}
use Rattle.vpf_primitive_tables.specs.Inner.TileTables.Models.{NamesFaces}
use Rattle.vpf_primitive_tables.proofs.table_forms.CountedRows.{made_of_items, rows_within}
use Rattle.vpf_primitive_tables.specs.Inner.TableForms.CountedLaws.{length-numbered}
use Rattle.vpf_primitive_tables.proofs.tile_tables.FormLemmas.{entity_rows, entity_table, written_like}
use Rattle.vpf_primitive_tables.proofs.tile_tables.forms.Forms.entities.Goals as goal

pub write_pairs-requires-clause-rows : goal.write_pairs-requires-clause-rows
write_pairs-requires-clause-rows c =
    let cut = c.args.cut.now in
    let n = length (entities_in (Some cut.source)) in
    let within = rows_within (holds_entity cut.source (plan_by cut.plan) c.args.tile) n in
    let here : All (IsRowOf n) c.entities_in.result.now = subst (All (IsRowOf n)) (sym c.entities_in.ensures.entities) within in
    subst (λ (n : ℕ). All (IsRowOf n) c.entities_in.result.now) (entity_rows cut.source c.self.inside c.args.self.now c.in-Some.end c.requires c.self.view_is c.in-Some.is) here

pub write_pairs-requires-clause-each : goal.write_pairs-requires-clause-each
write_pairs-requires-clause-each c =
    let cut = c.args.cut.now in
    let face = λ (n : ℕ). local_face cut.source (plan_by cut.plan) c.args.tile (containing_face cut.source n) in
    let held = held_entities cut.source (plan_by cut.plan) c.args.tile in
    let names = λ (k n : ℕ). face n in
    ap (λ (xs : List ℕ). length xs) (c.deref.ensures.value ∙ c.in_ok-faces.ensures.faces ∙ sym (made_of_items face held)) ∙ length-numbered names held
    ∙ ap (λ (xs : List ℕ). length xs) (sym c.entities_in.ensures.entities)

pub returns-in-Ok : goal.returns-in-Ok
returns-in-Ok c =
    let cut = c.args.cut.now in
    let end = c.in-Some.end in
    let face = λ (n : ℕ). local_face cut.source (plan_by cut.plan) c.args.tile (containing_face cut.source n) in
    let held = held_entities cut.source (plan_by cut.plan) c.args.tile in
    let names = λ (k n : ℕ). face n in
    let told = c.deref.ensures.value ∙ c.in_ok-faces.ensures.faces ∙ sym (made_of_items face held) ∙ ap (λ (xs : List ℕ). numbered names xs) (sym c.entities_in.ensures.entities) in
    let named = subst NamesFaces c.in-Some.is c.self.invariant.containing_face in
    let written = written_like end.name (codes "containing_face") end.table end.table names c.entities_in.result.now held (Ok c.in-Ok.written) named refl c.entities_in.ensures.entities
    (c.in-Ok.ensures names told) in
    subst (λ (o : Option Grid). WritesWhere o (λ end. entities_made end cut.source (plan_by cut.plan) c.args.tile) (Ok (Some c.in-Ok.written)))
    (sym (entity_table c.self.inside c.args.self.now end c.self.view_is c.in-Some.is)) written

pub returns : goal.returns
returns c =
    let cut = c.args.cut.now in
    let end = c.in-Some.end in
    let face = λ (n : ℕ). local_face cut.source (plan_by cut.plan) c.args.tile (containing_face cut.source n) in
    let held = held_entities cut.source (plan_by cut.plan) c.args.tile in
    let names = λ (k n : ℕ). face n in
    let told = c.deref.ensures.value ∙ c.in_ok-faces.ensures.faces ∙ sym (made_of_items face held) ∙ ap (λ (xs : List ℕ). numbered names xs) (sym c.entities_in.ensures.entities) in
    let named = subst NamesFaces c.in-Some.is c.self.invariant.containing_face in
    let written = written_like end.name (codes "containing_face") end.table end.table names c.entities_in.result.now held (Err c.in-Err.error) named refl c.entities_in.ensures.entities
    (c.in-Err.ensures names told) in
    subst (λ (o : Option Grid). WritesWhere o (λ end. entities_made end cut.source (plan_by cut.plan) c.args.tile) (Err c.in-Err.error))
    (sym (entity_table c.self.inside c.args.self.now end c.self.view_is c.in-Some.is)) written
