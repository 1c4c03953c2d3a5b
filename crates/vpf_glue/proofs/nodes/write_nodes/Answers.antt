use Rattle.std.proofs.Common.{◌≡◌, ℕ, ◌+◌, ◌<◌, ◌≤◌, List, Some, false, true, codes, get_or, length, map, sym, ap, ◌∙◌, subst, arith}
use Rattle.std.proofs.lemmas.List.{length-map}
use Rattle.std.proofs.lemmas.List.Elements.{All-get_or}
use Rattle.std.proofs.lemmas.List.FromFn.{get_or-map-range_with_len, length-map-range_with_len}
use Rattle.std.specs.Prelude.{All, slice_index_or}
use Rattle.std.specs.List.{range_with_len}
use Rattle.vpf_base.specs.Limits.{most_rows}
use Rattle.vpf_darts.specs.declared.darts.TileDart.{TileDart}
use Rattle.vpf_darts.specs.Darts.{tile_dart_code, tile_in}
use Rattle.vpf_head.specs.Head.{Head}
use Rattle.vpf_prims.specs.Coverages.{CoverageTables}
use Rattle.vpf_prims.specs.Libraries.{library_of}
use Rattle.vpf_prims.specs.Reading.{PrimitiveTables}
use Rattle.vpf_write.specs.Revise.Revising.{FitsElsewhere}
use Rattle.vpf_tiling.specs.Ranks.{numbered}
use Rattle.vpf_tiling.specs.Tiles.{first_edge_at}
use Rattle.vpf_wing.specs.Links.{links_of, tail_node}
use Rattle.vpf_follow.specs.Following.{is_home}
use Rattle.vpf_write.specs.Writing.{Writes}
use Rattle.vpf_renumbering.specs.Glued.{first_darts, glued_edges}
use Rattle.vpf_primitive_tables.specs.TableForms.Forms.{head_like, pair_kinds, pair_values, table_like}
use Rattle.vpf_primitive_tables.specs.Inner.TableForms.CountedLaws.{numbered-map, put_all, put_more}
use Rattle.vpf_glue.specs.GluedTables.Grids.{glued_node_row, row_in, whole_in}
use Rattle.vpf_glue.specs.Inner.Sources.{IsOfTile}
use Rattle.vpf_glue.proofs.nodes.write_nodes.Goals as goal

pub loop-k-init : goal.loop-k-init
loop-k-init c = record {
  head = c.in_ok-made.ensures.head ∙ ap (λ (name : List ℕ). head_like c.args.form.now.table (pair_kinds name)) c.requires.name;
  put = c.in_ok-made.ensures.holds;
}

pub node_row-row-requires : goal.node_row-row-requires
node_row-row-requires c =
    subst (λ (v : CoverageTables). is_home (links_of (library_of v)) (tile_dart_code (get_or c.nodes-darts.result.now c.loop-k.k (record { tile = 0; edge = 0; minus = false }))) ≡ true) (sym c.checked_of.ensures)
    (All-get_or (λ (d : TileDart). is_home (links_of (library_of c.args.edges.now)) (tile_dart_code d) ≡ true) c.nodes-darts.result.now c.loop-k.k
    (record { tile = 0; edge = 0; minus = false }) (omega arith) c.nodes-darts.ensures.each)

-- there is a first edge for each node
edges_many : (c : CoverageTables) (darts : List TileDart) (firsts : List ℕ) → map tile_dart_code darts ≡ first_darts (whole_in c)
    → firsts ≡ map (λ k. first_edge_at k (glued_edges (whole_in c))) (range_with_len 1 (length (first_darts (whole_in c)))) → length firsts ≡ length darts
edges_many c darts firsts nodes is =
    ap (λ (xs : List ℕ). length xs) is ∙ length-map-range_with_len (λ k. first_edge_at k (glued_edges (whole_in c))) 1 (length (first_darts (whole_in c)))
    ∙ ap (λ (xs : List ℕ). length xs) (sym nodes) ∙ length-map darts tile_dart_code

first_at : (c : CoverageTables) (firsts : List ℕ) (k d : ℕ) → k < length (first_darts (whole_in c))
    → firsts ≡ map (λ k. first_edge_at k (glued_edges (whole_in c))) (range_with_len 1 (length (first_darts (whole_in c))))
    → get_or firsts k d ≡ first_edge_at (k + 1) (glued_edges (whole_in c))
first_at c firsts k d lt is =
    ap (λ (xs : List ℕ). get_or xs k d) is
    ∙ get_or-map-range_with_len (λ k. first_edge_at k (glued_edges (whole_in c))) 1 (length (first_darts (whole_in c))) k (k + 1) d lt (omega arith)

pub bounds-firsts-k : goal.bounds-firsts-k
bounds-firsts-k c =
    let many : length c.as_slice-firsts.result.now ≡ length c.nodes-darts.result.now =
    edges_many c.args.edges.now c.nodes-darts.result.now c.as_slice-firsts.result.now c.nodes-darts.ensures.nodes (c.as_slice-firsts.ensures.value ∙ c.in_ok-first_edges.ensures.firsts) in
    omega arith

pub put-requires-clause-head : goal.put-requires-clause-head
put-requires-clause-head c = c.loop-k.invariant.head ∙ ap (λ (name : List ℕ). head_like c.args.form.now.table (pair_kinds name)) (sym c.requires.name)

pub put-requires-clause-reference : goal.put-requires-clause-reference
put-requires-clause-reference c =
    let many : length c.as_slice-firsts.result.now ≡ length c.nodes-darts.result.now =
    edges_many c.args.edges.now c.nodes-darts.result.now c.as_slice-firsts.result.now c.nodes-darts.ensures.nodes (c.as_slice-firsts.ensures.value ∙ c.in_ok-first_edges.ensures.firsts) in
    let small : get_or c.as_slice-firsts.result.now c.loop-k.k 0 ≤ most_rows =
    All-get_or (λ (n : ℕ). n ≤ most_rows) c.as_slice-firsts.result.now c.loop-k.k 0 (omega arith)
    (subst (All (λ (n : ℕ). n ≤ most_rows)) (sym c.as_slice-firsts.ensures.value) c.in_ok-first_edges.ensures.few) in
    omega arith

pub put-requires-clause-others : goal.put-requires-clause-others
put-requires-clause-others c =
    let of = subst (λ (v : CoverageTables). IsOfTile (λ (T : PrimitiveTables). Some T.cnd) v c.args.form.now.table) (sym c.checked_of.ensures) c.requires.like in
    let n = slice_index_or c.as_slice-firsts.result.now c.loop-k.k 0 in
    subst (λ (name : List ℕ). FitsElsewhere (pair_values name c.args.form.now.table.head.columns (c.loop-k.k + 1) (slice_index_or c.as_slice-firsts.result.now c.loop-k.k 0)) c.loop-k.made.head.columns c.node_row-row.result) (sym c.requires.name)
    (subst (λ (h : Head). FitsElsewhere (pair_values (codes "first_edge") c.args.form.now.table.head.columns (c.loop-k.k + 1) (slice_index_or c.as_slice-firsts.result.now c.loop-k.k 0)) h.columns c.node_row-row.result)
    (sym c.loop-k.invariant.head) (c.node_row-row.ensures.fits c.args.form.now.table of (c.loop-k.k + 1) n))

pub loop-k-preserved : goal.loop-k-preserved
loop-k-preserved c = record {
  head = c.in_ok-put.ensures.head ∙ c.loop-k.invariant.head;
  put =
      let firsts = c.as_slice-firsts.ensures.value ∙ c.in_ok-first_edges.ensures.firsts in
      let few : c.loop-k.k < length (first_darts (whole_in c.args.edges.now)) =
      omega (arith, sym (length-map c.nodes-darts.result.now tile_dart_code) ∙ ap (λ (xs : List ℕ). length xs) c.nodes-darts.ensures.nodes) in
      let named = first_at c.args.edges.now c.as_slice-firsts.result.now c.loop-k.k 0 few firsts in
      let x = tile_dart_code (get_or c.nodes-darts.result.now c.loop-k.k (record { tile = 0; edge = 0; minus = false })) in
      let row = c.node_row-row.ensures.row ∙ ap (λ (v : CoverageTables). row_in (λ (T : PrimitiveTables). T.cnd) v (tile_in x) (tail_node (links_of (library_of v)) x)) c.checked_of.ensures in
      let put = rw (c.requires.name, named, row) at c.in_ok-put.ensures.put in
      put_more c.loop-k.made c.put.new.made (λ (k : ℕ) (d : TileDart). glued_node_row c.args.form.now.table.head.columns c.args.edges.now k (tile_dart_code d))
      c.nodes-darts.result.now c.loop-k.k (record { tile = 0; edge = 0; minus = false }) (omega arith) put c.loop-k.invariant.put;
}

pub returns : goal.returns
returns c =
    let f = glued_node_row c.args.form.now.table.head.columns c.args.edges.now in
    let darts = c.nodes-darts.result.now in
    let done = put_all c.loop-k.made (λ (k : ℕ) (d : TileDart). glued_node_row c.args.form.now.table.head.columns c.args.edges.now k (tile_dart_code d)) c.nodes-darts.result.now c.loop-k.k (omega arith) c.loop-k.invariant.put in
    let written = c.finish.ensures.written (numbered f (map tile_dart_code darts)) (rw (numbered-map f tile_dart_code darts) done) in
    subst (λ (ds : List ℕ). Writes (table_like c.args.form.now.table (pair_kinds (codes "first_edge")) (numbered (glued_node_row c.args.form.now.table.head.columns c.args.edges.now) ds)) c.finish.result) c.nodes-darts.ensures.nodes
    (subst (λ (h : Head). Writes (record { head = h; rows = numbered (glued_node_row c.args.form.now.table.head.columns c.args.edges.now) (map tile_dart_code c.nodes-darts.result.now) }) c.finish.result) c.loop-k.invariant.head written)
