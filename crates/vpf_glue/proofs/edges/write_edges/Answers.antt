use Rattle.std.proofs.Common.{◌≡◌, ℕ, List, false, true, map, ap, ◌∙◌, subst, arith}
use Rattle.std.proofs.lemmas.List.Elements.{All-get_or}
use Rattle.vpf_darts.specs.declared.darts.TileDart.{TileDart}
use Rattle.vpf_darts.specs.Darts.{tile_dart_code}
use Rattle.vpf_head.specs.Head.{Head}
use Rattle.vpf_prims.specs.Libraries.{library_of}
use Rattle.vpf_tiling.specs.Ranks.{numbered}
use Rattle.vpf_wing.specs.Links.{links_of}
use Rattle.vpf_follow.specs.Following.{is_home}
use Rattle.vpf_write.specs.Writing.{Writes}
use Rattle.vpf_primitive_tables.specs.TableForms.Forms.{edge_kinds_of, head_like, table_like}
use Rattle.vpf_primitive_tables.specs.Inner.TableForms.CountedLaws.{numbered-map, put_all, put_more}
use Rattle.vpf_glue.specs.GluedTables.Grids.{glued_edge_row}
use Rattle.vpf_triplet.specs.declared.kinds.Kind.{Kind}
use Rattle.vpf_triplet.specs.declared.kinds.Kind.TheVariants.{I}
use Rattle.vpf_glue.proofs.edges.write_edges.Goals as goal

pub loop-k-init : goal.loop-k-init
loop-k-init c = record {
  head = c.in_ok-made.ensures.head ∙ ap (λ (kind : Kind). head_like c.args.form.now.table (edge_kinds_of kind)) c.requires.ids;
  put = c.in_ok-made.ensures.holds;
}

pub put_edge-requires-clause-home : goal.put_edge-requires-clause-home
put_edge-requires-clause-home c =
    All-get_or (λ (d : TileDart). is_home (links_of (library_of c.args.edges.now)) (tile_dart_code d) ≡ true) c.edges-darts.result.now c.loop-k.k
    (record { tile = 0; edge = 0; minus = false }) (omega arith) c.edges-darts.ensures.each

pub loop-k-preserved : goal.loop-k-preserved
loop-k-preserved c = record {
  head = c.in_ok-put_edge.ensures.head ∙ c.loop-k.invariant.head;
  put = put_more c.loop-k.made c.put_edge.new.made (λ (k : ℕ) (d : TileDart). glued_edge_row c.args.form.now.table.head.columns c.args.edges.now k (tile_dart_code d))
      c.edges-darts.result.now c.loop-k.k (record { tile = 0; edge = 0; minus = false }) (omega arith) c.in_ok-put_edge.ensures.put c.loop-k.invariant.put;
}

pub returns : goal.returns
returns c =
    let f = glued_edge_row c.args.form.now.table.head.columns c.args.edges.now in
    let darts = c.edges-darts.result.now in
    let done = put_all c.loop-k.made (λ (k : ℕ) (d : TileDart). glued_edge_row c.args.form.now.table.head.columns c.args.edges.now k (tile_dart_code d)) c.edges-darts.result.now c.loop-k.k (omega arith) c.loop-k.invariant.put in
    let written = c.finish.ensures.written (numbered f (map tile_dart_code darts)) (rw (numbered-map f tile_dart_code darts) done) in
    subst (λ (ds : List ℕ). Writes (table_like c.args.form.now.table (edge_kinds_of I) (numbered (glued_edge_row c.args.form.now.table.head.columns c.args.edges.now) ds)) c.finish.result) c.edges-darts.ensures.edges
    (subst (λ (h : Head). Writes (record { head = h; rows = numbered (glued_edge_row c.args.form.now.table.head.columns c.args.edges.now) (map tile_dart_code c.edges-darts.result.now) }) c.finish.result) c.loop-k.invariant.head written)
