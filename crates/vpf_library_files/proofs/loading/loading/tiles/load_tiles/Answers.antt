use Rattle.std.proofs.Common.{◌∙◌, ◌+◌, ◌<◌, ◌||◌, length, sym, arith, rules}
use Rattle.std.proofs.lemmas.Result.{err_from_is_err_and}
use Rattle.vpf_base.proofs.Results.{no_ok}
use Rattle.vpf_library_files.specs.declared.loading.loading.LoadStop.TheVariants as stops
use Rattle.vpf_library_files.proofs.loading.TilesLemmas.{tile_more, tiles_done, tiles_stop}
use Rattle.vpf_library_files.proofs.loading.loading.tiles.load_tiles.Goals as goal
use Rattle.vpf_library_files.proofs.loading.loading.tiles.load_tiles.Goals.{else-loop-t-test, then-loop-t-test+in-Some+in_ok-some+else-t-t-end}

pub returns-in_err-some-clause-reads : goal.returns-in_err-some-clause-reads
returns-in_err-some-clause-reads g c =
    let p = err_from_is_err_and c.from_residual.result c.from_residual.ensures.1 in
    let i = c.loop-t.invariant in
    rw (p.1, p.2) (tiles_stop (g.T.Tree.files c.args.tree.now) (g.T.Tree.files c.loop-t.tree) c.args.folder.now c.args.paths.now c.loop-t.t c.in-Some.path.now
    c.args.loaded.now c.loop-t.loaded c.load_folder.new.loaded c.args.tables.now c.loop-t.tables c.loop-t.some c.in_err-some.field-0.0 i.same
    (sym c.in-Some.ensures) i.read c.in_err-some.ensures.reads)

pub loop-t-preserved : goal.loop-t-preserved
loop-t-preserved g c =
    let i = c.loop-t.invariant in
    record {
      read = tile_more (g.T.Tree.files c.args.tree.now) (g.T.Tree.files c.loop-t.tree) c.args.folder.now c.args.paths.now c.loop-t.t c.in-Some.path.now
          c.args.loaded.now c.loop-t.loaded c.load_folder.new.loaded c.args.tables.now c.loop-t.tables c.load_folder.new.tables c.loop-t.some
          c.in_ok-some.field-0 i.same (sym c.in-Some.ensures) i.read c.in_ok-some.ensures.reads;
      from = omega (arith, i.from);
      rising = omega (arith, i.rising, c.load_folder.ensures.only.rising);
      most = c.load_folder.ensures.only.most;
      stood = c.in_ok-some.ensures.only.stood (λ e. no_ok c.in_ok-some.field-0 stops.Fault e) ∙ i.stood;
      same = c.load_folder.ensures.only.files ∙ i.same;
    }

pub returns-clause-reads : goal.returns-clause-reads
returns-clause-reads g c =
    let i = c.loop-t.invariant in
    let told = g.T.Tree.files c.args.tree.now in
    let folder = c.args.folder.now in
    let paths = c.args.paths.now in
    let n0 = c.args.loaded.now in
    let old = c.args.tables.now in
    elim c.loop-t-test.branch [
      | else-loop-t-test w ↦ let past : length paths < c.loop-t.t = omega (arith, w.loop-t-test.false, c.len-t-end.ensures.value) in
          rw (w.some-is, w.tables-is, w.loaded-is) (tiles_done told folder paths c.loop-t.t n0 c.loop-t.loaded old c.loop-t.tables c.loop-t.some past i.read)
      | then-loop-t-test+in-Some+in_ok-some+else-t-t-end w ↦ let past : length paths < c.loop-t.t + 1 = search rules in
          let more = tile_more told (g.T.Tree.files c.loop-t.tree) folder paths c.loop-t.t w.in-Some.path.now n0 c.loop-t.loaded w.load_folder.new.loaded old c.loop-t.tables
          w.load_folder.new.tables c.loop-t.some w.in_ok-some.field-0 i.same (sym w.in-Some.ensures) i.read w.in_ok-some.ensures.reads in
          rw (w.some-is, w.tables-is, w.loaded-is) (tiles_done told folder paths (c.loop-t.t + 1) n0 w.load_folder.new.loaded old w.load_folder.new.tables
          (c.loop-t.some || w.in_ok-some.field-0) past more)
    ]
