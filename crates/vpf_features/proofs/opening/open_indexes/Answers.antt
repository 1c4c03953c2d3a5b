use Rattle.std.proofs.Common.{◌≡◌, ◌∙◌, length, arith}
use Rattle.std.specs.Option.{option_map}
use Rattle.vpf_features.specs.Inner.Views.{index_seen}
use Rattle.vpf_features.proofs.FileLemmas.{index_here, indexes_whole, one_more}
use Rattle.vpf_features.proofs.opening.open_indexes.Goals as goal

pub open_optional_index-requires : goal.open_optional_index-requires
open_optional_index-requires c =
    let r = index_here c.args.order c.loop-file.file-index c.requires.0 c.args.files.now c.file-item.result _ c.requires.1 c.loop-file-test.true c.file-item.is in
    (r.0, r.1)

pub loop-file-preserved : goal.loop-file-preserved
loop-file-preserved c = λ indexes h.
    let r = index_here c.args.order c.loop-file.file-index indexes c.args.files.now c.file-item.result _ h c.loop-file-test.true c.file-item.is in
    one_more (option_map index_seen) c.loop-file.file-index c.loop-file.views.items c.push.new.self.items c.open_optional_index.result indexes r.0 c.in_ok-push.ensures.items
    (c.loop-file.invariant indexes h) (c.open_optional_index.ensures r.0 r.1) r.2

pub returns : goal.returns
returns c = λ indexes h.
    let end : c.loop-file.file-index ≡ length c.args.files.now = omega (arith, c.loop-file-test.false, c.loop-file.auto.file-index-end) in
    c.loop-file.invariant indexes h ∙ indexes_whole c.args.order c.loop-file.file-index indexes c.args.files.now h end
