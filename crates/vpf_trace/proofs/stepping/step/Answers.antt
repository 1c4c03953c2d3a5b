use Rattle.std.proofs.Common.{sym, ◌∙◌}
use Rattle.vpf_darts.specs.Darts.{tile_dart_code}
use Rattle.vpf_prims.specs.Libraries.{library_of}
use Rattle.vpf_trace.proofs.LineLemmas.{library_has_lines}
use Rattle.vpf_trace.specs.Inner.LineLaws.{library_is_map}
use Rattle.vpf_trace.proofs.WalkLemmas.{kept_parts, next_is_kept, passed_is}
use Rattle.vpf_trace.proofs.stepping.step.Goals as goal

pub invariant_of-next_kept : goal.invariant_of-next_kept
invariant_of-next_kept c = record {
  traceable = c.walks_pass_lines.ensures;
  lines = library_has_lines c.homes_exist.ensures (library_of c.args.checked.now) c.walks_pass_lines.ensures;
}

pub next_kept-requires-clause-map : goal.next_kept-requires-clause-map
next_kept-requires-clause-map c = library_is_map c.homes_exist.ensures (library_of c.args.checked.now) c.walks_pass_lines.ensures

pub next_kept-requires-clause-edges : goal.next_kept-requires-clause-edges
next_kept-requires-clause-edges c = (library_has_lines c.homes_exist.ensures (library_of c.args.checked.now) c.walks_pass_lines.ensures).edges

pub next_kept-requires-clause-has : goal.next_kept-requires-clause-has
next_kept-requires-clause-has c = (kept_parts (library_of c.args.checked.now) (tile_dart_code c.args.dart) c.requires).home

pub next_kept-requires-clause-kept : goal.next_kept-requires-clause-kept
next_kept-requires-clause-kept c =
    let L = library_of c.args.checked.now in
    let d = tile_dart_code c.args.dart in
    let p = kept_parts (library_of c.args.checked.now) (tile_dart_code c.args.dart) c.requires in
    sym (passed_is c.homes_exist.ensures L c.walks_pass_lines.ensures d p.home) ∙ p.unmarked

pub returns-clause-kept : goal.returns-clause-kept
returns-clause-kept c =
    next_is_kept c.homes_exist.ensures (library_of c.args.checked.now) c.walks_pass_lines.ensures (tile_dart_code c.args.dart) (tile_dart_code c.next_kept.result) c.requires
    c.next_kept.ensures.next
