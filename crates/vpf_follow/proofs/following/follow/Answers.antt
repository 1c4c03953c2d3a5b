use Rattle.std.proofs.Common.{◌≡◌, ◌<◌, ◌^◌, Option, None, Some, sym, ap, ◌∙◌, arith}
use Rattle.vpf_wing.specs.Links.{links_of, link_of}
use Rattle.vpf_prims.specs.Libraries.{library_of}
use Rattle.vpf_follow.specs.Following.{face_beyond, follow_links}
use Rattle.vpf_follow.specs.Inner.Rows.{row_node, row_wing}
use Rattle.vpf_follow.proofs.RowLemmas.{follow_is, row_there}
use Rattle.vpf_follow.proofs.following.follow.Goals as goal

none_some : {A : Type 0} {o : Option A} {x : A} → None ≡ o → o ≡ Some x → ⊥
none_some none some = cc

pub returns-in_err-row : goal.returns-in_err-row
returns-in_err-row c =
    let few : c.args.dart.edge < 2 ^ 32 = omega arith in
    let there = row_there (library_of c.args.coverage.now) c.args.dart.tile c.args.dart.edge c.args.dart.minus few c.requires in
    let none = c.in_err-row.ensures in
    absurd (none_some none there)

pub returns : goal.returns
returns c =
    let few : c.args.dart.edge < 2 ^ 32 = omega arith in
    let L = library_of c.args.coverage.now in
    let t = c.args.dart.tile in
    let m = c.args.dart.minus in
    let is = follow_is L t c.args.dart.edge m c.in_ok-row.row few (sym c.in_ok-row.ensures) in
    c.linked_dart.ensures
    ∙ ap (λ w. follow_links (links_of L) t (link_of w) (link_of c.head_node-node.result) c.face_name-name.result) c.wing-wing.ensures
    ∙ ap (λ v. follow_links (links_of L) t (link_of (row_wing m c.in_ok-row.row)) (link_of v) c.face_name-name.result) c.head_node-node.ensures
    ∙ ap (follow_links (links_of L) t (link_of (row_wing m c.in_ok-row.row)) (link_of (row_node m c.in_ok-row.row)))
    (c.face_name-name.ensures ∙ ap (λ f. face_beyond t (link_of f)) c.face.ensures)
    ∙ sym is
