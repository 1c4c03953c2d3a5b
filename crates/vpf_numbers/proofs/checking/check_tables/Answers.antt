use Rattle.std.proofs.Common.{◌≡◌, None}
use Rattle.std.proofs.lemmas.Result.{err_from_is_err_and}
use Rattle.vpf_prims.specs.Tables.{TileTables}
use Rattle.vpf_prims.specs.Inner.Views.{tables_in_view}
use Rattle.vpf_prims.specs.Inner.RowLaws.{or_later, or_silent}
use Rattle.vpf_findings.specs.Inner.FirstLaws.{or_first}
use Rattle.vpf_numbers.specs.TableLines.{cnd_finding, edg_finding, fac_finding, numbers_finding, rng_finding}
use Rattle.vpf_numbers.proofs.NumbersOwning.{tables_own}
use Rattle.vpf_numbers.proofs.checking.check_tables.Goals as goal

pub returns-in_err-first_edge-clause-first : goal.returns-in_err-first_edge-clause-first
unfolding numbers_finding
returns-in_err-first_edge-clause-first c =
    let n = c.args.number in
    let A = c.args.around.now in
    let T : TileTables = record { first = c.args.first; tables = tables_in_view c.args.views.now } in
    let at = c.places_of-at.ensures in
    let edg : edg_finding n A T ≡ None = rw (at.edg, c.len.ensures.value, c.len-2.ensures.value, c.len-3.ensures.value) at c.in_ok-edges.ensures.first in
    let fac : fac_finding n A T ≡ None = rw (at.fac, c.len-rings.ensures.value, c.fac.ensures) at c.in_ok-ring_ptr.ensures.first in
    let rng : rng_finding n A T ≡ None = rw (at.rng, c.len-2.ensures.value, c.len-3.ensures.value, c.rng.ensures) at c.in_ok-face_id.ensures.first in
    let stop = rw (at.cnd, c.len-3.ensures.value, c.cnd.ensures, c.node_roles.ensures) at c.in_err-first_edge.ensures.first in
    let p = err_from_is_err_and c.from_residual-in_err-first_edge.result c.from_residual-in_err-first_edge.ensures.1 in
    rw (p.1, p.2) (or_later (edg_finding n A T) _ _ edg (or_later (fac_finding n A T) _ _ fac (or_later (rng_finding n A T) _ _ rng (or_first (cnd_finding n A T) _ _ stop))))

pub returns-in_err-containing_face-clause-first : goal.returns-in_err-containing_face-clause-first
unfolding numbers_finding
returns-in_err-containing_face-clause-first c =
    let n = c.args.number in
    let A = c.args.around.now in
    let T : TileTables = record { first = c.args.first; tables = tables_in_view c.args.views.now } in
    let at = c.places_of-at.ensures in
    let edg : edg_finding n A T ≡ None = rw (at.edg, c.len.ensures.value, c.len-2.ensures.value, c.len-3.ensures.value) at c.in_ok-edges.ensures.first in
    let fac : fac_finding n A T ≡ None = rw (at.fac, c.len-rings.ensures.value, c.fac.ensures) at c.in_ok-ring_ptr.ensures.first in
    let rng : rng_finding n A T ≡ None = rw (at.rng, c.len-2.ensures.value, c.len-3.ensures.value, c.rng.ensures) at c.in_ok-face_id.ensures.first in
    let cnd : cnd_finding n A T ≡ None = rw (at.cnd, c.len-3.ensures.value, c.cnd.ensures, c.node_roles.ensures) at c.in_ok-first_edge.ensures.first in
    let stop = rw (at.end, c.len-2.ensures.value, c.end.ensures, c.as_ref.ensures.value) at c.in_err-containing_face.ensures.first in
    let p = err_from_is_err_and c.from_residual-in_err-containing_face.result c.from_residual-in_err-containing_face.ensures.1 in
    rw (p.1, p.2) (or_later (edg_finding n A T) _ _ edg (or_later (fac_finding n A T) _ _ fac (or_later (rng_finding n A T) _ _ rng (or_later (cnd_finding n A T) _ _ cnd stop))))

pub returns-clause-first : goal.returns-clause-first
unfolding numbers_finding
returns-clause-first c =
    let n = c.args.number in
    let A = c.args.around.now in
    let T : TileTables = record { first = c.args.first; tables = tables_in_view c.args.views.now } in
    let at = c.places_of-at.ensures in
    let edg : edg_finding n A T ≡ None = rw (at.edg, c.len.ensures.value, c.len-2.ensures.value, c.len-3.ensures.value) at c.in_ok-edges.ensures.first in
    let fac : fac_finding n A T ≡ None = rw (at.fac, c.len-rings.ensures.value, c.fac.ensures) at c.in_ok-ring_ptr.ensures.first in
    let rng : rng_finding n A T ≡ None = rw (at.rng, c.len-2.ensures.value, c.len-3.ensures.value, c.rng.ensures) at c.in_ok-face_id.ensures.first in
    let cnd : cnd_finding n A T ≡ None = rw (at.cnd, c.len-3.ensures.value, c.cnd.ensures, c.node_roles.ensures) at c.in_ok-first_edge.ensures.first in
    let end = rw (at.end, c.len-2.ensures.value, c.end.ensures, c.as_ref.ensures.value) at c.in_ok-containing_face.ensures.first in
    or_silent (edg_finding n A T) _ edg (or_silent (fac_finding n A T) _ fac (or_silent (rng_finding n A T) _ rng (or_silent (cnd_finding n A T) _ cnd end)))

pub returns-clause-owns : goal.returns-clause-owns
unfolding numbers_finding
returns-clause-owns c =
    let n = c.args.number in
    let A = c.args.around.now in
    let T : TileTables = record { first = c.args.first; tables = tables_in_view c.args.views.now } in
    let at = c.places_of-at.ensures in
    let edg : edg_finding n A T ≡ None = rw (at.edg, c.len.ensures.value, c.len-2.ensures.value, c.len-3.ensures.value) at c.in_ok-edges.ensures.first in
    let fac : fac_finding n A T ≡ None = rw (at.fac, c.len-rings.ensures.value, c.fac.ensures) at c.in_ok-ring_ptr.ensures.first in
    let rng : rng_finding n A T ≡ None = rw (at.rng, c.len-2.ensures.value, c.len-3.ensures.value, c.rng.ensures) at c.in_ok-face_id.ensures.first in
    let cnd : cnd_finding n A T ≡ None = rw (at.cnd, c.len-3.ensures.value, c.cnd.ensures, c.node_roles.ensures) at c.in_ok-first_edge.ensures.first in
    let end = rw (at.end, c.len-2.ensures.value, c.end.ensures, c.as_ref.ensures.value) at c.in_ok-containing_face.ensures.first in
    let none : numbers_finding n A T ≡ None = or_silent (edg_finding n A T) _ edg (or_silent (fac_finding n A T) _ fac (or_silent (rng_finding n A T) _ rng (or_silent (cnd_finding n A T) _ cnd end))) in
    tables_own A n T c.requires.here none
