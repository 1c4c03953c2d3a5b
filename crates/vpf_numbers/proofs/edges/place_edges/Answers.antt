use Rattle.std.proofs.Common.{◌≡◌, None}
use Rattle.vpf_prims.specs.Columns.{columns_finding}
use Rattle.vpf_prims.specs.Roles.{edge_roles}
use Rattle.vpf_prims.specs.Inner.RowLaws.{or_silent}
use Rattle.vpf_numbers.specs.Around.{columns_in_view}
use Rattle.vpf_numbers.specs.ColumnLines.{beside_finding, roles_finding}
use Rattle.vpf_numbers.proofs.TableLemmas.{roles_placed, tells_none}
use Rattle.vpf_numbers.proofs.edges.place_edges.Goals as goal

pub returns-clause-first : goal.returns-clause-first
returns-clause-first c =
    let at = c.args.at in
    let columns = c.args.header.now.columns in
    let model = columns_in_view c.args.model in
    let roles : roles_finding at columns model edge_roles ≡ None = rw c.edge_roles.ensures at c.in_ok-check_roles.ensures in
    let beside : beside_finding at edge_roles columns model ≡ None = rw c.edge_roles-2.ensures at c.in_ok-check_beside.ensures in
    tells_none c.place.result (columns_finding at columns edge_roles) _ (roles_placed at columns model edge_roles roles) (or_silent (roles_finding at columns model edge_roles) (beside_finding at edge_roles columns model) roles beside) c.place.ensures.first
