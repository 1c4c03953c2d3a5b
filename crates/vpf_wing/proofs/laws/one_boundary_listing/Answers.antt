use Rattle.std.proofs.Common.{◌+◌, ◌*◌, length, map}
use Rattle.vpf_wing.specs.Boundaries.{table_edges, map_of}
use Rattle.vpf_wing.proofs.MapLemmas.{inside}
use Rattle.vpf_wing.proofs.GridLemmas.{no_findings, edges_are_map}
use Rattle.vpf_wing.proofs.UniqueLemmas.{dart_of, same_lists, numbers_all_back, all_untiled}
use Rattle.vpf_wing.proofs.laws.one_boundary_listing.Goals as goal

pub returns-clause-map : goal.returns-clause-map
returns-clause-map c = λ grid none. edges_are_map c.rows_have_wings.ensures grid (no_findings grid none)

pub returns-clause-some : goal.returns-clause-some
returns-clause-some c = λ grid none.
    let edges = table_edges grid in
    let n = 2 * length edges in
    let found = c.one_listing.ensures.some (map_of edges) (n + 2) (edges_are_map c.rows_have_wings.ensures grid (no_findings grid none)) (λ d live. (inside n d live).1) in
    let lists = map (map dart_of) found.0 in
    (lists, record { listing = rw (numbers_all_back found.0) found.1; untiled = all_untiled found.0 })

pub returns-clause-one : goal.returns-clause-one
returns-clause-one c = λ grid xs ys hx hy. same_lists xs ys hx.untiled hy.untiled (c.one_listing.ensures.one _ _ _ _ hx.listing hy.listing)
