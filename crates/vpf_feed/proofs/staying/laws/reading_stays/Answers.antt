use Rattle.vpf_feed.proofs.staying.Staying.{header_goes_on, header_stays_refused, cell_goes_on, cell_stays_refused}
use Rattle.vpf_feed.proofs.staying.laws.reading_stays.Goals as goal

pub returns-clause-header : goal.returns-clause-header
returns-clause-header c = header_goes_on c.cells_and_headers.ensures

pub returns-clause-refused_header : goal.returns-clause-refused_header
returns-clause-refused_header c = header_stays_refused c.cells_and_headers.ensures

pub returns-clause-cell : goal.returns-clause-cell
returns-clause-cell c = cell_goes_on c.cells_and_headers.ensures

pub returns-clause-refused_cell : goal.returns-clause-refused_cell
returns-clause-refused_cell c = cell_stays_refused c.cells_and_headers.ensures
