-- What is known of tables that are still to be opened.
use Rattle.std.specs.Prelude.{IfSome}
use Rattle.vpf_library_files.specs.Inner.Loading.Counting.{AreCounted, IsFirstNamed}
use Rattle.vpf_coverage.specs.declared.opening.tables.Unopened.TheInside.{Inside}

-- their rows were counted so, and the first names these paths
pub record AreKnown (u : Inside) : Type 0 where
  pub counted : IfSome u.counts (λ counts. AreCounted u.files.now counts.now)
  pub named : IfSome u.paths (λ paths. IsFirstNamed u.files.now paths.now)
