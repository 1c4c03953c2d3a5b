-- A library that agrees can be traced.
use Rattle.vpf_darts.specs.Inner.Laws.{RemainderHasListing, RemovalLeavesAMap}
use Rattle.vpf_cross.specs.VpfFollowLaws.{HomesExist}
use Rattle.vpf_trace.specs.Inner.Laws.{LibraryHasKept, LibraryHasLines, LibraryHasMap, LibraryHasTrace, UntiledMapIsOfWings}
use Rattle.vpf_trace.proofs.UntiledLemmas.{untiled_same}
use Rattle.vpf_trace.proofs.LineLemmas.{library_has_kept, library_has_lines, library_has_trace}
use Rattle.vpf_trace.specs.Inner.LineLaws.{library_is_map}
use Rattle.vpf_trace.specs.Inner.AgreeLaws.{agreeing_traceable, agreeing_untiled}

-- ---- the laws

pub has_map : HomesExist → LibraryHasMap
has_map law L a = library_is_map law L (agreeing_traceable L a)

pub untiled_wings : UntiledMapIsOfWings
untiled_wings L a un = untiled_same L (agreeing_untiled L a un)

pub has_lines : HomesExist → LibraryHasLines
has_lines law L a = library_has_lines law L (agreeing_traceable L a)

pub has_kept : HomesExist → RemovalLeavesAMap → LibraryHasKept
has_kept law removal L a = library_has_kept law removal L (agreeing_traceable L a)

pub has_trace : HomesExist → RemainderHasListing → LibraryHasTrace
has_trace law some L a = library_has_trace law some L (agreeing_traceable L a)
