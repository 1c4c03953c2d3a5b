use Rattle.std.proofs.lemmas.List.FromFn.{length-map-range_with_len}
use Rattle.vpf_theme.proofs.view.ThemeView.find.Goals as goal

pub returns-in_err-i-clause-sorted : goal.returns-in_err-i-clause-sorted
returns-in_err-i-clause-sorted g c = rw (← c.self.view_is, length-map-range_with_len) c.find_place.ensures.sorted

pub returns-in_err-i-clause-plain : goal.returns-in_err-i-clause-plain
returns-in_err-i-clause-plain g c = rw (← c.self.view_is, length-map-range_with_len) c.find_place.ensures.plain

pub returns-clause-sorted : goal.returns-clause-sorted
returns-clause-sorted g c = rw (← c.self.view_is, length-map-range_with_len) c.find_place.ensures.sorted

pub returns-clause-plain : goal.returns-clause-plain
returns-clause-plain g c = rw (← c.self.view_is, length-map-range_with_len) c.find_place.ensures.plain
