use Rattle.vpf_library_files.proofs.loading.CountLemmas.{counted_both, named_before}
use Rattle.vpf_library_files.proofs.loading.loading.loaded.LoadedTables.append.Goals as goal

pub invariant_of-self-2 : goal.invariant_of-self-2
invariant_of-self-2 c = record {
  counted = rw (c.in_ok-append.ensures.items, c.in_ok-append-2.ensures.items, c.in_ok-reserve.ensures.items)
      (counted_both c.self.inside.files.items c.tables.inside.files.items c.self.inside.counts.items c.tables.inside.counts.items c.self.invariant.counted c.tables.invariant.counted);
  named = rw c.in_ok-append.ensures.items (named_before c.self.inside.files.items c.tables.inside.files.items c.self.inside.paths c.self.invariant.named);
}
