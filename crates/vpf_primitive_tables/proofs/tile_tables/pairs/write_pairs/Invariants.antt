use Rattle.std.proofs.Common.{◌≡◌, ℕ, [], take}
use Rattle.vpf_prims.specs.Lists.{kth}
use Rattle.vpf_write.specs.Revise.Revising.{revised}
use Rattle.vpf_tiling.specs.Ranks.{numbered}
use Rattle.vpf_write.specs.Inner.Tallies.{Holds}
use Rattle.vpf_primitive_tables.specs.TableForms.Forms.{head_like, pair_kinds, pair_values}
use Rattle.vpf_primitive_tables.proofs.tile_tables.pairs.write_pairs.Given as goal

abbrev pub invariant-loop-k : goal.invariant-loop-k
invariant-loop-k l = record {
  head : l.made.head ≡ head_like l.form.table (pair_kinds l.form.name);
  put : (names : ℕ → ℕ → ℕ) → l.references ≡ numbered names l.sources
      → Holds l.made (numbered (λ k s. revised (pair_values l.form.name l.form.table.head.columns k (names k s)) (kth l.form.table.rows s [])) (take l.k l.sources));
}
